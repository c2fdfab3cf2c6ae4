-- What the program writes for what it reads.
use Rattle.std.specs.{Prelude.{◌≡◌, ◌≢◌, ℕ, ◌⊎◌, All, List, [], ◌∷◌, ◌++◌, Option}, Io.KnownBytes.{Appends, Consumes}, List.flat_map}
use Rattle.vecmap_run.specs.{CommandSteps.{Entries, Step}, Grammar.Says, Lines.within_limit, Print.printed, declared.answer.Answer.{Answer, TheVariants.Fault}}
use Rattle.vecmap_run.specs.declared.command.Command.{Command}

-- It answers the command of the line, or is `Fault` if the line is no command.
-- This answer is allowed for the line, and it changes `old` to `new`.
abbrev pub MayAnswer : Entries → List ℕ → Answer → Entries → Type 0
MayAnswer old line answer new =
    ((said : Command) × Says said line × Step old said answer new)
    ⊎ (((said : Command) → Says said line → ⊥) × (answer ≡ Fault) × (new ≡ old))

-- Example: of `len⏎` on the empty map: `0⏎`.
-- The text is an allowed answer for the line, and a line break (10).
abbrev pub AnswersLine : Entries → List ℕ → List ℕ → Entries → Type 0
AnswersLine old line text new = (answer : Answer) × MayAnswer old line answer new × (text ≡ printed answer new ++ 10 ∷ [])

-- The text answers the lines in order, and they change `old` to `new`.
abbrev pub Answers : Entries → List (List ℕ) → List ℕ → Entries → Type 0
Answers old [] text new = (text ≡ []) × (new ≡ old)
Answers old (line ∷ lines) text new =
    (first rest : List ℕ) × (next : Entries) × (text ≡ first ++ rest) × AnswersLine old line first next × Answers next lines rest new

-- Some input was read, and the text that was written answers its lines, beginning with an empty map.
abbrev pub Serves : (List ℕ → List (List ℕ)) → Option (List ℕ) → Option (List ℕ) → Option (List ℕ) → Option (List ℕ) → Type 0
Serves lines_of unread left written now =
    (input text : List ℕ) × (entries : Entries)
    × Consumes unread left input × Answers [] (lines_of input) text entries × Appends written now text

-- No byte of the line is a line break.
abbrev pub HasNoBreak : List ℕ → Type 0
HasNoBreak line = All (λ byte. byte ≢ 10) line

-- The input is these lines, each with a line break (10) after it, and then a rest without a line break.
pub record Splits (input : List ℕ) (lines : List (List ℕ)) (rest : List ℕ) : Type 0 where
  pub whole : input ≡ flat_map (λ line. line ++ 10 ∷ []) lines ++ rest
  pub unbroken : All HasNoBreak lines
  pub unended : HasNoBreak rest

-- It keeps the unended line, and the text answers the lines before it.
-- A service that has read this input and written this text.
pub record HasServed (line : Option (List ℕ)) (entries : Entries) (input text : List ℕ) : Type 0 where
  pub lines : List (List ℕ)
  pub rest : List ℕ
  pub splits : Splits input lines rest
  pub gathered : line ≡ within_limit rest
  pub answered : Answers [] lines text entries

-- A service that reads these bytes gets the new line and entries, and appends its answers to what was written.
abbrev pub GoesOn : Option (List ℕ) → Entries → List ℕ → Option (List ℕ) → Option (List ℕ) → Option (List ℕ) → Entries → Type 0
GoesOn line entries bytes written now new_line new_entries =
    (input text : List ℕ) → HasServed line entries input text
    → (more : List ℕ) × Appends written now more × HasServed new_line new_entries (input ++ bytes) (text ++ more)
