-- How a service proceeds as it reads bytes. Idea: the input read so far is a list of ended lines and an unended rest;
-- each step keeps this and the answers to the ended lines.
use Rattle.std.proofs.Common.{◌≡◌, ◌≢◌, ◌==◌, ◌∙◌, ℕ, All, List, [], ◌∷◌, ◌++◌, Option, ap, append-nil, append_assoc, arith, false, if◌then◌else◌, length, length-append, refl, sym, take, true}
use Rattle.std.proofs.{KnownBytes.{Appends-nil, Appends-trans, Consumes-kept, Consumes-trans}, Math.Seq.take-append_seam}
use Rattle.std.proofs.{lemmas.Bool.Decides.nat_tests, lemmas.Grind.{common_steps, flat_map-append}}
use Rattle.std.proofs.lemmas.List.Elements.{All-head, All-nil, All-push, All-tail, All-weaker}
use Rattle.std.proofs.lemmas.List.Splits.{slice_split_at, slice_split_none}
use Rattle.std.specs.{Io.KnownBytes.{Appends, Consumes, Keeps}, List.flat_map}
use Rattle.vecmap_run.specs.{CommandSteps.Entries, Lines.{all_lines, ended_lines, pieces_of, within_limit, without_empty_last}}
use Rattle.vecmap_run.specs.Service.{Answers, AnswersLine, GoesOn, HasNoBreak, HasServed, Serves, Splits}

-- One more line, with its answer.
Answers-more : (old mid new : Entries) (lines : List (List ℕ)) (line text first : List ℕ) → Answers old lines text mid → AnswersLine mid line first new → Answers old (lines ++ line ∷ []) (text ++ first) new
Answers-more old mid new [] line text first (none, same) step =
    (first, [], new, rw none (sym (append-nil first)), rw (← same) step, (refl, refl))
Answers-more old mid new (l ∷ lines) line text first (front, rest, next, whole, answered, others) step =
    (front, rest ++ first, next, rw whole (append_assoc front rest first), answered, Answers-more next mid new lines line rest first others step)

-- One more byte that is not a line break extends the rest.
Splits-more : (input : List ℕ) (lines : List (List ℕ)) (rest : List ℕ) (byte : ℕ) → Splits input lines rest → byte ≢ 10 → Splits (input ++ byte ∷ []) lines (rest ++ byte ∷ [])
Splits-more input lines rest byte splits unbroken = grind (arith, common_steps, append_assoc, All-push)

-- After a line break, the rest is one more line.
Splits-ended : (input : List ℕ) (lines : List (List ℕ)) (rest : List ℕ) → Splits input lines rest → Splits (input ++ 10 ∷ []) (lines ++ rest ∷ []) []
Splits-ended input lines rest splits = grind (arith, common_steps, flat_map-append, append-nil, append_assoc, All-push, All-nil)

-- The same of the test at which the input is cut.
no_cut : (line : List ℕ) → HasNoBreak line → All (λ byte. (byte == 10) ≡ false) line
no_cut line none = All-weaker (λ byte. byte ≢ 10) (λ byte. (byte == 10) ≡ false) (λ byte differs. grind (arith, nat_tests)) line none

-- The pieces of the input are its lines and the rest.
Splits-pieces : (input : List ℕ) (lines : List (List ℕ)) (rest : List ℕ) → Splits input lines rest → pieces_of input ≡ lines ++ rest ∷ []
Splits-pieces input [] rest splits = rw (splits.whole) (slice_split_none (λ b. b == 10) rest (no_cut rest splits.unended))
Splits-pieces input (line ∷ lines) rest splits =
    let others = flat_map (λ line. line ++ 10 ∷ []) lines ++ rest in
    let tail : Splits others lines rest = record { whole = refl; unbroken = All-tail HasNoBreak line lines splits.unbroken; unended = splits.unended } in
    let cut = slice_split_at (λ b. b == 10) line 10 others (no_cut line (All-head HasNoBreak line lines splits.unbroken)) refl in
    let joined : input ≡ line ++ 10 ∷ others = splits.whole ∙ simp append_assoc in
    rw joined (cut ∙ ap (λ l. line ∷ l) (Splits-pieces others lines rest tail))

pub Splits-ended_lines : (input : List ℕ) (lines : List (List ℕ)) (rest : List ℕ) → Splits input lines rest → ended_lines input ≡ lines
Splits-ended_lines input lines rest splits = rw (Splits-pieces input lines rest splits) (ap (λ n. take n (lines ++ rest ∷ [])) (rw length-append (omega arith)) ∙ take-append_seam lines (rest ∷ []))

-- The last piece is a line unless it is empty.
last_piece : (lines : List (List ℕ)) (rest : List ℕ) → without_empty_last (lines ++ rest ∷ []) ≡ (if length rest == 0 then lines else lines ++ rest ∷ [])
last_piece [] rest = refl
last_piece (line ∷ []) rest = grind (arith)
last_piece (line ∷ next ∷ lines) rest = grind (arith, last_piece (next ∷ lines) rest)

-- A service proceeds over no bytes.
pub GoesOn-nil : (line : Option (List ℕ)) (entries : Entries) (written : Option (List ℕ)) → GoesOn line entries [] written written line entries
GoesOn-nil line entries written input text served = ([], Appends-nil written, rw (append-nil, append-nil) served)

-- A service that proceeds over some bytes and then over others proceeds over both.
pub GoesOn-trans : (line mid new : Option (List ℕ)) (entries next last : Entries) (bytes others : List ℕ) (written now later : Option (List ℕ))
    → GoesOn line entries bytes written now mid next → GoesOn mid next others now later new last → GoesOn line entries (bytes ++ others) written later new last
GoesOn-trans line mid new entries next last bytes others written now later first second input text served =
    let (more, wrote, after) = first input text served in
    let (rest, wrote_rest, done) = second (input ++ bytes) (text ++ more) after in
    (more ++ rest, Appends-trans _ _ _ more rest wrote wrote_rest, rw (← append_assoc, ← append_assoc) done)

-- A service proceeds over one more byte of a line.
pub GoesOn-pushed : (line new : Option (List ℕ)) (entries : Entries) (written : Option (List ℕ)) (byte : ℕ) → byte ≢ 10 → ((whole : List ℕ) → line ≡ within_limit whole → new ≡ within_limit (whole ++ byte ∷ [])) → GoesOn line entries (byte ∷ []) written written new entries
GoesOn-pushed line new entries written byte unbroken pushed input text served = grind (arith, common_steps, Appends-nil, Splits-more, append-nil)

-- A service proceeds over a line break if it writes the answer to the line and clears it.
pub GoesOn-answered : (line new : Option (List ℕ)) (entries last : Entries) (written now : Option (List ℕ))
    → ((whole : List ℕ) → line ≡ within_limit whole → (answer : List ℕ) × Appends written now answer × AnswersLine entries whole answer last)
    → new ≡ within_limit [] → GoesOn line entries (10 ∷ []) written now new last
GoesOn-answered line new entries last written now answers cleared input text served =
    let (answer, wrote, step) = answers served.rest served.gathered in (
      answer,
      wrote,
      record {
        lines = served.lines ++ served.rest ∷ [];
        rest = [];
        splits = Splits-ended input served.lines served.rest served.splits;
        gathered = cleared;
        answered = Answers-more _ entries last served.lines served.rest text answer served.answered step;
      },
    )

Splits-all_lines : (input : List ℕ) (lines : List (List ℕ)) (rest : List ℕ) → Splits input lines rest → all_lines input ≡ (if length rest == 0 then lines else lines ++ rest ∷ [])
Splits-all_lines input lines rest splits = rw (Splits-pieces input lines rest splits) (last_piece lines rest)

module _ (line : Option (List ℕ)) (entries : Entries) (input text : List ℕ) (served : HasServed line entries input text) where
  -- If reading fails, the text answers the lines that have ended.
  pub answered_ended : Answers [] (ended_lines input) text entries
  answered_ended = rw (Splits-ended_lines input served.lines served.rest served.splits) served.answered

  -- If the input ends with a line break or is empty, the text answers all lines.
  pub answered_all : (length served.rest == 0) ≡ true → Answers [] (all_lines input) text entries
  answered_all none = rw (Splits-all_lines input served.lines served.rest served.splits, none) served.answered

  -- Otherwise it does once the answer to the rest is appended.
  pub answered_rest : (length served.rest == 0) ≡ false → (answer : List ℕ) (last : Entries) → AnswersLine entries served.rest answer last → Answers [] (all_lines input) (text ++ answer) last
  answered_rest some answer last step = rw (Splits-all_lines input served.lines served.rest served.splits, some) (Answers-more _ entries last served.lines served.rest text answer served.answered step)

-- What a service has read since it began, and what it has written for it.
abbrev pub Since : Option (List ℕ) → Option (List ℕ) → Option (List ℕ) → Option (List ℕ) → Option (List ℕ) → Entries → Type 0
Since unread left written now line entries = (input text : List ℕ) × Consumes unread left input × Appends written now text × HasServed line entries input text

module _ (unread left rest written now : Option (List ℕ)) (line : Option (List ℕ)) (entries : Entries) (since : Since unread left written now line entries) where
  -- Nothing more is read.
  pub Since-kept : Keeps left rest → Since unread rest written now line entries
  Since-kept keeps = let (input, text, read, wrote, served) = since in (input, text, Consumes-kept unread left rest input read keeps, wrote, served)

  -- More bytes are read, and the service proceeds over them.
  pub Since-more : (later new : Option (List ℕ)) (last : Entries) (bytes : List ℕ) → Consumes left rest bytes → GoesOn line entries bytes now later new last → Since unread rest written later new last
  Since-more later new last bytes taken goes_on =
      let (input, text, read, wrote, served) = since in
      let (more, wrote_more, done) = goes_on input text served in
      (input ++ bytes, text ++ more, Consumes-trans unread left rest input bytes read taken, Appends-trans written now later text more wrote wrote_more, done)

  -- Reading fails.
  pub Serves-ended : Keeps left rest → Serves ended_lines unread rest written now
  Serves-ended keeps =
      let (input, text, read, wrote, served) = Since-kept keeps in
      (input, text, entries, read, answered_ended line entries input text served, wrote)

  -- The input ends.
  pub Serves-all : Consumes left rest [] → (later : Option (List ℕ)) (last : Entries)
      → ((input text : List ℕ) → HasServed line entries input text → (more : List ℕ) × Appends now later more × Answers [] (all_lines input) (text ++ more) last)
      → Serves all_lines unread rest written later
  Serves-all ends later last finish =
      let (input, text, read, wrote, served) = since in
      let (more, wrote_more, answers) = finish input text served in
      (input, text ++ more, last, rw append-nil at (Consumes-trans unread left rest input [] read ends), answers, Appends-trans written now later text more wrote wrote_more)
