-- How std's methods of text read the words of a line. Idea: no word of a command has a space, so `split_once` cuts a
-- line exactly where the grammar does.
use Rattle.std.proofs.{Common.{ℤ, ◌≡◌, ◌==◌, ◌≢◌, ◌^◌, ◌<◌, ◌≤◌, ℕ, Bool, Bor, IfNone, IfSome, List, [], ◌∷◌, ◌++◌}, lemmas.Bool.and_parts}
use Rattle.std.proofs.Common.{None, Ok, Option, Result, Some, false, get_or, length, neg_ℤ, not, pos, suc, true, zero}
use Rattle.std.proofs.{Common.{◌∙◌, ap, arith, length-append, lit<, refl, rules, subst, sym}, Math.Seq.get_or-append_seam}
use Rattle.std.proofs.{lemmas.Bool.Decides.nat_tests, lemmas.List.Folds.list_all_at, lemmas.Slice.Eq.bytes_eq-Decides}
use Rattle.std.proofs.{lemmas.Str.Pattern.{IsSplitOnceResult, split_after, split_parts}, lemmas.Option.{cond_some, none-some}}
use Rattle.std.proofs.{lemmas.Str.{Ascii.IsAscii-cons, IsAscii-append}, lemmas.Str.Parse.{IsNumeralModel, digits_value_short, numerals_by_value, parse_gives}}
use Rattle.std.specs.{Prelude.{bytes_eq, codes, if◌then◌else◌}, Char.{is_ascii_digit, is_ascii_graphic}, List.list_all, Str.IsAscii}
use Rattle.std.specs.{Option.option_map, Str.Parse.{ParsesUnsigned, digits_value}}
use Rattle.vecmap_run.specs.declared.command.Command.{Command}
use Rattle.vecmap_run.specs.declared.command.Command.TheVariants as command
use Rattle.vecmap_run.specs.Grammar.{HasArguments, IsPair, IsPairAt, Says, is_key, is_key_byte, is_number, name_of, number_of, value_of}

-- std reads digits as the grammar does.
digits : IsNumeralModel (λ ds. list_all is_ascii_digit ds ≡ true) (digits_value 10)
digits = numerals_by_value _ (search rules)

-- A word that passes the test of a number has 1 to 18 bytes, which are digits.
number_parts : (word : List ℕ) → is_number word ≡ true → (0 < length word) × (length word ≤ 18) × (list_all is_ascii_digit word ≡ true)
number_parts word numeral = grind (arith, nat_tests)

-- `parse` returns the value of such a word, which is below 10 ^ 18.
pub parsed_number : {E : Type 0} (word : List ℕ) (r : Result ℕ E) → is_number word ≡ true → ParsesUnsigned 64 10 word r → (r ≡ Ok (digits_value 10 word)) × (digits_value 10 word < 10 ^ 18)
parsed_number word r numeral parsed =
    let (some, few, all) = number_parts word numeral in
    let small : digits_value 10 word < 10 ^ 18 = digits_value_short digits word 18 all few in
    (parse_gives digits 64 word r parsed all some (omega arith), small)

-- A value that does not begin with `-` is a number.
pub value_of-plain : (word : List ℕ) → ((rest : List ℕ) → word ≢ 45 ∷ rest) → value_of word ≡ option_map pos (number_of word)
value_of-plain [] none = refl
value_of-plain (b ∷ bs) none = let other : b ≢ 45 = λ e. none bs (rw e refl) in grind (arith, nat_tests)

-- No byte of the word is a space.
abbrev pub HasNoSpace : List ℕ → Type 0
HasNoSpace word = (i : ℕ) → i < length word → get_or word i 0 ≢ 32

-- A test that all bytes pass holds at each index.
all_at : (p : ℕ → Bool) (word : List ℕ) → list_all p word ≡ true → (i : ℕ) → i < length word → p (get_or word i 0) ≡ true
all_at p word all i inside = grind (arith, list_all_at)

-- A word whose bytes pass a test that the space fails has no space.
no_space : (p : ℕ → Bool) → p 32 ≡ false → (word : List ℕ) → list_all p word ≡ true → HasNoSpace word
no_space p fails word all i inside e = let passes = all_at p word all i inside in let same : p (get_or word i 0) ≡ p 32 = ap p e in cc

pub key_no_space : (key : List ℕ) → is_key key ≡ true → HasNoSpace key
key_no_space key is = no_space is_key_byte refl key (grind (arith, nat_tests))

pub number_no_space : (word : List ℕ) → is_number word ≡ true → HasNoSpace word
number_no_space word is = no_space is_ascii_digit refl word (number_parts word is).2

-- Where `split_once` cuts a text: at its first space, if it has one.
module _ (text : List ℕ) (r : Option (Bor (List ℕ) × Bor (List ℕ))) (split : IsSplitOnceResult 32 text r) where
  pub parts : (x : Bor (List ℕ) × Bor (List ℕ)) → r ≡ Some x → (text ≡ x.0.now ++ 32 ∷ x.1.now) × HasNoSpace x.0.now
  parts x some = rw some at (split_parts 32 text r split (lit< tt))

  module _ (front back : List ℕ) (whole : text ≡ front ++ 32 ∷ back) (first : HasNoSpace front) where
    pub must_cut : r ≡ None → ⊥
    must_cut none = rw none at (split_after 32 text front back r split (lit< tt) whole first)

    pub cuts : (x : Bor (List ℕ) × Bor (List ℕ)) → r ≡ Some x → (x.0.now ≡ front) × (x.1.now ≡ back)
    cuts x some = rw some at (split_after 32 text front back r split (lit< tt) whole first)

-- A word that is a number consists of digits, so it has no space.
pub number_first : (word : List ℕ) (n : ℕ) → number_of word ≡ Some n → HasNoSpace word
number_first word n says = number_no_space word (cond_some (is_number word) _ n says).0

-- A name cannot equal two names that differ.
not_both : (name a b : List ℕ) → bytes_eq a b ≡ false → name ≡ a → name ≡ b → ⊥
not_both name a b differ is_a is_b = let same = (bytes_eq-Decides a b).1 (sym is_a ∙ is_b) in cc

module _ (name text : List ℕ) where
  -- No other command has this name.
  pub only_insert : name ≡ codes "insert" → ((key : List ℕ) (value : ℤ) → IsPair key value text → ⊥) → (said : Command) → name ≡ name_of said → HasArguments said text → ⊥
  only_insert is none (command.Insert key value) same pair = none key.now value pair
  only_insert is none command.Len same arguments = arguments
  only_insert is none command.List same arguments = arguments
  only_insert is none other same arguments = not_both name (codes "insert") (name_of other) refl is same

  pub only_insert_at : name ≡ codes "insert_at" → ((index : ℕ) (key : List ℕ) (value : ℤ) → IsPairAt index key value text → ⊥) → (said : Command) → name ≡ name_of said → HasArguments said text → ⊥
  only_insert_at is none (command.InsertAt index key value) same pair = none index key.now value pair
  only_insert_at is none command.Len same arguments = arguments
  only_insert_at is none command.List same arguments = arguments
  only_insert_at is none other same arguments = not_both name (codes "insert_at") (name_of other) refl is same

  pub only_or_insert : name ≡ codes "or_insert" → ((key : List ℕ) (value : ℤ) → IsPair key value text → ⊥) → (said : Command) → name ≡ name_of said → HasArguments said text → ⊥
  only_or_insert is none (command.OrInsert key value) same pair = none key.now value pair
  only_or_insert is none command.Len same arguments = arguments
  only_or_insert is none command.List same arguments = arguments
  only_or_insert is none other same arguments = not_both name (codes "or_insert") (name_of other) refl is same

-- A line that is a command's name, a space and its arguments says this command.
pub says_parts : (said : Command) (line name text : List ℕ) → line ≡ name ++ 32 ∷ text → name ≡ name_of said → HasArguments said text → Says said line
says_parts command.Len line name text whole same arguments = absurd arguments
says_parts command.List line name text whole same arguments = absurd arguments
says_parts said line name text whole same arguments = (text, whole ∙ ap (λ front. front ++ 32 ∷ text) same, arguments)

-- No name has a space.
name_no_space : (said : Command) → HasNoSpace (name_of said)
name_no_space command.Len = no_space (λ b. not (b == 32)) refl (codes "len") refl
name_no_space other = no_space (λ b. not (b == 32)) refl (name_of other) refl

-- A text with a space is not a name.
spaced : (front back name : List ℕ) → name ≡ front ++ 32 ∷ back → HasNoSpace name → ⊥
spaced front back name whole none = none (length front) (rw (whole, length-append) (omega arith)) (rw whole (get_or-append_seam front 32 back 0))

-- `split_once` cuts a line that says a command into its name and its arguments.
pub says_cut : (said : Command) (line : List ℕ) (r : Option (Bor (List ℕ) × Bor (List ℕ))) → IsSplitOnceResult 32 line r → (x : Bor (List ℕ) × Bor (List ℕ)) → r ≡ Some x → Says said line → (x.0.now ≡ name_of said) × HasArguments said x.1.now
says_cut command.Len line r split x some says = absurd (spaced x.0.now x.1.now _ (sym says ∙ (parts line r split x some).0) (name_no_space command.Len))
says_cut command.List line r split x some says = absurd (spaced x.0.now x.1.now _ (sym says ∙ (parts line r split x some).0) (name_no_space command.List))
says_cut said line r split x some (text, whole, arguments) =
    let (same_name, same_text) = cuts line r split (name_of said) text whole (name_no_space said) x some in
    (same_name, subst (λ t. HasArguments said t) (sym same_text) arguments)

-- A word whose bytes pass a test that only ASCII bytes pass is ASCII.
ascii_all : (p : ℕ → Bool) → ((b : ℕ) → p b ≡ true → b < 128) → (word : List ℕ) → list_all p word ≡ true → IsAscii word
ascii_all p small [] all i = lit< tt
ascii_all p small (b ∷ bs) all zero = small b (and_parts _ _ all).0
ascii_all p small (b ∷ bs) all (suc i) = ascii_all p small bs (and_parts _ _ all).1 i

key_ascii : (key : List ℕ) → is_key key ≡ true → IsAscii key
key_ascii key is = ascii_all is_key_byte (λ b passes. grind (arith, nat_tests)) key (and_parts _ _ is).1

number_ascii : (word : List ℕ) (n : ℕ) → number_of word ≡ Some n → IsAscii word
number_ascii word n says = ascii_all is_ascii_digit (λ b passes. grind (arith, nat_tests)) word (number_parts word (cond_some (is_number word) _ n says).0).2

-- Two ASCII texts with a space between them are ASCII.
spaced_ascii : (front back : List ℕ) → IsAscii front → IsAscii back → IsAscii (front ++ 32 ∷ back)
spaced_ascii front back first last = IsAscii-append front (32 ∷ back) first (IsAscii-cons 32 back (lit< tt) last)

-- If a mapped option is `Some`, so is the option.
mapped_some : (f : ℕ → ℤ) (o : Option ℕ) (v : ℤ) → option_map f o ≡ Some v → (n : ℕ) × (o ≡ Some n)
mapped_some f None v none = absurd (none-some v none)
mapped_some f (Some n) v some = (n, refl)

value_ascii : (word : List ℕ) (v : ℤ) → value_of word ≡ Some v → IsAscii word
value_ascii [] v says = λ i. lit< tt
value_ascii (b ∷ bs) v says = elim (b == 45) as (λ minus. minus ≡ (b == 45) → (if minus then option_map (λ n. neg_ℤ (pos n)) (number_of bs) else option_map pos (number_of (b ∷ bs))) ≡ Some v → IsAscii (b ∷ bs)) [
  | true ↦ λ is says. let (n, number) = mapped_some _ _ v says in IsAscii-cons b bs (grind (arith, nat_tests)) (number_ascii bs n number)
  | false ↦ λ is says. let (n, number) = mapped_some _ _ v says in number_ascii (b ∷ bs) n number
] refl says

pair_ascii : (key : List ℕ) (v : ℤ) (text : List ℕ) → IsPair key v text → IsAscii text
pair_ascii key v text (word, whole, is, says) = rw whole (spaced_ascii key word (key_ascii key is) (value_ascii word v says))

pair_at_ascii : (index : ℕ) (key : List ℕ) (v : ℤ) (text : List ℕ) → IsPairAt index key v text → IsAscii text
pair_at_ascii index key v text (word, pair, whole, says, is) = rw whole (spaced_ascii word pair (number_ascii word index says) (pair_ascii key v pair is))

name_ascii : (said : Command) → IsAscii (name_of said)
name_ascii command.Len = ascii_all is_ascii_graphic (λ b passes. grind (arith, nat_tests)) (codes "len") refl
name_ascii other = ascii_all is_ascii_graphic (λ b passes. grind (arith, nat_tests)) (name_of other) refl

arguments_ascii : (said : Command) (text : List ℕ) → HasArguments said text → IsAscii text
arguments_ascii (command.Insert key value) text pair = pair_ascii key.now value text pair
arguments_ascii (command.InsertAt index key value) text pair = pair_at_ascii index key.now value text pair
arguments_ascii (command.OrInsert key value) text pair = pair_ascii key.now value text pair
arguments_ascii command.Len text arguments = absurd arguments
arguments_ascii command.List text arguments = absurd arguments
arguments_ascii other text (is, same) = rw same (key_ascii _ is)

-- Each byte of a line that says a command is ASCII.
pub says_ascii : (said : Command) (line : List ℕ) → Says said line → IsAscii line
says_ascii command.Len line says = rw says (name_ascii command.Len)
says_ascii command.List line says = rw says (name_ascii command.List)
says_ascii other line (text, whole, arguments) = rw whole (spaced_ascii (name_of other) text (name_ascii other) (arguments_ascii other text arguments))

-- The contract of `parse_text` for a line with a space follows from the contract of `with_arguments` for its two parts.
module _ (line name text : List ℕ) (o : Option Command) where
  pub said_whole : line ≡ name ++ 32 ∷ text → IfSome o (λ said. (name ≡ name_of said) × HasArguments said text) → IfSome o (λ said. Says said line)
  said_whole whole = grind (arith, says_parts)

  pub unsaid_whole : ((said : Command) → Says said line → (name ≡ name_of said) × HasArguments said text) → IfNone o ((said : Command) → name ≡ name_of said → HasArguments said text → ⊥) → IfNone o ((said : Command) → Says said line → ⊥)
  unsaid_whole cut = grind (arith)
