-- Which command a line says.
use Rattle.std.specs.Prelude.{◌≡◌, ℕ, ◌==◌, ◌&&◌, ◌||◌, Bool, IsTrue, List, ◌∷◌, ◌++◌, None, Option, Some, ℤ, codes, drop, if◌then◌else◌, length, nat_le, nat_lt, neg_ℤ, pos}
use Rattle.std.specs.{Char.{is_ascii_alphanumeric, is_ascii_digit}, List.list_all, Option.option_map}
use Rattle.std.specs.Str.Parse.{digits_value, starts_with_minus}
use Rattle.vecmap_run.specs.declared.command.Command.{Command}
use Rattle.vecmap_run.specs.declared.command.Command.TheVariants as command

-- Whether the word has at least one byte and at most `most`.
abbrev pub has_length_up_to : ℕ → List ℕ → Bool
has_length_up_to most word = nat_lt 0 (length word) && nat_le (length word) most

-- Example: not the space, nor a byte of `ö`.
-- Whether the byte is an ASCII letter or digit, `_`, `-` or `.`.
abbrev pub is_key_byte : ℕ → Bool
is_key_byte byte = is_ascii_alphanumeric byte || (byte == 95 || (byte == 45 || byte == 46))

-- Example: `max-age`.
-- Whether the word has 1 to 64 such bytes.
abbrev pub is_key : List ℕ → Bool
is_key word = has_length_up_to 64 word && list_all is_key_byte word

-- Example: `007`.
-- Whether the word has 1 to 18 digits.
abbrev pub is_number : List ℕ → Bool
is_number word = has_length_up_to 18 word && list_all is_ascii_digit word

-- The number that these digits write, or `None` if the word is not a number.
abbrev pub number_of : List ℕ → Option ℕ
number_of word = if is_number word then Some (digits_value 10 word) else None

-- The number that an optional `-` (45) and digits write, or `None` if the word is not a value.
abbrev pub value_of : List ℕ → Option ℤ
value_of word =
    if starts_with_minus word then option_map (λ n. neg_ℤ (pos n)) (number_of (drop 1 word))
    else option_map pos (number_of word)

-- The text is the key, a space (32) and a word for the value.
abbrev pub IsPair : List ℕ → ℤ → List ℕ → Type 0
IsPair key value text = (word : List ℕ) × (text ≡ key ++ 32 ∷ word) × IsTrue (is_key key) × (value_of word ≡ Some value)

-- The text is a word for the index, a space and such a pair.
abbrev pub IsPairAt : ℕ → List ℕ → ℤ → List ℕ → Type 0
IsPairAt index key value text = (word pair : List ℕ) × (text ≡ word ++ 32 ∷ pair) × (number_of word ≡ Some index) × IsPair key value pair

-- The first word of a command.
abbrev pub name_of : Command → List ℕ
name_of (command.Insert key value) = codes "insert"
name_of (command.InsertAt index key value) = codes "insert_at"
name_of (command.OrInsert key value) = codes "or_insert"
name_of (command.Get key) = codes "get"
name_of (command.IndexOf key) = codes "index"
name_of (command.Remove key) = codes "remove"
name_of (command.SwapRemove key) = codes "swap_remove"
name_of command.Len = codes "len"
name_of command.List = codes "list"

-- The command has arguments, and the text writes them.
abbrev pub HasArguments : Command → List ℕ → Type 0
HasArguments (command.Insert key value) text = IsPair key.now value text
HasArguments (command.InsertAt index key value) text = IsPairAt index key.now value text
HasArguments (command.OrInsert key value) text = IsPair key.now value text
HasArguments (command.Get key) text = IsTrue (is_key key.now) × (text ≡ key.now)
HasArguments (command.IndexOf key) text = IsTrue (is_key key.now) × (text ≡ key.now)
HasArguments (command.Remove key) text = IsTrue (is_key key.now) × (text ≡ key.now)
HasArguments (command.SwapRemove key) text = IsTrue (is_key key.now) × (text ≡ key.now)
HasArguments command.Len text = ⊥
HasArguments command.List text = ⊥

-- Example: `insert a -007` says to insert -7 at `a`.
-- The line says the command: its name, and its arguments after a space each.
abbrev pub Says : Command → List ℕ → Type 0
Says command.Len line = line ≡ name_of command.Len
Says command.List line = line ≡ name_of command.List
Says command line = (text : List ℕ) × (line ≡ name_of command ++ 32 ∷ text) × HasArguments command text
