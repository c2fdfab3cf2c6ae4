-- The text that an answer prints, and what a buffer and its writer hold together.
use Rattle.std.specs.{Fmt.{decimal, signed_decimal}, Io.KnownBytes.append_known, List.flat_map}
use Rattle.std.specs.{Prelude.{ℕ, List, [], ◌∷◌, ◌++◌, None, Some, codes, string_bytes, ℤ, String, Option}, declared.alloc.Global.Global}
use Rattle.vecmap_run.specs.{CommandSteps.Entries, declared.answer.Answer.Answer}
use Rattle.vecmap_run.specs.declared.{answer.Answer.TheVariants.{Fault, Moved, NoMemory, Number, OutOfRange, Pairs, Place, Value}, buffer.Buffer.Buffer}

-- A key, `=` (61) and its value.
abbrev pub printed_pair : String Global × ℤ → List ℕ
printed_pair pair = string_bytes pair.0 ++ 61 ∷ signed_decimal pair.1

-- The pairs with a space (32) between them, or `empty`.
abbrev pub printed_pairs : Entries → List ℕ
printed_pairs [] = codes "empty"
printed_pairs (pair ∷ pairs) = printed_pair pair ++ flat_map (λ next. 32 ∷ printed_pair next) pairs

-- Example: of no value: `none`; of `a=1` and `b=2`: `a=1 b=2`.
-- The text of an answer, where the map has these pairs.
abbrev pub printed : Answer → Entries → List ℕ
printed (Value None) pairs = codes "none"
printed (Value (Some value)) pairs = codes "some " ++ signed_decimal value
printed (Place None) pairs = codes "none"
printed (Place (Some index)) pairs = codes "some " ++ decimal index
printed (Moved None) pairs = codes "none"
printed (Moved (Some (index, value))) pairs = codes "some " ++ decimal index ++ 32 ∷ signed_decimal value
printed (Number number) pairs = decimal number
printed Pairs pairs = printed_pairs pairs
printed Fault pairs = codes "fault"
printed OutOfRange pairs = codes "range"
printed NoMemory pairs = codes "memory"

-- The writer's bytes and then the gathered ones, or `None` if the writer's are not known.
abbrev pub buffer_bytes : {W : Type 0} → (W → Option (List ℕ)) → Buffer W → Option (List ℕ)
buffer_bytes contents buffer = append_known (contents buffer.writer.now) buffer.gathered
