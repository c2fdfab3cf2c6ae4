-- Which answers are allowed for a command, and how it changes the map.
use Rattle.std.specs.Prelude.{◌≡◌, ℕ, ◌<◌, ◌≤◌, List, None, Some, String, length, unwrap_or, string_bytes, string_eq, ℤ}
use Rattle.std.specs.declared.alloc.Global.{Global}
use Rattle.vecmap.specs.Pairs.{has_text, index_by, lookup, lookup_by, lookup_indexed, put, put_at, swap_without_by, without_by}
use Rattle.vecmap_run.specs.{declared.answer.Answer.Answer, declared.command.Command.Command}
use Rattle.vecmap_run.specs.declared.answer.Answer.TheVariants.{Moved, NoMemory, Number, OutOfRange, Pairs, Place, Value}
use Rattle.vecmap_run.specs.declared.command.Command.TheVariants as command

-- The pairs of the map.
abbrev pub Entries : Type 0
Entries = List (String Global × ℤ)

-- Example: of `b` with 2, `a=1` becomes `a=1 b=2`.
-- No key has this text; a key that has it is appended with the value, and it changes `old` to `new`.
abbrev pub Adds : Entries → List ℕ → ℤ → Entries → Type 0
Adds old text value new = (key : String Global) × (string_bytes key ≡ text) × (lookup string_eq old key ≡ None) × (new ≡ put string_eq old key value)

-- Memory may run out only for a new key: for its text, or for its pair.
-- Example: `insert a 3` on `a=1`: `some 1`, and `a=3`. `insert b 2`: `none`, and `a=1 b=2`; or `memory`, and `a=1`.
-- This answer is allowed for the insertion of this text and value, and it changes `old` to `new`.
abbrev pub Inserts : Entries → List ℕ → ℤ → Answer → Entries → Type 0
Inserts old text value (Value was) new = (key : String Global) × (string_bytes key ≡ text) × (was ≡ lookup string_eq old key) × (new ≡ put string_eq old key value)
Inserts old text value NoMemory new = (lookup_by (has_text text) old ≡ None) × (new ≡ old)
Inserts old text value _ new = ⊥

-- This answer is allowed for the insertion of this text and value at an index, and it changes `old` to `new`.
abbrev pub InsertsPairAt : Entries → ℕ → List ℕ → ℤ → Answer → Entries → Type 0
InsertsPairAt old index text value (Moved was) new = (index ≤ length old) × (key : String Global) × (string_bytes key ≡ text) × (was ≡ lookup_indexed string_eq old key) × (new ≡ put_at string_eq old index key value)
InsertsPairAt old index text value NoMemory new = (index ≤ length old) × (new ≡ old)
InsertsPairAt old index text value OutOfRange new = (length old < index) × (new ≡ old)
InsertsPairAt old index text value _ new = ⊥

-- Memory may run out only for a new key.
-- This answer is allowed for an insertion that keeps an existing value, and it changes `old` to `new`.
abbrev pub OrInserts : Entries → List ℕ → ℤ → Answer → Entries → Type 0
OrInserts old text value (Value found) new = (key : String Global) × (string_bytes key ≡ text) × (found ≡ Some (unwrap_or (lookup string_eq old key) value)) × (new ≡ put string_eq old key (unwrap_or (lookup string_eq old key) value))
OrInserts old text value NoMemory new = (lookup_by (has_text text) old ≡ None) × (new ≡ old)
OrInserts old text value _ new = ⊥

-- Only an insertion has more than one allowed answer, as memory may run out.
-- This answer is allowed for the command, and it changes `old` to `new`.
abbrev pub Step : Entries → Command → Answer → Entries → Type 0
Step old (command.Insert text value) answer new = Inserts old text.now value answer new
Step old (command.InsertAt index text value) answer new = InsertsPairAt old index text.now value answer new
Step old (command.OrInsert text value) answer new = OrInserts old text.now value answer new
Step old (command.Get text) answer new = (answer ≡ Value (lookup_by (has_text text.now) old)) × (new ≡ old)
Step old (command.IndexOf text) answer new = (answer ≡ Place (index_by (has_text text.now) old)) × (new ≡ old)
Step old (command.Remove text) answer new = (answer ≡ Value (lookup_by (has_text text.now) old)) × (new ≡ without_by (has_text text.now) old)
Step old (command.SwapRemove text) answer new = (answer ≡ Value (lookup_by (has_text text.now) old)) × (new ≡ swap_without_by (has_text text.now) old)
Step old command.Len answer new = (answer ≡ Number (length old)) × (new ≡ old)
Step old command.List answer new = (answer ≡ Pairs) × (new ≡ old)
