-- The lines of an input.
use Rattle.std.specs.{Prelude.{ℕ, ◌-◌, ◌==◌, List, [], ◌∷◌, None, Option, Some, if◌then◌else◌, length, nat_le, take}, List.slice_split}

-- The pieces of the input between its line breaks (10).
abbrev pub pieces_of : List ℕ → List (List ℕ)
pieces_of input = slice_split (λ b. b == 10) input

-- All pieces except the last.
abbrev pub all_but_last : List (List ℕ) → List (List ℕ)
all_but_last pieces = take (length pieces - 1) pieces

-- All pieces, except the last one if it is empty.
abbrev pub without_empty_last : List (List ℕ) → List (List ℕ)
without_empty_last [] = []
without_empty_last (piece ∷ []) = if length piece == 0 then [] else piece ∷ []
without_empty_last (piece ∷ next ∷ pieces) = piece ∷ without_empty_last (next ∷ pieces)

-- Example: of `get a⏎len`: `get a`.
-- The lines that end with a line break.
abbrev pub ended_lines : List ℕ → List (List ℕ)
ended_lines input = all_but_last (pieces_of input)

-- These lines, and the text after the last line break if it is not empty.
abbrev pub all_lines : List ℕ → List (List ℕ)
all_lines input = without_empty_last (pieces_of input)

-- The line, or `None` if it is longer than 4,096 bytes.
abbrev pub within_limit : List ℕ → Option (List ℕ)
within_limit line = if nat_le (length line) 4096 then Some line else None
