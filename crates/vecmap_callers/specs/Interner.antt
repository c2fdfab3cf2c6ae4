-- What an interner holds: texts, each at the index that is its id.
use Rattle.std.specs.Option.{option_map_or}
use Rattle.std.specs.Prelude.{ℕ, ◌++◌, ◌∷◌, [], List, Option, String, map, option_map, position, slice_get, string_bytes}
use Rattle.vecmap.specs.Pairs.{has_text}

module _ {A : Type 0} where
  -- The text with an id, or `None` if the id was not given.
  abbrev pub text_of : List (String A) → ℕ → Option (List ℕ)
  text_of texts id = option_map string_bytes (slice_get texts id)

  -- The id of a text, or `None` if it was not interned.
  abbrev pub id_of : List (String A) → List ℕ → Option ℕ
  id_of texts text = position (has_text text) texts

  -- Example: `to` and `be`, and then `to`: `to` and `be`.
  -- The texts, as bytes, once another text is interned: it is appended, unless it has an id.
  abbrev pub with_text : List (String A) → List ℕ → List (List ℕ)
  with_text texts text = option_map_or (λ id. map string_bytes texts) (id_of texts text) (map string_bytes texts ++ text ∷ [])
