-- What an interner holds under the id that it finds.
use Rattle.std.{specs.Prelude.{◌≡◌, ℕ, List, [], ◌∷◌, None, Some, String, option_map, string_bytes}, proofs.Common.{ap, sym, ◌∙◌}}
use Rattle.std.proofs.lemmas.{List.Quantifiers.position-Some, Option.slice_get-get_or, Slice.Eq.bytes_eq-Decides}
use Rattle.vecmap.specs.Pairs.{has_text}
use Rattle.vecmap_callers.specs.Interner.{id_of, text_of}

-- The id that a text finds gives this text.
pub found_text : {A : Type 0} (texts : List (String A)) (text : List ℕ) (id : ℕ) → id_of texts text ≡ Some id → text_of texts id ≡ Some text
found_text [] text id e = absurd (let n : None ≡ Some id = e in cc)
found_text (x ∷ xs) text id e =
    let at = position-Some (has_text text) (x ∷ xs) id x e in
    ap (option_map string_bytes) (slice_get-get_or (x ∷ xs) id x at.0) ∙ ap Some (sym ((bytes_eq-Decides text _).0 at.1))
