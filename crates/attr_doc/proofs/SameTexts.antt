-- Two maps of maps are equal exactly if each section and name have the same text in both.
use Rattle.std.proofs.{Common.{rules, sym, ap, ◌∙◌, arith, true≢false}, lemmas.Slice.Eq.bytes_eq-Decides}
use Rattle.std.specs.Prelude.{◌≡◌, ◌↔◌, ℕ, Bool, true, List, [], ◌∷◌, None, Option, Some, String, IsTrue, option_map, string_bytes, string_eq, refl}
use Rattle.std.specs.{Cmp.{IsEquivalence, on_equiv}, Option.option_eq, Str.str_eq_ignore_ascii_case, declared.alloc.Global.Global}
use Rattle.vecmap.specs.{Equality.has_same_counts, Pairs.lookup}
use Rattle.vecmap_laws.proofs.{EachPair.{holds_of_found, lookup_map_values}, LookupLemmas.look, MapEquality.{equal_where_lookups_agree, map_equality_laws}}
use Rattle.vecmap_laws.proofs.QueryLemmas.{string_equality}
use Rattle.attr_doc.specs.Documents.{IsDocument, IsSection, Section, Stored, ignoring_case_equiv, sections_of, text_of}
use Rattle.attr_doc.proofs.{DocumentLemmas.names_apart, TwoLookups.{text_at, text_in, text_of_sections}}

abbrev same_section : Section → Section → Bool
same_section a b = has_same_counts str_eq_ignore_ascii_case string_eq a b

abbrev same_stored : Stored → Stored → Bool
same_stored a b = same_section a.entries b.entries

same_stored_laws : IsEquivalence same_stored
same_stored_laws = on_equiv (λ m. m.entries) (map_equality_laws str_eq_ignore_ascii_case string_eq ignoring_case_equiv string_equality)

-- Equal strings have equal bytes.
same_text_options : (o p : Option (String Global)) → IsTrue (option_eq string_eq o p) ↔ (option_map string_bytes o ≡ option_map string_bytes p)
same_text_options None None = grind (arith, bytes_eq-Decides)
same_text_options None (Some w) = grind (arith, bytes_eq-Decides)
same_text_options (Some v) None = grind (arith, bytes_eq-Decides)
same_text_options (Some v) (Some w) = grind (arith, bytes_eq-Decides)

sections_agree : (a b : Section) → IsSection a → IsSection b → IsTrue (same_section a b) ↔ ((n : List ℕ) → text_in a n ≡ text_in b n)
sections_agree a b s t = search (rules, equal_where_lookups_agree, string_equality, same_text_options)

-- A section has some text.
some_text : (a : Section) → IsSection a → (n : List ℕ) × (t : List ℕ) × (text_in a n ≡ Some t)
some_text [] s = absurd (let h = s.not_empty in omega (arith, h))
some_text (p ∷ ps) s = (p.0, string_bytes p.1, ap (option_map string_bytes) (look str_eq_ignore_ascii_case p ps p.0 true (ignoring_case_equiv.refl p.0)))

at_section : (o p : Option Stored) → ((m : Stored) → o ≡ Some m → IsSection m.entries) → ((m : Stored) → p ≡ Some m → IsSection m.entries) → IsTrue (option_eq same_stored o p) ↔ ((n : List ℕ) → text_at o n ≡ text_at p n)
at_section None None s t = (λ _ n. refl, λ _. refl)
at_section None (Some m) s t = (λ h. absurd (true≢false (sym h)), λ h. let some = some_text m.entries (t m refl) in absurd (let f : None ≡ Some some.1 = h some.0 ∙ some.2 in cc))
at_section (Some m) None s t = (λ h. absurd (true≢false (sym h)), λ h. let some = some_text m.entries (s m refl) in absurd (let f : None ≡ Some some.1 = sym (h some.0) ∙ some.2 in cc))
at_section (Some m) (Some n) s t = sections_agree m.entries n.entries (s m refl) (t n refl)

found_section : (l : List (List ℕ × Stored)) → IsDocument (sections_of l) → (s : List ℕ) (m : Stored) → lookup str_eq_ignore_ascii_case l s ≡ Some m → IsSection m.entries
found_section l d s m e = holds_of_found str_eq_ignore_ascii_case IsSection (sections_of l) d.sections s m.entries (lookup_map_values str_eq_ignore_ascii_case (λ m. m.entries) l s ∙ ap (option_map (λ m. m.entries)) e)

pub same_documents : (a b : List (List ℕ × Stored)) → IsDocument (sections_of a) → IsDocument (sections_of b) → IsTrue (has_same_counts str_eq_ignore_ascii_case same_stored a b) ↔ ((s n : List ℕ) → text_of (sections_of a) s n ≡ text_of (sections_of b) s n)
same_documents a b d e =
    let whole = equal_where_lookups_agree str_eq_ignore_ascii_case same_stored ignoring_case_equiv same_stored_laws a b (names_apart a d) (names_apart b e) in
    let part = λ (s : List ℕ). at_section (lookup str_eq_ignore_ascii_case a s) (lookup str_eq_ignore_ascii_case b s) (found_section a d s) (found_section b e s) in
    (λ h s n. text_of_sections a s n ∙ (part s).0 (whole.0 h s) n ∙ sym (text_of_sections b s n), λ h. whole.1 (λ s. (part s).1 (λ n. sym (text_of_sections a s n) ∙ h s n ∙ text_of_sections b s n)))
