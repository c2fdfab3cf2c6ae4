-- What a document is after a change of its map of maps.
use Rattle.std.specs.Prelude.{◌≡◌, ◌++◌, ℕ, List, Ok, OnOk, Result, [], ◌∷◌, None, Option, Some, String, IsSome, option_map, unwrap_or, refl}
use Rattle.std.specs.{Option.option_map_or, Str.str_eq_ignore_ascii_case, declared.alloc.Global.Global}
use Rattle.std.proofs.Common.{sym, ap, ◌∙◌, subst}
use Rattle.vecmap.specs.{Contents.{Contents, with_value_of}, Pairs.{index_of, lookup, put, puts}}
use Rattle.vecmap_laws.proofs.{AfterPuts.put_same, EachPair.{lookup_map_values, map_values_put}, QueryLemmas.with_value_of_is_put}
use Rattle.attr_doc.specs.Documents.{Section, Sections, Stored, merge_of, sections_of, with_section, with_text}

-- The insertion of a section in the map, seen in the document: what was made from the existing section is inserted.
sections_put : (make : Option Section → Section) (l : List (List ℕ × Stored)) (s : List ℕ) (o : Option Stored) (m : Stored) → o ≡ lookup str_eq_ignore_ascii_case l s → m.entries ≡ make (option_map (λ x. x.entries) o)
    → sections_of (put str_eq_ignore_ascii_case l s m) ≡ put str_eq_ignore_ascii_case (sections_of l) s (make (lookup str_eq_ignore_ascii_case (sections_of l) s))
sections_put make l s o m e f =
    map_values_put str_eq_ignore_ascii_case (λ x. x.entries) l s m
    ∙ ap (put str_eq_ignore_ascii_case (sections_of l) s) (f ∙ ap (λ p. make (option_map (λ x. x.entries) p)) e ∙ ap make (sym (lookup_map_values str_eq_ignore_ascii_case (λ x. x.entries) l s)))

-- A new section is inserted with its first text.
pub set_new : (l new : List (List ℕ × Stored)) (s n : List ℕ) (t : String Global) (m : Stored) → None ≡ lookup str_eq_ignore_ascii_case l s → m.entries ≡ put str_eq_ignore_ascii_case [] n t
    → new ≡ put str_eq_ignore_ascii_case l s m → sections_of new ≡ with_text (sections_of l) s n t
set_new l new s n t m e f g = ap sections_of g ∙ sections_put (λ o. put str_eq_ignore_ascii_case (unwrap_or o []) n t) l s None m e f

-- A new section is inserted.
pub section_added : (l new : List (List ℕ × Stored)) (s : List ℕ) (m : Stored) → None ≡ lookup str_eq_ignore_ascii_case l s → new ≡ put str_eq_ignore_ascii_case l s m → sections_of new ≡ with_section (sections_of l) s m.entries
section_added l new s m e g = ap sections_of g ∙ sections_put (λ o. option_map_or (λ old. puts str_eq_ignore_ascii_case old m.entries) o m.entries) l s None m e refl

-- The existing section `s` is `m`, and becomes `new`.
module _ (c : Contents (List ℕ) Stored) (s : List ℕ) (m new : Stored) (e : Some m ≡ lookup str_eq_ignore_ascii_case c.entries s) (there : IsSome (index_of str_eq_ignore_ascii_case c.entries s)) where
  -- A text was inserted into it.
  pub set_there : (n : List ℕ) (t : String Global) → new.entries ≡ put str_eq_ignore_ascii_case m.entries n t → sections_of (with_value_of str_eq_ignore_ascii_case c s new).entries ≡ with_text (sections_of c.entries) s n t
  set_there n t f = ap sections_of (with_value_of_is_put str_eq_ignore_ascii_case c s new there) ∙ sections_put (λ o. put str_eq_ignore_ascii_case (unwrap_or o []) n t) c.entries s (Some m) new e f

  -- The texts of another section were inserted into it.
  pub section_joined : (f : Section) → new.entries ≡ puts str_eq_ignore_ascii_case m.entries f → sections_of (with_value_of str_eq_ignore_ascii_case c s new).entries ≡ with_section (sections_of c.entries) s f
  section_joined f g = ap sections_of (with_value_of_is_put str_eq_ignore_ascii_case c s new there) ∙ sections_put (λ o. option_map_or (λ old. puts str_eq_ignore_ascii_case old f) o f) c.entries s (Some m) new e g

  -- Its texts are unchanged.
  pub section_stays : new.entries ≡ m.entries → sections_of (with_value_of str_eq_ignore_ascii_case c s new).entries ≡ sections_of c.entries
  section_stays f =
      ap sections_of (with_value_of_is_put str_eq_ignore_ascii_case c s new there) ∙ map_values_put str_eq_ignore_ascii_case (λ x. x.entries) c.entries s new
      ∙ put_same str_eq_ignore_ascii_case (sections_of c.entries) s new.entries (lookup_map_values str_eq_ignore_ascii_case (λ x. x.entries) c.entries s ∙ ap (option_map (λ x. x.entries)) (sym e) ∙ ap (λ x. Some x) (sym f))

pub merged_push : (d : Sections) (ps : List (List ℕ × Stored)) (p : List ℕ × Stored) → merge_of d (sections_of (ps ++ p ∷ [])) ≡ with_section (merge_of d (sections_of ps)) p.0 p.1.entries
merged_push d [] p = refl
merged_push d (q ∷ qs) p = merged_push (with_section d q.0 q.1.entries) qs p

pub at_ok : {X E P : Type 0} (r : Result X E) (x : X) → r ≡ Ok x → OnOk r P → P
at_ok {P = P} r x e h = subst (λ q. OnOk q P) e h
