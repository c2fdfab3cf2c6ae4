-- What changes a document leaves a document: names stay distinct, and no section becomes empty.
use Rattle.std.specs.Prelude.{◌≡◌, ℕ, List, [], ◌∷◌, None, Option, Some, String, All, unwrap_or, refl, Ok, Err, OnOk, OnErr, Result}
use Rattle.std.specs.{List.IsDistinct, Option.option_map_or, Str.str_eq_ignore_ascii_case, declared.alloc.Global.Global}
use Rattle.std.proofs.{Common.{sym, subst, arith}, lemmas.List.Elements.{All-head, All-nil, All-tail}, lemmas.Map.Made.keys_of-map_values}
use Rattle.vecmap.specs.Pairs.{HasDistinctKeys, lookup, put, puts}
use Rattle.vecmap_laws.proofs.{AfterPuts.puts_some, DistinctKeys.distinct_puts, EachPair.{holds_after_put, holds_of_found}}
use Rattle.attr_doc.specs.Documents.{IsDocument, IsSection, Section, Sections, Stored, ignoring_case_equiv, merge_of, sections_of, with_section, with_text}

no_names : IsDistinct str_eq_ignore_ascii_case []
unfolding IsDistinct
no_names = tt

pub document_of_none : (l : List (List ℕ × Stored)) → l ≡ [] → IsDocument (sections_of l)
document_of_none l e = subst (λ m. IsDocument (sections_of m)) (sym e) (record { distinct = no_names; sections = All-nil (λ p. IsSection p.1) })

pub names_apart : (l : List (List ℕ × Stored)) → IsDocument (sections_of l) → HasDistinctKeys str_eq_ignore_ascii_case l
names_apart l d = subst (λ ks. IsDistinct str_eq_ignore_ascii_case ks) (keys_of-map_values (λ m. m.entries) l) d.distinct

section_put : (f : Section) → HasDistinctKeys str_eq_ignore_ascii_case f → (n : List ℕ) (t : String Global) → IsSection (put str_eq_ignore_ascii_case f n t)
section_put f d n t = record { distinct = distinct_puts str_eq_ignore_ascii_case ignoring_case_equiv f ((n, t) ∷ []) d; not_empty = puts_some str_eq_ignore_ascii_case f ((n, t) ∷ []) (omega arith) }

section_puts : (f g : Section) → IsSection f → IsSection (puts str_eq_ignore_ascii_case f g)
section_puts f g j = record { distinct = distinct_puts str_eq_ignore_ascii_case ignoring_case_equiv f g j.distinct; not_empty = puts_some str_eq_ignore_ascii_case f g (omega (arith, j.not_empty)) }

-- A document stays a document if a section is inserted that is made from the existing one.
document_put : (d : Sections) → IsDocument d → (s : List ℕ) (make : Option Section → Section) → ((o : Option Section) → ((f : Section) → o ≡ Some f → IsSection f) → IsSection (make o)) → IsDocument (put str_eq_ignore_ascii_case d s (make (lookup str_eq_ignore_ascii_case d s)))
document_put d i s make h =
    let f = make (lookup str_eq_ignore_ascii_case d s) in
    record {
      distinct = distinct_puts str_eq_ignore_ascii_case ignoring_case_equiv d ((s, f) ∷ []) i.distinct;
      sections = holds_after_put str_eq_ignore_ascii_case IsSection d i.sections s f (h (lookup str_eq_ignore_ascii_case d s) (λ g e. holds_of_found str_eq_ignore_ascii_case IsSection d i.sections s g e));
    }

pub document_with_text : (d : Sections) → IsDocument d → (s n : List ℕ) (t : String Global) → IsDocument (with_text d s n t)
document_with_text d i s n t = document_put d i s (λ o. put str_eq_ignore_ascii_case (unwrap_or o []) n t) by
  where
    by : (o : Option Section) → ((f : Section) → o ≡ Some f → IsSection f) → IsSection (put str_eq_ignore_ascii_case (unwrap_or o []) n t)
    by None h = section_put [] (no_names) n t
    by (Some f) h = section_put f (h f refl).distinct n t

document_with_section : (d : Sections) → IsDocument d → (s : List ℕ) (f : Section) → IsSection f → IsDocument (with_section d s f)
document_with_section d i s f j = document_put d i s (λ o. option_map_or (λ old. puts str_eq_ignore_ascii_case old f) o f) by
  where
    by : (o : Option Section) → ((g : Section) → o ≡ Some g → IsSection g) → IsSection (option_map_or (λ old. puts str_eq_ignore_ascii_case old f) o f)
    by None h = j
    by (Some g) h = section_puts g f (h g refl)

pub document_merged : (d e : Sections) → IsDocument d → All (λ p. IsSection p.1) e → IsDocument (merge_of d e)
document_merged d [] i a = i
document_merged d (p ∷ ps) i a = document_merged (with_section d p.0 p.1) ps (document_with_section d i p.0 p.1 (All-head (λ q. IsSection q.1) p ps a)) (All-tail (λ q. IsSection q.1) p ps a)

-- The result is a document, whether the text was stored or memory ran out.
pub document_set : {X E : Type 0} (r : Result X E) (d new : Sections) (s n : List ℕ) (t : String Global) → IsDocument d → OnOk r (new ≡ with_text d s n t) → OnErr r (new ≡ d) → IsDocument new
document_set (Ok x) d new s n t i ok err = subst IsDocument (sym ok) (document_with_text d i s n t)
document_set (Err e) d new s n t i ok err = subst IsDocument (sym err) i
