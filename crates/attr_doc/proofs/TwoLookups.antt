-- The text under two names, by two lookups.
use Rattle.std.specs.Prelude.{◌≡◌, ℕ, List, None, Option, Some, IsSome, false, is_some, option_and_then, option_map, refl, string_bytes, true}
use Rattle.std.{specs.Str.str_eq_ignore_ascii_case, proofs.Common.{sym, ap, ◌∙◌}}
use Rattle.vecmap.specs.Pairs.{index_of, lookup}
use Rattle.attr_doc.specs.Documents.{Section, Stored, sections_of, text_of}
use Rattle.vecmap_laws.proofs.{AfterPuts.is_some_lookup, EachPair.lookup_map_values}

mapped : {X Y : Type 0} (f : X → Y) (o : Option X) → is_some (option_map f o) ≡ is_some o
mapped f None = refl
mapped f (Some x) = refl

-- The text under a name of a section.
abbrev pub text_in : Section → List ℕ → Option (List ℕ)
text_in texts n = option_map string_bytes (lookup str_eq_ignore_ascii_case texts n)

-- The same of a section that was looked up.
abbrev pub text_at : Option Stored → List ℕ → Option (List ℕ)
text_at o n = option_and_then (λ texts. text_in texts n) (option_map (λ m. m.entries) o)

module _ (l : List (List ℕ × Stored)) (s n : List ℕ) where
  pub text_of_sections : text_of (sections_of l) s n ≡ text_at (lookup str_eq_ignore_ascii_case l s) n
  text_of_sections = ap (option_and_then (λ texts. text_in texts n)) (lookup_map_values str_eq_ignore_ascii_case (λ m. m.entries) l s)

  pub text_of_some : (m : Stored) → Some m ≡ lookup str_eq_ignore_ascii_case l s → text_in m.entries n ≡ text_of (sections_of l) s n
  text_of_some m e = ap (λ o. text_at o n) e ∙ sym text_of_sections

  pub text_of_none : None ≡ lookup str_eq_ignore_ascii_case l s → None ≡ text_of (sections_of l) s n
  text_of_none e = ap (λ o. text_at o n) e ∙ sym text_of_sections

  -- If there is a text under a name, the name has an index.
  pub has_text : (m : Stored) → Some m ≡ lookup str_eq_ignore_ascii_case l s → IsSome (text_of (sections_of l) s n) → IsSome (index_of str_eq_ignore_ascii_case m.entries n)
  has_text m e h = sym (is_some_lookup str_eq_ignore_ascii_case m.entries n) ∙ sym (mapped string_bytes (lookup str_eq_ignore_ascii_case m.entries n)) ∙ ap is_some (text_of_some m e) ∙ h

  pub no_text : None ≡ lookup str_eq_ignore_ascii_case l s → IsSome (text_of (sections_of l) s n) → false ≡ true
  no_text e h = ap is_some (text_of_none e) ∙ h
