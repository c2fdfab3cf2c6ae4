-- What a change of one section leaves of the spare capacity of the others.
use Rattle.std.specs.{Prelude.{◌≡◌, ◌≤◌, ℕ, false, true, List, ◌∷◌, [], Some, IsSome, All, length}, List.AllByRecursion, Map.keys_of}
use Rattle.std.{specs.Str.str_eq_ignore_ascii_case, proofs.{Common.{sym, ap, ◌∙◌, subst, arith, inl, inr}, lemmas.Bool.cases_Bool}}
use Rattle.std.proofs.lemmas.List.{length-map, Elements.{All-cons, All-head, All-nil, All-tail}}
use Rattle.vecmap.specs.{Contents.{Contents, HasRoom, with_value_of}, Pairs.{index_of, lookup, put}}
use Rattle.vecmap_laws.proofs.{LookupLemmas.{lookup_put, lookup_put_other, lookup_congr}, QueryLemmas.with_value_of_is_put}
use Rattle.attr_doc.specs.Documents.{HasRoomAt, IsRoomFor, Stored, ignoring_case_equiv, sections_of}

pub same_length : (l k : List (List ℕ × Stored)) → sections_of l ≡ sections_of k → length l ≡ length k
same_length l k e = sym (length-map l (λ p. (p.0, p.1.entries))) ∙ ap length e ∙ length-map k (λ p. (p.0, p.1.entries))

pub others_after : (l new : List (List ℕ × Stored)) (s : List ℕ) (m : Stored) → new ≡ put str_eq_ignore_ascii_case l s m → (q : List ℕ) → str_eq_ignore_ascii_case s q ≡ false → lookup str_eq_ignore_ascii_case new q ≡ lookup str_eq_ignore_ascii_case l q
others_after l new s m g q n = ap (λ k. lookup str_eq_ignore_ascii_case k q) g ∙ lookup_put_other str_eq_ignore_ascii_case ignoring_case_equiv l s m q n

-- The existing section `s` becomes `new`.
module _ (c : Contents (List ℕ) Stored) (s : List ℕ) (new : Stored) (there : IsSome (index_of str_eq_ignore_ascii_case c.entries s)) where
  pub other_values_stay : (q : List ℕ) → str_eq_ignore_ascii_case s q ≡ false → lookup str_eq_ignore_ascii_case (with_value_of str_eq_ignore_ascii_case c s new).entries q ≡ lookup str_eq_ignore_ascii_case c.entries q
  other_values_stay = others_after c.entries (with_value_of str_eq_ignore_ascii_case c s new).entries s new (with_value_of_is_put str_eq_ignore_ascii_case c s new there)

  -- The lookup of its name finds `new`.
  found_new : (q : List ℕ) → str_eq_ignore_ascii_case s q ≡ true → (o : Stored) → lookup str_eq_ignore_ascii_case (with_value_of str_eq_ignore_ascii_case c s new).entries q ≡ Some o → new ≡ o
  found_new q y o w =
      let found = lookup_put str_eq_ignore_ascii_case ignoring_case_equiv c.entries s new in
      let same = lookup_congr str_eq_ignore_ascii_case ignoring_case_equiv (put str_eq_ignore_ascii_case c.entries s new) s q y in
      grind (arith, found, same, with_value_of_is_put str_eq_ignore_ascii_case c s new there)

  -- The section has spare capacity for `n` more texts if its map has.
  pub has_room_at : (n : ℕ) → HasRoom new n → HasRoomAt (with_value_of str_eq_ignore_ascii_case c s new).entries s n
  has_room_at n room o w = subst (λ (x : Stored). HasRoom x n) (found_new s (ignoring_case_equiv.refl s) o w) room

  -- If it has the same texts and no less capacity, each section keeps the spare capacity that it had.
  pub keeps_room : (m : Stored) → Some m ≡ lookup str_eq_ignore_ascii_case c.entries s → new.entries ≡ m.entries → m.capacity ≤ new.capacity → (q : List ℕ) (n : ℕ) → HasRoomAt c.entries q n → HasRoomAt (with_value_of str_eq_ignore_ascii_case c s new).entries q n
  keeps_room m e f g q n room o w =
      elim (cases_Bool (str_eq_ignore_ascii_case s q)) [
        | inl y ↦ grind (arith, room m, f, g, found_new q y o w, lookup_congr str_eq_ignore_ascii_case ignoring_case_equiv c.entries s q y)
        | inr y ↦ room o (sym (other_values_stay q y) ∙ w)
      ]

-- If a section of another name is inserted, the others keep their spare capacity.
pub room_after : (l k : List (List ℕ × Stored)) (s : List ℕ) (ps : List (List ℕ × Stored)) → AllByRecursion (λ y. str_eq_ignore_ascii_case s y ≡ false) (keys_of ps)
    → ((q : List ℕ) → str_eq_ignore_ascii_case s q ≡ false → lookup str_eq_ignore_ascii_case k q ≡ lookup str_eq_ignore_ascii_case l q)
    → All (IsRoomFor l) ps → All (IsRoomFor k) ps
room_after l k s [] h o a = All-nil (IsRoomFor k)
room_after l k s (q ∷ qs) h o a = All-cons (IsRoomFor k) q qs (λ m e. All-head (IsRoomFor l) q qs a m (sym (o q.0 h.0) ∙ e)) (room_after l k s qs h.1 o (All-tail (IsRoomFor l) q qs a))
