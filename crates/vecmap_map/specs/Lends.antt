-- What a `VecMap` is once a mutable reference into it has ended.
use Rattle.std.specs.{Prelude.{ℕ, Bool, List, [], ◌∷◌}, declared.option.Option.Option, declared.option.Option.TheVariants.{None, Some}}
use Rattle.std.specs.Borrow.{RattleType, Fml, GName, Array, Bor, MutBor, Lends, LendsIf, LendsBoth, LendsBothIf, follows, follows_if, follows_both_if}
use denote.Struct.Tuple.{Tuple}
use mathlib.Core.Option as maybe
use Rattle.vecmap_map.specs.Contents.{Contents, with_pair_at, with_pair_by, with_value_at, with_value_by, with_value_of, with_written}
use Rattle.std.specs.contracts.alloc.Global as global
use Rattle.std.specs.contracts.impls.GlobalAllocator.TheImpl.{ghosts}
use Rattle.std.specs.contracts.string.String as text
use Rattle.vecmap_map.specs.contracts.VecMap.{the_row}

-- The type `String`, as the logic holds it.
abbrev pub text_row : RattleType
text_row = text.the_row global.the_row ghosts

module _ {K V : Type 0} where
  -- The ghost name of the reference to the value, if there is one.
  abbrev pub value_name : Option (Bor K × MutBor V) → maybe.Option GName
  value_name None = maybe.none
  value_name (Some r) = maybe.some r.1.ghost_name

  -- The ghost name of the reference to the value, in a result that also has an index, if there is one.
  abbrev pub value_name_at : Option (ℕ × Bor K × MutBor V) → maybe.Option GName
  value_name_at None = maybe.none
  value_name_at (Some r) = maybe.some r.2.ghost_name

  -- The ghost names of the references to the key and to the value, if there are any.
  abbrev pub both_names_at : Option (ℕ × MutBor K × MutBor V) → maybe.Option (GName × GName)
  both_names_at None = maybe.none
  both_names_at (Some r) = maybe.some (r.1.ghost_name, r.2.ghost_name)

module _ (K V : RattleType) where
  -- Once r ends, its last value is the value of the pair, and the key is unchanged.
  abbrev pub lends_value : MutBor (K.Denot × V.Denot) → MutBor V.Denot → Fml
  lends_value p r = Lends (Tuple (K ∷ V ∷ [])) V p r (λ v. (p.now.0, v))

  -- Once both references end, their last key and value are the pair.
  abbrev pub lends_parts : MutBor (K.Denot × V.Denot) → MutBor K.Denot × MutBor V.Denot → Fml
  lends_parts p r = LendsBoth (Tuple (K ∷ V ∷ [])) K V p r (λ k v. (k, v))

module _ (K V : RattleType) (m : MutBor (Contents K.Denot V.Denot)) where
  -- Example: `map[0]` of `[(1,a)]`, written b: `[(1,b)]`.
  -- Once r ends, its last value is the value at the index i, and nothing else has changed.
  abbrev pub lends_value_at : ℕ → MutBor V.Denot → Fml
  lends_value_at i r = Lends (the_row K V) V m r (with_value_at m.now i)

  -- Once r ends, its last value is the value of the first key that is equal to k, and nothing else has changed.
  abbrev pub lends_value_of : (K.Denot → K.Denot → Bool) → K.Denot → MutBor V.Denot → Fml
  lends_value_of eq k r = Lends (the_row K V) V m r (with_value_of eq m.now k)

  -- Once r ends, its last value is the value of the first key that passes the test, and nothing else has changed.
  abbrev pub lends_value_by : (K.Denot → Bool) → MutBor V.Denot → Fml
  lends_value_by test r = Lends (the_row K V) V m r (with_value_by test m.now)

  -- At `None` the map stays.
  -- Example: `get_mut(1y)` on `[(1x,7)]`, written 9: `[(1x,9)]`; `get_mut(2)`: `[(1x,7)]`.
  -- Once r ends, its last value is the value of the first key that passes the test, and nothing else has changed.
  abbrev pub lends_value_if_by : (K.Denot → Bool) → Option (MutBor V.Denot) → Fml
  lends_value_if_by test r = LendsIf (the_row K V) V m r (with_value_by test m.now) m.now

  -- At `None` the map stays.
  -- Example: `get_value_at_mut(0)` of `[(1,a)]`, written b: `[(1,b)]`.
  -- Once r ends, its last value is the value at the index i, and nothing else has changed.
  abbrev pub lends_value_if_at : ℕ → Option (MutBor V.Denot) → Fml
  lends_value_if_at i r = LendsIf (the_row K V) V m r (with_value_at m.now i) m.now

  -- Once r ends, its last pair is the pair at the index i, and nothing else has changed.
  abbrev pub lends_pair_at : ℕ → MutBor (K.Denot × V.Denot) → Fml
  lends_pair_at i r = Lends (the_row K V) (Tuple (K ∷ V ∷ [])) m r (with_pair_at m.now i)

  -- At `None` the map stays.
  -- Once r ends, its last pair is the pair at the index i, and nothing else has changed.
  abbrev pub lends_pair_if_at : ℕ → Option (MutBor (K.Denot × V.Denot)) → Fml
  lends_pair_if_at i r = LendsIf (the_row K V) (Tuple (K ∷ V ∷ [])) m r (with_pair_at m.now i) m.now

  -- At `None` the map stays.
  -- Example: `get_index_mut(0)`, `get_full_mut(1y)` on `[(1x,7)]`, written 9: `[(1x,9)]`.
  -- Once the mutable reference ends, its last value is the value at the index i, and nothing else has changed.
  abbrev pub lends_beside_key : ℕ → Option (Bor K.Denot × MutBor V.Denot) → Fml
  lends_beside_key i r = follows_if (the_row K V) V m.ghost_name (value_name r) (with_value_at m.now i) m.now

  -- Nothing else has changed. At `None` the map stays.
  -- Once the mutable reference ends, its last value is the value of the first key that passes the test.
  abbrev pub lends_beside_index : (K.Denot → Bool) → Option (ℕ × Bor K.Denot × MutBor V.Denot) → Fml
  lends_beside_index test r = follows_if (the_row K V) V m.ghost_name (value_name_at r) (with_value_by test m.now) m.now

  -- At `None` the map stays.
  -- Example: `get_index_mut2(0)` on `[(1,7)]`, written `(2,9)`: `[(2,9)]`.
  -- Once both references end, their last key and value are the pair at the index i, and nothing else has changed.
  abbrev pub lends_both_at : ℕ → Option (MutBor K.Denot × MutBor V.Denot) → Fml
  lends_both_at i r = LendsBothIf (the_row K V) K V m r (λ k v. with_pair_at m.now i (k, v)) m.now

  -- Nothing else has changed. At `None` the map stays.
  -- Once both references end, their last key and value are the pair of the first key that passes the test.
  abbrev pub lends_both_beside_index : (K.Denot → Bool) → Option (ℕ × MutBor K.Denot × MutBor V.Denot) → Fml
  lends_both_beside_index test r = follows_both_if (the_row K V) K V m.ghost_name (both_names_at r) (λ key v. with_pair_by test m.now (key, v)) m.now

  -- The map has as many pairs as before, and its capacity.
  -- Example: `as_mut_slice` of `[(1,a), (2,b)]`, the first written: `[(1,c), (2,b)]`.
  -- Once the borrow with this name ends, the map has the pairs that were last written through it.
  abbrev pub lends_pairs : GName → Fml
  lends_pairs r = follows (the_row K V) (Array (Tuple (K ∷ V ∷ [])) 0) m.ghost_name r (with_written m.now)

  -- Once the slice ends, the map has the pairs that were last written through it.
  abbrev pub lends_slice : MutBor (List (K.Denot × V.Denot)) → Fml
  lends_slice r = lends_pairs r.ghost_name
