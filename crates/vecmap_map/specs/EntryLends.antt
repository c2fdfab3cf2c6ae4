-- What a map, or an entry of it, is once the reference or entry that a call of an entry returns has ended.
use Rattle.std.specs.{Prelude.{◌≡◌, [], Result}, Borrow.{RattleType, Fml, MutBor, LendsSoOk, RestsIfErr, follows}}
use mir.Syntax.{named}
use Rattle.vecmap_map.specs.{Contents.{KeepsRoomAt, RefusesAt}, Entry.{entry_map, entry_index_of, entry_ref, entries_with, occupied_with}}
use Rattle.vecmap_map.specs.{Lends.lends_value_at, contracts.VecMap.the_row, declared.entry.Entry.Entry}
use Rattle.vecmap_map.specs.contracts.entry.occupied.OccupiedEntry as occupied
use Rattle.vecmap_map.specs.declared.entry.occupied.OccupiedEntry.{OccupiedEntry}

module _ (K V : RattleType) where
  -- Example: `or_insert(8)` of `1y` on `[(1x,7)]`, written 9: `[(1x,9)]`.
  -- Once r ends, its last value is the value of the key of e. On `Err` the map is full and stays.
  abbrev pub entry_lends : {E : Type 0} → Entry K.Denot V.Denot → Result (MutBor V.Denot) E → Fml
  entry_lends e r = LendsSoOk (the_row K V) V (entry_ref e) r (λ n v. (n.entries ≡ entries_with e v) × KeepsRoomAt (entry_index_of e) (entry_map e) n) (RefusesAt (entry_index_of e) (entry_map e))

  -- Example: `or_try_insert_with` whose closure fails: the same map.
  -- Once r ends, its last value is the value of the key of e. On `Err` the map stays, and need not be full.
  abbrev pub entry_lends_or_stays : {E : Type 0} → Entry K.Denot V.Denot → Result (MutBor V.Denot) E → Fml
  entry_lends_or_stays e r = LendsSoOk (the_row K V) V (entry_ref e) r (λ n v. (n.entries ≡ entries_with e v) × KeepsRoomAt (entry_index_of e) (entry_map e) n) (λ n. n ≡ entry_map e)

  -- Example: a call of `insert_entry`.
  -- On `Ok` the returned entry holds the map of e. On `Err` the map stays.
  abbrev pub entry_passes : {E : Type 0} → Entry K.Denot V.Denot → Result (OccupiedEntry K.Denot V.Denot) E → Fml
  entry_passes e r = RestsIfErr (the_row K V) (entry_ref e) (λ o. o.map.ghost_name) r (λ n. n ≡ entry_map e)

  -- Example: `into_mut`, and `get_mut`, of `1y` on `[(1x,7)]`, written 9: `[(1x,9)]`.
  -- Once r ends, its last value is in the map of o, at the index of o.
  abbrev pub occupied_lends_on : OccupiedEntry K.Denot V.Denot → MutBor V.Denot → Fml
  occupied_lends_on o r = lends_value_at K V o.map o.index r

  -- Once r ends, its last value is the value of o.
  abbrev pub occupied_lends : MutBor (OccupiedEntry K.Denot V.Denot) → MutBor V.Denot → Fml
  occupied_lends o r = follows (occupied.the_row (record { mir = named 1; lft = [] }) K V) V o.ghost_name r.ghost_name (occupied_with o.now)
