-- Iterators that are seen as the list of what they have left: what a run of them gives.
use Rattle.std.proofs.Common.{List, [], ◌∷◌, ap, ◌∙◌, length, map}
use Rattle.std.proofs.iter.runs.Sources.{as_is, as_is_back, from_back, from_front}
use Rattle.std.proofs.lemmas.List.{map_push}
use Rattle.std.specs.{List.AllZip, Map.values_of, Iterator.Runs.{EveryRun, ItemsMapTo, ItemsMapToReversed}}
use Rattle.std.specs.Map.Iter.{GivesInOrder, GivesInReverse, ShowsInOrder, ShowsInReverse, ShowsValuesInOrder, ShowsValuesInReverse, TakesFirst, TakesLast}
use Rattle.vecmap_base.specs.Iterators.{TakesFirstOf, TakesLastOf}

-- Each run shows the list that was left.
module _ {A X : Type 0} (shows : A → X) where
  pub shows_in_order : ShowsInOrder shows
  shows_in_order = from_front (TakesFirst shows) shows (λ s. s) (λ s t h. ap length h.0) (λ s x t h. h)

  pub shows_in_reverse : ShowsInReverse shows
  shows_in_reverse = from_back (TakesLast shows) shows (λ s. s) (λ s t h. ap length h.0) (λ s x t h. h)

-- The same of an iterator that has `rest s` left in the state `s`.
module _ {S A X : Type 0} (shows : A → X) (rest : S → List X) where
  pub shows_rest_in_order : EveryRun (TakesFirstOf shows rest) (λ p. ItemsMapTo p shows (rest p.from))
  shows_rest_in_order = from_front (TakesFirstOf shows rest) shows rest (λ s t h. ap length h.0) (λ s x t h. h)

  pub shows_rest_in_reverse : EveryRun (TakesLastOf shows rest) (λ p. ItemsMapToReversed p shows (rest p.from))
  shows_rest_in_reverse = from_back (TakesLastOf shows rest) shows rest (λ s t h. ap length h.0) (λ s x t h. h)

-- Each run shows the values of the pairs that were left.
module _ {A K V : Type 0} (shows : A → K × V) where
  pub shows_values_in_order : ShowsValuesInOrder shows
  shows_values_in_order = from_front (TakesFirst shows) (λ x. (shows x).1) values_of (λ s t h. ap (λ l. length (values_of l)) h.0) (λ s x t h. ap values_of h)

  pub shows_values_in_reverse : ShowsValuesInReverse shows
  shows_values_in_reverse = from_back (TakesLast shows) (λ x. (shows x).1) values_of (λ s t h. ap (λ l. length (values_of l)) h.0) (λ s x t h. ap values_of h ∙ map_push (λ e. e.1) t (shows x))

-- Each run gives the list that was left.
module _ {X : Type 0} where
  pub gives_in_order : GivesInOrder X
  gives_in_order p s = as_is p p.from (shows_in_order (λ x. x) p s)

  pub gives_in_reverse : GivesInReverse X
  gives_in_reverse p s = as_is_back p p.from (shows_in_reverse (λ x. x) p s)

-- A fact about each index of two lists implies the same about the mapped lists.
module _ {A B X Y : Type 0} (R : A → B → Type 0) (S : X → Y → Type 0) (f : A → X) (h : B → Y) (reads : (x : A) (y : B) → R x y → S (f x) (h y)) where
  pub all_zip_mapped : (xs : List A) (ys : List B) → AllZip R xs ys → AllZip S (map f xs) (map h ys)
  all_zip_mapped [] [] z = tt
  all_zip_mapped [] (y ∷ ys) z = absurd z
  all_zip_mapped (x ∷ xs) [] z = absurd z
  all_zip_mapped (x ∷ xs) (y ∷ ys) z = (reads x y z.0, all_zip_mapped xs ys z.1)
