-- A test of every cell's counts says whether all entries' counts are at most so high. Assumes nothing.
use Rattle.std.proofs.Common.{◌≡◌, ℕ, ◌≤◌, Bool, true, ◌&&◌, leb, List, [], ◌∷◌, map, refl}
use Rattle.std.specs.List.{AllByRecursion, list_all}
use Rattle.std.proofs.lemmas.Bool.{and_parts, and_from, leb-true, le-leb}
use Rattle.lent_bytes.specs.Numbers.{be64}
use Rattle.cells.specs.Layout.{entry_of}
use Rattle.cells.specs.Fits.{CountsTo}

module _ (limit : ℕ) where
  abbrev pub is_below : List ℕ → Bool
  is_below c = leb (be64 c 8) limit && leb (be64 c 32) limit

  pub all_below : (cs : List (List ℕ)) → list_all is_below cs ≡ true → AllByRecursion (CountsTo limit) (map entry_of cs)
  unfolding entry_of
  all_below [] h = tt
  all_below (c ∷ cs) h =
      let both = and_parts (is_below c) (list_all is_below cs) h in
      let own = and_parts (leb (be64 c 8) limit) (leb (be64 c 32) limit) both.0 in
      (record { version = leb-true (be64 c 8) limit own.0; kids = leb-true (be64 c 32) limit own.1 }, all_below cs both.1)

  pub below_all : (cs : List (List ℕ)) → AllByRecursion (CountsTo limit) (map entry_of cs) → list_all is_below cs ≡ true
  unfolding entry_of
  below_all [] h = refl
  below_all (c ∷ cs) h =
      rw (le-leb (be64 c 8) limit h.0.version) (rw (le-leb (be64 c 32) limit h.0.kids) (below_all cs h.1))
