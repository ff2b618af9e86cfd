-- Bytes that are just so many acts: as the call `do` they stand for those acts. Assumes nothing.
use Rattle.std.proofs.Common.{◌≡◌, ℕ, List, [], Some, None, Option, ap, arith}
use Rattle.model.specs.Tree.{Act}
use Rattle.calls.specs.Format.{and_then, wholly, past, rest, act_at, acts_at}
use Rattle.calls.specs.Reading.{acts_or, acts_in}

pub acts_whole : (n : ℕ) (xs : List ℕ) → past act_at n xs ≡ Some [] → and_then (acts_at n xs) wholly ≡ Some (acts_in n xs)
acts_whole n xs e = go (acts_at n xs) e
  where
    go : (o : Option (List Act × List ℕ)) → rest o ≡ Some [] → and_then o wholly ≡ Some (acts_or o)
    go None h = absurd (let z : ◌≡◌ {A = ℕ} 0 1 = cc in omega arith)
    go (Some r) h = let s : r.1 ≡ [] = cc in ap (λ (l : List ℕ). wholly (r.0, l)) s
