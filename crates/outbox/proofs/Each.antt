-- What is said to each of the first replicas, one more at a time.
use Rattle.std.proofs.Common.{◌≡◌, ℕ, ◌+◌, List, ◌++◌, sym, ◌∙◌, append_assoc, add-one}
use Rattle.std.proofs.lemmas.List.{append-nil}
use Rattle.outbox.specs.declared.Deed.{Deed}
use Rattle.outbox.specs.Deeds.{eachOf}

pub each_none : (xs : List Deed) (f : ℕ → List Deed) → xs ≡ xs ++ eachOf 0 f
unfolding eachOf
each_none xs f = sym (append-nil xs)

pub each_more : (n : ℕ) (xs ys zs ds : List Deed) (f : ℕ → List Deed) → ys ≡ xs ++ eachOf n f → zs ≡ ys ++ ds → ds ≡ f n → zs ≡ xs ++ eachOf (n + 1) f
unfolding eachOf
each_more n xs ys zs ds f a b c = rw add-one (b ∙ (λ i. a i ++ c i) ∙ append_assoc xs (eachOf n f) (f n))
