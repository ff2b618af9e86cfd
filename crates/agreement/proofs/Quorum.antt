use Rattle.std.proofs.Common.{◌≡◌, ℕ, zero, suc, ◌+◌, ◌<◌, ◌≤◌, Bool, true, false, cond, ◌⊎◌, refl, inl, inr, arith}
use Rattle.runs.specs.Replicas.{how_many}
use Rattle.agreement.specs.Quorum.{QuorumsMeet}

abbrev Both : (f g : ℕ → Bool) → ℕ → Type 0
Both f g n = (i : ℕ) × (i < n) × (f i ≡ true) × (g i ≡ true)

-- either they meet below n, or together they have at most n
meet_or : (f g : ℕ → Bool) (n : ℕ) → Both f g n ⊎ (how_many n f + how_many n g ≤ n)
unfolding how_many
meet_or f g zero = inr (omega arith)
meet_or f g (suc n) = go (f n) (g n) refl refl (meet_or f g n)
  where
    go : (x y : Bool) → f n ≡ x → g n ≡ y → Both f g n ⊎ (how_many n f + how_many n g ≤ n) →
        Both f g (suc n) ⊎ (cond (f n) (1 + how_many n f) (how_many n f) + cond (g n) (1 + how_many n g) (how_many n g) ≤ suc n)
    go x y p q (inl b) = inl (b.0, omega arith, b.2, b.3)
    go true true p q (inr h) = inl (n, omega arith, p, q)
    go true false p q (inr h) = inr (rw (p, q) (omega arith))
    go false true p q (inr h) = inr (rw (p, q) (omega arith))
    go false false p q (inr h) = inr (rw (p, q) (omega arith))

pub quorums : QuorumsMeet
quorums all f g hf hg = go (meet_or f g all)
  where
    go : Both f g all ⊎ (how_many all f + how_many all g ≤ all) → Both f g all
    go (inl b) = b
    go (inr h) = absurd (omega arith)
