-- From the facts of votes and pledges: what was chosen is in the line of every later proposal.
use Rattle.std.proofs.Common.{◌≡◌, ℕ, zero, suc, ◌<◌, ◌≤◌, ◌⊎◌, ap, subst, inl, inr, arith}
use mathlib.Core.Logic.{⊎_swap}
use Rattle.std.proofs.lemmas.Bool.{cases_lt, cases_order}
use Rattle.agreement.specs.Facts.{World, Quorum, VoteBy, Chosen, at_first, by_votes, Welcome, Line, here, onward, Origin, is_root, is_next, is_first, Facts, ChosenInLine}
use Rattle.agreement.proofs.Quorum.{quorums}

-- two quorums share a replica
meet : {all : ℕ} {A B : ℕ → Type 0} → Quorum all A → Quorum all B → (s : ℕ) × A s × B s
meet {all} a b = let i = quorums all a.who b.who a.most b.most in (i.0, a.each i.0 i.2, b.each i.0 i.3)

cases_le : (m n : ℕ) → (m ≤ n) ⊎ (n < m)
cases_le m n = ⊎_swap (cases_lt n m)

module _ (w : World) (f : Facts w) where
  -- the roster only gets younger along a line
  pub grows : {c p : w.P} → Line w c p → (s : ℕ) → w.age s (w.roster c s) ≤ w.age s (w.roster p s)
  grows here s = omega arith
  grows (onward {q = q} {p = p} l e) s = omega (arith, grows l s, f.older q p e s)

  chosen_made : {t : ℕ} {c : w.P} → Chosen w t c → w.Made c
  chosen_made at_first = f.root_made
  chosen_made (by_votes m q) = m

  -- what is to be shown of all proposals below n
  abbrev Below : ℕ → Type 0
  Below n = (t : ℕ) (c p : w.P) → Chosen w t c → w.Made p → w.id p < n → w.id c < w.id p → Line w c p

  -- the same with c and p perhaps the same
  up_to : (n : ℕ) → Below n → (t : ℕ) (c p : w.P) → Chosen w t c → w.Made p → w.id p < n → w.id c ≤ w.id p → Line w c p
  up_to n ih t c p k m h le = go (cases_lt (w.id c) (w.id p))
    where
      go : (w.id c < w.id p) ⊎ (w.id p ≤ w.id c) → Line w c p
      go (inl lt) = ih t c p k m h lt
      go (inr ge) = subst (λ (q : w.P). Line w c q) (f.once c p (chosen_made k) m (omega arith)) here

  -- p is the first of its view, from m; nothing between m and p was chosen: by induction on the time of the choice
  module _ (p m : w.P) (made : w.Made m) (ih : Below (w.id p)) (mv : w.view m < w.view p)
      (low : (c : w.P) → w.id c < w.id p → w.view c < w.view p)
      (q : Quorum w.all (λ s. (r : w.P) × w.Pledge s (w.roster m s) (w.view p) r × (w.id r ≤ w.id m))) where
    -- a replica that is in both quorums; again: nothing that was chosen earlier lies between
    clash : (t s : ℕ) (c : w.P) → ((u : ℕ) (b : w.P) → u < t → Chosen w u b → w.id b < w.id p → w.id m < w.id b → ⊥) → w.Made c → w.id c < w.id p → w.id m < w.id c →
        (r : w.P) × w.Pledge s (w.roster m s) (w.view p) r × (w.id r ≤ w.id m) → VoteBy w t s (w.roster c s) c → ⊥
    clash t s c again k below above (r, pl, le) (u, lt, v) = go (cases_order (w.age s (w.roster m s)) (w.age s (w.roster c s)))
      where
        y : Welcome w u s (w.roster c s) c
        y = f.voter u s (w.roster c s) c v

        x : (t : ℕ) × Welcome w t s (w.roster m s) r
        x = f.pledger s (w.roster m s) (w.view p) r pl

        -- y was welcomed above m, or is in m's roster
        early : (w.id y.by ≤ w.id m) ⊎ (w.id m < w.id y.by) → w.age s (w.roster m s) < w.age s (w.roster c s) → ⊥
        early (inl h) o = omega (arith, grows (up_to (w.id p) ih u y.by m y.chosen made (omega arith) h) s, ap (w.age s) y.named)
        early (inr h) o = again u y.by lt y.chosen (omega (arith, y.below)) h

        go : (w.age s (w.roster m s) ≡ w.age s (w.roster c s)) ⊎ ((w.age s (w.roster m s) < w.age s (w.roster c s)) ⊎ (w.age s (w.roster c s) < w.age s (w.roster m s))) → ⊥
        go (inl e) = omega (arith, low c below, f.reports u s (w.roster c s) (w.view p) c r v (rw (f.apart m c made k s e) at pl))
        go (inr (inl o)) = early (cases_le (w.id y.by) (w.id m)) o
        go (inr (inr o)) = omega (arith, grows (ih x.0 x.1.by c x.1.chosen k below (omega (arith, x.1.below))) s, ap (w.age s) x.1.named)

    between : (d t : ℕ) (c : w.P) → t ≤ d → Chosen w t c → w.id c < w.id p → w.id m < w.id c → ⊥
    between d t c h at_first below above = omega (arith, f.root_least m)
    between zero t c h (by_votes k votes) below above = let i = meet q votes in omega (arith, i.2.1)
    between (suc d) t c h (by_votes k votes) below above = let i = meet q votes in clash t i.0 c (λ u b lt. between d u b (omega arith)) k below above i.1 i.2

  -- a first proposal has all that was chosen below it in its line
  first_has : (p m : w.P) → w.Made m → Below (w.id p) → w.From m p → w.view m < w.view p → ((c : w.P) → w.id c < w.id p → w.view c < w.view p) →
      Quorum w.all (λ s. (r : w.P) × w.Pledge s (w.roster m s) (w.view p) r × (w.id r ≤ w.id m)) → (t : ℕ) (c : w.P) → Chosen w t c → w.id c < w.id p → Line w c p
  first_has p m made ih e mv low q t c k lt = go (cases_le (w.id c) (w.id m))
    where
      less : w.id m < w.id p
      less = go' (cases_lt (w.id m) (w.id p))
        where
          go' : (w.id m < w.id p) ⊎ (w.id p ≤ w.id m) → w.id m < w.id p
          go' (inl h) = h
          go' (inr h) = absurd (omega (arith, f.view_up p m h))

      go : (w.id c ≤ w.id m) ⊎ (w.id m < w.id c) → Line w c p
      go (inl h) = onward (up_to (w.id p) ih t c m k made less h) e
      go (inr h) = absurd (between p m made ih mv low q t t c (omega arith) k lt h)

  by_origin : (p : w.P) → Below (w.id p) → Origin w p → (t : ℕ) (c : w.P) → Chosen w t c → w.id c < w.id p → Line w c p
  by_origin p ih (is_root e) t c k lt = absurd (omega (arith, f.root_least c, ap w.id e))
  by_origin p ih (is_next q made last e same up) t c k lt = onward (up_to (w.id p) ih t c q k made (omega arith) (omega arith)) e
  by_origin p ih (is_first m made e mv low q) t c k lt = first_has p m made ih e mv low q t c k lt

  below : (n : ℕ) → Below n
  below zero t c p k m h lt = absurd (omega arith)
  below (suc n) t c p k m h lt = by_origin p (λ t c q k m h'. below n t c q k m (omega arith)) (f.origin p m) t c k lt

  -- the highest report that a first proposal is made of is as high as all that was chosen below it
  pub first_above : (p m : w.P) → w.Made m → w.view m < w.view p → ((c : w.P) → w.id c < w.id p → w.view c < w.view p) → Quorum w.all (λ s. (r : w.P) × w.Pledge s (w.roster m s) (w.view p) r × (w.id r ≤ w.id m)) → (t : ℕ) (c : w.P) → Chosen w t c → w.id c < w.id p → w.id c ≤ w.id m
  first_above p m made mv low q t c k lt = go (cases_le (w.id c) (w.id m))
    where
      go : (w.id c ≤ w.id m) ⊎ (w.id m < w.id c) → w.id c ≤ w.id m
      go (inl o) = o
      go (inr o) = absurd (between p m made (below (w.id p)) mv low q t t c (omega arith) k lt o)

  pub agreement : ChosenInLine w
  agreement t c p k m lt = below (suc (w.id p)) t c p k m (omega arith) lt
