-- When an incarnation of a replica was drawn: what was drawn stays so, and no two are of one age.
use Rattle.std.proofs.Common.{◌≡◌, ℕ, suc, ◌<◌, ◌≤◌, true, eqb, List, [], ◌∷◌, length, refl, ap, inl, inr, arith}
use Rattle.std.proofs.lemmas.Bool.Decides.{nat_tests}
use Rattle.std.proofs.lemmas.Bool.{or_left, or_right, eq-eqb}
use Rattle.agreement.specs.Log.{Event, makes, votes, pledges, draws, asks, ask_of, is_used, age_in, top, pledge_of, vote_of, made_of, At, Ok}
use Rattle.agreement.specs.Content.{Service, Proposal, id_of, view_of, leader_of, inc_of}

pub age_below : {sv : Service} (h : List (Event sv)) (s x : ℕ) → age_in h s x ≤ suc (length h)
age_below [] s x = grind (arith, nat_tests)
age_below (draws j y ∷ h) s x = let b = age_below h s x in grind (arith, nat_tests)
age_below (asks j y k n o ∷ h) s x = omega (arith, age_below h s x)
age_below (makes p ∷ h) s x = omega (arith, age_below h s x)
age_below (votes j y p ∷ h) s x = omega (arith, age_below h s x)
age_below (pledges j y v p ∷ h) s x = omega (arith, age_below h s x)

pub age_stays : {sv : Service} (all : ℕ) (h : List (Event sv)) (e : Event sv) → Ok all h e → (s x : ℕ) → 0 < age_in h s x → age_in (e ∷ h) s x ≡ age_in h s x
age_stays all h (draws j y) k s x lt = grind (arith, nat_tests)
age_stays all h (asks j y i n o) k s x lt = refl
age_stays all h (makes p) k s x lt = refl
age_stays all h (votes j y p) k s x lt = refl
age_stays all h (pledges j y v p) k s x lt = refl

pub age_one : {sv : Service} (h : List (Event sv)) (s x y : ℕ) → 0 < age_in h s x → age_in h s x ≡ age_in h s y → x ≡ y
age_one [] s x y lt e = grind (arith, nat_tests)
age_one (draws j z ∷ h) s x y lt e = let a = age_below h s x in let b = age_below h s y in let ih : 0 < age_in h s x → age_in h s x ≡ age_in h s y → x ≡ y = age_one h s x y in grind (arith, nat_tests)
age_one (asks j z k n o ∷ h) s x y lt e = age_one h s x y lt e
age_one (makes p ∷ h) s x y lt e = age_one h s x y lt e
age_one (votes j z p ∷ h) s x y lt e = age_one h s x y lt e
age_one (pledges j z v p ∷ h) s x y lt e = age_one h s x y lt e

pub at_below : {sv : Service} (h : List (Event sv)) (t : ℕ) (e : Event sv) → At h t e → t < length h
at_below [] t e a = absurd a
at_below (x ∷ h) t e (inl (q, n)) = omega arith
at_below (x ∷ h) t e (inr a) = omega (arith, at_below h t e a)

-- nothing is above the top
pub top_at : {sv : Service} (f : Event sv → ℕ) (h : List (Event sv)) (t : ℕ) (e : Event sv) → At h t e → f e ≤ top f h
top_at f [] t e a = absurd a
top_at f (x ∷ h) t e (inl (q, n)) = omega (arith, ap f n)
top_at f (x ∷ h) t e (inr a) = omega (arith, top_at f h t e a)

pub pledge_top : {sv : Service} (h : List (Event sv)) (t s x v : ℕ) (p : Proposal sv) → At h t (pledges s x v p) → v ≤ top (pledge_of s x) h
pledge_top h t s x v p a = let b = top_at (pledge_of s x) h t (pledges s x v p) a in grind (arith, nat_tests)

pub vote_top : {sv : Service} (h : List (Event sv)) (t s x : ℕ) (p : Proposal sv) → At h t (votes s x p) → id_of p ≤ top (vote_of s x) h
vote_top h t s x p a = let b = top_at (vote_of s x) h t (votes s x p) a in grind (arith, nat_tests)

pub made_top : {sv : Service} (h : List (Event sv)) (t s x : ℕ) (p : Proposal sv) → leader_of (view_of p) ≡ s → inc_of (view_of p) ≡ x → At h t (makes p) → id_of p < top (made_of s x) h
made_top h t s x p l i a = let b = top_at (made_of s x) h t (makes p) a in grind (arith, nat_tests)

-- a call of an incarnation is known by its place among that one's calls
pub ask_top : {sv : Service} (h : List (Event sv)) (t s x k n : ℕ) (o : sv.O) → At h t (asks s x k n o) → k ≤ top (ask_of s x) h
ask_top h t s x k n o a = let b = top_at (ask_of s x) h t (asks s x k n o) a in grind (arith, nat_tests)

-- and by its number
pub used_at : {sv : Service} (h : List (Event sv)) (t s x k n : ℕ) (o : sv.O) → At h t (asks s x k n o) → is_used n h ≡ true
used_at [] t s x k n o a = absurd a
used_at (draws j y ∷ h) t s x k n o (inl (q, e)) = absurd (let z : ◌≡◌ {A = ℕ} 0 1 = cc in omega arith)
used_at (draws j y ∷ h) t s x k n o (inr a) = used_at h t s x k n o a
used_at (asks j y i m p ∷ h) t s x k n o (inl (q, e)) = or_left (eqb n m) (is_used n h) (eq-eqb n m (let z : n ≡ m = cc in z))
used_at (asks j y i m p ∷ h) t s x k n o (inr a) = or_right (eqb n m) (is_used n h) (used_at h t s x k n o a)
used_at (makes p ∷ h) t s x k n o (inl (q, e)) = absurd (let z : ◌≡◌ {A = ℕ} 0 1 = cc in omega arith)
used_at (makes p ∷ h) t s x k n o (inr a) = used_at h t s x k n o a
used_at (votes j y p ∷ h) t s x k n o (inl (q, e)) = absurd (let z : ◌≡◌ {A = ℕ} 0 1 = cc in omega arith)
used_at (votes j y p ∷ h) t s x k n o (inr a) = used_at h t s x k n o a
used_at (pledges j y v p ∷ h) t s x k n o (inl (q, e)) = absurd (let z : ◌≡◌ {A = ℕ} 0 1 = cc in omega arith)
used_at (pledges j y v p ∷ h) t s x k n o (inr a) = used_at h t s x k n o a
