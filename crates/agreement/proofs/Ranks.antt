-- Views as numbers: the first is 0, the leader and its incarnation can be read off, and a view of a higher number is higher.
use Rattle.std.proofs.Common.{◌≡◌, ℕ, suc, ◌<◌, ◌≤◌, refl, arith}
use Rattle.agreement.specs.declared.View.{View}
use Rattle.agreement.specs.Content.{limit, rank, first_view, leader_of, inc_of, FitView}

pub rank_first : rank first_view ≡ 0
unfolding rank
rank_first = refl

pub rank_leader : (n i x : ℕ) → i < 8 → x < limit → leader_of (rank (record { number = n; leader = i; incarnation = x })) ≡ i
unfolding rank
rank_leader n i x a b = omega arith

pub rank_incarnation : (n i x : ℕ) → x < limit → inc_of (rank (record { number = n; leader = i; incarnation = x })) ≡ x
unfolding rank
rank_incarnation n i x b = omega arith

pub rank_above : (all i x : ℕ) (v : View) → all ≤ 7 → FitView all v → rank v < rank (record { number = suc v.number; leader = i; incarnation = x })
unfolding rank
rank_above all i x v s f = omega (arith, f.leader, f.incarnation)
