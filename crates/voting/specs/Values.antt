-- What the machine reads off the part of a mind that is by value. Each is the machine's own definition, of that part alone.
use Rattle.std.specs.Prelude.{ℕ, suc, ◌-◌, ◌*◌, ◌<◌, ◌≤◌, Bool, false, cond, ◌&&◌, ◌||◌, ◌==◌, nat_lt, slice_index_or}
use Rattle.runs.specs.Replicas.{how_many}
use Rattle.agreement.specs.declared.Agreement.{Agreement}
use Rattle.agreement.specs.Content.{limit, seven}
use Rattle.agreement.specs.Machine.{is_leader, keeping_time, patience_of}

-- who it is, how many there are, and the leader of its view
pub record Able (a : Agreement) : Type 0 where
  pub me : a.me < a.all
  pub few : a.all ≤ 7
  pub leader : a.promised.leader < a.all

-- a leader heard more than half
abbrev pub is_heard : Agreement → ℕ → Bool
is_heard a j = j == a.me || slice_index_or a.heard j false

abbrev pub heard_most_by : Agreement → Bool
heard_most_by a = is_leader a.role && nat_lt a.all (2 * how_many a.all (is_heard a))

-- a tick
abbrev pub ticked_by : Agreement → Agreement
ticked_by a = keeping_time (cond (heard_most_by a) (patience_of a - 1) (a.patience - 1)) (cond (heard_most_by a) (seven false) a.heard) a

-- it is out of patience, and its view's number fits
abbrev pub may_stand_by : Agreement → Bool
may_stand_by a = (a.patience == 0 && nat_lt 1 a.all) && nat_lt (suc a.promised.number) limit
