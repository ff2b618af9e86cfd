-- THE STAGES of the schedule by which a group gets on: what holds of a scene when one of the group has come to lead, and what numbers have to be bounded for that. Each stage is what the next one begins with.
use Rattle.std.proofs.Common.{◌≡◌, ℕ, suc, ◌+◌, ◌*◌, ◌<◌, ◌≤◌, true, false, List, ◌++◌, length, None, arith}
use mathlib.Core.List.{Memᴰ}
use Rattle.runs.specs.Replicas.{Letter, Scene, Seen, there}
use Rattle.runs.specs.Progress.{Among}
use Rattle.agreement.specs.declared.View.{View}
use Rattle.agreement.specs.declared.Role.TheVariants.{Follower, Leader}
use Rattle.agreement.specs.Content.{Service, Proposal, id_of, seven}
use Rattle.agreement.specs.Machine.{Msg, Propose, Mind, accepted, own_vote, code}
use Rattle.agreement.specs.Steady.{Steady}

-- The numbers of a group's replicas are at most b: views promised and held, calls answered and waiting; and no state is larger than b calls make it. A beat at which one stands, and a job that is done, could break it.
pub record Low {sv : Service} (st : Steady sv) (all : ℕ) (group : List ℕ) (b : ℕ) (s : Scene (Mind sv) (Msg sv)) : Type 0 where
  pub views : (i : ℕ) (m : Mind sv) → i < all → Memᴰ i group → s.house i ≡ there m → m.agreement.promised.number ≤ b
  pub held : (i : ℕ) (m : Mind sv) → i < all → Memᴰ i group → s.house i ≡ there m → m.agreement.accepted.view.number ≤ b
  pub calls : (i : ℕ) (m : Mind sv) → i < all → Memᴰ i group → s.house i ≡ there m → m.agreement.no + length m.waiting ≤ b
  pub sizes : (i : ℕ) (m : Mind sv) → i < all → Memᴰ i group → s.house i ≡ there m → st.size m.state ≤ 64 * b

-- larger numbers are allowed
pub low_more : {sv : Service} {st : Steady sv} {all : ℕ} {group : List ℕ} {b d : ℕ} {t : Scene (Mind sv) (Msg sv)} → b ≤ d → Low st all group b t → Low st all group d t
low_more le l =
    record { views = λ i m il ig e. omega (arith, l.views i m il ig e); held = λ i m il ig e. omega (arith, l.held i m il ig e); calls = λ i m il ig e. omega (arith, l.calls i m il ig e); sizes = λ i m il ig e. omega (arith, l.sizes i m il ig e) }

-- the replica j follows the view v, and holds nothing above p
pub record Follows {sv : Service} (st : Steady sv) (b : ℕ) (v : View) (p : Proposal sv) (t : Scene (Mind sv) (Msg sv)) (j : ℕ) : Type 0 where
  pub mind : Mind sv
  pub up : t.house j ≡ there mind
  pub role : mind.agreement.role ≡ Follower
  pub promised : mind.agreement.promised ≡ v
  pub below : id_of (accepted mind) ≤ id_of p
  pub held : mind.agreement.accepted.view.number ≤ b
  pub size : st.size mind.state ≤ 64 * b

-- the view that the replica i, as the incarnation x, stands for above all views up to b
abbrev pub view_above : (b i x : ℕ) → View
view_above b i x = record { number = suc b; leader = i; incarnation = x }

-- ELECTED: from the scene s, in which the replica i has the mind m, the group came to the scene t, in which i leads the view above b, with a copy of the highest proposal that it was told of, which is not chosen yet and which it has offered to all others.
-- Those of the group that are whole follow it; those that are frail did nothing.
pub record Elected {sv : Service} (st : Steady sv) (all : ℕ) (group : List ℕ) (b : ℕ) (s : Scene (Mind sv) (Msg sv)) (i : ℕ) (m : Mind sv) : Type 0 where
  pub seen : List (Seen sv.O sv.R)
  pub scene : Scene (Mind sv) (Msg sv)
  pub among : Among (code sv) all group s seen scene
  pub new : List (Letter (Msg sv))
  pub posts : scene.letters ≡ new ++ s.letters
  pub frail : (j : ℕ) → scene.frail j ≡ s.frail j
  pub mind : Mind sv
  pub up : scene.house i ≡ there mind
  pub role : mind.agreement.role ≡ Leader
  pub incarnation : mind.agreement.incarnation ≡ m.agreement.incarnation
  pub promised : mind.agreement.promised ≡ view_above b i m.agreement.incarnation
  pub view : mind.agreement.accepted.view ≡ view_above b i m.agreement.incarnation
  pub seq : mind.agreement.accepted.seq ≡ 0
  pub chosen : mind.agreement.chosen ≡ false
  pub votes : mind.agreement.votes ≡ own_vote mind.agreement
  pub patience : mind.agreement.patience ≡ 6
  pub job : mind.agreement.job ≡ None
  pub joins : mind.agreement.joins ≡ seven None
  pub calls : mind.calls ≡ seven None
  pub no : mind.agreement.no ≡ m.agreement.no
  pub waiting : mind.waiting ≡ m.waiting
  pub size : st.size mind.state ≤ 64 * suc b
  pub told : (j : ℕ) → j < all → (j ≡ i → ⊥) → Memᴰ (record { by = i; to = j; word = Propose (accepted mind) false }) new
  pub voters : (j : ℕ) → j < all → Memᴰ j group → s.frail j ≡ false → (j ≡ i → ⊥) → Follows st (suc b) mind.agreement.promised (accepted mind) scene j
  pub others : (j : ℕ) → s.frail j ≡ true → scene.house j ≡ s.house j
