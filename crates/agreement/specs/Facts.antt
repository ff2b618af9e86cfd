-- What an agreement among replicas that forget rests on: facts about proposals, votes and pledges, and what follows from them.
use Rattle.std.specs.Prelude.{◌≡◌, ℕ, suc, ◌*◌, ◌<◌, ◌≤◌, Bool, true, ◌⊎◌}
use Rattle.runs.specs.Replicas.{how_many}

-- id: the place of a proposal in the order of all; view: whose it is; roster: the incarnation that votes for a replica; age: which of two incarnations of a replica is younger
-- Vote t s x p: at the time t the incarnation x of the replica s accepted p; Pledge s x v r: it promised v, and reported r
pub record World : Type 1 where
  pub P : Type 0
  pub all : ℕ
  pub root : P
  pub id : P → ℕ
  pub view : P → ℕ
  pub roster : P → ℕ → ℕ
  pub age : (s x : ℕ) → ℕ
  -- From q p: p was made of q by a step
  pub From : P → P → Type 0
  pub Made : P → Type 0
  pub Vote : (t s x : ℕ) → P → Type 0
  pub Pledge : (s x v : ℕ) → P → Type 0

-- more than half of the replicas
pub record Quorum (all : ℕ) (Q : ℕ → Type 0) : Type 0 where
  pub who : ℕ → Bool
  pub most : all < 2 * how_many all who
  pub each : (s : ℕ) → who s ≡ true → Q s

-- before a time t
abbrev pub VoteBy : (w : World) → (t s x : ℕ) → w.P → Type 0
VoteBy w t s x p = (u : ℕ) × (u < t) × w.Vote u s x p

pub data Chosen (w : World) (t : ℕ) : w.P → Type 0 where
  at_first : Chosen w t w.root
  by_votes : {c : w.P} → w.Made c → Quorum w.all (λ s. VoteBy w t s (w.roster c s) c) → Chosen w t c

-- a chosen proposal, by which the incarnation x of the replica s was welcomed before t, at or below p
pub record Welcome (w : World) (t s x : ℕ) (p : w.P) : Type 0 where
  pub by : w.P
  pub chosen : Chosen w t by
  pub named : w.roster by s ≡ x
  pub below : w.id by ≤ w.id p

pub data Line (w : World) (c : w.P) : w.P → Type 0 where
  here : Line w c c
  onward : {q p : w.P} → Line w c q → w.From q p → Line w c p

-- how a proposal came about: it is the first of all; the next of its view, made when the one before was chosen; or the first of its view, from the highest report of a quorum
pub data Origin (w : World) (p : w.P) : Type 0 where
  is_root : p ≡ w.root → Origin w p
  is_next : (q : w.P) → w.Made q → (t : ℕ) × Chosen w t q → w.From q p → w.view q ≡ w.view p → w.id p ≡ suc (w.id q) → Origin w p
  is_first : (m : w.P) → w.Made m → w.From m p → w.view m < w.view p → ((c : w.P) → w.id c < w.id p → w.view c < w.view p) →
      Quorum w.all (λ s. (r : w.P) × w.Pledge s (w.roster m s) (w.view p) r × (w.id r ≤ w.id m)) → Origin w p

pub record Facts (w : World) : Type 0 where
  pub root_made : w.Made w.root
  pub root_least : (p : w.P) → w.id w.root ≤ w.id p
  pub view_up : (p q : w.P) → w.id p ≤ w.id q → w.view p ≤ w.view q
  pub once : (p q : w.P) → w.Made p → w.Made q → w.id p ≡ w.id q → p ≡ q
  pub origin : (p : w.P) → w.Made p → Origin w p
  pub older : (q p : w.P) → w.From q p → (s : ℕ) → w.age s (w.roster q s) ≤ w.age s (w.roster p s)
  pub apart : (q p : w.P) → w.Made q → w.Made p → (s : ℕ) → w.age s (w.roster q s) ≡ w.age s (w.roster p s) → w.roster q s ≡ w.roster p s
  -- who voted for c and promised v: voted later, or reported as much
  pub reports : (t s x v : ℕ) (c r : w.P) → w.Vote t s x c → w.Pledge s x v r → (v ≤ w.view c) ⊎ (w.id c ≤ w.id r)
  -- votes and pledges are of members only
  pub voter : (t s x : ℕ) (c : w.P) → w.Vote t s x c → Welcome w t s x c
  pub pledger : (s x v : ℕ) (r : w.P) → w.Pledge s x v r → (t : ℕ) × Welcome w t s x r

-- chosen proposals are in the line of every later one
abbrev pub ChosenInLine : World → Type 0
ChosenInLine w = (t : ℕ) (c p : w.P) → Chosen w t c → w.Made p → w.id c < w.id p → Line w c p
