-- ONE LINE: what is agreed on, over every run.
use Rattle.std.specs.Prelude.{◌≡◌, ℕ, ◌<◌, ◌≤◌, Bool, true, ◌⊎◌, List, length}
use mathlib.Core.List.{Memᴰ}
use Rattle.runs.specs.Replicas.{Letter, Scene, Seen, Goes, there}
use Rattle.agreement.specs.declared.View.{View}
use Rattle.agreement.specs.Facts.{Chosen, Line}
use Rattle.agreement.specs.Content.{Service, Proposal, id_of, place_at, roster}
use Rattle.agreement.specs.Log.{Event, Log, Base, world}
use Rattle.agreement.specs.Machine.{Msg, Propose, Promise, Mind, accepted, is_member, code}

-- a replica holds p, or a letter brings it
pub data Found {sv : Service} (all : ℕ) (s : Scene (Mind sv) (Msg sv)) (p : Proposal sv) : Type 0 where
  held : (i : ℕ) (m : Mind sv) → i < all → s.house i ≡ there m → accepted m ≡ p → Found all s p
  brought : (l : Letter (Msg sv)) (c : Bool) → Memᴰ l s.letters → l.word ≡ Propose p c → Found all s p
  reported' : (l : Letter (Msg sv)) (v : View) (x : ℕ) → Memᴰ l s.letters → l.word ≡ Promise v x p → Found all s p

-- a replica or a letter says that p is chosen
pub data Told {sv : Service} (all : ℕ) (s : Scene (Mind sv) (Msg sv)) (p : Proposal sv) : Type 0 where
  known' : (i : ℕ) (m : Mind sv) → i < all → s.house i ≡ there m → accepted m ≡ p → m.agreement.chosen ≡ true → Told all s p
  said : (l : Letter (Msg sv)) → Memᴰ l s.letters → l.word ≡ Propose p true → Told all s p

-- chosen by now
abbrev pub IsChosen : {sv : Service} → (all : ℕ) → List (Event sv) → Proposal sv → Type 0
IsChosen all h p = Chosen (world all h) (length h) p

-- Over a history h: what is said to be chosen is; any two that are chosen are in one line, each made of the one before by one job or none; whatever is chosen is in the line of every
-- higher proposal that there is; each that there is has the content of a chosen one, and at most one job more; and along a line, as long as an incarnation stands in a place, the number of its calls that were done does not fall, so that none is done twice.
pub record Accord {sv : Service} (all : ℕ) (h : List (Event sv)) (s : Scene (Mind sv) (Msg sv)) : Type 0 where
  pub log : Log all h
  pub told : (p : Proposal sv) → Told all s p → IsChosen all h p
  pub one : (p q : Proposal sv) → IsChosen all h p → IsChosen all h q → Line (world all h) p q ⊎ Line (world all h) q p
  pub above : (p q : Proposal sv) → IsChosen all h p → Found all s q → id_of p < id_of q → Line (world all h) p q
  pub base : (p : Proposal sv) → Found all s p → Base all h p
  pub calls : (p q : Proposal sv) → Line (world all h) p q → (i : ℕ) → roster p i ≡ roster q i → (place_at p i).no ≤ (place_at q i).no

abbrev pub OneLine : Service → Type 0
OneLine sv = (all n : ℕ) → all ≤ 7 → (es : List (Seen sv.O sv.R)) (s : Scene (Mind sv) (Msg sv)) → Goes (code sv) all n es s → (h : List (Event sv)) × Accord all h s

-- A member is named by every proposal that is at or above the one by which it became a member (w is the id of that), so by the one that it holds
abbrev pub MemberIsNamed : Service → Type 0
MemberIsNamed sv =
    (all n : ℕ) → all ≤ 7 → (es : List (Seen sv.O sv.R)) (s : Scene (Mind sv) (Msg sv)) → Goes (code sv) all n es s → (i : ℕ) (m : Mind sv) → i < all → s.house i ≡ there m → is_member m.agreement.role ≡ true →
    (w : ℕ) × (w ≤ id_of (accepted m)) × ((p : Proposal sv) → Found all s p → w ≤ id_of p → roster p i ≡ m.agreement.incarnation)
