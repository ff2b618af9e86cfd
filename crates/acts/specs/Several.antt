-- Where the tree stands while several acts are done, in two buffers in turn. Assumes nothing.
use Rattle.std.specs.Prelude.{◌≡◌, ℕ, false, List, [], ◌∷◌, ◌++◌, length, Ok, Err, Result}
use Rattle.model.specs.Tree.{Path, State, Step, Bad, Good, Act, Make, Put, Drop, Check, Out, No, Done, Failed, Fine, all_of, onward}
use Rattle.cells.specs.Layout.{Holds, state_of}
use Rattle.cells.specs.Drafts.{drafting, Drafts}
use Rattle.tree.specs.declared.refusal.Refusal.{Refusal}
use Rattle.tree.specs.Answers.{reason, made_by}
use Rattle.acts.specs.declared.several.Stands.{Stands}
use Rattle.acts.specs.declared.several.Stands.TheVariants as at
use Rattle.acts.specs.declared.several.Refused.{Refused}

-- the state that stands, of the last tree and the two buffers with their places
abbrev pub standing : Stands → (mem ps left lefts right rights : List ℕ) → State
standing at.Last mem ps left lefts right rights = state_of mem ps
standing (at.Left z) mem ps left lefts right rights = drafting left lefts z
standing (at.Right z) mem ps left lefts right rights = drafting right rights z

-- memory holds it
abbrev pub StandsIn : Stands → (mem ps left lefts right rights : List ℕ) → Type 0
StandsIn at.Last mem ps left lefts right rights = Holds mem ps
StandsIn (at.Left z) mem ps left lefts right rights = Drafts left lefts z
StandsIn (at.Right z) mem ps left lefts right rights = Drafts right rights z

-- what one act did
abbrev pub step_at : List Path → Result Stands Refusal → (mem ps left lefts right rights : List ℕ) → Step
step_at qs (Ok s) mem ps left lefts right rights = Good qs (standing s mem ps left lefts right rights)
step_at qs (Err k) mem ps left lefts right rights = Bad (reason k)

-- an act that asks for no number behind its name
abbrev pub Plain : Act → Type 0
Plain (Make p v n o) = n ≡ false
Plain (Put p v x) = Unit {0}
Plain (Drop p x) = Unit {0}
Plain (Check p x) = Unit {0}

-- the paths that acts make
unfoldable pub made_all : List Act → List Path
made_all [] = []
made_all (a ∷ as') = made_by a ++ made_all as'

-- what a call of several acts answers and leaves
abbrev pub ran_of : List Path → Result Stands Refused → (mem ps left lefts right rights : List ℕ) → Out
ran_of qs (Ok s) mem ps left lefts right rights = record { reply = Done qs; state = standing s mem ps left lefts right rights }
ran_of qs (Err k) mem ps left lefts right rights = record { reply = No k.act (reason k.refusal); state = state_of mem ps }

-- how many bytes of values an act brings
abbrev pub brought : Act → ℕ
brought (Make p v n o) = length v
brought (Put p v x) = length v
brought (Drop p x) = 0
brought (Check p x) = 0

-- what so many acts came to: the first that was refused, or the tree afterwards, with one change more
abbrev pub Ran : ℕ → List Act → Result Stands Refused → (mem ps left lefts right rights : List ℕ) → Type 0
Ran room all (Ok s) mem ps left lefts right rights =
    (n : ℕ) × (t : State) × (all_of room all (Fine 0 [] (state_of mem ps)) ≡ Fine n (made_all all) t) × (standing s mem ps left lefts right rights ≡ onward t)
Ran room all (Err k) mem ps left lefts right rights = all_of room all (Fine 0 [] (state_of mem ps)) ≡ Failed k.act (reason k.refusal)
