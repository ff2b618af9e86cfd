-- What a turn says, as headers: the list that an outbox is, and what a leader or a candidate says to all others, as the machine has it.
use Rattle.std.specs.Prelude.{ℕ, zero, suc, ◌<◌, cond, ◌||◌, List, [], ◌∷◌, ◌++◌, get_or, take, is_some, Some, None, Option, ◌==◌, slice_index_or}
use Rattle.agreement.specs.declared.Agreement.{Agreement}
use Rattle.agreement.specs.Content.{fresh_place}
use Rattle.agreement.specs.Machine.{counts}
use Rattle.outbox.specs.declared.Word.{Word}
use Rattle.outbox.specs.declared.Word.TheVariants as word
use Rattle.outbox.specs.declared.Deed.{Deed}
use Rattle.outbox.specs.declared.Deed.TheVariants as deed
use Rattle.outbox.specs.declared.Outbox.{Outbox}

abbrev pub list_of : Outbox → List Deed
list_of o = take o.count o.deeds

-- what is said to the replica j, if there is something to say
abbrev pub said : ℕ → Option Word → List Deed
said j None = []
said j (Some w) = deed.Say j w ∷ []

-- to each of the first n replicas
unfoldable pub eachOf : ℕ → (ℕ → List Deed) → List Deed
eachOf zero f = []
eachOf (suc n) f = eachOf n f ++ f n

-- what a leader says to the replica j: that it still leads, if j answered for what it holds; else what it holds
abbrev pub aliveBy : Agreement → ℕ → Word
aliveBy a j = word.Alive a.accepted a.chosen (get_or a.places j (fresh_place 0)).incarnation

abbrev pub word_by : Agreement → ℕ → Word
word_by a j = cond (is_some (slice_index_or a.votes j None)) (aliveBy a j) (word.Propose a.chosen)

abbrev pub tellBy : Agreement → ℕ → List Deed
tellBy a j = cond (j == a.me) [] (deed.Say j (word_by a j) ∷ [])

abbrev pub tellAllBy : Agreement → List Deed
tellAllBy a = eachOf a.all (tellBy a)

-- a candidate asks each replica whose promise it does not have
abbrev pub askBy : Agreement → ℕ → List Deed
askBy a j = cond (j == a.me || counts a.votes a.places j) [] (deed.Say j (word.Prepare a.promised) ∷ [])

abbrev pub askAllBy : Agreement → List Deed
askAllBy a = eachOf a.all (askBy a)

-- the replica whose job it was hears that it is chosen
abbrev pub tellDoneBy : Agreement → Option ℕ → List Deed
tellDoneBy a None = []
tellDoneBy a (Some j) = cond (j == a.me) [] (deed.Say j (aliveBy a j) ∷ [])

-- a replica that there is, if any
abbrev pub Below : Option ℕ → Type 0
Below None = Unit {0}
Below (Some j) = j < 7
