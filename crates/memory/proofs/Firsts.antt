-- The first tree fits every room, and slots in which no call lies are sound. Assumes nothing.
use Rattle.std.proofs.Common.{◌≡◌, ℕ, ◌/◌, ◌<◌, List, length, get_or, sym, refl, subst, arith}
use Rattle.model.specs.Tree.{blank, weight_of}
use Rattle.cells.specs.declared.draft.Size.{Size}
use Rattle.cells.specs.Drafts.{Drafts, drafting}
use Rattle.cells.specs.Fits.{rising, Fits}
use Rattle.memory.specs.Keeps.{Stands, Slots, LentCalls}

blank_fits : (room : ℕ) → Fits room blank
unfolding weight_of rising
blank_fits room = record { weighs = omega arith; few = omega arith; rises = refl; opened = omega arith; early = omega arith; counts = record { top = omega arith; entries = tt } }

pub blank_stands : (room : ℕ) (out ps : List ℕ) (z : Size) → Drafts out ps z → drafting out ps z ≡ blank → Stands room (record { bytes = out; places = ps; size = z })
blank_stands room out ps z d e = record { drafts = d; fits = subst (Fits room) (sym e) (blank_fits room) }

pub empty_slots : (calls ends ends' : List ℕ) → LentCalls calls ends → length ends' ≡ length ends → ((k : ℕ) → k < 15 → get_or ends' k 0 ≡ 0) → Slots (length calls / 15) ends' calls
empty_slots calls ends ends' l e z =
    record { fifteen = omega (arith, l.fifteen); inside = omega arith; long = omega (arith, l.long); small = l.small; short = λ i li. omega (arith, z i li) }
