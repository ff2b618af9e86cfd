-- One move after another, where the second does nothing, or only changes the mind.
use Rattle.std.proofs.Common.{◌≡◌, ℕ, ◌++◌, sym, ◌∙◌}
use Rattle.std.proofs.lemmas.List.{append-nil}
use Rattle.agreement.specs.Machine as Machine
use Rattle.agreement.specs.Machine.{Mind, still, then_do}
use Rattle.service.specs.Service.{lines}

-- nothing is done
pub then_still : (room : ℕ) (x : Machine.Turn (lines room)) (f : Mind (lines room) → Machine.Turn (lines room)) → f x.mind ≡ still x.mind → ◌≡◌ {A = Machine.Turn (lines room)} x (then_do x f)
unfolding then_do
then_still room x f e = ◌∙◌ {A = Machine.Turn (lines room)} (λ i. record { does = sym (append-nil x.does) i; mind = x.mind }) (λ i. record { does = x.does ++ (sym e i).does; mind = (sym e i).mind })

-- only the mind changed
pub then_change : (room : ℕ) (x : Machine.Turn (lines room)) (g : Mind (lines room) → Mind (lines room)) → ◌≡◌ {A = Machine.Turn (lines room)} (record { does = x.does; mind = g x.mind }) (then_do x (λ n. still (g n)))
unfolding then_do
then_change room x g = λ i. record { does = sym (append-nil x.does) i; mind = g x.mind }
