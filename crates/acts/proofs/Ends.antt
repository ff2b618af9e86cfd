-- What a call of several acts answers, by what they came to. Assumes nothing.
use Rattle.std.proofs.Common.{◌≡◌, ℕ, Bool, true, false, ◌||◌, ltb, List, [], length, IfOk, Ok, Err, Result, sym, ap, ◌∙◌, subst}
use Rattle.std.proofs.lemmas.Bool.{cond-true, cond-false}
use Rattle.model.specs.Tree.{State, Act, Out, No, Done, Do, Fine, all_of, closed, does, onward, values_in}
use Rattle.calls.specs.Format.{many_at}
use Rattle.calls.specs.Reading.{acts_in}
use Rattle.cells.specs.Layout.{state_of}
use Rattle.cells.specs.Fits.{Fits}
use Rattle.acts.specs.declared.several.Stands.{Stands}
use Rattle.acts.specs.declared.several.Refused.{Refused}
use Rattle.acts.specs.Several.{made_all, standing, Ran, ran_of}

abbrev pub large : List Act → Bool
large all = ltb 64 (length all) || ltb 262144 (values_in all)

module _ (room : ℕ) (all : List Act) (s : State) where
  pub does_large : large all ≡ true → ◌≡◌ {A = Out} (record { reply = No 0 1; state = s }) (does room (Do all) s)
  unfolding does
  does_large h = sym (cond-true (large all) _ _ h)

  does_runs : large all ≡ false → does room (Do all) s ≡ closed s (all_of room all (Fine 0 [] s))
  unfolding does
  does_runs h = cond-false (large all) _ _ h

  pub does_none : all ≡ [] → ◌≡◌ {A = Out} (record { reply = Done (made_all all); state = onward s }) (does room (Do all) s)
  unfolding does all_of closed made_all values_in
  does_none e = ap (λ (as' : List Act). record { reply = Done (made_all as'); state = onward s }) e ∙ ap (λ (as' : List Act). does room (Do as') s) (sym e)

pub none_in : (count : ℕ) (bytes : List ℕ) → count ≡ 0 → acts_in count bytes ≡ []
unfolding many_at
none_in count bytes e = ap (λ (k : ℕ). acts_in k bytes) e

module _ (room : ℕ) (all : List Act) (mem ps l p r q : List ℕ) where
  pub ran_answer : (x : Result Stands Refused) → large all ≡ false → Ran room all x mem ps l p r q → ran_of (made_all all) x mem ps l p r q ≡ does room (Do all) (state_of mem ps)
  unfolding closed
  ran_answer (Ok st) h g = ap (λ (t : State). record { reply = Done (made_all all); state = t }) g.3 ∙ sym (does_runs room all (state_of mem ps) h ∙ ap (closed (state_of mem ps)) g.2)
  ran_answer (Err k) h g = sym (does_runs room all (state_of mem ps) h ∙ ap (closed (state_of mem ps)) g)

  pub ran_fits : (x : Result Stands Refused) (o : Out) → Fits room o.state → ran_of (made_all all) x mem ps l p r q ≡ o → IfOk x (λ (st : Stands). Fits room (standing st mem ps l p r q))
  ran_fits (Ok st) o f e = subst (λ (y : Out). Fits room y.state) (sym e) f
  ran_fits (Err k) o f e = tt
