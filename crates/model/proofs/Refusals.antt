-- What is refused leaves the tree as it was; what only looks, too; and any other call is one change. Assumes nothing.
use Rattle.std.proofs.Common.{◌≡◌, ℕ, ◌+◌, Bool, true, false, ◌||◌, eqb, ltb, leb, ◌⊎◌, [], length, sym, refl, ap, inl, inr, ⊎_elim, arith}
use Rattle.std.proofs.lemmas.Bool.{cond_both, false≢true}
use Rattle.model.specs.Tree.{State, Call, Do, Look, Kids, Open, End, No, Out, does, Going, Failed, Fine, all_of, closed, values_in, some}
use Rattle.model.specs.Laws.{AllOrNone, RefusalsKeep, ReadsKeep, OneChange, reads}
use Rattle.model.proofs.Going.{Led, all_led, did_nothing}

-- refused, and as it was; or one change
abbrev Fate : State → Out → Type 0
Fate s o = ((n : ℕ) × (k : ℕ) × (o.reply ≡ No n k) × (o.state ≡ s)) ⊎ (((n k : ℕ) → o.reply ≡ No n k → ⊥) × (o.state.changes ≡ s.changes + 1))

closed_fate : (s : State) (g : Going) → Led s g → Fate s (closed s g)
unfolding closed
closed_fate s (Failed n k) h = inl (n, k, refl, refl)
closed_fate s (Fine n ps t) h = inr (λ a b e. absurd (let z : ◌≡◌ {A = ℕ} 0 1 = cc in omega arith), ap (λ (k : ℕ). k + 1) h.changes)

fate : (room : ℕ) (c : Call) (s : State) → reads c ≡ false → Fate s (does room c s)
unfolding does
fate room (Do as') s r =
    cond_both (ltb 64 (length as') || ltb 262144 (values_in as')) _ (closed s (all_of room as' (Fine 0 [] s))) (Fate s) (λ e. inl (0, 1, refl, refl)) (λ e. closed_fate s (all_of room as' (Fine 0 [] s)) (all_led room s as' (Fine 0 [] s) (did_nothing s)))
fate room (Look p) s r = absurd (false≢true (sym r))
fate room (Kids p) s r = absurd (false≢true (sym r))
fate room Open s r = cond_both (leb 4096 (length s.sessions)) _ _ (Fate s) (λ e. inl (0, 8, refl, refl)) (λ e. inr (λ a b h. absurd (let z : ◌≡◌ {A = ℕ} 0 1 = cc in omega arith), refl))
fate room (End k) s r = cond_both (some (eqb k) s.sessions) _ _ (Fate s) (λ e. inr (λ a b h. absurd (let z : ◌≡◌ {A = ℕ} 0 1 = cc in omega arith), refl)) (λ e. inl (0, 6, refl, refl))

pub reads_keep : ReadsKeep
unfolding does
reads_keep room (Do as') s h = absurd (false≢true h)
reads_keep room (Look p) s h = refl
reads_keep room (Kids p) s h = refl
reads_keep room Open s h = absurd (false≢true h)
reads_keep room (End k) s h = absurd (false≢true h)

pub refusals_keep : RefusalsKeep
refusals_keep room c s n k e = go (reads c) refl
  where
    go : (b : Bool) → reads c ≡ b → (does room c s).state ≡ s
    go true h = reads_keep room c s h
    go false h = ⊎_elim (λ f. f.3) (λ f. absurd (f.0 n k e)) (fate room c s h)

pub one_change : OneChange
one_change room c s r h = ⊎_elim (λ f. absurd (h f.0 f.1 f.2)) (λ f. f.1) (fate room c s r)

pub all_or_none : AllOrNone
all_or_none room as' s n k e = refusals_keep room (Do as') s n k e
