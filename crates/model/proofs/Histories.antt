-- Laws over any number of calls: it stays a tree; counts never fall; a version tells the value; numbered names. Assumes nothing.
use Rattle.std.proofs.Common.{◌≡◌, ℕ, zero, suc, ◌+◌, ◌*◌, ◌/◌, ◌%◌, ◌<◌, ◌≤◌, Bool, true, cond, not, ◌&&◌, ◌||◌, ltb, ◌⊎◌, List, [], ◌∷◌, ◌++◌, sym, refl, ap, ◌∙◌, subst, inl, inr, ⊎_elim, div-add-mod', arith}
use mathlib.Core.List.{Memᴰ}
use Rattle.std.proofs.lemmas.List.{same_from_push, append_cancel_left}
use Rattle.std.proofs.lemmas.Bool.{cond_both, false≢true}
use Rattle.model.specs.Tree.{Name, Path, Entry, State, blank, find, change, none, above, last_name, renamed, digits, at, there, count_at, kids_of, true_name, every, Step, Bad, Good, acts, Make, Do, No, Done, Out, does, Failed, Fine, stepped, goes, all_of, closed, values_in, weight}
use Rattle.model.specs.Laws.{paths_once, Sound, StaysSound, Run, still, onward, CountsRise, TopRises, VersionsTell, Numbered, SameMaking, NumbersDiffer}
use Rattle.model.proofs.Members.{find_changed, find_member, some_from}
use Rattle.model.proofs.Same.{same_path_decides, above_renamed, path_some}
use Rattle.model.proofs.Once.{once_same}
use Rattle.model.proofs.Proper.{sound_proper}
use Rattle.model.proofs.Deeds.{Made, make_parts, counting, new_entry}
use Rattle.model.proofs.Going.{Since, Went, went_nothing, went_then, call_went}

pub stays_sound : StaysSound
stays_sound room c s h = (call_went room c s).sound h

run_went : (room : ℕ) (s t : State) → Run room s t → Went s t
run_went room s _ still = went_nothing s
run_went room s _ (onward {t = t} c r) = went_then s t (does room c t).state (run_went room s t r) (call_went room c t)

blank_sound : Sound blank
unfolding every paths_once
blank_sound = (tt, tt, tt)

pub reached_sound : (room : ℕ) (s : State) → Run room blank s → Sound s
reached_sound room s r = (run_went room blank s r).sound blank_sound

-- an entry of the same making, later on
later_on : (room : ℕ) (s t : State) → Run room blank s → Run room s t → (e f : Entry) → Memᴰ e s.entries → Memᴰ f t.entries → e.path ≡ f.path → e.made ≡ f.made → Since e f
later_on room s t r q e f m k p d =
    let ok = sound_proper s (reached_sound room s r) in
    ⊎_elim
    (λ x. subst (λ (z : Entry). Since z f) (once_same s.entries x.0 e ok.once x.1 m (x.2.path ∙ sym p)) x.2)
    (λ x. absurd (let w = ok.dated e m in omega (arith, w.0, w.1, x, d)))
    ((run_went room s t q).back f k)

pub counts_rise : CountsRise
counts_rise room s t r q p e f m ep k fp d = (later_on room s t r q e f m k (ep ∙ sym fp) d).kids

pub top_rises : TopRises
top_rises room s t r = (run_went room s t r).top

pub versions_tell : VersionsTell
versions_tell room s t r q e f m k p d v = (later_on room s t r q e f m k p d).value v

-- ONE MAKING that was answered
pub record Making (p : Path) (v : List ℕ) (numbered : Bool) (o : ℕ) (s : State) (q : Path) (after : State) : Type 0 where
  pub state : State
  pub made : Made p v numbered o s (q ∷ []) state
  pub counted : after.entries ≡ state.entries
  pub top : after.top ≡ state.top

abbrev pub MakingOf : (p : Path) (v : List ℕ) (numbered : Bool) (o : ℕ) (s : State) (q : Path) → Out → Type 0
MakingOf p v numbered o s q out = out.reply ≡ Done (q ∷ []) → Making p v numbered o s q out.state

refused_none : {B : Type 0} (n k : ℕ) (ps : List Path) → No n k ≡ Done ps → B
refused_none n k ps e = absurd (let z : ◌≡◌ {A = ℕ} 0 1 = cc in omega arith)

pub making : (room : ℕ) (p : Path) (v : List ℕ) (numbered : Bool) (o : ℕ) (s : State) (q : Path) → MakingOf p v numbered o s q (does room (Do (Make p v numbered o ∷ [])) s)
unfolding does all_of goes stepped closed
making room p v numbered o s q =
    cond_both (ltb 64 1 || ltb 262144 (values_in (Make p v numbered o ∷ []))) _ (closed s (stepped room 0 [] s (acts (Make p v numbered o) s))) (MakingOf p v numbered o s q) (λ e h. refused_none 0 1 (q ∷ []) h) (λ e. go (acts (Make p v numbered o) s) refl)
  where
    go : (x : Step) → acts (Make p v numbered o) s ≡ x → MakingOf p v numbered o s q (closed s (stepped room 0 [] s x))
    go (Bad k) e = λ h. refused_none 0 k (q ∷ []) h
    go (Good qs t) e =
        cond_both (ltb room (weight t) && ltb (weight s) (weight t)) (Failed 0 9) (Fine 1 qs t) (λ g. MakingOf p v numbered o s q (closed s g)) (λ b h. refused_none 0 9 (q ∷ []) h)
        (λ b h. record { state = t; made = let is : qs ≡ q ∷ [] = cc in make_parts p v numbered o s (q ∷ []) t (e ∙ ap (λ (ps : List Path). Good ps t) is); counted = refl; top = refl })

head_same : (p q : Path) → p ∷ [] ≡ q ∷ [] → p ≡ q
head_same p q e = cc

-- the count of what is above goes up by one
count_more : (up : Path) (s : State) (new : Entry) (rest : State) → (none up ≡ true) ⊎ (there up s ≡ true) →
    rest.entries ≡ change (at up) counting s.entries ++ (new ∷ []) → rest.top ≡ cond (none up) (s.top + 1) s.top → count_at up rest ≡ count_at up s + 1
unfolding kids_of none
count_more [] s new rest h es top = top
count_more (n ∷ ns) s new rest (inl z) es top = absurd (false≢true z)
count_more (n ∷ ns) s new rest (inr z) es top =
    let r = find_changed (at (n ∷ ns)) counting (λ x. refl) s.entries (new ∷ []) z in
    ap (λ (l : List Entry). kids_of (find (at (n ∷ ns)) l) 0) es ∙ ap (λ (l : List Entry). kids_of l 0) r.2 ∙ ap (λ (l : List Entry). kids_of l 0 + 1) (sym r.1)

-- what is above what was made counts one more
count_made : (p : Path) (v : List ℕ) (o : ℕ) (s : State) (q : Path) (after : State) → Making p v true o s q after → count_at (above p) after ≡ count_at (above p) s + 1
count_made p v o s q after m =
    let up = above_renamed p (last_name p ++ digits 10 (count_at (above p) s)) in
    let new = new_entry (true_name p true s) v o s in
    count_more (above p) s new after m.made.under
    (m.counted ∙ ap (λ (t : State). t.entries) m.made.state ∙ ap (λ (u : Path). change (at u) counting s.entries ++ (new ∷ [])) up)
    (m.top ∙ ap (λ (t : State). t.top) m.made.state ∙ ap (λ (u : Path). cond (none u) (s.top + 1) s.top) up)

pub numbered : Numbered
numbered room s p q v o r h =
    let m = making room p v true o s q h in
    (head_same q (true_name p true s) m.made.paths, count_made p v o s q (does room (Do (Make p v true o ∷ [])) s).state m)

-- NO NAME TWICE. Ten digits tell the number, below ten to the ten
abbrev tens : ℕ → ℕ
tens zero = 1
tens (suc k) = 10 * tens k

digits_tell : (k n m : ℕ) → n < tens k → m < tens k → digits k n ≡ digits k m → n ≡ m
unfolding digits
digits_tell zero n m a b e = omega arith
digits_tell (suc k) n m a b e =
    let both = same_from_push (digits k (n / 10)) (digits k (m / 10)) (48 + n % 10) (48 + m % 10) e in
    let front = digits_tell k (n / 10) (m / 10) (omega arith) (omega arith) both.0 in
    let last = both.1 in
    omega (arith, div-add-mod' n 10, div-add-mod' m 10)

renamed_tells : (p : Path) (a b : Name) → not (none p) ≡ true → renamed p a ≡ renamed p b → a ≡ b
unfolding none renamed
renamed_tells [] a b h e = absurd (false≢true h)
renamed_tells (m ∷ []) a b h e = cc
renamed_tells (m ∷ k ∷ ks) a b h e = renamed_tells (k ∷ ks) a b refl (cc)

-- the one entry of a path is the one that is found
found : (s : State) (e : Entry) (up : Path) → Sound s → Memᴰ e s.entries → e.path ≡ up → find (at up) s.entries ≡ e ∷ []
found s e up h m p =
    let r = find_member (at up) s.entries (some_from (at up) s.entries e m ((same_path_decides up e.path).1 (sym p))) in
    r.1 ∙ ap (λ (x : Entry). x ∷ []) (once_same s.entries r.0 e (sound_proper s h).once r.3 m (sym ((same_path_decides up r.0.path).0 r.2) ∙ sym p))

-- what is above has been counted at least as often
count_rises : (room : ℕ) (up : Path) (s t : State) → Run room blank s → Run room s t → SameMaking up s t → count_at up s ≤ count_at up t
unfolding none kids_of
count_rises room [] s t r q h = top_rises room s t q
count_rises room (n ∷ ns) s t r q (inl z) = absurd (false≢true z)
count_rises room (n ∷ ns) s t r q (inr z) =
    let ok = reached_sound room s r in
    let a = ap (λ (l : List Entry). kids_of l 0) (found s z.0 (n ∷ ns) ok z.2 z.4) in
    let b = ap (λ (l : List Entry). kids_of l 0) (found t z.1 (n ∷ ns) ((run_went room s t q).sound ok) z.3 z.5) in
    omega (arith, a, b, counts_rise room s t r q (n ∷ ns) z.0 z.1 z.2 z.4 z.3 z.5 z.6)

pub numbers_differ : NumbersDiffer
numbers_differ room s t p q r v w o u run first between second same e =
    let a = making room p v true o s q first in
    let b = making room p w true u t r second in
    let after = (does room (Do (Make p v true o ∷ [])) s).state in
    let more = count_made p v o s q after a in
    let rise = count_rises room (above p) after t (onward (Do (Make p v true o ∷ [])) run) between same in
    let names = renamed_tells p (last_name p ++ digits 10 (count_at (above p) s)) (last_name p ++ digits 10 (count_at (above p) t)) (path_some p a.made.range) (sym (head_same q (true_name p true s) a.made.paths) ∙ e ∙ head_same r (true_name p true t) b.made.paths) in
    let equal = digits_tell 10 (count_at (above p) s) (count_at (above p) t) (a.made.few refl) (b.made.few refl) (append_cancel_left (last_name p) (digits 10 (count_at (above p) s)) (digits 10 (count_at (above p) t)) names) in
    omega (arith, more, rise, equal)
