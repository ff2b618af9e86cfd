-- PROGRESS AND HEALING of the machine, for any service whose states grow slowly: from every scene that a run can reach, a group of which more than half are whole answers every call that waits with it and makes each of it whole.
use Rattle.std.proofs.Common.{◌≡◌, ℕ, ◌+◌, ◌<◌, ◌≤◌, false, List, [], ◌∷◌, length, sym, refl, ap, ◌∙◌, subst, ⊎_elim, arith}
use mathlib.Core.List.Memᴰ
use mathlib.Core.List.{Memᴰ}
use Rattle.std.proofs.lemmas.Bool.{cases_eq}
use Rattle.std.proofs.lemmas.Bool.Decides.{nat_tests}
use Rattle.runs.specs.Replicas.{Scene, Seen, Waits, gave, Goes}
use Rattle.runs.specs.Progress.{Among, stay, Enough, AnswersAndHealsWithin}
use Rattle.agreement.specs.Content.{Service}
use Rattle.agreement.specs.Machine.{Msg, Mind, Waiting, code}
use Rattle.agreement.specs.Steady.{Steady}
use Rattle.agreement.proofs.Scenes.{un_there}
use Rattle.agreement.proofs.Stages.{Low, low_more}
use Rattle.agreement.proofs.Slowly.{sized}
use Rattle.agreement.proofs.Bounds.{bounded}
use Rattle.agreement.proofs.Alone.{alone}
use Rattle.agreement.proofs.Election.{elected}
use Rattle.agreement.proofs.Answering.{answering}
use Rattle.agreement.proofs.Healing.{healing}
use Rattle.agreement.proofs.GettingOn.{waiting_at, Gets, CallPhase, HealPhase, answers_them}

module _ {sv : Service} (st : Steady sv) (all : ℕ) (two : 2 ≤ all) (few : all ≤ 7) (group : List ℕ) where
  call_phase : CallPhase st all group
  unfolding waiting_at
  call_phase n b es s f i m w some = with' m.waiting refl some
    where
      with' : (l : List (Waiting sv)) → m.waiting ≡ l → 0 < length m.waiting → Gets st all group s (λ t. Low st all group (3 + b) t × (waiting_at (t.house i) < length m.waiting))
      with' [] e lt = absurd (omega (arith, lt, ap length e))
      with' (x ∷ xs) e lt =
          let (fs, t, a, l, o, up, less) = answering st all two few group s f.goes b f.low (omega (arith, f.small)) f.enough i m w.lt w.of w.whole w.up x xs e (elected st all two few f.goes group b f.low (omega (arith, f.small)) f.enough i m w.lt w.of w.whole w.up) in
          (fs, t, a, (l, rw up less))

  heal_phase : HealPhase st all group
  heal_phase n b es s f i m w none j k lt of frail up =
      let (fs, t, a, l, healed) = healing st all two few group s f.goes b f.low f.enough i m w.lt w.of w.whole (empty m.waiting none) (elected st all two few f.goes group b f.low (omega (arith, f.small)) f.enough i m w.lt w.of w.whole w.up) j k lt of frail up in
      (fs, t, a, (low_more (omega arith) l, healed))
    where
      empty : (l : List (Waiting sv)) → length l ≡ 0 → l ≡ []
      empty [] e = refl
      empty (x ∷ xs) e = absurd (omega (arith, e))

pub answers_and_heals : (sv : Service) (st : Steady sv) → AnswersAndHealsWithin st.most (code sv)
answers_and_heals sv st all n one few short es s g group e = ⊎_elim (λ q. lone all q g e) (λ ne. answers_them st all group (call_phase st all (two ne) few group) (heal_phase st all (two ne) few group) n few short es s g e) (cases_eq all 1)
  where
    two : (all ≡ 1 → ⊥) → 2 ≤ all
    two ne = grind (arith, nat_tests)

    empty : (a : Waits) (x : Waiting sv) (l : List (Waiting sv)) → l ≡ [] → Memᴰ x l → ⊥
    empty a x l q d = Memᴰ.not-nil (subst (Memᴰ x) q d)

    -- one replica alone: nothing waits, and it is whole
    lone : (k : ℕ) → k ≡ 1 → Goes (code sv) k n es s → Enough k group s →
        (fs : List (Seen sv.O sv.R)) × (t : Scene (Mind sv) (Msg sv)) × Among (code sv) k group s fs t × ((a : Waits) → Memᴰ a s.waits → Memᴰ a.house group → (r : sv.R) × Memᴰ (gave a.house a.number r) fs) × ((i : ℕ) → i < k → Memᴰ i group → t.frail i ≡ false)
    lone k q run en =
        let l = alone st (subst (λ (z : ℕ). Goes (code sv) z n es s) q run) (omega (arith, short)) in let b = bounded (sized st) k run in
        ([], s, stay, (λ a d of. let w = b.back a d in absurd (empty a w.call w.mind.waiting (ap (λ (m : Mind sv). m.waiting) (un_there w.mind _ (sym w.up ∙ (ap s.house (let z : a.house ≡ 0 = omega (arith, w.there', q) in z) ∙ l.up)))) w.waits)), λ i lt of. ap s.frail (let z : i ≡ 0 = omega (arith, lt, q) in z) ∙ l.whole')
