-- What makes entries and sessions a tree, said of members, up to a count of changes that a call under way may already have given out; and which ways to change entries keep it. Assumes nothing.
use Rattle.std.proofs.Common.{◌≡◌, ℕ, ◌≤◌, Bool, true, false, ◌&&◌, ◌||◌, T, eqb, ltb, leb, ◌⊎◌, List, sym, refl, subst, inl, inr, ⊎_elim}
use mathlib.Core.List.{Memᴰ}
use Rattle.std.proofs.lemmas.Bool.{and_parts, and_from, or_cases, or_left, or_right, eqb-true, eq-eqb, leb-true, le-leb}
use Rattle.model.specs.Tree.{Entry, State, some, every, none, above, same_path, path_ok}
use Rattle.model.specs.Laws.{paths_once, entry_ok, Sound}
use Rattle.model.proofs.Members.{every_member, every_from, some_member, some_from}
use Rattle.model.proofs.Same.{same_path_decides}

-- n: the highest count of changes that an entry may bear
pub record Proper (n : ℕ) (es : List Entry) (ss : List ℕ) : Type 0 where
  pub once : paths_once es ≡ true
  pub named : (e : Entry) → Memᴰ e es → path_ok e.path ≡ true
  pub under : (e : Entry) → Memᴰ e es → (none (above e.path) ≡ true) ⊎ ((u : Entry) × Memᴰ u es × (above e.path ≡ u.path) × (u.owner ≡ 0))
  pub owned : (e : Entry) → Memᴰ e es → (e.owner ≡ 0) ⊎ (some (eqb e.owner) ss ≡ true)
  pub dated : (e : Entry) → Memᴰ e es → (e.made ≤ e.changed) × (e.changed ≤ n)
  pub positive : every (λ (x : ℕ). ltb 0 x) ss ≡ true

pub T-from : (b : Bool) → b ≡ true → T b
T-from b e = subst T (sym e) tt

pub T-is : (b : Bool) → T b → b ≡ true
T-is true t = refl
T-is false t = absurd t

abbrev parent : List Entry → Entry → Bool
parent es e = some (λ (u : Entry). same_path (above e.path) u.path && eqb u.owner 0) es

abbrev owns : List ℕ → Entry → Bool
owns ss e = eqb e.owner 0 || some (eqb e.owner) ss

-- the five tests of an entry
record Five (s : State) (e : Entry) : Type 0 where
  path : path_ok e.path ≡ true
  under : none (above e.path) || parent s.entries e ≡ true
  owned : owns s.sessions e ≡ true
  made : e.made ≤ e.changed
  changed : e.changed ≤ s.changes

five : (s : State) (e : Entry) → entry_ok s e ≡ true → Five s e
five s e h =
    let a = path_ok e.path in
    let b = none (above e.path) || parent s.entries e in
    let c = owns s.sessions e in
    let d = leb e.made e.changed in
    let r4 = and_parts (a && b && c && d) (leb e.changed s.changes) h in
    let r3 = and_parts (a && b && c) d r4.0 in
    let r2 = and_parts (a && b) c r3.0 in
    let r1 = and_parts a b r2.0 in
    record { path = r1.0; under = r1.1; owned = r2.1; made = leb-true e.made e.changed r3.1; changed = leb-true e.changed s.changes r4.1 }

from_five : (s : State) (e : Entry) → Five s e → entry_ok s e ≡ true
from_five s e f =
    let a = path_ok e.path in
    let b = none (above e.path) || parent s.entries e in
    let c = owns s.sessions e in
    let d = leb e.made e.changed in
    and_from (a && b && c && d) (leb e.changed s.changes)
    (and_from (a && b && c) d (and_from (a && b) c (and_from a b f.path f.under) f.owned) (le-leb e.made e.changed f.made))
    (le-leb e.changed s.changes f.changed)

parent_there : (es : List Entry) (e : Entry) → parent es e ≡ true → (u : Entry) × Memᴰ u es × (above e.path ≡ u.path) × (u.owner ≡ 0)
parent_there es e h =
    let r = some_member (λ (u : Entry). same_path (above e.path) u.path && eqb u.owner 0) es h in
    let u = r.0 in
    let both = and_parts (same_path (above e.path) u.path) (eqb u.owner 0) r.2 in
    (u, r.1, (same_path_decides (above e.path) u.path).0 both.0, eqb-true u.owner 0 both.1)

there_parent : (es : List Entry) (e u : Entry) → Memᴰ u es → above e.path ≡ u.path → u.owner ≡ 0 → parent es e ≡ true
there_parent es e u m p o =
    some_from (λ (w : Entry). same_path (above e.path) w.path && eqb w.owner 0) es u m
    (and_from (same_path (above e.path) u.path) (eqb u.owner 0) ((same_path_decides (above e.path) u.path).1 p) (eq-eqb u.owner 0 o))

pub sound_proper : (s : State) → Sound s → Proper s.changes s.entries s.sessions
sound_proper s h =
    let all = T-is (every (entry_ok s) s.entries) h.1 in
    let each : (e : Entry) → Memᴰ e s.entries → Five s e = λ e m. five s e (every_member (entry_ok s) s.entries e all m) in
    record {
      once = T-is (paths_once s.entries) h.0;
      named = λ e m. (each e m).path;
      under = λ e m. ⊎_elim inl (λ p. inr (parent_there s.entries e p)) (or_cases (none (above e.path)) (parent s.entries e) (each e m).under);
      owned = λ e m. ⊎_elim (λ p. inl (eqb-true e.owner 0 p)) inr (or_cases (eqb e.owner 0) (some (eqb e.owner) s.sessions) (each e m).owned);
      dated = λ e m. ((each e m).made, (each e m).changed);
      positive = T-is (every (λ (x : ℕ). ltb 0 x) s.sessions) h.2;
    }

pub proper_sound : (s : State) → Proper s.changes s.entries s.sessions → Sound s
proper_sound s p = (
  T-from (paths_once s.entries) p.once,
  T-from (every (entry_ok s) s.entries)
      (every_from (entry_ok s) s.entries (λ e m. from_five s e (record {
        path = p.named e m;
        under = ⊎_elim (or_left (none (above e.path)) (parent s.entries e)) (λ u. or_right (none (above e.path)) (parent s.entries e) (there_parent s.entries e u.0 u.1 u.2 u.3)) (p.under e m);
        owned = ⊎_elim (λ o. or_left (eqb e.owner 0) (some (eqb e.owner) s.sessions) (eq-eqb e.owner 0 o)) (or_right (eqb e.owner 0) (some (eqb e.owner) s.sessions)) (p.owned e m);
        made = (p.dated e m).0;
        changed = (p.dated e m).1;
      }))),
  T-from (every (λ (x : ℕ). ltb 0 x) s.sessions) p.positive,
)
