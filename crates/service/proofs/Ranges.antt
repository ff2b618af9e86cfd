-- The top is the path of no bytes; a `do` of the core has just one act, which is plain. Assumes nothing.
use Rattle.std.proofs.Common.{◌≡◌, ℕ, ◌<◌, Bool, true, false, ◌&&◌, eqb, ltb, leb, Option, List, [], ◌∷◌, length, Some, None, sym, refl, ap, ◌∙◌, ⊎_elim, arith}
use Rattle.std.proofs.lemmas.Bool.{ne_eqb, eq-eqb, cases_eq, false≢true}
use Rattle.std.specs.Borrow.{Bor}
use Rattle.std.specs.List.{AllByRecursion}
use Rattle.std.specs.Option.{option_map, IsSome}
use Rattle.model.specs.Tree.{Path, none, every, value_ok, Act, one}
use Rattle.lent_bytes.proofs.PathBytes.{every_all}
use Rattle.calls.specs.declared.types.Act as code
use Rattle.lent_bytes.specs.Paths.{path_of, path_bytes, Spells}
use Rattle.calls.specs.declared.types.ActKind.{ActKind}
use Rattle.calls.specs.declared.types.ActKind.TheVariants as kind
use Rattle.calls.specs.Format.{act_at}
use Rattle.calls.specs.Reading.{act_from, act_of, act_read, acts_in, past}
use Rattle.calls.proofs.Screens.{many_not_core, one_act, no_act}
use Rattle.tree.specs.Answers.{numbered}

pub top_empty : (path : List ℕ) → Spells path → none (path_of path) ≡ eqb (length path) 0
unfolding none path_bytes
top_empty path sp = go (path_of path) sp
  where
    go : (p : Path) → path_bytes p ≡ path → none p ≡ eqb (length path) 0
    go [] e = sym (eq-eqb (length path) 0 (ap length (sym e)))
    go (n ∷ ns) e = sym (ne_eqb (length path) 0 (λ z. let l = ap length e in omega arith))

-- a value in range, by its length
pub value_long : (v : List ℕ) → AllByRecursion (λ b. b < 256) v → leb (length v) 65536 ≡ value_ok v
value_long v small = same_left (leb (length v) 65536) (every (λ (b : ℕ). ltb b 256) v) (every_all v small)
  where
    same_left : (a b : Bool) → b ≡ true → a ≡ (a && b)
    same_left true b e = sym e
    same_left false b e = refl

-- the one act of a call of the core
pub just_one : (k : ℕ) (xs : List ℕ) → past act_at k xs ≡ Some [] → one (acts_in k xs) ≡ true → k ≡ 1
just_one k xs e h = ⊎_elim (λ z. z) (λ z. absurd (false≢true (sym (many_not_core k xs e z) ∙ h))) (cases_eq k 1)

pub some_act : (k : ℕ) (xs : List ℕ) → past act_at k xs ≡ Some [] → one (acts_in k xs) ≡ true → act_at xs ≡ None → ⊥
unfolding one
some_act k xs e h n = false≢true (sym (ap (λ (j : ℕ). one (acts_in j xs)) (just_one k xs e h) ∙ ap one (no_act xs n)) ∙ h)

pub the_act : (k : ℕ) (xs : List ℕ) (a : Act) (ys : List ℕ) → past act_at k xs ≡ Some [] → one (acts_in k xs) ≡ true → act_at xs ≡ Some (a, ys) → acts_in k xs ≡ a ∷ []
the_act k xs a ys e h r = ap (λ (j : ℕ). acts_in j xs) (just_one k xs e h) ∙ one_act xs a ys r

pub plain_act : (k : ActKind) (p : Path) (v : List ℕ) → one (act_from k p v ∷ []) ≡ true → numbered k ≡ false
unfolding one
plain_act (kind.Make true s) p v h = absurd (false≢true h)
plain_act (kind.Make false s) p v h = refl
plain_act (kind.Put x) p v h = refl
plain_act (kind.Drop x) p v h = refl
plain_act (kind.Check x) p v h = refl

-- as the reader finds it
module _ (k : ℕ) (xs : List ℕ) where
  pub read_some : (r : Option (code.Act × Bor (List ℕ))) → past act_at k xs ≡ Some [] → one (acts_in k xs) ≡ true → option_map act_read r ≡ act_at xs → IsSome r
  read_some None e h is = absurd (some_act k xs e h (sym is))
  read_some (Some a) e h is = refl

  pub read_act_is : (r : Option (code.Act × Bor (List ℕ))) (a : code.Act × Bor (List ℕ)) → past act_at k xs ≡ Some [] → one (acts_in k xs) ≡ true → option_map act_read r ≡ act_at xs → r ≡ Some a → (acts_in k xs ≡ act_of a.0 ∷ []) × (numbered a.0.kind ≡ false)
  read_act_is r a e h is some =
      let found : acts_in k xs ≡ act_of a.0 ∷ [] = the_act k xs (act_of a.0) a.1.now e h (sym is ∙ ap (option_map act_read) some) in
      (found, plain_act a.0.kind _ _ (sym (ap one found) ∙ h))
