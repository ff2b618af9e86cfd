-- A path and its last name; a path that is another and one name more, and how its bytes show that. Assumes nothing.
use Rattle.std.proofs.Common.{◌≡◌, ◌≢◌, ℕ, ◌+◌, ◌<◌, ◌≤◌, Bool, true, not, ◌&&◌, eqb, List, [], ◌∷◌, ◌++◌, length, get_or, take, Decides, sym, refl, ap, ◌∙◌, append-nil, arith, length-append}
use Rattle.std.proofs.lemmas.Bool.{and_parts, and_from, eqb-true}
use Rattle.std.proofs.lemmas.Bool.Decides.{same_from_decides}
use Rattle.std.proofs.lemmas.List.{append_cancel_left}
use Rattle.std.proofs.Math.Seq.{take-append_seam}
use Rattle.model.specs.Tree.{Name, Path, none, above, last_name, same_path}
use Rattle.lent_bytes.specs.Paths.{path_of, path_bytes, Spells}
use Rattle.lent_bytes.proofs.Same.{same_path_decides}
use Rattle.lent_bytes.proofs.PathBytes.{bytes_append, names_front}

pub above_push : (p : Path) (n : Name) → above (p ++ n ∷ []) ≡ p
unfolding above
above_push [] n = refl
above_push (m ∷ []) n = refl
above_push (m ∷ k ∷ ks) n = ap (λ l. m ∷ l) (above_push (k ∷ ks) n)

pub last_push : (p : Path) (n : Name) → last_name (p ++ n ∷ []) ≡ n
unfolding last_name
last_push [] n = refl
last_push (m ∷ []) n = refl
last_push (m ∷ k ∷ ks) n = last_push (k ∷ ks) n

pub above_last : (p : Path) → not (none p) ≡ true → p ≡ above p ++ last_name p ∷ []
unfolding above last_name none
above_last [] h = absurd (let z : ◌≡◌ {A = ℕ} 0 1 = cc in omega arith)
above_last (m ∷ []) h = refl
above_last (m ∷ k ∷ ks) h = ap (λ l. m ∷ l) (above_last (k ∷ ks) refl)

not_none_push : (p : Path) (n : Name) → not (none (p ++ n ∷ [])) ≡ true
unfolding none
not_none_push [] n = refl
not_none_push (m ∷ ms) n = refl

-- one name more
pub Under : Path → Path → Type 0
Under p q = (n : Name) × (q ≡ p ++ n ∷ [])

under_decides : (p q : Path) → Decides (not (none q) && same_path p (above q)) (Under p q)
unfolding Under
under_decides p q = (
  λ h. let both = and_parts (not (none q)) (same_path p (above q)) h in
      (last_name q, above_last q both.0 ∙ ap (λ l. l ++ last_name q ∷ []) (sym ((same_path_decides p (above q)).0 both.1))),
  λ u. and_from (not (none q)) (same_path p (above q)) (ap (λ l. not (none l)) u.1 ∙ not_none_push p u.0)
      ((same_path_decides p (above q)).1 (sym (ap above u.1 ∙ above_push p u.0))),
)

-- as code tells it: the path's bytes, then one name to the end
one_name : (rest : List ℕ) (q : Path) → rest ≡ path_bytes q → 0 < length rest → get_or rest 0 0 + 1 ≡ length rest → (n : Name) × (q ≡ n ∷ [])
unfolding path_bytes
one_name rest [] e s l = absurd (omega (arith, ap length e))
one_name rest (n ∷ []) e s l = (n, refl)
one_name rest (n ∷ m ∷ ms) e s l =
    absurd (omega (arith, ap length e, ap (λ (r : List ℕ). get_or r 0 0) e, length-append n (path_bytes (m ∷ ms))))

module _ (own path : List ℕ) (so : Spells own) (sp : Spells path) where
  pub under_bytes : (rest : List ℕ) → own ≡ path ++ rest → 0 < length rest → get_or rest 0 0 + 1 ≡ length rest → Under (path_of path) (path_of own)
  unfolding Under
  under_bytes rest e s l =
      let found = names_front (path_of path) (path_of own) rest (so ∙ e ∙ ap (λ b. b ++ rest) (sym sp)) in
      let one = one_name rest found.0 found.2 s l in
      (one.0, found.1 ∙ ap (λ r. path_of path ++ r) one.1)

  pub bytes_under : Under (path_of path) (path_of own) → (n : Name) × (own ≡ path ++ (length n ∷ n))
  unfolding Under path_bytes
  bytes_under u =
      (u.0, sym so ∙ ap path_bytes u.1 ∙ bytes_append (path_of path) (u.0 ∷ []) ∙ (λ i. sp i ++ (length u.0 ∷ append-nil u.0 i)))

  pub kid_decides : (r : Bool) → Decides r (Under (path_of path) (path_of own)) → r ≡ (not (none (path_of own)) && same_path (path_of path) (above (path_of own)))
  kid_decides r d = same_from_decides r (not (none (path_of own)) && same_path (path_of path) (above (path_of own))) d (under_decides (path_of path) (path_of own))

  -- what stands behind as many bytes as the path has, where it is another and one name more
  behind_is : (front rest : List ℕ) → own ≡ front ++ rest → length front ≡ length path → Under (path_of path) (path_of own) → (front ≡ path) × ((n : Name) × (rest ≡ length n ∷ n))
  behind_is front rest e l u =
      let b = bytes_under u in
      let name = length b.0 ∷ b.0 in
      let same : front ≡ path = sym (take-append_seam front rest) ∙ ap (take (length front)) (sym e) ∙ ap (λ k. take k own) l ∙ ap (take (length path)) b.1 ∙ take-append_seam path name in
      (same, (b.0, append_cancel_left path rest name (ap (λ f. f ++ rest) (sym same) ∙ sym e ∙ b.1)))

  -- the ways of the code
  pub too_short : length own ≤ length path → Under (path_of path) (path_of own) → ⊥
  too_short l u = let b = bytes_under u in omega (arith, ap length b.1, length-append path (length b.0 ∷ b.0))

  -- no one name is behind
  pub other_length : (front : List ℕ) (b : ℕ) (name : List ℕ) → own ≡ front ++ b ∷ name → length front ≡ length path → b ≢ length name → Decides (eqb b (length name)) (Under (path_of path) (path_of own))
  other_length front b name e l differ = (
    λ t. absurd (differ (eqb-true b (length name) t)),
    λ u.
        let z = (behind_is front (b ∷ name) e l u).1 in
        absurd (differ (omega (arith, ap length z.1, ap (λ (r : List ℕ). get_or r 0 0) z.1))),
  )

  -- one name is behind, and it is under the path if that is in front
  pub front_decides : (front : List ℕ) (b : ℕ) (name : List ℕ) (r : Bool) → own ≡ front ++ b ∷ name → length front ≡ length path → b ≡ length name → Decides r (front ≡ path) → Decides r (Under (path_of path) (path_of own))
  front_decides front b name r e l one d = (
    λ t. under_bytes (b ∷ name) (e ∙ ap (λ f. f ++ b ∷ name) (d.0 t)) (omega arith) (omega (arith, one)),
    λ u. d.1 (behind_is front (b ∷ name) e l u).0,
  )
