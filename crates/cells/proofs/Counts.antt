-- The counts in a head are those of its cell's entry. Assumes nothing.
use Rattle.std.proofs.Common.{◌≡◌, ℕ, ◌<◌, ◌≤◌, List, length, get_or, ap, subst, arith}
use Rattle.std.specs.List.{AllByRecursion}
use Rattle.std.proofs.ByRecursion.{All-get_or}
use Rattle.model.specs.Tree.{Entry}
use Rattle.cells.specs.declared.cell.Head.{Head}
use Rattle.cells.specs.Layout.{head_of, entry_of}
use Rattle.cells.specs.Fits.{CountsTo}

pub head_version : (c : List ℕ) (h : Head) → h ≡ head_of c → h.version.0 ≡ (entry_of c).version
unfolding entry_of
head_version c h e = ap (λ (x : Head). x.version.0) e

pub head_kids : (c : List ℕ) (h : Head) → h ≡ head_of c → h.kids.0 ≡ (entry_of c).kids
unfolding entry_of
head_kids c h e = ap (λ (x : Head). x.kids.0) e

pub head_owner : (c : List ℕ) (h : Head) → h ≡ head_of c → h.owner.0 ≡ (entry_of c).owner
unfolding entry_of
head_owner c h e = ap (λ (x : Head). x.owner.0) e

module _ (c : List ℕ) (h : Head) (e : h ≡ head_of c) (limit : ℕ) where
  pub counts_to : h.version.0 ≤ limit → h.kids.0 ≤ limit → CountsTo limit (entry_of c)
  counts_to v k = record { version = omega (arith, head_version c h e); kids = omega (arith, head_kids c h e) }

  -- of an entry of which all are so
  pub counts_at : (es : List Entry) (i : ℕ) → i < length es → get_or es i (entry_of c) ≡ entry_of c → AllByRecursion (CountsTo limit) es → (h.version.0 ≤ limit) × (h.kids.0 ≤ limit)
  counts_at es i l is all =
      let own = subst (CountsTo limit) is (All-get_or (CountsTo limit) es i (entry_of c) l all) in
      (omega (arith, head_version c h e), omega (arith, head_kids c h e))
