use Rattle.std.proofs.Common.{ℕ, ◌+◌, take, sym, subst}
use native.Mathlib.Nat.{sub-zero}
use Rattle.std.proofs.lemmas.Bool.Decides.{not_from_Decides}
use Rattle.cells.specs.Layout.{state_of}
use Rattle.cells.specs.Fits.{Fits}
use Rattle.scan.proofs.Uniques.{holds_unique, is_tree_lem, tree_fits}
use Rattle.scan.proofs.scanning.scan.Goals as goal

pub returns-then-fits_room : goal.returns-then-fits_room
returns-then-fits_room c =
    let bytes = c.args.bytes.now in
    let ps = c.scan_cells.new.places in
    let n = c.in_ok-count.count in
    let found = c.in_ok-count.ensures in
    let fits = subst (λ (k : ℕ). Fits c.args.room (state_of bytes (take k ps))) (sub-zero (n + 1)) (c.fits_room.ensures.0 c.if-fits_room.true) in
    (found.0, holds_unique bytes (take (n + 1) ps) found.1, is_tree_lem c.args.room bytes (take (n + 1) ps) found.1 fits)

pub returns-else-fits_room : goal.returns-else-fits_room
returns-else-fits_room c = λ tree small few.
    let bytes = c.args.bytes.now in
    let ps = c.scan_cells.new.places in
    let n = c.in_ok-count.count in
    let found = c.in_ok-count.ensures in
    not_from_Decides _ c.fits_room.ensures c.if-fits_room.false
    (subst (λ (k : ℕ). Fits c.args.room (state_of bytes (take k ps))) (sym (sub-zero (n + 1))) (tree_fits c.args.room bytes (take (n + 1) ps) found.1 tree))
