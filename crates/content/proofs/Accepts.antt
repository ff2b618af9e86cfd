-- In memory that suits a room a scan finds every tree that fits. Assumes nothing.
use Rattle.std.proofs.Common.{ℕ, ◌+◌, ◌/◌, ◌<◌, ◌≤◌, List, length, Some, None, Option, arith}
use Rattle.scan.specs.Scans.{places_of, Scanned}
use Rattle.tree.proofs.Seeks.{is_false}
use Rattle.tree.proofs.Weighs.{space}
use Rattle.content.specs.Content.{is_tree, Accepted}
use Rattle.content.proofs.Decided.{tree_decided}

pub accepted : (room : ℕ) (bytes ps : List ℕ) (r : Option ℕ) → room / 1280 + 1 ≤ length ps → room + 32796 < 4294967296 → Scanned room bytes ps r → Accepted room bytes ps r
accepted room bytes ps None words small h =
    is_false (is_tree room bytes)
    (λ t.
    let tree = (tree_decided room bytes).0 t in
    let takes = space bytes (places_of bytes) tree.holds tree.fits.few in
    let weighs = tree.fits.weighs in
    h tree (omega arith) (omega arith))
accepted room bytes ps (Some n) words small h = ((tree_decided room bytes).1 h.2, h.0, h.1, h.2)
