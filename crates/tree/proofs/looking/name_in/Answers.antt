use Rattle.std.proofs.Common.{ℕ, List, length, ap, ◌∙◌, arith}
use Rattle.std.proofs.lemmas.List.{take_rest}
use Rattle.model.specs.Tree.{last_name}
use Rattle.lent_bytes.specs.Paths.{path_of, name_bytes}
use Rattle.cells.specs.Layout.{entry_of}
use Rattle.tree.proofs.Tops.{path_some}
use Rattle.tree.proofs.Looks.{name_bytes_lem, name_short}
use Rattle.tree.proofs.looking.name_in.Goals as goal

pub last_name-requires : goal.last_name-requires
last_name-requires c = path_some c.path-path.result.names.now c.path-path.ensures.ok

pub returns : goal.returns
unfolding entry_of
returns c =
    let own = c.path-path.ensures in
    let path = c.path-path.result.names.now in
    let bytes = take_rest path c.last_name.result ∙ name_bytes_lem path c.last_name.result c.path-path.result.spells own.ok c.last_name.ensures in
    let short = name_short (path_of path) own.ok in
    record { value = bytes ∙ ap (λ (l : List ℕ). name_bytes (last_name (path_of l))) own.value; few = omega (arith, ap length bytes) }
