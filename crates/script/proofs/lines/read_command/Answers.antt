-- The word `houses`, of its characters.
use Rattle.std.proofs.Common.{◌≡◌, ℕ, List, codes, sym, subst, rules}
use Rattle.std.proofs.lemmas.Slice.Eq.{text_from_reads}
use Rattle.words.specs.Values.{Reads}
use Rattle.script.specs.Lines.{line_of, command_by}
use Rattle.script.proofs.lines.read_command.Goals as goal

pub returns-in-houses : goal.returns-in-houses
returns-in-houses c =
    let word : c.args.word.now ≡ codes "houses" = text_from_reads c.args.word.now (codes "houses") (search rules) (search rules) in
    subst (λ (w : List ℕ). Reads line_of c.read_houses.result (command_by w c.args.rest.now)) (sym word) c.read_houses.ensures
