-- The text is the part itself, or what was spelled of it.
use Rattle.std.proofs.Common.{◌≡◌, ◌∙◌, IsUtf8, take, true, sym, rules}
use Rattle.std.proofs.Output.{has_written_of_eq}
use Rattle.std.proofs.lemmas.Str.{IsUtf8-from_ascii}
use Rattle.std.specs.List.{list_all}
use Rattle.spelling.specs.Spelled.{plain}
use Rattle.spelling.proofs.Characters.{plain_bytes}
use Rattle.spelling.proofs.wording.write_part.Goals as goal

pub unwrap-requires : goal.unwrap-requires
unwrap-requires g c =
    let all : list_all (plain c.args.quoted) c.args.part.now ≡ true = sym c.are_plain.ensures ∙ c.if-are_plain.true in
    let text : IsUtf8 c.args.part.now = IsUtf8-from_ascii c.args.part.now (plain_bytes c.args.quoted c.args.part.now all).1 in
    search rules

pub returns-then-are_plain : goal.returns-then-are_plain
returns-then-are_plain g c = λ plain_formatter ok.
    let all : list_all (plain c.args.quoted) c.args.part.now ≡ true = sym c.are_plain.ensures ∙ c.if-are_plain.true in
    let read = rw c.unwrap.ensures at c.from_utf8.ensures.cases in
    has_written_of_eq _ _ _ _ _ (read.0 ∙ sym (plain_bytes c.args.quoted c.args.part.now all).0) (c.write_str.ensures.writes plain_formatter ok)

pub unwrap-requires-2 : goal.unwrap-requires-2
unwrap-requires-2 g c =
    let text : IsUtf8 (take c.spell_part-used.result c.spell_part-used.new.room) = rw c.spell_part-used.ensures.text (IsUtf8-from_ascii _ c.spell_part-used.ensures.ascii) in
    search rules
