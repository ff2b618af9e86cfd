-- Each turn writes one byte.
use Rattle.std.proofs.Common.{◌≡◌, ◌≤◌, IsAscii, length, take, ap, ◌∙◌, arith, rules}
use Rattle.std.proofs.lemmas.List.{take_all}
use Rattle.spelling.specs.Spelled.{chars_spelled}
use Rattle.spelling.proofs.Characters.{no_ascii, none_wrote, more_ascii, more_wrote, wrote_all}
use Rattle.spelling.proofs.wording.spell_part.Goals as goal

pub loop-byte-init : goal.loop-byte-init
loop-byte-init c = record {
  short = omega arith;
  ascii = no_ascii c.args.quoted;
  wrote = none_wrote c.args.quoted c.new-text.result;
}

pub write_spelled-requires : goal.write_spelled-requires
write_spelled-requires c = omega (arith, c.loop-byte.invariant.wrote.added.long, ap length c.new-text.ensures.now)

pub loop-byte-preserved : goal.loop-byte-preserved
loop-byte-preserved c =
    let so_far = c.loop-byte.invariant in
    record {
      short = omega arith;
      ascii = more_ascii c.args.quoted c.args.bytes.now c.loop-byte.byte-index c.loop-byte-test.true so_far.ascii c.write_spelled.ensures.ascii;
      wrote = more_wrote c.args.quoted c.args.bytes.now c.loop-byte.byte-index c.loop-byte-test.true _ _ _ so_far.wrote c.write_spelled.ensures.wrote;
    }

pub returns : goal.returns
returns c =
    let so_far = c.loop-byte.invariant in
    let all : take c.loop-byte.byte-index c.args.bytes.now ≡ c.args.bytes.now = take_all c.loop-byte.byte-index c.args.bytes.now c.loop-byte-test.false in
    let ascii : IsAscii (chars_spelled c.args.quoted c.args.bytes.now) = rw all at so_far.ascii in
    let text : take c.loop-byte.text.used c.loop-byte.text.out.now ≡ chars_spelled c.args.quoted c.args.bytes.now =
    wrote_all c.args.quoted _ c.new-text.result c.loop-byte.text c.new-text.ensures.used so_far.wrote ∙ ap (chars_spelled c.args.quoted) all in
    let inside : c.loop-byte.text.used ≤ length c.loop-byte.text.out.now = c.loop-byte.text.inside in
    search rules
