use Rattle.std.proofs.Common.{◌≡◌, length, drop, refl, ◌∙◌, arith, rules}
use Rattle.std.proofs.lemmas.List.{get_or_append_left}
use Rattle.memory.proofs.beginning.clear.Goals as goal

pub returns : goal.returns
returns c k h =
    let long : length c.fill.new.self ≡ 15 = search rules in
    get_or_append_left c.fill.new.self (drop 15 c.args.ends.now) 0 k (omega arith) ∙ c.fill.ensures.clones k 0 (omega (arith, c.fill.ensures.len, long)) refl
