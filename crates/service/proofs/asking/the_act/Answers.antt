use Rattle.service.proofs.Ranges.{read_some, read_act_is}
use Rattle.service.proofs.asking.the_act.Goals as goal

pub unwrap-requires : goal.unwrap-requires
unwrap-requires c = read_some c.args.acts.count c.args.acts.bytes.now c.read_act.result c.args.acts.whole c.requires c.read_act.ensures

pub returns : goal.returns
returns c = read_act_is c.args.acts.count c.args.acts.bytes.now c.read_act.result c.unwrap.result c.args.acts.whole c.requires c.read_act.ensures c.unwrap.ensures
