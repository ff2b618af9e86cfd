-- What the parts that are read of answers stand for.
use Rattle.model.specs.Tree as Tree
use Rattle.replies.specs.declared.reading.Refusal.{Refusal}
use Rattle.replies.specs.declared.reading.Entry.{Entry}

abbrev pub refusal_of : Refusal → Tree.Reply
refusal_of r = Tree.No r.act r.reason

abbrev pub entry_of : Entry → Tree.Reply
entry_of e = Tree.Entry' e.value.now e.version e.made e.changed e.kids e.session
