-- The kind of answer that the first byte says.
use Rattle.std.proofs.Common.{ℕ, string_bytes, sym, ap, ◌∙◌}
use Rattle.std.specs.Option.{option_map}
use Rattle.model.specs.Tree.{Session}
use Rattle.calls.specs.Format.{reply_by, decode_reply}
use Rattle.replies.specs.Reading.{refusal_of, entry_of}
use Rattle.replies.specs.Answers.{reply_spelled}
use Rattle.replies.proofs.Spellings.{spelled, by_kind}
use Rattle.replies.proofs.tell.Goals as goal

pub returns-in_ok-write-in-0 : goal.returns-in_ok-write-in-0
unfolding reply_spelled
returns-in_ok-write-in-0 c =
    spelled (decode_reply c.args.bytes.now) (refusal_of c.in_ok-ok_or-in-0.field-0) (string_bytes c.args.out.now) (string_bytes c.write.new.self)
    (ap (option_map refusal_of) (sym c.in_ok-ok_or-in-0.ensures.ok_part)
    ∙ (c.read_refusal.ensures
    ∙ (ap (λ (k : ℕ). reply_by k c.in_ok-kind.rest.now) (sym c.in-0.is) ∙ by_kind c.args.bytes.now c.in_ok-kind.kind c.in_ok-kind.rest c.byte.result c.byte.ensures c.in_ok-kind.ensures.ok_part)))
    c.in_ok-write-in-0.ensures.bytes

pub returns-in_ok-write-in-2 : goal.returns-in_ok-write-in-2
unfolding reply_spelled
returns-in_ok-write-in-2 c =
    spelled (decode_reply c.args.bytes.now) (entry_of c.in_ok-ok_or-in-2.field-0) (string_bytes c.args.out.now) (string_bytes c.write-in-2.new.self)
    (ap (option_map entry_of) (sym c.in_ok-ok_or-in-2.ensures.ok_part)
    ∙ (c.read_entry.ensures
    ∙ (ap (λ (k : ℕ). reply_by k c.in_ok-kind.rest.now) (sym c.in-2.is) ∙ by_kind c.args.bytes.now c.in_ok-kind.kind c.in_ok-kind.rest c.byte.result c.byte.ensures c.in_ok-kind.ensures.ok_part)))
    c.in_ok-write-in-2.ensures.bytes

pub returns-in_ok-write-in-4 : goal.returns-in_ok-write-in-4
unfolding reply_spelled
returns-in_ok-write-in-4 c =
    spelled (decode_reply c.args.bytes.now) (Session c.in_ok-session-in-4.session) (string_bytes c.args.out.now) (string_bytes c.write-in-4.new.self)
    (ap (option_map Session) (sym c.in_ok-session-in-4.ensures.ok_part)
    ∙ (c.read_session.ensures
    ∙ (ap (λ (k : ℕ). reply_by k c.in_ok-kind.rest.now) (sym c.in-4.is) ∙ by_kind c.args.bytes.now c.in_ok-kind.kind c.in_ok-kind.rest c.byte.result c.byte.ensures c.in_ok-kind.ensures.ok_part)))
    c.in_ok-write-in-4.ensures.bytes
