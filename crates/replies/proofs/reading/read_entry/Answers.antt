-- An entry, part by part.
use Rattle.std.proofs.Common.{sym, refl, ap, ◌∙◌}
use Rattle.std.specs.Option.{option_map}
use Rattle.calls.specs.Format.{number_at, value_at, version_at, made_at, changed_at, kids_at, owner_at, wholly}
use Rattle.model.specs.Tree.{Entry'}
use Rattle.replies.specs.Reading.{entry_of}
use Rattle.replies.proofs.Spellings.{wholly_map, next}
use Rattle.replies.proofs.reading.read_entry.Goals as goal

pub returns : goal.returns
returns c =
    let v = c.in_ok-value.value.now in
    let n = c.in_ok-version.version in
    let m = c.in_ok-made.made in
    let g = c.in_ok-changed.changed in
    let k = c.in_ok-kids.kids in
    ap (option_map entry_of) c.wholly.ensures
    ∙ (wholly_map entry_of _ c.in_ok-session.rest.now
    ∙ sym
    (next (value_at c.args.bytes.now) (λ r. version_at r.0 r.1) v c.in_ok-value.rest.now _ (sym c.in_ok-value.ensures)
    (next (number_at c.in_ok-value.rest.now) (λ r. made_at v r.0 r.1) n c.in_ok-version.rest.now _ (sym c.in_ok-version.ensures)
    (next (number_at c.in_ok-version.rest.now) (λ r. changed_at v n r.0 r.1) m c.in_ok-made.rest.now _ (sym c.in_ok-made.ensures)
    (next (number_at c.in_ok-made.rest.now) (λ r. kids_at v n m r.0 r.1) g c.in_ok-changed.rest.now _ (sym c.in_ok-changed.ensures)
    (next (number_at c.in_ok-changed.rest.now) (λ r. owner_at v n m g r.0 r.1) k c.in_ok-kids.rest.now _ (sym c.in_ok-kids.ensures)
    (next (number_at c.in_ok-kids.rest.now) (λ r. wholly (Entry' v n m g k r.0, r.1)) c.in_ok-session.session c.in_ok-session.rest.now _ (sym c.in_ok-session.ensures) refl)))))))
