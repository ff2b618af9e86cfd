use Rattle.std.proofs.Common.{◌≡◌, ℕ, ◌+◌, ◌-◌, ◌<◌, List, [], ◌∷◌, length, Err, sym, refl, ap, ◌∙◌, arith}
use Rattle.std.proofs.ByRecursion.{All-from_get_or}
use Rattle.std.proofs.lemmas.Bool.{not-true, not-false}
use Rattle.std.proofs.lemmas.Bool.Decides.{not_from_Decides}
use Rattle.model.specs.Tree.{Path, Entry, Bad, weight}
use Rattle.lent_bytes.specs.Paths.{path_of}
use Rattle.lent_bytes.proofs.PathBytes.{path_long}
use Rattle.cells.specs.Layout.{state_of}
use Rattle.making.specs.Making.{with_made}
use Rattle.tree.specs.Steps.{at_count, overweight}
use Rattle.tree.proofs.Seeks.{is_false}
use Rattle.changing.proofs.Doings.{value_ok_lem}
use Rattle.tree.proofs.Weighs.{space, within_room, refuse, heavy, done}
use Rattle.making.proofs.Makes.{make_long, make_names, make_orphan, make_is, made_weighs}
use Rattle.tree.proofs.Tops.{path_some}
use Rattle.making.proofs.make.Goals as goal

-- the entry that is made in a state
abbrev entry_made : Path → List ℕ → ℕ → ℕ → Entry
entry_made p v o n = record { path = p; value = v; version = 0; made = n; changed = n; kids = 0; owner = o }

pub returns-then-value-gt65536 : goal.returns-then-value-gt65536
returns-then-value-gt65536 c =
    let s = state_of c.args.base.tree.bytes.now c.args.base.tree.places.now in
    record { step = refuse c.args.base.changes.0 c.args.base.room s _ 1 (make_long _ c.args.value.now _ s c.if-value-gt65536.true); drafts = tt }

pub returns-then-not-is_ok : goal.returns-then-not-is_ok
returns-then-not-is_ok c =
    let s = state_of c.args.base.tree.bytes.now c.args.base.tree.places.now in
    record { step = refuse c.args.base.changes.0 c.args.base.room s _ 1 (make_names _ c.args.value.now _ s (sym c.if-not-is_ok.ensures)); drafts = tt }

pub find_above-requires : goal.find_above-requires
find_above-requires c = record { some = path_some c.args.path.names.now (sym c.if-not-is_ok.ensures) }

pub returns-in_err-parent-clause-step : goal.returns-in_err-parent-clause-step
returns-in_err-parent-clause-step c =
    let s = state_of c.args.base.tree.bytes.now c.args.base.tree.places.now in
    let v = c.args.value.now in
    let po = (sym c.if-not-is_ok.ensures) in
    let vo = value_ok_lem v c.if-value-gt65536.false (All-from_get_or (λ b. b < 256) v 0 (λ i l. (c.type_inv.value i).fits)) in
    let orphan = c.in_err-parent.ensures.above in
    let is : c.from_residual.result ≡ Err c.in_err-parent.field-0.0 = grind arith in
    rw is (refuse c.args.base.changes.0 c.args.base.room s _ _ (make_orphan _ v c.args.session.0 s po vo orphan.0 ∙ ap Bad (sym orphan.1)))

pub returns-in_err-check_free-clause-step : goal.returns-in_err-check_free-clause-step
returns-in_err-check_free-clause-step c =
    let s = state_of c.args.base.tree.bytes.now c.args.base.tree.places.now in
    let v = c.args.value.now in
    let po = (sym c.if-not-is_ok.ensures) in
    let vo = value_ok_lem v c.if-value-gt65536.false (All-from_get_or (λ b. b < 256) v 0 (λ i l. (c.type_inv.value i).fits)) in
    let is : c.from_residual-in_err-check_free.result ≡ Err c.in_err-check_free.field-0.0 = grind arith in
    rw is (refuse c.args.base.changes.0 c.args.base.room s _ _ (make_is _ v c.args.session.0 s po vo c.in_ok-parent.ensures.above.0 ∙ c.in_err-check_free.ensures _))

pub has_room-requires : goal.has_room-requires
has_room-requires c =
    let room = space c.args.base.tree.bytes.now c.args.base.tree.places.now c.args.base.tree.holds c.args.base.ready.few in
    record { small = omega arith; fits = c.args.base.ready.weighs; room = omega arith; few = omega arith; less = omega arith }

pub returns-then-not-has_room : goal.returns-then-not-has_room
returns-then-not-has_room c =
    let s = state_of c.args.base.tree.bytes.now c.args.base.tree.places.now in
    let v = c.args.value.now in
    let p = path_of c.args.path.names.now in
    let po = (sym c.if-not-is_ok.ensures) in
    let vo = value_ok_lem v c.if-value-gt65536.false (All-from_get_or (λ b. b < 256) v 0 (λ i l. (c.type_inv.value i).fits)) in
    let e = entry_made p v c.args.session.0 (s.changes + 1) in
    let t = with_made p e s in
    let weighs = made_weighs p e s in
    let same : weight s + (1280 + length v) - 0 ≡ weight t = omega arith in
    record {
      step = heavy c.args.base.changes.0 c.args.base.room s _ (p ∷ []) t (make_is p v c.args.session.0 s po vo c.in_ok-parent.ensures.above.0 ∙ c.in_ok-check_free.ensures _)
          (ap (overweight c.args.base.room (weight s)) (sym same) ∙ not-false _ (sym c.if-not-has_room.ensures));
      drafts = tt;
    }

pub overflow_cast-head-2 : goal.overflow_cast-head-2
overflow_cast-head-2 c =
    let long = path_long (path_of c.args.path.names.now) (sym c.if-not-is_ok.ensures) in
    let same = ap length c.args.path.spells in
    record { fits = omega arith }

pub write_made-requires : goal.write_made-requires
write_made-requires c =
    let s = state_of c.args.base.tree.bytes.now c.args.base.tree.places.now in
    let v = c.args.value.now in
    let po = (sym c.if-not-is_ok.ensures) in
    let long = path_long (path_of c.args.path.names.now) po in
    let same = ap length c.args.path.spells in
    let room = space c.args.base.tree.bytes.now c.args.base.tree.places.now c.args.base.tree.holds c.args.base.ready.few in
    let left = within_room c.args.base.room (weight s) (weight s + (1280 + length v) - 0) (not-true _ (sym c.if-not-has_room.ensures)) in
    let above = c.in_ok-parent.ensures.above in
    record {
      ok = po;
      names = refl;
      values = refl;
      few = c.if-value-gt65536.false;
      above = above.1;
      top = above.2;
      within = c.in_ok-parent.ensures.within;
      counts = c.args.base.ready.counts.entries;
      tops = c.args.base.ready.counts.top;
      bytes = omega (arith, c.requires.bytes, c.args.base.ready.weighs);
      small = omega (arith, c.requires.small);
      words = omega (arith, c.requires.words, c.args.base.ready.weighs);
    }

pub returns : goal.returns
returns c =
    let s = state_of c.args.base.tree.bytes.now c.args.base.tree.places.now in
    let v = c.args.value.now in
    let p = path_of c.args.path.names.now in
    let o = c.args.session.0 in
    let po = (sym c.if-not-is_ok.ensures) in
    let vo = value_ok_lem v c.if-value-gt65536.false (All-from_get_or (λ b. b < 256) v 0 (λ i l. (c.type_inv.value i).fits)) in
    let e = entry_made p v o (s.changes + 1) in
    let t = with_made p e s in
    let weighs = made_weighs p e s in
    let same : weight s + (1280 + length v) - 0 ≡ weight t = omega arith in
    record {
      step = done c.args.base.changes.0 c.args.base.room s _ (p ∷ []) t (make_is p v o s po vo c.in_ok-parent.ensures.above.0 ∙ c.in_ok-check_free.ensures _) _
          (ap (overweight c.args.base.room (weight s)) (sym same) ∙ not-true _ (sym c.if-not-has_room.ensures))
          (c.write_made.ensures.state ∙ ap (λ (n : ℕ). at_count c.args.base.changes.0 (with_made p (entry_made p v o (n + 1)) s)) c.changes.ensures);
      drafts = c.write_made.ensures.drafts;
    }
