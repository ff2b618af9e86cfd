-- Each way out, and each turn, is one step of the definition.
use Rattle.std.proofs.Common.{◌≡◌, ℕ, ◌<◌, List, length, Some, None, Option, vec_items, Bor, sym, refl, ap, subst, ◌∙◌, arith}
use Rattle.std.specs.Option.{option_map}
use Rattle.calls.specs.Reading.{behind}
use Rattle.words.specs.Values.{IsLess}
use Rattle.words.specs.Words.{is_over, char_at, chars_at}
use Rattle.words.proofs.Many.{IsLeft, left_start, left_over, left_wrong, left_more}
use Rattle.words.proofs.Faults.{faulted}
use Rattle.words.proofs.reading.read_chars.Goals as goal

pub loop-rest-init : goal.loop-rest-init
loop-rest-init c =
    record {
      within = omega arith;
      left =
          subst (λ (xs : List ℕ). IsLeft (is_over c.args.quoted) char_at (chars_at c.args.quoted c.args.text.now) xs c.args.text.now) (sym c.new-chars.ensures.items)
          (left_start (is_over c.args.quoted) char_at c.args.text.now);
    }

pub returns-in_err-c-clause-value : goal.returns-in_err-c-clause-value
returns-in_err-c-clause-value c =
    let none : c.read_char.result ≡ None = grind arith in
    faulted vec_items c.from_residual.result (chars_at c.args.quoted c.args.text.now) c.from_residual.ensures.0
    (left_wrong (is_over c.args.quoted) char_at (chars_at c.args.quoted c.args.text.now) (vec_items c.loop-rest.chars) c.loop-rest.rest.now c.loop-rest.invariant.left refl
    (sym c.is_over.ensures ∙ c.loop-rest-test.true)
    (sym c.read_char.ensures.value ∙ ap (option_map behind) none))

pub loop-rest-preserved : goal.loop-rest-preserved
loop-rest-preserved c =
    let got : c.read_char.result ≡ Some (c.in_ok-c.c, c.in_ok-c.next) = grind arith in
    let less : length c.in_ok-c.next.now < length c.loop-rest.rest.now = subst (λ (o : Option (ℕ × Bor (List ℕ))). IsLess o c.loop-rest.rest.now) got c.read_char.ensures.less in
    record {
      within = omega arith;
      left =
          subst (λ (xs : List ℕ). IsLeft (is_over c.args.quoted) char_at (chars_at c.args.quoted c.args.text.now) xs c.in_ok-c.next.now) (sym c.in_ok-push.ensures.items)
          (left_more (is_over c.args.quoted) char_at (chars_at c.args.quoted c.args.text.now) (vec_items c.loop-rest.chars) c.loop-rest.rest.now c.loop-rest.invariant.left c.in_ok-c.c
          c.in_ok-c.next.now
          less
          (sym c.is_over.ensures ∙ c.loop-rest-test.true)
          (sym c.read_char.ensures.value ∙ ap (option_map behind) got));
    }

pub returns-clause-value : goal.returns-clause-value
returns-clause-value c =
    left_over (is_over c.args.quoted) char_at (chars_at c.args.quoted c.args.text.now) (vec_items c.loop-rest.chars) c.loop-rest.rest.now c.loop-rest.invariant.left
    (sym c.is_over.ensures ∙ c.loop-rest-test.false)
