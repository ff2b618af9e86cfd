-- From what a call asks to what is said to it. Assumes nothing.
use Rattle.std.proofs.Common.{◌≡◌, ℕ, ◌+◌, ◌-◌, ◌≤◌, cond, List, ◌++◌, length, take, drop, Some, None, Option, sym, refl, ap, ◌∙◌, arith, length-take-le}
use lib.Seq.{take-append-le}
use borrow.Rule.Slice.PartMut.{put_mid, post_of}
use Rattle.std.specs.List.{between}
use Rattle.std.proofs.lemmas.List.{drop_at}
use Rattle.model.specs.Tree.{State, Reply}
use Rattle.calls.specs.Format.{encode_reply}
use Rattle.calls.specs.Screening.{Screen, screened}
use Rattle.service.specs.Service.{Outcome, reply_to, looks, say_to}
use Rattle.service.specs.Answering.{Says}
use Rattle.serving.specs.Replying.{reply_from, SaidAs}

-- the same by what the call is
abbrev say_as : Screen → Option Outcome → Option (List ℕ)
say_as sc None = None
say_as sc (Some k) = Some (encode_reply (say_to sc k))

abbrev reply_as : ℕ → Screen → State → Option Outcome → Option (List ℕ)
reply_as room sc s o = cond (looks sc) (Some (encode_reply (reply_to room sc s))) (say_as sc o)

reply_as_lem : (room : ℕ) (call : List ℕ) (s : State) (o : Option Outcome) → reply_from room call s o ≡ reply_as room (screened call) s o
reply_as_lem room call s None = refl
reply_as_lem room call s (Some k) = refl

pub said : (room : ℕ) (call : List ℕ) (s : State) (o : Option Outcome) (out : List ℕ) (n : ℕ) (sc : Screen) (r : Reply) → screened call ≡ sc → reply_as room sc s o ≡ Some (encode_reply r) → Says r out n → SaidAs (reply_from room call s o) out (Some n)
said room call s o out n sc r is e d =
    (d.inside, reply_as_lem room call s o ∙ (ap (λ (x : Screen). reply_as room x s o) is ∙ (e ∙ ap Some (sym d.bytes))))

-- what was written to a part of a buffer stands there
pub part_said : (a k n : ℕ) (xs ys : List ℕ) → a ≤ length xs → n ≤ length ys → between a (a + n) (put_mid a k xs ys) ≡ take n ys
part_said a k n xs ys la ln =
    let d : (a + n) - a ≡ n = omega arith in
    ap (λ (i : ℕ). take i (drop a (put_mid a k xs ys))) d ∙ (ap (take n) (drop_at (take a xs) (ys ++ post_of a k xs) a (length-take-le a xs la)) ∙ take-append-le n ys (post_of a k xs) ln)
