-- The rows of the table: a script for each, played.
use Rattle.std.proofs.Common.{◌≡◌, ℕ, false, ◌&&◌, eqb, List, [], ◌∷◌, ◌++◌, refl, ap, subst}
use mathlib.Core.List.{Memᴰ}
use Rattle.runs.specs.Replicas.{Said, Seen, Goes, there, posted, given, whole, without, answered_off, left_by, was_asked, how_many, is_in}
use Rattle.std.proofs.lemmas.Bool.{cond-false, and_left, and_right}
use Rattle.agreement.specs.declared.Role.TheVariants.{Leader}
use Rattle.agreement.specs.declared.Joining.{Joining}
use Rattle.agreement.specs.Content.{rank, roster}
use Rattle.agreement.specs.Machine.{Mind, Join, accepted, is_leader, join_fits, still, code, then_do, to_each, tell, tell_all, tell_done, forward_head, hands, answer_head, first_from, own_head, does, serve, settle, elect, on_prepare, on_promise, implied, hold_or_not, offered, take_or_not, on_propose, alive_here, alive_there, on_alive, on_accepted, on_join, on_forward, wait_or_not, quick_or_not, ask_all, say_again, stand_or_not, on_beat, hears, turn}
use Rattle.agreement.specs.Sums.{sums}
use Rattle.agreement.specs.Table.{CallAnswered, CrashAndBack, join77, LateJoin, StaleLeader, QuickAnswer, NinthCall, Alone, ShortRuns}
use Rattle.agreement.proofs.Plays.{Act, hear, ask, tick, fall, wake, Run, begins, play}

-- replica 1 is asked; the leader proposes, replica 1 holds it, the leader has a quorum and tells so
abbrev added : List (Act ℕ)
added = ask 1 10 5 ∷ hear 0 1 0 ∷ hear 1 0 0 ∷ hear 0 1 0 ∷ hear 1 0 0 ∷ []

call_answered : CallAnswered
unfolding posted given whole without answered_off left_by was_asked how_many is_in rank then_do to_each tell tell_all tell_done forward_head hands answer_head first_from own_head does serve settle elect on_prepare on_promise implied hold_or_not offered take_or_not on_propose alive_here alive_there on_alive on_accepted on_join on_forward wait_or_not quick_or_not ask_all say_again stand_or_not on_beat hears turn
call_answered = let r = play sums 3 added (begins sums 3) in (r.steps, r.scene, r.goes, (_, refl, refl))

-- it crashes, and comes up; at a tick the leader speaks to it; it joins, which replica 2 votes for; it keeps what names it, and is whole when it hears that that is chosen
abbrev back : List (Act ℕ)
back = fall 1 ∷ wake 1 77 ∷ tick 0 ∷ hear 1 0 0 ∷ hear 0 1 0 ∷ hear 2 0 0 ∷ hear 0 2 0 ∷ hear 1 0 1 ∷ hear 1 0 0 ∷ []

-- replica i reads; then it is told what is chosen, and answers
abbrev read : (i n : ℕ) → List (Act ℕ)
read i n = ask i n 0 ∷ hear 0 i 0 ∷ hear i 0 0 ∷ hear 0 i 0 ∷ hear i 0 0 ∷ []

crash_and_back : CrashAndBack
unfolding posted given whole without answered_off left_by was_asked how_many is_in rank then_do to_each tell tell_all tell_done forward_head hands answer_head first_from own_head does serve settle elect on_prepare on_promise implied hold_or_not offered take_or_not on_propose alive_here alive_there on_alive on_accepted on_join on_forward wait_or_not quick_or_not ask_all say_again stand_or_not on_beat hears turn
crash_and_back = let r = play sums 3 (added ++ back ++ read 2 11 ++ read 1 12) (begins sums 3) in (r.steps, r.scene, r.goes, (refl, (_, refl, (refl, refl))))

-- the Join of 77 is not heard; 88 is written in
abbrev again : List (Act ℕ)
again = fall 1 ∷ wake 1 77 ∷ tick 0 ∷ hear 1 0 0 ∷ fall 1 ∷ wake 1 88 ∷ tick 0 ∷ hear 1 0 0 ∷ hear 0 1 0 ∷ hear 2 0 0 ∷ hear 0 2 0 ∷ hear 1 0 1 ∷ hear 1 0 0 ∷ []

-- a Join that does not fit is passed over
passed_over : (j : ℕ) (q : Joining) (m : Mind sums) → (is_leader m.agreement.role && join_fits j q (accepted m)) ≡ false → turn (Said j (Join q)) m ≡ still m
unfolding turn hears on_join
passed_over j q m e = cond-false (is_leader m.agreement.role && join_fits j q (accepted m)) _ _ e

late_from : (r : Run sums 3) (m : Mind sums) → r.seen ≡ [] → r.scene.frail 1 ≡ false → Memᴰ (record { by = 1; to = 0; word = join77 }) r.scene.letters → r.scene.house 0 ≡ there m → m.agreement.role ≡ Leader → roster (accepted m) 1 ≡ 88 → LateJoin
late_from r m a b c d e f = (
  r.steps,
  r.scene,
  subst (λ (es : List (Seen ℕ ℕ)). Goes (code sums) 3 r.steps es r.scene) a r.goes,
  (b, c, (m, d, (e, f, passed_over 1 (record { incarnation = 77; replaces = 0 }) m (and_right (is_leader m.agreement.role) _ (and_left _ _ (ap (λ (z : ℕ). eqb z 0) f)))))),
)

late_join : LateJoin
unfolding posted given whole without answered_off left_by was_asked how_many is_in rank then_do to_each tell tell_all tell_done forward_head hands answer_head first_from own_head does serve settle elect on_prepare on_promise implied hold_or_not offered take_or_not on_propose alive_here alive_there on_alive on_accepted on_join on_forward wait_or_not quick_or_not ask_all say_again stand_or_not on_beat hears turn
late_join = late_from (play sums 3 again (begins sums 3)) _ refl refl (Memᴰ.tail (Memᴰ.tail (Memᴰ.tail (Memᴰ.tail (Memᴰ.tail (Memᴰ.tail (Memᴰ.tail (Memᴰ.tail (Memᴰ.head refl))))))))) refl refl refl

-- replica 1 stands, and leads with the vote of 2; then 0 is asked, proposes in vain, hears of the new view from 2, and forwards its call to 1
abbrev stale : List (Act ℕ)
stale =
    tick 1 ∷ tick 1 ∷ tick 1 ∷ tick 1 ∷ hear 2 1 0 ∷ hear 1 2 0 ∷ hear 2 1 0 ∷ hear 1 2 0 ∷ ask 0 12 9 ∷ hear 2 0 0 ∷ hear 0 2 0 ∷ tick 0 ∷ hear 1 0 0 ∷ hear 2 1 0 ∷ hear 1 2 0 ∷ hear 0 1 1 ∷ hear 0 1 0 ∷ []

stale_leader : StaleLeader
unfolding posted given whole without answered_off left_by was_asked how_many is_in rank then_do to_each tell tell_all tell_done forward_head hands answer_head first_from own_head does serve settle elect on_prepare on_promise implied hold_or_not offered take_or_not on_propose alive_here alive_there on_alive on_accepted on_join on_forward wait_or_not quick_or_not ask_all say_again stand_or_not on_beat hears turn
stale_leader = let r = play sums 3 stale (begins sums 3) in (r.steps, r.scene, r.goes, (_, refl, (refl, refl)))

quick_answer : QuickAnswer
unfolding posted given whole without answered_off left_by was_asked how_many is_in rank then_do to_each tell tell_all tell_done forward_head hands answer_head first_from own_head does serve settle elect on_prepare on_promise implied hold_or_not offered take_or_not on_propose alive_here alive_there on_alive on_accepted on_join on_forward wait_or_not quick_or_not ask_all say_again stand_or_not on_beat hears turn
quick_answer = let r = play sums 3 (fall 1 ∷ wake 1 77 ∷ ask 1 13 1 ∷ []) (begins sums 3) in (r.steps, r.scene, r.goes, refl)

ninth_call : NinthCall
unfolding posted given whole without answered_off left_by was_asked how_many is_in rank then_do to_each tell tell_all tell_done forward_head hands answer_head first_from own_head does serve settle elect on_prepare on_promise implied hold_or_not offered take_or_not on_propose alive_here alive_there on_alive on_accepted on_join on_forward wait_or_not quick_or_not ask_all say_again stand_or_not on_beat hears turn
ninth_call = let r = play sums 3 (ask 1 20 5 ∷ ask 1 21 5 ∷ ask 1 22 5 ∷ ask 1 23 5 ∷ ask 1 24 5 ∷ ask 1 25 5 ∷ ask 1 26 5 ∷ ask 1 27 5 ∷ ask 1 28 5 ∷ []) (begins sums 3) in (r.steps, r.scene, r.goes, (_, refl, refl))

alone' : Alone
unfolding posted given whole without answered_off left_by was_asked how_many is_in rank then_do to_each tell tell_all tell_done forward_head hands answer_head first_from own_head does serve settle elect on_prepare on_promise implied hold_or_not offered take_or_not on_propose alive_here alive_there on_alive on_accepted on_join on_forward wait_or_not quick_or_not ask_all say_again stand_or_not on_beat hears turn
alone' = let r = play sums 1 (ask 0 1 5 ∷ ask 0 2 0 ∷ []) (begins sums 1) in (r.steps, r.scene, r.goes, refl)

pub short_runs : ShortRuns
short_runs = (call_answered, crash_and_back, late_join, stale_leader, quick_answer, ninth_call, alone')
