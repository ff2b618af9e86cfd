-- The tree as a service that replicas keep together: what is answered at once, what only looks, what is kept of a write, and what is said from that; over calls, and over calls as bytes.
-- Assumes nothing.
use Rattle.std.specs.Prelude.{ℕ, Bool, true, false, cond, not, ◌&&◌, ◌||◌, List, [], ◌∷◌, length, Some, None, Option, ◌==◌, nat_lt, Ok, Err, Result}
use Rattle.std.specs.Option.{option_map}
use Rattle.model.specs.Tree.{Path, State, blank, none, last_name, path_ok, value_ok, Act, Make, Put, Drop, Check, Call, Do, Look, Kids, Open, End, Reply, No, Done, Entry', Names, Session, does, core}
use Rattle.calls.specs.Format.{encode_reply}
use Rattle.calls.specs.Screening.{Screen, NotBuilt, NoCall, LetIn, screened}
use Rattle.tree.specs.declared.refusal.Refusal.{Refusal}
use Rattle.tree.specs.declared.refusal.Refusal.TheVariants.{OutOfRange, NotThere, AlreadyThere, OtherVersion, HasKids, NoSession, UnderSession, UsedUp, Full}
use Rattle.tree.specs.Answers.{reason, made_by}
use Rattle.promise.specs.Promise.{tree}
use Rattle.agreement.specs.Content.{Service}

-- WHAT IS ANSWERED
abbrev pub reply_to : ℕ → Screen → State → Reply
reply_to room NotBuilt s = No 0 12
reply_to room NoCall s = No 0 1
reply_to room (LetIn c) s = (does room c s).reply

abbrev pub next_to : ℕ → Screen → State → State
next_to room NotBuilt s = s
next_to room NoCall s = s
next_to room (LetIn c) s = (does room c s).state

-- AT ONCE: what isn't built, what is no call, and what is out of range whatever the tree is
abbrev pub act_in_range : Act → Bool
act_in_range (Make p v n o) = not (not (path_ok p) || not (value_ok v) || (n && nat_lt 54 (length (last_name p))))
act_in_range (Put p v x) = not (not (path_ok p) || not (value_ok v))
act_in_range (Drop p x) = not (not (path_ok p))
act_in_range (Check p x) = not (not (path_ok p))

abbrev pub in_range : Call → Bool
in_range (Do []) = true
in_range (Do (a ∷ [])) = act_in_range a
in_range (Do (a ∷ b ∷ as')) = true
in_range (Look p) = path_ok p
in_range (Kids p) = none p || path_ok p
in_range Open = true
in_range (End k) = true

abbrev pub at_once : Screen → Option Reply
at_once NotBuilt = Some (No 0 12)
at_once NoCall = Some (No 0 1)
at_once (LetIn c) = cond (in_range c) None (Some (No 0 1))

-- WHAT ONLY LOOKS
abbrev pub looks : Screen → Bool
looks NotBuilt = false
looks NoCall = false
looks (LetIn (Do as')) = false
looks (LetIn (Look p)) = true
looks (LetIn (Kids p)) = true
looks (LetIn Open) = false
looks (LetIn (End k)) = false

-- WHAT IS KEPT OF A WRITE, and said from that. The refusal of a number; any other number is none of a write's
abbrev pub refusal_of : ℕ → Refusal
refusal_of k =
    cond (k == 1) OutOfRange (cond (k == 2) NotThere (cond (k == 3) AlreadyThere (cond (k == 4) OtherVersion (cond (k == 5) HasKids (cond (k == 6) NoSession (cond (k == 7) UnderSession (cond (k == 8) UsedUp Full)))))))

-- what is kept of a write: a refusal, or that it was done
abbrev pub Outcome : Type 0
Outcome = Result (Unit {0}) Refusal

abbrev pub outcome_of : Reply → Outcome
outcome_of (No n k) = Err (refusal_of k)
outcome_of (Done ps) = Ok tt
outcome_of (Entry' v a b c d e) = Ok tt
outcome_of (Names ns) = Ok tt
outcome_of (Session k) = Ok tt

abbrev pub keep_to : ℕ → Screen → State → Outcome
keep_to room sc s = outcome_of (reply_to room sc s)

-- the paths that a call of one act makes
abbrev pub done_by : Call → List Path
done_by (Do []) = []
done_by (Do (a ∷ as')) = made_by a
done_by (Look p) = []
done_by (Kids p) = []
done_by Open = []
done_by (End k) = []

abbrev pub say_to : Screen → Outcome → Reply
say_to NotBuilt k = No 0 12
say_to NoCall k = No 0 1
say_to (LetIn c) (Err k) = No 0 (reason k)
say_to (LetIn c) (Ok u) = Done (done_by c)

-- one more call may be done: no count of the tree is near the end of 64 bits
abbrev pub is_calm : State → Bool
is_calm s = nat_lt s.changes 72057594037927936

-- THE SERVICE over calls as bytes, with answers as bytes: this is what the programs do
abbrev pub lines : ℕ → Service
lines room =
    record {
      O = List ℕ;
      R = List ℕ;
      K = Outcome;
      clerk = record { State = State; start = blank; reply = λ bs s. encode_reply (reply_to room (screened bs) s); next = λ bs s. next_to room (screened bs) s; busy = encode_reply (No 0 11) };
      is_read = λ bs. looks (screened bs);
      quick = λ bs. option_map encode_reply (at_once (screened bs));
      keep = λ bs s. keep_to room (screened bs) s;
      say = λ bs k. encode_reply (say_to (screened bs) k);
      calm = is_calm;
    }

-- THE SERVICE over calls themselves: its clerk is the one of the promise
abbrev pub screened_call : Call → Screen
screened_call c = cond (core c) (LetIn c) NotBuilt

abbrev pub calls : ℕ → Service
calls room =
    record {
      O = Call;
      R = Reply;
      K = Outcome;
      clerk = tree room core;
      is_read = λ c. looks (screened_call c);
      quick = λ c. at_once (screened_call c);
      keep = λ c s. keep_to room (screened_call c) s;
      say = λ c k. say_to (screened_call c) k;
      calm = is_calm;
    }
