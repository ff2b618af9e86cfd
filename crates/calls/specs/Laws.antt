-- Reading undoes writing, and writing undoes reading: so a call has one run of bytes, and a run of bytes at most one call; likewise answers. Each is a type; a proof of the type is the theorem.
-- Assumes nothing.
use Rattle.std.specs.Prelude.{◌≡◌, ℕ, ◌<◌, Bool, true, ◌&&◌, List, [], length, Some, nat_lt}
use Rattle.std.specs.List.{AllByRecursion}
use Rattle.model.specs.Tree.{Expect, Any, Version, Act, Make, Put, Drop, Check, Call, Do, Look, Kids, Open, End, Reply, No, Done, Entry', Names, Session, every}
use Rattle.calls.specs.Format.{and_then, wholly, past, act_at, acts_at, encode_call, decode_call, encode_reply, decode_reply}
use Rattle.calls.specs.Reading.{acts_in}

-- numbers that fit the bytes that they have in the format: lengths of values four, versions, counts and sessions eight
abbrev pub small : ℕ → Bool
small n = nat_lt n 18446744073709551616

abbrev pub short : List ℕ → Bool
short v = nat_lt (length v) 4294967296

abbrev pub fits_expect : Expect → Bool
fits_expect Any = true
fits_expect (Version n) = small n

unfoldable pub fits_act : Act → Bool
fits_act (Make p v n o) = short v && small o
fits_act (Put p v x) = short v && fits_expect x
fits_act (Drop p x) = fits_expect x
fits_act (Check p x) = fits_expect x

unfoldable pub fits_call : Call → Bool
fits_call (Do as') = every fits_act as'
fits_call (Look p) = true
fits_call (Kids p) = true
fits_call Open = true
fits_call (End k) = small k

unfoldable pub fits_reply : Reply → Bool
fits_reply (No a k) = true
fits_reply (Done ps) = true
fits_reply (Entry' v n m c k o) = short v && (small n && (small m && (small c && (small k && small o))))
fits_reply (Names ns) = nat_lt (length ns) 4294967296
fits_reply (Session k) = small k

-- bytes behind which nothing is left once so many acts are read are just those acts
abbrev pub WholeActsAreRead : Type 0
WholeActsAreRead = (n : ℕ) (bs : List ℕ) → past act_at n bs ≡ Some [] → and_then (acts_at n bs) wholly ≡ Some (acts_in n bs)

abbrev pub CallsAreReadAgain : Type 0
CallsAreReadAgain = (c : Call) → fits_call c ≡ true → decode_call (encode_call c) ≡ Some c

abbrev pub RepliesAreReadAgain : Type 0
RepliesAreReadAgain = (r : Reply) → fits_reply r ≡ true → decode_reply (encode_reply r) ≡ Some r

abbrev pub Bytes : List ℕ → Type 0
Bytes bs = AllByRecursion (λ b. b < 256) bs

abbrev pub CallsAreWrittenAgain : Type 0
CallsAreWrittenAgain = (bs : List ℕ) (c : Call) → Bytes bs → decode_call bs ≡ Some c → encode_call c ≡ bs

abbrev pub RepliesAreWrittenAgain : Type 0
RepliesAreWrittenAgain = (bs : List ℕ) (r : Reply) → Bytes bs → decode_reply bs ≡ Some r → encode_reply r ≡ bs
