-- Calls and answers as bytes, high byte first: what is written, and what bytes are read as. Assumes nothing.
--   name: length (1), bytes          path: how many (1), names          value: length (4), bytes          expected: 0, or 1 and a version (8)
--   acts: 1 make: path, value, numbered (1), session (8);  2 put: path, value, expected;  3 drop: path, expected;  4 check: path, expected
--   calls: 1 do: how many (1), acts;  2 look, 3 kids: path;  4 open;  5 end: session (8)
--   answers: 0 refused: place (1), number (1);  1 done: how many (1), paths;  2 entry: value, version, made, changed, kids, session (8 each);  3 names: how many (4), names;  4 session (8)
use Rattle.std.specs.Prelude.{ℕ, zero, suc, Bool, true, false, cond, List, [], ◌∷◌, ◌++◌, length, take, drop, Some, None, Option, ◌==◌, nat_le}
use Rattle.model.specs.Tree.{Name, Path, Expect, Any, Version, Act, Make, Put, Drop, Check, Call, Do, Look, Kids, Open, End, Reply, No, Done, Entry', Names, Session}
use Rattle.lent_bytes.specs.Numbers.{be4, be8, be32, be64}
use Rattle.lent_bytes.specs.Paths.{path_bytes}

-- WRITING
abbrev pub path_written : Path → List ℕ
path_written p = length p ∷ path_bytes p

abbrev pub value_written : List ℕ → List ℕ
value_written v = be4 (length v) ++ v

abbrev pub flag_written : Bool → ℕ
flag_written false = 0
flag_written true = 1

abbrev pub expect_written : Expect → List ℕ
expect_written Any = 0 ∷ []
expect_written (Version n) = 1 ∷ be8 n

unfoldable pub act_written : Act → List ℕ
act_written (Make p v n o) = 1 ∷ (path_written p ++ (value_written v ++ (flag_written n ∷ be8 o)))
act_written (Put p v x) = 2 ∷ (path_written p ++ (value_written v ++ expect_written x))
act_written (Drop p x) = 3 ∷ (path_written p ++ expect_written x)
act_written (Check p x) = 4 ∷ (path_written p ++ expect_written x)

-- one behind the other
unfoldable pub many_written : {A : Type 0} → (A → List ℕ) → List A → List ℕ
many_written f [] = []
many_written f (x ∷ xs) = f x ++ many_written f xs

unfoldable pub encode_call : Call → List ℕ
encode_call (Do as') = 1 ∷ length as' ∷ many_written act_written as'
encode_call (Look p) = 2 ∷ path_written p
encode_call (Kids p) = 3 ∷ path_written p
encode_call Open = 4 ∷ []
encode_call (End k) = 5 ∷ be8 k

unfoldable pub encode_reply : Reply → List ℕ
encode_reply (No a k) = 0 ∷ a ∷ k ∷ []
encode_reply (Done ps) = 1 ∷ length ps ∷ many_written path_written ps
encode_reply (Entry' v n m c k o) = 2 ∷ (value_written v ++ (be8 n ++ (be8 m ++ (be8 c ++ (be8 k ++ be8 o)))))
encode_reply (Names ns) = 3 ∷ (be4 (length ns) ++ path_bytes ns)
encode_reply (Session k) = 4 ∷ be8 k

-- READING. What stands at the front of bytes, and the bytes behind it; None where the bytes are too few, or say something that nothing means.
abbrev pub and_then : {A B : Type 0} → Option A → (A → Option B) → Option B
and_then None f = None
and_then (Some x) f = f x

abbrev pub byte_at : List ℕ → Option (ℕ × List ℕ)
byte_at [] = None
byte_at (b ∷ bs) = Some (b, bs)

-- so many bytes
abbrev pub part_at : ℕ → List ℕ → Option (List ℕ × List ℕ)
part_at n bs = cond (nat_le n (length bs)) (Some (take n bs, drop n bs)) None

abbrev pub length_at : List ℕ → Option (ℕ × List ℕ)
length_at bs = and_then (part_at 4 bs) (λ r. Some (be32 r.0 0, r.1))

abbrev pub number_at : List ℕ → Option (ℕ × List ℕ)
number_at bs = and_then (part_at 8 bs) (λ r. Some (be64 r.0 0, r.1))

abbrev pub name_at : List ℕ → Option (Name × List ℕ)
name_at bs = and_then (byte_at bs) (λ k. part_at k.0 k.1)

-- so many of one kind, one behind the other
unfoldable pub many_at : {A : Type 0} → (List ℕ → Option (A × List ℕ)) → ℕ → List ℕ → Option (List A × List ℕ)
many_at f zero bs = Some ([], bs)
many_at f (suc k) bs = and_then (f bs) (λ r. and_then (many_at f k r.1) (λ q. Some (r.0 ∷ q.0, q.1)))

-- what is left behind something that was read
abbrev pub rest : {A : Type 0} → Option (A × List ℕ) → Option (List ℕ)
rest None = None
rest (Some r) = Some r.1

-- what is behind so many of one kind
abbrev pub past : {A : Type 0} → (List ℕ → Option (A × List ℕ)) → ℕ → List ℕ → Option (List ℕ)
past f k xs = rest (many_at f k xs)

abbrev pub names_at : ℕ → List ℕ → Option (Path × List ℕ)
names_at k bs = many_at name_at k bs

abbrev pub path_at : List ℕ → Option (Path × List ℕ)
path_at bs = and_then (byte_at bs) (λ k. names_at k.0 k.1)

abbrev pub value_at : List ℕ → Option (List ℕ × List ℕ)
value_at bs = and_then (length_at bs) (λ n. part_at n.0 n.1)

abbrev pub flag_by : ℕ → List ℕ → Option (Bool × List ℕ)
flag_by b bs = cond (b == 0) (Some (false, bs)) (cond (b == 1) (Some (true, bs)) None)

abbrev pub flag_at : List ℕ → Option (Bool × List ℕ)
flag_at bs = and_then (byte_at bs) (λ b. flag_by b.0 b.1)

abbrev pub expect_by : ℕ → List ℕ → Option (Expect × List ℕ)
expect_by b bs = cond (b == 0) (Some (Any, bs)) (cond (b == 1) (and_then (number_at bs) (λ r. Some (Version r.0, r.1))) None)

abbrev pub expect_at : List ℕ → Option (Expect × List ℕ)
expect_at bs = and_then (byte_at bs) (λ b. expect_by b.0 b.1)

abbrev pub make_at : List ℕ → Option (Act × List ℕ)
make_at bs = and_then (path_at bs) (λ p. and_then (value_at p.1) (λ v. and_then (flag_at v.1) (λ n. and_then (number_at n.1) (λ o. Some (Make p.0 v.0 n.0 o.0, o.1)))))

abbrev pub put_at : List ℕ → Option (Act × List ℕ)
put_at bs = and_then (path_at bs) (λ p. and_then (value_at p.1) (λ v. and_then (expect_at v.1) (λ x. Some (Put p.0 v.0 x.0, x.1))))

-- an act that is a path and what is expected
abbrev pub expecting_at : (Path → Expect → Act) → List ℕ → Option (Act × List ℕ)
expecting_at act bs = and_then (path_at bs) (λ p. and_then (expect_at p.1) (λ x. Some (act p.0 x.0, x.1)))

abbrev pub drop_act_at : List ℕ → Option (Act × List ℕ)
drop_act_at bs = expecting_at Drop bs

abbrev pub check_at : List ℕ → Option (Act × List ℕ)
check_at bs = expecting_at Check bs

abbrev pub act_by : ℕ → List ℕ → Option (Act × List ℕ)
act_by b bs = cond (b == 1) (make_at bs) (cond (b == 2) (put_at bs) (cond (b == 3) (drop_act_at bs) (cond (b == 4) (check_at bs) None)))

abbrev pub act_at : List ℕ → Option (Act × List ℕ)
act_at bs = and_then (byte_at bs) (λ b. act_by b.0 b.1)

abbrev pub acts_at : ℕ → List ℕ → Option (List Act × List ℕ)
acts_at k bs = many_at act_at k bs

-- nothing may be left over
abbrev pub wholly : {A : Type 0} → A × List ℕ → Option A
wholly (a, []) = Some a
wholly (a, b ∷ bs) = None

abbrev pub do_at : List ℕ → Option Call
do_at bs = and_then (byte_at bs) (λ k. and_then (and_then (acts_at k.0 k.1) wholly) (λ as'. Some (Do as')))

abbrev pub whole_path : List ℕ → Option Path
whole_path bs = and_then (path_at bs) wholly

abbrev pub end_at : List ℕ → Option Call
end_at bs = and_then (and_then (number_at bs) wholly) (λ k. Some (End k))

abbrev pub call_by : ℕ → List ℕ → Option Call
call_by b bs =
    cond (b == 1) (do_at bs) (cond (b == 2) (and_then (whole_path bs) (λ p. Some (Look p))) (cond (b == 3) (and_then (whole_path bs) (λ p. Some (Kids p)))
    (cond (b == 4) (wholly (Open, bs)) (cond (b == 5) (end_at bs) None))))

abbrev pub decode_call : List ℕ → Option Call
decode_call bs = and_then (byte_at bs) (λ b. call_by b.0 b.1)

-- answers
abbrev pub refused_at : List ℕ → Option Reply
refused_at bs = and_then (byte_at bs) (λ a. and_then (byte_at a.1) (λ k. wholly (No a.0 k.0, k.1)))

abbrev pub done_at : List ℕ → Option Reply
done_at bs = and_then (byte_at bs) (λ k. and_then (and_then (many_at path_at k.0 k.1) wholly) (λ ps. Some (Done ps)))

-- an entry: its value, and then version, made, changed, kids and owner, each with what was read before it
abbrev pub owner_at : (v : List ℕ) (n m c k : ℕ) → List ℕ → Option Reply
owner_at v n m c k bs = and_then (number_at bs) (λ o. wholly (Entry' v n m c k o.0, o.1))

abbrev pub kids_at : (v : List ℕ) (n m c : ℕ) → List ℕ → Option Reply
kids_at v n m c bs = and_then (number_at bs) (λ k. owner_at v n m c k.0 k.1)

abbrev pub changed_at : (v : List ℕ) (n m : ℕ) → List ℕ → Option Reply
changed_at v n m bs = and_then (number_at bs) (λ c. kids_at v n m c.0 c.1)

abbrev pub made_at : (v : List ℕ) (n : ℕ) → List ℕ → Option Reply
made_at v n bs = and_then (number_at bs) (λ m. changed_at v n m.0 m.1)

abbrev pub version_at : (v : List ℕ) → List ℕ → Option Reply
version_at v bs = and_then (number_at bs) (λ n. made_at v n.0 n.1)

abbrev pub entry_at : List ℕ → Option Reply
entry_at bs = and_then (value_at bs) (λ v. version_at v.0 v.1)

abbrev pub names_in : List ℕ → Option Reply
names_in bs = and_then (length_at bs) (λ k. and_then (and_then (names_at k.0 k.1) wholly) (λ ns. Some (Names ns)))

abbrev pub session_at : List ℕ → Option Reply
session_at bs = and_then (and_then (number_at bs) wholly) (λ k. Some (Session k))

abbrev pub reply_by : ℕ → List ℕ → Option Reply
reply_by b bs = cond (b == 0) (refused_at bs) (cond (b == 1) (done_at bs) (cond (b == 2) (entry_at bs) (cond (b == 3) (names_in bs) (cond (b == 4) (session_at bs) None))))

abbrev pub decode_reply : List ℕ → Option Reply
decode_reply bs = and_then (byte_at bs) (λ b. reply_by b.0 b.1)
