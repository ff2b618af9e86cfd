-- Worked cases of the tree: one table of calls, done one after the other from the blank tree, and what each is answered; computed by the checker. Assumes nothing.
use Rattle.std.specs.Prelude.{◌≡◌, ℕ, true, false, List, [], ◌∷◌, ◌++◌, replicate}
use Rattle.model.specs.Tree.{Name, Path, State, blank, Any, Version, Make, Put, Drop, Check, Call, Do, Look, Kids, Open, End, Reply, No, Done, Entry', Names, Session, does, digits}

-- a room of 64 MiB
abbrev pub room : ℕ
room = 67108864

-- names by their bytes: gate, lock, a, b, turn, n, here
abbrev pub gate : Name
gate = 103 ∷ 97 ∷ 116 ∷ 101 ∷ []

abbrev pub lock : Name
lock = 108 ∷ 111 ∷ 99 ∷ 107 ∷ []

abbrev pub a : Name
a = 97 ∷ []

abbrev pub b : Name
b = 98 ∷ []

abbrev pub turn : Name
turn = 116 ∷ 117 ∷ 114 ∷ 110 ∷ []

abbrev pub n : Name
n = 110 ∷ []

abbrev pub here : Name
here = 104 ∷ 101 ∷ 114 ∷ 101 ∷ []

-- the value "0", and the name n with a number behind it
abbrev pub nought : List ℕ
nought = 48 ∷ []

abbrev pub numbered_as : ℕ → Path
numbered_as k = turn ∷ (n ++ digits 10 k) ∷ []

abbrev pub make : Path → Call
make p = Do (Make p nought false 0 ∷ [])

abbrev pub next : Call
next = Do (Make (turn ∷ n ∷ []) [] true 0 ∷ [])

pub record Row : Type 0 where
  pub call : Call
  pub answer : Reply

abbrev pub row : Call → Reply → Row
row c r = record { call = c; answer = r }

abbrev pub table : List Row
table =
    -- made once; put at the version that it has, once
    row (make (gate ∷ [])) (Done ((gate ∷ []) ∷ []))
    ∷ row (make (gate ∷ [])) (No 0 3)
    ∷ row (Do (Put (gate ∷ []) (49 ∷ []) (Version 0) ∷ [])) (Done [])
    ∷ row (Do (Put (gate ∷ []) (50 ∷ []) (Version 0) ∷ [])) (No 0 4)
    ∷ row (Look (gate ∷ [])) (Entry' (49 ∷ []) 1 1 2 0 0)
    -- several acts are done all or none
    ∷ row (Do (Check (gate ∷ []) (Version 1) ∷ Make (gate ∷ lock ∷ []) [] false 0 ∷ [])) (Done ((gate ∷ lock ∷ []) ∷ []))
    ∷ row (Do (Make (a ∷ []) [] false 0 ∷ Drop (b ∷ []) Any ∷ [])) (No 1 2)
    ∷ row (Look (a ∷ [])) (No 0 2)
    ∷ row (Kids []) (Names (gate ∷ []))
    ∷ row (Do (Drop (gate ∷ []) Any ∷ [])) (No 0 5)
    -- numbered names rise, also after a drop
    ∷ row (make (turn ∷ [])) (Done ((turn ∷ []) ∷ []))
    ∷ row next (Done (numbered_as 0 ∷ []))
    ∷ row next (Done (numbered_as 1 ∷ []))
    ∷ row next (Done (numbered_as 2 ∷ []))
    ∷ row (Do (Drop (numbered_as 1) Any ∷ [])) (Done [])
    ∷ row next (Done (numbered_as 3 ∷ []))
    ∷ row (Kids (turn ∷ [])) (Names ((n ++ digits 10 0) ∷ (n ++ digits 10 2) ∷ (n ++ digits 10 3) ∷ []))
    -- what goes with a session goes when it ends
    ∷ row Open (Session 1)
    ∷ row (Do (Make (here ∷ []) [] false 1 ∷ [])) (Done ((here ∷ []) ∷ []))
    ∷ row (Do (Make (here ∷ a ∷ []) [] false 0 ∷ [])) (No 0 7)
    ∷ row (End 1) (Done [])
    ∷ row (Look (here ∷ [])) (No 0 2)
    ∷ row (Do (Make (here ∷ []) [] false 1 ∷ [])) (No 0 6)
    -- out of range: a value of 65,537 bytes, a path of 17 names
    ∷ row (Do (Put (gate ∷ []) (replicate 65537 0) Any ∷ [])) (No 0 1)
    ∷ row (make (replicate 17 a)) (No 0 1)
    ∷ []

-- do the answers come out as the rows say, each call on the tree as those before left it
unfoldable pub answers : List Row → State → List Reply
answers [] s = []
answers (r ∷ rs) s = (does room r.call s).reply ∷ answers rs (does room r.call s).state

unfoldable pub expected : List Row → List Reply
expected [] = []
expected (r ∷ rs) = r.answer ∷ expected rs

abbrev pub WorkedCases : Type 0
WorkedCases = answers table blank ≡ expected table
