-- Calls in words: `make PATH "VALUE" [numbered] [session S]`, `put PATH "VALUE" [version V]`, `drop PATH [version V]`, `check PATH [version V]`;
-- one of these alone, or `do { ACT; ACT }`, `look PATH`, `kids PATH`, `open`, `end S`.
use Rattle.std.specs.Prelude.{ℕ, Bool, true, false, cond, List, [], ◌∷◌, length, is_some, Some, None, codes, Option}
use Rattle.std.specs.Str.{bytes_eq}
use Rattle.model.specs.Tree as Tree
use Rattle.model.specs.Tree.{Expect, Any, Version, Act, Make, Put, Drop, Check, Call, Do, Look, Kids, Open, End}
use Rattle.calls.specs.declared.types.Expected.{Expected}
use Rattle.calls.specs.Format.{and_then}
use Rattle.calls.specs.Reading.{expect_of}
use Rattle.words.specs.declared.types.Path.{Path}
use Rattle.words.specs.Values.{path_of}
use Rattle.words.specs.Words.{unspaced, word_of, behind_word, key_at, mark_at, number_at, value_at, path_at, many_while}

abbrev pub version_by : Option (List ℕ) → List ℕ → Option (Expect × List ℕ)
version_by None xs = Some (Any, xs)
version_by (Some r) xs = and_then (number_at r) (λ n. Some (Version n.0, n.1))

abbrev pub version_at : List ℕ → Option (Expect × List ℕ)
version_at xs = version_by (key_at (codes "version") xs) xs

abbrev pub numbered_by : Option (List ℕ) → List ℕ → Bool × List ℕ
numbered_by None xs = (false, xs)
numbered_by (Some r) xs = (true, r)

abbrev pub numbered_at : List ℕ → Bool × List ℕ
numbered_at xs = numbered_by (key_at (codes "numbered") xs) xs

abbrev pub session_by : Option (List ℕ) → List ℕ → Option (ℕ × List ℕ)
session_by None xs = Some (0, xs)
session_by (Some r) xs = number_at r

abbrev pub session_at : List ℕ → Option (ℕ × List ℕ)
session_at xs = session_by (key_at (codes "session") xs) xs

abbrev pub make_at : List ℕ → Option (Act × List ℕ)
make_at xs =
    and_then (path_at xs) (λ p. and_then (value_at p.1) (λ v. and_then (session_at (numbered_at v.1).1) (λ o. Some (Make p.0 v.0 (numbered_at v.1).0 o.0, o.1))))

abbrev pub put_at : List ℕ → Option (Act × List ℕ)
put_at xs = and_then (path_at xs) (λ p. and_then (value_at p.1) (λ v. and_then (version_at v.1) (λ x. Some (Put p.0 v.0 x.0, x.1))))

abbrev pub expecting_of : Path × Expected → Tree.Path × Expect
expecting_of r = (path_of r.0, expect_of r.1)

-- a path, and the version that its entry is expected to have
abbrev pub expecting_at : List ℕ → Option ((Tree.Path × Expect) × List ℕ)
expecting_at xs = and_then (path_at xs) (λ p. and_then (version_at p.1) (λ x. Some ((p.0, x.0), x.1)))

abbrev pub drop_act_at : List ℕ → Option (Act × List ℕ)
drop_act_at xs = and_then (path_at xs) (λ p. and_then (version_at p.1) (λ x. Some (Drop p.0 x.0, x.1)))

abbrev pub check_at : List ℕ → Option (Act × List ℕ)
check_at xs = and_then (path_at xs) (λ p. and_then (version_at p.1) (λ x. Some (Check p.0 x.0, x.1)))

abbrev pub valueless_by : (name rest : List ℕ) → Option (Act × List ℕ)
valueless_by w r = cond (bytes_eq w (codes "drop")) (drop_act_at r) (cond (bytes_eq w (codes "check")) (check_at r) None)

abbrev pub act_by : (name rest : List ℕ) → Option (Act × List ℕ)
act_by w r = cond (bytes_eq w (codes "make")) (make_at r) (cond (bytes_eq w (codes "put")) (put_at r) (valueless_by w r))

abbrev pub act_at : List ℕ → Option (Act × List ℕ)
act_at xs = act_by (word_of (unspaced xs)) (behind_word (unspaced xs))

-- an act with a ; behind it, or a } that stays
abbrev pub ended : Act × List ℕ → Option (List ℕ) → Option (Act × List ℕ)
ended a (Some r) = Some (a.0, r)
ended a None = cond (is_some (mark_at 125 a.1)) (Some (a.0, a.1)) None

abbrev pub piece_at : List ℕ → Option (Act × List ℕ)
piece_at xs = and_then (act_at xs) (λ a. ended a (mark_at 59 a.1))

abbrev pub at_brace : List ℕ → Bool
at_brace xs = is_some (mark_at 125 xs)

-- acts up to a }
abbrev pub acts_at : List ℕ → Option (List Act × List ℕ)
acts_at xs = many_while at_brace piece_at (length xs) xs

abbrev pub braced_at : List ℕ → Option (List Act × List ℕ)
braced_at xs = and_then (mark_at 123 xs) (λ r. and_then (acts_at r) (λ a. and_then (mark_at 125 a.1) (λ t. Some (a.0, t))))

-- one act as a call
abbrev pub lone_at : List ℕ → Option (Call × List ℕ)
lone_at xs = and_then (act_at xs) (λ a. Some (Do (a.0 ∷ []), a.1))

abbrev pub looking_by : (word rest : List ℕ) → List ℕ → Option (Call × List ℕ)
looking_by w r xs =
    cond (bytes_eq w (codes "look")) (and_then (path_at r) (λ p. Some (Look p.0, p.1)))
    (cond (bytes_eq w (codes "kids")) (and_then (path_at r) (λ p. Some (Kids p.0, p.1)))
    (lone_at xs))

abbrev pub call_by : (word rest : List ℕ) → List ℕ → Option (Call × List ℕ)
call_by w r xs =
    cond (bytes_eq w (codes "do")) (and_then (braced_at r) (λ a. Some (Do a.0, a.1)))
    (cond (bytes_eq w (codes "open")) (Some (Open, r))
    (cond (bytes_eq w (codes "end")) (and_then (number_at r) (λ k. Some (End k.0, k.1)))
    (looking_by w r xs)))

abbrev pub call_at : List ℕ → Option (Call × List ℕ)
call_at xs = call_by (word_of (unspaced xs)) (behind_word (unspaced xs)) xs
