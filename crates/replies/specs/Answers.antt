-- Answers in words.
use Rattle.std.specs.Prelude.{◌≡◌, ℕ, Bool, true, false, cond, List, ◌++◌, Some, None, codes, decimal, Option, ◌==◌}
use Rattle.model.specs.Tree.{Name, Path, Reply, No, Done, Entry', Names, Session}
use Rattle.spelling.specs.Spelled.{many, chars_spelled, value_spelled}

abbrev pub reason_spelled : ℕ → List ℕ
reason_spelled k =
    cond (k == 1) (codes "out of range, or no call") (cond (k == 2) (codes "is not there") (cond (k == 3) (codes "is there") (cond (k == 4) (codes "another version")
    (cond (k == 5) (codes "entries are under it") (cond (k == 6) (codes "no such session") (cond (k == 7) (codes "under an entry that goes with a session")
    (cond (k == 8) (codes "no more of these") (cond (k == 9) (codes "no room") (cond (k == 11) (codes "eight calls wait here") (cond (k == 12) (codes "not built yet")
    (codes "for no reason that is known")))))))))))

-- a text, and a number behind it
abbrev pub count_spelled : (text : List ℕ) → ℕ → List ℕ
count_spelled text n = text ++ decimal n

abbrev pub refused_spelled : (act number : ℕ) → List ℕ
refused_spelled act k = count_spelled (codes "refused ") k ++ (count_spelled (codes " at act ") act ++ (codes ": " ++ reason_spelled k))

abbrev pub counts_spelled : (version made changed kids session : ℕ) → List ℕ
counts_spelled n m c k o =
    count_spelled (codes " version ") n ++ (count_spelled (codes " made ") m ++ (count_spelled (codes " changed ") c ++ (count_spelled (codes " kids ") k ++ count_spelled (codes " session ") o)))

abbrev pub entry_spelled : (value : List ℕ) (version made changed kids session : ℕ) → List ℕ
entry_spelled v n m c k o = codes "entry " ++ (value_spelled v ++ counts_spelled n m c k o)

-- a name behind a text
abbrev pub name_behind : List ℕ → Name → List ℕ
name_behind text n = text ++ chars_spelled false n

-- a path behind a space, each name behind a /
abbrev pub path_behind : Path → List ℕ
path_behind p = codes " " ++ many (name_behind (codes "/")) p

unfoldable pub reply_spelled : Reply → List ℕ
reply_spelled (No a k) = refused_spelled a k
reply_spelled (Done ps) = codes "done" ++ many path_behind ps
reply_spelled (Entry' v n m c k o) = entry_spelled v n m c k o
reply_spelled (Names ns) = codes "names" ++ many (name_behind (codes " ")) ns
reply_spelled (Session k) = count_spelled (codes "session ") k

-- what was read stands in words behind what was there; where there was nothing to read, nothing is written
abbrev pub Spelled : Option Reply → Bool → (before after : List ℕ) → Type 0
Spelled None b before after = (b ≡ false) × (after ≡ before)
Spelled (Some r) b before after = (b ≡ true) × (after ≡ before ++ reply_spelled r)

-- the text with what was read in words behind it, and the bytes that are left
abbrev pub told : {A : Type 0} → (A → List ℕ) → List ℕ → Option (A × List ℕ) → Option (List ℕ × List ℕ)
told words text None = None
told words text (Some r) = Some (text ++ words r.0, r.1)
