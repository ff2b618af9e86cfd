-- The tree that the replicas keep together, and what each call does to it.
-- Assumes nothing.
use Rattle.std.specs.Prelude.{ℕ, zero, suc, ◌+◌, ◌*◌, ◌/◌, ◌%◌, Bool, true, false, cond, not, ◌&&◌, ◌||◌, ltb, List, [], ◌∷◌, ◌++◌, map, length, ◌==◌, nat_eq, nat_le, nat_lt}

abbrev pub Name : Type 0
Name = List ℕ

abbrev pub Path : Type 0
Path = List Name

-- made, changed: the counts of changes of the tree at which it was made and last changed; kids: how many were ever made under it; owner: the session that it goes with, 0 for none
pub record Entry : Type 0 where
  pub path : Path
  pub value : List ℕ
  pub version : ℕ
  pub made : ℕ
  pub changed : ℕ
  pub kids : ℕ
  pub owner : ℕ

-- changes: how many there were; top: how many were ever made at the top; sessions: those that are open
pub record State : Type 0 where
  pub changes : ℕ
  pub top : ℕ
  pub entries : List Entry
  pub sessions : List ℕ
  pub last_session : ℕ

abbrev pub blank : State
blank = record { changes = 0; top = 0; entries = []; sessions = []; last_session = 0 }

unfoldable pub some : {A : Type 0} → (A → Bool) → List A → Bool
some f [] = false
some f (x ∷ xs) = f x || some f xs

unfoldable pub every : {A : Type 0} → (A → Bool) → List A → Bool
every f [] = true
every f (x ∷ xs) = f x && every f xs

unfoldable pub keep : {A : Type 0} → (A → Bool) → List A → List A
keep f [] = []
keep f (x ∷ xs) = cond (f x) (x ∷ keep f xs) (keep f xs)

unfoldable pub find : {A : Type 0} → (A → Bool) → List A → List A
find f [] = []
find f (x ∷ xs) = cond (f x) (x ∷ []) (find f xs)

unfoldable pub change : {A : Type 0} → (A → Bool) → (A → A) → List A → List A
change f g [] = []
change f g (x ∷ xs) = cond (f x) (g x ∷ xs) (x ∷ change f g xs)

unfoldable pub none : {A : Type 0} → List A → Bool
none [] = true
none (x ∷ xs) = false

unfoldable pub same_name : Name → Name → Bool
same_name [] [] = true
same_name [] (y ∷ ys) = false
same_name (x ∷ xs) [] = false
same_name (x ∷ xs) (y ∷ ys) = x == y && same_name xs ys

unfoldable pub same_path : Path → Path → Bool
same_path [] [] = true
same_path [] (y ∷ ys) = false
same_path (x ∷ xs) [] = false
same_path (x ∷ xs) (y ∷ ys) = same_name x y && same_path xs ys

-- all but the last name, and the last
unfoldable pub above : Path → Path
above [] = []
above (n ∷ []) = []
above (n ∷ m ∷ ms) = n ∷ above (m ∷ ms)

unfoldable pub last_name : Path → Name
last_name [] = []
last_name (n ∷ []) = n
last_name (n ∷ m ∷ ms) = last_name (m ∷ ms)

abbrev pub at : Path → Entry → Bool
at p e = same_path p e.path

abbrev pub there : Path → State → Bool
there p s = some (at p) s.entries

abbrev pub is_kid : Path → Entry → Bool
is_kid p e = not (none e.path) && same_path p (above e.path)

abbrev pub has_kids : Path → State → Bool
has_kids p s = some (is_kid p) s.entries

abbrev pub name_ok : Name → Bool
name_ok n = nat_lt 0 (length n) && nat_le (length n) 64 && every (λ (b : ℕ). ltb b 256) n

abbrev pub path_ok : Path → Bool
path_ok p = not (none p) && nat_le (length p) 16 && every name_ok p

abbrev pub value_ok : List ℕ → Bool
value_ok v = nat_le (length v) 65536 && every (λ (b : ℕ). ltb b 256) v

pub data Expect : Type 0 where
  Any : Expect
  Version : ℕ → Expect

unfoldable pub meets : Expect → ℕ → Bool
meets Any v = true
meets (Version n) v = n == v

-- one thing done to the tree; several together are done all or none
pub data Act : Type 0 where
  -- numbered: ten digits are put behind the name, how many were made there before
  Make : Path → (value : List ℕ) → (numbered : Bool) → (owner : ℕ) → Act
  Put : Path → (value : List ℕ) → Expect → Act
  Drop : Path → Expect → Act
  Check : Path → Expect → Act

pub data Call : Type 0 where
  Do : List Act → Call
  Look : Path → Call
  Kids : Path → Call
  Open : Call
  End : (session : ℕ) → Call

pub data Reply : Type 0 where
  -- the act that was refused, from 0, and why
  No : (act reason : ℕ) → Reply
  -- the paths of what was made, in order
  Done : List Path → Reply
  Entry' : (value : List ℕ) → (version made changed kids owner : ℕ) → Reply
  Names : List Name → Reply
  Session : ℕ → Reply

unfoldable pub digits : ℕ → ℕ → List ℕ
digits zero n = []
digits (suc k) n = digits k (n / 10) ++ ((48 + n % 10) ∷ [])

unfoldable pub renamed : Path → Name → Path
renamed [] n = []
renamed (m ∷ []) n = n ∷ []
renamed (m ∷ k ∷ ks) n = m ∷ renamed (k ∷ ks) n

unfoldable pub kids_of : List Entry → ℕ → ℕ
kids_of [] t = t
kids_of (e ∷ es) t = e.kids

unfoldable pub owner_of : List Entry → ℕ
owner_of [] = 0
owner_of (e ∷ es) = e.owner

-- how many were made under a path, before
abbrev pub count_at : Path → State → ℕ
count_at p s = cond (none p) s.top (kids_of (find (at p) s.entries) 0)

abbrev pub counted : Path → State → State
counted p s =
    record {
      changes = s.changes;
      top = cond (none p) (s.top + 1) s.top;
      entries = change (at p) (λ (e : Entry). record { path = e.path; value = e.value; version = e.version; made = e.made; changed = e.changed; kids = e.kids + 1; owner = e.owner }) s.entries;
      sessions = s.sessions;
      last_session = s.last_session;
    }

abbrev pub with_entries : List Entry → State → State
with_entries es s = record { changes = s.changes; top = s.top; entries = es; sessions = s.sessions; last_session = s.last_session }

abbrev pub true_name : Path → Bool → State → Path
true_name p false s = p
true_name p true s = renamed p (last_name p ++ digits 10 (count_at (above p) s))

pub data Step : Type 0 where
  Bad : ℕ → Step
  Good : List Path → State → Step

abbrev pub makes : Path → List ℕ → ℕ → State → Step
makes p v o s =
    Good (p ∷ []) (with_entries ((counted (above p) s).entries ++ (record { path = p; value = v; version = 0; made = s.changes + 1; changed = s.changes + 1; kids = 0; owner = o } ∷ [])) (counted (above p) s))

unfoldable pub unless : ℕ → Bool → Step → Step
unless k false o = o
unless k true o = Bad k

unfoldable pub version_of : List Entry → ℕ
version_of [] = 0
version_of (e ∷ es) = e.version

abbrev pub put_in : List ℕ → ℕ → Entry → Entry
put_in v c e = record { path = e.path; value = v; version = e.version + 1; made = e.made; changed = c; kids = e.kids; owner = e.owner }

unfoldable pub acts : Act → State → Step
acts (Make p v n o) s =
    unless 1 (not (path_ok p) || not (value_ok v) || (n && nat_lt 54 (length (last_name p)))) (unless 2 (not (none (above p)) && not (there (above p) s)) (unless 8 (n && nat_le 10000000000 (count_at (above p) s)) (unless 3 (there (true_name p n s) s)
    (unless 6 (not (o == 0) && not (some (nat_eq o) s.sessions)) (unless 7 (not (owner_of (find (at (above p)) s.entries) == 0)) (makes (true_name p n s) v o s))))))
acts (Put p v x) s =
    unless 1 (not (path_ok p) || not (value_ok v)) (unless 2 (not (there p s)) (unless 4 (not (meets x (version_of (find (at p) s.entries)))) (Good [] (with_entries (change (at p) (put_in v (s.changes + 1)) s.entries) s))))
acts (Drop p x) s =
    unless 1 (not (path_ok p)) (unless 2 (not (there p s)) (unless 4 (not (meets x (version_of (find (at p) s.entries)))) (unless 5 (has_kids p s) (Good [] (with_entries (keep (λ (e : Entry). not (at p e)) s.entries) s)))))
acts (Check p x) s = unless 1 (not (path_ok p)) (unless 2 (not (there p s)) (unless 4 (not (meets x (version_of (find (at p) s.entries)))) (Good [] s)))

pub record Out : Type 0 where
  pub reply : Reply
  pub state : State

abbrev pub onward : State → State
onward s = record { changes = s.changes + 1; top = s.top; entries = s.entries; sessions = s.sessions; last_session = s.last_session }

-- what the tree weighs; more than there is room for is refused
unfoldable pub weight_of : List Entry → ℕ
weight_of [] = 0
weight_of (e ∷ es) = 1280 + length e.value + weight_of es

abbrev pub weight : State → ℕ
weight s = weight_of s.entries + 16 * length s.sessions

-- one after the other, on the tree as the ones before left it; the first that is refused refuses all
pub data Going : Type 0 where
  Failed : (act reason : ℕ) → Going
  Fine : (act : ℕ) → List Path → State → Going

unfoldable pub stepped : (room n : ℕ) → List Path → State → Step → Going
stepped room n ps s (Bad k) = Failed n k
stepped room n ps s (Good qs t) = cond (nat_lt room (weight t) && nat_lt (weight s) (weight t)) (Failed n 9) (Fine (suc n) (ps ++ qs) t)

unfoldable pub goes : (room : ℕ) → Act → Going → Going
goes room a (Failed n k) = Failed n k
goes room a (Fine n ps s) = stepped room n ps s (acts a s)

unfoldable pub all_of : (room : ℕ) → List Act → Going → Going
all_of room [] g = g
all_of room (a ∷ as') g = all_of room as' (goes room a g)

unfoldable pub closed : State → Going → Out
closed old (Failed n k) = record { reply = No n k; state = old }
closed old (Fine n ps s) = record { reply = Done ps; state = onward s }

unfoldable pub told : List Entry → Reply
told [] = No 0 2
told (e ∷ es) = Entry' e.value e.version e.made e.changed e.kids e.owner

abbrev pub kid_names : Path → State → List Name
kid_names p s = map (λ (e : Entry). last_name e.path) (keep (is_kid p) s.entries)

-- how many bytes of values a call brings
unfoldable pub values_in : List Act → ℕ
values_in [] = 0
values_in (Make p v n o ∷ as') = length v + values_in as'
values_in (Put p v x ∷ as') = length v + values_in as'
values_in (Drop p x ∷ as') = values_in as'
values_in (Check p x ∷ as') = values_in as'

unfoldable pub does : ℕ → Call → State → Out
does room (Do as') s = cond (nat_lt 64 (length as') || nat_lt 262144 (values_in as')) (record { reply = No 0 1; state = s }) (closed s (all_of room as' (Fine 0 [] s)))
does room (Look p) s = record { reply = cond (path_ok p) (told (find (at p) s.entries)) (No 0 1); state = s }
does room (Kids p) s = record { reply = cond (none p || path_ok p) (cond (none p || there p s) (Names (kid_names p s)) (No 0 2)) (No 0 1); state = s }
does room Open s =
    cond (nat_le 4096 (length s.sessions)) (record { reply = No 0 8; state = s })
    (record { reply = Session (s.last_session + 1); state = record { changes = s.changes + 1; top = s.top; entries = s.entries; sessions = s.sessions ++ ((s.last_session + 1) ∷ []); last_session = s.last_session + 1 } })
does room (End k) s =
    cond (some (nat_eq k) s.sessions)
    (record { reply = Done []; state = record { changes = s.changes + 1; top = s.top; entries = keep (λ (e : Entry). not (k == e.owner)) s.entries; sessions = keep (λ (x : ℕ). not (k == x)) s.sessions; last_session = s.last_session } })
    (record { reply = No 0 6; state = s })

-- the calls of the first landings: one act at a time, no sessions
unfoldable pub one : List Act → Bool
one [] = false
one (Make p v n o ∷ []) = not n && o == 0
one (Put p v x ∷ []) = true
one (Drop p x ∷ []) = true
one (Check p x ∷ []) = true
one (a ∷ b ∷ as') = false

unfoldable pub core : Call → Bool
core (Do as') = one as'
core (Look p) = true
core (Kids p) = true
core Open = false
core (End k) = false
