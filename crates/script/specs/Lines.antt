-- The lines of a script. House numbers are below 7; a # where a word would begin starts a comment.
use Rattle.std.specs.Prelude.{◌≡◌, ℕ, Bool, true, cond, List, [], ◌∷◌, Some, None, Ok, Err, codes, Option, Result, ◌==◌, nat_lt}
use Rattle.std.specs.Borrow.{Bor}
use Rattle.std.specs.Str.{bytes_eq}
use Rattle.model.specs.Tree.{Call}
use Rattle.calls.specs.Format.{and_then}
use Rattle.words.specs.declared.types.Fault.{Fault}
use Rattle.words.specs.declared.types.Fault.TheVariants.{Memory, Wrong}
use Rattle.script.specs.declared.lines.Link.{Link}
use Rattle.script.specs.declared.lines.Command.{Command}
use Rattle.script.specs.declared.lines.Command.TheVariants as command
use Rattle.words.specs.Values.{call_of}
use Rattle.words.specs.Words.{unspaced, word_of, behind_word, key_at, number_at}
use Rattle.phrases.specs.Acts.{call_at}

-- what a line says
pub data Line : Type 0 where
  Nothing : Line
  Houses : (count : ℕ) → (room : Option ℕ) → Line
  At : (house : ℕ) → Call → Line
  Beat : (house : Option ℕ) → Line
  Pass : Option Link → Line
  Lose : Option Link → Line
  Twice : Option Link → Line
  Fall : (house : ℕ) → Line
  Wake : (house : ℕ) → (incarnation : Option ℕ) → Line
  Run : (seed steps : ℕ) → Line

abbrev pub line_of : Command → Line
line_of command.Nothing = Nothing
line_of (command.Houses n r) = Houses n r
line_of (command.At i c) = At i (call_of c)
line_of (command.Beat w) = Beat w
line_of (command.Pass l) = Pass l
line_of (command.Lose l) = Lose l
line_of (command.Twice l) = Twice l
line_of (command.Fall i) = Fall i
line_of (command.Wake i n) = Wake i n
line_of (command.Run s n) = Run s n

abbrev pub lined : Command × Bor (List ℕ) → Line × List ℕ
lined r = (line_of r.0, r.1.now)

-- nothing more, or a comment
abbrev pub is_out : List ℕ → Bool
is_out [] = true
is_out (c ∷ cs) = c == 35

abbrev pub at_end : List ℕ → Bool
at_end xs = is_out (unspaced xs)

-- a number from the least to the greatest of these
abbrev pub within_at : (least greatest : ℕ) → List ℕ → Option (ℕ × List ℕ)
within_at least greatest xs = and_then (number_at xs) (λ n. cond (nat_lt n.0 least) None (cond (nat_lt greatest n.0) None (Some (n.0, n.1))))

abbrev pub house_at : List ℕ → Option (ℕ × List ℕ)
house_at xs = and_then (number_at xs) (λ n. cond (nat_lt n.0 7) (Some (n.0, n.1)) None)

abbrev pub link_at : List ℕ → Option (Link × List ℕ)
link_at xs = and_then (house_at xs) (λ i. and_then (house_at i.1) (λ j. Some (record { from = i.0; to = j.0 }, j.1)))

-- what one reader reads, or nothing at the line's end
abbrev pub maybe : {A B : Type 0} → A × B → Option A × B
maybe r = (Some r.0, r.1)

abbrev pub maybe_at : {A : Type 0} → (List ℕ → Option (A × List ℕ)) → List ℕ → Option (Option A × List ℕ)
maybe_at one xs = cond (at_end xs) (Some (None, xs)) (and_then (one xs) (λ r. Some (maybe r)))

abbrev pub room_by : Option (List ℕ) → List ℕ → Option (Option ℕ × List ℕ)
room_by None xs = Some (None, xs)
room_by (Some r) xs = and_then (number_at r) (λ n. Some (Some n.0, n.1))

abbrev pub room_at : List ℕ → Option (Option ℕ × List ℕ)
room_at xs = room_by (key_at (codes "room") xs) xs

-- one to seven houses
abbrev pub count_at : List ℕ → Option (ℕ × List ℕ)
count_at xs = and_then (number_at xs) (λ n. cond (nat_lt 0 n.0) (cond (nat_lt n.0 8) (Some (n.0, n.1)) None) None)

abbrev pub houses_at : List ℕ → Option (Line × List ℕ)
houses_at xs = and_then (count_at xs) (λ n. and_then (room_at n.1) (λ r. Some (Houses n.0 r.0, r.1)))

abbrev pub call_line_at : List ℕ → Option (Line × List ℕ)
call_line_at xs = and_then (house_at xs) (λ i. and_then (call_at i.1) (λ c. Some (At i.0 c.0, c.1)))

abbrev pub wake_at : List ℕ → Option (Line × List ℕ)
wake_at xs = and_then (house_at xs) (λ i. and_then (maybe_at number_at i.1) (λ n. Some (Wake i.0 n.0, n.1)))

abbrev pub run_at : List ℕ → Option (Line × List ℕ)
run_at xs = and_then (key_at (codes "seed") xs) (λ r. and_then (number_at r) (λ s. and_then (key_at (codes "steps") s.1) (λ q. and_then (number_at q) (λ n. Some (Run s.0 n.0, n.1)))))

-- what happens to a house, or to all by a seed
abbrev pub house_happening_by : (word rest : List ℕ) → Option (Line × List ℕ)
house_happening_by w r =
    cond (bytes_eq w (codes "fall")) (and_then (house_at r) (λ i. Some (Fall i.0, i.1)))
    (cond (bytes_eq w (codes "wake")) (wake_at r)
    (cond (bytes_eq w (codes "run")) (run_at r) None))

-- what happens to letters and houses
abbrev pub happening_by : (word rest : List ℕ) → Option (Line × List ℕ)
happening_by w r =
    cond (bytes_eq w (codes "pass")) (and_then (maybe_at link_at r) (λ l. Some (Pass l.0, l.1)))
    (cond (bytes_eq w (codes "lose")) (and_then (maybe_at link_at r) (λ l. Some (Lose l.0, l.1)))
    (cond (bytes_eq w (codes "twice")) (and_then (maybe_at link_at r) (λ l. Some (Twice l.0, l.1)))
    (house_happening_by w r)))

abbrev pub command_by : (word rest : List ℕ) → Option (Line × List ℕ)
command_by w r =
    cond (bytes_eq w (codes "at")) (call_line_at r)
    (cond (bytes_eq w (codes "beat")) (and_then (maybe_at house_at r) (λ l. Some (Beat l.0, l.1)))
    (cond (bytes_eq w (codes "houses")) (houses_at r) (happening_by w r)))

abbrev pub ended : Line × List ℕ → Option Line
ended l = cond (at_end l.1) (Some l.0) None

abbrev pub line_at : List ℕ → Option Line
line_at xs = cond (at_end xs) (Some Nothing) (and_then (command_by (word_of (unspaced xs)) (behind_word (unspaced xs))) ended)

-- what the reader answers, against what the line says
abbrev pub LineRead : Result Command Fault → Option Line → Type 0
LineRead (Ok c) said = said ≡ Some (line_of c)
LineRead (Err (Wrong w)) said = said ≡ None
LineRead (Err Memory) said = Unit {0}
