-- A call or an answer on a line: the length of the rest (4 bytes), the client's number (8), then the call or the answer; high byte first.
use Rattle.std.specs.Prelude.{◌≡◌, ℕ, ◌+◌, ◌^◌, ◌<◌, ◌≤◌, cond, List, ◌++◌, length, drop, Ok, Err, Result, ◌==◌, nat_lt}
use Rattle.lent_bytes.specs.Numbers.{be4, be8, be32, be64}
use Rattle.text.specs.declared.frame.Frame.{Frame}
use Rattle.text.specs.declared.frame.FrameFault.{FrameFault}
use Rattle.text.specs.declared.frame.FrameFault.TheVariants.{Short, Length, Long, Memory}

abbrev pub framed : (number : ℕ) → (call : List ℕ) → List ℕ
framed n call = be4 (8 + length call) ++ (be8 n ++ call)

-- the number and the call, or what is wrong
abbrev pub unframe : List ℕ → Result (ℕ × List ℕ) FrameFault
unframe xs = cond (nat_lt (length xs) 12) (Err Short) (cond (4 + be32 xs 0 == length xs) (Ok (be64 xs 4, drop 12 xs)) (Err Length))

-- what the reader answers, with the bytes that it points to
abbrev pub frame_read : Result Frame FrameFault → Result (ℕ × List ℕ) FrameFault
frame_read (Ok f) = Ok (f.number, f.call.now)
frame_read (Err e) = Err e

-- what the writer leaves; only a call that is too long for 4 bytes of length is refused, and nothing is written of it
abbrev pub FramePushed : {A : Type 0} → Result A FrameFault → (number : ℕ) → (call before after : List ℕ) → Type 0
FramePushed (Ok u) n call before after = (8 + length call < 2 ^ 32) × (after ≡ before ++ framed n call)
FramePushed (Err Long) n call before after = (2 ^ 32 ≤ 8 + length call) × (after ≡ before)
FramePushed (Err Memory) n call before after = (some : List ℕ) × (after ≡ before ++ some)
FramePushed (Err Short) n call before after = ⊥
FramePushed (Err Length) n call before after = ⊥
