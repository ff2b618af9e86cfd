-- Which calls can be written as bytes: how many acts and names there are, and how long each name is, is written in one byte, and a value's length in four.
use Rattle.std.specs.Prelude.{◌≡◌, ℕ, Bool, true, false, ◌&&◌, List, ◌++◌, length, Ok, Err, Result, nat_le}
use Rattle.model.specs.Tree.{Name, Path, Act, Make, Put, Drop, Check, Call, Do, Look, Kids, Open, End, every}
use Rattle.calls.specs.Format.{encode_call}
use Rattle.words.specs.declared.types.Fault.{Fault}
use Rattle.words.specs.declared.types.Fault.TheVariants.{Memory, Wrong}
use Rattle.words.specs.declared.types.Wrong.TheVariants.{Long}

abbrev pub name_fits : Name → Bool
name_fits n = nat_le (length n) 255

abbrev pub path_fits : Path → Bool
path_fits p = nat_le (length p) 255 && every name_fits p

abbrev pub value_fits : List ℕ → Bool
value_fits v = nat_le (length v) 4294967295

abbrev pub act_fits : Act → Bool
act_fits (Make p v n o) = path_fits p && value_fits v
act_fits (Put p v x) = path_fits p && value_fits v
act_fits (Drop p x) = path_fits p
act_fits (Check p x) = path_fits p

abbrev pub call_fits : Call → Bool
call_fits (Do as') = nat_le (length as') 255 && every act_fits as'
call_fits (Look p) = path_fits p
call_fits (Kids p) = path_fits p
call_fits Open = true
call_fits (End k) = true

-- a call that can be written stands behind what was there; one that can't is refused as too long, and nothing is written; besides, only memory can be wanting
abbrev pub Encoded : {A : Type 0} → Call → (before after : List ℕ) → Result A Fault → Type 0
Encoded c before after (Ok u) = (call_fits c ≡ true) × (after ≡ before ++ encode_call c)
Encoded c before after (Err (Wrong w)) = (w ≡ Long) × (call_fits c ≡ false) × (after ≡ before)
Encoded c before after (Err Memory) = call_fits c ≡ true
