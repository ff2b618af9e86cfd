-- A call in words reads back as the call that it was written of.
use Rattle.std.specs.Prelude.{◌≡◌, ℕ, ◌^◌, ◌<◌, List, [], length, Some}
use Rattle.std.specs.List.{AllByRecursion}
use Rattle.model.specs.Tree.{Name, Path, Expect, Any, Version, Act, Make, Put, Drop, Check, Call, Do, Look, Kids, Open, End}
use Rattle.phrases.specs.Acts.{call_at}
use Rattle.spelling.specs.Spelled.{call_spelled}

-- bytes are below 256, numbers have 64 bits, and no name is empty
abbrev pub Bytes : List ℕ → Type 0
Bytes v = AllByRecursion (λ (b : ℕ). b < 256) v

abbrev pub NameFits : Name → Type 0
NameFits n = Bytes n × (0 < length n)

abbrev pub PathFits : Path → Type 0
PathFits p = AllByRecursion NameFits p

abbrev pub ExpectFits : Expect → Type 0
ExpectFits Any = Unit {0}
ExpectFits (Version n) = n < 2 ^ 64

abbrev pub ActFits : Act → Type 0
ActFits (Make p v n o) = PathFits p × (Bytes v × (o < 2 ^ 64))
ActFits (Put p v x) = PathFits p × (Bytes v × ExpectFits x)
ActFits (Drop p x) = PathFits p × ExpectFits x
ActFits (Check p x) = PathFits p × ExpectFits x

abbrev pub CallFits : Call → Type 0
CallFits (Do as') = AllByRecursion ActFits as'
CallFits (Look p) = PathFits p
CallFits (Kids p) = PathFits p
CallFits Open = Unit {0}
CallFits (End k) = k < 2 ^ 64

abbrev pub CallsReadBack : Type 0
CallsReadBack = (c : Call) → CallFits c → call_at (call_spelled c) ≡ Some (c, [])
