-- What is written reads back as what it was written of.
use Rattle.std.specs.Prelude.{◌≡◌, ℕ, ◌+◌, ◌^◌, ◌<◌, List, length, Ok, decimal}
use Rattle.std.specs.List.{AllByRecursion}
use Rattle.text.specs.Hex.{hex_of, unhex}
use Rattle.text.specs.Decimal.{undecimal}
use Rattle.text.specs.Frame.{framed, unframe}

abbrev pub HexReadsBack : Type 0
HexReadsBack = (bs : List ℕ) → AllByRecursion (λ (b : ℕ). b < 256) bs → unhex (hex_of bs) ≡ Ok bs

abbrev pub DecimalReadsBack : Type 0
DecimalReadsBack = (n : ℕ) → n < 2 ^ 64 → undecimal (decimal n) ≡ Ok n

abbrev pub FrameReadsBack : Type 0
FrameReadsBack = (n : ℕ) (call : List ℕ) → n < 2 ^ 64 → 8 + length call < 2 ^ 32 → unframe (framed n call) ≡ Ok (n, call)
