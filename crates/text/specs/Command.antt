-- The lines that the program of one replica reads, `ask HEX`, `from J HEX` and `beat`, and its arguments.
use Rattle.std.specs.Prelude.{ℕ, cond, ◌&&◌, List, Some, None, Ok, Err, codes, Option, Result, ◌==◌, nat_le, nat_lt}
use Rattle.std.specs.Str.{bytes_eq}
use Rattle.text.specs.declared.decimal.DecimalFault.{DecimalFault}
use Rattle.text.specs.declared.command.Command.{Command}
use Rattle.text.specs.declared.command.Command.TheVariants.{Ask, From, Beat}
use Rattle.text.specs.declared.command.CommandFault.{CommandFault}
use Rattle.text.specs.declared.command.CommandFault.TheVariants.{Unknown, Number, NoHouse, Own}
use Rattle.text.specs.declared.command.Place.{Place}
use Rattle.text.specs.Decimal.{undecimal}
use Rattle.text.specs.Words.{word_of, rest_of}

-- a command with its hexadecimal digits
pub data Said : Type 0 where
  Asks : List ℕ → Said
  Brings : (house : ℕ) → List ℕ → Said
  Beats : Said

-- a letter comes from another replica only
abbrev pub letter_from : (me all : ℕ) → Result ℕ DecimalFault → List ℕ → Result Said CommandFault
letter_from me all (Ok j) hex = cond (nat_lt j all) (cond (j == me) (Err Own) (Ok (Brings j hex))) (Err (NoHouse j))
letter_from me all (Err e) hex = Err (Number e)

abbrev pub beat_of : List ℕ → Result Said CommandFault
beat_of line = cond (bytes_eq line (codes "beat")) (Ok Beats) (Err Unknown)

abbrev pub command_of : (me all : ℕ) → List ℕ → Result Said CommandFault
command_of me all line =
    cond (bytes_eq (word_of line) (codes "ask")) (Ok (Asks (rest_of line)))
    (cond (bytes_eq (word_of line) (codes "from")) (letter_from me all (undecimal (word_of (rest_of line))) (rest_of (rest_of line)))
    (beat_of line))

-- what the reader answers, with the bytes that it points to
abbrev pub command_read : Result Command CommandFault → Result Said CommandFault
command_read (Ok (Ask hex)) = Ok (Asks hex.now)
command_read (Ok (From j hex)) = Ok (Brings j hex.now)
command_read (Ok Beat) = Ok Beats
command_read (Err e) = Err e

-- the arguments: one to seven replicas, and a number below that
abbrev pub placed : Result ℕ DecimalFault → Result ℕ DecimalFault → Result ℕ DecimalFault → Option Place
placed (Ok me) (Ok all) (Ok chance) = cond (nat_lt me all && nat_le all 7) (Some (record { me = me; all = all; chance = chance })) None
placed (Ok me) (Ok all) (Err e) = None
placed (Ok me) (Err e) chance = None
placed (Err e) all chance = None

abbrev pub place_of : (me all chance : List ℕ) → Option Place
place_of me all chance = placed (undecimal me) (undecimal all) (undecimal chance)
