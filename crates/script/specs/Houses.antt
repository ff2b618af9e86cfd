-- Which houses are up and which are frail, as they fall and wake.
use Rattle.std.specs.Prelude.{ℕ, ◌*◌, Bool, true, false, cond, not, ◌&&◌, ◌||◌, List, replicate, Ok, Err, Result, nat_le, nat_lt, slice_index_or, slice_set}
use Rattle.std.specs.List.{count_by}
use Rattle.script.specs.declared.houses.House.{House}
use Rattle.script.specs.declared.houses.Houses.{Houses}
use Rattle.script.specs.declared.houses.Forbidden.{Forbidden}
use Rattle.script.specs.declared.houses.Forbidden.TheVariants.{NoHouse, Already, TooMany}

abbrev pub is_up : House → Bool
is_up h = h.up

abbrev pub is_frail : House → Bool
is_frail h = h.frail

-- up and whole, as each is at the first beginning
abbrev pub whole : House
whole = record { up = true; frail = false }

abbrev pub fallen : House
fallen = record { up = false; frail = true }

-- how many of these
abbrev pub frail_count : List House → ℕ
frail_count hs = count_by is_frail hs

abbrev pub begun : ℕ → Houses
begun all = record { all = all; each = replicate 7 whole }

-- a house's place is its number
abbrev pub place_of : Houses → ℕ → Result ℕ Forbidden
place_of h i = cond (nat_le h.all i || nat_le 7 i) (Err NoHouse) (Ok i)

abbrev pub house_is_up : Houses → ℕ → Bool
house_is_up h i = nat_lt i h.all && (nat_lt i 7 && is_up (slice_index_or h.each i fallen))

abbrev pub down : Houses → ℕ → Houses
down h i = record { all = h.all; each = slice_set h.each i fallen }

abbrev pub fell : Houses → ℕ → Result Houses Forbidden
fell h i =
    cond (nat_le h.all i || nat_le 7 i) (Err NoHouse)
    (cond (not (is_up (slice_index_or h.each i fallen))) (Err Already) (cond (nat_lt (2 * frail_count (down h i).each) h.all) (Ok (down h i)) (Err TooMany)))

-- up again, and as frail as it was
abbrev pub awake : House → House
awake h = record { up = true; frail = h.frail }

abbrev pub woke : Houses → ℕ → Result Houses Forbidden
woke h i =
    cond (nat_le h.all i || nat_le 7 i) (Err NoHouse)
    (cond (is_up (slice_index_or h.each i fallen)) (Err Already) (Ok (record { all = h.all; each = slice_set h.each i (awake (slice_index_or h.each i fallen)) })))
