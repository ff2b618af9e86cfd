-- Letters under way: which are on a link.
use Rattle.std.specs.Prelude.{◌≡◌, ℕ, Bool, true, not, ◌&&◌, List, Some, None, map, vec_items, Option, ◌==◌}
use Rattle.script.specs.declared.lines.Link.{Link}
use Rattle.script.specs.declared.network.Letter.{Letter}

-- on this link, or on any
abbrev pub is_on : Option Link → Letter → Bool
is_on None l = true
is_on (Some k) l = l.from == k.from && l.to == k.to

abbrev pub is_off : Option Link → Letter → Bool
is_off k l = not (is_on k l)

-- a letter's sender, receiver and bytes
abbrev pub contents : Letter → ℕ × (ℕ × List ℕ)
contents l = (l.from, (l.to, vec_items l.bytes))

-- the same letters, if not at the same places in memory
abbrev pub Same : List Letter → List Letter → Type 0
Same xs ys = map contents xs ≡ map contents ys
