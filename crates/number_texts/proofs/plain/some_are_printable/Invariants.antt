use Rattle.std.proofs.Common.{◌≡◌, ◌&&◌, drop}
use Rattle.std.specs.Int.{is_in_range}
use Rattle.std.specs.List.{list_all}
use Rattle.number_texts.proofs.plain.some_are_printable.Given as goal

-- what is known so far, and the bytes that are left
abbrev pub invariant-loop-b : goal.invariant-loop-b
invariant-loop-b g l =
    (l.all && list_all (is_in_range 32 126) (drop l.b-index l.bytes))
    ≡ list_all (is_in_range 32 126) l.bytes
