-- What a directive has, as it lies: its own items, then those that it is given.
use Rattle.std.specs.Prelude.{List, [], ◌++◌, Option, Some, None, Box}
use Rattle.std.specs.declared.alloc.Global.{Global}
use Rattle.given_items.specs.Given.{given_at}
use Rattle.given_items.specs.declared.with_given.Given as givens
use Rattle.given_items.specs.declared.with_given.Held as helds

abbrev pub given_in : {T : Type 0} → Option (givens.Given T) → List T
given_in None = []
given_in (Some g) = given_at g.place g.items

abbrev pub held_in : {T : Type 0} → helds.Held T → List T
held_in h = h.own ++ given_in h.given

abbrev pub all_in : {T : Type 0} → Option (Box (helds.Held T) Global) → List T
all_in None = []
all_in (Some h) = held_in h.value
