-- What is kept of bounds, by name: what stands behind some, and the pushes that are open.
use Rattle.std.specs.Prelude.{List, [], ◌∷◌, Option, Some, None, Bool, true, false, ◌&&◌}
use Rattle.std.specs.Bool.{beq}
use Rattle.std.specs.Prelude.{unwrap_or, ℕ}
use Rattle.std.specs.Str.{bytes_eq}
use Rattle.std.specs.declared.alloc.Global.{Global}
use Rattle.std.specs.declared.vec.Vec.{Vec}
use Rattle.indexmap.specs.IndexMap.{get}
use Rattle.bean_directives.specs.declared.undated.PushName.{PushName}
use Rattle.bean_directives.specs.declared.undated.PushName.TheVariants as names
use Rattle.bean_directives.specs.declared.undated.Pushed.{Pushed}
use Rattle.bean_pushes.specs.Scope.{name_in, next_of, pops_left, reach_of}
use Rattle.bean_pushes.specs.declared.matches.Ahead.{Ahead}
use Rattle.bean_pushes.specs.declared.matches.Aheads.{Aheads}
use Rattle.bean_pushes.specs.declared.matches.Name.{Name}
use Rattle.bean_pushes.specs.declared.matches.Opens.{Opens}
use Rattle.bean_pushes.specs.declared.scope.PlacedBound.{PlacedBound}

-- a name as it is looked up
abbrev pub looked_up : PushName → Name
looked_up (names.Tag t) = record { text = t; is_tag = true }
looked_up (names.Key k) = record { text = k; is_tag = false }

abbrev pub are_same : Name → Name → Bool
are_same a b = bytes_eq a.text b.text && beq a.is_tag b.is_tag

-- of each bound, up to where the latest push of its name gives that is open behind it
abbrev pub reaches_of : List PlacedBound → List (Option ℕ)
reaches_of [] = []
reaches_of (b ∷ bs) = reach_of (name_in b.bound) bs ∷ reaches_of bs

-- what some bounds hold of a name
abbrev pub ahead_of : PushName → List PlacedBound → Ahead
ahead_of name bs = record { pops = pops_left name bs; next = next_of name bs }

abbrev pub ahead_in : Aheads → PushName → Ahead
ahead_in aheads n = unwrap_or (get are_same aheads.by_name (looked_up n)) (ahead_of n [])

abbrev pub pushes_at : Option (Vec Pushed Global) → List Pushed
pushes_at None = []
pushes_at (Some pushes) = pushes.items

abbrev pub open_in : Opens → PushName → List Pushed
open_in opens n = pushes_at (get are_same opens.by_name (looked_up n))
