use Rattle.std.proofs.Common.{◌≡◌, take, ℕ, List}
use Rattle.std.specs.Map.{lookup}
use Rattle.std.specs.Str.{bytes_eq}
use Rattle.bean_interp.specs.Tolerance.{precision}
use Rattle.bean_interp.proofs.precision.Precisions.read.Given as goal

abbrev pub invariant-loop-leg : goal.invariant-loop-leg
invariant-loop-leg l = (c : List ℕ)
    → lookup (bytes_eq c) l.self ≡ precision (take l.leg-index l.legs) c
