-- What can be lowered is small and has shapes.
use Rattle.std.proofs.Common.{ℕ, List, [], ◌∷◌}
use Rattle.std.specs.List.{AllByRecursion}
use Rattle.limits.specs.declared.bounds.Bounds.{Bounds}
use Rattle.bql_lowering.specs.Listed.{HasShape}
use Rattle.bql_parser.specs.Small.{IsSmallTree}
use Rattle.bql_tree.specs.Tree.{Tree}
use Rattle.bql_compiler.specs.Lowers.{AllLower}

pub all_small : (b : Bounds) (ts : List (Tree ℕ)) → AllLower b ts → AllByRecursion IsSmallTree ts
all_small b [] h = tt
all_small b (t ∷ ts) h = (h.0.0, all_small b ts h.1)

pub all_shaped : (b : Bounds) (ts : List (Tree ℕ)) → AllLower b ts
    → AllByRecursion (HasShape b) ts
all_shaped b [] h = tt
all_shaped b (t ∷ ts) h = (h.0.1, all_shaped b ts h.1)
