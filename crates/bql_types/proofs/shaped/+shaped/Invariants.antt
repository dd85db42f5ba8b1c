use Rattle.std.proofs.Common.{◌≡◌, drop, false}
use Rattle.bql_tree.specs.Tree.{trees_of}
use Rattle.bql_types.specs.Cause.{told}
use Rattle.bql_types.specs.Seen.{list_of}
use Rattle.bql_types.specs.Shaped.{shapes_of, all_shape_causes}
use Rattle.bql_types.proofs.ShapeFacts.{behind}
use Rattle.bql_types.proofs.shaped.+shaped.Given as goal

-- the shapes and what is found so far, with the arguments that are left, are those of all
abbrev pub invariant-look_at_all-loop-e : goal.invariant-look_at_all-loop-e
invariant-look_at_all-loop-e l = record {
  shapes : behind (list_of l.shapes) (shapes_of l.bounds false (trees_of (drop l.e-index l.es)))
      ≡ shapes_of l.bounds false (trees_of l.es);
  found : told l.found (all_shape_causes l.bounds false (trees_of (drop l.e-index l.es)))
      ≡ told l.initial.found (all_shape_causes l.bounds false (trees_of l.es));
}
