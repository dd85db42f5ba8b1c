-- What items that name a target ask of it, as it was seen once.
use Rattle.std.specs.Prelude.{◌≡◌, ℕ, true, List, map, Option, Some, None}
use Rattle.std.specs.Option.{is_some}
use Rattle.limits.specs.declared.bounds.Bounds.{Bounds}
use Rattle.bql_parser.specs.Asked.{Target}
use Rattle.bql_types.specs.Cause.{cause_at, where_true, least_of}
use Rattle.bql_types.specs.Shaped.{shape_of}
use Rattle.bql_types.specs.Sought.{misplaced}
use Rattle.bql_types.specs.Typing.{nothing_at, isnt_ordered}
use Rattle.bql_types.specs.declared.cause.TypeCause.{TypeCause}
use Rattle.bql_types.specs.declared.cause.TypeCauseKind.TheVariants as kind
use Rattle.bql_types.specs.declared.targets.SeenTarget.{SeenTarget}

abbrev pub seen_of : Bounds → Target → SeenTarget
seen_of b t = record {
  shape = shape_of b t.tree;
  has_aggregate = is_some (least_of (misplaced b true t.tree));
}

-- what was seen of some targets
abbrev pub AreSeen : Bounds → List Target → List SeenTarget → Type 0
AreSeen b ts seen = seen ≡ map (seen_of b) ts

abbrev pub group_causes : ℕ → Option SeenTarget → List TypeCause
group_causes place (Some t) = where_true t.has_aggregate (cause_at kind.AggregateMisplaced place)
group_causes place None = nothing_at place

abbrev pub order_causes : ℕ → Option SeenTarget → List TypeCause
order_causes place (Some t) = where_true (isnt_ordered t.shape) (cause_at kind.NotOrderable place)
order_causes place None = nothing_at place
