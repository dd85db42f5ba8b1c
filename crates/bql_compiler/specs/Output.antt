-- Whose columns can be told in a program.
use Rattle.std.specs.Prelude.{◌<◌, ◌≤◌, length}
use Rattle.std.specs.List.{AllByRecursion}
use Rattle.bql_parser.specs.Asked.{Asked, Target}
use Rattle.bql_parser.specs.Small.{IsShort}
use Rattle.bql_plan.specs.Plan.{Plan}
use Rattle.limits.specs.declared.counts.TheConstants.{MOST_VALUES}

abbrev pub HasShortName : Target → Type 0
HasShortName t = IsShort t.name

-- one target or more, with short names; no more columns than the stack holds, the targets among
-- them, and each that orders rows
pub record HasRoom (q : Asked) (p : Plan) : Type 0 where
  pub some : 1 ≤ length q.targets
  pub names : AllByRecursion HasShortName q.targets
  pub targets : length q.targets ≤ length p.shown
  pub shown : length p.shown ≤ MOST_VALUES
  pub order : AllByRecursion (λ i. i < length p.shown) p.order
