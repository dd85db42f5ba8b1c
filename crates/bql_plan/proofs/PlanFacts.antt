-- The aggregates of calls.
use Rattle.std.proofs.Common.{◌≡◌, ℕ, false, [], ◌∷◌, ap, ◌∙◌, if◌then◌else◌}
use Rattle.bql_plan.specs.Plan.{aggregates_in, all_aggregates}
use Rattle.bql_tree.specs.Tree.{call_of, Tree, node, Trees}
use Rattle.bql_tree.specs.declared.function.Function.{Function}
use Rattle.bql_types.specs.Sought.{is_aggregate_function}

pub below_call : (e : Tree ℕ) (at : ℕ) (f : Function) (ts : Trees ℕ) → e ≡ node at (call_of f) ts
    → is_aggregate_function f ≡ false → aggregates_in e ≡ all_aggregates ts
below_call e at f ts is a =
    ap aggregates_in is
    ∙ ap (λ b. if b then node at (call_of f) ts ∷ [] else all_aggregates ts) a
