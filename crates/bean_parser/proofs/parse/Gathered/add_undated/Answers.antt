use Rattle.bean_parser.proofs.GatheredFacts.{setting_adds, ignored_adds, bound_adds}
use Rattle.bean_parser.proofs.parse.Gathered.add_undated.Goals as goal
use Rattle.std.proofs.Common.{ℕ, List, refl, ◌∙◌, ap, ◌++◌, ◌∷◌, []}
use Rattle.bean_pushes.specs.declared.scope.PlacedBound.{PlacedBound}

pub returns-in_ok-push-in-Setting : goal.returns-in_ok-push-in-Setting
returns-in_ok-push-in-Setting c =
    λ os h. setting_adds os _ _ _ c.args.self.now _ c.in-Setting.is refl
    c.in_ok-push-in-Setting.ensures.items refl refl h

pub returns-in_ok-push-in-Ignored : goal.returns-in_ok-push-in-Ignored
returns-in_ok-push-in-Ignored c =
    λ os h. ignored_adds os _ _ c.args.self.now _ c.in-Ignored.is refl refl refl
    (c.in_ok-push-in-Ignored.ensures.items
    ∙ ap (λ f. c.args.self.now.faults.items ++ f ∷ []) c.fault_at.ensures) h

pub returns-in_ok-push-in-Bound : goal.returns-in_ok-push-in-Bound
returns-in_ok-push-in-Bound c = λ os h.
    let with_place : ℕ → List PlacedBound =
    λ n. c.args.self.now.bounds.items
    ++ record { line = c.args.line; place = n; bound = c.in-Bound.bound } ∷ [] in
    bound_adds os _ _ _ c.args.self.now _ c.in-Bound.is refl refl
    (c.in_ok-push-in-Bound.ensures.items ∙ ap with_place c.len-place.ensures) refl h
