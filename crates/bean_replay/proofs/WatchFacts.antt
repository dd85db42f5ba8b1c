-- Which directives may come where postings are watched, or not.
use Rattle.std.proofs.Common.{◌≡◌, ℕ, ◌+◌, ◌<◌, true, false, List, [], ◌∷◌, length, take}
use Rattle.std.proofs.Common.{get_or, refl, sym, subst, ◌∙◌, true≢false}
use Rattle.std.specs.List.{AllByRecursion}
use Rattle.bean_directives.specs.declared.directive.Directive.{Directive}
use Rattle.bean_loaded.specs.declared.placed.Placed.{Placed}
use Rattle.bean_replay.specs.Watched.{IsWatched, is_watching}
use Rattle.bean_replay.proofs.StepFacts.{taken_more}
use Rattle.theory.proofs.AllFacts.{all_pushed}

-- all directives, where postings are
pub all_watched : (ds : List (Placed Directive)) → AllByRecursion (IsWatched true) ds
all_watched [] = tt
all_watched (d ∷ ds) = ((λ is. refl), all_watched ds)

-- one that sees no posting may come in any case
pub one_unwatched : (ds : List (Placed Directive)) (i : ℕ) (d : Placed Directive) → i < length ds
    → d ≡ get_or ds i d → is_watching d.item.kind ≡ false
    → AllByRecursion (IsWatched false) (take i ds)
    → AllByRecursion (IsWatched false) (take (i + 1) ds)
one_unwatched ds i d within at is all =
    subst (AllByRecursion (IsWatched false)) (sym (taken_more ds i d within at))
    (all_pushed (IsWatched false) (take i ds) d all (λ on. absurd (true≢false (sym on ∙ is))))
