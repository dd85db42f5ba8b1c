-- Which postings pads and balances are shown: all, where there is a pad or a balance.
use Rattle.std.specs.Prelude.{◌≡◌, Bool, true, false, List, []}
use Rattle.bean_directives.specs.declared.directive.Directive.{Directive}
use Rattle.bean_directives.specs.declared.directive.DirectiveKind.{DirectiveKind}
use Rattle.bean_directives.specs.declared.directive.DirectiveKind.TheVariants as kind
use Rattle.bean_loaded.specs.declared.placed.Placed.{Placed}
use Rattle.bean_pad.specs.declared.step.Step.{Step}
use Rattle.bean_holdings.specs.declared.posted.Posted.{Posted}
use Rattle.bean_replay.specs.Stand.{steps_of_postings}

-- a directive that sees what is booked before it
abbrev pub is_watching : DirectiveKind → Bool
is_watching (kind.Pad p) = true
is_watching (kind.Balance b) = true
is_watching other = false

-- where postings are watched, or not, this directive may come
abbrev pub IsWatched : Bool → Placed Directive → Type 0
IsWatched watched d = is_watching d.item.kind ≡ true → watched ≡ true

-- what is shown of booked postings, the latest first
abbrev pub seen_of : Bool → List Posted → List Step
seen_of true posted = steps_of_postings posted
seen_of false posted = []

-- and which aren't shown
abbrev pub unseen_of : Bool → List Posted → List Posted
unseen_of true posted = []
unseen_of false posted = posted
