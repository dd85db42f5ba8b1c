-- How large it is what the texts of a ledger say together.
use Rattle.std.specs.Prelude.{◌≤◌, List, length}
use Rattle.std.specs.List.{AllByRecursion}
use Rattle.bean_directives.specs.Small.{IsSmallDirective}
use Rattle.bean_directives.specs.declared.directive.Directive.{Directive}
use Rattle.bean_loaded.specs.declared.loaded.TheConstants.{LARGEST_LEDGER}
use Rattle.bean_loaded.specs.declared.placed.Placed.{Placed}

-- with its place
abbrev pub IsSmall : Placed Directive → Type 0
IsSmall p = IsSmallDirective p.item

abbrev pub AreSmall : List (Placed Directive) → Type 0
AreSmall ds = AllByRecursion IsSmall ds

-- no more than the bytes that all texts may have
abbrev pub AreFew : List (Placed Directive) → Type 0
AreFew ds = length ds ≤ LARGEST_LEDGER

-- what texts say that are limited
pub record AreLimitedDirectives (ds : List (Placed Directive)) : Type 0 where
  pub small : AreSmall ds
  pub few : AreFew ds
