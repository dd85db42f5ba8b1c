-- What the texts of a ledger say together.
use Rattle.std.specs.Prelude.{ℕ, List, Option}
use Rattle.bean_base.specs.declared.fault.Fault.{Fault}
use Rattle.bean_directives.specs.declared.directive.Directive.{Directive}
use Rattle.bean_loaded.specs.declared.loaded.MethodLine.{MethodLine}
use Rattle.bean_loaded.specs.declared.placed.Placed.{Placed}

-- The directives in the order in which they are taken; the faults; the last title, the operating
-- currencies and the lines of booking methods in reading order.
pub record Loaded : Type 0 where
  pub directives : List (Placed Directive)
  pub faults : List Fault
  pub title : Option (List ℕ)
  pub operating : List (List ℕ)
  pub methods : List MethodLine
