-- The booking methods of a ledger's accounts.
use Rattle.std.specs.Prelude.{ℕ, List, [], ◌∷◌, Option, Some, None, fold, unwrap_or}
use Rattle.std.specs.Prelude.{not, if◌then◌else◌}
use Rattle.std.specs.List.{flat_map}
use Rattle.std.specs.Option.{is_some}
use Rattle.std.specs.Str.{bytes_eq}
use Rattle.bean_accounts.specs.Method.{method_named}
use Rattle.bean_base.specs.declared.fault.Fault.{Fault}
use Rattle.bean_base.specs.declared.fault.FaultKind.TheVariants.{UnknownMethod}
use Rattle.bean_directives.specs.declared.directive.Directive.{Directive}
use Rattle.bean_directives.specs.declared.directive.DirectiveKind.{DirectiveKind}
use Rattle.bean_directives.specs.declared.directive.DirectiveKind.TheVariants as kind
use Rattle.bean_loaded.specs.declared.loaded.MethodLine.{MethodLine}
use Rattle.bean_loaded.specs.declared.placed.Placed.{Placed}
use Rattle.bean_reductions.specs.declared.reduction.Method as methods
use Rattle.bean_reductions.specs.declared.reduction.Method.TheVariants.{Strict}

abbrev pub behind : methods.Method → MethodLine → methods.Method
behind m l = unwrap_or (method_named l.method) m

-- the last line that names a method, else STRICT
abbrev pub otherwise : List MethodLine → methods.Method
otherwise lines = fold behind Strict lines

abbrev pub unknown_of : MethodLine → List Fault
unknown_of l =
    if not (is_some (method_named l.method))
    then record { kind = UnknownMethod; place = l.place } ∷ [] else []

-- F23 of each line that names none
abbrev pub unknown_in : List MethodLine → List Fault
unknown_in lines = flat_map unknown_of lines

-- the method that an open names
abbrev pub named_in : Option (List ℕ) → Option methods.Method
named_in None = None
named_in (Some name) = method_named name

-- what an open says of its account goes before what later directives say
abbrev pub method_by : methods.Method → DirectiveKind → List ℕ → methods.Method → methods.Method
method_by m (kind.Open o) a later =
    if bytes_eq o.account a then unwrap_or (named_in o.method) m else later
method_by m other a later = later

-- what the first open of the account names; m where it names none, and where there is none
abbrev pub method_of : methods.Method → List (Placed Directive) → List ℕ → methods.Method
method_of m [] a = m
method_of m (d ∷ ds) a = method_by m d.item.kind a (method_of m ds a)
