-- What a ledger's text says.
use Rattle.std.specs.Prelude.{◌≡◌, ℕ, ◌+◌, List, [], ◌∷◌, ◌++◌, length}
use Rattle.std.specs.List.{flat_map}
use Rattle.std.specs.Ordering.{nat_cmp}
use Rattle.theory.specs.Arrangement.{IsArrangedByKey}
use Rattle.bean_base.specs.declared.fault.Fault as faults
use Rattle.bean_base.specs.declared.fault.FaultKind.TheVariants.{Ignored}
use Rattle.bean_lexer.specs.declared.token.Token.{Token}
use Rattle.bean_lexer.specs.Tokens.{AreTokens}
use Rattle.bean_parser.specs.Block.{blocks}
use Rattle.bean_parser.specs.Outcome.{AllGive, fault_at}
use Rattle.bean_pushes.specs.Scope.{unmatched, with_pushes}
use Rattle.bean_parser.specs.declared.block.Outcome.{Outcome}
use Rattle.bean_parser.specs.declared.block.Outcome.TheVariants as outcome
use Rattle.bean_directives.specs.declared.directive.Directive as directives
use Rattle.bean_parser.specs.declared.parse.Parsed.{Parsed}
use Rattle.bean_pushes.specs.declared.scope.PlacedBound.{PlacedBound}
use Rattle.bean_parser.specs.declared.statement.Statement.TheVariants.{Directive, Undated}
use Rattle.bean_directives.specs.declared.undated.UndatedKind.{UndatedKind}
use Rattle.bean_directives.specs.declared.undated.UndatedKind.TheVariants as kind
use Rattle.bean_directives.specs.declared.undated.Setting as settings

-- What each block adds, in reading order.

abbrev pub directives_in : Outcome → List directives.Directive
directives_in (outcome.Statement (Directive d)) = d ∷ []
directives_in (outcome.Statement (Undated u)) = []
directives_in (outcome.Fault f) = []

abbrev pub settings_of : ℕ → UndatedKind → List settings.Setting
settings_of line (kind.Setting s) = record { line = line; kind = s } ∷ []
settings_of line kind = []

abbrev pub settings_in : Outcome → List settings.Setting
settings_in (outcome.Statement (Directive d)) = []
settings_in (outcome.Statement (Undated u)) = settings_of u.line u.kind
settings_in (outcome.Fault f) = []

-- what is ignored is F5
abbrev pub faults_of : ℕ → UndatedKind → List faults.Fault
faults_of line kind.Ignored = fault_at Ignored line ∷ []
faults_of line kind = []

abbrev pub faults_in : Outcome → List faults.Fault
faults_in (outcome.Statement (Directive d)) = []
faults_in (outcome.Statement (Undated u)) = faults_of u.line u.kind
faults_in (outcome.Fault f) = f ∷ []

-- a push and a pop have their place: how many directives stand before them
abbrev pub bounds_of : ℕ → ℕ → UndatedKind → List PlacedBound
bounds_of place line (kind.Bound b) = record { line = line; place = place; bound = b } ∷ []
bounds_of place line kind = []

abbrev pub bounds_in : ℕ → Outcome → List PlacedBound
bounds_in place (outcome.Statement (Directive d)) = []
bounds_in place (outcome.Statement (Undated u)) = bounds_of place u.line u.kind
bounds_in place (outcome.Fault f) = []

abbrev pub all_bounds : ℕ → List Outcome → List PlacedBound
all_bounds place [] = []
all_bounds place (o ∷ os) = bounds_in place o ++ all_bounds (place + length (directives_in o)) os

-- faults stand by their lines
abbrev pub AreByLine : List faults.Fault → List faults.Fault → Type 0
AreByLine = IsArrangedByKey (λ f. f.place.line) nat_cmp

-- what blocks come to, by what each of them gives
pub record ComeTo (os : List Outcome) (p : Parsed) : Type 0 where
  pub directives : p.directives ≡ with_pushes [] (all_bounds 0 os) (flat_map directives_in os)
  pub settings : p.settings ≡ flat_map settings_in os
  pub faults : AreByLine (flat_map faults_in os ++ unmatched [] (all_bounds 0 os)) p.faults

abbrev pub IsParsed : List ℕ → Parsed → Type 0
IsParsed text p = (tokens : List Token) × (os : List Outcome) × AreTokens text tokens
    × AllGive (blocks tokens) os × ComeTo os p
