-- What is kept of blocks that were read.
use Rattle.std.specs.Prelude.{◌≡◌, ℕ, Bool, true, false, List, [], ◌∷◌, ◌++◌}
use Rattle.std.specs.List.{flat_map}
use Rattle.bean_lexer.specs.ToCome.{ToCome}
use Rattle.bean_lexer.specs.declared.lexer.Lexer.{Lexer}
use Rattle.bean_lexer.specs.declared.token.Token.{Token}
use Rattle.bean_parser.specs.Outcome.{Gives}
use Rattle.bean_parser.specs.Taking.{TakesBlock}
use Rattle.bean_parser.specs.Parsed.{directives_in, settings_in, faults_in, all_bounds}
use Rattle.bean_parser.specs.declared.block.Outcome.{Outcome}
use Rattle.bean_parser.specs.declared.block.Outcome.TheVariants as outcome
use Rattle.bean_parser.specs.declared.statement.Statement.TheVariants as statement
use Rattle.bean_directives.specs.declared.undated.UndatedKind.{UndatedKind}
use Rattle.bean_parser.specs.declared.parse.Gathered.{Gathered}

abbrev pub undated_at : ℕ → UndatedKind → Outcome
undated_at line kind = outcome.Statement (statement.Undated record { line = line; kind = kind })

pub record IsGathered (os : List Outcome) (g : Gathered) : Type 0 where
  pub directives : g.directives ≡ flat_map directives_in os
  pub settings : g.settings.items ≡ flat_map settings_in os
  pub bounds : g.bounds.items ≡ all_bounds 0 os
  pub faults : g.faults.items ≡ flat_map faults_in os

-- the next block adds what it gives
pub record AddsBlock (before : Lexer) (old : Gathered) (after : Lexer) (new : Gathered) : Type 0 where
  pub block : List Token
  pub outcome : Outcome
  pub taken : TakesBlock true before block after
  pub gives : Gives block outcome
  pub adds : (os : List Outcome) → IsGathered os old → IsGathered (os ++ outcome ∷ []) new

-- or no block is left
abbrev pub AddsNext : Bool → Lexer → Gathered → Lexer → Gathered → Type 0
AddsNext true before old after new = AddsBlock before old after new
AddsNext false before old after new =
    ToCome before [] × ((os : List Outcome) → IsGathered os old → IsGathered os new)
