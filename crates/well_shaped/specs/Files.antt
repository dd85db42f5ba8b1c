-- Which well shaped programs have a file: those whose lists and texts are no longer than it tells.
use Rattle.std.specs.Prelude.{◌≡◌, ◌^◌, ◌<◌, ◌≤◌, List, [], length, IfSome, ⊤}
use Rattle.std.specs.List.{AllByRecursion}
use Rattle.limits.specs.declared.counts.TheConstants.{LONGEST_SECTION, MOST_COMPONENTS, MOST_ITEMS}
use Rattle.query_code.specs.ByteForm.{AllFit}
use Rattle.query_code.specs.QueryFile.{constant, file}
use Rattle.query_code.specs.TextForm.{text}
use Rattle.query_code.specs.declared.instruction.Instruction.{Instruction}
use Rattle.query_code.specs.declared.instruction.Instruction.TheVariants as instruction
use Rattle.query_code.specs.declared.instruction.Unary.TheVariants as unary
use Rattle.query_code.specs.declared.program.Code.{Code}
use Rattle.query_code.specs.declared.program.Mode.{Mode}
use Rattle.query_code.specs.declared.program.Mode.TheVariants.{Plain, Grouped}
use Rattle.query_code.specs.declared.program.Output.{Output}
use Rattle.query_code.specs.declared.program.Parts.{Parts}
use Rattle.well_shaped.specs.Program.{IsWellShaped}

-- ---- the limits of its parts

-- no more components of an account than one byte tells
abbrev pub TakesFew : Instruction → Type 0
TakesFew (instruction.Unary (unary.Root n)) = n ≤ MOST_COMPONENTS
TakesFew i = ⊤

pub record IsShortSection (section : List Instruction) : Type 0 where
  pub short : length section ≤ LONGEST_SECTION
  pub roots : AllByRecursion TakesFew section

-- one column or more, whose names can be written; a limit of four bytes
pub record IsShortOutput (o : Output) : Type 0 where
  pub some : 1 ≤ length o.targets
  pub few : length o.targets ≤ MOST_ITEMS
  pub names : AllFit text o.targets
  pub order : length o.order ≤ MOST_ITEMS
  pub limit : IfSome o.limit (λ n. n < 2 ^ 32)

pub record IsShortCode (c : Code) : Type 0 where
  pub keys : c.keys ≤ MOST_ITEMS
  pub aggregates : length c.aggregates ≤ MOST_ITEMS
  pub entries : length c.pool ≤ LONGEST_SECTION
  pub pool : AllFit constant c.pool
  pub filter : IsShortSection c.filter
  pub row : IsShortSection c.row
  pub last : IsShortSection c.last

-- nothing is told of groups
pub record HasNoGroups (c : Code) : Type 0 where
  pub keys : c.keys ≡ 0
  pub aggregates : c.aggregates ≡ []
  pub last : c.last ≡ []

-- unless rows are grouped
abbrev pub HasGroupsIf : Mode → Code → Type 0
HasGroupsIf Plain c = HasNoGroups c
HasGroupsIf Grouped c = ⊤

pub record IsShort (p : Parts) : Type 0 where
  pub output : IsShortOutput p.output
  pub code : IsShortCode p.code
  pub groups : HasGroupsIf p.mode p.code

-- ---- the law

abbrev pub WellShapedHaveFiles : Type 0
WellShapedHaveFiles = (p : Parts) → IsWellShaped p → IsShort p → file.fits p
