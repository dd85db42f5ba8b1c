-- What a section is to compute: what the machine loads, and its operations over it, before they
-- stand at places.
use Rattle.std.specs.Prelude.{ℕ, Bool, List}
use Rattle.bql_tree.specs.declared.tree.MetadataOwner.{MetadataOwner}
use Rattle.query_code.specs.declared.instruction.Unary.{Unary}
use Rattle.query_code.specs.declared.program.Constant.{Constant}
use Rattle.query_terms.specs.declared.column.Column.{Column}
use Rattle.query_values.specs.declared.operation.Binary.{Binary}

-- a truth value, a constant, a cell, a text of metadata under a key; behind the last row a key or
-- an aggregate of the group
pub data Load : Type 0 where
  truth : Bool → Load
  constant : Constant → Load
  column : Column → Load
  entry : MetadataOwner → (key : List ℕ) → Load
  key : ℕ → Load
  aggregate : ℕ → Load

-- an operation on one value: by itself, with a pattern, or with a list
pub data Change : Type 0 where
  plainly : Unary → Change
  matching : (pattern : List ℕ) → Change
  some_matching : (pattern : List ℕ) → Change
  among : Constant → Change

-- the second operand of AND and of OR is computed only where the first leaves it open
pub data Core : Type 0 where
  loading : Load → Core
  changing : Change → Core → Core
  joining : Binary → Core → Core → Core
  both : Core → Core → Core
  either : Core → Core → Core
