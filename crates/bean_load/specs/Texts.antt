-- The texts of a ledger.
use Rattle.std.specs.Prelude.{ℕ, List}
use Rattle.bean_base.specs.declared.fault.Fault.{Fault}
use Rattle.bean_load.specs.declared.texts.Part.{Part}

-- A text, and the name under which it was read.
pub record File : Type 0 where
  pub name : List ℕ
  pub text : List ℕ

-- The texts in reading order, the parts in which they are read, and the faults of include lines.
pub record Texts : Type 0 where
  pub files : List File
  pub parts : List Part
  pub faults : List Fault
