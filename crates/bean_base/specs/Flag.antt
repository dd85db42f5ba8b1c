-- Flags, as a table shows them.
use Rattle.std.specs.Prelude.{ℕ, List, codes}
use Rattle.bean_base.specs.declared.flags.Flag.{Flag}
use Rattle.bean_base.specs.declared.flags.Flag.TheVariants.{Complete, Incomplete}

abbrev pub spelling : Flag → List ℕ
spelling Complete = codes "*"
spelling Incomplete = codes "!"
