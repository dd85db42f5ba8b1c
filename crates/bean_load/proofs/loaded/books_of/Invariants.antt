use Rattle.std.proofs.Common.{drop}
use Rattle.bean_load.proofs.BooksFacts.{Completes}
use Rattle.bean_load.proofs.loaded.books_of.Given as goal

-- what the settings that are left say completes what is known
abbrev pub invariant-loop-setting : goal.invariant-loop-setting
invariant-loop-setting l = Completes l.settings l.books (drop l.setting-index l.settings)
