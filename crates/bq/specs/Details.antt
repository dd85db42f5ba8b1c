-- Whether as much is told of a book as is asked for.
use Rattle.std.specs.Prelude.{⊤}
use Rattle.bean_book.specs.declared.details.Details.{Details}
use Rattle.bean_book.specs.declared.details.Details.TheVariants.{All, ButAccounts, Few}

-- all is told, or all but the sets of accounts and nothing needs these; no query makes do with few
-- details
abbrev pub Suffice : Details → Type 0 → Type 0
Suffice All NoneNeeds = ⊤
Suffice ButAccounts NoneNeeds = NoneNeeds
Suffice Few NoneNeeds = ⊥
