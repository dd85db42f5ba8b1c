-- How much is told of transactions and postings.
use Rattle.std.specs.Prelude.{ℕ, List, []}
use Rattle.bean_book.specs.declared.details.Details.{Details}
use Rattle.bean_book.specs.declared.details.Details.TheVariants.{All, ButAccounts, Few}

-- the accounts of a transaction, where they are told, and else none
abbrev pub accounts_told : Details → List (List ℕ) → List (List ℕ)
accounts_told All accounts = accounts
accounts_told ButAccounts accounts = []
accounts_told Few accounts = []

-- tags, links or entries of metadata, where they are told, and else none
abbrev pub told : {X : Type 0} → Details → List X → List X
told All xs = xs
told ButAccounts xs = xs
told Few xs = []
