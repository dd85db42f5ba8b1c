-- Transactions as they are written.
use Rattle.std.specs.Prelude.{Bool, true, false, [], None}
use Rattle.bean_base.specs.declared.flags.Flag.TheVariants as flag
use Rattle.bean_directives.specs.declared.directive.DirectiveKind.{DirectiveKind}
use Rattle.bean_directives.specs.declared.directive.DirectiveKind.TheVariants as kind
use Rattle.bean_directives.specs.declared.transaction.Transaction.{Transaction}

-- a directive that is a transaction
abbrev pub is_transaction : DirectiveKind → Bool
is_transaction (kind.Transaction t) = true
is_transaction other = false

-- the transaction that a directive is, and one of nothing where it is none
abbrev pub transaction_in : DirectiveKind → Transaction
transaction_in (kind.Transaction t) = t
transaction_in other = record {
  flag = flag.Complete;
  payee = None;
  narration = [];
  marks = [];
  postings = [];
}
