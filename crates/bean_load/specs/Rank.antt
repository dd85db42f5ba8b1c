-- Which directives of one day are taken first.
use Rattle.std.specs.Prelude.{ℕ}
use Rattle.bean_directives.specs.declared.directive.DirectiveKind.{DirectiveKind}
use Rattle.bean_directives.specs.declared.directive.DirectiveKind.TheVariants as kind
use Rattle.bean_load.specs.declared.rank.Rank.{Rank}
use Rattle.bean_load.specs.declared.rank.Rank.TheVariants.{Open, Balance, Other, Document, Close}

-- opens, then balances, all else, documents and closes
abbrev pub rank_of : DirectiveKind → Rank
rank_of (kind.Open o) = Open
rank_of (kind.Balance b) = Balance
rank_of (kind.Document d) = Document
rank_of (kind.Close c) = Close
rank_of k = Other

abbrev pub rank_number : Rank → ℕ
rank_number Open = 0
rank_number Balance = 1
rank_number Other = 2
rank_number Document = 3
rank_number Close = 4
