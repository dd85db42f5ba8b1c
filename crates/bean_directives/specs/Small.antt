-- What of a directive is small: its texts and its line are no larger than a ledger's text may be,
-- and it has no more postings, tags and links than that.
use Rattle.std.specs.Prelude.{◌≤◌, List, [], length, IfSome}
use Rattle.std.specs.List.{AllByRecursion}
use Rattle.bean_grammar.specs.declared.mark.Mark.{Mark}
use Rattle.bean_directives.specs.declared.directive.Directive as directives
use Rattle.bean_directives.specs.declared.directive.DirectiveKind as kinds
use Rattle.bean_directives.specs.declared.directive.DirectiveKind.TheVariants as kind
use Rattle.bean_directives.specs.declared.transaction.Transaction as transactions
use Rattle.bean_directives.specs.SmallPart.{most, IsShort, IsShortCurrency, IsShortMark, IsShortEntry}
use Rattle.bean_directives.specs.SmallPart.{IsSmallPosting}

pub record IsSmallTransaction (t : transactions.Transaction) : Type 0 where
  pub payee : IfSome t.payee IsShort
  pub narration : IsShort t.narration
  pub marks : AllByRecursion IsShortMark t.marks
  pub postings : AllByRecursion IsSmallPosting t.postings
  pub few_postings : length t.postings ≤ most

-- what the books have of a directive
abbrev pub IsSmallKind : kinds.DirectiveKind → Type 0
IsSmallKind (kind.Transaction t) = IsSmallTransaction t
IsSmallKind (kind.Pad p) = IsShort p.account × IsShort p.source
IsSmallKind (kind.Balance b) = IsShort b.account × IsShortCurrency b.currency
IsSmallKind (kind.Open o) = IsShort o.account × AllByRecursion IsShortCurrency o.currencies
IsSmallKind (kind.Close c) = IsShort c.account
IsSmallKind k = Unit {0}

-- the tags and links of a transaction, its own and those that were pushed to it
abbrev pub marks_of : kinds.DirectiveKind → List Mark
marks_of (kind.Transaction t) = t.marks
marks_of k = []

pub record IsSmallDirective (d : directives.Directive) : Type 0 where
  pub line : d.line ≤ most
  pub metadata : AllByRecursion IsShortEntry d.metadata
  pub kind : IsSmallKind d.kind
  pub few_marks : length (marks_of d.kind) ≤ most
