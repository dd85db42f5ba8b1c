use Rattle.std.proofs.Common.{ap, unwrap_or, ◌∙◌}
use Rattle.std.specs.Cmp.Lexicographic.{slice_cmp}
use Rattle.std.specs.FinMap.{get-empty}
use Rattle.std.specs.Ordering.{nat_cmp}
use Rattle.posting_table.specs.Decimals.{decimals_of}
use Rattle.posting_table.specs.Ledger.{Ledger}
use Rattle.bean_book.proofs.ledger.LedgerRows.new.Goals as goal

pub returns : goal.returns
returns c = λ details. record {
  rows = ap (λ (l : Ledger). l.rows) c.new-2.ensures;
  decimals = λ name. ap (λ (l : Ledger). decimals_of l.decimals name) c.new-2.ensures
      ∙ ap (λ o. unwrap_or o 0) (get-empty (slice_cmp nat_cmp) name);
  places = c.new-3.ensures.items;
}
