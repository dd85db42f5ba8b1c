-- That two books say the same.
use Rattle.std.specs.Prelude.{◌≡◌, ℕ, List}
use Rattle.posting_table.specs.Decimals.{decimals_of}
use Rattle.bean_book.specs.Book.{Book}

-- the same postings, decimals and faults
pub record AreAlike (a b : Book) : Type 0 where
  pub rows : a.ledger.rows ≡ b.ledger.rows
  pub decimals : (currency : List ℕ)
      → decimals_of a.ledger.decimals currency ≡ decimals_of b.ledger.decimals currency
  pub faults : a.faults ≡ b.faults
