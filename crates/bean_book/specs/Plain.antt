-- Booked postings that have nothing of their own but what they add to their accounts, and
-- transactions that have nothing of what few have.
use Rattle.std.specs.Prelude.{◌≡◌, ℕ, List, [], Option, None}
use Rattle.bean_holdings.specs.declared.posted.Posted.{Posted}
use Rattle.bean_postings.specs.Details.{IsLineAlone}
use Rattle.bean_postings.specs.declared.posting.Posting.{Posting}
use Rattle.bean_replay.specs.declared.written.WrittenParts.{WrittenParts as Written}
use Rattle.bean_book.specs.Details.{told}
use Rattle.bean_book.specs.declared.details.Details.{Details}

-- nothing is written beside the units, and they are held without a lot
pub record IsPlain (w : Posting) (p : Posted) : Type 0 where
  pub alone : IsLineAlone w.details
  pub held : p.lot ≡ None

-- no marks and no metadata that are told, and these are the payee and the narration
pub record IsPlainEntry (details : Details) (w : Written) (who : Option (List ℕ)) (what : List ℕ)
    : Type 0 where
  pub payee : who ≡ w.transaction.payee
  pub narration : what ≡ w.transaction.narration
  pub marks : told details w.transaction.marks ≡ []
  pub metadata : told details w.metadata ≡ []
