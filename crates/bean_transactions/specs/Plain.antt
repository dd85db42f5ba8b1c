-- Transactions that are booked as they are written.
use Rattle.std.specs.Prelude.{◌≡◌, ◌≤◌, ◌&&◌, ℕ, Bool, true, false, List, [], ◌∷◌, ◌++◌, None, length}
use Rattle.std.specs.Prelude.{reverse, take}
use Rattle.std.specs.List.{AllByRecursion, list_all}
use Rattle.bean_interp.specs.Residual.{IsLight}
use Rattle.bean_postings.specs.Posting.{has_number}
use Rattle.bean_postings.specs.declared.cost.Cost.{Cost}
use Rattle.bean_postings.specs.declared.cost.Cost.TheVariants as cost
use Rattle.bean_postings.specs.declared.posting.Posting as postings
use Rattle.bean_postings.specs.declared.price.Price.TheVariants as price
use Rattle.bean_postings.specs.declared.posting.Units.TheVariants.{Amount, Missing}
use Rattle.bean_holdings.specs.declared.posted.Posted.{Posted}
use Rattle.bean_transactions.specs.Tried.{booked_legs, is_outside}

abbrev pub is_absent : Cost → Bool
is_absent cost.Absent = true
is_absent (cost.Lot parts) = false
is_absent cost.OutsideProfile = false

-- an amount is written, and no cost
abbrev pub is_plain : postings.Posting → Bool
is_plain p = has_number p.units && is_absent p.details.cost

-- a plain posting, the i-th of its transaction, as it is booked
pub record IsAsWritten (i : ℕ) (p : postings.Posting) (q : Posted) : Type 0 where
  pub units_are : p.units ≡ Amount q.units
  pub cost_is : p.details.cost ≡ cost.Absent
  pub account_is : q.account ≡ p.account
  pub lot_is : q.lot ≡ None
  pub written_is : q.written ≡ i

-- plain postings, the latest of which stands first, as they are booked
abbrev pub AreAsWritten : List postings.Posting → List Posted → Type 0
AreAsWritten [] qs = qs ≡ []
AreAsWritten (p ∷ ps) qs =
    (earlier : List Posted) × (q : Posted) × AreAsWritten ps earlier × IsAsWritten (length ps) p q
    × (qs ≡ earlier ++ q ∷ [])

-- an amount is written, and neither a cost nor a price
pub record IsBare (p : postings.Posting) : Type 0 where
  pub number : has_number p.units ≡ true
  pub cost : p.details.cost ≡ cost.Absent
  pub price : p.details.price ≡ price.Absent

-- the first of the postings, as many as these, are bare, and these are those as they are booked
pub record IsBareFront (ps : List postings.Posting) (qs : List Posted) : Type 0 where
  pub few : length qs ≤ length ps
  pub written : AreAsWritten (reverse (take (length qs) ps)) qs
  pub inside : is_outside (take (length qs) ps) ≡ false
  pub light : AllByRecursion IsLight (booked_legs ps qs)

-- all but the last are those, which are plain, and that one lacks its amount
pub record IsLackingBehind (front ps : List postings.Posting) : Type 0 where
  pub last : postings.Posting
  pub are : ps ≡ front ++ last ∷ []
  pub plain : list_all is_plain front ≡ true
  pub lacks : last.units ≡ Missing

-- all but the last are booked as they are written, as these, and that one lacks its amount
pub record IsLackingLast (ps : List postings.Posting) (qs : List Posted) : Type 0 where
  pub front : List postings.Posting
  pub last : postings.Posting
  pub are : ps ≡ front ++ last ∷ []
  pub written : AreAsWritten (reverse front) qs
  pub lacks : last.units ≡ Missing
