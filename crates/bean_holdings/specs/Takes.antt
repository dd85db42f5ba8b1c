-- What the takes of a transaction come to.
use Rattle.std.specs.Prelude.{◌≡◌, ℕ, List, [], take}
use Rattle.bean_reductions.specs.Rest.{HasAllLeft}
use Rattle.bean_holdings.specs.Held.{held}
use Rattle.bean_holdings.specs.Holdings.{holding}
use Rattle.bean_holdings.specs.Inventories.{inventory_in}
use Rattle.bean_holdings.specs.LotsLeft.{AreLeft}
use Rattle.bean_holdings.specs.Parts.{AreParts}
use Rattle.bean_holdings.specs.Rests.{rest_in}
use Rattle.bean_holdings.specs.declared.holdings.Holdings.{Holdings}
use Rattle.bean_holdings.specs.declared.posted.Posted.{Posted}
use Rattle.bean_holdings.specs.declared.takes.Takes.{Takes}

-- however many of the takes are made, what they come to is a part of what accounts hold
pub record AreWithin (h : Holdings) (ps : List Posted) : Type 0 where
  pub first : (n : ℕ) (a : List ℕ) → AreParts (holding h a) (held a (take n ps))

-- what is taken is what these takes come to, which is there to be taken, it is known which lots are
-- left of what was held and where they stand, and nothing is nothing
pub record HasTaken (h : Holdings) (ps : List Posted) (ts : Takes) : Type 0 where
  pub nothing : ts.nothing.now ≡ []
  pub takes : (a : List ℕ) → inventory_in ts.taken a ≡ held a ps
  pub within : AreWithin h ps
  pub left : (a : List ℕ) → AreLeft ts.left a (holding h a) (inventory_in ts.taken a)
  pub rests : (a : List ℕ)
      → HasAllLeft (inventory_in ts.taken a) (rest_in ts.rests a (holding h a)) (holding h a)
