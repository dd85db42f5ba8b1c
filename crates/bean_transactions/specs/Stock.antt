-- What is left in an account.
use Rattle.std.specs.Prelude.{◌^◌, ℕ, List}
use Rattle.bean_reductions.specs.After.{AreSmall, after}
use Rattle.bean_lots.specs.declared.lot.Position.{Position}
use Rattle.bean_reductions.specs.Rest.{HasAllLeft}
use Rattle.bean_holdings.specs.LotsLeft.{AreLeft}
use Rattle.bean_holdings.specs.Rests.{rest_in}
use Rattle.bean_transactions.specs.declared.stock.Stock.{Stock}

abbrev pub rest_of : Stock → List Position
rest_of k = after k.held.now k.taken.now

pub record IsSmallStock (k : Stock) : Type 0 where
  pub held : AreSmall (2 ^ 125) k.held.now
  pub taken : AreSmall (2 ^ 125) k.taken.now

-- it is known which lots are left, and where
pub record KnowsLots (k : Stock) (account : List ℕ) : Type 0 where
  pub left : AreLeft k.left.now account k.held.now k.taken.now
  pub rest : HasAllLeft k.taken.now (rest_in k.rests.now account k.held.now) k.held.now
