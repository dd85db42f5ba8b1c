-- What is known of the lots that a transaction leaves.
use Rattle.std.specs.Prelude.{◌≡◌, ◌&&◌, ℕ, Bool, List, unwrap_or}
use Rattle.std.specs.Str.{bytes_eq}
use Rattle.indexmap.specs.IndexMap.{get}
use Rattle.bean_lots.specs.Inventory.{long_lots, short_lots}
use Rattle.bean_inventories.specs.declared.inventory.signs.Signs.{Signs}
use Rattle.bean_lots.specs.declared.lot.Position.{Position}
use Rattle.bean_reductions.specs.After.{after}
use Rattle.bean_holdings.specs.declared.lots_left.LotsLeft.{LotsLeft}
use Rattle.bean_holdings.specs.declared.lots_left.TakenFrom.{TakenFrom}

abbrev pub same_place : List ℕ → List ℕ → List ℕ → List ℕ → Bool
same_place account currency a c = bytes_eq account a && bytes_eq currency c

abbrev pub same_from : TakenFrom → TakenFrom → Bool
same_from p q = same_place p.account p.currency q.account q.currency

-- the signs of the lots of a currency
abbrev pub signs_in : List ℕ → List Position → Signs
signs_in c es = record { long = long_lots c es; short = short_lots c es }

-- those that are noted of an account, or else those of what it held
abbrev pub left_in : LotsLeft → List ℕ → List ℕ → List Position → Signs
left_in l a c held =
    unwrap_or (get same_from l.signs (record { account = a; currency = c })) (signs_in c held)

-- of each currency it is known which lots are left in an account
pub record AreLeft (l : LotsLeft) (a : List ℕ) (held taken : List Position) : Type 0 where
  pub each : (c : List ℕ) → left_in l a c held ≡ signs_in c (after held taken)
