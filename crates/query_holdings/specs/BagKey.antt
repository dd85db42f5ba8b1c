-- What tables hash of the keys in bags.
use Rattle.std.specs.Prelude.{[], ◌++◌, Option, Some, None}
use Rattle.std.specs.Hash.{HashWrites}
use Rattle.std.specs.Hash as fed
use Rattle.bean_base.specs.Day.{number}
use Rattle.bean_lots.specs.declared.lot.Key.{Key}
use Rattle.bean_lots.specs.declared.lot.Lot.{Lot}

-- of a lot its cost and its day, which few have in common
abbrev pub lot_fed : Option Lot → HashWrites
lot_fed None = []
lot_fed (Some lot) = fed.i128 lot.cost.count ++ fed.i32 (number lot.day)

abbrev pub key_fed : Key → HashWrites
key_fed key = fed.str key.currency ++ lot_fed key.lot
