-- What accounts hold, by what was booked.
use Rattle.std.specs.Prelude.{ℕ, Bool, List, [], fold, filter}
use Rattle.std.specs.Option.{is_some}
use Rattle.std.specs.Str.{bytes_eq}
use Rattle.bean_base.specs.Counts.{at_8}
use Rattle.bean_lots.specs.Inventory.{added}
use Rattle.bean_lots.specs.declared.lot.Key.{Key}
use Rattle.bean_lots.specs.declared.lot.Position.{Position}
use Rattle.bean_holdings.specs.declared.posted.Posted.{Posted}

abbrev pub key_of : Posted → Key
key_of p = record { currency = p.units.currency; lot = p.lot }

abbrev pub is_on : List ℕ → Posted → Bool
is_on account p = bytes_eq p.account account

-- what postings come to, one after the other
abbrev pub sum_of : List Posted → List Position
sum_of ps = fold (λ es p. added es (key_of p) (at_8 p.units.number)) [] ps

-- what an account holds: the sum of its postings
abbrev pub held : List ℕ → List Posted → List Position
held account ps = sum_of (filter (is_on account) ps)

-- those of positions that are lots
abbrev pub lots_in : List Position → List Position
lots_in es = filter (λ e. is_some e.key.lot) es
