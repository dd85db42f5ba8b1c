-- What a transaction may still take of what an account held.
use Rattle.std.specs.Prelude.{ℕ, List, unwrap_or}
use Rattle.std.specs.Str.{bytes_eq}
use Rattle.indexmap.specs.IndexMap.{get}
use Rattle.bean_lots.specs.declared.lot.Position.{Position}
use Rattle.bean_holdings.specs.declared.rests.Rests.{Rests}

-- the rest that is noted of an account, or else all that it held
abbrev pub rest_in : Rests → List ℕ → List Position → List Position
rest_in r a held = unwrap_or (get bytes_eq r.rests a) held
