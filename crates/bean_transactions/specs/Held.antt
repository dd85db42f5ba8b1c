-- What the lines of a transaction take, and what they leave.
use Rattle.std.specs.Prelude.{ℕ, List, [], ◌∷◌}
use Rattle.bean_holdings.specs.Held.{held}
use Rattle.bean_holdings.specs.declared.posted.Posted.{Posted}
use Rattle.bean_lots.specs.declared.lot.Position.{Position}
use Rattle.bean_reductions.specs.After.{after}
use Rattle.bean_transactions.specs.declared.line.Line.{Line}
use Rattle.bean_transactions.specs.declared.line.Line.TheVariants as line

-- the takes among lines
abbrev pub takes_in : List Line → List Posted
takes_in [] = []
takes_in (line.Posted p ∷ ls) = takes_in ls
takes_in (line.Take p ∷ ls) = p ∷ takes_in ls
takes_in (line.MissingNumber a c i ∷ ls) = takes_in ls
takes_in (line.MissingAmount a i ∷ ls) = takes_in ls

-- what a reduction sees: what the account held before the transaction less what its earlier
-- postings took
abbrev pub left : List ℕ → List Posted → List Line → List Position
left account before ls = after (held account before) (held account (takes_in ls))
