use Rattle.std.proofs.Common.{◌≡◌, All, length, map, neg_ℤ, take}
use Rattle.query_holdings.specs.Kept.{MayTurn}
use Rattle.query_holdings.proofs.kept.turned.Given as goal

abbrev pub invariant-loop-place : goal.invariant-loop-place
invariant-loop-place l = record {
  len : length l.turned ≡ 5;
  same : take l.place l.turned ≡ map neg_ℤ (take l.place l.counts);
  turn : All MayTurn l.turned;
}
