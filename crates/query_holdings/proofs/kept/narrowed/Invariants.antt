use Rattle.std.proofs.Common.{◌≡◌, All, length, take}
use Rattle.std.specs.List.{AllByRecursion}
use Rattle.std.specs.Map.{values_of}
use Rattle.query_holdings.specs.Kept.{MayTurn}
use Rattle.query_holdings.proofs.KeptFacts.{IsFull}
use Rattle.query_holdings.proofs.kept.narrowed.Given as goal

abbrev pub invariant-loop-place : goal.invariant-loop-place
invariant-loop-place l = record {
  len : length l.counts ≡ 5;
  same : take l.place l.counts ≡ values_of (take l.place l.slots);
  full : AllByRecursion IsFull (values_of (take l.place l.slots));
  turn : All MayTurn l.counts;
}
