use Rattle.std.proofs.Common.{◌≡◌, ◌≤◌, ◌++◌, drop, map}
use Rattle.std.specs.Int.RustNames.{unsigned_abs}
use Rattle.bean_reductions.specs.Take.{signed_takes}
use Rattle.bean_reductions.specs.Filling.{filled}
use Rattle.bean_reductions.specs.Take.{take_counts}
use Rattle.bean_reductions.proofs.reduction.takes.fill.Given as goal

-- the takes so far and those of the rest are those of all
abbrev pub invariant-loop-c : goal.invariant-loop-c
invariant-loop-c l = record {
  small : l.rest ≤ unsigned_abs l.want;
  told : map take_counts l.takes.items
      ++ signed_takes l.want (filled (drop l.c-index l.queue) l.rest)
      ≡ signed_takes l.want (filled l.queue (unsigned_abs l.want));
}
