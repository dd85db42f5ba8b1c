use Rattle.std.proofs.Common.{◌≡◌, ◌++◌, ℕ, List, reverse}
use Rattle.std.specs.List.{AllByRecursion}
use Rattle.bean_reductions.specs.declared.reduction.Method.{Method}
use Rattle.bean_accounts.specs.Log.{is_kept}
use Rattle.bean_accounts.specs.Methods.{method_in}
use Rattle.bean_replay.specs.Booker.{IsLed}
use Rattle.bean_replay.specs.Stand.{Stand}
use Rattle.bean_replay.specs.Watched.{IsWatched}
use Rattle.bean_replay.proofs.booked.take_all.Given as goal

abbrev pub invariant-loop-placed : goal.invariant-loop-placed
invariant-loop-placed g l = record {
  whole : l.yielded ++ l.placed-iterator.rest.items ≡ l.fn.directives.items;
  watched : AllByRecursion (IsWatched l.booker.watched) l.placed-iterator.rest.items;
  asked : is_kept l.booker.faults ≡ is_kept l.fn.asked;
  leads : (m : List ℕ → Method) → ((a : List ℕ) → m a ≡ method_in l.fn.methods a)
      → (st : Stand) × IsLed g.S.Bookings m (reverse l.yielded) st l.booker l.bookings;
}
