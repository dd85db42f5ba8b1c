use Rattle.std.proofs.Common.{◌≡◌, ◌+◌, ◌++◌, List, take}
use Rattle.std.specs.List.{flat_map}
use Rattle.bean_accounts.specs.Kept.{IsKept}
use Rattle.bean_accounts.specs.Log.{with_found}
use Rattle.bean_accounts.specs.declared.step.Step as lives
use Rattle.bean_holdings.specs.Holdings.{AreHeld, IsBounded, additions_in}
use Rattle.bean_holdings.specs.declared.posted.Posted.{Posted}
use Rattle.bean_replay.specs.Stand as spec
use Rattle.bean_replay.proofs.postings.book_postings.Given as goal

abbrev pub invariant-loop-index : goal.invariant-loop-index
invariant-loop-index l = record {
  posted : l.posted ≡ l.initial.posted;
  kept : (past : List lives.Step) → IsKept past l.initial.accounts → IsKept past l.accounts;
  faults : (past : List lives.Step) → IsKept past l.initial.accounts
      → l.faults
      ≡ with_found (flat_map (spec.posted_faults past l.at l.postings) (take l.index l.initial.posted))
      l.initial.faults;
  bounded : IsBounded l.holdings;
  additions : additions_in l.holdings ≡ additions_in l.initial.holdings + l.index;
  held : (ps : List Posted) → AreHeld ps l.initial.holdings
      → AreHeld (ps ++ take l.index l.initial.posted) l.holdings;
}
