use Rattle.std.proofs.Common.{◌≡◌, ◌++◌, Bool, true, false, [], arith, refl}
use Rattle.bean_accounts.proofs.LogFacts.{none_asked}
use Rattle.bean_replay.specs.Stand.{steps_of_postings}
use Rattle.bean_replay.specs.Watched.{unseen_of}
use Rattle.bean_replay.proofs.booker.Booker.new.Goals as goal

-- before any posting none is unseen
steps : (watched : Bool) → [] ≡ steps_of_postings (unseen_of watched []) ++ []
steps true = refl
steps false = refl

pub returns-clause-stands : goal.returns-clause-stands
returns-clause-stands c = λ m methods. record {
  methods = methods;
  accounts = c.new.ensures;
  held = record { each = c.new-2.ensures.nothing };
  count = c.new-2.ensures.additions;
  seen = [];
  follows = c.new-5.ensures.follows;
  steps_are = steps c.args.watched;
  faults_are = none_asked c.args.asked.now c.emptied.result c.emptied.ensures;
  room = record {
    bounded = c.new-2.ensures.bounded;
    near = c.new-5.ensures.bounded;
    few = let none = c.new-2.ensures.additions in omega (arith, none);
    steps = let none = c.new-5.ensures.steps in omega (arith, none);
  };
}
