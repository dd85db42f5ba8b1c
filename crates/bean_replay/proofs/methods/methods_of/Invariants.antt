use Rattle.std.proofs.Common.{◌≡◌, ℕ, ◌-◌, List, drop, length}
use Rattle.bean_replay.specs.Method as spec
use Rattle.bean_accounts.specs.Methods.{method_in}
use Rattle.bean_replay.proofs.methods.methods_of.Given as goal

-- what the directives say that were taken, which are the last
abbrev pub invariant-loop-taken : goal.invariant-loop-taken
invariant-loop-taken l =
    (a : List ℕ)
    → method_in l.methods a
    ≡ spec.method_of l.otherwise (drop (length l.directives - l.taken) l.directives) a
