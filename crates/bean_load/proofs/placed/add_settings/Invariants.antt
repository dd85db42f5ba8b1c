use Rattle.std.proofs.Common.{◌≡◌, ◌++◌, map}
use Rattle.bean_load.specs.Placed.{placed_setting}
use Rattle.bean_load.proofs.placed.add_settings.Given as goal

abbrev pub invariant-loop-setting : goal.invariant-loop-setting
invariant-loop-setting l =
    l.out.items ≡ l.fn.out.items ++ map (placed_setting l.file l.own) l.yielded
