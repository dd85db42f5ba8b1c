-- What the code of expressions leaves.
use Rattle.std.specs.Prelude.{◌≡◌, List, [], ◌∷◌, reverse, Some, option_map}
use Rattle.bql_code.specs.Code.{code, all_code}
use Rattle.bql_code.specs.Core.{Core}
use Rattle.plain_machine.specs.Loading.{Loads, value_acts}
use Rattle.plain_machine.specs.SectionRun.{left_by}
use Rattle.query_code.specs.declared.program.Constant.{Constant}
use Rattle.query_values.specs.declared.value.Value.{Value}
use Rattle.bql_compiler.specs.CoreValue.{core_value, core_values}

-- the code of an expression leaves its value, or nothing
abbrev pub CodeLeavesItsValue : Type 0
CodeLeavesItsValue =
    (pool : List Constant) (l : Loads) (x : Core) (stack : List Value)
    → left_by (code pool 0 x) (value_acts pool l) ≡ Some stack
    → option_map (λ v. v ∷ []) (core_value pool l x) ≡ Some stack

-- and that of some one behind the other their values, the last one on top, or nothing
abbrev pub AllCodeLeavesItsValues : Type 0
AllCodeLeavesItsValues =
    (pool : List Constant) (l : Loads) (xs : List Core) (stack : List Value)
    → left_by (all_code pool 0 xs) (value_acts pool l) ≡ Some stack
    → option_map reverse (core_values pool l xs) ≡ Some stack
