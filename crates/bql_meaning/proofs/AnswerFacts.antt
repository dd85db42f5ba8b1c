-- A query has one answer.
use Rattle.std.proofs.Common.{◌≡◌, List}
use Rattle.limits.specs.declared.bounds.Bounds.{Bounds}
use Rattle.bql_parser.specs.Asked.{Asked}
use Rattle.query_rows.proofs.FinalRowsFacts.{are_one, final_of, is_final}
use Rattle.query_rows.specs.Row.{Row}
use Rattle.query_values.specs.declared.value.Value.{Value}
use Rattle.bql_meaning.specs.Answer.{IsAnswer, finish_of, rows_of}

-- the answer, which can be computed
abbrev pub answer_of : Bounds → Asked → List Row → List (List Value)
answer_of b q rows = final_of (finish_of q) (rows_of b q rows)

pub are_there : (b : Bounds) (q : Asked) (rows : List Row)
    → (final : List (List Value)) × IsAnswer b q rows final
are_there b q rows = (answer_of b q rows, is_final (finish_of q) (rows_of b q rows))

pub one_answer : (b : Bounds) (q : Asked) (rows : List Row) (x y : List (List Value))
    → IsAnswer b q rows x → IsAnswer b q rows y → x ≡ y
one_answer b q rows = are_one (finish_of q) (rows_of b q rows)
