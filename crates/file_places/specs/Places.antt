-- What stands in the file of a program from a part of its code on.
use Rattle.std.specs.Prelude.{◌≡◌, ℕ, ◌≤◌, List, ◌++◌, length, drop}
use Rattle.query_code.specs.ByteForm.{all_written}
use Rattle.query_code.specs.InstructionForm.{instruction, word}
use Rattle.query_code.specs.QueryFile.{constant}
use Rattle.query_code.specs.declared.program.Code.{Code}

-- from the n-th instruction of a section on, and behind its last one what follows the section

abbrev pub from_last : Code → ℕ → List ℕ
from_last c n = all_written instruction (drop n c.last)

abbrev pub from_row : Code → ℕ → List ℕ
from_row c n =
    all_written instruction (drop n c.row) ++ (word.written (length c.last) ++ from_last c 0)

abbrev pub from_filter : Code → ℕ → List ℕ
from_filter c n =
    all_written instruction (drop n c.filter) ++ (word.written (length c.row) ++ from_row c 0)

-- from the n-th entry of the pool on
abbrev pub from_pool : Code → ℕ → List ℕ
from_pool c n =
    all_written constant (drop n c.pool) ++ (word.written (length c.filter) ++ from_filter c 0)

-- behind the first so many bytes there are these, up to the end
pub record IsPlace (bytes rest : List ℕ) (place : ℕ) : Type 0 where
  pub within : place ≤ length bytes
  pub rest_is : drop place bytes ≡ rest
