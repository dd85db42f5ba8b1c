-- Which calls of an output are refusals, and how they are counted.
use Rattle.std.specs.Prelude.{ℕ, ◌+◌, ◌%◌, ◌^◌, Bool, true, ◌&&◌, nat_eq, nat_lt, if◌then◌else◌}
use Rattle.std.specs.Prelude.{List, length, Result, Ok, Err}
use Rattle.outputs.specs.declared.output.NotTaken.{NotTaken}

-- a call at these bytes failed, or took none of some
abbrev pub is_refused : List ℕ → Result ℕ NotTaken → Bool
is_refused bytes (Ok n) = nat_lt 0 (length bytes) && nat_eq n 0
is_refused bytes (Err e) = true

-- one more behind a refusal; the count goes round at 2^64
abbrev pub refusals_behind : ℕ → Bool → ℕ
refusals_behind n refused = if refused then (n + 1) % 2 ^ 64 else n
