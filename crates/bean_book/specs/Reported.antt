-- Faults in the order in which they are reported.
use Rattle.std.specs.Prelude.{ℕ, List}
use Rattle.std.specs.Ordering.{nat_cmp, on, ordering_then}
use Rattle.std.specs.declared.cmp.Ordering.{Ordering}
use Rattle.bean_base.specs.Fault.{number_of}
use Rattle.bean_base.specs.declared.fault.Fault.{Fault}
use Rattle.theory.specs.Once.{once_in_order}

-- the file and the line, and the number
abbrev pub Key : Type 0
Key = (ℕ × ℕ) × ℕ

abbrev pub key_of : Fault → Key
key_of f = ((f.place.file, f.place.line), number_of f.kind)

abbrev pub line_cmp : ℕ × ℕ → ℕ × ℕ → Ordering
line_cmp a b = ordering_then (nat_cmp a.0 b.0) (nat_cmp a.1 b.1)

-- by file, then by line, then by number
abbrev pub key_cmp : Key → Key → Ordering
key_cmp a b = ordering_then (line_cmp a.0 b.0) (nat_cmp a.1 b.1)

abbrev pub fault_cmp : Fault → Fault → Ordering
fault_cmp = on key_of key_cmp

-- each fault once, in that order
abbrev pub reported : List Fault → List Fault
reported fs = once_in_order fault_cmp fs
