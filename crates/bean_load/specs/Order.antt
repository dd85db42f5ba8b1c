-- The order in which the directives of all texts are taken.
use Rattle.std.specs.Prelude.{◌≡◌, ℕ, ℤ, ◌+ℤ◌, ◌*ℤ◌, pos, Bool, true, false, List}
use Rattle.std.specs.Ordering.{int_cmp, nat_cmp, ordering_then}
use Rattle.std.specs.declared.cmp.Ordering.{Ordering}
use Rattle.theory.specs.Arrangement.{IsArrangedByKey}
use Rattle.bean_base.specs.Day.{number}
use Rattle.bean_directives.specs.declared.directive.Directive.{Directive}
use Rattle.bean_directives.specs.declared.undated.Setting.{Setting}
use Rattle.bean_load.specs.Rank.{rank_number, rank_of}
use Rattle.bean_loaded.specs.declared.placed.Placed.{Placed}

-- the number of a day, and a rank
abbrev pub DayKey : Type 0
DayKey = ℤ × ℕ

abbrev pub day_key : Directive → DayKey
day_key d = (number d.day, rank_number (rank_of d.kind))

abbrev pub day_key_cmp : DayKey → DayKey → Ordering
day_key_cmp a b = ordering_then (int_cmp a.0 b.0) (nat_cmp a.1 b.1)

-- day and rank, and the place in reading order
abbrev pub Key : Type 0
Key = DayKey × ℕ

abbrev pub key_of : Placed Directive → Key
key_of p = (day_key p.item, p.part)

-- day and rank as one number, which ascends by day and then by rank, and the place in reading order
abbrev pub turn_of : Placed Directive → ℤ × ℕ
turn_of p =
    (number p.item.day *ℤ pos 8 +ℤ pos (rank_number (rank_of p.item.kind)), p.part)

-- by day, then by rank, then by place
abbrev pub key_cmp : Key → Key → Ordering
key_cmp a b = ordering_then (day_key_cmp a.0 b.0) (nat_cmp a.1 b.1)

-- ys has the directives of xs by day, rank and part of the ledger, and those that tie in their
-- order
abbrev pub AreInOrder : List (Placed Directive) → List (Placed Directive) → Type 0
AreInOrder = IsArrangedByKey key_of key_cmp

-- they are in order, or else as they were
abbrev pub AreInOrderIf : Bool → List (Placed Directive) → List (Placed Directive) → Type 0
AreInOrderIf true xs ys = AreInOrder xs ys
AreInOrderIf false xs ys = ys ≡ xs

-- ys has the settings of xs by their parts of the ledger, and those of one part in their order
abbrev pub AreSettingsInOrder : List (Placed Setting) → List (Placed Setting) → Type 0
AreSettingsInOrder = IsArrangedByKey (λ s. s.part) nat_cmp
