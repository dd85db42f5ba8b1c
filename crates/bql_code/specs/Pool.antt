-- The pool of a program: its constants in order of first use, equal ones once.
use Rattle.std.specs.Prelude.{ℕ, suc, Bool, false, ◌&&◌, ◌==◌, List, [], ◌∷◌, ◌++◌, nat_eq}
use Rattle.std.specs.Prelude.{if◌then◌else◌}
use Rattle.std.specs.Cmp.Lexicographic.{pointwise}
use Rattle.std.specs.List.{list_any}
use Rattle.std.specs.Ordering.{int_eq}
use Rattle.query_code.specs.declared.program.Constant.{Constant}
use Rattle.query_code.specs.declared.program.Constant.TheVariants as constants
use Rattle.query_code.specs.declared.program.Numbers.{Numbers}
use Rattle.query_values.specs.Choice.{same_day}
use Rattle.bql_code.specs.Core.{Load, constant, entry, Change, plainly, matching, some_matching}
use Rattle.bql_code.specs.Core.{among, Core, loading, changing, joining, both, either}

-- ---- equal constants

abbrev pub same_text : List ℕ → List ℕ → Bool
same_text = pointwise nat_eq

abbrev pub same_numbers : Numbers → Numbers → Bool
same_numbers ms ns = ms.places == ns.places && pointwise int_eq ms.counts ns.counts

-- of one kind, and the same; numbers by their counts and decimals
abbrev pub same_constant : Constant → Constant → Bool
same_constant (constants.Text a) (constants.Text b) = same_text a b
same_constant (constants.Number m) (constants.Number n) =
    m.places == n.places && int_eq m.count n.count
same_constant (constants.Day d) (constants.Day e) = same_day d e
same_constant (constants.Pattern a) (constants.Pattern b) = same_text a b
same_constant (constants.Texts ss) (constants.Texts ts) = pointwise same_text ss ts
same_constant (constants.Numbers ms) (constants.Numbers ns) = same_numbers ms ns
same_constant (constants.Days ds) (constants.Days es) = pointwise same_day ds es
same_constant c d = false

-- ---- which are used

abbrev pub loaded : Load → List Constant
loaded (constant c) = c ∷ []
loaded (entry e key) = constants.Text key ∷ []
loaded l = []

abbrev pub changed : Change → List Constant
changed (plainly op) = []
changed (matching pattern) = constants.Pattern pattern ∷ []
changed (some_matching pattern) = constants.Pattern pattern ∷ []
changed (among c) = c ∷ []

-- in the order of the instructions
abbrev pub used : Core → List Constant
used (loading l) = loaded l
used (changing op x) = used x ++ changed op
used (joining op x y) = used x ++ used y
used (both x y) = used x ++ used y
used (either x y) = used x ++ used y

abbrev pub all_used : List Core → List Constant
all_used [] = []
all_used (x ∷ xs) = used x ++ all_used xs

-- ---- where they stand

abbrev pub pooled : List Constant → List Constant → List Constant
pooled pool [] = pool
pooled pool (c ∷ cs) =
    pooled (if list_any (same_constant c) pool then pool else pool ++ c ∷ []) cs

-- the index of the first that is equal
abbrev pub index_in : List Constant → Constant → ℕ
index_in [] c = 0
index_in (d ∷ ds) c = if same_constant c d then 0 else suc (index_in ds c)
