-- A few rows, computed.
use Rattle.std.proofs.Common.{◌≡◌, ℕ, pos, Bool, true, false, List, [], ◌∷◌, Some, None, codes}
use Rattle.std.proofs.Common.{refl}
use Rattle.query_values.specs.declared.value.Value.{Value}
use Rattle.query_values.specs.declared.value.Value.TheVariants.{Null, Number, Text}
use Rattle.query_rows.specs.FinalRows.{Ranked, Finish, comes_before}
use Rattle.query_rows.specs.Grouping.{groups_of}
use Rattle.query_rows.specs.Row.{MetaText, Row, any_text}
use Rattle.query_rows.proofs.FinalRowsFacts.{final_of}

-- ---- metadata

abbrev entry : List ℕ → List ℕ → MetaText
entry key text = record { key = key; text = Some text }

abbrev empty_entry : List ℕ → MetaText
empty_entry key = record { key = key; text = None }

abbrev with_entries : List MetaText → List MetaText → Row
with_entries own others =
    record { cell = λ c. Null; posting_entries = own; transaction_entries = others }

own_text :
    any_text (codes "k")
    (with_entries (entry (codes "k") (codes "a") ∷ []) (entry (codes "k") (codes "b") ∷ []))
    ≡ Text (codes "a")
own_text = refl

-- the first entry of a key stands, also where nothing is behind it
first_entry :
    any_text (codes "k")
    (with_entries (empty_entry (codes "k") ∷ entry (codes "k") (codes "a") ∷ [])
    (entry (codes "k") (codes "b") ∷ [])) ≡ Text (codes "b")
first_entry = refl

-- ---- groups

abbrev number : ℕ → Value
number n = Number 0 (pos n)

-- in order of first appearance, told by value
grouped :
    groups_of (λ (x : Value). x ∷ [])
    (number 2 ∷ number 1 ∷ Number 1 (pos 20) ∷ Null ∷ Null ∷ [])
    ≡ (number 2 ∷ Number 1 (pos 20) ∷ []) ∷ (number 1 ∷ []) ∷ (Null ∷ Null ∷ []) ∷ []
grouped = refl

-- ---- final rows

abbrev finish : Bool → Finish
finish descending =
    record { is_descending = descending; is_distinct = true; limit = None }

-- a row that shows the first of the values by which it is ordered
abbrev pair : Value → Value → Ranked
pair x y = record { shown = x ∷ []; ranks = x ∷ y ∷ [] }

first_decides :
    comes_before (finish false) (pair (number 1) (number 9)) (pair (number 2) (number 0)) ≡ true
first_decides = refl

second_decides :
    comes_before (finish true) (pair (number 1) (number 9)) (pair (number 1) (number 0)) ≡ true
second_decides = refl

null_is_last :
    comes_before (finish true) (pair (number 1) (number 0)) (pair Null Null) ≡ true
null_is_last = refl

-- rows that show the same are one, whatever they are ordered by
kept_once :
    final_of (finish true)
    (pair (number 1) (number 7) ∷ pair (number 2) (number 0) ∷ pair (number 1) (number 9) ∷ [])
    ≡ (number 2 ∷ []) ∷ (number 1 ∷ []) ∷ []
kept_once = refl

at_most :
    final_of (record { is_descending = false; is_distinct = false; limit = Some 2 })
    (pair (number 3) Null ∷ pair Null Null ∷ pair (number 1) Null ∷ [])
    ≡ (Null ∷ []) ∷ (number 1 ∷ []) ∷ []
at_most = refl
