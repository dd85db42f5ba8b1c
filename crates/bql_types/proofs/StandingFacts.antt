-- What a JOURNAL and a BALANCES stand for has shapes within all bounds.
use Rattle.std.proofs.Common.{◌≡◌, ℕ, ◌+◌, ◌*◌, ◌^◌, ◌≤◌, ◌&&◌, ◌||◌, Bool, true, false, max, List}
use Rattle.std.proofs.Common.{[]}
use Rattle.std.proofs.Common.{◌++◌, ◌∷◌, Option, Some, None, Ok, Err, refl, ap, ◌∙◌, arith}
use Rattle.std.specs.Prelude.{nat_lt, if◌then◌else◌}
use Rattle.std.proofs.lemmas.Bool.{lt-ltb}
use Rattle.std.proofs.Math.Nat.{mul-le-mul_left, mul-le-mul_right}
use Rattle.bean_base.proofs.PowerFacts.{pow_le}
use Rattle.limits.specs.declared.bounds.Bounds.{Bounds}
use Rattle.bql_parser.specs.declared.standing.Valuation.{Valuation}
use Rattle.bql_parser.specs.declared.standing.Valuation.TheVariants as valuation
use Rattle.limits.specs.declared.counts.TheConstants.{MOST_POSTINGS}
use Rattle.query_rows.proofs.BoundFacts.{few_postings}
use Rattle.query_rows.specs.ColumnShape.{AreBounds, units_most, value_most}
use Rattle.bql_rules.specs.Rules.{of_one}
use Rattle.bql_tree.specs.Tree.{Tree, call_of}
use Rattle.query_terms.specs.declared.column.Column.TheVariants as column
use Rattle.bql_tree.specs.declared.function.Function.TheVariants as function
use Rattle.query_rows.specs.Shape.{is_held, fitting}
use Rattle.query_rows.specs.declared.shape.Misfit.TheVariants.{TooWide}
use Rattle.query_rows.specs.declared.shape.Shape.{Shape}
use Rattle.query_rows.specs.declared.shape.Shape.TheVariants.{Amount, Inventory}
use Rattle.bql_types.specs.Shaped.{given, shape_of, shape_causes, ruled, beside, operand}
use Rattle.bql_types.specs.Sought.{aggregates, misplaced, ungrouped, balances}
use Rattle.bql_parser.specs.Standing as standing
use Rattle.bql_parser.specs.Standing.{of_column, applied, valued, matching}
use Rattle.bql_types.specs.Laws.{JournalsAreTyped, BalancesAreTyped}
use Rattle.bql_types.specs.Typing.{filter_causes, filters_causes, each, Grouping}
use Rattle.bql_types.specs.Typing.{grouping_of, target_causes, shown_causes}
use Rattle.bql_types.specs.declared.cause.TypeCause.{TypeCause}
use Rattle.bql_types.proofs.LawFacts.{shapes_have_no_causes}

-- ---- how wide they are

units_narrow : (b : Bounds) → AreBounds b → units_most b * 10 ^ 8 ≤ 10 ^ 28
units_narrow b are =
    let wide = pow_le b.units_digits 20 are.units in
    let few : units_most b ≤ 10 ^ 20 = omega (arith, wide) in
    let most : units_most b * 10 ^ 8 ≤ 10 ^ 20 * 10 ^ 8 = mul-le-mul_right (10 ^ 8) few in
    omega (arith, most)

value_narrow : (b : Bounds) → AreBounds b → value_most b ≤ 10 ^ 28
value_narrow b are = let wide = pow_le b.value_digits 28 are.value in omega (arith, wide)

all_narrow : (n m : ℕ) → n ≤ MOST_POSTINGS → m ≤ 10 ^ 28 → n * m ≤ 10 ^ 35
all_narrow n m few small =
    let one : n * m ≤ n * 10 ^ 28 = mul-le-mul_left n small in
    let all : n * 10 ^ 28 ≤ MOST_POSTINGS * 10 ^ 28 = mul-le-mul_right (10 ^ 28) few in
    omega (arith, one, all)

units_alone : (u : ℕ) → u * 10 ^ 8 ≤ 10 ^ 28 → u ≤ 10 ^ 28
units_alone u h = omega (arith, h)

greater : (u w : ℕ) → u * 10 ^ 8 ≤ 10 ^ 28 → w ≤ 10 ^ 28 → max w (u * 10 ^ 8) ≤ 10 ^ 28
greater u w h k = omega (arith, h, k)

costs : (n u w : ℕ) → n ≤ MOST_POSTINGS → u * 10 ^ 8 ≤ 10 ^ 28 → w ≤ 10 ^ 28
    → n * w + n * u * 10 ^ 8 ≤ 2 * 10 ^ 35
costs n u w few h k =
    let a = all_narrow n w few k in
    let c = all_narrow n (u * 10 ^ 8) few h in
    let same : n * u * 10 ^ 8 ≡ n * (u * 10 ^ 8) = grind arith in
    omega (arith, a, c, same)

held : (m : ℕ) → m ≤ 2 * 10 ^ 35 → nat_lt m (2 ^ 127) ≡ true
held m h = lt-ltb _ _ (omega (arith, h))

fits : (s : Shape) → is_held s ≡ true → given (Some (fitting s)) ≡ Some s
fits s h = ap (λ is. given (Some (if is then Ok s else Err TooWide))) h

both : (a b : Bool) → a ≡ true → b ≡ true → (a && b) ≡ true
both true b h k = k
both false b h k = absurd cc

-- ---- their shapes

typed_as : (b : Bounds) (t : Tree ℕ) (s : Shape) → shape_of b t ≡ given (Some (fitting s))
    → is_held s ≡ true → shape_causes b t ≡ []
typed_as b t s e h = shapes_have_no_causes b t s (e ∙ fits s h)

position_causes : (b : Bounds) (at : Option Valuation) → AreBounds b
    → shape_causes b (valued at (of_column column.Position)) ≡ []
position_causes b None are = refl
position_causes b (Some valuation.Units) are =
    let h = units_alone (units_most b) (units_narrow b are) in
    typed_as b (applied function.Units (of_column column.Position)) (Amount 8 (units_most b)) refl
    (held (units_most b) (omega (arith, h)))
position_causes b (Some valuation.Cost) are =
    let h = greater (units_most b) (value_most b) (units_narrow b are) (value_narrow b are) in
    typed_as b (applied function.Cost (of_column column.Position))
    (Amount 16 (max (value_most b) (units_most b * 10 ^ 8))) refl
    (held (max (value_most b) (units_most b * 10 ^ 8)) (omega (arith, h)))

units_sum : (b : Bounds) → AreBounds b → nat_lt (b.postings * units_most b) (2 ^ 127) ≡ true
units_sum b are =
    let h = all_narrow b.postings (units_most b) (few_postings b are)
    (units_alone (units_most b) (units_narrow b are)) in
    held (b.postings * units_most b) (omega (arith, h))

value_sum : (b : Bounds) → AreBounds b → nat_lt (b.postings * value_most b) (2 ^ 127) ≡ true
value_sum b are =
    let h = all_narrow b.postings (value_most b) (few_postings b are) (value_narrow b are) in
    held (b.postings * value_most b) (omega (arith, h))

balance_causes : (b : Bounds) (at : Option Valuation) → AreBounds b
    → shape_causes b (valued at (of_column column.Balance)) ≡ []
balance_causes b None are = refl
balance_causes b (Some valuation.Units) are =
    typed_as b (applied function.Units (of_column column.Balance))
    (Inventory 8 (b.postings * units_most b) 0) refl
    (both _ true (units_sum b are) refl)
balance_causes b (Some valuation.Cost) are =
    let m = b.postings * value_most b + b.postings * units_most b * 10 ^ 8 in
    typed_as b (applied function.Cost (of_column column.Balance)) (Inventory 16 m 0) refl
    (both (nat_lt m (2 ^ 127)) true
    (held m (costs b.postings (units_most b) (value_most b) (few_postings b are) (units_narrow b are)
    (value_narrow b are)))
    refl)

given_is : (b : Bounds) (s : Shape) (t : Tree ℕ) → shape_of b t ≡ Some s
    → shape_of b (applied function.Sum t) ≡ given (Some (of_one b.postings function.Sum s))
given_is b s t e =
    ap (λ o. given (ruled b (call_of function.Sum) (beside (operand false o) (Some [])))) e

sum_causes : (b : Bounds) (at : Option Valuation) → AreBounds b
    → shape_causes b (applied function.Sum (valued at (of_column column.Position))) ≡ []
sum_causes b None are =
    typed_as b (applied function.Sum (of_column column.Position))
    (Inventory 8 (b.postings * units_most b) (b.postings * value_most b)) refl
    (both _ _ (units_sum b are) (value_sum b are))
sum_causes b (Some valuation.Units) are =
    let h = units_alone (units_most b) (units_narrow b are) in
    let t = applied function.Units (of_column column.Position) in
    typed_as b (applied function.Sum t) (Inventory 8 (b.postings * units_most b) 0)
    (given_is b (Amount 8 (units_most b)) t
    (fits (Amount 8 (units_most b)) (held (units_most b) (omega (arith, h)))))
    (both _ true (units_sum b are) refl)
sum_causes b (Some valuation.Cost) are =
    let m = max (value_most b) (units_most b * 10 ^ 8) in
    let h = greater (units_most b) (value_most b) (units_narrow b are) (value_narrow b are) in
    let t = applied function.Cost (of_column column.Position) in
    let k = all_narrow b.postings m (few_postings b are) h in
    typed_as b (applied function.Sum t) (Inventory 16 (b.postings * m) 0)
    (given_is b (Amount 16 m) t (fits (Amount 16 m) (held m (omega (arith, h)))))
    (both (nat_lt (b.postings * m) (2 ^ 127)) true (held (b.postings * m) (omega (arith, k))) refl)

-- ---- the queries

append_nil : (cs : List TypeCause) → cs ++ [] ≡ cs
append_nil [] = refl
append_nil (c ∷ cs) = ap (λ z. c ∷ z) (append_nil cs)

none_of_two : (xs ys : List TypeCause) → xs ≡ [] → ys ≡ [] → xs ++ ys ≡ []
none_of_two xs ys e h = ap (λ z. z ++ ys) e ∙ h

-- where nothing is found before, and nothing behind
between : (ts fs os : List TypeCause) → ts ≡ [] → os ≡ [] → ts ++ (fs ++ os) ≡ fs
between ts fs os e h =
    ap (λ z. z ++ (fs ++ os)) e ∙ ap (λ z. fs ++ z) h ∙ append_nil fs

no_pattern : (b : Bounds) (pattern : Option (List ℕ)) → filter_causes b (matching pattern) ≡ []
no_pattern b (Some p) = refl
no_pattern b None = refl

shown_alone : (b : Bounds) (keys : List (Tree ℕ)) (t : Tree ℕ) → shape_causes b t ≡ []
    → misplaced b true t ≡ []
    → shown_causes b (record { is_aggregating = false; keys = keys }) t ≡ []
shown_alone b keys t e h =
    none_of_two (shape_causes b t) (misplaced b true t ++ []) e
    (append_nil (misplaced b true t) ∙ h)

position_alone : (b : Bounds) (at : Option Valuation)
    → misplaced b true (valued at (of_column column.Position)) ≡ []
position_alone b None = refl
position_alone b (Some valuation.Units) = refl
position_alone b (Some valuation.Cost) = refl

balance_alone : (b : Bounds) (at : Option Valuation)
    → misplaced b true (valued at (of_column column.Balance)) ≡ []
balance_alone b None = refl
balance_alone b (Some valuation.Units) = refl
balance_alone b (Some valuation.Cost) = refl

abbrev aggregating_by : Option Valuation → Bool
aggregating_by at =
    aggregates (valued at (of_column column.Position))
    || (aggregates (valued at (of_column column.Balance)) || false)

no_aggregates : (at : Option Valuation) → aggregating_by at ≡ false
no_aggregates None = refl
no_aggregates (Some valuation.Units) = refl
no_aggregates (Some valuation.Cost) = refl

journal_targets : (b : Bounds) (at : Option Valuation) (g : Grouping) → AreBounds b
    → g.is_aggregating ≡ false → each (target_causes b g) (standing.journal_targets at) ≡ []
journal_targets b at g are off =
    ap (λ z. each (target_causes b (record { is_aggregating = z; keys = g.keys }))
    (standing.journal_targets at)) off
    ∙ none_of_two _ _
    (shown_alone b g.keys (valued at (of_column column.Position))
    (position_causes b at are) (position_alone b at))
    (none_of_two _ [] (shown_alone b g.keys (valued at (of_column column.Balance))
    (balance_causes b at are) (balance_alone b at)) refl)

-- a JOURNAL has no cause but in FROM
pub journals_are_typed : JournalsAreTyped
journals_are_typed b are pattern at from =
    let s = standing.journal pattern at from in
    let g = grouping_of s in
    between (each (target_causes b g) s.targets)
    (filter_causes b from ++ filter_causes b (matching pattern)) []
    (journal_targets b at g are (no_aggregates at)) refl
    ∙ ap (λ z. filter_causes b from ++ z) (no_pattern b pattern)
    ∙ append_nil (filter_causes b from)

sum_alone : (b : Bounds) (at : Option Valuation) (keys : List (Tree ℕ))
    → keys ≡ of_column column.Account ∷ []
    → misplaced b false (applied function.Sum (valued at (of_column column.Position)))
    ++ (ungrouped keys (applied function.Sum (valued at (of_column column.Position)))
    ++ balances (applied function.Sum (valued at (of_column column.Position)))) ≡ []
sum_alone b None keys e = ap (λ z. ungrouped z (applied function.Sum (of_column column.Position))
    ++ []) e
sum_alone b (Some valuation.Units) keys e =
    ap (λ z. ungrouped z (applied function.Sum (applied function.Units (of_column column.Position)))
    ++ []) e
sum_alone b (Some valuation.Cost) keys e =
    ap (λ z. ungrouped z (applied function.Sum (applied function.Cost (of_column column.Position)))
    ++ []) e

-- and a BALANCES none but in its filters
pub balances_are_typed : BalancesAreTyped
balances_are_typed b are at f =
    between (each (target_causes b (grouping_of (standing.balances at f)))
    (standing.balances at f).targets) (filters_causes b f) [] shown refl
  where
    shown : each (target_causes b (grouping_of (standing.balances at f)))
        (standing.balances at f).targets ≡ []
    shown =
        none_of_two
        (shown_causes b (grouping_of (standing.balances at f))
        (applied function.Sum (valued at (of_column column.Position)))) []
        (none_of_two
        (shape_causes b (applied function.Sum (valued at (of_column column.Position)))) _
        (sum_causes b at are) (sum_alone b at (of_column column.Account ∷ []) refl)) refl
