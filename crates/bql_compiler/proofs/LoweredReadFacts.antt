-- What a typed expression reads is loaded: of a row what the row has, and behind the last row keys
-- and aggregates alone.
use Rattle.std.proofs.Common.{◌≡◌, ◌⊎◌, ℕ, ◌&&◌, ◌||◌, Bool, true, false, cond, List, [], ◌∷◌, ◌++◌, Option}
use Rattle.std.proofs.Common.{Some, None, Ok, Err, refl, sym, ap, ◌∙◌, subst, inl, inr}
use Rattle.std.specs.Prelude.{option_and_then, option_map}
use Rattle.std.specs.List.{AllByRecursion}
use Rattle.std.specs.Option.{is_some}
use Rattle.limits.specs.declared.bounds.Bounds.{Bounds}
use Rattle.bql_lowering.specs.Lowered.{Gathered, has}
use Rattle.bql_plan.specs.Labels.{all_labelled, labelled}
use Rattle.bql_plan.specs.Plan.{aggregates_in, all_aggregates}
use Rattle.bql_plan.specs.Whole.{AreWhole, IsWhole}
use Rattle.bql_rules.specs.Rules as rules
use Rattle.bql_tree.specs.Tree.{Operation, leaf_of, one_of, two_of, call_of, Tree, node, Trees}
use Rattle.bql_tree.specs.Tree.{no_trees, trees}
use Rattle.bql_tree.specs.declared.tree.Leaf.{Leaf}
use Rattle.bql_tree.specs.declared.tree.Leaf.TheVariants as leaf
use Rattle.bql_types.proofs.LawFacts.{no_more}
use Rattle.bql_types.specs.Cause.{cause_at, where_true}
use Rattle.bql_types.specs.Shaped as shaped
use Rattle.bql_types.specs.Shaped.{is_equation, is_null, ruled, shape_of, shapes_of}
use Rattle.bql_types.specs.Sought.{all_balances, all_misplaced, all_ungrouped, balances, have_shapes}
use Rattle.bql_types.specs.Sought.{is_aggregate, is_balance, is_told, misplaced, reads_row}
use Rattle.bql_types.specs.Sought.{ungrouped}
use Rattle.bql_types.specs.declared.cause.TypeCause.{TypeCause}
use Rattle.bql_types.specs.declared.cause.TypeCauseKind.TheVariants as kind
use Rattle.query_terms.specs.Column.{is_in}
use Rattle.query_rows.specs.ColumnShape.{column_shape}
use Rattle.query_terms.specs.declared.column.Column.{Column}
use Rattle.query_terms.specs.declared.column.Column.TheVariants as column
use Rattle.query_rows.specs.declared.shape.Misfit.TheVariants.{Kind}
use Rattle.query_rows.specs.declared.shape.Shape.{Shape}
use Rattle.query_rows.specs.declared.shape.Shape.TheVariants.{Text}
use Rattle.well_shaped.specs.Sections.{Loads, shape_by, shape_of as column_in}
use Rattle.bql_compiler.proofs.ConstantFacts.{all_first, all_second}
use Rattle.bql_compiler.proofs.LoweredListFacts.{leaf_only}
use Rattle.bql_compiler.specs.LoweredShapes.{ReadsAreLoaded}
use Rattle.bql_compiler.specs.Loaded.{AreLoaded, IsLeafLoaded, IsLoaded, IsOperationLoaded}

-- where there is no cause, what it would be told for isn't so
not_so : (so : Bool) (c : TypeCause) → where_true so c ≡ [] → so ≡ false
not_so true c e = cc
not_so false c e = refl

-- NULL reads nothing
null_loaded : (b : Bounds) (l : Loads) (g : Gathered) (t : Tree ℕ) → is_null t ≡ true
    → IsLoaded b l g t
null_loaded b l g (node at (leaf_of leaf.Null) no_trees) e = λ k a. ((refl, tt), tt)
null_loaded b l g (node at (leaf_of leaf.Null) (trees t ts)) e = cc
null_loaded b l g (node at (leaf_of (leaf.Column c)) ts) e = cc
null_loaded b l g (node at (leaf_of (leaf.Number n)) ts) e = cc
null_loaded b l g (node at (leaf_of (leaf.TooWide digits)) ts) e = cc
null_loaded b l g (node at (leaf_of (leaf.Text t)) ts) e = cc
null_loaded b l g (node at (leaf_of (leaf.Day d)) ts) e = cc
null_loaded b l g (node at (leaf_of (leaf.Truth t)) ts) e = cc
null_loaded b l g (node at (leaf_of leaf.Rows) ts) e = cc
null_loaded b l g (node at (leaf_of (leaf.Meta o k)) ts) e = cc
null_loaded b l g (node at (leaf_of (leaf.HasAccount p)) ts) e = cc
null_loaded b l g (node at (one_of op) ts) e = cc
null_loaded b l g (node at (two_of op) ts) e = cc
null_loaded b l g (node at (call_of f) ts) e = cc

both_true : (x y : Bool) → (x && y) ≡ true → y ≡ true
both_true true y e = e
both_true false y e = cc

-- an aggregate is no equation
pub no_equation : (op : Operation) → is_aggregate op ≡ true → is_equation op ≡ false
no_equation (leaf_of lf) e = refl
no_equation (one_of op) e = refl
no_equation (two_of op) e = cc
no_equation (call_of f) e = refl

-- where an aggregate has a shape, its parts have
parts_shaped : (b : Bounds) (at : ℕ) (op : Operation) (parts : Trees ℕ) (s : Shape)
    → shape_of b (node at op parts) ≡ Some s → is_aggregate op ≡ true → have_shapes b parts ≡ true
parts_shaped b at op parts s e is =
    by (shapes_of b false parts) refl
    (subst (λ eq. shaped.given (ruled b op (shapes_of b eq parts)) ≡ Some s) (no_equation op is) e)
  where
    by : (o : Option (List Shape)) → shapes_of b false parts ≡ o
        → shaped.given (ruled b op o) ≡ Some s → have_shapes b parts ≡ true
    by None eo e = cc
    by (Some ss) eo e = ap is_some eo

-- ---- of a row

module _ (b : Bounds) (l : Loads) (posting : l.posting ≡ Some b) (g : Gathered) where
  -- the running inventory is there, or it isn't read
  abbrev HasBalance : List TypeCause → Type 0
  HasBalance causes = (l.balance ≡ Some (column_shape b column.Balance)) ⊎ (causes ≡ [])

  posted : (c : Column) → is_in b.schema c ≡ true
      → option_and_then (shape_by c) l.posting ≡ Some (column_shape b c)
  posted c known =
      ap (option_and_then (shape_by c)) posting
      ∙ ap (λ k. cond k (Some (column_shape b c)) None) known

  column_loaded : (c : Column) (at : ℕ) → is_in b.schema c ≡ true
      → HasBalance (where_true (is_balance (leaf_of (leaf.Column c)))
      (cause_at kind.BalanceMisplaced at)) → column_in l c ≡ Some (column_shape b c)
  column_loaded column.Date at known has = posted column.Date known
  column_loaded column.Year at known has = posted column.Year known
  column_loaded column.Month at known has = posted column.Month known
  column_loaded column.Day at known has = posted column.Day known
  column_loaded column.Flag at known has = posted column.Flag known
  column_loaded column.Payee at known has = posted column.Payee known
  column_loaded column.Narration at known has = posted column.Narration known
  column_loaded column.Tags at known has = posted column.Tags known
  column_loaded column.Links at known has = posted column.Links known
  column_loaded column.Account at known has = posted column.Account known
  column_loaded column.PostingFlag at known has = posted column.PostingFlag known
  column_loaded column.Number at known has = posted column.Number known
  column_loaded column.Currency at known has = posted column.Currency known
  column_loaded column.CostNumber at known has = posted column.CostNumber known
  column_loaded column.CostCurrency at known has = posted column.CostCurrency known
  column_loaded column.CostDate at known has = posted column.CostDate known
  column_loaded column.CostLabel at known has = posted column.CostLabel known
  column_loaded column.Position at known has = posted column.Position known
  column_loaded column.Weight at known has = posted column.Weight known
  column_loaded column.Balance at known (inl there) = there
  column_loaded column.Balance at known (inr none) = cc
  column_loaded column.Lineno at known has = posted column.Lineno known
  column_loaded column.Accounts at known has = posted column.Accounts known
  column_loaded column.Price at known has = posted column.Price known

  leaf_loaded : (lf : Leaf) (at : ℕ) (s : Shape) → rules.leaf_shape b lf ≡ Ok s
      → HasBalance (where_true (is_balance (leaf_of lf)) (cause_at kind.BalanceMisplaced at))
      → IsLeafLoaded b l lf
  leaf_loaded (leaf.Column c) at s e has = column_loaded c at (known (is_in b.schema c) e) has
    where
      known : (k : Bool) → cond k (Ok (column_shape b c)) (Err Kind) ≡ Ok s → k ≡ true
      known true e = refl
      known false e = cc
  leaf_loaded (leaf.Meta o k) at s e has = λ key. ap (λ p. option_map (λ b. Text) p) posting
  leaf_loaded (leaf.HasAccount p) at s e has = posted column.Accounts refl
  leaf_loaded (leaf.Number n) at s e has = tt
  leaf_loaded (leaf.TooWide digits) at s e has = tt
  leaf_loaded (leaf.Text t) at s e has = tt
  leaf_loaded (leaf.Day d) at s e has = tt
  leaf_loaded (leaf.Truth t) at s e has = tt
  leaf_loaded leaf.Rows at s e has = tt
  leaf_loaded leaf.Null at s e has = tt

  first_balance : (xs ys : List TypeCause) → HasBalance (xs ++ ys) → HasBalance xs
  first_balance xs ys (inl there) = inl there
  first_balance xs ys (inr none) = inr (no_more xs ys none).0

  second_balance : (xs ys : List TypeCause) → HasBalance (xs ++ ys) → HasBalance ys
  second_balance xs ys (inl there) = inl there
  second_balance xs ys (inr none) = inr (no_more xs ys none).1

  -- no aggregate is computed of a row
  none_told : (at : ℕ) (op : Operation) (parts : Trees ℕ) (s : Shape)
      → shape_of b (node at op parts) ≡ Some s
      → where_true (is_told b (is_aggregate op && true) parts) (cause_at kind.AggregateMisplaced at)
      ≡ []
      → is_aggregate op ≡ false
  none_told at op parts s e none = by (is_aggregate op) refl
    where
      by : (a : Bool) → is_aggregate op ≡ a → is_aggregate op ≡ false
      by false ea = ea
      by true ea =
          absurd (true_false (sym (ap (λ a. (a && true) && have_shapes b parts) ea
          ∙ parts_shaped b at op parts s e ea)
          ∙ not_so (is_told b (is_aggregate op && true) parts) (cause_at kind.AggregateMisplaced at)
          none))
        where
          true_false : true ≡ false → ⊥
          true_false e = cc

  of_operation : (at : ℕ) (op : Operation) (parts : Trees ℕ) (s : Shape)
      → shape_of b (node at op parts) ≡ Some s → is_aggregate op ≡ false
      → HasBalance (where_true (is_balance op) (cause_at kind.BalanceMisplaced at))
      → IsOperationLoaded b l op
  of_operation at (leaf_of lf) parts s e plain has =
      (plain, leaf_loaded lf at s (leaf_only b at lf parts s e) has)
  of_operation at (one_of op) parts s e plain has = refl
  of_operation at (two_of op) parts s e plain has = refl
  of_operation at (call_of f) parts s e plain has = plain

  mutual
    pub row_loaded : (t : Tree ℕ) → IsWhole t (labelled b t) → misplaced b true t ≡ []
        → HasBalance (balances t) → IsLoaded b l g t
    row_loaded (node at op parts) whole none has = λ k a.
        let m =
        no_more (where_true (is_told b (is_aggregate op && true) parts)
        (cause_at kind.AggregateMisplaced at)) (all_misplaced b (is_aggregate op || true) parts) none in
        let plain = none_told at op parts whole.0 whole.1 m.0 in (
          of_operation at op parts whole.0 whole.1 plain
              (first_balance (where_true (is_balance op) (cause_at kind.BalanceMisplaced at))
              (all_balances parts) has),
          rows_loaded (is_equation op) parts whole.2
              (ap (λ x. all_misplaced b (x || true) parts) (sym plain) ∙ m.1)
              (second_balance (where_true (is_balance op) (cause_at kind.BalanceMisplaced at))
              (all_balances parts) has),
        )

    rows_loaded : (eq : Bool) (ts : Trees ℕ) → AreWhole eq ts (all_labelled b ts)
        → all_misplaced b true ts ≡ [] → HasBalance (all_balances ts) → AreLoaded b l g ts
    rows_loaded eq no_trees whole none has = tt
    rows_loaded eq (trees t ts) (inl null, whole) none has = (
      null_loaded b l g t (both_true eq (is_null t) null),
      rows_loaded eq ts whole (no_more (misplaced b true t) (all_misplaced b true ts) none).1
          (second_balance (balances t) (all_balances ts) has),
    )
    rows_loaded eq (trees t ts) (inr one, whole) none has =
        let m = no_more (misplaced b true t) (all_misplaced b true ts) none in (
          row_loaded t one m.0 (first_balance (balances t) (all_balances ts) has),
          rows_loaded eq ts whole m.1 (second_balance (balances t) (all_balances ts) has),
        )

-- ---- behind the last row

module _ (b : Bounds) (l : Loads) (g : Gathered) where
  abbrev IsCounted : Tree ℕ → Type 0
  IsCounted t = has g.aggregates t ≡ true

  -- each aggregate that is reached is one of the group
  abbrev AreCounted : List (Tree ℕ) → Type 0
  AreCounted ts = AllByRecursion IsCounted ts

  reads_nothing : (op : Operation) → is_aggregate op ≡ false → reads_row op ≡ false
      → IsOperationLoaded b l op
  reads_nothing (leaf_of (leaf.Column c)) plain none = cc
  reads_nothing (leaf_of (leaf.Meta o k)) plain none = cc
  reads_nothing (leaf_of (leaf.HasAccount p)) plain none = cc
  reads_nothing (leaf_of leaf.Null) plain none = (plain, tt)
  reads_nothing (leaf_of (leaf.Number n)) plain none = (plain, tt)
  reads_nothing (leaf_of (leaf.TooWide digits)) plain none = (plain, tt)
  reads_nothing (leaf_of (leaf.Text t)) plain none = (plain, tt)
  reads_nothing (leaf_of (leaf.Day d)) plain none = (plain, tt)
  reads_nothing (leaf_of (leaf.Truth t)) plain none = (plain, tt)
  reads_nothing (leaf_of leaf.Rows) plain none = (plain, tt)
  reads_nothing (one_of op) plain none = refl
  reads_nothing (two_of op) plain none = refl
  reads_nothing (call_of f) plain none = plain

  mutual
    pub last_loaded : (t : Tree ℕ) → ungrouped g.keys t ≡ [] → AreCounted (aggregates_in t)
        → IsLoaded b l g t
    last_loaded (node at op parts) none counted = λ k a.
        let plain = uncounted (is_aggregate op) refl counted a in
        let m = grouped k plain none in (
          reads_nothing op plain
              (not_so (reads_row op) (cause_at kind.NotGrouped at)
              (no_more (where_true (reads_row op) (cause_at kind.NotGrouped at))
              (all_ungrouped g.keys parts) m).0),
          lasts_loaded parts
              (no_more (where_true (reads_row op) (cause_at kind.NotGrouped at))
              (all_ungrouped g.keys parts) m).1
              (subst AreCounted
              (ap (λ x. cond x (node at op parts ∷ []) (all_aggregates parts)) plain) counted),
        )
      where
        -- an aggregate is one of the group
        uncounted : (is : Bool) → is_aggregate op ≡ is
            → AreCounted (cond (is_aggregate op) (node at op parts ∷ []) (all_aggregates parts))
            → has g.aggregates (node at op parts) ≡ false → is_aggregate op ≡ false
        uncounted false e all absent = e
        uncounted true e all absent =
            absurd (true_false (sym (first (subst AreCounted
            (ap (λ x. cond x (node at op parts ∷ []) (all_aggregates parts)) e) all)) ∙ absent))
          where
            true_false : true ≡ false → ⊥
            true_false e = cc

            first : AreCounted (node at op parts ∷ []) → has g.aggregates (node at op parts) ≡ true
            first h = h.0

        -- what is no key and no aggregate has no column of its own
        grouped : has g.keys (node at op parts) ≡ false → is_aggregate op ≡ false
            → ungrouped g.keys (node at op parts) ≡ []
            → (where_true (reads_row op) (cause_at kind.NotGrouped at) ++ all_ungrouped g.keys parts)
            ≡ []
        grouped k plain none =
            sym (λ i. cond (k i || plain i) [] (where_true (reads_row op)
            (cause_at kind.NotGrouped at) ++ all_ungrouped g.keys parts))
            ∙ none

    lasts_loaded : (ts : Trees ℕ) → all_ungrouped g.keys ts ≡ [] → AreCounted (all_aggregates ts)
        → AreLoaded b l g ts
    lasts_loaded no_trees none counted = tt
    lasts_loaded (trees t ts) none counted =
        let m = no_more (ungrouped g.keys t) (all_ungrouped g.keys ts) none in (
          last_loaded t m.0 (all_first IsCounted (aggregates_in t) (all_aggregates ts) counted),
          lasts_loaded ts m.1 (all_second IsCounted (aggregates_in t) (all_aggregates ts) counted),
        )

pub reads_are_loaded : ReadsAreLoaded
reads_are_loaded = record { of_rows = row_loaded; of_groups = last_loaded }
