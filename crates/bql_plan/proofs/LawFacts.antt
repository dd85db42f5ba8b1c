-- Why the laws hold.
use Rattle.std.proofs.Common.{◌≡◌, ℕ, ℤ, zero, suc, Bool, true, false, ◌&&◌, ◌||◌, ◌==◌}
use Rattle.std.proofs.Common.{List, [], ◌∷◌, ◌++◌, refl, sym, subst, ap, ◌∙◌, arith}
use Rattle.std.proofs.Common.{if◌then◌else◌, nat_eq}
use Rattle.std.proofs.lemmas.Bool.Decides.{nat_tests}
use Rattle.std.specs.List.{IsAmong, slice_get}
use Rattle.std.specs.Ordering.{int_eq}
use Rattle.theory.specs.Form.{steps}
use Rattle.bean_base.specs.Day.{number}
use denote.Enum.Bare.{sameb}
use Rattle.std.proofs.lemmas.Cmp.{int_eq_equiv}
use Rattle.bql_plan.specs.Laws.{StandsIn, OrderIsShown, AggregatesAreCounted, KeysAreFound}
use Rattle.bql_plan.specs.Plan.{added, index_of, own_trees, shown, aggregates_of}
use Rattle.bql_tree.specs.Tree.{Operation, leaf_of, one_of, two_of, call_of, Tree, node, Trees}
use Rattle.bql_tree.specs.Tree.{no_trees, trees}
use Rattle.query_terms.specs.contracts.column.Column as columns
use Rattle.bql_tree.specs.contracts.function.Function as functions
use Rattle.bql_tree.specs.contracts.tree.BinaryOperator as binaries
use Rattle.bql_tree.specs.contracts.tree.MetadataOwner as entries
use Rattle.query_terms.specs.declared.column.Column.{Column}
use Rattle.bql_tree.specs.declared.function.Function.{Function}
use Rattle.bql_tree.specs.declared.tree.BinaryOperator.{BinaryOperator}
use Rattle.bql_tree.specs.declared.tree.MetadataOwner.{MetadataOwner}
use Rattle.bql_tree.specs.declared.tree.Leaf.{Leaf}
use Rattle.bql_tree.specs.declared.tree.Leaf.TheVariants as leaf
use Rattle.bql_tree.specs.declared.tree.UnaryOperator.{UnaryOperator}
use Rattle.bql_tree.specs.declared.tree.UnaryOperator.TheVariants as unary
use Rattle.bql_types.specs.Same.{same, all_same, same_leaf, same_unary, same_operation, same_text}
use Rattle.bql_types.specs.Same.{same_truth}
use Rattle.bql_types.specs.Sought.{is_key}

-- ---- each expression is the same as itself

both : (a b : Bool) → a ≡ true → b ≡ true → (a && b) ≡ true
both true b h k = k
both false b h k = absurd cc

nat_self : (n : ℕ) → nat_eq n n ≡ true
nat_self n = grind (arith, nat_tests)

count_self : (n : ℕ) → (n == n) ≡ true
count_self n = grind (arith, nat_tests)

int_self : (n : ℤ) → int_eq n n ≡ true
int_self n = int_eq_equiv.refl n

text_self : (t : List ℕ) → same_text t t ≡ true
text_self [] = refl
text_self (b ∷ bs) = both (nat_eq b b) (same_text bs bs) (nat_self b) (text_self bs)

truth_self : (b : Bool) → same_truth b b ≡ true
truth_self true = refl
truth_self false = refl

column_self : (c : Column) → sameb columns.the_type c c ≡ true
column_self c = count_self _

function_self : (f : Function) → sameb functions.the_type f f ≡ true
function_self f = count_self _

binary_self : (op : BinaryOperator) → sameb binaries.the_type op op ≡ true
binary_self op = count_self _

entry_self : (e : MetadataOwner) → sameb entries.the_type e e ≡ true
entry_self e = count_self _

leaf_self : (l : Leaf) → same_leaf l l ≡ true
leaf_self (leaf.Column c) = column_self c
leaf_self leaf.Null = refl
leaf_self (leaf.Number n) =
    both (n.places == n.places) (int_eq n.count n.count) (count_self n.places)
    (int_self n.count)
leaf_self (leaf.TooWide t) = text_self t
leaf_self (leaf.Text t) = text_self t
leaf_self (leaf.Day d) = int_self (number d)
leaf_self (leaf.Truth b) = truth_self b
leaf_self leaf.Rows = refl
leaf_self (leaf.Meta e k) =
    both (sameb entries.the_type e e) (same_text k k) (entry_self e) (text_self k)
leaf_self (leaf.HasAccount p) = text_self p

unary_self : (op : UnaryOperator) → same_unary op op ≡ true
unary_self unary.Not = refl
unary_self unary.Minus = refl
unary_self (unary.Matches p) = text_self p
unary_self (unary.Root n) = count_self n

operation_self : (op : Operation) → same_operation op op ≡ true
operation_self (leaf_of l) = leaf_self l
operation_self (one_of op) = unary_self op
operation_self (two_of op) = binary_self op
operation_self (call_of f) = function_self f

mutual
  same_self : (t : Tree ℕ) → same t t ≡ true
  same_self (node at op ts) =
      both (same_operation op op) (all_same ts ts) (operation_self op) (all_self ts)

  all_self : (ts : Trees ℕ) → all_same ts ts ≡ true
  all_self no_trees = refl
  all_self (trees t ts) = both (same t t) (all_same ts ts) (same_self t) (all_self ts)

-- ---- what is added stands there

or_right : (a b : Bool) → b ≡ true → (a || b) ≡ true
or_right true b h = refl
or_right false b h = h

or_left : (a b : Bool) → a ≡ true → (a || b) ≡ true
or_left true b h = refl
or_left false b h = absurd cc

or_by : (is a b : Bool) → (is || a) ≡ true → (a ≡ true → b ≡ true) → (is || b) ≡ true
or_by true a b h k = refl
or_by false a b h k = k h

stays_behind : (ts : List (Tree ℕ)) (u t : Tree ℕ) → is_key ts t ≡ true
    → is_key (ts ++ u ∷ []) t ≡ true
stays_behind [] u t h = absurd cc
stays_behind (v ∷ ts) u t h = or_by (same t v) _ _ h (stays_behind ts u t)

last_stands : (ts : List (Tree ℕ)) (t : Tree ℕ) → is_key (ts ++ t ∷ []) t ≡ true
last_stands [] t = or_left (same t t) false (same_self t)
last_stands (v ∷ ts) t = or_right (same t v) (is_key (ts ++ t ∷ []) t) (last_stands ts t)

keeps_by : (is : Bool) (ts : List (Tree ℕ)) (u t : Tree ℕ) → is_key ts t ≡ true
    → is_key (if is then ts else ts ++ u ∷ []) t ≡ true
keeps_by true ts u t h = h
keeps_by false ts u t h = stays_behind ts u t h

adds_by : (is : Bool) (ts : List (Tree ℕ)) (t : Tree ℕ) → is_key ts t ≡ is
    → is_key (if is then ts else ts ++ t ∷ []) t ≡ true
adds_by true ts t h = h
adds_by false ts t h = last_stands ts t

keeps_all : (us ts : List (Tree ℕ)) (t : Tree ℕ) → is_key ts t ≡ true
    → is_key (steps added ts us) t ≡ true
keeps_all [] ts t h = h
keeps_all (u ∷ us) ts t h = keeps_all us (added ts u) t (keeps_by (is_key ts u) ts u t h)

has_all : (us ts : List (Tree ℕ)) (t : Tree ℕ) → IsAmong us t
    → is_key (steps added ts us) t ≡ true
has_all [] ts t (i, (b, e)) = absurd (omega (arith, b))
has_all (u ∷ us) ts t (zero, (b, e)) =
    keeps_all us (added ts u) t
    (subst (λ z. is_key (added ts u) z ≡ true) (sym e) (adds_by (is_key ts u) ts u refl))
has_all (u ∷ us) ts t (suc i, (b, e)) = has_all us (added ts u) t (i, (omega (arith, b), e))

stands_by : (is : Bool) (u : Tree ℕ) (us : List (Tree ℕ)) (t : Tree ℕ) → same t u ≡ is
    → (is || is_key us t) ≡ true → (is_key us t ≡ true → StandsIn us t) → StandsIn (u ∷ us) t
stands_by true u us t e h k = record {
  tree = u;
  there = ap (λ z. slice_get (u ∷ us) (if z then 0 else suc (index_of us t))) e;
  is = e;
}
stands_by false u us t e h k =
    let behind = k h in
    record {
      tree = behind.tree;
      there = ap (λ z. slice_get (u ∷ us) (if z then 0 else suc (index_of us t))) e ∙ behind.there;
      is = behind.is;
    }

pub stands : KeysAreFound
stands [] t h = absurd cc
stands (u ∷ us) t h = stands_by (same t u) u us t refl h (stands us t)

pub order_is_shown : OrderIsShown
order_is_shown s t h = stands (shown s) t (has_all (own_trees s.order.items) _ t h)

pub aggregates_are_counted : AggregatesAreCounted
aggregates_are_counted s t h = stands _ t (has_all (aggregates_of (shown s)) [] t h)
