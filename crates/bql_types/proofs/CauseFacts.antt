-- Causes one behind the other, and the parts of calls.
use Rattle.std.proofs.Common.{◌≡◌, ℕ, ◌+◌, ◌<◌, List, [], ◌∷◌, ◌++◌, Option, refl, sym, ap}
use Rattle.std.proofs.Common.{◌∙◌, zero, suc, get_or, drop, length, arith}
use Rattle.std.specs.Prelude.{Vec}
use Rattle.std.specs.declared.alloc.Global.{Global}
use mathlib.Core.Former.{Count}
use Rattle.bql_tree.specs.Tree.{call_of, Tree, node, Trees, trees, tree_of, trees_of}
use Rattle.bql_tree.specs.Tree.{row_trees}
use Rattle.bql_tree.specs.declared.function.Function.{Function}
use Rattle.bql_tree.specs.declared.tree.Expr.{Expr, Row_of-Expr, end_of-Expr, more_of-Expr}
use Rattle.bql_tree.specs.declared.tree.Expr.{items-the_row-Expr, items_hidden-the_row-Expr-0}
use Rattle.bql_tree.specs.declared.tree.Expr.{Call', Call}
use Rattle.std.proofs.Common.{Bool, true, false, ◌&&◌, ◌||◌, if◌then◌else◌}
use Rattle.bql_types.specs.Cause.{told, sooner, where_true, cause_at}
use Rattle.bql_types.specs.Sought.{is_key, is_aggregate, is_aggregate_function, reads_row}
use Rattle.bql_types.specs.Sought.{ungrouped}
use Rattle.bql_types.specs.Sought.{all_ungrouped, misplaced, all_misplaced, is_told}
use Rattle.limits.specs.declared.bounds.Bounds.{Bounds}
use Rattle.bql_types.specs.declared.cause.TypeCauseKind.TheVariants as kind
use Rattle.bql_types.specs.declared.cause.TypeCause.{TypeCause}

pub told_append : (found : Option TypeCause) (xs ys : List TypeCause)
    → told found (xs ++ ys) ≡ told (told found xs) ys
told_append found [] ys = refl
told_append found (x ∷ xs) ys = told_append (sooner found x) xs ys

-- The parts of a call, as a row and as a list.

row_is : (n : _) (row : Row_of-Expr n) → row_trees row ≡ trees_of (items-the_row-Expr n row)
row_is n end_of-Expr = refl
row_is n (more_of-Expr x rest) = ap (trees (tree_of x)) (row_is _ rest)

abbrev row_of : Expr → (n : Count) × Row_of-Expr n
row_of (Call' at f shape row) = (_, row)
row_of _ = (_, end_of-Expr)

pub tree_of_call : (at : ℕ) (f : Function) (v : Vec Expr Global)
    → tree_of (Call at f v) ≡ node at (call_of f) (trees_of v.items)
tree_of_call at f v =
    let row = row_of (Call at f v) in
    ap (node at (call_of f)) (row_is row.0 row.1 ∙ ap trees_of (items_hidden-the_row-Expr-0 v))

-- a call, by its arguments
pub is_call : (e : Expr) (at : ℕ) (f : Function) (v : Vec Expr Global) (es : List Expr)
    → e ≡ Call at f v → es ≡ v.items → tree_of e ≡ node at (call_of f) (trees_of es)
is_call e at f v es is items =
    ap tree_of is ∙ tree_of_call at f v
    ∙ ap (λ xs. node at (call_of f) (trees_of xs)) (sym items)

succ : (i : ℕ) → i + 1 ≡ suc i
succ i = omega arith

drops : (es : List Expr) (i : ℕ) (e : Expr) → i < length es → e ≡ get_or es i e
    → trees_of (drop i es) ≡ trees (tree_of e) (trees_of (drop (suc i) es))
drops [] i e b g = absurd (omega (arith, b))
drops (x ∷ es) zero e b g = ap (λ z. trees (tree_of z) (trees_of es)) (sym g)
drops (x ∷ es) (suc i) e b g = drops es i e (omega (arith, b)) g

-- the next of some arguments, and those behind it
pub next_is : (es : List Expr) (i : ℕ) (e : Expr) → i < length es → e ≡ get_or es i e
    → trees_of (drop i es) ≡ trees (tree_of e) (trees_of (drop (i + 1) es))
next_is es i e b g =
    drops es i e b g ∙ ap (λ k. trees (tree_of e) (trees_of (drop k es))) (sym (succ i))

-- what was found on the way, and what the arguments that are left add to it
pub one_less : (one : Tree ℕ → List TypeCause) (all : Trees ℕ → List TypeCause)
    → ((t : Tree ℕ) (ts : Trees ℕ) → all (trees t ts) ≡ one t ++ all ts)
    → (es : List Expr) (i : ℕ) (e : Expr) (found next whole : Option TypeCause)
    → i < length es → e ≡ get_or es i e → next ≡ told found (one (tree_of e))
    → told found (all (trees_of (drop i es))) ≡ whole
    → told next (all (trees_of (drop (i + 1) es))) ≡ whole
one_less one all split es i e found next whole b g n h =
    let rest = trees_of (drop (i + 1) es) in
    ap (λ z. told z (all rest)) n
    ∙ sym (told_append found (one (tree_of e)) (all rest))
    ∙ sym (ap (told found) (split (tree_of e) rest))
    ∙ sym (ap (λ z. told found (all z)) (next_is es i e b g))
    ∙ h

-- what is the same as a key is grouped
pub of_key : (keys : List (Tree ℕ)) (e : Tree ℕ) → is_key keys e ≡ true → ungrouped keys e ≡ []
of_key keys (node at op parts) h =
    ap (λ b. if b || is_aggregate op then []
    else (where_true (reads_row op) (cause_at kind.NotGrouped at) ++ all_ungrouped keys parts)) h

pub below_call : (keys : List (Tree ℕ)) (e : Tree ℕ) (at : ℕ) (f : Function) (ts : Trees ℕ)
    → e ≡ node at (call_of f) ts → is_key keys e ≡ false → is_aggregate_function f ≡ false
    → ungrouped keys e ≡ all_ungrouped keys ts
below_call keys e at f ts is k a =
    ap (ungrouped keys) is
    ∙ ap (λ b. if b || is_aggregate_function f then [] else all_ungrouped keys ts)
    (sym (ap (is_key keys) is) ∙ k)
    ∙ ap (λ b. if b then [] else all_ungrouped keys ts) a

-- ---- calls, in the search for misplaced aggregates

pub plain_call : (b : Bounds) (is_inside : Bool) (e : Tree ℕ) (at : ℕ) (f : Function)
    (ts : Trees ℕ) → e ≡ node at (call_of f) ts → is_aggregate_function f ≡ false
    → misplaced b is_inside e ≡ all_misplaced b is_inside ts
plain_call b is_inside e at f ts is a =
    ap (misplaced b is_inside) is
    ∙ ap (λ z. where_true (is_told b (z && is_inside) ts) (cause_at kind.AggregateMisplaced at)
    ++ all_misplaced b (z || is_inside) ts) a

pub aggregate_call : (b : Bounds) (is_inside : Bool) (e : Tree ℕ) (at : ℕ) (f : Function)
    (ts : Trees ℕ) (found next : Option TypeCause) (is_cause : Bool) (cause : TypeCause)
    → e ≡ node at (call_of f) ts → is_aggregate_function f ≡ true
    → is_cause ≡ is_told b is_inside ts → cause ≡ cause_at kind.AggregateMisplaced at
    → next ≡ told found (where_true is_cause cause)
    → told next (all_misplaced b true ts) ≡ told found (misplaced b is_inside e)
aggregate_call b is_inside e at f ts found next is_cause cause is a is_is cause_is n =
    let rest = all_misplaced b true ts in
    ap (λ z. told z rest) n
    ∙ ap (λ z. told (told found (where_true z cause)) rest) is_is
    ∙ ap (λ z. told (told found (where_true (is_told b is_inside ts) z)) rest) cause_is
    ∙ sym (told_append found
    (where_true (is_told b is_inside ts) (cause_at kind.AggregateMisplaced at)) rest)
    ∙ sym (ap (λ z. told found (misplaced b is_inside z)) is
    ∙ ap (λ z. told found
    (where_true (is_told b (z && is_inside) ts) (cause_at kind.AggregateMisplaced at)
    ++ all_misplaced b (z || is_inside) ts)) a)
