-- What calls are made of.
use Rattle.std.proofs.Common.{◌≡◌, ℕ, List, [], ◌∷◌, ◌++◌, map, Result, Ok, Err, refl, sym, ap, ◌∙◌}
use Rattle.std.specs.Prelude.{Box, Vec}
use Rattle.std.specs.declared.alloc.Global.{Global}
use Rattle.std.proofs.lemmas.List.{map-append}
use Rattle.theory.specs.Form.{steps, snoc}
use Rattle.bql_tree.specs.Cause.{both}
use Rattle.bql_tree.specs.Call.{pushed, one_more, all_of}
use Rattle.bql_tree.specs.Part as specs
use Rattle.bql_tree.specs.Part.{part_of, parts_in, tree_found, trees_found, list_of_trees, not_null}
use mathlib.Core.Former.{Count}
use Rattle.bql_tree.specs.Tree.{call_of, node, trees, all_trees, tree_of}
use Rattle.bql_tree.specs.Tree.{trees_of, row_trees}
use Rattle.bql_tree.specs.declared.function.Function.{Function}
use Rattle.bql_tree.specs.declared.cause.PartCause.{PartCause}
use Rattle.bql_tree.specs.declared.part.Part.{Part}
use Rattle.bql_tree.specs.declared.tree.Expr.{Expr, Row_of-Expr, end_of-Expr, more_of-Expr}
use Rattle.bql_tree.specs.declared.tree.Expr.{items-the_row-Expr, items_hidden-the_row-Expr-0}
use Rattle.bql_tree.specs.declared.tree.Expr.{Call', Call}

ok_is : {A E : Type 0} (a b : A) → ◌≡◌ {A = Result A E} (Ok a) (Ok b) → a ≡ b
ok_is a b e = cc

pub pushed_is : (found : Result (Vec Expr Global) PartCause) (next : Result (Box Expr Global) PartCause)
    (exprs : Vec Expr Global) (e : Box Expr Global) (all : List Expr) (p : specs.Part)
    → both found next ≡ Ok (exprs, e) → tree_found next ≡ not_null p.tree
    → all ≡ exprs.items ++ e.value ∷ [] → Ok (list_of_trees all) ≡ one_more (trees_found found) p
pushed_is (Ok v) (Ok x) exprs e all p at is items =
    let both_are = ok_is (v, x) (exprs, e) at in
    let same = ap (λ q. q.0) both_are in
    let last = ap (λ q. q.1) both_are in
    ap (λ xs. Ok (list_of_trees xs)) items
    ∙ ap Ok (map-append tree_of exprs.items (e.value ∷ []))
    ∙ ap (λ w. Ok (map tree_of w.items ++ tree_of e.value ∷ [])) (sym same)
    ∙ ap (λ y. Ok (map tree_of v.items ++ tree_of y.value ∷ [])) (sym last)
    ∙ ap (λ r. pushed (both (trees_found (Ok v)) r)) is
pushed_is (Ok v) (Err c) exprs e all p at is items = absurd cc
pushed_is (Err d) (Ok x) exprs e all p at is items = absurd cc
pushed_is (Err d) (Err c) exprs e all p at is items = absurd cc

steps_snoc : {S V : Type 0} (f : S → V → S) (s : S) (vs : List V) (v : V)
    → steps f s (vs ++ v ∷ []) ≡ f (steps f s vs) v
steps_snoc f s [] v = refl
steps_snoc f s (w ∷ vs) v = steps_snoc f (f s w) vs v

-- one part more
pub all_of_more : (ps : List Part) (p : Part) → all_of (parts_in (ps ++ p ∷ []))
    ≡ one_more (all_of (parts_in ps)) (part_of p)
all_of_more ps p = ap (steps one_more (Ok [])) (map-append part_of ps (p ∷ []))
    ∙ steps_snoc one_more (Ok []) (parts_in ps) (part_of p)

-- The arguments of a call, as a row and as a list.

all_is : (xs : List Expr) → trees_of xs ≡ all_trees (map tree_of xs)
all_is [] = refl
all_is (x ∷ xs) = ap (trees (tree_of x)) (all_is xs)

row_is : (n : _) (row : Row_of-Expr n) → row_trees row ≡ trees_of (items-the_row-Expr n row)
row_is n end_of-Expr = refl
row_is n (more_of-Expr x rest) = ap (trees (tree_of x)) (row_is _ rest)

abbrev row_of : Expr → (n : Count) × Row_of-Expr n
row_of (Call' at f shape row) = (_, row)
row_of _ = (_, end_of-Expr)

pub tree_of_call : (at : ℕ) (f : Function) (v : Vec Expr Global)
    → tree_of (Call at f v) ≡ node at (call_of f) (all_trees (list_of_trees v.items))
tree_of_call at f v =
    let row = row_of (Call at f v) in
    ap (node at (call_of f)) (row_is row.0 row.1 ∙ ap trees_of (items_hidden-the_row-Expr-0 v)
    ∙ all_is v.items)

-- one part more
pub parts_more : (ps : List Part) (p : Part) (qs : List Part) → qs ≡ ps ++ p ∷ []
    → parts_in qs ≡ snoc (parts_in ps) (part_of p)
parts_more ps p qs e = ap parts_in e ∙ map-append part_of ps (p ∷ [])
