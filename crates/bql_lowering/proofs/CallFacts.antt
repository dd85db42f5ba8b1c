-- Calls, by their arguments.
use Rattle.std.proofs.Common.{◌≡◌, ◌≤◌, ◌<◌, ◌-◌, ℕ, suc, true, false, List, [], ◌∷◌}
use Rattle.std.proofs.Common.{length, take, drop, get_or, Option, refl, sym, ap, ap₂, subst, ◌∙◌, arith}
use Rattle.std.proofs.Common.{if◌then◌else◌}
use Rattle.std.proofs.lemmas.List.{take_all}
use denote.Enum.Bare.{sameb}
use Rattle.limits.specs.declared.bounds.Bounds.{Bounds}
use Rattle.bql_code.specs.Core.{aggregate, Core, key, loading, truth}
use Rattle.bql_parser.specs.Small.{IsSmallTree}
use Rattle.bql_plan.specs.Plan.{index_of}
use Rattle.bql_tree.specs.Tree.{call_of, Operation, two_of, Tree, node, Trees, no_trees, trees}
use Rattle.bql_tree.specs.Tree.{tree_of, trees_of}
use Rattle.bql_tree.specs.contracts.function.Function as functions
use Rattle.bql_tree.specs.declared.function.Function.{Function}
use Rattle.bql_tree.specs.declared.function.Function.TheVariants as function
use Rattle.bql_tree.specs.declared.tree.BinaryOperator.{BinaryOperator}
use Rattle.bql_tree.specs.declared.tree.BinaryOperator.TheVariants as binary
use Rattle.bql_tree.specs.declared.tree.Expr.{Expr}
use Rattle.bql_types.specs.Shaped.{is_null, shape_of}
use Rattle.bql_lowering.specs.Listed.{HasShape, IsListed}
use Rattle.bql_lowering.specs.Lowered.{Gathered, by_operation, has, in_list, list_places, lowered}
use Rattle.bql_lowering.specs.Lowered.{of_binary, of_function, of_null, places_in, places_of}
use Rattle.bql_lowering.specs.Lowered.{wants_places}
use Rattle.bql_lowering.proofs.ListFacts.{is_listed}

-- ---- which function it is

pub is_list : (f : Function) → sameb functions.the_type f function.OneOf ≡ true → f ≡ function.OneOf
is_list function.OneOf e = refl
is_list f e = absurd cc

pub no_list : (f : Function) → sameb functions.the_type f function.OneOf ≡ false
    → f ≡ function.OneOf → ⊥
no_list function.OneOf e is = absurd cc
no_list f e is = absurd cc

-- ---- what is neither a key nor an aggregate

below : (b : Bounds) (g : Gathered) (e : Tree ℕ) (at : ℕ) (op : Operation) (ts : Trees ℕ)
    → e ≡ node at op ts → has g.keys e ≡ false → has g.aggregates e ≡ false
    → by_operation b g op ts ≡ lowered b g e
below b g e at op ts is k a =
    let t = node at op ts in
    sym (ap (lowered b g) is
    ∙ ap (λ z. if z then loading (key (index_of g.keys t))
    else if has g.aggregates t then loading (aggregate (index_of g.aggregates t))
    else by_operation b g op ts) (sym (ap (has g.keys) is) ∙ k)
    ∙ ap (λ z. if z then loading (aggregate (index_of g.aggregates t))
    else by_operation b g op ts) (sym (ap (has g.aggregates) is) ∙ a))

pub below_call : (b : Bounds) (g : Gathered) (e : Tree ℕ) (at : ℕ) (f : Function) (ts : Trees ℕ)
    → e ≡ node at (call_of f) ts → has g.keys e ≡ false → has g.aggregates e ≡ false
    → by_operation b g (call_of f) ts ≡ lowered b g e
below_call b g e at f ts is k a = below b g e at (call_of f) ts is k a

-- an operation between two expressions of which none is NULL
pub below_two : (b : Bounds) (g : Gathered) (e : Tree ℕ) (at : ℕ) (op : BinaryOperator)
    (t u : Tree ℕ) → e ≡ node at (two_of op) (trees t (trees u no_trees))
    → has g.keys e ≡ false → has g.aggregates e ≡ false → is_null u ≡ false → is_null t ≡ false
    → of_binary op (places_of b g t) (places_of b g u) (lowered b g t) (lowered b g u)
    ≡ lowered b g e
below_two b g e at op t u is k a right left =
    let r = of_binary op (places_of b g t) (places_of b g u) (lowered b g t) (lowered b g u) in
    sym (ap (λ z. if z then of_null op (lowered b g t)
    else if is_null t then of_null op (lowered b g u) else r) right
    ∙ ap (λ z. if z then of_null op (lowered b g u) else r) left)
    ∙ below b g e at (two_of op) (trees t (trees u no_trees)) is k a

-- what an operation doesn't ask for makes no difference
pub as_asked : (op : BinaryOperator) (p q r s : Option ℕ) (x y : Core)
    → (wants_places op ≡ true → p ≡ r) → (wants_places op ≡ true → q ≡ s)
    → of_binary op p q x y ≡ of_binary op r s x y
as_asked binary.Or p q r s x y h k = refl
as_asked binary.And p q r s x y h k = refl
as_asked binary.In p q r s x y h k = refl
as_asked binary.Times p q r s x y h k = refl
as_asked op p q r s x y h k = ap₂ (λ a b. of_binary op a b x y) (h refl) (k refl)

-- ---- lists

others : (e : Expr) (es : List Expr) → take (length (e ∷ es) - 1) (drop 1 (e ∷ es)) ≡ es
others e es = take_all (suc (length es) - 1) es (omega arith)

no_parts : (b : Bounds) → HasShape b (node 0 (call_of function.OneOf) no_trees) → ⊥
no_parts b e = absurd cc

list_listed : (b : Bounds) (es : List Expr) (x : Expr) (p : Option ℕ) → x ≡ get_or es 0 x
    → p ≡ places_in (shape_of b (tree_of x))
    → IsSmallTree (node 0 (call_of function.OneOf) (trees_of es))
    → HasShape b (node 0 (call_of function.OneOf) (trees_of es))
    → IsListed (list_places p (trees_of (take (length es - 1) (drop 1 es))))
    (trees_of (take (length es - 1) (drop 1 es)))
list_listed b [] x p is e small shaped = absurd (no_parts b shaped)
list_listed b (y ∷ es) x p is e small shaped =
    let places : places_in (shape_of b (tree_of y)) ≡ p =
    ap (λ z. places_in (shape_of b (tree_of z))) (sym is) ∙ sym e in
    let h = small.0 in
    let listed = is_listed b 0 (tree_of y) (trees_of es) shaped (h.0, h.1, small.1.1, h.2) in
    subst (λ rest. IsListed (list_places p (trees_of rest)) (trees_of rest)) (sym (others y es))
    (subst (λ q. IsListed (list_places q (trees_of es)) (trees_of es)) places listed)

pub call_listed : (b : Bounds) (f : Function) (es : List Expr) (x : Expr) (p : Option ℕ)
    → f ≡ function.OneOf → x ≡ get_or es 0 x → p ≡ places_in (shape_of b (tree_of x))
    → IsSmallTree (node 0 (call_of f) (trees_of es)) → HasShape b (node 0 (call_of f) (trees_of es))
    → IsListed (list_places p (trees_of (take (length es - 1) (drop 1 es))))
    (trees_of (take (length es - 1) (drop 1 es)))
call_listed b f es x p list is e small shaped =
    list_listed b es x p is e
    (subst (λ g. IsSmallTree (node 0 (call_of g) (trees_of es))) list small)
    (subst (λ g. HasShape b (node 0 (call_of g) (trees_of es))) list shaped)

list_lowered : (b : Bounds) (g : Gathered) (es : List Expr) (x : Expr) (p : Option ℕ)
    → x ≡ get_or es 0 x → p ≡ places_in (shape_of b (tree_of x))
    → HasShape b (node 0 (call_of function.OneOf) (trees_of es))
    → in_list p (lowered b g (tree_of x)) (trees_of (take (length es - 1) (drop 1 es)))
    ≡ by_operation b g (call_of function.OneOf) (trees_of es)
list_lowered b g [] x p is e shaped = absurd (no_parts b shaped)
list_lowered b g (y ∷ es) x p is e shaped =
    ap (λ q. in_list q (lowered b g (tree_of x)) (trees_of (take (length (y ∷ es) - 1) (drop 1 (y ∷ es))))) e
    ∙ ap (λ rest. in_list (places_in (shape_of b (tree_of x))) (lowered b g (tree_of x)) (trees_of rest)) (others y es)
    ∙ ap (λ z. in_list (places_in (shape_of b (tree_of z))) (lowered b g (tree_of z)) (trees_of es)) is

pub call_in_list : (b : Bounds) (g : Gathered) (f : Function) (es : List Expr) (x : Expr)
    (p : Option ℕ) → f ≡ function.OneOf → x ≡ get_or es 0 x
    → p ≡ places_in (shape_of b (tree_of x)) → HasShape b (node 0 (call_of f) (trees_of es))
    → in_list p (lowered b g (tree_of x)) (trees_of (take (length es - 1) (drop 1 es)))
    ≡ by_operation b g (call_of f) (trees_of es)
call_in_list b g f es x p list is e shaped =
    list_lowered b g es x p is e
    (subst (λ h. HasShape b (node 0 (call_of h) (trees_of es))) list shaped)
    ∙ ap (λ h. by_operation b g (call_of h) (trees_of es)) (sym list)

-- ---- other functions

many_parts : (b : Bounds) (g : Gathered) (f : Function) (t u : Tree ℕ) (ts : Trees ℕ)
    → (f ≡ function.OneOf → ⊥)
    → loading (truth false) ≡ by_operation b g (call_of f) (trees t (trees u ts))
many_parts b g function.OneOf t u ts h = absurd (h refl)
many_parts b g f t u ts h = refl

pub many_arguments : (b : Bounds) (g : Gathered) (f : Function) (es : List Expr)
    → (f ≡ function.OneOf → ⊥) → 1 < length es
    → loading (truth false) ≡ by_operation b g (call_of f) (trees_of es)
many_arguments b g f [] h l = absurd (omega (arith, l))
many_arguments b g f (x ∷ []) h l = absurd (omega (arith, l))
many_arguments b g f (x ∷ y ∷ es) h l = many_parts b g f (tree_of x) (tree_of y) (trees_of es) h

one_part : (b : Bounds) (g : Gathered) (f : Function) (t : Tree ℕ) → (f ≡ function.OneOf → ⊥)
    → of_function f (lowered b g t) ≡ by_operation b g (call_of f) (trees t no_trees)
one_part b g function.OneOf t h = absurd (h refl)
one_part b g f t h = refl

shaped_not_empty : (b : Bounds) (f : Function) → (f ≡ function.OneOf → ⊥)
    → HasShape b (node 0 (call_of f) no_trees) → ⊥
shaped_not_empty b function.OneOf h e = absurd (h refl)
shaped_not_empty b f h e = absurd cc

pub one_argument : (b : Bounds) (g : Gathered) (f : Function) (es : List Expr) (x : Expr)
    → (f ≡ function.OneOf → ⊥) → length es ≤ 1 → x ≡ get_or es 0 x
    → HasShape b (node 0 (call_of f) (trees_of es))
    → of_function f (lowered b g (tree_of x)) ≡ by_operation b g (call_of f) (trees_of es)
one_argument b g f [] x h l is e = absurd (shaped_not_empty b f h e)
one_argument b g f (y ∷ []) x h l is e =
    ap (λ z. of_function f (lowered b g (tree_of z))) is ∙ one_part b g f (tree_of y) h
one_argument b g f (y ∷ z ∷ es) x h l is e = absurd (omega (arith, l))
