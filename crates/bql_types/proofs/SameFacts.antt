-- Lists of expressions that aren't the same.
use Rattle.std.proofs.Common.{◌≡◌, ◌≢◌, suc, Bool, true, false, ◌&&◌, List, [], ◌∷◌, length, refl}
use Rattle.std.proofs.Common.{ap}
use Rattle.std.proofs.Common.{◌∙◌, ℕ, sym}
use denote.Enum.Bare.{sameb}
use Rattle.bql_tree.specs.Tree.{call_of, Tree, node, Trees, tree_of, trees_of}
use Rattle.bql_tree.specs.contracts.function.Function as functions
use Rattle.bql_tree.specs.declared.function.Function.{Function}
use Rattle.bql_tree.specs.declared.tree.Expr.{Expr}
use Rattle.bql_types.specs.Same.{same, all_same}

and_false : (b : Bool) → (b && false) ≡ false
and_false true = refl
and_false false = refl

-- as many are there where all are the same
pub unlike : (xs ys : List Expr) → length xs ≢ length ys
    → all_same (trees_of xs) (trees_of ys) ≡ false
unlike [] [] h = absurd (h refl)
unlike [] (y ∷ ys) h = refl
unlike (x ∷ xs) [] h = refl
unlike (x ∷ xs) (y ∷ ys) h =
    ap (λ b. same (tree_of x) (tree_of y) && b) (unlike xs ys (λ e. h (ap suc e)))
    ∙ and_false (same (tree_of x) (tree_of y))

-- calls of the same function, with the same arguments
pub calls_same : (r : Bool) (x y : Tree ℕ) (p q : ℕ) (f g : Function) (xs ys : Trees ℕ)
    → x ≡ node p (call_of f) xs → y ≡ node q (call_of g) ys
    → sameb functions.the_type f g ≡ true → r ≡ all_same xs ys → r ≡ same x y
calls_same r x y p q f g xs ys hx hy h k =
    k
    ∙ sym (ap (λ z. same z y) hx ∙ ap (same (node p (call_of f) xs)) hy
    ∙ ap (λ z. z && all_same xs ys) h)
