-- Shapes of arguments, one behind the other.
use Rattle.std.proofs.Common.{◌≡◌, ℕ, ◌+◌, ◌<◌, false, List, [], ◌∷◌, ◌++◌, Option, Some, None}
use Rattle.std.proofs.Common.{refl}
use Rattle.std.proofs.Common.{sym, ap, ◌∙◌, get_or, drop, length, append_assoc}
use Rattle.limits.specs.declared.bounds.Bounds.{Bounds}
use Rattle.bql_tree.specs.Tree.{Operation, one_of, two_of, call_of, Tree, node, Trees, trees}
use Rattle.bql_tree.specs.Tree.{no_trees, tree_of, trees_of}
use Rattle.bql_tree.specs.declared.function.Function.{Function}
use Rattle.bql_tree.specs.declared.tree.BinaryOperator.{BinaryOperator}
use Rattle.bql_tree.specs.declared.tree.Expr.{Expr}
use Rattle.bql_tree.specs.declared.tree.UnaryOperator.{UnaryOperator}
use Rattle.query_rows.specs.Rules.{Ruled}
use Rattle.query_rows.specs.declared.shape.Shape.{Shape}
use Rattle.bql_types.specs.Cause.{told}
use Rattle.bql_types.specs.Seen.{one_more, concluded, before, between, seen, seen_part, seen_all}
use Rattle.bql_types.specs.Seen.{all_of, list_of, part_causes}
use Rattle.bql_types.specs.Shaped.{beside, operand, shape_of, shapes_of, ruled, given, misfit_at}
use Rattle.bql_types.specs.Shaped.{is_equation, is_equality, shape_causes, all_shape_causes}
use Rattle.bql_types.specs.declared.cause.TypeCause.{TypeCause}
use Rattle.bql_types.specs.declared.shaped.Operand.{Operand}
use Rattle.bql_types.specs.declared.shaped.Operand.TheVariants.{Null, Shaped, Shapeless}
use Rattle.bql_types.specs.declared.shaped.Seen.{Seen}
use Rattle.bql_types.specs.declared.shaped.SeenAll.{SeenAll}
use Rattle.bql_types.specs.declared.shaped.SeenPart.{SeenPart}
use Rattle.bql_types.proofs.CauseFacts.{next_is, told_append}

abbrev pub behind : Option (List Shape) → Option (List Shape) → Option (List Shape)
behind (Some ss) (Some ts) = Some (ss ++ ts)
behind (Some ss) None = None
behind None ts = None

append_nil : (ss : List Shape) → ss ++ [] ≡ ss
append_nil [] = refl
append_nil (s ∷ ss) = ap (λ z. s ∷ z) (append_nil ss)

pub behind_all : (ss : Option (List Shape)) → behind ss (Some []) ≡ ss
behind_all (Some ss) = ap Some (append_nil ss)
behind_all None = refl

pub moved : (ss : Option (List Shape)) (s : Option Shape) (rest : Option (List Shape))
    → behind (one_more ss s) rest ≡ behind ss (beside (operand false s) rest)
moved (Some ss) (Some s) (Some rest) = ap Some (append_assoc ss (s ∷ []) rest)
moved (Some ss) (Some s) None = refl
moved (Some ss) None rest = refl
moved None (Some s) rest = refl
moved None None rest = refl

-- one argument less
pub one_shape_less : (b : Bounds) (es : List Expr) (i : ℕ) (e : Expr)
    (ss next whole : Option (List Shape)) → i < length es → e ≡ get_or es i e
    → next ≡ one_more ss (shape_of b (tree_of e))
    → behind ss (shapes_of b false (trees_of (drop i es))) ≡ whole
    → behind next (shapes_of b false (trees_of (drop (i + 1) es))) ≡ whole
one_shape_less b es i e ss next whole d g n h =
    let rest = shapes_of b false (trees_of (drop (i + 1) es)) in
    ap (λ z. behind z rest) n
    ∙ moved ss (shape_of b (tree_of e)) rest
    ∙ sym (ap (λ z. behind ss (shapes_of b false z)) (next_is es i e d g))
    ∙ h

-- ---- an operation, by what is known of its parts

pub concluded_is : (b : Bounds) (at : ℕ) (op : Operation) (parts : Trees ℕ)
    (found next : Option TypeCause) (r : Option Ruled)
    → r ≡ ruled b op (shapes_of b (is_equation op) parts)
    → next ≡ told found (all_shape_causes b (is_equation op) parts)
    → concluded at r next ≡ seen b found (node at op parts)
concluded_is b at op parts found next r is told_is =
    let all = all_shape_causes b (is_equation op) parts in
    let given_is = ruled b op (shapes_of b (is_equation op) parts) in
    ap (λ z. concluded at z next) is
    ∙ ap (concluded at given_is) told_is
    ∙ ap (λ z. told_with (given given_is) z) (sym (told_append found all (misfit_at at given_is)))
  where
    told_with : Option Shape → Option TypeCause → Seen
    told_with s f = record { shape = s; found = f }

pub before_is : (b : Bounds) (op : UnaryOperator) (s : Option Shape)
    → before op s ≡ ruled b (one_of op) (beside (operand false s) (Some []))
before_is b op (Some s) = refl
before_is b op None = refl

pub between_is : (b : Bounds) (op : BinaryOperator) (x y : Operand)
    → between op x y ≡ ruled b (two_of op) (beside x (beside y (Some [])))
between_is b op (Shaped s) (Shaped t) = refl
between_is b op (Shaped s) Null = refl
between_is b op (Shaped s) Shapeless = refl
between_is b op Null (Shaped t) = refl
between_is b op Null Null = refl
between_is b op Null Shapeless = refl
between_is b op Shapeless y = refl

pub one_seen : (b : Bounds) (e x : Tree ℕ) (at : ℕ) (op : UnaryOperator) (found : Option TypeCause) (s : Seen)
    → e ≡ node at (one_of op) (trees x no_trees) → s ≡ seen b found x
    → concluded at (before op s.shape) s.found ≡ seen b found e
one_seen b e x at op found s is h =
    concluded_is b at (one_of op) (trees x no_trees) found s.found (before op s.shape)
    (ap (λ z. before op z.shape) h ∙ before_is b op (shape_of b x))
    (ap (λ z. z.found) h ∙ sym (told_append found (shape_causes b x) []))
    ∙ sym (ap (seen b found) is)

pub two_seen : (b : Bounds) (e x y : Tree ℕ) (at : ℕ) (op : BinaryOperator) (found : Option TypeCause)
    (s t : SeenPart) → e ≡ node at (two_of op) (trees x (trees y no_trees))
    → s ≡ seen_part b op found x → t ≡ seen_part b op s.found y
    → concluded at (between op s.operand t.operand) t.found ≡ seen b found e
two_seen b e x y at op found s t is h k =
    let cx = part_causes b (is_equality op) x in
    let cy = part_causes b (is_equality op) y in
    concluded_is b at (two_of op) (trees x (trees y no_trees)) found t.found
    (between op s.operand t.operand)
    (ap (λ z. between op z.operand t.operand) h
    ∙ ap (λ z. between op (seen_part b op found x).operand z.operand) k
    ∙ between_is b op (seen_part b op found x).operand (seen_part b op s.found y).operand)
    (ap (λ z. z.found) k ∙ ap (λ z. told z.found cy) h
    ∙ sym (told_append found cx (cy ++ []) ∙ told_append (told found cx) cy []))
    ∙ sym (ap (seen b found) is)

pub call_seen : (b : Bounds) (e : Tree ℕ) (at : ℕ) (f : Function) (ts : Trees ℕ)
    (found : Option TypeCause) (s : SeenAll) (r : Option Ruled) → e ≡ node at (call_of f) ts
    → all_of s ≡ seen_all b found ts → r ≡ ruled b (call_of f) (list_of s.shapes)
    → concluded at r s.found ≡ seen b found e
call_seen b e at f ts found s r is h k =
    concluded_is b at (call_of f) ts found s.found r
    (k ∙ ap (λ z. ruled b (call_of f) z.shapes) h)
    (ap (λ z. z.found) h)
    ∙ sym (ap (seen b found) is)
