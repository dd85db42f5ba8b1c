-- Operations of queries have values of the shapes that their rules give.
use Rattle.std.proofs.Common.{◌≡◌, ℕ, ◌≤◌, max, Bool, true, false, ◌&&◌, ◌||◌, List, [], ◌∷◌}
use Rattle.std.proofs.Common.{length}
use Rattle.std.proofs.Common.{Some, None, Ok, Err, refl, sym, ap, subst, ◌∙◌, cond, ◌⊎◌, inl, inr}
use Rattle.limits.specs.declared.bounds.Bounds.{Bounds}
use Rattle.bql_rules.specs.Rules as rule
use Rattle.bql_rules.specs.Rules.{by_machine, of_both, of_truths, one_of}
use Rattle.bql_rules.specs.Rules.{greatest_places, sum_over}
use Rattle.bql_rules.specs.Rules.{is_held_with, are_alike, call_shape}
use Rattle.bql_tree.specs.declared.function.Function.{Function}
use Rattle.bql_tree.specs.declared.function.Function.TheVariants as function
use Rattle.bql_tree.specs.declared.tree.BinaryOperator.{BinaryOperator}
use Rattle.bql_tree.specs.declared.tree.BinaryOperator.TheVariants as binary
use Rattle.bql_tree.specs.declared.tree.UnaryOperator.{UnaryOperator}
use Rattle.bql_tree.specs.declared.tree.UnaryOperator.TheVariants as unary
use Rattle.bql_types.specs.Sought.{is_aggregate_function}
use Rattle.std.specs.List.{list_all}
use Rattle.query_rows.proofs.BinaryFacts.{binary_keeps}
use Rattle.query_rows.proofs.GatheringFacts.{on_values}
use Rattle.query_rows.proofs.UnaryFacts.{unary_keeps}
use Rattle.query_rows.specs.Keeping.{Has, AllIn}
use Rattle.query_rows.specs.Rules as machine
use Rattle.query_rows.specs.Rules.{Ruled}
use Rattle.query_rows.specs.Shape.{LiesIn}
use Rattle.query_rows.specs.declared.shape.Misfit.TheVariants.{Kind, TooWide}
use Rattle.query_rows.specs.declared.shape.Shape.{Shape}
use Rattle.query_rows.specs.declared.shape.Shape.TheVariants as shape
use Rattle.query_values.specs.Aggregate.{aggregate_of}
use Rattle.query_values.specs.Arithmetic.{aligned}
use Rattle.query_values.specs.Held.{is_held, checked}
use Rattle.query_values.specs.Operand.{may_unary, may_binary}
use Rattle.query_values.specs.Operation.{is_true, is_among, unary_value, binary_value}
use Rattle.query_values.specs.Unary as operation
use Rattle.query_values.specs.declared.operation.Aggregate.{Aggregate}
use Rattle.query_values.specs.declared.operation.Aggregate.TheVariants as aggregate
use Rattle.query_values.specs.declared.operation.Binary as operations
use Rattle.query_values.specs.declared.operation.Binary.TheVariants as machines
use Rattle.query_values.specs.declared.value.Value.{Value}
use Rattle.query_values.specs.declared.value.Value.TheVariants.{Null, Truth}
use Rattle.bql_meaning.specs.Alignment.{is_aligned}
use Rattle.bql_meaning.specs.Meaning.{one_value, two_value, of_one, call_value}
use Rattle.bql_types.specs.Gathered.{of_call}
use Rattle.bql_meaning.proofs.AlignmentFacts.{alike}

-- what is there lies in the shape that is there
pub kept : (may : Bool) (v : Value) (r : Ruled) (u : Shape) → Has (checked may v) r → r ≡ Ok u
    → LiesIn v u
kept may v (Err m) u h e = absurd cc
kept may v (Ok s) u h e = let is : s ≡ u = cc in subst (LiesIn v) is (by (may && is_held v) h)
  where
    by : (b : Bool) → Has (cond b (Some v) None) (Ok s) → LiesIn v s
    by true h = h
    by false h = absurd h

pub by_one : (op : operation.Unary) (x : Value) (s u : Shape) → LiesIn x s
    → machine.unary_shape op s ≡ Ok u → LiesIn (unary_value op x) u
by_one op x s u h e =
    kept (may_unary op x) (unary_value op x) (machine.unary_shape op s) u (unary_keeps op x s h) e

pub by_two : (op : operations.Binary) (x y : Value) (s t u : Shape) → LiesIn x s → LiesIn y t
    → machine.binary_shape op s t ≡ Ok u → LiesIn (binary_value op x y) u
by_two op x y s t u h k e =
    kept (may_binary op x y) (binary_value op x y) (machine.binary_shape op s t) u
    (binary_keeps op x y s t h k) e

-- ---- operators

pub one_lies : (op : UnaryOperator) (x : Value) (s u : Shape) → LiesIn x s → rule.unary_shape op s ≡ Ok u
    → LiesIn (one_value op x) u
one_lies unary.Not x s u h e = by_one operation.Not x s u h e
one_lies unary.Minus x s u h e = by_one operation.Neg x s u h e
one_lies (unary.Matches p) x s u h e = by_one (operation.Match p) x s u h e
one_lies (unary.Root n) x s u h e = by_one (operation.Root n) x s u h e

-- both numbers are aligned first
both_lie : (op : operations.Binary) → is_aligned op ≡ true → (p q m n : ℕ) (x y : Value)
    (u : Shape) → LiesIn x (shape.Number p m) → LiesIn y (shape.Number q n) → (r t : Ruled)
    → machine.aligned (max p q) (shape.Number p m) ≡ r
    → machine.aligned (max p q) (shape.Number q n) ≡ t
    → of_both op r t ≡ Ok u → LiesIn (binary_value op x y) u
both_lie op is p q m n x y u h k (Err d) t first second e = absurd cc
both_lie op is p q m n x y u h k (Ok s) (Err d) first second e = absurd cc
both_lie op is p q m n x y u h k (Ok s) (Ok t) first second e =
    subst (λ v. LiesIn v u) (alike op is p q m n x y h k)
    (by_two op (aligned (max p q) x) (aligned (max p q) y) s t u
    (by_one (operation.Align (max p q)) x (shape.Number p m) s h first)
    (by_one (operation.Align (max p q)) y (shape.Number q n) t k second) e)

pub aligned_lie : (op : operations.Binary) → is_aligned op ≡ true → (x y : Value) (s t u : Shape)
    → LiesIn x s → LiesIn y t → by_machine op s t ≡ Ok u → LiesIn (binary_value op x y) u
aligned_lie op is x y (shape.Number p m) (shape.Number q n) u h k e =
    both_lie op is p q m n x y u h k _ _ refl refl e
aligned_lie op is x y s t u h k e = by_two op x y s t u h k e

truths_give : (s t u : Shape) → of_truths s t ≡ Ok u → u ≡ shape.Truth
truths_give shape.Truth shape.Truth u e = cc
truths_give s t u e = absurd cc

truth_lies : (b : Bool) (u : Shape) → u ≡ shape.Truth → LiesIn (Truth b) u
truth_lies b u e = subst (LiesIn (Truth b)) (sym e) tt

pub two_lies : (op : BinaryOperator) (x y : Value) (s t u : Shape) → LiesIn x s → LiesIn y t
    → rule.binary_shape op s t ≡ Ok u → LiesIn (two_value op x y) u
two_lies binary.Or x y s t u h k e = truth_lies (is_true x || is_true y) u (truths_give s t u e)
two_lies binary.And x y s t u h k e = truth_lies (is_true x && is_true y) u (truths_give s t u e)
two_lies binary.Equal x y s t u h k e = aligned_lie machines.Equal refl x y s t u h k e
two_lies binary.NotEqual x y s t u h k e = aligned_lie machines.NotEqual refl x y s t u h k e
two_lies binary.Less x y s t u h k e = aligned_lie machines.Less refl x y s t u h k e
two_lies binary.LessOrEqual x y s t u h k e = aligned_lie machines.AtMost refl x y s t u h k e
two_lies binary.Greater x y s t u h k e = aligned_lie machines.Greater refl x y s t u h k e
two_lies binary.GreaterOrEqual x y s t u h k e = aligned_lie machines.AtLeast refl x y s t u h k e
two_lies binary.In x y s t u h k e = by_two machines.InSet x y s t u h k e
two_lies binary.Plus x y s t u h k e = aligned_lie machines.Add refl x y s t u h k e
two_lies binary.Minus x y s t u h k e = aligned_lie machines.Sub refl x y s t u h k e
two_lies binary.Times x y s t u h k e = by_two machines.Mul x y s t u h k e

-- a shape that has one truth value has both
any_truth : (a b : Bool) (u : Shape) → LiesIn (Truth a) u → LiesIn (Truth b) u
any_truth a b shape.Truth h = tt
any_truth a b shape.Text h = absurd h
any_truth a b shape.Day h = absurd h
any_truth a b shape.Set h = absurd h
any_truth a b (shape.Number p m) h = absurd h
any_truth a b (shape.Amount p m) h = absurd h
any_truth a b (shape.Position v w) h = absurd h
any_truth a b (shape.Inventory p v w) h = absurd h

-- what an equation gives
pub equations_give_truth : (op : BinaryOperator) (s t u : Shape) (a : Bool)
    → (op ≡ binary.Equal) ⊎ (op ≡ binary.NotEqual) → rule.binary_shape op s t ≡ Ok u
    → LiesIn (Truth a) u
equations_give_truth op s t u a (inl is) e =
    any_truth true a u
    (aligned_lie machines.Equal refl Null Null s t u tt tt
    (ap (λ o. rule.binary_shape o s t) (sym is) ∙ e))
equations_give_truth op s t u a (inr is) e =
    any_truth false a u
    (aligned_lie machines.NotEqual refl Null Null s t u tt tt
    (ap (λ o. rule.binary_shape o s t) (sym is) ∙ e))

-- ---- calls

pub of_one_lies : (n : ℕ) (f : Function) (x : Value) (s u : Shape) → LiesIn x s
    → is_aggregate_function f ≡ false → rule.of_one n f s ≡ Ok u → LiesIn (of_one f x) u
of_one_lies n function.Parent x s u h plain e = by_one operation.Parent x s u h e
of_one_lies n function.Leaf x s u h plain e = by_one operation.Leaf x s u h e
of_one_lies n function.Length x s u h plain e = by_one operation.Length x s u h e
of_one_lies n function.Units x s u h plain e = by_one operation.Units x s u h e
of_one_lies n function.Cost x s u h plain e = by_one operation.Cost x s u h e
of_one_lies n function.Year x s u h plain e = by_one operation.Year x s u h e
of_one_lies n function.Month x s u h plain e = by_one operation.Month x s u h e
of_one_lies n function.Day x s u h plain e = by_one operation.Day x s u h e
of_one_lies n function.Number x s u h plain e = by_one operation.Number x s u h e
of_one_lies n function.Currency x s u h plain e = by_one operation.Currency x s u h e
of_one_lies n function.Abs x s u h plain e = by_one operation.Abs x s u h e
of_one_lies n function.RootRank x s u h plain e = by_one operation.RootRank x s u h e
of_one_lies n f x s u h plain e = tt

list_gives : (s u : Shape) (ss : List Shape) → one_of s ss ≡ Ok u → u ≡ shape.Truth
list_gives s u ss e =
    by (are_alike s s && list_all (are_alike s) ss)
    (list_all (is_held_with (greatest_places s ss)) (s ∷ ss)) e
  where
    by : (a b : Bool) → cond a (cond b (Ok shape.Truth) (Err TooWide)) (Err Kind) ≡ Ok u
        → u ≡ shape.Truth
    by true true e = cc
    by true false e = absurd cc
    by false b e = absurd cc

-- the values of some parts, each of its shape
abbrev pub AllLie : List Value → List Shape → Type 0
AllLie [] [] = Unit {0}
AllLie (x ∷ xs) (s ∷ ss) = LiesIn x s × AllLie xs ss
AllLie xs ss = ⊥

pub call_lies : (b : Bounds) (f : Function) (xs : List Value) (ss : List Shape) (u : Shape)
    → AllLie xs ss → is_aggregate_function f ≡ false → call_shape b f ss ≡ Ok u
    → LiesIn (call_value f xs) u
call_lies b function.OneOf [] ss u all plain e = tt
call_lies b function.OneOf (x ∷ xs) [] u all plain e = absurd all
call_lies b function.OneOf (x ∷ xs) (s ∷ ss) u all plain e =
    truth_lies (is_among xs x) u (list_gives s u ss e)
call_lies b f [] ss u all plain e = tt
call_lies b f (x ∷ []) [] u all plain e = absurd all
call_lies b f (x ∷ []) (s ∷ []) u all plain e = of_one_lies b.postings f x s u all.0 plain e
call_lies b f (x ∷ []) (s ∷ t ∷ ss) u all plain e = absurd all.1
call_lies b f (x ∷ y ∷ xs) ss u all plain e = tt

-- ---- aggregates

by_many : (a : Aggregate) (n : ℕ) (s u : Shape) (xs : List Value) → length xs ≤ n → AllIn s xs
    → machine.aggregate_shape n a (Some s) ≡ Ok u → LiesIn (aggregate_of a xs) u
by_many a n s u xs few all e =
    kept true (aggregate_of a xs) (machine.aggregate_shape n a (Some s)) u
    (on_values a n s xs few all) e

pub gathered_lies : (n : ℕ) (f : Function) (s u : Shape) (xs : List Value)
    → is_aggregate_function f ≡ true → length xs ≤ n → AllIn s xs → rule.of_one n f s ≡ Ok u
    → LiesIn (aggregate_of (of_call f (Some (s ∷ []))) xs) u
gathered_lies n function.Count s u xs is few all e = by_many aggregate.Count n s u xs few all e
gathered_lies n function.Sum s u xs is few all e = by_many (sum_over s) n s u xs few all e
gathered_lies n function.First s u xs is few all e = by_many aggregate.First n s u xs few all e
gathered_lies n function.Last s u xs is few all e = by_many aggregate.Last n s u xs few all e
gathered_lies n function.Min s u xs is few all e = by_many aggregate.Min n s u xs few all e
gathered_lies n function.Max s u xs is few all e = by_many aggregate.Max n s u xs few all e
gathered_lies n f s u xs is few all e = absurd cc
