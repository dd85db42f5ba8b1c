-- What operators are lowered to has the shape that their rule gives.
use Rattle.std.proofs.Common.{◌≡◌, ℕ, ◌-◌, ◌*◌, ◌^◌, ◌≤◌, max, Bool, true, false, cond}
use Rattle.std.proofs.Common.{List, Some, Ok, Err, refl, sym, ap, ◌∙◌, subst, ⊎_elim}
use Rattle.std.proofs.Common.{arith}
use Rattle.std.specs.Prelude.{nat_le, nat_lt}
use Rattle.std.proofs.lemmas.Bool.{cases_lt, le-leb, lt-ltb}
use Rattle.bql_code.specs.Core.{Core, changing, joining, plainly}
use Rattle.bql_lowering.specs.Lowered.{aligned, joined, of_binary, of_function, of_null}
use Rattle.bql_lowering.specs.Lowered.{places_in}
use Rattle.bql_rules.specs.Rules as rules
use Rattle.bql_rules.specs.Rules.{by_machine, of_both, of_one, of_truths}
use Rattle.bql_tree.specs.declared.function.Function.{Function}
use Rattle.bql_tree.specs.declared.function.Function.TheVariants as function
use Rattle.bql_tree.specs.declared.tree.BinaryOperator.{BinaryOperator}
use Rattle.bql_tree.specs.declared.tree.BinaryOperator.TheVariants as binary
use Rattle.bql_types.specs.Shaped.{beside_null}
use Rattle.bql_types.specs.Sought.{is_aggregate_function}
use Rattle.bql_compiler.specs.CoreShape.{HasShape}
use Rattle.query_code.specs.declared.instruction.Unary.TheVariants as operation
use Rattle.query_code.specs.declared.program.Constant.{Constant}
use Rattle.query_rows.specs.Rules as machine
use Rattle.query_rows.specs.Rules.{Ruled}
use Rattle.query_rows.specs.Shape.{fitting, is_held}
use Rattle.query_rows.specs.declared.shape.Misfit.TheVariants.{Kind, TooWide}
use Rattle.query_rows.specs.declared.shape.Shape.{Shape}
use Rattle.query_rows.specs.declared.shape.Shape.TheVariants.{Truth, Text, Day, Set, Number}
use Rattle.query_rows.specs.declared.shape.Shape.TheVariants.{Amount, Position, Inventory}
use Rattle.query_values.specs.declared.operation.Binary as two
use Rattle.query_values.specs.declared.operation.Binary.TheVariants as operations
use Rattle.well_shaped.specs.Sections.{Loads, given}

-- ---- decimals

-- what fits is itself
pub fits_as : (s t : Shape) → fitting s ≡ Ok t → t ≡ s
fits_as s t e = by (is_held s) e
  where
    by : (b : Bool) → cond b (Ok s) (Err TooWide) ≡ Ok t → t ≡ s
    by true e = cc
    by false e = cc

-- of its own decimals a number stays as it is
kept : (p q m : ℕ) (s : Shape) → p ≡ q → machine.aligned q (Number p m) ≡ Ok s → s ≡ Number p m
kept p q m s e made =
    fits_as (Number q (m * 10 ^ (q - p))) s (sym (is_most (nat_le p q) refl) ∙ made)
    ∙ (λ i. Number (sym e i) (same i))
  where
    same : m * 10 ^ (q - p) ≡ m
    same =
        let z : q - p ≡ 0 = omega (arith, e) in
        ap (λ k. m * 10 ^ k) z ∙ one m
      where
        one : (m : ℕ) → m * 10 ^ 0 ≡ m
        one m = omega arith

    is_most : (b : Bool) → nat_le p q ≡ b
        → machine.aligned q (Number p m) ≡ fitting (Number q (m * 10 ^ (q - p)))
    is_most b h =
        ap (λ b. cond b (fitting (Number q (m * 10 ^ (q - p)))) (Err Kind))
        (le-leb p q (omega (arith, e)))

module _ (pool : List Constant) (l : Loads) where
  -- a number that is brought to as many decimals or more
  pub aligned_shape : (p q m : ℕ) (s : Shape) (x : Core) → p ≤ q → HasShape pool l x (Number p m)
      → machine.aligned q (Number p m) ≡ Ok s → HasShape pool l (aligned (Some p) q x) s
  aligned_shape p q m s x le has made = by (nat_lt p q) refl
    where
      by : (b : Bool) → nat_lt p q ≡ b
          → HasShape pool l (cond b (changing (plainly (operation.Align q)) x) x) s
      by true e = (Number p m, has, ap given made)
      by false e = subst (HasShape pool l x) (sym (kept p q m s (no_less e) made)) has
        where
          no_less : nat_lt p q ≡ false → p ≡ q
          no_less e =
              ⊎_elim (λ less. absurd (true_false (sym (lt-ltb p q less) ∙ e)))
              (λ more. omega (arith, le, more)) (cases_lt p q)
            where
              true_false : true ≡ false → ⊥
              true_false e = cc

  -- ---- between two

  plain_joined : (op : two.Binary) (s t u : Shape) (x y : Core) → machine.binary_shape op s t ≡ Ok u
      → HasShape pool l x s → HasShape pool l y t → HasShape pool l (joining op x y) u
  plain_joined op s t u x y made hx hy = (s, t, hx, hy, ap given made)

  numbers_joined : (op : two.Binary) (p m q n : ℕ) (u : Shape) (x y : Core)
      → by_machine op (Number p m) (Number q n) ≡ Ok u → HasShape pool l x (Number p m)
      → HasShape pool l y (Number q n)
      → HasShape pool l (joined op (Some p) (Some q) x y) u
  numbers_joined op p m q n u x y made hx hy =
      by (machine.aligned (max p q) (Number p m)) (machine.aligned (max p q) (Number q n)) refl refl
      made
    where
      by : (a b : Ruled) → machine.aligned (max p q) (Number p m) ≡ a
          → machine.aligned (max p q) (Number q n) ≡ b → of_both op a b ≡ Ok u
          → HasShape pool l (joined op (Some p) (Some q) x y) u
      by (Ok s) (Ok t) ea eb e = (
        s,
        t,
        aligned_shape p (max p q) m s x (omega arith) hx ea,
        aligned_shape q (max p q) n t y (omega arith) hy eb,
        ap given e,
      )
      by (Ok s) (Err f) ea eb e = cc
      by (Err f) b ea eb e = cc

  pub joined_shape : (op : two.Binary) (s t u : Shape) (x y : Core) → by_machine op s t ≡ Ok u
      → HasShape pool l x s → HasShape pool l y t
      → HasShape pool l (joined op (places_in (Some s)) (places_in (Some t)) x y) u
  joined_shape op (Number p m) (Number q n) u x y e hx hy = numbers_joined op p m q n u x y e hx hy
  joined_shape op (Number p m) Truth u x y e hx hy = plain_joined op (Number p m) Truth u x y e hx hy
  joined_shape op (Number p m) Text u x y e hx hy = plain_joined op (Number p m) Text u x y e hx hy
  joined_shape op (Number p m) Day u x y e hx hy = plain_joined op (Number p m) Day u x y e hx hy
  joined_shape op (Number p m) Set u x y e hx hy = plain_joined op (Number p m) Set u x y e hx hy
  joined_shape op (Number p m) (Amount q n) u x y e hx hy =
      plain_joined op (Number p m) (Amount q n) u x y e hx hy
  joined_shape op (Number p m) (Position v w) u x y e hx hy =
      plain_joined op (Number p m) (Position v w) u x y e hx hy
  joined_shape op (Number p m) (Inventory q v w) u x y e hx hy =
      plain_joined op (Number p m) (Inventory q v w) u x y e hx hy
  joined_shape op Truth t u x y e hx hy = plain_joined op Truth t u x y e hx hy
  joined_shape op Text t u x y e hx hy = plain_joined op Text t u x y e hx hy
  joined_shape op Day t u x y e hx hy = plain_joined op Day t u x y e hx hy
  joined_shape op Set t u x y e hx hy = plain_joined op Set t u x y e hx hy
  joined_shape op (Amount p m) t u x y e hx hy = plain_joined op (Amount p m) t u x y e hx hy
  joined_shape op (Position v w) t u x y e hx hy = plain_joined op (Position v w) t u x y e hx hy
  joined_shape op (Inventory p v w) t u x y e hx hy =
      plain_joined op (Inventory p v w) t u x y e hx hy

  -- two truth values
  of_two_truths : (s t u : Shape) → of_truths s t ≡ Ok u
      → (s ≡ Truth) × (t ≡ Truth) × (u ≡ Truth)
  of_two_truths Truth Truth u e = (refl, refl, cc)
  of_two_truths Truth Text u e = cc
  of_two_truths Truth Day u e = cc
  of_two_truths Truth Set u e = cc
  of_two_truths Truth (Number q n) u e = cc
  of_two_truths Truth (Amount q n) u e = cc
  of_two_truths Truth (Position v w) u e = cc
  of_two_truths Truth (Inventory q v w) u e = cc
  of_two_truths Text t u e = cc
  of_two_truths Day t u e = cc
  of_two_truths Set t u e = cc
  of_two_truths (Number p m) t u e = cc
  of_two_truths (Amount p m) t u e = cc
  of_two_truths (Position v w) t u e = cc
  of_two_truths (Inventory p v w) t u e = cc

  pub binary_shape : (op : BinaryOperator) (s t u : Shape) (x y : Core)
      → rules.binary_shape op s t ≡ Ok u → HasShape pool l x s → HasShape pool l y t
      → HasShape pool l (of_binary op (places_in (Some s)) (places_in (Some t)) x y) u
  binary_shape binary.Or s t u x y e hx hy =
      let h = of_two_truths s t u e in
      (subst (HasShape pool l x) h.0 hx, subst (HasShape pool l y) h.1 hy, h.2)
  binary_shape binary.And s t u x y e hx hy =
      let h = of_two_truths s t u e in
      (subst (HasShape pool l x) h.0 hx, subst (HasShape pool l y) h.1 hy, h.2)
  binary_shape binary.Equal s t u x y e hx hy = joined_shape operations.Equal s t u x y e hx hy
  binary_shape binary.NotEqual s t u x y e hx hy = joined_shape operations.NotEqual s t u x y e hx hy
  binary_shape binary.Less s t u x y e hx hy = joined_shape operations.Less s t u x y e hx hy
  binary_shape binary.LessOrEqual s t u x y e hx hy = joined_shape operations.AtMost s t u x y e hx hy
  binary_shape binary.Greater s t u x y e hx hy = joined_shape operations.Greater s t u x y e hx hy
  binary_shape binary.GreaterOrEqual s t u x y e hx hy =
      joined_shape operations.AtLeast s t u x y e hx hy
  binary_shape binary.In s t u x y e hx hy = plain_joined operations.InSet s t u x y e hx hy
  binary_shape binary.Plus s t u x y e hx hy = joined_shape operations.Add s t u x y e hx hy
  binary_shape binary.Minus s t u x y e hx hy = joined_shape operations.Sub s t u x y e hx hy
  binary_shape binary.Times s t u x y e hx hy = plain_joined operations.Mul s t u x y e hx hy

  -- beside a NULL
  pub null_shape : (op : BinaryOperator) (s u : Shape) (x : Core) → beside_null op ≡ Ok u
      → HasShape pool l x s → HasShape pool l (of_null op x) u
  null_shape op s u x e hx = by op e
    where
      by : (op : BinaryOperator) → beside_null op ≡ Ok u → HasShape pool l (of_null op x) u
      by binary.NotEqual e = (Truth, (s, hx, refl), cc)
      by binary.Equal e = (s, hx, cc)
      by binary.Or e = cc
      by binary.And e = cc
      by binary.Less e = cc
      by binary.LessOrEqual e = cc
      by binary.Greater e = cc
      by binary.GreaterOrEqual e = cc
      by binary.In e = cc
      by binary.Plus e = cc
      by binary.Minus e = cc
      by binary.Times e = cc

  -- ---- functions of one argument

  pub function_shape : (n : ℕ) (f : Function) (s u : Shape) (x : Core)
      → is_aggregate_function f ≡ false → of_one n f s ≡ Ok u → HasShape pool l x s
      → HasShape pool l (of_function f x) u
  function_shape n function.Parent s u x plain e hx = (s, hx, ap given e)
  function_shape n function.Leaf s u x plain e hx = (s, hx, ap given e)
  function_shape n function.Length s u x plain e hx = (s, hx, ap given e)
  function_shape n function.Units s u x plain e hx = (s, hx, ap given e)
  function_shape n function.Cost s u x plain e hx = (s, hx, ap given e)
  function_shape n function.Year s u x plain e hx = (s, hx, ap given e)
  function_shape n function.Month s u x plain e hx = (s, hx, ap given e)
  function_shape n function.Day s u x plain e hx = (s, hx, ap given e)
  function_shape n function.Number s u x plain e hx = (s, hx, ap given e)
  function_shape n function.Currency s u x plain e hx = (s, hx, ap given e)
  function_shape n function.Abs s u x plain e hx = (s, hx, ap given e)
  function_shape n function.RootRank s u x plain e hx = (s, hx, ap given e)
  function_shape n function.Count s u x plain e hx = cc
  function_shape n function.Sum s u x plain e hx = cc
  function_shape n function.First s u x plain e hx = cc
  function_shape n function.Last s u x plain e hx = cc
  function_shape n function.Min s u x plain e hx = cc
  function_shape n function.Max s u x plain e hx = cc
  function_shape n function.Root s u x plain e hx = cc
  function_shape n function.Meta s u x plain e hx = cc
  function_shape n function.EntryMeta s u x plain e hx = cc
  function_shape n function.AnyMeta s u x plain e hx = cc
  function_shape n function.HasAccount s u x plain e hx = cc
  function_shape n function.OneOf s u x plain e hx = cc
