-- By lesser bounds expressions have lesser shapes, of the same kinds and decimals.
use Rattle.std.proofs.Common.{◌≡◌, ℕ, ◌≤◌, max, Bool, true, false, ◌&&◌, ◌==◌, List, []}
use Rattle.std.proofs.Common.{◌∷◌, Some, Ok, Err, refl, sym, ap, subst, ◌∙◌, cond, arith}
use Rattle.std.specs.Prelude.{fold, if◌then◌else◌}
use Rattle.std.specs.List.{list_all}
use Rattle.std.specs.Result.{is_ok}
use Rattle.limits.specs.declared.bounds.Bounds.{Bounds}
use Rattle.limits.specs.declared.bounds.Version.TheVariants.{Second}
use Rattle.bql_rules.specs.Rules as rule
use Rattle.bql_rules.specs.Rules.{by_machine, of_both, of_truths, one_of, greatest_places}
use Rattle.bql_rules.specs.Rules.{is_held_with, are_alike, call_shape, single, sum_over}
use Rattle.bql_rules.specs.Rules.{leaf_shape, places_of}
use Rattle.bql_tree.specs.declared.function.Function.{Function}
use Rattle.bql_tree.specs.declared.function.Function.TheVariants as function
use Rattle.bql_tree.specs.declared.tree.BinaryOperator.{BinaryOperator}
use Rattle.bql_tree.specs.declared.tree.BinaryOperator.TheVariants as binary
use Rattle.bql_tree.specs.declared.tree.Leaf.{Leaf}
use Rattle.bql_tree.specs.declared.tree.Leaf.TheVariants as leaf
use Rattle.bql_tree.specs.declared.tree.UnaryOperator.{UnaryOperator}
use Rattle.bql_tree.specs.declared.tree.UnaryOperator.TheVariants as unary
use Rattle.query_terms.proofs.NumberFacts.{second_has_all}
use Rattle.query_terms.specs.Column.{is_in}
use Rattle.query_rows.specs.ColumnShape.{column_shape}
use Rattle.query_terms.specs.declared.column.Column.{Column}
use Rattle.query_terms.specs.declared.column.Column.TheVariants as column
use Rattle.query_rows.proofs.GatheringFacts.{gathers_rise}
use Rattle.query_rows.proofs.RisingFacts.{unary_rises, binary_rises}
use Rattle.query_rows.proofs.OrderFacts.{reflexive, OfPairs, below_cases}
use Rattle.query_rows.specs.Keeping.{Under}
use Rattle.query_rows.specs.Rules as machine
use Rattle.query_rows.specs.Rules.{Ruled}
use Rattle.query_rows.specs.Shape.{IsBelow}
use Rattle.query_rows.specs.declared.shape.Misfit.TheVariants.{Kind, TooWide}
use Rattle.query_rows.specs.declared.shape.Shape.{Shape}
use Rattle.query_rows.specs.declared.shape.Shape.TheVariants as shape
use Rattle.query_values.specs.Unary as operation
use Rattle.query_values.specs.declared.operation.Aggregate.{Aggregate}
use Rattle.query_values.specs.declared.operation.Aggregate.TheVariants as aggregate
use Rattle.query_values.specs.declared.operation.Binary as operations
use Rattle.query_values.specs.declared.operation.Binary.TheVariants as machines

-- the least bounds
abbrev pub least : Bounds
least = record { schema = Second; postings = 0; units_digits = 0; value_digits = 0 }

-- a rule gives a shape that is below another
pub record Gives (r : Ruled) (s : Shape) : Type 0 where
  pub given : Shape
  pub is : r ≡ Ok given
  pub below : IsBelow given s

under : (r t : Ruled) (s : Shape) → Under r t → t ≡ Ok s → Gives r s
under r (Err m) s h e = absurd cc
under (Err m) (Ok t) s h e = absurd h
under (Ok u) (Ok t) s h e = let is : t ≡ s = cc in
    record { given = u; is = refl; below = subst (IsBelow u) is h }

column_below : (b : Bounds) (c : Column) → IsBelow (column_shape least c) (column_shape b c)
column_below b column.Date = tt
column_below b column.Year = (refl, omega arith)
column_below b column.Month = (refl, omega arith)
column_below b column.Day = (refl, omega arith)
column_below b column.Flag = tt
column_below b column.Payee = tt
column_below b column.Narration = tt
column_below b column.Tags = tt
column_below b column.Links = tt
column_below b column.Account = tt
column_below b column.PostingFlag = tt
column_below b column.Number = (refl, omega arith)
column_below b column.Currency = tt
column_below b column.CostNumber = (refl, omega arith)
column_below b column.CostCurrency = tt
column_below b column.CostDate = tt
column_below b column.CostLabel = tt
column_below b column.Position = (omega arith, omega arith)
column_below b column.Weight = (refl, omega arith)
column_below b column.Balance = (refl, omega arith, omega arith)
column_below b column.Lineno = (refl, omega arith)
column_below b column.Accounts = tt
column_below b column.Price = (refl, omega arith)

abbrev pub shape_if : Shape → Bool → Ruled
shape_if t known = if known then Ok t else Err Kind

-- a column has a shape where the schema knows it
pub column_with_shape : (known : Bool) (t s : Shape) → shape_if t known ≡ Ok s
    → (known ≡ true) × (t ≡ s)
column_with_shape true t s e = (refl, cc)
column_with_shape false t s e = absurd cc

pub leaf_lesser : (b : Bounds) (l : Leaf) (s : Shape) → leaf_shape b l ≡ Ok s
    → Gives (leaf_shape least l) s
leaf_lesser b (leaf.Column c) s e =
    let known = column_with_shape (is_in b.schema c) (column_shape b c) s e in record {
      given = column_shape least c;
      is = ap (shape_if (column_shape least c)) (second_has_all c);
      below = subst (IsBelow (column_shape least c)) known.1 (column_below b c);
    }
leaf_lesser b leaf.Null s e = absurd cc
leaf_lesser b (leaf.Number n) s e = record { given = s; is = e; below = reflexive s }
leaf_lesser b (leaf.TooWide t) s e = absurd cc
leaf_lesser b (leaf.Text t) s e = record { given = s; is = e; below = reflexive s }
leaf_lesser b (leaf.Day d) s e = record { given = s; is = e; below = reflexive s }
leaf_lesser b (leaf.Truth t) s e = record { given = s; is = e; below = reflexive s }
leaf_lesser b leaf.Rows s e =
    under (leaf_shape least leaf.Rows) (leaf_shape b leaf.Rows) s (refl, omega arith) e
leaf_lesser b (leaf.Meta x k) s e = record { given = s; is = e; below = reflexive s }
leaf_lesser b (leaf.HasAccount q) s e = record { given = s; is = e; below = reflexive s }

-- ---- operators

by_one : (op : operation.Unary) (u s t : Shape) → IsBelow u s → machine.unary_shape op s ≡ Ok t
    → Gives (machine.unary_shape op u) t
by_one op u s t h e =
    under (machine.unary_shape op u) (machine.unary_shape op s) t (unary_rises op u s h) e

pub one_lesser : (op : UnaryOperator) (u s t : Shape) → IsBelow u s → rule.unary_shape op s ≡ Ok t
    → Gives (rule.unary_shape op u) t
one_lesser unary.Not u s t h e = by_one operation.Not u s t h e
one_lesser unary.Minus u s t h e = by_one operation.Neg u s t h e
one_lesser (unary.Matches q) u s t h e = by_one (operation.Match q) u s t h e
one_lesser (unary.Root n) u s t h e = by_one (operation.Root n) u s t h e

by_two : (op : operations.Binary) (u v s t x : Shape) → IsBelow u s → IsBelow v t
    → machine.binary_shape op s t ≡ Ok x → Gives (machine.binary_shape op u v) x
by_two op u v s t x h k e =
    under (machine.binary_shape op u v) (machine.binary_shape op s t) x
    (binary_rises op u s v t h k) e

both_lesser : (op : operations.Binary) (q r m n : Ruled) (x : Shape) → Under q m → Under r n
    → of_both op m n ≡ Ok x → Gives (of_both op q r) x
both_lesser op q r (Err m) n x h k e = absurd cc
both_lesser op q r (Ok s) (Err n) x h k e = absurd cc
both_lesser op (Err q) r (Ok s) (Ok t) x h k e = absurd h
both_lesser op (Ok u) (Err r) (Ok s) (Ok t) x h k e = absurd k
both_lesser op (Ok u) (Ok v) (Ok s) (Ok t) x h k e = by_two op u v s t x h k e

-- the kinds in a row
abbrev kind_of : Shape → ℕ
kind_of shape.Truth = 0
kind_of shape.Text = 1
kind_of shape.Day = 2
kind_of shape.Set = 3
kind_of (shape.Number p m) = 4
kind_of (shape.Amount p m) = 5
kind_of (shape.Position v w) = 6
kind_of (shape.Inventory p v w) = 7

kind_below : (u s : Shape) → IsBelow u s → kind_of u ≡ kind_of s
kind_below = below_cases (λ u s. kind_of u ≡ kind_of s) (record {
  truth = refl;
  text = refl;
  day = refl;
  set = refl;
  number = λ p m n low. refl;
  amount = λ p m n low. refl;
  position = λ u v w z low less. refl;
  inventory = λ p u v w z low less. refl;
})

abbrev are_numbers : Shape → Shape → Bool
are_numbers s t = (kind_of s == 4) && (kind_of t == 4)

no_numbers : (op : operations.Binary) (s t : Shape) → are_numbers s t ≡ false
    → by_machine op s t ≡ machine.binary_shape op s t
no_numbers op (shape.Number p m) (shape.Number q n) e = absurd cc
no_numbers op s t e = refl

number_is : (s : Shape) → (kind_of s == 4) ≡ true
    → (p : ℕ) × (m : ℕ) × (s ≡ shape.Number p m)
number_is (shape.Number p m) e = (p, m, refl)
number_is s e = absurd cc

number_below : (u : Shape) (p m : ℕ) → IsBelow u (shape.Number p m)
    → (n : ℕ) × (n ≤ m) × (u ≡ shape.Number p n)
number_below (shape.Number q n) p m h = (n, h.1, ap (λ r. shape.Number r n) h.0)
number_below u p m h = absurd h

both : (a b : Bool) → (a && b) ≡ true → (a ≡ true) × (b ≡ true)
both true b e = (refl, e)
both false b e = absurd cc

numbers_lesser : (op : operations.Binary) (p q m n : ℕ) (u v x : Shape)
    → IsBelow u (shape.Number p m) → IsBelow v (shape.Number q n)
    → by_machine op (shape.Number p m) (shape.Number q n) ≡ Ok x → Gives (by_machine op u v) x
numbers_lesser op p q m n u v x h k e =
    let a = number_below u p m h in
    let c = number_below v q n k in
    subst (λ z. Gives (by_machine op z v) x) (sym a.2)
    (subst (λ z. Gives (by_machine op (shape.Number p a.0) z) x) (sym c.2)
    (both_lesser op _ _ _ _ x
    (unary_rises (operation.Align (max p q)) (shape.Number p a.0) (shape.Number p m) (refl, a.1))
    (unary_rises (operation.Align (max p q)) (shape.Number q c.0) (shape.Number q n) (refl, c.1))
    e))

aligned_lesser : (op : operations.Binary) (u v s t x : Shape) → IsBelow u s → IsBelow v t
    → by_machine op s t ≡ Ok x → Gives (by_machine op u v) x
aligned_lesser op u v s t x h k e = by (are_numbers s t) refl
  where
    alike : are_numbers u v ≡ are_numbers s t
    alike = λ i. (kind_below u s h i == 4) && (kind_below v t k i == 4)

    by : (b : Bool) → are_numbers s t ≡ b → Gives (by_machine op u v) x
    by false none =
        subst (λ r. Gives r x) (sym (no_numbers op u v (alike ∙ none)))
        (by_two op u v s t x h k (sym (no_numbers op s t none) ∙ e))
    by true are =
        let ks = both (kind_of s == 4) (kind_of t == 4) are in
        let a = number_is s ks.0 in
        let c = number_is t ks.1 in
        numbers_lesser op a.0 c.0 a.1 c.1 u v x
        (subst (IsBelow u) a.2 h) (subst (IsBelow v) c.2 k)
        (sym (λ i. by_machine op (a.2 i) (c.2 i)) ∙ e)

truths_lesser : (u v s t x : Shape) → IsBelow u s → IsBelow v t → of_truths s t ≡ Ok x
    → Gives (of_truths u v) x
truths_lesser u v shape.Truth shape.Truth x h k e =
    let a = truth_below u h in
    let c = truth_below v k in
    record {
      given = x;
      is = (λ i. of_truths (a i) (c i)) ∙ e;
      below = reflexive x;
    }
  where
    truth_below : (u : Shape) → IsBelow u shape.Truth → u ≡ shape.Truth
    truth_below shape.Truth h = refl
    truth_below u h = absurd h
truths_lesser u v s t x h k e = absurd cc

pub two_lesser : (op : BinaryOperator) (u v s t x : Shape) → IsBelow u s → IsBelow v t
    → rule.binary_shape op s t ≡ Ok x → Gives (rule.binary_shape op u v) x
two_lesser binary.Or = truths_lesser
two_lesser binary.And = truths_lesser
two_lesser binary.Equal = aligned_lesser machines.Equal
two_lesser binary.NotEqual = aligned_lesser machines.NotEqual
two_lesser binary.Less = aligned_lesser machines.Less
two_lesser binary.LessOrEqual = aligned_lesser machines.AtMost
two_lesser binary.Greater = aligned_lesser machines.Greater
two_lesser binary.GreaterOrEqual = aligned_lesser machines.AtLeast
two_lesser binary.In = by_two machines.InSet
two_lesser binary.Plus = aligned_lesser machines.Add
two_lesser binary.Minus = aligned_lesser machines.Sub
two_lesser binary.Times = by_two machines.Mul

-- ---- lists

abbrev pub AllBelow : List Shape → List Shape → Type 0
AllBelow [] [] = Unit {0}
AllBelow (u ∷ us) (s ∷ ss) = IsBelow u s × AllBelow us ss
AllBelow us ss = ⊥

-- whether a shape is one of texts, of days, of numbers
text_below : OfPairs (λ v t. are_alike shape.Text v ≡ are_alike shape.Text t)
text_below = record {
  truth = refl;
  text = refl;
  day = refl;
  set = refl;
  number = λ p m n low. refl;
  amount = λ p m n low. refl;
  position = λ u v w z low less. refl;
  inventory = λ p u v w z low less. refl;
}

day_below : OfPairs (λ v t. are_alike shape.Day v ≡ are_alike shape.Day t)
day_below = record {
  truth = refl;
  text = refl;
  day = refl;
  set = refl;
  number = λ p m n low. refl;
  amount = λ p m n low. refl;
  position = λ u v w z low less. refl;
  inventory = λ p u v w z low less. refl;
}

number_alike : (p m n : ℕ)
    → OfPairs (λ v t. are_alike (shape.Number p m) v ≡ are_alike (shape.Number p n) t)
number_alike p m n = record {
  truth = refl;
  text = refl;
  day = refl;
  set = refl;
  number = λ q m n low. refl;
  amount = λ q m n low. refl;
  position = λ u v w z low less. refl;
  inventory = λ p u v w z low less. refl;
}

alike_below : (u v s t : Shape) → IsBelow u s → IsBelow v t → are_alike u v ≡ are_alike s t
alike_below u v s t h =
    below_cases (λ u s. (v t : Shape) → IsBelow v t → are_alike u v ≡ are_alike s t) (record {
      truth = λ v t k. refl;
      text = below_cases _ text_below;
      day = below_cases _ day_below;
      set = λ v t k. refl;
      number = λ p m n low. below_cases _ (number_alike p m n);
      amount = λ p m n low v t k. refl;
      position = λ a c w z low less v t k. refl;
      inventory = λ p a c w z low less v t k. refl;
    }) u s h v t

all_alike : (u s : Shape) → IsBelow u s → (us ss : List Shape) → AllBelow us ss
    → list_all (are_alike u) us ≡ list_all (are_alike s) ss
all_alike u s h [] [] all = refl
all_alike u s h [] (t ∷ ss) all = absurd all
all_alike u s h (v ∷ us) [] all = absurd all
all_alike u s h (v ∷ us) (t ∷ ss) all =
    λ i. alike_below u v s t h all.0 i && all_alike u s h us ss all.1 i

places_below : (u s : Shape) → IsBelow u s → places_of u ≡ places_of s
places_below = below_cases (λ u s. places_of u ≡ places_of s) (record {
  truth = refl;
  text = refl;
  day = refl;
  set = refl;
  number = λ p m n low. refl;
  amount = λ p m n low. refl;
  position = λ u v w z low less. refl;
  inventory = λ p u v w z low less. refl;
})

abbrev greater : ℕ → Shape → ℕ
greater most t = max most (places_of t)

greatest_below : (n : ℕ) (us ss : List Shape) → AllBelow us ss
    → fold greater n us ≡ fold greater n ss
greatest_below n [] [] all = refl
greatest_below n [] (t ∷ ss) all = absurd all
greatest_below n (v ∷ us) [] all = absurd all
greatest_below n (v ∷ us) (t ∷ ss) all =
    ap (λ p. fold greater (max n p) us) (places_below v t all.0)
    ∙ greatest_below (max n (places_of t)) us ss all.1

ok_below : (r t : Ruled) → Under r t → is_ok t ≡ true → is_ok r ≡ true
ok_below r (Err m) h e = absurd cc
ok_below (Ok u) (Ok t) h e = refl
ok_below (Err m) (Ok t) h e = absurd h

held_below : (places : ℕ) (u s : Shape) → IsBelow u s → is_held_with places s ≡ true
    → is_held_with places u ≡ true
held_below places (shape.Number q n) (shape.Number p m) h e =
    ok_below (machine.aligned places (shape.Number q n)) (machine.aligned places (shape.Number p m))
    (unary_rises (operation.Align places) (shape.Number q n) (shape.Number p m) h) e
held_below places (shape.Number q n) s h e = absurd h
held_below places u s h e = refl

all_held : (places : ℕ) (us ss : List Shape) → AllBelow us ss
    → list_all (is_held_with places) ss ≡ true → list_all (is_held_with places) us ≡ true
all_held places [] [] all e = refl
all_held places [] (t ∷ ss) all e = refl
all_held places (v ∷ us) [] all e = absurd all
all_held places (v ∷ us) (t ∷ ss) all e =
    let h = both (is_held_with places t) (list_all (is_held_with places) ss) e in
    λ i. held_below places v t all.0 h.0 i && all_held places us ss all.1 h.1 i

-- what a list gives, where its kinds are alike and its numbers can be aligned
abbrev by_tests : Bool → Bool → Ruled
by_tests alike held = cond alike (cond held (Ok shape.Truth) (Err TooWide)) (Err Kind)

tests_are : (alike held : Bool) (x : Shape) → by_tests alike held ≡ Ok x
    → (alike ≡ true) × (held ≡ true)
tests_are true true x e = (refl, refl)
tests_are true false x e = absurd cc
tests_are false held x e = absurd cc

list_lesser : (u s x : Shape) (us ss : List Shape) → IsBelow u s → AllBelow us ss
    → one_of s ss ≡ Ok x → Gives (one_of u us) x
list_lesser u s x us ss h all e = record { given = x; is = same ∙ e; below = reflexive x }
  where
    places : greatest_places u us ≡ greatest_places s ss
    places =
        ap (λ p. fold greater p us) (places_below u s h) ∙ greatest_below (places_of s) us ss all

    tests : (are_alike s s && list_all (are_alike s) ss ≡ true)
        × (list_all (is_held_with (greatest_places s ss)) (s ∷ ss) ≡ true)
    tests = tests_are _ _ x e

    alike : (are_alike u u && list_all (are_alike u) us)
        ≡ (are_alike s s && list_all (are_alike s) ss)
    alike = λ i. alike_below u u s s h h i && all_alike u s h us ss all i

    held : list_all (is_held_with (greatest_places u us)) (u ∷ us) ≡ true
    held =
        ap (λ p. list_all (is_held_with p) (u ∷ us)) places
        ∙ all_held (greatest_places s ss) (u ∷ us) (s ∷ ss) (h, all) tests.1

    same : one_of u us ≡ one_of s ss
    same = λ i. by_tests (alike i) ((held ∙ sym tests.1) i)

-- ---- calls

pub sum_below : (u s : Shape) → IsBelow u s → sum_over u ≡ sum_over s
sum_below = below_cases (λ u s. sum_over u ≡ sum_over s) (record {
  truth = refl;
  text = refl;
  day = refl;
  set = refl;
  number = λ p m n low. refl;
  amount = λ p m n low. refl;
  position = λ u v w z low less. refl;
  inventory = λ p u v w z low less. refl;
})

by_many : (a : Aggregate) (n : ℕ) (u s t : Shape) → IsBelow u s
    → machine.aggregate_shape n a (Some s) ≡ Ok t → Gives (machine.aggregate_shape 0 a (Some u)) t
by_many a n u s t h e =
    under (machine.aggregate_shape 0 a (Some u)) (machine.aggregate_shape n a (Some s)) t
    (gathers_rise a 0 n u s (omega arith) h) e

of_one_lesser : (n : ℕ) (f : Function) (u s t : Shape) → IsBelow u s → rule.of_one n f s ≡ Ok t
    → Gives (rule.of_one 0 f u) t
of_one_lesser n function.Parent u s t h e = by_one operation.Parent u s t h e
of_one_lesser n function.Leaf u s t h e = by_one operation.Leaf u s t h e
of_one_lesser n function.Length u s t h e = by_one operation.Length u s t h e
of_one_lesser n function.Units u s t h e = by_one operation.Units u s t h e
of_one_lesser n function.Cost u s t h e = by_one operation.Cost u s t h e
of_one_lesser n function.Year u s t h e = by_one operation.Year u s t h e
of_one_lesser n function.Month u s t h e = by_one operation.Month u s t h e
of_one_lesser n function.Day u s t h e = by_one operation.Day u s t h e
of_one_lesser n function.Number u s t h e = by_one operation.Number u s t h e
of_one_lesser n function.Currency u s t h e = by_one operation.Currency u s t h e
of_one_lesser n function.Abs u s t h e = by_one operation.Abs u s t h e
of_one_lesser n function.RootRank u s t h e = by_one operation.RootRank u s t h e
of_one_lesser n function.Count u s t h e = by_many aggregate.Count n u s t h e
of_one_lesser n function.Sum u s t h e =
    subst (λ a. Gives (machine.aggregate_shape 0 a (Some u)) t) (sym (sum_below u s h))
    (by_many (sum_over s) n u s t h e)
of_one_lesser n function.First u s t h e = by_many aggregate.First n u s t h e
of_one_lesser n function.Last u s t h e = by_many aggregate.Last n u s t h e
of_one_lesser n function.Min u s t h e = by_many aggregate.Min n u s t h e
of_one_lesser n function.Max u s t h e = by_many aggregate.Max n u s t h e
of_one_lesser n f u s t h e = absurd cc

single_lesser : (n : ℕ) (f : Function) (us ss : List Shape) (t : Shape) → AllBelow us ss
    → single n f ss ≡ Ok t → Gives (single 0 f us) t
single_lesser n f us [] t all e = absurd cc
single_lesser n f [] (s ∷ ss) t all e = absurd all
single_lesser n f (u ∷ []) (s ∷ []) t all e = of_one_lesser n f u s t all.0 e
single_lesser n f (u ∷ v ∷ us) (s ∷ []) t all e = absurd all.1
single_lesser n f (u ∷ us) (s ∷ x ∷ ss) t all e = absurd cc

pub call_lesser : (b : Bounds) (f : Function) (us ss : List Shape) (t : Shape) → AllBelow us ss
    → call_shape b f ss ≡ Ok t → Gives (call_shape least f us) t
call_lesser b function.OneOf us [] t all e = absurd cc
call_lesser b function.OneOf [] (s ∷ ss) t all e = absurd all
call_lesser b function.OneOf (u ∷ us) (s ∷ ss) t all e = list_lesser u s t us ss all.0 all.1 e
call_lesser b f us ss t all e = single_lesser b.postings f us ss t all e
