-- Of lesser shapes the rules give lesser ones.
use Rattle.std.proofs.Common.{◌≡◌, ℕ, ◌+◌, ◌-◌, ◌*◌, ◌^◌, ◌≤◌, max, Bool, true, false, cond}
use Rattle.std.proofs.Common.{◌&&◌}
use Rattle.std.proofs.Common.{List, [], ◌∷◌, Ok, Err, eqb, refl, sym, ap, ◌∙◌, subst, arith}
use Rattle.std.specs.Prelude.{nat_le}
use Rattle.std.specs.List.{list_all}
use Rattle.std.proofs.Math.Nat.{mul-le-mul, mul-le-mul_right}
use Rattle.std.proofs.lemmas.Bool.{and_parts, and_from, ltb-true, lt-ltb}
use Rattle.query_values.specs.Unary as unary
use Rattle.query_values.specs.declared.operation.Binary.{Binary}
use Rattle.query_values.specs.declared.operation.Binary.TheVariants as binary
use Rattle.query_values.specs.declared.value.Value.{Value}
use Rattle.query_values.specs.declared.value.Value.TheVariants as value
use Rattle.query_rows.specs.Keeping.{Under}
use Rattle.query_rows.specs.Rules as rule
use Rattle.query_rows.specs.Rules.{Ruled, binary_shape, unary_shape}
use Rattle.query_rows.specs.Shape.{IsBelow, fitting, is_held, is_most}
use Rattle.query_rows.specs.declared.shape.Misfit.TheVariants.{Kind, TooWide}
use Rattle.query_rows.specs.declared.shape.Shape.{Shape}
use Rattle.query_rows.specs.declared.shape.Shape.TheVariants as shape
use Rattle.limits.specs.declared.counts.TheConstants.{LARGEST_TEXT}
use Rattle.query_rows.proofs.OrderFacts.{below_cases, reflexive}

-- ---- what fits

most_below : (m n : ℕ) → m ≤ n → is_most n ≡ true → is_most m ≡ true
most_below m n low most =
    let t = ltb-true n (2 ^ 127) most in lt-ltb m (2 ^ 127) (omega (arith, low, t))

held_below : (s t : Shape) → IsBelow s t → is_held t ≡ true → is_held s ≡ true
held_below s t h =
    below_cases (λ a b. is_held b ≡ true → is_held a ≡ true) (record {
      truth = λ e. e;
      text = λ e. e;
      day = λ e. e;
      set = λ e. e;
      number = λ p m n low e. let parts = and_parts (nat_le p 32) (is_most n) e in
          and_from (nat_le p 32) (is_most m) parts.0 (most_below m n low parts.1);
      amount = λ p m n low e. let parts = and_parts (nat_le p 32) (is_most n) e in
          and_from (nat_le p 32) (is_most m) parts.0 (most_below m n low parts.1);
      position = λ u v w z low less e. let parts = and_parts (is_most w) (is_most z) e in
          and_from (is_most u) (is_most v) (most_below u w low parts.0)
          (most_below v z less parts.1);
      inventory = λ p u v w z low less e.
          let parts = and_parts (nat_le p 32) (is_most w && is_most z) e in
          let counts = and_parts (is_most w) (is_most z) parts.1 in
          and_from (nat_le p 32) (is_most u && is_most v) parts.0
          (and_from (is_most u) (is_most v) (most_below u w low counts.0)
          (most_below v z less counts.1));
    }) s t h

pub fitting_below : (s t : Shape) → IsBelow s t → Under (fitting s) (fitting t)
fitting_below s t h = by (is_held t) refl
  where
    by : (b : Bool) → is_held t ≡ b → Under (fitting s) (cond b (Ok t) (Err TooWide))
    by false e = tt
    by true e =
        subst (λ (c : Bool). Under (cond c (Ok s) (Err TooWide)) (Ok t))
        (sym (held_below s t h e)) h

-- either both are asked for or neither
pub both_if : (b : Bool) (s t : Shape) → IsBelow s t
    → Under (cond b (fitting s) (Err Kind)) (cond b (fitting t) (Err Kind))
both_if false s t h = tt
both_if true s t h = fitting_below s t h

-- ---- of one operand

abbrev Rises : (Shape → Ruled) → Shape → Shape → Type 0
Rises f s t = Under (f s) (f t)

of_truth : (given : Shape) (s t : Shape) → IsBelow s t → Rises (rule.of_truth given) s t
of_truth given s t h =
    below_cases (Rises (rule.of_truth given)) (record {
      truth = reflexive given;
      text = tt;
      day = tt;
      set = tt;
      number = λ p m n low. tt;
      amount = λ p m n low. tt;
      position = λ u v w z low less. tt;
      inventory = λ p u v w z low less. tt;
    }) s t h

of_text : (given : Shape) (s t : Shape) → IsBelow s t → Rises (rule.of_text given) s t
of_text given s t h =
    below_cases (Rises (rule.of_text given)) (record {
      truth = tt;
      text = reflexive given;
      day = tt;
      set = tt;
      number = λ p m n low. tt;
      amount = λ p m n low. tt;
      position = λ u v w z low less. tt;
      inventory = λ p u v w z low less. tt;
    }) s t h

of_set : (given : Shape) (s t : Shape) → IsBelow s t → Rises (rule.of_set given) s t
of_set given s t h =
    below_cases (Rises (rule.of_set given)) (record {
      truth = tt;
      text = tt;
      day = tt;
      set = reflexive given;
      number = λ p m n low. tt;
      amount = λ p m n low. tt;
      position = λ u v w z low less. tt;
      inventory = λ p u v w z low less. tt;
    }) s t h

of_day : (given : Shape) (s t : Shape) → IsBelow s t → Rises (rule.of_day given) s t
of_day given s t h =
    below_cases (Rises (rule.of_day given)) (record {
      truth = tt;
      text = tt;
      day = reflexive given;
      set = tt;
      number = λ p m n low. tt;
      amount = λ p m n low. tt;
      position = λ u v w z low less. tt;
      inventory = λ p u v w z low less. tt;
    }) s t h

align : (q : ℕ) (s t : Shape) → IsBelow s t → Rises (rule.aligned q) s t
align q s t h =
    below_cases (Rises (rule.aligned q)) (record {
      truth = tt;
      text = tt;
      day = tt;
      set = tt;
      number = λ p m n low.
          both_if (nat_le p q) (shape.Number q (m * 10 ^ (q - p)))
          (shape.Number q (n * 10 ^ (q - p)))
          (refl, mul-le-mul_right (10 ^ (q - p)) low);
      amount = λ p m n low. tt;
      position = λ u v w z low less. tt;
      inventory = λ p u v w z low less. tt;
    }) s t h

negative : (s t : Shape) → IsBelow s t → Rises rule.negated s t
negative s t h =
    below_cases (Rises rule.negated) (record {
      truth = tt;
      text = tt;
      day = tt;
      set = tt;
      number = λ p m n low. fitting_below (shape.Number p m) (shape.Number p n) (refl, low);
      amount = λ p m n low. fitting_below (shape.Amount p m) (shape.Amount p n) (refl, low);
      position = λ u v w z low less.
          fitting_below (shape.Position u v) (shape.Position w z) (low, less);
      inventory = λ p u v w z low less.
          fitting_below (shape.Inventory p u v) (shape.Inventory p w z) (refl, low, less);
    }) s t h

magnitude : (s t : Shape) → IsBelow s t → Rises rule.magnitude_of s t
magnitude s t h =
    below_cases (Rises rule.magnitude_of) (record {
      truth = tt;
      text = tt;
      day = tt;
      set = tt;
      number = λ p m n low. fitting_below (shape.Number p m) (shape.Number p n) (refl, low);
      amount = λ p m n low. tt;
      position = λ u v w z low less. tt;
      inventory = λ p u v w z low less. tt;
    }) s t h

lengths : (s t : Shape) → IsBelow s t → Rises rule.length_of s t
lengths s t h =
    below_cases (Rises rule.length_of) (record {
      truth = tt;
      text = reflexive (rule.whole LARGEST_TEXT);
      day = tt;
      set = reflexive (rule.whole LARGEST_TEXT);
      number = λ p m n low. tt;
      amount = λ p m n low. tt;
      position = λ u v w z low less. tt;
      inventory = λ p u v w z low less. tt;
    }) s t h

units : (s t : Shape) → IsBelow s t → Rises rule.units_of s t
units s t h =
    below_cases (Rises rule.units_of) (record {
      truth = tt;
      text = tt;
      day = tt;
      set = tt;
      number = λ p m n low. tt;
      amount = λ p m n low. tt;
      position =
          λ u v w z low less. fitting_below (shape.Amount 8 u) (shape.Amount 8 w) (refl, low);
      inventory = λ p u v w z low less.
          fitting_below (shape.Inventory p u 0) (shape.Inventory p w 0) (refl, low, omega arith);
    }) s t h

low_cost : (u w : ℕ) → u ≤ w → u * 10 ^ 8 ≤ w * 10 ^ 8
low_cost u w low = mul-le-mul_right (10 ^ 8) low

costs : (s t : Shape) → IsBelow s t → Rises rule.cost_of s t
costs s t h =
    below_cases (Rises rule.cost_of) (record {
      truth = tt;
      text = tt;
      day = tt;
      set = tt;
      number = λ p m n low. tt;
      amount = λ p m n low. tt;
      position = λ u v w z low less.
          fitting_below (shape.Amount 16 (max v (u * 10 ^ 8)))
          (shape.Amount 16 (max z (w * 10 ^ 8)))
          (refl, omega (arith, less, low_cost u w low));
      inventory = λ p u v w z low less.
          fitting_below (shape.Inventory (p + 8) (v + u * 10 ^ 8) 0)
          (shape.Inventory (p + 8) (z + w * 10 ^ 8) 0)
          (refl, omega (arith, less, low_cost u w low), omega arith);
    }) s t h

numbers : (s t : Shape) → IsBelow s t → Rises rule.number_of s t
numbers s t h =
    below_cases (Rises rule.number_of) (record {
      truth = tt;
      text = tt;
      day = tt;
      set = tt;
      number = λ p m n low. tt;
      amount = λ p m n low. fitting_below (shape.Number p m) (shape.Number p n) (refl, low);
      position =
          λ u v w z low less. fitting_below (shape.Number 8 u) (shape.Number 8 w) (refl, low);
      inventory = λ p u v w z low less. tt;
    }) s t h

currencies : (s t : Shape) → IsBelow s t → Rises rule.currency_of s t
currencies s t h =
    below_cases (Rises rule.currency_of) (record {
      truth = tt;
      text = tt;
      day = tt;
      set = tt;
      number = λ p m n low. tt;
      amount = λ p m n low. tt;
      position = λ u v w z low less. tt;
      inventory = λ p u v w z low less. tt;
    }) s t h

-- a bound says nothing of what is alike
same_like : (p m n : ℕ) (y : Value)
    → rule.is_like (shape.Number p m) y ≡ rule.is_like (shape.Number p n) y
same_like p m n value.Null = refl
same_like p m n (value.Truth b) = refl
same_like p m n (value.Text t) = refl
same_like p m n (value.Day d) = refl
same_like p m n (value.Set ts) = refl
same_like p m n (value.Number q k) = refl
same_like p m n (value.Amount q c k) = refl
same_like p m n (value.Position k j) = refl
same_like p m n (value.Inventory b) = refl

all_like : (p m n : ℕ) (ys : List Value)
    → list_all (rule.is_like (shape.Number p m)) ys ≡ list_all (rule.is_like (shape.Number p n)) ys
all_like p m n [] = refl
all_like p m n (y ∷ ys) =
    ap (λ (b : Bool). b && list_all (rule.is_like (shape.Number p m)) ys) (same_like p m n y)
    ∙ ap (λ (b : Bool). rule.is_like (shape.Number p n) y && b) (all_like p m n ys)

same_truth : (b c : Bool) → b ≡ c
    → Under (cond b (Ok shape.Truth) (Err Kind)) (cond c (Ok shape.Truth) (Err Kind))
same_truth true true e = tt
same_truth false false e = tt
same_truth true false e = tt
same_truth false true e = absurd cc

lists : (ys : List Value) (s t : Shape) → IsBelow s t → Rises (rule.among ys) s t
lists ys s t h =
    below_cases (Rises (rule.among ys)) (record {
      truth = tt;
      text = same_truth (list_all (rule.is_like shape.Text) ys)
          (list_all (rule.is_like shape.Text) ys) refl;
      day = same_truth (list_all (rule.is_like shape.Day) ys) (list_all (rule.is_like shape.Day) ys)
          refl;
      set = tt;
      number = λ p m n low.
          same_truth (list_all (rule.is_like (shape.Number p m)) ys)
          (list_all (rule.is_like (shape.Number p n)) ys) (all_like p m n ys);
      amount = λ p m n low. tt;
      position = λ u v w z low less. tt;
      inventory = λ p u v w z low less. tt;
    }) s t h

pub unary_rises : (op : unary.Unary) (s t : Shape) → IsBelow s t
    → Under (unary_shape op s) (unary_shape op t)
unary_rises (unary.Align places) s t h = align places s t h
unary_rises unary.Neg s t h = negative s t h
unary_rises unary.Abs s t h = magnitude s t h
unary_rises unary.Not s t h = of_truth shape.Truth s t h
unary_rises unary.IsNull s t h = tt
unary_rises (unary.Match pattern) s t h = of_text shape.Truth s t h
unary_rises (unary.MatchAny pattern) s t h = of_set shape.Truth s t h
unary_rises (unary.InList ys) s t h = lists ys s t h
unary_rises unary.Year s t h = of_day (rule.whole 9999) s t h
unary_rises unary.Month s t h = of_day (rule.whole 12) s t h
unary_rises unary.Day s t h = of_day (rule.whole 31) s t h
unary_rises (unary.Root n) s t h = of_text shape.Text s t h
unary_rises unary.Parent s t h = of_text shape.Text s t h
unary_rises unary.Leaf s t h = of_text shape.Text s t h
unary_rises unary.Length s t h = lengths s t h
unary_rises unary.Units s t h = units s t h
unary_rises unary.Cost s t h = costs s t h
unary_rises unary.Number s t h = numbers s t h
unary_rises unary.Currency s t h = currencies s t h
unary_rises unary.RootRank s t h = of_text (rule.whole 5) s t h

-- ---- of two operands

abbrev RisesIn : (Shape → Shape → Ruled) → Shape → Shape → Type 0
RisesIn f s t = (a b : Shape) → IsBelow a b → Under (f s a) (f t b)

sum_number : (p m n : ℕ) → m ≤ n → RisesIn rule.sum_of (shape.Number p m) (shape.Number p n)
sum_number p m n low =
    below_cases (λ a b. Under (rule.sum_of (shape.Number p m) a) (rule.sum_of (shape.Number p n) b))
    (record {
      truth = tt;
      text = tt;
      day = tt;
      set = tt;
      number = λ q k l less.
          both_if (eqb p q) (shape.Number p (m + k)) (shape.Number p (n + l))
          (refl, omega (arith, low, less));
      amount = λ p m n low. tt;
      position = λ u v w z low less. tt;
      inventory = λ p u v w z low less. tt;
    })

sums : (s t : Shape) → IsBelow s t → RisesIn rule.sum_of s t
sums s t h =
    below_cases (RisesIn rule.sum_of) (record {
      truth = λ a b h. tt;
      text = λ a b h. tt;
      day = λ a b h. tt;
      set = λ a b h. tt;
      number = sum_number;
      amount = λ p m n low a b h. tt;
      position = λ u v w z low less a b h. tt;
      inventory = λ p u v w z low less a b h. tt;
    }) s t h

product_number : (p m n : ℕ) → m ≤ n
    → RisesIn rule.product_of (shape.Number p m) (shape.Number p n)
product_number p m n low =
    below_cases
    (λ a b. Under (rule.product_of (shape.Number p m) a) (rule.product_of (shape.Number p n) b))
    (record {
      truth = tt;
      text = tt;
      day = tt;
      set = tt;
      number = λ q k l less.
          fitting_below (shape.Number (p + q) (m * k)) (shape.Number (p + q) (n * l))
          (refl, mul-le-mul low less);
      amount = λ p m n low. tt;
      position = λ u v w z low less. tt;
      inventory = λ p u v w z low less. tt;
    })

products : (s t : Shape) → IsBelow s t → RisesIn rule.product_of s t
products s t h =
    below_cases (RisesIn rule.product_of) (record {
      truth = λ a b h. tt;
      text = λ a b h. tt;
      day = λ a b h. tt;
      set = λ a b h. tt;
      number = product_number;
      amount = λ p m n low a b h. tt;
      position = λ u v w z low less a b h. tt;
      inventory = λ p u v w z low less a b h. tt;
    }) s t h

order_number : (p m n : ℕ) → m ≤ n → RisesIn rule.ordered (shape.Number p m) (shape.Number p n)
order_number p m n low =
    below_cases
    (λ a b. Under (rule.ordered (shape.Number p m) a) (rule.ordered (shape.Number p n) b))
    (record {
      truth = tt;
      text = tt;
      day = tt;
      set = tt;
      number = λ q k l less. same_truth (eqb p q) (eqb p q) refl;
      amount = λ p m n low. tt;
      position = λ u v w z low less. tt;
      inventory = λ p u v w z low less. tt;
    })

order_text : RisesIn rule.ordered shape.Text shape.Text
order_text =
    below_cases (λ a b. Under (rule.ordered shape.Text a) (rule.ordered shape.Text b)) (record {
      truth = tt;
      text = tt;
      day = tt;
      set = tt;
      number = λ p m n low. tt;
      amount = λ p m n low. tt;
      position = λ u v w z low less. tt;
      inventory = λ p u v w z low less. tt;
    })

order_day : RisesIn rule.ordered shape.Day shape.Day
order_day =
    below_cases (λ a b. Under (rule.ordered shape.Day a) (rule.ordered shape.Day b)) (record {
      truth = tt;
      text = tt;
      day = tt;
      set = tt;
      number = λ p m n low. tt;
      amount = λ p m n low. tt;
      position = λ u v w z low less. tt;
      inventory = λ p u v w z low less. tt;
    })

orders : (s t : Shape) → IsBelow s t → RisesIn rule.ordered s t
orders s t h =
    below_cases (RisesIn rule.ordered) (record {
      truth = λ a b h. tt;
      text = order_text;
      day = order_day;
      set = λ a b h. tt;
      number = order_number;
      amount = λ p m n low a b h. tt;
      position = λ u v w z low less a b h. tt;
      inventory = λ p u v w z low less a b h. tt;
    }) s t h

compare_truth : RisesIn rule.compared shape.Truth shape.Truth
compare_truth =
    below_cases (λ a b. Under (rule.compared shape.Truth a) (rule.compared shape.Truth b)) (record {
      truth = tt;
      text = tt;
      day = tt;
      set = tt;
      number = λ p m n low. tt;
      amount = λ p m n low. tt;
      position = λ u v w z low less. tt;
      inventory = λ p u v w z low less. tt;
    })

compares : (s t : Shape) → IsBelow s t → RisesIn rule.compared s t
compares s t h =
    below_cases (RisesIn rule.compared) (record {
      truth = compare_truth;
      text = order_text;
      day = order_day;
      set = λ a b h. tt;
      number = order_number;
      amount = λ p m n low a b h. tt;
      position = λ u v w z low less a b h. tt;
      inventory = λ p u v w z low less a b h. tt;
    }) s t h

member_text : RisesIn rule.member_of shape.Text shape.Text
member_text =
    below_cases (λ a b. Under (rule.member_of shape.Text a) (rule.member_of shape.Text b)) (record {
      truth = tt;
      text = tt;
      day = tt;
      set = tt;
      number = λ p m n low. tt;
      amount = λ p m n low. tt;
      position = λ u v w z low less. tt;
      inventory = λ p u v w z low less. tt;
    })

members : (s t : Shape) → IsBelow s t → RisesIn rule.member_of s t
members s t h =
    below_cases (RisesIn rule.member_of) (record {
      truth = λ a b h. tt;
      text = member_text;
      day = λ a b h. tt;
      set = λ a b h. tt;
      number = λ p m n low a b h. tt;
      amount = λ p m n low a b h. tt;
      position = λ u v w z low less a b h. tt;
      inventory = λ p u v w z low less a b h. tt;
    }) s t h

pub binary_rises : (op : Binary) (s t a b : Shape) → IsBelow s t → IsBelow a b
    → Under (binary_shape op s a) (binary_shape op t b)
binary_rises binary.Add s t a b h k = sums s t h a b k
binary_rises binary.Sub s t a b h k = sums s t h a b k
binary_rises binary.Mul s t a b h k = products s t h a b k
binary_rises binary.Equal s t a b h k = compares s t h a b k
binary_rises binary.NotEqual s t a b h k = compares s t h a b k
binary_rises binary.Less s t a b h k = orders s t h a b k
binary_rises binary.AtMost s t a b h k = orders s t h a b k
binary_rises binary.Greater s t a b h k = orders s t h a b k
binary_rises binary.AtLeast s t a b h k = orders s t h a b k
binary_rises binary.InSet s t a b h k = members s t h a b k
