-- What is gathered over a list of values with one more at its end.
use Rattle.std.proofs.Common.{◌≡◌, ℕ, ◌+◌, ℤ, pos, ◌+ℤ◌, Bool, true, false, cond, not, ◌||◌, ◌&&◌}
use Rattle.std.proofs.Common.{List, [], ◌∷◌, ◌++◌, length, refl, sym, ap, ◌∙◌, arith}
use Rattle.std.proofs.lemmas.Int.{ints}
use Rattle.std.specs.Ordering.{is_lt}
use Rattle.bean_lots.specs.Inventory.{added}
use Rattle.bean_lots.specs.declared.lot.Key as key
use Rattle.bean_lots.specs.declared.lot.Position as entry
use Rattle.query_values.specs.Aggregate.{present, count_in, sum_in, entries_in, first_of, last_from}
use Rattle.query_values.specs.Aggregate.{last_of, best_from, best_of, better_of, is_greater}
use Rattle.query_values.specs.Aggregate.{aggregate_of, counted, summed, gathered, with_more}
use Rattle.query_values.specs.Operation.{whole}
use Rattle.query_values.specs.Order.{is_null, is_less, order_of}
use Rattle.query_holdings.specs.Total.{bare, total_from}
use Rattle.query_values.specs.declared.operation.Aggregate.{Aggregate}
use Rattle.query_values.specs.declared.operation.Aggregate.TheVariants.{CountRows, Count, Sum}
use Rattle.query_values.specs.declared.operation.Aggregate.TheVariants.{SumInventory, First, Last}
use Rattle.query_values.specs.declared.operation.Aggregate.TheVariants.{Min, Max}
use Rattle.query_values.specs.declared.value.Value.{Value}
use Rattle.query_values.specs.declared.value.Value.TheVariants.{Null, Truth, Number, Text, Day, Set}
use Rattle.query_values.specs.declared.value.Value.TheVariants.{Amount, Position, Inventory}

one_longer : {A : Type 0} (xs : List A) (x : A) → length (xs ++ x ∷ []) ≡ length xs + 1
one_longer [] x = refl
one_longer (y ∷ xs) x = omega (arith, one_longer xs x)

rows : (xs : List Value) (x : Value) → whole (length (xs ++ x ∷ [])) ≡ counted (whole (length xs))
rows xs x = ap whole (one_longer xs x)

present_more : (xs : List Value) (x : Value)
    → present (xs ++ x ∷ []) ≡ present xs ++ present (x ∷ [])
present_more [] x = refl
present_more (y ∷ xs) x = by (is_null y) (present_more xs x)
  where
    by : (b : Bool) → present (xs ++ x ∷ []) ≡ present xs ++ present (x ∷ [])
        → cond (not b) (y ∷ present (xs ++ x ∷ [])) (present (xs ++ x ∷ []))
        ≡ cond (not b) (y ∷ present xs) (present xs) ++ present (x ∷ [])
    by true h = h
    by false h = ap (λ l. y ∷ l) h

nothing_behind : {A : Type 0} (xs : List A) → xs ++ [] ≡ xs
nothing_behind [] = refl
nothing_behind (x ∷ xs) = ap (λ l. x ∷ l) (nothing_behind xs)

-- a function of the values that aren't null, with one value more
by_presence : (f : List Value → Value) (g : Value → Value → Value) (xs : List Value) (x : Value)
    → ((ys : List Value) → is_null x ≡ true → f ys ≡ g (f ys) x)
    → (is_null x ≡ false → f (present xs ++ x ∷ []) ≡ g (f (present xs)) x)
    → f (present (xs ++ x ∷ [])) ≡ g (f (present xs)) x
by_presence f g xs x out more = ap f (present_more xs x) ∙ by (is_null x) refl
  where
    by : (b : Bool) → is_null x ≡ b
        → f (present xs ++ cond (not b) (x ∷ []) []) ≡ g (f (present xs)) x
    by true e = ap f (nothing_behind (present xs)) ∙ out (present xs) e
    by false e = more e

values : (xs : List Value) (x : Value)
    → aggregate_of Count (xs ++ x ∷ []) ≡ with_more Count (aggregate_of Count xs) x
values xs x = by_presence (λ ys. whole (length ys)) (with_more Count) xs x
    (λ ys e. sym (ap (λ b. cond b (whole (length ys)) (counted (whole (length ys)))) e))
    (λ e. rows (present xs) x
    ∙ sym (ap
    (λ b. cond b (whole (length (present xs))) (counted (whole (length (present xs))))) e))

more_in_sum : (xs : List Value) (x : Value) → sum_in (xs ++ x ∷ []) ≡ sum_in xs +ℤ count_in x
more_in_sum [] x = omega (arith, ints)
more_in_sum (y ∷ xs) x = omega (arith, ints, more_in_sum xs x)

zero_more : (n : ℤ) → n +ℤ pos 0 ≡ n
zero_more n = omega (arith, ints)

sum_with : (p : ℕ) (n : ℤ) (x : Value) → Number p (n +ℤ count_in x) ≡ summed (Number p n) x
sum_with p n Null = ap (Number p) (zero_more n)
sum_with p n (Truth b) = ap (Number p) (zero_more n)
sum_with p n (Number q m) = refl
sum_with p n (Text t) = ap (Number p) (zero_more n)
sum_with p n (Day d) = ap (Number p) (zero_more n)
sum_with p n (Set ts) = ap (Number p) (zero_more n)
sum_with p n (Amount q c m) = ap (Number p) (zero_more n)
sum_with p n (Position k m) = ap (Number p) (zero_more n)
sum_with p n (Inventory b) = ap (Number p) (zero_more n)

sums : (p : ℕ) (xs : List Value) (x : Value)
    → aggregate_of (Sum p) (xs ++ x ∷ []) ≡ with_more (Sum p) (aggregate_of (Sum p) xs) x
sums p xs x = ap (Number p) (more_in_sum xs x) ∙ sum_with p (sum_in xs) x

abbrev position : key.Key → ℤ → entry.Position
position k n = record { key = k; count = n }

entries_more : (xs : List Value) (x : Value)
    → entries_in (xs ++ x ∷ []) ≡ entries_in xs ++ entries_in (x ∷ [])
entries_more [] x = refl
entries_more (Null ∷ xs) x = entries_more xs x
entries_more (Truth b ∷ xs) x = entries_more xs x
entries_more (Number p n ∷ xs) x = entries_more xs x
entries_more (Text t ∷ xs) x = entries_more xs x
entries_more (Day d ∷ xs) x = entries_more xs x
entries_more (Set ts ∷ xs) x = entries_more xs x
entries_more (Amount p c n ∷ xs) x = ap (λ l. bare c n ∷ l) (entries_more xs x)
entries_more (Position k n ∷ xs) x = ap (λ l. position k n ∷ l) (entries_more xs x)
entries_more (Inventory b ∷ xs) x = entries_more xs x

total_more : (ps es qs : List entry.Position)
    → total_from es (ps ++ qs) ≡ total_from (total_from es ps) qs
total_more [] es qs = refl
total_more (p ∷ ps) es qs = total_more ps (added es p.key p.count) qs

gathered_with : (p : ℕ) (es : List entry.Position) (x : Value)
    → Inventory (record { places = p; held = total_from es (entries_in (x ∷ [])) })
    ≡ gathered (Inventory (record { places = p; held = es })) x
gathered_with p es Null = refl
gathered_with p es (Truth b) = refl
gathered_with p es (Number q n) = refl
gathered_with p es (Text t) = refl
gathered_with p es (Day d) = refl
gathered_with p es (Set ts) = refl
gathered_with p es (Amount q c n) = refl
gathered_with p es (Position k n) = refl
gathered_with p es (Inventory b) = refl

inventories : (p : ℕ) (xs : List Value) (x : Value)
    → aggregate_of (SumInventory p) (xs ++ x ∷ [])
    ≡ with_more (SumInventory p) (aggregate_of (SumInventory p) xs) x
inventories p xs x =
    ap (λ l. Inventory (record { places = p; held = total_from [] l })) (entries_more xs x)
    ∙ ap (λ l. Inventory (record { places = p; held = l }))
    (total_more (entries_in xs) [] (entries_in (x ∷ [])))
    ∙ gathered_with p (total_from [] (entries_in xs)) x

-- none of them is null
abbrev AreThere : List Value → Type 0
AreThere [] = Unit {0}
AreThere (x ∷ xs) = (is_null x ≡ false) × AreThere xs

are_there : (xs : List Value) → AreThere (present xs)
are_there [] = tt
are_there (x ∷ xs) = by (is_null x) refl (are_there xs)
  where
    by : (b : Bool) → is_null x ≡ b → AreThere (present xs)
        → AreThere (cond (not b) (x ∷ present xs) (present xs))
    by true e h = h
    by false e h = (e, h)

null_is : (x : Value) → is_null x ≡ true → x ≡ Null
null_is Null e = refl
null_is (Truth b) e = cc
null_is (Number p n) e = cc
null_is (Text t) e = cc
null_is (Day d) e = cc
null_is (Set ts) e = cc
null_is (Amount p c n) e = cc
null_is (Position k n) e = cc
null_is (Inventory b) e = cc

first_with : (ys : List Value) (x : Value) → AreThere ys
    → first_of (ys ++ x ∷ []) ≡ with_more First (first_of ys) x
first_with [] x h = refl
first_with (y ∷ ys) x h = sym (ap (λ b. cond b x y) h.0)

-- what is gathered so far stays where nothing is added
kept : (t x : Value) → is_null x ≡ true → t ≡ cond (is_null t) x t
kept t x e = by (is_null t) refl
  where
    by : (b : Bool) → is_null t ≡ b → t ≡ cond b x t
    by true h = null_is t h ∙ sym (null_is x e)
    by false h = refl

firsts : (xs : List Value) (x : Value)
    → aggregate_of First (xs ++ x ∷ []) ≡ with_more First (aggregate_of First xs) x
firsts xs x =
    by_presence first_of (with_more First) xs x (λ ys e. kept (first_of ys) x e)
    (λ e. first_with (present xs) x (are_there xs))

last_more : (ys : List Value) (y x : Value) → last_from y (ys ++ x ∷ []) ≡ x
last_more [] y x = refl
last_more (z ∷ ys) y x = last_more ys z x

lasts : (xs : List Value) (x : Value)
    → aggregate_of Last (xs ++ x ∷ []) ≡ with_more Last (aggregate_of Last xs) x
lasts xs x = by_presence last_of (with_more Last) xs x
    (λ ys e. sym (ap (λ b. cond b (last_of ys) x) e))
    (λ e. last_more (present xs) Null x ∙ sym (ap (λ b. cond b (last_of (present xs)) x) e))

best_more : (better : Value → Value → Bool) (ys : List Value) (y x : Value)
    → best_from better y (ys ++ x ∷ [])
    ≡ cond (better x (best_from better y ys)) x (best_from better y ys)
best_more better [] y x = refl
best_more better (z ∷ ys) y x = best_more better ys (cond (better z y) z y) x

either_there : (b : Bool) (x y : Value) → is_null x ≡ false → is_null y ≡ false
    → is_null (cond b x y) ≡ false
either_there true x y h k = h
either_there false x y h k = k

best_there : (better : Value → Value → Bool) (ys : List Value) (y : Value) → is_null y ≡ false
    → AreThere ys → is_null (best_from better y ys) ≡ false
best_there better [] y h all = h
best_there better (z ∷ ys) y h all =
    best_there better ys (cond (better z y) z y) (either_there (better z y) z y all.0 h) all.1

best_with : (better : Value → Value → Bool) (ys : List Value) (x : Value) → AreThere ys
    → best_of better (ys ++ x ∷ []) ≡ better_of better (best_of better ys) x
best_with better [] x h = refl
best_with better (y ∷ ys) x h =
    let best = best_from better y ys in
    best_more better ys y x
    ∙ sym (ap (λ b. cond (b || better x best) x best) (best_there better ys y h.0 h.1))

best_without : (better : Value → Value → Bool) (t x : Value) → is_null x ≡ true → better x t ≡ false
    → t ≡ better_of better t x
best_without better t x e worse =
    kept t x e
    ∙ sym (ap (λ b. cond (is_null t || b) x t) worse ∙ ap (λ b. cond b x t) (or_false (is_null t)))
  where
    or_false : (b : Bool) → (b || false) ≡ b
    or_false true = refl
    or_false false = refl

bests : (better : Value → Value → Bool) → ((t x : Value) → is_null x ≡ true → better x t ≡ false)
    → (xs : List Value) (x : Value)
    → best_of better (present (xs ++ x ∷ [])) ≡ better_of better (best_of better (present xs)) x
bests better worse xs x = by_presence (best_of better) (better_of better) xs x
    (λ ys e. best_without better (best_of better ys) x e (worse (best_of better ys) x e))
    (λ e. best_with better (present xs) x (are_there xs))

no_less : (t x : Value) → is_null x ≡ true → is_less x t ≡ false
no_less t x e = ap (λ x. is_less x t) (null_is x e)

no_greater : (t x : Value) → is_null x ≡ true → is_greater x t ≡ false
no_greater t x e = ap (is_less t) (null_is x e) ∙ by (is_null t)
  where
    by : (b : Bool) → (not b && false && is_lt (order_of t Null)) ≡ false
    by true = refl
    by false = refl

-- what is gathered with one value more
pub gathered_more : (a : Aggregate) (xs : List Value) (x : Value)
    → aggregate_of a (xs ++ x ∷ []) ≡ with_more a (aggregate_of a xs) x
gathered_more CountRows xs x = rows xs x
gathered_more Count xs x = values xs x
gathered_more (Sum p) xs x = sums p xs x
gathered_more (SumInventory p) xs x = inventories p xs x
gathered_more First xs x = firsts xs x
gathered_more Last xs x = lasts xs x
gathered_more Min xs x = bests is_less no_less xs x
gathered_more Max xs x = bests is_greater no_greater xs x
