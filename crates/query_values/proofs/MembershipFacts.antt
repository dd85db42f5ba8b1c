-- Values in lists of texts, of days and of counts.
use Rattle.std.proofs.Common.{◌≡◌, ℕ, ℤ, Bool, true, false, ◌&&◌, ◌||◌, ◌==◌, List, [], ◌∷◌, map, refl}
use Rattle.std.proofs.Common.{sym, ap₂}
use Rattle.std.specs.List.{list_all, list_any}
use Rattle.std.specs.Ordering.{int_eq}
use Rattle.bean_base.specs.declared.days.Day as day
use Rattle.bean_lots.specs.Lot.{same_text}
use Rattle.query_values.proofs.ArithmeticFacts.{same_at}
use Rattle.query_values.specs.Choice.{text_choice, day_choice, number_choice, same_day}
use Rattle.query_values.specs.Equality.{same}
use Rattle.query_values.specs.Operand.{are_alike}
use Rattle.query_values.specs.Operation.{is_among}
use Rattle.query_values.specs.declared.value.Value.{Value}
use Rattle.query_values.specs.declared.value.Value.TheVariants.{Null, Truth, Number, Text, Day, Set}
use Rattle.query_values.specs.declared.value.Value.TheVariants.{Amount, Position, Inventory}

never : {A : Type 0} (x : Value) (f : A → Value) (ys : List A) → ((y : A) → same x (f y) ≡ false)
    → false ≡ list_any (same x) (map f ys)
never x f [] h = refl
never x f (y ∷ ys) h = ap₂ ◌||◌ (sym (h y)) (never x f ys h)

each : {A : Type 0} (x : Value) (f : A → Value) (p : A → Bool) (ys : List A)
    → ((y : A) → p y ≡ same x (f y)) → list_any p ys ≡ list_any (same x) (map f ys)
each x f p [] h = refl
each x f p (y ∷ ys) h = ap₂ ◌||◌ (h y) (each x f p ys h)

pub among_texts : (t : List ℕ) (ts : List (List ℕ))
    → list_any (same_text t) ts ≡ is_among (map text_choice ts) (Text t)
among_texts t ts = each (Text t) text_choice (same_text t) ts (λ u. refl)

pub among_days : (d : day.Day) (ds : List day.Day)
    → list_any (same_day d) ds ≡ is_among (map day_choice ds) (Day d)
among_days d ds = each (Day d) day_choice (same_day d) ds (λ e. refl)

pub no_text : (x : Value) (ts : List (List ℕ)) → ((t : List ℕ) → x ≡ Text t → ⊥)
    → false ≡ is_among (map text_choice ts) x
no_text Null ts h = refl
no_text (Truth b) ts h = never (Truth b) text_choice ts (λ t. refl)
no_text (Number p n) ts h = never (Number p n) text_choice ts (λ t. refl)
no_text (Text u) ts h = absurd (h u refl)
no_text (Day d) ts h = never (Day d) text_choice ts (λ t. refl)
no_text (Set us) ts h = never (Set us) text_choice ts (λ t. refl)
no_text (Amount p c n) ts h = never (Amount p c n) text_choice ts (λ t. refl)
no_text (Position k n) ts h = never (Position k n) text_choice ts (λ t. refl)
no_text (Inventory b) ts h = never (Inventory b) text_choice ts (λ t. refl)

pub no_day : (x : Value) (ds : List day.Day) → ((d : day.Day) → x ≡ Day d → ⊥)
    → false ≡ is_among (map day_choice ds) x
no_day Null ds h = refl
no_day (Truth b) ds h = never (Truth b) day_choice ds (λ d. refl)
no_day (Number p n) ds h = never (Number p n) day_choice ds (λ d. refl)
no_day (Text u) ds h = never (Text u) day_choice ds (λ d. refl)
no_day (Day e) ds h = absurd (h e refl)
no_day (Set us) ds h = never (Set us) day_choice ds (λ d. refl)
no_day (Amount p c n) ds h = never (Amount p c n) day_choice ds (λ d. refl)
no_day (Position k n) ds h = never (Position k n) day_choice ds (λ d. refl)
no_day (Inventory b) ds h = never (Inventory b) day_choice ds (λ d. refl)

pub no_number : (x : Value) (places : ℕ) (ns : List ℤ) → ((p : ℕ) (n : ℤ) → x ≡ Number p n → ⊥)
    → false ≡ is_among (map (number_choice places) ns) x
no_number Null places ns h = refl
no_number (Truth b) places ns h = never (Truth b) (number_choice places) ns (λ n. refl)
no_number (Number p m) places ns h = absurd (h p m refl)
no_number (Text u) places ns h = never (Text u) (number_choice places) ns (λ n. refl)
no_number (Day e) places ns h = never (Day e) (number_choice places) ns (λ n. refl)
no_number (Set us) places ns h = never (Set us) (number_choice places) ns (λ n. refl)
no_number (Amount p c m) places ns h = never (Amount p c m) (number_choice places) ns (λ n. refl)
no_number (Position k m) places ns h = never (Position k m) (number_choice places) ns (λ n. refl)
no_number (Inventory b) places ns h = never (Inventory b) (number_choice places) ns (λ n. refl)

both_hold : (a b : Bool) → (a && b) ≡ true → (a ≡ true) × (b ≡ true)
both_hold true b h = (refl, h)
both_hold false b h = absurd cc

-- numbers of which each has as many decimals
pub among_numbers : (p places : ℕ) (m : ℤ) (ns : List ℤ)
    → list_all (are_alike (Number p m)) (map (number_choice places) ns) ≡ true
    → list_any (int_eq m) ns ≡ is_among (map (number_choice places) ns) (Number p m)
among_numbers p places m [] h = refl
among_numbers p places m (n ∷ ns) h =
    let alike =
    both_hold (p == places) (list_all (are_alike (Number p m)) (map (number_choice places) ns)) h in
    ap₂ ◌||◌ (same_at p places m n alike.0) (among_numbers p places m ns alike.1)
