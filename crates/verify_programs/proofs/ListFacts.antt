-- What is asked of a value that is sought in a list of the pool: the kind of the list's members.
use Rattle.std.proofs.Common.{◌≡◌, ℕ, ℤ, List, [], ◌∷◌, map, true, false, cond, eqb, refl, sym}
use Rattle.std.proofs.Common.{ap, ◌∙◌, Ok, Err}
use Rattle.std.specs.List.{list_all}
use Rattle.std.specs.Prelude.{◌&&◌}
use Rattle.std.proofs.lemmas.Bool.{false≢true}
use Rattle.bean_base.specs.declared.days.Day as days
use Rattle.query_values.specs.Choice.{text_choice, number_choice, day_choice}
use Rattle.query_rows.specs.Rules.{among, is_like, of_text, of_day}
use Rattle.query_rows.specs.declared.shape.Shape.{Shape}
use Rattle.query_rows.specs.declared.shape.Shape.TheVariants.{Truth, Text, Day, Set, Number}
use Rattle.query_rows.specs.declared.shape.Shape.TheVariants.{Amount, Position, Inventory}
use Rattle.query_rows.specs.declared.shape.Misfit.TheVariants.{Kind}
use Rattle.verify_programs.specs.Loading.{has_some}

all_texts : (ts : List (List ℕ)) → list_all (is_like Text) (map text_choice ts) ≡ true
all_texts [] = refl
all_texts (t ∷ ts) = all_texts ts

all_days : (ds : List days.Day) → list_all (is_like Day) (map day_choice ds) ≡ true
all_days [] = refl
all_days (d ∷ ds) = all_days ds

all_numbers : (p q m : ℕ) (ns : List ℤ) → eqb p q ≡ true
    → list_all (is_like (Number p m)) (map (number_choice q) ns) ≡ true
all_numbers p q m [] e = refl
all_numbers p q m (n ∷ ns) e =
    ap (λ b. b && list_all (is_like (Number p m)) (map (number_choice q) ns)) e
    ∙ all_numbers p q m ns e

pub texts_listed : (ts : List (List ℕ)) (s : Shape) → has_some ts ≡ true
    → of_text Truth s ≡ among (map text_choice ts) s
texts_listed [] s e = absurd (false≢true e)
texts_listed (t ∷ ts) Text e = sym (ap (λ b. cond b (Ok Truth) (Err Kind)) (all_texts ts))
texts_listed (t ∷ ts) Truth e = refl
texts_listed (t ∷ ts) Day e = refl
texts_listed (t ∷ ts) Set e = refl
texts_listed (t ∷ ts) (Number p m) e = refl
texts_listed (t ∷ ts) (Amount p m) e = refl
texts_listed (t ∷ ts) (Position u v) e = refl
texts_listed (t ∷ ts) (Inventory p u v) e = refl

pub days_listed : (ds : List days.Day) (s : Shape) → has_some ds ≡ true
    → of_day Truth s ≡ among (map day_choice ds) s
days_listed [] s e = absurd (false≢true e)
days_listed (d ∷ ds) Day e = sym (ap (λ b. cond b (Ok Truth) (Err Kind)) (all_days ds))
days_listed (d ∷ ds) Truth e = refl
days_listed (d ∷ ds) Text e = refl
days_listed (d ∷ ds) Set e = refl
days_listed (d ∷ ds) (Number p m) e = refl
days_listed (d ∷ ds) (Amount p m) e = refl
days_listed (d ∷ ds) (Position u v) e = refl
days_listed (d ∷ ds) (Inventory p u v) e = refl

-- where the decimals are the list's
pub numbers_listed : (p q m : ℕ) (ns : List ℤ) → eqb p q ≡ true
    → Ok Truth ≡ among (map (number_choice q) ns) (Number p m)
numbers_listed p q m ns e =
    sym (ap (λ b. cond b (Ok Truth) (Err Kind)) (all_numbers p q m ns e))

-- where they are others, or the value is no number
pub none_listed : (q : ℕ) (ns : List ℤ) (s : Shape) → has_some ns ≡ true
    → ((p m : ℕ) → s ≡ Number p m → eqb p q ≡ false)
    → Err Kind ≡ among (map (number_choice q) ns) s
none_listed q [] s e other = absurd (false≢true e)
none_listed q (n ∷ ns) (Number p m) e other =
    sym (ap (λ b. cond (b && list_all (is_like (Number p m)) (map (number_choice q) ns)) (Ok Truth)
    (Err Kind)) (other p m refl))
none_listed q (n ∷ ns) Truth e other = refl
none_listed q (n ∷ ns) Text e other = refl
none_listed q (n ∷ ns) Day e other = refl
none_listed q (n ∷ ns) Set e other = refl
none_listed q (n ∷ ns) (Amount p m) e other = refl
none_listed q (n ∷ ns) (Position u v) e other = refl
none_listed q (n ∷ ns) (Inventory p u v) e other = refl
