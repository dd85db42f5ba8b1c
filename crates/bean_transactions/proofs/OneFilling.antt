-- One thing is filled in.
use Rattle.std.proofs.Common.{◌≡◌, ℕ, suc, ◌-◌, ◌*◌, ◌/◌, ◌^◌, ◌<◌, ℤ, pos, negsuc, neg_ℤ}
use Rattle.std.proofs.Common.{◌*ℤ◌, List, [], ◌∷◌, map, refl}
use Rattle.std.proofs.Common.{sym, ap}
use Rattle.std.proofs.Common.{◌∙◌, subst, arith}
use Rattle.std.specs.Int.RustNames.{unsigned_abs}
use Rattle.std.specs.List.{AllByRecursion}
use Rattle.std.proofs.Math.IntN.{pos-*ℤ-pos, negsuc-*ℤ-pos}
use Rattle.std.proofs.Math.Nat.{mul-div_cancel, mul-le-mul_right}
use Rattle.std.proofs.lemmas.Int.{ints}
use Rattle.bean_base.proofs.NumFacts.{one_num}
use Rattle.bean_base.proofs.PowerFacts.{pow_pos}
use Rattle.bean_base.specs.declared.num.Num.{Num}
use Rattle.bean_interp.specs.Completion.{AreFills, CanBeFilled, Fills, gap_of}
use Rattle.bean_interp.specs.Due.{IsAt}
use Rattle.bean_interp.specs.declared.fill.Fill.{Fill}
use Rattle.bean_interp.specs.declared.leg.Leg.{Leg}

cancel : (m n u : ℕ) → 0 < u → m * u ≡ n * u → m ≡ n
cancel m n u h e = sym (mul-div_cancel m h) ∙ ap (λ k. k / u) e ∙ mul-div_cancel n h

some_product : (m u : ℕ) → 0 < u → 0 < suc m * u
some_product m u h = let least = mul-le-mul_right {m = 1} {n =
    suc m} u (omega arith) in omega (arith, h, least)

times_injective : (a b : ℤ) (u : ℕ) → 0 < u → a *ℤ pos u ≡ b *ℤ pos u → a ≡ b
times_injective (pos m) (pos n) u h e =
    let same : pos (m * u) ≡ pos (n * u) = sym (pos-*ℤ-pos m u) ∙ e ∙ pos-*ℤ-pos n u in
    ap pos (cancel m n u h (ap unsigned_abs same))
times_injective (negsuc m) (negsuc n) u h e =
    let same : neg_ℤ (pos (suc m * u)) ≡ neg_ℤ (pos (suc n * u)) =
    sym (negsuc-*ℤ-pos m u) ∙ e ∙ negsuc-*ℤ-pos n u in
    let magnitudes : suc m * u ≡ suc n * u = omega (arith, ints, same) in
    let sucs = cancel (suc m) (suc n) u h magnitudes in
    ap negsuc (omega (arith, sucs))
times_injective (pos m) (negsuc n) u h e =
    let same : pos (m * u) ≡ neg_ℤ (pos (suc n * u)) =
    sym (pos-*ℤ-pos m u) ∙ e ∙ negsuc-*ℤ-pos n u in
    absurd (omega (arith, ints, same, some_product n u h))
times_injective (negsuc m) (pos n) u h e =
    let same : neg_ℤ (pos (suc m * u)) ≡ pos (n * u) =
    sym (negsuc-*ℤ-pos m u) ∙ e ∙ pos-*ℤ-pos n u in
    absurd (omega (arith, ints, same, some_product m u h))

one_number : (d : ℕ) (count : ℤ) (a b : Num) → IsAt d count a → IsAt d count b → a ≡ b
one_number d count a b h k =
    let places = h.1 ∙ sym k.1 in
    let unit = 10 ^ (16 - b.places) in
    let same : a.count *ℤ pos unit ≡ b.count *ℤ pos unit =
    subst (λ p. a.count *ℤ pos (10 ^ (16 - p)) ≡ b.count *ℤ pos unit) places (h.0 ∙ sym k.0) in
    one_num a b
    (times_injective a.count b.count unit (omega (arith, pow_pos (16 - b.places))) same) places

heads : {X : Type 0} (x y : X) (xs ys : List X) → x ∷ xs ≡ y ∷ ys → x ≡ y
heads x y xs ys e = cc

tails : {X : Type 0} (x y : X) (xs ys : List X) → x ∷ xs ≡ y ∷ ys → xs ≡ ys
tails x y xs ys e = cc

one_by_gaps : (legs : List Leg) (fs gs : List Fill) → map gap_of fs ≡ map gap_of gs
    → AllByRecursion {X = Fill} (λ f. Fills legs f.amount.currency f.amount.number) fs
    → AllByRecursion {X = Fill} (λ f. Fills legs f.amount.currency f.amount.number) gs → fs ≡ gs
one_by_gaps legs [] [] e h k = refl
one_by_gaps legs [] (g ∷ gs) e h k = cc
one_by_gaps legs (f ∷ fs) [] e h k = cc
one_by_gaps legs (f ∷ fs) (g ∷ gs) e h k =
    let gap = heads (gap_of f) (gap_of g) (map gap_of fs) (map gap_of gs) e in
    let currency : f.amount.currency ≡ g.amount.currency = ap (λ p. p.1) gap in
    let number =
    one_number _ _ f.amount.number g.amount.number h.0
    (subst (λ c. Fills legs c g.amount.number) (sym currency) k.0) in
    let rest =
    one_by_gaps legs fs gs (tails (gap_of f) (gap_of g) (map gap_of fs)
    (map gap_of gs) e) h.1 k.1 in
    λ j. record {
      leg = ap (λ p. p.0) gap j;
      amount = record { number = number j; currency = currency j };
    } ∷ rest j

pub one_filling : (legs : List Leg) (fs gs : List Fill) → AreFills legs fs → AreFills legs gs
    → fs ≡ gs
one_filling legs fs gs h k =
    one_by_gaps legs fs gs (h.gaps_are ∙ sym k.gaps_are) h.are_due k.are_due

numbers_by_gaps : (legs : List Leg) (fs : List Fill)
    → AllByRecursion {X = Fill} (λ f. Fills legs f.amount.currency f.amount.number) fs
    → AllByRecursion {X = ℕ × List ℕ} (λ g. (n : Num) × Fills legs g.1 n) (map gap_of fs)
numbers_by_gaps legs [] h = tt
numbers_by_gaps legs (f ∷ fs) h = ((f.amount.number, h.0), numbers_by_gaps legs fs h.1)

pub can_be : (legs : List Leg) (fs : List Fill) → AreFills legs fs → CanBeFilled legs
can_be legs fs h =
    subst (AllByRecursion {X = ℕ × List ℕ} (λ g. (n : Num) × Fills legs g.1 n)) h.gaps_are
    (numbers_by_gaps legs fs h.are_due)
