-- Lists that differ at a place.
use Rattle.std.proofs.Common.{◌≡◌, ◌<◌, ◌&&◌, ℕ, zero, suc, Bool, false, List, [], ◌∷◌, length}
use Rattle.std.proofs.Common.{sym, ap, ◌∙◌, get_or, drop, arith}
use Rattle.std.specs.Cmp.Lexicographic.{pointwise}
use Rattle.bean_base.specs.declared.days.Day.{Day}
use Rattle.query_values.specs.Choice.{same_day}

apart : {A : Type 0} (same : A → A → Bool) (xs ys : List A) (i : ℕ) (x y : A) → i < length xs
    → i < length ys → x ≡ get_or xs i x → y ≡ get_or ys i y → same x y ≡ false
    → pointwise same (drop i xs) (drop i ys) ≡ false
apart same [] ys i x y h k is at e = absurd (omega (arith, h))
apart same (z ∷ xs) [] i x y h k is at e = absurd (omega (arith, k))
apart same (z ∷ xs) (w ∷ ys) zero x y h k is at e =
    ap (λ b. b && pointwise same xs ys) (ap (λ v. same v w) (sym is) ∙ ap (same x) (sym at) ∙ e)
apart same (z ∷ xs) (w ∷ ys) (suc i) x y h k is at e =
    apart same xs ys i x y (omega (arith, h)) (omega (arith, k)) is at e

pub days_apart : (xs ys : List Day) (i : ℕ) (a b : Day) → i < length xs → length xs ≡ length ys
    → a ≡ get_or xs i a → b ≡ get_or ys i b → same_day a b ≡ false
    → pointwise same_day (drop i xs) (drop i ys) ≡ pointwise same_day xs ys
    → false ≡ pointwise same_day xs ys
days_apart xs ys i a b h e is at other whole =
    sym (apart same_day xs ys i a b h (omega (arith, h, e)) is at other) ∙ whole
