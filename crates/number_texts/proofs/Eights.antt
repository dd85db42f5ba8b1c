-- Lists that are looked at in eights, of which the last lies over those before it.
use Rattle.std.proofs.Common.{◌≡◌, ℕ, zero, suc, ◌+◌, ◌-◌, ◌≤◌, ◌<◌, ◌&&◌, Bool, true, false, List, [], ◌∷◌}
use Rattle.std.proofs.Common.{length, length-drop, take, drop, refl, sym, ap, ◌∙◌, arith}
use Rattle.std.proofs.Common.{take-add}
use Rattle.std.proofs.lemmas.List.Folds.{list_all-append}
use Rattle.std.specs.List.{list_all}

and_true : (a : Bool) → (a && true) ≡ a
and_true true = refl
and_true false = refl

-- what all do, those at the front do
front : (p : ℕ → Bool) (bs : List ℕ) (n : ℕ)
    → (list_all p bs && list_all p (take n bs)) ≡ list_all p bs
front p [] zero = refl
front p [] (suc n) = refl
front p (b ∷ bs) zero = and_true (list_all p (b ∷ bs))
front p (b ∷ bs) (suc n) = both (p b) (list_all p bs) (list_all p (take n bs)) (front p bs n)
  where
    both : (x y z : Bool) → (y && z) ≡ y → ((x && y) && (x && z)) ≡ (x && y)
    both true y z h = h
    both false y z h = refl

-- all do it where those before a place do it, and those from an earlier one on
pub covered_from : (p : ℕ → Bool) (bs : List ℕ) (k n : ℕ) → k ≤ n
    → (list_all p (drop k bs) && list_all p (take n bs)) ≡ list_all p bs
covered_from p [] zero zero below = refl
covered_from p [] zero (suc n) below = refl
covered_from p [] (suc k) zero below = refl
covered_from p [] (suc k) (suc n) below = refl
covered_from p (b ∷ bs) zero n below = front p (b ∷ bs) n
covered_from p (b ∷ bs) (suc k) zero below = absurd (omega (arith, below))
covered_from p (b ∷ bs) (suc k) (suc n) below =
    moved (p b) (list_all p (drop k bs)) (list_all p (take n bs))
    ∙ ap (λ t. p b && t) (covered_from p bs k n (omega (arith, below)))
  where
    moved : (x y z : Bool) → (y && (x && z)) ≡ (x && (y && z))
    moved true true z = refl
    moved true false z = refl
    moved false true z = refl
    moved false false z = refl

pub covered : (p : ℕ → Bool) (bs : List ℕ) (n : ℕ) → length (drop n bs) < 8 → n ≤ length bs
    → (list_all p (drop (length bs - 8) bs) && list_all p (take n bs)) ≡ list_all p bs
covered p bs n few within = covered_from p bs (length bs - 8) n (omega (arith, within, few, length-drop n bs))

and_assoc : (a b c : Bool) → ((a && b) && c) ≡ (a && (b && c))
and_assoc true b c = refl
and_assoc false b c = refl

-- eight more
pub eight_more : (p : ℕ → Bool) (bs eight : List ℕ) (n : ℕ) (all last : Bool)
    → all ≡ (last && list_all p (take n bs)) → eight ≡ take 8 (drop n bs)
    → (all && list_all p eight) ≡ (last && list_all p (take (n + 8) bs))
eight_more p bs eight n all last before is =
    (λ k. before k && list_all p (is k))
    ∙ and_assoc last (list_all p (take n bs)) (list_all p (take 8 (drop n bs)))
    ∙ ap (λ b. last && b)
    (sym (ap (list_all p) (take-add n 8 bs)
    ∙ list_all-append p (take n bs) (take 8 (drop n bs))))
