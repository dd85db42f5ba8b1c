-- Decimals that are written, with a leg more.
use Rattle.std.proofs.Common.{◌≡◌, ◌+◌, ◌<◌, ℕ, suc, Bool, true, false, cond, ◌&&◌, nat_lt, Option}
use Rattle.std.proofs.Common.{Some, None, List, [], ◌∷◌, ◌++◌, length, take, get_or, refl, ap, ◌∙◌}
use Rattle.std.proofs.Common.{arith}
use Rattle.std.proofs.Math.Seq.{take-suc}
use Rattle.std.proofs.Math.Nat.{min_comm}
use Rattle.std.specs.Str.{bytes_eq}
use Rattle.bean_interp.specs.Tolerance.{lesser, precision, with_written}
use Rattle.bean_interp.specs.declared.leg.Leg.{Leg}
use Rattle.bean_interp.specs.declared.leg.Leg.TheVariants.{Whole, MissingNumber, MissingAmount}

swapped : (d e : ℕ) (o : Option ℕ) → lesser d (Some (lesser e o)) ≡ lesser e (Some (lesser d o))
swapped d e None = min_comm e d
swapped d e (Some f) = omega arith

-- the order of two legs doesn't matter
swap : (a b : Leg) (c : List ℕ) (o : Option ℕ)
    → with_written a c (with_written b c o) ≡ with_written b c (with_written a c o)
swap (Whole a) (Whole b) c o =
    by (nat_lt 0 a.decimals && bytes_eq a.units.currency c)
    (nat_lt 0 b.decimals && bytes_eq b.units.currency c)
  where
    by : (x y : Bool)
        → cond x (Some (lesser a.decimals (cond y (Some (lesser b.decimals o)) o)))
        (cond y (Some (lesser b.decimals o)) o)
        ≡ cond y (Some (lesser b.decimals (cond x (Some (lesser a.decimals o)) o)))
        (cond x (Some (lesser a.decimals o)) o)
    by true true = ap (λ d. Some d) (swapped a.decimals b.decimals o)
    by true false = refl
    by false true = refl
    by false false = refl
swap (Whole a) (MissingNumber m) c o = refl
swap (Whole a) MissingAmount c o = refl
swap (MissingNumber m) b c o = refl
swap MissingAmount b c o = refl

pub precision_push : (legs : List Leg) (leg : Leg) (c : List ℕ)
    → precision (legs ++ leg ∷ []) c ≡ with_written leg c (precision legs c)
precision_push [] leg c = refl
precision_push (l ∷ legs) leg c =
    ap (with_written l c) (precision_push legs leg c) ∙ swap l leg c (precision legs c)

pub precision_next : (legs : List Leg) (i : ℕ) (d : Leg) (c : List ℕ) → i < length legs
    → precision (take (i + 1) legs) c ≡ with_written (get_or legs i d) c (precision (take i legs) c)
precision_next legs i d c lt =
    let succ : i + 1 ≡ suc i = omega arith in
    ap (λ ls. precision ls c) (ap (λ n. take n legs) succ ∙ take-suc legs i d lt)
    ∙ precision_push (take i legs) (get_or legs i d) c
