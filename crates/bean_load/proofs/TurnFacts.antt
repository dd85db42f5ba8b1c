-- Codes stand to each other as the directives that have them.
use Rattle.std.proofs.Common.{◌≡◌, ◌<◌, ◌<ℤ◌, ◌+ℤ◌, ℕ, ℤ, pos, List, get_or}
use Rattle.std.proofs.Common.{Bool, true, false, sym, ap, ap₂, ◌∙◌, arith, inl, inr}
use Rattle.std.proofs.lemmas.Bool.{cases_order}
use Rattle.std.proofs.lemmas.Cmp.{on_total}
use Rattle.std.proofs.lemmas.Int.{ints}
use Rattle.std.specs.Cmp.{int_cmp_is, nat_cmp_is}
use Rattle.std.specs.Ordering.{int_cmp, nat_cmp, ordering_then}
use Rattle.std.specs.declared.cmp.Ordering.TheVariants.{Less, Equal, Greater}
use Rattle.arranging.proofs.KeyFacts.{digits_lead}
use Rattle.arranging.specs.Keys.{AreArranged, AreArrangedIf}
use Rattle.bean_directives.specs.declared.directive.Directive.{Directive}
use Rattle.bean_load.specs.Order.{AreInOrder, AreInOrderIf, key_cmp, key_of, turn_of}
use Rattle.bean_load.specs.Turns.{AreCodes, IsCode}
use Rattle.bean_load.specs.declared.order.TheConstants.{BEFORE, PARTS}
use Rattle.bean_load.proofs.OrderFacts.{key_total, keys_are_turns, turn_cmp}
use Rattle.bean_loaded.specs.declared.placed.Placed.{Placed}

-- ---- what codes tell

module _ (v w : ℤ) (a b : ℕ) (a_is : pos a ≡ v +ℤ BEFORE) (b_is : pos b ≡ w +ℤ BEFORE) where
  same : a ≡ b → v ≡ w
  same even = omega (arith, ints, even, a_is, b_is)

  less : a < b → v <ℤ w
  less up = omega (arith, ints, up, a_is, b_is)

  more : b < a → w <ℤ v
  more down = omega (arith, ints, down, a_is, b_is)

  turns_stand : int_cmp v w ≡ nat_cmp a b
  turns_stand =
      elim (cases_order a b) [
        | inl even ↦ sym (int_cmp_is v w Equal (same even)) ∙ nat_cmp_is a b Equal even
        | inr apart ↦
            elim apart [
              | inl up ↦ sym (int_cmp_is v w Less (less up)) ∙ nat_cmp_is a b Less up
              | inr down ↦ sym (int_cmp_is v w Greater (more down)) ∙ nat_cmp_is a b Greater down
            ]
      ]

codes_stand : (t u : ℤ × ℕ) (c d : ℕ) → IsCode t c → IsCode u d → turn_cmp t u ≡ nat_cmp c d
codes_stand t u c d is_c is_d =
    ap (λ o. ordering_then o (nat_cmp t.1 u.1))
    (turns_stand t.0 u.0 is_c.above is_d.above is_c.is_above is_d.is_above)
    ∙ sym (digits_lead PARTS is_c.above t.1 is_d.above u.1 is_c.within is_d.within)
    ∙ sym (ap₂ nat_cmp is_c.is is_d.is)

pub arranged_by_codes : (xs ys : List (Placed Directive)) (codes : List ℕ) → AreCodes xs codes
    → AreArranged codes xs ys → AreInOrder xs ys
arranged_by_codes xs ys codes are arranged =
    arranged (λ x y. key_cmp (key_of x) (key_of y)) (on_total key_of key_total)
    (λ m n d in_m in_n.
    sym (keys_are_turns (get_or xs m d) (get_or xs n d))
    ∙ codes_stand (turn_of (get_or xs m d)) (turn_of (get_or xs n d)) (get_or codes m 0)
    (get_or codes n 0) (are.each m d in_m) (are.each n d in_n))

pub arranged_if : (xs ys : List (Placed Directive)) (codes : List ℕ) → AreCodes xs codes
    → (done : Bool) → AreArrangedIf done codes xs ys → AreInOrderIf done xs ys
arranged_if xs ys codes are true arranged = arranged_by_codes xs ys codes are arranged
arranged_if xs ys codes are false same = same
