use Rattle.std.proofs.Common.{◌≡◌, ℕ, Bool, true, false, cond, nat_eq, nat_lt, List, [], ◌∷◌, slice_index_or}
use Rattle.std.proofs.Common.{ap, refl, sym, ◌∙◌, arith}
use Rattle.std.proofs.lemmas.Bool.Decides.{nat_tests}
use Rattle.std.specs.Cmp.{nat_cmp_is}
use Rattle.std.specs.Cmp.Lexicographic.{slice_cmp}
use Rattle.std.specs.Ordering.{nat_cmp, ordering_then}
use Rattle.std.specs.declared.cmp.Ordering.{Ordering}
use Rattle.std.specs.declared.cmp.Ordering.TheVariants.{Less, Equal, Greater}
use Rattle.query_holdings.proofs.bag_key.compare_currencies.Goals as goal

settled : (less same : Bool) (rest : Ordering) → same ≡ false
    → cond less Less (cond same Equal Greater)
    ≡ ordering_then (cond less Less (cond same Equal Greater)) rest
settled true same rest other = refl
settled false same rest other =
    ap (λ b. cond {A = Ordering} b Equal Greater) other
    ∙ sym (ap (λ b. ordering_then (cond b Equal Greater) rest) other)

-- where the first bytes differ, these are in the order of the lists
first_decides : (xs ys : List ℕ) → (slice_index_or xs 0 0 ≡ slice_index_or ys 0 0 → ⊥)
    → nat_cmp (slice_index_or xs 0 0) (slice_index_or ys 0 0) ≡ slice_cmp nat_cmp xs ys
first_decides [] [] other = absurd (other refl)
first_decides [] (y ∷ ys) other = sym (nat_cmp_is 0 y Less (omega (arith, other)))
first_decides (x ∷ xs) [] other = sym (nat_cmp_is x 0 Greater (omega (arith, other)))
first_decides (x ∷ xs) (y ∷ ys) other =
    settled (nat_lt x y) (nat_eq x y) (slice_cmp nat_cmp xs ys)
    (grind (arith, nat_tests, other))

pub returns-in-len1-up-len1-up : goal.returns-in-len1-up-len1-up
returns-in-len1-up-len1-up c =
    c.cmp.ensures ∙ first_decides c.as_bytes.result.now c.as_bytes-2.result.now c.if-x-y.true
    ∙ (λ i. slice_cmp nat_cmp ((c.as_bytes.ensures.value ∙ c.text.ensures.text) i)
    ((c.as_bytes-2.ensures.value ∙ c.text-2.ensures.text) i))
