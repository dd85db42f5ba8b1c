-- A jump is written after the instructions that it passes.
use Rattle.std.proofs.Common.{◌≡◌, ℕ, ◌+◌, List, [], ◌∷◌, ◌++◌, length, ap, ◌∙◌, arith}
use Rattle.std.proofs.Common.{append_assoc, length-append}
use Rattle.std.proofs.Math.Seq.{set-append_seam}
use Rattle.std.specs.Prelude.{slice_set}
use Rattle.query_code.specs.declared.instruction.Instruction.{Instruction}
use Rattle.query_code.specs.declared.instruction.Instruction.TheVariants.{Push, Jump, JumpIfFalse}
use Rattle.query_code.specs.declared.instruction.Push.TheVariants as push
use Rattle.bql_code.specs.Code.{verdict, both_code, either_code}

set_between : (a b : List Instruction) (i j : Instruction) (n : ℕ) → n ≡ length a
    → slice_set (a ++ i ∷ b) n j ≡ a ++ j ∷ b
set_between a b i j n e = ap (λ m. slice_set (a ++ i ∷ b) m j) e ∙ set-append_seam a i b j

-- the first operand, a jump, the second operand and what follows; then the jump is set
pub patch_and : (base x c1 c2 c3 c4 : List Instruction) (y : ℕ → List Instruction) (n to : ℕ)
    (i : Instruction) → c1 ≡ base ++ x → n ≡ length c1 → c2 ≡ c1 ++ i ∷ []
    → c3 ≡ c2 ++ y (length c2) → c4 ≡ c3 ++ verdict (length c3) → to ≡ length c3 + 3
    → slice_set c4 n (JumpIfFalse to)
    ≡ base ++ both_code (length base) x (y (length base + length x + 1))
patch_and base x c1 c2 c3 c4 y n to i e1 en e2 e3 e4 eto =
    let m = length base + length x + 1 in
    let l1 = ap length e1 ∙ length-append base x in
    let l2 : length c2 ≡ m = omega (arith, ap length e2 ∙ length-append c1 (i ∷ []), l1) in
    let d3 : c3 ≡ c2 ++ y m = e3 ∙ ap (λ k. c2 ++ y k) l2 in
    let l3 : length c3 ≡ m + length (y m) =
    omega (arith, ap length d3 ∙ length-append c2 (y m), l2) in
    let z = verdict (m + length (y m)) in
    let d4 : c4 ≡ c3 ++ z = e4 ∙ ap (λ k. c3 ++ verdict k) l3 in
    let all : c4 ≡ (((base ++ x) ++ i ∷ []) ++ y m) ++ z = cc in
    let flat : (((base ++ x) ++ i ∷ []) ++ y m) ++ z ≡ (base ++ x) ++ i ∷ (y m ++ z) =
    simp append_assoc in
    let at : n ≡ length (base ++ x) = en ∙ ap length e1 in
    ap (λ l. slice_set l n (JumpIfFalse to)) (all ∙ flat)
    ∙ set_between (base ++ x) (y m ++ z) i (JumpIfFalse to) n at
    ∙ append_assoc base x (JumpIfFalse to ∷ (y m ++ z))
    ∙ ap (λ k. base ++ (x ++ JumpIfFalse k ∷ (y m ++ z))) (eto ∙ ap (λ k. k + 3) l3)

-- the same of OR, whose second jump is set
pub patch_or : (base x c1 c2 c3 c4 c5 c6 : List Instruction) (y : ℕ → List Instruction)
    (n past end : ℕ) (i : Instruction) → c1 ≡ base ++ x → n ≡ length c1 → past ≡ n + 3
    → c2 ≡ c1 ++ JumpIfFalse past ∷ [] → c3 ≡ c2 ++ Push push.True ∷ [] → c4 ≡ c3 ++ i ∷ []
    → c5 ≡ c4 ++ y (length c4) → c6 ≡ c5 ++ verdict (length c5) → end ≡ length c5 + 3 + 1
    → slice_set c6 (n + 2) (Jump end)
    ≡ base ++ either_code (length base) x (y (length base + length x + 3))
patch_or base x c1 c2 c3 c4 c5 c6 y n past end i e1 en ep e2 e3 e4 e5 e6 ee =
    let m = length base + length x + 3 in
    let j = JumpIfFalse past in
    let o = Push push.True in
    let l1 = ap length e1 ∙ length-append base x in
    let l2 = ap length e2 ∙ length-append c1 (j ∷ []) in
    let l3 = ap length e3 ∙ length-append c2 (o ∷ []) in
    let l4 : length c4 ≡ m =
    omega (arith, ap length e4 ∙ length-append c3 (i ∷ []), l1, l2, l3) in
    let d5 : c5 ≡ c4 ++ y m = e5 ∙ ap (λ k. c4 ++ y k) l4 in
    let l5 : length c5 ≡ m + length (y m) =
    omega (arith, ap length d5 ∙ length-append c4 (y m), l4) in
    let z = verdict (m + length (y m)) in
    let d6 : c6 ≡ c5 ++ z = e6 ∙ ap (λ k. c5 ++ verdict k) l5 in
    let all : c6 ≡ (((((base ++ x) ++ j ∷ []) ++ o ∷ []) ++ i ∷ []) ++ y m) ++ z = cc in
    let flat : (((((base ++ x) ++ j ∷ []) ++ o ∷ []) ++ i ∷ []) ++ y m) ++ z
    ≡ ((base ++ x) ++ j ∷ o ∷ []) ++ i ∷ (y m ++ z) = simp append_assoc in
    let at : n + 2 ≡ length ((base ++ x) ++ j ∷ o ∷ []) =
    omega (arith, length-append (base ++ x) (j ∷ o ∷ []), en, ap length e1) in
    let back : ((base ++ x) ++ j ∷ o ∷ []) ++ Jump end ∷ (y m ++ z)
    ≡ base ++ (x ++ j ∷ o ∷ Jump end ∷ (y m ++ z)) = simp append_assoc in
    let past_is : past ≡ m = omega (arith, ep, en, l1) in
    let end_is : end ≡ m + length (y m) + 4 = omega (arith, ee, l5) in
    ap (λ l. slice_set l (n + 2) (Jump end)) (all ∙ flat)
    ∙ set_between ((base ++ x) ++ j ∷ o ∷ []) (y m ++ z) i (Jump end) (n + 2) at
    ∙ back
    ∙ ap (λ k. base ++ (x ++ JumpIfFalse k ∷ o ∷ Jump end ∷ (y m ++ z))) past_is
    ∙ ap (λ k. base ++ (x ++ JumpIfFalse m ∷ o ∷ Jump k ∷ (y m ++ z))) end_is
