use Rattle.std.proofs.Common.{◌+◌, ◌++◌, ℕ, List, length, refl, sym, ap, ◌∙◌}
use Rattle.query_code.specs.declared.instruction.Instruction.{Instruction}
use Rattle.bql_code.specs.Code as rule
use Rattle.bql_code.specs.Code.{both_code, either_code, behind_and, behind_or}
use Rattle.bql_code.specs.Kept.{core_of}
use Rattle.bql_code.specs.declared.computed.Core.{Core}
use Rattle.bql_code.proofs.PatchFacts.{patch_and, patch_or}
use Rattle.bql_code.proofs.emitting.+emit.Goals as goal

pub returns-in_ok-no-in-And-clause-code : goal.returns-in_ok-no-in-And-clause-code
returns-in_ok-no-in-And-clause-code t c =
    let base = c.args.code.now.items in
    let n = length base in
    let code : ℕ → Core → List Instruction = λ p x. rule.code c.args.pool.now p (core_of x) in
    let of : Core → Core → List Instruction =
    λ x y. base ++ both_code n (code n x) (code (behind_and n (code n x)) y) in
    patch_and _ _ _ _ _ _ (λ p. code p c.deref-in-And-2.result.now) _ _ _
    c.in_ok-emit-in-And.ensures.code (c.len-jump.ensures ∙ c.emit-in-And.new.code.ok.0)
    c.in_ok-put-in-And.ensures.code c.in_ok-emit-in-And-2.ensures.code
    c.in_ok-no-in-And.ensures.code c.in_ok-no-in-And.ensures.place
    ∙ ap (λ x. of x c.deref-in-And-2.result.now) c.deref-in-And.ensures
    ∙ ap (λ y. of c.in-And.x.value y) c.deref-in-And-2.ensures
    ∙ ap (λ e. base ++ code n e) (sym c.in-And.is)

pub returns-in_ok-no-in-Or-clause-code : goal.returns-in_ok-no-in-Or-clause-code
returns-in_ok-no-in-Or-clause-code t c =
    let base = c.args.code.now.items in
    let n = length base in
    let code : ℕ → Core → List Instruction = λ p x. rule.code c.args.pool.now p (core_of x) in
    let of : Core → Core → List Instruction =
    λ x y. base ++ either_code n (code n x) (code (behind_or n (code n x)) y) in
    patch_or _ _ _ _ _ _ _ _ (λ p. code p c.deref-in-Or-2.result.now) _ _ _ _
    c.in_ok-emit-in-Or.ensures.code (c.len-jump-in-Or.ensures ∙ c.emit-in-Or.new.code.ok.0)
    refl c.in_ok-put-in-Or.ensures.code c.in_ok-put-in-Or-2.ensures.code
    c.in_ok-put-in-Or-3.ensures.code c.in_ok-emit-in-Or-2.ensures.code
    c.in_ok-no-in-Or.ensures.code (ap (λ k. k + 1) c.in_ok-no-in-Or.ensures.place)
    ∙ ap (λ x. of x c.deref-in-Or-2.result.now) c.deref-in-Or.ensures
    ∙ ap (λ y. of c.in-Or.x.value y) c.deref-in-Or-2.ensures
    ∙ ap (λ e. base ++ code n e) (sym c.in-Or.is)
