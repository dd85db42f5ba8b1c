use Rattle.std.proofs.Common.{◌≡◌, ℕ, zero, suc, List, [], ◌∷◌, set, refl, ap, ap₂, ◌∙◌}
use Rattle.verify_programs.specs.Pass.{met}
use Rattle.verify_programs.proofs.waiting.bring.Goals as goal

set_twice : {A : Type 0} (xs : List A) (k : ℕ) (x y : A) → set (set xs k x) k y ≡ set xs k y
set_twice [] k x y = refl
set_twice (z ∷ xs) zero x y = refl
set_twice (z ∷ xs) (suc k) x y = ap (λ l. z ∷ l) (set_twice xs k x y)

pub returns : goal.returns
returns c =
    ap₂ (λ l w. set l c.args.place w) c.taken-known.ensures.left
    (c.met.ensures ∙ ap (λ w. met w c.args.state) c.taken-known.ensures.is)
    ∙ set_twice c.args.waiting.now.items c.args.place _ _
