-- The names of targets can be written.
use Rattle.std.proofs.Common.{◌≡◌, ℕ, List, [], ◌∷◌, map, Result, Ok, Err, IfOk, sym, subst}
use Rattle.std.proofs.Math.Logic.{∥∥₁_elim, ∥∥₁_prop}
use Rattle.bql_code.specs.Literals.{text_of}
use Rattle.bql_code.specs.declared.literal.ShortText.{ShortText}
use Rattle.query_code.specs.ByteForm.{AllFit}
use Rattle.query_code.specs.TextForm.{text}

all_have_forms : (ts : List ShortText) → ∥ AllFit text (map text_of ts) ∥₁
all_have_forms [] = ∣ tt ∣₁
all_have_forms (t ∷ ts) =
    ∥∥₁_elim t.has_form ∥∥₁_prop
    (λ fits. ∥∥₁_elim (all_have_forms ts) ∥∥₁_prop (λ all. ∣ (fits, all) ∣₁))

pub forms_of : {E : Type 0} (r : Result (List (List ℕ)) E) (ts : List ShortText)
    → IfOk r (λ list. list ≡ map text_of ts) → IfOk r (λ list. ∥ AllFit text list ∥₁)
forms_of (Ok list) ts h = subst (λ l. ∥ AllFit text l ∥₁) (sym h) (all_have_forms ts)
forms_of (Err e) ts h = tt
