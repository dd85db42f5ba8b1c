-- Values are fed one after the other.
use Rattle.std.proofs.Common.{◌≡◌, ℕ, List, ◌∷◌, fold, sym, ap, ◌∙◌}
use Rattle.std.proofs.lemmas.List.Sums.{fold-append}
use Rattle.query_values.specs.declared.value.Value.{Value}
use Rattle.value_hashes.specs.Fed.{value_fed, values_fed}

pub fed_on : {S : Type 0} (write : S → List ℕ → S) (all s t : S) (v : Value) (vs rest : List Value)
    → all ≡ fold write s (values_fed vs) → vs ≡ v ∷ rest → t ≡ fold write s (value_fed v)
    → all ≡ fold write t (values_fed rest)
fed_on write all s t v vs rest was is fed =
    was ∙ ap (λ vs. fold write s (values_fed vs)) is
    ∙ fold-append write s (value_fed v) (values_fed rest)
    ∙ ap (λ s. fold write s (values_fed rest)) (sym fed)
