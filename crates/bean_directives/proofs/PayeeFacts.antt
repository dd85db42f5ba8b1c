-- A payee that is a quote.
use Rattle.std.proofs.Common.{◌≡◌, ℕ, true, List, [], ◌∷◌, ap, sym}
use Rattle.std.proofs.lemmas.Bool.{eqb-true, true≢false}
use Rattle.bean_base.specs.Character.{quote}
use Rattle.bean_base.specs.Text.{read_text}
use Rattle.bean_directives.specs.Payee.{is_quote}

-- what is written as a quote alone stands for one
pub quote_read : (bs : List ℕ) → is_quote bs ≡ true → read_text bs ≡ quote ∷ []
quote_read [] is = absurd (true≢false (sym is))
quote_read (b ∷ []) is = ap (λ c. c ∷ []) (eqb-true b quote is)
quote_read (b ∷ c ∷ bs) is = absurd (true≢false (sym is))
