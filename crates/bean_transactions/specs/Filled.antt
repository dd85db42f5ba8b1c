-- What is filled in, in the order of the lines at which it is.
use Rattle.std.specs.Prelude.{◌≡◌, ℕ, ◌+◌, ◌≤◌, ◌<◌, ◌==◌, ⊤, List, [], ◌∷◌, filter}
use Rattle.bean_interp.specs.declared.fill.Fill.{Fill}

-- none stands at a line before that one, nor at one before that of the fill before it
abbrev pub AreFrom : ℕ → List Fill → Type 0
AreFrom line [] = ⊤
AreFrom line (f ∷ fs) = (line ≤ f.leg) × AreFrom f.leg fs

abbrev pub at_line : ℕ → List Fill → List Fill
at_line line fills = filter (λ f. f.leg == line) fills

-- those of a line, and those behind it
pub record IsCutBehind (line : ℕ) (fills here behind : List Fill) : Type 0 where
  pub of_line : at_line line here ≡ at_line line fills
  pub of_later : (later : ℕ) → line < later → at_line later behind ≡ at_line later fills
  pub are_from : AreFrom (line + 1) behind
