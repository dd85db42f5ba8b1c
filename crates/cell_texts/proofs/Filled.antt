-- Cells that fill up their columns.
use Rattle.std.proofs.Common.{◌≡◌, ◌+◌, ◌-◌, ◌++◌, ℕ, List, false, refl, replicate, sym}
use Rattle.number_texts.proofs.RunFacts.{more_behind}
use Rattle.cell_texts.specs.Width.{filled}

-- a text that stands left
pub filled_left : (old text : List ℕ) (own width behind : ℕ)
    → (old ++ text) ++ replicate (width - own + behind) 32
    ≡ (old ++ filled false width own text) ++ replicate behind 32
filled_left old text own width behind =
    sym (more_behind old text (width - own) behind (width - own + behind) refl)
