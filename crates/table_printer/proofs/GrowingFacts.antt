-- Pieces of a text, one behind the other.
use Rattle.std.proofs.Common.{◌≡◌, ℕ, List, [], ◌∷◌, ◌++◌, append_assoc, refl, ap, ◌∙◌}
use Rattle.std.proofs.lemmas.List.{append-nil}
use Rattle.pieces.specs.Pieces.{pieced}
use Rattle.table_printer.specs.Growing.{together}

-- the last piece behind the full ones
pub last_behind : (full : List (List ℕ)) (last : List ℕ)
    → together full ++ last ≡ pieced full last
last_behind [] last = refl
last_behind (p ∷ ps) last =
    append_assoc p (together ps) last ∙ ap (λ l. p ++ l) (last_behind ps last)

all_together : (full : List (List ℕ)) (last : List ℕ)
    → together (full ++ last ∷ []) ≡ pieced full last
all_together [] last = append-nil last
all_together (p ∷ ps) last = ap (λ l. p ++ l) (all_together ps last)

-- lines behind their head
pub behind_head : (full : List (List ℕ)) (head last : List ℕ)
    → together (head ∷ (full ++ last ∷ [])) ≡ head ++ pieced full last
behind_head full head last = ap (λ l. head ++ l) (all_together full last)
