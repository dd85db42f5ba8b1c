-- What is known of texts: what is noted is so, and all else stays.
use Rattle.std.proofs.Common.{◌≡◌, ℕ, List, [], ◌∷◌, Option, Some, None, refl, subst, ap, sym, ◌∙◌}
use Rattle.std.proofs.Common.{Bool, replicate, unwrap_or, zero, suc}
use Rattle.std.specs.Prelude.{slice_set}
use Rattle.plain_machine.specs.SectionRun.{slot_at}
use Rattle.query_sections.specs.Known.{AreSo, IsNothing, IsSo, found_in, is_of}
use Rattle.query_sections.specs.declared.known.Known.{Known}

same_some : {A : Type 0} (x y : A) → Some x ≡ Some y → x ≡ y
same_some x y e = ap (λ o. unwrap_or o x) e

pub noted : (patterns : List (Option (List ℕ))) (known : List (Option Known)) (place : ℕ)
    (one : Known) → AreSo patterns known → IsSo patterns one → (k : ℕ) (o : Known)
    → slot_at (slice_set known place (Some one)) k ≡ Some o → IsSo patterns o
noted patterns [] place one so is k o e = so k o e
noted patterns (x ∷ known) zero one so is zero o e = subst (IsSo patterns) (same_some one o e) is
noted patterns (x ∷ known) zero one so is (suc k) o e = so (suc k) o e
noted patterns (x ∷ known) (suc place) one so is zero o e = so zero o e
noted patterns (x ∷ known) (suc place) one so is (suc k) o e =
    noted patterns known place one (λ j. so (suc j)) is k o e

-- what stands at the place of a text is so
pub told : (patterns : List (Option (List ℕ))) (known : List (Option Known)) (place k : ℕ)
    (text : List ℕ) (found : Bool) → AreSo patterns known
    → slot_at known place ≡ Some (is_of k text found) → found_in patterns k text ≡ Some found
told patterns known place k text found so there = so place (is_of k text found) there

nothing_at : (n k : ℕ) → slot_at {A = Known} (replicate n None) k ≡ None
nothing_at zero k = refl
nothing_at (suc n) zero = refl
nothing_at (suc n) (suc k) = nothing_at n k

pub nothing_known : (known : List (Option Known)) (n : ℕ) → known ≡ replicate n None
    → IsNothing known
nothing_known known n is k = ap (λ l. slot_at l k) is ∙ nothing_at n k

none_apart : (one : Known) → None ≡ Some one → ⊥
none_apart one e = cc

pub nothing_is_so : (patterns : List (Option (List ℕ))) (known : List (Option Known))
    → IsNothing known → AreSo patterns known
nothing_is_so patterns known none place one e = absurd (none_apart one (sym (none place) ∙ e))
