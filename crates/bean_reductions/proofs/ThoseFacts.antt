-- Some of the positions have all candidates, where no other is one.
use Rattle.std.proofs.Common.{◌≡◌, ℕ, ℤ, Bool, true, false, cond, filter, List, [], ◌∷◌, ◌++◌, ◌+ℤ◌}
use Rattle.std.proofs.Common.{Option, Some, None, IfSome, refl, sym, ◌∙◌, ap}
use Rattle.bean_lots.specs.Inventory.{count_of, held_as}
use Rattle.bean_lots.specs.declared.lot.Position.{Position}
use Rattle.bean_reductions.specs.After.{AreSmall, after}
use Rattle.bean_reductions.specs.Candidate.{candidate_of, candidates}
use Rattle.bean_reductions.specs.declared.reduction.Selector.{Selector}
use Rattle.bean_reductions.proofs.AfterFacts.{front}

pub of_those : (s : Selector) (p : Position → Bool) (want : ℤ)
    → ((e : Position) (n : ℤ) → p e ≡ false → candidate_of s want e.key.currency e.key.lot n ≡ [])
    → (es taken : List Position)
    → candidates s want (after (filter p es) taken) ≡ candidates s want (after es taken)
of_those s p want none [] taken = refl
of_those s p want none (e ∷ es) taken = by (p e) refl (of_those s p want none es taken)
  where
    own : List Position
    own = filter p es

    n : ℤ
    n = e.count +ℤ count_of taken e.key

    by : (b : Bool) → p e ≡ b
        → candidates s want (after own taken) ≡ candidates s want (after es taken)
        → candidates s want (after (cond b (e ∷ own) own) taken)
        ≡ candidates s want (held_as e.key n ++ after es taken)
    by true t rest =
        front s want e.key n (after own taken)
        ∙ ap (λ l. candidate_of s want e.key.currency e.key.lot n ++ l) rest
        ∙ sym (front s want e.key n (after es taken))
    by false t rest =
        rest
        ∙ ap (λ l. l ++ candidates s want (after es taken)) (sym (none e n t))
        ∙ sym (front s want e.key n (after es taken))

pub small : (p : Position → Bool) (n : ℕ) (es : List Position) → AreSmall n es
    → AreSmall n (filter p es)
small p n [] a = tt
small p n (e ∷ es) a = by (p e) (small p n es a.1)
  where
    by : (b : Bool) → AreSmall n (filter p es) → AreSmall n (cond b (e ∷ filter p es) (filter p es))
    by true rest = (a.0, rest)
    by false rest = rest

pub if_some : {A : Type 0} (P Q : A → Type 0) (o : Option A) → ((x : A) → P x → Q x) → IfSome o P
    → IfSome o Q
if_some P Q (Some x) more h = more x h
if_some P Q None more h = tt
