-- Paddings that are inserted one by one.
use Rattle.std.proofs.Common.{◌≡◌, ℕ, zero, suc, ◌<◌, ◌≤◌, ◌+◌, true, false, nat_lt, List, [], ◌∷◌}
use Rattle.std.proofs.Common.{◌++◌, length, get_or, take, add-one, sym, ap, ◌∙◌, refl, arith}
use Rattle.std.proofs.lemmas.Bool.Decides.{nat_tests}
use Rattle.std.proofs.Math.Seq.{take-suc}
use Rattle.bean_pad.specs.Held.{Units}
use Rattle.bean_pad.specs.Standing.{all_inserted, inserted, inserted_at}
use Rattle.bean_pad.specs.declared.note.Note.{Note}
use Rattle.bean_pad.specs.declared.note.NotedPad.{NotedPad}
use Rattle.bean_directives.specs.declared.accounts.Pad.{Pad}

inserted_more : (p : Pad) (ns : List Note) (n : Note) (us : List Units)
    → all_inserted p (ns ++ n ∷ []) us ≡ inserted p n.currency n.outcome (all_inserted p ns us)
inserted_more p [] n us = refl
inserted_more p (m ∷ ns) n us = inserted_more p ns n (inserted p m.currency m.outcome us)

pub one_inserted : (p : Pad) (notes : List Note) (i : ℕ) (n : Note) (us : List Units)
    → i < length notes → n ≡ get_or notes i n
    → all_inserted p (take (i + 1) notes) us
    ≡ inserted p n.currency n.outcome (all_inserted p (take i notes) us)
one_inserted p notes i n us h e =
    let more : take (i + 1) notes ≡ take i notes ++ n ∷ [] =
    rw add-one (take-suc notes i n h ∙ ap (λ q. take i notes ++ q ∷ []) (sym e)) in
    ap (λ l. all_inserted p l us) more ∙ inserted_more p (take i notes) n us

there : (ps : List NotedPad) (k : ℕ) (p : NotedPad) (us : List Units) → k < length ps
    → p ≡ get_or ps k p → inserted_at ps k us ≡ all_inserted p.pad p.notes us
there [] k p us within is = absurd (omega arith)
there (q ∷ ps) zero p us within is = ap (λ (x : NotedPad). all_inserted x.pad x.notes us) (sym is)
there (q ∷ ps) (suc k) p us within is = there ps k p us (omega arith) is

behind : (ps : List NotedPad) (k : ℕ) (us : List Units) → length ps ≤ k → inserted_at ps k us ≡ us
behind [] k us past = refl
behind (q ∷ ps) zero us past = absurd (omega arith)
behind (q ∷ ps) (suc k) us past = behind ps k us (omega arith)

pub inserted_there : (ps : List NotedPad) (k : ℕ) (p : NotedPad) (us : List Units)
    → true ≡ nat_lt k (length ps) → p ≡ get_or ps k p
    → inserted_at ps k us ≡ all_inserted p.pad p.notes us
inserted_there ps k p us within is = there ps k p us (grind (arith, nat_tests)) is

pub inserted_behind : (ps : List NotedPad) (k : ℕ) (us : List Units) → false ≡ nat_lt k (length ps)
    → inserted_at ps k us ≡ us
inserted_behind ps k us past = behind ps k us (grind (arith, nat_tests))
