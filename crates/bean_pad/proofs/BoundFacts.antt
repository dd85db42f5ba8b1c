-- Bounds of what is kept.
use Rattle.std.proofs.Common.{◌≡◌, ℕ, zero, suc, ℤ, ◌+◌, ◌*◌, ◌^◌, ◌<◌, ◌≤◌, Bool, true, false}
use Rattle.std.proofs.Common.{cond, List, [], ◌∷◌, ◌++◌, length, drop, Option, None, Some, sym, ap}
use Rattle.std.proofs.Common.{subst, arith, length-append, get_or}
use Rattle.std.specs.Int.RustNames.{unsigned_abs}
use Rattle.bean_pad.specs.Note.{IsBelow, noted_at, with_noted}
use Rattle.bean_pad.specs.Trail.{AreNear, IsNear, notes_in}
use Rattle.bean_pad.specs.declared.check.Passed.{Passed}
use Rattle.bean_pad.specs.declared.note.Note.{Note}
use Rattle.bean_pad.specs.declared.note.NotedPad.{NotedPad}

below_more : (o : Option ℕ) (n : ℕ) → IsBelow n o → IsBelow (n + 1) o
below_more None n h = tt
below_more (Some k) n h = omega arith

below_or : (b : Bool) (o : Option ℕ) (n : ℕ) → IsBelow n o → IsBelow (n + 1) (cond b (Some n) o)
below_or true o n h = omega arith
below_or false o n h = below_more o n h

pub below_set : (b : Bool) (o p : Option ℕ) (n m : ℕ) → p ≡ cond b (Some n) o → m ≡ n + 1
    → IsBelow n o → IsBelow m p
below_set b o p n m e f h =
    subst (λ m. IsBelow m p) (sym f) (subst (IsBelow (n + 1)) (sym e) (below_or b o n h))

pub notes_push : (ps : List NotedPad) (p : NotedPad) → p.notes ≡ []
    → notes_in (ps ++ p ∷ []) ≡ notes_in ps
notes_push [] p none = ap (λ (ns : List Note). length ns + 0) none
notes_push (q ∷ ps) p none = ap (λ n. length q.notes + n) (notes_push ps p none)

notes_at : (ps : List NotedPad) (k : ℕ) (note : Note)
    → notes_in (noted_at k note ps) ≤ notes_in ps + 1
notes_at [] k note = omega arith
notes_at (p ∷ ps) zero note = let more = length-append p.notes (note ∷ []) in omega (arith, more)
notes_at (p ∷ ps) (suc k) note = let later = notes_at ps k note in omega (arith, later)

pub notes_noted : (ps : List NotedPad) (o : Option (ℕ × Note))
    → notes_in (with_noted o ps) ≤ notes_in ps + 1
notes_noted ps None = omega arith
notes_noted ps (Some n) = notes_at ps n.0 n.1

pub near_push : (ts : List Passed) (t : Passed) → AreNear ts → IsNear t → AreNear (ts ++ t ∷ [])
near_push [] t all near = (near, tt)
near_push (u ∷ ts) t all near = (all.0, near_push ts t all.1 near)

pub near_at : (ts : List Passed) (i : ℕ) (t : Passed) → AreNear ts → i < length ts
    → t ≡ get_or ts i t → IsNear t
near_at [] i t all within is = absurd (omega arith)
near_at (u ∷ ts) zero t all within is = subst IsNear (sym is) all.0
near_at (u ∷ ts) (suc i) t all within is = near_at ts i t all.1 (omega arith) is

-- the notes of the pads from one on
pub notes_from : (ps : List NotedPad) (k : ℕ) (p : NotedPad) → k < length ps → p ≡ get_or ps k p
    → notes_in (drop k ps) ≡ length p.notes + notes_in (drop (suc k) ps)
notes_from [] k p within is = absurd (omega arith)
notes_from (q ∷ ps) zero p within is = ap (λ (x : NotedPad). length x.notes + notes_in ps) (sym is)
notes_from (q ∷ ps) (suc k) p within is = notes_from ps k p (omega arith) is

pub grown : (b : Bool) (s : ℕ) (x n y : ℤ) → y ≡ cond b n x → unsigned_abs x ≤ s * 10 ^ 20
    → unsigned_abs n ≤ (s + 1) * 10 ^ 20 → unsigned_abs y ≤ (s + 1) * 10 ^ 20
grown true s x n y e h k = subst (λ y. unsigned_abs y ≤ (s + 1) * 10 ^ 20) (sym e) k
grown false s x n y e h k = subst (λ y. unsigned_abs y ≤ (s + 1) * 10 ^ 20) (sym e) (omega arith)
