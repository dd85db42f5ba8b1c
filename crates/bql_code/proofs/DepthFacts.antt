-- How many values stand on the stack.
use Rattle.std.proofs.Common.{◌≡◌, ◌+◌, ◌-◌, ◌≤◌, ◌<◌, ℕ, max, List, [], ◌∷◌, true, false, arith}
use Rattle.std.proofs.Common.{nat_le, zero, suc, length, get_or, drop, sym, ap, ◌∙◌}
use Rattle.std.proofs.lemmas.Bool.Decides.{nat_tests}
use Rattle.bql_code.specs.Code.{depth, all_depth}
use Rattle.bql_code.specs.Core.{Core, loading, changing, joining, both, either}
use Rattle.bql_code.specs.Kept.{core_of, cores_of}
use Rattle.bql_code.specs.declared.computed.Core as kept

-- an expression gives a value
pub some_depth : (c : Core) → 1 ≤ depth c
some_depth (loading l) = omega arith
some_depth (changing op x) = some_depth x
some_depth (joining op x y) = let h = some_depth x in omega (arith, h)
some_depth (both x y) = let h = some_depth x in omega (arith, h)
some_depth (either x y) = let h = some_depth x in omega (arith, h)

above_most : (n most : ℕ) → most < n → false ≡ nat_le n most
above_most n most h = grind (arith, nat_tests, h)

pub none_within : (most : ℕ) (c : Core) (cs : List Core)
    → false ≡ nat_le (all_depth (most - 0) (c ∷ cs)) most
none_within most c cs =
    let h = some_depth c in
    above_most (max (most - 0 + depth c) (all_depth (most - 0 + 1) cs)) most (omega (arith, h))

pub not_within : (most room : ℕ) (c : Core) (cs : List Core) → room ≤ most
    → nat_le (depth c) room ≡ false → false ≡ nat_le (all_depth (most - room) (c ∷ cs)) most
not_within most room c cs few h =
    let deep : room < depth c = grind (arith, nat_tests, h) in
    above_most (max (most - room + depth c) (all_depth (most - room + 1) cs)) most
    (omega (arith, deep, few))

alike : (n m most : ℕ) → n ≤ most → nat_le (max n m) most ≡ nat_le m most
alike n m most h = grind (arith, nat_tests, h)

pub one_within : (most room : ℕ) (c : Core) (cs : List Core) → room ≤ most
    → nat_le (depth c) room ≡ true
    → nat_le (all_depth (most - room) (c ∷ cs)) most
    ≡ nat_le (all_depth (most - room + 1) cs) most
one_within most room c cs few h =
    let deep : depth c ≤ room = grind (arith, nat_tests, h) in
    alike (most - room + depth c) (all_depth (most - room + 1) cs) most (omega (arith, deep, few))

-- ---- those that are left

left : (cs : List kept.Core) (i : ℕ) (c : kept.Core) → i < length cs → c ≡ get_or cs i c
    → (rest : List Core) × (cores_of (drop i cs) ≡ core_of c ∷ rest)
left [] i c h is = absurd (omega (arith, h))
left (d ∷ cs) zero c h is = (cores_of cs, ap (λ x. core_of x ∷ cores_of cs) (sym is))
left (d ∷ cs) (suc i) c h is = left cs i c (omega (arith, h)) is

pub none_left : (most room : ℕ) (cs : List kept.Core) (i : ℕ) (c : kept.Core) → i < length cs
    → c ≡ get_or cs i c → room ≡ 0
    → false ≡ nat_le (all_depth (most - room) (cores_of (drop i cs))) most
none_left most room cs i c h is e =
    let l = left cs i c h is in
    none_within most (core_of c) l.0
    ∙ ap (λ r. nat_le (all_depth (most - r) (core_of c ∷ l.0)) most) (sym e)
    ∙ ap (λ xs. nat_le (all_depth (most - room) xs) most) (sym l.1)

pub not_left : (most room : ℕ) (cs : List kept.Core) (i : ℕ) (c : kept.Core) → i < length cs
    → c ≡ get_or cs i c → room ≤ most → nat_le (depth (core_of c)) room ≡ false
    → false ≡ nat_le (all_depth (most - room) (cores_of (drop i cs))) most
not_left most room cs i c h is few e =
    let l = left cs i c h is in
    not_within most room (core_of c) l.0 few e
    ∙ ap (λ xs. nat_le (all_depth (most - room) xs) most) (sym l.1)
