-- Targets and items, one behind the other.
use Rattle.std.proofs.Common.{◌≡◌, ℕ, zero, suc, ◌+◌, ◌<◌, Bool, true, false, List, [], ◌∷◌, ◌++◌}
use Rattle.std.proofs.Common.{map}
use Rattle.std.proofs.Common.{Option, Some, None, refl, sym, ap, ◌∙◌, get_or, drop, length, arith}
use Rattle.std.proofs.Common.{append_assoc, if◌then◌else◌}
use Rattle.bql_tree.specs.Tree.{Tree}
use Rattle.limits.specs.declared.bounds.Bounds.{Bounds}
use Rattle.bql_types.specs.Cause.{told, least_of, is_before}
use Rattle.bql_types.specs.Typing.{each, all_keys, Grouping, grouping_of, target_causes}
use Rattle.bql_types.specs.Typing.{filters_causes, group_causes, order_item_causes, causes_by}
use Rattle.bql_parser.specs.Asked.{Asked}
use Rattle.bql_types.specs.Typing.{causes}
use Rattle.bql_types.specs.declared.cause.TypeCause.{TypeCause}
use Rattle.bql_types.specs.declared.targets.SeenTarget.{SeenTarget}
use Rattle.query_rows.specs.declared.shape.Shape.{Shape}
use Rattle.bql_types.proofs.CauseFacts.{told_append}

succ : (i : ℕ) → i + 1 ≡ suc i
succ i = omega arith

drops : {A : Type 0} (xs : List A) (i : ℕ) (x : A) → i < length xs → x ≡ get_or xs i x
    → drop i xs ≡ x ∷ drop (suc i) xs
drops [] i x b g = absurd (omega (arith, b))
drops (y ∷ ys) zero x b g = ap (λ z. z ∷ ys) (sym g)
drops (y ∷ ys) (suc i) x b g = drops ys i x (omega (arith, b)) g

-- the next, and those behind it
pub next_is : {A : Type 0} (xs : List A) (i : ℕ) (x : A) → i < length xs → x ≡ get_or xs i x
    → drop i xs ≡ x ∷ drop (i + 1) xs
next_is xs i x b g = drops xs i x b g ∙ ap (λ k. x ∷ drop k xs) (sym (succ i))

-- what was found on the way, and what those that are left add to it
pub one_less : {A B : Type 0} (f : B → List TypeCause) (g : A → B) (xs : List A) (i : ℕ) (x : A)
    (found next whole : Option TypeCause) → i < length xs → x ≡ get_or xs i x
    → next ≡ told found (f (g x)) → told found (each f (map g (drop i xs))) ≡ whole
    → told next (each f (map g (drop (i + 1) xs))) ≡ whole
one_less f g xs i x found next whole b is n h =
    let rest = each f (map g (drop (i + 1) xs)) in
    ap (λ z. told z rest) n
    ∙ sym (told_append found (f (g x)) rest)
    ∙ sym (ap (λ z. told found (each f (map g z))) (next_is xs i x b is))
    ∙ h

-- the same of keys
pub one_key_less : {A B : Type 0} (f : B → List (Tree ℕ)) (g : A → B) (xs : List A) (i : ℕ) (x : A)
    (keys next whole : List (Tree ℕ)) → i < length xs → x ≡ get_or xs i x
    → next ≡ keys ++ f (g x) → keys ++ all_keys f (map g (drop i xs)) ≡ whole
    → next ++ all_keys f (map g (drop (i + 1) xs)) ≡ whole
one_key_less f g xs i x keys next whole b is n h =
    let rest = all_keys f (map g (drop (i + 1) xs)) in
    ap (λ z. z ++ rest) n
    ∙ append_assoc keys (f (g x)) rest
    ∙ sym (ap (λ z. keys ++ all_keys f (map g z)) (next_is xs i x b is))
    ∙ h

abbrev pub seen_as : Option Shape → Bool → SeenTarget
seen_as s is = record { shape = s; has_aggregate = is }

-- the same of what is seen of each
pub one_seen_less : {A B C : Type 0} (f : B → C) (g : A → B) (xs : List A) (i : ℕ) (x : A)
    (seen next whole : List C) → i < length xs → x ≡ get_or xs i x → next ≡ seen ++ f (g x) ∷ []
    → seen ++ map f (map g (drop i xs)) ≡ whole
    → next ++ map f (map g (drop (i + 1) xs)) ≡ whole
one_seen_less f g xs i x seen next whole b is n h =
    let rest = map f (map g (drop (i + 1) xs)) in
    ap (λ z. z ++ rest) n
    ∙ append_assoc seen (f (g x) ∷ []) rest
    ∙ sym (ap (λ z. seen ++ map f (map g z)) (next_is xs i x b is))
    ∙ h

-- ---- queries

pub select_found : (b : Bounds) (s : Asked) (g : Grouping) (f1 f2 f3 : Option TypeCause)
    → g ≡ grouping_of s → f1 ≡ told None (each (target_causes b g) s.targets)
    → f2 ≡ told f1 (filters_causes b s.filters) → f3 ≡ told f2 (group_causes b s.targets s.group)
    → told f3 (each (order_item_causes b g s.targets) s.order.items)
    ≡ least_of (causes b s)
select_found b s g f1 f2 f3 is h1 h2 h3 =
    let ts = each (target_causes b g) s.targets in
    let fs = filters_causes b s.filters in
    let gs = group_causes b s.targets s.group in
    let os = each (order_item_causes b g s.targets) s.order.items in
    ap (λ z. told z os) (h3 ∙ ap (λ z. told z gs) (h2 ∙ ap (λ z. told z fs) h1))
    ∙ sym (told_append None ts (fs ++ (gs ++ os)) ∙ told_append (told None ts) fs (gs ++ os)
    ∙ told_append (told (told None ts) fs) gs os)
    ∙ ap (λ z. least_of (causes_by b z s)) is

told_by : (is : Bool) (c d : TypeCause) (cs : List TypeCause) → (told (Some c) cs ≡ None → ⊥)
    → (told (Some d) cs ≡ None → ⊥) → told (if is then Some d else Some c) cs ≡ None → ⊥
told_by true c d cs h k e = k e
told_by false c d cs h k e = h e

told_on : (c : TypeCause) (cs : List TypeCause) → told (Some c) cs ≡ None → ⊥
told_on c [] e = cc
told_on c (d ∷ cs) e = told_by (is_before d c) c d cs (told_on c cs) (told_on d cs) e

-- where no cause is told there is none
pub none_told : (cs : List TypeCause) → least_of cs ≡ None → cs ≡ []
none_told [] e = refl
none_told (c ∷ cs) e = absurd (told_on c cs e)
