use Rattle.std.proofs.Common.{◌≡◌, ◌+ℤ◌, ℕ, ℤ, Some, pos, false, position, unwrap_or, arith}
use Rattle.std.proofs.Common.{List, sym, ap, subst, ◌∙◌}
use Rattle.std.specs.Int.{w128}
use Rattle.std.specs.Int.RustNames.{FitsSigned}
use Rattle.std.specs.Map.{keys_of, lookup}
use Rattle.std.specs.Ordering.{int_eq}
use Rattle.std.proofs.lemmas.Int.{ints}
use Rattle.indexmap.specs.IndexMap.{insert_entry, set_value_at}
use Rattle.bean_lots.specs.Inventory.{added, count_of}
use Rattle.bean_lots.specs.Lot.{same_key}
use Rattle.bean_lots.specs.Slots.{positions}
use Rattle.bean_lots.specs.declared.lot.Key.{Key}
use Rattle.bean_lots.specs.declared.lot.Position.{Position}
use Rattle.bean_lots.proofs.SlotFacts.{counted, held_key, written}
use Rattle.query_holdings.proofs.KeptFacts.{same_keys, still_keys}
use Rattle.query_holdings.proofs.holding.Holding.add.Goals as goal

-- a key that is held keeps its place
kept : (es new : List (Key × ℤ)) (all : List Position) (k : Key) (i : ℕ) (n m w : ℤ)
    → new ≡ set_value_at es i w → w ≡ n +ℤ m → positions es ≡ all
    → position (same_key k) (keys_of es) ≡ Some i → lookup (same_key k) es ≡ Some n
    → int_eq n (pos 0) ≡ false → positions new ≡ added all k m
kept es new all k i n m w h sum is at there some =
    ap positions (h ∙ written es k i w at)
    ∙ ap (λ x. positions (insert_entry same_key es k x)) sum
    ∙ held_key es k n m there some ∙ ap (λ l. added l k m) is

fitting : (es : List (Key × ℤ)) (all : List Position) (k : Key) (n m : ℤ) → positions es ≡ all
    → count_of (positions es) k ≡ n → FitsSigned w128 (count_of all k +ℤ m)
    → FitsSigned w128 (n +ℤ m)
fitting es all k n m is held fits =
    subst (λ x. FitsSigned w128 (x +ℤ m)) (ap (λ l. count_of l k) (sym is) ∙ held) fits

pub overflow_add-after : goal.overflow_add-after
overflow_add-after c =
    let es = c.self.inside.counts in
    let n = c.count_at-before.result in
    let held : count_of (positions es) c.args.key ≡ n =
    counted es c.args.key c.in-Some.ensures.unique
    ∙ ap (λ o. unwrap_or o (pos 0)) (sym c.in-Some.ensures.value ∙ c.count_at-before.ensures) in
    let fits = fitting es c.args.self.now c.args.key n c.args.count c.self.view_is held c.requires in
    omega (arith, ints, fits)

pub returns-then-after-eq0-clause-ok : goal.returns-then-after-eq0-clause-ok
returns-then-after-eq0-clause-ok c =
    let es = c.self.inside.counts in
    let k = c.args.key in
    let n = c.count_at-before.result in
    let held : count_of (positions es) k ≡ n =
    counted es k c.in-Some.ensures.unique
    ∙ ap (λ o. unwrap_or o (pos 0)) (sym c.in-Some.ensures.value ∙ c.count_at-before.ensures) in
    let fits = fitting es c.args.self.now k n c.args.count c.self.view_is held c.requires in
    let some : int_eq n (pos 0) ≡ false = grind (arith, ints, c.if-before-eq0.false) in
    kept es c.set.new.self c.args.self.now k c.in-Some.place n c.args.count _ c.set.ensures
    (omega (arith, ints, fits)) c.self.view_is (sym c.place_of.ensures.place ∙ c.in-Some.is)
    (sym c.in-Some.ensures.value ∙ c.count_at-before.ensures) some

pub returns-else-after-eq0-clause-ok : goal.returns-else-after-eq0-clause-ok
returns-else-after-eq0-clause-ok c =
    let es = c.self.inside.counts in
    let k = c.args.key in
    let n = c.count_at-before.result in
    let held : count_of (positions es) k ≡ n =
    counted es k c.in-Some.ensures.unique
    ∙ ap (λ o. unwrap_or o (pos 0)) (sym c.in-Some.ensures.value ∙ c.count_at-before.ensures) in
    let fits = fitting es c.args.self.now k n c.args.count c.self.view_is held c.requires in
    let some : int_eq n (pos 0) ≡ false = grind (arith, ints, c.if-before-eq0.false) in
    kept es c.set.new.self c.args.self.now k c.in-Some.place n c.args.count _ c.set.ensures
    (omega (arith, ints, fits)) c.self.view_is (sym c.place_of.ensures.place ∙ c.in-Some.is)
    (sym c.in-Some.ensures.value ∙ c.count_at-before.ensures) some

pub invariant_of-self-else-after-eq0 : goal.invariant_of-self-else-after-eq0
invariant_of-self-else-after-eq0 c =
    still_keys c.self.inside.keys c.self.inside.counts c.set.new.self
    (ap keys_of c.set.ensures ∙ same_keys c.self.inside.counts c.in-Some.place _) c.self.invariant
