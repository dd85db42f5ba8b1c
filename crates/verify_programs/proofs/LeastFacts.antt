-- What two state shapes join to is the least above both.
use Rattle.std.proofs.Common.{◌≡◌, List, [], ◌∷◌, Option, Some, None, refl, sym, subst, ap}
use Rattle.query_rows.proofs.OrderFacts.{above, least}
use Rattle.query_rows.specs.Shape.{IsBelow, joined}
use Rattle.query_rows.specs.declared.shape.Shape.{Shape}
use Rattle.plain_machine.specs.SectionRun.{State}
use Rattle.well_shaped.specs.StateShape.{AreEach, IfSet, IsStateBelow}
use Rattle.verify_programs.specs.Joining.{cons_if, joined_list, joined_slot, joined_slots, joined_stack}
use Rattle.verify_programs.specs.Joining.{both_if, joined_state, LeastState}

none_some : {A : Type 0} (x : A) → None ≡ Some x → ⊥
none_some x e = cc

some_same : {A : Type 0} (x y : A) → Some x ≡ Some y → x ≡ y
some_same x y e = cc

module _ {X : Type 0} (R : X → X → Type 0) (f : X → X → Option X)
    (upper : (x y z : X) → f x y ≡ Some z → R x z × R y z)
    (lower : (x y d : X) → R x d → R y d → (z : X) × (f x y ≡ Some z) × R z d) where
  each_above : (xs ys zs : List X) → joined_list f xs ys ≡ Some zs → AreEach R xs zs × AreEach R ys zs
  each_above [] [] zs e =
      subst (λ l. AreEach R [] l × AreEach R [] l) (some_same [] zs e) (tt, tt)
  each_above [] (y ∷ ys) zs e = absurd (none_some zs e)
  each_above (x ∷ xs) [] zs e = absurd (none_some zs e)
  each_above (x ∷ xs) (y ∷ ys) zs e =
      by (f x y) (joined_list f xs ys) refl refl (λ ws j. each_above xs ys ws j) e
    where
      by : (o : Option X) (p : Option (List X)) → f x y ≡ o → joined_list f xs ys ≡ p
          → ((ws : List X) → joined_list f xs ys ≡ Some ws → AreEach R xs ws × AreEach R ys ws)
          → cons_if o p ≡ Some zs → AreEach R (x ∷ xs) zs × AreEach R (y ∷ ys) zs
      by None p i j rest e = absurd (none_some zs e)
      by (Some z) None i j rest e = absurd (none_some zs e)
      by (Some z) (Some ws) i j rest e =
          let one = upper x y z i in
          let all = rest ws j in
          subst (λ l. AreEach R (x ∷ xs) l × AreEach R (y ∷ ys) l) (some_same (z ∷ ws) zs e)
          ((one.0, all.0), (one.1, all.1))

  each_least : (xs ys ds : List X) → AreEach R xs ds → AreEach R ys ds
      → (zs : List X) × (joined_list f xs ys ≡ Some zs) × AreEach R zs ds
  each_least [] [] [] h k = ([], refl, tt)
  each_least [] [] (d ∷ ds) h k = absurd h
  each_least [] (y ∷ ys) [] h k = absurd k
  each_least [] (y ∷ ys) (d ∷ ds) h k = absurd h
  each_least (x ∷ xs) [] [] h k = absurd h
  each_least (x ∷ xs) [] (d ∷ ds) h k = absurd k
  each_least (x ∷ xs) (y ∷ ys) [] h k = absurd h
  each_least (x ∷ xs) (y ∷ ys) (d ∷ ds) h k =
      let one = lower x y d h.0 k.0 in
      let all = each_least xs ys ds h.1 k.1 in (
        one.0 ∷ all.0,
        subst (λ p. cons_if (f x y) p ≡ Some (one.0 ∷ all.0)) (sym all.1)
            (ap (λ o. cons_if o (Some all.0)) one.1),
        (one.2, all.2),
      )

-- ---- slots

slot_above : (x y z : Option Shape) → Some (joined_slot x y) ≡ Some z
    → IfSet IsBelow x z × IfSet IsBelow y z
slot_above None y z e =
    subst (λ o. IfSet IsBelow None o × IfSet IsBelow y o) (some_same None z e) (tt, tt)
slot_above (Some x) None z e =
    subst (λ o. IfSet IsBelow (Some x) o × IfSet IsBelow None o) (some_same None z e) (tt, tt)
slot_above (Some x) (Some y) z e =
    subst (λ o. IfSet IsBelow (Some x) o × IfSet IsBelow (Some y) o)
    (some_same (joined x y) z e) (by (joined x y) refl)
  where
    by : (o : Option Shape) → joined x y ≡ o
        → IfSet IsBelow (Some x) o × IfSet IsBelow (Some y) o
    by None i = (tt, tt)
    by (Some u) i = above x y u i

slot_least : (x y d : Option Shape) → IfSet IsBelow x d → IfSet IsBelow y d
    → (z : Option Shape) × (Some (joined_slot x y) ≡ Some z) × IfSet IsBelow z d
slot_least x y None h k = (joined_slot x y, refl, tt)
slot_least None y (Some d) h k = absurd h
slot_least (Some x) None (Some d) h k = absurd k
slot_least (Some x) (Some y) (Some d) h k =
    let one = least x y d h k in
    (Some one.0, ap Some one.1, one.2)

-- ---- states

pub state_above : (s t u : State Shape) → joined_state s t ≡ Some u
    → IsStateBelow s u × IsStateBelow t u
state_above s t u e =
    by (joined_stack s.stack t.stack) (joined_slots s.slots t.slots) refl refl e
  where
    by : (o : Option (List Shape)) (p : Option (List (Option Shape)))
        → joined_stack s.stack t.stack ≡ o → joined_slots s.slots t.slots ≡ p
        → both_if o p ≡ Some u → IsStateBelow s u × IsStateBelow t u
    by None p i j e = absurd (none_some u e)
    by (Some xs) None i j e = absurd (none_some u e)
    by (Some xs) (Some ys) i j e =
        let stacks = each_above IsBelow joined above least s.stack t.stack xs i in
        let slots = each_above (IfSet IsBelow) (λ x y. Some (joined_slot x y)) slot_above slot_least
        s.slots t.slots ys j in
        subst (λ (v : State Shape). IsStateBelow s v × IsStateBelow t v)
        (some_same (record { stack = xs; slots = ys }) u e)
        (record { stacks = stacks.0; slots = slots.0 }, record { stacks = stacks.1; slots = slots.1 })

pub state_least : (s t d : State Shape) → IsStateBelow s d → IsStateBelow t d → LeastState s t d
state_least s t d h k =
    let stacks = each_least IsBelow joined above least s.stack t.stack d.stack h.stacks k.stacks in
    let slots = each_least (IfSet IsBelow) (λ x y. Some (joined_slot x y)) slot_above slot_least
    s.slots t.slots d.slots h.slots k.slots in
    record {
      state = record { stack = stacks.0; slots = slots.0 };
      joins = subst (λ p. both_if (joined_stack s.stack t.stack) p
          ≡ Some (record { stack = stacks.0; slots = slots.0 })) (sym slots.1)
          (ap (λ o. both_if o (Some slots.0)) stacks.1);
      below = record { stacks = stacks.2; slots = slots.2 };
    }
