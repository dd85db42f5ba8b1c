-- The code of an expression that has a shape leads to that shape on top of the stack.
use Rattle.std.proofs.Common.{◌≡◌, ℕ, ◌+◌, ◌<◌, ◌≤◌, max, true, ◌&&◌, List, [], ◌∷◌, ◌++◌, length}
use Rattle.std.proofs.Common.{reverse, Some, refl, sym, ap, ◌∙◌, subst, ⊎_elim, inl, inr}
use Rattle.std.proofs.Common.{arith, append_assoc, length-append}
use Rattle.std.specs.Cmp.Derive.{both_true}
use Rattle.std.specs.Prelude.{slice_get, nat_lt, nat_le}
use Rattle.std.proofs.lemmas.Bool.{le-leb, lt-ltb}
use Rattle.std.proofs.lemmas.List.{reverse-append}
use Rattle.limits.specs.declared.counts.TheConstants.{MOST_VALUES}
use Rattle.bql_code.specs.Code.{verdict, load_of, change_of, code, all_code, depth, all_depth}
use Rattle.bql_code.specs.Core.{Core, loading, changing, joining, both, either}
use Rattle.plain_machine.specs.SectionRun.{Acts}
use Rattle.query_code.specs.declared.instruction.Instruction.{Instruction}
use Rattle.query_code.specs.declared.instruction.Instruction.TheVariants.{Push, Unary, Binary, Jump}
use Rattle.query_code.specs.declared.instruction.Instruction.TheVariants.{JumpIfFalse}
use Rattle.query_code.specs.declared.instruction.Push as pushes
use Rattle.query_code.specs.declared.instruction.Push.TheVariants as push
use Rattle.query_code.specs.declared.program.Constant.{Constant}
use Rattle.query_rows.specs.declared.shape.Shape.{Shape}
use Rattle.query_rows.specs.declared.shape.Shape.TheVariants.{Truth}
use Rattle.well_shaped.specs.Places.{IsLedTo}
use Rattle.well_shaped.specs.Sections.{Loads, shape_acts}
use Rattle.bql_compiler.specs.CoreShape.{HasShape, HaveShapes}
use Rattle.bql_compiler.proofs.StandsAt.{StandsAt, back, moved}
use Rattle.bql_compiler.proofs.LaidFacts.{Stack, Flows, AllFlow, Laid, first_of}
use Rattle.bql_compiler.proofs.LaidFacts.{none_laid, then_laid, push_flow, push_laid}
use Rattle.bql_compiler.proofs.LaidFacts.{unary_laid, binary_laid}

pub some_depth : (e : Core) → 1 ≤ depth e
some_depth (loading l) = omega arith
some_depth (changing op x) = some_depth x
some_depth (joining op x y) = omega (arith, some_depth x)
some_depth (both x y) = omega (arith, some_depth x)
some_depth (either x y) = omega (arith, some_depth x)

module _ (pool : List Constant) (l : Loads) where
  abbrev m : Acts Shape
  m = shape_acts pool l

  leads_within : (p q n : ℕ) → p < q → q ≤ n → (nat_lt p q && nat_le q n) ≡ true
  leads_within p q n lt le = both_true (lt-ltb p q lt) (le-leb q n le)

  flow_test : (section : List Instruction) (all : List Stack) (p q : ℕ) (st : Stack)
      → slice_get section p ≡ Some (JumpIfFalse q) → slice_get all p ≡ Some (Truth ∷ st)
      → slice_get all (p + 1) ≡ Some st → slice_get all q ≡ Some st → p < q → q ≤ length section
      → Flows m section all p (JumpIfFalse q)
  flow_test section all p q st there here on off lt le = record {
    from = Truth ∷ st;
    next = st;
    here = here;
    applies = refl;
    to = λ r l. ⊎_elim (λ e. ap (slice_get all) e ∙ on) (λ e. ap (slice_get all) e ∙ off) l;
    leads = leads_within p q (length section) lt le;
    after = record { from = p; instruction = JumpIfFalse q; stands = there; leads = inl refl };
  }

  flow_jump : (section : List Instruction) (all : List Stack) (p q : ℕ) (st : Stack)
      → slice_get all p ≡ Some st → slice_get all q ≡ Some st → p < q → q ≤ length section
      → IsLedTo section (p + 1) → Flows m section all p (Jump q)
  flow_jump section all p q st here there lt le after = record {
    from = st;
    next = st;
    here = here;
    applies = refl;
    to = λ r e. ap (slice_get all) e ∙ there;
    leads = leads_within p q (length section) lt le;
    after = after;
  }

  -- a truth value is pushed
  flow_truth : (op : pushes.Push) (section : List Instruction) (all : List Stack) (p : ℕ)
      (st : Stack) → m.push op ≡ Some Truth → length st < MOST_VALUES
      → slice_get section p ≡ Some (Push op) → slice_get all p ≡ Some st
      → slice_get all (p + 1) ≡ Some (Truth ∷ st) → p + 1 ≤ length section
      → Flows m section all p (Push op)
  flow_truth op section all p st e room there here on inside =
      push_flow m op section all p Truth st e room there here on

  -- ---- behind the second operand of AND and of OR

  abbrev verdict_stacks : Stack → List Stack
  verdict_stacks st = (Truth ∷ st) ∷ st ∷ (Truth ∷ st) ∷ st ∷ []

  -- the stack before FALSE
  at_false : (all : List Stack) (p : ℕ) (st to : Stack)
      → StandsAt all p (verdict_stacks st ++ to ∷ []) → slice_get all (p + 3) ≡ Some st
  at_false all p st to hs =
      let e : p + 1 + 1 + 1 ≡ p + 3 = omega arith in
      subst (λ n. slice_get all n ≡ Some st) e hs.1.1.1.0

  at_end : (all : List Stack) (p : ℕ) (st to : Stack)
      → StandsAt all p (verdict_stacks st ++ to ∷ []) → slice_get all (p + 4) ≡ Some to
  at_end all p st to hs =
      let e : p + 1 + 1 + 1 + 1 ≡ p + 4 = omega arith in
      subst (λ n. slice_get all n ≡ Some to) e hs.1.1.1.1.0

  verdict_laid : (p : ℕ) (st : Stack) → length st < MOST_VALUES
      → Laid m p (verdict p) (Truth ∷ st) (Truth ∷ st) (length st + 1)
  verdict_laid p st room = record {
    stacks = verdict_stacks st;
    long = refl;
    starts = refl;
    deep = omega arith;
    flows = λ section all hc hs inside.
        let e3 : p + 1 + 1 + 1 ≡ p + 3 = omega arith in
        let led : IsLedTo section (p + 1 + 1 + 1) =
        record { from = p; instruction = JumpIfFalse (p + 3); stands = hc.0; leads = inr e3 } in (
          flow_test section all p (p + 3) st hc.0 hs.0 hs.1.0 (at_false all p st (Truth ∷ st) hs)
              (omega arith) (omega (arith, inside)),
          (
            flow_truth push.True section all (p + 1) st refl room hc.1.0 hs.1.0 hs.1.1.0
                (omega (arith, inside)),
            (
              flow_jump section all (p + 1 + 1) (p + 4) (Truth ∷ st) hs.1.1.0
                  (at_end all p st (Truth ∷ st) hs) (omega arith) (omega (arith, inside)) led,
              (
                flow_truth push.False section all (p + 1 + 1 + 1) st refl room hc.1.1.1.0 hs.1.1.1.0
                    hs.1.1.1.1.0 (omega (arith, inside)),
                tt,
              ),
            ),
          ),
        );
  }

  -- the places of the verdict behind other code
  verdict_at : (all : List Stack) (p q : ℕ) (stacks : List Stack) (st to : Stack)
      → p + length stacks ≡ q → StandsAt all p ((stacks ++ verdict_stacks st) ++ to ∷ [])
      → StandsAt all q (verdict_stacks st ++ to ∷ [])
  verdict_at all p q stacks st to e hs =
      moved all (p + length stacks) q (verdict_stacks st ++ to ∷ []) e
      (back all p stacks (verdict_stacks st ++ to ∷ [])
      (subst (StandsAt all p) (append_assoc stacks (verdict_stacks st) (to ∷ [])) hs))

  -- behind the first operand of AND
  and_laid : (p : ℕ) (c : List Instruction) (st : Stack) (k : ℕ) → length st < MOST_VALUES
      → Laid m (p + 1) c st (Truth ∷ st) k
      → Laid m p (JumpIfFalse (p + 1 + length c + 3) ∷ (c ++ verdict (p + 1 + length c)))
      (Truth ∷ st) (Truth ∷ st) (max (length st + 1) k)
  unfolding then_laid verdict_laid
  and_laid p c st k room l =
      let end = p + 1 + length c in
      let all_of =
      then_laid m (p + 1) c (verdict end) st (Truth ∷ st) (Truth ∷ st) k (length st + 1) l
      (verdict_laid end st room) in
      let more : length (c ++ verdict end) ≡ length c + 4 = length-append c (verdict end) in
      record {
        stacks = (Truth ∷ st) ∷ all_of.stacks;
        long = omega (arith, all_of.long);
        starts = refl;
        deep = omega (arith, all_of.deep);
        flows = λ section all hc hs inside.
            let within : p + 1 + length (c ++ verdict end) ≤ length section = omega (arith, inside) in
            let tail =
            verdict_at all (p + 1) end l.stacks st (Truth ∷ st) (ap (λ n. p + 1 + n) l.long) hs.1 in (
              flow_test section all p (end + 3) st hc.0 hs.0
                  (first_of all (all_of.stacks ++ (Truth ∷ st) ∷ []) (p + 1) st all_of.starts hs.1)
                  (at_false all end st (Truth ∷ st) tail) (omega arith) (omega (arith, within, more)),
              all_of.flows section all hc.1 hs.1 within,
            );
      }

  -- behind the first operand of OR
  or_laid : (p : ℕ) (c : List Instruction) (st : Stack) (k : ℕ) → length st < MOST_VALUES
      → Laid m (p + 3) c st (Truth ∷ st) k
      → Laid m p
      (JumpIfFalse (p + 3) ∷ Push push.True ∷ Jump (p + 3 + length c + 4)
      ∷ (c ++ verdict (p + 3 + length c)))
      (Truth ∷ st) (Truth ∷ st) (max (length st + 1) k)
  unfolding then_laid verdict_laid
  or_laid p c st k room l =
      let end = p + 3 + length c in
      let all_of =
      then_laid m (p + 3) c (verdict end) st (Truth ∷ st) (Truth ∷ st) k (length st + 1) l
      (verdict_laid end st room) in
      let more : length (c ++ verdict end) ≡ length c + 4 = length-append c (verdict end) in
      record {
        stacks = (Truth ∷ st) ∷ st ∷ (Truth ∷ st) ∷ all_of.stacks;
        long = omega (arith, all_of.long);
        starts = refl;
        deep = omega (arith, all_of.deep);
        flows = λ section all hc hs inside.
            let e3 : p + 1 + 1 + 1 ≡ p + 3 = omega arith in
            let within : p + 3 + length (c ++ verdict end) ≤ length section = omega (arith, inside) in
            let hs' = moved all (p + 1 + 1 + 1) (p + 3) (all_of.stacks ++ (Truth ∷ st) ∷ []) e3 hs.1.1.1 in
            let hc' = moved section (p + 1 + 1 + 1) (p + 3) (c ++ verdict end) e3 hc.1.1.1 in
            let tail =
            verdict_at all (p + 3) end l.stacks st (Truth ∷ st) (ap (λ n. p + 3 + n) l.long) hs' in
            let led : IsLedTo section (p + 1 + 1 + 1) =
            record { from = p; instruction = JumpIfFalse (p + 3); stands = hc.0; leads = inr e3 } in (
              flow_test section all p (p + 3) st hc.0 hs.0 hs.1.0
                  (first_of all (all_of.stacks ++ (Truth ∷ st) ∷ []) (p + 3) st all_of.starts hs')
                  (omega arith) (omega (arith, within)),
              (
                flow_truth push.True section all (p + 1) st refl room hc.1.0 hs.1.0 hs.1.1.0
                    (omega (arith, within)),
                (
                  flow_jump section all (p + 1 + 1) (end + 4) (Truth ∷ st) hs.1.1.0
                      (at_end all end st (Truth ∷ st) tail) (omega arith) (omega (arith, within, more)) led,
                  subst (λ n. AllFlow m section all n (c ++ verdict end)) (sym e3)
                      (all_of.flows section all hc' hs' within),
                ),
              ),
            );
      }

  -- ---- expressions

  -- the depth under another name
  same_depth : {p : ℕ} {c : List Instruction} {from to : Stack} (k n : ℕ) → k ≡ n
      → Laid m p c from to k → Laid m p c from to n
  same_depth {p} {c} {from} {to} k n e l = subst (Laid m p c from to) e l

  pub core_laid : (e : Core) (s : Shape) → HasShape pool l e s → (p : ℕ) (st : Stack)
      → length st + depth e ≤ MOST_VALUES
      → Laid m p (code pool p e) st (s ∷ st) (length st + depth e)
  core_laid (loading op) s h p st room = push_laid m (load_of pool op) p s st h (omega (arith, room))
  core_laid (changing op x) s h p st room =
      let cx = code pool p x in
      same_depth (max (length st + depth x) (length st + 1)) (length st + depth x)
      (omega (arith, some_depth x))
      (then_laid m p cx (Unary (change_of pool op) ∷ []) st (h.0 ∷ st) (s ∷ st) (length st + depth x)
      (length st + 1) (core_laid x h.0 h.1 p st room)
      (unary_laid m (change_of pool op) (p + length cx) h.0 s st h.2
      (omega (arith, some_depth x, room))))
  core_laid (joining op x y) s h p st room =
      let cx = code pool p x in
      let q = p + length cx in
      let cy = code pool q y in
      let a = h.0 in
      let b = h.1 in
      same_depth
      (max (length st + depth x) (max (length st + 1 + depth y) (length st + 2)))
      (length st + depth (joining op x y)) (omega (arith, some_depth y))
      (then_laid m p cx (cy ++ Binary op ∷ []) st (a ∷ st) (s ∷ st) (length st + depth x)
      (max (length st + 1 + depth y) (length st + 2))
      (core_laid x a h.2 p st (omega (arith, room)))
      (then_laid m q cy (Binary op ∷ []) (a ∷ st) (b ∷ a ∷ st) (s ∷ st) (length st + 1 + depth y)
      (length st + 2)
      (same_depth (length (a ∷ st) + depth y) (length st + 1 + depth y) (omega arith)
      (core_laid y b h.3 q (a ∷ st) (omega (arith, room))))
      (binary_laid m op (q + length cy) a b s st h.4 (omega (arith, some_depth x, room)))))
  core_laid (both x y) s h p st room =
      let cx = code pool p x in
      let q = p + length cx in
      let cy = code pool (q + 1) y in
      subst (λ z. Laid m p (code pool p (both x y)) st (z ∷ st) (length st + depth (both x y)))
      (sym h.2)
      (same_depth (max (length st + depth x) (max (length st + 1) (length st + depth y)))
      (length st + depth (both x y)) (omega (arith, some_depth x))
      (then_laid m p cx (JumpIfFalse (q + 1 + length cy + 3) ∷ (cy ++ verdict (q + 1 + length cy))) st
      (Truth ∷ st) (Truth ∷ st) (length st + depth x) (max (length st + 1) (length st + depth y))
      (core_laid x Truth h.0 p st (omega (arith, room)))
      (and_laid q cy st (length st + depth y) (omega (arith, some_depth x, room))
      (core_laid y Truth h.1 (q + 1) st (omega (arith, room))))))
  core_laid (either x y) s h p st room =
      let cx = code pool p x in
      let q = p + length cx in
      let cy = code pool (q + 3) y in
      subst (λ z. Laid m p (code pool p (either x y)) st (z ∷ st) (length st + depth (either x y)))
      (sym h.2)
      (same_depth (max (length st + depth x) (max (length st + 1) (length st + depth y)))
      (length st + depth (either x y)) (omega (arith, some_depth x))
      (then_laid m p cx
      (JumpIfFalse (q + 3) ∷ Push push.True ∷ Jump (q + 3 + length cy + 4)
      ∷ (cy ++ verdict (q + 3 + length cy)))
      st (Truth ∷ st) (Truth ∷ st) (length st + depth x) (max (length st + 1) (length st + depth y))
      (core_laid x Truth h.0 p st (omega (arith, room)))
      (or_laid q cy st (length st + depth y) (omega (arith, some_depth x, room))
      (core_laid y Truth h.1 (q + 3) st (omega (arith, room))))))

  -- expressions one behind the other
  pub all_laid : (es : List Core) (ss : List Shape) → HaveShapes pool l es ss → (p : ℕ)
      (st : Stack) → all_depth (length st) es ≤ MOST_VALUES
      → Laid m p (all_code pool p es) st (reverse ss ++ st) (all_depth (length st) es)
  all_laid [] [] h p st room = none_laid m p st
  all_laid [] (s ∷ ss) h p st room = elim h [ ]
  all_laid (e ∷ es) [] h p st room = elim h [ ]
  all_laid (e ∷ es) (s ∷ ss) h p st room =
      let c = code pool p e in
      let rest =
      all_laid es ss h.1 (p + length c) (s ∷ st)
      (subst (λ n. all_depth n es ≤ MOST_VALUES) (sym (one_more st s)) (omega (arith, room))) in
      subst (λ to. Laid m p (all_code pool p (e ∷ es)) st to (all_depth (length st) (e ∷ es)))
      (sym (turned s ss st))
      (then_laid m p c (all_code pool (p + length c) es) st (s ∷ st) (reverse ss ++ s ∷ st)
      (length st + depth e) (all_depth (length st + 1) es)
      (core_laid e s h.0 p st (omega (arith, room)))
      (same_depth (all_depth (length (s ∷ st)) es) (all_depth (length st + 1) es)
      (ap (λ n. all_depth n es) (one_more st s)) rest))
    where
      one_more : (st : Stack) (s : Shape) → length (s ∷ st) ≡ length st + 1
      one_more st s = omega arith

      turned : (s : Shape) (ss st : List Shape) → reverse (s ∷ ss) ++ st ≡ reverse ss ++ s ∷ st
      turned s ss st =
          ap (λ l. l ++ st) (reverse-append (s ∷ []) ss) ∙ append_assoc (reverse ss) (s ∷ []) st
