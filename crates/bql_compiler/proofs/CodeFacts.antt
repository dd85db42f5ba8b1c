-- The code of an expression comes to its value on top of the stack, or to a fault.
use Rattle.std.proofs.Common.{◌≡◌, ◌⊎◌, ℕ, ◌+◌, ◌<◌, ◌≤◌, Bool, true, false, cond, ◌&&◌, List, []}
use Rattle.std.proofs.Common.{◌∷◌, ◌++◌, length, reverse, Option, Some, None, refl, sym, ap, ◌∙◌, subst}
use Rattle.std.proofs.Common.{inl, inr, arith, append_assoc, length-append, append-nil}
use Rattle.std.specs.Cmp.Derive.{both_true}
use Rattle.std.specs.Prelude.{slice_get, nat_lt, nat_le, option_and_then, option_map}
use Rattle.std.proofs.lemmas.Bool.{le-leb, lt-ltb}
use Rattle.std.proofs.lemmas.List.{reverse-append}
use Rattle.bql_code.specs.Code.{verdict, load_of, change_of, code, all_code}
use Rattle.bql_code.specs.Core.{Core, loading, changing, joining, both, either}
use Rattle.bql_compiler.proofs.StandsAt.{StandsAt, front, back, itself, moved}
use Rattle.plain_machine.specs.Gathering.{cons_if}
use Rattle.plain_machine.specs.Loading.{Loads, value_acts}
use Rattle.plain_machine.specs.SectionRun.{Acts, Outcome, Standing, Stopped, begun, left_by}
use Rattle.query_code.specs.declared.instruction.Instruction.{Instruction}
use Rattle.query_code.specs.declared.instruction.Instruction.TheVariants.{Push, Unary, Binary, Jump}
use Rattle.query_code.specs.declared.instruction.Instruction.TheVariants.{JumpIfFalse}
use Rattle.query_code.specs.declared.instruction.Push.TheVariants as push
use Rattle.query_code.specs.declared.program.Constant.{Constant}
use Rattle.query_values.specs.Operand.{is_truth}
use Rattle.query_values.specs.Operation.{is_true}
use Rattle.query_values.specs.declared.operation.Binary as binaries
use Rattle.query_values.specs.declared.value.Value.{Value}
use Rattle.query_values.specs.declared.value.Value.TheVariants.{Truth}
use Rattle.bql_compiler.specs.CoreValue.{and_value, as_truth, core_value, core_values, or_value}
use Rattle.bql_compiler.proofs.GivesFacts.{Gives, Goes, at_end, binary_gives, gives_as, gives_fault}
use Rattle.bql_compiler.proofs.GivesFacts.{gives_here, gives_longer, gives_then, jump_goes}
use Rattle.bql_compiler.proofs.GivesFacts.{leaves, push_gives, reached, standing, test_goes}
use Rattle.bql_compiler.proofs.GivesFacts.{tested_at, unary_gives}

leads_within : (p q n : ℕ) → p < q → q ≤ n → (nat_lt p q && nat_le q n) ≡ true
leads_within p q n lt le = both_true (lt-ltb p q lt) (le-leb q n le)

module _ (section : List Instruction) (pool : List Constant) (l : Loads) where
  abbrev m : Acts Value
  m = value_acts pool l

  abbrev Comes : ℕ → Outcome → Outcome → Type 0
  Comes = Gives section m

  -- ---- operations

  joining_gives : (op : binaries.Binary) (from : Outcome) (p q k n : ℕ) (st : List Value)
      (x y : Option Value) → Comes k from (reached p st x)
      → ((a : Value) → Comes n (Standing p (standing (a ∷ st))) (reached q (a ∷ st) y))
      → slice_get section q ≡ Some (Binary op)
      → Comes (k + (n + 1)) from
      (reached (q + 1) st (option_and_then (λ a. option_and_then (m.binary op a) y) x))
  joining_gives op from p q k n st None y g h there = gives_fault section m (omega arith) g
  joining_gives op from p q k n st (Some a) y g h there =
      gives_then section m g
      (gives_then section m (h a) (binary_gives section m op q a st y there))

  -- ---- AND and OR

  -- a truth value on top of the stack, and then on from another place
  true_then_jump : (p to : ℕ) (st : List Value) → slice_get section p ≡ Some (Push push.True)
      → slice_get section (p + 1) ≡ Some (Jump to) → p + 1 < to → to ≤ length section
      → Comes 2 (Standing p (standing st)) (Standing to (standing (Truth true ∷ st)))
  true_then_jump p to st there jump lt le =
      gives_then section m {k = 1} {l = 1} (push_gives section m push.True p st there)
      (inr (jump_goes section m (p + 1) to (standing (Truth true ∷ st)) jump
      (leads_within (p + 1) to (length section) lt le)))

  verdict_gives : (p : ℕ) (st : List Value) (o : Option Value)
      → StandsAt section p (verdict p) → p + 4 ≤ length section
      → Comes 4 (reached p st o) (reached (p + 4) st (option_and_then as_truth o))
  verdict_gives p st None hc inside = gives_here section m 4 Stopped
  verdict_gives p st (Some c) hc inside =
      by (is_truth c) (is_true c)
      (test_goes section m p (p + 3) c st hc.0
      (leads_within p (p + 3) (length section) (omega arith) (omega (arith, inside))))
    where
      e3 : p + 1 + 1 + 1 ≡ p + 3
      e3 = omega arith

      by : (t u : Bool)
          → Goes section m 1 (Standing p (standing (c ∷ st))) (tested_at section m p (p + 3) st t u)
          → Comes 4 (Standing p (standing (c ∷ st)))
          (reached (p + 4) st (cond t (Some (Truth u)) None))
      by false u g = gives_fault section m (omega arith) (inl g)
      by true true g =
          gives_longer section m {k = 1 + 2} (omega arith)
          (gives_then section m {k = 1} {l = 2} (inr g)
          (true_then_jump (p + 1) (p + 4) st hc.1.0 hc.1.1.0 (omega arith) inside))
      by true false g =
          gives_longer section m {k = 1 + 1} (omega arith)
          (gives_then section m {k = 1} {l = 1} (inr g)
          (gives_as section m 1 1 (Standing (p + 3) (standing st)) (p + 3 + 1) (p + 4) st
          (Some (Truth false)) (omega arith) (omega arith)
          (push_gives section m push.False (p + 3) st
          (subst (λ n. slice_get section n ≡ Some (Push push.False)) e3 hc.1.1.1.0))))

  -- behind the first operand of AND
  and_gives : (from : Outcome) (q k : ℕ) (c : List Instruction) (st : List Value)
      (x y : Option Value) → Comes k from (reached q st x)
      → StandsAt section q (JumpIfFalse (q + 1 + length c + 3) ∷ (c ++ verdict (q + 1 + length c)))
      → q + 1 + length c + 4 ≤ length section
      → Comes (length c) (Standing (q + 1) (standing st)) (reached (q + 1 + length c) st y)
      → Comes (k + (1 + (length c + 4))) from
      (reached (q + 1 + length c + 4) st (option_and_then (and_value y) x))
  and_gives from q k c st None y g hc inside h = gives_fault section m (omega arith) g
  and_gives from q k c st (Some a) y g hc inside h =
      gives_then section m g
      (by (is_truth a) (is_true a)
      (test_goes section m q (end + 3) a st hc.0
      (leads_within q (end + 3) (length section) (omega arith) (omega (arith, inside)))))
    where
      end : ℕ
      end = q + 1 + length c

      tail : StandsAt section (q + 1 + length c) (verdict (q + 1 + length c))
      tail = back section (q + 1) c (verdict (q + 1 + length c)) hc.1

      at_false : slice_get section (q + 1 + length c + 3) ≡ Some (Push push.False)
      at_false =
          let e3 : q + 1 + length c + 1 + 1 + 1 ≡ q + 1 + length c + 3 = omega arith in
          subst (λ n. slice_get section n ≡ Some (Push push.False)) e3 tail.1.1.1.0

      by : (t u : Bool)
          → Goes section m 1 (Standing q (standing (a ∷ st)))
          (tested_at section m q (q + 1 + length c + 3) st t u)
          → Comes (1 + (length c + 4)) (Standing q (standing (a ∷ st)))
          (reached (q + 1 + length c + 4) st
          (cond t (cond u (option_and_then as_truth y) (Some (Truth false))) None))
      by false u g = gives_fault section m (omega arith) (inl g)
      by true true g =
          gives_then section m {k = 1} (inr g)
          (gives_then section m h (verdict_gives (q + 1 + length c) st y tail inside))
      by true false g =
          gives_longer section m {k = 1 + 1} (omega arith)
          (gives_then section m {k = 1} {l = 1} (inr g)
          (gives_as section m 1 1 (Standing (q + 1 + length c + 3) (standing st))
          (q + 1 + length c + 3 + 1) (q + 1 + length c + 4) st (Some (Truth false)) (omega arith)
          (omega arith) (push_gives section m push.False (q + 1 + length c + 3) st at_false)))

  -- behind the first operand of OR
  or_gives : (from : Outcome) (q k : ℕ) (c : List Instruction) (st : List Value)
      (x y : Option Value) → Comes k from (reached q st x)
      → StandsAt section q
      (JumpIfFalse (q + 3) ∷ Push push.True ∷ Jump (q + 3 + length c + 4)
      ∷ (c ++ verdict (q + 3 + length c)))
      → q + 3 + length c + 4 ≤ length section
      → Comes (length c) (Standing (q + 3) (standing st)) (reached (q + 3 + length c) st y)
      → Comes (k + (3 + (length c + 4))) from
      (reached (q + 3 + length c + 4) st (option_and_then (or_value y) x))
  or_gives from q k c st None y g hc inside h = gives_fault section m (omega arith) g
  or_gives from q k c st (Some a) y g hc inside h =
      gives_then section m g
      (by (is_truth a) (is_true a)
      (test_goes section m q (q + 3) a st hc.0
      (leads_within q (q + 3) (length section) (omega arith) (omega (arith, inside)))))
    where
      tail : StandsAt section (q + 3 + length c) (verdict (q + 3 + length c))
      tail =
          let e3 : q + 1 + 1 + 1 ≡ q + 3 = omega arith in
          back section (q + 3) c (verdict (q + 3 + length c))
          (moved section (q + 1 + 1 + 1) (q + 3) (c ++ verdict (q + 3 + length c)) e3 hc.1.1.1)

      by : (t u : Bool)
          → Goes section m 1 (Standing q (standing (a ∷ st)))
          (tested_at section m q (q + 3) st t u)
          → Comes (3 + (length c + 4)) (Standing q (standing (a ∷ st)))
          (reached (q + 3 + length c + 4) st
          (cond t (cond u (Some (Truth true)) (option_and_then as_truth y)) None))
      by false u g = gives_fault section m (omega arith) (inl g)
      by true true g =
          gives_longer section m {k = 1 + 2} (omega arith)
          (gives_then section m {k = 1} {l = 2} (inr g)
          (true_then_jump (q + 1) (q + 3 + length c + 4) st hc.1.0 hc.1.1.0 (omega arith) inside))
      by true false g =
          gives_longer section m {k = 1 + (length c + 4)} (omega arith)
          (gives_then section m {k = 1} (inr g)
          (gives_then section m h (verdict_gives (q + 3 + length c) st y tail inside)))

  -- ---- expressions

  -- where the code of an expression ends
  abbrev IsGiven : Core → Type 0
  IsGiven e =
      (p : ℕ) (st : List Value) → StandsAt section p (code pool p e)
      → p + length (code pool p e) ≤ length section
      → Comes (length (code pool p e)) (Standing p (standing st))
      (reached (p + length (code pool p e)) st (core_value pool l e))

  pub core_gives : (e : Core) → IsGiven e
  core_gives (loading op) p st hc inside = push_gives section m (load_of pool op) p st hc.0
  core_gives (changing op x) p st hc inside =
      let c = code pool p x in
      let long : length (c ++ Unary (change_of pool op) ∷ []) ≡ length c + 1 =
      length-append c (Unary (change_of pool op) ∷ []) in
      gives_as section m (length c + 1) (length (code pool p (changing op x)))
      (Standing p (standing st)) (p + length c + 1) (p + length (code pool p (changing op x))) st
      (core_value pool l (changing op x)) (omega (arith, long)) (omega (arith, long))
      (gives_then section m
      (core_gives x p st (front section p c (Unary (change_of pool op) ∷ []) hc)
      (omega (arith, inside, long)))
      (unary_gives section m (change_of pool op) (p + length c) st (core_value pool l x)
      (back section p c (Unary (change_of pool op) ∷ []) hc).0))
  core_gives (joining op x y) p st hc inside =
      let c = code pool p x in
      let q = p + length c in
      let d = code pool q y in
      let long : length (c ++ (d ++ Binary op ∷ [])) ≡ length c + (length d + 1) =
      omega (arith, length-append c (d ++ Binary op ∷ []), length-append d (Binary op ∷ [])) in
      let hd = back section p c (d ++ Binary op ∷ []) hc in
      gives_as section m (length c + (length d + 1)) (length (code pool p (joining op x y)))
      (Standing p (standing st)) (q + length d + 1) (p + length (code pool p (joining op x y))) st
      (core_value pool l (joining op x y)) (omega (arith, long)) (omega (arith, long))
      (joining_gives op (Standing p (standing st)) q (q + length d) (length c) (length d) st
      (core_value pool l x) (core_value pool l y)
      (core_gives x p st (front section p c (d ++ Binary op ∷ []) hc) (omega (arith, inside, long)))
      (λ a. core_gives y q (a ∷ st) (front section q d (Binary op ∷ []) hd)
      (omega (arith, inside, long)))
      (back section q d (Binary op ∷ []) hd).0)
  core_gives (both x y) p st hc inside =
      let c = code pool p x in
      let q = p + length c in
      let d = code pool (q + 1) y in
      let rest = JumpIfFalse (q + 1 + length d + 3) ∷ (d ++ verdict (q + 1 + length d)) in
      let long : length (c ++ rest) ≡ length c + (1 + (length d + 4)) =
      omega (arith, length-append c rest, length-append d (verdict (q + 1 + length d))) in
      let hd = back section p c rest hc in
      gives_as section m (length c + (1 + (length d + 4))) (length (code pool p (both x y)))
      (Standing p (standing st)) (q + 1 + length d + 4) (p + length (code pool p (both x y))) st
      (core_value pool l (both x y)) (omega (arith, long)) (omega (arith, long))
      (and_gives (Standing p (standing st)) q (length c) d st (core_value pool l x)
      (core_value pool l y)
      (core_gives x p st (front section p c rest hc) (omega (arith, inside, long))) hd
      (omega (arith, inside, long))
      (core_gives y (q + 1) st (front section (q + 1) d (verdict (q + 1 + length d)) hd.1)
      (omega (arith, inside, long))))
  core_gives (either x y) p st hc inside =
      let c = code pool p x in
      let q = p + length c in
      let d = code pool (q + 3) y in
      let rest =
      JumpIfFalse (q + 3) ∷ Push push.True ∷ Jump (q + 3 + length d + 4)
      ∷ (d ++ verdict (q + 3 + length d)) in
      let long : length (c ++ rest) ≡ length c + (3 + (length d + 4)) =
      omega (arith, length-append c rest, length-append d (verdict (q + 3 + length d))) in
      let hd = back section p c rest hc in
      let e3 : q + 1 + 1 + 1 ≡ q + 3 = omega arith in
      let he =
      moved section (q + 1 + 1 + 1) (q + 3) (d ++ verdict (q + 3 + length d)) e3 hd.1.1.1 in
      gives_as section m (length c + (3 + (length d + 4))) (length (code pool p (either x y)))
      (Standing p (standing st)) (q + 3 + length d + 4) (p + length (code pool p (either x y))) st
      (core_value pool l (either x y)) (omega (arith, long)) (omega (arith, long))
      (or_gives (Standing p (standing st)) q (length c) d st (core_value pool l x)
      (core_value pool l y)
      (core_gives x p st (front section p c rest hc) (omega (arith, inside, long))) hd
      (omega (arith, inside, long))
      (core_gives y (q + 3) st (front section (q + 3) d (verdict (q + 3 + length d)) he)
      (omega (arith, inside, long))))

  -- ---- expressions one behind the other

  abbrev all_reached : ℕ → List Value → Option (List Value) → Outcome
  all_reached q st None = Stopped
  all_reached q st (Some vs) = Standing q (standing (reverse vs ++ st))

  turned : (v : Value) (vs st : List Value) → reverse vs ++ v ∷ st ≡ reverse (v ∷ vs) ++ st
  turned v vs st =
      sym (append_assoc (reverse vs) (v ∷ []) st)
      ∙ ap (λ l. l ++ st) (sym (reverse-append (v ∷ []) vs))

  more_reached : (q : ℕ) (v : Value) (st : List Value) (o : Option (List Value))
      → all_reached q (v ∷ st) o ≡ all_reached q st (cons_if (Some v) o)
  more_reached q v st None = refl
  more_reached q v st (Some vs) = ap (λ s. Standing q (standing s)) (turned v vs st)

  one_more : (from : Outcome) (p q k n : ℕ) (st : List Value) (x : Option Value)
      (xs : Option (List Value)) → Comes k from (reached p st x)
      → ((v : Value) → Comes n (Standing p (standing (v ∷ st))) (all_reached q (v ∷ st) xs))
      → Comes (k + n) from (all_reached q st (cons_if x xs))
  one_more from p q k n st None xs g h = gives_fault section m (omega arith) g
  one_more from p q k n st (Some v) xs g h =
      subst (Comes (k + n) from) (more_reached q v st xs) (gives_then section m g (h v))

  pub all_gives : (es : List Core) (p : ℕ) (st : List Value) → StandsAt section p (all_code pool p es)
      → p + length (all_code pool p es) ≤ length section
      → Comes (length (all_code pool p es)) (Standing p (standing st))
      (all_reached (p + length (all_code pool p es)) st (core_values pool l es))
  all_gives [] p st hc inside =
      let e : p ≡ p + 0 = omega arith in
      subst (λ n. Comes 0 (Standing p (standing st)) (Standing n (standing st))) e
      (gives_here section m 0 (Standing p (standing st)))
  all_gives (e ∷ es) p st hc inside =
      let c = code pool p e in
      let q = p + length c in
      let d = all_code pool q es in
      let long : length (c ++ d) ≡ length c + length d = length-append c d in
      let at : q + length d ≡ p + length (c ++ d) = omega (arith, long) in
      subst (λ n. Comes (length (c ++ d)) (Standing p (standing st))
      (all_reached n st (core_values pool l (e ∷ es)))) at
      (gives_longer section m (omega (arith, long))
      (one_more (Standing p (standing st)) q (q + length d) (length c) (length d) st
      (core_value pool l e) (core_values pool l es)
      (core_gives e p st (front section p c d hc) (omega (arith, inside, long)))
      (λ v. all_gives es q (v ∷ st) (back section p c d hc) (omega (arith, inside, long)))))

-- ---- sections

of_either : (o x : Option (List Value)) (stack : List Value) → (o ≡ None) ⊎ (o ≡ x)
    → o ≡ Some stack → x ≡ Some stack
of_either o x stack (inl e) f = absurd (none (sym e ∙ f))
  where
    none : None ≡ Some stack → ⊥
    none e = cc
of_either o x stack (inr e) f = sym e ∙ f

none_before : (n : ℕ) → 0 + n ≡ n
none_before n = omega arith

pub one_left : (pool : List Constant) (l : Loads) (x : Core) (stack : List Value)
    → left_by (code pool 0 x) (value_acts pool l) ≡ Some stack
    → option_map (λ v. v ∷ []) (core_value pool l x) ≡ Some stack
one_left pool l x stack e =
    of_either (left_by c (value_acts pool l)) (option_map (λ v. v ∷ []) (core_value pool l x)) stack
    (leaves c (value_acts pool l) (option_map (λ v. v ∷ []) (core_value pool l x))
    (by (core_value pool l x)
    (subst (λ n. Gives c (value_acts pool l) (length c) begun (reached n [] (core_value pool l x)))
    (none_before (length c))
    (core_gives c pool l x 0 [] (itself c) (omega arith))))) e
  where
    c : List Instruction
    c = code pool 0 x

    by : (o : Option Value) → Gives c (value_acts pool l) (length c) begun (reached (length c) [] o)
        → Gives c (value_acts pool l) (length c) begun
        (at_end (length c) (option_map (λ v. v ∷ []) o))
    by None g = g
    by (Some v) g = g

pub all_left : (pool : List Constant) (l : Loads) (xs : List Core) (stack : List Value)
    → left_by (all_code pool 0 xs) (value_acts pool l) ≡ Some stack
    → option_map reverse (core_values pool l xs) ≡ Some stack
all_left pool l xs stack e =
    of_either (left_by c (value_acts pool l)) (option_map reverse (core_values pool l xs)) stack
    (leaves c (value_acts pool l) (option_map reverse (core_values pool l xs))
    (by (core_values pool l xs)
    (subst (λ n. Gives c (value_acts pool l) (length c) begun
    (all_reached c pool l n [] (core_values pool l xs)))
    (none_before (length c))
    (all_gives c pool l xs 0 [] (itself c) (omega arith))))) e
  where
    c : List Instruction
    c = all_code pool 0 xs

    by : (o : Option (List Value))
        → Gives c (value_acts pool l) (length c) begun (all_reached c pool l (length c) [] o)
        → Gives c (value_acts pool l) (length c) begun
        (at_end (length c) (option_map reverse o))
    by None g = g
    by (Some vs) g =
        subst (λ s. Gives c (value_acts pool l) (length c) begun (Standing (length c) (standing s)))
        (append-nil (reverse vs)) g
