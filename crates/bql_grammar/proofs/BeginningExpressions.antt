-- What stands before the place where a reader of expressions stops begins one.
use Rattle.std.proofs.Common.{◌≡◌, ℕ, zero, suc, ◌-◌, Bool, true, false, List, [], ◌∷◌, ◌++◌}
use Rattle.std.proofs.Common.{inl, inr, Option, Some, None, is_some, refl, sym, ap, ◌∙◌, subst}
use Rattle.std.proofs.Common.{length, arith}
use Rattle.std.specs.Prelude.{◌&&◌}
use Rattle.theory.specs.Form.{Form, Reads, made}
use Rattle.bql_lexer.specs.Kind.{same_kind}
use Rattle.bql_lexer.specs.declared.kind.Kind.TheVariants as kind
use Rattle.bql_lexer.specs.declared.token.Token.{Token}
use Rattle.bql_grammar.specs.Beginning.{IsEnd, BeginsOne, IsBegun}
use Rattle.bql_grammar.specs.Expression.{token, told, then, choice, chained, list_of}
use Rattle.bql_grammar.specs.Expression.{nothing, literal, literals, list, compared}
use Rattle.bql_grammar.specs.Expression.{matched, contained, compared_if_due}
use Rattle.bql_grammar.specs.Expression.{denied_of, signed_of, arguments_of}
use Rattle.bql_grammar.specs.Expression.{counted, inside_call, name, atom_of, unary_of}
use Rattle.bql_grammar.specs.Expression.{negation_of, unary, negation, comparison}
use Rattle.bql_grammar.specs.Expression.{chain_at, begins_with_count, grouped, call, atom, arguments}
use Rattle.bql_grammar.specs.Front as fronts
use Rattle.bql_grammar.specs.Front.{front, before, begins, of_kind, begins_with_call, and_behind}
use Rattle.bql_grammar.specs.Front.{begins_with_list, ends_literal, with_token, leaf_by}
use Rattle.bql_grammar.specs.declared.stuck.Stuck.{Stuck}
use Rattle.bql_grammar.specs.declared.stuck.Stuck.TheVariants.{At}
use Rattle.bql_tree.specs.Call.{is_count, called, listed}
use Rattle.bql_tree.specs.Level as level_rules
use Rattle.bql_tree.specs.Part as parts
use Rattle.bql_tree.specs.Part.{Part}
use Rattle.bql_tree.specs.declared.function.Scope.{Scope}
use Rattle.bql_tree.specs.declared.level.Level.{Level}
use Rattle.bql_tree.specs.declared.level.Level.TheVariants as level
use Rattle.bql_tree.specs.declared.tree.BinaryOperator.{BinaryOperator}
use Rattle.bql_tree.specs.declared.tree.BinaryOperator.TheVariants as binary
use Rattle.bql_tree.specs.declared.tree.Leaf.{Leaf}
use Rattle.bql_tree.specs.declared.tree.Leaf.TheVariants as leaf
use Rattle.bql_grammar.proofs.AgainFacts.{same_first, inner_kind, test_again}
use Rattle.bql_grammar.proofs.AgainFacts.{inner_comparison, list_again}
use Rattle.bql_grammar.proofs.AgainExpressions.{opens_list, same_opening, literal_again}
use Rattle.bql_grammar.proofs.AgainExpressions.{list_tells, no_in_no_list, chain_repeats}
use Rattle.bql_grammar.proofs.BeginningFacts.{none_at_end, sample, close, begun_here, begun_before}
use Rattle.bql_grammar.proofs.BeginningFacts.{begun_by, begun_as, begins_whole, begins_with}
use Rattle.bql_grammar.proofs.BeginningFacts.{begins_behind, begins_first, begins_then}
use Rattle.bql_grammar.proofs.BeginningFacts.{begins_read, begins_shut, begins_unshut}
use Rattle.bql_grammar.proofs.BeginningFacts.{begins_chosen, begins_other, chain_alone, list_alone}
use Rattle.bql_grammar.proofs.BeginningFacts.{begins_list}
use Rattle.bql_grammar.proofs.ExpressionFacts.{unary_is, negation_is, unary_ends, negation_ends}
use Rattle.bql_grammar.proofs.ExpressionFacts.{signed, denied}
use Rattle.bql_grammar.proofs.FormFacts.{IsFixed, present, absent}
use Rattle.bql_grammar.proofs.StandingFacts.{fronts_of, kind_is, not_kind}

-- Where an operand is wanted, a name is one.

abbrev word : Token
word = sample kind.Name

abbrev pub Named : {V : Type 0} → Form Token V → Type 0
Named {V} a = (rest : List Token) → IsEnd rest → (v : V) × a.reads (word ∷ rest) v rest

pub begins_named : {V : Type 0} (a : Form Token V) → Named a → BeginsOne a []
begins_named a named = begins_with a [] (word ∷ []) named

name_at_end : (rest : List Token) → IsEnd rest → begins (of_kind kind.OpenParenthesis) rest ≡ false
name_at_end rest e =
    none_at_end (of_kind kind.OpenParenthesis) (inner_kind kind.OpenParenthesis refl) rest e

atom_of_named : (scope : Scope) (group call : Form Token Part) → Named (atom_of scope group call)
atom_of_named scope group call rest e = (
  _,
  inr (refl, inr (refl, inr (name_at_end rest e, (word, rest, refl, (refl, refl))))),
)

pub atom_named : (scope : Scope) (room : ℕ) → Named (atom scope room)
atom_named scope room = atom_of_named scope (grouped scope room) (call scope room)

unary_of_named : (scope : Scope) (sign group call : Form Token Part)
    → Named (unary_of scope sign group call)
unary_of_named scope sign group call rest e =
    let r = atom_of_named scope group call rest e in (r.0, inr (refl, r.1))

pub unary_named : (scope : Scope) (room : ℕ) → Named (unary scope room)
unary_named scope room =
    subst (λ f. Named f) (sym (unary_is scope room))
    (unary_of_named scope (signed scope room) (grouped scope room) (call scope room))

chain_named : (l : Level) (a : Form Token Part) → IsFixed a → Named a → Named (chained l a)
chain_named l a fixed named rest e =
    let r = named rest e in chain_alone l a fixed (word ∷ rest) r.0 rest e r.1

pub sum_named : (scope : Scope) (room : ℕ) → Named (chain_at level.Sum scope room)
sum_named scope room =
    chain_named level.Sum (chained level.Product (unary scope room)) (λ rest. refl)
    (chain_named level.Product (unary scope room) (unary_ends scope room) (unary_named scope room))

-- What a sum is compared with may be nothing.

module _ (room : ℕ) (s : Form Token Part) (left : Part) where
  abbrev pub past_list : Form Token Part
  past_list = choice (begins (of_kind kind.In)) (contained s left) (made left)

  abbrev pub past_pattern : Form Token Part
  past_pattern = choice begins_with_list (list room left) past_list

  abbrev pub past_comparison : Form Token Part
  past_comparison = choice (begins (of_kind kind.Tilde)) (matched left) past_pattern

  pub nothing_compared : (rest : List Token) → IsEnd rest
      → (w : Part) × (compared_if_due room s left).reads rest w rest
  nothing_compared rest e =
      let no_in = none_at_end (of_kind kind.In) (inner_kind kind.In refl) rest e in (
        left,
        inr (
          none_at_end fronts.comparison inner_comparison rest e,
          inr (
            none_at_end (of_kind kind.Tilde) (inner_kind kind.Tilde refl) rest e,
            inr (no_in_no_list rest no_in, inr (no_in, (refl, refl))),
          ),
        ),
      )

  pub begins_nothing : BeginsOne (compared_if_due room s left) []
  begins_nothing = begins_whole (compared_if_due room s left) [] nothing_compared

  -- where nothing is compared, and no comparison stands there
  past_nothing : BeginsOne past_comparison []
  past_nothing =
      begins_whole past_comparison []
      (λ rest e.
      let no_in = none_at_end (of_kind kind.In) (inner_kind kind.In refl) rest e in (
        left,
        inr (
          none_at_end (of_kind kind.Tilde) (inner_kind kind.Tilde refl) rest e,
          inr (no_in_no_list rest no_in, inr (no_in, (refl, refl))),
        ),
      ))

comparison_named : (scope : Scope) (room : ℕ) → Named (comparison scope room)
comparison_named scope room rest e =
    let s = chain_at level.Sum scope room in
    let r = sum_named scope room rest e in
    let n = nothing_compared room s r.0 rest e in
    (n.0, (r.0, rest, r.1, n.1))

negation_named : (scope : Scope) (room : ℕ) → Named (negation scope room)
negation_named scope room =
    subst (λ f. Named f) (sym (negation_is scope room))
    (λ rest e. let r = comparison_named scope room rest e in (r.0, inr (refl, r.1)))

pub or_named : (scope : Scope) (room : ℕ) → Named (chain_at level.Or scope room)
or_named scope room =
    chain_named level.Or (chained level.And (negation scope room)) (λ rest. refl)
    (chain_named level.And (negation scope room) (negation_ends scope room)
    (negation_named scope room))

-- Negations.

back : (room : ℕ) → suc room - 1 ≡ room
back room = omega arith

at_first : {V : Type 0} (f : Token → Option V) (t : Token) (v : V) (ts : List Token)
    → f t ≡ Some v → begins f (t ∷ ts) ≡ true
at_first f t v ts is = ap (λ o. is_some (before ts o)) is

not_first : {V : Type 0} (f : Token → Option V) (t : Token) (ts : List Token)
    → f t ≡ None → begins f (t ∷ ts) ≡ false
not_first f t ts is = ap (λ o. is_some (before ts o)) is

pub undenied_begun : (scope : Scope) (room : ℕ) (ts : List Token) (e : Stuck)
    → front (of_kind kind.Not) ts ≡ None → IsBegun (comparison scope room) ts e
    → IsBegun (negation scope room) ts e
undenied_begun scope room ts e none h =
    subst (λ f. IsBegun f ts e) (sym (negation_is scope room))
    (begun_as (comparison scope room) (negation_of (denied scope room) (comparison scope room)) ts e
    (λ ys rest cut. begins_other (of_kind kind.Not) (denied scope room) (comparison scope room) ys
    rest (ap (begins (of_kind kind.Not)) (sym cut) ∙ absent (of_kind kind.Not) ts none)
    (subst (λ f. BeginsOne f []) (negation_is scope room)
    (begins_named (negation scope room) (negation_named scope room)))) h)

pub no_room_begun : (scope : Scope) (room : ℕ) (ts : List Token) (deep : Bool) (e : Stuck)
    → e ≡ At (length ts) deep → IsBegun (negation scope room) ts e
no_room_begun scope room ts deep e is =
    begun_here (negation scope room) ts deep e is
    (begins_named (negation scope room) (negation_named scope room))

pub denied_begun : (scope : Scope) (room : ℕ) (ts : List Token) (t : Token) (mid : List Token)
    (e : Stuck) → (room ≡ 0 → ⊥) → front (of_kind kind.Not) ts ≡ Some (t, mid)
    → IsBegun (negation scope (room - 1)) mid e → IsBegun (negation scope room) ts e
denied_begun scope zero ts t mid e some at h = absurd (some refl)
denied_begun scope (suc room) ts t mid e some at h =
    let o = fronts_of (of_kind kind.Not) ts t mid at in
    let n = negation scope room in
    subst (λ f. IsBegun f ts e) (sym (negation_is scope (suc room)))
    (begun_by n (negation_of (denied_of n) (comparison scope (suc room))) (o.token ∷ []) mid ts e
    o.at
    (λ ys rest cut h. begins_chosen (of_kind kind.Not) (denied_of n) (comparison scope (suc room))
    (o.token ∷ ys) rest (at_first (of_kind kind.Not) o.token t (ys ++ rest) o.is)
    (subst (λ f. BeginsOne f []) (negation_is scope (suc room))
    (begins_named (negation scope (suc room)) (negation_named scope (suc room))))
    (begins_behind (of_kind kind.Not) (λ word. then n (λ inner. made (parts.denied word inner)))
    o.token t ys o.is
    (begins_first n (λ inner. made (parts.denied t inner)) ys (λ v rest e. (_, (refl, refl))) h)))
    (subst (λ i. IsBegun (negation scope i) mid e) (back room) h))

-- Signs.

pub unsigned_begun : (scope : Scope) (room : ℕ) (ts : List Token) (e : Stuck)
    → front fronts.sign ts ≡ None → IsBegun (atom scope room) ts e
    → IsBegun (unary scope room) ts e
unsigned_begun scope room ts e none h =
    subst (λ f. IsBegun f ts e) (sym (unary_is scope room))
    (begun_as (atom scope room) (unary_of scope (signed scope room) (grouped scope room)
    (call scope room)) ts e
    (λ ys rest cut. begins_other fronts.sign (signed scope room) (atom scope room) ys
    rest (ap (begins fronts.sign) (sym cut) ∙ absent fronts.sign ts none)
    (subst (λ f. BeginsOne f []) (unary_is scope room)
    (begins_named (unary scope room) (unary_named scope room)))) h)

pub no_room_to_sign : (scope : Scope) (room : ℕ) (ts : List Token) (deep : Bool) (e : Stuck)
    → e ≡ At (length ts) deep → IsBegun (unary scope room) ts e
no_room_to_sign scope room ts deep e is =
    begun_here (unary scope room) ts deep e is
    (begins_named (unary scope room) (unary_named scope room))

pub signed_begun : (scope : Scope) (room : ℕ) (ts : List Token) (t : Token × Bool)
    (mid : List Token) (e : Stuck) → (room ≡ 0 → ⊥) → front fronts.sign ts ≡ Some (t, mid)
    → IsBegun (unary scope (room - 1)) mid e → IsBegun (unary scope room) ts e
signed_begun scope zero ts t mid e some at h = absurd (some refl)
signed_begun scope (suc room) ts t mid e some at h =
    let o = fronts_of fronts.sign ts t mid at in
    let u = unary scope room in
    subst (λ f. IsBegun f ts e) (sym (unary_is scope (suc room)))
    (begun_by u (unary_of scope (signed_of u) (grouped scope (suc room)) (call scope (suc room)))
    (o.token ∷ []) mid ts e o.at
    (λ ys rest cut h. begins_chosen fronts.sign (signed_of u) (atom scope (suc room))
    (o.token ∷ ys) rest (at_first fronts.sign o.token t (ys ++ rest) o.is)
    (subst (λ f. BeginsOne f []) (unary_is scope (suc room))
    (begins_named (unary scope (suc room)) (unary_named scope (suc room))))
    (begins_behind fronts.sign
    (λ sign. then u (λ inner. made (parts.signed sign.0 sign.1 inner))) o.token t ys o.is
    (begins_first u (λ inner. made (parts.signed t.0 t.1 inner)) ys
    (λ v rest e. (_, (refl, refl))) h)))
    (subst (λ i. IsBegun (unary scope i) mid e) (back room) h))

-- Comparisons.

module _ (scope : Scope) (room : ℕ) (ts : List Token) (e : Stuck) where
  abbrev s : Form Token Part
  s = chain_at level.Sum scope room

  pub sum_begun : IsBegun s ts e → IsBegun (comparison scope room) ts e
  sum_begun h =
      begun_as s (comparison scope room) ts e
      (λ ys rest cut. begins_first s (compared_if_due room s) ys (nothing_compared room s)) h

  -- behind a sum
  pub behind_sum : (v : Part) (mid : List Token) → Reads s ts v mid
      → IsBegun (compared_if_due room s v) mid e → IsBegun (comparison scope room) ts e
  behind_sum v mid r h =
      let x = chain_repeats level.Sum scope room ts v mid r.read in
      begun_by (compared_if_due room s v) (comparison scope room) x.passed mid ts e x.cut
      (λ ys rest cut. begins_then true s (compared_if_due room s) ts v mid x ys rest cut
      (begins_read true s (compared_if_due room s) ts v mid x (nothing_compared room s v))) h

  module _ (left : Part) where
    pub compared_begun : (op : BinaryOperator) (us : List Token)
        → front fronts.comparison ts ≡ Some (op, us) → IsBegun s us e
        → IsBegun (compared_if_due room s left) ts e
    compared_begun op us at h =
        let o = fronts_of fronts.comparison ts op us at in
        begun_by s (compared_if_due room s left) (o.token ∷ []) us ts e o.at
        (λ ys rest cut h. begins_chosen fronts.comparison (compared s left)
        (past_comparison room s left) (o.token ∷ ys) rest
        (at_first fronts.comparison o.token op (ys ++ rest) o.is) (begins_nothing room s left)
        (begins_behind fronts.comparison (λ op. then s (λ right. made (parts.two op left right)))
        o.token op ys o.is
        (begins_first s (λ right. made (parts.two op left right)) ys
        (λ v rest e. (_, (refl, refl))) h))) h

    pub no_pattern_begun : (t : Token) (us : List Token) (deep : Bool) → e ≡ At (length us) deep
        → front fronts.comparison ts ≡ None → front (of_kind kind.Tilde) ts ≡ Some (t, us)
        → IsBegun (compared_if_due room s left) ts e
    no_pattern_begun t us deep is none at =
        let o = fronts_of (of_kind kind.Tilde) ts t us at in
        begun_before (compared_if_due room s left) ts (o.token ∷ []) us deep e is o.at
        (begins_other fronts.comparison (compared s left) (past_comparison room s left)
        (o.token ∷ []) us
        (ap (begins fronts.comparison) (sym o.at) ∙ absent fronts.comparison ts none)
        (begins_nothing room s left)
        (begins_chosen (of_kind kind.Tilde) (matched left) (past_pattern room s left)
        (o.token ∷ []) us (at_first (of_kind kind.Tilde) o.token t us o.is)
        (past_nothing room s left)
        (begins_behind (of_kind kind.Tilde)
        (λ tilde. then (token kind.Text) (λ text. made (parts.matched left text))) o.token t [] o.is
        (begins_with (then (token kind.Text) (λ text. made (parts.matched left text))) []
        (sample kind.Text ∷ [])
        (λ rest e. (_, (sample kind.Text, rest, refl, (refl, refl))))))))

-- Behind IN.

in_compares : (t v : Token) (ts : List Token) → of_kind kind.In t ≡ Some v
    → begins fronts.comparison (t ∷ ts) ≡ false
in_compares t v ts is =
    not_first fronts.comparison t ts (ap level_rules.comparison_of (kind_is kind.In t v is))

in_matches : (t v : Token) (ts : List Token) → of_kind kind.In t ≡ Some v
    → begins (of_kind kind.Tilde) (t ∷ ts) ≡ false
in_matches t v ts is =
    not_first (of_kind kind.Tilde) t ts (not_kind kind.Tilde t
    (ap (λ k. same_kind k kind.Tilde) (kind_is kind.In t v is)))

module _ (room : ℕ) (s : Form Token Part) (left : Part) (t v : Token)
    (is : of_kind kind.In t ≡ Some v) where
  -- a list
  list_in : (ts : List Token) (w : Part) (rest : List Token)
      → (list room left).reads (t ∷ ts) w rest
      → (compared_if_due room s left).reads (t ∷ ts) w rest
  list_in ts w rest r = inr (
    in_compares t v ts is,
    inr (in_matches t v ts is, inl (list_tells room left (t ∷ ts) w rest r, r)),
  )

  -- an operand where no list begins
  operand_in : (ts : List Token) (w : Part) (rest : List Token) → opens_list ts ≡ false
      → s.reads ts w rest → (compared_if_due room s left).reads (t ∷ ts) (parts.two binary.In left w) rest
  operand_in ts w rest none r = inr (
    in_compares t v ts is,
    inr (
      in_matches t v ts is,
      inr (
        ap (λ o. and_behind opens_list (before ts o)) is ∙ none,
        inl (at_first (of_kind kind.In) t v ts is, (v, ts, ap (before ts) is, (w, rest, r, (refl, refl)))),
      ),
    ),
  )

  pub named_in : Named s → BeginsOne (compared_if_due room s left) (t ∷ [])
  named_in named =
      begins_with (compared_if_due room s left) (t ∷ []) (word ∷ [])
      (λ rest e. let r = named rest e in (_, operand_in (word ∷ rest) r.0 rest refl r.1))

-- one literal in a list
one_listed : (room : ℕ) (left : Part) (t v opening o : Token) (l : Token) (f : Token × Leaf)
    → of_kind kind.In t ≡ Some v → of_kind kind.OpenParenthesis opening ≡ Some o
    → fronts.literal l ≡ Some f → (rest : List Token) → IsEnd rest
    → (w : Part) × (list (suc room) left).reads (t ∷ opening ∷ l ∷ close ∷ rest) w rest
one_listed room left t v opening o l f is opens told rest e = (
  _,
  (
    v,
    opening ∷ l ∷ close ∷ rest,
    ap (before (opening ∷ l ∷ close ∷ rest)) is,
    (
      o,
      l ∷ close ∷ rest,
      ap (before (l ∷ close ∷ rest)) opens,
      (
        _,
        close ∷ rest,
        (
          (
            _,
            [],
            close ∷ rest,
            (f, close ∷ rest, ap (before (close ∷ rest)) told, (refl, refl)),
            refl,
            refl,
          ),
          refl,
        ),
        (close, rest, refl, (refl, refl)),
      ),
    ),
  ),
)

-- at the innermost level no sum begins with a parenthesis
opens_no_literal : (ts : List Token) → begins (of_kind kind.OpenParenthesis) ts ≡ true
    → begins fronts.literal ts ≡ true → ⊥
opens_no_literal [] e f = absurd (cc e)
opens_no_literal (t ∷ ts) e f = by (of_kind kind.OpenParenthesis t) refl
  where
    by : (o : Option Token) → of_kind kind.OpenParenthesis t ≡ o → ⊥
    by None is = let no = not_first (of_kind kind.OpenParenthesis) t ts is in cc (no, e)
    by (Some o) is =
        let none : begins fronts.literal (t ∷ ts) ≡ false = not_first fronts.literal t ts
        (ap (λ k. with_token t (leaf_by k t.text)) (kind_is kind.OpenParenthesis t o is)) in
        cc (none, f)

no_sum_opens : (scope : Scope) (ts : List Token) (v : Part) (rest : List Token)
    → (chain_at level.Sum scope zero).reads ts v rest
    → begins (of_kind kind.OpenParenthesis) ts ≡ true → ⊥
no_sum_opens scope ts v rest r opens =
    let q = r.0.3.0 in
    no_unary (subst (λ f. f.reads ts q.0 q.2) (unary_is scope zero) q.3)
  where
    no_name : (w : Part) (mid : List Token)
        → (choice (begins (of_kind kind.OpenParenthesis)) nothing
        (choice begins_with_call nothing (name scope))).reads ts w mid → ⊥
    no_name w mid (inl q) = q.1
    no_name w mid (inr q) = cc (opens, q.0)

    no_atom : (w : Part) (mid : List Token) → (atom_of scope nothing nothing).reads ts w mid → ⊥
    no_atom w mid (inl q) = opens_no_literal ts opens q.0
    no_atom w mid (inr q) = no_name w mid q.1

    no_unary : {w : Part} {mid : List Token}
        → (unary_of scope nothing nothing nothing).reads ts w mid → ⊥
    no_unary {w} {mid} (inl q) = q.1
    no_unary {w} {mid} (inr q) = no_atom w mid q.1

some_of : {V : Type 0} (test : List Token → Bool) (us : List Token) (o : Option V)
    → and_behind test (before us o) ≡ true → (v : V) × (o ≡ Some v) × (test us ≡ true)
some_of test us (Some v) e = (v, refl, e)
some_of test us None e = absurd (cc e)

abbrev opens_item : List Token → Bool
opens_item ts = and_behind ends_literal (front fronts.literal ts)

opens_first : (ts : List Token) → opens_list ts ≡ true
    → begins (of_kind kind.OpenParenthesis) ts ≡ true
opens_first [] e = absurd (cc e)
opens_first (t ∷ ts) e =
    let o = some_of opens_item ts (of_kind kind.OpenParenthesis t) e in
    at_first (of_kind kind.OpenParenthesis) t o.0 ts o.1

module _ (scope : Scope) (left : Part) (t v : Token) (is : of_kind kind.In t ≡ Some v) where
  -- where the tail would make a list of it, another one ends the list
  ended_as_list : (room : ℕ) (ys more us : List Token) (w : Part) (rest : List Token)
      → opens_list (ys ++ more) ≡ false → opens_list (ys ++ us) ≡ true
      → (chain_at level.Sum scope room).reads (ys ++ us) w rest → IsEnd rest
      → (tail : List Token) × (w : Part)
      × (compared_if_due room (chain_at level.Sum scope room) left).reads (t ∷ (ys ++ (tail ++ rest))) w rest
  ended_as_list zero ys more us w rest none opens r e =
      absurd (no_sum_opens scope (ys ++ us) w rest r (opens_first (ys ++ us) opens))
  ended_as_list (suc room) [] more us w rest none opens r e =
      let s = chain_at level.Sum scope (suc room) in
      let n = sum_named scope (suc room) rest e in
      (word ∷ [], _, operand_in (suc room) s left t v is (word ∷ rest) n.0 rest refl n.1)
  ended_as_list (suc room) (a ∷ []) more us w rest none opens r e =
      let s = chain_at level.Sum scope (suc room) in
      let o = some_of opens_item us (of_kind kind.OpenParenthesis a) opens in
      let l = one_listed room left t v a o.0 (sample kind.Text) (sample kind.Text, leaf.Text []) is
      o.1 refl rest e in (
        sample kind.Text ∷ close ∷ [],
        l.0,
        list_in (suc room) s left t v is (a ∷ sample kind.Text ∷ close ∷ rest) l.0 rest l.1,
      )
  ended_as_list (suc room) (a ∷ b ∷ []) more us w rest none opens r e =
      let s = chain_at level.Sum scope (suc room) in
      let o = some_of opens_item (b ∷ us) (of_kind kind.OpenParenthesis a) opens in
      let f = some_of ends_literal us (fronts.literal b) o.2 in
      let l = one_listed room left t v a o.0 b f.0 is o.1 f.1 rest e in (
        close ∷ [],
        l.0,
        list_in (suc room) s left t v is (a ∷ b ∷ close ∷ rest) l.0 rest l.1,
      )
  ended_as_list (suc room) (a ∷ b ∷ c ∷ ys) more us w rest none opens r e =
      let same = same_opening a b c (ys ++ more) (ys ++ us) in
      absurd (cc (same, none, opens))

  begins_contained : (room : ℕ) (ys more : List Token) → opens_list (ys ++ more) ≡ false
      → BeginsOne (chain_at level.Sum scope room) ys
      → BeginsOne (compared_if_due room (chain_at level.Sum scope room) left) (t ∷ ys)
  begins_contained room ys more none h rest e =
      let r = h rest e in
      by r.0 r.1 r.2 (opens_list (ys ++ (r.0 ++ rest))) refl
    where
      by : (tail : List Token) (w : Part)
          → (chain_at level.Sum scope room).reads (ys ++ (tail ++ rest)) w rest
          → (b : Bool) → opens_list (ys ++ (tail ++ rest)) ≡ b
          → (tail : List Token) × (w : Part)
          × (compared_if_due room (chain_at level.Sum scope room) left).reads
          (t ∷ (ys ++ (tail ++ rest))) w rest
      by tail w r false closed = (
        tail,
        _,
        operand_in room (chain_at level.Sum scope room) left t v is
            (ys ++ (tail ++ rest)) w rest closed r,
      )
      by tail w r true opens =
          ended_as_list room ys more (tail ++ rest) w rest none opens r e

pub contained_begun : (scope : Scope) (room : ℕ) (left : Part) (ts : List Token) (t : Token)
    (us : List Token) (e : Stuck) → begins_with_list ts ≡ false
    → front (of_kind kind.In) ts ≡ Some (t, us) → IsBegun (chain_at level.Sum scope room) us e
    → IsBegun (compared_if_due room (chain_at level.Sum scope room) left) ts e
contained_begun scope room left ts t us e none at h =
    let o = fronts_of (of_kind kind.In) ts t us at in
    begun_by (chain_at level.Sum scope room)
    (compared_if_due room (chain_at level.Sum scope room) left) (o.token ∷ []) us ts e o.at
    (λ ys rest cut h. begins_contained scope left o.token t o.is room ys rest
    (ap opens_list (sym cut) ∙ (ap (and_behind opens_list) (sym at) ∙ none)) h) h

-- Lists.

pub begins_literal : BeginsOne literal []
begins_literal =
    begins_with literal [] (sample kind.Text ∷ [])
    (λ rest e. (_, ((sample kind.Text, leaf.Text []), rest, refl, (refl, refl))))

pub begins_literals : BeginsOne literals []
begins_literals = begins_list literal (λ rest. refl) [] begins_literal

module _ (scope : Scope) (room : ℕ) (left : Part) (ts : List Token) (e : Stuck) where
  pub no_in_begun : (deep : Bool) → e ≡ At (length ts) deep
      → IsBegun (compared_if_due room (chain_at level.Sum scope room) left) ts e
  no_in_begun deep is =
      begun_here (compared_if_due room (chain_at level.Sum scope room) left) ts deep e is
      (begins_nothing room (chain_at level.Sum scope room) left)

  pub no_list_begun : (t : Token) (mid : List Token) (deep : Bool) → e ≡ At (length mid) deep
      → front (of_kind kind.In) ts ≡ Some (t, mid)
      → IsBegun (compared_if_due room (chain_at level.Sum scope room) left) ts e
  no_list_begun t mid deep is at =
      let s = chain_at level.Sum scope room in
      let o = fronts_of (of_kind kind.In) ts t mid at in
      begun_before (compared_if_due room s left) ts (o.token ∷ []) mid deep e is o.at
      (named_in room s left o.token t o.is (sum_named scope room))

module _ (scope : Scope) (left : Part) where
  abbrev shut_list : List Part → Form Token Part
  shut_list items = then (token kind.CloseParenthesis) (λ close. made (listed left items close))

  begins_listed : (room : ℕ) (t v p o : Token) (ys : List Token) → of_kind kind.In t ≡ Some v
      → of_kind kind.OpenParenthesis p ≡ Some o → BeginsOne (then literals shut_list) ys
      → BeginsOne (compared_if_due (suc room) (chain_at level.Sum scope (suc room)) left)
      (t ∷ p ∷ ys)
  begins_listed room t v p o ys is opens h rest e =
      let r = h rest e in
      let us = ys ++ (r.0 ++ rest) in (
        r.0,
        r.1,
        list_in (suc room) (chain_at level.Sum scope (suc room)) left t v is (p ∷ us) r.1 rest
            (v, p ∷ us, ap (before (p ∷ us)) is, (o, us, ap (before us) opens, r.2)),
      )

  module _ (ts : List Token) (t : Token) (mid : List Token) (p : Token) (us : List Token)
      (e : Stuck) (at : front (of_kind kind.In) ts ≡ Some (t, mid))
      (opens : front (of_kind kind.OpenParenthesis) mid ≡ Some (p, us)) where
    pub items_begun : (room : ℕ) → (room ≡ 0 → ⊥) → IsBegun literals us e
        → IsBegun (compared_if_due room (chain_at level.Sum scope room) left) ts e
    items_begun zero some h = absurd (some refl)
    items_begun (suc room) some h =
        let i = fronts_of (of_kind kind.In) ts t mid at in
        let o = fronts_of (of_kind kind.OpenParenthesis) mid p us opens in
        begun_by literals (compared_if_due (suc room) (chain_at level.Sum scope (suc room)) left)
        (i.token ∷ o.token ∷ []) us ts e (i.at ∙ ap (λ m. i.token ∷ m) o.at)
        (λ ys rest cut h. begins_listed room i.token t o.token p ys i.is o.is
        (begins_shut literals shut_list ys (λ v rest. (_, (close, rest, refl, (refl, refl)))) h)) h

    pub list_not_shut_begun : (room : ℕ) → (room ≡ 0 → ⊥) → (vs : List Part) → (rest : List Token)
        → (deep : Bool) → e ≡ At (length rest) deep → Reads literals us vs rest
        → IsBegun (compared_if_due room (chain_at level.Sum scope room) left) ts e
    list_not_shut_begun zero some vs rest deep is r = absurd (some refl)
    list_not_shut_begun (suc room) some vs rest deep is r =
        let i = fronts_of (of_kind kind.In) ts t mid at in
        let o = fronts_of (of_kind kind.OpenParenthesis) mid p us opens in
        let x = list_again literal (λ rest. refl) literal_again us vs rest r.read in
        begun_before (compared_if_due (suc room) (chain_at level.Sum scope (suc room)) left) ts
        (i.token ∷ o.token ∷ x.passed) rest deep e is
        (i.at ∙ ap (λ m. i.token ∷ m) (o.at ∙ ap (λ m. o.token ∷ m) x.cut))
        (begins_listed room i.token t o.token p x.passed i.is o.is
        (begins_unshut true literals shut_list us vs rest x
        (λ rest. (_, (close, rest, refl, (refl, refl))))))

-- Atoms.

module _ (scope : Scope) where
  pub literal_begun : (room : ℕ) (ts : List Token) (e : Stuck) → begins fronts.literal ts ≡ true
      → IsBegun literal ts e → IsBegun (atom scope room) ts e
  literal_begun room ts e is h =
      begun_as literal (atom scope room) ts e
      (λ ys rest cut. begins_chosen fronts.literal literal
      (choice (begins (of_kind kind.OpenParenthesis)) (grouped scope room)
      (choice begins_with_call (call scope room) (name scope))) ys rest
      (ap (begins fronts.literal) (sym cut) ∙ is)
      (begins_named (atom scope room) (atom_named scope room))) h

  pub no_atom_begun : (room : ℕ) (ts : List Token) (deep : Bool) (e : Stuck)
      → e ≡ At (length ts) deep → IsBegun (atom scope room) ts e
  no_atom_begun room ts deep e is =
      begun_here (atom scope room) ts deep e is
      (begins_named (atom scope room) (atom_named scope room))

  -- Groups.

  abbrev shut_group : Token → Part → Form Token Part
  shut_group opening inner =
      then (token kind.CloseParenthesis) (λ close. made (parts.group opening inner close))

  begins_group : (room : ℕ) (t v : Token) (ys : List Token) → of_kind kind.OpenParenthesis t ≡ Some v
      → BeginsOne (then (chain_at level.Or scope room) (shut_group v)) ys
      → BeginsOne (atom scope (suc room)) (t ∷ ys)
  begins_group room t v ys is h rest e =
      let r = h rest e in
      let us = ys ++ (r.0 ++ rest) in (
        r.0,
        r.1,
        inr (
          not_first fronts.literal t us
              (ap (λ k. with_token t (leaf_by k t.text)) (kind_is kind.OpenParenthesis t v is)),
          inl (
            at_first (of_kind kind.OpenParenthesis) t v us is,
            (v, us, ap (before us) is, r.2),
          ),
        ),
      )

  module _ (ts : List Token) (t : Token) (mid : List Token) (e : Stuck)
      (at : front (of_kind kind.OpenParenthesis) ts ≡ Some (t, mid)) where
    pub group_begun : (room : ℕ) → (room ≡ 0 → ⊥)
        → IsBegun (chain_at level.Or scope (room - 1)) mid e → IsBegun (atom scope room) ts e
    group_begun zero some h = absurd (some refl)
    group_begun (suc room) some h =
        let o = fronts_of (of_kind kind.OpenParenthesis) ts t mid at in
        let or = chain_at level.Or scope room in
        begun_by or (atom scope (suc room)) (o.token ∷ []) mid ts e o.at
        (λ ys rest cut h. begins_group room o.token t ys o.is
        (begins_shut or (shut_group t) ys (λ v rest. (_, (close, rest, refl, (refl, refl)))) h))
        (subst (λ i. IsBegun (chain_at level.Or scope i) mid e) (back room) h)

    pub group_not_shut_begun : (room : ℕ) → (room ≡ 0 → ⊥) → (v : Part) → (rest : List Token)
        → (deep : Bool) → e ≡ At (length rest) deep
        → Reads (chain_at level.Or scope (room - 1)) mid v rest → IsBegun (atom scope room) ts e
    group_not_shut_begun zero some v rest deep is r = absurd (some refl)
    group_not_shut_begun (suc room) some v rest deep is r =
        let o = fronts_of (of_kind kind.OpenParenthesis) ts t mid at in
        let or = chain_at level.Or scope room in
        let x = chain_repeats level.Or scope room mid v rest
        (subst (λ i. (chain_at level.Or scope i).reads mid v rest) (back room) r.read) in
        begun_before (atom scope (suc room)) ts (o.token ∷ x.passed) rest deep e is
        (o.at ∙ ap (λ m. o.token ∷ m) x.cut)
        (begins_group room o.token t x.passed o.is
        (begins_unshut true or (shut_group t) mid v rest x
        (λ rest. (_, (close, rest, refl, (refl, refl))))))

-- Calls.

pub begins_counted : (n : Token) → BeginsOne (counted n) []
begins_counted n =
    begins_with (counted n) [] (sample kind.Star ∷ close ∷ [])
    (λ rest e. (_, (sample kind.Star, close ∷ rest, refl, (close, rest, refl, (refl, refl)))))

pub no_close_begun : (n : Token) (ts : List Token) (star : Token) (mid : List Token) (deep : Bool)
    (e : Stuck) → e ≡ At (length mid) deep → front (of_kind kind.Star) ts ≡ Some (star, mid)
    → IsBegun (counted n) ts e
no_close_begun n ts star mid deep e is at =
    let o = fronts_of (of_kind kind.Star) ts star mid at in
    begun_before (counted n) ts (o.token ∷ []) mid deep e is o.at
    (begins_with (counted n) (o.token ∷ []) (close ∷ [])
    (λ rest e. (_, (star, close ∷ rest, ap (before (close ∷ rest)) o.is, (close, rest, refl, (refl, refl))))))

both_true : (a b : Bool) → a ≡ true → b ≡ true → (a && b) ≡ true
both_true true b e f = f
both_true false b e f = e

first_true : (a b : Bool) → (a && b) ≡ true → a ≡ true
first_true true b e = refl
first_true false b e = e

never : (b : Bool) → (b && false) ≡ false
never true = refl
never false = refl

module _ (scope : Scope) (or : Form Token Part) (n : Token) where
  abbrev shut_call : List Part → Form Token Part
  shut_call ps = then (token kind.CloseParenthesis) (λ close. made (called scope n ps close))

  begins_inside : Named (list_of or) → (ys more : List Token)
      → begins_with_count n (ys ++ more) ≡ false → BeginsOne (then (arguments_of or) shut_call) ys
      → BeginsOne (inside_call scope or n) ys
  begins_inside named [] more none h rest e =
      let r = named (close ∷ rest) refl in (
        word ∷ close ∷ [],
        _,
        inr (
          never (is_count n),
          (r.0, close ∷ rest, inr (refl, r.1), (close, rest, refl, (refl, refl))),
        ),
      )
  begins_inside named (y ∷ ys) more none h rest e =
      let r = h rest e in (
        r.0,
        r.1,
        inr (
          ap (λ b. is_count n && b)
              (same_first (of_kind kind.Star) y (ys ++ (r.0 ++ rest)) (ys ++ more)) ∙ none,
          r.2,
        ),
      )

  begins_rows : is_count n ≡ true → (ys : List Token) → BeginsOne (counted n) ys
      → BeginsOne (inside_call scope or n) ys
  begins_rows is ys h rest e =
      let r = h rest e in
      let us = ys ++ (r.0 ++ rest) in (
        r.0,
        r.1,
        inl (
          both_true (is_count n) (begins (of_kind kind.Star) us) is
              (present (of_kind kind.Star) us (r.2.0, r.2.1) r.2.2),
          r.2,
        ),
      )

begins_arguments : (or : Form Token Part) → Named (list_of or) → (ys more : List Token)
    → begins (of_kind kind.CloseParenthesis) (ys ++ more) ≡ false → BeginsOne (list_of or) ys
    → BeginsOne (arguments_of or) ys
begins_arguments or named ys more none h =
    begins_other (of_kind kind.CloseParenthesis) (made []) (list_of or) ys more none
    (begins_named (arguments_of or) (λ rest e. let r = named rest e in (r.0, inr (refl, r.1)))) h

module _ (scope : Scope) where
  list_named : (room : ℕ) → Named (list_of (chain_at level.Or scope room))
  list_named room rest e =
      let r = or_named scope room rest e in
      list_alone (chain_at level.Or scope room) (λ rest. refl) (word ∷ rest) r.0 rest e r.1

  pub arguments_begun : (room : ℕ) (ts : List Token) (e : Stuck)
      → begins (of_kind kind.CloseParenthesis) ts ≡ false
      → IsBegun (list_of (chain_at level.Or scope room)) ts e → IsBegun (arguments scope room) ts e
  arguments_begun room ts e none h =
      begun_as (list_of (chain_at level.Or scope room)) (arguments scope room) ts e
      (λ ys rest cut h. begins_arguments (chain_at level.Or scope room) (list_named room) ys rest
      (ap (begins (of_kind kind.CloseParenthesis)) (sym cut) ∙ none) h) h

  module _ (ts : List Token) (t : Token) (mid : List Token) (e : Stuck)
      (at : front (of_kind kind.Name) ts ≡ Some (t, mid)) where
    pub name_begun : (room : ℕ) (deep : Bool) → e ≡ At (length mid) deep
        → IsBegun (atom scope room) ts e
    name_begun room deep is =
        let o = fronts_of (of_kind kind.Name) ts t mid at in
        let here = kind_is kind.Name o.token t o.is in
        begun_before (atom scope room) ts (o.token ∷ []) mid deep e is o.at
        (begins_whole (atom scope room) (o.token ∷ [])
        (λ rest e. (
          _,
          inr (
            not_first fronts.literal o.token rest
                (ap (λ k. with_token o.token (leaf_by k o.token.text)) here),
            inr (
              not_first (of_kind kind.OpenParenthesis) o.token rest
                  (not_kind kind.OpenParenthesis o.token
                  (ap (λ k. same_kind k kind.OpenParenthesis) here)),
              inr (
                ap (λ p. and_behind (begins (of_kind kind.OpenParenthesis)) (before rest p)) o.is
                    ∙ name_at_end rest e,
                (t, rest, ap (before rest) o.is, (refl, refl)),
              ),
            ),
          ),
        )))

    module _ (p : Token) (us : List Token)
        (opens : front (of_kind kind.OpenParenthesis) mid ≡ Some (p, us)) where
      -- what stands inside the parenthesis of a call
      called_begun : {V : Type 0} (room : ℕ) (a : Form Token V)
          → ((ys rest : List Token) → us ≡ ys ++ rest → BeginsOne a ys
          → BeginsOne (inside_call scope (chain_at level.Or scope room) t) ys)
          → IsBegun a us e → IsBegun (atom scope (suc room)) ts e
      called_begun room a f h =
          let o = fronts_of (of_kind kind.Name) ts t mid at in
          let q = fronts_of (of_kind kind.OpenParenthesis) mid p us opens in
          let here = kind_is kind.Name o.token t o.is in
          begun_by a (atom scope (suc room)) (o.token ∷ q.token ∷ []) us ts e
          (o.at ∙ ap (λ m. o.token ∷ m) q.at)
          (λ ys rest cut h end is_end.
          let r = f ys rest cut h end is_end in
          let xs = ys ++ (r.0 ++ end) in (
            r.0,
            r.1,
            inr (
              not_first fronts.literal o.token (q.token ∷ xs)
                  (ap (λ k. with_token o.token (leaf_by k o.token.text)) here),
              inr (
                not_first (of_kind kind.OpenParenthesis) o.token (q.token ∷ xs)
                    (not_kind kind.OpenParenthesis o.token
                    (ap (λ k. same_kind k kind.OpenParenthesis) here)),
                inl (
                  ap (λ p. and_behind (begins (of_kind kind.OpenParenthesis))
                      (before (q.token ∷ xs) p)) o.is
                      ∙ at_first (of_kind kind.OpenParenthesis) q.token p xs q.is,
                  (
                    t,
                    q.token ∷ xs,
                    ap (before (q.token ∷ xs)) o.is,
                    (p, xs, ap (before xs) q.is, r.2),
                  ),
                ),
              ),
            ),
          )) h

      pub counted_begun : (room : ℕ) → (room ≡ 0 → ⊥) → begins_with_count t us ≡ true
          → IsBegun (counted t) us e → IsBegun (atom scope room) ts e
      counted_begun zero some is h = absurd (some refl)
      counted_begun (suc room) some is h =
          called_begun room (counted t)
          (λ ys rest cut. begins_rows scope (chain_at level.Or scope room) t
          (first_true (is_count t) (begins (of_kind kind.Star) us) is) ys) h

      pub call_begun : (room : ℕ) → (room ≡ 0 → ⊥) → begins_with_count t us ≡ false
          → IsBegun (arguments scope (room - 1)) us e → IsBegun (atom scope room) ts e
      call_begun zero some none h = absurd (some refl)
      call_begun (suc room) some none h =
          let or = chain_at level.Or scope room in
          called_begun room (arguments scope room)
          (λ ys rest cut h. begins_inside scope or t (list_named room) ys rest
          (ap (begins_with_count t) (sym cut) ∙ none)
          (begins_shut (arguments_of or) (shut_call scope or t) ys
          (λ v rest. (_, (close, rest, refl, (refl, refl)))) h))
          (subst (λ i. IsBegun (arguments scope i) us e) (back room) h)

      pub call_not_shut_begun : (room : ℕ) → (room ≡ 0 → ⊥) → begins_with_count t us ≡ false
          → (vs : List Part) → (rest : List Token) → (deep : Bool) → e ≡ At (length rest) deep
          → begins (of_kind kind.CloseParenthesis) rest ≡ false
          → Reads (arguments scope (room - 1)) us vs rest → IsBegun (atom scope room) ts e
      call_not_shut_begun zero some none vs rest deep is open_at r = absurd (some refl)
      call_not_shut_begun (suc room) some none vs rest deep is open_at r =
          let or = chain_at level.Or scope room in
          let whole = then (arguments_of or) (shut_call scope or t) in
          called_begun room whole
          (λ ys rest cut. begins_inside scope or t (list_named room) ys rest
          (ap (begins_with_count t) (sym cut) ∙ none))
          (shut (subst (λ i. (arguments scope i).reads us vs rest) (back room) r.read))
        where
          shut : (arguments scope room).reads us vs rest
              → IsBegun (then (arguments_of (chain_at level.Or scope room))
              (shut_call scope (chain_at level.Or scope room) t)) us e
          shut (inl q) =
              let same = ap (begins (of_kind kind.CloseParenthesis)) q.1.1 in
              absurd (cc (same, open_at, q.0))
          shut (inr q) =
              let or = chain_at level.Or scope room in
              let x = list_again or (λ rest. refl) (chain_repeats level.Or scope room) us vs rest q.1 in
              begun_before (then (arguments_of or) (shut_call scope or t)) us x.passed rest deep e is
              x.cut
              (λ end is_end. (
                close ∷ [],
                _,
                (
                  vs,
                  close ∷ end,
                  inr (
                    test_again (of_kind kind.CloseParenthesis) x.passed (close ∷ end) rest x.filled
                        ∙ ap (begins (of_kind kind.CloseParenthesis)) (sym x.cut) ∙ q.0,
                    x.again (close ∷ end) (inl refl),
                  ),
                  (close, end, refl, (refl, refl)),
                ),
              ))
