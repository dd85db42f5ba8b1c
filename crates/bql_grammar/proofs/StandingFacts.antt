-- What tokens do to what is open, one behind the other.
use Rattle.std.proofs.Common.{rules, ◌≡◌, ℕ, ◌+◌, Bool, true, false, List, [], ◌∷◌, ◌++◌, length}
use Rattle.std.proofs.Common.{Option, Some, None, refl, sym, ap, ◌∙◌, subst, arith}
use Rattle.std.proofs.lemmas.List.{append_assoc}
use Rattle.std.specs.Prelude.{◌==◌, nat_le, if◌then◌else◌}
use Rattle.std.proofs.lemmas.Bool.Decides.{nat_tests}
use Rattle.limits.specs.declared.counts.TheConstants.{MOST_NESTED}
use denote.Enum.Bare.{same_true}
use Rattle.bql_lexer.specs.Kind.{same_kind}
use Rattle.bql_lexer.specs.contracts.kind.Kind as kind_type
use Rattle.bql_lexer.specs.declared.kind.Kind.{Kind}
use Rattle.bql_lexer.specs.declared.kind.Kind.TheVariants as kind
use Rattle.bql_lexer.specs.declared.token.Token.{Token}
use Rattle.bql_grammar.specs.Front as fronts
use Rattle.bql_grammar.specs.Front.{front, before, of_kind, with_token, leaf_by}
use Rattle.bql_grammar.specs.Nesting.{Open, Parenthesis, Sign, Denial, Last, Wants, Names, Ends}
use Rattle.bql_grammar.specs.Nesting.{Standing, behind, wanting, unsigned, enclosing, outside}
use Rattle.bql_grammar.specs.Nesting.{role, Joins, IsLiteral, after, step, through, others}
use Rattle.bql_grammar.specs.Nesting.{is_full, Stops, IsInside, bound}
use Rattle.bql_grammar.proofs.FormFacts.{same_some}
use Rattle.bql_grammar.specs.declared.stuck.Stuck.{Stuck}
use Rattle.bql_grammar.specs.declared.stuck.Stuck.TheVariants.{At}
use Rattle.bql_tree.specs.Level as level_rules
use Rattle.bql_tree.specs.declared.level.Level.{Level}
use Rattle.bql_tree.specs.declared.level.Level.TheVariants as level
use Rattle.bql_tree.specs.declared.tree.BinaryOperator.{BinaryOperator}
use Rattle.bql_tree.specs.declared.tree.Leaf.{Leaf}

-- What is open.

pub signs_once : (os : List Open) → unsigned (unsigned os) ≡ unsigned os
signs_once [] = refl
signs_once (Sign ∷ os) = signs_once os
signs_once (Parenthesis ∷ os) = refl
signs_once (Denial ∷ os) = refl

pub both_once : (os : List Open) → enclosing (enclosing os) ≡ enclosing os
both_once [] = refl
both_once (Sign ∷ os) = both_once os
both_once (Parenthesis ∷ os) = refl
both_once (Denial ∷ os) = both_once os

pub signs_first : (os : List Open) → enclosing (unsigned os) ≡ enclosing os
signs_first [] = refl
signs_first (Sign ∷ os) = signs_first os
signs_first (Parenthesis ∷ os) = refl
signs_first (Denial ∷ os) = refl

no_signs : (os : List Open) → unsigned (enclosing os) ≡ enclosing os
no_signs [] = refl
no_signs (Sign ∷ os) = no_signs os
no_signs (Parenthesis ∷ os) = refl
no_signs (Denial ∷ os) = no_signs os

pub no_signs_either : (os : List Open) → enclosing os ≡ os → unsigned os ≡ os
no_signs_either os e = ap unsigned (sym e) ∙ no_signs os ∙ e

pub closing : (os inner : List Open) → enclosing os ≡ Parenthesis ∷ inner → outside os ≡ inner
closing [] inner e = absurd cc
closing (Sign ∷ os) inner e = closing os inner e
closing (Parenthesis ∷ os) inner e = cc
closing (Denial ∷ os) inner e = closing os inner e

-- From one standing to another.

-- the tokens before what is left lead there
pub record Leads (p : Standing) (ts : List Token) (q : Standing) (rest : List Token) : Type 0 where
  pub passed : List Token
  pub cut : ts ≡ passed ++ rest
  pub there : q ≡ through p passed

through_both : (p : Standing) (ts us : List Token) → through p (ts ++ us)
    ≡ through (through p ts) us
through_both p [] us = refl
through_both p (t ∷ ts) us = through_both (step p t) ts us

pub leads_here : (p : Standing) (ts : List Token) → Leads p ts p ts
leads_here p ts = record { passed = []; cut = refl; there = refl }

pub leads_on : (p : Standing) (ts : List Token) (q : Standing) (mid : List Token) (r : Standing)
    (rest : List Token) → Leads p ts q mid → Leads q mid r rest → Leads p ts r rest
leads_on p ts q mid r rest a b = record {
  passed = a.passed ++ b.passed;
  cut = a.cut ∙ ap (λ m. a.passed ++ m) b.cut ∙ sym (append_assoc a.passed b.passed rest);
  there = b.there ∙ ap (λ s. through s b.passed) a.there
      ∙ sym (through_both p a.passed b.passed);
}

pub leads_by : (p : Standing) (ts : List Token) (t : Token) (mid : List Token) (q : Standing)
    → ts ≡ t ∷ mid → step p t ≡ q → Leads p ts q mid
leads_by p ts t mid q at is = record { passed = t ∷ []; cut = at; there = sym is }

-- Fronts.

before_is : {V : Type 0} (us : List Token) (o : Option V) (v : V) (rest : List Token)
    → before us o ≡ Some (v, rest) → (o ≡ Some v) × (us ≡ rest)
before_is us (Some w) v rest e =
    let g = same_some (w, us) (v, rest) (Some (w, us)) refl e in
    (ap (λ p. Some p.0) g, ap (λ p. p.1) g)
before_is us None v rest e = absurd cc

-- a token that stands for something, and what it does
pub record Fronts {V : Type 0} (f : Token → Option V) (ts : List Token) (v : V)
    (rest : List Token) : Type 0 where
  pub token : Token
  pub at : ts ≡ token ∷ rest
  pub is : f token ≡ Some v

pub fronts_of : {V : Type 0} (f : Token → Option V) (ts : List Token) (v : V) (rest : List Token)
    → front f ts ≡ Some (v, rest) → Fronts f ts v rest
fronts_of f [] v rest e = absurd cc
fronts_of f (t ∷ ts) v rest e =
    let o = before_is ts (f t) v rest e in
    record { token = t; at = ap (λ us. t ∷ us) o.1; is = o.0 }

if_is : (k : Kind) (t v : Token) (b : Bool) → (if b then Some t else None) ≡ Some v → b ≡ true
if_is k t v true e = refl
if_is k t v false e = absurd cc

pub kind_is : (k : Kind) (t v : Token) → of_kind k t ≡ Some v → t.kind ≡ k
kind_is k t v e = same_true kind_type.the_type (search rules) t.kind k
    (if_is k t v (same_kind t.kind k) e)

pub not_kind : (k : Kind) (t : Token) → same_kind t.kind k ≡ false → of_kind k t ≡ None
not_kind k t e = ap (λ b. if b then Some t else None) e

pub leads_kind : (k : Kind) (p : Standing) (ts : List Token) (v : Token) (rest : List Token)
    → front (of_kind k) ts ≡ Some (v, rest) → Leads p ts (after (role k) p.within p.last) rest
leads_kind k p ts v rest e =
    let o = fronts_of (of_kind k) ts v rest e in
    leads_by p ts o.token rest (after (role k) p.within p.last) o.at
    (ap (λ k. after (role k) p.within p.last) (kind_is k o.token v o.is))

-- an operand is at its end
abbrev pub IsWhole : Last → Type 0
IsWhole Wants = ⊥
IsWhole Names = Unit {0}
IsWhole Ends = Unit {0}

operator_does : (l : Level) (k : Kind) (op : BinaryOperator) (os : List Open) (last : Last)
    → level_rules.operator_of l k ≡ Some op → IsWhole last
    → after (role k) os last ≡ wanting (bound l os)
operator_does level.Or kind.Or op os last e w = refl
operator_does level.And kind.And op os last e w = refl
operator_does level.Sum kind.Plus op os Wants e w = absurd w
operator_does level.Sum kind.Plus op os Names e w = refl
operator_does level.Sum kind.Plus op os Ends e w = refl
operator_does level.Sum kind.Minus op os Wants e w = absurd w
operator_does level.Sum kind.Minus op os Names e w = refl
operator_does level.Sum kind.Minus op os Ends e w = refl
operator_does level.Product kind.Star op os last e w = refl
operator_does l k op os last e w = absurd cc

pub leads_operator : (l : Level) (p : Standing) (ts : List Token) (op : BinaryOperator) (rest : List Token)
    → front (fronts.operator l) ts ≡ Some (op, rest) → IsWhole p.last
    → Leads p ts (wanting (bound l p.within)) rest
leads_operator l p ts op rest e w =
    let o = fronts_of (fronts.operator l) ts op rest e in
    leads_by p ts o.token rest (wanting (bound l p.within)) o.at
    (operator_does l o.token.kind op p.within p.last o.is w)

comparison_does : (k : Kind) (op : BinaryOperator) → level_rules.comparison_of k ≡ Some op → role k ≡ Joins
comparison_does kind.Equal op e = refl
comparison_does kind.NotEqual op e = refl
comparison_does kind.Less op e = refl
comparison_does kind.LessOrEqual op e = refl
comparison_does kind.Greater op e = refl
comparison_does kind.GreaterOrEqual op e = refl
comparison_does k op e = absurd cc

pub leads_comparison : (p : Standing) (ts : List Token) (op : BinaryOperator) (rest : List Token)
    → front fronts.comparison ts ≡ Some (op, rest) → Leads p ts (wanting (unsigned p.within)) rest
leads_comparison p ts op rest e =
    let o = fronts_of fronts.comparison ts op rest e in
    leads_by p ts o.token rest (wanting (unsigned p.within)) o.at
    (ap (λ r. after r p.within p.last) (comparison_does o.token.kind op o.is))

pub with_is : {V : Type 0} (t : Token) (o : Option V) (v : Token × V) → with_token t o ≡ Some v
    → o ≡ Some v.1
with_is t (Some w) v e = let e : Some (t, w) ≡ Some v = e in cc
with_is t None v e = absurd cc

sign_does : (k : Kind) (minus : Bool) (os : List Open) → level_rules.sign_of k ≡ Some minus
    → after (role k) os Wants ≡ wanting (Sign ∷ os)
sign_does kind.Minus minus os e = refl
sign_does kind.Plus minus os e = refl
sign_does k minus os e = absurd cc

pub leads_sign : (os : List Open) (ts : List Token) (v : Token × Bool) (rest : List Token)
    → front fronts.sign ts ≡ Some (v, rest) → Leads (wanting os) ts (wanting (Sign ∷ os)) rest
leads_sign os ts v rest e =
    let o = fronts_of fronts.sign ts v rest e in
    leads_by (wanting os) ts o.token rest (wanting (Sign ∷ os)) o.at
    (sign_does o.token.kind v.1 os (with_is o.token (level_rules.sign_of o.token.kind) v o.is))

pub literal_does : (k : Kind) (bs : List ℕ) (l : Leaf) → leaf_by k bs ≡ Some l → role k ≡ IsLiteral
literal_does kind.Number bs l e = refl
literal_does kind.Text bs l e = refl
literal_does kind.Day bs l e = refl
literal_does kind.True bs l e = refl
literal_does kind.False bs l e = refl
literal_does kind.Null bs l e = refl
literal_does k bs l e = absurd cc

pub leads_literal : (p : Standing) (ts : List Token) (v : Token × Leaf) (rest : List Token)
    → front fronts.literal ts ≡ Some (v, rest) → Leads p ts (behind p.within Ends) rest
leads_literal p ts v rest e =
    let o = fronts_of fronts.literal ts v rest e in
    leads_by p ts o.token rest (behind p.within Ends) o.at
    (ap (λ r. after r p.within p.last) (literal_does o.token.kind o.token.text v.1
    (with_is o.token (leaf_by o.token.kind o.token.text) v o.is)))

-- Where a reader stops.

pub stops_on : (p : Standing) (ts : List Token) (q : Standing) (us : List Token) (left : ℕ)
    (deep : Bool) → Leads p ts q us → Stops q us left deep → Stops p ts left deep
stops_on p ts q us left deep a s = record {
  passed = a.passed ++ s.passed;
  rest = s.rest;
  cut = a.cut ∙ ap (λ m. a.passed ++ m) s.cut ∙ sym (append_assoc a.passed s.passed s.rest);
  are_left = s.are_left;
  full = s.full ∙ ap (λ r. is_full (through r s.passed) s.rest) a.there
      ∙ ap (λ r. is_full r s.rest) (sym (through_both p a.passed s.passed));
}

full_is : (n room : ℕ) → n + room ≡ 200 → (room == 0) ≡ nat_le 200 n
full_is n room e = grind (arith, nat_tests, e)

pub stops_here : (p : Standing) (ts : List Token) (room : ℕ) → others p ts + room ≡ MOST_NESTED
    → Stops p ts (length ts) (room == 0)
stops_here p ts room e = record {
  passed = [];
  rest = ts;
  cut = refl;
  are_left = refl;
  full = full_is (others p ts) room e;
}

pub stuck_here : (ends : List Open → List Open) (room : ℕ) (ts : List Token) (e : Stuck)
    → e ≡ At (length ts) (room == 0) → IsInside ends room ts e
stuck_here ends room ts e is =
    subst (IsInside ends room ts) (sym is) (λ os bare enough. stops_here (wanting os) ts room enough)
