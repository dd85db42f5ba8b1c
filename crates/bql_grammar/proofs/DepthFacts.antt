-- Where readers of expressions stop.
use Rattle.std.proofs.Common.{◌≡◌, ℕ, suc, ◌+◌, ◌-◌, Bool, true, false, List, [], ◌∷◌}
use Rattle.std.proofs.Common.{Option, Some, None, is_some, refl, sym, ap, ◌∙◌, subst, inl, inr, length, arith}
use Rattle.std.specs.Prelude.{◌==◌, Result, Ok, Err, IfErr}
use Rattle.limits.specs.declared.counts.TheConstants.{MOST_NESTED}
use Rattle.theory.specs.Form.{Form, Reads, snoc}
use Rattle.theory.proofs.RowFacts.{InRow}
use Rattle.bql_lexer.specs.declared.kind.Kind.TheVariants as kind
use Rattle.bql_lexer.specs.declared.token.Token.{Token}
use Rattle.bql_grammar.specs.Expression.{operand, chain_at, behind_comma, or_of}
use Rattle.bql_grammar.specs.Expression.{arguments_of, arguments, negation, literals}
use Rattle.bql_grammar.specs.Front as fronts
use Rattle.bql_grammar.specs.Front.{front, begins, of_kind, and_behind, begins_with_list}
use Rattle.bql_grammar.specs.Front.{begins_with_call, literal, ends_literal}
use Rattle.bql_grammar.specs.Nesting.{Open, Parenthesis, Sign, Denial, Last, Wants, Names, Ends}
use Rattle.bql_grammar.specs.Nesting.{Standing, behind, wanting, unsigned, enclosing, still_open}
use Rattle.bql_grammar.specs.Nesting.{bound, all, others, Stops, IsInside, IsInsideList}
use Rattle.bql_grammar.specs.declared.stuck.Stuck.{Stuck}
use Rattle.bql_grammar.specs.declared.stuck.Stuck.TheVariants.{OutOfMemory, At}
use Rattle.bql_tree.specs.Part.{Part}
use Rattle.bql_tree.specs.declared.function.Scope.{Scope}
use Rattle.bql_tree.specs.declared.level.Level.{Level}
use Rattle.bql_tree.specs.declared.level.Level.TheVariants as level
use Rattle.bql_tree.specs.declared.tree.BinaryOperator.{BinaryOperator}
use Rattle.bql_grammar.proofs.ExpressionFacts.{links, another, joined, rows}
use Rattle.bql_grammar.proofs.FormFacts.{present, absent}
use Rattle.bql_grammar.proofs.StandingFacts.{Leads, leads_on, leads_kind, leads_operator}
use Rattle.bql_grammar.proofs.StandingFacts.{leads_comparison, leads_sign, stops_on}
use Rattle.bql_grammar.proofs.StandingFacts.{stops_here, both_once, signs_once, no_signs_either}
use Rattle.bql_grammar.proofs.PassingFacts.{Passes, Passing, Behind, HasEnded, is_whole, bound_once}
use Rattle.bql_grammar.proofs.PassingFacts.{links_pass, rows_pass, any_operand, any_chain}
use Rattle.bql_grammar.proofs.PassingFacts.{any_negation, or_passes, list_passes, literals_pass}

-- From one reader to another.

-- a reader begins there in what has as much room as is told
pub record Begins (ends : List Open → List Open) (room : ℕ) (p : Standing) (ts us : List Token)
    : Type 0 where
  pub within : List Open
  pub leads : Leads p ts (wanting within) us
  pub bare : ends within ≡ within
  pub enough : length within + room ≡ MOST_NESTED

stops_within : (ends : List Open → List Open) (room : ℕ) (p : Standing) (ts us : List Token)
    (left : ℕ) (deep : Bool) → Begins ends room p ts us → IsInside ends room us (At left deep)
    → Stops p ts left deep
stops_within ends room p ts us left deep b h =
    stops_on p ts (wanting b.within) us left deep b.leads (h b.within b.bare b.enough)

-- what a reader tells that is called there
pub inside_of : (ends more : List Open → List Open) (room n : ℕ) (ts us : List Token) (e : Stuck)
    → ((os : List Open) → ends os ≡ os → length os + room ≡ MOST_NESTED → Begins more n (wanting os) ts us)
    → IsInside more n us e → IsInside ends room ts e
inside_of ends more room n ts us OutOfMemory begins h = tt
inside_of ends more room n ts us (At left deep) begins h =
    λ os bare enough. stops_within more n (wanting os) ts us left deep (begins os bare enough) h

pub inside_looser : (ends more : List Open → List Open) (room : ℕ) (ts : List Token) (e : Stuck)
    → ((os : List Open) → ends os ≡ os → more os ≡ os) → IsInside more room ts e
    → IsInside ends room ts e
inside_looser ends more room ts OutOfMemory f h = tt
inside_looser ends more room ts (At left deep) f h = λ os bare enough. h os (f os bare) enough

-- a reader stops before the first of some tokens
pub record Faces (room : ℕ) (p : Standing) (ts us : List Token) : Type 0 where
  pub to : Standing
  pub leads : Leads p ts to us
  pub enough : others to us + room ≡ MOST_NESTED

pub stops_facing : (room : ℕ) (p : Standing) (ts us : List Token) → Faces room p ts us
    → Stops p ts (length us) (room == 0)
stops_facing room p ts us f =
    stops_on p ts f.to us (length us) (room == 0) f.leads (stops_here f.to us room f.enough)

pub inside_before : (ends : List Open → List Open) (room n : ℕ) (ts us : List Token) (e : Stuck)
    → e ≡ At (length us) (n == 0)
    → ((os : List Open) → ends os ≡ os → length os + room ≡ MOST_NESTED → Faces n (wanting os) ts us)
    → IsInside ends room ts e
inside_before ends room n ts us e is faces =
    subst (IsInside ends room ts) (sym is)
    (λ os bare enough. stops_facing n (wanting os) ts us (faces os bare enough))

-- Behind what was read.

pub ended_others : (last : Last) (os : List Open) (ts : List Token) → HasEnded last ts
    → still_open last (begins (of_kind kind.OpenParenthesis) ts) os ≡ enclosing os
ended_others Wants os ts h = absurd h
ended_others Names os ts h = ap (λ b. still_open Names b os) h
ended_others Ends os ts h = refl

-- behind a whole operand one stands in what it doesn't end
faces_behind : (n : ℕ) (os : List Open) (p q : Standing) (ts us : List Token) → Leads p ts q us
    → Behind enclosing os q us → length (enclosing os) + n ≡ MOST_NESTED → Faces n p ts us
faces_behind n os p q ts us leads at enough = record {
  to = q;
  leads = leads;
  enough = ap (λ l. length l + n) (ended_others q.last q.within us at.whole ∙ at.same) ∙ enough;
}

-- Chains.

pub in_chain : (l : Level) (scope : Scope) (room : ℕ) (ts : List Token) (v : Part)
    (rest mid : List Token) (op : BinaryOperator) (e : Stuck)
    → InRow (links l (operand l scope room)) (another l (operand l scope room)) joined ts v rest
    → front (fronts.operator l) rest ≡ Some (op, mid)
    → IsInside (bound l) room mid e → IsInside (bound l) room ts e
in_chain l scope room ts v rest mid op e row at h =
    inside_of (bound l) (bound l) room room ts mid e
    (λ os bare enough.
    let p = links_pass l (operand l scope room) (any_operand l scope room) ts v rest
    (row.goes [] rest refl) os in
    record {
      within = bound l p.to.within;
      leads = leads_on (wanting os) ts p.to rest (wanting (bound l p.to.within)) mid p.leads
          (leads_operator l p.to rest op mid at (is_whole p.to.last rest p.behind.whole));
      bare = bound_once l p.to.within;
      enough = ap (λ w. length w + room) (p.behind.same ∙ bare) ∙ enough;
    }) h

pub in_list : {V : Type 0} (a : Form Token V) (room : ℕ) (ts : List Token) (vs : List V)
    (rest mid : List Token) (comma : Token) (e : Stuck)
    → Passes enclosing a → InRow (rows a) (behind_comma a) snoc ts vs rest
    → front (of_kind kind.Comma) rest ≡ Some (comma, mid)
    → IsInside enclosing room mid e → IsInside enclosing room ts e
in_list a room ts vs rest mid comma e passes row at h =
    inside_of enclosing enclosing room room ts mid e
    (λ os bare enough.
    let p = rows_pass a passes ts vs rest (row.goes [] rest refl) os in
    record {
      within = enclosing p.to.within;
      leads = leads_on (wanting os) ts p.to rest (wanting (enclosing p.to.within)) mid p.leads
          (leads_kind kind.Comma p.to rest comma mid at);
      bare = both_once p.to.within;
      enough = ap (λ w. length w + room) (p.behind.same ∙ bare) ∙ enough;
    }) h

-- Signs, NOTs and parentheses.

one_less : (n room : ℕ) → n + room ≡ 200 → (room ≡ 0 → ⊥) → suc n + (room - 1) ≡ 200
one_less n room e some = omega (arith, e, some)

pub in_not : (room : ℕ) (ts : List Token) (t : Token) (mid : List Token) (e : Stuck)
    → (room ≡ 0 → ⊥) → front (of_kind kind.Not) ts ≡ Some (t, mid)
    → IsInside unsigned (room - 1) mid e → IsInside unsigned room ts e
in_not room ts t mid e some at h =
    inside_of unsigned unsigned room (room - 1) ts mid e
    (λ os bare enough. record {
      within = Denial ∷ os;
      leads = leads_kind kind.Not (wanting os) ts t mid at;
      bare = refl;
      enough = one_less (length os) room enough some;
    }) h

pub in_sign : (room : ℕ) (ts : List Token) (v : Token × Bool) (mid : List Token) (e : Stuck)
    → (room ≡ 0 → ⊥) → front fronts.sign ts ≡ Some (v, mid)
    → IsInside all (room - 1) mid e → IsInside all room ts e
in_sign room ts v mid e some at h =
    inside_of all all room (room - 1) ts mid e
    (λ os bare enough. record {
      within = Sign ∷ os;
      leads = leads_sign os ts v mid at;
      bare = refl;
      enough = one_less (length os) room enough some;
    }) h

pub in_group : (room : ℕ) (ts : List Token) (t : Token) (mid : List Token) (e : Stuck)
    → (room ≡ 0 → ⊥) → front (of_kind kind.OpenParenthesis) ts ≡ Some (t, mid)
    → IsInside enclosing (room - 1) mid e → IsInside all room ts e
in_group room ts t mid e some at h =
    inside_of all enclosing room (room - 1) ts mid e
    (λ os bare enough. record {
      within = Parenthesis ∷ os;
      leads = leads_kind kind.OpenParenthesis (wanting os) ts t mid at;
      bare = refl;
      enough = one_less (length os) room enough some;
    }) h

pub group_not_shut : (scope : Scope) (room : ℕ) (ts : List Token) (t : Token) (mid : List Token)
    (v : Part) (rest : List Token) (e : Stuck)
    → e ≡ At (length rest) (room - 1 == 0) → (room ≡ 0 → ⊥)
    → front (of_kind kind.OpenParenthesis) ts ≡ Some (t, mid)
    → Reads (chain_at level.Or scope (room - 1)) mid v rest → IsInside all room ts e
group_not_shut scope room ts t mid v rest e is some at r =
    inside_before all room (room - 1) ts rest e is
    (λ os bare enough.
    let p = any_chain level.Or scope (room - 1) mid v rest r.read (Parenthesis ∷ os) in
    faces_behind (room - 1) (Parenthesis ∷ os) (wanting os) p.to ts rest
    (leads_on (wanting os) ts (wanting (Parenthesis ∷ os)) mid p.to rest
    (leads_kind kind.OpenParenthesis (wanting os) ts t mid at) p.leads) p.behind
    (one_less (length os) room enough some))

-- Fronts that a test tells of.

is_first : {V : Type 0} (test : List Token → Bool) (o : Option (V × List Token))
    → and_behind test o ≡ true → is_some o ≡ true
is_first test (Some p) e = refl
is_first test None e = absurd cc

list_front : (ts : List Token) → begins_with_list ts ≡ true → begins (of_kind kind.In) ts ≡ true
list_front ts is =
    is_first (λ ts. and_behind (λ ts. and_behind ends_literal (front literal ts))
    (front (of_kind kind.OpenParenthesis) ts)) (front (of_kind kind.In) ts) is

some_arguments : (or : Form Token Part) → Passes enclosing or → (ts : List Token) (vs : List Part)
    (rest : List Token) → begins (of_kind kind.CloseParenthesis) rest ≡ false
    → (arguments_of or).reads ts vs rest → (os : List Open)
    → Passing enclosing os (wanting os) ts rest
some_arguments or passes ts vs rest open_at (inl r) os =
    absurd (let same = ap (begins (of_kind kind.CloseParenthesis)) r.1.1 in cc (same, open_at, r.0))
some_arguments or passes ts vs rest open_at (inr r) os =
    list_passes or passes ts vs rest r.1 os

-- Comparisons.

module _ (scope : Scope) (room : ℕ) (ts : List Token) (v : Part) (mid : List Token)
    (r : Reads (chain_at level.Sum scope room) ts v mid) where
  -- behind a sum, and what joins another operand to it
  begins_joined : (us : List Token)
      → ((p : Standing) → Leads p mid (wanting (unsigned p.within)) us)
      → (os : List Open) → unsigned os ≡ os → length os + room ≡ MOST_NESTED
      → Begins unsigned room (wanting os) ts us
  begins_joined us joins os bare enough =
      let p = any_chain level.Sum scope room ts v mid r.read os in
      record {
        within = unsigned p.to.within;
        leads = leads_on (wanting os) ts p.to mid (wanting (unsigned p.to.within)) us p.leads
            (joins p.to);
        bare = signs_once p.to.within;
        enough = ap (λ w. length w + room) (p.behind.same ∙ bare) ∙ enough;
      }

  pub in_compared : (op : BinaryOperator) (us : List Token) (e : Stuck)
      → front fronts.comparison mid ≡ Some (op, us) → IsInside unsigned room us e
      → IsInside unsigned room ts e
  in_compared op us e at h =
      inside_of unsigned unsigned room room ts us e
      (begins_joined us (λ p. leads_comparison p mid op us at)) h

  pub in_contained : (t : Token) (us : List Token) (e : Stuck)
      → front (of_kind kind.In) mid ≡ Some (t, us) → IsInside unsigned room us e
      → IsInside unsigned room ts e
  in_contained t us e at h =
      inside_of unsigned unsigned room room ts us e
      (begins_joined us (λ p. leads_kind kind.In p mid t us at)) h

  pub no_pattern : (t : Token) (us : List Token) (e : Stuck) → e ≡ At (length us) (room == 0)
      → front (of_kind kind.Tilde) mid ≡ Some (t, us) → IsInside unsigned room ts e
  no_pattern t us e is at =
      inside_before unsigned room room ts us e is
      (λ os bare enough.
      let b = begins_joined us (λ p. leads_kind kind.Tilde p mid t us at) os bare enough in
      record { to = wanting b.within; leads = b.leads; enough = b.enough })

  pub in_listed : (e : Stuck) → begins_with_list mid ≡ true → IsInsideList room mid e
      → IsInside unsigned room ts e
  in_listed OutOfMemory is h = tt
  in_listed (At left deep) is h = λ os bare enough.
      let p = any_chain level.Sum scope room ts v mid r.read os in
      stops_on (wanting os) ts p.to mid left deep p.leads
      (h p.to (list_front mid is)
      (ap (λ w. length w + room) (p.behind.same ∙ bare) ∙ enough))

-- Lists.

module _ (room : ℕ) (ts : List Token) where
  pub no_in : (e : Stuck) → e ≡ At (length ts) (room == 0) → front (of_kind kind.In) ts ≡ None
      → IsInsideList room ts e
  no_in e is none =
      subst (IsInsideList room ts) (sym is)
      (λ p at enough. absurd (let no = absent (of_kind kind.In) ts none in cc (no, at)))

  module _ (t : Token) (mid : List Token) (at : front (of_kind kind.In) ts ≡ Some (t, mid)) where
    pub no_list_opens : (e : Stuck) → e ≡ At (length mid) (room == 0) → IsInsideList room ts e
    no_list_opens e is =
        subst (IsInsideList room ts) (sym is)
        (λ p begins enough. stops_facing room p ts mid
        record {
          to = wanting (unsigned p.within);
          leads = leads_kind kind.In p ts t mid at;
          enough = enough;
        })

    module _ (some : room ≡ 0 → ⊥) (opening : Token) (us : List Token)
        (opens : front (of_kind kind.OpenParenthesis) mid ≡ Some (opening, us)) where
      leads_in : (p : Standing) → Leads p ts (wanting (Parenthesis ∷ unsigned p.within)) us
      leads_in p = leads_on p ts (wanting (unsigned p.within)) mid
          (wanting (Parenthesis ∷ unsigned p.within)) us (leads_kind kind.In p ts t mid at)
          (leads_kind kind.OpenParenthesis (wanting (unsigned p.within)) mid opening us opens)

      pub in_items : (e : Stuck) → IsInside enclosing (room - 1) us e → IsInsideList room ts e
      in_items OutOfMemory h = tt
      in_items (At left deep) h = λ p begins enough.
          stops_within enclosing (room - 1) p ts us left deep
          record {
            within = Parenthesis ∷ unsigned p.within;
            leads = leads_in p;
            bare = refl;
            enough = one_less (length (unsigned p.within)) room enough some;
          } h

      pub list_not_shut : (vs : List Part) (rest : List Token) (e : Stuck)
          → e ≡ At (length rest) (room - 1 == 0) → Reads literals us vs rest
          → IsInsideList room ts e
      list_not_shut vs rest e is r =
          subst (IsInsideList room ts) (sym is)
          (λ p begins enough.
          let os = Parenthesis ∷ unsigned p.within in
          let q = literals_pass us vs rest r.read os in
          stops_facing (room - 1) p ts rest
          (faces_behind (room - 1) os p q.to ts rest
          (leads_on p ts (wanting os) us q.to rest (leads_in p) q.leads) q.behind
          (one_less (length (unsigned p.within)) room enough some)))

-- Calls.

pub no_close : (room : ℕ) (ts : List Token) (star : Token) (mid : List Token) (e : Stuck)
    → e ≡ At (length mid) (room == 0) → front (of_kind kind.Star) ts ≡ Some (star, mid)
    → IsInside enclosing room ts e
no_close room ts star mid e is at =
    inside_before enclosing room room ts mid e is
    (λ os bare enough. record {
      to = wanting (unsigned os);
      leads = leads_kind kind.Star (wanting os) ts star mid at;
      enough = ap (λ w. length w + room) (no_signs_either os bare) ∙ enough;
    })

no_call : (ts : List Token) → front (of_kind kind.Name) ts ≡ None → begins_with_call ts ≡ true → ⊥
no_call ts none is =
    let no = ap (and_behind (begins (of_kind kind.OpenParenthesis))) none in cc (no, is)

pub call_unnamed : (room : ℕ) (ts : List Token) (e : Stuck) → front (of_kind kind.Name) ts ≡ None
    → begins_with_call ts ≡ true → IsInside all room ts e
call_unnamed room ts e none is = absurd (no_call ts none is)

module _ (room : ℕ) (ts : List Token) (t : Token) (mid : List Token)
    (at : front (of_kind kind.Name) ts ≡ Some (t, mid)) where
  pub call_unopened : (e : Stuck) → front (of_kind kind.OpenParenthesis) mid ≡ None
      → begins_with_call ts ≡ true → IsInside all room ts e
  call_unopened e none is =
      let opens = ap (and_behind (begins (of_kind kind.OpenParenthesis))) at in
      let no = absent (of_kind kind.OpenParenthesis) mid none in
      absurd (cc (opens, no, is))

  module _ (opening : Token) (us : List Token)
      (opens : front (of_kind kind.OpenParenthesis) mid ≡ Some (opening, us)) where
    pub call_too_deep : (e : Stuck) → e ≡ At (length mid) (room == 0) → IsInside all room ts e
    call_too_deep e is =
        inside_before all room room ts mid e is
        (λ os bare enough. record {
          to = behind os Names;
          leads = leads_kind kind.Name (wanting os) ts t mid at;
          enough = ap (λ b. length (still_open Names b os) + room)
              (present (of_kind kind.OpenParenthesis) mid (opening, us) opens) ∙ enough;
        })

    module _ (some : room ≡ 0 → ⊥) where
      leads_in_call : (os : List Open) → Leads (wanting os) ts (wanting (Parenthesis ∷ os)) us
      leads_in_call os = leads_on (wanting os) ts (behind os Names) mid
          (wanting (Parenthesis ∷ os)) us (leads_kind kind.Name (wanting os) ts t mid at)
          (leads_kind kind.OpenParenthesis (behind os Names) mid opening us opens)

      pub in_call : (e : Stuck) → IsInside enclosing (room - 1) us e → IsInside all room ts e
      in_call e h =
          inside_of all enclosing room (room - 1) ts us e
          (λ os bare enough. record {
            within = Parenthesis ∷ os;
            leads = leads_in_call os;
            bare = refl;
            enough = one_less (length os) room enough some;
          }) h

      pub call_not_shut : (scope : Scope) (vs : List Part) (rest : List Token) (e : Stuck)
          → e ≡ At (length rest) (room - 1 == 0) → front (of_kind kind.CloseParenthesis) rest ≡ None
          → Reads (arguments scope (room - 1)) us vs rest → IsInside all room ts e
      call_not_shut scope vs rest e is open_at r =
          inside_before all room (room - 1) ts rest e is
          (λ os bare enough.
          let within = Parenthesis ∷ os in
          let q = some_arguments (or_of (negation scope (room - 1)))
          (or_passes (negation scope (room - 1)) (any_negation scope (room - 1))) us vs rest
          (absent (of_kind kind.CloseParenthesis) rest open_at) r.read within in
          faces_behind (room - 1) within (wanting os) q.to ts rest
          (leads_on (wanting os) ts (wanting within) us q.to rest (leads_in_call os) q.leads)
          q.behind (one_less (length os) room enough some))

-- What another reader gives is given.
pub same_if_err : {A : Type 0} (P Q : Stuck → Type 0) (r : Result A Stuck)
    → ((e : Stuck) → P e → Q e) → IfErr r (λ e. P e) → IfErr r (λ e. Q e)
same_if_err P Q (Ok a) f h = tt
same_if_err P Q (Err e) f h = f e h
