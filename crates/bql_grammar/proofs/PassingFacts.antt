-- What is read of an expression leaves open what was open before it.
use Rattle.std.proofs.Common.{◌≡◌, ℕ, zero, suc, Bool, false, List, [], ◌∷◌}
use Rattle.std.proofs.Common.{Some, refl, sym, ap, ◌∙◌, subst, inl, inr}
use Rattle.theory.specs.Form.{Form, made, row, ItemsRead, ◌<+>◌, pair, alone, snoc}
use Rattle.bql_lexer.specs.declared.kind.Kind.TheVariants as kind
use Rattle.bql_lexer.specs.declared.token.Token.{Token}
use Rattle.bql_grammar.specs.Expression.{told, choice, nothing, chained, behind_comma}
use Rattle.bql_grammar.specs.Expression.{list_of, literal, literals, list_behind, list}
use Rattle.bql_grammar.specs.Expression.{sum_of, compared, matched, contained, compared_if_due}
use Rattle.bql_grammar.specs.Expression.{comparison_of, denied_of, signed_of, or_of, group_of}
use Rattle.bql_grammar.specs.Expression.{arguments_of, counted, inside_call, call_of, name, atom_of}
use Rattle.bql_grammar.specs.Expression.{unary_of, negation_of, inner, unary, negation, operand}
use Rattle.bql_grammar.specs.Expression.{chain_at}
use Rattle.bql_grammar.specs.Front as fronts
use Rattle.bql_grammar.specs.Front.{front, begins, of_kind, begins_with_call, and_behind}
use Rattle.bql_grammar.specs.Front.{begins_with_list}
use Rattle.bql_grammar.specs.Nesting.{Open, Parenthesis, Sign, Denial, Last, Wants, Names, Ends}
use Rattle.bql_grammar.specs.Nesting.{Standing, behind, wanting, unsigned, enclosing, outside}
use Rattle.bql_grammar.specs.Nesting.{bound}
use Rattle.bql_tree.specs.Part.{Part}
use Rattle.bql_tree.specs.declared.function.Scope.{Scope}
use Rattle.bql_tree.specs.declared.level.Level.{Level}
use Rattle.bql_tree.specs.declared.level.Level.TheVariants as level
use Rattle.bql_grammar.proofs.ExpressionFacts.{links, joined, rows}
use Rattle.bql_grammar.proofs.StandingFacts.{Leads, leads_here, leads_on, leads_kind, leads_operator}
use Rattle.bql_grammar.proofs.StandingFacts.{leads_comparison, leads_sign, leads_literal, IsWhole}
use Rattle.bql_grammar.proofs.StandingFacts.{signs_once, both_once, signs_first, closing}

-- a name has no parenthesis behind it
abbrev pub HasEnded : Last → List Token → Type 0
HasEnded Wants rest = ⊥
HasEnded Names rest = begins (of_kind kind.OpenParenthesis) rest ≡ false
HasEnded Ends rest = Unit {0}

pub is_whole : (last : Last) (rest : List Token) → HasEnded last rest → IsWhole last
is_whole Wants rest h = h
is_whole Names rest h = tt
is_whole Ends rest h = tt

-- an operand ends there that began in these, but for what ends with it
pub record Behind (ends : List Open → List Open) (os : List Open) (p : Standing) (rest : List Token)
    : Type 0 where
  pub same : ends p.within ≡ ends os
  pub whole : HasEnded p.last rest

-- so many tokens are passed
pub record Passing (ends : List Open → List Open) (os : List Open) (p : Standing) (ts : List Token)
    (rest : List Token) : Type 0 where
  pub to : Standing
  pub leads : Leads p ts to rest
  pub behind : Behind ends os to rest

abbrev pub Passes : {V : Type 0} → (List Open → List Open) → Form Token V → Type 0
Passes {V} ends a =
    (ts : List Token) (v : V) (rest : List Token) → a.reads ts v rest
    → (os : List Open) → Passing ends os (wanting os) ts rest

-- the same of what stands behind an operand
abbrev pub Continues : {V : Type 0} → (List Open → List Open) → (List Open → List Open)
    → Form Token V → Type 0
Continues {V} ends more a =
    (ts : List Token) (v : V) (rest : List Token) → a.reads ts v rest
    → (os : List Open) (p : Standing) → Behind ends os p ts → Passing more os p ts rest

passing_on : (ends : List Open → List Open) (os : List Open) (p : Standing) (ts : List Token)
    (q : Standing) (mid rest : List Token)
    → Leads p ts q mid → Passing ends os q mid rest → Passing ends os p ts rest
passing_on ends os p ts q mid rest a b = record {
  to = b.to;
  leads = leads_on p ts q mid b.to rest a b.leads;
  behind = b.behind;
}

-- what ends with an operand ends once
abbrev pub IsOnce : (List Open → List Open) → Type 0
IsOnce ends = (os : List Open) → ends (ends os) ≡ ends os

-- another operand begins in what doesn't end with the first
passing_again : (ends : List Open → List Open) → IsOnce ends → (os : List Open) (p : Standing)
    (ts mid rest : List Token) → ends p.within ≡ ends os → Leads p ts (wanting (ends p.within)) mid
    → Passing ends (ends p.within) (wanting (ends p.within)) mid rest → Passing ends os p ts rest
passing_again ends once os p ts mid rest same a b = record {
  to = b.to;
  leads = leads_on p ts (wanting (ends p.within)) mid b.to rest a b.leads;
  behind = record {
    same = b.behind.same ∙ once p.within ∙ same;
    whole = b.behind.whole;
  };
}

-- Rows.

items_pass : {V : Type 0} (ends : List Open → List Open) (b : Form Token V)
    → Continues ends ends b → (vs : List V) (ts rest : List Token) → ItemsRead b ts vs rest
    → (os : List Open) (p : Standing) → Behind ends os p ts → Passing ends os p ts rest
items_pass ends b continues [] ts rest e os p at =
    subst (λ us. Passing ends os p ts us) e
    record { to = p; leads = leads_here p ts; behind = at }
items_pass ends b continues (v ∷ vs) ts rest r os p at =
    let first = continues ts v r.0 r.1 os p at in
    passing_on ends os p ts first.to r.0 rest first.leads
    (items_pass ends b continues vs r.0 rest r.2 os first.to first.behind)

pub row_passes : {U V S : Type 0} (ends : List Open → List Open) (begins : List Token → Bool)
    (a : Form Token U) (start : U → S) (b : Form Token V) (next : S → V → S)
    → Passes ends a → Continues ends ends b → Passes ends (row begins a start b next)
row_passes ends begins a start b next passes continues ts s rest r os =
    let first = passes ts r.0 r.2 r.3 os in
    passing_on ends os (wanting os) ts first.to r.2 rest first.leads
    (items_pass ends b continues r.1 r.2 rest r.4 os first.to first.behind)

pub bound_once : (l : Level) → IsOnce (bound l)
bound_once level.Or = both_once
bound_once level.And = both_once
bound_once level.Sum = signs_once
bound_once level.Product = signs_once

link_continues : (l : Level) (a : Form Token Part) → Passes (bound l) a
    → Continues (bound l) (bound l) (made pair <+> told (fronts.operator l) <+> a)
link_continues l a passes ts v rest r os p at =
    let here = subst (λ us. front (fronts.operator l) us ≡ Some (r.3.1, r.2)) (sym r.3.3.1) r.3.4 in
    passing_again (bound l) (bound_once l) os p ts r.2 rest at.same
    (leads_operator l p ts r.3.1 r.2 here (is_whole p.last ts at.whole))
    (passes r.2 r.1 rest r.4 (bound l p.within))

pub links_pass : (l : Level) (a : Form Token Part) → Passes (bound l) a
    → Passes (bound l) (links l a)
links_pass l a passes =
    row_passes (bound l) (begins (fronts.operator l)) a (λ v. v)
    (made pair <+> told (fronts.operator l) <+> a) joined passes (link_continues l a passes)

pub chain_passes : (l : Level) (a : Form Token Part) → Passes (bound l) a
    → Passes (bound l) (chained l a)
chain_passes l a passes ts v rest r os = links_pass l a passes ts v rest r.0 os

comma_continues : {V : Type 0} (a : Form Token V) → Passes enclosing a
    → Continues enclosing enclosing (behind_comma a)
comma_continues a passes ts v rest r os p at =
    passing_again enclosing both_once os p ts r.1 rest at.same
    (leads_kind kind.Comma p ts r.0 r.1 r.2) (passes r.1 v rest r.3 (enclosing p.within))

pub rows_pass : {V : Type 0} (a : Form Token V) → Passes enclosing a → Passes enclosing (rows a)
rows_pass a passes =
    row_passes enclosing (begins (of_kind kind.Comma)) a alone (behind_comma a) snoc passes
    (comma_continues a passes)

pub list_passes : {V : Type 0} (a : Form Token V) → Passes enclosing a
    → Passes enclosing (list_of a)
list_passes a passes ts v rest r os = rows_pass a passes ts v rest r.0 os

-- Atoms.

-- an operand of one token, before nothing else of it
alone_passes : (ends : List Open → List Open) (os : List Open) (ts mid rest : List Token)
    (last : Last) → mid ≡ rest → HasEnded last mid → Leads (wanting os) ts (behind os last) mid
    → Passing ends os (wanting os) ts rest
alone_passes ends os ts mid rest last same ended a =
    subst (λ us. Passing ends os (wanting os) ts us) same
    record { to = behind os last; leads = a; behind = record { same = refl; whole = ended } }

pub literal_passes : (ends : List Open → List Open) → Passes ends literal
literal_passes ends ts v rest r os =
    alone_passes ends os ts r.1 rest Ends r.3.1 tt (leads_literal (wanting os) ts r.0 r.1 r.2)

pub no_call_begins : (ts : List Token) (t : Token) (mid : List Token)
    → front (of_kind kind.Name) ts ≡ Some (t, mid) → begins_with_call ts ≡ false
    → begins (of_kind kind.OpenParenthesis) mid ≡ false
no_call_begins ts t mid at none =
    sym (ap (and_behind (begins (of_kind kind.OpenParenthesis))) at) ∙ none

name_passes : (ends : List Open → List Open) (scope : Scope) (ts : List Token) (v : Part)
    (rest : List Token) → (name scope).reads ts v rest → begins_with_call ts ≡ false
    → (os : List Open) → Passing ends os (wanting os) ts rest
name_passes ends scope ts v rest r none os =
    alone_passes ends os ts r.1 rest Names r.3.1 (no_call_begins ts r.0 r.1 r.2 none)
    (leads_kind kind.Name (wanting os) ts r.0 r.1 r.2)

-- a parenthesis closes, and what was open before it is open again
shut_passes : (ends : List Open → List Open) (os : List Open) (p : Standing) (ts : List Token)
    (t : Token) (mid rest : List Token) → enclosing p.within ≡ Parenthesis ∷ os
    → front (of_kind kind.CloseParenthesis) ts ≡ Some (t, mid) → mid ≡ rest
    → Passing ends os p ts rest
shut_passes ends os p ts t mid rest same at e =
    subst (λ us. Passing ends os p ts us) e
    record {
      to = behind (outside p.within) Ends;
      leads = leads_kind kind.CloseParenthesis p ts t mid at;
      behind = record { same = ap ends (closing p.within os same); whole = tt };
    }

pub group_passes : (ends : List Open → List Open) (or : Form Token Part) → Passes enclosing or
    → Passes ends (group_of or)
group_passes ends or passes ts v rest r os =
    let inside = passes r.1 r.3.0 r.3.1 r.3.2 (Parenthesis ∷ os) in
    passing_on ends os (wanting os) ts (wanting (Parenthesis ∷ os)) r.1 rest
    (leads_kind kind.OpenParenthesis (wanting os) ts r.0 r.1 r.2)
    (passing_on ends os (wanting (Parenthesis ∷ os)) r.1 inside.to r.3.1 rest inside.leads
    (shut_passes ends os inside.to r.3.1 r.3.3.0 r.3.3.1 rest inside.behind.same r.3.3.2
    r.3.3.3.1))

-- Calls.

counted_passes : (ends : List Open → List Open) (t : Token) (ts : List Token) (v : Part)
    (rest : List Token) → (counted t).reads ts v rest → (os : List Open)
    → Passing ends os (wanting (Parenthesis ∷ os)) ts rest
counted_passes ends t ts v rest r os =
    passing_on ends os (wanting (Parenthesis ∷ os)) ts (wanting (Parenthesis ∷ os)) r.1 rest
    (leads_kind kind.Star (wanting (Parenthesis ∷ os)) ts r.0 r.1 r.2)
    (shut_passes ends os (wanting (Parenthesis ∷ os)) r.1 r.3.0 r.3.1 rest refl r.3.2 r.3.3.1)

-- what is open behind arguments, and there may be none
pub record Argued (os : List Open) (p : Standing) (ts rest : List Token) : Type 0 where
  pub to : Standing
  pub leads : Leads p ts to rest
  pub same : enclosing to.within ≡ enclosing os

pub arguments_pass : (or : Form Token Part) → Passes enclosing or → (ts : List Token)
    (vs : List Part) (rest : List Token) → (arguments_of or).reads ts vs rest → (os : List Open)
    → Argued os (wanting os) ts rest
arguments_pass or passes ts vs rest (inl r) os =
    subst (λ us. Argued os (wanting os) ts us) r.1.1
    record { to = wanting os; leads = leads_here (wanting os) ts; same = refl }
arguments_pass or passes ts vs rest (inr r) os =
    let p = list_passes or passes ts vs rest r.1 os in
    record { to = p.to; leads = p.leads; same = p.behind.same }

inside_passes : (ends : List Open → List Open) (scope : Scope) (or : Form Token Part)
    → Passes enclosing or → (t : Token) (ts : List Token) (v : Part) (rest : List Token)
    → (inside_call scope or t).reads ts v rest → (os : List Open)
    → Passing ends os (wanting (Parenthesis ∷ os)) ts rest
inside_passes ends scope or passes t ts v rest (inl r) os =
    counted_passes ends t ts v rest r.1 os
inside_passes ends scope or passes t ts v rest (inr r) os =
    let q = r.1 in
    let p = arguments_pass or passes ts q.0 q.1 q.2 (Parenthesis ∷ os) in
    passing_on ends os (wanting (Parenthesis ∷ os)) ts p.to q.1 rest p.leads
    (shut_passes ends os p.to q.1 q.3.0 q.3.1 rest p.same q.3.2 q.3.3.1)

pub call_passes : (ends : List Open → List Open) (scope : Scope) (or : Form Token Part)
    → Passes enclosing or → Passes ends (call_of scope or)
call_passes ends scope or passes ts v rest r os =
    passing_on ends os (wanting os) ts (behind os Names) r.1 rest
    (leads_kind kind.Name (wanting os) ts r.0 r.1 r.2)
    (passing_on ends os (behind os Names) r.1 (wanting (Parenthesis ∷ os)) r.3.1 rest
    (leads_kind kind.OpenParenthesis (behind os Names) r.1 r.3.0 r.3.1 r.3.2)
    (inside_passes ends scope or passes r.0 r.3.1 v rest r.3.3 os))

-- Signs and NOTs.

pub signed_passes : (a : Form Token Part) → Passes unsigned a → Passes unsigned (signed_of a)
signed_passes a passes ts v rest r os =
    let p = passes r.1 r.3.0 r.3.1 r.3.2 (Sign ∷ os) in
    subst (λ us. Passing unsigned os (wanting os) ts us) r.3.3.1
    record {
      to = p.to;
      leads = leads_on (wanting os) ts (wanting (Sign ∷ os)) r.1 p.to r.3.1
          (leads_sign os ts r.0 r.1 r.2) p.leads;
      behind = record { same = p.behind.same; whole = p.behind.whole };
    }

pub denied_passes : (a : Form Token Part) → Passes enclosing a → Passes enclosing (denied_of a)
denied_passes a passes ts v rest r os =
    let p = passes r.1 r.3.0 r.3.1 r.3.2 (Denial ∷ os) in
    subst (λ us. Passing enclosing os (wanting os) ts us) r.3.3.1
    record {
      to = p.to;
      leads = leads_on (wanting os) ts (wanting (Denial ∷ os)) r.1 p.to r.3.1
          (leads_kind kind.Not (wanting os) ts r.0 r.1 r.2) p.leads;
      behind = record { same = p.behind.same; whole = p.behind.whole };
    }

pub nothing_passes : {V : Type 0} (ends : List Open → List Open) → Passes ends (nothing {V = V})
nothing_passes ends ts v rest r os = absurd r

atom_passes : (ends : List Open → List Open) (scope : Scope) (group call : Form Token Part)
    → Passes ends group → Passes ends call → Passes ends (atom_of scope group call)
atom_passes ends scope group call g c ts v rest (inl r) os = literal_passes ends ts v rest r.1 os
atom_passes ends scope group call g c ts v rest (inr r) os = behind_literal r.1
  where
    behind_call : (choice begins_with_call call (name scope)).reads ts v rest
        → Passing ends os (wanting os) ts rest
    behind_call (inl r) = c ts v rest r.1 os
    behind_call (inr r) = name_passes ends scope ts v rest r.1 r.0 os

    behind_literal : (choice (begins (of_kind kind.OpenParenthesis)) group
        (choice begins_with_call call (name scope))).reads ts v rest
        → Passing ends os (wanting os) ts rest
    behind_literal (inl r) = g ts v rest r.1 os
    behind_literal (inr r) = behind_call r.1

unary_passes : (scope : Scope) (sign group call : Form Token Part)
    → Passes unsigned sign → Passes unsigned group → Passes unsigned call
    → Passes unsigned (unary_of scope sign group call)
unary_passes scope sign group call s g c ts v rest (inl r) os = s ts v rest r.1 os
unary_passes scope sign group call s g c ts v rest (inr r) os =
    atom_passes unsigned scope group call g c ts v rest r.1 os

negation_passes : (denied compared : Form Token Part) → Passes enclosing denied
    → Passes enclosing compared → Passes enclosing (negation_of denied compared)
negation_passes denied compared d c ts v rest (inl r) os = d ts v rest r.1 os
negation_passes denied compared d c ts v rest (inr r) os = c ts v rest r.1 os

-- Comparisons.

-- what ends with an operand of a sum ends with one of a comparison too
weaker : (os us : List Open) → unsigned os ≡ unsigned us → enclosing os ≡ enclosing us
weaker os us e = sym (signs_first os) ∙ ap enclosing e ∙ signs_first us

pub weaken : (os : List Open) (p : Standing) (ts rest : List Token) → Passing unsigned os p ts rest
    → Passing enclosing os p ts rest
weaken os p ts rest a = record {
  to = a.to;
  leads = a.leads;
  behind = record { same = weaker a.to.within os a.behind.same; whole = a.behind.whole };
}

pub sum_passes : (u : Form Token Part) → Passes unsigned u → Passes unsigned (sum_of u)
sum_passes u passes = chain_passes level.Sum (chained level.Product u)
    (chain_passes level.Product u passes)

compared_continues : (s : Form Token Part) → Passes unsigned s → (left : Part)
    → Continues unsigned unsigned (compared s left)
compared_continues s passes left ts v rest r os p at =
    subst (λ us. Passing unsigned os p ts us) r.3.3.1
    (passing_again unsigned signs_once os p ts r.1 r.3.1 at.same
    (leads_comparison p ts r.0 r.1 r.2) (passes r.1 r.3.0 r.3.1 r.3.2 (unsigned p.within)))

matched_continues : (left : Part) → Continues unsigned unsigned (matched left)
matched_continues left ts v rest r os p at =
    subst (λ us. Passing unsigned os p ts us) r.3.3.1
    record {
      to = behind (unsigned p.within) Ends;
      leads = leads_on p ts (wanting (unsigned p.within)) r.1 (behind (unsigned p.within) Ends)
          r.3.1 (leads_kind kind.Tilde p ts r.0 r.1 r.2)
          (leads_kind kind.Text (wanting (unsigned p.within)) r.1 r.3.0 r.3.1 r.3.2);
      behind = record { same = signs_once p.within ∙ at.same; whole = tt };
    }

contained_continues : (s : Form Token Part) → Passes unsigned s → (left : Part)
    → Continues unsigned unsigned (contained s left)
contained_continues s passes left ts v rest r os p at =
    subst (λ us. Passing unsigned os p ts us) r.3.3.1
    (passing_again unsigned signs_once os p ts r.1 r.3.1 at.same
    (leads_kind kind.In p ts r.0 r.1 r.2) (passes r.1 r.3.0 r.3.1 r.3.2 (unsigned p.within)))

pub literals_pass : Passes enclosing literals
literals_pass = list_passes literal (literal_passes enclosing)

list_behind_continues : (left : Part) → Continues unsigned unsigned (list_behind left)
list_behind_continues left ts v rest r os p at =
    let within = unsigned p.within in
    let q = r.3 in
    let items = q.3 in
    let inside = literals_pass q.1 items.0 items.1 items.2 (Parenthesis ∷ within) in
    let all = passing_on unsigned within p ts (wanting within) r.1 rest
    (leads_kind kind.In p ts r.0 r.1 r.2)
    (passing_on unsigned within (wanting within) r.1 (wanting (Parenthesis ∷ within)) q.1 rest
    (leads_kind kind.OpenParenthesis (wanting within) r.1 q.0 q.1 q.2)
    (passing_on unsigned within (wanting (Parenthesis ∷ within)) q.1 inside.to items.1 rest
    inside.leads
    (shut_passes unsigned within inside.to items.1 items.3.0 items.3.1 rest inside.behind.same
    items.3.2 items.3.3.1))) in
    record {
      to = all.to;
      leads = all.leads;
      behind = record {
        same = all.behind.same ∙ signs_once p.within ∙ at.same;
        whole = all.behind.whole;
      };
    }

list_continues : (room : ℕ) (left : Part) → Continues unsigned unsigned (list room left)
list_continues zero left ts v rest r os p at = absurd r
list_continues (suc room) left ts v rest r os p at = list_behind_continues left ts v rest r os p at

made_continues : {V : Type 0} (v : V) → Continues unsigned unsigned (made v)
made_continues v ts w rest r os p at =
    subst (λ us. Passing unsigned os p ts us) r.1
    record { to = p; leads = leads_here p ts; behind = at }

either_continues : {V : Type 0} (test : List Token → Bool) (a b : Form Token V)
    → Continues unsigned unsigned a → Continues unsigned unsigned b
    → Continues unsigned unsigned (choice test a b)
either_continues test a b f g ts v rest (inl r) os p at = f ts v rest r.1 os p at
either_continues test a b f g ts v rest (inr r) os p at = g ts v rest r.1 os p at

compared_passes : (room : ℕ) (s : Form Token Part) → Passes unsigned s → (left : Part)
    → Continues unsigned unsigned (compared_if_due room s left)
compared_passes room s passes left =
    either_continues (begins fronts.comparison) (compared s left)
    (choice (begins (of_kind kind.Tilde)) (matched left) (choice begins_with_list (list room left)
    (choice (begins (of_kind kind.In)) (contained s left) (made left))))
    (compared_continues s passes left)
    (either_continues (begins (of_kind kind.Tilde)) (matched left)
    (choice begins_with_list (list room left)
    (choice (begins (of_kind kind.In)) (contained s left) (made left)))
    (matched_continues left)
    (either_continues begins_with_list (list room left)
    (choice (begins (of_kind kind.In)) (contained s left) (made left)) (list_continues room left)
    (either_continues (begins (of_kind kind.In)) (contained s left) (made left)
    (contained_continues s passes left) (made_continues left))))

pub comparison_passes : (room : ℕ) (u : Form Token Part) → Passes unsigned u
    → Passes enclosing (comparison_of room u)
comparison_passes room u passes ts v rest r os =
    let left = sum_passes u passes ts r.0 r.1 r.2 os in
    weaken os (wanting os) ts rest
    (passing_on unsigned os (wanting os) ts left.to r.1 rest left.leads
    (compared_passes room (sum_of u) (sum_passes u passes) r.0 r.1 v rest r.3 os left.to
    left.behind))

-- Levels of nesting.

pub or_passes : (n : Form Token Part) → Passes enclosing n → Passes enclosing (or_of n)
or_passes n passes = chain_passes level.Or (chained level.And n) (chain_passes level.And n passes)

record Both (scope : Scope) (room : ℕ) : Type 0 where
  unary : Passes unsigned (unary scope room)
  negation : Passes enclosing (negation scope room)

both_pass : (scope : Scope) (room : ℕ) → Both scope room
unfolding inner
both_pass scope zero =
    let u = unary_passes scope nothing nothing nothing (nothing_passes unsigned)
    (nothing_passes unsigned) (nothing_passes unsigned) in
    record {
      unary = u;
      negation = negation_passes nothing (comparison_of 0 (unary_of scope nothing nothing nothing))
          (nothing_passes enclosing)
          (comparison_passes 0 (unary_of scope nothing nothing nothing) u);
    }
both_pass scope (suc room) =
    let below = both_pass scope room in
    let or = or_of (negation scope room) in
    let or_pass = or_passes (negation scope room) below.negation in
    let u = unary_passes scope (signed_of (unary scope room)) (group_of or) (call_of scope or)
    (signed_passes (unary scope room) below.unary) (group_passes unsigned or or_pass)
    (call_passes unsigned scope or or_pass) in
    let here = unary_of scope (signed_of (unary scope room)) (group_of or) (call_of scope or) in
    record {
      unary = u;
      negation = negation_passes (denied_of (negation scope room)) (comparison_of (suc room) here)
          (denied_passes (negation scope room) below.negation)
          (comparison_passes (suc room) here u);
    }

pub any_unary : (scope : Scope) (room : ℕ) → Passes unsigned (unary scope room)
any_unary scope room = (both_pass scope room).unary

pub any_negation : (scope : Scope) (room : ℕ) → Passes enclosing (negation scope room)
any_negation scope room = (both_pass scope room).negation

pub any_operand : (l : Level) (scope : Scope) (room : ℕ) → Passes (bound l) (operand l scope room)
any_operand level.Or scope room =
    chain_passes level.And (negation scope room) (any_negation scope room)
any_operand level.And scope room = any_negation scope room
any_operand level.Sum scope room =
    chain_passes level.Product (unary scope room) (any_unary scope room)
any_operand level.Product scope room = any_unary scope room

pub any_chain : (l : Level) (scope : Scope) (room : ℕ) → Passes (bound l) (chain_at l scope room)
any_chain l scope room = chain_passes l (operand l scope room) (any_operand l scope room)
