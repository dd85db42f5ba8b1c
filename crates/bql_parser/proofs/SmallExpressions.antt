-- Expressions of short tokens are small.
use Rattle.std.proofs.Common.{◌∷◌}
use Rattle.std.proofs.Common.{ℕ, zero, suc, ◌≤◌, Bool, true, false, List, []}
use Rattle.std.proofs.Common.{length, Option, Some, None, IfSome, arith, ap}
use Rattle.std.proofs.lemmas.List.{length-drop}
use Rattle.std.specs.List.{AllByRecursion, prefix_len}
use Rattle.theory.specs.Form.{Form, made}
use Rattle.bean_base.specs.CalendarDay as calendar
use Rattle.bean_base.specs.Day.{is_day_form, year_of, month_of, day_of}
use Rattle.bean_base.specs.declared.days.Day.{Day}
use Rattle.query_terms.specs.declared.decimal.Decimal.{Decimal}
use Rattle.bql_lexer.specs.declared.kind.Kind.{Kind}
use Rattle.bql_lexer.specs.declared.kind.Kind.TheVariants as kind
use Rattle.bql_lexer.specs.declared.token.Token.{Token}
use Rattle.bql_tree.specs.Call.{called, listed}
use Rattle.bql_tree.specs.Number as numbers
use Rattle.bql_tree.specs.Part as parts
use Rattle.bql_tree.specs.Part.{Part}
use Rattle.bql_tree.specs.declared.function.Scope.{Scope}
use Rattle.bql_tree.specs.declared.level.Level.{Level}
use Rattle.bql_tree.specs.declared.level.Level.TheVariants as level
use Rattle.bql_tree.specs.declared.tree.BinaryOperator.TheVariants as binary
use Rattle.bql_tree.specs.declared.tree.Leaf.{Leaf}
use Rattle.bql_grammar.specs.Front as fronts
use Rattle.bql_grammar.specs.Front.{begins, of_kind, begins_with_list, begins_with_call}
use Rattle.bql_grammar.specs.Expression.{told, token, nothing, chained, behind_comma}
use Rattle.bql_grammar.specs.Expression.{list_of, literal, literals, list_behind, with_room}
use Rattle.bql_grammar.specs.Expression.{sum_of, compared, matched, contained, compared_if_due}
use Rattle.bql_grammar.specs.Expression.{comparison_of, denied_of, signed_of, or_of, group_of}
use Rattle.bql_grammar.specs.Expression.{arguments_of, counted, begins_with_count, inside_call}
use Rattle.bql_grammar.specs.Expression.{call_of, name, atom_of, unary_of, negation_of, Inner}
use Rattle.bql_grammar.specs.Expression.{innermost, unary_around, around, inner, expression}
use Rattle.bql_parser.specs.Small.{IsShort, IsSmallLeaf, IsLiteralLeaf}
use Rattle.bql_parser.proofs.SmallTokens.{AreSmallTokens}
use Rattle.bql_parser.proofs.SmallForms.{Keeps, Takes, keeps_told, keeps_any}
use Rattle.bql_parser.proofs.SmallForms.{keeps_token, keeps_made, keeps_nothing, keeps_then}
use Rattle.bql_parser.proofs.SmallForms.{keeps_choice, keeps_ending, keeps_chain, keeps_list}
use Rattle.bql_parser.proofs.SmallForms.{takes_told, list_counted}
use Rattle.bql_parser.proofs.SmallParts.{IsLiteralPart}
use Rattle.bql_parser.proofs.SmallParts.{IsSmallPart, leaf_small, name_small, rows_small}
use Rattle.bql_parser.proofs.SmallParts.{around_small, denied_small, signed_small, matched_small}
use Rattle.bql_parser.proofs.SmallParts.{two_small, called_small, listed_small}

abbrev pub KeepsParts : Form Token Part → Type 0
KeepsParts a = Keeps IsSmallPart a

-- ---- literals

number_by_small : (bs : List ℕ) (o : Option Decimal) → IsShort bs
    → IsSmallLeaf (numbers.number_by bs o)
number_by_small bs (Some d) h = tt
number_by_small bs None h =
    let l = length-drop (prefix_len numbers.is_zero bs) bs in omega (arith, l, h)

day_some : (o : Option Day) → IfSome (fronts.day_leaf o) IsSmallLeaf
day_some (Some d) = tt
day_some None = tt

day_by_some : (is : Bool) (bs : List ℕ) → IfSome (fronts.day_by is bs) IsSmallLeaf
day_by_some true bs = day_some (calendar.day_of (year_of bs) (month_of bs) (day_of bs))
day_by_some false bs = tt

leaf_some : (k : Kind) (bs : List ℕ) → IsShort bs → IfSome (fronts.leaf_by k bs) IsSmallLeaf
leaf_some kind.Number bs h = number_by_small bs _ h
leaf_some kind.Text bs h = h
leaf_some kind.Day bs h = day_by_some (is_day_form bs) bs
leaf_some kind.True bs h = tt
leaf_some kind.False bs h = tt
leaf_some kind.Null bs h = tt
leaf_some k bs h = tt

number_literal : (bs : List ℕ) (o : Option Decimal) → IsLiteralLeaf (numbers.number_by bs o)
number_literal bs (Some d) = tt
number_literal bs None = tt

day_literal : (o : Option Day) → IfSome (fronts.day_leaf o) IsLiteralLeaf
day_literal (Some d) = tt
day_literal None = tt

day_by_literal : (is : Bool) (bs : List ℕ) → IfSome (fronts.day_by is bs) IsLiteralLeaf
day_by_literal true bs = day_literal (calendar.day_of (year_of bs) (month_of bs) (day_of bs))
day_by_literal false bs = tt

leaf_literal : (k : Kind) (bs : List ℕ) → IfSome (fronts.leaf_by k bs) IsLiteralLeaf
leaf_literal kind.Number bs = number_literal bs _
leaf_literal kind.Text bs = tt
leaf_literal kind.Day bs = day_by_literal (is_day_form bs) bs
leaf_literal kind.True bs = tt
leaf_literal kind.False bs = tt
leaf_literal kind.Null bs = tt
leaf_literal k bs = tt

abbrev IsSmallFound : Token × Leaf → Type 0
IsSmallFound p = IsSmallLeaf p.1 × IsLiteralLeaf p.1

literal_by : (t : Token) (o : Option Leaf) → IfSome o IsSmallLeaf → IfSome o IsLiteralLeaf
    → IfSome (fronts.with_token t o) IsSmallFound
literal_by t (Some l) h k = (h, k)
literal_by t None h k = tt

abbrev IsMember : Part → Type 0
IsMember p = IsSmallPart p × IsLiteralPart p

keeps_member : Keeps IsMember literal
keeps_member =
    keeps_then (told fronts.literal) (λ found. made (parts.leaf found.0 found.1))
    (keeps_told fronts.literal
    (λ t short. literal_by t (fronts.leaf_of t) (leaf_some t.kind t.text short)
    (leaf_literal t.kind t.text)))
    (λ found small. keeps_made (parts.leaf found.0 found.1)
    (leaf_small found.0 found.1 small.0, small.1))

keeps_literal : KeepsParts literal
keeps_literal = record {
  keeps = λ ts v rest all p. let m = keeps_member.keeps ts v rest all p in (m.0.0, m.1);
}

-- ---- lists of literals

takes_literal : Takes literal
takes_literal ts v rest p =
    let one = takes_told fronts.literal ts p.0 p.1 p.2 in
    let e = ap length p.3.1 in
    omega (arith, one, e)

takes_behind : Takes (behind_comma literal)
takes_behind ts v rest p =
    let one = takes_told (of_kind kind.Comma) ts p.0 p.1 p.2 in
    let more = takes_literal p.1 v rest p.3 in
    omega (arith, one, more)

abbrev AreFew : List Part → Type 0
AreFew ps =
    AllByRecursion IsSmallPart ps × (1 ≤ length ps) × (length ps ≤ 65535)
    × AllByRecursion IsLiteralPart ps

members_small : (ps : List Part) → AllByRecursion IsMember ps → AllByRecursion IsSmallPart ps
members_small [] h = tt
members_small (p ∷ ps) h = (h.0.0, members_small ps h.1)

members_literal : (ps : List Part) → AllByRecursion IsMember ps
    → AllByRecursion IsLiteralPart ps
members_literal [] h = tt
members_literal (p ∷ ps) h = (h.0.1, members_literal ps h.1)

literals_read : (ts : List Token) (ps : List Part) (rest : List Token) → AreSmallTokens ts
    → literals.reads ts ps rest → AreFew ps × AreSmallTokens rest
literals_read ts ps rest all p =
    let kept = (keeps_list literal keeps_member).keeps ts ps rest all p in
    let counted = list_counted literal takes_literal takes_behind ts ps rest p in
    let few = all.few in
    let members = kept.0.0 in (
      (
        members_small ps members,
        kept.0.1,
        omega (arith, counted, few),
        members_literal ps members,
      ),
      kept.1,
    )

keeps_literals : Keeps AreFew literals
keeps_literals = record { keeps = literals_read }

keeps_list_behind : (left : Part) → IsSmallPart left → KeepsParts (list_behind left)
keeps_list_behind left h =
    keeps_then (token kind.In) _ (keeps_token kind.In)
    (λ word s. keeps_then (token kind.OpenParenthesis) _ (keeps_token kind.OpenParenthesis)
    (λ opening s. keeps_then literals _ keeps_literals
    (λ items few. keeps_then (token kind.CloseParenthesis) _ (keeps_token kind.CloseParenthesis)
    (λ close s. keeps_made (listed left items close)
    (listed_small left items close h few.0 few.1 few.2 few.3)))))

keeps_with_room : (room : ℕ) (a : Form Token Part) → KeepsParts a → KeepsParts (with_room room a)
keeps_with_room zero a h = keeps_nothing
keeps_with_room (suc room) a h = h

-- ---- operators

keeps_chained : (l : Level) (a : Form Token Part) → KeepsParts a → KeepsParts (chained l a)
keeps_chained l a h =
    keeps_ending _
    (keeps_chain (begins (fronts.operator l)) (told (fronts.operator l)) a parts.two
    (keeps_any (fronts.operator l)) h (λ op left right x y. two_small op left right x y))

keeps_sum : (u : Form Token Part) → KeepsParts u → KeepsParts (sum_of u)
keeps_sum u h = keeps_chained level.Sum _ (keeps_chained level.Product u h)

keeps_or : (n : Form Token Part) → KeepsParts n → KeepsParts (or_of n)
keeps_or n h = keeps_chained level.Or _ (keeps_chained level.And n h)

keeps_compared : (s : Form Token Part) (left : Part) → KeepsParts s → IsSmallPart left
    → KeepsParts (compared s left)
keeps_compared s left h small =
    keeps_then (told fronts.comparison) _ (keeps_any fronts.comparison)
    (λ op any. keeps_then s _ h
    (λ right r. keeps_made (parts.two op left right) (two_small op left right small r)))

keeps_matched : (left : Part) → IsSmallPart left → KeepsParts (matched left)
keeps_matched left small =
    keeps_then (token kind.Tilde) _ (keeps_token kind.Tilde)
    (λ tilde s. keeps_then (token kind.Text) _ (keeps_token kind.Text)
    (λ text short. keeps_made (parts.matched left text) (matched_small left text short small)))

keeps_contained : (s : Form Token Part) (left : Part) → KeepsParts s → IsSmallPart left
    → KeepsParts (contained s left)
keeps_contained s left h small =
    keeps_then (token kind.In) _ (keeps_token kind.In)
    (λ word w. keeps_then s _ h
    (λ right r. keeps_made (parts.two binary.In left right)
    (two_small binary.In left right small r)))

keeps_due : (room : ℕ) (s : Form Token Part) (left : Part) → KeepsParts s → IsSmallPart left
    → KeepsParts (compared_if_due room s left)
keeps_due room s left h small =
    keeps_choice (begins fronts.comparison) _ _ (keeps_compared s left h small)
    (keeps_choice (begins (of_kind kind.Tilde)) _ _ (keeps_matched left small)
    (keeps_choice begins_with_list _ _
    (keeps_with_room room (list_behind left) (keeps_list_behind left small))
    (keeps_choice (begins (of_kind kind.In)) _ _ (keeps_contained s left h small)
    (keeps_made left small))))

keeps_comparison : (room : ℕ) (u : Form Token Part) → KeepsParts u
    → KeepsParts (comparison_of room u)
keeps_comparison room u h =
    keeps_then (sum_of u) (compared_if_due room (sum_of u)) (keeps_sum u h)
    (λ left small. keeps_due room (sum_of u) left (keeps_sum u h) small)

keeps_denied : (n : Form Token Part) → KeepsParts n → KeepsParts (denied_of n)
keeps_denied n h =
    keeps_then (token kind.Not) _ (keeps_token kind.Not)
    (λ word s. keeps_then n _ h
    (λ inner small. keeps_made (parts.denied word inner) (denied_small word inner small)))

keeps_signed : (u : Form Token Part) → KeepsParts u → KeepsParts (signed_of u)
keeps_signed u h =
    keeps_then (told fronts.sign) _ (keeps_any fronts.sign)
    (λ sign any. keeps_then u _ h
    (λ inner small. keeps_made (parts.signed sign.0 sign.1 inner)
    (signed_small sign.0 sign.1 inner small)))

-- ---- parentheses and calls

keeps_group : (or : Form Token Part) → KeepsParts or → KeepsParts (group_of or)
keeps_group or h =
    keeps_then (token kind.OpenParenthesis) _ (keeps_token kind.OpenParenthesis)
    (λ opening s. keeps_then or _ h
    (λ inner small. keeps_then (token kind.CloseParenthesis) _ (keeps_token kind.CloseParenthesis)
    (λ close s. keeps_made (parts.group opening inner close)
    (around_small opening.start close.end inner small))))

abbrev pub AreSmallParts : List Part → Type 0
AreSmallParts ps = AllByRecursion IsSmallPart ps

pub keeps_items : (or : Form Token Part) → KeepsParts or → Keeps AreSmallParts (list_of or)
keeps_items or h = record {
  keeps = λ ts ps rest all p.
      let kept = (keeps_list or h).keeps ts ps rest all p in (kept.0.0, kept.1);
}

keeps_arguments : (or : Form Token Part) → KeepsParts or → Keeps AreSmallParts (arguments_of or)
keeps_arguments or h =
    keeps_choice (begins (of_kind kind.CloseParenthesis)) (made []) (list_of or)
    (keeps_made [] tt) (keeps_items or h)

keeps_counted : (word : Token) → KeepsParts (counted word)
keeps_counted word =
    keeps_then (token kind.Star) _ (keeps_token kind.Star)
    (λ star s. keeps_then (token kind.CloseParenthesis) _ (keeps_token kind.CloseParenthesis)
    (λ close s. keeps_made (parts.rows word close) (rows_small word close)))

keeps_inside : (scope : Scope) (or : Form Token Part) (word : Token) → KeepsParts or
    → KeepsParts (inside_call scope or word)
keeps_inside scope or word h =
    keeps_choice (begins_with_count word) _ _ (keeps_counted word)
    (keeps_then (arguments_of or) _ (keeps_arguments or h)
    (λ ps all. keeps_then (token kind.CloseParenthesis) _ (keeps_token kind.CloseParenthesis)
    (λ close s. keeps_made (called scope word ps close) (called_small scope word ps close all))))

keeps_call : (scope : Scope) (or : Form Token Part) → KeepsParts or → KeepsParts (call_of scope or)
keeps_call scope or h =
    keeps_then (token kind.Name) _ (keeps_token kind.Name)
    (λ word s. keeps_then (token kind.OpenParenthesis) _ (keeps_token kind.OpenParenthesis)
    (λ opening s. keeps_inside scope or word h))

keeps_name : (scope : Scope) → KeepsParts (name scope)
keeps_name scope =
    keeps_then (token kind.Name) _ (keeps_token kind.Name)
    (λ word s. keeps_made (parts.name scope word) (name_small scope word))

keeps_atom : (scope : Scope) (group call : Form Token Part) → KeepsParts group → KeepsParts call
    → KeepsParts (atom_of scope group call)
keeps_atom scope group call h k =
    keeps_choice (begins fronts.literal) _ _ keeps_literal
    (keeps_choice (begins (of_kind kind.OpenParenthesis)) _ _ h
    (keeps_choice begins_with_call _ _ k (keeps_name scope)))

keeps_unary : (scope : Scope) (sign group call : Form Token Part) → KeepsParts sign
    → KeepsParts group → KeepsParts call → KeepsParts (unary_of scope sign group call)
keeps_unary scope sign group call s h k =
    keeps_choice (begins fronts.sign) _ _ s (keeps_atom scope group call h k)

keeps_negation : (not comparison : Form Token Part) → KeepsParts not → KeepsParts comparison
    → KeepsParts (negation_of not comparison)
keeps_negation not comparison h k = keeps_choice (begins (of_kind kind.Not)) _ _ h k

-- ---- levels of nesting

record KeepsInner (i : Inner) : Type 0 where
  unary : KeepsParts i.unary
  negation : KeepsParts i.negation

keeps_innermost : (scope : Scope) → KeepsInner (innermost scope)
keeps_innermost scope =
    let u : KeepsParts (unary_of scope nothing nothing nothing) =
    keeps_unary scope nothing nothing nothing keeps_nothing keeps_nothing keeps_nothing in
    record {
      unary = u;
      negation = keeps_negation nothing _ keeps_nothing (keeps_comparison 0 _ u);
    }

keeps_around : (scope : Scope) (room : ℕ) (i : Inner) → KeepsInner i
    → KeepsInner (around scope room i)
keeps_around scope room i h =
    let or : KeepsParts (or_of i.negation) = keeps_or i.negation h.negation in
    let u : KeepsParts (unary_around scope i) =
    keeps_unary scope (signed_of i.unary) (group_of (or_of i.negation))
    (call_of scope (or_of i.negation)) (keeps_signed i.unary h.unary)
    (keeps_group (or_of i.negation) or) (keeps_call scope (or_of i.negation) or) in
    record {
      unary = u;
      negation =
          keeps_negation (denied_of i.negation) _ (keeps_denied i.negation h.negation)
          (keeps_comparison room (unary_around scope i) u);
    }

keeps_inner : (scope : Scope) (room : ℕ) → KeepsInner (inner scope room)
unfolding inner
keeps_inner scope zero = keeps_innermost scope
keeps_inner scope (suc room) =
    keeps_around scope (suc room) (inner scope room) (keeps_inner scope room)

pub keeps_expression : (scope : Scope) → KeepsParts (expression scope)
keeps_expression scope = keeps_or (inner scope 200).negation (keeps_inner scope 200).negation
