-- How the arguments of calls are read, and what a test of the front tells.
use Rattle.std.proofs.Common.{◌≡◌, ℕ, false, List, [], Option, Some, None}
use Rattle.std.proofs.Common.{is_some, MatchOption}
use Rattle.std.proofs.Common.{Bor, refl, sym, ap}
use Rattle.theory.specs.Form.{Form, Reads, HasNone, made, snoc}
use Rattle.theory.proofs.RowFacts.{InRow}
use Rattle.bql_lexer.specs.declared.kind.Kind.TheVariants as kind
use Rattle.bql_lexer.specs.declared.token.Token.{Token}
use Rattle.bql_tree.specs.Part.{Part}
use Rattle.bql_tree.specs.declared.function.Scope.{Scope}
use Rattle.bql_tree.specs.declared.tree.Leaf.{Leaf}
use Rattle.bql_grammar.specs.Expression.{or_of, negation, list_of, behind_comma, arguments}
use Rattle.bql_grammar.specs.Front.{front, begins, of_kind}
use Rattle.bql_grammar.proofs.FormFacts.{reads_other, none_other}
use Rattle.bql_grammar.proofs.ExpressionFacts.{rows, no_list, none_in_list, list_is_read}

pub begins_where : (f : Token → Option Token) (ts : List Token)
    (r : Option (Bor Token × Bor (List Token)))
    → MatchOption r (front f ts ≡ None) (λ p. front f ts ≡ Some (p.0.now, p.1.now))
    → is_some r ≡ begins f ts
begins_where f ts None e = sym (ap is_some e)
begins_where f ts (Some p) e = sym (ap is_some e)

pub literal_where : (f : Token → Option (Token × Leaf)) (ts : List Token)
    (r : Option (Bor Token × Leaf × Bor (List Token)))
    → MatchOption r (front f ts ≡ None) (λ p. front f ts ≡ Some ((p.0.now, p.1), p.2.now))
    → is_some r ≡ begins f ts
literal_where f ts None e = sym (ap is_some e)
literal_where f ts (Some p) e = sym (ap is_some e)

module _ (scope : Scope) (room : ℕ) where
  abbrev pub or : Form Token Part
  or = or_of (negation scope room)

  some_argument : (ts : List Token) → begins (of_kind kind.CloseParenthesis) ts ≡ false
      → HasNone (list_of or) ts → HasNone (arguments scope room) ts
  some_argument ts open_at none =
      none_other (begins (of_kind kind.CloseParenthesis)) (made []) (list_of or) ts (λ rest. refl)
      open_at none

  pub no_argument : (ts : List Token) → begins (of_kind kind.CloseParenthesis) ts ≡ false
      → HasNone or ts → HasNone (arguments scope room) ts
  no_argument ts open_at none = some_argument ts open_at (no_list or (λ rest. refl) ts none)

  pub none_in_arguments : (ts : List Token) (vs : List Part) (rest mid : List Token)
      (comma : Token) → begins (of_kind kind.CloseParenthesis) ts ≡ false
      → InRow (rows or) (behind_comma or) snoc ts vs rest
      → front (of_kind kind.Comma) rest ≡ Some (comma, mid) → HasNone or mid
      → HasNone (arguments scope room) ts
  none_in_arguments ts vs rest mid comma open_at p at none =
      some_argument ts open_at (none_in_list or (λ rest. refl) ts vs rest mid comma p at none)

  pub arguments_read : (ts : List Token) (vs : List Part) (rest : List Token)
      → begins (of_kind kind.CloseParenthesis) ts ≡ false
      → InRow (rows or) (behind_comma or) snoc ts vs rest → front (of_kind kind.Comma) rest ≡ None
      → Reads (arguments scope room) ts vs rest
  arguments_read ts vs rest open_at p at =
      reads_other (begins (of_kind kind.CloseParenthesis)) (made []) (list_of or) ts vs rest
      (λ rest. refl) open_at (list_is_read or (λ rest. refl) ts vs rest p at)
