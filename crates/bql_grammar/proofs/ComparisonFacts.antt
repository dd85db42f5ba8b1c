-- How comparisons are read.
use Rattle.std.proofs.Common.{◌≡◌, ℕ, zero, suc, true, false, List, Some, None}
use Rattle.std.proofs.Common.{Result, Bor, refl}
use Rattle.theory.specs.Form.{Form, Reads, HasNone, made}
use Rattle.theory.proofs.FormFacts.{reads_made}
use Rattle.bql_lexer.specs.declared.kind.Kind.TheVariants as kind
use Rattle.bql_lexer.specs.declared.token.Token.{Token}
use Rattle.bql_grammar.specs.Expression.{token, then, choice, compared, matched, list}
use Rattle.bql_grammar.specs.Expression.{contained, compared_if_due, comparison, sum_of, unary}
use Rattle.bql_grammar.specs.Front as fronts
use Rattle.bql_grammar.specs.Front.{front, begins, of_kind, begins_with_list}
use Rattle.bql_grammar.specs.Gives.{Gives}
use Rattle.bql_tree.specs.Part as parts
use Rattle.bql_tree.specs.Part.{Part}
use Rattle.bql_tree.specs.declared.function.Scope.{Scope}
use Rattle.bql_grammar.specs.declared.stuck.Stuck.{Stuck}
use Rattle.bql_tree.specs.declared.tree.BinaryOperator.{BinaryOperator}
use Rattle.bql_tree.specs.declared.tree.BinaryOperator.TheVariants as binary
use Rattle.bql_grammar.proofs.FormFacts.{IsFixed, reads_then}
use Rattle.bql_grammar.proofs.FormFacts.{none_then_first, none_then, reads_behind, none_behind}
use Rattle.bql_grammar.proofs.FormFacts.{none_here, reads_chosen, reads_other, none_chosen}
use Rattle.bql_grammar.proofs.FormFacts.{none_other, present, absent}
use Rattle.bql_grammar.proofs.ExpressionFacts.{gives_as}

list_fixed : (room : ℕ) (left : Part) → IsFixed (list room left)
list_fixed zero left rest = refl
list_fixed (suc room) left rest = refl

module _ (scope : Scope) (room : ℕ) where
  list_ends : (left : Part) → IsFixed (list room left)
  list_ends left = list_fixed room left

  abbrev s : Form Token Part
  s = sum_of (unary scope room)

  abbrev plain_or_in : Part → Form Token Part
  plain_or_in left = choice (begins (of_kind kind.In)) (contained s left) (made left)

  abbrev in_list_or_not : Part → Form Token Part
  in_list_or_not left = choice begins_with_list (list room left) (plain_or_in left)

  abbrev matched_or_not : Part → Form Token Part
  matched_or_not left = choice (begins (of_kind kind.Tilde)) (matched left) (in_list_or_not left)

  pub no_sum : (ts : List Token) → HasNone s ts → HasNone (comparison scope room) ts
  no_sum ts none = none_then_first s (compared_if_due room s) ts (λ rest. refl) none

  whole : (ts : List Token) (left : Part) (mid : List Token) (v : Part) (rest : List Token)
      → Reads s ts left mid → Reads (compared_if_due room s left) mid v rest
      → Reads (comparison scope room) ts v rest
  whole ts left mid v rest r t = reads_then s (compared_if_due room s) ts left mid v rest
      (λ rest. refl) (λ v rest. refl) r t

  whole_none : (ts : List Token) (left : Part) (mid : List Token) → Reads s ts left mid
      → HasNone (compared_if_due room s left) mid → HasNone (comparison scope room) ts
  whole_none ts left mid r none = none_then s (compared_if_due room s) ts left mid (λ rest. refl)
      (λ v rest. refl) r none

  pub compared_read : (ts : List Token) (left : Part) (mid : List Token) (op : BinaryOperator)
      (behind : List Token) (right : Part) (rest : List Token)
      → Reads s ts left mid → front fronts.comparison mid ≡ Some (op, behind)
      → Reads s behind right rest → Reads (comparison scope room) ts (parts.two op left right) rest
  compared_read ts left mid op behind right rest r at q =
      whole ts left mid _ rest r
      (reads_chosen (begins fronts.comparison) (compared s left) (matched_or_not left) mid _ rest
      (λ rest. refl) (present fronts.comparison mid (op, behind) at)
      (reads_behind fronts.comparison (λ op. then s (λ right. made (parts.two op left right))) mid
      op behind _ rest (λ v rest. refl) at
      (reads_then s (λ right. made (parts.two op left right)) behind right rest _ rest
      (λ rest. refl) (λ v rest. refl) q (reads_made (parts.two op left right) rest))))

  pub compared_none : (ts : List Token) (left : Part) (mid : List Token) (op : BinaryOperator)
      (behind : List Token)
      → Reads s ts left mid → front fronts.comparison mid ≡ Some (op, behind) → HasNone s behind
      → HasNone (comparison scope room) ts
  compared_none ts left mid op behind r at none =
      whole_none ts left mid r
      (none_chosen (begins fronts.comparison) (compared s left) (matched_or_not left) mid
      (λ rest. refl) (present fronts.comparison mid (op, behind) at)
      (none_behind fronts.comparison (λ op. then s (λ right. made (parts.two op left right))) mid op
      behind (λ v rest. refl) at
      (none_then_first s (λ right. made (parts.two op left right)) behind (λ rest. refl) none)))

  under_comparison : (left : Part) (mid : List Token) (v : Part) (rest : List Token)
      → front fronts.comparison mid ≡ None → Reads (matched_or_not left) mid v rest
      → Reads (compared_if_due room s left) mid v rest
  under_comparison left mid v rest at r = reads_other (begins fronts.comparison) (compared s left)
      (matched_or_not left) mid v rest (λ rest. refl) (absent fronts.comparison mid at) r

  none_under_comparison : (left : Part) (mid : List Token) → front fronts.comparison mid ≡ None
      → HasNone (matched_or_not left) mid → HasNone (compared_if_due room s left) mid
  none_under_comparison left mid at none = none_other (begins fronts.comparison) (compared s left)
      (matched_or_not left) mid (λ rest. refl) (absent fronts.comparison mid at) none

  pub matched_read : (ts : List Token) (left : Part) (mid : List Token) (tilde : Token)
      (behind : List Token) (pattern : Token) (rest : List Token)
      → Reads s ts left mid → front fronts.comparison mid ≡ None
      → front (of_kind kind.Tilde) mid ≡ Some (tilde, behind)
      → front (of_kind kind.Text) behind ≡ Some (pattern, rest)
      → Reads (comparison scope room) ts (parts.matched left pattern) rest
  matched_read ts left mid tilde behind pattern rest r none at text =
      whole ts left mid _ rest r
      (under_comparison left mid _ rest none
      (reads_chosen (begins (of_kind kind.Tilde)) (matched left) (in_list_or_not left) mid _ rest
      (λ rest. refl) (present (of_kind kind.Tilde) mid (tilde, behind) at)
      (reads_behind (of_kind kind.Tilde)
      (λ t. then (token kind.Text) (λ text. made (parts.matched left text))) mid tilde behind _
      rest (λ v rest. refl) at
      (reads_behind (of_kind kind.Text) (λ text. made (parts.matched left text)) behind pattern rest
      _ rest (λ v rest. refl) text (reads_made (parts.matched left pattern) rest)))))

  pub matched_none : (ts : List Token) (left : Part) (mid : List Token) (tilde : Token)
      (behind : List Token)
      → Reads s ts left mid → front fronts.comparison mid ≡ None
      → front (of_kind kind.Tilde) mid ≡ Some (tilde, behind)
      → front (of_kind kind.Text) behind ≡ None → HasNone (comparison scope room) ts
  matched_none ts left mid tilde behind r none at text =
      whole_none ts left mid r
      (none_under_comparison left mid none
      (none_chosen (begins (of_kind kind.Tilde)) (matched left) (in_list_or_not left) mid
      (λ rest. refl) (present (of_kind kind.Tilde) mid (tilde, behind) at)
      (none_behind (of_kind kind.Tilde)
      (λ t. then (token kind.Text) (λ text. made (parts.matched left text))) mid tilde behind
      (λ v rest. refl) at
      (none_here (of_kind kind.Text) (λ text. made (parts.matched left text)) behind text))))

  under_tilde : (left : Part) (mid : List Token) (v : Part) (rest : List Token)
      → front fronts.comparison mid ≡ None → front (of_kind kind.Tilde) mid ≡ None
      → Reads (in_list_or_not left) mid v rest
      → Reads (compared_if_due room s left) mid v rest
  under_tilde left mid v rest none at r = under_comparison left mid v rest none
      (reads_other (begins (of_kind kind.Tilde)) (matched left) (in_list_or_not left) mid v rest
      (λ rest. refl) (absent (of_kind kind.Tilde) mid at) r)

  none_under_tilde : (left : Part) (mid : List Token) → front fronts.comparison mid ≡ None
      → front (of_kind kind.Tilde) mid ≡ None → HasNone (in_list_or_not left) mid
      → HasNone (compared_if_due room s left) mid
  none_under_tilde left mid none at absence = none_under_comparison left mid none
      (none_other (begins (of_kind kind.Tilde)) (matched left) (in_list_or_not left) mid
      (λ rest. refl) (absent (of_kind kind.Tilde) mid at) absence)

  pub listed_as : {X : Type 0} (f : X → Part) (ts : List Token) (left : Part) (mid : List Token)
      (r : Result (X × Bor (List Token)) Stuck)
      → Reads s ts left mid → front fronts.comparison mid ≡ None
      → front (of_kind kind.Tilde) mid ≡ None → begins_with_list mid ≡ true
      → Gives (list room left) f mid r → Gives (comparison scope room) f ts r
  listed_as f ts left mid r q none at is h =
      gives_as (list room left) (comparison scope room) f mid ts r
      (λ v rest p. whole ts left mid v rest q (under_tilde left mid v rest none at
      (reads_chosen begins_with_list (list room left) (plain_or_in left) mid v rest
      (list_ends left) is p)))
      (λ absence. whole_none ts left mid q (none_under_tilde left mid none at
      (none_chosen begins_with_list (list room left) (plain_or_in left) mid
      (list_ends left) is absence))) h

  under_list : (left : Part) (mid : List Token) (v : Part) (rest : List Token)
      → front fronts.comparison mid ≡ None → front (of_kind kind.Tilde) mid ≡ None
      → begins_with_list mid ≡ false → Reads (plain_or_in left) mid v rest
      → Reads (compared_if_due room s left) mid v rest
  under_list left mid v rest none at is r = under_tilde left mid v rest none at
      (reads_other begins_with_list (list room left) (plain_or_in left) mid v rest
      (λ rest. refl) is r)

  pub contained_read : (ts : List Token) (left : Part) (mid : List Token) (word : Token)
      (behind : List Token) (right : Part) (rest : List Token)
      → Reads s ts left mid → front fronts.comparison mid ≡ None
      → front (of_kind kind.Tilde) mid ≡ None → begins_with_list mid ≡ false
      → front (of_kind kind.In) mid ≡ Some (word, behind)
      → Reads s behind right rest → Reads (comparison scope room) ts
      (parts.two binary.In left right) rest
  contained_read ts left mid word behind right rest r none at is here q =
      whole ts left mid _ rest r
      (under_list left mid _ rest none at is
      (reads_chosen (begins (of_kind kind.In)) (contained s left) (made left) mid _ rest
      (λ rest. refl) (present (of_kind kind.In) mid (word, behind) here)
      (reads_behind (of_kind kind.In) (λ w. then s (λ right. made (parts.two binary.In left right)))
      mid word behind _ rest (λ v rest. refl) here
      (reads_then s (λ right. made (parts.two binary.In left right)) behind right rest _ rest
      (λ rest. refl) (λ v rest. refl) q (reads_made (parts.two binary.In left right) rest)))))

  pub contained_none : (ts : List Token) (left : Part) (mid : List Token) (word : Token)
      (behind : List Token)
      → Reads s ts left mid → front fronts.comparison mid ≡ None
      → front (of_kind kind.Tilde) mid ≡ None → begins_with_list mid ≡ false
      → front (of_kind kind.In) mid ≡ Some (word, behind)
      → HasNone s behind → HasNone (comparison scope room) ts
  contained_none ts left mid word behind r none at is here absence =
      whole_none ts left mid r
      (none_under_tilde left mid none at
      (none_other begins_with_list (list room left) (plain_or_in left) mid (λ rest. refl) is
      (none_chosen (begins (of_kind kind.In)) (contained s left) (made left) mid (λ rest. refl)
      (present (of_kind kind.In) mid (word, behind) here)
      (none_behind (of_kind kind.In) (λ w. then s (λ right. made (parts.two binary.In left right)))
      mid word behind (λ v rest. refl) here
      (none_then_first s (λ right. made (parts.two binary.In left right)) behind
      (λ rest. refl) absence)))))

  pub plain_read : (ts : List Token) (left : Part) (mid : List Token)
      → Reads s ts left mid → front fronts.comparison mid ≡ None
      → front (of_kind kind.Tilde) mid ≡ None → begins_with_list mid ≡ false
      → front (of_kind kind.In) mid ≡ None → Reads (comparison scope room) ts left mid
  plain_read ts left mid r none at is here =
      whole ts left mid left mid r
      (under_list left mid left mid none at is
      (reads_other (begins (of_kind kind.In)) (contained s left) (made left) mid left mid
      (λ rest. refl) (absent (of_kind kind.In) mid here) (reads_made left mid)))
