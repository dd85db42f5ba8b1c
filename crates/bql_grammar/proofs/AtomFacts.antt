-- How literals, names, groups and calls are read.
use Rattle.std.proofs.Common.{◌≡◌, ℕ, zero, suc, ◌-◌, ◌<◌, true, false, List}
use Rattle.std.proofs.Common.{Some, None, Result, Bor, refl, subst}
use Rattle.std.proofs.Common.{arith}
use Rattle.theory.specs.Form.{Form, Reads, HasNone, made}
use Rattle.theory.proofs.FormFacts.{reads_made}
use Rattle.bql_lexer.specs.declared.kind.Kind.TheVariants as kind
use Rattle.bql_lexer.specs.declared.token.Token.{Token}
use Rattle.bql_tree.specs.Call.{called}
use Rattle.bql_grammar.specs.Expression.{token, then, choice, literal, or_of}
use Rattle.bql_grammar.specs.Expression.{negation, grouped, call, inside_call}
use Rattle.bql_grammar.specs.Expression.{counted, begins_with_count, arguments_of, arguments}
use Rattle.bql_grammar.specs.Expression.{name, atom}
use Rattle.bql_grammar.specs.Front as fronts
use Rattle.bql_grammar.specs.Front.{front, begins, of_kind, begins_with_call}
use Rattle.bql_grammar.specs.Gives.{Gives}
use Rattle.bql_tree.specs.Part as parts
use Rattle.bql_tree.specs.Part.{Part}
use Rattle.bql_tree.specs.declared.function.Scope.{Scope}
use Rattle.bql_grammar.specs.declared.stuck.Stuck.{Stuck}
use Rattle.bql_grammar.proofs.FormFacts.{IsFixed, reads_then}
use Rattle.bql_grammar.proofs.FormFacts.{none_then_first, none_then, reads_behind, none_behind}
use Rattle.bql_grammar.proofs.FormFacts.{none_here, reads_chosen, reads_other, none_chosen}
use Rattle.bql_grammar.proofs.FormFacts.{none_other, none_of_nothing}
use Rattle.bql_grammar.proofs.ExpressionFacts.{gives_as}

back : (room : ℕ) → suc room - 1 ≡ room
back room = omega arith

module _ (scope : Scope) where
  grouped_ends : (room : ℕ) → IsFixed (grouped scope room)
  grouped_ends zero rest = refl
  grouped_ends (suc room) rest = refl

  call_ends : (room : ℕ) → IsFixed (call scope room)
  call_ends zero rest = refl
  call_ends (suc room) rest = refl

  -- Atoms.

  abbrev call_or_name : ℕ → Form Token Part
  call_or_name room = choice begins_with_call (call scope room) (name scope)

  abbrev group_or_more : ℕ → Form Token Part
  group_or_more room = choice (begins (of_kind kind.OpenParenthesis)) (grouped scope room)
      (call_or_name room)

  pub literal_atom : {X : Type 0} (room : ℕ) (f : X → Part) (ts : List Token)
      (r : Result (X × Bor (List Token)) Stuck) → begins fronts.literal ts ≡ true
      → Gives literal f ts r → Gives (atom scope room) f ts r
  literal_atom room f ts r is h =
      gives_as literal (atom scope room) f ts ts r
      (λ v rest p. reads_chosen (begins fronts.literal) literal (group_or_more room) ts v rest
      (λ rest. refl) is p)
      (λ absence. none_chosen (begins fronts.literal) literal (group_or_more room) ts
      (λ rest. refl) is absence) h

  pub group_atom : {X : Type 0} (room : ℕ) (f : X → Part) (ts : List Token)
      (r : Result (X × Bor (List Token)) Stuck) → begins fronts.literal ts ≡ false
      → begins (of_kind kind.OpenParenthesis) ts ≡ true
      → Gives (grouped scope room) f ts r → Gives (atom scope room) f ts r
  group_atom room f ts r none is h =
      gives_as (grouped scope room) (atom scope room) f ts ts r
      (λ v rest p. reads_other (begins fronts.literal) literal (group_or_more room) ts v rest
      (λ rest. refl) none
      (reads_chosen (begins (of_kind kind.OpenParenthesis)) (grouped scope room)
      (call_or_name room) ts v rest (grouped_ends room) is p))
      (λ absence. none_other (begins fronts.literal) literal (group_or_more room) ts (λ rest. refl)
      none
      (none_chosen (begins (of_kind kind.OpenParenthesis)) (grouped scope room)
      (call_or_name room) ts (grouped_ends room) is absence)) h

  pub call_atom : {X : Type 0} (room : ℕ) (f : X → Part) (ts : List Token)
      (r : Result (X × Bor (List Token)) Stuck) → begins fronts.literal ts ≡ false
      → begins (of_kind kind.OpenParenthesis) ts ≡ false → begins_with_call ts ≡ true
      → Gives (call scope room) f ts r → Gives (atom scope room) f ts r
  call_atom room f ts r none not is h =
      gives_as (call scope room) (atom scope room) f ts ts r
      (λ v rest p. reads_other (begins fronts.literal) literal (group_or_more room) ts v rest
      (λ rest. refl) none
      (reads_other (begins (of_kind kind.OpenParenthesis)) (grouped scope room)
      (call_or_name room) ts v rest (λ rest. refl) not
      (reads_chosen begins_with_call (call scope room) (name scope) ts v rest
      (call_ends room) is p)))
      (λ absence. none_other (begins fronts.literal) literal (group_or_more room) ts (λ rest. refl)
      none
      (none_other (begins (of_kind kind.OpenParenthesis)) (grouped scope room)
      (call_or_name room) ts (λ rest. refl) not
      (none_chosen begins_with_call (call scope room) (name scope) ts (call_ends room) is absence)))
      h

  pub name_atom : (room : ℕ) (ts : List Token) (t : Token) (rest : List Token)
      → begins fronts.literal ts ≡ false → begins (of_kind kind.OpenParenthesis) ts ≡ false
      → begins_with_call ts ≡ false
      → front (of_kind kind.Name) ts ≡ Some (t, rest)
      → Reads (atom scope room) ts (parts.name scope t) rest
  name_atom room ts t rest none not is at =
      reads_other (begins fronts.literal) literal (group_or_more room) ts _ rest (λ rest. refl)
      none
      (reads_other (begins (of_kind kind.OpenParenthesis)) (grouped scope room)
      (call_or_name room) ts _ rest (λ rest. refl) not
      (reads_other begins_with_call (call scope room) (name scope) ts _ rest (λ rest. refl) is
      (reads_behind (of_kind kind.Name) (λ t. made (parts.name scope t)) ts t rest _ rest
      (λ v rest. refl) at (reads_made (parts.name scope t) rest))))

  pub no_atom : (room : ℕ) (ts : List Token) → begins fronts.literal ts ≡ false
      → begins (of_kind kind.OpenParenthesis) ts ≡ false → begins_with_call ts ≡ false
      → front (of_kind kind.Name) ts ≡ None
      → HasNone (atom scope room) ts
  no_atom room ts none not is at =
      none_other (begins fronts.literal) literal (group_or_more room) ts (λ rest. refl)
      none
      (none_other (begins (of_kind kind.OpenParenthesis)) (grouped scope room)
      (call_or_name room) ts (λ rest. refl) not
      (none_other begins_with_call (call scope room) (name scope) ts (λ rest. refl) is
      (none_here (of_kind kind.Name) (λ t. made (parts.name scope t)) ts at)))

  -- Groups.

  abbrev or : ℕ → Form Token Part
  or room = or_of (negation scope room)

  abbrev in_group : ℕ → Token → Form Token Part
  in_group room opening = then (or room) (λ inner. then (token kind.CloseParenthesis)
      (λ close. made (parts.group opening inner close)))

  pub no_group : (room : ℕ) (ts : List Token) → front (of_kind kind.OpenParenthesis) ts ≡ None
      → HasNone (grouped scope room) ts
  no_group zero ts none = none_of_nothing ts
  no_group (suc room) ts none = none_here (of_kind kind.OpenParenthesis) (in_group room) ts none

  pub no_room_for_group : (room : ℕ) (ts : List Token) → room ≡ 0 → HasNone (grouped scope room) ts
  no_room_for_group zero ts full = none_of_nothing ts
  no_room_for_group (suc room) ts full = absurd (omega (arith, full))

  pub none_in_group : (room : ℕ) (ts : List Token) (opening : Token) (mid : List Token)
      → front (of_kind kind.OpenParenthesis) ts ≡ Some (opening, mid) → HasNone (or (room - 1)) mid
      → HasNone (grouped scope room) ts
  none_in_group zero ts opening mid at none = none_of_nothing ts
  none_in_group (suc room) ts opening mid at none =
      none_behind (of_kind kind.OpenParenthesis) (in_group room) ts opening mid (λ v rest. refl) at
      (none_then_first (or room) (λ inner. then (token kind.CloseParenthesis)
      (λ close. made (parts.group opening inner close))) mid (λ rest. refl)
      (subst (λ n. HasNone (or n) mid) (back room) none))

  pub not_shut : (room : ℕ) (ts : List Token) (opening : Token) (mid : List Token) (v : Part)
      (rest : List Token) → front (of_kind kind.OpenParenthesis) ts ≡ Some (opening, mid)
      → Reads (or (room - 1)) mid v rest
      → front (of_kind kind.CloseParenthesis) rest ≡ None → HasNone (grouped scope room) ts
  not_shut zero ts opening mid v rest at r shut = none_of_nothing ts
  not_shut (suc room) ts opening mid v rest at r shut =
      none_behind (of_kind kind.OpenParenthesis) (in_group room) ts opening mid (λ v rest. refl) at
      (none_then (or room) (λ inner. then (token kind.CloseParenthesis)
      (λ close. made (parts.group opening inner close))) mid v rest (λ rest. refl)
      (λ v rest. refl) (subst (λ n. Reads (or n) mid v rest) (back room) r)
      (none_here (of_kind kind.CloseParenthesis) (λ close. made (parts.group opening v close)) rest
      shut))

  pub group_read : (room : ℕ) (ts : List Token) (opening : Token) (mid : List Token) (v : Part)
      (rest : List Token) (close : Token) (more : List Token)
      → 0 < room → front (of_kind kind.OpenParenthesis) ts ≡ Some (opening, mid)
      → Reads (or (room - 1)) mid v rest → front (of_kind kind.CloseParenthesis) rest
      ≡ Some (close, more)
      → Reads (grouped scope room) ts (parts.group opening v close) more
  group_read zero ts opening mid v rest close more some at r shut = absurd (omega (arith, some))
  group_read (suc room) ts opening mid v rest close more some at r shut =
      reads_behind (of_kind kind.OpenParenthesis) (in_group room) ts opening mid _ more
      (λ v rest. refl) at
      (reads_then (or room) (λ inner. then (token kind.CloseParenthesis)
      (λ close. made (parts.group opening inner close))) mid v rest _ more (λ rest. refl)
      (λ v rest. refl) (subst (λ n. Reads (or n) mid v rest) (back room) r)
      (reads_behind (of_kind kind.CloseParenthesis) (λ close. made (parts.group opening v close))
      rest close more _ more (λ v rest. refl) shut
      (reads_made (parts.group opening v close) more)))

  -- Calls.

  abbrev behind_name : ℕ → Token → Form Token Part
  behind_name room name = then (token kind.OpenParenthesis) (λ opening. inside_call scope
      (or room) name)

  abbrev with_arguments : ℕ → Token → Form Token Part
  with_arguments room name = then (arguments_of (or room)) (λ ps. then (token kind.CloseParenthesis)
      (λ close. made (called scope name ps close)))

  pub no_call : (room : ℕ) (ts : List Token) → front (of_kind kind.Name) ts ≡ None
      → HasNone (call scope room) ts
  no_call zero ts none = none_of_nothing ts
  no_call (suc room) ts none = none_here (of_kind kind.Name) (behind_name room) ts none

  pub not_open : (room : ℕ) (ts : List Token) (name : Token) (mid : List Token)
      → front (of_kind kind.Name) ts ≡ Some (name, mid) → front (of_kind kind.OpenParenthesis) mid
      ≡ None → HasNone (call scope room) ts
  not_open zero ts name mid at none = none_of_nothing ts
  not_open (suc room) ts name mid at none = none_behind (of_kind kind.Name) (behind_name room) ts
      name mid (λ v rest. refl) at (none_here (of_kind kind.OpenParenthesis)
      (λ opening. inside_call scope (or room) name) mid none)

  pub no_room_for_call : (room : ℕ) (ts : List Token) → room ≡ 0 → HasNone (call scope room) ts
  no_room_for_call zero ts full = none_of_nothing ts
  no_room_for_call (suc room) ts full = absurd (omega (arith, full))

  inside : (room : ℕ) (ts : List Token) (name : Token) (mid : List Token) (opening : Token)
      (in_it : List Token) (v : Part) (rest : List Token)
      → front (of_kind kind.Name) ts ≡ Some (name, mid)
      → front (of_kind kind.OpenParenthesis) mid ≡ Some (opening, in_it)
      → Reads (inside_call scope (or room) name) in_it v rest
      → Reads (call scope (suc room)) ts v rest
  inside room ts name mid opening in_it v rest at open_at r =
      reads_behind (of_kind kind.Name) (behind_name room) ts name mid v rest (λ v rest. refl) at
      (reads_behind (of_kind kind.OpenParenthesis) (λ opening. inside_call scope (or room) name)
      mid opening in_it v rest (λ v rest. refl) open_at r)

  none_inside : (room : ℕ) (ts : List Token) (name : Token) (mid : List Token) (opening : Token)
      (in_it : List Token) → front (of_kind kind.Name) ts ≡ Some (name, mid)
      → front (of_kind kind.OpenParenthesis) mid ≡ Some (opening, in_it)
      → HasNone (inside_call scope (or room) name) in_it → HasNone (call scope (suc room)) ts
  none_inside room ts name mid opening in_it at open_at none =
      none_behind (of_kind kind.Name) (behind_name room) ts name mid (λ v rest. refl) at
      (none_behind (of_kind kind.OpenParenthesis) (λ opening. inside_call scope (or room) name)
      mid opening in_it (λ v rest. refl) open_at none)

  pub counted_call : {X : Type 0} (room : ℕ) (f : X → Part) (ts : List Token) (name : Token)
      (mid : List Token) (opening : Token) (in_it : List Token)
      (r : Result (X × Bor (List Token)) Stuck)
      → 0 < room → front (of_kind kind.Name) ts ≡ Some (name, mid)
      → front (of_kind kind.OpenParenthesis) mid ≡ Some (opening, in_it)
      → begins_with_count name in_it ≡ true
      → Gives (counted name) f in_it r → Gives (call scope room) f ts r
  counted_call zero f ts name mid opening in_it r some at open_at is h = absurd
      (omega (arith, some))
  counted_call (suc room) f ts name mid opening in_it r some at open_at is h =
      gives_as (counted name) (call scope (suc room)) f in_it ts r
      (λ v rest p. inside room ts name mid opening in_it v rest at open_at
      (reads_chosen (begins_with_count name) (counted name) (with_arguments room name) in_it v
      rest (λ rest. refl) is p))
      (λ absence. none_inside room ts name mid opening in_it at open_at
      (none_chosen (begins_with_count name) (counted name) (with_arguments room name) in_it
      (λ rest. refl) is absence)) h

  pub no_arguments : (room : ℕ) (ts : List Token) (name : Token) (mid : List Token)
      (opening : Token) (in_it : List Token) → front (of_kind kind.Name) ts ≡ Some (name, mid)
      → front (of_kind kind.OpenParenthesis) mid ≡ Some (opening, in_it)
      → begins_with_count name in_it ≡ false → HasNone (arguments scope (room - 1)) in_it
      → HasNone (call scope room) ts
  no_arguments zero ts name mid opening in_it at open_at is none = none_of_nothing ts
  no_arguments (suc room) ts name mid opening in_it at open_at is none =
      none_inside room ts name mid opening in_it at open_at
      (none_other (begins_with_count name) (counted name) (with_arguments room name) in_it
      (λ rest. refl) is
      (none_then_first (arguments_of (or room)) (λ ps. then (token kind.CloseParenthesis)
      (λ close. made (called scope name ps close))) in_it (λ rest. refl)
      (subst (λ n. HasNone (arguments scope n) in_it) (back room) none)))

  pub call_not_shut : (room : ℕ) (ts : List Token) (name : Token) (mid : List Token)
      (opening : Token) (in_it : List Token) (ps : List Part) (rest : List Token)
      → front (of_kind kind.Name) ts ≡ Some (name, mid)
      → front (of_kind kind.OpenParenthesis) mid ≡ Some (opening, in_it)
      → begins_with_count name in_it ≡ false → Reads (arguments scope (room - 1)) in_it ps rest
      → front (of_kind kind.CloseParenthesis) rest ≡ None
      → HasNone (call scope room) ts
  call_not_shut zero ts name mid opening in_it ps rest at open_at is r shut = none_of_nothing ts
  call_not_shut (suc room) ts name mid opening in_it ps rest at open_at is r shut =
      none_inside room ts name mid opening in_it at open_at
      (none_other (begins_with_count name) (counted name) (with_arguments room name) in_it
      (λ rest. refl) is
      (none_then (arguments_of (or room)) (λ ps. then (token kind.CloseParenthesis)
      (λ close. made (called scope name ps close))) in_it ps rest (λ rest. refl) (λ v rest. refl)
      (subst (λ n. Reads (arguments scope n) in_it ps rest) (back room) r)
      (none_here (of_kind kind.CloseParenthesis) (λ close. made (called scope name ps close)) rest
      shut)))

  pub call_read : (room : ℕ) (ts : List Token) (name : Token) (mid : List Token) (opening : Token)
      (in_it : List Token) (ps : List Part) (rest : List Token) (close : Token) (more : List Token)
      → 0 < room
      → front (of_kind kind.Name) ts ≡ Some (name, mid) → front (of_kind kind.OpenParenthesis) mid
      ≡ Some (opening, in_it) → begins_with_count name in_it ≡ false
      → Reads (arguments scope (room - 1)) in_it ps rest
      → front (of_kind kind.CloseParenthesis) rest ≡ Some (close, more)
      → Reads (call scope room) ts (called scope name ps close) more
  call_read zero ts name mid opening in_it ps rest close more some at open_at is r shut = absurd
      (omega (arith, some))
  call_read (suc room) ts name mid opening in_it ps rest close more some at open_at is r shut =
      inside room ts name mid opening in_it _ more at open_at
      (reads_other (begins_with_count name) (counted name) (with_arguments room name) in_it _ more
      (λ rest. refl) is
      (reads_then (arguments_of (or room)) (λ ps. then (token kind.CloseParenthesis)
      (λ close. made (called scope name ps close))) in_it ps rest _ more (λ rest. refl)
      (λ v rest. refl)
      (subst (λ n. Reads (arguments scope n) in_it ps rest) (back room) r)
      (reads_behind (of_kind kind.CloseParenthesis) (λ close. made (called scope name ps close))
      rest close more _ more (λ v rest. refl) shut
      (reads_made (called scope name ps close) more))))
