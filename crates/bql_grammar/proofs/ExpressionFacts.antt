-- How expressions are read.
use Rattle.std.proofs.Common.{◌≡◌, ℕ, zero, suc, ◌-◌, ◌<◌, ◌||◌, Bool, false, List}
use Rattle.std.proofs.Common.{Some, None, is_some, Result, Ok, Err, Bor}
use Rattle.std.proofs.Common.{refl, sym, ◌∙◌, ap, subst, arith}
use Rattle.theory.specs.Form.{Form, Reads, HasNone, made, ◌<+>◌, row, chain, pair, alone}
use Rattle.theory.specs.Form.{snoc}
use Rattle.theory.proofs.FormFacts.{Tells, reads_made, reads_ending, none_ending, reads_applied}
use Rattle.theory.proofs.FormFacts.{none_next}
use Rattle.theory.proofs.RowFacts.{InRow, Separates, BeginsRow, EndsItems, row_ends, row_begins}
use Rattle.theory.proofs.RowFacts.{row_goes_on, row_is_read, none_in_row, no_row}
use Rattle.bql_lexer.specs.declared.kind.Kind.TheVariants as kind
use Rattle.bql_lexer.specs.declared.token.Token.{Token}
use Rattle.bql_grammar.specs.Front as fronts
use Rattle.bql_grammar.specs.Front.{front, begins, of_kind}
use Rattle.bql_grammar.specs.Gives.{Gives}
use Rattle.bql_tree.specs.Part as parts
use Rattle.bql_tree.specs.Part.{Part}
use Rattle.bql_grammar.specs.Expression.{told, then, nothing, chained, behind_comma}
use Rattle.bql_grammar.specs.Expression.{list_of, signed_of, denied_of}
use Rattle.bql_grammar.specs.Expression.{unary_of, negation_of, inner, unary}
use Rattle.bql_grammar.specs.Expression.{negation, comparison, operand, grouped, call, atom}
use Rattle.bql_tree.specs.declared.function.Scope.{Scope}
use Rattle.bql_tree.specs.declared.level.Level.{Level}
use Rattle.bql_tree.specs.declared.level.Level.TheVariants as levels
use Rattle.bql_grammar.specs.declared.stuck.Stuck.{Stuck}
use Rattle.bql_grammar.specs.declared.stuck.Stuck.TheVariants.{OutOfMemory, At}
use Rattle.bql_tree.specs.declared.tree.BinaryOperator.{BinaryOperator}
use Rattle.bql_grammar.proofs.FormFacts.{IsFixed, reads_told, reads_then}
use Rattle.bql_grammar.proofs.FormFacts.{none_then_first, reads_behind, none_behind}
use Rattle.bql_grammar.proofs.FormFacts.{reads_chosen, reads_other, none_chosen}
use Rattle.bql_grammar.proofs.FormFacts.{none_other, none_of_nothing, present, absent}

-- Levels of nesting.

abbrev pub signed : Scope → ℕ → Form Token Part
signed scope zero = nothing
signed scope (suc room) = signed_of (unary scope room)

abbrev pub denied : Scope → ℕ → Form Token Part
denied scope zero = nothing
denied scope (suc room) = denied_of (negation scope room)

pub unary_is : (scope : Scope) (room : ℕ) → unary scope room ≡ unary_of scope (signed scope room)
    (grouped scope room) (call scope room)
unfolding inner
unary_is scope zero = refl
unary_is scope (suc room) = refl

pub negation_is : (scope : Scope) (room : ℕ) → negation scope room ≡ negation_of (denied scope room)
    (comparison scope room)
unfolding inner
negation_is scope zero = refl
negation_is scope (suc room) = refl

pub unary_ends : (scope : Scope) (room : ℕ) → IsFixed (unary scope room)
unfolding inner
unary_ends scope zero rest = refl
unary_ends scope (suc room) rest = refl

pub negation_ends : (scope : Scope) (room : ℕ) → IsFixed (negation scope room)
unfolding inner
negation_ends scope zero rest = refl
negation_ends scope (suc room) rest = refl

-- What a part couldn't give.

pub stuck_in : {V W X Y : Type 0} (a : Form Token V) (b : Form Token W) (f : X → V) (g : Y
    → W) (ts us : List Token) (e : Stuck)
    → (HasNone a ts → HasNone b us) → Gives a f ts (Err e) → Gives b g us (Err e)
stuck_in a b f g ts us OutOfMemory none h = tt
stuck_in a b f g ts us (At left is_deep) none h = none h

-- Chains.

abbrev pub another : Level → Form Token Part → Form Token (BinaryOperator × Part)
another level a = made pair <+> told (fronts.operator level) <+> a

abbrev pub joined : Part → BinaryOperator × Part → Part
joined v p = parts.two p.0 v p.1

abbrev pub links : Level → Form Token Part → Form Token Part
links level a = chain (begins (fronts.operator level)) (told (fronts.operator level)) a parts.two

module _ (level : Level) (a : Form Token Part) (fixed : IsFixed a) where
  pub another_ends : IsFixed (another level a)
  another_ends rest = ap (λ b. false || b) (fixed rest)

  pub links_end : EndsItems (begins (fronts.operator level)) (another level a) (links level a)
  links_end = row_ends (begins (fronts.operator level)) a (λ v. v) (another level a) joined

  pub links_separate : Separates (another level a)
  links_separate ls v rest p = another_ends ls

  pub links_begin : BeginsRow a (another level a)
  links_begin ls v rest p = fixed ls

  pub links_told : Tells (begins (fronts.operator level)) (another level a)
  links_told ls v rest p = ap (begins (fronts.operator level)) p.3.3.1 ∙ ap is_some p.3.4

  pub chain_begins : (ts : List Token) (v : Part) (rest : List Token) → Reads a ts v rest
      → InRow (links level a) (another level a) joined ts v rest
  chain_begins ts v rest r = row_begins (begins (fronts.operator level)) a (λ v. v)
      (another level a) joined ts v rest links_begin r

  pub no_chain : (ts : List Token) → HasNone a ts → HasNone (chained level a) ts
  no_chain ts none = none_ending (links level a) ts (no_row (begins (fronts.operator level)) a
      (λ v. v) (another level a) joined ts links_begin none)

  pub reads_another : (ts mid : List Token) (op : BinaryOperator) (v : Part) (rest : List Token)
      → front (fronts.operator level) ts ≡ Some (op, mid) → Reads a mid v rest
      → Reads (another level a) ts (op, v) rest
  reads_another ts mid op v rest at r =
      reads_applied (made pair <+> told (fronts.operator level)) a ts (pair op) mid v rest
      (λ ls v rest p e f. refl)
      (reads_applied (made pair) (told (fronts.operator level)) ts pair ts op mid
      (λ ls v rest p e f. refl) (reads_made pair ts)
      (reads_told (fronts.operator level) ts op mid at)) r

  pub none_another : (ts mid : List Token) (op : BinaryOperator) → front (fronts.operator level) ts
      ≡ Some (op, mid) → HasNone a mid → HasNone (another level a) ts
  none_another ts mid op at none =
      none_next (made pair <+> told (fronts.operator level)) a ts (pair op) mid
      (λ ls v rest p e f. refl)
      (reads_applied (made pair) (told (fronts.operator level)) ts pair ts op mid
      (λ ls v rest p e f. refl) (reads_made pair ts)
      (reads_told (fronts.operator level) ts op mid at)) none

  pub chain_goes_on : (ts : List Token) (v : Part) (rest mid : List Token) (op : BinaryOperator) (w : Part)
      (more : List Token)
      → InRow (links level a) (another level a) joined ts v rest
      → front (fronts.operator level) rest ≡ Some (op, mid) → Reads a mid w more
      → InRow (links level a) (another level a) joined ts (parts.two op v w) more
  chain_goes_on ts v rest mid op w more p at r =
      row_goes_on (begins (fronts.operator level)) (links level a) (another level a) joined ts v
      rest (op, w) more links_end links_separate links_told p
      (reads_another rest mid op w more at r)

  pub none_in_chain : (ts : List Token) (v : Part) (rest mid : List Token) (op : BinaryOperator)
      → InRow (links level a) (another level a) joined ts v rest
      → front (fronts.operator level) rest ≡ Some (op, mid) → HasNone a mid
      → HasNone (chained level a) ts
  none_in_chain ts v rest mid op p at none =
      none_ending (links level a) ts (none_in_row (begins (fronts.operator level)) (links level a)
      (another level a) joined ts v rest links_end links_separate p
      (present (fronts.operator level) rest (op, mid) at) (none_another rest mid op at none))

  pub chain_is_read : (ts : List Token) (v : Part) (rest : List Token)
      → InRow (links level a) (another level a) joined ts v rest
      → front (fronts.operator level) rest ≡ None → Reads (chained level a) ts v rest
  chain_is_read ts v rest p at =
      reads_ending (links level a) ts v rest (row_is_read (begins (fronts.operator level))
      (links level a) (another level a) joined ts v rest links_told p
      (absent (fronts.operator level) rest at))
      (ap (λ b. b || ((another level a).goes_on rest || a.goes_on rest))
      (absent (fronts.operator level) rest at) ∙ ap (λ b. b || a.goes_on rest) (another_ends rest)
      ∙ fixed rest)

-- Lists.

abbrev pub rows : {V : Type 0} → Form Token V → Form Token (List V)
rows a = row (begins (of_kind kind.Comma)) a alone (behind_comma a) snoc

module _ {V : Type 0} (a : Form Token V) (fixed : IsFixed a) where
  pub comma_told : Tells (begins (of_kind kind.Comma)) (behind_comma a)
  comma_told ls v rest p = ap is_some p.2

  pub rows_end : EndsItems (begins (of_kind kind.Comma)) (behind_comma a) (rows a)
  rows_end = row_ends (begins (of_kind kind.Comma)) a alone (behind_comma a) snoc

  pub list_begins : (ts : List Token) (v : V) (rest : List Token) → Reads a ts v rest
      → InRow (rows a) (behind_comma a) snoc ts (alone v) rest
  list_begins ts v rest r = row_begins (begins (of_kind kind.Comma)) a alone
      (behind_comma a) snoc ts v rest (λ ls v rest p. fixed ls) r

  pub no_list : (ts : List Token) → HasNone a ts → HasNone (list_of a) ts
  no_list ts none = none_ending (rows a) ts (no_row (begins (of_kind kind.Comma)) a alone
      (behind_comma a) snoc ts (λ ls v rest p. fixed ls) none)

  pub list_goes_on : (ts : List Token) (vs : List V) (rest mid : List Token) (comma : Token)
      (w : V) (more : List Token)
      → InRow (rows a) (behind_comma a) snoc ts vs rest → front (of_kind kind.Comma) rest
      ≡ Some (comma, mid) → Reads a mid w more → InRow (rows a) (behind_comma a) snoc ts
      (snoc vs w) more
  list_goes_on ts vs rest mid comma w more p at r =
      row_goes_on (begins (of_kind kind.Comma)) (rows a) (behind_comma a) snoc ts vs rest w more
      rows_end (λ ls v rest p. refl) comma_told p (reads_behind (of_kind kind.Comma)
      (λ c. a) rest comma mid w more (λ c. fixed) at r)

  pub none_in_list : (ts : List Token) (vs : List V) (rest mid : List Token) (comma : Token)
      → InRow (rows a) (behind_comma a) snoc ts vs rest → front (of_kind kind.Comma) rest
      ≡ Some (comma, mid) → HasNone a mid → HasNone (list_of a) ts
  none_in_list ts vs rest mid comma p at none =
      none_ending (rows a) ts (none_in_row (begins (of_kind kind.Comma)) (rows a)
      (behind_comma a) snoc ts vs rest rows_end (λ ls v rest p. refl) p
      (present (of_kind kind.Comma) rest (comma, mid) at) (none_behind (of_kind kind.Comma)
      (λ c. a) rest comma mid (λ c. fixed) at none))

  pub list_is_read : (ts : List Token) (vs : List V) (rest : List Token)
      → InRow (rows a) (behind_comma a) snoc ts vs rest → front (of_kind kind.Comma) rest ≡ None
      → Reads (list_of a) ts vs rest
  list_is_read ts vs rest p at =
      reads_ending (rows a) ts vs rest (row_is_read (begins (of_kind kind.Comma)) (rows a)
      (behind_comma a) snoc ts vs rest comma_told p (absent (of_kind kind.Comma) rest at))
      (ap (λ b. b || (false || a.goes_on rest)) (absent (of_kind kind.Comma) rest at) ∙ fixed rest)

-- What a reader gives of one form it gives of another.
pub gives_as : {V X : Type 0} (a b : Form Token V) (f : X → V) (ts us : List Token)
    (r : Result (X × Bor (List Token)) Stuck)
    → ((v : V) (rest : List Token) → Reads a ts v rest → Reads b us v rest)
    → (HasNone a ts → HasNone b us) → Gives a f ts r → Gives b f us r
gives_as a b f ts us (Ok p) reads none h = reads (f p.0) p.1.now h
gives_as a b f ts us (Err OutOfMemory) reads none h = tt
gives_as a b f ts us (Err (At left is_deep)) reads none h = none h

back : (room : ℕ) → suc room - 1 ≡ room
back room = omega arith

-- Signs.

module _ (scope : Scope) where
  abbrev behind_sign : Form Token Part → Token × Bool → Form Token Part
  behind_sign u sign = then u (λ inner. made (parts.signed sign.0 sign.1 inner))

  pub no_room_for_sign : (room : ℕ) (ts : List Token) (p : (Token × Bool) × List Token)
      → front fronts.sign ts ≡ Some p → room ≡ 0 → HasNone (unary scope room) ts
  no_room_for_sign zero ts p at full =
      subst (λ f. HasNone f ts) (sym (unary_is scope zero))
      (none_chosen (begins fronts.sign) nothing (atom scope zero) ts (λ rest. refl)
      (present fronts.sign ts p at) (none_of_nothing ts))
  no_room_for_sign (suc room) ts p at full = absurd (omega (arith, full))

  pub none_behind_sign : (room : ℕ) (ts : List Token) (sign : Token × Bool) (mid : List Token)
      → front fronts.sign ts ≡ Some (sign, mid) → HasNone (unary scope (room - 1)) mid
      → HasNone (unary scope room) ts
  none_behind_sign zero ts sign mid at none = no_room_for_sign zero ts (sign, mid) at refl
  none_behind_sign (suc room) ts sign mid at none =
      subst (λ f. HasNone f ts) (sym (unary_is scope (suc room)))
      (none_chosen (begins fronts.sign) (signed scope (suc room)) (atom scope (suc room)) ts
      (λ rest. refl) (present fronts.sign ts (sign, mid) at)
      (none_behind fronts.sign (behind_sign (unary scope room)) ts sign mid (λ v rest. refl) at
      (none_then_first (unary scope room) (λ inner. made (parts.signed sign.0 sign.1 inner)) mid
      (unary_ends scope room) (subst (λ n. HasNone (unary scope n) mid) (back room) none))))

  pub signed_read : (room : ℕ) (ts : List Token) (sign : Token × Bool) (mid : List Token) (v : Part)
      (rest : List Token) → front fronts.sign ts ≡ Some (sign, mid) → 0 < room
      → Reads (unary scope (room - 1)) mid v rest
      → Reads (unary scope room) ts (parts.signed sign.0 sign.1 v) rest
  signed_read zero ts sign mid v rest at some r = absurd (omega (arith, some))
  signed_read (suc room) ts sign mid v rest at some r =
      subst (λ f. Reads f ts (parts.signed sign.0 sign.1 v) rest) (sym (unary_is scope (suc room)))
      (reads_chosen (begins fronts.sign) (signed scope (suc room)) (atom scope (suc room)) ts _ rest
      (λ rest. refl) (present fronts.sign ts (sign, mid) at)
      (reads_behind fronts.sign (behind_sign (unary scope room)) ts sign mid _ rest
      (λ v rest. refl) at
      (reads_then (unary scope room) (λ inner. made (parts.signed sign.0 sign.1 inner)) mid v rest _
      rest (unary_ends scope room) (λ v rest. refl) (subst (λ n. Reads (unary scope n) mid v rest)
      (back room) r)
      (reads_made (parts.signed sign.0 sign.1 v) rest))))

  pub unsigned : {X : Type 0} (room : ℕ) (f : X → Part) (ts : List Token)
      (r : Result (X × Bor (List Token)) Stuck) → front fronts.sign ts ≡ None
      → Gives (atom scope room) f ts r → Gives (unary scope room) f ts r
  unsigned room f ts r at h =
      subst (λ u. Gives u f ts r) (sym (unary_is scope room))
      (gives_as (atom scope room) (unary_of scope (signed scope room) (grouped scope room)
      (call scope room)) f ts ts r
      (λ v rest p. reads_other (begins fronts.sign) (signed scope room) (atom scope room) ts v rest
      (λ rest. refl) (absent fronts.sign ts at) p)
      (λ none. none_other (begins fronts.sign) (signed scope room) (atom scope room) ts
      (λ rest. refl) (absent fronts.sign ts at) none) h)

-- Negations.

module _ (scope : Scope) where
  abbrev behind_not : Form Token Part → Token → Form Token Part
  behind_not n word = then n (λ inner. made (parts.denied word inner))

  pub no_room_for_not : (room : ℕ) (ts : List Token) (p : Token × List Token)
      → front (of_kind kind.Not) ts ≡ Some p → room ≡ 0 → HasNone (negation scope room) ts
  no_room_for_not zero ts p at full =
      subst (λ f. HasNone f ts) (sym (negation_is scope zero))
      (none_chosen (begins (of_kind kind.Not)) nothing (comparison scope zero) ts (λ rest. refl)
      (present (of_kind kind.Not) ts p at) (none_of_nothing ts))
  no_room_for_not (suc room) ts p at full = absurd (omega (arith, full))

  pub none_behind_not : (room : ℕ) (ts : List Token) (word : Token) (mid : List Token)
      → front (of_kind kind.Not) ts ≡ Some (word, mid) → HasNone (negation scope (room - 1)) mid
      → HasNone (negation scope room) ts
  none_behind_not zero ts word mid at none = no_room_for_not zero ts (word, mid) at refl
  none_behind_not (suc room) ts word mid at none =
      subst (λ f. HasNone f ts) (sym (negation_is scope (suc room)))
      (none_chosen (begins (of_kind kind.Not)) (denied scope (suc room))
      (comparison scope (suc room)) ts (λ rest. refl) (present (of_kind kind.Not) ts
      (word, mid) at)
      (none_behind (of_kind kind.Not) (behind_not (negation scope room)) ts word mid
      (λ v rest. refl) at
      (none_then_first (negation scope room) (λ inner. made (parts.denied word inner)) mid
      (negation_ends scope room) (subst (λ n. HasNone (negation scope n) mid) (back room) none))))

  pub denied_read : (room : ℕ) (ts : List Token) (word : Token) (mid : List Token) (v : Part)
      (rest : List Token) → front (of_kind kind.Not) ts ≡ Some (word, mid) → 0 < room
      → Reads (negation scope (room - 1)) mid v rest
      → Reads (negation scope room) ts (parts.denied word v) rest
  denied_read zero ts word mid v rest at some r = absurd (omega (arith, some))
  denied_read (suc room) ts word mid v rest at some r =
      subst (λ f. Reads f ts (parts.denied word v) rest) (sym (negation_is scope (suc room)))
      (reads_chosen (begins (of_kind kind.Not)) (denied scope (suc room))
      (comparison scope (suc room)) ts _ rest (λ rest. refl)
      (present (of_kind kind.Not) ts (word, mid) at)
      (reads_behind (of_kind kind.Not) (behind_not (negation scope room)) ts word mid _ rest
      (λ v rest. refl) at
      (reads_then (negation scope room) (λ inner. made (parts.denied word inner)) mid v rest _ rest
      (negation_ends scope room) (λ v rest. refl)
      (subst (λ n. Reads (negation scope n) mid v rest) (back room) r)
      (reads_made (parts.denied word v) rest))))

  pub undenied : {X : Type 0} (room : ℕ) (f : X → Part) (ts : List Token)
      (r : Result (X × Bor (List Token)) Stuck) → front (of_kind kind.Not) ts ≡ None
      → Gives (comparison scope room) f ts r → Gives (negation scope room) f ts r
  undenied room f ts r at h =
      subst (λ u. Gives u f ts r) (sym (negation_is scope room))
      (gives_as (comparison scope room) (negation_of (denied scope room) (comparison scope room)) f
      ts ts r
      (λ v rest p. reads_other (begins (of_kind kind.Not)) (denied scope room)
      (comparison scope room) ts v rest (λ rest. refl) (absent (of_kind kind.Not) ts at) p)
      (λ none. none_other (begins (of_kind kind.Not)) (denied scope room) (comparison scope room) ts
      (λ rest. refl) (absent (of_kind kind.Not) ts at) none) h)

-- Nothing can be read, so a reader may stop.
pub gives_none : {V X : Type 0} (a : Form Token V) (f : X → V) (ts : List Token) (e : Stuck)
    → HasNone a ts → Gives a f ts (Err e)
gives_none a f ts OutOfMemory none = tt
gives_none a f ts (At left is_deep) none = none

pub operand_ends : (level : Level) (scope : Scope) (room : ℕ) → IsFixed (operand level scope room)
operand_ends levels.Or scope room rest = refl
operand_ends levels.And scope room rest = negation_ends scope room rest
operand_ends levels.Sum scope room rest = refl
operand_ends levels.Product scope room rest = unary_ends scope room rest
