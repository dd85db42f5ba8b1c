-- Clauses that may lack where a query ends.
use Rattle.std.proofs.Common.{◌≡◌, ℕ, Bool, false, List, [], ◌∷◌, ◌++◌, Some, None, Option, inl, inr}
use Rattle.std.proofs.Common.{refl, sym, ap, ◌∙◌, is_some}
use Rattle.std.specs.Prelude.{codes}
use Rattle.theory.specs.Form.{Form, made}
use Rattle.bql_lexer.specs.declared.kind.Kind.{Kind}
use Rattle.bql_lexer.specs.declared.kind.Kind.TheVariants as kind
use Rattle.bql_lexer.specs.declared.token.Token.{Token}
use Rattle.bql_grammar.specs.Beginning.{IsEnd, BeginsOne, IsBegun}
use Rattle.bql_grammar.specs.Expression.{told, token, then, expression}
use Rattle.bql_grammar.specs.Front.{before, begins, of_kind}
use Rattle.bql_grammar.specs.Nesting.{role, Parts}
use Rattle.bql_grammar.specs.declared.stuck.Stuck.{Stuck}
use Rattle.bql_tree.specs.Part.{Part}
use Rattle.bql_tree.specs.declared.function.Scope.{Scope}
use Rattle.bql_tree.specs.declared.function.Scope.TheVariants.{Transactions, Postings}
use Rattle.bql_grammar.proofs.AgainFacts.{same_first}
use Rattle.bql_grammar.proofs.BeginningFacts.{none_at_end, sample, begins_with, list_alone}
use Rattle.bql_grammar.proofs.BeginningFacts.{begun_by}
use Rattle.bql_grammar.proofs.BeginningExpressions.{or_named}
use Rattle.bql_grammar.proofs.StandingFacts.{fronts_of}
use Rattle.bql_grammar.specs.Clause as clause
use Rattle.bql_grammar.specs.Grammar.{behind_word, flag, filter, filtered, filters, behind_from}
use Rattle.bql_grammar.specs.Grammar.{in_filters, items_by, by_items, with_name, targets, shown}
use Rattle.bql_grammar.specs.Grammar.{target, direction, ordered, order, limit, in_order}
use Rattle.bql_grammar.specs.Grammar.{named, behind_targets, behind_filters, behind_group}
use Rattle.bql_grammar.specs.Grammar.{behind_order, in_select, behind_distinct, select, at}
use Rattle.bql_grammar.specs.Grammar.{behind_pattern, behind_at, in_journal, balances, filters_behind}
use Rattle.bql_grammar.specs.Grammar.{in_balances, clauses, fixed_clauses}
use Rattle.bql_grammar.specs.Grammar.{some_balances, name_at, behind_clauses, ended, items_in}
use Rattle.bql_grammar.specs.Piece.{whole}
use Rattle.bql_grammar.specs.Read.{Target, Read}
use Rattle.bql_grammar.specs.declared.clauses.NameRead.{NameRead}
use Rattle.bql_grammar.proofs.MovingFacts.{inner_word}

abbrev pub MayLack : {V : Type 0} → Form Token V → Type 0
MayLack {V} a = (rest : List Token) → IsEnd rest → (v : V) × a.reads rest v rest

pub lacks_made : {V : Type 0} (v : V) → MayLack (made v)
lacks_made v rest e = (v, (refl, refl))

pub lacks_then : {V W : Type 0} (a : Form Token V) (k : V → Form Token W) → MayLack a
    → ((v : V) → MayLack (k v)) → MayLack (then a k)
lacks_then a k f g rest e =
    let r = f rest e in
    let s = g r.0 rest e in
    (s.0, (r.0, rest, r.1, s.1))

lacks_word : {V : Type 0} (k : Kind) (g : Token → Form Token V) (z : Form Token V) → role k ≡ Parts
    → MayLack z → MayLack (behind_word k g z)
lacks_word k g z is h rest e =
    let r = h rest e in
    (r.0, inr (none_at_end (of_kind k) (inner_word k is) rest e, r.1))

-- Behind FROM and the items.

lacks_filter : (k : Kind) (scope : Scope) → role k ≡ Parts → MayLack (filter k scope)
lacks_filter k scope is = lacks_word k (filtered scope) (made None) is (lacks_made None)

pub lacks_behind_from : (from : Option Part) → MayLack (behind_from from)
lacks_behind_from from =
    lacks_then (filter kind.Where Postings) (in_filters from) (lacks_filter kind.Where Postings refl)
    (λ p. lacks_made record { from = from; filter = p })

lacks_filters : MayLack filters
lacks_filters =
    lacks_then (filter kind.From Transactions) behind_from
    (lacks_filter kind.From Transactions refl) lacks_behind_from

lacks_items_by : (k : Kind) → role k ≡ Parts → MayLack (items_by k)
lacks_items_by k is = lacks_word k by_items (made None) is (lacks_made None)

pub lacks_with_name : (text : List ℕ) (p : Part) → MayLack (with_name text p)
lacks_with_name text p =
    lacks_word kind.As (λ word. then (token kind.Name) (λ name. made (named p name))) (made _) refl
    (lacks_made _)

-- Behind the clauses of SELECT.

lacks_direction : MayLack direction
lacks_direction =
    lacks_word kind.Desc (λ word. made _) (then (flag kind.Asc) (λ ascends. made false)) refl
    (lacks_then (flag kind.Asc) (λ ascends. made false)
    (lacks_word kind.Asc (λ word. made _) (made false) refl (lacks_made false))
    (λ ascends. lacks_made false))

pub lacks_ordered : (found : Option (List Part)) → MayLack (ordered found)
lacks_ordered None = lacks_made record { items = []; descending = false }
lacks_ordered (Some ps) =
    lacks_then direction (in_order ps) lacks_direction
    (λ descending. lacks_made record { items = ps; descending = descending })

lacks_limit : MayLack limit
lacks_limit =
    lacks_word kind.Limit (λ word. then (told whole) (λ n. made (Some n))) (made None) refl
    (lacks_made None)

module _ (distinct : Bool) (shown : List Target) where
  pub lacks_behind_order : (fs : clause.Filters Part) (g : Option (List Part))
      (o : clause.Order Part) → MayLack (behind_order distinct shown fs g o)
  lacks_behind_order fs g o =
      lacks_then limit (in_select distinct shown fs g o) lacks_limit (λ n. lacks_made _)

  pub lacks_behind_group : (fs : clause.Filters Part) (g : Option (List Part))
      → MayLack (behind_group distinct shown fs g)
  lacks_behind_group fs g =
      lacks_then order (behind_order distinct shown fs g)
      (lacks_then (items_by kind.Order) ordered (lacks_items_by kind.Order refl) lacks_ordered)
      (lacks_behind_order fs g)

  pub lacks_behind_filters : (fs : clause.Filters Part)
      → MayLack (behind_filters distinct shown fs)
  lacks_behind_filters fs =
      lacks_then (items_by kind.Group) (behind_group distinct shown fs)
      (lacks_items_by kind.Group refl) (lacks_behind_group fs)

  pub lacks_behind_targets : MayLack (behind_targets distinct shown)
  lacks_behind_targets =
      lacks_then filters (behind_filters distinct shown) lacks_filters lacks_behind_filters

-- Behind AT.

lacks_at : MayLack at
lacks_at =
    lacks_word kind.At (λ word. then (token kind.Name) (λ name. made (Some (name_at name))))
    (made None) refl (lacks_made None)

pub lacks_behind_at : (pattern : Option (List ℕ)) (name : Option NameRead)
    → MayLack (behind_at pattern name)
lacks_behind_at pattern name =
    lacks_then (filter kind.From Transactions) (in_journal pattern name)
    (lacks_filter kind.From Transactions refl) (λ from. lacks_made _)

pub lacks_behind_pattern : (pattern : Option (List ℕ)) → MayLack (behind_pattern pattern)
lacks_behind_pattern pattern =
    lacks_then at (behind_at pattern) lacks_at (lacks_behind_at pattern)

pub lacks_filters_behind : (name : Option NameRead) → MayLack (filters_behind name)
lacks_filters_behind name =
    lacks_then filters (in_balances name) lacks_filters (λ fs. lacks_made _)

lacks_balances : MayLack balances
lacks_balances = lacks_then at filters_behind lacks_at lacks_filters_behind

pub lacks_behind_clauses : (read : Read) → MayLack (behind_clauses read)
lacks_behind_clauses read =
    lacks_then (flag kind.Semicolon) (ended read)
    (lacks_word kind.Semicolon (λ word. made _) (made false) refl (lacks_made false))
    (λ ends. lacks_made read)

-- What must stand, where nothing stands yet.

one_target : (text : List ℕ) (rest : List Token) → IsEnd rest
    → (v : List Target) × (targets text).reads (sample kind.Name ∷ rest) v rest
one_target text rest e =
    let r = or_named Postings 200 rest e in
    let s = lacks_with_name text r.0 rest e in
    list_alone (target text) (λ rest. refl) (sample kind.Name ∷ rest) s.0 rest e
    (r.0, rest, r.1, s.1)

pub begins_shown : (text : List ℕ) → BeginsOne (shown text) []
begins_shown text =
    begins_with (shown text) [] (sample kind.Name ∷ [])
    (λ rest e. let r = one_target text rest e in (r.0, inr (refl, r.1)))

one_balances : (rest : List Token) → IsEnd rest
    → (v : Read) × fixed_clauses.reads (sample kind.Balances ∷ rest) v rest
one_balances rest e =
    let b = lacks_balances rest e in
    (_, inr (refl, (sample kind.Balances, rest, refl, (b.0, rest, b.1, (refl, refl)))))

pub begins_fixed : BeginsOne fixed_clauses []
begins_fixed = begins_with fixed_clauses [] (sample kind.Balances ∷ []) one_balances

pub begins_clauses : (text : List ℕ) → BeginsOne (clauses text) []
begins_clauses text =
    begins_with (clauses text) [] (sample kind.Balances ∷ [])
    (λ rest e. let r = one_balances rest e in (r.0, inr (refl, r.1)))

-- SELECT, behind DISTINCT or without it.

begins_select : (text : List ℕ) → BeginsOne (select text) []
begins_select text =
    begins_with (select text) [] (sample kind.Name ∷ [])
    (λ rest e.
    let s = one_target text rest e in
    let b = lacks_behind_targets false s.0 rest e in (
      b.0,
      (
        false,
        sample kind.Name ∷ rest,
        inr (refl, (refl, refl)),
        (s.0, rest, inr (refl, s.1), b.1),
      ),
    ))

undistinct : (text : List ℕ) (ts : List Token) (d : Bool) (mid ys rest : List Token)
    → begins (of_kind kind.Distinct) ts ≡ false → d ≡ false → ts ≡ mid → mid ≡ ys ++ rest
    → BeginsOne (behind_distinct text d) ys → BeginsOne (select text) ys
undistinct text ts d mid [] more none is same cut h rest e = begins_select text rest e
undistinct text ts d mid (y ∷ ys) more none is same cut h rest e =
    let r = h rest e in
    let us = ys ++ (r.0 ++ rest) in (
      r.0,
      r.1,
      (
        d,
        y ∷ us,
        inr (
          same_first (of_kind kind.Distinct) y us (ys ++ more)
              ∙ (ap (begins (of_kind kind.Distinct)) (sym (same ∙ cut)) ∙ none),
          (is, refl),
        ),
        r.2,
      ),
    )

pub distinct_begun : (text : List ℕ) (ts : List Token) (d : Bool) (mid : List Token)
    → (flag kind.Distinct).reads ts d mid → (e : Stuck) → IsBegun (behind_distinct text d) mid e
    → IsBegun (select text) ts e
distinct_begun text ts d mid (inl r) e h =
    let q = r.1 in
    let o = fronts_of (of_kind kind.Distinct) ts q.0 q.1 q.2 in
    begun_by (behind_distinct text d) (select text) (o.token ∷ []) mid ts e
    (o.at ∙ ap (λ m. o.token ∷ m) q.3.1)
    (λ ys more cut h rest e.
    let s = h rest e in
    let us = ys ++ (s.0 ++ rest) in (
      s.0,
      s.1,
      (
        d,
        us,
        inl (
          ap (λ p. is_some (before us p)) o.is,
          (q.0, us, ap (before us) o.is, (q.3.0, refl)),
        ),
        s.2,
      ),
    )) h
distinct_begun text ts d mid (inr r) e h =
    begun_by (behind_distinct text d) (select text) [] mid ts e r.1.1
    (λ ys rest cut. undistinct text ts d mid ys rest r.0 r.1.0 r.1.1 cut) h

-- What must stand behind a word.

pub begins_name : {V : Type 0} (make : Token → V)
    → BeginsOne (then (token kind.Name) (λ name. made (make name))) []
begins_name make =
    begins_with (then (token kind.Name) (λ name. made (make name))) [] (sample kind.Name ∷ [])
    (λ rest e. (_, (sample kind.Name, rest, refl, (refl, refl))))

abbrev zero_token : Token
zero_token = record { text = codes "0"; start = 0; end = 0; kind = kind.Number }

pub begins_whole_number : BeginsOne (then (told whole) (λ n. made (Some n))) []
begins_whole_number =
    begins_with (then (told whole) (λ n. made (Some n))) [] (zero_token ∷ [])
    (λ rest e. (_, (0, rest, refl, (refl, refl))))

pub begins_items : BeginsOne items_in []
begins_items =
    begins_with items_in [] (sample kind.By ∷ sample kind.Name ∷ [])
    (λ rest e.
    let r = or_named Postings 200 rest e in
    let s = list_alone (expression Postings) (λ rest. refl) (sample kind.Name ∷ rest) r.0 rest e
    r.1 in
    (_, (sample kind.By, sample kind.Name ∷ rest, refl, (s.0, rest, s.1, (refl, refl)))))

pub begins_balances : BeginsOne (then (token kind.Balances) some_balances) []
begins_balances =
    begins_with (then (token kind.Balances) some_balances) [] (sample kind.Balances ∷ [])
    (λ rest e. let b = lacks_balances rest e in
    (_, (sample kind.Balances, rest, refl, (b.0, rest, b.1, (refl, refl)))))
