-- Clauses of short tokens are small.
use Rattle.std.proofs.Common.{ℕ, Bool, true, false, List, [], Option, Some, None}
use Rattle.std.proofs.Common.{IfSome, arith}
use Rattle.theory.specs.Form.{Form, made}
use Rattle.query_terms.specs.declared.column.Column.TheVariants as column
use Rattle.bql_lexer.specs.declared.kind.Kind.{Kind}
use Rattle.bql_lexer.specs.declared.kind.Kind.TheVariants as kind
use Rattle.bql_lexer.specs.declared.token.Token.{Token}
use Rattle.bql_tree.specs.Part.{Part}
use Rattle.bql_tree.specs.declared.function.Scope.{Scope}
use Rattle.bql_tree.specs.declared.function.Scope.TheVariants.{Transactions, Postings}
use Rattle.bql_tree.specs.declared.tree.Leaf.TheVariants as leaf
use Rattle.bql_grammar.specs.Expression.{told, token, then, expression}
use Rattle.bql_grammar.specs.Front.{begins, of_kind}
use Rattle.bql_grammar.specs.Clause as clause
use Rattle.bql_grammar.specs.Clause.{selecting, journaling, balancing}
use Rattle.bql_grammar.specs.Grammar as rules
use Rattle.bql_grammar.specs.Piece.{piece, whole}
use Rattle.bql_grammar.specs.Read.{Target, Read}
use Rattle.bql_parser.specs.Small.{IsShort}
use Rattle.bql_parser.proofs.SmallTokens.{IsShortToken, piece_short}
use Rattle.bql_parser.proofs.SmallForms.{Keeps, Any, AreSome, keeps_any, keeps_token, keeps_made}
use Rattle.bql_parser.proofs.SmallForms.{keeps_then, keeps_choice, keeps_list}
use Rattle.bql_parser.proofs.SmallParts.{IsSmallPart, leaf_small}
use Rattle.bql_parser.proofs.SmallExpressions.{AreSmallParts, keeps_expression, keeps_items}

-- ---- what is small of clauses

abbrev pub IsSmallFilter : Option Part → Type 0
IsSmallFilter o = IfSome o IsSmallPart

abbrev pub AreSmallFilters : clause.Filters Part → Type 0
AreSmallFilters f = IsSmallFilter f.from × IsSmallFilter f.filter

abbrev pub IsSmallTarget : Target → Type 0
IsSmallTarget t = IsShort t.name × IsSmallPart t.part

abbrev pub IsSmallOrder : clause.Order Part → Type 0
IsSmallOrder o = AreSmallParts o.items

pub record IsSmallSelect (s : rules.Selected) : Type 0 where
  pub targets : AreSome IsSmallTarget s.targets
  pub filters : AreSmallFilters s.filters
  pub group : IfSome s.group AreSmallParts
  pub order : IsSmallOrder s.order

abbrev pub IsSmallRead : Read → Type 0
IsSmallRead (selecting s) = IsSmallSelect s
IsSmallRead (journaling j) = IfSome j.pattern IsShort × IsSmallFilter j.from
IsSmallRead (balancing b) = AreSmallFilters b.filters

-- ---- words

keeps_word : {V : Type 0} {S : V → Type 0} (k : Kind) (behind : Token → Form Token V)
    (other : Form Token V) → ((t : Token) → IsShortToken t → Keeps S (behind t)) → Keeps S other
    → Keeps S (rules.behind_word k behind other)
keeps_word k behind other h g =
    keeps_choice (begins (of_kind k)) (then (token k) behind) other
    (keeps_then (token k) behind (keeps_token k) h) g

keeps_flag : (k : Kind) → Keeps Any (rules.flag k)
keeps_flag k =
    keeps_word k (λ word. made true) (made false) (λ word s. keeps_made true tt)
    (keeps_made false tt)

-- ---- filters

keeps_filter : (k : Kind) (scope : Scope) → Keeps IsSmallFilter (rules.filter k scope)
keeps_filter k scope =
    keeps_word k (rules.filtered scope) (made None)
    (λ word s. keeps_then (expression scope) rules.some (keeps_expression scope)
    (λ p small. keeps_made (Some p) small)) (keeps_made None tt)

keeps_filters : Keeps AreSmallFilters rules.filters
keeps_filters =
    keeps_then (rules.filter kind.From Transactions) rules.behind_from
    (keeps_filter kind.From Transactions)
    (λ from small. keeps_then (rules.filter kind.Where Postings) (rules.in_filters from)
    (keeps_filter kind.Where Postings)
    (λ filter few. keeps_made record { from = from; filter = filter } (small, few)))

-- ---- items

keeps_items_by : (k : Kind) → Keeps (λ o. IfSome o AreSmallParts) (rules.items_by k)
keeps_items_by k =
    keeps_word k rules.by_items (made None)
    (λ word s. keeps_then (token kind.By) rules.items_behind (keeps_token kind.By)
    (λ by b. keeps_then rules.items rules.some
    (keeps_items (expression Postings) (keeps_expression Postings))
    (λ ps all. keeps_made (Some ps) all))) (keeps_made None tt)

-- ---- targets

keeps_target : (text : List ℕ) → IsShort text → Keeps IsSmallTarget (rules.target text)
keeps_target text h =
    keeps_then (expression Postings) (rules.with_name text) (keeps_expression Postings)
    (λ p small. keeps_word kind.As _ _
    (λ word s. keeps_then (token kind.Name) (λ name. made (rules.named p name))
    (keeps_token kind.Name) (λ name short. keeps_made (rules.named p name) (short, small)))
    (keeps_made record { name = piece text p.start p.end; part = p }
    (piece_short text p.start p.end h, small)))

starred_small : (star : Token) → AreSome IsSmallTarget (rules.starred star)
starred_small star =
    (((omega arith, leaf_small star (leaf.Column column.Date) tt), ((omega arith, leaf_small star (leaf.Column column.Flag) tt), ((omega arith, leaf_small star (leaf.Column column.Payee) tt), ((omega arith, leaf_small star (leaf.Column column.Narration) tt), ((omega arith, leaf_small star (leaf.Column column.Position) tt), tt))))), omega arith)

keeps_shown : (text : List ℕ) → IsShort text → Keeps (AreSome IsSmallTarget) (rules.shown text)
keeps_shown text h =
    keeps_word kind.Star rules.all_shown (rules.targets text)
    (λ star s. keeps_made (rules.starred star) (starred_small star))
    (keeps_list (rules.target text) (keeps_target text h))

-- ---- order and limit

keeps_direction : Keeps Any rules.direction
keeps_direction =
    keeps_word kind.Desc (λ word. made true) _ (λ word s. keeps_made true tt)
    (keeps_then (rules.flag kind.Asc) (λ ascends. made false) (keeps_flag kind.Asc)
    (λ ascends any. keeps_made false tt))

keeps_ordered : (o : Option (List Part)) → IfSome o AreSmallParts
    → Keeps IsSmallOrder (rules.ordered o)
keeps_ordered (Some ps) all =
    keeps_then rules.direction (rules.in_order ps) keeps_direction
    (λ descending any. keeps_made record { items = ps; descending = descending } all)
keeps_ordered None all = keeps_made record { items = []; descending = false } tt

keeps_order : Keeps IsSmallOrder rules.order
keeps_order =
    keeps_then (rules.items_by kind.Order) rules.ordered (keeps_items_by kind.Order) keeps_ordered

keeps_limit : Keeps Any rules.limit
keeps_limit =
    keeps_word kind.Limit (λ word. then (told whole) (λ n. made (Some n))) (made None)
    (λ word s. keeps_then (told whole) (λ n. made (Some n)) (keeps_any whole)
    (λ n any. keeps_made (Some n) tt)) (keeps_made None tt)

-- ---- SELECT

keeps_in_select : (distinct : Bool) (shown : List Target) (f : clause.Filters Part)
    (g : Option (List Part)) (o : clause.Order Part) (l : Option ℕ) → AreSome IsSmallTarget shown
    → AreSmallFilters f → IfSome g AreSmallParts → IsSmallOrder o
    → Keeps IsSmallSelect (rules.in_select distinct shown f g o l)
keeps_in_select distinct shown f g o l a b c d =
    keeps_made record {
      distinct = distinct;
      targets = shown;
      filters = f;
      group = g;
      order = o;
      limit = l;
    } record { targets = a; filters = b; group = c; order = d }

keeps_select : (text : List ℕ) → IsShort text → Keeps IsSmallSelect (rules.select text)
keeps_select text h =
    keeps_then (rules.flag kind.Distinct) (rules.behind_distinct text) (keeps_flag kind.Distinct)
    (λ distinct any. keeps_then (rules.shown text) (rules.behind_targets distinct)
    (keeps_shown text h)
    (λ shown a. keeps_then rules.filters (rules.behind_filters distinct shown) keeps_filters
    (λ f b. keeps_then (rules.items_by kind.Group) (rules.behind_group distinct shown f)
    (keeps_items_by kind.Group)
    (λ g c. keeps_then rules.order (rules.behind_order distinct shown f g) keeps_order
    (λ o d. keeps_then rules.limit (rules.in_select distinct shown f g o) keeps_limit
    (λ l e. keeps_in_select distinct shown f g o l a b c d))))))

-- ---- JOURNAL and BALANCES

keeps_at : Keeps Any rules.at
keeps_at =
    keeps_word kind.At _ (made None)
    (λ word s. keeps_then (token kind.Name) (λ name. made (Some (rules.name_at name)))
    (keeps_token kind.Name) (λ name n. keeps_made (Some (rules.name_at name)) tt))
    (keeps_made None tt)

keeps_pattern : Keeps (λ o. IfSome o IsShort) rules.pattern
keeps_pattern =
    keeps_word kind.Text (λ text. made (Some text.text)) (made None)
    (λ text short. keeps_made (Some text.text) short) (keeps_made None tt)

abbrev IsSmallJournal : rules.Journaled → Type 0
IsSmallJournal j = IfSome j.pattern IsShort × IsSmallFilter j.from

keeps_journal : Keeps IsSmallJournal rules.journal
keeps_journal =
    keeps_then rules.pattern rules.behind_pattern keeps_pattern
    (λ pattern short. keeps_then rules.at (rules.behind_at pattern) keeps_at
    (λ at any. keeps_then (rules.filter kind.From Transactions) (rules.in_journal pattern at)
    (keeps_filter kind.From Transactions)
    (λ from small. keeps_made record { pattern = pattern; at = at; from = from } (short, small))))

abbrev AreSmallBalances : rules.Balanced → Type 0
AreSmallBalances b = AreSmallFilters b.filters

keeps_balances : Keeps AreSmallBalances rules.balances
keeps_balances =
    keeps_then rules.at rules.filters_behind keeps_at
    (λ at any. keeps_then rules.filters (rules.in_balances at) keeps_filters
    (λ f small. keeps_made record { at = at; filters = f } small))

-- ---- queries

keeps_fixed : Keeps IsSmallRead rules.fixed_clauses
keeps_fixed =
    keeps_word kind.Journal rules.a_journal (then (token kind.Balances) rules.some_balances)
    (λ word s. keeps_then rules.journal rules.made_journal keeps_journal
    (λ j small. keeps_made (journaling j) small))
    (keeps_then (token kind.Balances) rules.some_balances (keeps_token kind.Balances)
    (λ word s. keeps_then rules.balances rules.made_balances keeps_balances
    (λ b small. keeps_made (balancing b) small)))

keeps_clauses : (text : List ℕ) → IsShort text → Keeps IsSmallRead (rules.clauses text)
keeps_clauses text h =
    keeps_word kind.Select (rules.a_select text) rules.fixed_clauses
    (λ word s. keeps_then (rules.select text) rules.made_select (keeps_select text h)
    (λ s small. keeps_made (selecting s) small)) keeps_fixed

pub keeps_query : (text : List ℕ) → IsShort text → Keeps IsSmallRead (rules.query text)
keeps_query text h =
    keeps_then (rules.clauses text) rules.behind_clauses (keeps_clauses text h)
    (λ read small. keeps_then (rules.flag kind.Semicolon) (rules.ended read)
    (keeps_flag kind.Semicolon) (λ ends any. keeps_made read small))
