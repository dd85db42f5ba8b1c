-- Queries, each clause as far as it goes.
--
-- query = (select | journal | balances) [";"]
-- select = SELECT [DISTINCT] ("*" | target {"," target}) filters
--          [GROUP BY or {"," or}] [ORDER BY or {"," or} [ASC|DESC]] [LIMIT whole]
-- target = or [AS name]    filters = [FROM or] [WHERE or]
-- journal = JOURNAL [text] [AT name] [FROM or]    balances = BALANCES [AT name] filters
use Rattle.std.specs.Prelude.{ℕ, Bool, true, false, List, [], ◌∷◌, codes, Option, Some, None}
use Rattle.theory.specs.Form.{Form, made}
use Rattle.bql_lexer.specs.declared.kind.Kind.{Kind}
use Rattle.bql_lexer.specs.declared.kind.Kind.TheVariants as kind
use Rattle.bql_lexer.specs.declared.token.Token.{Token}
use Rattle.bql_tree.specs.Part as parts
use Rattle.bql_tree.specs.Part.{Part}
use Rattle.query_terms.specs.declared.column.Column.{Column}
use Rattle.query_terms.specs.declared.column.Column.TheVariants as column
use Rattle.bql_tree.specs.declared.function.Scope.{Scope}
use Rattle.bql_tree.specs.declared.function.Scope.TheVariants.{Transactions, Postings}
use Rattle.bql_tree.specs.declared.tree.Leaf.TheVariants as leaf
use Rattle.bql_grammar.specs.Expression.{token, told, then, choice, list_of, expression}
use Rattle.bql_grammar.specs.Front.{begins, of_kind}
use Rattle.bql_grammar.specs.Clause as clause
use Rattle.bql_grammar.specs.Clause.{selecting, journaling, balancing}
use Rattle.bql_grammar.specs.Piece.{piece, whole}
use Rattle.bql_grammar.specs.Read.{Target, Read}
use Rattle.bql_grammar.specs.declared.clauses.NameRead.{NameRead}

-- what stands behind a word where the word stands, and else something else
abbrev pub behind_word : {V : Type 0} → Kind → (Token → Form Token V) → Form Token V → Form Token V
behind_word k behind other = choice (begins (of_kind k)) (then (token k) behind) other

-- whether the word stands there
abbrev pub flag : Kind → Form Token Bool
flag k = behind_word k (λ word. made true) (made false)

abbrev pub some : {V : Type 0} → V → Form Token (Option V)
some v = made (Some v)

abbrev pub filtered : Scope → Token → Form Token (Option Part)
filtered scope word = then (expression scope) some

abbrev pub filter : Kind → Scope → Form Token (Option Part)
filter k scope = behind_word k (filtered scope) (made None)

abbrev pub in_filters : Option Part → Option Part → Form Token (clause.Filters Part)
in_filters from passing = made record { from = from; filter = passing }

abbrev pub behind_from : Option Part → Form Token (clause.Filters Part)
behind_from from = then (filter kind.Where Postings) (in_filters from)

abbrev pub filters : Form Token (clause.Filters Part)
filters = then (filter kind.From Transactions) behind_from

abbrev pub items : Form Token (List Part)
items = list_of (expression Postings)

abbrev pub items_behind : Token → Form Token (Option (List Part))
items_behind by = then items some

abbrev pub items_in : Form Token (Option (List Part))
items_in = then (token kind.By) items_behind

abbrev pub by_items : Token → Form Token (Option (List Part))
by_items word = items_in

abbrev pub items_by : Kind → Form Token (Option (List Part))
items_by k = behind_word k by_items (made None)

-- Targets.

abbrev pub named : Part → Token → Target
named p name = record { name = name.text; part = p }

-- the name of a target is what follows AS, and else its own text
abbrev pub with_name : List ℕ → Part → Form Token Target
with_name text p =
    behind_word kind.As (λ word. then (token kind.Name) (λ name. made (named p name)))
    (made record { name = piece text p.start p.end; part = p })

abbrev pub target : List ℕ → Form Token Target
target text = then (expression Postings) (with_name text)

abbrev pub targets : List ℕ → Form Token (List Target)
targets text = list_of (target text)

abbrev pub column_shown : Token → List ℕ → Column → Target
column_shown star name c = record { name = name; part = parts.leaf star (leaf.Column c) }

abbrev pub starred : Token → List Target
starred star =
    column_shown star (codes "date") column.Date
    ∷ column_shown star (codes "flag") column.Flag
    ∷ column_shown star (codes "payee") column.Payee
    ∷ column_shown star (codes "narration") column.Narration
    ∷ column_shown star (codes "position") column.Position ∷ []

abbrev pub all_shown : Token → Form Token (List Target)
all_shown star = made (starred star)

abbrev pub shown : List ℕ → Form Token (List Target)
shown text = behind_word kind.Star all_shown (targets text)

-- Order and limit.

-- whether it descends
abbrev pub direction : Form Token Bool
direction =
    behind_word kind.Desc (λ word. made true) (then (flag kind.Asc) (λ ascends. made false))

abbrev pub in_order : List Part → Bool → Form Token (clause.Order Part)
in_order ps descending = made record { items = ps; descending = descending }

abbrev pub ordered : Option (List Part) → Form Token (clause.Order Part)
ordered (Some ps) = then direction (in_order ps)
ordered None = made record { items = []; descending = false }

abbrev pub order : Form Token (clause.Order Part)
order = then (items_by kind.Order) ordered

abbrev pub limit : Form Token (Option ℕ)
limit = behind_word kind.Limit (λ word. then (told whole) (λ n. made (Some n))) (made None)

-- SELECT, clause by clause.

abbrev pub Selected : Type 0
Selected = clause.Select Target Part Part

abbrev pub in_select : Bool → List Target → clause.Filters Part → Option (List Part)
    → clause.Order Part → Option ℕ → Form Token Selected
in_select distinct shown filters group order limit = made record {
  distinct = distinct;
  targets = shown;
  filters = filters;
  group = group;
  order = order;
  limit = limit;
}

abbrev pub behind_order : Bool → List Target → clause.Filters Part → Option (List Part)
    → clause.Order Part → Form Token Selected
behind_order distinct shown filters group order =
    then limit (in_select distinct shown filters group order)

abbrev pub behind_group : Bool → List Target → clause.Filters Part → Option (List Part)
    → Form Token Selected
behind_group distinct shown filters group =
    then order (behind_order distinct shown filters group)

abbrev pub behind_filters : Bool → List Target → clause.Filters Part → Form Token Selected
behind_filters distinct shown filters =
    then (items_by kind.Group) (behind_group distinct shown filters)

abbrev pub behind_targets : Bool → List Target → Form Token Selected
behind_targets distinct shown = then filters (behind_filters distinct shown)

abbrev pub behind_distinct : List ℕ → Bool → Form Token Selected
behind_distinct text distinct = then (shown text) (behind_targets distinct)

abbrev pub select : List ℕ → Form Token Selected
select text = then (flag kind.Distinct) (behind_distinct text)

-- JOURNAL and BALANCES.

abbrev pub name_at : Token → NameRead
name_at t = record { start = t.start; text = t.text }

abbrev pub at : Form Token (Option NameRead)
at =
    behind_word kind.At (λ word. then (token kind.Name) (λ name. made (Some (name_at name))))
    (made None)

abbrev pub pattern : Form Token (Option (List ℕ))
pattern = behind_word kind.Text (λ text. made (Some text.text)) (made None)

abbrev pub Journaled : Type 0
Journaled = clause.Journal NameRead Part

abbrev pub in_journal : Option (List ℕ) → Option NameRead → Option Part → Form Token Journaled
in_journal pattern at from = made record { pattern = pattern; at = at; from = from }

abbrev pub behind_at : Option (List ℕ) → Option NameRead → Form Token Journaled
behind_at pattern at = then (filter kind.From Transactions) (in_journal pattern at)

abbrev pub behind_pattern : Option (List ℕ) → Form Token Journaled
behind_pattern pattern = then at (behind_at pattern)

abbrev pub journal : Form Token Journaled
journal = then pattern behind_pattern

abbrev pub Balanced : Type 0
Balanced = clause.Balances NameRead Part

abbrev pub in_balances : Option NameRead → clause.Filters Part → Form Token Balanced
in_balances at filters = made record { at = at; filters = filters }

abbrev pub filters_behind : Option NameRead → Form Token Balanced
filters_behind at = then filters (in_balances at)

abbrev pub balances : Form Token Balanced
balances = then at filters_behind

-- Queries.

abbrev pub made_select : Selected → Form Token Read
made_select s = made (selecting s)

abbrev pub made_journal : Journaled → Form Token Read
made_journal j = made (journaling j)

abbrev pub made_balances : Balanced → Form Token Read
made_balances b = made (balancing b)

abbrev pub a_select : List ℕ → Token → Form Token Read
a_select text word = then (select text) made_select

abbrev pub a_journal : Token → Form Token Read
a_journal word = then journal made_journal

abbrev pub some_balances : Token → Form Token Read
some_balances word = then balances made_balances

abbrev pub fixed_clauses : Form Token Read
fixed_clauses = behind_word kind.Journal a_journal (then (token kind.Balances) some_balances)

abbrev pub clauses : List ℕ → Form Token Read
clauses text = behind_word kind.Select (a_select text) fixed_clauses

abbrev pub ended : Read → Bool → Form Token Read
ended read ends = made read

abbrev pub behind_clauses : Read → Form Token Read
behind_clauses read = then (flag kind.Semicolon) (ended read)

abbrev pub query : List ℕ → Form Token Read
query text = then (clauses text) behind_clauses
