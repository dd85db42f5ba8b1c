-- What is read of clauses leaves nothing open.
use Rattle.std.proofs.Common.{◌≡◌, ℕ, Bool, true, false, List, [], ◌∷◌, Some, None, length}
use Rattle.std.proofs.Common.{Option, refl, sym, ap, ◌∙◌, subst, inl, inr}
use Rattle.theory.specs.Form.{Form, made, ItemsRead}
use Rattle.bql_lexer.specs.declared.kind.Kind.{Kind}
use Rattle.bql_lexer.specs.declared.kind.Kind.TheVariants as kind
use Rattle.bql_lexer.specs.declared.token.Token.{Token}
use Rattle.bql_grammar.specs.Expression.{told, token, then, choice, list_of, behind_comma}
use Rattle.bql_grammar.specs.Expression.{expression}
use Rattle.bql_grammar.specs.Front.{begins, of_kind}
use Rattle.bql_grammar.specs.Nesting.{Standing, behind, wanting, role, Parts}
use Rattle.bql_grammar.specs.Nesting.{after, still_open, Last, Wants, Names, Ends, IsLiteral}
use Rattle.bql_grammar.proofs.AgainFacts.{IsInner, Agains, loosely, told_again, made_again}
use Rattle.bql_grammar.proofs.AgainFacts.{then_again, choice_again, list_again, inner_kind}
use Rattle.bql_grammar.proofs.AgainExpressions.{chain_repeats}
use Rattle.bql_grammar.proofs.ExpressionFacts.{rows}
use Rattle.bql_grammar.proofs.FormFacts.{IsFixed}
use Rattle.bql_grammar.proofs.StandingFacts.{Leads, leads_here, leads_on, leads_kind, leads_by}
use Rattle.bql_grammar.proofs.StandingFacts.{fronts_of, kind_is}
use Rattle.bql_grammar.proofs.PassingFacts.{any_chain}
use Rattle.bql_grammar.proofs.DepthFacts.{ended_others}
use Rattle.bql_tree.specs.Part.{Part}
use Rattle.bql_tree.specs.declared.function.Scope.{Scope}
use Rattle.bql_tree.specs.declared.function.Scope.TheVariants.{Transactions, Postings}
use Rattle.bql_tree.specs.declared.level.Level.TheVariants as level
use Rattle.bql_grammar.specs.Grammar.{behind_word, flag, filter, filtered, filters, behind_from}
use Rattle.bql_grammar.specs.Grammar.{in_filters, items, items_behind, items_by, by_items}
use Rattle.bql_grammar.specs.Grammar.{some, with_name, target, targets, shown, all_shown, direction}
use Rattle.bql_grammar.specs.Grammar.{ordered, order, limit, select, behind_distinct, in_order, named}
use Rattle.bql_grammar.specs.Grammar.{behind_targets, behind_filters, behind_group, behind_order}
use Rattle.bql_grammar.specs.Grammar.{in_select, at, pattern, journal, behind_pattern, behind_at}
use Rattle.bql_grammar.specs.Grammar.{in_journal, balances, filters_behind, in_balances, clauses}
use Rattle.bql_grammar.specs.Grammar.{a_select, a_journal, some_balances, fixed_clauses, made_select}
use Rattle.bql_grammar.specs.Grammar.{made_journal, made_balances, name_at, query, behind_clauses}
use Rattle.bql_grammar.specs.Grammar.{ended}
use Rattle.bql_grammar.specs.Piece.{whole, whole_of}
use Rattle.bql_grammar.specs.Stopping.{IsFresh, IsClear, IsClearFor}

abbrev pub Where : Type 1
Where = Standing → List Token → Type 0

pub record Goes (to : Where) (p : Standing) (ts rest : List Token) : Type 0 where
  pub there : Standing
  pub leads : Leads p ts there rest
  pub at : to there rest

-- What is read leads from the one to the other, and before another rest too.
pub record Moves {V : Type 0} (from to : Where) (a : Form Token V) : Type 0 where
  pub goes : (ts : List Token) (v : V) (rest : List Token) → a.reads ts v rest → (p : Standing)
      → from p ts → Goes to p ts rest
  pub again : Agains false a

pub goes_on : (to : Where) (p : Standing) (ts : List Token) (q : Standing) (mid rest : List Token)
    → Leads p ts q mid → Goes to q mid rest → Goes to p ts rest
goes_on to p ts q mid rest a b = record {
  there = b.there;
  leads = leads_on p ts q mid b.there rest a b.leads;
  at = b.at;
}

pub fresh_is_clear : (p : Standing) (ts : List Token) → IsFresh p ts → IsClear p ts
fresh_is_clear p ts e =
    subst (λ q. IsClear q ts) (sym e) record { none = refl; alone = refl }

pub from_fresh : {V : Type 0} (to : Where) (a : Form Token V) → Moves IsClear to a
    → Moves IsFresh to a
from_fresh to a moves = record {
  goes = λ ts v rest r p at. moves.goes ts v rest r p (fresh_is_clear p ts at);
  again = moves.again;
}

pub to_clear : {V : Type 0} (from : Where) (a : Form Token V) → Moves from IsFresh a
    → Moves from IsClear a
to_clear from a moves = record {
  goes = λ ts v rest r p at.
      let g = moves.goes ts v rest r p at in
      record { there = g.there; leads = g.leads; at = fresh_is_clear g.there rest g.at };
  again = moves.again;
}

pub then_moves : {V W : Type 0} (from mid to : Where) (a : Form Token V) (k : V → Form Token W)
    → Moves from mid a → ((v : V) → Moves mid to (k v)) → Moves from to (then a k)
then_moves from mid to a k f g = record {
  goes = λ ts w rest r p at.
      let first = f.goes ts r.0 r.1 r.2 p at in
      goes_on to p ts first.there r.1 rest first.leads
      ((g r.0).goes r.1 w rest r.3 first.there first.at);
  again = then_again false a k f.again (λ v. (g v).again);
}

choice_goes : {V : Type 0} (from to : Where) (test : List Token → Bool) (a b : Form Token V)
    → Moves from to a → Moves from to b → (ts : List Token) (v : V) (rest : List Token)
    → (choice test a b).reads ts v rest → (p : Standing) → from p ts → Goes to p ts rest
choice_goes from to test a b f g ts v rest (inl r) p at = f.goes ts v rest r.1 p at
choice_goes from to test a b f g ts v rest (inr r) p at = g.goes ts v rest r.1 p at

-- behind a word where it stands, or else
choice_moves : {V : Type 0} (from mid to : Where) (k : Kind) (g : Token → Form Token V)
    (z : Form Token V) → IsInner (of_kind k) → Moves from mid (token k)
    → ((t : Token) → Moves mid to (g t)) → Moves from to z → Moves from to (behind_word k g z)
choice_moves from mid to k g z inner word f h = record {
  goes = choice_goes from to (begins (of_kind k)) (then (token k) g) z
      (then_moves from mid to (token k) g word f) h;
  again = choice_again false (of_kind k) (then (token k) g) z inner
      (then_again true (token k) g (told_again (of_kind k)) (λ t. (f t).again)) h.again;
}

pub made_moves : {V : Type 0} (from : Where) (v : V) → Moves from from (made v)
made_moves from v = record {
  goes = λ ts w rest r p at.
      subst (λ us. Goes from p ts us) r.1 record { there = p; leads = leads_here p ts; at = at };
  again = made_again v;
}

once_told : {V : Type 0} (f : Token → Option V) → Agains false (told f)
once_told f = loosely (told f) (told_again f)

-- a word of clauses closes nothing
pub inner_word : (k : Kind) → role k ≡ Parts → IsInner (of_kind k)
inner_word k e t c = by (of_kind k t) refl
  where
    by : (o : Option Token) → of_kind k t ≡ o → of_kind k t ≡ None
    by None is = is
    by (Some v) is =
        let same = ap role (sym c ∙ kind_is k t v is) in
        absurd (cc (same, e))

-- Tokens.

pub word_moves : (k : Kind) → role k ≡ Parts → Moves IsClear IsFresh (token k)
word_moves k e = record {
  goes = λ ts v rest r p at. record {
    there = after (role k) p.within p.last;
    leads = leads_kind k p ts v rest r;
    at = ap (λ o. after o p.within p.last) e ∙ ap wanting at.none;
  };
  again = once_told (of_kind k);
}

pub any_word_moves : (k : Kind) → Moves (IsClearFor k) IsFresh (token k)
any_word_moves k = record {
  goes = λ ts v rest r p at. (word_moves k at.0).goes ts v rest r p at.1;
  again = once_told (of_kind k);
}

alone_by : (last : Last) (b : Bool) → length (still_open last b []) ≡ 0
alone_by Names true = refl
alone_by Names false = refl
alone_by last b = refl

behind_clear : (last : Last) (ts : List Token) → IsClear (behind [] last) ts
behind_clear last ts = record {
  none = refl;
  alone = alone_by last (begins (of_kind kind.OpenParenthesis) ts);
}

-- a token that ends an operand
ends_clear : (ts : List Token) (p q : Standing) (last : Last) (rest : List Token) → IsFresh p ts
    → Leads (wanting []) ts q rest → q ≡ behind [] last → Goes IsClear p ts rest
ends_clear ts p q last rest at leads e =
    subst (λ s. Goes IsClear s ts rest) (sym at)
    record {
      there = q;
      leads = leads;
      at = subst (λ s. IsClear s rest) (sym e) (behind_clear last rest);
    }

pub name_moves : Moves IsFresh IsClear (token kind.Name)
name_moves = record {
  goes = λ ts v rest r p at.
      ends_clear ts p (behind [] Names) Names rest at
      (leads_kind kind.Name (wanting []) ts v rest r) refl;
  again = once_told (of_kind kind.Name);
}

pub text_moves : Moves IsFresh IsClear (token kind.Text)
text_moves = record {
  goes = λ ts v rest r p at.
      ends_clear ts p (behind [] Ends) Ends rest at
      (leads_kind kind.Text (wanting []) ts v rest r) refl;
  again = once_told (of_kind kind.Text);
}

whole_is : (k : Kind) (bs : List ℕ) (n : ℕ) → whole_of k bs ≡ Some n → role k ≡ IsLiteral
whole_is kind.Number bs n e = refl
whole_is k bs n e = absurd cc

pub whole_moves : Moves IsFresh IsClear (told whole)
whole_moves = record {
  goes = λ ts n rest r p at.
      let o = fronts_of whole ts n rest r in
      ends_clear ts p (behind [] Ends) Ends rest at
      (leads_by (wanting []) ts o.token rest (behind [] Ends) o.at
      (ap (λ r. after r [] Wants) (whole_is o.token.kind o.token.text n o.is))) refl;
  again = once_told whole;
}

star_moves : Moves IsFresh IsFresh (token kind.Star)
star_moves = record {
  goes = λ ts v rest r p at.
      subst (λ s. Goes IsFresh s ts rest) (sym at)
      record {
        there = wanting [];
        leads = leads_kind kind.Star (wanting []) ts v rest r;
        at = refl;
      };
  again = once_told (of_kind kind.Star);
}

-- Expressions.

pub expression_moves : (scope : Scope) → Moves IsFresh IsClear (expression scope)
expression_moves scope = record {
  goes = λ ts v rest r p at.
      let passing = any_chain level.Or scope 200 ts v rest r [] in
      let q = passing.to in
      subst (λ s. Goes IsClear s ts rest) (sym at)
      record {
        there = q;
        leads = passing.leads;
        at = record {
          none = passing.behind.same;
          alone = ap length (ended_others q.last q.within rest passing.behind.whole
              ∙ passing.behind.same);
        };
      };
  again = loosely (expression scope) (chain_repeats level.Or scope 200);
}

-- Lists.

items_move : {V : Type 0} (a : Form Token V) → Moves IsFresh IsClear a → (vs : List V)
    (ts rest : List Token) → ItemsRead (behind_comma a) ts vs rest → (p : Standing) → IsClear p ts
    → Goes IsClear p ts rest
items_move a moves [] ts rest e p at =
    subst (λ us. Goes IsClear p ts us) e record { there = p; leads = leads_here p ts; at = at }
items_move a moves (v ∷ vs) ts rest r p at =
    let link = then_moves IsClear IsFresh IsClear (token kind.Comma) (λ comma. a)
    (word_moves kind.Comma refl) (λ comma. moves) in
    let next = link.goes ts v r.0 r.1 p at in
    goes_on IsClear p ts next.there r.0 rest next.leads
    (items_move a moves vs r.0 rest r.2 next.there next.at)

pub rows_move : {V : Type 0} (a : Form Token V) → Moves IsFresh IsClear a → (ts : List Token)
    (vs : List V) (rest : List Token) → (rows a).reads ts vs rest → (p : Standing) → IsFresh p ts
    → Goes IsClear p ts rest
rows_move a moves ts s rest r p at =
    let first = moves.goes ts r.0 r.2 r.3 p at in
    goes_on IsClear p ts first.there r.2 rest first.leads
    (items_move a moves r.1 r.2 rest r.4 first.there first.at)

list_moves : {V : Type 0} (a : Form Token V) → IsFixed a → Agains true a → Moves IsFresh IsClear a
    → Moves IsFresh IsClear (list_of a)
list_moves a fixed again moves = record {
  goes = λ ts s rest r p at. rows_move a moves ts s rest r.0 p at;
  again = loosely (list_of a) (list_again a fixed again);
}

-- Words and what stands behind them.

pub behind_word_moves : {V : Type 0} (from : Where) (k : Kind) (g : Token → Form Token V)
    (z : Form Token V) → IsInner (of_kind k) → Moves from IsFresh (token k)
    → ((t : Token) → Moves IsFresh IsClear (g t)) → Moves from IsClear z
    → Moves from IsClear (behind_word k g z)
behind_word_moves from k g z inner word f h = choice_moves from IsFresh IsClear k g z inner word f h

-- where the word stands, or nothing
due_moves : {V : Type 0} (k : Kind) (g : Token → Form Token V) (v : V) → role k ≡ Parts
    → ((t : Token) → Moves IsFresh IsClear (g t)) → Moves IsClear IsClear (behind_word k g (made v))
due_moves k g v e f =
    behind_word_moves IsClear k g (made v) (inner_word k e) (word_moves k e) f
    (made_moves IsClear v)

made_clear : {V : Type 0} (v : V) → Moves IsFresh IsClear (made v)
made_clear v = from_fresh IsClear (made v) (made_moves IsClear v)

pub flag_moves : (k : Kind) → role k ≡ Parts → Moves IsClear IsClear (flag k)
flag_moves k e = due_moves k (λ word. made true) false e (λ t. made_clear true)

pub first_word : (k : Kind) → role k ≡ Parts → Moves IsFresh IsFresh (token k)
first_word k e = from_fresh IsFresh (token k) (word_moves k e)

pub distinct_moves : Moves IsFresh IsFresh (flag kind.Distinct)
distinct_moves =
    choice_moves IsFresh IsFresh IsFresh kind.Distinct (λ word. made true) (made false)
    (inner_word kind.Distinct refl) (first_word kind.Distinct refl) (λ t. made_moves IsFresh true)
    (made_moves IsFresh false)

pub filter_moves : (k : Kind) (scope : Scope) → role k ≡ Parts
    → Moves IsClear IsClear (filter k scope)
filter_moves k scope e =
    due_moves k (filtered scope) None e
    (λ t. then_moves IsFresh IsClear IsClear (expression scope) some (expression_moves scope)
    (λ v. made_moves IsClear (Some v)))

pub filters_move : Moves IsClear IsClear filters
filters_move =
    then_moves IsClear IsClear IsClear (filter kind.From Transactions) behind_from
    (filter_moves kind.From Transactions refl)
    (λ from. then_moves IsClear IsClear IsClear (filter kind.Where Postings) (in_filters from)
    (filter_moves kind.Where Postings refl)
    (λ passing. made_moves IsClear record { from = from; filter = passing }))

pub items_move_whole : Moves IsFresh IsClear items
items_move_whole =
    list_moves (expression Postings) (λ rest. refl) (chain_repeats level.Or Postings 200)
    (expression_moves Postings)

pub by_moves : Moves IsFresh IsFresh (token kind.By)
by_moves = from_fresh IsFresh (token kind.By) (word_moves kind.By refl)

pub items_by_moves : (k : Kind) → role k ≡ Parts → Moves IsClear IsClear (items_by k)
items_by_moves k e =
    due_moves k by_items None e
    (λ t. then_moves IsFresh IsFresh IsClear (token kind.By) items_behind by_moves
    (λ by. then_moves IsFresh IsClear IsClear items some items_move_whole
    (λ ps. made_moves IsClear (Some ps))))

pub with_name_moves : (text : List ℕ) (p : Part) → Moves IsClear IsClear (with_name text p)
with_name_moves text p =
    due_moves kind.As (λ word. then (token kind.Name) (λ name. made (named p name))) _ refl
    (λ t. then_moves IsFresh IsClear IsClear (token kind.Name) (λ name. made (named p name))
    name_moves (λ name. made_moves IsClear (named p name)))

pub target_moves : (text : List ℕ) → Moves IsFresh IsClear (target text)
target_moves text =
    then_moves IsFresh IsClear IsClear (expression Postings) (with_name text)
    (expression_moves Postings) (with_name_moves text)

pub target_again : (text : List ℕ) → Agains true (target text)
target_again text =
    then_again true (expression Postings) (with_name text) (chain_repeats level.Or Postings 200)
    (λ p. (with_name_moves text p).again)

pub shown_moves : (text : List ℕ) → Moves IsFresh IsClear (shown text)
shown_moves text =
    behind_word_moves IsFresh kind.Star all_shown (targets text) (inner_kind kind.Star refl)
    star_moves (λ star. made_clear _)
    (list_moves (target text) (λ rest. refl) (target_again text) (target_moves text))

direction_moves : Moves IsClear IsClear direction
direction_moves =
    behind_word_moves IsClear kind.Desc (λ word. made true)
    (then (flag kind.Asc) (λ ascends. made false)) (inner_word kind.Desc refl)
    (word_moves kind.Desc refl) (λ t. made_clear true)
    (then_moves IsClear IsClear IsClear (flag kind.Asc) (λ ascends. made false)
    (flag_moves kind.Asc refl) (λ ascends. made_moves IsClear false))

ordered_moves : (found : Option (List Part)) → Moves IsClear IsClear (ordered found)
ordered_moves None = made_moves IsClear record { items = []; descending = false }
ordered_moves (Some ps) =
    then_moves IsClear IsClear IsClear direction (in_order ps) direction_moves
    (λ descending. made_moves IsClear record { items = ps; descending = descending })

pub order_moves : Moves IsClear IsClear order
order_moves =
    then_moves IsClear IsClear IsClear (items_by kind.Order) ordered
    (items_by_moves kind.Order refl) ordered_moves

pub limit_moves : Moves IsClear IsClear limit
limit_moves =
    due_moves kind.Limit (λ word. then (told whole) (λ n. made (Some n))) None refl
    (λ t. then_moves IsFresh IsClear IsClear (told whole) (λ n. made (Some n)) whole_moves
    (λ n. made_moves IsClear (Some n)))

pub at_moves : Moves IsClear IsClear at
at_moves =
    due_moves kind.At (λ word. then (token kind.Name) (λ name. made (Some (name_at name)))) None refl
    (λ t. then_moves IsFresh IsClear IsClear (token kind.Name)
    (λ name. made (Some (name_at name))) name_moves
    (λ name. made_moves IsClear (Some (name_at name))))

pub pattern_moves : Moves IsFresh IsClear pattern
pattern_moves =
    choice_moves IsFresh IsClear IsClear kind.Text (λ text. made (Some text.text)) (made None)
    (inner_kind kind.Text refl) text_moves (λ text. made_moves IsClear (Some text.text))
    (made_clear None)

-- Whole clauses.

pub select_moves : (text : List ℕ) → Moves IsFresh IsClear (select text)
select_moves text =
    then_moves IsFresh IsFresh IsClear (flag kind.Distinct) (behind_distinct text) distinct_moves
    (λ d. then_moves IsFresh IsClear IsClear (shown text) (behind_targets d) (shown_moves text)
    (λ ts. then_moves IsClear IsClear IsClear filters (behind_filters d ts) filters_move
    (λ fs. then_moves IsClear IsClear IsClear (items_by kind.Group) (behind_group d ts fs)
    (items_by_moves kind.Group refl)
    (λ g. then_moves IsClear IsClear IsClear order (behind_order d ts fs g) order_moves
    (λ o. then_moves IsClear IsClear IsClear limit (in_select d ts fs g o) limit_moves
    (λ n. made_moves IsClear _))))))

pub journal_moves : Moves IsFresh IsClear journal
journal_moves =
    then_moves IsFresh IsClear IsClear pattern behind_pattern pattern_moves
    (λ text. then_moves IsClear IsClear IsClear at (behind_at text) at_moves
    (λ name. then_moves IsClear IsClear IsClear (filter kind.From Transactions)
    (in_journal text name) (filter_moves kind.From Transactions refl)
    (λ from. made_moves IsClear record { pattern = text; at = name; from = from })))

pub balances_move : Moves IsClear IsClear balances
balances_move =
    then_moves IsClear IsClear IsClear at filters_behind at_moves
    (λ name. then_moves IsClear IsClear IsClear filters (in_balances name) filters_move
    (λ fs. made_moves IsClear record { at = name; filters = fs }))

fixed_move : Moves IsFresh IsClear fixed_clauses
fixed_move =
    behind_word_moves IsFresh kind.Journal a_journal (then (token kind.Balances) some_balances)
    (inner_word kind.Journal refl) (first_word kind.Journal refl)
    (λ t. then_moves IsFresh IsClear IsClear journal made_journal journal_moves
    (λ j. made_moves IsClear _))
    (then_moves IsFresh IsFresh IsClear (token kind.Balances) some_balances
    (first_word kind.Balances refl)
    (λ t. then_moves IsFresh IsClear IsClear balances made_balances
    (from_fresh IsClear balances balances_move) (λ b. made_moves IsClear _)))

pub clauses_move : (text : List ℕ) → Moves IsFresh IsClear (clauses text)
clauses_move text =
    behind_word_moves IsFresh kind.Select (a_select text) fixed_clauses
    (inner_word kind.Select refl) (first_word kind.Select refl)
    (λ t. then_moves IsFresh IsClear IsClear (select text) made_select (select_moves text)
    (λ s. made_moves IsClear _))
    fixed_move

pub query_again : (text : List ℕ) → Agains false (query text)
query_again text =
    then_again false (clauses text) behind_clauses (clauses_move text).again
    (λ read. then_again false (flag kind.Semicolon) (ended read)
    (flag_moves kind.Semicolon refl).again (λ ends. made_again read))
