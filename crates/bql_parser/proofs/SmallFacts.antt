-- What is settled of small clauses is small.
use Rattle.std.proofs.Common.{◌≡◌, ℕ, zero, suc, ◌+◌, ◌<◌, ◌≤◌, Bool, true, false, cond, List}
use Rattle.std.proofs.Common.{[], ◌∷◌, length, map, get_or, Option, Some, None, IfSome, Result}
use Rattle.std.proofs.Common.{Ok, Err, ap, sym, subst, refl, arith, nat_lt, if◌then◌else◌}
use Rattle.std.proofs.lemmas.Bool.{ltb-true}
use Rattle.std.proofs.lemmas.Bool.Decides.{nat_tests}
use Rattle.std.proofs.lemmas.List.{length-map}
use Rattle.std.proofs.lemmas.Option.{slice_get_read}
use Rattle.std.specs.List.{AllByRecursion, slice_get, position_or_len}
use Rattle.std.specs.Str.{str_eq_ignore_ascii_case}
use Rattle.theory.specs.Form.{steps}
use Rattle.bql_lexer.specs.Tokens.{AreTokens}
use Rattle.bql_lexer.specs.declared.token.Token.{Token}
use Rattle.bql_tree.specs.Cause.{both, unknown_name}
use Rattle.bql_tree.specs.Part.{Part, too_high, not_null}
use Rattle.bql_tree.specs.Tree.{Tree}
use Rattle.bql_tree.specs.declared.cause.PartCause.{PartCause}
use Rattle.bql_tree.specs.declared.part.Alone.{Alone}
use Rattle.bql_tree.specs.declared.part.Alone.TheVariants.{No, Name, Number}
use Rattle.query_terms.specs.declared.column.Column.{Column}
use Rattle.query_terms.specs.declared.column.Column.TheVariants as column
use Rattle.bql_parser.specs.Asked.{Asked, Target, Item, ItemKind, target_item, tree_item}
use Rattle.bql_grammar.specs.Clause as clause
use Rattle.bql_grammar.specs.Clause.{selecting, journaling, balancing}
use Rattle.bql_grammar.specs.Grammar.{query}
use Rattle.bql_grammar.specs.Read as read
use Rattle.bql_grammar.specs.Read.{Read}
use Rattle.bql_parser.specs.Settled as settled
use Rattle.bql_parser.specs.Settled.{mapped, pushed, refused_at, byte_beyond}
use Rattle.bql_parser.specs.Small.{IsShort, IsSmallTree, IsSmallTarget, IsSmallKind, IsSmallItem}
use Rattle.bql_parser.specs.Small.{AreSmallItems, IsSmall, IsSmallFound}
use Rattle.bql_parser.specs.Standing as standing
use Rattle.bql_parser.specs.View.{draft_of}
use Rattle.bql_parser.specs.declared.query.Draft.{Draft}
use Rattle.bql_parser.specs.declared.standing.Valuation.{Valuation}
use Rattle.bql_parser.specs.declared.standing.Valuation.TheVariants as valuation
use Rattle.bql_parser.proofs.SmallClauses as clauses
use Rattle.bql_parser.proofs.SmallClauses.{keeps_query}
use Rattle.bql_parser.proofs.SmallExpressions.{AreSmallParts}
use Rattle.bql_parser.proofs.SmallForms.{all_pushed, pushed_length}
use Rattle.bql_parser.proofs.SmallParts.{Found, IsSmallPart, Both, both_found, not_null_found}
use Rattle.bql_parser.proofs.SmallTokens.{small_tokens}

mapped_found : {A B : Type 0} (P : A → Type 0) (Q : B → Type 0) (f : A → B) (r : Result A PartCause)
    → Found P r → ((a : A) → P a → Q (f a)) → Found Q (mapped f r)
mapped_found P Q f (Ok a) h go = go a h
mapped_found P Q f (Err c) h go = tt

-- ---- lists of what is found

-- so many, of each of which P holds
abbrev AreAll : {A : Type 0} → (A → Type 0) → ℕ → List A → Type 0
AreAll P n xs = AllByRecursion P xs × (length xs ≡ n)

pushed_found : {A : Type 0} (P : A → Type 0) (n : ℕ) (r : Result (List A × A) PartCause)
    → Found (Both (AreAll P n) P) r → Found (AreAll P (n + 1)) (pushed r)
pushed_found P n (Ok p) h =
    let l = pushed_length p.0 p.1 in
    let e = h.0.1 in
    (all_pushed P p.0 p.1 h.0.0 h.1, omega (arith, l, e))
pushed_found P n (Err c) h = tt

abbrev with_one : {A B : Type 0} → (A → Result B PartCause) → Result (List B) PartCause → A
    → Result (List B) PartCause
with_one g found x = pushed (both found (g x))

each_from : {A B : Type 0} (R : A → Type 0) (P : B → Type 0) (g : A → Result B PartCause)
    → ((x : A) → R x → Found P (g x)) → (n m : ℕ) (r : Result (List B) PartCause) (xs : List A)
    → Found (AreAll P n) r → AllByRecursion R xs → m ≡ n + length xs
    → Found (AreAll P m) (steps (with_one g) r xs)
each_from R P g go n m r [] h all e = subst (λ k. Found (AreAll P k) r) (omega (arith, e)) h
each_from R P g go n m r (x ∷ xs) h all e =
    each_from R P g go (n + 1) m (with_one g r x) xs
    (pushed_found P n (both r (g x)) (both_found (AreAll P n) P r (g x) h (go x all.0))) all.1
    (omega (arith, e))

each_found : {A B : Type 0} (R : A → Type 0) (P : B → Type 0) (g : A → Result B PartCause)
    → ((x : A) → R x → Found P (g x)) → (xs : List A) → AllByRecursion R xs
    → Found (AreAll P (length xs)) (steps (with_one g) (Ok []) xs)
each_found R P g go xs all = each_from R P g go 0 (length xs) (Ok []) xs (tt, refl) all (omega arith)

-- no more than a query may have

some_none : (n : ℕ) (o : Option ℕ) → o ≡ Some n → o ≡ None → ⊥
some_none n o e f = cc (e, f)

same_inside : (xs : List ℕ) (i d e : ℕ) → i < length xs → get_or xs i d ≡ get_or xs i e
same_inside [] i d e h = absurd (omega (arith, h))
same_inside (x ∷ xs) zero d e h = refl
same_inside (x ∷ xs) (suc i) d e h = same_inside xs i d e (omega (arith, h))

few_by : (xs : List ℕ) (is : Bool) → nat_lt 255 (length xs) ≡ is → slice_get xs 255 ≡ None
    → length xs ≤ 255
few_by xs true e none =
    let inside = ltb-true 255 (length xs) e in
    let x = get_or xs 255 0 in
    absurd (some_none x (slice_get xs 255)
    (slice_get_read xs (length xs) 255 x refl inside (same_inside xs 255 0 x inside)) none)
few_by xs false e none = grind (arith, nat_tests, e)

abbrev AreFew : {A : Type 0} → (A → Type 0) → ℕ → List A → Type 0
AreFew P n xs = AreAll P n xs × (n ≤ 255)

too_many : {A : Type 0} (P : A → Type 0) (place : ℕ) (r : Result A PartCause)
    → Found P (too_high place r)
too_many P place (Ok a) = tt
too_many P place (Err c) = tt

limited_by : {A : Type 0} (P : A → Type 0) (n : ℕ) (o : Option ℕ) (r : Result (List A) PartCause)
    → (o ≡ None → n ≤ 255) → Found (AreAll P n) r → Found (AreFew P n) (refused_at o r)
limited_by P n (Some place) r few h = too_many (AreFew P n) place r
limited_by P n None (Ok xs) few h = (h, few refl)
limited_by P n None (Err c) few h = tt

limited : {A B : Type 0} (P : B → Type 0) (start : A → ℕ) (xs : List A)
    (r : Result (List B) PartCause) → Found (AreAll P (length xs)) r
    → Found (AreFew P (length xs)) (refused_at (slice_get (map start xs) 255) r)
limited P start xs r h =
    limited_by P (length xs) (slice_get (map start xs) 255) r
    (λ none. let l = length-map xs start in
    let few = few_by (map start xs) (nat_lt 255 (length (map start xs))) refl none in
    omega (arith, l, few)) h

-- ---- targets

target_found : (t : read.Target) → clauses.IsSmallTarget t → Found IsSmallTarget (settled.target t)
target_found t h =
    mapped_found IsSmallTree IsSmallTarget (λ tree. record { name = t.name; tree = tree })
    (not_null t.part.tree) (not_null_found IsSmallTree t.part.tree h.1) (λ tree small. (h.0, small))

targets_found : (ts : List read.Target) → AllByRecursion clauses.IsSmallTarget ts
    → Found (AreFew IsSmallTarget (length ts)) (settled.targets ts)
targets_found ts all =
    limited IsSmallTarget settled.target_start ts (settled.each_target ts)
    (each_found clauses.IsSmallTarget IsSmallTarget settled.target target_found ts all)

-- ---- filters

abbrev IsFilter : Option (Tree ℕ) → Type 0
IsFilter o = IfSome o IsSmallTree

filter_found : (o : Option Part) → clauses.IsSmallFilter o → Found IsFilter (settled.filter o)
filter_found (Some p) h =
    mapped_found IsSmallTree IsFilter Some (not_null p.tree) (not_null_found IsSmallTree p.tree h)
    (λ t small. small)
filter_found None h = tt

abbrev AreFilters : clause.Filters (Tree ℕ) → Type 0
AreFilters f = IsFilter f.from × IsFilter f.filter

filters_found : (f : clause.Filters Part) → clauses.AreSmallFilters f
    → Found AreFilters (settled.filters f)
filters_found f h =
    mapped_found (Both IsFilter IsFilter) AreFilters settled.in_filters
    (both (settled.filter f.from) (settled.filter f.filter))
    (both_found IsFilter IsFilter (settled.filter f.from) (settled.filter f.filter)
    (filter_found f.from h.0) (filter_found f.filter h.1)) (λ p small. small)

-- ---- items

plain_found : (n : ℕ) (r : Result (Tree ℕ) PartCause) → Found IsSmallTree r
    → Found (IsSmallKind n) (settled.plain r)
plain_found n r h =
    mapped_found IsSmallTree (IsSmallKind n) tree_item (not_null r)
    (not_null_found IsSmallTree r h) (λ t small. small)

abbrev IsIndex : ℕ → Option ℕ → Type 0
IsIndex n o = IfSome o (λ i. i < n)

within : (i n : ℕ) (is : Bool) → nat_lt i n ≡ is → IsIndex n (cond is (Some i) None)
within i n true e = ltb-true i n e
within i n false e = tt

named_within : (ts : List read.Target) (name : List ℕ)
    → IsIndex (length ts) (settled.target_named ts name)
named_within ts name =
    let test : read.Target → Bool = λ t. str_eq_ignore_ascii_case t.name name in
    within (position_or_len test ts) (length ts) (nat_lt (position_or_len test ts) (length ts)) refl

name_found : (n : ℕ) (o : Option ℕ) (r : Result (Tree ℕ) PartCause) → IsIndex n o
    → Found IsSmallTree r → Found (IsSmallKind n) (settled.name_item o r)
name_found n (Some index) r h small = h
name_found n None r h small = plain_found n r small

index_found : (n place index : ℕ) (is : Bool) → nat_lt index n ≡ is
    → Found (IsSmallKind n) (if is then Ok (target_item index) else Err (unknown_name place))
index_found n place index true e = ltb-true index n e
index_found n place index false e = tt

by_index_found : (n place : ℕ) (t : Tree ℕ) (o : Option ℕ) → IsSmallTree t
    → Found (IsSmallKind n) (settled.by_index n place t o)
by_index_found n place t (Some index) h = index_found n place index (nat_lt index n) refl
by_index_found n place t None h = h

great_found : (n place : ℕ) (is : Bool) (r : Result ItemKind PartCause) → Found (IsSmallKind n) r
    → Found (IsSmallKind n) (if is then Err (unknown_name place) else r)
great_found n place true r h = tt
great_found n place false r h = h

number_found : (n place : ℕ) (r : Result (Tree ℕ) PartCause) → Found IsSmallTree r
    → Found (IsSmallKind n) (settled.number_item n place r)
number_found n place (Ok t) h =
    great_found n place (settled.is_great t) (settled.by_index n place t (settled.index_in t))
    (by_index_found n place t (settled.index_in t) h)
number_found n place (Err c) h = tt

kind_found : (ts : List read.Target) (place : ℕ) (a : Alone) (r : Result (Tree ℕ) PartCause)
    → Found IsSmallTree r → Found (IsSmallKind (length ts)) (settled.kind_by ts place a r)
kind_found ts place (Name name) r h =
    name_found (length ts) (settled.target_named ts name) r (named_within ts name) h
kind_found ts place Number r h = number_found (length ts) place r h
kind_found ts place No r h = plain_found (length ts) r h

item_found : (ts : List read.Target) (p : Part) → IsSmallPart p
    → Found (IsSmallItem (length ts)) (settled.item ts p)
item_found ts p h =
    mapped_found (IsSmallKind (length ts)) (IsSmallItem (length ts)) (settled.item_at p.start)
    (settled.kind_by ts p.start p.alone p.tree) (kind_found ts p.start p.alone p.tree h)
    (λ k small. small)

some_few : (n m : ℕ) (is : List Item) → AreFew (IsSmallItem n) m is → AreSmallItems n is
some_few n m is h =
    let e = h.0.1 in let few = h.1 in record { few = omega (arith, e, few); all = h.0.0 }

items_few : (ts : List read.Target) (ps : List Part) → AreSmallParts ps
    → Found (AreFew (IsSmallItem (length ts)) (length ps)) (settled.items ts ps)
items_few ts ps all =
    limited (IsSmallItem (length ts)) settled.part_start ps (settled.each_item ts ps)
    (each_found IsSmallPart (IsSmallItem (length ts)) (settled.item ts) (item_found ts) ps all)

found_few : (n m : ℕ) (r : Result (List Item) PartCause) → Found (AreFew (IsSmallItem n) m) r
    → Found (AreSmallItems n) r
found_few n m (Ok is) h = some_few n m is h
found_few n m (Err c) h = tt

items_found : (ts : List read.Target) (ps : List Part) → AreSmallParts ps
    → Found (AreSmallItems (length ts)) (settled.items ts ps)
items_found ts ps all =
    found_few (length ts) (length ps) (settled.items ts ps) (items_few ts ps all)

abbrev IsGroup : ℕ → Option (List Item) → Type 0
IsGroup n o = IfSome o (AreSmallItems n)

group_found : (ts : List read.Target) (o : Option (List Part)) → IfSome o AreSmallParts
    → Found (IsGroup (length ts)) (settled.group ts o)
group_found ts (Some ps) h =
    mapped_found (AreSmallItems (length ts)) (IsGroup (length ts)) Some (settled.items ts ps)
    (items_found ts ps h) (λ is small. small)
group_found ts None h = tt

abbrev IsOrder : ℕ → clause.Order Item → Type 0
IsOrder n o = AreSmallItems n o.items

order_found : (ts : List read.Target) (o : clause.Order Part) → clauses.IsSmallOrder o
    → Found (IsOrder (length ts)) (settled.order ts o)
order_found ts o h =
    mapped_found (AreSmallItems (length ts)) (IsOrder (length ts))
    (λ is. record { items = is; descending = o.descending }) (settled.items ts o.items)
    (items_found ts o.items h) (λ is small. small)

-- ---- SELECT

abbrev Targets : ℕ → List Target → Type 0
Targets n ts = AreFew IsSmallTarget n ts

abbrev Clauses : ℕ → ((List Target × clause.Filters (Tree ℕ)) × Option (List Item))
    × clause.Order Item → Type 0
Clauses n = Both (Both (Both (Targets n) AreFilters) (IsGroup n)) (IsOrder n)

selected_small : (s : clause.Select read.Target Part Part)
    (p : ((List Target × clause.Filters (Tree ℕ)) × Option (List Item)) × clause.Order Item)
    → 1 ≤ length s.targets → Clauses (length s.targets) p → IsSmall (settled.selected s p)
selected_small s p some h =
    let e = h.0.0.0.0.1 in
    let few = h.0.0.0.1 in
    record {
      some = omega (arith, e, some);
      few = omega (arith, e, few);
      targets = h.0.0.0.0.0;
      from = h.0.0.1.0;
      filter = h.0.0.1.1;
      group = subst (λ n. IsGroup n p.0.1) (sym e) h.0.1;
      order = subst (λ n. IsOrder n p.1) (sym e) h.1;
    }

select_found : (s : clause.Select read.Target Part Part) → clauses.IsSmallSelect s
    → Found IsSmall (settled.select s)
select_found s h =
    let n = length s.targets in
    let ts = settled.targets s.targets in
    let fs = settled.filters s.filters in
    let g = settled.group s.targets s.group in
    let o = settled.order s.targets s.order in
    mapped_found (Clauses n) IsSmall (settled.selected s) (both (both (both ts fs) g) o)
    (both_found (Both (Both (Targets n) AreFilters) (IsGroup n)) (IsOrder n) (both (both ts fs) g) o
    (both_found (Both (Targets n) AreFilters) (IsGroup n) (both ts fs) g
    (both_found (Targets n) AreFilters ts fs (targets_found s.targets h.targets.0)
    (filters_found s.filters h.filters)) (group_found s.targets s.group h.group))
    (order_found s.targets s.order h.order)) (λ p small. selected_small s p h.targets.1 small)

-- ---- JOURNAL and BALANCES

abbrev AnyValuation : Option Valuation → Type 0
AnyValuation at = Unit {0}

at_found : (r : Result (Option Valuation) PartCause) → Found AnyValuation r
at_found (Ok at) = tt
at_found (Err c) = tt

valued_small : (at : Option Valuation) (c : Column)
    → IsSmallTree (standing.valued at (standing.of_column c))
valued_small None c = (tt, tt)
valued_small (Some valuation.Units) c = (tt, ((tt, tt), tt))
valued_small (Some valuation.Cost) c = (tt, ((tt, tt), tt))

matching_small : (o : Option (List ℕ)) → IfSome o IsShort → IsFilter (standing.matching o)
matching_small (Some pattern) h = (h, ((tt, tt), tt))
matching_small None h = tt

journal_small : (pattern : Option (List ℕ)) (at : Option Valuation) (from : Option (Tree ℕ))
    → IfSome pattern IsShort → IsFilter from → IsSmall (standing.journal pattern at from)
journal_small pattern at from short small = record {
  some = omega arith;
  few = omega arith;
  targets =
      ((omega arith, (tt, tt)), ((omega arith, (tt, tt)), ((omega arith, (tt, tt)), ((omega arith, (tt, tt)), ((omega arith, (tt, tt)), ((omega arith, valued_small at column.Position), ((omega arith, valued_small at column.Balance), tt)))))));
  from = small;
  filter = matching_small pattern short;
  group = tt;
  order = record { few = omega arith; all = tt };
}

journal_found : (j : clause.Journal _ Part) → IfSome j.pattern IsShort
    → clauses.IsSmallFilter j.from → Found IsSmall (settled.journal j)
journal_found j short small =
    mapped_found (Both AnyValuation IsFilter) IsSmall (settled.journal_with j.pattern)
    (both (settled.at j.at) (settled.filter j.from))
    (both_found AnyValuation IsFilter (settled.at j.at) (settled.filter j.from)
    (at_found (settled.at j.at)) (filter_found j.from small))
    (λ p h. journal_small j.pattern p.0 p.1 short h.1)

balances_small : (at : Option Valuation) (f : clause.Filters (Tree ℕ)) → AreFilters f
    → IsSmall (standing.balances at f)
balances_small at f h = record {
  some = omega arith;
  few = omega arith;
  targets =
      ((omega arith, (tt, tt)), ((omega arith, (tt, (valued_small at column.Position, tt))), tt));
  from = h.0;
  filter = h.1;
  group = record { few = omega arith; all = (omega arith, tt) };
  order = record { few = omega arith; all = ((tt, ((tt, tt), tt)), (omega arith, tt)) };
}

balances_found : (b : clause.Balances _ Part) → clauses.AreSmallFilters b.filters
    → Found IsSmall (settled.balances b)
balances_found b small =
    mapped_found (Both AnyValuation AreFilters) IsSmall settled.balances_with
    (both (settled.at b.at) (settled.filters b.filters))
    (both_found AnyValuation AreFilters (settled.at b.at) (settled.filters b.filters)
    (at_found (settled.at b.at)) (filters_found b.filters small))
    (λ p h. balances_small p.0 p.1 h.1)

-- ---- queries

settled_found : (r : Read) → clauses.IsSmallRead r → Found IsSmall (settled.settled r)
settled_found (selecting s) h = select_found s h
settled_found (journaling j) h = journal_found j h.0 h.1
settled_found (balancing b) h = balances_found b h

is_found : (r : Result Asked PartCause) → Found IsSmall r → IsSmallFound r
is_found (Ok s) h = h
is_found (Err c) h = tt

-- what is settled of a text that is short is small
pub small_settled : (text : List ℕ) (ts : List Token) (r : Read) (found : Result Asked PartCause)
    → AreTokens text ts → (query text).reads ts r [] → found ≡ settled.settled r → IsShort text
    → IsSmallFound found
small_settled text ts r found are reads e short =
    let small = small_tokens (length text) text ts short are in
    subst IsSmallFound (sym e) (is_found (settled.settled r) (settled_found r
    ((keeps_query text short).keeps ts r [] small reads).0))

-- and a text that isn't short is refused

short_by : (n : ℕ) (long : Bool) (r : Result Draft PartCause) (d : Draft) → nat_lt 65535 n ≡ long
    → refused_at (if long then Some 65535 else None) r ≡ Ok d → (n ≤ 65535) × (r ≡ Ok d)
short_by n true (Ok c) d e is = absurd cc
short_by n true (Err c) d e is = absurd cc
short_by n false r d e is = (grind (arith, nat_tests, e), is)

pub answered_small : (n : ℕ) (r : Result Draft PartCause) (d : Draft)
    → (n ≤ 65535 → IsSmallFound (mapped draft_of r)) → refused_at (byte_beyond n) r ≡ Ok d
    → IsSmall (draft_of d)
answered_small n r d h is =
    let s = short_by n (nat_lt 65535 n) r d refl is in
    subst IsSmallFound (ap (mapped draft_of) s.1) (h s.0)
