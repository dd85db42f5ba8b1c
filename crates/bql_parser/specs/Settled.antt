-- What a query asks, or the least cause for which it is refused.
use Rattle.std.specs.Prelude.{ℕ, ℤ, pos, negsuc, zero, suc, ◌==◌, nat_lt, Bool, false, not, List}
use Rattle.std.specs.Prelude.{[], ◌∷◌, ◌++◌, map, length, codes, Option, Some, None, Result, Ok}
use Rattle.std.specs.Prelude.{Err}
use Rattle.std.specs.Prelude.{if◌then◌else◌}
use Rattle.std.specs.List.{slice_get, position, list_any}
use Rattle.std.specs.Str.{str_eq_ignore_ascii_case}
use Rattle.limits.specs.declared.counts.TheConstants.{LARGEST_QUERY, MOST_ITEMS}
use Rattle.theory.specs.Form.{steps}
use Rattle.bean_base.specs.Numeral.{is_point}
use Rattle.bql_tree.specs.Cause.{unknown_name, outside_profile, both}
use Rattle.bql_tree.specs.Function.{is_left_out}
use Rattle.bql_tree.specs.Part.{Part, too_high, not_null}
use Rattle.bql_tree.specs.Tree.{Tree, node, leaf_of}
use Rattle.bql_tree.specs.declared.cause.PartCause.{PartCause}
use Rattle.bql_tree.specs.declared.part.Alone.{Alone}
use Rattle.bql_tree.specs.declared.part.Alone.TheVariants.{No, Name, Number}
use Rattle.bql_tree.specs.declared.tree.Leaf.TheVariants as leaf
use Rattle.bql_parser.specs.Asked.{Asked, Target, Item, ItemKind, target_item, tree_item}
use Rattle.bql_grammar.specs.Clause as clause
use Rattle.bql_grammar.specs.Clause.{selecting, journaling, balancing}
use Rattle.bql_grammar.specs.Read.{Read}
use Rattle.bql_grammar.specs.Read as read
use Rattle.bql_parser.specs.Standing as standing
use Rattle.bql_grammar.specs.declared.clauses.NameRead.{NameRead}
use Rattle.bql_parser.specs.declared.standing.Valuation.{Valuation}
use Rattle.bql_parser.specs.declared.standing.Valuation.TheVariants as valuation

abbrev pub mapped : {A B : Type 0} → (A → B) → Result A PartCause → Result B PartCause
mapped f (Ok a) = Ok (f a)
mapped f (Err c) = Err c

-- where something stands that may not, it is refused at its first byte
abbrev pub refused_at : {A : Type 0} → Option ℕ → Result A PartCause → Result A PartCause
refused_at (Some place) found = too_high place found
refused_at None found = found

-- one more behind those that were found, or the least cause
abbrev pub pushed : {A : Type 0} → Result (List A × A) PartCause → Result (List A) PartCause
pushed (Ok p) = Ok (p.0 ++ p.1 ∷ [])
pushed (Err c) = Err c

-- Targets.

abbrev pub target_start : read.Target → ℕ
target_start t = t.part.start

abbrev pub target : read.Target → Result Target PartCause
target t = mapped (λ tree. record { name = t.name; tree = tree }) (not_null t.part.tree)

abbrev pub one_target : Result (List Target) PartCause → read.Target → Result (List Target) PartCause
one_target found t = pushed (both found (target t))

abbrev pub each_target : List read.Target → Result (List Target) PartCause
each_target ts = steps one_target (Ok []) ts

-- the first of too many is refused
abbrev pub targets : List read.Target → Result (List Target) PartCause
targets ts = refused_at (slice_get (map target_start ts) MOST_ITEMS) (each_target ts)

-- Filters.

abbrev pub filter : Option Part → Result (Option (Tree ℕ)) PartCause
filter (Some p) = mapped Some (not_null p.tree)
filter None = Ok None

abbrev pub in_filters : Option (Tree ℕ) × Option (Tree ℕ) → clause.Filters (Tree ℕ)
in_filters p = record { from = p.0; filter = p.1 }

abbrev pub filters : clause.Filters Part → Result (clause.Filters (Tree ℕ)) PartCause
filters f = mapped in_filters (both (filter f.from) (filter f.filter))

-- Items of GROUP BY and ORDER BY.

-- the first target of the name, in small or capital letters
abbrev pub target_named : List read.Target → List ℕ → Option ℕ
target_named ts name = position (λ (t : read.Target). str_eq_ignore_ascii_case t.name name) ts

-- the index of the target that a whole number from 1 is
abbrev pub index_of : ℤ → Option ℕ
index_of (pos zero) = None
index_of (pos (suc n)) = Some n
index_of (negsuc n) = None

abbrev pub index_in : Tree ℕ → Option ℕ
index_in (node at (leaf_of (leaf.Number d)) ts) =
    if d.places == 0 then index_of d.count else None
index_in t = None

-- a whole number that no machine holds
abbrev pub is_great : Tree ℕ → Bool
is_great (node at (leaf_of (leaf.TooWide digits)) ts) = not (list_any is_point digits)
is_great t = false

abbrev pub by_index : ℕ → ℕ → Tree ℕ → Option ℕ → Result ItemKind PartCause
by_index count place t (Some index) =
    if nat_lt index count then Ok (target_item index) else Err (unknown_name place)
by_index count place t None = Ok (tree_item t)

-- a whole number from 1 is a target, and one above their count is unknown
abbrev pub by_number : ℕ → ℕ → Tree ℕ → Result ItemKind PartCause
by_number count place t =
    if is_great t then Err (unknown_name place) else by_index count place t (index_in t)

abbrev pub number_item : ℕ → ℕ → Result (Tree ℕ) PartCause → Result ItemKind PartCause
number_item count place (Ok t) = by_number count place t
number_item count place (Err c) = Err c

abbrev pub plain : Result (Tree ℕ) PartCause → Result ItemKind PartCause
plain found = mapped tree_item (not_null found)

abbrev pub name_item : Option ℕ → Result (Tree ℕ) PartCause → Result ItemKind PartCause
name_item (Some index) found = Ok (target_item index)
name_item None found = plain found

abbrev pub kind_by : List read.Target → ℕ → Alone → Result (Tree ℕ) PartCause → Result ItemKind PartCause
kind_by ts place (Name name) found = name_item (target_named ts name) found
kind_by ts place Number found = number_item (length ts) place found
kind_by ts place No found = plain found

abbrev pub item_at : ℕ → ItemKind → Item
item_at place kind = record { place = place; kind = kind }

abbrev pub item : List read.Target → Part → Result Item PartCause
item ts p = mapped (item_at p.start) (kind_by ts p.start p.alone p.tree)

abbrev pub one_item : List read.Target → Result (List Item) PartCause → Part
    → Result (List Item) PartCause
one_item ts found p = pushed (both found (item ts p))

abbrev pub part_start : Part → ℕ
part_start p = p.start

abbrev pub each_item : List read.Target → List Part → Result (List Item) PartCause
each_item ts ps = steps (one_item ts) (Ok []) ps

abbrev pub items : List read.Target → List Part → Result (List Item) PartCause
items ts ps = refused_at (slice_get (map part_start ps) MOST_ITEMS) (each_item ts ps)

abbrev pub group : List read.Target → Option (List Part) → Result (Option (List Item)) PartCause
group ts (Some ps) = mapped Some (items ts ps)
group ts None = Ok None

abbrev pub in_order : Result (List Item) PartCause → clause.Order Part
    → Result (clause.Order Item) PartCause
in_order found o = mapped (λ is. record { items = is; descending = o.descending }) found

abbrev pub order : List read.Target → clause.Order Part → Result (clause.Order Item) PartCause
order ts o = in_order (items ts o.items) o

-- Queries.

abbrev pub selected : clause.Select read.Target Part Part
    → ((List Target × clause.Filters (Tree ℕ)) × Option (List Item)) × clause.Order Item → Asked
selected s p = record {
  distinct = s.distinct;
  targets = p.0.0.0;
  filters = p.0.0.1;
  group = p.0.1;
  order = p.1;
  limit = s.limit;
}

abbrev pub select : clause.Select read.Target Part Part → Result Asked PartCause
select s =
    mapped (selected s)
    (both (both (both (targets s.targets) (filters s.filters)) (group s.targets s.group))
    (order s.targets s.order))

abbrev pub valuation_of : NameRead → Result Valuation PartCause
valuation_of name =
    if str_eq_ignore_ascii_case name.text (codes "units") then Ok valuation.Units
    else if str_eq_ignore_ascii_case name.text (codes "cost") then Ok valuation.Cost
    else if is_left_out name.text then Err (outside_profile name.start)
    else Err (unknown_name name.start)

-- what AT names
abbrev pub at : Option NameRead → Result (Option Valuation) PartCause
at (Some name) = mapped Some (valuation_of name)
at None = Ok None

abbrev pub journal_with : Option (List ℕ) → Option Valuation × Option (Tree ℕ) → Asked
journal_with pattern p = standing.journal pattern p.0 p.1

-- the SELECT that a JOURNAL stands for
abbrev pub journal : clause.Journal NameRead Part → Result Asked PartCause
journal j = mapped (journal_with j.pattern) (both (at j.at) (filter j.from))

abbrev pub balances_with : Option Valuation × clause.Filters (Tree ℕ) → Asked
balances_with p = standing.balances p.0 p.1

-- and that for which a BALANCES stands
abbrev pub balances : clause.Balances NameRead Part → Result Asked PartCause
balances b = mapped balances_with (both (at b.at) (filters b.filters))

-- all causes of the clauses are told apart by their places
abbrev pub settled : Read → Result Asked PartCause
settled (selecting s) = select s
settled (journaling j) = journal j
settled (balancing b) = balances b

-- a text of more than 65535 bytes is refused at the first that is too many
abbrev pub byte_beyond : ℕ → Option ℕ
byte_beyond len = if nat_lt LARGEST_QUERY len then Some LARGEST_QUERY else None

abbrev pub answer : List ℕ → Read → Result Asked PartCause
answer text r = refused_at (byte_beyond (length text)) (settled r)
