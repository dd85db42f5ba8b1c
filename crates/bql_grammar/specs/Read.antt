-- The clauses of a query, as they were read.
use Rattle.std.specs.Prelude.{ℕ, List, map, Option, Some, None, Vec}
use Rattle.std.specs.List.{position}
use Rattle.std.specs.Str.{str_eq_ignore_ascii_case}
use Rattle.std.specs.declared.alloc.Global.{Global}
use Rattle.bql_tree.specs.Part.{Part, part_of, parts_of}
use Rattle.bql_tree.specs.declared.part.Part as pieces
use Rattle.bql_grammar.specs.Clause as clause
use Rattle.bql_grammar.specs.Clause.{selecting, journaling, balancing}
use Rattle.bql_grammar.specs.declared.clauses.BalancesRead.{BalancesRead}
use Rattle.bql_grammar.specs.declared.clauses.FiltersRead.{FiltersRead}
use Rattle.bql_grammar.specs.declared.clauses.JournalRead.{JournalRead}
use Rattle.bql_grammar.specs.declared.clauses.NameRead.{NameRead}
use Rattle.bql_grammar.specs.declared.clauses.OrderRead.{OrderRead}
use Rattle.bql_grammar.specs.declared.clauses.QueryRead.{QueryRead}
use Rattle.bql_grammar.specs.declared.clauses.QueryRead.TheVariants.{Select, Journal, Balances}
use Rattle.bql_grammar.specs.declared.clauses.SelectRead.{SelectRead}
use Rattle.bql_grammar.specs.declared.clauses.TargetRead as targets

-- a target with its name
pub record Target : Type 0 where
  pub name : List ℕ
  pub part : Part

abbrev pub Read : Type 0
Read = clause.Query Target Part Part NameRead

-- What the structs of the parser stand for.

abbrev pub same : {A : Type 0} → A → A
same a = a

abbrev pub target_of : targets.TargetRead → Target
target_of t = record { name = t.name; part = part_of t.part }

abbrev pub targets_in : List targets.TargetRead → List Target
targets_in ts = map target_of ts

abbrev pub targets_of : Vec targets.TargetRead Global → List Target
targets_of v = targets_in v.items

-- the first of a name, in small or capital letters
abbrev pub first_named : List targets.TargetRead → List ℕ → Option ℕ
first_named ts name =
    position (λ (t : targets.TargetRead). str_eq_ignore_ascii_case t.name name) ts

abbrev pub filter_of : Option pieces.Part → Option Part
filter_of (Some p) = Some (part_of p)
filter_of None = None

abbrev pub group_of : Option (Vec pieces.Part Global) → Option (List Part)
group_of (Some v) = Some (parts_of v)
group_of None = None

abbrev pub filters_of : FiltersRead → clause.Filters Part
filters_of f = record { from = filter_of f.from; filter = filter_of f.filter }

abbrev pub order_of : OrderRead → clause.Order Part
order_of o = record { items = parts_of o.items; descending = o.descending }

abbrev pub select_of : SelectRead → clause.Select Target Part Part
select_of s = record {
  distinct = s.distinct;
  targets = targets_of s.targets;
  filters = filters_of s.filters;
  group = group_of s.group;
  order = order_of s.order;
  limit = s.limit;
}

abbrev pub journal_of : JournalRead → clause.Journal NameRead Part
journal_of j = record { pattern = j.pattern; at = j.at; from = filter_of j.from }

abbrev pub balances_of : BalancesRead → clause.Balances NameRead Part
balances_of b = record { at = b.at; filters = filters_of b.filters }

abbrev pub read_of : QueryRead → Read
read_of (Select s) = selecting (select_of s)
read_of (Journal j) = journaling (journal_of j)
read_of (Balances b) = balancing (balances_of b)
