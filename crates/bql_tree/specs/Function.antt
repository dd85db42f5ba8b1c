-- The functions of the query language, their names, and the words that the profile leaves out.
use Rattle.std.specs.Prelude.{ℕ, ◌||◌, Bool, true, false, List, [], codes, Option, Some, None}
use Rattle.std.specs.Prelude.{if◌then◌else◌}
use Rattle.std.specs.List.{find}
use Rattle.std.specs.Str.{str_eq_ignore_ascii_case}
use Rattle.bql_tree.specs.declared.function.Function as functions
use Rattle.bql_tree.specs.declared.function.Function.TheVariants.{Root, Parent, Leaf, Length, Units}
use Rattle.bql_tree.specs.declared.function.Function.TheVariants.{Cost, Year, Month, Day, Number}
use Rattle.bql_tree.specs.declared.function.Function.TheVariants.{Currency, Abs, Meta, EntryMeta}
use Rattle.bql_tree.specs.declared.function.Function.TheVariants.{AnyMeta, HasAccount, Count, Sum}
use Rattle.bql_tree.specs.declared.function.Function.TheVariants.{First, Last, Min, Max, OneOf, RootRank}
use Rattle.bql_tree.specs.declared.function.Scope.{Scope}
use Rattle.bql_tree.specs.declared.function.Scope.TheVariants.{Transactions, Postings}
use Rattle.bql_tree.specs.declared.function.TheConstants.{FUNCTIONS}

abbrev pub name : functions.Function → List ℕ
name Root = codes "root"
name Parent = codes "parent"
name Leaf = codes "leaf"
name Length = codes "length"
name Units = codes "units"
name Cost = codes "cost"
name Year = codes "year"
name Month = codes "month"
name Day = codes "day"
name Number = codes "number"
name Currency = codes "currency"
name Abs = codes "abs"
name Meta = codes "meta"
name EntryMeta = codes "entry_meta"
name AnyMeta = codes "any_meta"
name HasAccount = codes "has_account"
name Count = codes "count"
name Sum = codes "sum"
name First = codes "first"
name Last = codes "last"
name Min = codes "min"
name Max = codes "max"
name OneOf = []
name RootRank = codes "root_rank"

-- in small or capital letters
abbrev pub named : List ℕ → Option functions.Function
named bs = find (λ function. str_eq_ignore_ascii_case bs (name function)) FUNCTIONS

-- FROM knows no metadata of postings, and it alone knows HAS_ACCOUNT
abbrev pub is_known_in : Scope → functions.Function → Bool
is_known_in Transactions Meta = false
is_known_in Transactions AnyMeta = false
is_known_in Transactions function = true
is_known_in Postings HasAccount = false
is_known_in Postings function = true

abbrev pub if_known : Scope → Option functions.Function → Option functions.Function
if_known scope (Some function) = if is_known_in scope function then Some function else None
if_known scope None = None

abbrev pub known : Scope → List ℕ → Option functions.Function
known scope bs = if_known scope (named bs)

abbrev pub is_word : List ℕ → List ℕ → Bool
is_word bs word = str_eq_ignore_ascii_case bs word

-- clauses that the profile leaves out
abbrev pub is_clause_left_out : List ℕ → Bool
is_clause_left_out bs =
    is_word bs (codes "open") || is_word bs (codes "on") || is_word bs (codes "close")
    || is_word bs (codes "clear")
    || is_word bs (codes "having") || is_word bs (codes "pivot") || is_word bs (codes "flatten")
    || is_word bs (codes "print") || is_word bs (codes "run")

-- and functions
abbrev pub is_left_out : List ℕ → Bool
is_left_out bs =
    is_clause_left_out bs || is_word bs (codes "safediv") || is_word bs (codes "avg")
    || is_word bs (codes "convert")
    || is_word bs (codes "value") || is_word bs (codes "today") || is_word bs (codes "maxwidth")
