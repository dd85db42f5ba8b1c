-- The words of the query language, the same in small and in capital letters.
use Rattle.std.specs.Prelude.{ℕ, Bool, List, [], codes, Option, Some, None}
use Rattle.std.specs.List.{find}
use Rattle.std.specs.Str.{str_eq_ignore_ascii_case}
use denote.Enum.Bare.{sameb}
use Rattle.bql_lexer.specs.contracts.kind.Kind as kind_type
use Rattle.bql_lexer.specs.declared.kind.Kind.{Kind}
use Rattle.bql_lexer.specs.declared.kind.Kind.TheVariants.{Name, Select, Distinct, From, Where}
use Rattle.bql_lexer.specs.declared.kind.Kind.TheVariants.{Group, By, Order, Asc, Desc, Limit, As}
use Rattle.bql_lexer.specs.declared.kind.Kind.TheVariants.{Journal, At, Balances, Or, And, Not, In}
use Rattle.bql_lexer.specs.declared.kind.Kind.TheVariants.{True, False, Null}
use Rattle.bql_lexer.specs.declared.kind.TheConstants.{WORDS}

abbrev pub same_kind : Kind → Kind → Bool
same_kind a b = sameb kind_type.the_type a b

abbrev pub spelling : Kind → List ℕ
spelling Select = codes "select"
spelling Distinct = codes "distinct"
spelling From = codes "from"
spelling Where = codes "where"
spelling Group = codes "group"
spelling By = codes "by"
spelling Order = codes "order"
spelling Asc = codes "asc"
spelling Desc = codes "desc"
spelling Limit = codes "limit"
spelling As = codes "as"
spelling Journal = codes "journal"
spelling At = codes "at"
spelling Balances = codes "balances"
spelling Or = codes "or"
spelling And = codes "and"
spelling Not = codes "not"
spelling In = codes "in"
spelling True = codes "true"
spelling False = codes "false"
spelling Null = codes "null"
spelling _ = []

abbrev pub or_name : Option Kind → Kind
or_name (Some kind) = kind
or_name None = Name

abbrev pub is_spelled : List ℕ → Kind → Bool
is_spelled bs kind = str_eq_ignore_ascii_case bs (spelling kind)

abbrev pub word : List ℕ → Option Kind
word bs = find (is_spelled bs) WORDS

-- a word of the language, and else a name
abbrev pub word_kind : List ℕ → Kind
word_kind bs = or_name (word bs)
