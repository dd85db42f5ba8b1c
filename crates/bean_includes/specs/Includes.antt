-- The include lines of a text: those among the settings that its blocks give.
use Rattle.std.specs.Prelude.{◌≡◌, ◌⊎◌, ℕ, nat_eq, List, [], ◌∷◌, ◌++◌, codes, Option, Some, None}
use Rattle.std.specs.Prelude.{IsTrue}
use Rattle.std.specs.List.{starts_with}
use Rattle.memchr.specs.Find.{OccursAt}
use Rattle.bean_base.specs.Character.{line_feed}
use Rattle.bean_lexer.specs.Tokens.{AreTokens}
use Rattle.bean_lexer.specs.declared.token.Token.{Token}
use Rattle.bean_directives.specs.declared.undated.Setting.{Setting}
use Rattle.bean_directives.specs.declared.undated.SettingKind.{SettingKind}
use Rattle.bean_directives.specs.declared.undated.SettingKind.TheVariants as setting
use Rattle.bean_directives.specs.declared.undated.UndatedKind.{UndatedKind}
use Rattle.bean_directives.specs.declared.undated.UndatedKind.TheVariants as undated
use Rattle.bean_parser.specs.Block.{blocks}
use Rattle.bean_parser.specs.Outcome.{Gives}
use Rattle.bean_parser.specs.Parsed.{IsParsed}
use Rattle.bean_parser.specs.declared.block.Outcome.{Outcome}
use Rattle.bean_parser.specs.declared.block.Outcome.TheVariants as outcome
use Rattle.bean_includes.specs.declared.includes.IncludeLine.{IncludeLine}
use Rattle.bean_parser.specs.declared.parse.Parsed.{Parsed}
use Rattle.bean_parser.specs.declared.statement.Statement.TheVariants as statement

abbrev pub include_of_setting : ℕ → SettingKind → Option IncludeLine
include_of_setting line (setting.Include name) = Some record { line = line; name = name }
include_of_setting line kind = None

abbrev pub include_of : ℕ → UndatedKind → Option IncludeLine
include_of line (undated.Setting kind) = include_of_setting line kind
include_of line kind = None

-- the include line that a block gave, if it gave one
abbrev pub include_in : Outcome → Option IncludeLine
include_in (outcome.Statement (statement.Undated u)) = include_of u.line u.kind
include_in (outcome.Statement (statement.Directive d)) = None
include_in (outcome.Fault f) = None

-- an include line, and those behind it
abbrev pub with_first : Option IncludeLine → List IncludeLine → List IncludeLine
with_first (Some include) others = include ∷ others
with_first None others = others

-- the include lines among settings
abbrev pub includes_among : List Setting → List IncludeLine
includes_among [] = []
includes_among (s ∷ settings) =
    with_first (include_of_setting s.line s.kind) (includes_among settings)

-- the include line that a block gives, if it gives one
abbrev pub IsIncludeOf : List Token → Option IncludeLine → Type 0
IsIncludeOf block (Some include) = (o : Outcome) × Gives block o × (include_in o ≡ Some include)
IsIncludeOf block None = (o : Outcome) → Gives block o → include_in o ≡ None

-- those that blocks give, in their order
abbrev pub AreIncludesOf : List (List Token) → List IncludeLine → Type 0
AreIncludesOf [] found = found ≡ []
AreIncludesOf (block ∷ blocks) found =
    (first : Option IncludeLine) × (others : List IncludeLine) × IsIncludeOf block first
    × AreIncludesOf blocks others × (found ≡ with_first first others)

abbrev pub AreIncludeLines : List ℕ → List IncludeLine → Type 0
AreIncludeLines text found =
    (tokens : List Token) × AreTokens text tokens × AreIncludesOf (blocks tokens) found

-- a text has one list of include lines, and these are those among its settings
abbrev pub HasOneListOfIncludes : List ℕ → Type 0
HasOneListOfIncludes text =
    (found others : List IncludeLine) → AreIncludeLines text found → AreIncludeLines text others
    → found ≡ others

abbrev pub IncludesAreSettings : List ℕ → Type 0
IncludesAreSettings text =
    (p : Parsed) (found : List IncludeLine) → IsParsed text p → AreIncludeLines text found
    → found ≡ includes_among p.settings

-- the include line of a block, if it gives one, goes behind those that were found
abbrev pub AddsInclude : List Token → List IncludeLine → List IncludeLine → Type 0
AddsInclude block old new =
    (one : Option IncludeLine) × IsIncludeOf block one × (new ≡ old ++ with_first one [])

-- A line of the text begins with the word `include`: the word stands at the text's start, or behind
-- a line feed. So does that of each include line; others are lines at fault, or stand inside of a
-- text that spans lines.
abbrev pub HasIncludeWord : List ℕ → Type 0
HasIncludeWord text =
    IsTrue (starts_with nat_eq text (codes "include"))
    ⊎ ((at : ℕ) × OccursAt text (line_feed ∷ codes "include") at)
