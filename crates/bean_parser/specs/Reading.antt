-- What the parts of a block are read as.
use Rattle.std.specs.Prelude.{◌≡◌, ℕ, Bool, List, [], ◌++◌, Option, Some, None}
use Rattle.bean_base.specs.declared.days.Day.{Day}
use Rattle.bean_lexer.specs.declared.token.Token.{Token}
use Rattle.bean_grammar.specs.declared.ranged.Ranged.{Ranged}
use Rattle.bean_parser.specs.Block.{Line, lines}
use Rattle.bean_parser.specs.Grammar.{Tree, Dated, Undated, HasTree, takes_postings, said}
use Rattle.bean_parser.specs.Under.{IsLine, AreLines, no_lines, with_lines}
use Rattle.bean_parser.specs.declared.under.Body.{Body}
use Rattle.bean_parser.specs.declared.under.LineKind.{LineKind}
use Rattle.bean_grammar.specs.Lexeme.{lexemes}
use Rattle.bean_directives.specs.Undated.{IsUndated}
use Rattle.bean_directives.specs.declared.directive.DirectiveKind.{DirectiveKind}
use Rattle.bean_directives.specs.declared.undated.UndatedKind.{UndatedKind}
use Rattle.bean_parser.specs.declared.statement.Statement.{Statement}

abbrev pub ReadsLine : Bool → Line → Option LineKind → Type 0
ReadsLine in_transaction l None = (k : LineKind) → IsLine in_transaction l k → ⊥
ReadsLine in_transaction l (Some k) = IsLine in_transaction l k

-- what the lines under a first one say, where each is one that may stand there
abbrev pub ReadsLines : Bool → List Line → Option Body → Type 0
ReadsLines in_transaction ls None = (ks : List LineKind) → AreLines in_transaction ls ks → ⊥
ReadsLines in_transaction ls (Some b) =
    (ks : List LineKind) × AreLines in_transaction ls ks × (b ≡ with_lines no_lines ks)

-- Some lines are read: what completes the rest completes the whole, and each whole goes on so.
pub record InLines (in_transaction : Bool) (ls rest : List Line) (b : Body) : Type 0 where
  pub read : List LineKind
  pub whole : (us : List LineKind) → AreLines in_transaction rest us
      → AreLines in_transaction ls (read ++ us)
  pub only : (ws : List LineKind) → AreLines in_transaction ls ws
      → (us : List LineKind) × AreLines in_transaction rest us
  pub said : b ≡ with_lines no_lines read

-- what a block says that begins on that line with such a head, and has these lines under it
abbrev pub ReadsDated : ℕ → Ranged Day → Ranged DirectiveKind → List Line
    → Option (Ranged Statement) → Type 0
ReadsDated line day kind under None = (ks : List LineKind) → AreLines (takes_postings kind) under ks
    → ⊥
ReadsDated line day kind under (Some v) =
    (ks : List LineKind) × AreLines (takes_postings kind) under ks
    × (v ≡ said (Dated line day kind ks))

-- what a line without a day says, with nothing under it
abbrev pub ReadsUndated : ℕ → List Token → List Token → Option (Ranged Statement) → Type 0
ReadsUndated line first under None = (k : Ranged UndatedKind) → IsUndated (lexemes first) k
    → lines under ≡ [] → ⊥
ReadsUndated line first under (Some v) =
    (k : Ranged UndatedKind) × IsUndated (lexemes first) k × (lines under ≡ [])
    × (v ≡ said (Undated line k))

-- what a block's tree says, where it has one
abbrev pub ReadsBlock : List Token → Option (Ranged Statement) → Type 0
ReadsBlock block None = (t : Tree) → HasTree block t → ⊥
ReadsBlock block (Some v) = (t : Tree) × HasTree block t × (v ≡ said t)
