-- The grammar of blocks: a directive, or a line without a day.
use Rattle.std.specs.Prelude.{◌≡◌, ℕ, Bool, true, false, List, [], ◌∷◌, ◌++◌}
use Rattle.bean_base.specs.declared.days.Day as days
use Rattle.bean_lexer.specs.declared.token.Token.{Token}
use Rattle.bean_grammar.specs.declared.mark.Mark.{Mark}
use Rattle.bean_postings.specs.declared.posting.Posting.{Posting}
use Rattle.bean_grammar.specs.declared.ranged.Ranged.{Ranged}
use Rattle.bean_grammar.specs.declared.ranged.Ranged.TheVariants.{Within, Outside}
use Rattle.bean_grammar.specs.Ranged.{ranged_map, ranged_map2}
use Rattle.bean_parser.specs.Block.{Line, lines, is_in_column_one}
use Rattle.bean_directives.specs.Head.{IsHead}
use Rattle.bean_parser.specs.Under.{AreLines, no_lines, with_lines, postings_in}
use Rattle.bean_directives.specs.Undated.{IsUndated}
use Rattle.bean_directives.specs.declared.directive.Directive.{Directive}
use Rattle.bean_directives.specs.declared.directive.DirectiveKind.{DirectiveKind}
use Rattle.bean_directives.specs.declared.directive.DirectiveKind.TheVariants as kinds
use Rattle.bean_parser.specs.declared.statement.Statement.{Statement}
use Rattle.bean_parser.specs.declared.statement.Statement.TheVariants as statements
use Rattle.bean_parser.specs.declared.under.Body.{Body}
use Rattle.bean_parser.specs.declared.under.LineKind.{LineKind}
use Rattle.bean_directives.specs.declared.undated.UndatedKind.{UndatedKind}

abbrev pub is_transaction : DirectiveKind → Bool
is_transaction (kinds.Transaction t) = true
is_transaction kind = false

-- a transaction is always in range
abbrev pub takes_postings : Ranged DirectiveKind → Bool
takes_postings (Within kind) = is_transaction kind
takes_postings Outside = false

abbrev pub with_body : DirectiveKind → List Mark → List Posting → DirectiveKind
with_body (kinds.Transaction t) marks postings =
    kinds.Transaction record t { marks = t.marks ++ marks; postings = postings }
with_body kind marks postings = kind

-- What a block's first line and the lines under it write.
pub data Tree : Type 0 where
  Dated : ℕ → Ranged days.Day → Ranged DirectiveKind → List LineKind → Tree
  Undated : ℕ → Ranged UndatedKind → Tree

abbrev pub HaveTree : List Line → Tree → Type 0
HaveTree [] t = ⊥
HaveTree (l ∷ ls) (Dated line day kind ks) =
    (line ≡ l.number) × IsHead l.lexemes day kind × AreLines (takes_postings kind) ls ks
HaveTree (l ∷ ls) (Undated line kind) = (line ≡ l.number) × IsUndated l.lexemes kind × (ls ≡ [])

abbrev pub HasTree : List Token → Tree → Type 0
HasTree block t = (is_in_column_one block ≡ true) × HaveTree (lines block) t

abbrev pub directive_of : ℕ → Body → days.Day → DirectiveKind → Directive
directive_of line b day kind =
    record {
      day = day;
      line = line;
      metadata = b.metadata;
      kind =
          with_body kind b.marks (postings_in b);
    }

abbrev pub in_body : Bool → Ranged Statement → Ranged Statement
in_body true s = s
in_body false s = Outside

-- what a head says with the lines under it, where all of it is in range
abbrev pub dated : ℕ → Ranged days.Day → Ranged DirectiveKind → Body → Ranged Statement
dated line day kind b =
    in_body b.is_in_range
    (ranged_map2 (λ d k. statements.Directive (directive_of line b d k)) day kind)

abbrev pub undated : ℕ → Ranged UndatedKind → Ranged Statement
undated line kind = ranged_map (λ k. statements.Undated record { line = line; kind = k }) kind

abbrev pub said : Tree → Ranged Statement
said (Dated line day kind ks) = dated line day kind (with_lines no_lines ks)
said (Undated line kind) = undated line kind
