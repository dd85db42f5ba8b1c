-- Transactions, as their lines are taken from a lexer.
use Rattle.std.specs.Prelude.{◌≡◌, ℕ, ◌≤◌, ◌<◌, length, take, true, List, [], ◌∷◌, ◌++◌, map, Option, None, Some}
use Rattle.theory.specs.Form.{Is}
use Rattle.bean_lexer.specs.ToCome.{ToCome, EndsLines}
use Rattle.bean_lexer.specs.declared.lexer.Lexer.{Lexer}
use Rattle.bean_lexer.specs.declared.token.Token.{Token}
use Rattle.bean_grammar.specs.Lexeme.{lexemes}
use Rattle.bean_grammar.specs.declared.mark.Mark.{Mark}
use Rattle.bean_grammar.specs.declared.ranged.Ranged.TheVariants.{Within}
use Rattle.bean_postings.specs.Posting.{posting}
use Rattle.bean_postings.specs.declared.posting.Posting.{Posting}
use Rattle.bean_directives.specs.Head.{IsHead}
use Rattle.bean_directives.specs.declared.directive.Directive.{Directive}
use Rattle.bean_directives.specs.declared.directive.DirectiveKind.{DirectiveKind}
use Rattle.bean_directives.specs.declared.directive.DirectiveKind.TheVariants as kinds
use Rattle.bean_directives.specs.declared.transaction.Transaction.{Transaction}
use Rattle.bean_parser.specs.Block.{fault_line, first_line, is_in_column_one, begins_block}
use Rattle.bean_parser.specs.Block.{begins_line, is_fault_token, lines}
use Rattle.bean_parser.specs.Taking.{NoneOf, Starts, left_of}
use Rattle.bean_parser.specs.Under.{AreLines, said_posting, postings_in}
use Rattle.bean_parser.specs.declared.under.Body.{Body}
use Rattle.bean_parser.specs.declared.under.LineKind.{LineKind}

-- the first line of a transaction, and what it says without its postings
pub record IsFirstLine (line : List Token) (d : Directive) : Type 0 where
  pub transaction : Transaction
  pub head : IsHead (lexemes line) (Within d.day) (Within (kinds.Transaction transaction))
  pub kind : d.kind ≡ kinds.Transaction transaction
  pub number : d.line ≡ first_line line
  pub bare : d.metadata ≡ []
  pub column : is_in_column_one line ≡ true
  pub no_fault : fault_line line ≡ None

-- a token that begins its line, and others of the line that were taken behind it: they are a posting
pub record IsPostingBehind (first : Token) (before after : Lexer) (p : Posting) : Type 0 where
  pub others : List Token
  pub inside : NoneOf begins_line others
  pub no_fault : NoneOf is_fault_token (first ∷ others)
  pub said : Is (posting first.line) (lexemes (first ∷ others)) (Within p)
  pub to_come : (ts : List Token) → ToCome after ts → ToCome before (others ++ ts)

-- lines were taken that may stand under a transaction
pub record TakesUnder (before after : Lexer) (ks : List LineKind) : Type 0 where
  pub under : List Token
  pub said : AreLines true (lines under) ks
  pub starts : Starts begins_line under
  pub none_begins : NoneOf begins_block under
  pub no_fault : NoneOf is_fault_token under
  pub to_come : (ts : List Token) → ToCome after ts → ToCome before (under ++ ts)
  pub no_longer : left_of after ≤ left_of before

-- a token was taken
pub record TakesToken (t : Token) (before after : Lexer) : Type 0 where
  pub to_come : (ts : List Token) → ToCome after ts → ToCome before (t ∷ ts)
  pub shorter : left_of after < left_of before

-- lines were taken that are postings, and the token behind them, if that begins no block
abbrev pub TakesPostings : Option Token → List Posting → Lexer → Lexer → Type 0
TakesPostings None ps before after = TakesUnder before after (map said_posting ps) × EndsLines after
TakesPostings (Some t) ps before after =
    (mid : Lexer) × TakesUnder before mid (map said_posting ps) × TakesToken t mid after

-- of so many items at the front none was changed
pub record IsKept (n : ℕ) (old new : List Posting) : Type 0 where
  pub front : take n new ≡ take n old
  pub room : n ≤ length new

-- tags and links behind those of a transaction
abbrev pub marked : List Mark → DirectiveKind → DirectiveKind
marked ms (kinds.Transaction t) = kinds.Transaction record t { marks = t.marks ++ ms }
marked ms kind = kind

-- A directive, and the postings behind others, say what the first line of a transaction says and what
-- the lines under it say, all of which is in range.
pub record HasSaid (head : Directive) (t : Transaction) (others : List Posting) (b : Body)
    (d : Directive) (all : List Posting) : Type 0 where
  pub day : d.day ≡ head.day
  pub line : d.line ≡ head.line
  pub metadata : d.metadata ≡ b.metadata
  pub kind : d.kind ≡ kinds.Transaction record t { marks = t.marks ++ b.marks }
  pub postings : all ≡ others ++ postings_in b
  pub apart : b.last ≡ None → b.before ≡ []
  pub in_range : b.is_in_range ≡ true
