-- What is taken of a text: nothing, a transaction, or the tokens of a block.
use Rattle.std.specs.Prelude.{◌≡◌, Bool, true, false, List, [], ◌∷◌, ◌++◌}
use Rattle.bean_lexer.specs.declared.token.Token.{Token}
use Rattle.bean_directives.specs.Given.{with_postings}
use Rattle.bean_directives.specs.declared.directive.Directive as directives
use Rattle.bean_postings.specs.declared.posting.Posting.{Posting}
use Rattle.bean_parser.specs.Taking.{TakesBlock}
use Rattle.bean_parser.specs.Outcome.{Gives}
use Rattle.bean_parser.specs.declared.block.Outcome.TheVariants as outcome
use Rattle.bean_parser.specs.declared.directives.Next.{Next}
use Rattle.bean_parser.specs.declared.directives.Next.TheVariants as nexts
use Rattle.bean_lexer.specs.declared.lexer.Lexer.{Lexer}
use Rattle.bean_parser.specs.declared.next.Taken.{Taken}
use Rattle.bean_parser.specs.declared.next.Taken.TheVariants as takens
use Rattle.bean_parser.specs.declared.statement.Statement.TheVariants as statements

abbrev pub is_some : Taken → Bool
is_some takens.Nothing = false
is_some (takens.Transaction d) = true
is_some takens.Block = true

-- a block was to be read next, and gives the directive
abbrev pub TakesDirective : directives.Directive → Lexer → Lexer → Type 0
TakesDirective d before after = (block : List Token) × TakesBlock true before block after
    × Gives block (outcome.Statement (statements.Directive d))

-- a transaction is given the postings that were read with it; else none were read
abbrev pub Takes : Taken → List Posting → Lexer → List Token → Lexer → Type 0
Takes takens.Nothing ps before block after = (ps ≡ []) × TakesBlock false before block after
Takes takens.Block ps before block after = (ps ≡ []) × TakesBlock true before block after
Takes (takens.Transaction d) ps before block after = TakesDirective (with_postings ps d) before after

abbrev pub found : Next → Bool
found nexts.Nothing = false
found nexts.Added = true
found nexts.Block = true

-- a transaction is added to directives
abbrev pub AddsTransaction : Next → Lexer → List Token → Lexer → List directives.Directive
    → List directives.Directive → Type 0
AddsTransaction nexts.Nothing before block after old new =
    TakesBlock false before block after × (new ≡ old)
AddsTransaction nexts.Block before block after old new = TakesBlock true before block after × (new ≡ old)
AddsTransaction nexts.Added before block after old new = (d : directives.Directive)
    × TakesDirective d before after × (new ≡ old ++ d ∷ [])
