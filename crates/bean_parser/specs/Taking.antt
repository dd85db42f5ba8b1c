-- How the tokens of blocks are taken from a lexer, block by block.
use Rattle.std.specs.Prelude.{◌≡◌, ℕ, ◌<◌, ◌≤◌, Bool, true, false, List, [], ◌∷◌, ◌++◌, length}
use Rattle.bean_lexer.specs.ToCome.{ToCome, EndsLines}
use Rattle.bean_lexer.specs.declared.token.Token.{Token}
use Rattle.bean_lexer.specs.declared.lexer.Lexer.{Lexer}
use Rattle.bean_parser.specs.Block.{begins_block, begins_line, blocks}

-- A block and what is to come behind it were to come, and it is the first block of these; or nothing
-- was to come, and nothing is.
abbrev pub TakesBlock : Bool → Lexer → List Token → Lexer → Type 0
TakesBlock true before block after =
    (ts : List Token) → ToCome after ts
    → ToCome before (block ++ ts) × (blocks (block ++ ts) ≡ block ∷ blocks ts)
TakesBlock false before block after = ToCome before [] × (after ≡ before) × (block ≡ [])

-- how much of a text is left
abbrev pub left_of : Lexer → ℕ
left_of lexer = length lexer.rest.now

-- none of some tokens begins a part
abbrev pub NoneOf : (Token → Bool) → List Token → Type 0
NoneOf begins [] = Unit {0}
NoneOf begins (t ∷ ts) = (begins t ≡ false) × NoneOf begins ts

-- nothing, or tokens of which the first begins one
abbrev pub Starts : (Token → Bool) → List Token → Type 0
Starts begins [] = Unit {0}
Starts begins (t ∷ ts) = begins t ≡ true

-- tokens that begin no line were taken and put behind others
pub record TakesInside (before : Lexer) (old : List Token) (after : Lexer) (new : List Token) :
    Type 0 where
  pub others : List Token
  pub put : new ≡ old ++ others
  pub inside : NoneOf begins_line others
  pub to_come : (ts : List Token) → ToCome after ts → ToCome before (others ++ ts)
  pub no_longer : left_of after ≤ left_of before

-- a token was taken, and others behind it that begin no line
pub record TakesFirst (before : Lexer) (line : List Token) (after : Lexer) : Type 0 where
  pub first : Token
  pub others : List Token
  pub is : line ≡ first ∷ others
  pub inside : NoneOf begins_line others
  pub to_come : (ts : List Token) → ToCome after ts → ToCome before (line ++ ts)
  pub shorter : left_of after < left_of before

-- or nothing was to come
abbrev pub TakesLine : Bool → Lexer → List Token → Lexer → Type 0
TakesLine true before line after = TakesFirst before line after
TakesLine false before line after = ToCome before [] × (after ≡ before) × (line ≡ [])

-- tokens that begin no block were taken and put behind others, up to one that begins a block, or all
pub record TakesOthers (before : Lexer) (old : List Token) (after : Lexer) (new : List Token) :
    Type 0 where
  pub others : List Token
  pub put : new ≡ old ++ others
  pub none_begins : NoneOf begins_block others
  pub ends : EndsLines after
  pub to_come : (ts : List Token) → ToCome after ts → ToCome before (others ++ ts)
  pub no_longer : left_of after ≤ left_of before
