-- The blocks of a list of tokens, and the lines of a block.
use Rattle.std.specs.Prelude.{ℕ, Bool, true, false, List, [], ◌∷◌, map, Option}
use Rattle.std.specs.Option.{option_map}
use Rattle.std.specs.List.{find}
use Rattle.theory.specs.Cut.{cut_before}
use Rattle.bean_lexer.specs.declared.kind.Kind.{Kind}
use Rattle.bean_lexer.specs.declared.kind.Kind.TheVariants as kind
use Rattle.bean_lexer.specs.declared.kind.Place.{Place}
use Rattle.bean_lexer.specs.declared.kind.Place.TheVariants.{ColumnOne, Indented, Inside}
use Rattle.bean_lexer.specs.declared.token.Token.{Token}
use Rattle.bean_grammar.specs.Lexeme.{Lexeme, lexemes}

abbrev pub begins_block_at : Place → Bool
begins_block_at ColumnOne = true
begins_block_at Indented = false
begins_block_at Inside = false

abbrev pub begins_line_at : Place → Bool
begins_line_at ColumnOne = true
begins_line_at Indented = true
begins_line_at Inside = false

abbrev pub begins_block : Token → Bool
begins_block t = begins_block_at t.place

abbrev pub begins_line : Token → Bool
begins_line t = begins_line_at t.place

-- A line: the number of the text's line on which it begins, and its lexemes.
pub record Line : Type 0 where
  pub number : ℕ
  pub lexemes : List Lexeme

abbrev pub first_line : List Token → ℕ
first_line [] = 0
first_line (t ∷ ts) = t.line

abbrev pub line_of : List Token → Line
line_of ts = record { number = first_line ts; lexemes = lexemes ts }

abbrev pub blocks : List Token → List (List Token)
blocks tokens = cut_before begins_block tokens

abbrev pub lines : List Token → List Line
lines tokens = map line_of (cut_before begins_line tokens)

-- a block stands in column one, or is indented lines with no block before them
abbrev pub is_in_column_one : List Token → Bool
is_in_column_one [] = false
is_in_column_one (t ∷ ts) = begins_block t

abbrev pub is_fault : Kind → Bool
is_fault kind.Fault = true
is_fault kind = false

abbrev pub is_fault_token : Token → Bool
is_fault_token t = is_fault t.kind

-- the line on which the first fault token begins
abbrev pub fault_line : List Token → Option ℕ
fault_line ts = option_map (λ t. t.line) (find is_fault_token ts)
