-- Blocks and lines as the parts of a list of tokens.
use Rattle.std.specs.Prelude.{Bool}
use Rattle.bean_lexer.specs.declared.kind.Place.{Place}
use Rattle.bean_lexer.specs.declared.token.Token.{Token}
use Rattle.bean_parser.specs.Block.{begins_block_at, begins_line_at}
use Rattle.bean_parser.specs.declared.part.Part.{Part}
use Rattle.bean_parser.specs.declared.part.Part.TheVariants.{Block, Line}

abbrev pub begins_at : Part → Place → Bool
begins_at Block place = begins_block_at place
begins_at Line place = begins_line_at place

abbrev pub begins : Part → Token → Bool
begins part t = begins_at part t.place
