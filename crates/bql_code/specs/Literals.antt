-- Which constants the texts and literals of expressions are.
use Rattle.std.specs.Prelude.{ℕ, List, map}
use Rattle.query_code.specs.declared.program.Constant.{Constant}
use Rattle.query_code.specs.declared.program.Constant.TheVariants as constants
use Rattle.bql_code.specs.declared.literal.Literal.{Literal}
use Rattle.bql_code.specs.declared.literal.Literal.TheVariants as literals
use Rattle.bql_code.specs.declared.literal.ShortText.{ShortText}

abbrev pub text_of : ShortText → List ℕ
text_of t = t.text

abbrev pub constant_of : Literal → Constant
constant_of (literals.Text t) = constants.Text t.text
constant_of (literals.Number n) = constants.Number n
constant_of (literals.Day d) = constants.Day d
constant_of (literals.Pattern t) = constants.Pattern t.text
constant_of (literals.Texts ts) = constants.Texts (map text_of ts)
constant_of (literals.Numbers ns) = constants.Numbers ns
constant_of (literals.Days ds) = constants.Days ds
