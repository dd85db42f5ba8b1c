-- Where what is to come from a lexer begins in the first column.
use Rattle.std.proofs.Common.{◌≡◌, ◌-◌, ◌≤◌, List, [], ◌∷◌, length, ap, ◌∙◌}
use Rattle.bean_lexer.specs.InGap.{IsLead}
use Rattle.bean_lexer.specs.Gap.{spot_at}
use Rattle.bean_lexer.specs.ToCome.{ToCome, EndsLines, BeginInColumnOne, is_column_one}
use Rattle.bean_lexer.specs.declared.gaps.Lead.{Lead}
use Rattle.bean_lexer.specs.declared.kind.Place.TheVariants as places
use Rattle.bean_lexer.specs.declared.lexer.Lexer.{Lexer}
use Rattle.bean_lexer.specs.declared.token.Token.{Token}
use Rattle.bean_lexer.proofs.TokensFacts.{IsAt, place_to_come, none_behind}

at_of : (lexer : Lexer) → IsAt lexer.text.now lexer.rest.now lexer.line
at_of lexer = record { inside = lexer.inside; is_rest = lexer.is_rest; is_line = lexer.is_line }

in_column : (lexer : Lexer) (gap : Lead) (ts : List Token)
    → IsLead (spot_at (length lexer.text.now - length lexer.rest.now)) lexer.rest.now gap
    → gap.place ≡ places.ColumnOne → ToCome lexer ts → BeginInColumnOne ts
in_column lexer gap [] lead column to_come = tt
in_column lexer gap (t ∷ ts) lead column to_come =
    ap is_column_one (place_to_come _ _ lexer.line gap.place t ts (at_of lexer) lead.place to_come ∙ column)

pub column_one : (lexer : Lexer) (gap : Lead)
    → IsLead (spot_at (length lexer.text.now - length lexer.rest.now)) lexer.rest.now gap
    → gap.place ≡ places.ColumnOne → EndsLines lexer
column_one lexer gap lead column = λ ts. in_column lexer gap ts lead column

none_left : (lexer : Lexer) (gap : Lead) (ts : List Token)
    → IsLead (spot_at (length lexer.text.now - length lexer.rest.now)) lexer.rest.now gap
    → length lexer.rest.now ≤ gap.len → ToCome lexer ts → BeginInColumnOne ts
none_left lexer gap [] lead all to_come = tt
none_left lexer gap (t ∷ ts) lead all to_come =
    absurd (none_behind _ _ lexer.line gap.len t ts (at_of lexer) lead.gap all to_come)

pub all_gap : (lexer : Lexer) (gap : Lead)
    → IsLead (spot_at (length lexer.text.now - length lexer.rest.now)) lexer.rest.now gap
    → length lexer.rest.now ≤ gap.len → EndsLines lexer
all_gap lexer gap lead all = λ ts. none_left lexer gap ts lead all
