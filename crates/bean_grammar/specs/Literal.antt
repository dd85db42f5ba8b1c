-- Days and texts, each written by one lexeme.
use Rattle.std.specs.Prelude.{ℕ, ◌-◌, List, length, take, drop, Ok}
use Rattle.theory.specs.Form.{Form, word, made, ◌<+>◌, related}
use Rattle.bean_base.specs.Day.{year_of, month_of, day_of, IsDayOf, HasDay}
use Rattle.bean_base.specs.Text.{read_text}
use Rattle.bean_base.specs.declared.days.Day as days
use Rattle.bean_grammar.specs.declared.ranged.Ranged.{Ranged}
use Rattle.bean_grammar.specs.declared.ranged.Ranged.TheVariants.{Within, Outside}
use Rattle.bean_grammar.specs.Lexeme.{Lexeme, Day, Text}

-- the day that is written, where the calendar has it
abbrev pub IsDay : List ℕ → Ranged days.Day → Type 0
IsDay bs (Within d) = HasDay (Ok d) (year_of bs) (month_of bs) (day_of bs)
IsDay bs Outside = ¬ IsDayOf (year_of bs) (month_of bs) (day_of bs)

abbrev pub day : Form Lexeme (Ranged days.Day)
day = related IsDay (word Day)

abbrev pub between_quotes : List ℕ → List ℕ
between_quotes bs = take (length bs - 2) (drop 1 bs)

abbrev pub text_of : List ℕ → List ℕ
text_of bs = read_text (between_quotes bs)

abbrev pub text : Form Lexeme (List ℕ)
text = made text_of <+> word Text
