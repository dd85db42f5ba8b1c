-- How days and texts are read.
use Rattle.std.proofs.Common.{◌≡◌, ℕ, Bool, true, false, List, ◌∷◌, Some, None, pos, refl, ◌∙◌, ap}
use Rattle.theory.specs.Form.{Form, Reads, HasNone, IsUnambiguous, word, made, due}
use Rattle.theory.proofs.FormFacts.{Tells, reads_word, reads_made, reads_applied, reads_due}
use Rattle.theory.proofs.FormFacts.{reads_not_due, reads_related}
use Rattle.theory.proofs.OneReading.{one_word, one_made, one_applied, one_due, one_related}
use Rattle.bean_base.proofs.SameFacts.{same_day}
use Rattle.bean_base.specs.Day.{year_of, month_of, day_of}
use Rattle.bean_base.specs.declared.days.Day as days
use Rattle.bean_grammar.specs.declared.ranged.Ranged.{Ranged}
use Rattle.bean_grammar.specs.declared.ranged.Ranged.TheVariants.{Within, Outside}
use Rattle.bean_grammar.specs.Lexeme.{Lexeme, Day, Text, begins_with_day, begins_with_text}
use Rattle.bean_grammar.specs.Literal.{IsDay, day, text_of, text}
use Rattle.bean_grammar.proofs.LexemeFacts.{exact_day, exact_text}

-- Days.

-- there is one day that is written
pub one_day : (bs : List ℕ) (v w : Ranged days.Day) → IsDay bs v → IsDay bs w → v ≡ w
one_day bs (Within a) (Within b) p q =
    ap Within (same_day (pos (year_of bs)) (pos (month_of bs)) (pos (day_of bs)) a b p.1 q.1)
one_day bs (Within a) Outside p q = absurd (q p.0)
one_day bs Outside (Within b) p q = absurd (p q.0)
one_day bs Outside Outside p q = refl

pub reads_day : (ls : List Lexeme) (bs : List ℕ) (v : Ranged days.Day) (rest : List Lexeme)
    → ls ≡ Day bs ∷ rest → IsDay bs v → Reads day ls v rest
reads_day ls bs v rest at is =
    reads_related IsDay (word Day) ls bs v rest (reads_word Day ls bs rest exact_day at) is
    (λ w q. one_day bs v w is q)

pub day_told : Tells begins_with_day day
day_told ls v rest p = ap begins_with_day p.1

pub none_at : {V : Type 0} (begins : List Lexeme → Bool) (a : Form Lexeme V) (ls : List Lexeme)
    → Tells begins a → begins ls ≡ false → HasNone a ls
none_at begins a ls told absent v after p ends = let present = told ls v after p in cc

pub none_day : (ls : List Lexeme) → begins_with_day ls ≡ false → HasNone day ls
none_day ls absent = none_at begins_with_day day ls day_told absent

pub one_written_day : IsUnambiguous day
one_written_day = one_related IsDay (word Day) one_day (one_word Day exact_day)

-- Texts.

pub reads_text : (ls : List Lexeme) (bs : List ℕ) (rest : List Lexeme) → ls ≡ Text bs ∷ rest
    → Reads text ls (text_of bs) rest
reads_text ls bs rest at =
    reads_applied (made text_of) (word Text) ls text_of ls bs rest (λ ls v rest p e f. refl)
    (reads_made text_of ls) (reads_word Text ls bs rest exact_text at)

pub text_told : Tells begins_with_text text
text_told ls v rest p = ap begins_with_text (p.3.1 ∙ p.4)

pub text_present : (ls : List Lexeme) (v : List ℕ) (rest : List Lexeme) → Reads text ls v rest
    → begins_with_text ls ≡ true
text_present ls v rest r = text_told ls v rest r.read

pub reads_text_due : (ls : List Lexeme) (v : List ℕ) (rest : List Lexeme) → Reads text ls v rest
    → Reads (due begins_with_text text) ls (Some v) rest
reads_text_due ls v rest r = reads_due begins_with_text text ls v rest (text_present ls v rest r) r

pub reads_no_text : (ls : List Lexeme) → begins_with_text ls ≡ false
    → Reads (due begins_with_text text) ls None ls
reads_no_text ls absent = reads_not_due begins_with_text text ls text_told absent

pub one_text : IsUnambiguous text
one_text =
    one_applied (made text_of) (word Text) (λ ls v rest p e f. refl) (one_made text_of)
    (one_word Text exact_text)

pub one_text_due : IsUnambiguous (due begins_with_text text)
one_text_due = one_due begins_with_text text text_told one_text
