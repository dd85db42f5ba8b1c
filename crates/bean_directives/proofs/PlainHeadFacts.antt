-- A day, a sign and words are the first line of a transaction.
use Rattle.std.proofs.Common.{◌≡◌, List, [], ◌∷◌, refl, ap, subst}
use Rattle.theory.specs.Form.{Reads}
use Rattle.bean_base.specs.declared.days.Day as days
use Rattle.bean_base.specs.declared.flags.Flag as flags
use Rattle.bean_base.specs.declared.flags.Flag.TheVariants.{Complete, Incomplete}
use Rattle.bean_grammar.specs.declared.ranged.Ranged.{Ranged}
use Rattle.bean_grammar.specs.Lexeme.{Lexeme}
use Rattle.bean_grammar.specs.Literal.{day}
use Rattle.bean_grammar.specs.Mark.{begins_with_mark}
use Rattle.bean_grammar.proofs.MarkFacts.{first_marks, marks_read}
use Rattle.bean_postings.specs.Posting.{flag_sign}
use Rattle.bean_directives.specs.Head.{IsHead, kind_behind, transaction_line, transaction_of, words}
use Rattle.bean_directives.specs.declared.transaction.PayeeAndNarration.{PayeeAndNarration}
use Rattle.bean_directives.proofs.FirstLineFacts.{head_is}
use Rattle.bean_directives.proofs.HeadFacts.{reads_transaction}

flag_kind : (f : flags.Flag) → transaction_line f ≡ kind_behind (flag_sign f)
flag_kind Complete = refl
flag_kind Incomplete = refl

pub plain_head_is :
    (ls : List Lexeme) (d : Ranged days.Day) (mid : List Lexeme) (f : flags.Flag)
    (rest : List Lexeme) (w : PayeeAndNarration) (after : List Lexeme)
    → Reads day ls d mid → mid ≡ flag_sign f ∷ rest → Reads words rest w after → after ≡ []
    → IsHead ls d (transaction_of f w [])
plain_head_is ls d mid f rest w after r at s end =
    head_is ls d mid (flag_sign f) rest (transaction_of f w []) after r at
    (subst (λ form. Reads form rest (transaction_of f w []) after) (flag_kind f)
    (reads_transaction f rest w after [] after s
    (marks_read after [] after (first_marks after [] refl) (ap begins_with_mark end)))) end
