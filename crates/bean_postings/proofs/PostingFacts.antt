-- How postings are read.
use Rattle.std.proofs.Common.{◌≡◌, ℕ, true, false, List, [], ◌∷◌, Option, Some, None, refl, ◌∙◌, ap}
use Rattle.std.proofs.Common.{subst}
use Rattle.theory.specs.Form.{Form, Reads, HasNone, Is, IsNone, IsUnambiguous, word, made, ◌<+>◌}
use Rattle.theory.proofs.FormFacts.{IsExact, Tells, reads_word, reads_due, reads_not_due, is_all}
use Rattle.theory.proofs.FormFacts.{none_whole, more_than_whole}
use Rattle.theory.proofs.OneReading.{one_word, one_due}
use Rattle.bean_base.specs.declared.flags.Flag as flags
use Rattle.bean_base.specs.declared.flags.Flag.TheVariants.{Complete, Incomplete}
use Rattle.bean_grammar.specs.declared.amount.AmountParts.{AmountParts}
use Rattle.bean_postings.specs.declared.cost.Cost.{Cost}
use Rattle.bean_postings.specs.declared.price.Price.{Price}
use Rattle.bean_postings.specs.declared.posting.Posting as postings
use Rattle.bean_postings.specs.declared.posting.Units.{Units}
use Rattle.bean_grammar.specs.declared.ranged.Ranged.{Ranged}
use Rattle.bean_grammar.specs.Amount.{amount_parts}
use Rattle.bean_postings.specs.Cost.{cost_if_due}
use Rattle.bean_grammar.specs.Lexeme.{Lexeme, Account, begins_with_account}
use Rattle.bean_postings.specs.Posting.{flag_sign, begins_with_flag_sign, flag_if_due, units_of}
use Rattle.bean_postings.specs.Posting.{units, posting_of, posted_to, posting}
use Rattle.bean_postings.specs.Price.{price_if_due}
use Rattle.bean_grammar.proofs.AmountFacts.{one_amount_parts}
use Rattle.bean_grammar.proofs.AppliedFacts.{reads_first, no_first, one_first, reads_next, no_next}
use Rattle.bean_grammar.proofs.AppliedFacts.{none_before, one_next}
use Rattle.bean_postings.proofs.CostFacts.{one_cost_if_due}
use Rattle.bean_grammar.proofs.LexemeFacts.{exact_account}
use Rattle.bean_grammar.proofs.LiteralFacts.{none_at}
use Rattle.bean_postings.proofs.PriceFacts.{one_price_if_due}

-- Flags.

exact_flag_sign : IsExact flag_sign
exact_flag_sign Complete Complete e = refl
exact_flag_sign Complete Incomplete e = cc
exact_flag_sign Incomplete Complete e = cc
exact_flag_sign Incomplete Incomplete e = refl

flag_begins : (f : flags.Flag) (rest : List Lexeme)
    → begins_with_flag_sign (flag_sign f ∷ rest) ≡ true
flag_begins Complete rest = refl
flag_begins Incomplete rest = refl

flag_told : Tells begins_with_flag_sign (word flag_sign)
flag_told ls v rest p = ap begins_with_flag_sign p ∙ flag_begins v rest

pub reads_flag : (ls : List Lexeme) (f : flags.Flag) (rest : List Lexeme) → ls ≡ flag_sign f ∷ rest
    → Reads flag_if_due ls (Some f) rest
reads_flag ls f rest at =
    reads_due begins_with_flag_sign (word flag_sign) ls f rest
    (ap begins_with_flag_sign at ∙ flag_begins f rest)
    (reads_word flag_sign ls f rest exact_flag_sign at)

pub reads_no_flag : (ls : List Lexeme) → begins_with_flag_sign ls ≡ false
    → Reads flag_if_due ls None ls
reads_no_flag ls absent = reads_not_due begins_with_flag_sign (word flag_sign) ls flag_told absent

-- Units.

pub reads_units : (ls : List Lexeme) (p : AmountParts) (rest : List Lexeme)
    → Reads amount_parts ls p rest → Reads units ls (units_of p) rest
reads_units ls p rest r = reads_first units_of amount_parts ls p rest r

pub none_units : (ls : List Lexeme) → HasNone amount_parts ls → HasNone units ls
none_units ls none = no_first units_of amount_parts ls none

-- Postings.

abbrev flagged : ℕ
    → Form Lexeme (List ℕ → Ranged Units → Ranged Cost → Ranged Price → Ranged postings.Posting)
flagged line = made (posting_of line) <+> flag_if_due

abbrev addressed : ℕ
    → Form Lexeme (Ranged Units → Ranged Cost → Ranged Price → Ranged postings.Posting)
addressed line = flagged line <+> word Account

abbrev with_cost : ℕ → Form Lexeme (Ranged Price → Ranged postings.Posting)
with_cost line = posted_to line <+> cost_if_due

account_told : Tells begins_with_account (word Account)
account_told ls v rest p = ap begins_with_account p

pub reads_addressed :
    (line : ℕ) (ls : List Lexeme) (f : Option flags.Flag) (mid : List Lexeme) (bs : List ℕ)
    (rest : List Lexeme)
    → Reads flag_if_due ls f mid → mid ≡ Account bs ∷ rest
    → Reads (addressed line) ls (posting_of line f bs) rest
reads_addressed line ls f mid bs rest r at =
    reads_next (flagged line) (word Account) ls (posting_of line f) mid bs rest (λ rest. refl)
    (reads_first (posting_of line) flag_if_due ls f mid r)
    (reads_word Account mid bs rest exact_account at)

pub reads_posted :
    (line : ℕ) (ls : List Lexeme) (f : Option flags.Flag) (bs : List ℕ) (mid : List Lexeme)
    (u : Ranged Units) (rest : List Lexeme)
    → Reads (addressed line) ls (posting_of line f bs) mid → Reads units mid u rest
    → Reads (posted_to line) ls (posting_of line f bs u) rest
reads_posted line ls f bs mid u rest r s =
    reads_next (addressed line) units ls (posting_of line f bs) mid u rest (λ rest. refl) r s

pub reads_with_cost :
    (line : ℕ) (ls : List Lexeme) (f : Option flags.Flag) (bs : List ℕ) (u : Ranged Units)
    (mid : List Lexeme) (c : Ranged Cost) (rest : List Lexeme)
    → Reads (posted_to line) ls (posting_of line f bs u) mid → Reads cost_if_due mid c rest
    → Reads (with_cost line) ls (posting_of line f bs u c) rest
reads_with_cost line ls f bs u mid c rest r s =
    reads_next (posted_to line) cost_if_due ls (posting_of line f bs u) mid c rest (λ rest. refl) r
    s

reads_posting :
    (line : ℕ) (ls : List Lexeme) (f : Option flags.Flag) (bs : List ℕ) (u : Ranged Units)
    (c : Ranged Cost) (mid : List Lexeme) (p : Ranged Price) (rest : List Lexeme)
    → Reads (with_cost line) ls (posting_of line f bs u c) mid → Reads price_if_due mid p rest
    → Reads (posting line) ls (posting_of line f bs u c p) rest
reads_posting line ls f bs u c mid p rest r s =
    reads_next (with_cost line) price_if_due ls (posting_of line f bs u c) mid p rest (λ rest. refl)
    r s

pub no_account_posting : (line : ℕ) (ls : List Lexeme) (f : Option flags.Flag) (mid : List Lexeme)
    → Reads flag_if_due ls f mid → begins_with_account mid ≡ false → IsNone (posting line) ls
no_account_posting line ls f mid r absent =
    none_whole (posting line) ls refl
    (none_before (with_cost line) price_if_due ls (λ rest. refl)
    (none_before (posted_to line) cost_if_due ls (λ rest. refl)
    (none_before (addressed line) units ls (λ rest. refl)
    (no_next (flagged line) (word Account) ls (posting_of line f) mid (λ rest. refl)
    (reads_first (posting_of line) flag_if_due ls f mid r)
    (none_at begins_with_account (word Account) mid account_told absent)))))

pub no_units_posting :
    (line : ℕ) (ls : List Lexeme) (f : Option flags.Flag) (bs : List ℕ) (mid : List Lexeme)
    → Reads (addressed line) ls (posting_of line f bs) mid → HasNone units mid
    → IsNone (posting line) ls
no_units_posting line ls f bs mid r none =
    none_whole (posting line) ls refl
    (none_before (with_cost line) price_if_due ls (λ rest. refl)
    (none_before (posted_to line) cost_if_due ls (λ rest. refl)
    (no_next (addressed line) units ls (posting_of line f bs) mid (λ rest. refl) r none)))

pub no_cost_posting :
    (line : ℕ) (ls : List Lexeme) (f : Option flags.Flag) (bs : List ℕ) (u : Ranged Units)
    (mid : List Lexeme)
    → Reads (posted_to line) ls (posting_of line f bs u) mid → HasNone cost_if_due mid
    → IsNone (posting line) ls
no_cost_posting line ls f bs u mid r none =
    none_whole (posting line) ls refl
    (none_before (with_cost line) price_if_due ls (λ rest. refl)
    (no_next (posted_to line) cost_if_due ls (posting_of line f bs u) mid (λ rest. refl) r
    none))

pub no_price_posting :
    (line : ℕ) (ls : List Lexeme) (f : Option flags.Flag) (bs : List ℕ) (u : Ranged Units)
    (c : Ranged Cost) (mid : List Lexeme)
    → Reads (with_cost line) ls (posting_of line f bs u c) mid → HasNone price_if_due mid
    → IsNone (posting line) ls
no_price_posting line ls f bs u c mid r none =
    none_whole (posting line) ls refl
    (no_next (with_cost line) price_if_due ls (posting_of line f bs u c) mid (λ rest. refl) r none)

pub posting_is :
    (line : ℕ) (ls : List Lexeme) (f : Option flags.Flag) (bs : List ℕ) (u : Ranged Units)
    (c : Ranged Cost) (mid : List Lexeme) (p : Ranged Price) (rest : List Lexeme)
    → Reads (with_cost line) ls (posting_of line f bs u c) mid → Reads price_if_due mid p rest
    → rest ≡ [] → Is (posting line) ls (posting_of line f bs u c p)
posting_is line ls f bs u c mid p rest r s end =
    is_all (posting line) ls (posting_of line f bs u c p) rest
    (reads_posting line ls f bs u c mid p rest r s) end

pub more_than_posting :
    (line : ℕ) (ls : List Lexeme) (f : Option flags.Flag) (bs : List ℕ) (u : Ranged Units)
    (c : Ranged Cost) (mid : List Lexeme) (p : Ranged Price) (rest : List Lexeme) (l : Lexeme)
    (more : List Lexeme)
    → Reads (with_cost line) ls (posting_of line f bs u c) mid → Reads price_if_due mid p rest
    → rest ≡ l ∷ more → IsNone (posting line) ls
more_than_posting line ls f bs u c mid p rest l more r s end =
    more_than_whole (posting line) ls (posting_of line f bs u c p) l more refl
    (subst (λ x. Reads (posting line) ls (posting_of line f bs u c p) x) end
    (reads_posting line ls f bs u c mid p rest r s))

-- There is one reading.

pub one_posting : (line : ℕ) → IsUnambiguous (posting line)
one_posting line =
    one_next (with_cost line) price_if_due (λ rest. refl)
    (one_next (posted_to line) cost_if_due (λ rest. refl)
    (one_next (addressed line) units (λ rest. refl)
    (one_next (flagged line) (word Account) (λ rest. refl)
    (one_first (posting_of line) flag_if_due
    (one_due begins_with_flag_sign (word flag_sign) flag_told
    (one_word flag_sign exact_flag_sign))) (one_word Account exact_account))
    (one_first units_of amount_parts one_amount_parts)) one_cost_if_due) one_price_if_due
