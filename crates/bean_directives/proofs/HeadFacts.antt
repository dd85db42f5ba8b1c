-- What the rules of first lines read.
use Rattle.std.proofs.Common.{◌≡◌, ℕ, true, false, List, [], ◌∷◌, ◌++◌, Option, Some, None}
use Rattle.std.proofs.Common.{MatchOption, IfSome, refl, sym, ◌∙◌, ap, subst}
use Rattle.theory.specs.Form.{Form, Reads, HasNone, word, made, ◌<+>◌, behind, due, snoc, alone}
use Rattle.theory.proofs.FormFacts.{Tells, Follows, reads_word, reads_behind, none_behind}
use Rattle.theory.proofs.FormFacts.{reads_due, reads_not_due, none_due, reads_applied, none_first}
use Rattle.theory.proofs.RowFacts.{InRow, Separates, row_ends, row_begins, row_goes_on, row_is_read}
use Rattle.theory.proofs.RowFacts.{none_in_row}
use Rattle.bean_base.specs.declared.flags.Flag as flags
use Rattle.bean_base.specs.declared.num.Num.{Num}
use Rattle.bean_lexer.specs.declared.kind.Sign.TheVariants as sign
use Rattle.bean_grammar.proofs.AppliedFacts.{reads_first, no_first, reads_next, no_next}
use Rattle.bean_grammar.proofs.AppliedFacts.{none_before}
use Rattle.bean_grammar.proofs.LexemeFacts.{exact_account, exact_currency}
use Rattle.bean_grammar.proofs.LiteralFacts.{none_at, text_told}
use Rattle.bean_grammar.specs.declared.mark.Mark.{Mark}
use Rattle.bean_grammar.specs.declared.metadata.Value.{Value}
use Rattle.bean_grammar.specs.declared.ranged.Ranged.{Ranged}
use Rattle.bean_grammar.specs.Expression.{expression}
use Rattle.bean_grammar.specs.Lexeme.{Lexeme, Account, Currency, Sign, begins_with_account}
use Rattle.bean_grammar.specs.Lexeme.{begins_with_text, begins_with_currency}
use Rattle.bean_grammar.specs.Literal.{text}
use Rattle.bean_grammar.specs.Mark.{marks}
use Rattle.bean_grammar.specs.Metadata.{all_values}
use Rattle.bean_directives.specs.Head.{pad_of, pad_line, IsBelowZero, not_below_zero, tolerance}
use Rattle.bean_directives.specs.Head.{begins_with_tilde, balance_of, balance_line, price_of, price_line}
use Rattle.bean_directives.specs.Head.{note_of, note_line, document_of, document_line, event_of}
use Rattle.bean_directives.specs.Head.{event_line, query_of, query_line, custom_of, custom_line}
use Rattle.bean_directives.specs.Head.{words_of, words, transaction_of, transaction_line, listed}
use Rattle.bean_directives.specs.Head.{begins_with_comma, some_currencies, currencies, open_of}
use Rattle.bean_directives.specs.Head.{open_line}
use Rattle.bean_directives.specs.declared.directive.DirectiveKind.{DirectiveKind}
use Rattle.bean_directives.specs.declared.transaction.PayeeAndNarration.{PayeeAndNarration}

-- Names and texts.

reads_account : (ls : List Lexeme) (bs : List ℕ) (rest : List Lexeme) → ls ≡ Account bs ∷ rest
    → Reads (word Account) ls bs rest
reads_account ls bs rest at = reads_word Account ls bs rest exact_account at

reads_currency : (ls : List Lexeme) (bs : List ℕ) (rest : List Lexeme) → ls ≡ Currency bs ∷ rest
    → Reads (word Currency) ls bs rest
reads_currency ls bs rest at = reads_word Currency ls bs rest exact_currency at

account_told : Tells begins_with_account (word Account)
account_told ls v rest p = ap begins_with_account p

currency_told : Tells begins_with_currency (word Currency)
currency_told ls v rest p = ap begins_with_currency p

none_account : (ls : List Lexeme) → begins_with_account ls ≡ false → HasNone (word Account) ls
none_account ls absent = none_at begins_with_account (word Account) ls account_told absent

none_currency : (ls : List Lexeme) → begins_with_currency ls ≡ false → HasNone (word Currency) ls
none_currency ls absent = none_at begins_with_currency (word Currency) ls currency_told absent

none_text : (ls : List Lexeme) → begins_with_text ls ≡ false → HasNone text ls
none_text ls absent = none_at begins_with_text text ls text_told absent

-- Two parts.

pub reads_pad :
    (ls : List Lexeme) (a : List ℕ) (mid : List Lexeme) (b : List ℕ) (rest : List Lexeme)
    → ls ≡ Account a ∷ mid → mid ≡ Account b ∷ rest → Reads pad_line ls (pad_of a b) rest
reads_pad ls a mid b rest at next =
    reads_next (made pad_of <+> word Account) (word Account) ls (pad_of a) mid b rest (λ r. refl)
    (reads_first pad_of (word Account) ls a mid (reads_account ls a mid at))
    (reads_account mid b rest next)

pub reads_note :
    (ls : List Lexeme) (a : List ℕ) (mid : List Lexeme) (t : List ℕ) (rest : List Lexeme)
    → ls ≡ Account a ∷ mid → Reads text mid t rest → Reads note_line ls (note_of a t) rest
reads_note ls a mid t rest at r =
    reads_next (made note_of <+> word Account) text ls (note_of a) mid t rest (λ r. refl)
    (reads_first note_of (word Account) ls a mid (reads_account ls a mid at)) r

pub reads_event :
    (ls : List Lexeme) (n : List ℕ) (mid : List Lexeme) (t : List ℕ) (rest : List Lexeme)
    → Reads text ls n mid → Reads text mid t rest → Reads event_line ls (event_of n t) rest
reads_event ls n mid t rest q r =
    reads_next (made event_of <+> text) text ls (event_of n) mid t rest (λ r. refl)
    (reads_first event_of text ls n mid q) r

pub reads_query :
    (ls : List Lexeme) (n : List ℕ) (mid : List Lexeme) (t : List ℕ) (rest : List Lexeme)
    → Reads text ls n mid → Reads text mid t rest → Reads query_line ls (query_of n t) rest
reads_query ls n mid t rest q r =
    reads_next (made query_of <+> text) text ls (query_of n) mid t rest (λ r. refl)
    (reads_first query_of text ls n mid q) r

pub reads_custom :
    (ls : List Lexeme) (n : List ℕ) (mid : List Lexeme) (vs : Ranged (List Value))
    (rest : List Lexeme) → Reads text ls n mid → Reads all_values mid vs rest
    → Reads custom_line ls (custom_of n vs) rest
reads_custom ls n mid vs rest q r =
    reads_next (made custom_of <+> text) all_values ls (custom_of n) mid vs rest (λ r. refl)
    (reads_first custom_of text ls n mid q) r

pub none_custom : (ls : List Lexeme) (n : List ℕ) (mid : List Lexeme) → Reads text ls n mid
    → HasNone all_values mid → HasNone custom_line ls
none_custom ls n mid q none =
    no_next (made custom_of <+> text) all_values ls (custom_of n) mid (λ r. refl)
    (reads_first custom_of text ls n mid q) none

-- Three parts and more.

pub reads_document :
    (ls : List Lexeme) (a : List ℕ) (mid : List Lexeme) (n : List ℕ) (after : List Lexeme)
    (ms : List Mark) (rest : List Lexeme)
    → ls ≡ Account a ∷ mid → Reads text mid n after → Reads marks after ms rest
    → Reads document_line ls (document_of a n ms) rest
reads_document ls a mid n after ms rest at q r =
    reads_next (made document_of <+> word Account <+> text) marks ls (document_of a n) after ms rest
    (λ r. refl)
    (reads_next (made document_of <+> word Account) text ls (document_of a) mid n after (λ r. refl)
    (reads_first document_of (word Account) ls a mid (reads_account ls a mid at)) q) r

abbrev priced : Form Lexeme (List ℕ → Ranged DirectiveKind)
priced = made price_of <+> word Currency <+> expression

reads_priced :
    (ls : List Lexeme) (c : List ℕ) (mid : List Lexeme) (n : Ranged Num) (after : List Lexeme)
    → ls ≡ Currency c ∷ mid → Reads expression mid n after → Reads priced ls (price_of c n) after
reads_priced ls c mid n after at r =
    reads_next (made price_of <+> word Currency) expression ls (price_of c) mid n after (λ r. refl)
    (reads_first price_of (word Currency) ls c mid (reads_currency ls c mid at)) r

pub reads_price :
    (ls : List Lexeme) (c : List ℕ) (mid : List Lexeme) (n : Ranged Num) (after : List Lexeme)
    (d : List ℕ) (rest : List Lexeme)
    → ls ≡ Currency c ∷ mid → Reads expression mid n after → after ≡ Currency d ∷ rest
    → Reads price_line ls (price_of c n d) rest
reads_price ls c mid n after d rest at r next =
    reads_next priced (word Currency) ls (price_of c n) after d rest (λ r. refl)
    (reads_priced ls c mid n after at r) (reads_currency after d rest next)

pub no_number_price : (ls : List Lexeme) (c : List ℕ) (mid : List Lexeme) → ls ≡ Currency c ∷ mid
    → HasNone expression mid → HasNone price_line ls
no_number_price ls c mid at none =
    none_before priced (word Currency) ls (λ r. refl)
    (no_next (made price_of <+> word Currency) expression ls (price_of c) mid (λ r. refl)
    (reads_first price_of (word Currency) ls c mid (reads_currency ls c mid at)) none)

pub no_currency_price :
    (ls : List Lexeme) (c : List ℕ) (mid : List Lexeme) (n : Ranged Num) (after : List Lexeme)
    → ls ≡ Currency c ∷ mid → Reads expression mid n after → begins_with_currency after ≡ false
    → HasNone price_line ls
no_currency_price ls c mid n after at r absent =
    no_next priced (word Currency) ls (price_of c n) after (λ r. refl)
    (reads_priced ls c mid n after at r) (none_currency after absent)

-- Tolerances and balances.

pub tolerance_told : Tells begins_with_tilde tolerance
tolerance_told ls v rest p = ap begins_with_tilde p.1

pub reads_not_below : (ls : List Lexeme) (n : Ranged Num) (rest : List Lexeme)
    → Reads expression ls n rest → ¬ IsBelowZero ls → Reads not_below_zero ls n rest
reads_not_below ls n rest r fine = record {
  read = (r.read, fine);
  only = λ v after p ends. r.only v after p.0 ends;
}

pub reads_tolerance : (ls mid : List Lexeme) (n : Ranged Num) (rest : List Lexeme)
    → ls ≡ Sign sign.Tilde ∷ mid → Reads expression mid n rest → ¬ IsBelowZero mid
    → Reads (due begins_with_tilde tolerance) ls (Some n) rest
reads_tolerance ls mid n rest at r fine =
    reads_due begins_with_tilde tolerance ls n rest (ap begins_with_tilde at)
    (reads_behind (Sign sign.Tilde) not_below_zero ls mid n rest at
    (reads_not_below mid n rest r fine))

pub negative_tolerance : (ls mid : List Lexeme) → ls ≡ Sign sign.Tilde ∷ mid → IsBelowZero mid
    → HasNone (due begins_with_tilde tolerance) ls
negative_tolerance ls mid at below =
    none_due begins_with_tilde tolerance ls (ap begins_with_tilde at)
    (none_behind (Sign sign.Tilde) not_below_zero ls mid at (λ v after p ends. p.1 below))

pub reads_no_tolerance : (ls : List Lexeme) → begins_with_tilde ls ≡ false
    → Reads (due begins_with_tilde tolerance) ls None ls
reads_no_tolerance ls absent = reads_not_due begins_with_tilde tolerance ls tolerance_told absent

pub none_tolerance : (ls mid : List Lexeme) → ls ≡ Sign sign.Tilde ∷ mid → HasNone expression mid
    → HasNone (due begins_with_tilde tolerance) ls
none_tolerance ls mid at none =
    none_due begins_with_tilde tolerance ls (ap begins_with_tilde at)
    (none_behind (Sign sign.Tilde) not_below_zero ls mid at
    (λ v after p ends. none v after p.0 ends))

abbrev balanced : Form Lexeme (Option (Ranged Num) → List ℕ → Ranged DirectiveKind)
balanced = made balance_of <+> word Account <+> expression

reads_balanced :
    (ls : List Lexeme) (a : List ℕ) (mid : List Lexeme) (n : Ranged Num) (after : List Lexeme)
    → ls ≡ Account a ∷ mid → Reads expression mid n after → Reads balanced ls (balance_of a n) after
reads_balanced ls a mid n after at r =
    reads_next (made balance_of <+> word Account) expression ls (balance_of a) mid n after
    (λ r. refl) (reads_first balance_of (word Account) ls a mid (reads_account ls a mid at)) r

abbrev tolerated : Form Lexeme (List ℕ → Ranged DirectiveKind)
tolerated = balanced <+> due begins_with_tilde tolerance

reads_tolerated :
    (ls : List Lexeme) (a : List ℕ) (mid : List Lexeme) (n : Ranged Num) (after : List Lexeme)
    (t : Option (Ranged Num)) (end : List Lexeme)
    → ls ≡ Account a ∷ mid → Reads expression mid n after
    → Reads (due begins_with_tilde tolerance) after t end
    → Reads tolerated ls (balance_of a n t) end
reads_tolerated ls a mid n after t end at r s =
    reads_next balanced (due begins_with_tilde tolerance) ls (balance_of a n) after t end
    (λ r. refl) (reads_balanced ls a mid n after at r) s

pub reads_balance :
    (ls : List Lexeme) (a : List ℕ) (mid : List Lexeme) (n : Ranged Num) (after : List Lexeme)
    (t : Option (Ranged Num)) (end : List Lexeme) (c : List ℕ) (rest : List Lexeme)
    → ls ≡ Account a ∷ mid → Reads expression mid n after
    → Reads (due begins_with_tilde tolerance) after t end → end ≡ Currency c ∷ rest
    → Reads balance_line ls (balance_of a n t c) rest
reads_balance ls a mid n after t end c rest at r s next =
    reads_next tolerated (word Currency) ls (balance_of a n t) end c rest (λ r. refl)
    (reads_tolerated ls a mid n after t end at r s) (reads_currency end c rest next)

pub no_number_balance : (ls : List Lexeme) (a : List ℕ) (mid : List Lexeme) → ls ≡ Account a ∷ mid
    → HasNone expression mid → HasNone balance_line ls
no_number_balance ls a mid at none =
    none_before tolerated (word Currency) ls (λ r. refl)
    (none_before balanced (due begins_with_tilde tolerance) ls (λ r. refl)
    (no_next (made balance_of <+> word Account) expression ls (balance_of a) mid (λ r. refl)
    (reads_first balance_of (word Account) ls a mid (reads_account ls a mid at)) none))

pub no_tolerance_balance :
    (ls : List Lexeme) (a : List ℕ) (mid : List Lexeme) (n : Ranged Num) (after : List Lexeme)
    → ls ≡ Account a ∷ mid → Reads expression mid n after
    → HasNone (due begins_with_tilde tolerance) after → HasNone balance_line ls
no_tolerance_balance ls a mid n after at r none =
    none_before tolerated (word Currency) ls (λ r. refl)
    (no_next balanced (due begins_with_tilde tolerance) ls (balance_of a n) after (λ r. refl)
    (reads_balanced ls a mid n after at r) none)

pub no_currency_balance :
    (ls : List Lexeme) (a : List ℕ) (mid : List Lexeme) (n : Ranged Num) (after : List Lexeme)
    (t : Option (Ranged Num)) (end : List Lexeme)
    → ls ≡ Account a ∷ mid → Reads expression mid n after
    → Reads (due begins_with_tilde tolerance) after t end → begins_with_currency end ≡ false
    → HasNone balance_line ls
no_currency_balance ls a mid n after t end at r s absent =
    no_next tolerated (word Currency) ls (balance_of a n t) end (λ r. refl)
    (reads_tolerated ls a mid n after t end at r s) (none_currency end absent)

-- Transactions.

abbrev one_word : Form Lexeme (Option (List ℕ) → PayeeAndNarration)
one_word = made words_of <+> due begins_with_text text

pub reads_words :
    (ls : List Lexeme) (first : Option (List ℕ)) (mid : List Lexeme) (second : Option (List ℕ))
    (rest : List Lexeme)
    → Reads (due begins_with_text text) ls first mid
    → Reads (due begins_with_text text) mid second rest
    → Reads words ls (words_of first second) rest
reads_words ls first mid second rest r s =
    reads_next one_word (due begins_with_text text) ls (words_of first) mid second rest (λ r. refl)
    (reads_first words_of (due begins_with_text text) ls first mid r) s

pub reads_transaction :
    (flag : flags.Flag) (ls : List Lexeme) (w : PayeeAndNarration) (mid : List Lexeme)
    (ms : List Mark) (rest : List Lexeme)
    → Reads words ls w mid → Reads marks mid ms rest
    → Reads (transaction_line flag) ls (transaction_of flag w ms) rest
reads_transaction flag ls w mid ms rest r s =
    reads_next (made (transaction_of flag) <+> words) marks ls (transaction_of flag w) mid ms rest
    (λ r. refl) (reads_first (transaction_of flag) words ls w mid r) s

-- Currencies with commas between.

abbrev pub another : Form Lexeme (List ℕ)
another = behind (Sign sign.Comma) (word Currency)

pub another_told : Tells begins_with_comma another
another_told ls v rest p = ap begins_with_comma p.1

pub another_separates : Separates another
another_separates ls v rest p = refl

begun : (ls : List Lexeme) (c : List ℕ) (rest : List Lexeme) → ls ≡ Currency c ∷ rest
    → InRow some_currencies another snoc ls (alone c) rest
begun ls c rest at =
    row_begins begins_with_comma (word Currency) alone another snoc ls c rest (λ ls v rest p. refl)
    (reads_currency ls c rest at)

-- the first is in the list that was empty
pub currencies_begin :
    (ls : List Lexeme) (cs none : List (List ℕ)) (c : List ℕ) (rest : List Lexeme)
    → ls ≡ Currency c ∷ rest → none ≡ [] → cs ≡ none ++ c ∷ []
    → (begins_with_currency ls ≡ true) × InRow some_currencies another snoc ls cs rest
currencies_begin ls cs none c rest at empty pushed = (
  ap begins_with_currency at,
  subst (λ x. InRow some_currencies another snoc ls x rest)
      (sym (pushed ∙ ap (λ x. x ++ c ∷ []) empty)) (begun ls c rest at),
)

pub currency_more :
    (ls : List Lexeme) (cs : List (List ℕ)) (rest after : List Lexeme) (c : List ℕ)
    (more : List Lexeme)
    → InRow some_currencies another snoc ls cs rest → rest ≡ Sign sign.Comma ∷ after
    → after ≡ Currency c ∷ more → InRow some_currencies another snoc ls (snoc cs c) more
currency_more ls cs rest after c more p at next =
    row_goes_on begins_with_comma some_currencies another snoc ls cs rest c more
    (row_ends begins_with_comma (word Currency) alone another snoc) another_separates
    another_told p
    (reads_behind (Sign sign.Comma) (word Currency) rest after c more at
    (reads_currency after c more next))

pub currencies_told : Tells begins_with_currency some_currencies
currencies_told ls v rest p = ap begins_with_currency p.3

pub currencies_end : (ls : List Lexeme) (cs : List (List ℕ)) (rest : List Lexeme)
    → begins_with_currency ls ≡ true → InRow some_currencies another snoc ls cs rest
    → begins_with_comma rest ≡ false → Reads currencies ls cs rest
currencies_end ls cs rest present p absent =
    reads_first listed (due begins_with_currency some_currencies) ls (Some cs) rest
    (reads_due begins_with_currency some_currencies ls cs rest present
    (row_is_read begins_with_comma some_currencies another snoc ls cs rest another_told p
    absent))

pub no_currency : (ls : List Lexeme) (cs : List (List ℕ)) (rest after : List Lexeme)
    → begins_with_currency ls ≡ true
    → InRow some_currencies another snoc ls cs rest → rest ≡ Sign sign.Comma ∷ after
    → begins_with_currency after ≡ false → HasNone currencies ls
no_currency ls cs rest after present p at absent =
    no_first listed (due begins_with_currency some_currencies) ls
    (none_due begins_with_currency some_currencies ls present
    (none_in_row begins_with_comma some_currencies another snoc ls cs rest
    (row_ends begins_with_comma (word Currency) alone another snoc) another_separates p
    (ap begins_with_comma at)
    (none_behind (Sign sign.Comma) (word Currency) rest after at (none_currency after absent))))

pub no_currencies : (ls : List Lexeme) → begins_with_currency ls ≡ false → Reads currencies ls [] ls
no_currencies ls absent =
    reads_first listed (due begins_with_currency some_currencies) ls None ls
    (reads_not_due begins_with_currency some_currencies ls currencies_told absent)

-- Opens.

abbrev pub opened : Form Lexeme (Option (List ℕ) → Ranged DirectiveKind)
opened = made open_of <+> word Account <+> currencies

pub opened_to_method : Follows opened (due begins_with_text text)
opened_to_method ls None rest p e f = ap opened.goes_on p.0 ∙ e
opened_to_method ls (Some v) rest p e f = ap opened.goes_on (p.3.1 ∙ p.4)

reads_opened :
    (ls : List Lexeme) (a : List ℕ) (mid : List Lexeme) (cs : List (List ℕ)) (after : List Lexeme)
    → ls ≡ Account a ∷ mid → Reads currencies mid cs after → Reads opened ls (open_of a cs) after
reads_opened ls a mid cs after at r =
    reads_next (made open_of <+> word Account) currencies ls (open_of a) mid cs after (λ r. refl)
    (reads_first open_of (word Account) ls a mid (reads_account ls a mid at)) r

pub reads_open :
    (ls : List Lexeme) (a : List ℕ) (mid : List Lexeme) (cs : List (List ℕ)) (after : List Lexeme)
    (m : Option (List ℕ)) (rest : List Lexeme)
    → ls ≡ Account a ∷ mid → Reads currencies mid cs after
    → Reads (due begins_with_text text) after m rest → Reads open_line ls (open_of a cs m) rest
reads_open ls a mid cs after m rest at r s =
    reads_applied opened (due begins_with_text text) ls (open_of a cs) after m rest opened_to_method
    (reads_opened ls a mid cs after at r) s

pub no_account_open : (ls : List Lexeme) → begins_with_account ls ≡ false → HasNone open_line ls
no_account_open ls absent =
    none_first opened (due begins_with_text text) ls opened_to_method
    (none_before (made open_of <+> word Account) currencies ls (λ r. refl)
    (no_first open_of (word Account) ls (none_account ls absent)))

pub no_currencies_open : (ls : List Lexeme) (a : List ℕ) (mid : List Lexeme) → ls ≡ Account a ∷ mid
    → HasNone currencies mid → HasNone open_line ls
no_currencies_open ls a mid at none =
    none_first opened (due begins_with_text text) ls opened_to_method
    (no_next (made open_of <+> word Account) currencies ls (open_of a) mid (λ r. refl)
    (reads_first open_of (word Account) ls a mid (reads_account ls a mid at)) none)

-- Options that were looked into.

pub when_some : {A : Type 0} (o : Option A) (v : A) (N : Type 0) (P : A → Type 0) → o ≡ Some v
    → MatchOption o N P → P v
when_some o v N P e m = subst (λ o. MatchOption o N P) e m

pub when_none : {A : Type 0} (o : Option A) (N : Type 0) (P : A → Type 0)
    → ((v : A) → o ≡ Some v → ⊥) → MatchOption o N P → N
when_none None N P no_value m = m
when_none (Some v) N P no_value m = absurd (no_value v refl)

pub when_present : {A : Type 0} (o : Option A) (v : A) (P : A → Type 0) → o ≡ Some v → IfSome o P
    → P v
when_present o v P e m = subst (λ o. IfSome o P) e m

pub when_absent : {A : Type 0} (o : Option A) (N : Type 0) (P : A → Type 0) → o ≡ None
    → MatchOption o N P → N
when_absent o N P e m = subst (λ o. MatchOption o N P) e m
