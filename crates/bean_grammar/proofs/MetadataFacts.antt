-- How values and metadata entries are read.
use Rattle.std.proofs.Common.{◌≡◌, ℕ, Bool, true, false, List, [], ◌∷◌, ◌++◌, Option, Some, None}
use Rattle.std.proofs.Common.{is_some, refl, sym, ◌∙◌, ap, subst, inl, inr}
use Rattle.theory.specs.Form.{Form, Reads, HasNone, IsUnambiguous, word, made, ◌<+>◌, due}
use Rattle.theory.proofs.FormFacts.{IsExact, Tells, Avoids, reads_word, reads_related, reads_made}
use Rattle.theory.proofs.FormFacts.{reads_left, reads_right, none_right, reads_due, reads_not_due}
use Rattle.theory.proofs.FormFacts.{none_due}
use Rattle.theory.proofs.RowFacts.{Separates, BeginsRow, EndsItems, InRow, row_ends, row_begins}
use Rattle.theory.proofs.RowFacts.{row_goes_on, row_is_read, none_in_row}
use Rattle.theory.proofs.OneReading.{one_word, one_made, one_related, one_either, one_due, one_row}
use Rattle.bean_base.specs.declared.num.Num.{Num}
use Rattle.bean_lexer.specs.declared.kind.Kind.{Kind}
use Rattle.bean_grammar.specs.declared.metadata.Value as values
use Rattle.bean_grammar.specs.declared.metadata.Value.TheVariants as value_kind
use Rattle.bean_grammar.specs.declared.metadata.MetaEntry.{MetaEntry}
use Rattle.bean_grammar.specs.declared.ranged.Ranged.{Ranged}
use Rattle.bean_grammar.specs.declared.ranged.Ranged.TheVariants.{Within, Outside}
use Rattle.bean_grammar.specs.Amount.{currency_if_due}
use Rattle.bean_grammar.specs.Expression.{expression, begins_with_expression}
use Rattle.bean_grammar.specs.Lexeme.{Lexeme, Day, Number, Text, Account, Currency, Tag, Link, Key}
use Rattle.bean_grammar.specs.Lexeme.{Keyword, Sign, Fault, lexeme_at, plus_or_minus}
use Rattle.bean_grammar.specs.Lexeme.{begins_with_key}
use Rattle.bean_grammar.specs.Metadata.{IsPlain, is_plain, begins_with_plain, any_lexeme, plain}
use Rattle.bean_grammar.specs.Metadata.{number_value, numeric, value, is_more, with_value}
use Rattle.bean_grammar.specs.Metadata.{all_values, entry_of, entry}
use Rattle.bean_grammar.specs.Ranged.{ranged_map}
use Rattle.bean_grammar.proofs.AmountFacts.{one_currency_due}
use Rattle.bean_grammar.proofs.AppliedFacts.{reads_first, no_first, one_first, reads_next, no_next}
use Rattle.bean_grammar.proofs.AppliedFacts.{none_before, one_next}
use Rattle.bean_grammar.proofs.ExpressionFacts.{AvoidsNumbers, expression_is_avoided}
use Rattle.bean_grammar.proofs.ExpressionFacts.{expression_told, one_expression}
use Rattle.bean_grammar.proofs.LexemeFacts.{exact_key}
use Rattle.bean_grammar.proofs.LiteralFacts.{one_day, none_at}

-- Values of one lexeme.

plain_is : (l : Lexeme) (v : Ranged values.Value) → IsPlain l v → is_plain l ≡ true
plain_is (Text bs) v p = refl
plain_is (Account bs) v p = refl
plain_is (Day bs) v p = refl
plain_is (Currency bs) v p = refl
plain_is (Tag bs) v p = refl
plain_is (Keyword k) v p = ap is_some p.1
plain_is (Number bs) v p = absurd p
plain_is (Link bs) v p = absurd p
plain_is (Key bs) v p = absurd p
plain_is (Sign s) v p = absurd p
plain_is Fault v p = absurd p

same_truth : (o : Option Bool) (a b : Bool) → o ≡ Some a → o ≡ Some b → a ≡ b
same_truth o a b e f = cc

one_plain_of : (l : Lexeme) (v w : Ranged values.Value) → IsPlain l v → IsPlain l w → v ≡ w
one_plain_of (Text bs) v w p q = p ∙ sym q
one_plain_of (Account bs) v w p q = p ∙ sym q
one_plain_of (Day bs) v w p q =
    p.2 ∙ ap (ranged_map value_kind.Day) (one_day bs p.0 q.0 p.1 q.1) ∙ sym q.2
one_plain_of (Currency bs) v w p q = p ∙ sym q
one_plain_of (Tag bs) v w p q = p ∙ sym q
one_plain_of (Keyword k) v w p q =
    p.2 ∙ ap (λ b. Within (value_kind.Truth b)) (same_truth _ p.0 q.0 p.1 q.1) ∙ sym q.2
one_plain_of (Number bs) v w p q = absurd p
one_plain_of (Link bs) v w p q = absurd p
one_plain_of (Key bs) v w p q = absurd p
one_plain_of (Sign s) v w p q = absurd p
one_plain_of Fault v w p q = absurd p

exact_lexeme : IsExact any_lexeme
exact_lexeme a b e = e

pub plain_told : Tells begins_with_plain plain
plain_told ls v rest p = ap begins_with_plain p.1 ∙ plain_is p.0 v p.2

-- a token of a kind
pub reads_plain :
    (ls : List Lexeme) (k kind : Kind) (bs : List ℕ) (v : Ranged values.Value) (rest : List Lexeme)
    → ls ≡ lexeme_at k bs ∷ rest → k ≡ kind → IsPlain (lexeme_at kind bs) v → Reads plain ls v rest
reads_plain ls k kind bs v rest at is p =
    reads_related IsPlain (word any_lexeme) ls (lexeme_at kind bs) v rest
    (reads_word any_lexeme ls (lexeme_at kind bs) rest exact_lexeme
    (at ∙ ap (λ x. lexeme_at x bs ∷ rest) is)) p
    (λ w q. one_plain_of (lexeme_at kind bs) v w p q)

-- Values.

no_number_sign : (mid : List Lexeme) (minus : Bool)
    → begins_with_plain (plus_or_minus minus ∷ mid) ≡ false
no_number_sign mid true = refl
no_number_sign mid false = refl

no_number : AvoidsNumbers begins_with_plain
no_number mid = (no_number_sign mid, refl, λ bs. refl)

numeric_avoids : Avoids begins_with_plain numeric
numeric_avoids ls v rest p =
    ap begins_with_plain p.3.3.1
    ∙ expression_is_avoided begins_with_plain no_number p.3.2 p.3.1 p.2 p.3.4

abbrev numbered : Form Lexeme (Option (List ℕ) → Ranged values.Value)
numbered = made number_value <+> expression

pub reads_plain_value : (ls : List Lexeme) (v : Ranged values.Value) (rest : List Lexeme)
    → Reads plain ls v rest → Reads value ls v rest
reads_plain_value ls v rest r =
    reads_left begins_with_plain plain numeric ls v rest numeric_avoids
    (plain_told ls v rest r.read) r

pub reads_numeric :
    (ls : List Lexeme) (n : Ranged Num) (mid : List Lexeme) (c : Option (List ℕ))
    (rest : List Lexeme)
    → begins_with_plain ls ≡ false → Reads expression ls n mid → Reads currency_if_due mid c rest
    → Reads value ls (number_value n c) rest
reads_numeric ls n mid c rest absent r s =
    reads_right begins_with_plain plain numeric ls (number_value n c) rest plain_told absent
    (reads_next numbered currency_if_due ls (number_value n) mid c rest (λ rest. refl)
    (reads_first number_value expression ls n mid r) s)

pub none_value : (ls : List Lexeme) → begins_with_plain ls ≡ false → HasNone expression ls
    → HasNone value ls
none_value ls absent none =
    none_right begins_with_plain plain numeric ls plain_told absent
    (none_before numbered currency_if_due ls (λ rest. refl)
    (no_first number_value expression ls none))

more_of : (ls : List Lexeme) → begins_with_expression ls ≡ true → is_more ls ≡ true
more_of [] e = absurd (cc)
more_of (l ∷ ls) e = refl

value_told : Tells is_more value
value_told ls v rest (inl p) = ap is_more p.1
value_told ls v rest (inr p) =
    ap is_more p.3.3.1 ∙ more_of p.3.2 (expression_told p.3.2 p.3.1 p.2 p.3.4)

one_value : IsUnambiguous value
one_value =
    one_either begins_with_plain plain numeric plain_told numeric_avoids
    (one_related IsPlain (word any_lexeme) one_plain_of (one_word any_lexeme exact_lexeme))
    (one_next numbered currency_if_due (λ rest. refl)
    (one_first number_value expression one_expression) one_currency_due)

-- Lists of values.

values_separate : Separates value
values_separate ls v rest p = refl

abbrev pub no_values : Form Lexeme (Ranged (List values.Value))
no_values = made (Within [])

values_begin : BeginsRow no_values value
values_begin ls v rest p = refl

values_end : EndsItems is_more value all_values
values_end = row_ends is_more no_values (λ vs. vs) value with_value

-- values that were read, where all are in range
abbrev pub kept : Bool → List values.Value → Ranged (List values.Value)
kept true vs = Within vs
kept false vs = Outside

abbrev pub InValues : List Lexeme → Ranged (List values.Value) → List Lexeme → Type 0
InValues ls vs rest = InRow all_values value with_value ls vs rest

pub first_values : (ls : List Lexeme) (items : List values.Value) → items ≡ []
    → InValues ls (kept true items) ls
first_values ls items e =
    subst (λ x. InValues ls (Within x) ls) (sym e)
    (row_begins is_more no_values (λ vs. vs) value with_value ls (Within []) ls values_begin
    (reads_made (Within []) ls))

pub next_value :
    (ls : List Lexeme) (vs : Ranged (List values.Value)) (rest : List Lexeme)
    (v : Ranged values.Value) (more : List Lexeme)
    → InValues ls vs rest → Reads value rest v more → InValues ls (with_value vs v) more
next_value ls vs rest v more i r =
    row_goes_on is_more all_values value with_value ls vs rest v more values_end values_separate
    value_told i r

kept_with : (b : Bool) (items : List values.Value) (v : values.Value)
    → with_value (kept b items) (Within v) ≡ kept b (items ++ v ∷ [])
kept_with true items v = refl
kept_with false items v = refl

kept_without : (b : Bool) (items : List values.Value) → with_value (kept b items) Outside ≡ Outside
kept_without true items = refl
kept_without false items = refl

pub value_pushed :
    (ls : List Lexeme) (b b' : Bool) (items items' : List values.Value) (rest : List Lexeme)
    (found : Ranged values.Value) (v : values.Value) (more : List Lexeme)
    → b' ≡ b → items' ≡ items ++ v ∷ [] → found ≡ Within v → InValues ls (kept b items) rest
    → Reads value rest found more → InValues ls (kept b' items') more
value_pushed ls b b' items items' rest found v more same pushed is i r =
    let next =
    next_value ls (kept b items) rest (Within v) more i
    (subst (λ x. Reads value rest x more) is r) in
    subst (λ x. InValues ls (kept x items') more) (sym same)
    (subst (λ x. InValues ls (kept b x) more) (sym pushed)
    (subst (λ x. InValues ls x more) (kept_with b items v) next))

pub value_left_out :
    (ls : List Lexeme) (b b' : Bool) (items items' : List values.Value) (rest : List Lexeme)
    (found : Ranged values.Value) (more : List Lexeme)
    → b' ≡ false → found ≡ Outside → InValues ls (kept b items) rest → Reads value rest found more
    → InValues ls (kept b' items') more
value_left_out ls b b' items items' rest found more out is i r =
    let next =
    next_value ls (kept b items) rest Outside more i
    (subst (λ x. Reads value rest x more) is r) in
    subst (λ x. InValues ls (kept x items') more) (sym out)
    (subst (λ x. InValues ls x more) (kept_without b items) next)

pub no_next_value :
    (ls : List Lexeme) (vs : Ranged (List values.Value)) (rest : List Lexeme) (l : Lexeme)
    (more : List Lexeme) → InValues ls vs rest → rest ≡ l ∷ more → HasNone value rest
    → HasNone all_values ls
no_next_value ls vs rest l more i at none =
    none_in_row is_more all_values value with_value ls vs rest values_end values_separate i
    (ap is_more at) none

pub values_read : (ls : List Lexeme) (vs : Ranged (List values.Value)) (rest : List Lexeme)
    → InValues ls vs rest → rest ≡ [] → Reads all_values ls vs []
values_read ls vs rest i at =
    subst (λ m. Reads all_values ls vs m) at
    (row_is_read is_more all_values value with_value ls vs rest value_told i (ap is_more at))

pub one_all_values : IsUnambiguous all_values
one_all_values =
    one_row is_more no_values (λ vs. vs) value with_value values_begin values_separate value_told
    (one_made (Within [])) one_value

-- Entries.

abbrev keyed : Form Lexeme (Option (Ranged values.Value) → Ranged MetaEntry)
keyed = made entry_of <+> word Key

key_told : Tells begins_with_key (word Key)
key_told ls v rest p = ap begins_with_key p

reads_keyed : (ls : List Lexeme) (bs : List ℕ) (mid : List Lexeme) → ls ≡ Key bs ∷ mid
    → Reads keyed ls (entry_of bs) mid
reads_keyed ls bs mid at =
    reads_first entry_of (word Key) ls bs mid (reads_word Key ls bs mid exact_key at)

pub reads_entry :
    (ls : List Lexeme) (bs : List ℕ) (mid : List Lexeme) (v : Ranged values.Value)
    (rest : List Lexeme) → ls ≡ Key bs ∷ mid → Reads value mid v rest
    → Reads entry ls (entry_of bs (Some v)) rest
reads_entry ls bs mid v rest at r =
    reads_next keyed (due is_more value) ls (entry_of bs) mid (Some v) rest (λ rest. refl)
    (reads_keyed ls bs mid at)
    (reads_due is_more value mid v rest (value_told mid v rest r.read) r)

pub reads_empty_entry : (ls : List Lexeme) (bs : List ℕ) (mid : List Lexeme) → ls ≡ Key bs ∷ mid
    → mid ≡ [] → Reads entry ls (entry_of bs None) mid
reads_empty_entry ls bs mid at end =
    reads_next keyed (due is_more value) ls (entry_of bs) mid None mid (λ rest. refl)
    (reads_keyed ls bs mid at) (reads_not_due is_more value mid value_told (ap is_more end))

pub none_keyed : (ls : List Lexeme) → begins_with_key ls ≡ false → HasNone entry ls
none_keyed ls absent =
    none_before keyed (due is_more value) ls (λ rest. refl)
    (no_first entry_of (word Key) ls (none_at begins_with_key (word Key) ls key_told absent))

pub no_value_entry :
    (ls : List Lexeme) (bs : List ℕ) (mid : List Lexeme) (l : Lexeme) (more : List Lexeme)
    → ls ≡ Key bs ∷ mid → mid ≡ l ∷ more → HasNone value mid → HasNone entry ls
no_value_entry ls bs mid l more at some none =
    no_next keyed (due is_more value) ls (entry_of bs) mid (λ rest. refl) (reads_keyed ls bs mid at)
    (none_due is_more value mid (ap is_more some) none)

pub one_entry : IsUnambiguous entry
one_entry =
    one_next keyed (due is_more value) (λ rest. refl)
    (one_first entry_of (word Key) (one_word Key exact_key))
    (one_due is_more value value_told one_value)
