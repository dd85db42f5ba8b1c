-- What a line under a first one says, and what it doesn't.
use Rattle.std.proofs.Common.{◌≡◌, ℕ, Bool, true, false, List, [], ◌∷◌, Option, Some, None, refl}
use Rattle.std.proofs.Common.{◌∙◌, ap, subst}
use Rattle.theory.specs.Form.{Reads, HasNone, Is, IsNone, DueRead, word}
use Rattle.theory.proofs.FormFacts.{Tells, none_whole, more_than_whole}
use Rattle.bean_base.specs.declared.flags.Flag as flags
use Rattle.bean_base.specs.declared.flags.Flag.TheVariants.{Complete, Incomplete}
use Rattle.bean_lexer.specs.declared.token.Token.{Token}
use Rattle.bean_grammar.specs.declared.mark.Mark.{Mark}
use Rattle.bean_grammar.specs.declared.mark.Mark.TheVariants as mark
use Rattle.bean_grammar.specs.declared.metadata.MetaEntry.{MetaEntry}
use Rattle.bean_postings.specs.declared.posting.Posting.{Posting}
use Rattle.bean_grammar.specs.declared.ranged.Ranged.{Ranged}
use Rattle.bean_grammar.specs.Lexeme.{Lexeme, Account, lexemes, begins_with_key}
use Rattle.bean_grammar.specs.Mark.{written, begins_with_mark, some_marks}
use Rattle.bean_grammar.specs.Metadata.{entry}
use Rattle.bean_postings.specs.Posting.{flag_sign, begins_with_flag_sign, posting}
use Rattle.bean_parser.specs.Block.{line_of, first_line}
use Rattle.bean_parser.specs.Under.{IsLine}
use Rattle.bean_parser.specs.declared.under.LineKind.{LineKind}
use Rattle.bean_parser.specs.declared.under.LineKind.TheVariants as kinds

-- How lines begin.

pub entry_told : Tells begins_with_key entry
entry_told ls v rest p = ap begins_with_key (p.3.3.1 ∙ p.3.4)

marked_at : (m : Mark) (rest : List Lexeme)
    → (begins_with_mark (written m ∷ rest) ≡ true) × (begins_with_key (written m ∷ rest) ≡ false)
marked_at (mark.Tag t) rest = (refl, refl)
marked_at (mark.Link l) rest = (refl, refl)

pub marks_begin : (ls : List Lexeme) (ms : List Mark) → Is some_marks ls ms
    → (begins_with_mark ls ≡ true) × (begins_with_key ls ≡ false)
marks_begin ls ms p =
    let at = marked_at p.0 p.2 in
    (ap begins_with_mark p.3 ∙ at.0, ap begins_with_key p.3 ∙ at.1)

flagged_begins : (o : Option flags.Flag) (ls mid : List Lexeme) (bs : List ℕ) (rest : List Lexeme)
    → DueRead begins_with_flag_sign (word flag_sign) ls o mid → mid ≡ Account bs ∷ rest
    → (begins_with_mark ls ≡ false) × (begins_with_key ls ≡ false)
flagged_begins None ls mid bs rest h at =
    (ap begins_with_mark (h.0 ∙ at), ap begins_with_key (h.0 ∙ at))
flagged_begins (Some Complete) ls mid bs rest h at = (ap begins_with_mark h, ap begins_with_key h)
flagged_begins (Some Incomplete) ls mid bs rest h at = (ap begins_with_mark h, ap begins_with_key h)

pub posting_begins : (line : ℕ) (ls : List Lexeme) (v : Ranged Posting) → Is (posting line) ls v
    → (begins_with_mark ls ≡ false) × (begins_with_key ls ≡ false)
posting_begins line ls v p =
    let named = p.3.3.3 in
    let flagged = named.3 in
    let at = flagged_begins flagged.1 flagged.2 named.2 named.1 _ flagged.4 named.4 in
    (ap begins_with_mark flagged.3.1 ∙ at.0, ap begins_with_key flagged.3.1 ∙ at.1)

pub both : (b : Bool) → b ≡ true → b ≡ false → ⊥
both b e f = cc

-- Entries.

pub no_entry_line : (ls : List Lexeme) → HasNone entry ls → IsNone entry ls
no_entry_line ls none = none_whole entry ls refl none

pub more_than_entry : (ls : List Lexeme) (v : Ranged MetaEntry) (l : Lexeme) (rest more : List Lexeme)
    → Reads entry ls v rest → rest ≡ l ∷ more → IsNone entry ls
more_than_entry ls v l rest more r at =
    more_than_whole entry ls v l more refl (subst (λ m. Reads entry ls v m) at r)

-- Lines.

pub no_line_with_key : (in_transaction : Bool) (line : List Token)
    → begins_with_key (lexemes line) ≡ true → IsNone entry (lexemes line) → (k : LineKind)
    → IsLine in_transaction (line_of line) k → ⊥
no_line_with_key in_transaction line key none (kinds.Entry e) h = none e h
no_line_with_key in_transaction line key none (kinds.Marks ms) h =
    both _ key (marks_begin (lexemes line) ms h.1).1
no_line_with_key in_transaction line key none (kinds.Posting p) h =
    both _ key (posting_begins (first_line line) (lexemes line) p h.1).1

pub no_line_of_marks : (line : List Token) → begins_with_key (lexemes line) ≡ false
    → begins_with_mark (lexemes line) ≡ true → IsNone some_marks (lexemes line)
    → (k : LineKind) → IsLine true (line_of line) k → ⊥
no_line_of_marks line no_key marked none (kinds.Entry e) h =
    both _ (entry_told (lexemes line) e [] h) no_key
no_line_of_marks line no_key marked none (kinds.Marks ms) h = none ms h.1
no_line_of_marks line no_key marked none (kinds.Posting p) h =
    both _ marked (posting_begins (first_line line) (lexemes line) p h.1).0

pub no_posting_line : (line : List Token) → begins_with_key (lexemes line) ≡ false
    → begins_with_mark (lexemes line) ≡ false → IsNone (posting (first_line line)) (lexemes line)
    → (k : LineKind) → IsLine true (line_of line) k → ⊥
no_posting_line line no_key no_mark none (kinds.Entry e) h =
    both _ (entry_told (lexemes line) e [] h) no_key
no_posting_line line no_key no_mark none (kinds.Marks ms) h =
    both _ (marks_begin (lexemes line) ms h.1).0 no_mark
no_posting_line line no_key no_mark none (kinds.Posting p) h = none p h.1

-- outside a transaction each line has a key
pub no_other_line : (line : List Token) → begins_with_key (lexemes line) ≡ false → (k : LineKind)
    → IsLine false (line_of line) k → ⊥
no_other_line line no_key (kinds.Entry e) h = both _ (entry_told (lexemes line) e [] h) no_key
no_other_line line no_key (kinds.Marks ms) h = both _ h.0 refl
no_other_line line no_key (kinds.Posting p) h = both _ h.0 refl
