-- A block that is a transaction gives it.
use Rattle.std.proofs.Common.{◌≡◌, ◌<◌, true, false, Bool, List, [], ◌∷◌, ◌++◌, Some, None, refl}
use Rattle.std.proofs.Common.{sym, subst, ap, ◌∙◌}
use Rattle.std.specs.Prelude.{if◌then◌else◌}
use Rattle.std.specs.List.{find}
use Rattle.std.specs.Option.{option_map}
use Rattle.theory.specs.Cut.{cut_before}
use Rattle.theory.specs.Form.{Is}
use Rattle.bean_lexer.specs.ToCome.{ToCome, EndsLines}
use Rattle.bean_lexer.specs.declared.kind.Kind.TheVariants as tokens
use Rattle.bean_lexer.specs.declared.kind.Sign.TheVariants.{Minus}
use Rattle.bean_lexer.specs.declared.kind.Place.TheVariants.{Inside}
use Rattle.bean_lexer.specs.declared.lexer.Lexer.{Lexer}
use Rattle.bean_lexer.specs.declared.token.Token.{Token}
use Rattle.bean_grammar.specs.declared.ranged.Ranged.TheVariants.{Within}
use Rattle.bean_grammar.specs.Lexeme.{lexemes}
use Rattle.bean_postings.specs.Posting.{posting}
use Rattle.bean_postings.specs.declared.posting.Posting.{Posting}
use Rattle.bean_directives.specs.Given.{kind_with, with_postings}
use Rattle.bean_directives.specs.declared.directive.Directive.{Directive}
use Rattle.bean_directives.specs.declared.directive.DirectiveKind.TheVariants as kinds
use Rattle.bean_directives.specs.declared.transaction.Transaction.{Transaction}
use Rattle.bean_parser.specs.Block.{first_line, is_in_column_one, fault_line, is_fault, is_fault_token}
use Rattle.bean_parser.specs.Block.{begins_line, begins_line_at}
use Rattle.bean_parser.specs.Grammar.{directive_of, in_body}
use Rattle.bean_parser.specs.Outcome.{Gives, GivesAt}
use Rattle.bean_parser.specs.Plain.{HasSaid, IsFirstLine, IsPostingBehind, TakesUnder}
use Rattle.bean_parser.specs.Reading.{ReadsBlock}
use Rattle.bean_parser.specs.Taken.{TakesDirective}
use Rattle.bean_parser.specs.Taking.{NoneOf, TakesFirst, TakesOthers, left_of}
use Rattle.bean_parser.specs.Under.{no_lines, postings_in, with_lines}
use Rattle.bean_parser.specs.declared.under.Body.{Body}
use Rattle.bean_parser.specs.declared.under.LineKind.{LineKind}
use Rattle.bean_parser.specs.declared.block.Outcome.TheVariants as outcomes
use Rattle.bean_parser.specs.declared.statement.Statement.TheVariants as statements
use Rattle.bean_parser.proofs.BlockFacts.{dated_is}
use Rattle.bean_parser.proofs.TakingFacts.{cut_off, none_of_both, block_taken, block_shorter}
use Rattle.bean_parser.proofs.UnderFacts.{none_from}

-- What stands behind an account.

pub amount_behind : (account number currency : Token) (before mid after : Lexer) (p : Posting)
    → account.kind ≡ tokens.Account → number.kind ≡ tokens.Number → currency.kind ≡ tokens.Currency
    → number.place ≡ Inside → currency.place ≡ Inside
    → ((ts : List Token) → ToCome mid ts → ToCome before (number ∷ ts))
    → ((ts : List Token) → ToCome after ts → ToCome mid (currency ∷ ts))
    → Is (posting account.line) (lexemes (account ∷ (number ∷ (currency ∷ [])))) (Within p)
    → IsPostingBehind account before after p
amount_behind account number currency before mid after p kind of_number of_currency in_line last first
    next said = record {
      others = number ∷ (currency ∷ []);
      inside = (ap begins_line_at in_line, (ap begins_line_at last, tt));
      no_fault = (ap is_fault kind, (ap is_fault of_number, (ap is_fault of_currency, tt)));
      said = said;
      to_come = λ ts h. first (currency ∷ ts) (next ts h);
    }

pub negative_behind :
    (account minus number currency : Token) (before at mid after : Lexer) (p : Posting)
    → account.kind ≡ tokens.Account → minus.kind ≡ tokens.Sign Minus
    → number.kind ≡ tokens.Number → currency.kind ≡ tokens.Currency
    → minus.place ≡ Inside → number.place ≡ Inside → currency.place ≡ Inside
    → ((ts : List Token) → ToCome at ts → ToCome before (minus ∷ ts))
    → ((ts : List Token) → ToCome mid ts → ToCome at (number ∷ ts))
    → ((ts : List Token) → ToCome after ts → ToCome mid (currency ∷ ts))
    → Is (posting account.line) (lexemes (account ∷ (minus ∷ (number ∷ (currency ∷ []))))) (Within p)
    → IsPostingBehind account before after p
negative_behind account minus number currency before at mid after p kind of_minus of_number of_currency
    first_in in_line last first second next said = record {
      others = minus ∷ (number ∷ (currency ∷ []));
      inside = (ap begins_line_at first_in, (ap begins_line_at in_line, (ap begins_line_at last, tt)));
      no_fault = (
        ap is_fault kind,
        (ap is_fault of_minus, (ap is_fault of_number, (ap is_fault of_currency, tt))),
      );
      said = said;
      to_come = λ ts h. first (number ∷ (currency ∷ ts)) (second (currency ∷ ts) (next ts h));
    }

-- A transaction, from its first line and its postings.

find_past : (p : Token → Bool) (t : Token) (ts : List Token) → p t ≡ false
    → find p (t ∷ ts) ≡ find p ts
find_past p t ts h = ap (λ b. if b then Some t else find p ts) h

none_at : (ts : List Token) → NoneOf is_fault_token ts → fault_line ts ≡ None
none_at [] none = refl
none_at (t ∷ ts) none =
    ap (option_map (λ t. t.line)) (find_past is_fault_token t ts none.0) ∙ none_at ts none.1

in_column_one : (line under : List Token) → is_in_column_one line ≡ true
    → is_in_column_one (line ++ under) ≡ true
in_column_one [] under column = absurd (cc)
in_column_one (t ∷ ts) under column = column

same_number : (line under : List Token) → is_in_column_one line ≡ true
    → first_line line ≡ first_line (line ++ under)
same_number [] under column = absurd (cc)
same_number (t ∷ ts) under column = refl

others_taken : (before after : Lexer) (ks : List LineKind) (line : List Token)
    → (taken : TakesUnder before after ks) → EndsLines after
    → TakesOthers before line after (line ++ taken.under)
others_taken before after ks line taken ends = record {
  others = taken.under;
  put = refl;
  none_begins = taken.none_begins;
  ends = ends;
  to_come = taken.to_come;
  no_longer = taken.no_longer;
}

-- a directive that says what a head and the lines under it say is given its postings
given : (head : Directive) (t : Transaction) (others : List Posting) (b : Body) (d : Directive)
    (all : List Posting) → HasSaid head t others b d all
    → with_postings (postings_in b) d
    ≡ directive_of head.line b head.day (kinds.Transaction t)
given head t others b d all said =
    λ i. record {
      day = said.day i;
      line = said.line i;
      metadata = said.metadata i;
      kind = kind_with (postings_in b) (said.kind i);
    }

pub transaction_taken :
    (before mid after : Lexer) (line : List Token) (head d : Directive) (ks : List LineKind)
    (others all : List Posting) → TakesFirst before line mid → (is : IsFirstLine line head)
    → TakesUnder mid after ks → EndsLines after
    → HasSaid head is.transaction others (with_lines no_lines ks) d all
    → TakesDirective (with_postings (postings_in (with_lines no_lines ks)) d) before after
transaction_taken before mid after line head d ks others all first is taken ends said =
    let b = with_lines no_lines ks in
    let block = line ++ taken.under in
    let s = statements.Directive (directive_of head.line b head.day (kinds.Transaction is.transaction))
    in
    let cut : cut_before begins_line block ≡ line ∷ cut_before begins_line taken.under =
    subst (λ xs. cut_before begins_line (xs ++ taken.under) ≡ xs ∷ cut_before begins_line taken.under)
    (sym first.is)
    (cut_off begins_line first.first first.others taken.under first.inside taken.starts) in
    let no_fault : fault_line block ≡ None =
    none_at block
    (none_of_both is_fault_token line taken.under (none_from line is.no_fault) taken.no_fault) in
    let number = same_number line taken.under is.column in
    let read : ReadsBlock block (Some (Within s)) =
    dated_is block line taken.under (Within head.day) (Within (kinds.Transaction is.transaction))
    head.line (Some (Within s)) (in_column_one line taken.under is.column) cut number is.head
    (is.number ∙ number)
    (ks, taken.said, ap (λ r. in_body r (Within s)) (sym said.in_range)) in (
      block,
      block_taken before mid after line block first (others_taken mid after ks line taken ends),
      subst (λ x. Gives block (outcomes.Statement (statements.Directive x)))
          (sym (given head is.transaction others b d all said))
          (subst (λ o. GivesAt o block (outcomes.Statement s)) (sym no_fault)
          (read.0, read.1, sym read.2)),
    )

pub transaction_shorter :
    (before mid after : Lexer) (line : List Token) (ks : List LineKind)
    → TakesFirst before line mid → TakesUnder mid after ks → EndsLines after
    → left_of after < left_of before
transaction_shorter before mid after line ks first taken ends =
    block_shorter before mid after line _ first (others_taken mid after ks line taken ends)
