-- What a block gives is small where its tokens are, and has no more tags and links than tokens.
use Rattle.std.proofs.Common.{◌≡◌, ℕ, ◌+◌, ◌≤◌, Bool, true, false, List, [], ◌∷◌, length, Option}
use Rattle.std.proofs.Common.{Some, None, arith, ap, sym, subst, length-append}
use Rattle.std.specs.List.{AllByRecursion}
use Rattle.bean_base.specs.declared.days.Day as days
use Rattle.bean_lexer.specs.declared.token.Token.{Token}
use Rattle.bean_grammar.specs.declared.mark.Mark.{Mark}
use Rattle.bean_postings.specs.declared.posting.Posting.{Posting}
use Rattle.bean_grammar.specs.declared.ranged.Ranged.{Ranged}
use Rattle.bean_grammar.specs.declared.ranged.Ranged.TheVariants.{Within, Outside}
use Rattle.bean_grammar.specs.Ranged.{ranged_map2}
use Rattle.bean_directives.specs.declared.directive.Directive.{Directive}
use Rattle.bean_directives.specs.declared.directive.DirectiveKind.{DirectiveKind}
use Rattle.bean_directives.specs.declared.directive.DirectiveKind.TheVariants as kinds
use Rattle.bean_parser.specs.Block.{Line, lines, fault_line}
use Rattle.bean_parser.specs.Grammar.{Tree, Dated, Undated, HaveTree, takes_postings, with_body}
use Rattle.bean_parser.specs.Grammar.{directive_of, in_body, said}
use Rattle.bean_parser.specs.Outcome.{ReadsAs, GivesAt, AllGive}
use Rattle.bean_parser.specs.Under.{no_lines, with_lines, postings_in}
use Rattle.bean_parser.specs.declared.block.Outcome.{Outcome}
use Rattle.bean_parser.specs.declared.block.Outcome.TheVariants as outcome
use Rattle.bean_parser.specs.declared.statement.Statement.{Statement}
use Rattle.bean_parser.specs.declared.statement.Statement.TheVariants as statement
use Rattle.bean_parser.specs.declared.under.Body.{Body}
use Rattle.bean_directives.specs.SmallPart.{most, IsShortMark, IsShortEntry, IsSmallPosting}
use Rattle.bean_directives.specs.Small.{IsSmallKind, marks_of}
use Rattle.bean_parser.proofs.ShortFacts.{WhenWithin, mapped}
use Rattle.theory.proofs.AllFacts.{all_joined}
use Rattle.bean_parser.proofs.SmallHeadFacts.{marks_in, head_small}
use Rattle.bean_parser.proofs.SmallUndatedFacts.{IsShortUndated, undated_short}
use Rattle.bean_parser.proofs.SmallTokenFacts.{IsShortToken}
use Rattle.bean_parser.proofs.SmallCutFacts.{count}
use Rattle.bean_parser.proofs.SmallBodyFacts.{IsShortLine, lines_short, lexemes_in, lines_same}
use Rattle.bean_parser.proofs.SmallBodyFacts.{IsSmallBody, postings_small, body_small, body_marks}
use Rattle.bean_parser.proofs.SmallBodyFacts.{body_postings}

-- small but for the number of its tags and links
pub record IsSmallApart (d : Directive) : Type 0 where
  pub line : d.line ≤ most
  pub metadata : AllByRecursion IsShortEntry d.metadata
  pub kind : IsSmallKind d.kind

abbrev pub IsSmallStatement : Statement → Type 0
IsSmallStatement (statement.Directive d) = IsSmallApart d
IsSmallStatement (statement.Undated u) = IsShortUndated u.kind

-- how many tags and links a directive has; anything else counts as one
abbrev pub size_of : Statement → ℕ
size_of (statement.Directive d) = length (marks_of d.kind)
size_of (statement.Undated u) = 1

abbrev Fits : ℕ → Statement → Type 0
Fits n s = IsSmallStatement s × (size_of s ≤ n)

body_kind : (k : DirectiveKind) (ms : List Mark) (ps : List Posting) → IsSmallKind k
    → AllByRecursion IsShortMark ms → AllByRecursion IsSmallPosting ps → length ps ≤ most
    → IsSmallKind (with_body k ms ps)
body_kind (kinds.Transaction t) ms ps h m p few =
    record {
      payee = h.payee;
      narration = h.narration;
      marks = all_joined IsShortMark t.marks ms h.marks m;
      postings = p;
      few_postings = few;
    }
body_kind _ ms ps h m p few = h

more_marks : (k : DirectiveKind) (ms : List Mark) (ps : List Posting)
    → length (marks_of (with_body k ms ps)) ≤ length (marks_of k) + length ms
more_marks (kinds.Transaction t) ms ps = let e = length-append t.marks ms in omega arith
more_marks _ ms ps = omega arith

directive_fits : (n line : ℕ) (b : Body) (d : days.Day) (k : DirectiveKind) → line ≤ most
    → IsSmallKind k → IsSmallBody b → length (postings_in b) ≤ most
    → length (marks_of k) + length b.marks ≤ n
    → Fits n (statement.Directive (directive_of line b d k))
directive_fits n line b d k l h own ps few =
    let marks = more_marks k b.marks (postings_in b) in (
      record {
        line = l;
        metadata = own.metadata;
        kind = body_kind k b.marks (postings_in b) h own.marks (postings_small b own) ps;
      },
      omega arith,
    )

parts_fit : (n line : ℕ) (b : Body) (d : Ranged days.Day) (k : Ranged DirectiveKind) → line ≤ most
    → WhenWithin IsSmallKind k → IsSmallBody b → length (postings_in b) ≤ most
    → marks_in k + length b.marks ≤ n
    → WhenWithin (Fits n)
    (ranged_map2 (λ d k. statement.Directive (directive_of line b d k)) d k)
parts_fit n line b (Within d) (Within k) l h own ps few =
    directive_fits n line b d k l h own ps few
parts_fit n line b (Within d) Outside l h own ps few = tt
parts_fit n line b Outside k l h own ps few = tt

body_fits : (n : ℕ) (is_in_range : Bool) (s : Ranged Statement) → WhenWithin (Fits n) s
    → WhenWithin (Fits n) (in_body is_in_range s)
body_fits n true s h = h
body_fits n false s h = tt

tree_fits : (ls : List Line) (t : Tree) → AllByRecursion IsShortLine ls → lexemes_in ls ≤ most
    → HaveTree ls t → WhenWithin (Fits (lexemes_in ls)) (said t)
tree_fits [] t all few h = absurd h
tree_fits (l ∷ ls) (Dated line day kind ks) all few h =
    let postings = body_postings (takes_postings kind) ls ks all.1 h.2 in
    let b = with_lines no_lines ks in
    let head = head_small l.lexemes day kind all.0.1 h.1 in
    let own = body_small (takes_postings kind) ls ks all.1 h.2 in
    let under = body_marks (takes_postings kind) ls ks h.2 in
    let first : marks_in kind ≤ length l.lexemes = head.1 in
    body_fits (lexemes_in (l ∷ ls)) b.is_in_range
    (ranged_map2 (λ d k. statement.Directive (directive_of line b d k)) day kind)
    (parts_fit (lexemes_in (l ∷ ls)) line b day kind (subst (λ n. n ≤ most) (sym h.0) all.0.0)
    head.0 own (omega arith) (omega arith))
tree_fits (l ∷ ls) (Undated line kind) all few h =
    let first = ap length h.1.2 in
    let n : 1 ≤ lexemes_in (l ∷ ls) = omega arith in
    mapped (Fits (lexemes_in (l ∷ ls)))
    (λ k. statement.Undated record { line = line; kind = k }) kind
    (undated_short l.lexemes kind all.0.1 h.1) (λ k short. (short, n))

abbrev pub IsSmallOutcome : Outcome → Type 0
IsSmallOutcome (outcome.Statement s) = IsSmallStatement s
IsSmallOutcome (outcome.Fault f) = Unit {0}

abbrev pub size_in : Outcome → ℕ
size_in (outcome.Statement s) = size_of s
size_in (outcome.Fault f) = 0

abbrev FitsBlock : ℕ → Outcome → Type 0
FitsBlock n o = IsSmallOutcome o × (size_in o ≤ n)

fault_fits : (n : ℕ) (o : Outcome) (f : _) → o ≡ outcome.Fault f → FitsBlock n o
fault_fits n o f e =
    let none : FitsBlock n (outcome.Fault f) = (tt, omega arith) in subst (FitsBlock n) (sym e) none

reads_fit : (block : List Token) (o : Outcome) → AllByRecursion IsShortToken block
    → length block ≤ most → ReadsAs block o → FitsBlock (length block) o
reads_fit block (outcome.Fault f) all few h = (tt, omega arith)
reads_fit block (outcome.Statement s) all few h =
    let same = lines_same block in
    let fits = tree_fits (lines block) h.0 (lines_short block all) (omega arith) h.1.1 in
    let whole : Fits (lexemes_in (lines block)) s =
    subst (WhenWithin (Fits (lexemes_in (lines block)))) h.2 fits in
    let size : size_of s ≤ lexemes_in (lines block) = whole.1 in
    (whole.0, omega arith)

at_fits : (line : Option ℕ) (block : List Token) (o : Outcome) → AllByRecursion IsShortToken block
    → length block ≤ most → GivesAt line block o → FitsBlock (length block) o
at_fits (Some line) block o all few h = fault_fits (length block) o _ h
at_fits None block o all few h = reads_fit block o all few h

-- together
abbrev pub sizes : List Outcome → ℕ
sizes [] = 0
sizes (o ∷ os) = size_in o + sizes os

pub outcomes_fit : (blocks : List (List Token)) (os : List Outcome)
    → AllByRecursion (AllByRecursion IsShortToken) blocks → count blocks ≤ most
    → AllGive blocks os → AllByRecursion IsSmallOutcome os × (sizes os ≤ count blocks)
outcomes_fit [] [] all few give = (tt, omega arith)
outcomes_fit [] (o ∷ os) all few give = absurd (cc)
outcomes_fit (block ∷ blocks) [] all few give = absurd give
outcomes_fit (block ∷ blocks) (o ∷ os) all few give =
    let first = at_fits (fault_line block) block o all.0 (omega arith) give.0 in
    let rest = outcomes_fit blocks os all.1 (omega arith) give.1 in
    let own : size_in o ≤ length block = first.1 in
    let others : sizes os ≤ count blocks = rest.1 in
    ((first.0, rest.0), omega arith)
