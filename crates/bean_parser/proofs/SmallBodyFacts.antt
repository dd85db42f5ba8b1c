-- The lines under a first one are small where their lexemes are short, and have no more tags and
-- links than lexemes.
use Rattle.std.proofs.Common.{◌≡◌, ℕ, ◌+◌, ◌≤◌, Bool, List, [], ◌∷◌, length, map, Option, Some}
use Rattle.std.proofs.Common.{None, IfSome, arith, ap, refl, length-append}
use Rattle.std.specs.List.{AllByRecursion}
use Rattle.theory.specs.Cut.{cut_before}
use Rattle.bean_lexer.specs.declared.token.Token.{Token}
use Rattle.bean_grammar.specs.declared.metadata.MetaEntry.{MetaEntry}
use Rattle.bean_postings.specs.declared.posting.Posting.{Posting}
use Rattle.bean_grammar.specs.declared.ranged.Ranged.TheVariants.{Within, Outside}
use Rattle.bean_grammar.specs.Mark.{some_marks}
use Rattle.bean_grammar.specs.Metadata.{entry}
use Rattle.bean_postings.specs.Posting.{posting}
use Rattle.bean_parser.specs.Block.{Line, line_of, lines, begins_line, first_line}
use Rattle.bean_parser.specs.Under.{IsLine, AreLines, no_lines, under_posting, with_entry}
use Rattle.bean_parser.specs.Under.{all_before, with_line, with_lines, postings_in}
use Rattle.bean_parser.specs.declared.under.Body.{Body}
use Rattle.bean_parser.specs.declared.under.LineKind.{LineKind}
use Rattle.bean_parser.specs.declared.under.LineKind.TheVariants as kinds
use Rattle.bean_directives.specs.SmallPart.{most, IsShortMark, IsShortEntry, IsSmallPosting}
use Rattle.bean_parser.proofs.SmallKeeping.{kept}
use Rattle.theory.proofs.AllFacts.{all_joined, all_pushed}
use Rattle.bean_parser.proofs.SmallLineFacts.{IsShortLexeme, some_marks_kept, entry_kept}
use Rattle.bean_parser.proofs.SmallPostingFacts.{posting_kept}
use Rattle.bean_parser.proofs.SmallMarkFacts.{some_marks_no_more}
use Rattle.bean_parser.proofs.SmallTokenFacts.{IsShortToken, lexemes_short, lexemes_same}
use Rattle.bean_parser.proofs.SmallCutFacts.{cut_all, AreSome, cut_some, count, cut_count}

abbrev pub IsShortLine : Line → Type 0
IsShortLine l =
    (l.number ≤ most) × AllByRecursion IsShortLexeme l.lexemes × (1 ≤ length l.lexemes)

first_line_short : (ts : List Token) → AllByRecursion IsShortToken ts → first_line ts ≤ most
first_line_short [] all = omega arith
first_line_short (t ∷ ts) all = all.0.1

parts_short : (parts : List (List Token)) → AllByRecursion (AllByRecursion IsShortToken) parts
    → AreSome parts → AllByRecursion IsShortLine (map line_of parts)
parts_short [] all some = tt
parts_short (ts ∷ parts) all some =
    let same = lexemes_same ts in
    let first : 1 ≤ length ts = some.0 in (
      (first_line_short ts all.0, lexemes_short ts all.0, omega arith),
      parts_short parts all.1 some.1,
    )

pub lines_short : (ts : List Token) → AllByRecursion IsShortToken ts
    → AllByRecursion IsShortLine (lines ts)
lines_short ts all =
    parts_short (cut_before begins_line ts) (cut_all IsShortToken begins_line ts all)
    (cut_some begins_line ts)

-- how many lexemes lines have together
abbrev pub lexemes_in : List Line → ℕ
lexemes_in [] = 0
lexemes_in (l ∷ ls) = length l.lexemes + lexemes_in ls

parts_same : (parts : List (List Token)) → lexemes_in (map line_of parts) ≡ count parts
parts_same [] = omega arith
parts_same (ts ∷ parts) =
    let first = lexemes_same ts in
    let rest = parts_same parts in
    omega arith

pub lines_same : (ts : List Token) → lexemes_in (lines ts) ≡ length ts
lines_same ts =
    let p = parts_same (cut_before begins_line ts) in
    let c = cut_count begins_line ts in
    omega arith

-- What lines say.

pub record IsSmallBody (b : Body) : Type 0 where
  pub metadata : AllByRecursion IsShortEntry b.metadata
  pub marks : AllByRecursion IsShortMark b.marks
  pub before : AllByRecursion IsSmallPosting b.before
  pub last : IfSome b.last IsSmallPosting

under_small : (p : Posting) (e : MetaEntry) → IsSmallPosting p → IsShortEntry e
    → IsSmallPosting (under_posting p e)
under_small p e h k =
    record {
      line = h.line;
      account = h.account;
      units = h.units;
      cost = h.cost;
      price = h.price;
      metadata = all_pushed IsShortEntry p.details.metadata e h.metadata k;
    }

entry_small : (b : Body) (o : Option Posting) (e : MetaEntry) → IsSmallBody b → IfSome o IsSmallPosting
    → IsShortEntry e → IsSmallBody (with_entry b o e)
entry_small b None e h p k =
    record {
      metadata = all_pushed IsShortEntry b.metadata e h.metadata k;
      marks = h.marks;
      before = h.before;
      last = h.last;
    }
entry_small b (Some p) e h q k =
    record {
      metadata = h.metadata;
      marks = h.marks;
      before = h.before;
      last = under_small p e q k;
    }

before_small : (ps : List Posting) (o : Option Posting) → AllByRecursion IsSmallPosting ps
    → IfSome o IsSmallPosting → AllByRecursion IsSmallPosting (all_before ps o)
before_small ps None h k = h
before_small ps (Some p) h k = all_pushed IsSmallPosting ps p h k

pub postings_small : (b : Body) → IsSmallBody b → AllByRecursion IsSmallPosting (postings_in b)
postings_small b h = before_small b.before b.last h.before h.last

line_small : (in_transaction : Bool) (l : Line) (k : LineKind) (b : Body) → IsShortLine l
    → IsLine in_transaction l k → IsSmallBody b → IsSmallBody (with_line b k)
line_small t l (kinds.Entry (Within e)) b s is h =
    entry_small b b.last e h h.last (kept entry l.lexemes (Within e) entry_kept s.1 is)
line_small t l (kinds.Entry Outside) b s is h =
    record {
      metadata = h.metadata;
      marks = h.marks;
      before = h.before;
      last = h.last;
    }
line_small t l (kinds.Marks ms) b s is h =
    let own = kept some_marks l.lexemes ms some_marks_kept s.1 is.1 in
    record {
      metadata = h.metadata;
      marks = all_joined IsShortMark b.marks ms h.marks own;
      before = h.before;
      last = h.last;
    }
line_small t l (kinds.Posting (Within p)) b s is h =
    let own = kept (posting l.number) l.lexemes (Within p) (posting_kept l.number s.0) s.1 is.1 in
    record {
      metadata = h.metadata;
      marks = h.marks;
      before = before_small b.before b.last h.before h.last;
      last = own;
    }
line_small t l (kinds.Posting Outside) b s is h =
    record {
      metadata = h.metadata;
      marks = h.marks;
      before = h.before;
      last = h.last;
    }

lines_small : (in_transaction : Bool) (ls : List Line) (ks : List LineKind) (b : Body)
    → AllByRecursion IsShortLine ls → AreLines in_transaction ls ks → IsSmallBody b
    → IsSmallBody (with_lines b ks)
lines_small t [] [] b all are h = h
lines_small t [] (k ∷ ks) b all are h = absurd (cc)
lines_small t (l ∷ ls) [] b all are h = absurd are
lines_small t (l ∷ ls) (k ∷ ks) b all are h =
    lines_small t ls ks (with_line b k) all.1 are.1 (line_small t l k b all.0 are.0 h)

pub body_small : (in_transaction : Bool) (ls : List Line) (ks : List LineKind)
    → AllByRecursion IsShortLine ls → AreLines in_transaction ls ks
    → IsSmallBody (with_lines no_lines ks)
body_small t ls ks all are =
    lines_small t ls ks no_lines all are
    record { metadata = tt; marks = tt; before = tt; last = tt }

-- Tags and links.

entry_marks : (b : Body) (o : Option Posting) (e : MetaEntry) → (with_entry b o e).marks ≡ b.marks
entry_marks b None e = refl
entry_marks b (Some p) e = refl

line_marks : (in_transaction : Bool) (l : Line) (k : LineKind) (b : Body)
    → IsLine in_transaction l k
    → length (with_line b k).marks ≤ length b.marks + length l.lexemes
line_marks t l (kinds.Entry (Within e)) b is =
    let same = ap length (entry_marks b b.last e) in omega arith
line_marks t l (kinds.Entry Outside) b is = omega arith
line_marks t l (kinds.Marks ms) b is =
    let both = length-append b.marks ms in
    let own = some_marks_no_more l.lexemes ms [] is.1 in
    omega arith
line_marks t l (kinds.Posting (Within p)) b is = omega arith
line_marks t l (kinds.Posting Outside) b is = omega arith

lines_marks : (in_transaction : Bool) (ls : List Line) (ks : List LineKind) (b : Body)
    → AreLines in_transaction ls ks
    → length (with_lines b ks).marks ≤ length b.marks + lexemes_in ls
lines_marks t [] [] b are = omega arith
lines_marks t [] (k ∷ ks) b are = absurd (cc)
lines_marks t (l ∷ ls) [] b are = absurd are
lines_marks t (l ∷ ls) (k ∷ ks) b are =
    let first = line_marks t l k b are.0 in
    let rest = lines_marks t ls ks (with_line b k) are.1 in
    omega arith

pub body_marks : (in_transaction : Bool) (ls : List Line) (ks : List LineKind)
    → AreLines in_transaction ls ks → length (with_lines no_lines ks).marks ≤ lexemes_in ls
body_marks t ls ks are = let m = lines_marks t ls ks no_lines are in omega arith

-- Postings.

entry_postings : (b : Body) (o : Option Posting) (e : MetaEntry) → b.last ≡ o
    → length (postings_in (with_entry b o e)) ≡ length (postings_in b)
entry_postings b None e is = refl
entry_postings b (Some p) e is =
    let last = ap (λ o. length (all_before b.before o)) is in
    let old = length-append b.before (p ∷ []) in
    let new = length-append b.before (under_posting p e ∷ []) in
    omega arith

line_postings : (in_transaction : Bool) (l : Line) (k : LineKind) (b : Body) → IsShortLine l
    → IsLine in_transaction l k
    → length (postings_in (with_line b k)) ≤ length (postings_in b) + length l.lexemes
line_postings t l (kinds.Entry (Within e)) b s is =
    let same = entry_postings b b.last e refl in omega arith
line_postings t l (kinds.Entry Outside) b s is = omega arith
line_postings t l (kinds.Marks ms) b s is = omega arith
line_postings t l (kinds.Posting (Within p)) b s is =
    let both = length-append (postings_in b) (p ∷ []) in
    let some : 1 ≤ length l.lexemes = s.2 in
    omega arith
line_postings t l (kinds.Posting Outside) b s is = omega arith

lines_postings : (in_transaction : Bool) (ls : List Line) (ks : List LineKind) (b : Body)
    → AllByRecursion IsShortLine ls → AreLines in_transaction ls ks
    → length (postings_in (with_lines b ks)) ≤ length (postings_in b) + lexemes_in ls
lines_postings t [] [] b all are = omega arith
lines_postings t [] (k ∷ ks) b all are = absurd (cc)
lines_postings t (l ∷ ls) [] b all are = absurd are
lines_postings t (l ∷ ls) (k ∷ ks) b all are =
    let first = line_postings t l k b all.0 are.0 in
    let rest = lines_postings t ls ks (with_line b k) all.1 are.1 in
    omega arith

pub body_postings : (in_transaction : Bool) (ls : List Line) (ks : List LineKind)
    → AllByRecursion IsShortLine ls → AreLines in_transaction ls ks
    → length (postings_in (with_lines no_lines ks)) ≤ lexemes_in ls
body_postings t ls ks all are = let n = lines_postings t ls ks no_lines all are in omega arith
