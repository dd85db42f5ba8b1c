-- What is found comes to.
use Rattle.std.proofs.Common.{◌≡◌, ℕ, Bool, List, [], Option, Some, None, Result, Ok, Err, length}
use Rattle.std.proofs.Common.{refl, ◌-◌, ◌<◌, ◌≤◌, get_or, ◌∷◌, ◌++◌, is_some, subst, arith}
use Rattle.std.specs.Prelude.{nat_le}
use Rattle.std.proofs.lemmas.List.{length-append, append-nil}
use Rattle.std.proofs.Common.{sym, ap, ◌∙◌, inl, inr}
use Rattle.theory.specs.Form.{Reads, IsNone}
use Rattle.bql_lexer.specs.Tokens.{AreTokens}
use Rattle.bql_lexer.specs.declared.token.Token.{Token}
use Rattle.bql_tree.specs.Cause.{both}
use Rattle.bql_tree.specs.declared.cause.PartCause.{PartCause}
use Rattle.bql_lexer.specs.declared.kind.Kind.TheVariants as kind
use Rattle.bql_grammar.specs.Beginning.{BeginsOne, Before}
use Rattle.bql_grammar.specs.Front as fronts
use Rattle.bql_grammar.specs.Front.{of_kind}
use Rattle.bql_grammar.specs.Nesting as nesting
use Rattle.bql_grammar.specs.Nesting.{Standing, wanting, through, is_full, still_open}
use Rattle.bql_grammar.specs.declared.stuck.Stuck.{Stuck}
use Rattle.bql_grammar.specs.declared.stuck.Stuck.TheVariants.{OutOfMemory, At}
use Rattle.bql_parser.specs.Asked.{Asked}
use Rattle.bql_grammar.specs.Grammar.{query}
use Rattle.bql_parser.specs.Parse.{Parses, IsQuery, Stops, IsAnswered, Meets}
use Rattle.bql_parser.specs.Parse.{is_deep, is_left, IsRefusalBy, BeginsAQuery}
use Rattle.bql_grammar.specs.Read.{Read}
use Rattle.bql_parser.specs.Settled.{mapped, refused_at, byte_beyond, settled, answer}
use Rattle.bql_grammar.specs.Whole.{IsRead}
use Rattle.bql_parser.specs.declared.cause.QueryCause.{QueryCause}
use Rattle.bql_parser.specs.declared.cause.QueryCause.TheVariants as cause
use Rattle.refusals.specs.declared.refusal.Refusal.{Refusal}
use Rattle.refusals.specs.declared.refusal.Refusal.TheVariants as refusal
use Rattle.bql_parser.specs.declared.query.Query.{Query}

-- Both of two, by views of them.

abbrev each : {A B C D : Type 0} → (A → B) → (C → D) → A × C → B × D
each f g p = (f p.0, g p.1)

both_mapped : {A B C D : Type 0} (f : A → B) (g : C → D) (a : Result A PartCause) (c : Result C PartCause)
    → both (mapped f a) (mapped g c) ≡ mapped (each f g) (both a c)
both_mapped f g (Ok a) (Ok c) = refl
both_mapped f g (Ok a) (Err d) = refl
both_mapped f g (Err d) (Ok c) = refl
both_mapped f g (Err d) (Err e) = refl

pub all_refused : {A B C D A' B' C' D' S : Type 0} (fa : A → A') (fb : B → B') (fc : C → C')
    (fd : D → D') (whole : ((A' × B') × C') × D' → S) (a : Result A PartCause) (b : Result B PartCause)
    (c : Result C PartCause) (d : Result D PartCause) (a' : Result A' PartCause) (b' : Result B' PartCause)
    (c' : Result C' PartCause) (d' : Result D' PartCause) (e : PartCause) → mapped fa a ≡ a' → mapped fb b ≡ b'
    → mapped fc c ≡ c' → mapped fd d ≡ d' → both (both (both a b) c) d ≡ Err e
    → Err e ≡ mapped whole (both (both (both a' b') c') d')
all_refused fa fb fc fd whole a b c d a' b' c' d' e pa pb pc pd is =
    ap (λ r. mapped whole (mapped (each (each (each fa fb) fc) fd) r)) (sym is)
    ∙ ap (mapped whole)
    (sym (ap (λ r. both (both r (mapped fc c)) (mapped fd d)) (both_mapped fa fb a b)
    ∙ ap (λ r. both r (mapped fd d)) (both_mapped (each fa fb) fc (both a b) c)
    ∙ both_mapped (each (each fa fb) fc) fd (both (both a b) c) d))
    ∙ ap (λ r. mapped whole (both (both (both r (mapped fb b)) (mapped fc c)) (mapped fd d))) pa
    ∙ ap (λ r. mapped whole (both (both (both a' r) (mapped fc c)) (mapped fd d))) pb
    ∙ ap (λ r. mapped whole (both (both (both a' b') r) (mapped fd d))) pc
    ∙ ap (λ r. mapped whole (both (both (both a' b') c') r)) pd

-- Texts of the grammar.

is_parsed : (text : List ℕ) (r : Read) (found : Result Asked PartCause) (result : Result Query (Refusal QueryCause))
    → IsQuery text r → answer text r ≡ found → IsAnswered found result → Parses text result
is_parsed text r found (Ok q) is e h = (r, is, e ∙ h)
is_parsed text r found (Err (refusal.Refused (cause.Part c))) is e h = inl (r, is, e ∙ h)
is_parsed text r found (Err (refusal.Refused (cause.Syntax place))) is e h = absurd h
is_parsed text r found (Err refusal.OutOfMemory) is e h = absurd h

pub parsed : (text : List ℕ) (ts : List Token) (r : Read) (found : Result Asked PartCause)
    (result : Result Query (Refusal QueryCause)) → AreTokens text ts → Reads (query text) ts r []
    → found ≡ settled r → IsAnswered (refused_at (byte_beyond (length text)) found) result
    → Parses text result
parsed text ts r found result tokens read e h =
    is_parsed text r (refused_at (byte_beyond (length text)) found) result (ts, tokens, read)
    (ap (refused_at (byte_beyond (length text))) (sym e)) h

pub refused_mapped : {A B : Type 0} (f : A → B) (place : Option ℕ) (found : Result A PartCause)
    → mapped f (refused_at place found) ≡ refused_at place (mapped f found)
refused_mapped f None found = refl
refused_mapped f (Some place) (Ok a) = refl
refused_mapped f (Some place) (Err c) = refl

-- Where they stop.

-- the token that stands there
pub record Met (ts : List Token) (t : Token) (deep : Bool) : Type 0 where
  pub before : List Token
  pub behind : List Token
  pub cut : ts ≡ before ++ t ∷ behind
  pub deep_there : deep ≡ is_deep before t
  pub begun : BeginsAQuery before

is_some_before : {V : Type 0} (o : Option V) (ts us : List Token)
    → is_some (fronts.before ts o) ≡ is_some (fronts.before us o)
is_some_before (Some v) ts us = refl
is_some_before None ts us = refl

-- how deep it stands doesn't depend on what stands behind it
same_depth : (p : Standing) (t : Token) (ts us : List Token)
    → is_full p (t ∷ ts) ≡ is_full p (t ∷ us)
same_depth p t ts us =
    ap (λ b. nat_le 200 (length (still_open p.last b p.within)))
    (is_some_before (of_kind kind.OpenParenthesis t) ts us)

at_seam : (before us : List Token) (t : Token) → 0 < length us
    → ((d : Token) → t ≡ get_or (before ++ us) (length before) d)
    → (behind : List Token) × (us ≡ t ∷ behind)
at_seam [] [] t some e = absurd (omega (arith, some))
at_seam [] (u ∷ us) t some e = (us, ap (λ v. v ∷ us) (sym (e u)))
at_seam (b ∷ before) us t some e = at_seam before us t some e

met_at : (ts passed rest : List Token) (t : Token) (deep : Bool) → ts ≡ passed ++ rest
    → deep ≡ is_full (through (wanting []) passed) rest → BeginsAQuery passed
    → (behind : List Token) × (rest ≡ t ∷ behind) → Met ts t deep
met_at ts passed rest t deep cut full begun b = record {
  before = passed;
  behind = b.0;
  cut = cut ∙ ap (λ us. passed ++ us) b.1;
  deep_there = full ∙ ap (is_full (through (wanting []) passed)) b.1
      ∙ same_depth (through (wanting []) passed) t b.0 [];
  begun = begun;
}

-- as many tokens are left, so the same stand before
same_before : (xs ys us vs : List Token) → xs ++ us ≡ ys ++ vs → length us ≡ length vs → xs ≡ ys
same_before [] [] us vs e n = refl
same_before [] (y ∷ ys) us vs e n =
    let long = ap length e in
    let more = length-append ys vs in
    absurd (omega (arith, long, more, n))
same_before (x ∷ xs) [] us vs e n =
    let long = ap length e in
    let more = length-append xs us in
    absurd (omega (arith, long, more, n))
same_before (x ∷ xs) (y ∷ ys) us vs e n =
    let first : x ≡ y = cc in
    let rest = same_before xs ys us vs (cc) n in
    ap (λ z. z ∷ xs) first ∙ ap (λ zs. y ∷ zs) rest

pub all_begin : (ts : List Token) (left i : ℕ) → Before BeginsAQuery ts left → i ≡ length ts - left
    → length ts ≤ i → BeginsAQuery ts
all_begin ts left i b at end =
    let long = ap length b.cut ∙ length-append b.passed b.rest in
    let here : length b.rest ≡ length {A = Token} [] = omega (arith, at, end, long, b.are_left) in
    subst BeginsAQuery (sym (same_before ts b.passed [] b.rest (append-nil ts ∙ b.cut) (sym here)))
    b.so

pub met : (ts : List Token) (left : ℕ) (deep : Bool) (i : ℕ) (t : Token)
    → nesting.Stops (wanting []) ts left deep → Before BeginsAQuery ts left
    → i ≡ length ts - left → i < length ts
    → ((d : Token) → t ≡ get_or ts i d) → Met ts t deep
met ts left deep i t s b at inside found =
    let long = ap length s.cut ∙ length-append s.passed s.rest in
    let here : i ≡ length s.passed = omega (arith, at, long, s.are_left) in
    let same = same_before b.passed s.passed b.rest s.rest (sym b.cut ∙ s.cut)
    (b.are_left ∙ sym s.are_left) in
    met_at ts s.passed s.rest t deep s.cut s.full (subst BeginsAQuery same b.so)
    (at_seam s.passed s.rest t (omega (arith, long, here, inside))
    (λ d. found d ∙ ap (λ us. get_or us i d) s.cut
    ∙ ap (λ n. get_or (s.passed ++ s.rest) n d) here))

pub meets : (ts : List Token) (t : Token) (deep is : Bool) → Met ts t deep
    → ((before : List Token) → deep ≡ is_deep before t → is ≡ is_left before t)
    → Meets ts t.start is_left is
meets ts t deep is m h = (
  m.before,
  t,
  record { behind = m.behind; cut = m.cut; starts = refl },
  sym (h m.before m.deep_there),
  m.begun,
)

begun : (text : List ℕ) (ts : List Token) (left : ℕ) → Before (BeginsOne (query text)) ts left
    → Before BeginsAQuery ts left
begun text ts left b = record {
  passed = b.passed;
  rest = b.rest;
  cut = b.cut;
  are_left = b.are_left;
  so = let r = b.so [] tt in (text, r.0 ++ [], r.1, r.2);
}

-- Texts outside the grammar.
stopped : (text : List ℕ) (ts : List Token) (c : QueryCause) → AreTokens text ts
    → IsNone (query text) ts → Stops text ts c → Parses text (Err (refusal.Refused c))
stopped text ts (cause.Part c) tokens none h =
    inr (ts, record { tokens = tokens; none = none }, h)
stopped text ts (cause.Syntax place) tokens none h =
    (ts, record { tokens = tokens; none = none }, h)

pub not_read : (text : List ℕ) (ts : List Token) (s : Stuck) (e : Refusal QueryCause)
    → AreTokens text ts → IsRead text ts (Err s) → IsRefusalBy text ts s e → Parses text (Err e)
not_read text ts s refusal.OutOfMemory tokens h is = tt
not_read text ts OutOfMemory (refusal.Refused c) tokens h is = absurd is
not_read text ts (At left deep) (refusal.Refused c) tokens h is =
    stopped text ts c tokens h.0 (is h.1 (begun text ts left h.2))
