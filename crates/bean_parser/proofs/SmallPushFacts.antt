-- What is pushed leaves directives small, and each push gives a directive one tag at most.
use Rattle.std.proofs.Common.{ℕ, zero, suc, ◌+◌, ◌-◌, ◌≤◌, Bool, true, false, cond, ◌&&◌, nat_le}
use Rattle.std.proofs.Common.{nat_lt, List, [], ◌∷◌, ◌++◌, length, take, Option, Some, None, IfSome}
use Rattle.std.proofs.Common.{arith, length-append}
use Rattle.std.specs.Prelude.{slice_get}
use Rattle.std.specs.List.{AllByRecursion, flat_map}
use Rattle.bean_grammar.specs.declared.mark.Mark.TheVariants as mark
use Rattle.bean_grammar.specs.declared.metadata.MetaEntry.{MetaEntry}
use Rattle.bean_directives.specs.declared.directive.Directive.{Directive}
use Rattle.bean_directives.specs.declared.directive.DirectiveKind.{DirectiveKind}
use Rattle.bean_directives.specs.declared.directive.DirectiveKind.TheVariants as kinds
use Rattle.bean_directives.specs.declared.undated.Bound.{Bound}
use Rattle.bean_directives.specs.declared.undated.Bound.TheVariants.{Push, Pop}
use Rattle.bean_directives.specs.declared.undated.Pushed.{Pushed}
use Rattle.bean_directives.specs.declared.undated.Pushed.TheVariants as pushed
use Rattle.bean_directives.specs.declared.undated.PushName.{PushName}
use Rattle.bean_directives.specs.declared.undated.UndatedKind.{UndatedKind}
use Rattle.bean_directives.specs.declared.undated.UndatedKind.TheVariants as undated
use Rattle.bean_parser.specs.Parsed.{directives_in, bounds_of, all_bounds}
use Rattle.bean_directives.specs.Given.{with_tag, entries_behind, with_pushed}
use Rattle.bean_pushes.specs.Scope.{given_between, given_up_to}
use Rattle.bean_pushes.specs.Scope.{given_behind, with_pushes, name_in, name_of, same_name, latest}
use Rattle.bean_pushes.specs.Scope.{open_behind, open_pushes, reach_of}
use Rattle.bean_parser.specs.declared.block.Outcome.{Outcome}
use Rattle.bean_parser.specs.declared.block.Outcome.TheVariants as outcome
use Rattle.bean_pushes.specs.declared.scope.PlacedBound.{PlacedBound}
use Rattle.bean_parser.specs.declared.statement.Statement.TheVariants as statement
use Rattle.bean_directives.specs.SmallPart.{IsShort, IsShortMark, IsShortEntry}
use Rattle.bean_directives.specs.Small.{IsSmallKind, marks_of}
use Rattle.theory.proofs.AllFacts.{all_pushed}
use Rattle.bean_parser.proofs.SmallUndatedFacts.{IsShortPushed, IsShortBound, IsShortUndated}
use Rattle.bean_parser.proofs.SmallOutcomeFacts.{IsSmallApart, IsSmallOutcome, sizes}

-- small, and with so many others its tags and links are at most n
pub record IsWithin (n others : ℕ) (d : Directive) : Type 0 where
  pub apart : IsSmallApart d
  pub marks : length (marks_of d.kind) + others ≤ n

loosened : (n k n' k' : ℕ) (ds : List Directive) → ((m : ℕ) → m + k ≤ n → m + k' ≤ n')
    → AllByRecursion (IsWithin n k) ds → AllByRecursion (IsWithin n' k') ds
loosened n k n' k' [] go all = tt
loosened n k n' k' (d ∷ ds) go all = (
  record { apart = all.0.apart; marks = go (length (marks_of d.kind)) all.0.marks },
  loosened n k n' k' ds go all.1,
)

-- What is given.

tag_kind : (tag : List ℕ) (k : DirectiveKind) → IsShort tag → IsSmallKind k
    → IsSmallKind (with_tag tag k)
tag_kind tag (kinds.Transaction t) s h =
    record {
      payee = h.payee;
      narration = h.narration;
      marks = all_pushed IsShortMark t.marks (mark.Tag tag) h.marks s;
      postings = h.postings;
      few_postings = h.few_postings;
    }
tag_kind tag _ s h = h

tag_marks : (tag : List ℕ) (k : DirectiveKind)
    → length (marks_of (with_tag tag k)) ≤ length (marks_of k) + 1
tag_marks tag (kinds.Transaction t) =
    let e = length-append t.marks (mark.Tag tag ∷ []) in omega arith
tag_marks tag _ = omega arith

entries_short : (k : DirectiveKind) (es : List MetaEntry) (e : MetaEntry) → AllByRecursion IsShortEntry es
    → IsShortEntry e → AllByRecursion IsShortEntry (entries_behind k es (e ∷ []))
entries_short (kinds.Transaction t) es e h s = all_pushed IsShortEntry es e h s
entries_short _ es e h s = h

with_small : (n others : ℕ) (p : Pushed) (d : Directive) → IsShortPushed p
    → IsWithin n (1 + others) d → IsWithin n others (with_pushed p d)
with_small n others (pushed.Tag tag) d s h =
    let few = tag_marks tag d.kind in
    let own = h.marks in
    record {
      apart =
          record {
            line = h.apart.line;
            metadata = h.apart.metadata;
            kind = tag_kind tag d.kind s h.apart.kind;
          };
      marks = omega arith;
    }
with_small n others (pushed.Entry e) d s h =
    let own = h.marks in
    record {
      apart =
          record {
            line = h.apart.line;
            metadata = entries_short d.kind d.metadata e h.apart.metadata s;
            kind = h.apart.kind;
          };
      marks = omega arith;
    }

not_given : (n others : ℕ) (d : Directive) → IsWithin n (1 + others) d → IsWithin n others d
not_given n others d h =
    let own = h.marks in record { apart = h.apart; marks = omega arith }

given_if : (n others : ℕ) (p : Pushed) (d : Directive) (b : Bool) → IsShortPushed p
    → IsWithin n (1 + others) d → IsWithin n others (cond b (with_pushed p d) d)
given_if n others p d true s h = with_small n others p d s h
given_if n others p d false s h = not_given n others d h

between_small : (n others : ℕ) (p : Pushed) (from to i : ℕ) (ds : List Directive) → IsShortPushed p
    → AllByRecursion (IsWithin n (1 + others)) ds
    → AllByRecursion (IsWithin n others) (given_between p from to i ds)
between_small n others p from to i [] s all = tt
between_small n others p from to i (d ∷ ds) s all = (
  given_if n others p d (nat_le from i && nat_lt i to) s all.0,
  between_small n others p from to (suc i) ds s all.1,
)

up_to_small : (n others : ℕ) (p : Option Pushed) (from : ℕ) (to : Option ℕ) (ds : List Directive)
    → IfSome p IsShortPushed → AllByRecursion (IsWithin n (1 + others)) ds
    → AllByRecursion (IsWithin n others) (given_up_to p from to ds)
up_to_small n others None from to ds s all =
    loosened n (1 + others) n others ds (λ m few. omega arith) all
up_to_small n others (Some p) from None ds s all =
    loosened n (1 + others) n others ds (λ m few. omega arith) all
up_to_small n others (Some p) from (Some to) ds s all = between_small n others p from to 0 ds s all

-- What is open is what was pushed.

abbrev pub AreShortBounds : List PlacedBound → Type 0
AreShortBounds bs = AllByRecursion (λ b. IsShortBound b.bound) bs

abbrev pub AreShort : List Pushed → Type 0
AreShort ps = AllByRecursion IsShortPushed ps

fewer : (k : ℕ) (ps : List Pushed) → AreShort ps → AreShort (take k ps)
fewer zero ps all = tt
fewer (suc k) [] all = tt
fewer (suc k) (p ∷ ps) all = (all.0, fewer k ps all.1)

short_if : (b : Bool) (ps qs : List Pushed) → AreShort ps → AreShort qs → AreShort (cond b ps qs)
short_if true ps qs s t = s
short_if false ps qs s t = t

behind_short : (name : PushName) (ps : List Pushed) (b : Bound) → AreShort ps → IsShortBound b
    → AreShort (open_behind name ps b)
behind_short name ps (Push p) all s =
    short_if (same_name (name_of p) name) (ps ++ p ∷ []) ps (all_pushed IsShortPushed ps p all s) all
behind_short name ps (Pop n) all s =
    short_if (same_name n name) (take (length ps - 1) ps) ps (fewer (length ps - 1) ps all) all

open_short : (name : PushName) (ps : List Pushed) (bs : List PlacedBound) → AreShort ps
    → AreShortBounds bs → AreShort (open_pushes name ps bs)
open_short name ps [] all s = all
open_short name ps (b ∷ bs) all s =
    open_short name (open_behind name ps b.bound) bs (behind_short name ps b.bound all s.0) s.1

at_short : (ps : List Pushed) (i : ℕ) → AreShort ps → IfSome (slice_get ps i) IsShortPushed
at_short [] i all = tt
at_short (p ∷ ps) zero all = all.0
at_short (p ∷ ps) (suc i) all = at_short ps i all.1

given_small : (n others : ℕ) (before : List PlacedBound) (b : PlacedBound)
    (behind : List PlacedBound) (ds : List Directive) → AreShortBounds (before ++ b ∷ [])
    → AllByRecursion (IsWithin n (1 + others)) ds
    → AllByRecursion (IsWithin n others) (given_behind before b behind ds)
given_small n others before b behind ds s all =
    let pushes = open_pushes (name_in b.bound) [] (before ++ b ∷ []) in
    up_to_small n others (latest pushes) b.place (reach_of (name_in b.bound) behind) ds
    (at_short pushes (length pushes - 1) (open_short (name_in b.bound) [] (before ++ b ∷ []) tt s))
    all

pub pushes_small : (n others : ℕ) (before bs : List PlacedBound) (ds : List Directive)
    → AreShortBounds before → AreShortBounds bs
    → AllByRecursion (IsWithin n (length bs + others)) ds
    → AllByRecursion (IsWithin n others) (with_pushes before bs ds)
pushes_small n others before [] ds s t all =
    loosened n (length {A = PlacedBound} [] + others) n others ds (λ m few. omega arith) all
pushes_small n others before (b ∷ bs) ds s t all =
    let so_far = all_pushed (λ b. IsShortBound b.bound) before b s t.0 in
    pushes_small n others (before ++ b ∷ []) bs (given_behind before b bs ds) so_far t.1
    (given_small n (length bs + others) before b bs ds so_far
    (loosened n (length (b ∷ bs) + others) n (1 + (length bs + others)) ds (λ m few. omega arith)
    all))

-- What is pushed, and the directives before any push.

bounds_short : (place line : ℕ) (k : UndatedKind) (bs : List PlacedBound) → IsShortUndated k
    → AreShortBounds bs → AreShortBounds (bounds_of place line k ++ bs)
bounds_short place line (undated.Bound b) bs s all = (s, all)
bounds_short place line _ bs s all = all

pub all_bounds_short : (place : ℕ) (os : List Outcome) → AllByRecursion IsSmallOutcome os
    → AreShortBounds (all_bounds place os)
all_bounds_short place [] all = tt
all_bounds_short place (outcome.Statement (statement.Directive d) ∷ os) all =
    all_bounds_short (place + 1) os all.1
all_bounds_short place (outcome.Statement (statement.Undated u) ∷ os) all =
    bounds_short place u.line u.kind (all_bounds (place + 0) os) all.0
    (all_bounds_short (place + 0) os all.1)
all_bounds_short place (outcome.Fault f ∷ os) all = all_bounds_short (place + 0) os all.1

one_bound : (place line : ℕ) (k : UndatedKind) → length (bounds_of place line k) ≤ 1
one_bound place line (undated.Bound b) = omega arith
one_bound place line _ = omega arith

bounds_few : (place : ℕ) (os : List Outcome) → length (all_bounds place os) ≤ sizes os
bounds_few place [] = omega arith
bounds_few place (outcome.Statement (statement.Directive d) ∷ os) =
    let rest = bounds_few (place + 1) os in omega arith
bounds_few place (outcome.Statement (statement.Undated u) ∷ os) =
    let rest = bounds_few (place + 0) os in
    let first = one_bound place u.line u.kind in
    let both = length-append (bounds_of place u.line u.kind) (all_bounds (place + 0) os) in
    omega arith
bounds_few place (outcome.Fault f ∷ os) = let rest = bounds_few (place + 0) os in omega arith

pub directives_within : (place : ℕ) (os : List Outcome) → AllByRecursion IsSmallOutcome os
    → AllByRecursion (IsWithin (sizes os) (length (all_bounds place os)))
    (flat_map directives_in os)
directives_within place [] all = tt
directives_within place (outcome.Statement (statement.Directive d) ∷ os) all =
    let few = bounds_few (place + 1) os in
    let n = length (marks_of d.kind) in
    let rest = directives_within (place + 1) os all.1 in (
      record { apart = all.0; marks = omega arith },
      loosened (sizes os) (length (all_bounds (place + 1) os)) (n + sizes os)
          (length (all_bounds (place + 1) os)) (flat_map directives_in os) (λ m few. omega arith)
          rest,
    )
directives_within place (outcome.Statement (statement.Undated u) ∷ os) all =
    let first = one_bound place u.line u.kind in
    let both = length-append (bounds_of place u.line u.kind) (all_bounds (place + 0) os) in
    let rest = directives_within (place + 0) os all.1 in
    loosened (sizes os) (length (all_bounds (place + 0) os)) (1 + sizes os)
    (length (bounds_of place u.line u.kind ++ all_bounds (place + 0) os))
    (flat_map directives_in os) (λ m few. omega arith) rest
directives_within place (outcome.Fault f ∷ os) all =
    let rest = directives_within (place + 0) os all.1 in
    loosened (sizes os) (length (all_bounds (place + 0) os)) (0 + sizes os)
    (length (all_bounds (place + 0) os)) (flat_map directives_in os) (λ m few. omega arith) rest
