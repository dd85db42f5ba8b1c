-- That one thing is told of the text of a query, by the bounds: its query, or why it has no file.
use Rattle.std.proofs.Common.{◌≡◌, inl, inr, ℕ, List, true, Some, Ok, Err, refl}
use Rattle.std.proofs.Common.{sym, ap, ◌∙◌, subst}
use Rattle.bql_compiler.specs.Limits.{IsCause, IsCompiled, IsRefusal, IsWithin}
use Rattle.bql_compiler.specs.declared.cause.CompileCause.{CompileCause}
use Rattle.bql_compiler.specs.declared.cause.CompileCause.TheVariants as compile
use Rattle.bql_parser.proofs.OneQuery.{never_outside, read_once}
use Rattle.bql_parser.specs.Answer.{query_of}
use Rattle.bql_parser.specs.Asked.{Asked}
use Rattle.bql_parser.specs.Parse.{HasCause, Parses, StopsAt}
use Rattle.bql_parser.specs.Settled.{answer}
use Rattle.bql_parser.specs.declared.cause.QueryCause.{QueryCause}
use Rattle.bql_parser.specs.declared.cause.QueryCause.TheVariants as query
use Rattle.bql_parser.specs.declared.query.Query.{Query}
use Rattle.bql_compiler.specs.Carried.{Carries}
use Rattle.bql_tree.specs.declared.cause.PartCause.{PartCause}
use Rattle.bql_types.specs.Answer.{Answers}
use Rattle.bql_types.specs.Cause.{least_of}
use Rattle.bql_types.specs.Typing.{IsTyped, causes}
use Rattle.bql_types.specs.declared.cause.TypeCause.{TypeCause}
use Rattle.bql_types.specs.declared.typed.Typed.{Typed}
use Rattle.limits.specs.declared.bounds.Bounds.{Bounds}
use Rattle.query_code.specs.declared.program.Parts.{Parts}
use Rattle.query_code.specs.declared.program.Program.{Program}
use Rattle.query_files.specs.Texts.{AreLike, HasProgram, IsCompilable, IsRead, IsRefused, IsUnread}
use Rattle.query_files.specs.Texts.{is_of_pattern, uncompiled, untyped}
use Rattle.query_files.specs.declared.cause.TextCause.{TextCause}
use Rattle.query_files.specs.declared.cause.TextCause.TheVariants as cause
use Rattle.refusals.specs.declared.refusal.Refusal.{Refusal}
use Rattle.refusals.specs.declared.refusal.Refusal.TheVariants.{OutOfMemory, Refused}
use Rattle.well_shaped.specs.Program.{IsWellShaped}

-- ---- what is answered

module _ (b : Bounds) (text : List ℕ) (q : Query) (is : Parses text (Ok q)) where
  -- the query has no type
  pub untypable : (r : Refusal TypeCause) → Answers b q (Err r)
      → HasProgram b text (Err (untyped r))
  untypable (Refused c) not = (query_of q, is, not)
  untypable OutOfMemory not = tt

  module _ (t : Typed) (typed : Answers b q (Ok t)) where
    -- what is said of the bounds and the query of what has a type is said of these
    same : (Is : Bounds → Asked → Type 0) → Is t.bounds (query_of t.query.now) → Is b (query_of q)
    same Is h =
        subst (λ x. Is x (query_of q)) typed.2
        (subst (λ (x : Query). Is t.bounds (query_of x)) typed.1 h)

    -- it has no program
    pub uncompilable : (r : Refusal CompileCause)
        → IsRefusal t.bounds (query_of t.query.now) r → HasProgram b text (Err (uncompiled r))
    uncompilable (Refused c) not = (query_of q, is, typed.0, same (λ x y. IsCause x y c) not)
    uncompilable OutOfMemory not = tt

    -- it has this one
    pub programmed :
        (p : Program) → IsCompiled t.bounds (query_of t.query.now) p.parts
        → Carries t.bounds p.parts (query_of t.query.now) → ∥ IsWellShaped p.parts ∥₁
        → HasProgram b text (Ok p)
    programmed p made carries shaped =
        let of = same (λ x y. IsCompiled x y p.parts) made in (
          query_of q,
          record { read = is; typed = typed.0; within = of.within },
          record {
            parts = of.parts;
            bounds = ap (λ (x : Parts). x.bounds) of.parts;
            shaped = shaped;
            carries = same (λ x y. Carries x p.parts y) carries;
          },
        )

-- ---- a text is a query, or none

not_unsettled : (text : List ℕ) (q : Asked) (c : PartCause) → IsRead text q → HasCause text c → ⊥
not_unsettled text q c is has =
    let same = read_once text is.0 has.0 is.1 has.1 in
    let e = sym is.2 ∙ ap (answer text) same ∙ has.2 in cc

not_stopped : (text : List ℕ) (q : Asked) (c : QueryCause) → IsRead text q → StopsAt text c → ⊥
not_stopped text q c is stops = never_outside text is.0 stops.0 is.1 stops.1

not_both : (text : List ℕ) (q : Asked) (c : QueryCause) → IsRead text q → IsUnread text c → ⊥
not_both text q (query.Part c) is (inl has) = not_unsettled text q c is has
not_both text q (query.Part c) is (inr stops) = not_stopped text q (query.Part c) is stops
not_both text q (query.Syntax place) is stops = not_stopped text q (query.Syntax place) is stops

same_query : (text : List ℕ) (q r : Asked) → IsRead text q → IsRead text r → q ≡ r
same_query text q r is also =
    let same = read_once text is.0 also.0 is.1 also.1 in
    let e = sym is.2 ∙ ap (answer text) same ∙ also.2 in cc

-- ---- a query has a type, or none

typed_or_not : (b : Bounds) (text : List ℕ) (q r : Asked) (c : TypeCause) → IsRead text q
    → IsRead text r → IsTyped b q → least_of (causes b r) ≡ Some c → ⊥
typed_or_not b text q r c is also typed not =
    let same = same_query text q r is also in
    let e = sym (ap least_of typed) ∙ ap (λ x. least_of (causes b x)) same ∙ not in absurd cc

same_typing : (b : Bounds) (text : List ℕ) (q r : Asked) (c d : TypeCause) → IsRead text q
    → IsRead text r → least_of (causes b q) ≡ Some c → least_of (causes b r) ≡ Some d → c ≡ d
same_typing b text q r c d is also h k =
    let same = same_query text q r is also in
    let e = sym h ∙ ap (λ x. least_of (causes b x)) same ∙ k in cc

-- ---- it has a program, or none

-- a query that keeps within the limits is refused for a pattern alone
of_pattern : (b : Bounds) (q : Asked) (c : CompileCause) → IsWithin b q → IsCause b q c
    → is_of_pattern (cause.Compile c) ≡ true
of_pattern b q compile.TooLong within is = absurd (within.0 is)
of_pattern b q compile.NotBuilt within is = refl
of_pattern b q compile.TooDeep within is = absurd (within.1 is.1)

causes_like : (b : Bounds) (q : Asked) (c d : CompileCause) → IsCause b q c → IsCause b q d
    → AreLike (cause.Compile c) (cause.Compile d)
causes_like b q compile.TooLong compile.TooLong h k = inl refl
causes_like b q compile.TooLong compile.NotBuilt h k = inr (inr refl)
causes_like b q compile.TooLong compile.TooDeep h k = absurd (k.0 h)
causes_like b q compile.NotBuilt d h k = inr (inl refl)
causes_like b q compile.TooDeep compile.TooLong h k = absurd (h.0 k)
causes_like b q compile.TooDeep compile.NotBuilt h k = inr (inr refl)
causes_like b q compile.TooDeep compile.TooDeep h k = inl refl

-- ---- one thing is told

pub one_query : (b : Bounds) (text : List ℕ) (q r : Asked) → IsCompilable b text q
    → IsCompilable b text r → q ≡ r
one_query b text q r is also = same_query text q r is.read also.read

pub refused_for_pattern : (b : Bounds) (text : List ℕ) (c : TextCause) (q : Asked)
    → IsRefused b text c → IsCompilable b text q → is_of_pattern c ≡ true
refused_for_pattern b text (cause.Query c) q not is = absurd (not_both text q c is.read not)
refused_for_pattern b text (cause.Typing c) q not is =
    absurd (typed_or_not b text q not.0 c is.read not.1 is.typed not.2)
refused_for_pattern b text (cause.Compile c) q not is =
    let same = same_query text not.0 q not.1 is.read in
    of_pattern b q c is.within (subst (λ x. IsCause b x c) same not.3)

pub one_refusal : (b : Bounds) (text : List ℕ) (c d : TextCause) → IsRefused b text c
    → IsRefused b text d → AreLike c d
one_refusal b text (cause.Query c) (cause.Query d) h k = inl tt
one_refusal b text (cause.Query c) (cause.Typing d) h k = absurd (not_both text k.0 c k.1 h)
one_refusal b text (cause.Query c) (cause.Compile d) h k = absurd (not_both text k.0 c k.1 h)
one_refusal b text (cause.Typing c) (cause.Query d) h k = absurd (not_both text h.0 d h.1 k)
one_refusal b text (cause.Typing c) (cause.Typing d) h k =
    inl (ap cause.Typing (same_typing b text h.0 k.0 c d h.1 k.1 h.2 k.2))
one_refusal b text (cause.Typing c) (cause.Compile d) h k =
    absurd (typed_or_not b text k.0 h.0 c k.1 h.1 k.2 h.2)
one_refusal b text (cause.Compile c) (cause.Query d) h k = absurd (not_both text h.0 d h.1 k)
one_refusal b text (cause.Compile c) (cause.Typing d) h k =
    absurd (typed_or_not b text h.0 k.0 d h.1 k.1 h.2 k.2)
one_refusal b text (cause.Compile c) (cause.Compile d) h k =
    let same = same_query text h.0 k.0 h.1 k.1 in
    causes_like b k.0 c d (subst (λ x. IsCause b x c) same h.3) k.3
