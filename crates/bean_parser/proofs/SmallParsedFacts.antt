-- What a text says is small where the text is.
use Rattle.std.proofs.Common.{◌≡◌, ℕ, ◌+◌, ◌≤◌, List, [], ◌∷◌, length, arith, sym, subst}
use Rattle.std.specs.List.{AllByRecursion, flat_map}
use Rattle.bean_directives.specs.declared.directive.Directive.{Directive}
use Rattle.bean_parser.specs.Block.{begins_block, blocks}
use Rattle.bean_parser.specs.Parsed.{IsParsed, directives_in, all_bounds}
use Rattle.bean_pushes.specs.Scope.{with_pushes}
use Rattle.bean_parser.specs.declared.parse.Parsed.{Parsed}
use Rattle.bean_directives.specs.SmallPart.{most, IsShort}
use Rattle.bean_directives.specs.Small.{IsSmallDirective}
use Rattle.bean_parser.proofs.SmallTokenFacts.{IsShortToken, tokens_short, tokens_few}
use Rattle.bean_parser.proofs.SmallCutFacts.{cut_all, cut_count}
use Rattle.bean_parser.proofs.SmallOutcomeFacts.{outcomes_fit, sizes}
use Rattle.bean_parser.proofs.SmallPushFacts.{IsWithin, pushes_small, all_bounds_short, directives_within}

whole_small : (n : ℕ) (ds : List Directive) → n ≤ most → AllByRecursion (IsWithin n 0) ds
    → AllByRecursion IsSmallDirective ds
whole_small n [] few all = tt
whole_small n (d ∷ ds) few all =
    let own = all.0.marks in (
      record {
        line = all.0.apart.line;
        metadata = all.0.apart.metadata;
        kind = all.0.apart.kind;
        few_marks = omega arith;
      },
      whole_small n ds few all.1,
    )

pub parsed_small : (text : List ℕ) (p : Parsed) → IsShort text → IsParsed text p
    → AllByRecursion IsSmallDirective p.directives
parsed_small text p short h =
    let tokens = h.0 in
    let os = h.1 in
    let few = tokens_few text 0 tokens h.2 in
    let cut = cut_count begins_block tokens in
    let given =
    outcomes_fit (blocks tokens) os
    (cut_all IsShortToken begins_block tokens (tokens_short text 0 tokens short h.2))
    (omega arith) h.3 in
    let size : sizes os ≤ most = (let s = given.1 in omega arith) in
    let own = directives_within 0 os given.0 in
    let bounds = all_bounds 0 os in
    let ready : AllByRecursion (IsWithin (sizes os) (length bounds + 0))
    (flat_map directives_in os) =
    subst (λ n. AllByRecursion (IsWithin (sizes os) n) (flat_map directives_in os))
    (let e : length bounds ≡ length bounds + 0 = omega arith in e) own in
    let done =
    pushes_small (sizes os) 0 [] bounds (flat_map directives_in os) tt (all_bounds_short 0 os given.0)
    ready in
    subst (AllByRecursion IsSmallDirective) (sym h.4.directives)
    (whole_small (sizes os) (with_pushes [] bounds (flat_map directives_in os)) size done)
