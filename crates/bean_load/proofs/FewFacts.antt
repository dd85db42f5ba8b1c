-- What a text says is no more than its bytes.
use Rattle.std.proofs.Common.{◌≡◌, ℕ, suc, ◌≤◌, ◌++◌, List, [], ◌∷◌, length, length-append}
use Rattle.std.proofs.Common.{Option, Some, None, ap, refl, ◌∙◌, arith}
use Rattle.std.specs.List.{flat_map}
use Rattle.bean_lexer.specs.declared.token.Token.{Token}
use Rattle.bean_directives.specs.declared.directive.Directive as directives
use Rattle.bean_directives.specs.declared.undated.Pushed.{Pushed}
use Rattle.bean_parser.specs.Block.{begins_block, blocks}
use Rattle.bean_parser.specs.Outcome.{AllGive}
use Rattle.bean_parser.specs.Parsed.{IsParsed, all_bounds, directives_in}
use Rattle.bean_pushes.specs.Scope.{given_behind, given_between, given_up_to, latest, open_pushes}
use Rattle.bean_pushes.specs.Scope.{name_in, reach_of, with_pushes}
use Rattle.bean_parser.specs.declared.block.Outcome.{Outcome}
use Rattle.bean_parser.specs.declared.block.Outcome.TheVariants as outcome
use Rattle.bean_parser.specs.declared.parse.Parsed.{Parsed}
use Rattle.bean_pushes.specs.declared.scope.PlacedBound.{PlacedBound}
use Rattle.bean_parser.specs.declared.statement.Statement.TheVariants.{Directive, Undated}
use Rattle.bean_parser.proofs.SmallCutFacts.{AreSome, count, cut_count, cut_some}
use Rattle.bean_parser.proofs.SmallTokenFacts.{tokens_few}

-- a push gives to directives, and takes none

between_same : (p : Pushed) (from to i : ℕ) (ds : List directives.Directive)
    → length (given_between p from to i ds) ≡ length ds
between_same p from to i [] = refl
between_same p from to i (d ∷ ds) = ap suc (between_same p from to (suc i) ds)

up_to_same : (o : Option Pushed) (from : ℕ) (to : Option ℕ) (ds : List directives.Directive)
    → length (given_up_to o from to ds) ≡ length ds
up_to_same (Some p) from (Some to) ds = between_same p from to 0 ds
up_to_same (Some p) from None ds = refl
up_to_same None from (Some to) ds = refl
up_to_same None from None ds = refl

all_given : (before bs : List PlacedBound) (ds : List directives.Directive)
    → length (with_pushes before bs ds) ≡ length ds
all_given before [] ds = refl
all_given before (b ∷ bs) ds =
    all_given (before ++ b ∷ []) bs (given_behind before b bs ds)
    ∙ up_to_same (latest (open_pushes (name_in b.bound) [] (before ++ b ∷ []))) b.place
    (reach_of (name_in b.bound) bs) ds

-- a block says at most one

one_directive : (o : Outcome) → length (directives_in o) ≤ 1
one_directive (outcome.Statement (Directive d)) = omega arith
one_directive (outcome.Statement (Undated u)) = omega arith
one_directive (outcome.Fault f) = omega arith

no_more : (os : List Outcome) → length (flat_map directives_in os) ≤ length os
no_more [] = omega arith
no_more (o ∷ os) =
    let both = length-append (directives_in o) (flat_map directives_in os) in
    let one = one_directive o in
    let rest = no_more os in omega (arith, both, one, rest)

as_many : (bs : List (List Token)) (os : List Outcome) → AllGive bs os → length os ≡ length bs
as_many [] os h = ap length h
as_many (b ∷ bs) [] h = absurd h
as_many (b ∷ bs) (o ∷ os) h = ap suc (as_many bs os h.1)

-- and each has a token

parts_few : {A : Type 0} (parts : List (List A)) → AreSome parts → length parts ≤ count parts
parts_few [] h = omega arith
parts_few (part ∷ parts) h =
    let one = h.0 in
    let rest = parts_few parts h.1 in omega (arith, one, rest)

pub parsed_few : (text : List ℕ) (p : Parsed) → IsParsed text p
    → length p.directives ≤ length text
parsed_few text p h =
    let tokens = h.0 in
    let os = h.1 in
    let bounds = all_bounds 0 os in
    let few = tokens_few text 0 tokens h.2 in
    let cut = cut_count begins_block tokens in
    let parts = parts_few (blocks tokens) (cut_some begins_block tokens) in
    let given = as_many (blocks tokens) os h.3 in
    let said = no_more os in
    let pushed = all_given [] bounds (flat_map directives_in os) in
    let same = ap length h.4.directives in
    omega (arith, few, cut, parts, given, said, pushed, same)
