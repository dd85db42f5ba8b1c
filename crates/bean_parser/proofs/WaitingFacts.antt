-- Directives that wait until the block of memory is full in which their postings stand.
use Rattle.std.proofs.Common.{◌≡◌, ℕ, ◌+◌, ◌≤◌, List, [], ◌∷◌, ◌++◌, Option, Some, None, length, map, refl}
use Rattle.std.proofs.Common.{sym, ◌∙◌, ap, subst, arith, length-append, append_assoc, take}
use Rattle.std.proofs.lemmas.List.{length-map, map-append, take-append-le, take_at}
use Rattle.std.proofs.lemmas.Slice.{between_is, between_to_end}
use Rattle.std.proofs.Math.Seq.{drop-append_seam}
use Rattle.std.specs.List.{AllByRecursion}
use Rattle.std.specs.Prelude.{drop, slice_range}
use Rattle.bean_directives.specs.Given.{with_postings}
use Rattle.bean_directives.specs.declared.directive.Directive as directives
use Rattle.bean_postings.specs.declared.posting.Posting.{Posting}
use Rattle.bean_parser.specs.Waiting.{IsPart, IsWithin, completed, completed_by}
use Rattle.bean_parser.specs.declared.directives.InBlock.{InBlock}
use Rattle.bean_parser.specs.declared.directives.Waiting.{Waiting}

-- what stands behind a part of a block doesn't change it
part_stays : (ps qs : List Posting) (a b : ℕ) → b ≤ length ps
    → slice_range (ps ++ qs) a b ≡ slice_range ps a b
part_stays ps qs a b le =
    between_is (ps ++ qs) a b ∙ ap (drop a) (take-append-le b ps qs le) ∙ sym (between_is ps a b)

-- what was added last
part_last : (ps qs all : List Posting) (a b : ℕ) → all ≡ ps ++ qs → a ≡ length ps
    → b ≡ length all → slice_range all a b ≡ qs
part_last ps qs all a b is from to =
    let long : length all ≤ b = omega (arith, to) in
    between_to_end all a b long ∙ (λ i. drop (from i) (is i)) ∙ drop-append_seam ps qs

completed_stays : (ps qs : List Posting) (d : directives.Directive) (p : Option InBlock)
    → IsPart (length ps) p → completed_by (ps ++ qs) d p ≡ completed_by ps d p
completed_stays ps qs d None within = refl
completed_stays ps qs d (Some p) within =
    ap (λ l. with_postings l d) (part_stays ps qs p.first p.end within.1)

all_stay : (ps qs : List Posting) (ws : List Waiting) → AllByRecursion (IsWithin ps) ws
    → map (completed (ps ++ qs)) ws ≡ map (completed ps) ws
all_stay ps qs [] all = refl
all_stay ps qs (w ∷ ws) all =
    λ i. completed_stays ps qs w.directive w.part all.0 i ∷ all_stay ps qs ws all.1 i

part_wider : (m n : ℕ) (p : Option InBlock) → m ≤ n → IsPart m p → IsPart n p
part_wider m n None le within = tt
part_wider m n (Some p) le within =
    let end = within.1 in (within.0, omega (arith, le, end))

all_wider : (ps qs : List Posting) (ws : List Waiting) → AllByRecursion (IsWithin ps) ws
    → AllByRecursion (IsWithin (ps ++ qs)) ws
all_wider ps qs [] all = tt
all_wider ps qs (w ∷ ws) all =
    let both = length-append ps qs in (
      part_wider (length ps) (length (ps ++ qs)) w.part (omega (arith, both)) all.0,
      all_wider ps qs ws all.1,
    )

one_more : (ps : List Posting) (ws : List Waiting) (w : Waiting) → AllByRecursion (IsWithin ps) ws
    → IsWithin ps w → AllByRecursion (IsWithin ps) (ws ++ w ∷ [])
one_more ps [] w all within = (within, tt)
one_more ps (v ∷ ws) w all within = (all.0, one_more ps ws w all.1 within)

-- those that wait have their postings where they had them once more stand behind
pub within_more : (ps qs all : List Posting) (ws : List Waiting) → all ≡ ps ++ qs
    → AllByRecursion (IsWithin ps) ws → AllByRecursion (IsWithin all) ws
within_more ps qs all ws more within =
    subst (λ x. AllByRecursion (IsWithin x) ws) (sym more) (all_wider ps qs ws within)

-- and are the same directives
pub same_with_more : (ds : List directives.Directive) (ps qs all : List Posting) (ws : List Waiting)
    → all ≡ ps ++ qs → AllByRecursion (IsWithin ps) ws
    → ds ++ map (completed all) ws ≡ ds ++ map (completed ps) ws
same_with_more ds ps qs all ws more within =
    ap (λ l. ds ++ map (completed l) ws) more ∙ ap (λ l. ds ++ l) (all_stay ps qs ws within)

-- one more directive waits
pub waits_within : (ps : List Posting) (ws all : List Waiting) (w : Waiting)
    → all ≡ ws ++ w ∷ [] → AllByRecursion (IsWithin ps) ws → IsWithin ps w
    → AllByRecursion (IsWithin ps) all
waits_within ps ws all w more within own =
    subst (AllByRecursion (IsWithin ps)) (sym more) (one_more ps ws w within own)

waits : (ds : List directives.Directive) (ps : List Posting) (ws all : List Waiting) (w : Waiting)
    → all ≡ ws ++ w ∷ []
    → ds ++ map (completed ps) all ≡ (ds ++ map (completed ps) ws) ++ completed ps w ∷ []
waits ds ps ws all w more =
    let f = completed ps in
    ap (λ l. ds ++ map f l) more ∙ ap (λ l. ds ++ l) (map-append f ws (w ∷ []))
    ∙ sym (append_assoc ds (map f ws) (completed ps w ∷ []))

-- the part of a block in which the last postings stand
last_part : (ps qs all : List Posting) (p : InBlock) → all ≡ ps ++ qs → p.first ≡ length ps
    → p.end ≡ length all → IsPart (length all) (Some p)
last_part ps qs all p more from to =
    let long = ap length more ∙ length-append ps qs in
    (omega (arith, from, to, long), omega (arith, to))

-- a directive waits whose postings stand behind those of the others
pub last_within : (ps qs all : List Posting) (ws next : List Waiting) (d : directives.Directive)
    (p : InBlock) → all ≡ ps ++ qs → p.first ≡ length ps → p.end ≡ length all
    → next ≡ ws ++ record { directive = d; part = Some p } ∷ [] → AllByRecursion (IsWithin ps) ws
    → AllByRecursion (IsWithin all) next
last_within ps qs all ws next d p more from to waits within =
    waits_within all ws next (record { directive = d; part = Some p }) waits
    (within_more ps qs all ws more within) (last_part ps qs all p more from to)

pub last_waits : (ds : List directives.Directive) (ps qs all : List Posting) (ws next : List Waiting)
    (d : directives.Directive) (p : InBlock) → all ≡ ps ++ qs → p.first ≡ length ps
    → p.end ≡ length all → next ≡ ws ++ record { directive = d; part = Some p } ∷ []
    → AllByRecursion (IsWithin ps) ws
    → ds ++ map (completed all) next ≡ (ds ++ map (completed ps) ws) ++ with_postings qs d ∷ []
last_waits ds ps qs all ws next d p more from to next_is within =
    waits ds all ws next (record { directive = d; part = Some p }) next_is
    ∙ (λ i. same_with_more ds ps qs all ws more within i
    ++ with_postings (part_last ps qs all p.first p.end more from to i) d ∷ [])

-- a directive waits that has its postings
pub own_waits : (ds : List directives.Directive) (ps : List Posting) (ws next : List Waiting)
    (d : directives.Directive) → next ≡ ws ++ record { directive = d; part = None } ∷ []
    → ds ++ map (completed ps) next ≡ (ds ++ map (completed ps) ws) ++ d ∷ []
own_waits ds ps ws next d next_is =
    waits ds ps ws next (record { directive = d; part = None }) next_is

-- postings that were added in vain are taken back
pub taken_back : (ps qs all : List Posting) (n : ℕ) → all ≡ ps ++ qs → n ≡ length ps
    → take n all ≡ ps
taken_back ps qs all n more long = ap (take n) more ∙ take_at ps qs n (sym long)

pub count_all : (ds : List directives.Directive) (ps : List Posting) (ws : List Waiting) (m n : ℕ)
    → m ≡ length ds → n ≡ length ws → m + n ≡ length (ds ++ map (completed ps) ws)
count_all ds ps ws m n first rest =
    let both = length-append ds (map (completed ps) ws) in
    let same = length-map ws (completed ps) in
    omega (arith, first, rest, both, same)

pub all_behind : {X : Type 0} (P : X → Type 0) (xs ys : List X) → AllByRecursion P (xs ++ ys)
    → AllByRecursion P ys
all_behind P [] ys all = all
all_behind P (x ∷ xs) ys all = all_behind P xs ys all.1
