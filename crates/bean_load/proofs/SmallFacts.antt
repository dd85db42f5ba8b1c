-- What the texts of a ledger say together is small where each of them is.
use Rattle.std.proofs.Common.{ℕ, ◌+◌, ◌≤◌, List, [], ◌∷◌, map, length, length-append, subst, sym}
use Rattle.std.proofs.Common.{arith}
use Rattle.std.specs.List.{AllByRecursion}
use Rattle.std.proofs.lemmas.List.{length-map}
use Rattle.theory.proofs.AllFacts.{all_joined, in_order_all, in_order_length}
use Rattle.bean_directives.specs.declared.directive.Directive.{Directive}
use Rattle.bean_load.specs.Loaded.{AreParsed, directives_in}
use Rattle.bean_load.specs.Loading.{AreRead}
use Rattle.bean_load.proofs.OrderFacts.{key_total}
use Rattle.bean_load.specs.Order.{AreInOrder, key_of, key_cmp}
use Rattle.bean_load.specs.Placed.{parts_of, placed_directive}
use Rattle.bean_load.specs.Texts.{File, Texts}
use Rattle.bean_loaded.specs.declared.loaded.TheConstants.{LARGEST_LEDGER}
use Rattle.bean_load.specs.declared.loaded.Read.{Read}
use Rattle.bean_load.specs.declared.placed.Own.{Own}
use Rattle.bean_loaded.specs.declared.placed.Placed.{Placed}
use Rattle.bean_load.specs.declared.texts.Part.{Part}
use Rattle.bean_parser.specs.declared.parse.Parsed.{Parsed}
use Rattle.bean_directives.specs.SmallPart.{IsShort}
use Rattle.bean_directives.specs.Small.{IsSmallDirective}
use Rattle.bean_load.specs.Small.{AreLimited, bytes_in}
use Rattle.bean_loaded.specs.Limited.{IsSmall, AreFew, AreSmall}
use Rattle.bean_load.proofs.FewFacts.{parsed_few}
use Rattle.bean_parser.proofs.SmallParsedFacts.{parsed_small}

-- what the texts say, with its places

placed_small : (n : ℕ) (own : List Own) (ds : List Directive) → AllByRecursion IsSmallDirective ds
    → AllByRecursion IsSmall (map (placed_directive n own) ds)
placed_small n own [] all = tt
placed_small n own (d ∷ ds) all = (all.0, placed_small n own ds all.1)

texts_small : (parts : List Part) (n : ℕ) (files : List File) (ps : List Parsed)
    → AllByRecursion (λ f. IsShort f.text) files → AreParsed files ps
    → AllByRecursion IsSmall (directives_in parts n ps)
texts_small parts n [] [] all are = tt
texts_small parts n [] (p ∷ ps) all are = absurd (cc)
texts_small parts n (f ∷ files) [] all are = absurd are
texts_small parts n (f ∷ files) (p ∷ ps) all are =
    all_joined IsSmall (map (placed_directive n (parts_of n 0 parts)) p.directives)
    (directives_in parts (n + 1) ps)
    (placed_small n (parts_of n 0 parts) p.directives (parsed_small f.text p all.0 are.0))
    (texts_small parts (n + 1) files ps all.1 are.1)

pub read_small : (texts : Texts) (read : Read) → AreRead texts read → AreLimited texts.files
    → AreSmall read.directives.items
read_small texts read h limited =
    subst AreSmall (sym h.directives)
    (texts_small texts.parts 0 texts.files h.parsed limited.each h.are_parsed)

texts_few : (parts : List Part) (n : ℕ) (files : List File) (ps : List Parsed)
    → AreParsed files ps → length (directives_in parts n ps) ≤ bytes_in files
texts_few parts n [] [] are = omega arith
texts_few parts n [] (p ∷ ps) are = absurd (cc)
texts_few parts n (f ∷ files) [] are = absurd are
texts_few parts n (f ∷ files) (p ∷ ps) are =
    let own = map (placed_directive n (parts_of n 0 parts)) p.directives in
    let both = length-append own (directives_in parts (n + 1) ps) in
    let same = length-map p.directives (placed_directive n (parts_of n 0 parts)) in
    let first = parsed_few f.text p are.0 in
    let rest = texts_few parts (n + 1) files ps are.1 in
    omega (arith, both, same, first, rest)

pub read_few : (texts : Texts) (read : Read) → AreRead texts read → AreLimited texts.files
    → AreFew read.directives.items
read_few texts read h limited =
    let few = texts_few texts.parts 0 texts.files h.parsed h.are_parsed in
    let all : bytes_in texts.files ≤ LARGEST_LEDGER = limited.all in
    subst AreFew (sym h.directives) (omega (arith, few, all))

pub ordered_few : (xs ys : List (Placed Directive)) → AreInOrder xs ys → AreFew xs → AreFew ys
ordered_few xs ys h few =
    subst (λ n. n ≤ LARGEST_LEDGER) (sym (in_order_length key_of key_cmp key_total xs ys h)) few

pub ordered_small : (xs ys : List (Placed Directive)) → AreInOrder xs ys → AreSmall xs → AreSmall ys
ordered_small = in_order_all IsSmall key_of key_cmp key_total
