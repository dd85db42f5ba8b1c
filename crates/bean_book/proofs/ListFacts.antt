-- Lists, item by item.
use Rattle.std.proofs.Common.{◌≡◌, ℕ, ◌+◌, ◌<◌, ◌≤◌, max, List, [], ◌∷◌, ◌++◌, length, map, filter}
use Rattle.std.proofs.Common.{fold, get_or, take, drop, length-append, Bool, ap, ◌∙◌, arith}
use Rattle.std.specs.List.{flat_map}
use Rattle.std.specs.Str.{bytes_eq}
use Rattle.std.proofs.lemmas.List.{append-nil, map-append, take_more, take-append-drop}
use Rattle.std.proofs.lemmas.List.Elements.{filter-append}
use Rattle.std.proofs.lemmas.List.Sums.{fold-append}
use Rattle.std.proofs.lemmas.Grind.{flat_map-append}
use Rattle.bean_base.specs.declared.amounts.Amount.{Amount}
use Rattle.bean_book.specs.Booked.{decimals_from}

-- the decimals of some numbers, and then of others
pub decimals_from-append : (n : ℕ) (currency : List ℕ) (as' bs : List Amount)
    → decimals_from n currency (as' ++ bs)
    ≡ decimals_from (decimals_from n currency as') currency bs
decimals_from-append n currency as' bs =
    let p : Amount → Bool = λ x. bytes_eq x.currency currency in
    let f : Amount → ℕ = λ x. x.number.places in
    ap (λ l. fold max n (map f l)) (filter-append p as' bs)
    ∙ ap (fold max n) (map-append f (filter p as') (filter p bs))
    ∙ fold-append max n (map f (filter p as')) (map f (filter p bs))

-- what comes of one more element
pub flat_map_more : {X Z : Type 0} (f : X → List Z) (xs : List X) (i : ℕ) (d : X) → i < length xs
    → flat_map f (take (i + 1) xs) ≡ flat_map f (take i xs) ++ f (get_or xs i d)
flat_map_more f xs i d within =
    ap (flat_map f) (take_more xs i d within) ∙ flat_map-append f (take i xs) (get_or xs i d ∷ [])
    ∙ ap (λ l. flat_map f (take i xs) ++ l) (append-nil (f (get_or xs i d)))

-- what comes of the first elements is no longer than what comes of all
pub length-flat_map-take : {X Z : Type 0} (f : X → List Z) (xs : List X) (n : ℕ)
    → length (flat_map f (take n xs)) ≤ length (flat_map f xs)
length-flat_map-take f xs n =
    let whole = ap (λ l. length (flat_map f l)) (take-append-drop n xs) in
    let split =
    ap length (flat_map-append f (take n xs) (drop n xs))
    ∙ length-append (flat_map f (take n xs)) (flat_map f (drop n xs)) in
    omega (arith, whole, split)
