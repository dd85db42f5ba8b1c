-- What comes of a posting.
use Rattle.std.proofs.Common.{◌≡◌, ℕ, ◌+◌, ◌<◌, ℤ, pos, false, List, [], ◌∷◌, ◌++◌, map}
use Rattle.std.proofs.Common.{take}
use Rattle.std.proofs.Common.{length, get_or, Option, Some, Result, Ok, Err, sym, ap}
use Rattle.std.proofs.Common.{◌∙◌, subst}
use Rattle.std.proofs.lemmas.List.{map-append}
use Rattle.std.specs.Int.Signed.{lt_z}
use Rattle.bean_base.specs.declared.amounts.Amount.{Amount}
use Rattle.bean_postings.specs.declared.cost.LotParts.{LotParts}
use Rattle.bean_lots.specs.declared.lot.Lot.{Lot}
use Rattle.bean_holdings.proofs.HeldFacts.{taken_more}
use Rattle.bean_transactions.specs.Lined.{AreTakeLines, IsAugmented, IsLotOf, IsTakeLine}
use Rattle.bean_transactions.specs.declared.line.Line.{Line}
use Rattle.bean_transactions.specs.declared.line.Line.TheVariants as line
use Rattle.bean_transactions.specs.declared.setting.Head.{Head}
use Rattle.bean_transactions.specs.Outcome.{ComesOf, StopsWith, lines_of}
use Rattle.bean_transactions.specs.declared.outcome.Outcome.{Outcome}
use Rattle.bean_transactions.specs.declared.stop.LineFault.{LineFault}
use Rattle.refusals.specs.declared.refusal.Refusal.{Refusal}
use Rattle.refusals.specs.declared.refusal.Refusal.TheVariants as stop

pub augmented_by :
    (head : Head) (parts : LotParts) (o : Option Amount) (cost : Amount) (account a : List ℕ)
    (units u : Amount) (i n : ℕ) (lot : Lot)
    → o ≡ Some cost → lt_z cost.number.count (pos 0) ≡ false → IsLotOf head parts cost lot
    → a ≡ account → u ≡ units
    → IsAugmented head parts o account units i n
    (Ok (line.Posted record { account = a; units = u; lot = Some lot; written = i } ∷ []))
augmented_by head parts o cost account a units u i n lot is sign h e f =
    let same :
    line.Posted record { account = a; units = u; lot = Some lot; written = i } ∷ []
    ≡ line.Posted record { account = account; units = units; lot = Some lot; written = i } ∷ [] =
    λ k. line.Posted record { account = e k; units = f k; lot = Some lot; written = i } ∷ [] in
    subst (λ o. IsAugmented head parts o account units i n
    (Ok (line.Posted record { account = a; units = u; lot = Some lot; written = i } ∷ [])))
    (sym is) (sign, lot, h, same)

-- one more take
pub one_more_take :
    (account currency : List ℕ) (i : ℕ) (ts : List (Lot × ℤ × ℕ)) (ls : List Line)
    (t : Lot × ℤ × ℕ) (l : Line)
    → AreTakeLines account currency i ts ls → IsTakeLine account currency i t l
    → AreTakeLines account currency i (ts ++ t ∷ []) (ls ++ l ∷ [])
one_more_take account currency i [] [] t l h one = (one, tt)
one_more_take account currency i [] (m ∷ ls) t l h one = absurd h
one_more_take account currency i (u ∷ ts) [] t l h one = absurd h
one_more_take account currency i (u ∷ ts) (m ∷ ls) t l h one =
    (h.0, one_more_take account currency i ts ls t l h.1 one)

pub mapped_more : {X Y : Type 0} (f : X → Y) (xs : List X) (i : ℕ) (x : X) → i < length xs
    → x ≡ get_or xs i x → map f (take (i + 1) xs) ≡ map f (take i xs) ++ f x ∷ []
mapped_more f xs i x h e = ap (map f) (taken_more xs i x h e) ∙ map-append f (take i xs) (x ∷ [])

pub stops_more : (P Q : Result (List Line) LineFault → Type 0) (e : Refusal LineFault)
    → ((r : Result (List Line) LineFault) → P r → Q r) → StopsWith P e → StopsWith Q e
stops_more P Q (stop.Refused f) more h = more (Err f) h
stops_more P Q stop.OutOfMemory more h = tt

pub comes_more : (P Q : Result (List Line) LineFault → Type 0)
    (r : Result Outcome (Refusal LineFault))
    → ((r : Result (List Line) LineFault) → P r → Q r) → ComesOf P r → ComesOf Q r
comes_more P Q (Ok o) more h = more (Ok (lines_of o)) h
comes_more P Q (Err e) more h = stops_more P Q e more h
