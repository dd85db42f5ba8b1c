-- What is filled in, and what lines are booked as, one after the other.
use Rattle.std.proofs.Common.{◌≡◌, ℕ, ◌+◌, ◌<◌, ◌==◌, Bool, true, false, cond, List, [], ◌∷◌}
use Rattle.std.proofs.Common.{◌++◌}
use Rattle.std.proofs.Common.{append_assoc, arith, length, get_or, take, map, filter, refl, sym, ap}
use Rattle.std.proofs.Common.{◌∙◌}
use Rattle.std.proofs.Common.{add-one}
use Rattle.std.proofs.Math.Seq.{take-suc}
use Rattle.std.proofs.lemmas.List.{append-nil, map-append}
use Rattle.std.proofs.lemmas.List.Elements.{filter-append}
use Rattle.bean_interp.specs.declared.fill.Fill.{Fill}
use Rattle.bean_transactions.specs.Tried.{filled_at, filled_in, posts_at, posts_from}
use Rattle.bean_transactions.specs.declared.line.Line.{Line}
use Rattle.bean_holdings.specs.declared.posted.Posted.{Posted}

pub one_more_fill :
    (fills : List Fill) (i : ℕ) (f : Fill) (k : ℕ) (account : List ℕ) (written : ℕ)
    (before old new : List Posted)
    → i < length fills → f ≡ get_or fills i f
    → old ≡ before ++ filled_at (take i fills) k account written
    → new ≡ old ++ cond (f.leg == k) (filled_in account written f ∷ []) []
    → new ≡ before ++ filled_at (take (i + 1) fills) k account written
one_more_fill fills i f k account written before old new h e o n =
    let more : take (i + 1) fills ≡ take i fills ++ f ∷ [] =
    rw add-one (take-suc fills i f h ∙ ap (λ q. take i fills ++ q ∷ []) (sym e)) in
    let own = cond (f.leg == k) (filled_in account written f ∷ []) [] in
    n ∙ ap (λ l. l ++ own) o
    ∙ append_assoc before (filled_at (take i fills) k account written) own
    ∙ ap (λ l. before ++ l)
    (sym (ap (λ l. filled_at l k account written) more
    ∙ ap (map (filled_in account written)) (filter-append (λ f. f.leg == k) (take i fills) (f ∷ []))
    ∙ map-append (filled_in account written) (filter (λ f. f.leg == k) (take i fills)) _
    ∙ ap (λ l. filled_at (take i fills) k account written ++ l) (by (f.leg == k))))
  where
    by : (b : Bool)
        → map (filled_in account written) (cond b (f ∷ []) [])
        ≡ cond b (filled_in account written f ∷ []) []
    by true = refl
    by false = refl

pub posts_more :
    (fills : List Fill) (k : ℕ) (ls : List Line) (l : Line) (n : ℕ) → n ≡ k + length ls
    → posts_from fills k (ls ++ l ∷ []) ≡ posts_from fills k ls ++ posts_at fills n l
posts_more fills k [] l n is =
    let e : k ≡ n = omega (arith, is) in
    append-nil (posts_at fills k l) ∙ ap (λ n. posts_at fills n l) e
posts_more fills k (m ∷ ls) l n is =
    let e : n ≡ (k + 1) + length ls = omega (arith, is) in
    ap (λ q. posts_at fills k m ++ q) (posts_more fills (k + 1) ls l n e)
    ∙ sym (append_assoc (posts_at fills k m) (posts_from fills (k + 1) ls) (posts_at fills n l))
