-- The takes among lines after one more line.
use Rattle.std.proofs.Common.{◌≡◌, ℕ, ◌+◌, ◌<◌, ◌≤◌, List, [], ◌∷◌, ◌++◌, get_or, length, take, refl}
use Rattle.std.proofs.Common.{add-one, ap, sym, ◌∙◌}
use Rattle.std.proofs.Math.Seq.{take-suc}
use Rattle.std.proofs.lemmas.List.{append-nil, take-append-le}
use Rattle.bean_holdings.specs.declared.posted.Posted.{Posted}
use Rattle.bean_transactions.specs.Held.{takes_in}
use Rattle.bean_transactions.specs.declared.line.Line.{Line}
use Rattle.bean_transactions.specs.declared.line.Line.TheVariants as line

pub takes_append : (ls ms : List Line) → takes_in (ls ++ ms) ≡ takes_in ls ++ takes_in ms
takes_append [] ms = refl
takes_append (line.Posted p ∷ ls) ms = takes_append ls ms
takes_append (line.Take p ∷ ls) ms = ap (λ l. p ∷ l) (takes_append ls ms)
takes_append (line.MissingNumber a c n ∷ ls) ms = takes_append ls ms
takes_append (line.MissingAmount a n ∷ ls) ms = takes_append ls ms

pub take_more : (ls : List Line) (p : Posted)
    → takes_in (ls ++ line.Take p ∷ []) ≡ takes_in ls ++ p ∷ []
take_more ls p = takes_append ls (line.Take p ∷ [])

pub no_more : (ls : List Line) (l : Line) → takes_in (l ∷ []) ≡ []
    → takes_in (ls ++ l ∷ []) ≡ takes_in ls
no_more ls l none =
    takes_append ls (l ∷ []) ∙ ap (λ ps. takes_in ls ++ ps) none ∙ append-nil (takes_in ls)

pub none_taken : (l : Line) → ((p : Posted) → ¬ (l ≡ line.Take p)) → takes_in (l ∷ []) ≡ []
none_taken (line.Posted p) h = refl
none_taken (line.Take p) h = absurd (h p refl)
none_taken (line.MissingNumber a c n) h = refl
none_taken (line.MissingAmount a n) h = refl

-- those among one more of some lines
pub one_more_noted : (ls : List Line) (i : ℕ) (l : Line) → i < length ls → l ≡ get_or ls i l
    → takes_in (take (i + 1) ls) ≡ takes_in (take i ls) ++ takes_in (l ∷ [])
one_more_noted ls i l h e =
    let more : take (i + 1) ls ≡ take i ls ++ l ∷ [] =
    rw add-one (take-suc ls i l h ∙ ap (λ q. take i ls ++ q ∷ []) (sym e)) in
    ap takes_in more ∙ takes_append (take i ls) (l ∷ [])

-- the first of some lines stay where others go behind them
pub noted_stay : (n : ℕ) (ls ms : List Line) → n ≤ length ls
    → takes_in (take n (ls ++ ms)) ≡ takes_in (take n ls)
noted_stay n ls ms few = ap takes_in (take-append-le n ls ms few)
