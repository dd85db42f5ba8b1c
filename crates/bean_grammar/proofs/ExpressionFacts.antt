-- How number expressions are read.
use Rattle.std.proofs.Common.{◌≡◌, ℕ, zero, suc, ◌<◌, ◌-◌, Bool, true, false, ◌||◌, List, ◌∷◌}
use Rattle.std.proofs.Common.{Option, Some, None, MatchOption, IfSome, refl, ◌∙◌, ap, subst, arith}
use Rattle.std.proofs.Common.{inl, inr}
use Rattle.theory.specs.Form.{Form, Reads, HasNone, IsUnambiguous, word, made, ◌<+>◌, behind}
use Rattle.theory.specs.Form.{closed, either, pair, ending, due}
use Rattle.theory.proofs.FormFacts.{Tells, Avoids, Stops, reads_word, reads_made, reads_applied}
use Rattle.theory.proofs.FormFacts.{none_next, reads_behind, none_behind, reads_closed, none_closed}
use Rattle.theory.proofs.FormFacts.{not_closed, reads_left, reads_right, none_left, none_right}
use Rattle.theory.proofs.FormFacts.{reads_related, none_related, reads_ending, none_ending}
use Rattle.theory.proofs.FormFacts.{reads_due, reads_not_due, none_due}
use Rattle.theory.proofs.RowFacts.{Separates, BeginsRow, EndsItems, row_ends}
use Rattle.theory.proofs.OneReading.{one_word, one_made, one_applied, one_behind, one_closed}
use Rattle.theory.proofs.OneReading.{one_either, one_row, one_ending, one_related, one_due}
use Rattle.bean_base.specs.declared.num.Num.{Num}
use Rattle.bean_lexer.specs.declared.kind.Sign.TheVariants.{Star, OpenParenthesis, CloseParenthesis}
use Rattle.bean_grammar.specs.declared.ranged.Ranged.{Ranged}
use Rattle.bean_grammar.specs.Ranged.{ranged_map}
use Rattle.bean_grammar.specs.Lexeme.{Lexeme, Number, Sign, plus_or_minus, begins_with_sign}
use Rattle.bean_grammar.specs.Lexeme.{begins_with_plus_or_minus, begins_with_number}
use Rattle.bean_grammar.specs.Exact.{exact}
use Rattle.bean_grammar.specs.Expression.{Arithmetic, in_ledger, literal, signed_of, group_of}
use Rattle.bean_grammar.specs.Expression.{factor, product, sum, computed, IsValued, expression}
use Rattle.bean_grammar.specs.Expression.{begins_with_expression}
use Rattle.bean_grammar.proofs.LexemeFacts.{exact_number, exact_plus_or_minus}
use Rattle.bean_grammar.proofs.ExactFacts.{one_valued}

-- a form that no rest carries on
abbrev pub IsFixed : {V : Type 0} → Form Lexeme V → Type 0
IsFixed a = (rest : List Lexeme) → a.goes_on rest ≡ false

pub factor_ends : {V : Type 0} (w : Arithmetic V) (room : ℕ) → IsFixed (factor w room)
unfolding factor
factor_ends w zero rest = refl
factor_ends w (suc room) rest = ap (λ b. b || false) (factor_ends w room rest)

-- Products.

abbrev pub another_factor : {V : Type 0} → Arithmetic V → ℕ → Form Lexeme V
another_factor w room = behind (Sign Star) (factor w room)

pub product_ends : {V : Type 0} (w : Arithmetic V) (room : ℕ)
    → EndsItems (begins_with_sign Star) (another_factor w room) (product w room)
product_ends w room =
    row_ends (begins_with_sign Star) (factor w room) (λ v. v) (another_factor w room) w.times

pub factor_separates : {V : Type 0} (w : Arithmetic V) (room : ℕ)
    → Separates (another_factor w room)
factor_separates w room ls v rest p = factor_ends w room ls

pub factor_told : {V : Type 0} (w : Arithmetic V) (room : ℕ)
    → Tells (begins_with_sign Star) (another_factor w room)
factor_told w room ls v rest p = ap (begins_with_sign Star) p.1

pub factor_begins : {V : Type 0} (w : Arithmetic V) (room : ℕ)
    → BeginsRow (factor w room) (another_factor w room)
factor_begins w room ls v rest p = factor_ends w room ls

-- Sums.

abbrev pub another_product : {V : Type 0} → Arithmetic V → ℕ → Form Lexeme (Bool × V)
another_product w room = made pair <+> word plus_or_minus <+> product w room

abbrev pub with_product : {V : Type 0} → Arithmetic V → V → Bool × V → V
with_product w v p = w.joined p.0 v p.1

pub sum_ends : {V : Type 0} (w : Arithmetic V) (room : ℕ)
    → EndsItems begins_with_plus_or_minus (another_product w room) (sum w room)
sum_ends w room =
    row_ends begins_with_plus_or_minus (product w room) (λ v. v) (another_product w room)
    (with_product w)

-- where another product begins, the last one ends
no_star : (minus : Bool) (rest : List Lexeme)
    → begins_with_sign Star (plus_or_minus minus ∷ rest) ≡ false
no_star true rest = refl
no_star false rest = refl

pub product_stops : {V : Type 0} (w : Arithmetic V) (room : ℕ) (ls : List Lexeme)
    → begins_with_sign Star ls ≡ false → (product w room).goes_on ls ≡ false
product_stops w room ls e =
    ap (λ b. b || ((factor w room).goes_on ls || (factor w room).goes_on ls)) e
    ∙ ap (λ b. b || b) (factor_ends w room ls)

star_apart : (minus : Bool) (ls mid : List Lexeme) → ls ≡ plus_or_minus minus ∷ mid
    → begins_with_sign Star ls ≡ false
star_apart minus ls mid e = ap (begins_with_sign Star) e ∙ no_star minus mid

told_sign : (minus : Bool) (mid : List Lexeme)
    → begins_with_plus_or_minus (plus_or_minus minus ∷ mid) ≡ true
told_sign true mid = refl
told_sign false mid = refl

pub product_told : {V : Type 0} (w : Arithmetic V) (room : ℕ)
    → Tells begins_with_plus_or_minus (another_product w room)
product_told w room ls v rest p =
    ap begins_with_plus_or_minus (p.3.3.1 ∙ p.3.4) ∙ told_sign p.3.1 p.2

pub product_separates : {V : Type 0} (w : Arithmetic V) (room : ℕ)
    → Separates (another_product w room)
product_separates w room ls v rest p =
    product_stops w room ls (star_apart p.3.1 ls p.2 (p.3.3.1 ∙ p.3.4))

pub product_begins : {V : Type 0} (w : Arithmetic V) (room : ℕ)
    → BeginsRow (product w room) (another_product w room)
product_begins w room ls v rest p =
    product_stops w room ls (star_apart p.3.1 ls p.2 (p.3.3.1 ∙ p.3.4))

pub reads_another :
    {V : Type 0} (w : Arithmetic V) (room : ℕ) (minus : Bool) (ls mid : List Lexeme) (v : V)
    (rest : List Lexeme) → ls ≡ plus_or_minus minus ∷ mid → Reads (product w room) mid v rest
    → Reads (another_product w room) ls (minus, v) rest
reads_another w room minus ls mid v rest at r =
    reads_applied (made pair <+> word plus_or_minus) (product w room) ls (pair minus) mid v rest
    (λ ls v rest p e f. refl)
    (reads_applied (made pair) (word plus_or_minus) ls pair ls minus mid (λ ls v rest p e f. refl)
    (reads_made pair ls) (reads_word plus_or_minus ls minus mid exact_plus_or_minus at)) r

pub none_another : {V : Type 0} (w : Arithmetic V) (room : ℕ) (minus : Bool) (ls mid : List Lexeme)
    → ls ≡ plus_or_minus minus ∷ mid → HasNone (product w room) mid
    → HasNone (another_product w room) ls
none_another w room minus ls mid at none =
    none_next (made pair <+> word plus_or_minus) (product w room) ls (pair minus) mid
    (λ ls v rest p e f. refl)
    (reads_applied (made pair) (word plus_or_minus) ls pair ls minus mid (λ ls v rest p e f. refl)
    (reads_made pair ls) (reads_word plus_or_minus ls minus mid exact_plus_or_minus at)) none

-- Factors.

back : (room : ℕ) → suc room - 1 ≡ room
back room = omega arith

reads_sign : {V : Type 0} (w : Arithmetic V) (minus : Bool) (ls mid : List Lexeme)
    → ls ≡ plus_or_minus minus ∷ mid
    → Reads (made w.signed <+> word plus_or_minus) ls (w.signed minus) mid
reads_sign w minus ls mid at =
    reads_applied (made w.signed) (word plus_or_minus) ls w.signed ls minus mid
    (λ ls v rest p e f. refl) (reads_made w.signed ls)
    (reads_word plus_or_minus ls minus mid exact_plus_or_minus at)

reads_literal :
    {V : Type 0} (w : Arithmetic V) (ls : List Lexeme) (bs : List ℕ) (rest : List Lexeme)
    → ls ≡ Number bs ∷ rest → Reads (literal w) ls (w.written bs) rest
reads_literal w ls bs rest at =
    reads_applied (made w.written) (word Number) ls w.written ls bs rest (λ ls v rest p e f. refl)
    (reads_made w.written ls) (reads_word Number ls bs rest exact_number at)

pub unsigned_avoids : {V : Type 0} (w : Arithmetic V) (room : ℕ)
    → Avoids begins_with_plus_or_minus (either (group_of w (factor w room)) (literal w))
unsigned_avoids w room ls v rest (inl p) = ap begins_with_plus_or_minus p.1
unsigned_avoids w room ls v rest (inr p) = ap begins_with_plus_or_minus (p.3.1 ∙ p.4)

pub signed_told : {V : Type 0} (w : Arithmetic V) (room : ℕ)
    → Tells begins_with_plus_or_minus (signed_of w (factor w room))
signed_told w room ls v rest p =
    ap begins_with_plus_or_minus (p.3.3.1 ∙ p.3.4) ∙ told_sign p.3.1 p.2

pub literal_avoids : {V : Type 0} (w : Arithmetic V)
    → Avoids (begins_with_sign OpenParenthesis) (literal w)
literal_avoids w ls v rest p = ap (begins_with_sign OpenParenthesis) (p.3.1 ∙ p.4)

pub group_told : {V : Type 0} (w : Arithmetic V) (room : ℕ)
    → Tells (begins_with_sign OpenParenthesis) (group_of w (factor w room))
group_told w room ls v rest p = ap (begins_with_sign OpenParenthesis) p.1

literal_told : {V : Type 0} (w : Arithmetic V) → Tells begins_with_number (literal w)
literal_told w ls v rest p = ap begins_with_number (p.3.1 ∙ p.4)

literal_unsigned : {V : Type 0} (w : Arithmetic V) → Avoids begins_with_plus_or_minus (literal w)
literal_unsigned w ls v rest p = ap begins_with_plus_or_minus (p.3.1 ∙ p.4)

pub present_sign : (minus : Bool) (ls mid : List Lexeme) → ls ≡ plus_or_minus minus ∷ mid
    → begins_with_plus_or_minus ls ≡ true
present_sign minus ls mid at = ap begins_with_plus_or_minus at ∙ told_sign minus mid

pub signed_factor :
    {V : Type 0} (w : Arithmetic V) (room : ℕ) (ls mid : List Lexeme) (minus : Bool) (v : V)
    (rest : List Lexeme)
    → ls ≡ plus_or_minus minus ∷ mid → 0 < room → Reads (factor w (room - 1)) mid v rest
    → Reads (factor w room) ls (w.signed minus v) rest
unfolding factor
signed_factor w zero ls mid minus v rest at some r = absurd (omega (arith, some))
signed_factor w (suc room) ls mid minus v rest at some r =
    reads_left begins_with_plus_or_minus (signed_of w (factor w room))
    (either (group_of w (factor w room)) (literal w)) ls _ rest (unsigned_avoids w room)
    (present_sign minus ls mid at)
    (reads_applied (made w.signed <+> word plus_or_minus) (factor w room) ls (w.signed minus) mid v
    rest (λ ls v rest p e f. refl) (reads_sign w minus ls mid at)
    (subst (λ n. Reads (factor w n) mid v rest) (back room) r))

pub no_room_for_sign :
    {V : Type 0} (w : Arithmetic V) (room : ℕ) (ls mid : List Lexeme) (minus : Bool)
    → ls ≡ plus_or_minus minus ∷ mid → room ≡ 0 → HasNone (factor w room) ls
unfolding factor
no_room_for_sign w zero ls mid minus at full v after p ends =
    cc (present_sign minus ls mid at, literal_unsigned w ls v after p)
no_room_for_sign w (suc room) ls mid minus at full v after p ends = absurd (omega (arith, full))

pub none_behind_sign :
    {V : Type 0} (w : Arithmetic V) (room : ℕ) (ls mid : List Lexeme) (minus : Bool)
    → ls ≡ plus_or_minus minus ∷ mid → HasNone (factor w (room - 1)) mid
    → HasNone (factor w room) ls
unfolding factor
none_behind_sign w zero ls mid minus at none = no_room_for_sign w zero ls mid minus at refl
none_behind_sign w (suc room) ls mid minus at none =
    none_left begins_with_plus_or_minus (signed_of w (factor w room))
    (either (group_of w (factor w room)) (literal w)) ls (unsigned_avoids w room)
    (present_sign minus ls mid at)
    (none_next (made w.signed <+> word plus_or_minus) (factor w room) ls (w.signed minus) mid
    (λ ls v rest p e f. refl) (reads_sign w minus ls mid at)
    (subst (λ n. HasNone (factor w n) mid) (back room) none))

pub sum_shut : {V : Type 0} (w : Arithmetic V) (room : ℕ)
    → Stops (Sign CloseParenthesis) (sum w room)
sum_shut w room rest = ap (λ b. b || b) (product_stops w room (Sign CloseParenthesis ∷ rest) refl)

pub group_factor :
    {V : Type 0} (w : Arithmetic V) (room : ℕ) (ls mid : List Lexeme) (v : V)
    (rest more : List Lexeme)
    → ls ≡ Sign OpenParenthesis ∷ mid → 0 < room → Reads (sum w (room - 1)) mid v rest
    → rest ≡ Sign CloseParenthesis ∷ more → Reads (factor w room) ls v more
unfolding factor
group_factor w zero ls mid v rest more at some r shut = absurd (omega (arith, some))
group_factor w (suc room) ls mid v rest more at some r shut =
    reads_right begins_with_plus_or_minus (signed_of w (factor w room))
    (either (group_of w (factor w room)) (literal w)) ls v more (signed_told w room)
    (ap begins_with_plus_or_minus at)
    (reads_left (begins_with_sign OpenParenthesis) (group_of w (factor w room)) (literal w) ls v
    more (literal_avoids w) (ap (begins_with_sign OpenParenthesis) at)
    (reads_behind (Sign OpenParenthesis) (closed (Sign CloseParenthesis) (sum w room)) ls mid v more
    at
    (reads_closed (Sign CloseParenthesis) (sum w room) mid v rest more (sum_shut w room)
    (subst (λ n. Reads (sum w n) mid v rest) (back room) r) shut)))

pub no_room_for_group : {V : Type 0} (w : Arithmetic V) (room : ℕ) (ls mid : List Lexeme)
    → ls ≡ Sign OpenParenthesis ∷ mid → room ≡ 0 → HasNone (factor w room) ls
unfolding factor
no_room_for_group w zero ls mid at full v after p ends = let e =
    ap (begins_with_sign OpenParenthesis) at in cc (e, literal_avoids w ls v after p)
no_room_for_group w (suc room) ls mid at full v after p ends = absurd (omega (arith, full))

none_of_group : {V : Type 0} (w : Arithmetic V) (room : ℕ) (ls mid : List Lexeme)
    → ls ≡ Sign OpenParenthesis ∷ mid → HasNone (closed (Sign CloseParenthesis) (sum w room)) mid
    → HasNone (factor w (suc room)) ls
unfolding factor
none_of_group w room ls mid at none =
    none_right begins_with_plus_or_minus (signed_of w (factor w room))
    (either (group_of w (factor w room)) (literal w)) ls (signed_told w room)
    (ap begins_with_plus_or_minus at)
    (none_left (begins_with_sign OpenParenthesis) (group_of w (factor w room)) (literal w) ls
    (literal_avoids w) (ap (begins_with_sign OpenParenthesis) at)
    (none_behind (Sign OpenParenthesis) (closed (Sign CloseParenthesis) (sum w room)) ls mid at
    none))

pub none_in_group : {V : Type 0} (w : Arithmetic V) (room : ℕ) (ls mid : List Lexeme)
    → ls ≡ Sign OpenParenthesis ∷ mid → HasNone (sum w (room - 1)) mid → HasNone (factor w room) ls
none_in_group w zero ls mid at none = no_room_for_group w zero ls mid at refl
none_in_group w (suc room) ls mid at none =
    none_of_group w room ls mid at
    (none_closed (Sign CloseParenthesis) (sum w room) mid (sum_shut w room)
    (subst (λ n. HasNone (sum w n) mid) (back room) none))

absent_sign : (rest more : List Lexeme) → begins_with_sign CloseParenthesis rest ≡ false
    → rest ≡ Sign CloseParenthesis ∷ more → ⊥
absent_sign rest more absent e = let f = ap (begins_with_sign CloseParenthesis) e in cc (f, absent)

pub not_shut :
    {V : Type 0} (w : Arithmetic V) (room : ℕ) (ls mid : List Lexeme) (v : V) (rest : List Lexeme)
    → ls ≡ Sign OpenParenthesis ∷ mid → Reads (sum w (room - 1)) mid v rest
    → begins_with_sign CloseParenthesis rest ≡ false → HasNone (factor w room) ls
not_shut w zero ls mid v rest at r absent = no_room_for_group w zero ls mid at refl
not_shut w (suc room) ls mid v rest at r absent =
    none_of_group w room ls mid at
    (not_closed (Sign CloseParenthesis) (sum w room) mid v rest (sum_shut w room)
    (subst (λ n. Reads (sum w n) mid v rest) (back room) r)
    (λ more. absent_sign rest more absent))

pub literal_factor :
    {V : Type 0} (w : Arithmetic V) (room : ℕ) (ls : List Lexeme) (bs : List ℕ) (rest : List Lexeme)
    → ls ≡ Number bs ∷ rest → Reads (factor w room) ls (w.written bs) rest
unfolding factor
literal_factor w zero ls bs rest at = reads_literal w ls bs rest at
literal_factor w (suc room) ls bs rest at =
    reads_right begins_with_plus_or_minus (signed_of w (factor w room))
    (either (group_of w (factor w room)) (literal w)) ls _ rest (signed_told w room)
    (ap begins_with_plus_or_minus at)
    (reads_right (begins_with_sign OpenParenthesis) (group_of w (factor w room)) (literal w) ls _
    rest (group_told w room) (ap (begins_with_sign OpenParenthesis) at)
    (reads_literal w ls bs rest at))

none_literal : {V : Type 0} (w : Arithmetic V) (ls : List Lexeme) → begins_with_number ls ≡ false
    → HasNone (literal w) ls
none_literal w ls absent v after p ends = cc (literal_told w ls v after p, absent)

pub no_factor_here : {V : Type 0} (w : Arithmetic V) (room : ℕ) (ls : List Lexeme)
    → begins_with_plus_or_minus ls ≡ false → begins_with_sign OpenParenthesis ls ≡ false
    → begins_with_number ls ≡ false → HasNone (factor w room) ls
unfolding factor
no_factor_here w zero ls a b c = none_literal w ls c
no_factor_here w (suc room) ls a b c =
    none_right begins_with_plus_or_minus (signed_of w (factor w room))
    (either (group_of w (factor w room)) (literal w)) ls (signed_told w room) a
    (none_right (begins_with_sign OpenParenthesis) (group_of w (factor w room)) (literal w) ls
    (group_told w room) b (none_literal w ls c))

pub reads_star :
    {V : Type 0} (w : Arithmetic V) (room : ℕ) (ls mid : List Lexeme) (v : V) (rest : List Lexeme)
    → ls ≡ Sign Star ∷ mid → Reads (factor w room) mid v rest
    → Reads (another_factor w room) ls v rest
reads_star w room ls mid v rest at r = reads_behind (Sign Star) (factor w room) ls mid v rest at r

pub none_star : {V : Type 0} (w : Arithmetic V) (room : ℕ) (ls mid : List Lexeme)
    → ls ≡ Sign Star ∷ mid → HasNone (factor w room) mid → HasNone (another_factor w room) ls
none_star w room ls mid at none = none_behind (Sign Star) (factor w room) ls mid at none

pub sum_stops : {V : Type 0} (w : Arithmetic V) (room : ℕ) (ls : List Lexeme)
    → begins_with_sign Star ls ≡ false → begins_with_plus_or_minus ls ≡ false
    → (sum w room).goes_on ls ≡ false
sum_stops w room ls e f =
    ap (λ b. b || ((product w room).goes_on ls || (product w room).goes_on ls)) f
    ∙ ap (λ b. b || b) (product_stops w room ls e)

-- what a test says of signs, parentheses and numbers, it says of sum
abbrev pub AvoidsNumbers : (List Lexeme → Bool) → Type 0
AvoidsNumbers begins = (mid : List Lexeme)
    → ((minus : Bool) → begins (plus_or_minus minus ∷ mid) ≡ false)
    × (begins (Sign OpenParenthesis ∷ mid) ≡ false)
    × ((bs : List ℕ) → begins (Number bs ∷ mid) ≡ false)

pub factor_is_avoided : {V : Type 0} (w : Arithmetic V) (begins : List Lexeme → Bool) (room : ℕ)
    → AvoidsNumbers begins → Avoids begins (factor w room)
unfolding factor
factor_is_avoided w begins zero no_number ls v rest p =
    ap begins (p.3.1 ∙ p.4) ∙ (no_number rest).2 p.1
factor_is_avoided w begins (suc room) no_number ls v rest (inl p) =
    ap begins (p.3.3.1 ∙ p.3.4) ∙ (no_number p.2).0 p.3.1
factor_is_avoided w begins (suc room) no_number ls v rest (inr (inl p)) =
    ap begins p.1 ∙ (no_number p.0).1
factor_is_avoided w begins (suc room) no_number ls v rest (inr (inr p)) =
    ap begins (p.3.1 ∙ p.4) ∙ (no_number rest).2 p.1

pub sum_is_avoided : {V : Type 0} (w : Arithmetic V) (begins : List Lexeme → Bool) (room : ℕ)
    → AvoidsNumbers begins → Avoids begins (sum w room)
sum_is_avoided w begins room no_number ls v rest p =
    factor_is_avoided w begins room no_number ls _ _ p.3.3

-- There is one reading.

one_literal : {V : Type 0} (w : Arithmetic V) → IsUnambiguous (literal w)
one_literal w =
    one_applied (made w.written) (word Number) (λ ls v rest p e f. refl) (one_made w.written)
    (one_word Number exact_number)

one_sum_of : {V : Type 0} (w : Arithmetic V) (room : ℕ) → IsUnambiguous (factor w room)
    → IsUnambiguous (sum w room)
one_sum_of w room one =
    let one_product =
    one_row (begins_with_sign Star) (factor w room) (λ v. v) (another_factor w room) w.times
    (factor_begins w room) (factor_separates w room) (factor_told w room) one
    (one_behind (Sign Star) (factor w room) one) in
    one_row begins_with_plus_or_minus (product w room) (λ v. v) (another_product w room)
    (with_product w) (product_begins w room) (product_separates w room) (product_told w room)
    one_product
    (one_applied (made pair <+> word plus_or_minus) (product w room) (λ ls v rest p e f. refl)
    (one_applied (made pair) (word plus_or_minus) (λ ls v rest p e f. refl) (one_made pair)
    (one_word plus_or_minus exact_plus_or_minus)) one_product)

one_factor : {V : Type 0} (w : Arithmetic V) (room : ℕ) → IsUnambiguous (factor w room)
unfolding factor
one_factor w zero = one_literal w
one_factor w (suc room) =
    one_either begins_with_plus_or_minus (signed_of w (factor w room))
    (either (group_of w (factor w room)) (literal w)) (signed_told w room)
    (unsigned_avoids w room)
    (one_applied (made w.signed <+> word plus_or_minus) (factor w room) (λ ls v rest p e f. refl)
    (one_applied (made w.signed) (word plus_or_minus) (λ ls v rest p e f. refl) (one_made w.signed)
    (one_word plus_or_minus exact_plus_or_minus)) (one_factor w room))
    (one_either (begins_with_sign OpenParenthesis) (group_of w (factor w room)) (literal w)
    (group_told w room) (literal_avoids w)
    (one_behind (Sign OpenParenthesis) (closed (Sign CloseParenthesis) (sum w room))
    (one_closed (Sign CloseParenthesis) (sum w room) (sum_shut w room)
    (one_sum_of w room (one_factor w room)))) (one_literal w))

-- Expressions whole.

told_at : (minus : Bool) (rest : List Lexeme)
    → begins_with_expression (plus_or_minus minus ∷ rest) ≡ true
told_at true rest = refl
told_at false rest = refl

factor_begins_one : {V : Type 0} (w : Arithmetic V) (room : ℕ)
    → Tells begins_with_expression (factor w room)
unfolding factor
factor_begins_one w zero ls v rest p = ap begins_with_expression (p.3.1 ∙ p.4)
factor_begins_one w (suc room) ls v rest (inl p) =
    ap begins_with_expression (p.3.3.1 ∙ p.3.4) ∙ told_at p.3.1 p.2
factor_begins_one w (suc room) ls v rest (inr (inl p)) = ap begins_with_expression p.1
factor_begins_one w (suc room) ls v rest (inr (inr p)) = ap begins_with_expression (p.3.1 ∙ p.4)

pub expression_told : Tells begins_with_expression expression
expression_told ls v rest p = factor_begins_one in_ledger 200 ls _ _ p.1.0.3.3

pub expression_is_avoided : (begins : List Lexeme → Bool) → AvoidsNumbers begins
    → Avoids begins expression
expression_is_avoided begins no_number ls v rest p =
    sum_is_avoided in_ledger begins 200 no_number ls _ _ p.1.0

pub reads_expression : (ls : List Lexeme) (n : Ranged Num) (rest : List Lexeme)
    → (sum in_ledger 200).goes_on rest ≡ false
    → Reads (sum in_ledger 200) ls (ranged_map exact n) rest → Reads expression ls n rest
reads_expression ls n rest ends r =
    reads_related IsValued (ending (sum in_ledger 200)) ls (ranged_map exact n) n rest
    (reads_ending (sum in_ledger 200) ls (ranged_map exact n) rest r ends) refl
    (λ m q. one_valued (ranged_map exact n) n m refl q)

pub none_expression : (ls : List Lexeme) → HasNone (sum in_ledger 200) ls → HasNone expression ls
none_expression ls none =
    none_related IsValued (ending (sum in_ledger 200)) ls (none_ending (sum in_ledger 200) ls none)

pub expression_or_none :
    {X : Type 0} (ls : List Lexeme) (found : Option (Ranged Num × X)) (rest_of : X → List Lexeme)
    → IfSome found (λ r. (sum in_ledger 200).goes_on (rest_of r.1) ≡ false)
    → MatchOption found (HasNone (sum in_ledger 200) ls)
    (λ r. Reads (sum in_ledger 200) ls (ranged_map exact r.0) (rest_of r.1))
    → MatchOption found (HasNone expression ls) (λ r. Reads expression ls r.0 (rest_of r.1))
expression_or_none ls (Some r) rest_of ends reads = reads_expression ls r.0 (rest_of r.1) ends reads
expression_or_none ls None rest_of ends none = none_expression ls none

pub one_computed : {V : Type 0} (w : Arithmetic V) → IsUnambiguous (computed w)
one_computed w = one_ending (sum w 200) (one_sum_of w 200 (one_factor w 200))

pub one_expression : IsUnambiguous expression
one_expression =
    one_related IsValued (computed in_ledger) (λ v m n p q. one_valued v m n p q)
    (one_computed in_ledger)

pub reads_number_due : (ls : List Lexeme) (n : Ranged Num) (rest : List Lexeme)
    → Reads expression ls n rest → Reads (due begins_with_expression expression) ls (Some n) rest
reads_number_due ls n rest r =
    reads_due begins_with_expression expression ls n rest (expression_told ls n rest r.read) r

pub reads_no_number : (ls : List Lexeme) → begins_with_expression ls ≡ false
    → Reads (due begins_with_expression expression) ls None ls
reads_no_number ls absent =
    reads_not_due begins_with_expression expression ls expression_told absent

pub none_number_due : (ls : List Lexeme) → begins_with_expression ls ≡ true → HasNone expression ls
    → HasNone (due begins_with_expression expression) ls
none_number_due ls present none = none_due begins_with_expression expression ls present none

pub one_number_due : IsUnambiguous (due begins_with_expression expression)
one_number_due = one_due begins_with_expression expression expression_told one_expression
