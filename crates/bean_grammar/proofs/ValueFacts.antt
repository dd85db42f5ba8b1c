-- What is read of an expression doesn't depend on what is computed of it.
use Rattle.std.proofs.Common.{◌≡◌, ℕ, zero, suc, Bool, true, false, ◌||◌, List, [], ◌∷◌, refl, sym}
use Rattle.std.proofs.Common.{◌∙◌, ap, subst, inl, inr, if◌then◌else◌}
use Rattle.theory.specs.Form.{Form, ItemsRead, steps, pair}
use Rattle.exact_numbers.specs.Exact.{Exact, numeral, sum_of, difference_of, product_of}
use Rattle.exact_numbers.specs.Exact.{opposite_of}
use Rattle.bean_base.specs.declared.num.Num.{Num}
use Rattle.bean_grammar.specs.declared.ranged.Ranged.{Ranged}
use Rattle.bean_grammar.specs.declared.ranged.Ranged.TheVariants.{Within, Outside}
use Rattle.bean_grammar.specs.Exact.{exact, is_ledger, in_range, joined, joined_exactly, signed}
use Rattle.bean_grammar.specs.Exact.{signed_exactly}
use Rattle.bean_grammar.specs.Expression.{Arithmetic, in_ledger, exactly, literal, signed_of}
use Rattle.bean_grammar.specs.Expression.{group_of, factor, product, sum, computed, IsHeldAs}
use Rattle.bean_grammar.specs.Expression.{HasValues}
use Rattle.bean_lexer.specs.declared.kind.Sign.TheVariants.{Star}
use Rattle.bean_grammar.specs.Lexeme.{Lexeme, begins_with_sign, begins_with_plus_or_minus}
use Rattle.bean_grammar.specs.Ranged.{ranged_bind2, ranged_map}
use Rattle.bean_grammar.proofs.ExpressionFacts.{another_factor, another_product, with_product}
use Rattle.bean_grammar.proofs.ExpressionFacts.{factor_ends}

-- ---- of related values related ones are computed

abbrev Related : Type 0 → Type 0 → Type 1
Related V W = V → W → Type 0

record AreAlike {V W : Type 0} (R : Related V W) (a : Arithmetic V) (b : Arithmetic W) :
    Type 0 where
  pub written : (bs : List ℕ) → R (a.written bs) (b.written bs)
  pub times : (v w : V) (x y : W) → R v x → R w y → R (a.times v w) (b.times x y)
  pub joined : (m : Bool) (v w : V) (x y : W) → R v x → R w y
      → R (a.joined m v w) (b.joined m x y)
  pub signed : (m : Bool) (v : V) (x : W) → R v x → R (a.signed m v) (b.signed m x)

-- what one form reads the other reads as something related
abbrev Follows : {V W : Type 0} → Related V W → Form Lexeme V → Form Lexeme W → Type 0
Follows {V} {W} R a b = (ls : List Lexeme) (v : V) (rest : List Lexeme) → a.reads ls v rest
    → (w : W) × b.reads ls w rest × R v w

items_follow :
    {S T V W : Type 0} (R : Related V W) (Q : Related S T) (a : Form Lexeme V) (b : Form Lexeme W)
    (f : S → V → S) (g : T → W → T)
    (next : (s : S) (t : T) (v : V) (w : W) → Q s t → R v w → Q (f s v) (g t w))
    → Follows R a b → (vs : List V) (ls rest : List Lexeme) (s : S) (t : T) → Q s t
    → ItemsRead a ls vs rest
    → (ws : List W) × ItemsRead b ls ws rest × Q (steps f s vs) (steps g t ws)
items_follow R Q a b f g next go [] ls rest s t q p = ([], p, q)
items_follow R Q a b f g next go (v ∷ vs) ls rest s t q p =
    let one = go ls v p.0 p.1 in
    let more = items_follow R Q a b f g next go vs p.0 rest (f s v) (g t one.0)
    (next s t v one.0 q one.2) p.2 in
    (one.0 ∷ more.0, (p.0, one.1, more.1), more.2)

-- ---- the grammar's rules

module _ {V W : Type 0} (R : Related V W) (a : Arithmetic V) (b : Arithmetic W)
    (alike : AreAlike R a b) where
  literal_follows : Follows R (literal a) (literal b)
  literal_follows ls v rest p = (
    b.written p.1,
    (b.written, p.1, p.2, (refl, p.3.1), p.4, refl),
    subst (λ u. R u (b.written p.1))
        (ap (λ f. f p.1) (sym p.3.0) ∙ sym p.5) (alike.written p.1),
  )

  signed_follows : (f : Form Lexeme V) (g : Form Lexeme W) → Follows R f g
      → Follows R (signed_of a f) (signed_of b g)
  signed_follows f g go ls v rest p =
      let m = p.3.1 in
      let one = go p.2 p.1 rest p.4 in (
        b.signed m one.0,
        (b.signed m, one.0, p.2, (b.signed, m, p.3.2, (refl, p.3.3.1), p.3.4, refl), one.1, refl),
        subst (λ u. R u (b.signed m one.0))
            (ap (λ h. h m p.1) (sym p.3.3.0) ∙ (ap (λ h. h p.1) (sym p.3.5) ∙ sym p.5))
            (alike.signed m p.1 one.0 one.2),
      )

  product_follows : (room : ℕ) → Follows R (factor a room) (factor b room)
      → Follows R (product a room) (product b room)
  product_follows room go ls v rest p =
      let one = go ls p.0 p.2 p.3 in
      let more = items_follow R R (another_factor a room) (another_factor b room) a.times b.times
      (λ s t v w q r. alike.times s v t w q r)
      (λ ls v rest p.
      let next = go p.0 v rest p.2 in (next.0, (p.0, p.1, next.1), next.2))
      p.1 p.2 rest p.0 one.0 one.2 p.4 in (
        steps b.times one.0 more.0,
        (one.0, more.0, p.2, one.1, more.1, refl),
        subst (λ u. R u (steps b.times one.0 more.0)) (sym p.5) more.2,
      )

  abbrev SameSign : Related (Bool × V) (Bool × W)
  SameSign p q = (p.0 ≡ q.0) × R p.1 q.1

  another_follows : (room : ℕ) → Follows R (product a room) (product b room)
      → Follows SameSign (another_product a room) (another_product b room)
  another_follows room go ls v rest p =
      let m = p.3.1 in
      let one = go p.2 p.1 rest p.4 in
      let is = ap (λ h. h m p.1) (sym p.3.3.0) ∙ (ap (λ h. h p.1) (sym p.3.5) ∙ sym p.5) in (
        (m, one.0),
        (pair m, one.0, p.2, (pair, m, p.3.2, (refl, p.3.3.1), p.3.4, refl), one.1, refl),
        subst (λ u. SameSign u (m, one.0)) is (refl, one.2),
      )

  joined_alike : (s : V) (t : W) (p : Bool × V) (q : Bool × W) → R s t → SameSign p q
      → R (with_product a s p) (with_product b t q)
  joined_alike s t p q r same =
      subst (λ m. R (a.joined p.0 s p.1) (b.joined m t q.1)) same.0
      (alike.joined p.0 s p.1 t q.1 r same.1)

  sum_follows : (room : ℕ) → Follows R (factor a room) (factor b room)
      → Follows R (sum a room) (sum b room)
  sum_follows room go ls v rest p =
      let first = product_follows room go in
      let one = first ls p.0 p.2 p.3 in
      let more = items_follow SameSign R (another_product a room) (another_product b room)
      (with_product a) (with_product b) joined_alike (another_follows room first)
      p.1 p.2 rest p.0 one.0 one.2 p.4 in (
        steps (with_product b) one.0 more.0,
        (one.0, more.0, p.2, one.1, more.1, refl),
        subst (λ u. R u (steps (with_product b) one.0 more.0)) (sym p.5) more.2,
      )

  group_follows : (room : ℕ) → Follows R (factor a room) (factor b room)
      → Follows R (group_of a (factor a room)) (group_of b (factor b room))
  group_follows room go ls v rest p =
      let one = sum_follows room go p.0 v _ p.2 in (one.0, (p.0, p.1, one.1), one.2)

  factor_follows : (room : ℕ) → Follows R (factor a room) (factor b room)
  unfolding factor
  factor_follows zero ls v rest p = literal_follows ls v rest p
  factor_follows (suc room) ls v rest (inl p) =
      let one = signed_follows (factor a room) (factor b room) (factor_follows room) ls v rest p in
      (one.0, inl one.1, one.2)
  factor_follows (suc room) ls v rest (inr (inl p)) =
      let one = group_follows room (factor_follows room) ls v rest p in
      (one.0, inr (inl one.1), one.2)
  factor_follows (suc room) ls v rest (inr (inr p)) =
      let one = literal_follows ls v rest p in (one.0, inr (inr one.1), one.2)

-- ---- where an expression ends

product_goes : {V : Type 0} (w : Arithmetic V) (room : ℕ) (rest : List Lexeme)
    → (product w room).goes_on rest ≡ (begins_with_sign Star rest || false)
product_goes w room rest =
    ap (λ b. begins_with_sign Star rest || (b || b)) (factor_ends w room rest)

sum_goes : {V : Type 0} (w : Arithmetic V) (room : ℕ) (rest : List Lexeme)
    → (sum w room).goes_on rest
    ≡ (begins_with_plus_or_minus rest
    || ((begins_with_sign Star rest || false) || (begins_with_sign Star rest || false)))
sum_goes w room rest =
    ap (λ b. begins_with_plus_or_minus rest || (b || b)) (product_goes w room rest)

computed_follows : {V W : Type 0} (R : Related V W) (a : Arithmetic V) (b : Arithmetic W)
    → AreAlike R a b → Follows R (computed a) (computed b)
computed_follows R a b alike ls v rest p =
    let one = sum_follows R a b alike 200 (factor_follows R a b alike 200) ls v rest p.0 in
    (one.0, (one.1, sum_goes b 200 rest ∙ (sym (sum_goes a 200 rest) ∙ p.1)), one.2)

-- ---- in the range of a ledger and outside it

abbrev IsOf : Ranged Exact → Exact → Type 0
IsOf (Within e) x = x ≡ e
IsOf Outside x = Unit {0}

by_range : (c : Bool) (e x : Exact) → x ≡ e → IsOf (if c then Within e else Outside) x
by_range true e x is = is
by_range false e x is = tt

of_range : (e x : Exact) → x ≡ e → IsOf (in_range e) x
of_range e x is = by_range (is_ledger e) e x is

of_two : (op : Exact → Exact → Exact) (v w : Ranged Exact) (x y : Exact) → IsOf v x → IsOf w y
    → IsOf (ranged_bind2 (λ d e. in_range (op d e)) v w) (op x y)
of_two op (Within d) (Within e) x y p q =
    of_range (op d e) (op x y) (ap (λ u. op u y) p ∙ ap (op d) q)
of_two op (Within d) Outside x y p q = tt
of_two op Outside w x y p q = tt

of_joined : (m : Bool) (v w : Ranged Exact) (x y : Exact) → IsOf v x → IsOf w y
    → IsOf (joined m v w) (joined_exactly m x y)
of_joined false v w x y p q = of_two sum_of v w x y p q
of_joined true v w x y p q = of_two difference_of v w x y p q

of_signed : (m : Bool) (v : Ranged Exact) (x : Exact) → IsOf v x
    → IsOf (signed m v) (signed_exactly m x)
of_signed false v x p = p
of_signed true (Within e) x p = ap opposite_of p
of_signed true Outside x p = tt

to_values : AreAlike IsOf in_ledger exactly
to_values = record {
  written = λ bs. of_range (numeral bs) (numeral bs) refl;
  times = of_two product_of;
  joined = of_joined;
  signed = of_signed;
}

held_as : (v : Ranged Exact) (x : Exact) (n : Ranged Num) → v ≡ ranged_map exact n → IsOf v x
    → IsHeldAs x n
held_as v x (Within n) e p = subst (λ r. IsOf r x) e p
held_as v x Outside e p = tt

pub has_values : HasValues
has_values ls number rest p =
    let one = computed_follows IsOf in_ledger exactly to_values ls p.0 rest p.1 in
    (one.0, one.1, held_as p.0 one.0 number p.2 one.2)
