-- Values that are short where they are in range.
use Rattle.std.proofs.Common.{ℕ, ◌-◌, ◌≤◌, Bool, true, false, nat_eq, cond, List, [], ◌∷◌}
use Rattle.std.proofs.Common.{length, take, drop, Option, Some, None, IfSome, arith}
use Rattle.std.proofs.lemmas.List.{length-take, length-drop}
use Rattle.bean_base.specs.Text.{escaped, read_text}
use Rattle.bean_grammar.specs.declared.ranged.Ranged.{Ranged}
use Rattle.bean_grammar.specs.declared.ranged.Ranged.TheVariants.{Within, Outside}
use Rattle.bean_grammar.specs.Literal.{between_quotes, text_of}
use Rattle.bean_grammar.specs.Ranged.{ranged_map, ranged_map2, ranged_map3, option_within}
use Rattle.bean_directives.specs.SmallPart.{IsShort}

-- S holds of a value that is in range
abbrev pub WhenWithin : {V : Type 0} → (V → Type 0) → Ranged V → Type 0
WhenWithin S (Within v) = S v
WhenWithin S Outside = Unit {0}

-- what always holds
abbrev pub Any : {V : Type 0} → V → Type 0
Any v = Unit {0}

pub any_within : {V : Type 0} (r : Ranged V) → WhenWithin Any r
any_within (Within v) = tt
any_within Outside = tt

pub mapped : {V W : Type 0} {S : V → Type 0} (T : W → Type 0) (f : V → W) (r : Ranged V)
    → WhenWithin S r → ((v : V) → S v → T (f v)) → WhenWithin T (ranged_map f r)
mapped T f (Within v) h go = go v h
mapped T f Outside h go = tt

-- the same where nothing needs to be known of the value
pub mapped_any : {V W : Type 0} (T : W → Type 0) (f : V → W) (r : Ranged V) → ((v : V) → T (f v))
    → WhenWithin T (ranged_map f r)
mapped_any T f r go = mapped T f r (any_within r) (λ v any. go v)

pub mapped2 :
    {U V W : Type 0} {R : U → Type 0} {S : V → Type 0} (T : W → Type 0) (f : U → V → W)
    (q : Ranged U) (r : Ranged V) → WhenWithin R q → WhenWithin S r
    → ((u : U) (v : V) → R u → S v → T (f u v)) → WhenWithin T (ranged_map2 f q r)
mapped2 T f (Within u) (Within v) g h go = go u v g h
mapped2 T f (Within u) Outside g h go = tt
mapped2 T f Outside r g h go = tt

pub mapped3 :
    {O U V W : Type 0} {Q : O → Type 0} {R : U → Type 0} {S : V → Type 0} (T : W → Type 0)
    (f : O → U → V → W) (p : Ranged O) (q : Ranged U) (r : Ranged V) → WhenWithin Q p
    → WhenWithin R q → WhenWithin S r
    → ((o : O) (u : U) (v : V) → Q o → R u → S v → T (f o u v))
    → WhenWithin T (ranged_map3 f p q r)
mapped3 T f (Within o) q r e g h go = mapped2 T (f o) q r g h (λ u v. go o u v e)
mapped3 T f Outside q r e g h go = tt

-- what isn't there is in range
pub option_short : {V : Type 0} (S : V → Type 0) (o : Option (Ranged V)) → IfSome o (WhenWithin S)
    → WhenWithin (λ p. IfSome p S) (option_within o)
option_short S None h = tt
option_short S (Some (Within v)) h = h
option_short S (Some Outside) h = tt

-- a text isn't longer than it is written

read_by : (b c : ℕ) (bs : List ℕ) (t : Bool) → length (read_text bs) ≤ length bs
    → length (read_text (c ∷ bs)) ≤ length (c ∷ bs)
    → length (cond t (escaped c ∷ read_text bs) (b ∷ read_text (c ∷ bs))) ≤ length (b ∷ c ∷ bs)
read_by b c bs true h k = omega arith
read_by b c bs false h k = omega arith

pub read_no_longer : (bs : List ℕ) → length (read_text bs) ≤ length bs
read_no_longer [] = omega arith
read_no_longer (b ∷ []) = omega arith
read_no_longer (b ∷ c ∷ bs) =
    read_by b c bs (nat_eq b 92) (read_no_longer bs) (read_no_longer (c ∷ bs))

pub drop_short : (n : ℕ) (bs : List ℕ) → IsShort bs → IsShort (drop n bs)
drop_short n bs h = let e = length-drop n bs in omega arith

pub take_short : (n : ℕ) (bs : List ℕ) → IsShort bs → IsShort (take n bs)
take_short n bs h = let e = length-take n bs in omega arith

pub text_short : (bs : List ℕ) → IsShort bs → IsShort (text_of bs)
text_short bs h =
    let s = take_short (length bs - 2) (drop 1 bs) (drop_short 1 bs h) in
    let r = read_no_longer (between_quotes bs) in
    omega arith
