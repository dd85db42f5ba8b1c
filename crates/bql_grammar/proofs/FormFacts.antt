-- How forms that no rest carries on are read part by part.
use Rattle.std.proofs.Common.{◌≡◌, Bool, true, false, List, Option, Some}
use Rattle.std.proofs.Common.{None, is_some, inl, inr, refl, sym, ap, subst}
use Rattle.theory.specs.Form.{Form, Reads, HasNone}
use Rattle.bql_lexer.specs.declared.token.Token.{Token}
use Rattle.bql_grammar.specs.Front.{front, begins}
use Rattle.bql_grammar.specs.Expression.{told, then, choice, nothing}

-- no rest carries it on
abbrev pub IsFixed : {V : Type 0} → Form Token V → Type 0
IsFixed a = (rest : List Token) → a.goes_on rest ≡ false

pub same_some : {A : Type 0} (v w : A) (o : Option A) → o ≡ Some v → o ≡ Some w → v ≡ w
same_some v w o e f = cc

pub same_pair : {V : Type 0} (o : Option (V × List Token)) (v w : V) (ts us : List Token)
    → o ≡ Some (v, ts) → o ≡ Some (w, us) → (v ≡ w) × (ts ≡ us)
same_pair o v w ts us e f = let g = same_some (v, ts) (w, us) o e f in
    (ap (λ p. p.0) g, ap (λ p. p.1) g)

pub reads_told : {V : Type 0} (f : Token → Option V) (ts : List Token) (v : V) (rest : List Token)
    → front f ts ≡ Some (v, rest) → Reads (told f) ts v rest
reads_told f ts v rest at = record {
  read = at;
  only = λ w after p ends. same_pair
      (front f ts) v w rest after at p;
}

pub none_told : {V : Type 0} (f : Token → Option V) (ts : List Token) → front f ts ≡ None
    → HasNone (told f) ts
none_told f ts none v after p ends = cc (none, p)

pub reads_then : {V W : Type 0} (a : Form Token V) (k : V → Form Token W) (ts : List Token) (v : V)
    (mid : List Token) (w : W) (rest : List Token)
    → IsFixed a → ((v : V) → IsFixed (k v)) → Reads a ts v mid → Reads (k v) mid w rest
    → Reads (then a k) ts w rest
reads_then a k ts v mid w rest fixed ends_k r s = record {
  read = (v, mid, r.read, s.read);
  only = λ x after p ends.
      let o = r.only p.0 p.1 p.2 (fixed p.1) in
      s.only x after (subst (λ m. (k v).reads m x after) (sym o.1)
      (subst (λ u. (k u).reads p.1 x after) (sym o.0) p.3)) (ends_k v after);
}

pub none_then_first : {V W : Type 0} (a : Form Token V) (k : V → Form Token W) (ts : List Token)
    → IsFixed a → HasNone a ts → HasNone (then a k) ts
none_then_first a k ts fixed none x after p ends = none p.0 p.1 p.2 (fixed p.1)

pub none_then : {V W : Type 0} (a : Form Token V) (k : V → Form Token W) (ts : List Token) (v : V)
    (mid : List Token)
    → IsFixed a → ((v : V) → IsFixed (k v)) → Reads a ts v mid → HasNone (k v) mid
    → HasNone (then a k) ts
none_then a k ts v mid fixed ends_k r none x after p ends =
    let o = r.only p.0 p.1 p.2 (fixed p.1) in
    none x after (subst (λ m. (k v).reads m x after) (sym o.1)
    (subst (λ u. (k u).reads p.1 x after) (sym o.0) p.3)) (ends_k v after)

-- The same behind a token.

pub reads_behind : {V W : Type 0} (f : Token → Option V) (k : V → Form Token W) (ts : List Token)
    (v : V) (mid : List Token) (w : W) (rest : List Token)
    → ((v : V) → IsFixed (k v)) → front f ts ≡ Some (v, mid) → Reads (k v) mid w rest
    → Reads (then (told f) k) ts w rest
reads_behind f k ts v mid w rest ends_k at s = reads_then (told f) k ts v mid w rest
    (λ rest. refl) ends_k (reads_told f ts v mid at) s

pub none_behind : {V W : Type 0} (f : Token → Option V) (k : V → Form Token W) (ts : List Token)
    (v : V) (mid : List Token)
    → ((v : V) → IsFixed (k v)) → front f ts ≡ Some (v, mid) → HasNone (k v) mid
    → HasNone (then (told f) k) ts
none_behind f k ts v mid ends_k at none = none_then (told f) k ts v mid (λ rest. refl) ends_k
    (reads_told f ts v mid at) none

pub none_here : {V W : Type 0} (f : Token → Option V) (k : V → Form Token W) (ts : List Token)
    → front f ts ≡ None → HasNone (then (told f) k) ts
none_here f k ts none = none_then_first (told f) k ts (λ rest. refl) (none_told f ts none)

-- Choices.

chosen_only : {V : Type 0} (test : List Token → Bool) (a b : Form Token V) (ts : List Token) (v : V)
    (rest : List Token) → IsFixed a → test ts ≡ true → Reads a ts v rest
    → (w : V) (after : List Token) → (choice test a b).reads ts w after → (v ≡ w) × (rest ≡ after)
chosen_only test a b ts v rest fixed e r w after (inl p) = r.only w after p.1 (fixed after)
chosen_only test a b ts v rest fixed e r w after (inr p) = absurd (cc (e, p.0))

other_only : {V : Type 0} (test : List Token → Bool) (a b : Form Token V) (ts : List Token) (v : V)
    (rest : List Token) → IsFixed b → test ts ≡ false → Reads b ts v rest
    → (w : V) (after : List Token) → (choice test a b).reads ts w after → (v ≡ w) × (rest ≡ after)
other_only test a b ts v rest fixed e r w after (inl p) = absurd (cc (e, p.0))
other_only test a b ts v rest fixed e r w after (inr p) = r.only w after p.1 (fixed after)

pub reads_chosen : {V : Type 0} (test : List Token → Bool) (a b : Form Token V) (ts : List Token)
    (v : V) (rest : List Token) → IsFixed a → test ts ≡ true → Reads a ts v rest
    → Reads (choice test a b) ts v rest
reads_chosen test a b ts v rest fixed e r = record {
  read = inl (e, r.read);
  only = λ w after p ends. chosen_only test a b ts v rest fixed e r w after p;
}

pub reads_other : {V : Type 0} (test : List Token → Bool) (a b : Form Token V) (ts : List Token)
    (v : V) (rest : List Token) → IsFixed b → test ts ≡ false → Reads b ts v rest
    → Reads (choice test a b) ts v rest
reads_other test a b ts v rest fixed e r = record {
  read = inr (e, r.read);
  only = λ w after p ends. other_only test a b ts v rest fixed e r w after p;
}

pub none_chosen : {V : Type 0} (test : List Token → Bool) (a b : Form Token V) (ts : List Token)
    → IsFixed a → test ts ≡ true → HasNone a ts → HasNone (choice test a b) ts
none_chosen test a b ts fixed e none v after (inl p) ends = none v after p.1 (fixed after)
none_chosen test a b ts fixed e none v after (inr p) ends = cc (e, p.0)

pub none_other : {V : Type 0} (test : List Token → Bool) (a b : Form Token V) (ts : List Token)
    → IsFixed b → test ts ≡ false → HasNone b ts → HasNone (choice test a b) ts
none_other test a b ts fixed e none v after (inl p) ends = cc (e, p.0)
none_other test a b ts fixed e none v after (inr p) ends = none v after p.1 (fixed after)

pub none_of_nothing : {V : Type 0} (ts : List Token) → HasNone (nothing {V = V}) ts
none_of_nothing ts v after p ends = p

-- a front that stands for something, or doesn't
pub present : {V : Type 0} (f : Token → Option V) (ts : List Token) (p : V × List Token)
    → front f ts ≡ Some p → begins f ts ≡ true
present f ts p e = ap is_some e

pub absent : {V : Type 0} (f : Token → Option V) (ts : List Token) → front f ts ≡ None
    → begins f ts ≡ false
absent f ts e = ap is_some e
