-- What forms keep: where tokens are short and few, S holds of what is read, and so are those that
-- are left.
use Rattle.std.proofs.Common.{◌⊎◌, inl, inr, ◌≡◌, ◌+◌, ◌≤◌, ◌<◌, Bool, true, false, List, []}
use Rattle.std.proofs.Common.{◌∷◌, ◌++◌, length, Option, Some, None, IfSome, sym, ap, subst, arith}
use Rattle.std.proofs.Common.{refl}
use Rattle.std.specs.List.{AllByRecursion}
use Rattle.theory.specs.Form.{Form, made, ◌<+>◌, row, chain, pair, ending, ItemsRead, steps}
use Rattle.theory.specs.Form.{alone, snoc}
use Rattle.bql_lexer.specs.Kind.{same_kind}
use Rattle.bql_lexer.specs.declared.kind.Kind.{Kind}
use Rattle.bql_lexer.specs.declared.kind.Kind.TheVariants as kind
use Rattle.bql_lexer.specs.declared.token.Token.{Token}
use Rattle.bql_grammar.specs.Front.{front, before, begins, of_kind}
use Rattle.bql_grammar.specs.Expression.{told, token, then, choice, nothing, behind_comma, list_of}
use Rattle.bql_grammar.proofs.FormFacts.{same_pair}
use Rattle.bql_parser.proofs.SmallTokens.{IsShortToken, AreSmallTokens, behind_one, kind_by}

pub record Keeps {V : Type 0} (S : V → Type 0) (form : Form Token V) : Type 0 where
  pub keeps : (ts : List Token) (v : V) (rest : List Token) → AreSmallTokens ts
      → form.reads ts v rest → S v × AreSmallTokens rest

-- what always holds
abbrev pub Any : {V : Type 0} → V → Type 0
Any v = Unit {0}

pub some_any : {V : Type 0} (o : Option V) → IfSome o Any
some_any (Some v) = tt
some_any None = tt

-- ---- one token

told_by : {V : Type 0} (S : V → Type 0) (o : Option V) (ts : List Token) (v : V)
    (rest : List Token) → IfSome o S → before ts o ≡ Some (v, rest) → S v × (ts ≡ rest)
told_by S None ts v rest h e = absurd cc
told_by S (Some w) ts v rest h e =
    let is = same_pair (Some (w, ts)) w v ts rest refl e in (subst S is.0 h, is.1)

told_read : {V : Type 0} (S : V → Type 0) (f : Token → Option V)
    → ((t : Token) → IsShortToken t → IfSome (f t) S) → (ts : List Token) (v : V)
    (rest : List Token) → AreSmallTokens ts → front f ts ≡ Some (v, rest)
    → S v × AreSmallTokens rest
told_read S f h [] v rest all e = absurd cc
told_read S f h (t ∷ ts) v rest all e =
    let is = told_by S (f t) ts v rest (h t all.short.0) e in
    (is.0, subst AreSmallTokens is.1 (behind_one t ts all))

pub keeps_told : {V : Type 0} {S : V → Type 0} (f : Token → Option V)
    → ((t : Token) → IsShortToken t → IfSome (f t) S) → Keeps S (told f)
keeps_told {S = S} f h = record { keeps = told_read S f h }

pub keeps_any : {V : Type 0} (f : Token → Option V) → Keeps Any (told f)
keeps_any f = keeps_told f (λ t short. some_any (f t))

pub keeps_token : (k : Kind) → Keeps IsShortToken (token k)
keeps_token k = keeps_told (of_kind k) (λ t short. kind_by (same_kind t.kind k) t short)

-- ---- forms of forms

pub keeps_made : {V : Type 0} {S : V → Type 0} (v : V) → S v → Keeps S (made v)
keeps_made {S = S} v h = record {
  keeps = λ ts w rest all at. (subst S (sym at.0) h, subst AreSmallTokens at.1 all);
}

pub keeps_nothing : {V : Type 0} {S : V → Type 0} → Keeps S (nothing {V = V})
keeps_nothing = record { keeps = λ ts v rest all p. absurd p }

pub keeps_then : {V W : Type 0} {T : V → Type 0} {S : W → Type 0} (a : Form Token V)
    (k : V → Form Token W) → Keeps T a → ((v : V) → T v → Keeps S (k v)) → Keeps S (then a k)
keeps_then a k h g = record {
  keeps = λ ts w rest all p.
      let m = h.keeps ts p.0 p.1 all p.2 in (g p.0 m.0).keeps p.1 w rest m.1 p.3;
}

choice_read : {V : Type 0} {S : V → Type 0} (test : List Token → Bool) (a b : Form Token V)
    → Keeps S a → Keeps S b → (ts : List Token) (v : V) (rest : List Token) → AreSmallTokens ts
    → ((test ts ≡ true) × a.reads ts v rest) ⊎ ((test ts ≡ false) × b.reads ts v rest)
    → S v × AreSmallTokens rest
choice_read test a b h k ts v rest all (inl p) = h.keeps ts v rest all p.1
choice_read test a b h k ts v rest all (inr p) = k.keeps ts v rest all p.1

pub keeps_choice : {V : Type 0} {S : V → Type 0} (test : List Token → Bool) (a b : Form Token V)
    → Keeps S a → Keeps S b → Keeps S (choice test a b)
keeps_choice test a b h k = record { keeps = choice_read test a b h k }

pub keeps_ending : {V : Type 0} {S : V → Type 0} (a : Form Token V) → Keeps S a
    → Keeps S (ending a)
keeps_ending a h = record { keeps = λ ts v rest all p. h.keeps ts v rest all p.0 }

-- the second form's part stands first, since it says what is kept of it
pub keeps_applied : {V W : Type 0} {T : V → Type 0} {S : W → Type 0} (f : Form Token (V → W))
    (a : Form Token V) → Keeps T a → Keeps (λ g. (v : V) → T v → S (g v)) f → Keeps S (f <+> a)
keeps_applied {S = S} f a next first = record {
  keeps = λ ts w rest all p.
      let g = first.keeps ts p.0 p.2 all p.3 in
      let v = next.keeps p.2 p.1 rest g.1 p.4 in
      (subst S (sym p.5) (g.0 p.1 v.0), v.1);
}

items_read : {V S : Type 0} {U : V → Type 0} {T : S → Type 0} (b : Form Token V) (step : S → V → S)
    → Keeps U b → ((s : S) (v : V) → T s → U v → T (step s v)) → (ts : List Token) (vs : List V)
    (rest : List Token) (s : S) → AreSmallTokens ts → T s → ItemsRead b ts vs rest
    → T (steps step s vs) × AreSmallTokens rest
items_read b step h go ts [] rest s all held p = (held, subst AreSmallTokens p all)
items_read b step h go ts (v ∷ vs) rest s all held p =
    let k = h.keeps ts v p.0 all p.1 in
    items_read b step h go p.0 vs rest (step s v) k.1 (go s v held k.0) p.2

pub keeps_row : {W V S : Type 0} {R : W → Type 0} {U : V → Type 0} {T : S → Type 0}
    (starts : List Token → Bool) (a : Form Token W) (start : W → S) (b : Form Token V)
    (step : S → V → S) → Keeps R a → Keeps U b → ((w : W) → R w → T (start w))
    → ((s : S) (v : V) → T s → U v → T (step s v)) → Keeps T (row starts a start b step)
keeps_row {T = T} starts a start b step first next begun go = record {
  keeps = λ ts s rest all p.
      let k = first.keeps ts p.0 p.2 all p.3 in
      let m = items_read b step next go p.2 p.1 rest (start p.0) k.1 (begun p.0 k.0) p.4 in
      (subst T (sym p.5) m.0, m.1);
}

pub keeps_chain : {V O : Type 0} {S : V → Type 0} (starts : List Token → Bool)
    (operator : Form Token O) (a : Form Token V) (join : O → V → V → V) → Keeps Any operator
    → Keeps S a → ((o : O) (v w : V) → S v → S w → S (join o v w))
    → Keeps S (chain starts operator a join)
keeps_chain {V = V} {O = O} {S = S} starts operator a join h k go =
    let pairs : Keeps (λ (p : O × V). S p.1) (made pair <+> operator <+> a) =
    keeps_applied (made pair <+> operator) a k
    (keeps_applied (made pair) operator h (keeps_made pair (λ o any v held. held))) in
    keeps_row starts a (λ v. v) (made pair <+> operator <+> a) (λ v p. join p.0 v p.1) k pairs
    (λ w held. held) (λ v p held one. go p.0 v p.1 held one)

-- ---- lists

pub all_pushed : {X : Type 0} (P : X → Type 0) (xs : List X) (x : X) → AllByRecursion P xs → P x
    → AllByRecursion P (xs ++ x ∷ [])
all_pushed P [] x h k = (k, tt)
all_pushed P (y ∷ ys) x h k = (h.0, all_pushed P ys x h.1 k)

pub pushed_length : {X : Type 0} (xs : List X) (x : X) → length (xs ++ x ∷ []) ≡ length xs + 1
pushed_length [] x = refl
pushed_length (y ∷ ys) x = let l = pushed_length ys x in omega (arith, l)

-- one or more, and all of them are
abbrev pub AreSome : {V : Type 0} → (V → Type 0) → List V → Type 0
AreSome S vs = AllByRecursion S vs × (1 ≤ length vs)

one_pushed : {V : Type 0} (S : V → Type 0) (vs : List V) (v : V) → AreSome S vs → S v
    → AreSome S (vs ++ v ∷ [])
one_pushed S vs v h k =
    let l = pushed_length vs v in (all_pushed S vs v h.0 k, omega (arith, l))

pub keeps_behind : {V : Type 0} {S : V → Type 0} (a : Form Token V) → Keeps S a
    → Keeps S (behind_comma a)
keeps_behind a h = keeps_then (token kind.Comma) (λ comma. a) (keeps_token kind.Comma) (λ comma s. h)

pub keeps_list : {V : Type 0} {S : V → Type 0} (a : Form Token V) → Keeps S a
    → Keeps (AreSome S) (list_of a)
keeps_list {S = S} a h =
    keeps_ending (row (begins (of_kind kind.Comma)) a alone (behind_comma a) snoc)
    (keeps_row (begins (of_kind kind.Comma)) a alone (behind_comma a) snoc h (keeps_behind a h)
    (λ v held. ((held, tt), omega arith)) (λ vs v held one. one_pushed S vs v held one))

-- ---- how many

-- at least one token is read
abbrev pub Takes : {V : Type 0} → Form Token V → Type 0
Takes {V} a = (ts : List Token) (v : V) (rest : List Token) → a.reads ts v rest
    → length rest < length ts

told_taken : {V : Type 0} (o : Option V) (ts : List Token) (v : V) (rest : List Token)
    → before ts o ≡ Some (v, rest) → ts ≡ rest
told_taken o ts v rest e = (told_by Any o ts v rest (some_any o) e).1

pub takes_told : {V : Type 0} (f : Token → Option V) → Takes (told f)
takes_told f [] v rest e = absurd cc
takes_told f (t ∷ ts) v rest e =
    let l = ap length (told_taken (f t) ts v rest e) in omega (arith, l)

items_counted : {V : Type 0} (b : Form Token V) → Takes b → (ts : List Token) (vs : List V)
    (rest : List Token) → ItemsRead b ts vs rest → length vs + length rest ≤ length ts
items_counted b h ts [] rest p = let l = ap length p in omega (arith, l)
items_counted b h ts (v ∷ vs) rest p =
    let one = h ts v p.0 p.1 in
    let more = items_counted b h p.0 vs rest p.2 in
    omega (arith, one, more)

steps_length : {V : Type 0} (us vs : List V) → length (steps snoc us vs) ≡ length us + length vs
steps_length us [] = omega arith
steps_length us (v ∷ vs) =
    let l = steps_length (us ++ v ∷ []) vs in
    let p = pushed_length us v in
    omega (arith, l, p)

pub list_counted : {V : Type 0} (a : Form Token V) → Takes a → Takes (behind_comma a)
    → (ts : List Token) (vs : List V) (rest : List Token) → (list_of a).reads ts vs rest
    → length vs ≤ length ts
list_counted a first next ts vs rest p =
    let q = p.0 in
    let one = first ts q.0 q.2 q.3 in
    let more = items_counted (behind_comma a) next q.2 q.1 rest q.4 in
    let l = steps_length (q.0 ∷ []) q.1 in
    let e = ap length q.5 in
    omega (arith, one, more, l, e)
