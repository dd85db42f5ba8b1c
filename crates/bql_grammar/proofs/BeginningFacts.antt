-- What stands before the place where a reader stops begins something of its form.
use Rattle.std.proofs.Common.{◌≡◌, Bool, true, false, List, [], ◌∷◌, ◌++◌, inl, inr}
use Rattle.std.proofs.Common.{Option, Some, refl, sym, ap, ◌∙◌, subst, length}
use Rattle.std.proofs.lemmas.List.{append_assoc, append-nil}
use Rattle.theory.specs.Form.{Form, row, ItemsRead, steps, snoc, alone}
use Rattle.theory.proofs.RowFacts.{InRow}
use Rattle.bql_lexer.specs.declared.kind.Kind.{Kind}
use Rattle.bql_lexer.specs.declared.kind.Kind.TheVariants as kind
use Rattle.bql_lexer.specs.declared.token.Token.{Token}
use Rattle.bql_grammar.specs.Beginning.{IsEnd, BeginsOne, IsBegun}
use Rattle.bql_grammar.specs.Expression.{told, then, choice, chained, behind_comma, list_of}
use Rattle.bql_grammar.specs.Front as fronts
use Rattle.bql_grammar.specs.Front.{front, before, begins, of_kind}
use Rattle.bql_grammar.specs.declared.stuck.Stuck.{Stuck}
use Rattle.bql_grammar.specs.declared.stuck.Stuck.TheVariants.{OutOfMemory, At}
use Rattle.bql_tree.specs.Part.{Part}
use Rattle.bql_tree.specs.declared.level.Level.{Level}
use Rattle.bql_tree.specs.declared.tree.BinaryOperator.{BinaryOperator}
use Rattle.bql_grammar.proofs.AgainFacts.{Alike, IsInner, same_first, none_alike}
use Rattle.bql_grammar.proofs.AgainFacts.{inner_kind, inner_operator, Again, links_again}
use Rattle.bql_grammar.proofs.AgainFacts.{Agains, rows_again, rows_ended, chain_ended}
use Rattle.bql_grammar.proofs.ExpressionFacts.{links, another, joined, rows}
use Rattle.bql_grammar.proofs.FormFacts.{IsFixed}
use Rattle.bql_grammar.proofs.StandingFacts.{fronts_of}

-- Where an expression ends.

pub alike_end : (before rest : List Token) → IsEnd rest → Alike before rest
alike_end before [] e = tt
alike_end before (t ∷ ts) e = inl e

-- nothing of an expression begins there
pub none_at_end : {V : Type 0} (f : Token → Option V) → IsInner f → (rest : List Token)
    → IsEnd rest → begins f rest ≡ false
none_at_end f inner rest e = none_alike f inner [] rest (alike_end [] rest e) refl

-- a token of a kind
abbrev pub sample : Kind → Token
sample k = record { text = []; start = 0; end = 0; kind = k }

abbrev pub close : Token
close = sample kind.CloseParenthesis

-- Beginnings of one form are beginnings of another.

pub begun_here : {V : Type 0} (a : Form Token V) (ts : List Token) (deep : Bool) (e : Stuck)
    → e ≡ At (length ts) deep → BeginsOne a [] → IsBegun a ts e
begun_here a ts deep e is h =
    subst (IsBegun a ts) (sym is)
    record { passed = []; rest = ts; cut = refl; are_left = refl; so = h }

pub begun_before : {V : Type 0} (a : Form Token V) (ts xs us : List Token) (deep : Bool)
    (e : Stuck) → e ≡ At (length us) deep → ts ≡ xs ++ us → BeginsOne a xs → IsBegun a ts e
begun_before a ts xs us deep e is cut h =
    subst (IsBegun a ts) (sym is)
    record { passed = xs; rest = us; cut = cut; are_left = refl; so = h }

pub begun_by : {V W : Type 0} (a : Form Token V) (b : Form Token W) (xs ts us : List Token)
    (e : Stuck) → us ≡ xs ++ ts
    → ((ys rest : List Token) → ts ≡ ys ++ rest → BeginsOne a ys → BeginsOne b (xs ++ ys))
    → IsBegun a ts e → IsBegun b us e
begun_by a b xs ts us OutOfMemory cut f h = tt
begun_by a b xs ts us (At left deep) cut f h = record {
  passed = xs ++ h.passed;
  rest = h.rest;
  cut = cut ∙ ap (λ m. xs ++ m) h.cut ∙ sym (append_assoc xs h.passed h.rest);
  are_left = h.are_left;
  so = f h.passed h.rest h.cut h.so;
}

-- the same where both begin at once
pub begun_as : {V W : Type 0} (a : Form Token V) (b : Form Token W) (ts : List Token) (e : Stuck)
    → ((ys rest : List Token) → ts ≡ ys ++ rest → BeginsOne a ys → BeginsOne b ys)
    → IsBegun a ts e → IsBegun b ts e
begun_as a b ts e f h = begun_by a b [] ts ts e refl f h

-- what is read of all the tokens, wherever they end, they begin
pub begins_whole : {V : Type 0} (a : Form Token V) (xs : List Token)
    → ((rest : List Token) → IsEnd rest → (v : V) × a.reads (xs ++ rest) v rest) → BeginsOne a xs
begins_whole a xs f rest e = let r = f rest e in ([], r.0, r.1)

-- and so do those before the last of them
pub begins_with : {V : Type 0} (a : Form Token V) (xs tail : List Token)
    → ((rest : List Token) → IsEnd rest → (v : V) × a.reads (xs ++ (tail ++ rest)) v rest)
    → BeginsOne a xs
begins_with a xs tail f rest e = let r = f rest e in (tail, r.0, r.1)

-- where the first is read as one form, it is read as the other
pub begins_as : {V W : Type 0} (a : Form Token V) (b : Form Token W) (xs : List Token)
    → ((ts : List Token) (v : V) (rest : List Token) → IsEnd rest → a.reads ts v rest
    → (w : W) × b.reads ts w rest)
    → BeginsOne a xs → BeginsOne b xs
begins_as a b xs f h rest e =
    let r = h rest e in
    let s = f (xs ++ (r.0 ++ rest)) r.1 rest e r.2 in
    (r.0, s.0, s.1)

-- behind a token
pub begins_behind : {V W : Type 0} (f : Token → Option V) (k : V → Form Token W) (t : Token)
    (v : V) (ys : List Token) → f t ≡ Some v → BeginsOne (k v) ys
    → BeginsOne (then (told f) k) (t ∷ ys)
begins_behind f k t v ys is h rest e =
    let r = h rest e in
    (r.0, r.1, (v, ys ++ (r.0 ++ rest), ap (before (ys ++ (r.0 ++ rest))) is, r.2))

-- the first part, where the second may be nothing
pub begins_first : {V W : Type 0} (a : Form Token V) (k : V → Form Token W) (ys : List Token)
    → ((v : V) (rest : List Token) → IsEnd rest → (w : W) × (k v).reads rest w rest)
    → BeginsOne a ys → BeginsOne (then a k) ys
begins_first a k ys ends h rest e =
    let r = h rest e in
    let s = ends r.1 rest e in
    (r.0, s.0, (r.1, rest, r.2, s.1))

-- behind what was read before
pub begins_then : {V W : Type 0} (wanted : Bool) (a : Form Token V) (k : V → Form Token W)
    (ts : List Token) (v : V) (mid : List Token) (x : Again wanted a ts v mid)
    (ys rest : List Token) → mid ≡ ys ++ rest → BeginsOne (then a k) x.passed → BeginsOne (k v) ys
    → BeginsOne (then a k) (x.passed ++ ys)
begins_then wanted a k ts v mid x [] more cut first h rest e =
    (subst (BeginsOne (then a k)) (sym (append-nil x.passed)) first) rest e
begins_then wanted a k ts v mid x (y ∷ ys) more cut first h rest e =
    let r = h rest e in
    let us = ys ++ (r.0 ++ rest) in (
      r.0,
      r.1,
      (
        v,
        y ∷ us,
        subst (λ m. a.reads m v (y ∷ us)) (sym (append_assoc x.passed (y ∷ ys) (r.0 ++ rest)))
            (x.again (y ∷ us) (subst (λ m. Alike m (y ∷ us)) (sym cut) (inr refl))),
        r.2,
      ),
    )

-- what was read, where the second part may be nothing
pub begins_read : {V W : Type 0} (wanted : Bool) (a : Form Token V) (k : V → Form Token W)
    (ts : List Token) (v : V) (mid : List Token) (x : Again wanted a ts v mid)
    → ((rest : List Token) → IsEnd rest → (w : W) × (k v).reads rest w rest)
    → BeginsOne (then a k) x.passed
begins_read wanted a k ts v mid x ends =
    begins_whole (then a k) x.passed
    (λ rest e. let s = ends rest e in
    (s.0, (v, rest, x.again rest (alike_end mid rest e), s.1)))

-- Before a parenthesis that closes.

pub begins_shut : {V W : Type 0} (a : Form Token V) (k : V → Form Token W) (ys : List Token)
    → ((v : V) (rest : List Token) → (w : W) × (k v).reads (close ∷ rest) w rest)
    → BeginsOne a ys → BeginsOne (then a k) ys
begins_shut a k ys shuts h rest e =
    let r = h (close ∷ rest) refl in
    let s = shuts r.1 rest in (
      r.0 ++ close ∷ [],
      s.0,
      (
        r.1,
        close ∷ rest,
        subst (λ m. a.reads (ys ++ m) r.1 (close ∷ rest))
            (sym (append_assoc r.0 (close ∷ []) rest)) r.2,
        s.1,
      ),
    )

pub begins_unshut : {V W : Type 0} (wanted : Bool) (a : Form Token V) (k : V → Form Token W)
    (ts : List Token) (v : V) (mid : List Token) (x : Again wanted a ts v mid)
    → ((rest : List Token) → (w : W) × (k v).reads (close ∷ rest) w rest)
    → BeginsOne (then a k) x.passed
begins_unshut wanted a k ts v mid x shuts rest e =
    let s = shuts rest in
    (close ∷ [], s.0, (v, close ∷ rest, x.again (close ∷ rest) (inl refl), s.1))

-- Choices.

pub begins_chosen : {V W : Type 0} (f : Token → Option W) (a b : Form Token V)
    (ys rest : List Token) → begins f (ys ++ rest) ≡ true → BeginsOne (choice (begins f) a b) []
    → BeginsOne a ys → BeginsOne (choice (begins f) a b) ys
begins_chosen f a b [] more is none h rest e = none rest e
begins_chosen f a b (y ∷ ys) more is none h rest e =
    let r = h rest e in
    (r.0, r.1, inl (same_first f y (ys ++ (r.0 ++ rest)) (ys ++ more) ∙ is, r.2))

pub begins_other : {V W : Type 0} (f : Token → Option W) (a b : Form Token V)
    (ys rest : List Token) → begins f (ys ++ rest) ≡ false → BeginsOne (choice (begins f) a b) []
    → BeginsOne b ys → BeginsOne (choice (begins f) a b) ys
begins_other f a b [] more is none h rest e = none rest e
begins_other f a b (y ∷ ys) more is none h rest e =
    let r = h rest e in
    (r.0, r.1, inr (same_first f y (ys ++ (r.0 ++ rest)) (ys ++ more) ∙ is, r.2))

-- Rows.

items_and : {V : Type 0} (b : Form Token V) (vs : List V) (ts mid : List Token) (v : V)
    (rest : List Token) → ItemsRead b ts vs mid → b.reads mid v rest
    → ItemsRead b ts (vs ++ v ∷ []) rest
items_and b [] ts mid v rest e r = (rest, subst (λ m. b.reads m v rest) (sym e) r, refl)
items_and b (w ∷ vs) ts mid v rest q r = (q.0, q.1, items_and b vs q.0 mid v rest q.2 r)

steps_and : {S V : Type 0} (step : S → V → S) (s : S) (vs : List V) (v : V)
    → steps step s (vs ++ v ∷ []) ≡ step (steps step s vs) v
steps_and step s [] v = refl
steps_and step s (w ∷ vs) v = steps_and step (step s w) vs v

row_and : {U V S : Type 0} (begins : List Token → Bool) (a : Form Token U) (start : U → S)
    (b : Form Token V) (step : S → V → S) (ts : List Token) (s : S) (mid : List Token) (v : V)
    (rest : List Token) → (row begins a start b step).reads ts s mid → b.reads mid v rest
    → (row begins a start b step).reads ts (step s v) rest
row_and begins a start b step ts s mid v rest q r = (
  q.0,
  q.1 ++ v ∷ [],
  q.2,
  q.3,
  items_and b q.1 q.2 mid v rest q.4 r,
  ap (λ s. step s v) q.5 ∙ sym (steps_and step (start q.0) q.1 v),
)

-- Chains.

module _ (l : Level) (a : Form Token Part) (fixed : IsFixed a) where
  pub chain_alone : (ts : List Token) (v : Part) (rest : List Token) → IsEnd rest
      → a.reads ts v rest → (w : Part) × (chained l a).reads ts w rest
  chain_alone ts v rest e r = (
    v,
    (
      (v, [], rest, r, refl, refl),
      chain_ended l a fixed rest (none_at_end (fronts.operator l) (inner_operator l) rest e),
    ),
  )

  pub begins_chain : (ys : List Token) → BeginsOne a ys → BeginsOne (chained l a) ys
  begins_chain ys h = begins_as a (chained l a) ys chain_alone h

  pub first_in_chain : (ts : List Token) (e : Stuck) → IsBegun a ts e
      → IsBegun (chained l a) ts e
  first_in_chain ts e h = begun_as a (chained l a) ts e (λ ys rest cut. begins_chain ys) h

  pub next_in_chain : Agains true a → (ts : List Token) (v : Part) (rest mid : List Token)
      (op : BinaryOperator) (e : Stuck) → InRow (links l a) (another l a) joined ts v rest
      → front (fronts.operator l) rest ≡ Some (op, mid) → IsBegun a mid e
      → IsBegun (chained l a) ts e
  next_in_chain f ts v rest mid op e row at h =
      let x = links_again l a f ts v rest (row.goes [] rest refl) in
      let o = fronts_of (fronts.operator l) rest op mid at in
      begun_by a (chained l a) (x.passed ++ o.token ∷ []) mid ts e
      (x.cut ∙ ap (λ m. x.passed ++ m) o.at ∙ sym (append_assoc x.passed (o.token ∷ []) mid))
      (λ ys more cut g end is_end.
      let r = g end is_end in
      let us = ys ++ (r.0 ++ end) in (
        r.0,
        joined v (op, r.1),
        (
          subst (λ m. (links l a).reads m (joined v (op, r.1)) end)
              (sym (append_assoc (x.passed ++ o.token ∷ []) ys (r.0 ++ end)
              ∙ append_assoc x.passed (o.token ∷ []) us))
              (row_and (begins (fronts.operator l)) a (λ v. v) (another l a) joined
              (x.passed ++ o.token ∷ us) v (o.token ∷ us) (op, r.1) end
              (x.again (o.token ∷ us) (subst (λ m. Alike m (o.token ∷ us)) (sym o.at) (inr refl))) (
                _,
                r.1,
                us,
                (_, op, o.token ∷ us, (refl, refl), ap (before us) o.is, refl),
                r.2,
                refl,
              )),
          chain_ended l a fixed end
              (none_at_end (fronts.operator l) (inner_operator l) end is_end),
        ),
      )) h

-- Lists.

module _ {V : Type 0} (a : Form Token V) (fixed : IsFixed a) where
  pub list_alone : (ts : List Token) (v : V) (rest : List Token) → IsEnd rest
      → a.reads ts v rest → (w : List V) × (list_of a).reads ts w rest
  list_alone ts v rest e r = (
    v ∷ [],
    (
      (v, [], rest, r, refl, refl),
      rows_ended a fixed rest
          (none_at_end (of_kind kind.Comma) (inner_kind kind.Comma refl) rest e),
    ),
  )

  pub begins_list : (ys : List Token) → BeginsOne a ys → BeginsOne (list_of a) ys
  begins_list ys h = begins_as a (list_of a) ys list_alone h

  pub first_in_list : (ts : List Token) (e : Stuck) → IsBegun a ts e → IsBegun (list_of a) ts e
  first_in_list ts e h = begun_as a (list_of a) ts e (λ ys rest cut. begins_list ys) h

  pub next_in_list : Agains true a → (ts : List Token) (vs : List V) (rest mid : List Token)
      (comma : Token) (e : Stuck) → InRow (rows a) (behind_comma a) snoc ts vs rest
      → front (of_kind kind.Comma) rest ≡ Some (comma, mid) → IsBegun a mid e
      → IsBegun (list_of a) ts e
  next_in_list f ts vs rest mid comma e row at h =
      let x = rows_again a f ts vs rest (row.goes [] rest refl) in
      let o = fronts_of (of_kind kind.Comma) rest comma mid at in
      begun_by a (list_of a) (x.passed ++ o.token ∷ []) mid ts e
      (x.cut ∙ ap (λ m. x.passed ++ m) o.at ∙ sym (append_assoc x.passed (o.token ∷ []) mid))
      (λ ys more cut g end is_end.
      let r = g end is_end in
      let us = ys ++ (r.0 ++ end) in (
        r.0,
        snoc vs r.1,
        (
          subst (λ m. (rows a).reads m (snoc vs r.1) end)
              (sym (append_assoc (x.passed ++ o.token ∷ []) ys (r.0 ++ end)
              ∙ append_assoc x.passed (o.token ∷ []) us))
              (row_and (begins (of_kind kind.Comma)) a alone (behind_comma a) snoc
              (x.passed ++ o.token ∷ us) vs (o.token ∷ us) r.1 end
              (x.again (o.token ∷ us) (subst (λ m. Alike m (o.token ∷ us)) (sym o.at) (inr refl)))
              (comma, us, ap (before us) o.is, r.2)),
          rows_ended a fixed end
              (none_at_end (of_kind kind.Comma) (inner_kind kind.Comma refl) end is_end),
        ),
      )) h
