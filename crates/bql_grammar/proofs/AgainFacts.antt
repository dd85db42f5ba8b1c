-- What is read of some tokens before a rest is read before another rest too, where nothing carries
-- it on there.
use Rattle.std.proofs.Common.{◌≡◌, Bool, true, false, List, [], ◌∷◌, ◌++◌, ◌⊎◌, inl, inr}
use Rattle.std.proofs.Common.{Option, Some, None, is_some, refl, sym, ap, ◌∙◌, subst}
use Rattle.std.proofs.lemmas.List.{append_assoc}
use Rattle.std.specs.Prelude.{◌||◌}
use Rattle.theory.specs.Form.{Form, made, row, ItemsRead, ◌<+>◌, pair, alone, snoc}
use Rattle.theory.proofs.FormFacts.{either_false}
use Rattle.bql_lexer.specs.Kind.{same_kind}
use Rattle.bql_lexer.specs.declared.kind.Kind.{Kind}
use Rattle.bql_lexer.specs.declared.kind.Kind.TheVariants as kind
use Rattle.bql_lexer.specs.declared.token.Token.{Token}
use Rattle.bql_grammar.specs.Expression.{told, then, choice, chained, behind_comma, list_of}
use Rattle.bql_grammar.specs.Front as fronts
use Rattle.bql_grammar.specs.Front.{before, begins, of_kind}
use Rattle.bql_tree.specs.Level as level_rules
use Rattle.bql_tree.specs.Part.{Part}
use Rattle.bql_tree.specs.declared.level.Level.{Level}
use Rattle.bql_tree.specs.declared.level.Level.TheVariants as level
use Rattle.bql_grammar.proofs.ExpressionFacts.{links, another, another_ends, rows}
use Rattle.bql_grammar.proofs.FormFacts.{IsFixed}
use Rattle.bql_grammar.proofs.StandingFacts.{fronts_of, not_kind}

-- Two rests.

abbrev StartsWith : Token → List Token → Type 0
StartsWith t [] = ⊥
StartsWith t (u ∷ us) = u ≡ t

-- the other begins with the same token, or where an expression ends
abbrev pub Alike : List Token → List Token → Type 0
Alike rest [] = Unit {0}
Alike rest (t ∷ us) = (t.kind ≡ kind.CloseParenthesis) ⊎ StartsWith t rest

pub alike_behind : (xs rest other : List Token) → Alike rest other → Alike (xs ++ rest) (xs ++ other)
alike_behind [] rest other a = a
alike_behind (x ∷ xs) rest other a = inr refl

-- a closing parenthesis doesn't stand for it
abbrev pub IsInner : {V : Type 0} → (Token → Option V) → Type 0
IsInner f = (t : Token) → t.kind ≡ kind.CloseParenthesis → f t ≡ None

is_some_before : {V : Type 0} (o : Option V) (ts us : List Token)
    → is_some (before ts o) ≡ is_some (before us o)
is_some_before (Some v) ts us = refl
is_some_before None ts us = refl

pub same_first : {V : Type 0} (f : Token → Option V) (t : Token) (ts us : List Token)
    → begins f (t ∷ ts) ≡ begins f (t ∷ us)
same_first f t ts us = is_some_before (f t) ts us

pub none_alike : {V : Type 0} (f : Token → Option V) → IsInner f → (rest other : List Token)
    → Alike rest other → begins f rest ≡ false → begins f other ≡ false
none_alike f inner rest [] a e = refl
none_alike f inner rest (t ∷ us) (inl c) e = ap (λ o. is_some (before us o)) (inner t c)
none_alike f inner [] (t ∷ us) (inr s) e = absurd s
none_alike f inner (u ∷ vs) (t ∷ us) (inr s) e =
    subst (λ x. begins f (x ∷ us) ≡ false) s (same_first f u us vs ∙ e)

pub inner_kind : (k : Kind) → same_kind kind.CloseParenthesis k ≡ false → IsInner (of_kind k)
inner_kind k e t c =
    not_kind k t (ap (λ j. same_kind j k) c ∙ e)

pub inner_operator : (l : Level) → IsInner (fronts.operator l)
inner_operator level.Or t c = ap (level_rules.operator_of level.Or) c
inner_operator level.And t c = ap (level_rules.operator_of level.And) c
inner_operator level.Sum t c = ap (level_rules.operator_of level.Sum) c
inner_operator level.Product t c = ap (level_rules.operator_of level.Product) c

pub inner_comparison : IsInner fronts.comparison
inner_comparison t c = ap level_rules.comparison_of c

-- Readings.

-- there are some, where some are wanted
abbrev pub IsFilled : Bool → List Token → Type 0
IsFilled true [] = ⊥
IsFilled wanted ts = Unit {0}

pub filled_on : (wanted : Bool) (xs ys : List Token) → IsFilled wanted xs → IsFilled wanted (xs ++ ys)
filled_on true [] ys h = absurd h
filled_on false [] [] h = tt
filled_on false [] (y ∷ ys) h = tt
filled_on true (x ∷ xs) ys h = tt
filled_on false (x ∷ xs) ys h = tt

-- some tokens are read so before the rest, and before each that is like it
pub record Again {V : Type 0} (wanted : Bool) (a : Form Token V) (ts : List Token) (v : V)
    (rest : List Token) : Type 0 where
  pub passed : List Token
  pub cut : ts ≡ passed ++ rest
  pub filled : IsFilled wanted passed
  pub again : (other : List Token) → Alike rest other → a.reads (passed ++ other) v other

abbrev pub Agains : {V : Type 0} → Bool → Form Token V → Type 0
Agains {V} wanted a = (ts : List Token) (v : V) (rest : List Token) → a.reads ts v rest
    → Again wanted a ts v rest

pub any : (xs : List Token) → IsFilled false xs
any [] = tt
any (x ∷ xs) = tt

pub loosely : {V : Type 0} (a : Form Token V) → Agains true a → Agains false a
loosely a f ts v rest r =
    let x = f ts v rest r in
    record {
      passed = x.passed;
      cut = x.cut;
      filled = any x.passed;
      again = x.again;
    }

-- one behind the other
pub record Both {V W : Type 0} (wanted : Bool) (a : Form Token V) (b : Form Token W)
    (ts : List Token) (v : V) (w : W) (rest : List Token) : Type 0 where
  pub passed : List Token
  pub cut : ts ≡ passed ++ rest
  pub filled : IsFilled wanted passed
  pub again : (other : List Token) → Alike rest other
      → (mid : List Token) × a.reads (passed ++ other) v mid × b.reads mid w other

pub both : {V W : Type 0} (wanted : Bool) (a : Form Token V) (b : Form Token W) (ts : List Token)
    (v : V) (mid : List Token) (w : W) (rest : List Token) → Again wanted a ts v mid
    → Again false b mid w rest → Both wanted a b ts v w rest
both wanted a b ts v mid w rest x y = record {
  passed = x.passed ++ y.passed;
  cut = x.cut ∙ ap (λ m. x.passed ++ m) y.cut ∙ sym (append_assoc x.passed y.passed rest);
  filled = filled_on wanted x.passed y.passed x.filled;
  again = λ other alike. (
    y.passed ++ other,
    subst (λ m. a.reads m v (y.passed ++ other)) (sym (append_assoc x.passed y.passed other))
        (x.again (y.passed ++ other) (subst (λ m. Alike m (y.passed ++ other)) (sym y.cut)
        (alike_behind y.passed rest other alike))),
    y.again other alike,
  );
}

pub told_again : {V : Type 0} (f : Token → Option V) → Agains true (told f)
told_again f ts v rest r =
    let o = fronts_of f ts v rest r in
    record {
      passed = o.token ∷ [];
      cut = o.at;
      filled = tt;
      again = λ other alike. ap (before other) o.is;
    }

pub made_again : {V : Type 0} (v : V) → Agains false (made v)
made_again v ts w rest r = record {
  passed = [];
  cut = r.1;
  filled = tt;
  again = λ other alike. (r.0, refl);
}

pub then_again : {V W : Type 0} (wanted : Bool) (a : Form Token V) (k : V → Form Token W)
    → Agains wanted a → ((v : V) → Agains false (k v)) → Agains wanted (then a k)
then_again wanted a k f g ts w rest r =
    let b = both wanted a (k r.0) ts r.0 r.1 w rest (f ts r.0 r.1 r.2) (g r.0 r.1 w rest r.3) in
    record {
      passed = b.passed;
      cut = b.cut;
      filled = b.filled;
      again = λ other alike. let m = b.again other alike in (r.0, m.0, m.1, m.2);
    }

applied_again : {V W : Type 0} (f : Form Token (V → W)) (a : Form Token V)
    → Agains false f → Agains false a → Agains false (f <+> a)
applied_again f a x y ts w rest r =
    let b = both false f a ts r.0 r.2 r.1 rest (x ts r.0 r.2 r.3) (y r.2 r.1 rest r.4) in
    record {
      passed = b.passed;
      cut = b.cut;
      filled = b.filled;
      again = λ other alike. let m = b.again other alike in (r.0, r.1, m.0, m.1, m.2, r.5);
    }

-- Choices.

-- what is passed tells the test
pub test_again : {V : Type 0} (f : Token → Option V) (xs rest other : List Token)
    → IsFilled true xs → begins f (xs ++ rest) ≡ begins f (xs ++ other)
test_again f [] rest other h = absurd h
test_again f (x ∷ xs) rest other h = same_first f x (xs ++ rest) (xs ++ other)

abbrev pub chosen_again : {V : Type 0} (test : List Token → Bool) (a b : Form Token V) (wanted : Bool)
    (ts : List Token) (v : V) (rest : List Token) (x : Again wanted a ts v rest)
    → ((other : List Token) → Alike rest other → test (x.passed ++ other) ≡ true)
    → Again wanted (choice test a b) ts v rest
chosen_again test a b wanted ts v rest x is = record {
  passed = x.passed;
  cut = x.cut;
  filled = x.filled;
  again = λ other alike. inl (is other alike, x.again other alike);
}

abbrev pub other_again : {V : Type 0} (test : List Token → Bool) (a b : Form Token V) (wanted : Bool)
    (ts : List Token) (v : V) (rest : List Token) (x : Again wanted b ts v rest)
    → ((other : List Token) → Alike rest other → test (x.passed ++ other) ≡ false)
    → Again wanted (choice test a b) ts v rest
other_again test a b wanted ts v rest x is = record {
  passed = x.passed;
  cut = x.cut;
  filled = x.filled;
  again = λ other alike. inr (is other alike, x.again other alike);
}

pub weaken_again : {V : Type 0} (wanted : Bool) (a : Form Token V) (ts : List Token) (v : V)
    (rest : List Token) → Again true a ts v rest → Again wanted a ts v rest
weaken_again true a ts v rest x = x
weaken_again false a ts v rest x = record {
  passed = x.passed;
  cut = x.cut;
  filled = filled_on false [] x.passed tt;
  again = x.again;
}

-- by the first token
pub choice_again : {V W : Type 0} (wanted : Bool) (f : Token → Option W) (a b : Form Token V)
    → IsInner f → Agains true a → Agains wanted b → Agains wanted (choice (begins f) a b)
choice_again wanted f a b inner g h ts v rest (inl r) =
    let x = g ts v rest r.1 in
    weaken_again wanted (choice (begins f) a b) ts v rest
    (chosen_again (begins f) a b true ts v rest x
    (λ other alike. test_again f x.passed other rest x.filled
    ∙ ap (begins f) (sym x.cut) ∙ r.0))
choice_again wanted f a b inner g h ts v rest (inr r) =
    let x = h ts v rest r.1 in
    other_again (begins f) a b wanted ts v rest x
    (λ other alike. none_alike f inner (x.passed ++ rest) (x.passed ++ other)
    (alike_behind x.passed rest other alike) (ap (begins f) (sym x.cut) ∙ r.0))

-- Rows.

abbrev items : {V : Type 0} → Form Token V → Form Token (List V)
items b = record { reads = ItemsRead b; goes_on = λ rest. false }

items_again : {V : Type 0} (b : Form Token V) → Agains false b → Agains false (items b)
items_again b f ts [] rest r = record {
  passed = [];
  cut = r;
  filled = tt;
  again = λ other alike. refl;
}
items_again b f ts (v ∷ vs) rest r =
    let x = both false b (items b) ts v r.0 vs rest (f ts v r.0 r.1)
    (items_again b f r.0 vs rest r.2) in
    record { passed = x.passed; cut = x.cut; filled = x.filled; again = x.again }

pub row_again : {U V S : Type 0} (begins : List Token → Bool) (a : Form Token U) (start : U → S)
    (b : Form Token V) (step : S → V → S) → Agains true a → Agains false b
    → Agains true (row begins a start b step)
row_again begins a start b step f g ts s rest r =
    let x = both true a (items b) ts r.0 r.2 r.1 rest (f ts r.0 r.2 r.3)
    (items_again b g r.2 r.1 rest r.4) in
    record {
      passed = x.passed;
      cut = x.cut;
      filled = x.filled;
      again = λ other alike. let m = x.again other alike in (r.0, r.1, m.0, m.1, m.2, r.5);
    }

pub links_again : (l : Level) (a : Form Token Part) → Agains true a → Agains true (links l a)
links_again l a f =
    row_again (begins (fronts.operator l)) a (λ v. v) (another l a) _ f
    (applied_again (made pair <+> told (fronts.operator l)) a
    (applied_again (made pair) (told (fronts.operator l)) (made_again pair)
    (loosely (told (fronts.operator l)) (told_again (fronts.operator l)))) (loosely a f))

-- what doesn't begin with an operator doesn't carry a chain on
pub chain_ended : (l : Level) (a : Form Token Part) → IsFixed a → (rest : List Token)
    → begins (fronts.operator l) rest ≡ false → (links l a).goes_on rest ≡ false
chain_ended l a fixed rest e =
    ap (λ b. b || ((another l a).goes_on rest || a.goes_on rest)) e
    ∙ ap (λ b. b || a.goes_on rest) (another_ends l a fixed rest) ∙ fixed rest

pub chain_again : (l : Level) (a : Form Token Part) → IsFixed a → Agains true a
    → Agains true (chained l a)
chain_again l a fixed f ts v rest r =
    let x = links_again l a f ts v rest r.0 in
    let here = either_false (begins (fronts.operator l) rest)
    ((another l a).goes_on rest || a.goes_on rest) r.1 in
    record {
      passed = x.passed;
      cut = x.cut;
      filled = x.filled;
      again = λ other alike. (
        x.again other alike,
        chain_ended l a fixed other
            (none_alike (fronts.operator l) (inner_operator l) rest other alike here.0),
      );
    }

pub rows_again : {V : Type 0} (a : Form Token V) → Agains true a → Agains true (rows a)
rows_again a f =
    row_again (begins (of_kind kind.Comma)) a alone (behind_comma a) snoc f
    (loosely (behind_comma a) (then_again true (told (of_kind kind.Comma)) (λ comma. a)
    (told_again (of_kind kind.Comma)) (λ comma. loosely a f)))

pub rows_ended : {V : Type 0} (a : Form Token V) → IsFixed a → (rest : List Token)
    → begins (of_kind kind.Comma) rest ≡ false → (rows a).goes_on rest ≡ false
rows_ended a fixed rest e = ap (λ b. b || (false || a.goes_on rest)) e ∙ fixed rest

pub list_again : {V : Type 0} (a : Form Token V) → IsFixed a → Agains true a
    → Agains true (list_of a)
list_again a fixed f ts vs rest r =
    let x = rows_again a f ts vs rest r.0 in
    let here = either_false (begins (of_kind kind.Comma) rest) (false || a.goes_on rest) r.1 in
    record {
      passed = x.passed;
      cut = x.cut;
      filled = x.filled;
      again = λ other alike. (
        x.again other alike,
        rows_ended a fixed other
            (none_alike (of_kind kind.Comma) (inner_kind kind.Comma refl) rest other alike here.0),
      );
    }
