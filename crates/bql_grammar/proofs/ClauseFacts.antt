-- What readers give of forms that are put together.
use Rattle.std.proofs.Common.{◌≡◌, Bool, true, false, List, [], Option, Some, None, Result, Ok, Err}
use Rattle.std.proofs.Common.{Bor, refl, sym, subst, ap, ◌∙◌, ◌∷◌, ◌++◌, ℕ, length, arith, is_some, inl}
use Rattle.std.specs.Prelude.{◌==◌, nat_le}
use Rattle.std.proofs.lemmas.List.{map-append}
use Rattle.std.proofs.lemmas.Bool.Decides.{nat_tests}
use Rattle.theory.specs.Form.{Form, Reads, HasNone, alone, snoc}
use Rattle.bql_lexer.specs.declared.kind.Kind.{Kind}
use Rattle.bql_lexer.specs.declared.token.Token.{Token}
use Rattle.bql_grammar.specs.Expression.{token, told, then}
use Rattle.bql_grammar.specs.Front.{front, begins, of_kind}
use Rattle.bql_grammar.specs.Beginning.{BeginsOne, Before, IsBegun}
use Rattle.bql_grammar.specs.Front as fronts
use Rattle.bql_grammar.specs.Gives.{Gives}
use Rattle.bql_grammar.specs.declared.stuck.Stuck.{Stuck}
use Rattle.bql_grammar.proofs.FormFacts.{IsFixed, reads_told, reads_then, none_then}
use Rattle.bql_grammar.proofs.FormFacts.{none_then_first, reads_behind, none_behind}
use Rattle.bql_grammar.proofs.FormFacts.{reads_chosen, reads_other, none_chosen, none_other}
use Rattle.bql_grammar.proofs.FormFacts.{present, absent, none_here}
use Rattle.bql_grammar.proofs.AgainFacts.{Again}
use Rattle.bql_grammar.proofs.BeginningFacts.{begun_by, begun_as, begins_then, begins_read}
use Rattle.bql_grammar.proofs.BeginningFacts.{begins_first, begins_behind, begins_other, alike_end}
use Rattle.bql_grammar.proofs.BeginningFacts.{begins_whole}
use Rattle.bql_grammar.proofs.StandingFacts.{leads_here, stops_on, fronts_of}
use Rattle.bql_grammar.specs.Expression.{expression, behind_comma}
use Rattle.bql_grammar.proofs.ExpressionFacts.{rows}
use Rattle.theory.proofs.RowFacts.{InRow}
use Rattle.bql_lexer.specs.declared.kind.Kind.TheVariants as kind
use Rattle.bql_grammar.specs.Nesting.{Standing, Stops, IsInside, enclosing, wanting, role, Parts}
use Rattle.bql_grammar.proofs.MovingFacts.{Where, Goes, Moves, goes_on, word_moves, rows_move}
use Rattle.bql_grammar.proofs.MovingFacts.{fresh_is_clear, query_again}
use Rattle.bql_grammar.proofs.LackingFacts.{MayLack}
use Rattle.bql_grammar.specs.Stopping.{GivesFrom, IsFresh, IsClear, IsClearFor}
use Rattle.bql_tree.specs.declared.function.Scope.{Scope}
use Rattle.bql_grammar.specs.declared.stuck.Stuck.TheVariants.{OutOfMemory, At}
use Rattle.bql_tree.specs.Part.{Part, part_of}
use Rattle.bql_grammar.specs.Grammar.{behind_word, ordered, query}
use Rattle.bql_grammar.specs.Read.{Read, read_of, target_of, targets_in}
use Rattle.bql_grammar.specs.Whole.{IsRead}
use Rattle.bql_grammar.specs.declared.clauses.TargetRead as clauses

-- What another reader gives, and where it stops, is the whole's.

abbrev Reaches : (from to : Where) → List Token → List Token → Type 0
Reaches from to ts mid = (p : Standing) → from p ts → Goes to p ts mid

stops_there : (from to : Where) (ts mid : List Token) (left : ℕ) (deep : Bool)
    → Reaches from to ts mid → ((q : Standing) → to q mid → Stops q mid left deep)
    → (p : Standing) → from p ts → Stops p ts left deep
stops_there from to ts mid left deep reaches h p at =
    let g = reaches p at in stops_on p ts g.there mid left deep g.leads (h g.there g.at)

pub given_as : {V X : Type 0} (from to : Where) (a b : Form Token V) (f : X → V)
    (ts us : List Token) (r : Result (X × Bor (List Token)) Stuck)
    → ((v : V) (rest : List Token) → Reads a ts v rest → Reads b us v rest)
    → (HasNone a ts → HasNone b us) → Reaches from to us ts
    → ((e : Stuck) → IsBegun a ts e → IsBegun b us e) → GivesFrom to a f ts r
    → GivesFrom from b f us r
given_as from to a b f ts us (Ok p) reads none reaches begun h = reads (f p.0) p.1.now h
given_as from to a b f ts us (Err OutOfMemory) reads none reaches begun h = tt
given_as from to a b f ts us (Err (At left deep)) reads none reaches begun h =
    (none h.0, stops_there from to us ts left deep reaches h.1, begun (At left deep) h.2)

pub stuck_from : {V W X Y : Type 0} (from to : Where) (a : Form Token V) (b : Form Token W)
    (f : X → V) (g : Y → W) (ts us : List Token) (e : Stuck)
    → (HasNone a ts → HasNone b us) → Reaches from to us ts
    → ((e : Stuck) → IsBegun a ts e → IsBegun b us e) → GivesFrom to a f ts (Err e)
    → GivesFrom from b g us (Err e)
stuck_from from to a b f g ts us OutOfMemory none reaches begun h = tt
stuck_from from to a b f g ts us (At left deep) none reaches begun h =
    (none h.0, stops_there from to us ts left deep reaches h.1, begun (At left deep) h.2)

pub same_place : (from : Where) (ts : List Token) → Reaches from from ts ts
same_place from ts p at = record { there = p; leads = leads_here p ts; at = at }

-- a word begins a clause
pub reaches_fresh : (k : Kind) (ts : List Token) (t : Token) (mid : List Token) → role k ≡ Parts
    → front (of_kind k) ts ≡ Some (t, mid) → Reaches IsClear IsFresh ts mid
reaches_fresh k ts t mid e at = (word_moves k e).goes ts t mid at

-- One behind the other: what the second gives the whole gives, and what the first lacks it lacks.

pub gives_then_by : {V W X : Type 0} (from to : Where) (a : Form Token V)
    (k : V → Form Token W) (f : X → W) (ts : List Token) (v : V) (mid : List Token)
    (r : Result (X × Bor (List Token)) Stuck)
    → IsFixed a → ((v : V) → IsFixed (k v)) → Moves from to a → Reads a ts v mid
    → ((e : Stuck) → IsBegun (k v) mid e → IsBegun (then a k) ts e)
    → GivesFrom to (k v) f mid r → GivesFrom from (then a k) f ts r
gives_then_by from to a k f ts v mid r fixed fixed_k moves read begun h =
    given_as from to (k v) (then a k) f mid ts r
    (λ w rest p. reads_then a k ts v mid w rest fixed fixed_k read p)
    (λ none. none_then a k ts v mid fixed fixed_k read none)
    (moves.goes ts v mid read.read) begun h

begun_then : {V W : Type 0} (a : Form Token V) (k : V → Form Token W) (ts : List Token) (v : V)
    (mid : List Token) → Again false a ts v mid → MayLack (k v) → (e : Stuck)
    → IsBegun (k v) mid e → IsBegun (then a k) ts e
begun_then a k ts v mid x lacks e h =
    begun_by (k v) (then a k) x.passed mid ts e x.cut
    (λ ys rest cut. begins_then false a k ts v mid x ys rest cut
    (begins_read false a k ts v mid x lacks)) h

-- the same where the second may lack
pub gives_then : {V W X : Type 0} (from to : Where) (a : Form Token V) (k : V → Form Token W)
    (f : X → W) (ts : List Token) (v : V) (mid : List Token)
    (r : Result (X × Bor (List Token)) Stuck)
    → IsFixed a → ((v : V) → IsFixed (k v)) → ((v : V) → MayLack (k v)) → Moves from to a
    → Reads a ts v mid → GivesFrom to (k v) f mid r → GivesFrom from (then a k) f ts r
gives_then from to a k f ts v mid r fixed fixed_k lacks moves read h =
    gives_then_by from to a k f ts v mid r fixed fixed_k moves read
    (begun_then a k ts v mid (moves.again ts v mid read.read) (lacks v)) h

pub stuck_first : {V W X Y : Type 0} (from : Where) (a : Form Token V) (k : V → Form Token W)
    (f : X → V) (g : Y → W) (ts : List Token) (e : Stuck) → IsFixed a → ((v : V) → MayLack (k v))
    → GivesFrom from a f ts (Err e) → GivesFrom from (then a k) g ts (Err e)
stuck_first from a k f g ts e fixed lacks h =
    stuck_from from from a (then a k) f g ts ts e (none_then_first a k ts fixed)
    (same_place from ts)
    (λ e. begun_as a (then a k) ts e (λ ys rest cut. begins_first a k ys lacks)) h

pub gives_behind : {V W X : Type 0} (from to : Where) (test : Token → Option V)
    (k : V → Form Token W) (f : X → W) (ts : List Token) (v : V) (mid : List Token)
    (r : Result (X × Bor (List Token)) Stuck) → ((v : V) → IsFixed (k v))
    → Moves from to (told test) → front test ts ≡ Some (v, mid) → GivesFrom to (k v) f mid r
    → GivesFrom from (then (told test) k) f ts r
gives_behind from to test k f ts v mid r fixed_k moves at h =
    let o = fronts_of test ts v mid at in
    gives_then_by from to (told test) k f ts v mid r (λ rest. refl) fixed_k moves
    (reads_told test ts v mid at)
    (λ e. begun_by (k v) (then (told test) k) (o.token ∷ []) mid ts e o.at
    (λ ys rest cut. begins_behind test k o.token v ys o.is)) h

-- Behind a word, or else.

begins_word : {V : Type 0} (k : Kind) (g : Token → Form Token V) (z : Form Token V) (t w : Token)
    (ys : List Token) → of_kind k t ≡ Some w → BeginsOne (g w) ys
    → BeginsOne (behind_word k g z) (t ∷ ys)
begins_word k g z t w ys is h rest e =
    let r = h rest e in
    let us = ys ++ (r.0 ++ rest) in (
      r.0,
      r.1,
      inl (ap (λ o. is_some (fronts.before us o)) is, (w, us, ap (fronts.before us) is, r.2)),
    )

pub word_stands : {V X : Type 0} (from : Where) (k : Kind) (g : Token → Form Token V)
    (z : Form Token V) (f : X → V) (ts : List Token) (t : Token) (mid : List Token)
    (r : Result (X × Bor (List Token)) Stuck) → ((t : Token) → IsFixed (g t))
    → Moves from IsFresh (token k) → front (of_kind k) ts ≡ Some (t, mid)
    → GivesFrom IsFresh (g t) f mid r → GivesFrom from (behind_word k g z) f ts r
word_stands from k g z f ts t mid r fixed moves at h =
    given_as from IsFresh (g t) (behind_word k g z) f mid ts r
    (λ w rest p. reads_chosen (begins (of_kind k)) (then (token k) g) z ts w rest (λ rest. refl)
    (present (of_kind k) ts (t, mid) at) (reads_behind (of_kind k) g ts t mid w rest fixed at p))
    (λ none. none_chosen (begins (of_kind k)) (then (token k) g) z ts (λ rest. refl)
    (present (of_kind k) ts (t, mid) at) (none_behind (of_kind k) g ts t mid fixed at none))
    (moves.goes ts t mid at)
    (λ e. begun_by (g t) (behind_word k g z) ((fronts_of (of_kind k) ts t mid at).token ∷ []) mid ts
    e (fronts_of (of_kind k) ts t mid at).at
    (λ ys rest cut. begins_word k g z (fronts_of (of_kind k) ts t mid at).token t ys
    (fronts_of (of_kind k) ts t mid at).is)) h

pub word_lacks : {V X : Type 0} (from : Where) (k : Kind) (g : Token → Form Token V)
    (z : Form Token V) (f : X → V) (ts : List Token) (r : Result (X × Bor (List Token)) Stuck)
    → IsFixed z → front (of_kind k) ts ≡ None → BeginsOne (behind_word k g z) []
    → GivesFrom from z f ts r → GivesFrom from (behind_word k g z) f ts r
word_lacks from k g z f ts r fixed at here h =
    given_as from from z (behind_word k g z) f ts ts r
    (λ w rest p. reads_other (begins (of_kind k)) (then (token k) g) z ts w rest fixed
    (absent (of_kind k) ts at) p)
    (λ none. none_other (begins (of_kind k)) (then (token k) g) z ts fixed
    (absent (of_kind k) ts at) none) (same_place from ts)
    (λ e. begun_as z (behind_word k g z) ts e
    (λ ys rest cut. begins_other (of_kind k) (then (token k) g) z ys rest
    (ap (begins (of_kind k)) (sym cut) ∙ absent (of_kind k) ts at) here)) h

-- Where a word begins them, and at the first of all.

pub clear_before : {V X : Type 0} (k : Kind) → role k ≡ Parts → (a : Form Token V) (f : X → V)
    (ts : List Token) (e : Stuck) → GivesFrom (IsClearFor k) a f ts (Err e)
    → GivesFrom IsClear a f ts (Err e)
clear_before k is a f ts OutOfMemory h = tt
clear_before k is a f ts (At left deep) h = (h.0, λ p at. h.1 p (is, at), h.2)

pub fresh_before : {V X : Type 0} (a : Form Token V) (f : X → V) (ts : List Token) (e : Stuck)
    → GivesFrom IsClear a f ts (Err e) → GivesFrom IsFresh a f ts (Err e)
fresh_before a f ts OutOfMemory h = tt
fresh_before a f ts (At left deep) h = (h.0, λ p at. h.1 p (fresh_is_clear p ts at), h.2)

-- behind the items that are read and a comma
pub reaches_another : {V : Type 0} (a : Form Token V) → Moves IsFresh IsClear a
    → (ts : List Token) (vs : List V) (rest mid : List Token) (comma : Token)
    → InRow (rows a) (behind_comma a) snoc ts vs rest
    → front (of_kind kind.Comma) rest ≡ Some (comma, mid) → Reaches IsFresh IsFresh ts mid
reaches_another a moves ts vs rest mid comma row at p here =
    let g = rows_move a moves ts vs rest (row.goes [] rest refl) p here in
    goes_on IsFresh p ts g.there rest mid g.leads
    ((word_moves kind.Comma refl).goes rest comma mid at g.there g.at)

-- Expressions, where they begin.
pub expression_stuck : (scope : Scope) (ts : List Token) (e : Stuck)
    → Gives (expression scope) part_of ts (Err e) → IsInside enclosing 200 ts e
    → IsBegun (expression scope) ts e → GivesFrom IsFresh (expression scope) part_of ts (Err e)
expression_stuck scope ts OutOfMemory h i b = tt
expression_stuck scope ts (At left deep) h i b =
    (h, λ p at. subst (λ q. Stops q ts left deep) (sym at) (i [] refl refl), b)

-- Nothing can be read before the first of some tokens, and nothing is open there.

pub stops_clear : (p : Standing) (ts : List Token) → IsClear p ts → Stops p ts (length ts) false
stops_clear p ts at = record {
  passed = [];
  rest = ts;
  cut = refl;
  are_left = refl;
  full = ap (nat_le 200) (sym at.alone);
}

pub none_before : {V X : Type 0} (from : Where) (a : Form Token V) (f : X → V) (ts us : List Token)
    (e : Stuck) → e ≡ At (length us) false → HasNone a ts → Reaches from IsClear ts us
    → Before (BeginsOne a) ts (length us) → GivesFrom from a f ts (Err e)
none_before from a f ts us e is none reaches begun =
    subst (λ s. GivesFrom from a f ts (Err s)) (sym is) (
      none,
      stops_there from IsClear ts us (length us) false reaches (λ q at. stops_clear q us at),
      begun,
    )

-- the same of the first token
pub none_at_first : {V X : Type 0} (a : Form Token V) (f : X → V) (ts : List Token) (e : Stuck)
    → e ≡ At (length ts) false → HasNone a ts → BeginsOne a [] → GivesFrom IsFresh a f ts (Err e)
none_at_first a f ts e is none here =
    none_before IsFresh a f ts ts e is none
    (λ p at. record { there = p; leads = leads_here p ts; at = fresh_is_clear p ts at })
    record { passed = []; rest = ts; cut = refl; are_left = refl; so = here }

-- what must stand behind a word lacks
pub nothing_behind : {V W X : Type 0} (k : Kind) → role k ≡ Parts → (test : Token → Option W)
    → (g : Token → W → Form Token V) → (z : Form Token V) → (f : X → V) → (ts : List Token)
    → (t : Token) → (mid : List Token) → (e : Stuck) → e ≡ At (length mid) false
    → front (of_kind k) ts ≡ Some (t, mid) → front test mid ≡ None
    → ((t : Token) → BeginsOne (then (told test) (g t)) []) → GivesFrom IsClear (behind_word k (λ word. then (told test) (g word)) z) f ts (Err e)
nothing_behind k is test g z f ts t mid e stops at none here =
    word_stands IsClear k (λ word. then (told test) (g word)) z f ts t mid (Err e)
    (λ t rest. refl) (word_moves k is) at
    (none_at_first (then (told test) (g t)) f mid e stops (none_here test (g t) mid none) (here t))

-- Targets, one more of them.

pub targets_more : (ps : List clauses.TargetRead) (p : clauses.TargetRead)
    (qs : List clauses.TargetRead) → qs ≡ ps ++ p ∷ []
    → targets_in qs ≡ snoc (targets_in ps) (target_of p)
targets_more ps p qs e = ap targets_in e ∙ map-append target_of ps (p ∷ [])

pub targets_first : (ps : List clauses.TargetRead) (p : clauses.TargetRead)
    (qs : List clauses.TargetRead) → ps ≡ [] → qs ≡ ps ++ p ∷ []
    → targets_in qs ≡ alone (target_of p)
targets_first ps p qs none e =
    targets_more ps p qs e ∙ ap (λ xs. snoc (targets_in xs) (target_of p)) none

pub ordered_ends : (found : Option (List Part)) → IsFixed (ordered found)
ordered_ends None rest = refl
ordered_ends (Some ps) rest = refl

-- Whole queries.

pub stuck_whole : (text : List ℕ) (ts : List Token) (e : Stuck)
    → GivesFrom IsFresh (query text) read_of ts (Err e) → IsRead text ts (Err e)
stuck_whole text ts OutOfMemory h = tt
stuck_whole text ts (At left is_deep) h = (λ v p. h.0 v [] p refl, h.1 (wanting []) refl, h.2)

pub ends_short : (text : List ℕ) (ts : List Token) (v : Read) (rest : List Token) (e : Stuck)
    → e ≡ At (length rest) false → Goes IsClear (wanting []) ts rest
    → Reads (query text) ts v rest → (rest ≡ [] → ⊥) → IsRead text ts (Err e)
ends_short text ts v rest e is goes r more =
    let x = query_again text ts v rest r.read in
    subst (λ s. IsRead text ts (Err s)) (sym is) (
      λ w p. more (r.only w [] p refl).1,
      stops_on (wanting []) ts goes.there rest (length rest) false goes.leads
          (stops_clear goes.there rest goes.at),
      record {
        passed = x.passed;
        rest = rest;
        cut = x.cut;
        are_left = refl;
        so = begins_whole (query text) x.passed
            (λ end e. (v, x.again end (alike_end rest end e)));
      },
    )

pub empty_is : {A : Type 0} (xs : List A) → true ≡ (length xs == 0) → xs ≡ []
empty_is [] e = refl
empty_is (x ∷ xs) e = absurd (grind (arith, nat_tests, e))

pub not_empty : {A : Type 0} (xs : List A) → false ≡ (length xs == 0) → xs ≡ [] → ⊥
not_empty [] e is = absurd (grind (arith, nat_tests, e))
not_empty (x ∷ xs) e is = absurd cc
