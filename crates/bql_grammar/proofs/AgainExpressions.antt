-- What is read of an expression before a rest is read before another rest too, where nothing
-- carries it on there.
use Rattle.std.proofs.Common.{◌≡◌, ℕ, zero, suc, Bool, true, false, List, [], ◌∷◌, ◌++◌, inl, inr}
use Rattle.std.proofs.Common.{Option, Some, None, is_some, refl, sym, ap, ◌∙◌, subst}
use Rattle.std.proofs.lemmas.List.{append_cancel_right}
use Rattle.std.specs.Prelude.{◌||◌, ◌&&◌}
use Rattle.theory.specs.Form.{Form, made, ItemsRead}
use Rattle.theory.proofs.FormFacts.{Tells}
use Rattle.bql_lexer.specs.declared.kind.Kind.TheVariants as kind
use Rattle.bql_lexer.specs.declared.token.Token.{Token}
use Rattle.bql_grammar.specs.Expression.{told, then, choice, nothing, chained, behind_comma}
use Rattle.bql_grammar.specs.Expression.{list_of, literal, literals, list_behind, list}
use Rattle.bql_grammar.specs.Expression.{sum_of, compared, matched, contained, compared_if_due}
use Rattle.bql_grammar.specs.Expression.{comparison_of, denied_of, signed_of, or_of, group_of}
use Rattle.bql_grammar.specs.Expression.{arguments_of, counted, inside_call, call_of, name, atom_of}
use Rattle.bql_grammar.specs.Expression.{unary_of, negation_of, inner, unary, negation, operand}
use Rattle.bql_grammar.specs.Expression.{chain_at, begins_with_count, token}
use Rattle.bql_grammar.specs.Front as fronts
use Rattle.bql_grammar.specs.Front.{front, before, begins, of_kind, begins_with_call, and_behind}
use Rattle.bql_grammar.specs.Front.{begins_with_list, ends_literal, with_token, leaf_by}
use Rattle.bql_grammar.specs.Nesting.{Parenthesis, Wants, wanting, unsigned}
use Rattle.bql_grammar.specs.Nesting.{through, after, role}
use Rattle.bql_tree.specs.Call.{is_count, called}
use Rattle.bql_tree.specs.Level as level_rules
use Rattle.bql_tree.specs.Part.{Part}
use Rattle.bql_tree.specs.declared.function.Scope.{Scope}
use Rattle.bql_tree.specs.declared.tree.Leaf.{Leaf}
use Rattle.bql_tree.specs.declared.level.Level.{Level}
use Rattle.bql_tree.specs.declared.level.Level.TheVariants as level
use Rattle.bql_grammar.proofs.AgainFacts.{Alike, IsInner, same_first, none_alike, inner_kind}
use Rattle.bql_grammar.proofs.AgainFacts.{inner_comparison, Again, Agains, loosely, told_again}
use Rattle.bql_grammar.proofs.AgainFacts.{made_again, then_again, chosen_again, other_again}
use Rattle.bql_grammar.proofs.AgainFacts.{choice_again, chain_again, list_again, weaken_again, both}
use Rattle.bql_grammar.proofs.AgainFacts.{test_again, any}
use Rattle.bql_grammar.proofs.ExpressionFacts.{unary_ends, negation_ends, operand_ends}
use Rattle.bql_grammar.proofs.FormFacts.{IsFixed, present}
use Rattle.bql_grammar.proofs.StandingFacts.{fronts_of, kind_is, literal_does, with_is}
use Rattle.bql_grammar.proofs.PassingFacts.{Passes, Passing, HasEnded, no_call_begins, any_unary}
use Rattle.bql_grammar.proofs.PassingFacts.{sum_passes}

inner_literal : IsInner fronts.literal
inner_literal t c = ap (λ k. with_token t (leaf_by k t.text)) c

inner_sign : IsInner fronts.sign
inner_sign t c = ap (λ k. with_token t (level_rules.sign_of k)) c

-- a token, and what stands behind it
behind_again : {V W : Type 0} (f : Token → Option V) (k : V → Form Token W)
    → ((v : V) → Agains false (k v)) → Agains true (then (told f) k)
behind_again f k g = then_again true (told f) k (told_again f) g

-- the same, where what stands there may be nothing
ending_again : {V W : Type 0} (f : Token → Option V) (make : V → W)
    → Agains false (then (told f) (λ v. made (make v)))
ending_again f make =
    then_again false (told f) (λ v. made (make v)) (loosely (told f) (told_again f))
    (λ v. made_again (make v))

-- Atoms.

pub literal_again : Agains true literal
literal_again = behind_again fronts.literal _ (λ found. made_again _)

pub group_again : (or : Form Token Part) → Agains true or → Agains true (group_of or)
group_again or f =
    behind_again (of_kind kind.OpenParenthesis) _ (λ opening. then_again false or _ (loosely or f)
    (λ inner. ending_again (of_kind kind.CloseParenthesis) _))

name_again : (scope : Scope) (call : Form Token Part) (ts : List Token) (v : Part)
    (rest : List Token) → (name scope).reads ts v rest → begins_with_call ts ≡ false
    → Again true (choice begins_with_call call (name scope)) ts v rest
name_again scope call ts v rest r none =
    let o = fronts_of (of_kind kind.Name) ts r.0 r.1 r.2 in
    let alone = ap (begins (of_kind kind.OpenParenthesis)) (sym r.3.1)
    ∙ no_call_begins ts r.0 r.1 r.2 none in
    record {
      passed = o.token ∷ [];
      cut = o.at ∙ ap (λ m. o.token ∷ m) r.3.1;
      filled = tt;
      again = λ other alike. inr (
        ap (λ p. and_behind (begins (of_kind kind.OpenParenthesis)) (before other p)) o.is
            ∙ none_alike (of_kind kind.OpenParenthesis) (inner_kind kind.OpenParenthesis refl) rest
            other alike alone,
        (r.0, other, ap (before other) o.is, (r.3.0, refl)),
      );
    }

call_or_name_again : (scope : Scope) (call : Form Token Part) → Agains true call
    → Tells begins_with_call call → Agains true (choice begins_with_call call (name scope))
call_or_name_again scope call f tells ts v rest (inl r) =
    let x = f ts v rest r.1 in
    chosen_again begins_with_call call (name scope) true ts v rest x
    (λ other alike. tells (x.passed ++ other) v other (x.again other alike))
call_or_name_again scope call f tells ts v rest (inr r) =
    name_again scope call ts v rest r.1 r.0

atom_again : (scope : Scope) (group call : Form Token Part) → Agains true group
    → Agains true call → Tells begins_with_call call → Agains true (atom_of scope group call)
atom_again scope group call g f tells =
    choice_again true fronts.literal literal _ inner_literal literal_again
    (choice_again true (of_kind kind.OpenParenthesis) group _
    (inner_kind kind.OpenParenthesis refl) g (call_or_name_again scope call f tells))

unary_again : (scope : Scope) (sign group call : Form Token Part) → Agains true sign
    → Agains true group → Agains true call → Tells begins_with_call call
    → Agains true (unary_of scope sign group call)
unary_again scope sign group call s g f tells =
    choice_again true fronts.sign sign (atom_of scope group call) inner_sign s
    (atom_again scope group call g f tells)

-- Signs and NOTs.

signed_again : (u : Form Token Part) → Agains true u → Agains true (signed_of u)
signed_again u f =
    behind_again fronts.sign _ (λ sign. then_again false u _ (loosely u f) (λ v. made_again _))

denied_again : (n : Form Token Part) → Agains true n → Agains true (denied_of n)
denied_again n f =
    behind_again (of_kind kind.Not) _ (λ word. then_again false n _ (loosely n f)
    (λ v. made_again _))

-- Calls.

pub call_tells : (scope : Scope) (or : Form Token Part)
    → Tells begins_with_call (call_of scope or)
call_tells scope or ts v rest r =
    ap (and_behind (begins (of_kind kind.OpenParenthesis))) r.2
    ∙ present (of_kind kind.OpenParenthesis) r.1 (r.3.0, r.3.1) r.3.2

-- Lists behind IN.

literal_is_first : (ts : List Token) (vs : List Part) (rest : List Token) (t : Token)
    (after : List Token) → literals.reads ts vs rest
    → front (of_kind kind.CloseParenthesis) rest ≡ Some (t, after)
    → and_behind ends_literal (front fronts.literal ts) ≡ true
literal_is_first ts vs rest t after r close =
    let one = r.0.3 in
    ap (and_behind ends_literal) one.2
    ∙ ap ends_literal one.3.1
    ∙ ends r.0.1 r.0.2 r.0.4
  where
    comma_or : (b : Bool) → (true || b) ≡ true
    comma_or true = refl
    comma_or false = refl

    or_close : (b c : Bool) → c ≡ true → (b || c) ≡ true
    or_close true c e = refl
    or_close false c e = e

    ends : (ws : List Part) (mid : List Token) → ItemsRead (behind_comma literal) mid ws rest
        → ends_literal mid ≡ true
    ends [] mid e =
        ap ends_literal e
        ∙ or_close (begins (of_kind kind.Comma) rest) (begins (of_kind kind.CloseParenthesis) rest)
        (present (of_kind kind.CloseParenthesis) rest (t, after) close)
    ends (w ∷ ws) mid q =
        ap (λ b. b || begins (of_kind kind.CloseParenthesis) mid)
        (present (of_kind kind.Comma) mid (q.1.0, q.1.1) q.1.2)
        ∙ comma_or (begins (of_kind kind.CloseParenthesis) mid)

abbrev pub opens_list : List Token → Bool
opens_list ts = and_behind (λ ts. and_behind ends_literal (front fronts.literal ts))
    (front (of_kind kind.OpenParenthesis) ts)

list_behind_tells : (left : Part) → Tells begins_with_list (list_behind left)
list_behind_tells left ts v rest r =
    let q = r.3 in
    let items = q.3 in
    ap (and_behind opens_list) r.2
    ∙ ap (and_behind (λ ts. and_behind ends_literal (front fronts.literal ts))) q.2
    ∙ literal_is_first q.1 items.0 items.1 items.3.0 items.3.1 items.2 items.3.2

pub list_tells : (room : ℕ) (left : Part) → Tells begins_with_list (list room left)
list_tells zero left ts v rest r = absurd r
list_tells (suc room) left ts v rest r = list_behind_tells left ts v rest r

list_behind_again : (left : Part) → Agains true (list_behind left)
list_behind_again left =
    behind_again (of_kind kind.In) _ (λ word.
    then_again false (told (of_kind kind.OpenParenthesis)) _
    (loosely (told (of_kind kind.OpenParenthesis)) (told_again (of_kind kind.OpenParenthesis)))
    (λ opening. then_again false literals _
    (loosely literals (list_again literal (λ rest. refl) literal_again))
    (λ items. ending_again (of_kind kind.CloseParenthesis) _)))

lists_again : (room : ℕ) (left : Part) → Agains true (list room left)
lists_again zero left ts v rest r = absurd r
lists_again (suc room) left ts v rest r = list_behind_again left ts v rest r

-- What stands behind IN is no list, and none before another rest.

same_behind : {V : Type 0} (test : List Token → Bool) (o : Option V) (ts us : List Token)
    → test ts ≡ test us → and_behind test (before ts o) ≡ and_behind test (before us o)
same_behind test (Some v) ts us e = e
same_behind test None ts us e = refl

pub same_opening : (a b c : Token) (ts us : List Token)
    → opens_list (a ∷ b ∷ c ∷ ts) ≡ opens_list (a ∷ b ∷ c ∷ us)
same_opening a b c ts us =
    same_behind (λ ts. and_behind ends_literal (front fronts.literal ts))
    (of_kind kind.OpenParenthesis a) (b ∷ c ∷ ts) (b ∷ c ∷ us)
    (same_behind ends_literal (fronts.literal b) (c ∷ ts) (c ∷ us)
    (ap (λ x. x || begins (of_kind kind.CloseParenthesis) (c ∷ ts))
    (same_first (of_kind kind.Comma) c ts us)
    ∙ ap (λ x. begins (of_kind kind.Comma) (c ∷ us) || x)
    (same_first (of_kind kind.CloseParenthesis) c ts us)))

-- behind these tokens an operand ends that began with them
pub record Whole (ts rest : List Token) : Type 0 where
  pub same : unsigned (through (wanting []) ts).within ≡ []
  pub ended : HasEnded (through (wanting []) ts).last rest

pub whole_of : (xs rest : List Token) → Passing unsigned [] (wanting []) (xs ++ rest) rest
    → Whole xs rest
whole_of xs rest p =
    let here = append_cancel_right xs p.leads.passed rest p.leads.cut in
    subst (λ ys. Whole ys rest) (sym here)
    record {
      same = ap (λ s. unsigned s.within) (sym p.leads.there) ∙ p.behind.same;
      ended = subst (λ s. HasEnded s.last rest) p.leads.there p.behind.whole;
    }

opens_one : (a : Token) (rest other : List Token) (o : Option Token)
    → of_kind kind.OpenParenthesis a ≡ o → Whole (a ∷ []) rest
    → and_behind (λ ts. and_behind ends_literal (front fronts.literal ts)) (before other o) ≡ false
opens_one a rest other None e w = refl
opens_one a rest other (Some t) e w =
    absurd (subst (λ k. HasEnded (after (role k) [] Wants).last rest)
    (kind_is kind.OpenParenthesis a t e) w.ended)

opens_two : (a b : Token) (rest other : List Token) (o : Option Token) (p : Option (Token × Leaf))
    → of_kind kind.OpenParenthesis a ≡ o → fronts.literal b ≡ p → Whole (a ∷ b ∷ []) rest
    → and_behind (λ ts. and_behind ends_literal (front fronts.literal ts)) (before (b ∷ other) o)
    ≡ false
opens_two a b rest other None p e f w = refl
opens_two a b rest other (Some t) None e f w =
    ap (λ p. and_behind ends_literal (before other p)) f
opens_two a b rest other (Some t) (Some l) e f w =
    let first = kind_is kind.OpenParenthesis a t e in
    let second = literal_does b.kind b.text l.1
    (with_is b (leaf_by b.kind b.text) l f) in
    let same = subst (λ r. unsigned (after r (Parenthesis ∷ []) Wants).within ≡ []) second
    (subst (λ k. unsigned (after (role b.kind) (after (role k) [] Wants).within
    (after (role k) [] Wants).last).within ≡ []) first w.same) in
    absurd (cc same)

no_list_again : (xs rest other : List Token) → Whole xs rest → opens_list (xs ++ rest) ≡ false
    → opens_list (xs ++ other) ≡ false
no_list_again [] rest other w e = absurd w.ended
no_list_again (a ∷ []) rest other w e =
    opens_one a rest other (of_kind kind.OpenParenthesis a) refl w
no_list_again (a ∷ b ∷ []) rest other w e =
    opens_two a b rest other (of_kind kind.OpenParenthesis a) (fronts.literal b) refl refl w
no_list_again (a ∷ b ∷ c ∷ xs) rest other w e =
    same_opening a b c (xs ++ other) (xs ++ rest) ∙ e

pub no_in_no_list : (ts : List Token) → begins (of_kind kind.In) ts ≡ false
    → begins_with_list ts ≡ false
no_in_no_list ts e = without (front (of_kind kind.In) ts) e
  where
    without : (o : Option (Token × List Token)) → is_some o ≡ false
        → and_behind opens_list o ≡ false
    without None e = refl
    without (Some p) e = absurd (cc e)

-- Comparisons.

module _ (s : Form Token Part) (f : Agains true s) (left : Part) where
  compared_again : Agains true (compared s left)
  compared_again =
      behind_again fronts.comparison _ (λ op. then_again false s _ (loosely s f)
      (λ right. made_again _))

  matched_again : Agains true (matched left)
  matched_again = behind_again (of_kind kind.Tilde) _ (λ tilde. ending_again (of_kind kind.Text) _)

  contained_again : Passes unsigned s → (ts : List Token) (v : Part) (rest : List Token)
      → (contained s left).reads ts v rest → begins_with_list ts ≡ false
      → (x : Again true (contained s left) ts v rest) × ((other : List Token) → Alike rest other
      → begins_with_list (x.passed ++ other) ≡ false)
  contained_again passes ts v rest r none =
      let o = fronts_of (of_kind kind.In) ts r.0 r.1 r.2 in
      let x = f r.1 r.3.0 r.3.1 r.3.2 in
      let closed = ap (and_behind opens_list) (sym r.2) ∙ none in
      let same = r.3.3.1 in
      let cut = x.cut ∙ ap (λ m. x.passed ++ m) same in
      let whole = whole_of x.passed rest
      (subst (λ m. Passing unsigned [] (wanting []) m rest) cut
      (subst (λ m. Passing unsigned [] (wanting []) r.1 m) same (passes r.1 r.3.0 r.3.1 r.3.2 [])))
      in (
        record {
          passed = o.token ∷ x.passed;
          cut = o.at ∙ ap (λ m. o.token ∷ m) cut;
          filled = tt;
          again = λ other alike. (
            r.0,
            x.passed ++ other,
            ap (before (x.passed ++ other)) o.is,
            (r.3.0, other, x.again other (subst (λ m. Alike m other) (sym same) alike), (r.3.3.0, refl)),
          );
        },
        λ other alike. ap (λ p. and_behind opens_list (before (x.passed ++ other) p)) o.is
            ∙ no_list_again x.passed rest other whole
            (ap opens_list (sym cut) ∙ closed),
      )

  -- behind IN where no list begins, or where nothing is compared
  past_list : Passes unsigned s → (room : ℕ) → (ts : List Token) → (v : Part) → (rest : List Token)
      → begins_with_list ts ≡ false
      → (choice (begins (of_kind kind.In)) (contained s left) (made left)).reads ts v rest
      → Again false (choice begins_with_list (list room left)
      (choice (begins (of_kind kind.In)) (contained s left) (made left))) ts v rest
  past_list passes room ts v rest none (inl r) =
      let y = contained_again passes ts v rest r.1 none in
      let more = choice (begins (of_kind kind.In)) (contained s left) (made left) in
      weaken_again false (choice begins_with_list (list room left) more) ts v rest
      (other_again begins_with_list (list room left) more true ts v rest
      (chosen_again (begins (of_kind kind.In)) (contained s left) (made left) true ts v rest y.0
      (λ other alike. let q = y.0.again other alike in
      present (of_kind kind.In) (y.0.passed ++ other) (q.0, q.1) q.2)) y.1)
  past_list passes room ts v rest none (inr r) =
      let no_in = λ (other : List Token) (alike : Alike rest other). none_alike (of_kind kind.In)
      (inner_kind kind.In refl) rest other alike
      (ap (begins (of_kind kind.In)) (sym r.1.1) ∙ r.0) in
      record {
        passed = [];
        cut = r.1.1;
        filled = tt;
        again = λ other alike. inr (
          no_in_no_list other (no_in other alike),
          inr (no_in other alike, (r.1.0, refl)),
        );
      }

  in_again : Passes unsigned s → (room : ℕ)
      → Agains false (choice begins_with_list (list room left)
      (choice (begins (of_kind kind.In)) (contained s left) (made left)))
  in_again passes room ts v rest (inl r) =
      let more = choice (begins (of_kind kind.In)) (contained s left) (made left) in
      let x = lists_again room left ts v rest r.1 in
      weaken_again false (choice begins_with_list (list room left) more) ts v rest
      (chosen_again begins_with_list (list room left) more true ts v rest x
      (λ other alike. list_tells room left (x.passed ++ other) v other (x.again other alike)))
  in_again passes room ts v rest (inr r) = past_list passes room ts v rest r.0 r.1

  pub compared_if_due_again : Passes unsigned s → (room : ℕ)
      → Agains false (compared_if_due room s left)
  compared_if_due_again passes room =
      choice_again false fronts.comparison (compared s left) _ inner_comparison compared_again
      (choice_again false (of_kind kind.Tilde) (matched left) _ (inner_kind kind.Tilde refl)
      matched_again (in_again passes room))

pub sum_again : (u : Form Token Part) → IsFixed u → Agains true u → Agains true (sum_of u)
sum_again u fixed f =
    chain_again level.Sum (chained level.Product u) (λ rest. refl)
    (chain_again level.Product u fixed f)

comparison_again : (room : ℕ) (u : Form Token Part) → IsFixed u → Agains true u
    → Passes unsigned u → Agains true (comparison_of room u)
comparison_again room u fixed f passes =
    then_again true (sum_of u) (compared_if_due room (sum_of u)) (sum_again u fixed f)
    (λ left. compared_if_due_again (sum_of u) (sum_again u fixed f) left (sum_passes u passes) room)

negation_again : (denied compared : Form Token Part) → Agains true denied → Agains true compared
    → Agains true (negation_of denied compared)
negation_again denied compared d c =
    choice_again true (of_kind kind.Not) denied compared (inner_kind kind.Not refl) d c

pub or_again : (n : Form Token Part) → IsFixed n → Agains true n → Agains true (or_of n)
or_again n fixed f =
    chain_again level.Or (chained level.And n) (λ rest. refl) (chain_again level.And n fixed f)

-- Arguments.

and_still : (a b c : Bool) → (a && b) ≡ true → c ≡ true → (a && c) ≡ true
and_still true b c e f = f
and_still false b c e f = e

counted_again : (t : Token) → Agains true (counted t)
counted_again t =
    behind_again (of_kind kind.Star) _ (λ star. ending_again (of_kind kind.CloseParenthesis) _)

module _ (scope : Scope) (or : Form Token Part) (fixed : IsFixed or) (f : Agains true or) where
  abbrev shutting : Token → List Part → Form Token Part
  shutting t vs = then (token kind.CloseParenthesis) (λ close. made (called scope t vs close))

  abbrev arguments_shut : Token → Form Token Part
  arguments_shut t = then (arguments_of or) (shutting t)

  shutting_again : (t : Token) (vs : List Part) → Agains true (shutting t vs)
  shutting_again t vs = behind_again (of_kind kind.CloseParenthesis) _ (λ close. made_again _)

  -- some arguments, or none
  arguments_again : (t : Token) (ts : List Token) (vs : List Part) (mid : List Token) (v : Part)
      (rest : List Token) → begins_with_count t ts ≡ false → (arguments_of or).reads ts vs mid
      → (shutting t vs).reads mid v rest → Again false (inside_call scope or t) ts v rest
  arguments_again t ts vs mid v rest none (inl r) shut =
      let z = shutting_again t vs mid v rest shut in
      let cut = r.1.1 ∙ z.cut in
      record {
        passed = z.passed;
        cut = cut;
        filled = any z.passed;
        again = λ other alike. let q = z.again other alike in inr (
          ap (λ b. is_count t && b) (test_again (of_kind kind.Star) z.passed other rest z.filled
              ∙ ap (begins (of_kind kind.Star)) (sym cut)) ∙ none,
          (
            vs,
            z.passed ++ other,
            inl (
              present (of_kind kind.CloseParenthesis) (z.passed ++ other) (q.0, q.1) q.2,
              (r.1.0, refl),
            ),
            q,
          ),
        );
      }
  arguments_again t ts vs mid v rest none (inr r) shut =
      let y = both true (list_of or) (shutting t vs) ts vs mid v rest
      (list_again or fixed f ts vs mid r.1)
      (loosely (shutting t vs) (shutting_again t vs) mid v rest shut) in
      record {
        passed = y.passed;
        cut = y.cut;
        filled = any y.passed;
        again = λ other alike. let m = y.again other alike in inr (
          ap (λ b. is_count t && b) (test_again (of_kind kind.Star) y.passed other rest y.filled
              ∙ ap (begins (of_kind kind.Star)) (sym y.cut)) ∙ none,
          (
            vs,
            m.0,
            inr (
              test_again (of_kind kind.CloseParenthesis) y.passed other rest y.filled
                  ∙ ap (begins (of_kind kind.CloseParenthesis)) (sym y.cut) ∙ r.0,
              m.1,
            ),
            m.2,
          ),
        );
      }

  inside_again : (t : Token) → Agains false (inside_call scope or t)
  inside_again t ts v rest (inl r) =
      let x = counted_again t ts v rest r.1 in
      weaken_again false (inside_call scope or t) ts v rest
      (chosen_again (begins_with_count t) (counted t) (arguments_shut t) true ts v rest x
      (λ other alike. let q = x.again other alike in
      and_still (is_count t) (begins (of_kind kind.Star) ts)
      (begins (of_kind kind.Star) (x.passed ++ other)) r.0
      (present (of_kind kind.Star) (x.passed ++ other) (q.0, q.1) q.2)))
  inside_again t ts v rest (inr r) =
      arguments_again t ts r.1.0 r.1.1 v rest r.0 r.1.2 r.1.3

  call_again : Agains true (call_of scope or)
  call_again =
      behind_again (of_kind kind.Name) _ (λ name.
      then_again false (told (of_kind kind.OpenParenthesis)) _
      (loosely (told (of_kind kind.OpenParenthesis)) (told_again (of_kind kind.OpenParenthesis)))
      (λ opening. inside_again name))

-- Levels of nesting.

pub nothing_again : {V : Type 0} → Agains true (nothing {V = V})
nothing_again ts v rest r = absurd r

record Repeats (scope : Scope) (room : ℕ) : Type 0 where
  unary : Agains true (unary scope room)
  negation : Agains true (negation scope room)

all_repeat : (scope : Scope) (room : ℕ) → Repeats scope room
unfolding inner
all_repeat scope zero =
    let u = unary_again scope nothing nothing nothing nothing_again nothing_again nothing_again
    (λ ts v rest r. absurd r) in
    record {
      unary = u;
      negation = negation_again nothing (comparison_of 0 (unary_of scope nothing nothing nothing))
          nothing_again
          (comparison_again 0 (unary_of scope nothing nothing nothing) (λ rest. refl) u
          (any_unary scope zero));
    }
all_repeat scope (suc room) =
    let below = all_repeat scope room in
    let n = negation scope room in
    let or = or_of n in
    let or_again = or_again n (negation_ends scope room) below.negation in
    let here = unary_of scope (signed_of (unary scope room)) (group_of or) (call_of scope or) in
    let u = unary_again scope (signed_of (unary scope room)) (group_of or) (call_of scope or)
    (signed_again (unary scope room) below.unary) (group_again or or_again)
    (call_again scope or (λ rest. refl) or_again) (call_tells scope or) in
    record {
      unary = u;
      negation = negation_again (denied_of n) (comparison_of (suc room) here)
          (denied_again n below.negation)
          (comparison_again (suc room) here (λ rest. refl) u (any_unary scope (suc room)));
    }

pub unary_repeats : (scope : Scope) (room : ℕ) → Agains true (unary scope room)
unary_repeats scope room = (all_repeat scope room).unary

pub negation_repeats : (scope : Scope) (room : ℕ) → Agains true (negation scope room)
negation_repeats scope room = (all_repeat scope room).negation

pub operand_repeats : (l : Level) (scope : Scope) (room : ℕ) → Agains true (operand l scope room)
operand_repeats level.Or scope room =
    chain_again level.And (negation scope room) (negation_ends scope room)
    (negation_repeats scope room)
operand_repeats level.And scope room = negation_repeats scope room
operand_repeats level.Sum scope room =
    chain_again level.Product (unary scope room) (unary_ends scope room) (unary_repeats scope room)
operand_repeats level.Product scope room = unary_repeats scope room

pub chain_repeats : (l : Level) (scope : Scope) (room : ℕ) → Agains true (chain_at l scope room)
chain_repeats l scope room =
    chain_again l (operand l scope room) (operand_ends l scope room) (operand_repeats l scope room)
