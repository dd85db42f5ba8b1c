-- What IN with a list is lowered to is a truth value.
use Rattle.std.proofs.Common.{◌≡◌, ℕ, ◌-◌, ◌*◌, ◌^◌, ◌≤◌, ◌&&◌, max, Bool, true, false, cond, List, []}
use Rattle.std.proofs.Common.{◌∷◌, ◌++◌, Option}
use Rattle.std.proofs.Common.{Some, None, Ok, Err, refl, sym, ap, ◌∙◌, subst, arith}
use Rattle.std.specs.Prelude.{fold, option_and_then, option_map}
use Rattle.std.specs.List.{AllByRecursion, list_all}
use Rattle.std.proofs.lemmas.Bool.{le-leb}
use Rattle.std.specs.Result.{is_ok}
use Rattle.std.specs.Cmp.Derive.{both_true}
use Rattle.bean_base.specs.declared.days.Day.{Day}
use Rattle.limits.specs.declared.bounds.Bounds.{Bounds}
use Rattle.bql_code.specs.Core.{Core, among, changing}
use Rattle.bql_code.specs.Laws.{StandsIn}
use Rattle.bql_code.specs.Pool.{used}
use Rattle.bql_lowering.specs.Kind.{first_kind, kind_of}
use Rattle.bql_lowering.specs.Lowered.{aligned, day_in, each_in, count_in, in_list}
use Rattle.bql_lowering.specs.Lowered.{list_by, most_places, places_in, text_in}
use Rattle.bql_parser.specs.Small.{AreLiterals, IsLiteral, IsLiteralLeaf}
use Rattle.bql_rules.specs.Rules as rules
use Rattle.bql_rules.specs.Rules.{are_alike, greatest_places, is_held_with, one_of, places_of}
use Rattle.bql_tree.specs.Tree.{leaf_of, one_of as on_one, two_of, call_of, Tree, node}
use Rattle.bql_tree.specs.Tree.{Trees, no_trees, trees}
use Rattle.bql_tree.specs.declared.tree.Leaf.{Leaf}
use Rattle.bql_tree.specs.declared.tree.Leaf.TheVariants as leaf
use Rattle.bql_types.specs.Shaped as shaped
use Rattle.bql_types.specs.Shaped.{beside, operand, shape_of, shapes_of}
use Rattle.bql_compiler.specs.CoreShape.{HasShape}
use Rattle.query_code.specs.declared.program.Constant.{Constant}
use Rattle.query_rows.specs.Rules as machine
use Rattle.query_rows.specs.Rules.{Ruled, is_ranked}
use Rattle.query_rows.specs.Shape.{fitting}
use Rattle.query_rows.specs.declared.shape.Misfit.TheVariants.{Kind, TooWide}
use Rattle.query_rows.specs.declared.shape.Shape.{Shape}
use Rattle.query_rows.specs.declared.shape.Shape.TheVariants as shape
use Rattle.query_values.specs.Unary as operation
use Rattle.query_terms.specs.declared.decimal.Decimal.{Decimal}
use Rattle.well_shaped.specs.Sections.{Loads, given}
use Rattle.bql_compiler.proofs.ConstantFacts.{HasMembersAt, days_at, none_at, numbers_at}
use Rattle.bql_compiler.proofs.ConstantFacts.{texts_at}
use Rattle.bql_compiler.proofs.OperatorFacts.{aligned_shape, fits_as}

pub both : (a b : Bool) → (a && b) ≡ true → (a ≡ true) × (b ≡ true)
both true b e = (refl, e)
both false b e = cc

-- ---- what the rule says

-- what is looked for and the members are alike, and numbers may be brought to the greatest decimals
pub record IsListed (s u : Shape) (ss : List Shape) : Type 0 where
  pub is_truth : u ≡ shape.Truth
  pub alike : list_all (are_alike s) ss ≡ true
  pub itself : are_alike s s ≡ true
  pub held : is_held_with (greatest_places s ss) s ≡ true

pub is_listed : (s u : Shape) (ss : List Shape) → one_of s ss ≡ Ok u → IsListed s u ss
is_listed s u ss e =
    by (are_alike s s && list_all (are_alike s) ss) refl
    (list_all (is_held_with (greatest_places s ss)) (s ∷ ss)) refl e
  where
    by : (a : Bool) → (are_alike s s && list_all (are_alike s) ss) ≡ a → (h : Bool)
        → list_all (is_held_with (greatest_places s ss)) (s ∷ ss) ≡ h
        → cond a (cond h (Ok shape.Truth) (Err TooWide)) (Err Kind) ≡ Ok u → IsListed s u ss
    by true ea true eh e =
        let a = both (are_alike s s) (list_all (are_alike s) ss) ea in
        let h =
        both (is_held_with (greatest_places s ss) s)
        (list_all (is_held_with (greatest_places s ss)) ss) eh in
        record { is_truth = cc; alike = a.1; itself = a.0; held = h.0 }
    by true ea false eh e = cc
    by false ea h eh e = cc

-- ---- literals

module _ (b : Bounds) where
  -- a leaf has the shape of its rule, and no parts that have shapes
  pub leaf_only : (at : ℕ) (lf : Leaf) (parts : Trees ℕ) (s : Shape)
      → shape_of b (node at (leaf_of lf) parts) ≡ Some s → rules.leaf_shape b lf ≡ Ok s
  leaf_only at lf parts s e = by (shapes_of b false parts) e
    where
      of_rule : (r : Ruled) → shaped.given (Some r) ≡ Some s → r ≡ Ok s
      of_rule (Ok t) e = cc
      of_rule (Err f) e = cc

      by : (o : Option (List Shape)) → shaped.given (shaped.ruled b (leaf_of lf) o) ≡ Some s
          → rules.leaf_shape b lf ≡ Ok s
      by None e = cc
      by (Some []) e = of_rule (rules.leaf_shape b lf) e
      by (Some (t ∷ ts)) e = cc

  -- a literal like a text is a text, and so with days and numbers

  pub text_leaf : (lf : Leaf) (s : Shape) → IsLiteralLeaf lf → rules.leaf_shape b lf ≡ Ok s
      → are_alike shape.Text s ≡ true → (t : List ℕ) × (lf ≡ leaf.Text t)
  text_leaf (leaf.Text t) s is e alike = (t, refl)
  text_leaf (leaf.Number n) s is e alike = cc
  text_leaf (leaf.Day d) s is e alike = cc
  text_leaf (leaf.Truth t) s is e alike = cc
  text_leaf leaf.Null s is e alike = cc
  text_leaf (leaf.TooWide digits) s is e alike = cc
  text_leaf (leaf.Column c) s is e alike = absurd is
  text_leaf leaf.Rows s is e alike = absurd is
  text_leaf (leaf.Meta o k) s is e alike = absurd is
  text_leaf (leaf.HasAccount p) s is e alike = absurd is

  pub day_leaf : (lf : Leaf) (s : Shape) → IsLiteralLeaf lf → rules.leaf_shape b lf ≡ Ok s
      → are_alike shape.Day s ≡ true → (d : Day) × (lf ≡ leaf.Day d)
  day_leaf (leaf.Day d) s is e alike = (d, refl)
  day_leaf (leaf.Text t) s is e alike = cc
  day_leaf (leaf.Number n) s is e alike = cc
  day_leaf (leaf.Truth t) s is e alike = cc
  day_leaf leaf.Null s is e alike = cc
  day_leaf (leaf.TooWide digits) s is e alike = cc
  day_leaf (leaf.Column c) s is e alike = absurd is
  day_leaf leaf.Rows s is e alike = absurd is
  day_leaf (leaf.Meta o k) s is e alike = absurd is
  day_leaf (leaf.HasAccount p) s is e alike = absurd is

  -- with its number of decimals
  abbrev pub IsNumberLeaf : Leaf → Shape → Type 0
  IsNumberLeaf lf s = (n : Decimal) × (lf ≡ leaf.Number n) × (places_of s ≡ n.places)

  pub number_leaf : (p m : ℕ) (lf : Leaf) (s : Shape) → IsLiteralLeaf lf
      → rules.leaf_shape b lf ≡ Ok s → are_alike (shape.Number p m) s ≡ true → IsNumberLeaf lf s
  number_leaf p m (leaf.Number n) s is e alike = (n, refl, of s e)
    where
      of : (s : Shape) → rules.leaf_shape b (leaf.Number n) ≡ Ok s
          → places_of s ≡ n.places
      of (shape.Number q k) e = cc
      of shape.Truth e = cc
      of shape.Text e = cc
      of shape.Day e = cc
      of shape.Set e = cc
      of (shape.Amount q k) e = cc
      of (shape.Position q k) e = cc
      of (shape.Inventory r q k) e = cc
  number_leaf p m (leaf.Text t) s is e alike = cc
  number_leaf p m (leaf.Day d) s is e alike = cc
  number_leaf p m (leaf.Truth t) s is e alike = cc
  number_leaf p m leaf.Null s is e alike = cc
  number_leaf p m (leaf.TooWide digits) s is e alike = cc
  number_leaf p m (leaf.Column c) s is e alike = absurd is
  number_leaf p m leaf.Rows s is e alike = absurd is
  number_leaf p m (leaf.Meta o k) s is e alike = absurd is
  number_leaf p m (leaf.HasAccount q) s is e alike = absurd is

  -- ---- members

  -- the first member is a leaf, with the first shape; and the others have the others
  pub record AreFirst (t : Tree ℕ) (ts : Trees ℕ) (ss : List Shape) : Type 0 where
    pub at : ℕ
    pub lf : Leaf
    pub parts : Trees ℕ
    pub is_leaf : t ≡ node at (leaf_of lf) parts
    pub literal : IsLiteralLeaf lf
    pub one : Shape
    pub more : List Shape
    pub first : rules.leaf_shape b lf ≡ Ok one
    pub others : shapes_of b false ts ≡ Some more
    pub are : ss ≡ one ∷ more

  pub are_first : (t : Tree ℕ) (ts : Trees ℕ) (ss : List Shape) → IsLiteral t
      → shapes_of b false (trees t ts) ≡ Some ss → AreFirst t ts ss
  are_first (node at (leaf_of lf) parts) ts ss is e =
      by (shape_of b (node at (leaf_of lf) parts)) refl (shapes_of b false ts) refl e
    where
      by : (o : Option Shape) → shape_of b (node at (leaf_of lf) parts) ≡ o
          → (p : Option (List Shape)) → shapes_of b false ts ≡ p
          → beside (operand false o) p ≡ Some ss
          → AreFirst (node at (leaf_of lf) parts) ts ss
      by (Some s) eo (Some us) ep e = record {
        at = at;
        lf = lf;
        parts = parts;
        is_leaf = refl;
        literal = is;
        one = s;
        more = us;
        first = leaf_only at lf parts s eo;
        others = ep;
        are = cc;
      }
      by (Some s) eo None ep e = cc
      by None eo p ep e = cc
  are_first (node at (on_one op) parts) ts ss is e = absurd is
  are_first (node at (two_of op) parts) ts ss is e = absurd is
  are_first (node at (call_of f) parts) ts ss is e = absurd is

  none_first : (ss : List Shape) → shapes_of b false no_trees ≡ Some ss → ss ≡ []
  none_first ss e = cc

  -- the greatest count of decimals is that of the rule
  most_is : (p0 m0 p : ℕ) (ts : Trees ℕ) (ss : List Shape) → AreLiterals ts
      → shapes_of b false ts ≡ Some ss → list_all (are_alike (shape.Number p0 m0)) ss ≡ true
      → fold (λ most t. max most (places_of t)) p ss ≡ most_places p ts
  most_is p0 m0 p no_trees ss are e alike =
      ap (fold (λ most t. max most (places_of t)) p) (none_first ss e)
  most_is p0 m0 p (trees t ts) ss are e alike =
      let h = are_first t ts ss are.0 e in
      let a =
      both (are_alike (shape.Number p0 m0) h.one) (list_all (are_alike (shape.Number p0 m0)) h.more)
      (ap (list_all (are_alike (shape.Number p0 m0))) (sym h.are) ∙ alike) in
      let n = number_leaf p0 m0 h.lf h.one h.literal h.first a.0 in
      let is : t ≡ node h.at (leaf_of (leaf.Number n.0)) h.parts =
      h.is_leaf ∙ ap (λ lf. node h.at (leaf_of lf) h.parts) n.1 in
      ap (fold (λ most t. max most (places_of t)) p) h.are
      ∙ ap (λ q. fold (λ most t. max most (places_of t)) (max p q) h.more) n.2
      ∙ most_is p0 m0 (max p n.0.places) ts h.more are.1 h.others a.1
      ∙ ap (λ t. most_places p (trees t ts)) (sym is)

  pub more_places : (p : ℕ) (ts : Trees ℕ) → p ≤ most_places p ts
  more_places p no_trees = omega arith
  more_places p (trees (node at (leaf_of (leaf.Number n)) parts) ts) =
      omega (arith, more_places (max p n.places) ts)
  more_places p (trees (node at (leaf_of (leaf.Text t)) parts) ts) = more_places p ts
  more_places p (trees (node at (leaf_of (leaf.Day d)) parts) ts) = more_places p ts
  more_places p (trees (node at (leaf_of (leaf.Truth t)) parts) ts) = more_places p ts
  more_places p (trees (node at (leaf_of leaf.Null) parts) ts) = more_places p ts
  more_places p (trees (node at (leaf_of (leaf.TooWide t)) parts) ts) = more_places p ts
  more_places p (trees (node at (leaf_of (leaf.Column c)) parts) ts) = more_places p ts
  more_places p (trees (node at (leaf_of leaf.Rows) parts) ts) = more_places p ts
  more_places p (trees (node at (leaf_of (leaf.Meta o k)) parts) ts) = more_places p ts
  more_places p (trees (node at (leaf_of (leaf.HasAccount q)) parts) ts) = more_places p ts
  more_places p (trees (node at (on_one op) parts) ts) = more_places p ts
  more_places p (trees (node at (two_of op) parts) ts) = more_places p ts
  more_places p (trees (node at (call_of f) parts) ts) = more_places p ts

-- ---- the operation

module _ (b : Bounds) (pool : List Constant) (l : Loads) where
  -- where the members are like what is looked for
  among_like : (s : Shape) (c : Constant) (x : Core) → is_ranked s ≡ true → HasShape pool l x s
      → HasMembersAt pool s c → HasShape pool l (changing (among c) x) shape.Truth
  among_like s c x ranked hx h = (
    s,
    hx,
    ap (λ ys. option_and_then (λ o. given (machine.unary_shape o s))
        (option_map operation.InList ys)) h.1
        ∙ ap (λ ok. given (cond ok (Ok shape.Truth) (Err Kind))) (both_true ranked h.2),
  )

  text_members : (lf : Leaf) (places : ℕ) (ts : Trees ℕ) (t : List ℕ) → lf ≡ leaf.Text t
      → StandsIn pool (list_by (kind_of lf) places ts) → HasMembersAt pool shape.Text (list_by (kind_of lf) places ts)
  text_members lf places ts t is =
      subst (λ lf. StandsIn pool (list_by (kind_of lf) places ts)
      → HasMembersAt pool shape.Text (list_by (kind_of lf) places ts)) (sym is)
      (texts_at pool (each_in text_in ts))

  day_members : (lf : Leaf) (places : ℕ) (ts : Trees ℕ) (d : Day) → lf ≡ leaf.Day d
      → StandsIn pool (list_by (kind_of lf) places ts) → HasMembersAt pool shape.Day (list_by (kind_of lf) places ts)
  day_members lf places ts d is =
      subst (λ lf. StandsIn pool (list_by (kind_of lf) places ts)
      → HasMembersAt pool shape.Day (list_by (kind_of lf) places ts)) (sym is)
      (days_at pool (each_in day_in ts))

  number_members : (lf : Leaf) (places m : ℕ) (ts : Trees ℕ) (n : Decimal) → lf ≡ leaf.Number n
      → StandsIn pool (list_by (kind_of lf) places ts)
      → HasMembersAt pool (shape.Number places m) (list_by (kind_of lf) places ts)
  number_members lf places m ts n is =
      subst (λ lf. StandsIn pool (list_by (kind_of lf) places ts)
      → HasMembersAt pool (shape.Number places m) (list_by (kind_of lf) places ts)) (sym is)
      (numbers_at pool (record { places = places; counts = each_in (count_in places) ts }) m)

  -- of what is looked for by itself, where the list is of no numbers
  plain_list : (s : Shape) (c : Core) (ts : Trees ℕ) → is_ranked s ≡ true
      → HasShape pool l c s → HasMembersAt pool s (list_by (first_kind ts) 0 ts)
      → HasShape pool l (in_list None c ts) shape.Truth
  plain_list s c ts ranked hx h = among_like s (list_by (first_kind ts) 0 ts) c ranked hx h

  -- the members stand in the pool
  abbrev ListStands : ℕ → Trees ℕ → Type 0
  ListStands places ts = StandsIn pool (list_by (first_kind ts) places ts)

  list_of_texts : (ts : Trees ℕ) (ss : List Shape) → AreLiterals ts
      → shapes_of b false ts ≡ Some ss → list_all (are_alike shape.Text) ss ≡ true
      → ListStands 0 ts → HasMembersAt pool shape.Text (list_by (first_kind ts) 0 ts)
  list_of_texts no_trees ss are e alike stands = none_at pool shape.Text 0 stands
  list_of_texts (trees t ts) ss are e alike stands =
      let h = are_first b t ts ss are.0 e in
      let a =
      both (are_alike shape.Text h.one) (list_all (are_alike shape.Text) h.more)
      (ap (list_all (are_alike shape.Text)) (sym h.are) ∙ alike) in
      let n = text_leaf b h.lf h.one h.literal h.first a.0 in
      subst (λ t. ListStands 0 (trees t ts)
      → HasMembersAt pool shape.Text (list_by (first_kind (trees t ts)) 0 (trees t ts)))
      (sym h.is_leaf)
      (text_members h.lf 0 (trees (node h.at (leaf_of h.lf) h.parts) ts) n.0 n.1) stands

  list_of_days : (ts : Trees ℕ) (ss : List Shape) → AreLiterals ts
      → shapes_of b false ts ≡ Some ss → list_all (are_alike shape.Day) ss ≡ true
      → ListStands 0 ts → HasMembersAt pool shape.Day (list_by (first_kind ts) 0 ts)
  list_of_days no_trees ss are e alike stands = none_at pool shape.Day 0 stands
  list_of_days (trees t ts) ss are e alike stands =
      let h = are_first b t ts ss are.0 e in
      let a =
      both (are_alike shape.Day h.one) (list_all (are_alike shape.Day) h.more)
      (ap (list_all (are_alike shape.Day)) (sym h.are) ∙ alike) in
      let n = day_leaf b h.lf h.one h.literal h.first a.0 in
      subst (λ t. ListStands 0 (trees t ts)
      → HasMembersAt pool shape.Day (list_by (first_kind (trees t ts)) 0 (trees t ts)))
      (sym h.is_leaf)
      (day_members h.lf 0 (trees (node h.at (leaf_of h.lf) h.parts) ts) n.0 n.1) stands

  list_of_numbers : (p m q k : ℕ) (ts : Trees ℕ) (ss : List Shape) → AreLiterals ts
      → shapes_of b false ts ≡ Some ss → list_all (are_alike (shape.Number p m)) ss ≡ true
      → ListStands q ts → HasMembersAt pool (shape.Number q k) (list_by (first_kind ts) q ts)
  list_of_numbers p m q k no_trees ss are e alike stands =
      none_at pool (shape.Number q k) q stands
  list_of_numbers p m q k (trees t ts) ss are e alike stands =
      let h = are_first b t ts ss are.0 e in
      let a =
      both (are_alike (shape.Number p m) h.one) (list_all (are_alike (shape.Number p m)) h.more)
      (ap (list_all (are_alike (shape.Number p m))) (sym h.are) ∙ alike) in
      let n = number_leaf b p m h.lf h.one h.literal h.first a.0 in
      subst (λ t. ListStands q (trees t ts)
      → HasMembersAt pool (shape.Number q k) (list_by (first_kind (trees t ts)) q (trees t ts)))
      (sym h.is_leaf)
      (number_members h.lf q k (trees (node h.at (leaf_of h.lf) h.parts) ts) n.0 n.1) stands

  -- a number is brought to the greatest count of decimals
  number_list : (p m : ℕ) (u : Shape) (x : Core) (ts : Trees ℕ) (ss : List Shape)
      → AreLiterals ts → shapes_of b false ts ≡ Some ss → IsListed (shape.Number p m) u ss
      → HasShape pool l x (shape.Number p m) → ListStands (most_places p ts) ts
      → HasShape pool l (in_list (Some p) x ts) shape.Truth
  number_list p m u x ts ss are e h hx stands = by (machine.aligned q (shape.Number p m)) refl held
    where
      q : ℕ
      q = most_places p ts

      held : is_ok (machine.aligned q (shape.Number p m)) ≡ true
      held =
          ap (λ q. is_ok (machine.aligned q (shape.Number p m))) (sym (most_is b p m p ts ss are e h.alike))
          ∙ h.held

      of_fitting : (s t : Shape) → fitting s ≡ Ok t → t ≡ s
      of_fitting = fits_as

      as_number : (s : Shape) → machine.aligned q (shape.Number p m) ≡ Ok s
          → s ≡ shape.Number q (m * 10 ^ (q - p))
      as_number s made =
          of_fitting (shape.Number q (m * 10 ^ (q - p))) s
          (sym (ap (λ b. cond b (fitting (shape.Number q (m * 10 ^ (q - p)))) (Err Kind))
          (le-leb p q (more_places b p ts)))
          ∙ made)

      by : (r : Ruled) → machine.aligned q (shape.Number p m) ≡ r → is_ok r ≡ true
          → HasShape pool l (in_list (Some p) x ts) shape.Truth
      by (Ok s) made ok =
          let has = aligned_shape pool l p q m s x (more_places b p ts) hx made in
          among_like (shape.Number q (m * 10 ^ (q - p))) (list_by (first_kind ts) q ts)
          (aligned (Some p) q x) refl
          (subst (HasShape pool l (aligned (Some p) q x)) (as_number s made) has)
          (list_of_numbers p m q (m * 10 ^ (q - p)) ts ss are e h.alike stands)
      by (Err f) made ok = cc

  -- IN with a list that has a type is a truth value
  pub list_shape : (s u : Shape) (x : Core) (ts : Trees ℕ) (ss : List Shape) → AreLiterals ts
      → shapes_of b false ts ≡ Some ss → one_of s ss ≡ Ok u → HasShape pool l x s
      → AllByRecursion (StandsIn pool) (used (in_list (places_in (Some s)) x ts))
      → HasShape pool l (in_list (places_in (Some s)) x ts) u
  list_shape s u x ts ss are e made hx stands =
      let h = is_listed s u ss made in
      subst (HasShape pool l (in_list (places_in (Some s)) x ts)) (sym h.is_truth)
      (by s h hx stands)
    where
      last : (xs : List Constant) (c : Constant) → AllByRecursion (StandsIn pool) (xs ++ c ∷ [])
          → StandsIn pool c
      last [] c h = h.0
      last (y ∷ ys) c h = last ys c h.1

      by : (s : Shape) → IsListed s u ss → HasShape pool l x s
          → AllByRecursion (StandsIn pool) (used (in_list (places_in (Some s)) x ts))
          → HasShape pool l (in_list (places_in (Some s)) x ts) shape.Truth
      by shape.Text h hx st =
          plain_list shape.Text x ts refl hx
          (list_of_texts ts ss are e h.alike (last (used x) (list_by (first_kind ts) 0 ts) st))
      by shape.Day h hx st =
          plain_list shape.Day x ts refl hx
          (list_of_days ts ss are e h.alike (last (used x) (list_by (first_kind ts) 0 ts) st))
      by (shape.Number p m) h hx st =
          number_list p m u x ts ss are e h hx
          (last (used (aligned (Some p) (most_places p ts) x))
          (list_by (first_kind ts) (most_places p ts) ts) st)
      by shape.Truth h hx st = absurd (unlike h.itself)
        where
          unlike : are_alike shape.Truth shape.Truth ≡ true → ⊥
          unlike e = cc
      by shape.Set h hx st = absurd (unlike h.itself)
        where
          unlike : are_alike shape.Set shape.Set ≡ true → ⊥
          unlike e = cc
      by (shape.Amount p m) h hx st = absurd (unlike h.itself)
        where
          unlike : are_alike (shape.Amount p m) (shape.Amount p m) ≡ true → ⊥
          unlike e = cc
      by (shape.Position p m) h hx st = absurd (unlike h.itself)
        where
          unlike : are_alike (shape.Position p m) (shape.Position p m) ≡ true → ⊥
          unlike e = cc
      by (shape.Inventory q p m) h hx st = absurd (unlike h.itself)
        where
          unlike : are_alike (shape.Inventory q p m) (shape.Inventory q p m) ≡ true → ⊥
          unlike e = cc
