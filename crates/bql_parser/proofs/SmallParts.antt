-- What is made of small parts is small.
use Rattle.std.proofs.Common.{◌++◌}
use Rattle.std.proofs.Common.{◌≡◌, ℕ, ℤ, pos, negsuc, suc, ◌+◌, ◌≤◌, Bool, true, false, ◌&&◌}
use Rattle.std.proofs.Common.{List, [], ◌∷◌, length, Option, Some, None, IfSome, Result, Ok}
use Rattle.std.proofs.Common.{Err, ap, subst, refl, arith, if◌then◌else◌, ◌==◌}
use Rattle.std.proofs.lemmas.Bool.{leb-true}
use Rattle.std.specs.Prelude.{nat_le}
use Rattle.std.specs.List.{AllByRecursion, find}
use Rattle.std.specs.Str.{str_eq_ignore_ascii_case}
use Rattle.theory.specs.Form.{steps}
use Rattle.bql_lexer.specs.declared.token.Token.{Token}
use Rattle.bql_tree.specs.Call as call
use Rattle.bql_tree.specs.Cause.{both}
use Rattle.bql_tree.specs.Function.{name, named, known, if_known, is_known_in}
use Rattle.bql_tree.specs.Part as parts
use Rattle.bql_tree.specs.Part.{Part}
use Rattle.bql_tree.specs.Tree.{leaf_of, call_of, Tree, node}
use Rattle.bql_tree.specs.Tree.{Trees, all_trees}
use Rattle.bql_tree.specs.declared.cause.PartCause.{PartCause}
use Rattle.bql_tree.specs.declared.function.Function.{Function}
use Rattle.bql_tree.specs.declared.function.Function.TheVariants as function
use Rattle.bql_tree.specs.declared.function.Scope.{Scope}
use Rattle.bql_tree.specs.declared.function.TheConstants.{FUNCTIONS}
use Rattle.bql_tree.specs.declared.tree.BinaryOperator.{BinaryOperator}
use Rattle.bql_tree.specs.declared.tree.BinaryOperator.TheVariants as binary
use Rattle.bql_tree.specs.declared.tree.Leaf.{Leaf}
use Rattle.bql_tree.specs.declared.tree.Leaf.TheVariants as leaf
use Rattle.bql_tree.specs.declared.tree.UnaryOperator.{UnaryOperator}
use Rattle.bql_tree.specs.declared.tree.UnaryOperator.TheVariants as unary
use Rattle.bql_parser.specs.Small.{IsShort, IsSmallLeaf, IsSmallUnary, IsSmallIn, IsSmallTree}
use Rattle.bql_parser.specs.Small.{AreSmallTrees, count, IsLiteral, AreLiterals}
use Rattle.bql_parser.proofs.SmallForms.{all_pushed, pushed_length}

-- P holds of what is found
abbrev pub Found : {A : Type 0} → (A → Type 0) → Result A PartCause → Type 0
Found P (Ok a) = P a
Found P (Err c) = Unit {0}

abbrev pub IsSmallPart : Part → Type 0
IsSmallPart p = Found IsSmallTree p.tree

-- ---- heights and NULL

high_by : {A : Type 0} (P : A → Type 0) (start : ℕ) (r : Result A PartCause) (low : Bool) → Found P r
    → Found P (if low then r else parts.too_high start r)
high_by P start r true h = h
high_by P start (Ok a) false h = tt
high_by P start (Err c) false h = tt

pub high_found : {A : Type 0} (P : A → Type 0) (start height : ℕ) (r : Result A PartCause) → Found P r
    → Found P (parts.not_too_high start height r)
high_found P start height r h = high_by P start r (nat_le height 200) h

unless_found : (P : Tree ℕ → Type 0) (o : Option ℕ) (t : Tree ℕ) → P t
    → Found P (parts.unless_null o t)
unless_found P (Some at) t h = tt
unless_found P None t h = h

pub not_null_found : (P : Tree ℕ → Type 0) (r : Result (Tree ℕ) PartCause) → Found P r
    → Found P (parts.not_null r)
not_null_found P (Ok t) h = unless_found P (parts.null_at t) t h
not_null_found P (Err c) h = tt

abbrev pub Both : {A B : Type 0} → (A → Type 0) → (B → Type 0) → A × B → Type 0
Both P Q p = P p.0 × Q p.1

pub both_found : {A B : Type 0} (P : A → Type 0) (Q : B → Type 0) (a : Result A PartCause)
    (b : Result B PartCause) → Found P a → Found Q b → Found (Both P Q) (both a b)
both_found P Q (Ok a) (Ok b) h k = (h, k)
both_found P Q (Ok a) (Err d) h k = tt
both_found P Q (Err c) (Ok b) h k = tt
both_found P Q (Err c) (Err d) h k = tt

-- ---- parts of one token

pub leaf_small : (t : Token) (l : Leaf) → IsSmallLeaf l → IsSmallPart (parts.leaf t l)
leaf_small t l h = (h, tt)

column_found : (t : Token) (o : Option _) → Found IsSmallTree (parts.column_tree t o)
column_found t (Some c) = (tt, tt)
column_found t None = tt

pub name_small : (scope : Scope) (t : Token) → IsSmallPart (parts.name scope t)
name_small scope t = column_found t (parts.column scope t)

pub rows_small : (name close : Token) → IsSmallPart (parts.rows name close)
rows_small name close = (tt, tt)

-- ---- operations

pub around_small : (start end : ℕ) (inner : Part) → IsSmallPart inner
    → IsSmallPart (parts.around start end inner)
around_small start end inner h =
    high_found IsSmallTree start (parts.above inner.height) inner.tree h

one_found : (at : ℕ) (op : UnaryOperator) (r : Result (Tree ℕ) PartCause) → IsSmallUnary op
    → Found IsSmallTree r → Found IsSmallTree (parts.one_tree at op r)
one_found at op (Ok x) small h = (small, (h, tt))
one_found at op (Err c) small h = tt

one_small : (start end : ℕ) (op : UnaryOperator) (inner : Part) → IsSmallUnary op → IsSmallPart inner
    → IsSmallPart (parts.one start end op inner)
one_small start end op inner small h =
    one_found start op
    (parts.not_too_high start (parts.above inner.height) (parts.not_null inner.tree)) small
    (high_found IsSmallTree start (parts.above inner.height) (parts.not_null inner.tree)
    (not_null_found IsSmallTree inner.tree h))

pub denied_small : (word : Token) (inner : Part) → IsSmallPart inner
    → IsSmallPart (parts.denied word inner)
denied_small word inner h = one_small word.start inner.end unary.Not inner tt h

pub signed_small : (sign : Token) (is_minus : Bool) (inner : Part) → IsSmallPart inner
    → IsSmallPart (parts.signed sign is_minus inner)
signed_small sign true inner h = one_small sign.start inner.end unary.Minus inner tt h
signed_small sign false inner h = around_small sign.start inner.end inner h

pub matched_small : (inner : Part) (pattern : Token) → IsShort pattern.text → IsSmallPart inner
    → IsSmallPart (parts.matched inner pattern)
matched_small inner pattern short h =
    one_small inner.start pattern.end (unary.Matches pattern.text) inner short h

abbrev AreSmallSides : Tree ℕ × Tree ℕ → Type 0
AreSmallSides p = Both IsSmallTree IsSmallTree p

nulls_found : (a b : Option ℕ) (x y : Tree ℕ) → IsSmallTree x → IsSmallTree y
    → Found AreSmallSides (parts.with_nulls a b x y)
nulls_found (Some a) (Some b) x y h k = tt
nulls_found (Some a) None x y h k = (h, k)
nulls_found None b x y h k = (h, k)

equated_found : (a b : Result (Tree ℕ) PartCause) → Found IsSmallTree a → Found IsSmallTree b
    → Found AreSmallSides (parts.equated a b)
equated_found (Ok x) (Ok y) h k = nulls_found (parts.null_at x) (parts.null_at y) x y h k
equated_found (Ok x) (Err d) h k = tt
equated_found (Err c) (Ok y) h k = tt
equated_found (Err c) (Err d) h k = tt

plain_sides : (a b : Result (Tree ℕ) PartCause) → Found IsSmallTree a → Found IsSmallTree b
    → Found AreSmallSides (both (parts.not_null a) (parts.not_null b))
plain_sides a b h k =
    both_found IsSmallTree IsSmallTree (parts.not_null a) (parts.not_null b)
    (not_null_found IsSmallTree a h) (not_null_found IsSmallTree b k)

sides_found : (op : BinaryOperator) (a b : Result (Tree ℕ) PartCause) → Found IsSmallTree a
    → Found IsSmallTree b → Found AreSmallSides (parts.sides op a b)
sides_found binary.Equal a b h k = equated_found a b h k
sides_found binary.NotEqual a b h k = equated_found a b h k
sides_found op a b h k = plain_sides a b h k

two_found : (at : ℕ) (op : BinaryOperator) (r : Result (Tree ℕ × Tree ℕ) PartCause) → Found AreSmallSides r
    → Found IsSmallTree (parts.two_tree at op r)
two_found at op (Ok p) h = (tt, (h.0, (h.1, tt)))
two_found at op (Err c) h = tt

two_high_small : (height : ℕ) (op : BinaryOperator) (left right : Part) → IsSmallPart left
    → IsSmallPart right → IsSmallPart (parts.two_high height op left right)
two_high_small height op left right h k =
    two_found left.start op
    (parts.not_too_high left.start height (parts.sides op left.tree right.tree))
    (high_found AreSmallSides left.start height (parts.sides op left.tree right.tree)
    (sides_found op left.tree right.tree h k))

pub two_small : (op : BinaryOperator) (left right : Part) → IsSmallPart left → IsSmallPart right
    → IsSmallPart (parts.two op left right)
two_small op left right h k = two_high_small _ op left right h k

-- ---- keys, patterns and counts of components

text_in_short : (start : ℕ) (t : Tree ℕ) → IsSmallTree t → Found IsShort (call.text_in start t)
text_in_short start (node at (leaf_of (leaf.Text bs)) ts) h = h.0
text_in_short start t h = tt

text_short : (start : ℕ) (r : Result (Tree ℕ) PartCause) → Found IsSmallTree r
    → Found IsShort (call.text_found start r)
text_short start (Ok t) h = text_in_short start t h
text_short start (Err c) h = tt

keyed_small : (f : Function) (key : List ℕ) → IsShort key → IsSmallLeaf (call.keyed f key)
keyed_small function.Meta key h = h
keyed_small function.EntryMeta key h = h
keyed_small function.AnyMeta key h = h
keyed_small f key h = h

key_found : (at : ℕ) (f : Function) (r : Result (List ℕ) PartCause) → Found IsShort r
    → Found IsSmallTree (call.key_tree at f r)
key_found at f (Ok key) h = (keyed_small f key h, tt)
key_found at f (Err c) h = tt

abbrev IsCount : ℕ → Type 0
IsCount n = (1 ≤ n) × (n ≤ 255)

abbrev MayCount : Option ℕ → Type 0
MayCount o = IfSome o IsCount

count_by : (n : ℕ) (a b : Bool) → nat_le 1 n ≡ a → nat_le n 255 ≡ b
    → MayCount (if a && b then Some n else None)
count_by n true true h k = (leb-true 1 n h, leb-true n 255 k)
count_by n true false h k = tt
count_by n false b h k = tt

counts : (z : ℤ) → MayCount (call.components_of z)
counts (pos n) = count_by n (nat_le 1 n) (nat_le n 255) refl refl
counts (negsuc n) = tt

whole_by : (whole : Bool) (z : ℤ) → MayCount (if whole then call.components_of z else None)
whole_by true z = counts z
whole_by false z = tt

outside_found : (start : ℕ) (o : Option ℕ) → MayCount o → Found IsCount (call.or_outside start o)
outside_found start (Some n) h = h
outside_found start None h = tt

components_in : (start : ℕ) (t : Tree ℕ) → Found IsCount (call.components_in start t)
components_in start (node at (leaf_of (leaf.Number d)) ts) =
    outside_found start (call.whole_components d) (whole_by (d.places == 0) d.count)
components_in start t = tt

components_found : (start : ℕ) (r : Result (Tree ℕ) PartCause)
    → Found IsCount (call.components_found start r)
components_found start (Ok t) = components_in start t
components_found start (Err c) = tt

root_found : (at : ℕ) (r : Result (Tree ℕ × ℕ) PartCause) → Found (Both IsSmallTree IsCount) r
    → Found IsSmallTree (call.root_tree at r)
root_found at (Ok p) h = (h.1, (h.0, tt))
root_found at (Err c) h = tt

-- ---- lists of trees

abbrev AreTrees : ℕ → List (Tree ℕ) → Type 0
AreTrees n ts = AllByRecursion IsSmallTree ts × (length ts ≡ n)

pushed_found : (n : ℕ) (r : Result (List (Tree ℕ) × Tree ℕ) PartCause)
    → Found (Both (AreTrees n) IsSmallTree) r → Found (AreTrees (n + 1)) (call.pushed r)
pushed_found n (Ok p) h =
    let l = pushed_length p.0 p.1 in
    let e = h.0.1 in
    (all_pushed IsSmallTree p.0 p.1 h.0.0 h.1, omega (arith, l, e))
pushed_found n (Err c) h = tt

one_more_found : (n : ℕ) (r : Result (List (Tree ℕ)) PartCause) (p : Part) → Found (AreTrees n) r
    → IsSmallPart p → Found (AreTrees (n + 1)) (call.one_more r p)
one_more_found n r p h k =
    pushed_found n (both r (parts.not_null p.tree))
    (both_found (AreTrees n) IsSmallTree r (parts.not_null p.tree) h
    (not_null_found IsSmallTree p.tree k))

all_from : (n m : ℕ) (r : Result (List (Tree ℕ)) PartCause) (ps : List Part) → Found (AreTrees n) r
    → AllByRecursion IsSmallPart ps → m ≡ n + length ps
    → Found (AreTrees m) (steps call.one_more r ps)
all_from n m r [] h all e = subst (λ k. Found (AreTrees k) r) (omega (arith, e)) h
all_from n m r (p ∷ ps) h all e =
    all_from (n + 1) m (call.one_more r p) ps (one_more_found n r p h all.0) all.1
    (omega (arith, e))

all_found : (ps : List Part) → AllByRecursion IsSmallPart ps
    → Found (AreTrees (length ps)) (call.all_of ps)
all_found ps all = all_from 0 (length ps) (Ok []) ps (tt, refl) all (omega arith)

small_all : (ts : List (Tree ℕ)) → AllByRecursion IsSmallTree ts → AreSmallTrees (all_trees ts)
small_all [] h = tt
small_all (t ∷ ts) h = (h.0, small_all ts h.1)

count_all : (ts : List (Tree ℕ)) → count (all_trees ts) ≡ length ts
count_all [] = refl
count_all (t ∷ ts) = ap suc (count_all ts)

-- ---- calls

-- a function that isn't that of a list
abbrev IsNoList : Function → Type 0
IsNoList function.OneOf = ⊥
IsNoList f = Unit {0}

by_name : (f : Function) → IsNoList f → (ts : Trees ℕ) → IsSmallIn (call_of f) ts
by_name function.OneOf h ts = absurd h
by_name f h ts = tt

call_found : (at : ℕ) (f : Function) (n : ℕ) (r : Result (List (Tree ℕ)) PartCause) → IsNoList f
    → Found (AreTrees n) r → Found IsSmallTree (call.call_tree at f r)
call_found at f n (Ok ts) h k = (by_name f h (all_trees ts), small_all ts k.0)
call_found at f n (Err c) h k = tt

plain_found : (at : ℕ) (f : Function) (ps : List Part) → IsNoList f
    → AllByRecursion IsSmallPart ps → Found IsSmallTree (call.plain at f ps)
plain_found at f ps h all = call_found at f (length ps) (call.all_of ps) h (all_found ps all)

two_rooted : (at : ℕ) (account number : Part) → IsSmallPart account
    → Found IsSmallTree (call.root at account number)
two_rooted at account number h =
    root_found at (both (parts.not_null account.tree) (call.components number))
    (both_found IsSmallTree IsCount (parts.not_null account.tree) (call.components number)
    (not_null_found IsSmallTree account.tree h)
    (components_found number.start number.tree))

rooted_found : (at : ℕ) (f : Function) (ps : List Part) → IsNoList f
    → AllByRecursion IsSmallPart ps → Found IsSmallTree (call.rooted at f ps)
rooted_found at function.Root [] h all = plain_found at function.Root [] h all
rooted_found at function.Root (p ∷ []) h all = plain_found at function.Root (p ∷ []) h all
rooted_found at function.Root (p ∷ q ∷ []) h all = two_rooted at p q all.0
rooted_found at function.Root (p ∷ q ∷ r ∷ ps) h all =
    plain_found at function.Root (p ∷ q ∷ r ∷ ps) h all
rooted_found at f ps h all = plain_found at f ps h all

applied_by_found : (takes : Bool) (at : ℕ) (f : Function) (ps : List Part) → IsNoList f
    → AllByRecursion IsSmallPart ps → Found IsSmallTree (call.applied_by takes at f ps)
applied_by_found true at f [] h all = plain_found at f [] h all
applied_by_found true at f (key ∷ []) h all =
    key_found at f (call.text_of key) (text_short key.start key.tree all.0)
applied_by_found true at f (p ∷ q ∷ ps) h all = plain_found at f (p ∷ q ∷ ps) h all
applied_by_found false at f ps h all = rooted_found at f ps h all

refused_found : {A : Type 0} (P : Tree ℕ → Type 0) (c : PartCause) (r : Result A PartCause)
    → Found P (call.refused_by c r)
refused_found P c (Ok a) = tt
refused_found P c (Err d) = tt

-- no name is that of a list

found_among : (P : Function → Type 0) (test : Function → Bool) (fs : List Function)
    → AllByRecursion P fs → IfSome (find test fs) P
found_among P test [] all = tt
found_among P test (f ∷ fs) all = one_or (test f) P f (find test fs) all.0 (found_among P test fs all.1)
  where
    one_or : (is : Bool) (P : Function → Type 0) (f : Function) (o : Option Function) → P f
        → IfSome o P → IfSome (if◌then◌else◌ is (Some f) o) P
    one_or true P f o h k = h
    one_or false P f o h k = k

all_named : AllByRecursion IsNoList FUNCTIONS
all_named =
    (tt, (tt, (tt, (tt, (tt, (tt, (tt, (tt, (tt, (tt, (tt, (tt, (tt, (tt, (tt, (tt, (tt, (tt, (tt, (tt, (tt, (tt, tt))))))))))))))))))))))

known_by : (is : Bool) (f : Function) → IsNoList f → IfSome (if is then Some f else None) IsNoList
known_by true f h = h
known_by false f h = tt

if_known_no_list : (scope : Scope) (o : Option Function) → IfSome o IsNoList
    → IfSome (if_known scope o) IsNoList
if_known_no_list scope (Some f) h = known_by (is_known_in scope f) f h
if_known_no_list scope None h = tt

known_no_list : (scope : Scope) (bs : List ℕ) → IfSome (known scope bs) IsNoList
known_no_list scope bs =
    if_known_no_list scope (named bs)
    (found_among IsNoList (λ f. str_eq_ignore_ascii_case bs (name f)) FUNCTIONS all_named)

call_by_found : (t : Token) (ps : List Part) (o : Option Function) → IfSome o IsNoList
    → AllByRecursion IsSmallPart ps → Found IsSmallTree (call.call_by t ps o)
call_by_found t ps (Some f) h all = applied_by_found (call.takes_key f) t.start f ps h all
call_by_found t ps None h all = refused_found IsSmallTree (parts.unknown t) (call.all_of ps)

high_small : (start end height : ℕ) (r : Result (Tree ℕ) PartCause) → Found IsSmallTree r
    → IsSmallPart (call.high start end height r)
high_small start end height r h = high_found IsSmallTree start height r h

pub called_small : (scope : Scope) (t : Token) (ps : List Part) (close : Token)
    → AllByRecursion IsSmallPart ps → IsSmallPart (call.called scope t ps close)
called_small scope t ps close all =
    high_small t.start close.end (parts.above (call.greatest_height ps))
    (call.call_by t ps (known scope t.text))
    (call_by_found t ps (known scope t.text) (known_no_list scope t.text) all)

-- ---- lists

abbrev pub IsLiteralPart : Part → Type 0
IsLiteralPart p = Found IsLiteral p.tree

-- behind the first all are literals
abbrev HaveMembers : List (Tree ℕ) → Type 0
HaveMembers [] = ⊥
HaveMembers (t ∷ ts) = AllByRecursion IsLiteral ts

member_pushed : (ts : List (Tree ℕ)) (t : Tree ℕ) → HaveMembers ts → IsLiteral t
    → HaveMembers (ts ++ t ∷ [])
member_pushed [] t h k = absurd h
member_pushed (u ∷ ts) t h k = all_pushed IsLiteral ts t h k

members_pushed : (r : Result (List (Tree ℕ) × Tree ℕ) PartCause)
    → Found (Both HaveMembers IsLiteral) r → Found HaveMembers (call.pushed r)
members_pushed (Ok p) h = member_pushed p.0 p.1 h.0 h.1
members_pushed (Err c) h = tt

members_from : (r : Result (List (Tree ℕ)) PartCause) (ps : List Part) → Found HaveMembers r
    → AllByRecursion IsLiteralPart ps → Found HaveMembers (steps call.one_more r ps)
members_from r [] h all = h
members_from r (p ∷ ps) h all =
    members_from (call.one_more r p) ps
    (members_pushed (both r (parts.not_null p.tree))
    (both_found HaveMembers IsLiteral r (parts.not_null p.tree) h
    (not_null_found IsLiteral p.tree all.0))) all.1

-- what is looked for, before any member
first_alone : (r : Result (Tree ℕ) PartCause) → Found HaveMembers (call.pushed (both (Ok []) r))
first_alone (Ok t) = tt
first_alone (Err c) = tt

members_found : (left : Part) (items : List Part) → AllByRecursion IsLiteralPart items
    → Found HaveMembers (call.all_of (left ∷ items))
members_found left items all =
    members_from (call.one_more (Ok []) left) items (first_alone (parts.not_null left.tree)) all

literals_all : (ts : List (Tree ℕ)) → AllByRecursion IsLiteral ts → AreLiterals (all_trees ts)
literals_all [] h = tt
literals_all (t ∷ ts) h = (h.0, literals_all ts h.1)

members_few : (n : ℕ) (ts : List (Tree ℕ)) → length ts ≡ suc n → 1 ≤ n → n ≤ 65535
    → HaveMembers ts → IsSmallIn (call_of function.OneOf) (all_trees ts)
members_few n [] e some few h = absurd h
members_few n (t ∷ ts) e some few h =
    let c = count_all ts in
    (omega (arith, c, e, some), omega (arith, c, e, few), literals_all ts h)

list_found : (at n : ℕ) (r : Result (List (Tree ℕ)) PartCause) → 1 ≤ n → n ≤ 65535
    → Found (AreTrees (suc n)) r → Found HaveMembers r
    → Found IsSmallTree (call.call_tree at function.OneOf r)
list_found at n (Ok ts) some few h k = (members_few n ts h.1 some few k, small_all ts h.0)
list_found at n (Err c) some few h k = tt

pub listed_small : (left : Part) (items : List Part) (close : Token) → IsSmallPart left
    → AllByRecursion IsSmallPart items → 1 ≤ length items → length items ≤ 65535
    → AllByRecursion IsLiteralPart items → IsSmallPart (call.listed left items close)
listed_small left items close h all some few literals =
    high_small left.start close.end (parts.above left.height)
    (call.plain left.start function.OneOf (left ∷ items))
    (list_found left.start (length items) (call.all_of (left ∷ items)) some few
    (all_found (left ∷ items) (h, all)) (members_found left items literals))
