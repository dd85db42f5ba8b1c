-- What calls and lists stand for.
use Rattle.std.specs.Prelude.{ℕ, ◌==◌, ◌&&◌, max, Bool, true, false, List, [], ◌∷◌, ◌++◌, ℤ, pos}
use Rattle.std.specs.Prelude.{negsuc, nat_le, codes, Option, Some, None, Result, Ok, Err}
use Rattle.std.specs.Prelude.{if◌then◌else◌}
use Rattle.std.specs.Str.{str_eq_ignore_ascii_case}
use Rattle.limits.specs.declared.counts.TheConstants.{MOST_COMPONENTS}
use Rattle.theory.specs.Form.{steps}
use Rattle.query_terms.specs.declared.decimal.Decimal.{Decimal}
use Rattle.bql_lexer.specs.declared.token.Token.{Token}
use Rattle.bql_tree.specs.Cause.{outside_profile, least, both}
use Rattle.bql_tree.specs.Function.{known}
use Rattle.bql_tree.specs.Part.{Part, not_null, not_too_high, above, unknown, leaf_at}
use Rattle.bql_tree.specs.Tree.{leaf_of, one_of, call_of, Tree, node, no_trees}
use Rattle.bql_tree.specs.Tree.{trees, all_trees}
use Rattle.bql_tree.specs.declared.cause.PartCause.{PartCause}
use Rattle.bql_tree.specs.declared.function.Function as functions
use Rattle.bql_tree.specs.declared.function.Function.TheVariants as function
use Rattle.bql_tree.specs.declared.function.Scope.{Scope}
use Rattle.bql_tree.specs.declared.part.Alone.TheVariants.{No}
use Rattle.bql_tree.specs.declared.tree.MetadataOwner.TheVariants.{Posting, Transaction, Any}
use Rattle.bql_tree.specs.declared.tree.Leaf as leaves
use Rattle.bql_tree.specs.declared.tree.Leaf.TheVariants as leaf
use Rattle.bql_tree.specs.declared.tree.UnaryOperator.TheVariants as unary

abbrev pub is_count : Token → Bool
is_count t = str_eq_ignore_ascii_case t.text (codes "count")

abbrev pub greatest_height : List Part → ℕ
greatest_height ps = steps (λ height p. max p.height height) 0 ps

abbrev pub pushed : Result (List (Tree ℕ) × Tree ℕ) PartCause → Result (List (Tree ℕ)) PartCause
pushed (Ok p) = Ok (p.0 ++ p.1 ∷ [])
pushed (Err c) = Err c

-- one more tree behind those that were found, or the least cause
abbrev pub one_more : Result (List (Tree ℕ)) PartCause → Part → Result (List (Tree ℕ)) PartCause
one_more found p = pushed (both found (not_null p.tree))

-- the trees of some parts, none of which may be a NULL, or the least cause
abbrev pub all_of : List Part → Result (List (Tree ℕ)) PartCause
all_of ps = steps one_more (Ok []) ps

abbrev pub or_at : {A : Type 0} → ℕ → PartCause → Result A PartCause
or_at start c = Err (least c (outside_profile start))

abbrev pub text_in : ℕ → Tree ℕ → Result (List ℕ) PartCause
text_in start (node at (leaf_of (leaf.Text bs)) ts) = Ok bs
text_in start t = Err (outside_profile start)

abbrev pub text_found : ℕ → Result (Tree ℕ) PartCause → Result (List ℕ) PartCause
text_found start (Ok t) = text_in start t
text_found start (Err c) = or_at start c

-- a text literal, as a key or a pattern; what is none is refused at its first byte
abbrev pub text_of : Part → Result (List ℕ) PartCause
text_of p = text_found p.start p.tree

abbrev pub keyed : functions.Function → List ℕ → leaves.Leaf
keyed function.Meta key = leaf.Meta Posting key
keyed function.EntryMeta key = leaf.Meta Transaction key
keyed function.AnyMeta key = leaf.Meta Any key
keyed f key = leaf.HasAccount key

abbrev pub takes_key : functions.Function → Bool
takes_key function.Meta = true
takes_key function.EntryMeta = true
takes_key function.AnyMeta = true
takes_key function.HasAccount = true
takes_key f = false

-- a whole number from 1 to 255
abbrev pub components_of : ℤ → Option ℕ
components_of (pos n) = if nat_le 1 n && nat_le n MOST_COMPONENTS then Some n else None
components_of (negsuc n) = None

abbrev pub whole_components : Decimal → Option ℕ
whole_components d = if d.places == 0 then components_of d.count else None

abbrev pub or_outside : ℕ → Option ℕ → Result ℕ PartCause
or_outside start (Some n) = Ok n
or_outside start None = Err (outside_profile start)

abbrev pub components_in : ℕ → Tree ℕ → Result ℕ PartCause
components_in start (node at (leaf_of (leaf.Number d)) ts) = or_outside start (whole_components d)
components_in start t = Err (outside_profile start)

abbrev pub components_found : ℕ → Result (Tree ℕ) PartCause → Result ℕ PartCause
components_found start (Ok t) = components_in start t
components_found start (Err c) = or_at start c

abbrev pub components : Part → Result ℕ PartCause
components p = components_found p.start p.tree

abbrev pub root_tree : ℕ → Result (Tree ℕ × ℕ) PartCause → Result (Tree ℕ) PartCause
root_tree at (Ok p) = Ok (node at (one_of (unary.Root p.1)) (trees p.0 no_trees))
root_tree at (Err c) = Err c

abbrev pub root : ℕ → Part → Part → Result (Tree ℕ) PartCause
root at account count = root_tree at (both (not_null account.tree) (components count))

abbrev pub key_tree : ℕ → functions.Function → Result (List ℕ) PartCause → Result (Tree ℕ) PartCause
key_tree at f (Ok key) = Ok (leaf_at at (keyed f key))
key_tree at f (Err c) = Err c

abbrev pub call_tree : ℕ → functions.Function → Result (List (Tree ℕ)) PartCause → Result (Tree ℕ) PartCause
call_tree at f (Ok ts) = Ok (node at (call_of f) (all_trees ts))
call_tree at f (Err c) = Err c

abbrev pub plain : ℕ → functions.Function → List Part → Result (Tree ℕ) PartCause
plain at f ps = call_tree at f (all_of ps)

-- ROOT of two is of a number of components
abbrev pub rooted : ℕ → functions.Function → List Part → Result (Tree ℕ) PartCause
rooted at function.Root (account ∷ count ∷ []) = root at account count
rooted at f ps = plain at f ps

-- a call of a function that is known: with one argument, metadata and HAS_ACCOUNT are of a text
abbrev pub applied_by : Bool → ℕ → functions.Function → List Part → Result (Tree ℕ) PartCause
applied_by true at f (key ∷ []) = key_tree at f (text_of key)
applied_by true at f ps = plain at f ps
applied_by false at f ps = rooted at f ps

abbrev pub applied : ℕ → functions.Function → List Part → Result (Tree ℕ) PartCause
applied at f ps = applied_by (takes_key f) at f ps

abbrev pub refused_by : {A : Type 0} → PartCause → Result A PartCause → Result (Tree ℕ) PartCause
refused_by c (Ok a) = Err c
refused_by c (Err d) = Err (least d c)

-- a call of a function that isn't known
abbrev pub refused : PartCause → List Part → Result (Tree ℕ) PartCause
refused c ps = refused_by c (all_of ps)

abbrev pub call_by : Token → List Part → Option functions.Function → Result (Tree ℕ) PartCause
call_by name ps (Some f) = applied name.start f ps
call_by name ps None = refused (unknown name) ps

abbrev pub high : ℕ → ℕ → ℕ → Result (Tree ℕ) PartCause → Part
high start end height tree = record {
  start = start;
  end = end;
  height = height;
  alone = No;
  tree = not_too_high start height tree;
}

-- a name with what it is called with
abbrev pub called : Scope → Token → List Part → Token → Part
called scope name ps close = high name.start close.end (above (greatest_height ps))
    (call_by name ps (known scope name.text))

-- whether an expression is one of the items of a list
abbrev pub listed : Part → List Part → Token → Part
listed left items close = high left.start close.end (above left.height)
    (plain left.start function.OneOf (left ∷ items))
