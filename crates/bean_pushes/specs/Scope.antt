-- Pushes and pops: which pushes are taken back, and what is given to the transactions between.
use Rattle.std.specs.Prelude.{ℕ, suc, ◌-◌, ◌&&◌, Bool, true, false, List, [], ◌∷◌, ◌++◌}
use Rattle.std.specs.Prelude.{length, take, slice_get, Option, Some, None, nat_le, nat_lt}
use Rattle.std.specs.Prelude.{if◌then◌else◌}
use Rattle.std.specs.Str.{bytes_eq}
use Rattle.bean_base.specs.declared.fault.Fault as faults
use Rattle.bean_base.specs.declared.fault.FaultKind.TheVariants.{UnmatchedPushOrPop}
use Rattle.bean_directives.specs.Given.{with_pushed}
use Rattle.bean_directives.specs.declared.directive.Directive.{Directive}
use Rattle.bean_directives.specs.declared.undated.Bound.{Bound}
use Rattle.bean_directives.specs.declared.undated.Bound.TheVariants.{Push, Pop}
use Rattle.bean_directives.specs.declared.undated.Pushed.{Pushed}
use Rattle.bean_directives.specs.declared.undated.Pushed.TheVariants as pushed
use Rattle.bean_directives.specs.declared.undated.PushName.{PushName}
use Rattle.bean_directives.specs.declared.undated.PushName.TheVariants as names
use Rattle.bean_pushes.specs.declared.scope.PlacedBound.{PlacedBound}

-- a tag is its own name, and an entry has its key's
abbrev pub name_of : Pushed → PushName
name_of (pushed.Tag t) = names.Tag t
name_of (pushed.Entry e) = names.Key e.key

abbrev pub same_name : PushName → PushName → Bool
same_name (names.Tag t) (names.Tag u) = bytes_eq t u
same_name (names.Key k) (names.Key l) = bytes_eq k l
same_name (names.Tag t) (names.Key l) = false
same_name (names.Key k) (names.Tag u) = false

-- what a bound is a bound of
abbrev pub name_in : Bound → PushName
name_in (Push p) = name_of p
name_in (Pop name) = name

-- Of some bounds, how many pops of a name take back pushes that stand before all of them: a push
-- of the name takes one of the pops behind it for itself.

abbrev pub pops_before : PushName → Bound → ℕ → ℕ
pops_before name (Push p) count = if same_name (name_of p) name then count - 1 else count
pops_before name (Pop n) count = if same_name n name then suc count else count

abbrev pub pops_left : PushName → List PlacedBound → ℕ
pops_left name [] = 0
pops_left name (b ∷ bs) = pops_before name b.bound (pops_left name bs)

-- The pushes of a name that are open behind a bound, and behind some, the latest last: a pop takes
-- back the latest, and a pop of nothing none.

abbrev pub open_behind : PushName → List Pushed → Bound → List Pushed
open_behind name pushes (Push p) = if same_name (name_of p) name then pushes ++ p ∷ [] else pushes
open_behind name pushes (Pop n) = if same_name n name then take (length pushes - 1) pushes else pushes

abbrev pub open_pushes : PushName → List Pushed → List PlacedBound → List Pushed
open_pushes name pushes [] = pushes
open_pushes name pushes (b ∷ bs) = open_pushes name (open_behind name pushes b.bound) bs

-- a push has a pop behind it, and a pop an open push before it
abbrev pub is_matched : List PlacedBound → Bound → List PlacedBound → Bool
is_matched before (Push p) behind = nat_lt 0 (pops_left (name_of p) behind)
is_matched before (Pop n) behind = nat_lt 0 (length (open_pushes n [] before))

-- the file is 0, since a text doesn't know which of a ledger's it is
abbrev pub unmatched_at : ℕ → faults.Fault
unmatched_at line =
    record { kind = UnmatchedPushOrPop; place = record { file = 0; line = line } }

abbrev pub fault_unless : Bool → ℕ → List faults.Fault
fault_unless true line = []
fault_unless false line = unmatched_at line ∷ []

-- F4 at each bound that isn't matched
abbrev pub unmatched : List PlacedBound → List PlacedBound → List faults.Fault
unmatched before [] = []
unmatched before (b ∷ bs) =
    fault_unless (is_matched before b.bound bs) b.line ++ unmatched (before ++ b ∷ []) bs

-- those from one place up to another get what is pushed; the list's first has the place i
abbrev pub given_between : Pushed → ℕ → ℕ → ℕ → List Directive → List Directive
given_between p from to i [] = []
given_between p from to i (d ∷ ds) =
    (if nat_le from i && nat_lt i to then with_pushed p d else d)
    ∷ given_between p from to (suc i) ds

-- the place of the next bound of a name; 0 where there is none
abbrev pub next_of : PushName → List PlacedBound → ℕ
next_of name [] = 0
next_of name (b ∷ bs) = if same_name (name_in b.bound) name then b.place else next_of name bs

-- up to where the latest push of a name that is open before some bounds gives: up to the next of
-- its name, where one of them takes it back
abbrev pub reach_of : PushName → List PlacedBound → Option ℕ
reach_of name bs = if nat_lt 0 (pops_left name bs) then Some (next_of name bs) else None

abbrev pub given_up_to : Option Pushed → ℕ → Option ℕ → List Directive → List Directive
given_up_to (Some p) from (Some to) ds = given_between p from to 0 ds
given_up_to _ from _ ds = ds

abbrev pub latest : List Pushed → Option Pushed
latest pushes = slice_get pushes (length pushes - 1)

-- From each bound up to the next of its name the latest push of the name that is open gives, if it
-- is taken back. So of each name a transaction is given at most one.
abbrev pub given_behind : List PlacedBound → PlacedBound → List PlacedBound → List Directive
    → List Directive
given_behind before b behind ds =
    given_up_to (latest (open_pushes (name_in b.bound) [] (before ++ b ∷ []))) b.place
    (reach_of (name_in b.bound) behind) ds

abbrev pub with_pushes : List PlacedBound → List PlacedBound → List Directive → List Directive
with_pushes before [] ds = ds
with_pushes before (b ∷ bs) ds =
    with_pushes (before ++ b ∷ []) bs (given_behind before b bs ds)
