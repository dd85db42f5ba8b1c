-- What is kept while directives are taken.
use Rattle.std.specs.Prelude.{◌≡◌, ◌≤◌, ◌+◌, ◌^◌, ℕ, Bool, List, [], ◌∷◌, ◌++◌, length}
use Rattle.std.specs.Prelude.{Option, Some, None}
use Rattle.limits.specs.declared.counts.TheConstants.{MOST_POSTINGS}
use Rattle.bean_accounts.specs.Kept as accounts
use Rattle.bean_accounts.specs.Log.{asked_for, is_kept}
use Rattle.bean_directives.specs.declared.directive.Directive.{Directive}
use Rattle.bean_directives.specs.declared.directive.DirectiveKind.{DirectiveKind}
use Rattle.bean_directives.specs.declared.directive.DirectiveKind.TheVariants as kind
use Rattle.bean_directives.specs.declared.transaction.Transaction.{Transaction}
use Rattle.bean_loaded.specs.declared.placed.Placed.{Placed}
use Rattle.bean_reductions.specs.declared.reduction.Method.{Method}
use Rattle.bean_pad.specs.Following as following
use Rattle.bean_pad.specs.Following.{Follows, steps_in}
use Rattle.bean_pad.specs.declared.step.Step.{Step}
use Rattle.bean_holdings.specs.Holdings as holdings
use Rattle.bean_holdings.specs.Holdings.{AreHeld, additions_in}
use Rattle.bean_accounts.specs.Methods.{method_in}
use Rattle.bean_replay.specs.Stand.{LeadsTo, Stand, account_steps, postings_of, steps_of_postings}
use Rattle.bean_replay.specs.Stand.{written_in}
use Rattle.bean_replay.specs.Watched.{unseen_of}
use Rattle.bean_replay.specs.declared.booker.Booker.{Booker}
use Rattle.bean_holdings.specs.declared.posted.Posted.{Posted}
use Rattle.bean_replay.specs.Draft.{Draft}
use Rattle.bean_replay.specs.Draft as draft
use Rattle.bean_replay.specs.declared.written.WrittenParts.{WrittenParts as Written}
use Rattle.bean_replay.specs.declared.bookings.Bookings.{Ghosts as BookingsOf}

-- whether postings are watched, and whether faults are kept
abbrev pub asks : Booker → Bool × Bool
asks b = (b.watched, is_kept b.faults)

-- so many directives, and as many postings as a ledger may have, can't have made a sum too great
pub record HasRoom (n : ℕ) (b : Booker) : Type 0 where
  pub bounded : holdings.IsBounded b.holdings
  pub near : following.IsBounded b.padder
  pub few : additions_in b.holdings ≤ MOST_POSTINGS
  pub steps : steps_in b.padder ≤ n + additions_in b.holdings

-- it stands where directives lead that are past, the latest of which stands first
pub record IsStanding (m : List ℕ → Method) (past : List (Placed Directive)) (st : Stand)
    (b : Booker) : Type 0 where
  pub methods : (a : List ℕ) → m a ≡ method_in b.methods a
  pub accounts : accounts.IsKept (account_steps past) b.accounts
  pub held : AreHeld (postings_of st.drafts) b.holdings
  pub count : additions_in b.holdings ≡ length (postings_of st.drafts)
  pub seen : List Step
  pub follows : Follows seen b.padder
  pub steps_are : st.steps ≡ steps_of_postings (unseen_of b.watched (postings_of st.drafts)) ++ seen
  pub faults_are : b.faults ≡ asked_for (is_kept b.faults) st.faults
  pub room : HasRoom (length past) b

-- this holds of it, wherever directives led to where it stands
abbrev pub Wherever : Booker → ((List ℕ → Method) → List (Placed Directive) → Stand → Type 0)
    → Type 0
Wherever b P =
    (m : List ℕ → Method) (past : List (Placed Directive)) (st : Stand) → IsStanding m past st b
    → P m past st

-- it stands where some directives lead, no more than memory holds
pub record Stands (b : Booker) : Type 0 where
  pub method_of : List ℕ → Method
  pub past : List (Placed Directive)
  pub stand : Stand
  pub is : IsStanding method_of past stand b
  pub few : length past ≤ 2 ^ 39

-- ---- what is booked of a directive, if anything

abbrev pub drafts_in : Option Draft → List Draft
drafts_in None = []
drafts_in (Some d) = d ∷ []

-- this transaction is written in a directive
abbrev pub IsWritten : Placed Directive → Written → Type 0
IsWritten d w = (t : Transaction) × (d.item.kind ≡ kind.Transaction t) × (w ≡ written_in d t)

-- the place of a pad, if a directive is one
abbrev pub pad_in : DirectiveKind → Option Draft
pad_in (kind.Pad p) = Some draft.Pad
pad_in other = None

-- a transaction, with the postings that it is booked as if it is kept
abbrev pub draft_of : Written → Option (List Posted) → Option Draft
draft_of w None = None
draft_of w (Some posted) = Some (draft.Transaction (record { written = w; postings = posted }))

-- one directive later it stands there, and this was booked of the directive
pub record IsBehind (m : List ℕ → Method) (past : List (Placed Directive)) (old new : Stand)
    (booked : Option Draft) (b : Booker) : Type 0 where
  pub stands : IsStanding m past new b
  pub adds : new.drafts ≡ old.drafts ++ drafts_in booked

-- directives led to a stand; it stands there, and all that is booked was handed over
pub record IsLed {S : Type 0} (o : BookingsOf S) (m : List ℕ → Method)
    (past : List (Placed Directive)) (st : Stand) (b : Booker) (s : S) : Type 0 where
  pub leads : LeadsTo m past st
  pub stands : IsStanding m past st b
  pub taken : o.has_taken s st.drafts
