-- One more directive.
use Rattle.std.proofs.Common.{◌≡◌, ℕ, suc, ◌+◌, List, [], ◌∷◌, ◌++◌, length}
use Rattle.std.proofs.Common.{None, Option, Result, refl, sym, ap, ◌∙◌, subst, arith}
use Rattle.std.specs.declared.vec.Vec.{Vec}
use Rattle.std.specs.declared.alloc.Global.{Global}
use Rattle.bean_accounts.specs.Kept.{IsKept}
use Rattle.bean_base.specs.declared.days.Day.{Day}
use Rattle.bean_base.specs.declared.span.Place.{Place}
use Rattle.bean_directives.specs.declared.accounts.Close as closes
use Rattle.bean_directives.specs.declared.accounts.Open as opens
use Rattle.bean_directives.specs.declared.accounts.Pad as pads
use Rattle.bean_directives.specs.declared.directive.Directive.{Directive}
use Rattle.bean_directives.specs.declared.directive.DirectiveKind.{DirectiveKind}
use Rattle.bean_directives.specs.declared.directive.DirectiveKind.TheVariants as kind
use Rattle.bean_directives.specs.declared.numbers.Balance as balances
use Rattle.bean_directives.specs.declared.transaction.Transaction.{Transaction}
use Rattle.bean_holdings.specs.declared.posted.Posted.{Posted}
use Rattle.bean_interp.specs.declared.scales.Scales.{Scales}
use Rattle.bean_loaded.specs.declared.placed.Placed.{Placed}
use Rattle.bean_reductions.specs.declared.reduction.Method.{Method}
use Rattle.bean_transactions.specs.Lines.{IsSettled}
use Rattle.bean_transactions.specs.Tried.{Tries}
use Rattle.bean_transactions.specs.declared.stop.LineFault.{LineFault}
use Rattle.bean_replay.specs.Booker.{HasRoom, IsBehind, IsStanding, IsWritten, pad_in}
use Rattle.bean_replay.specs.Stand.{IsFull, IsStepBy, Stand, account_step, account_steps}
use Rattle.bean_replay.specs.Stand.{after_trial, setting_of, written_in}
use Rattle.bean_replay.specs.declared.booker.Booker.{Booker}
use Rattle.bean_replay.specs.Draft.{Draft}
use Rattle.bean_replay.specs.declared.written.WrittenParts.{WrittenParts as Written}

-- the setting of a transaction is what the program has
pub settled : (m : List ℕ → Method) (past : List (Placed Directive)) (st : Stand) (w : Written)
    (b : Booker) (day : Day) (at : Place) → day ≡ w.day → at ≡ w.place → IsStanding m past st b
    → IsSettled (setting_of m st w) b.holdings b.methods (record { day = day; line = at.line })
settled m past st w b day at same there is = record {
  held = is.held;
  methods = is.methods;
  head_is = λ k. record { day = sym same k; line = (sym there k).line };
}

-- so many directives and one more have as much room
pub one_more : (n : ℕ) (b : Booker) → HasRoom n b → HasRoom (n + 1) b
one_more n b room = record {
  bounded = room.bounded;
  near = room.near;
  few = room.few;
  steps = let few = room.steps in omega (arith, few);
}

-- scales are used again, and memory is: neither says anything of what is booked
pub reweighed : (m : List ℕ → Method) (past : List (Placed Directive)) (st : Stand) (b : Booker)
    (s : Scales) (v : Vec Posted Global) → IsStanding m past st b
    → IsStanding m past st (record b { scales = s; spare = v })
reweighed m past st b s v is = record {
  methods = is.methods;
  accounts = is.accounts;
  held = is.held;
  count = is.count;
  seen = is.seen;
  follows = is.follows;
  steps_are = is.steps_are;
  faults_are = is.faults_are;
  room = record {
    bounded = is.room.bounded;
    near = is.room.near;
    few = is.room.few;
    steps = is.room.steps;
  };
}

-- what happens to no account leaves them as they are
pub later : (m : List ℕ → Method) (past : List (Placed Directive)) (st : Stand)
    (d : Placed Directive) (b : Booker) → account_step d.item.kind ≡ []
    → IsStanding m past st b → IsStanding m (d ∷ past) st b
later m past st d b e is = record {
  methods = is.methods;
  accounts = subst (λ l. IsKept (l ++ account_steps past) b.accounts) (sym e) is.accounts;
  held = is.held;
  count = is.count;
  seen = is.seen;
  follows = is.follows;
  steps_are = is.steps_are;
  faults_are = is.faults_are;
  room = subst (λ n. HasRoom n b) (next (length past)) (one_more (length past) b is.room);
}
  where
    next : (n : ℕ) → n + 1 ≡ suc n
    next n = omega arith

-- a directive of that kind was taken
pub stepped : (m : List ℕ → Method) (past : List (Placed Directive)) (st new : Stand)
    (d : Placed Directive) (k : DirectiveKind) (b : Booker) (booked : Option Draft)
    → d.item.kind ≡ k → IsStepBy m past st d k new → account_step k ≡ []
    → IsBehind m past st new booked b
    → (new : Stand) × IsStepBy m past st d d.item.kind new × IsBehind m (d ∷ past) st new booked b
stepped m past st new d k b booked e step none behind = (
  new,
  subst (λ k. IsStepBy m past st d k new) (sym e) step,
  record { stands = later m past new d b (ap account_step e ∙ none) behind.stands; adds = behind.adds },
)

-- a transaction was taken, with what is booked of it
pub booked_step : (m : List ℕ → Method) (past : List (Placed Directive)) (st : Stand)
    (d : Placed Directive) (w : Written) (booked : Option Draft) (b : Booker) → IsWritten d w
    → ((r : Result (List Posted) LineFault) × Tries (setting_of m st w) w.transaction.postings r
    × IsBehind m past st (after_trial past st w r) booked b)
    → (new : Stand) × IsStepBy m past st d d.item.kind new × IsBehind m (d ∷ past) st new booked b
booked_step m past st d w booked b own done =
    let t = own.0 in
    stepped m past st (after_trial past st (written_in d t) done.0) d (kind.Transaction t) b booked
    own.1 (
      done.0,
      subst (λ w. Tries (setting_of m st w) w.transaction.postings done.0) own.2 done.1,
      refl,
    ) refl
    (subst (λ w. IsBehind m past st (after_trial past st w done.0) booked b) own.2 done.2)

-- where a transaction fills the books, its directive does
pub full_step : (m : List ℕ → Method) (past : List (Placed Directive)) (st : Stand)
    (d : Placed Directive) (w : Written) → IsWritten d w → (new : Stand)
    → IsStepBy m past st d d.item.kind new
    → ((r : Result (List Posted) LineFault) → Tries (setting_of m st w) w.transaction.postings r
    → IsFull (after_trial past st w r))
    → IsFull new
full_step m past st d w own new step full =
    let by = subst (λ k. IsStepBy m past st d k new) own.1 step in
    let tries =
    subst (λ w. Tries (setting_of m st w) w.transaction.postings by.0) (sym own.2) by.1 in
    subst IsFull (sym by.2)
    (subst (λ w. IsFull (after_trial past st w by.0)) own.2 (full by.0 tries))

-- other directives do nothing
pub other : (m : List ℕ → Method) (past : List (Placed Directive)) (st : Stand)
    (d : Placed Directive) (k : DirectiveKind)
    → ((t : Transaction) → ¬ (k ≡ kind.Transaction t)) → ((o : opens.Open) → ¬ (k ≡ kind.Open o))
    → ((c : closes.Close) → ¬ (k ≡ kind.Close c)) → ((p : pads.Pad) → ¬ (k ≡ kind.Pad p))
    → ((b : balances.Balance) → ¬ (k ≡ kind.Balance b))
    → IsStepBy m past st d k st × (account_step k ≡ [])
other m past st d (kind.Transaction t) ht ho hc hp hb = absurd (ht t refl)
other m past st d (kind.Open o) ht ho hc hp hb = absurd (ho o refl)
other m past st d (kind.Close c) ht ho hc hp hb = absurd (hc c refl)
other m past st d (kind.Pad p) ht ho hc hp hb = absurd (hp p refl)
other m past st d (kind.Balance b) ht ho hc hp hb = absurd (hb b refl)
other m past st d (kind.Commodity x) ht ho hc hp hb = (refl, refl)
other m past st d (kind.Note x) ht ho hc hp hb = (refl, refl)
other m past st d (kind.Document x) ht ho hc hp hb = (refl, refl)
other m past st d (kind.Price x) ht ho hc hp hb = (refl, refl)
other m past st d (kind.Event x) ht ho hc hp hb = (refl, refl)
other m past st d (kind.Query x) ht ho hc hp hb = (refl, refl)
other m past st d (kind.Custom x) ht ho hc hp hb = (refl, refl)

-- a directive that is no pad hands none over
pub no_pad : (k : DirectiveKind) → ((p : pads.Pad) → ¬ (k ≡ kind.Pad p)) → pad_in k ≡ None
no_pad (kind.Pad p) h = absurd (h p refl)
no_pad (kind.Transaction x) h = refl
no_pad (kind.Open x) h = refl
no_pad (kind.Close x) h = refl
no_pad (kind.Balance x) h = refl
no_pad (kind.Commodity x) h = refl
no_pad (kind.Note x) h = refl
no_pad (kind.Document x) h = refl
no_pad (kind.Price x) h = refl
no_pad (kind.Event x) h = refl
no_pad (kind.Query x) h = refl
no_pad (kind.Custom x) h = refl
