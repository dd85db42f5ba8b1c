-- Directives lead to one stand.
use Rattle.std.proofs.Common.{◌≡◌, ℕ, List, [], ◌∷◌, reverse, sym, ap, ◌∙◌, subst}
use Rattle.bean_directives.specs.declared.directive.Directive.{Directive}
use Rattle.bean_directives.specs.declared.directive.DirectiveKind.{DirectiveKind}
use Rattle.bean_directives.specs.declared.directive.DirectiveKind.TheVariants as kind
use Rattle.bean_loaded.specs.Loaded.{Loaded}
use Rattle.bean_loaded.specs.declared.placed.Placed.{Placed}
use Rattle.bean_reductions.specs.declared.reduction.Method.{Method}
use Rattle.bean_transactions.proofs.OneTrial.{one_trial}
use Rattle.bean_replay.specs.Booked.{bookings_of, faults_of, method_in_ledger}
use Rattle.bean_replay.specs.Stand.{IsStepBy, LeadsTo, Stand, after_trial, setting_of}
use Rattle.bean_replay.specs.Stand.{written_in}

one_step : (m : List ℕ → Method) (past : List (Placed Directive)) (st : Stand)
    (d : Placed Directive) (k : DirectiveKind) (a b : Stand) → IsStepBy m past st d k a
    → IsStepBy m past st d k b → a ≡ b
one_step m past st d (kind.Transaction t) a b h g =
    let w = written_in d t in
    let same = one_trial (setting_of m st w) t.postings h.0 g.0 h.1 g.1 in
    h.2 ∙ ap (after_trial past st w) same ∙ sym g.2
one_step m past st d (kind.Open o) a b h g = h ∙ sym g
one_step m past st d (kind.Close c) a b h g = h ∙ sym g
one_step m past st d (kind.Pad p) a b h g = h ∙ sym g
one_step m past st d (kind.Balance x) a b h g = h ∙ sym g
one_step m past st d (kind.Commodity x) a b h g = h ∙ sym g
one_step m past st d (kind.Note x) a b h g = h ∙ sym g
one_step m past st d (kind.Document x) a b h g = h ∙ sym g
one_step m past st d (kind.Price x) a b h g = h ∙ sym g
one_step m past st d (kind.Event x) a b h g = h ∙ sym g
one_step m past st d (kind.Query x) a b h g = h ∙ sym g
one_step m past st d (kind.Custom x) a b h g = h ∙ sym g

pub one_stand : (m : List ℕ → Method) (past : List (Placed Directive)) (a b : Stand)
    → LeadsTo m past a → LeadsTo m past b → a ≡ b
one_stand m [] a b h g = h ∙ sym g
one_stand m (d ∷ past) a b h g =
    let same = one_stand m past h.0 g.0 h.1 g.1 in
    one_step m past h.0 d d.item.kind a b h.2
    (subst (λ st. IsStepBy m past st d d.item.kind b) (sym same) g.2)

-- and so to one booking, and the same faults
pub one_booking : (l : Loaded) (a b : Stand)
    → LeadsTo (method_in_ledger l) (reverse l.directives) a
    → LeadsTo (method_in_ledger l) (reverse l.directives) b
    → (a ≡ b) × (bookings_of a ≡ bookings_of b) × (faults_of l a ≡ faults_of l b)
one_booking l a b h g =
    let same = one_stand (method_in_ledger l) (reverse l.directives) a b h g in
    (same, ap bookings_of same, ap (faults_of l) same)
