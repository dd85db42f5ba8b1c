-- Directives lead to a booking.
use Rattle.std.proofs.Common.{ℕ, List, [], ◌∷◌, refl}
use Rattle.bean_directives.specs.declared.directive.Directive.{Directive}
use Rattle.bean_directives.specs.declared.directive.DirectiveKind.{DirectiveKind}
use Rattle.bean_directives.specs.declared.directive.DirectiveKind.TheVariants as kind
use Rattle.bean_loaded.specs.declared.placed.Placed.{Placed}
use Rattle.bean_reductions.specs.declared.reduction.Method.{Method}
use Rattle.bean_transactions.proofs.EachLine.{Comes, comes, behind}
use Rattle.bean_transactions.proofs.EachTrial.{each_trial}
use Rattle.bean_replay.specs.Stand.{IsStepBy, LeadsTo, Stand, after_trial, setting_of, start}
use Rattle.bean_replay.specs.Stand.{written_in}

abbrev Step : (List ℕ → Method) → List (Placed Directive) → Stand → Placed Directive → DirectiveKind
    → Type 0
Step m past st d k = (new : Stand) × IsStepBy m past st d k new

each_step :
    (m : List ℕ → Method) (past : List (Placed Directive)) (st : Stand) (d : Placed Directive)
    (k : DirectiveKind) → Comes (Step m past st d k)
each_step m past st d (kind.Transaction t) =
    behind (each_trial (setting_of m st (written_in d t)) t.postings)
    (λ h. comes (after_trial past st (written_in d t) h.0, (h.0, h.1, refl)))
each_step m past st d (kind.Open o) = comes (_, refl)
each_step m past st d (kind.Close c) = comes (_, refl)
each_step m past st d (kind.Pad p) = comes (_, refl)
each_step m past st d (kind.Balance b) = comes (_, refl)
each_step m past st d (kind.Commodity c) = comes (st, refl)
each_step m past st d (kind.Note n) = comes (st, refl)
each_step m past st d (kind.Document c) = comes (st, refl)
each_step m past st d (kind.Price p) = comes (st, refl)
each_step m past st d (kind.Event e) = comes (st, refl)
each_step m past st d (kind.Query q) = comes (st, refl)
each_step m past st d (kind.Custom c) = comes (st, refl)

each_stand : (m : List ℕ → Method) (ds : List (Placed Directive))
    → Comes ((st : Stand) × LeadsTo m ds st)
each_stand m [] = comes (start, refl)
each_stand m (d ∷ past) =
    behind (each_stand m past)
    (λ h. behind (each_step m past h.0 d d.item.kind) (λ k. comes (k.0, (h.0, h.1, k.1))))

pub none_is_left : (m : List ℕ → Method) (ds : List (Placed Directive))
    → ¬ ((st : Stand) → ¬ LeadsTo m ds st)
none_is_left m ds k = each_stand m ds (λ h. k h.0 h.1)
