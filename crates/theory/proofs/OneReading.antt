-- What can be read in one way part by part can be read in one way as a whole.
use Rattle.std.proofs.Common.{inl, inr, ◌≡◌, Bool, false, ◌||◌, List, [], ◌∷◌, Option, Some, None}
use Rattle.std.proofs.Common.{refl, sym, ◌∙◌, ap, subst}
use Rattle.theory.specs.Form.{Form, word, made, ◌<+>◌, behind, closed, checked, related}
use Rattle.theory.specs.Form.{due, either, ending, ItemsRead, steps, row, Reads, Is, IsUnambiguous}
use Rattle.theory.proofs.FormFacts.{IsExact, Follows, Stops, Tells, Avoids, either_false}
use Rattle.theory.proofs.FormFacts.{reads_word, reads_applied, reads_behind, reads_closed}
use Rattle.theory.proofs.FormFacts.{reads_checked, reads_related, reads_due}
use Rattle.theory.proofs.FormFacts.{reads_not_due, reads_left, reads_right, reads_ending}
use Rattle.theory.proofs.RowFacts.{Separates, BeginsRow, EndsItems, InRow, items_follow, first_ends}
use Rattle.theory.proofs.RowFacts.{row_ends, row_begins, row_goes_on, row_is_read}

pub one_value : {L V : Type 0} (a : Form L V) (ls : List L) (v w : V) → IsUnambiguous a
    → a.goes_on [] ≡ false → Is a ls v → Is a ls w → v ≡ w
one_value a ls v w one ends p q = ((one ls v [] p ends).only w [] q ends).0

pub one_word : {L V : Type 0} (make : V → L) → IsExact make → IsUnambiguous (word make)
one_word make exact ls v rest p ends = reads_word make ls v rest exact p

pub one_made : {L V : Type 0} (v : V) → IsUnambiguous (made {L = L} v)
one_made v ls w rest p ends =
    record { read = p; only = λ x after q e. (p.0 ∙ sym q.0, sym p.1 ∙ q.1) }

pub one_applied : {L V W : Type 0} (f : Form L (V → W)) (a : Form L V) → Follows f a
    → IsUnambiguous f → IsUnambiguous a → IsUnambiguous (f <+> a)
one_applied f a follows one_f one_a ls w rest p ends =
    let both_end = either_false (f.goes_on rest) (a.goes_on rest) ends in
    subst (λ x. Reads (f <+> a) ls x rest) (sym p.5)
    (reads_applied f a ls p.0 p.2 p.1 rest follows
    (one_f ls p.0 p.2 p.3 (follows p.2 p.1 rest p.4 both_end.0 both_end.1))
    (one_a p.2 p.1 rest p.4 both_end.1))

pub one_behind : {L V : Type 0} (l : L) (a : Form L V) → IsUnambiguous a
    → IsUnambiguous (behind l a)
one_behind l a one ls v rest p ends = reads_behind l a ls p.0 v rest p.1 (one p.0 v rest p.2 ends)

pub one_closed : {L V : Type 0} (l : L) (a : Form L V) → Stops l a → IsUnambiguous a
    → IsUnambiguous (closed l a)
one_closed l a stops one ls v rest p ends =
    reads_closed l a ls v (l ∷ rest) rest stops (one ls v (l ∷ rest) p (stops rest)) refl

pub one_checked : {L V W : Type 0} (f : V → Option W) (a : Form L V) → IsUnambiguous a
    → IsUnambiguous (checked f a)
one_checked f a one ls w rest p ends =
    reads_checked f a ls p.0 w rest (one ls p.0 rest p.1 ends) p.2

pub one_related : {L V W : Type 0} (R : V → W → Type 0) (a : Form L V)
    → ((v : V) (w x : W) → R v w → R v x → w ≡ x) → IsUnambiguous a → IsUnambiguous (related R a)
one_related R a same one ls w rest p ends =
    reads_related R a ls p.0 w rest (one ls p.0 rest p.1 ends) p.2 (λ x q. same p.0 w x p.2 q)

pub one_due : {L V : Type 0} (begins : List L → Bool) (a : Form L V) → Tells begins a
    → IsUnambiguous a → IsUnambiguous (due begins a)
one_due begins a tells one ls None rest p ends =
    subst (λ m. Reads (due begins a) ls None m) p.0
    (reads_not_due begins a ls tells (ap begins p.0 ∙ p.1))
one_due begins a tells one ls (Some v) rest p ends =
    reads_due begins a ls v rest (tells ls v rest p) (one ls v rest p ends)

pub one_either : {L V : Type 0} (begins : List L → Bool) (a b : Form L V) → Tells begins a
    → Avoids begins b → IsUnambiguous a → IsUnambiguous b → IsUnambiguous (either a b)
one_either begins a b tells avoids one_a one_b ls v rest (inl p) ends =
    reads_left begins a b ls v rest avoids (tells ls v rest p)
    (one_a ls v rest p (either_false (a.goes_on rest) (b.goes_on rest) ends).0)
one_either begins a b tells avoids one_a one_b ls v rest (inr p) ends =
    reads_right begins a b ls v rest tells (avoids ls v rest p)
    (one_b ls v rest p (either_false (a.goes_on rest) (b.goes_on rest) ends).1)

pub one_ending : {L V : Type 0} (a : Form L V) → IsUnambiguous a → IsUnambiguous (ending a)
one_ending a one ls v rest p ends = reads_ending a ls v rest (one ls v rest p.0 p.1) p.1

row_through :
    {L V S : Type 0} (begins : List L → Bool) (whole : Form L S) (b : Form L V) (step : S → V
    → S) (ls rest : List L)
    → EndsItems begins b whole → Separates b → Tells begins b → IsUnambiguous b
    → b.goes_on rest ≡ false
    → (vs : List V) (s : S) (mid : List L) → InRow whole b step ls s mid → ItemsRead b mid vs rest
    → InRow whole b step ls (steps step s vs) rest
row_through begins whole b step ls rest stops sep tells one ends [] s mid p q =
    subst (λ m. InRow whole b step ls s m) q p
row_through begins whole b step ls rest stops sep tells one ends (v ∷ vs) s mid p q =
    row_through begins whole b step ls rest stops sep tells one ends vs (step s v) q.0
    (row_goes_on begins whole b step ls s mid v q.0 stops sep tells p
    (one mid v q.0 q.1 (items_follow b vs q.0 rest sep q.2 ends))) q.2

pub one_row :
    {L U V S : Type 0} (begins : List L → Bool) (a : Form L U) (start : U
    → S) (b : Form L V) (step : S → V → S) → BeginsRow a b → Separates b → Tells begins b
    → IsUnambiguous a → IsUnambiguous b → IsUnambiguous (row begins a start b step)
one_row begins a start b step follows sep tells one_a one_b ls s rest p ends =
    let e = either_false (begins rest) (b.goes_on rest || a.goes_on rest) ends in
    let f = either_false (b.goes_on rest) (a.goes_on rest) e.1 in
    let first =
    row_begins begins a start b step ls p.0 p.2 follows
    (one_a ls p.0 p.2 p.3 (first_ends a b p.1 p.2 rest follows p.4 f.1)) in
    let through =
    row_through begins (row begins a start b step) b step ls rest
    (row_ends begins a start b step) sep tells one_b f.0 p.1 (start p.0) p.2 first p.4 in
    subst (λ x. Reads (row begins a start b step) ls x rest) (sym p.5)
    (row_is_read begins (row begins a start b step) b step ls (steps step (start p.0) p.1) rest
    tells through e.0)
