-- A note more at a pad.
use Rattle.std.proofs.Common.{◌≡◌, ℕ, zero, suc, ◌<◌, List, [], ◌∷◌, ◌++◌, length, slice_index_or}
use Rattle.std.proofs.Common.{slice_set, ap, ◌∙◌, arith}
use Rattle.bean_pad.specs.Note.{noted_at}
use Rattle.bean_pad.specs.declared.note.Note.{Note}
use Rattle.bean_pad.specs.declared.note.NotedPad.{NotedPad}

pub noted_is : (ps : List NotedPad) (k : ℕ) (note : Note) (p : NotedPad) (ns : List Note)
    → k < length ps → p ≡ slice_index_or ps k p → ns ≡ p.notes ++ note ∷ []
    → slice_set ps k (record { pad = p.pad; day = p.day; place = p.place; notes = ns }) ≡ noted_at k note ps
noted_is [] k note p ns within is notes = absurd (omega arith)
noted_is (q ∷ ps) zero note p ns within is notes =
    λ i. record {
      pad = (is i).pad;
      day = (is i).day;
      place = (is i).place;
      notes =
          (notes ∙ ap (λ (x : NotedPad). x.notes ++ note ∷ []) is) i;
    } ∷ ps
noted_is (q ∷ ps) (suc k) note p ns within is notes =
    ap (λ l. q ∷ l) (noted_is ps k note p ns (omega arith) is notes)
