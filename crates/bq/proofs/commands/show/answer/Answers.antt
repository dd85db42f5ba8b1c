use Rattle.std.proofs.Common.{ℕ, [], refl, sym, subst}
use Rattle.std.specs.declared.alloc.Global.{Global}
use Rattle.std.specs.declared.vec.Vec.{Vec}
use Rattle.bq.specs.Due.{ComesTo, at_once}
use Rattle.endings.specs.Refusal.{unread}
use Rattle.bq.specs.Runs.{Finds}
use Rattle.bq.specs.Show.{Shows, show}
use Rattle.bq.proofs.Outcomes.{converted, not_read, of_bytes, within}
use Rattle.bq.proofs.commands.show.answer.Goals as goal

pub returns-in_err-bytes : goal.returns-in_err-bytes
returns-in_err-bytes g c =
    let s = g.S.Source in
    let name = c.args.file.now in
    let r = c.in_err-bytes.field-0.0 in
    subst (Finds s c.args.store.now c.file_bytes.new.store (show.due name))
    (sym (converted c.from_residual.result (unread r) c.from_residual.ensures.1))
    (not_read s c.args.store.now c.file_bytes.new.store (λ bytes. at_once (Shows bytes)) name
    (λ (bytes : Vec ℕ Global). bytes.items) r c.in_err-bytes.ensures)

pub returns : goal.returns
returns g c =
    let read = c.in_ok-bytes.ensures in
    let bytes = c.in_ok-bytes.bytes.items in (
      read.0,
      read.1,
      of_bytes (λ bs. at_once (Shows bs)) c.args.file.now read.0 bytes read.2 c.listing_of.result
          (within (Shows bytes) (at_once (Shows bytes) []) (λ end is. (refl, is)) c.listing_of.result
          (subst (λ bs. ComesTo (Shows bs) c.listing_of.result) c.deref.ensures.value
          c.listing_of.ensures)),
    )
