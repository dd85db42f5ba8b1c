use Rattle.std.proofs.Common.{ℕ, Ok, Err, sym, subst}
use Rattle.std.specs.declared.alloc.Global.{Global}
use Rattle.std.specs.declared.vec.Vec.{Vec}
use Rattle.query_files.specs.Files.{IsNotAccepted, Outlines}
use Rattle.bq.specs.Accepted.{AcceptsFile}
use Rattle.endings.specs.Refusal.{unaccepted, unread}
use Rattle.bq.specs.Verified.{about_program}
use Rattle.bq.proofs.Outcomes.{converted, not_accepted, not_read, of_bytes}
use Rattle.bq.proofs.commands.batch.accepted_file.Goals as goal

pub returns-in_err-bytes : goal.returns-in_err-bytes
returns-in_err-bytes g c =
    let s = g.S.Source in
    let a = c.args.store.now in
    let b = c.file_bytes.new.store in
    let name = c.args.name.now in
    let r = c.in_err-bytes.field-0.0 in
    subst (AcceptsFile s a b name)
    (sym (converted c.from_residual.result (unread r) c.from_residual.ensures.1))
    (not_read s a b (about_program (λ p depth readings end. ⊥)) name
    (λ (bytes : Vec ℕ Global). bytes.items) r c.in_err-bytes.ensures)

pub returns-in_err-outlined : goal.returns-in_err-outlined
returns-in_err-outlined g c =
    let s = g.S.Source in
    let a = c.args.store.now in
    let b = c.file_bytes.new.store in
    let name = c.args.name.now in
    let read = c.in_ok-bytes.ensures in
    let bytes = c.in_ok-bytes.bytes.items in
    let r = c.in_err-outlined.field-0.0 in
    let step = c.from_residual-in_err-outlined in
    let checks =
    subst (λ bs. IsNotAccepted bs r) c.deref.ensures.value c.in_err-outlined.ensures in
    subst (AcceptsFile s a b name) (sym (converted step.result (unaccepted r) step.ensures.1)) (
      read.0,
      read.1,
      of_bytes (about_program (λ p depth readings end. ⊥)) name read.0 bytes read.2
          (Err (unaccepted r)) (not_accepted (λ p depth readings end. ⊥) bytes r checks),
    )

pub returns : goal.returns
returns g c =
    let s = g.S.Source in
    let a = c.args.store.now in
    let b = c.file_bytes.new.store in
    let name = c.args.name.now in
    let read = c.in_ok-bytes.ensures in
    let bytes = c.in_ok-bytes.bytes.items in
    let of =
    subst (λ bs. Outlines bs (Ok c.in_ok-outlined.field-0)) c.deref.ensures.value
    c.in_ok-outlined.ensures in
    subst (λ bs. AcceptsFile s a b name (Ok bs)) (sym c.new.ensures)
    (read.0, read.1, read.2, ((of.0, of.1), of.2))
