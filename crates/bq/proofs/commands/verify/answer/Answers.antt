use Rattle.std.proofs.Common.{ℕ, [], sym, subst}
use Rattle.std.specs.declared.alloc.Global.{Global}
use Rattle.std.specs.declared.vec.Vec.{Vec}
use Rattle.bq.specs.Due.{ComesTo, at_once}
use Rattle.endings.specs.Refusal.{unread}
use Rattle.bq.specs.Runs.{Finds}
use Rattle.bq.specs.Verified.{about_program}
use Rattle.bq.specs.Verify.{Verifies, verify}
use Rattle.bq.proofs.Outcomes.{converted, not_read, of_bytes}
use Rattle.bq.proofs.commands.verify.answer.Goals as goal

pub returns-in_err-bytes : goal.returns-in_err-bytes
returns-in_err-bytes g c =
    let s = g.S.Source in
    let name = c.args.file.now in
    let r = c.in_err-bytes.field-0.0 in
    subst (Finds s c.args.store.now c.file_bytes.new.store (verify.due name))
    (sym (converted c.from_residual.result (unread r) c.from_residual.ensures.1))
    (not_read s c.args.store.now c.file_bytes.new.store
    (about_program (λ p depth. at_once (Verifies p depth))) name
    (λ (bytes : Vec ℕ Global). bytes.items) r c.in_err-bytes.ensures)

pub returns : goal.returns
returns g c =
    let read = c.in_ok-bytes.ensures in
    let of = about_program (λ p depth. at_once (Verifies p depth)) in
    let result = c.verdict_on.result in (
      read.0,
      read.1,
      of_bytes of c.args.file.now read.0 c.in_ok-bytes.bytes.items read.2 result
          (subst (λ bs. ComesTo (of bs []) result) c.deref.ensures.value c.verdict_on.ensures),
    )
