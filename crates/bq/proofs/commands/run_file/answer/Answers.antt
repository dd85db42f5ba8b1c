use Rattle.std.proofs.Common.{ℕ, ◌++◌, sym, subst}
use Rattle.std.specs.declared.alloc.Global.{Global}
use Rattle.std.specs.declared.vec.Vec.{Vec}
use Rattle.stores.proofs.GaveFacts.{gave_behind}
use Rattle.bq.specs.Due.{ComesTo}
use Rattle.endings.specs.Refusal.{unread}
use Rattle.bq.specs.RunFile.{of_bytes, run}
use Rattle.bq.specs.Runs.{Finds}
use Rattle.bq.proofs.Outcomes.{converted, not_read, of_bytes_and}
use Rattle.bq.proofs.commands.run_file.answer.Goals as goal

pub returns-in_err-bytes : goal.returns-in_err-bytes
returns-in_err-bytes g c =
    let s = g.S.Source in
    let file = c.args.file.now in
    let ledger = c.args.ledger.now in
    let r = c.in_err-bytes.field-0.0 in
    subst (Finds s c.args.store.now c.file_bytes.new.store (run.due (file, ledger)))
    (sym (converted c.from_residual.result (unread r) c.from_residual.ensures.1))
    (not_read s c.args.store.now c.file_bytes.new.store (of_bytes ledger) file
    (λ (bytes : Vec ℕ Global). bytes.items) r c.in_err-bytes.ensures)

pub returns : goal.returns
returns g c =
    let read = c.in_ok-bytes.ensures in
    let found = c.answer_of.ensures in
    let of = of_bytes c.args.ledger.now in
    let result = c.answer_of.result in (
      read.0 ++ found.0,
      gave_behind g.S.Source c.args.store.now c.file_bytes.new.store c.answer_of.new.store read.0
          found.0 read.1 found.1,
      of_bytes_and of c.args.file.now read.0 found.0 c.in_ok-bytes.bytes.items read.2 result
          (subst (λ bs. ComesTo (of bs found.0) result) c.deref.ensures.value found.2),
    )
