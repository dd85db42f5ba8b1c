use Rattle.std.proofs.Common.{◌≡◌, ◌≤◌, ◌^◌, length, ℕ, List, MatchOption, Option, arith, subst, sym}
use Rattle.std.proofs.lemmas.List.Folds.{length-flat_map-take}
use Rattle.bean_base.specs.declared.fault.Fault.{Fault}
use Rattle.bean_base.specs.declared.fault.FaultKind.TheVariants.{BadToken}
use Rattle.fault_printer.specs.Lines as spec
use Rattle.fault_printer.proofs.lines.lines_len.Goals as goal

-- where the list has none
abbrev none : Fault
none = record { kind = BadToken; place = record { file = 0; line = 0 } }

abbrev Told : Option ℕ → List ℕ → Type 0
Told o text = MatchOption o (2 ^ 64 ≤ length text) (λ len. len ≡ length text)

pub returns-in_err-line_len : goal.returns-in_err-line_len
returns-in_err-line_len c =
    let at = length-flat_map-take (spec.line_of c.args.files.now) c.args.faults.now
    c.loop-fault.fault-index none c.loop-fault-test.true in
    subst (λ o. Told o (spec.lines_of c.args.files.now c.args.faults.now))
    (sym c.from_residual.ensures) (omega (arith, at, c.in_err-line_len.ensures))

pub returns-in_err-len : goal.returns-in_err-len
returns-in_err-len c =
    let at = length-flat_map-take (spec.line_of c.args.files.now) c.args.faults.now
    c.loop-fault.fault-index none c.loop-fault-test.true in
    subst (λ o. Told o (spec.lines_of c.args.files.now c.args.faults.now))
    (sym c.from_residual-in_err-len.ensures)
    (omega (arith, at, c.in_err-len.ensures, c.in_ok-line_len.ensures, c.loop-fault.invariant))
