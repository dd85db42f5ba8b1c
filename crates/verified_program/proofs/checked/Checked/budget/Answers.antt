use Rattle.std.proofs.Common.{length, arith, ap}
use Rattle.verified_program.proofs.SectionLengths.{are_short, small}
use Rattle.verified_program.proofs.checked.Checked.budget.Goals as goal

pub overflow_mul-result : goal.overflow_mul-result
overflow_mul-result c =
    let t = are_short c.args.self.now.program.parts c.args.self.now.program.has_file in
    let f = ap length c.filter.ensures in
    let r = ap length c.row.ensures in
    let n = small c.args.postings (length c.filter.result.now) (length c.row.result.now) c.ranges.postings.fits (omega (arith, f, t.filter)) (omega (arith, r, t.row)) in
    omega (arith, n)

pub overflow_mul-result-2 : goal.overflow_mul-result-2
overflow_mul-result-2 c =
    let t = are_short c.args.self.now.program.parts c.args.self.now.program.has_file in
    let l = ap length c.last.ensures in
    let n = small c.args.groups (length c.last.result.now) 0 c.ranges.groups.fits (omega (arith, l, t.last)) (omega arith) in
    omega (arith, n)

pub overflow_add-result : goal.overflow_add-result
overflow_add-result c =
    let t = are_short c.args.self.now.program.parts c.args.self.now.program.has_file in
    let f = ap length c.filter.ensures in
    let r = ap length c.row.ensures in
    let l = ap length c.last.ensures in
    let n = small c.args.postings (length c.filter.result.now) (length c.row.result.now) c.ranges.postings.fits (omega (arith, f, t.filter)) (omega (arith, r, t.row)) in
    let m = small c.args.groups (length c.last.result.now) 0 c.ranges.groups.fits (omega (arith, l, t.last)) (omega arith) in
    omega (arith, n, m)
