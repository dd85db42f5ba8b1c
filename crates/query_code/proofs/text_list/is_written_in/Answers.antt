use Rattle.std.proofs.Common.{◌∙◌, List, ℕ, sym, ap, nat_eq}
use Rattle.std.specs.Cmp.Lexicographic.{pointwise}
use Rattle.query_code.proofs.TextListSearch.{all_left, front_is, none_is_left, found_here, left_behind}
use Rattle.query_code.proofs.text_list.is_written_in.Goals as goal

pub loop-written-init : goal.loop-written-init
loop-written-init c = λ n are. all_left c.args.sought.now n c.args.bytes.now are

pub returns-then-eq : goal.returns-then-eq
returns-then-eq c = λ n are.
    let front = c.in-Some.written.now in
    let is = front_is c.args.sought.now n c.args.bytes.now c.loop-written.bytes.now front
    c.in-Some.others.now (c.loop-written.invariant n are) c.in-Some.ensures in
    sym (found_here c.args.sought.now n c.args.bytes.now front c.in-Some.others.now is
    (ap (λ (s : List ℕ). pointwise nat_eq s front) (sym c.as_bytes.ensures.value)
    ∙ sym c.eq.ensures ∙ c.if-eq.true))

pub loop-written-preserved : goal.loop-written-preserved
loop-written-preserved c = λ n are.
    let front = c.in-Some.written.now in
    let is = front_is c.args.sought.now n c.args.bytes.now c.loop-written.bytes.now front
    c.in-Some.others.now (c.loop-written.invariant n are) c.in-Some.ensures in
    left_behind c.args.sought.now n c.args.bytes.now front c.in-Some.others.now is
    (ap (λ (s : List ℕ). pointwise nat_eq s front) (sym c.as_bytes.ensures.value)
    ∙ sym c.eq.ensures ∙ c.if-eq.false)

pub returns : goal.returns
returns c = λ n are.
    sym (none_is_left c.args.sought.now n c.args.bytes.now c.loop-written.bytes.now
    (c.loop-written.invariant n are) c.in_default.ensures)
