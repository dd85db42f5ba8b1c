use Rattle.std.proofs.Common.{◌≡◌, ◌≤◌, ◌+◌, ◌++◌, ap, drop, get_or, length, map, slice_index_or}
use Rattle.std.proofs.Common.{subst, sym, ◌∙◌}
use Rattle.std.specs.Vec.{with_items}
use Rattle.std.proofs.lemmas.List.{get_or_default, with_items_is}
use Rattle.query_answer.proofs.MovedFacts.{ArePicking, lies_at_number, lies_here, number_there}
use Rattle.query_answer.proofs.MovedFacts.{one_more, picked_on}
use Rattle.query_answer.specs.Spans.{IsSameAround, rows_in, span_at, values_in}
use Rattle.query_answer.proofs.rows.moved.Goals as goal

pub move_span-requires-clause-up : goal.move_span-requires-clause-up
move_span-requires-clause-up c =
    let i = c.loop-lies.lies-index in
    let numbers = c.args.numbers.now in
    let ss = c.args.spans.items in
    let lying = c.as_slice-lies-items.result.now in
    let s = get_or lying i (record { start = 0; end = 0 }) in
    let all : lying ≡ map (span_at ss) numbers =
    c.as_slice-lies-items.ensures.value ∙ c.in_ok-lying.ensures
    ∙ ap (λ l. map (span_at l) numbers) c.as_slice.ensures.value in
    let split = one_more numbers i (number_there ss lying numbers i all c.loop-lies-test.true) in
    let lies = lies_at_number ss lying numbers i s all c.loop-lies-test.true
    (get_or_default lying i (record { start = 0; end = 0 }) s c.loop-lies-test.true)
    c.loop-lies.invariant.still in
    (lies_here (rows_in c.args.values.items c.args.spans.items) numbers c.loop-lies.left.items c.loop-lies.values.items ss
    c.loop-lies.moved.items (drop i numbers) (drop (i + 1) numbers) (slice_index_or numbers i 0)
    c.loop-lies.invariant split s lies).ends

pub move_span-requires-clause-inside : goal.move_span-requires-clause-inside
move_span-requires-clause-inside c =
    let i = c.loop-lies.lies-index in
    let numbers = c.args.numbers.now in
    let ss = c.args.spans.items in
    let lying = c.as_slice-lies-items.result.now in
    let s = get_or lying i (record { start = 0; end = 0 }) in
    let all : lying ≡ map (span_at ss) numbers =
    c.as_slice-lies-items.ensures.value ∙ c.in_ok-lying.ensures
    ∙ ap (λ l. map (span_at l) numbers) c.as_slice.ensures.value in
    let split = one_more numbers i (number_there ss lying numbers i all c.loop-lies-test.true) in
    let lies = lies_at_number ss lying numbers i s all c.loop-lies-test.true
    (get_or_default lying i (record { start = 0; end = 0 }) s c.loop-lies-test.true)
    c.loop-lies.invariant.still in
    subst (λ l. s.end ≤ length l) (sym c.deref_mut.ensures.value)
    (lies_here (rows_in c.args.values.items c.args.spans.items) numbers c.loop-lies.left.items c.loop-lies.values.items ss
    c.loop-lies.moved.items (drop i numbers) (drop (i + 1) numbers) (slice_index_or numbers i 0)
    c.loop-lies.invariant split s lies).within

pub loop-lies-preserved : goal.loop-lies-preserved
loop-lies-preserved c =
    let i = c.loop-lies.lies-index in
    let numbers = c.args.numbers.now in
    let ss = c.args.spans.items in
    let lying = c.as_slice-lies-items.result.now in
    let s = get_or lying i (record { start = 0; end = 0 }) in
    let all : lying ≡ map (span_at ss) numbers =
    c.as_slice-lies-items.ensures.value ∙ c.in_ok-lying.ensures
    ∙ ap (λ l. map (span_at l) numbers) c.as_slice.ensures.value in
    let split = one_more numbers i (number_there ss lying numbers i all c.loop-lies-test.true) in
    let lies = lies_at_number ss lying numbers i s all c.loop-lies-test.true
    (get_or_default lying i (record { start = 0; end = 0 }) s c.loop-lies-test.true)
    c.loop-lies.invariant.still in
    let left = c.loop-lies.left in
    let from = c.move_span.new.from in
    let ws = c.move_span.new.to.items in
    let same = subst (λ l. IsSameAround s l from) c.deref_mut.ensures.value c.move_span.ensures.left in
    let kept : (with_items left from).items ≡ from =
    with_items_is left from (same.count ∙ sym left.ok.0) in
    subst (λ l. ArePicking (rows_in c.args.values.items c.args.spans.items) numbers l ws ss c.push.new.self.items (drop (i + 1) numbers))
    (sym kept)
    (picked_on (rows_in c.args.values.items c.args.spans.items) numbers left.items c.loop-lies.values.items ss c.loop-lies.moved.items
    (drop i numbers) (drop (i + 1) numbers) (slice_index_or numbers i 0) c.loop-lies.invariant split s
    lies from ws c.in_ok-span.span c.push.new.self.items
    (subst (λ l. ws ≡ c.loop-lies.values.items ++ values_in l s) c.deref_mut.ensures.value
    c.in_ok-span.ensures.moved)
    c.in_ok-span.ensures.lies c.in_ok-push.ensures.items same)
