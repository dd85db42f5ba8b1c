use Rattle.std.proofs.Common.{◌≡◌, ◌<◌, length, take, arith, sym, ap, subst, ◌∙◌, to_z, of_z, rules}
use Rattle.std.specs.Int.{w64, w128}
use Rattle.std.specs.Int.RustNames.{FitsSigned}
use Rattle.std.proofs.lemmas.Int.{to_z-of_z}
use Rattle.std.proofs.lemmas.List.{length-set, take_all}
use Rattle.std.proofs.lemmas.List.Elements.{All-set}
use Rattle.std.specs.List.{AllByRecursion}
use Rattle.std.specs.Map.{values_of}
use Rattle.query_holdings.specs.Kept.{MayTurn}
use Rattle.query_holdings.proofs.KeptFacts.{IsFull, all_full, full_more, written_more}
use Rattle.query_holdings.proofs.kept.narrowed.Goals as goal

pub loop-place-preserved : goal.loop-place-preserved
loop-place-preserved c =
    let es = c.args.slots.now in
    let ns = c.loop-place.counts in
    let i = c.loop-place.place in
    let k = c.slot_at-count.result.0.now in
    let n = c.slot_at-count.result.1 in
    let m = c.in_ok-counts.field-0 in
    let at = c.slot_at-count.ensures in
    let small : FitsSigned w64 m = search rules in
    let wide : FitsSigned w128 n = search rules in
    let own : to_z w64 (of_z w64 m) ≡ m = to_z-of_z w64 m small in
    let is : to_z w64 (of_z w64 m) ≡ n =
    own ∙ c.in_ok-counts.ensures.same ∙ to_z-of_z w128 n wide in
    let within : i < length ns =
    omega (
      arith,
      c.loop-place.invariant.len,
      c.if-len-gt-ROOM.false,
      c.loop-place-test.true,
      c.len.ensures,
      c.len-place-end.ensures,
    ) in
    record {
      len = length-set ns i (to_z w64 (of_z w64 m)) ∙ c.loop-place.invariant.len;
      same = written_more es ns i k n (to_z w64 (of_z w64 m)) within at is c.loop-place.invariant.same;
      full = full_more es i k n (to_z w64 (of_z w64 m)) at is
          (subst IsFull (sym own) c.in_ok-counts.ensures.some) c.loop-place.invariant.full;
      turn = All-set MayTurn ns i (to_z w64 (of_z w64 m))
          (subst MayTurn (sym own) c.in_ok-counts.ensures.turns) c.loop-place.invariant.turn;
    }

pub returns-clause-held : goal.returns-clause-held
returns-clause-held c =
    let es = c.args.slots.now in
    let ns = c.loop-place.counts in
    let i = c.loop-place.place in
    let end : i ≡ length es = omega (
      arith,
      c.loop-place.auto.place-end,
      c.len-place-end.ensures,
      c.loop-place-test.false,
    ) in
    let all : take i es ≡ es = take_all i es (omega (arith, end)) in
    all_full es ns
    (sym (ap (λ n. take n ns) end) ∙ c.loop-place.invariant.same ∙ ap values_of all)
    (subst (λ l. AllByRecursion IsFull (values_of l)) all c.loop-place.invariant.full)
