use Rattle.std.proofs.Common.{◌≡◌, ◌-◌, ◌++◌, length, take, drop, arith, refl, sym, ap, subst, ◌∙◌}
use Rattle.std.proofs.Common.{length-drop, take-add}
use Rattle.std.proofs.lemmas.List.{take_all}
use Rattle.outputs.specs.Output.{Took, no_call, one_more}
use Rattle.outputs.proofs.RefusalFacts.{uncounted}
use Rattle.outputs.proofs.writing.write_bytes.Goals as goal

pub loop-written-init : goal.loop-written-init
loop-written-init g c = record { within = omega arith; took = no_call _; counted = refl }

pub loop-written-preserved : goal.loop-written-preserved
loop-written-preserved g c =
    let bytes = c.args.bytes.now in
    let w = c.loop-written.written in
    let n = c.in-Ok.count in
    let rest : take (length bytes - w) (drop w bytes) ≡ drop w bytes =
    take_all (length bytes - w) (drop w bytes) (omega (arith, length-drop w bytes)) in
    let more = one_more _ _ _ _ _ n c.loop-written.invariant.took c.in-Ok.ensures.answer in record {
      within = omega (arith, c.in-Ok.ensures.within);
      took = subst (Took g.W.Output _ _)
          (ap (λ l. take w bytes ++ take n l) rest ∙ sym (take-add w n bytes)) more;
      counted =
          c.in-Ok.ensures.counts ∙ uncounted _ n _ c.in-Ok.count-test.1
          ∙ c.loop-written.invariant.counted;
    }
