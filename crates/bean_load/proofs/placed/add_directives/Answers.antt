use Rattle.std.proofs.Common.{◌∙◌, ap, sym, subst}
use Rattle.bean_load.specs.Placed.{part_at}
use Rattle.bean_load.specs.Turns.{AreCodesIf}
use Rattle.bean_load.proofs.ReadFacts.{one_placed}
use Rattle.bean_load.proofs.placed.add_directives.Goals as goal

pub loop-directive-preserved : goal.loop-directive-preserved
loop-directive-preserved c =
    let part = c.part_at-part.ensures ∙ ap (λ d. part_at c.args.own.now d.line) c.get.ensures in record {
      placed = one_placed c.args.file c.args.own.now c.loop-directive.yielded c.in-Some.directive
          c.args.out.now.items c.loop-directive.out.items c.push.new.self.items _
          c.loop-directive.invariant.placed
          (c.in_ok-placed.ensures
          ∙ (λ i. record { file = c.args.file; part = part i; item = c.in-Some.directive }))
          c.in_ok-push.ensures.items;
      coded = λ before.
          subst (λ ds. AreCodesIf ds c.add.new.self) (sym c.in_ok-push.ensures.items)
          (c.in_ok-add.ensures c.loop-directive.out.items (c.loop-directive.invariant.coded before));
    }
