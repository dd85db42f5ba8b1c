use Rattle.std.proofs.Common.{Ok, Err, map, refl, sym, subst}
use Rattle.bq.specs.Commands.{due_to}
use Rattle.bq.specs.Keeping.{Keeps, store_of}
use Rattle.bq.specs.Runs.{Runs, deeds, written}
use Rattle.endings.specs.declared.verdict.Verdict.TheVariants.{Fine}
use Rattle.bq.proofs.Outcomes.{converted, is_due, kept, unfound}
use Rattle.bq.proofs.run.run.Goals as goal

pub returns-in_err-given : goal.returns-in_err-given
returns-in_err-given g c =
    let words = map (λ w. w.now) c.args.words.now in
    let d = due_to words in
    let run = deeds (store_of g.S.Source g.S.Store.kept g.S.Store.may_keep) c.args.store.now c.find.new.store
    (written g.O.Output c.args.out.now c.args.out.now) in
    let found = c.in_err-given.ensures in
    let r = c.in_err-given.field-0.0 in
    let comes = unfound d run found.0 found.1 refl r found.2 in
    subst (Runs run words) (sym (converted c.from_residual.result r c.from_residual.ensures.1))
    (found.0, comes, is_due d run found.0 (Err r) comes)

pub returns-in_ok-keep_file-in-Kept : goal.returns-in_ok-keep_file-in-Kept
returns-in_ok-keep_file-in-Kept g c =
    let words = map (λ w. w.now) c.args.words.now in
    let d = due_to words in
    let s = store_of g.S.Source g.S.Store.kept g.S.Store.may_keep in
    let out = written g.O.Output c.args.out.now c.args.out.now in
    let run = deeds s c.args.store.now c.keep_file.new.store out in
    let found = c.in_ok-given.ensures in
    let name = c.in-Kept.name in
    let bytes = c.in-Kept.bytes in
    let is = subst (λ given. d found.0 (Ok given)) c.in-Kept.is found.2 in
    let named = subst (λ n. Keeps s c.find.new.store c.keep_file.new.store n c.as_slice.result.now (Ok tt))
    c.text-in-Kept.ensures c.in_ok-keep_file-in-Kept.ensures in
    let put = subst (λ b. Keeps s c.find.new.store c.keep_file.new.store name b (Ok tt))
    c.as_slice.ensures named in
    let comes = kept s c.args.store.now c.find.new.store c.keep_file.new.store out d found.0 found.1
    name bytes is refl put in
    (found.0, comes, is_due d run found.0 (Ok Fine) comes)
