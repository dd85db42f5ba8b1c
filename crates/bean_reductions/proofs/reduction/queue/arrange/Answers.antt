use Rattle.std.proofs.Common.{rules, ◌≡◌, List, ℕ, sym, subst, ◌⊎◌, inl, inr}
use Rattle.std.proofs.lemmas.List.Sorted.{answers_always}
use Rattle.std.proofs.lemmas.Result.{on_ok_weaker}
use Rattle.bean_base.specs.Day.{number}
use Rattle.bean_lots.specs.declared.lot.Lot.{Lot}
use Rattle.bean_reductions.specs.declared.reduction.Method.{Method}
use Rattle.bean_reductions.specs.declared.reduction.Method.TheVariants.{Strict, Fifo}
use Rattle.bean_reductions.specs.Take.{IsQueue, day_of}
use Rattle.bean_reductions.proofs.reduction.queue.arrange.Goals as goal

earliest : (m : Method) → (m ≡ Strict) ⊎ (m ≡ Fifo) → (cs q : List (Lot × ℕ)) → IsQueue Strict cs q
    → IsQueue m cs q
earliest m (inl e) cs q h = subst (λ m. IsQueue m cs q) (sym e) h
earliest m (inr e) cs q h = subst (λ m. IsQueue m cs q) (sym e) h

pub returns-in-Lifo-clause-queue : goal.returns-in-Lifo-clause-queue
returns-in-Lifo-clause-queue c =
    let s = c.sort_by_key.ensures in
    on_ok_weaker c.sort_by_key.result
    (λ sorted. subst (λ m. IsQueue m c.args.queue.now.items c.sort_by_key.new.self.items)
    (sym c.in-Lifo.is)
    (record {
      sorted = sorted (λ p. record { 0 = number p.0.day })
          (answers_always _ _ _ (λ f a r g h. search rules));
      stable = s.stable (λ p. record { 0 = number p.0.day })
          (answers_always _ _ _ (λ f a r g h. search rules));
    })) s.sorted

pub returns-in-Strict-clause-queue : goal.returns-in-Strict-clause-queue
returns-in-Strict-clause-queue c =
    let s = c.sort_by_key-in-Strict.ensures in
    on_ok_weaker c.sort_by_key-in-Strict.result
    (λ sorted. earliest c.args.method c.in-Strict.is c.args.queue.now.items
    c.sort_by_key-in-Strict.new.self.items
    (record {
      sorted = sorted day_of (answers_always _ _ _ (λ f a r g h. search rules));
      stable = s.stable day_of (answers_always _ _ _ (λ f a r g h. search rules));
    })) s.sorted
