use Rattle.std.proofs.Common.{◌∙◌, true, cond, refl}
use Rattle.std.specs.Str.{bytes_eq}
use Rattle.indexmap.specs.IndexSet.{contains}
use Rattle.bean_interp.specs.declared.lacks.Lacks.{Lacks}
use Rattle.bean_interp.specs.declared.leg.Leg.TheVariants.{Whole, MissingNumber, MissingAmount}
use Rattle.bean_interp.proofs.LackingFacts.{renamed, with_whole, with_amount, with_number}
use Rattle.bean_interp.proofs.lacks.Lacks.add.Goals as goal

pub returns-in-Whole : goal.returns-in-Whole
returns-in-Whole c = λ legs are.
    renamed c.args.self.now legs c.args.leg.now (Whole c.in-Whole.field-0) c.in-Whole.is
    (with_whole c.args.self.now legs c.in-Whole.field-0 are)

pub returns-in-MissingAmount : goal.returns-in-MissingAmount
returns-in-MissingAmount c = λ legs are.
    let self = c.args.self.now in
    let new : Lacks =
    record { has_amount = true; has_number = self.has_number; currencies = self.currencies } in
    renamed new legs c.args.leg.now MissingAmount c.in-MissingAmount.is (with_amount self legs are)

pub returns-in_ok-insert-in-MissingNumber : goal.returns-in_ok-insert-in-MissingNumber
returns-in_ok-insert-in-MissingNumber c = λ legs are.
    let self = c.args.self.now in
    let currency = c.in-MissingNumber.currency in
    let new : Lacks =
    record {
      has_amount = self.has_amount;
      has_number = true;
      currencies =
          c.insert.new.self;
    } in
    renamed new legs c.args.leg.now (MissingNumber currency) c.in-MissingNumber.is
    (with_number self new legs currency are refl refl
    (λ d. c.in_ok-insert-in-MissingNumber.ensures.updates.0 d
    ∙ (λ i. cond (bytes_eq (c.lend.ensures i) d) true (contains bytes_eq self.currencies d))))
