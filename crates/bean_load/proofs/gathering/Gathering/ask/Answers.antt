use Rattle.std.proofs.Common.{◌≡◌, false, [], ◌∷◌, Ok, Err, sym, ap, ◌∙◌, subst, length, arith}
use Rattle.stores.proofs.GaveFacts.{gave_none, gave_one}
use Rattle.bean_load.specs.Asking.{IsTold}
use Rattle.bean_load.specs.declared.gathering.SourceAnswer.TheVariants.{Failed}
use Rattle.bean_load.specs.Gathered.{is_too_large, with_asked, with_read}
use Rattle.bean_load.proofs.AskingFacts.{lacking, too_large}
use Rattle.bean_load.proofs.gathering.Gathering.ask.Goals as goal

pub returns-in_err-add_name : goal.returns-in_err-add_name
returns-in_err-add_name g c =
    lacking g.S.Source c.args.source.now c.args.source.now c.args.name.now c.args.self.now
    c.add_name.new.self [] c.from_residual.result
    (gave_none g.S.Source c.args.source.now) c.from_residual.ensures.1

pub returns-in_err-add_bytes-in-Ok : goal.returns-in_err-add_bytes-in-Ok
returns-in_err-add_bytes-in-Ok g c =
    let told = c.in-Ok.ensures in
    too_large g.S.Source c.args.source.now c.text.new.self c.args.name.now c.args.self.now
    c.add_name.new.self c.add_bytes.new.self c.in-Ok.bytes.items c.len.result
    c.in_err-add_bytes-in-Ok.field-0.0 c.from_residual-in_err-add_bytes-in-Ok.result
    (gave_one g.S.Source c.args.source.now c.text.new.self c.args.name.now (Ok c.in-Ok.bytes.items)
    told.counts told.tells told.gives)
    (omega arith) c.in_ok-add_name.ensures c.in_err-add_bytes-in-Ok.ensures
    c.from_residual-in_err-add_bytes-in-Ok.ensures.1

pub returns-in_ok-add_bytes-in-Ok : goal.returns-in_ok-add_bytes-in-Ok
returns-in_ok-add_bytes-in-Ok g c =
    let told = c.in-Ok.ensures in
    let adds = c.in_ok-add_bytes-in-Ok.ensures in
    let bytes = c.in-Ok.bytes.items in
    let len : c.len.result ≡ length bytes = omega arith in (
      Ok bytes,
      gave_one g.S.Source c.args.source.now c.text.new.self c.args.name.now (Ok bytes) told.counts
          told.tells told.gives,
      (
        subst (λ m. is_too_large m c.args.self.now
            ≡ false) len
            (subst (λ z. is_too_large c.len.result z ≡ false) c.in_ok-add_name.ensures adds.0),
        c.text_of.ensures,
        adds.1 ∙ ap (λ z. with_read c.len.result z) c.in_ok-add_name.ensures
            ∙ ap (λ m. with_read m (with_asked c.args.name.now c.args.self.now)) len,
      ),
    )

pub returns-in-Err-Failed : goal.returns-in-Err-Failed
returns-in-Err-Failed g c =
    let told = c.in-Err-Failed.ensures in (
      Err c.in-Err-Failed.field-0,
      gave_one g.S.Source c.args.source.now c.text.new.self c.args.name.now
          (Err c.in-Err-Failed.field-0) told.counts told.tells told.gives,
      subst (λ f. IsTold c.args.name.now c.args.self.now (Err f) Failed c.add_name.new.self)
          (sym c.in-Err-Failed.field-0-is) c.in_ok-add_name.ensures,
    )

pub returns-in-Err-OutOfMemory : goal.returns-in-Err-OutOfMemory
returns-in-Err-OutOfMemory g c =
    let told = c.in-Err-OutOfMemory.ensures in (
      (c.args.name.now, Err c.in-Err-OutOfMemory.field-0)
          ∷ [],
      gave_one g.S.Source c.args.source.now c.text.new.self c.args.name.now
          (Err c.in-Err-OutOfMemory.field-0) told.counts told.tells told.gives,
    )
