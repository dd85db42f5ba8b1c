use Rattle.std.proofs.Common.{[], ◌∷◌, Ok, Err, refl, ap, arith}
use Rattle.stores.proofs.GaveFacts.{gave_one}
use Rattle.bq.proofs.commands.file.file_bytes.Goals as goal

pub returns-in-Err-Failed : goal.returns-in-Err-Failed
returns-in-Err-Failed g c =
    let told = c.in-Err-Failed.ensures in
    let name = c.args.name.now in
    let fault = c.in-Err-Failed.field-0 in (
      (name, Err fault) ∷ [],
      gave_one g.S.Source c.args.store.now c.text.new.self name (Err fault) told.counts told.tells
          told.gives,
      (Err fault, refl, ap Err c.in-Err-Failed.field-0-is),
    )

pub returns-in-Err-OutOfMemory : goal.returns-in-Err-OutOfMemory
returns-in-Err-OutOfMemory g c =
    let told = c.in-Err-OutOfMemory.ensures in
    let name = c.args.name.now in
    let fault = c.in-Err-OutOfMemory.field-0 in (
      (name, Err fault) ∷ [],
      gave_one g.S.Source c.args.store.now c.text.new.self name (Err fault) told.counts told.tells
          told.gives,
    )

pub returns-then-len-gt-LARGEST_TEXT : goal.returns-then-len-gt-LARGEST_TEXT
returns-then-len-gt-LARGEST_TEXT g c =
    let told = c.in-Ok.ensures in
    let name = c.args.name.now in
    let bytes = c.in-Ok.bytes.items in (
      (name, Ok bytes) ∷ [],
      gave_one g.S.Source c.args.store.now c.text.new.self name (Ok bytes) told.counts told.tells
          told.gives,
      (Ok bytes, refl, (bytes, refl, omega arith)),
    )

pub returns : goal.returns
returns g c =
    let told = c.in-Ok.ensures in
    let name = c.args.name.now in
    let bytes = c.in-Ok.bytes.items in (
      (name, Ok bytes) ∷ [],
      gave_one g.S.Source c.args.store.now c.text.new.self name (Ok bytes) told.counts told.tells
          told.gives,
      (Ok bytes, refl, (refl, omega arith)),
    )
