-- What a function returned that reads a field: what reading gives, seen by view, unless memory ran
-- out.
use Rattle.std.specs.Prelude.{◌≡◌, Result, Ok, Err}
use Rattle.query_code.specs.declared.cause.Stop.{Stop}
use Rattle.refusals.specs.declared.refusal.Refusal.{Refusal}
use Rattle.refusals.specs.declared.refusal.Refusal.TheVariants.{OutOfMemory, Refused}

abbrev pub Fails : {Y : Type 0} → Refusal Stop → Result Y Stop → Type 0
Fails OutOfMemory read = Unit {0}
Fails (Refused stop) read = read ≡ Err stop

abbrev pub Gives : {X Y : Type 0} → (X → Y) → Result X (Refusal Stop) → Result Y Stop → Type 0
Gives view (Ok x) read = read ≡ Ok (view x)
Gives view (Err fault) read = Fails fault read
