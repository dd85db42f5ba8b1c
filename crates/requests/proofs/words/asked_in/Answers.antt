use Rattle.std.proofs.Common.{◌≡◌, List, Option, Some, None, option_map, refl, sym, ap, ap₂, ◌∙◌}
use Rattle.std.specs.Option.{option_and_then}
use Rattle.std.proofs.lemmas.Result.{IfOk-weaker}
use Rattle.clap.specs.Walk.{Row, Text}
use Rattle.clap.specs.Words.{found_of, rows_of, subcommand_rows_of}
use Rattle.requests.specs.Commands.{asked_by}
use Rattle.requests.proofs.words.asked_in.Goals as goal

-- a map behind a map
after : {X Y Z : Type 0} (f : X → Y) (g : Y → Z) (o : Option X)
    → option_map g (option_map f o) ≡ option_map (λ x. g (f x)) o
after f g (Some x) = refl
after f g None = refl

-- a pair by its two parts
paired : (o : Option (Text × List Row)) (name : Text) (rows : List Row)
    → option_map (λ p. p.0) o ≡ Some name → option_map (λ p. p.1) o ≡ Some rows
    → o ≡ Some (name, rows)
paired (Some p) name rows first second =
    let same_name : p.0 ≡ name = cc in
    let same_rows : p.1 ≡ rows = cc in ap₂ (λ a b. Some (a, b)) same_name same_rows
paired None name rows first second = cc

pub returns-in-Some : goal.returns-in-Some
returns-in-Some c =
    let rows = rows_of (found_of c.in-Some.words.now) in
    let told = c.in-Some.ensures in
    let is =
    paired (subcommand_rows_of c.args.matches.now) c.in-Some.name.now rows
    (after _ (λ (p : Text × List Row). p.0) _ ∙ sym told.name) (sym told.rows) in
    IfOk-weaker c.asked_by.result _ _
    (λ asked told. told ∙ sym (ap (option_and_then asked_by) is)) c.asked_by.ensures
