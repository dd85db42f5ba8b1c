use Rattle.std.proofs.lemmas.Str.{IsUtf8-from_ascii}
use Rattle.number_texts.proofs.PrintableFacts.{is_ascii}
use Rattle.cell_texts.proofs.positions.add_printable.Goals as goal

pub returns-in_default : goal.returns-in_default
returns-in_default c =
    absurd (c.in_default.ensures.cases.0
    (IsUtf8-from_ascii c.args.bytes.now (is_ascii c.args.bytes.now c.requires)))
