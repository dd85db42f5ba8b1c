use Rattle.std.proofs.Common.{◌++◌, ap}
use Rattle.std.specs.String.{string_bytes}
use Rattle.bean_base.proofs.TextFacts.{left_alone}
use Rattle.bean_base.proofs.texts.add_escape.Goals as goal

pub returns-clause-read : goal.returns-clause-read
returns-clause-read c =
    ap (λ l. string_bytes c.args.out.now ++ l)
    (left_alone c.args.behind.now c.if-is_empty.ensures c.in_default.ensures.cases
    c.in_default-strip_prefix.ensures.cases c.in_default-strip_prefix-2.ensures.cases)
