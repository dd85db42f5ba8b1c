use Rattle.std.proofs.Common.{◌++◌, ◌∷◌, ap, sym, ◌∙◌, append_assoc}
use Rattle.std.specs.String.{string_bytes}
use Rattle.bean_base.specs.Character.{backslash}
use Rattle.bean_base.specs.Text.{read_text}
use Rattle.bean_base.proofs.texts.Text.add_to.Goals as goal

pub loop-before-preserved : goal.loop-before-preserved
loop-before-preserved c =
    let rest = read_text (backslash ∷ c.in-Some.behind.now) in
    c.in_ok-add_escape.ensures.read ∙ ap (λ l. l ++ rest) c.in_ok-push_str.ensures.bytes
    ∙ append_assoc (string_bytes c.loop-before.out) c.in-Some.before.now rest
    ∙ ap (λ l. string_bytes c.loop-before.out ++ l) (sym c.in-Some.ensures.parts)
    ∙ c.loop-before.invariant

pub returns : goal.returns
returns c =
    c.in_ok-push_str-2.ensures.bytes
    ∙ ap (λ l. string_bytes c.loop-before.out ++ l) (sym c.in_default.ensures.parts)
    ∙ c.loop-before.invariant
