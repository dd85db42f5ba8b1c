use Rattle.std.proofs.Common.{◌+◌, ◌++◌, ◌∷◌, length, ap, sym, ◌∙◌, nat_eq, arith, length-drop}
use Rattle.std.specs.List.{position_or_len}
use Rattle.bean_base.specs.Text.{read_text}
use Rattle.bean_base.proofs.TextFacts.{read_before, read_none}
use Rattle.bean_base.proofs.texts.split_at_escape.Goals as goal

pub returns-in-Some : goal.returns-in-Some
returns-in-Some c =
    let bs = c.args.written.now in
    let parts = c.in-Some.ensures.byte (omega arith) (λ w o f. f) in
    let place = position_or_len (λ b. nat_eq b 92) bs in
    let long = ap length parts.1 in record {
      parts = read_before bs parts.2 ∙ (λ k. sym parts.0 k ++ read_text (92 ∷ sym parts.1 k));
      shorter = omega (arith, long, parts.2, length-drop (place + 1) bs);
    }

pub returns-in-None : goal.returns-in-None
returns-in-None c = record {
  parts = read_none c.args.written.now (c.in-None.ensures.byte (omega arith) (λ w o f. f));
  shorter = tt;
}
