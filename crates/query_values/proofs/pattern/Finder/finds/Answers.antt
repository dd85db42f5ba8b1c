use Rattle.std.proofs.Common.{ap, ◌∙◌, is_some}
use Rattle.regex.specs.Patterns.{find_str}
use Rattle.regex.specs.Strings.{matcher_pattern}
use Rattle.query_values.proofs.PatternFacts.{found}
use Rattle.query_values.proofs.pattern.Finder.finds.Goals as goal

pub returns-clause-found : goal.returns-clause-found
returns-clause-found c =
    let r = c.self.inside.regex.now.value in
    c.is_match.ensures.found
    ∙ ap (λ m. is_some (find_str (matcher_pattern m) c.args.text.now 0)) c.deref_mut.ensures.value
    ∙ ap (λ p. is_some (find_str p c.args.text.now 0)) c.self.invariant.2
    ∙ found r c.args.self.now c.args.text.now c.self.view_is c.self.invariant.0 c.self.invariant.1
    (λ k. (c.type_inv.text k).fits)
