use Rattle.std.proofs.Common.{true, false, inl, inr, refl, sym, subst, ◌∙◌}
use Rattle.bql_parser.specs.Parse.{Stops}
use Rattle.bql_parser.specs.declared.cause.QueryCause.TheVariants.{Part}
use Rattle.bql_parser.proofs.ParseFacts.{met, meets, all_begin}
use Rattle.bql_parser.proofs.parse.cause_at.Goals as goal

pub returns-in-Some : goal.returns-in-Some
returns-in-Some c = λ stops begun.
    let found = c.in-Some.ensures.lookup.3 in
    subst (λ p. Stops c.args.text.now c.args.tokens.now (Part p)) (sym c.outside_profile.ensures) (
      refl,
      meets c.args.tokens.now c.in-Some.token.now c.args.is_deep true
          (met c.args.tokens.now c.args.left c.args.is_deep _ c.in-Some.token.now stops begun
          c.saturating_sub.ensures found.0 found.1)
          (λ before deep. sym c.if-is_left.true ∙ c.is_left.ensures before deep),
    )

pub returns-in-Some-2 : goal.returns-in-Some-2
returns-in-Some-2 c = λ stops begun.
    let found = c.in-Some.ensures.lookup.3 in
    inl (meets c.args.tokens.now c.in-Some.token.now c.args.is_deep false
    (met c.args.tokens.now c.args.left c.args.is_deep _ c.in-Some.token.now stops begun
    c.saturating_sub.ensures found.0 found.1)
    (λ before deep. sym c.if-is_left.false ∙ c.is_left.ensures before deep))

pub returns-in-None : goal.returns-in-None
returns-in-None c = λ stops begun.
    let none = c.in-None.ensures.lookup in
    inr (
      refl,
      all_begin c.args.tokens.now c.args.left c.saturating_sub.result begun
          c.saturating_sub.ensures none.3,
    )
