use Rattle.std.proofs.Common.{◌++◌, ◌∷◌, [], refl, sym, subst, ◌∙◌, ap, append_assoc}
use Rattle.std.proofs.lemmas.List.{append-nil}
use Rattle.bean_parser.specs.Plain.{TakesUnder}
use Rattle.bean_parser.specs.Under.{said_posting}
use Rattle.bean_parser.proofs.UnderFacts.{none_taken, posting_more, postings_end}
use Rattle.bean_parser.proofs.plain.take_postings.Goals as goal

pub loop-posting-init : goal.loop-posting-init
loop-posting-init c = ([], sym (append-nil _), none_taken c.args.lexer.now, refl)

pub loop-posting-preserved : goal.loop-posting-preserved
loop-posting-preserved c =
    let before = c.loop-posting.invariant in
    let after = c.next_posting.new.lexer in
    let p = c.in-Some.posting in
    let next = subst (λ l. TakesUnder l after (said_posting p ∷ [])) before.3 c.in-Some.ensures.posting in (
      before.0 ++ p ∷ [],
      c.in_ok-push.ensures.items ∙ ap (λ l. l ++ p ∷ []) before.1 ∙ append_assoc _ before.0 (p ∷ []),
      posting_more c.args.lexer.now c.loop-posting.lexer after before.0 p before.2 next,
      refl,
    )

pub returns : goal.returns
returns c =
    let read = c.loop-posting.invariant in (
      read.0,
      read.1,
      postings_end c.args.lexer.now c.loop-posting.lexer c.other_token.new.lexer read.0
          c.other_token.result read.2 c.other_token.ensures.tokens c.other_token.ensures.shorter,
    )
