use Rattle.std.proofs.Common.{sym, ◌∙◌, inl, subst, refl}
use Rattle.bean_lexer.specs.NoKeys.{NoKeys}
use Rattle.bean_lexer.proofs.NoKeysFacts.{word_ends}
use Rattle.bean_lexer.proofs.WordFacts.{key_at, key_boundary}
use Rattle.bean_lexer.proofs.words.key_or_keyword.Goals as goal
use Rattle.bean_lexer.proofs.words.key_or_keyword.Goals.{then-bytes-keyless+else-has_colon}
use Rattle.bean_lexer.proofs.words.key_or_keyword.Goals.{else-bytes-keyless}

pub returns-then-has_colon-clause-token : goal.returns-then-has_colon-clause-token
returns-then-has_colon-clause-token c =
    inl (key_at c.args.bytes.now c.end_of_run-end.result c.requires.small
    c.end_of_run-end.ensures.run (sym c.has_colon.ensures ∙ c.if-has_colon.true))

pub returns-then-has_colon-clause-boundary : goal.returns-then-has_colon-clause-boundary
returns-then-has_colon-clause-boundary c =
    key_boundary c.args.bytes.now c.end_of_run-end.result
    (sym c.has_colon.ensures ∙ c.if-has_colon.true)

pub returns-clause-no_keys : goal.returns-clause-no_keys
returns-clause-no_keys c =
    let bs = c.args.bytes.now in
    elim c.if-bytes-keyless.branch [
      | then-bytes-keyless+else-has_colon w ↦ subst (NoKeys bs) (sym w.keyless-is)
          (word_ends bs w.end_of_run-end.result _ w.end_of_run-end.ensures.run
          (sym w.has_colon.ensures ∙ w.if-has_colon.false) refl)
      | else-bytes-keyless w ↦ subst (NoKeys bs) (sym w.keyless-is) c.requires.no_keys
    ]
