use Rattle.std.proofs.Common.{sym, subst, ◌∙◌}
use Rattle.bql_lexer.specs.Tokens.{AreTokens}
use Rattle.bql_parser.specs.Parse.{IsRefusalBy}
use Rattle.bql_grammar.specs.Read.{read_of}
use Rattle.bql_parser.specs.Settled.{mapped}
use Rattle.bql_parser.specs.View.{draft_of}
use Rattle.bql_parser.proofs.ParseFacts.{parsed, not_read}
use Rattle.bql_parser.proofs.SmallFacts.{small_settled}
use Rattle.bql_parser.proofs.parse.parse_query.Goals as goal

pub answered-requires : goal.answered-requires
answered-requires c =
    small_settled c.args.text.now c.as_slice.result.now (read_of c.in-Ok.read)
    (mapped draft_of c.in_ok-settled-in-Ok.field-0)
    (subst (AreTokens c.args.text.now) (sym c.as_slice.ensures.value) c.in_ok-found.ensures)
    c.in-Ok.ensures.read c.in_ok-settled-in-Ok.ensures

pub returns-in-Ok : goal.returns-in-Ok
returns-in-Ok c =
    parsed c.args.text.now c.as_slice.result.now (read_of c.in-Ok.read)
    (mapped draft_of c.in_ok-settled-in-Ok.field-0) c.answered.result
    (subst (AreTokens c.args.text.now) (sym c.as_slice.ensures.value) c.in_ok-found.ensures)
    c.in-Ok.ensures c.in_ok-settled-in-Ok.ensures c.answered.ensures

pub returns : goal.returns
returns c =
    not_read c.args.text.now c.as_slice.result.now c.in-Err.stuck c.refusal_by.result
    (subst (AreTokens c.args.text.now) (sym c.as_slice.ensures.value) c.in_ok-found.ensures)
    c.in-Err.ensures
    (subst (λ ts. IsRefusalBy c.args.text.now ts c.in-Err.stuck c.refusal_by.result)
    (c.as_slice-in-Err.ensures.value ∙ sym c.as_slice.ensures.value) c.refusal_by.ensures)
