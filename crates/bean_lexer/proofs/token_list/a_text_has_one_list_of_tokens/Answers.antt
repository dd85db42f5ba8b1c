use Rattle.std.proofs.Common.{arith}
use Rattle.bean_lexer.proofs.OneListOfTokensFacts.{one_list}
use Rattle.bean_lexer.proofs.SomeTokensFacts.{some_tokens}
use Rattle.bean_lexer.proofs.token_list.a_text_has_one_list_of_tokens.Goals as goal

pub returns-clause-some : goal.returns-clause-some
returns-clause-some c = some_tokens c.args.text.now (omega arith)

pub returns-clause-one : goal.returns-clause-one
returns-clause-one c = one_list c.args.text.now
