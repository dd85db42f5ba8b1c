use Rattle.bean_lexer.proofs.BetweenFacts.{has_gaps}
use Rattle.bean_lexer.proofs.token_list.a_gap_is_white_space_comments_and_skipped_lines.Goals as goal

pub returns : goal.returns
returns c = has_gaps c.args.text.now
