use Rattle.bean_transactions.proofs.EachTrial as lemmas
use Rattle.bean_transactions.proofs.laws.each_transaction_is_tried.Goals as goal

pub returns : goal.returns
returns c = lemmas.none_is_left
