use Rattle.bean_transactions.proofs.OneTrial as lemmas
use Rattle.bean_transactions.proofs.laws.one_trial.Goals as goal

pub returns : goal.returns
returns c = lemmas.one_trial
