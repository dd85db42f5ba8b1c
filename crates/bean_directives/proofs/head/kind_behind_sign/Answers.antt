use Rattle.bean_directives.proofs.head.kind_behind_sign.Goals as goal

pub returns-in_ok-transaction_line-in-Star : goal.returns-in_ok-transaction_line-in-Star
returns-in_ok-transaction_line-in-Star c = rw c.in-Star.is c.in_ok-transaction_line-in-Star.ensures

pub returns-in_ok-transaction_line-in-Bang : goal.returns-in_ok-transaction_line-in-Bang
returns-in_ok-transaction_line-in-Bang c = rw c.in-Bang.is c.in_ok-transaction_line-in-Bang.ensures
