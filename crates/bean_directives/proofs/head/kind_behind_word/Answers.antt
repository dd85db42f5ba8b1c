use Rattle.bean_directives.proofs.head.kind_behind_word.Goals as goal

pub returns-in_ok-transaction_line-in-Txn : goal.returns-in_ok-transaction_line-in-Txn
returns-in_ok-transaction_line-in-Txn c = rw c.in-Txn.is c.in_ok-transaction_line-in-Txn.ensures

pub returns-in-Open : goal.returns-in-Open
returns-in-Open c = rw c.in-Open.is c.open_line.ensures

pub returns-in-Close : goal.returns-in-Close
returns-in-Close c = rw c.in-Close.is c.close_line.ensures

pub returns-in-Commodity : goal.returns-in-Commodity
returns-in-Commodity c = rw c.in-Commodity.is c.commodity_line.ensures

pub returns-in-Balance : goal.returns-in-Balance
returns-in-Balance c = rw c.in-Balance.is c.balance_line.ensures

pub returns-in-Pad : goal.returns-in-Pad
returns-in-Pad c = rw c.in-Pad.is c.pad_line.ensures

pub returns-in-Note : goal.returns-in-Note
returns-in-Note c = rw c.in-Note.is c.note_line.ensures

pub returns-in-Document : goal.returns-in-Document
returns-in-Document c = rw c.in-Document.is c.document_line.ensures

pub returns-in-Price : goal.returns-in-Price
returns-in-Price c = rw c.in-Price.is c.price_line.ensures

pub returns-in-Event : goal.returns-in-Event
returns-in-Event c = rw c.in-Event.is c.event_line.ensures

pub returns-in-Query : goal.returns-in-Query
returns-in-Query c = rw c.in-Query.is c.query_line.ensures

pub returns-in-Custom : goal.returns-in-Custom
returns-in-Custom c = rw c.in-Custom.is c.custom_line.ensures
