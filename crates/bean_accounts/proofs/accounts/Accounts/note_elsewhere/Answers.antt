use Rattle.std.proofs.Common.{sym, ◌∙◌}
use Rattle.std.proofs.lemmas.Map.Made.{lookup_key_same}
use Rattle.std.proofs.lemmas.Slice.Eq.{bytes_eq-Decides}
use Rattle.bean_accounts.proofs.accounts.Accounts.note_elsewhere.Goals as goal

pub returns-clause-account : goal.returns-clause-account
returns-clause-account c =
    c.lend.ensures
    ∙ sym (lookup_key_same bytes_eq-Decides c.args.account.now c.args.self.now.lives.entries
    c.in-Some.opened.now (sym c.in-Some.ensures.key))
