-- One run more joins a batch.
use Rattle.std.proofs.Common.{◌≡◌, ℕ, ◌+◌, ◌<◌, List, [], ◌∷◌, ◌++◌, length, take, get_or, sym, ap, subst, ◌∙◌}
use Rattle.std.proofs.lemmas.List.{take_more}
use Rattle.posting_table.specs.Ledger.{Ledger}
use Rattle.query_batch.specs.Batch.{AreJoined}
use Rattle.query_batch.specs.Members.{JoinsIn}
use Rattle.query_batch.specs.declared.member.Member.{Member}
use Rattle.verified_program.specs.declared.checked.Checked.{Checked}

one_more : (l : Ledger) (programs : List Checked) (runs : List Member) (c : Checked) (m : Member)
    → AreJoined l programs runs → JoinsIn l c m → AreJoined l (programs ++ c ∷ []) (runs ++ m ∷ [])
one_more l [] [] c m are joins = (joins, tt)
one_more l [] (x ∷ runs) c m are joins = absurd are
one_more l (p ∷ programs) [] c m are joins = absurd are
one_more l (p ∷ programs) (x ∷ runs) c m are joins = (are.0, one_more l programs runs c m are.1 joins)

pub joins_next : (l : Ledger) (programs : List Checked) (runs more : List Member) (i : ℕ) (c : Checked)
    (m : Member) → i < length programs → c ≡ get_or programs i c → more ≡ runs ++ m ∷ []
    → AreJoined l (take i programs) runs → JoinsIn l c m → AreJoined l (take (i + 1) programs) more
joins_next l programs runs more i c m there is grown are joins =
    subst (λ ms. AreJoined l (take (i + 1) programs) ms) (sym grown)
    (subst (λ cs. AreJoined l cs (runs ++ m ∷ []))
    (ap (λ x. take i programs ++ x ∷ []) is ∙ sym (take_more programs i c there))
    (one_more l (take i programs) runs c m are joins))
