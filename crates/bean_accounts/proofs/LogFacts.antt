-- Faults that are found one behind the other.
use Rattle.std.proofs.Common.{◌≡◌, ◌++◌, ◌∙◌, List, [], append_assoc, ap, false, refl, subst, sym, true≢false}
use Rattle.std.proofs.lemmas.List.{append-nil}
use Rattle.bean_accounts.specs.Log.{asked_for, emptied, found, is_kept, with_found}
use Rattle.bean_accounts.specs.declared.log.FaultLog.{FaultLog}
use Rattle.bean_accounts.specs.declared.log.FaultLog.TheVariants as log
use Rattle.bean_base.specs.declared.fault.Fault.{Fault}

-- where none is found it stays as it was
pub none_found : (l : FaultLog) → with_found [] l ≡ l
none_found (log.Kept fs) = ap log.Kept (append-nil fs)
none_found log.Off = refl

-- found one behind the other
pub found_behind : (first second : List Fault) (l : FaultLog)
    → with_found second (with_found first l) ≡ with_found (first ++ second) l
found_behind first second (log.Kept fs) = ap log.Kept (append_assoc fs first second)
found_behind first second log.Off = refl

-- it is asked for what is found as it was before
pub same_asked : (fs : List Fault) (l : FaultLog) → is_kept (with_found fs l) ≡ is_kept l
same_asked fs (log.Kept before) = refl
same_asked fs log.Off = refl

pub asked_as_before : (l new : FaultLog) (fs : List Fault) → new ≡ with_found fs l
    → is_kept new ≡ is_kept l
asked_as_before l new fs found = ap is_kept found ∙ same_asked fs l

-- where nobody asks it stays as it was
pub nobody_asks : (l : FaultLog) (fs : List Fault) → is_kept l ≡ false → with_found fs l ≡ l
nobody_asks (log.Kept before) fs off = absurd (true≢false off)
nobody_asks log.Off fs off = refl

grown : (l : FaultLog) (fs more : List Fault) → l ≡ asked_for (is_kept l) fs
    → with_found more l ≡ asked_for (is_kept (with_found more l)) (fs ++ more)
grown (log.Kept before) fs more is = ap (with_found more) is
grown log.Off fs more is = refl

-- what is asked for, with more found behind it
pub asked_more : (l new : FaultLog) (fs more : List Fault) → l ≡ asked_for (is_kept l) fs
    → new ≡ with_found more l → new ≡ asked_for (is_kept new) (fs ++ more)
asked_more l new fs more is found =
    subst (λ k. k ≡ asked_for (is_kept k) (fs ++ more)) (sym found) (grown l fs more is)

pub none_asked : (l new : FaultLog) → new ≡ emptied l → new ≡ asked_for (is_kept new) []
none_asked l new is = subst (λ k. k ≡ asked_for (is_kept k) []) (sym is) (of l)
  where
    of : (l : FaultLog) → emptied l ≡ asked_for (is_kept (emptied l)) []
    of (log.Kept before) = refl
    of log.Off = refl

-- a log before some faults, those that another log of the same kind kept, and more behind
pub joined : (before own : FaultLog) (first second third : List Fault)
    → own ≡ asked_for (is_kept own) second → is_kept own ≡ is_kept before
    → with_found third (with_found (found own) (with_found first before))
    ≡ with_found (first ++ (second ++ third)) before
joined (log.Kept fs) own first second third is same =
    let all : found own ≡ second = ap found (is ∙ ap (λ k. asked_for k second) same) in
    ap log.Kept (ap (λ l. ((fs ++ first) ++ l) ++ third) all
    ∙ append_assoc (fs ++ first) second third ∙ append_assoc fs first (second ++ third))
joined log.Off own first second third is same = refl
