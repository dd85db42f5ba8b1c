-- What a source gave, call by call.
use Rattle.std.proofs.Common.{◌≡◌, ℕ, List, [], ◌∷◌, ◌++◌, Option, Some, None, Result, Ok, Err}
use Rattle.std.proofs.Common.{refl, sym, ap, ◌∙◌, append_assoc}
use Rattle.std.proofs.lemmas.List.{append-nil}
use Rattle.stores.specs.Reading.{Reading, failures_behind, readings_of, GrowsBy}
use Rattle.stores.specs.Source.{Answered, Gave, no_call, one_more, failures_behind_all, told_of_all}
use Rattle.stores.specs.declared.source.Source.{Ghosts as SourceOf}
use Rattle.stores.specs.declared.source.SourceFault.{SourceFault}
use Rattle.stores.specs.declared.source.SourceFault.TheVariants.{Failed, OutOfMemory}

-- in one call
pub gave_one :
    {S : Type 0} (s : SourceOf S) (old new : S) (name : List ℕ)
    (answer : Result (List ℕ) SourceFault)
    → s.failures new ≡ failures_behind (s.failures old) answer
    → GrowsBy (s.told old) (s.told new) (readings_of name answer) → s.may_give old name answer new
    → Gave s old new ((name, answer) ∷ [])
gave_one s old new name (Ok bytes) counted told gives =
    record {
      answered = one_more old new new name (Ok bytes) [] gives (no_call new);
      counted =
          counted;
      told = told;
    }
gave_one s old new name (Err Failed) counted told gives =
    record {
      answered = one_more old new new name (Err Failed) [] gives (no_call new);
      counted =
          counted;
      told = told;
    }
gave_one s old new name (Err OutOfMemory) counted told gives =
    record {
      answered =
          one_more old new new name (Err OutOfMemory) [] gives (no_call new);
      counted = counted;
      told =
          told;
    }

told_still : {A : Type 0} (told : Option (List A)) → GrowsBy told told []
told_still None = tt
told_still (Some xs) = sym (append-nil xs)

-- in no call
pub gave_none : {S : Type 0} (s : SourceOf S) (source : S) → Gave s source source []
gave_none s source =
    record { answered = no_call source; counted = refl; told = told_still (s.told source) }

-- In some calls, and in others behind them.

answered_behind : {S : Type 0} (s : SourceOf S) (a b c : S) (xs ys : List Reading)
    → Answered s a b xs → Answered s b c ys → Answered s a c (xs ++ ys)
answered_behind s _ _ c _ ys (no_call source) more = more
answered_behind s _ _ c _ ys (one_more first middle last name answer rest gives others) more =
    one_more first middle c name answer (rest ++ ys) gives
    (answered_behind s middle last c rest ys others more)

counted_behind : (n : ℕ) (xs ys : List Reading)
    → failures_behind_all n (xs ++ ys) ≡ failures_behind_all (failures_behind_all n xs) ys
counted_behind n [] ys = refl
counted_behind n (x ∷ xs) ys = counted_behind (failures_behind n x.1) xs ys

told_behind : (xs ys : List Reading) → told_of_all (xs ++ ys) ≡ told_of_all xs ++ told_of_all ys
told_behind [] ys = refl
told_behind (x ∷ xs) ys =
    ap (λ told. readings_of x.0 x.1 ++ told) (told_behind xs ys)
    ∙ sym (append_assoc (readings_of x.0 x.1) (told_of_all xs) (told_of_all ys))

grows_behind : {A : Type 0} (a b c : Option (List A)) (xs ys : List A) → GrowsBy a b xs
    → GrowsBy b c ys → GrowsBy a c (xs ++ ys)
grows_behind None b c xs ys h k = tt
grows_behind (Some a) None c xs ys h k = absurd h
grows_behind (Some a) (Some b) None xs ys h k = absurd k
grows_behind (Some a) (Some b) (Some c) xs ys h k = k ∙ ap (λ zs. zs ++ ys) h ∙ append_assoc a xs ys

pub gave_behind : {S : Type 0} (s : SourceOf S) (a b c : S) (xs ys : List Reading) → Gave s a b xs
    → Gave s b c ys → Gave s a c (xs ++ ys)
gave_behind s a b c xs ys first behind = record {
  answered = answered_behind s a b c xs ys first.answered behind.answered;
  counted =
      behind.counted ∙ ap (λ n. failures_behind_all n ys) first.counted
      ∙ sym (counted_behind (s.failures a) xs ys);
  told = rw (told_behind xs ys)
      (grows_behind (s.told a) (s.told b) (s.told c) (told_of_all xs) (told_of_all ys) first.told
      behind.told);
}
