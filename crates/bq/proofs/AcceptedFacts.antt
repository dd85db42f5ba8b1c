-- Files that are read one after the other, as long as each is accepted.
use Rattle.std.proofs.Common.{◌≡◌, inl, inr, ℕ, suc, List, [], ◌∷◌, ◌++◌, length, Result, Ok, Err}
use Rattle.std.proofs.Common.{refl, sym, ap, ap₂, subst, append_assoc}
use Rattle.std.proofs.lemmas.List.{append-nil}
use Rattle.std.specs.List.{AllByRecursion}
use Rattle.query_fates.specs.Fates.{AreFates, AreFilesFor, HasProgram}
use Rattle.bean_book.specs.Book.{Book}
use Rattle.clap.specs.Walk.{Text}
use Rattle.query_code.specs.declared.program.Parts.{Parts}
use Rattle.query_files.proofs.FileFacts.{one_program}
use Rattle.stores.proofs.GaveFacts.{gave_behind, gave_none}
use Rattle.stores.specs.Reading.{Reading}
use Rattle.stores.specs.Source.{Gave}
use Rattle.stores.specs.declared.source.Source.{Ghosts as SourceOf}
use Rattle.bq.specs.Accepted.{AcceptsFile, AcceptsFiles, ComeAccepted, if_one_refused, if_refused}
use Rattle.bq.specs.Batch.{Batched, FilesBatched, about_files}
use Rattle.bq.specs.Due.{ComesTo, Due, End}
use Rattle.bq.specs.Files.{FileComes}
use Rattle.bq.specs.Runs.{Finds}
use Rattle.bq.specs.Verified.{about_program}
use Rattle.bq.specs.declared.given.Given.{Given}
use Rattle.endings.specs.declared.refusal.Refusal.{Refusal}
use Rattle.endings.specs.declared.refusal.Refusal.TheVariants.{OutOfMemory}
use Rattle.bq.proofs.Outcomes.{within}

-- ---- one file behind others

-- where a file comes first, it does so before more
comes_before : (name : Text) (readings rest : List Reading) (bytes : List ℕ)
    → FileComes name readings (Ok bytes) [] → FileComes name (readings ++ rest) (Ok bytes) rest
comes_before name readings rest bytes comes =
    (comes.0, ap (λ rs. rs ++ rest) comes.1, comes.2)

not_accepted_first : (left : List Text) (bytes : List ℕ) (rest : List Reading) (end : End)
    → about_program (λ p depth readings end. ⊥) bytes rest end
    → about_program (λ p depth. if_one_refused left) bytes rest end
not_accepted_first left bytes rest end (inl h) = inl h
not_accepted_first left bytes rest end (inr h) = absurd h.3

refused_first : (name : Text) (left : List Text) (readings : List Reading) (end : End)
    → if_refused name readings end → if_one_refused (name ∷ left) readings end
refused_first name left readings end (inl h) = inl h
refused_first name left readings end (inr h) =
    inr (h.0, h.1, h.2, not_accepted_first left h.0 h.1 end h.3)

refused_behind :
    (name : Text) (left : List Text) (readings todo : List Reading) (bytes : List ℕ)
    → FileComes name readings (Ok bytes) [] → HasProgram bytes → (end : End)
    → if_one_refused left todo end → if_one_refused (name ∷ left) (readings ++ todo) end
refused_behind name left readings todo bytes comes has end h =
    inr (
      bytes,
      todo,
      comes_before name readings todo bytes comes,
      inr (has.0.0, has.0.1, has.1, h),
    )

-- ---- the files that are left complete those before them

module _ {S : Type 0} (s : SourceOf S) where
  -- what the store gave so far comes before what comes of the names that are left
  abbrev pub SoFar : S → S → List Text → List Text → List (List ℕ) → Type 0
  SoFar a b names left files =
      (readings : List Reading) × Gave s a b readings
      × ((todo : List Reading) (end : End) → if_one_refused left todo end
      → if_one_refused names (readings ++ todo) end)
      × ((todo : List Reading) (more : List (List ℕ)) → ComeAccepted left todo more
      → ComeAccepted names (readings ++ todo) (files ++ more))

  pub begins : (a : S) (names : List Text) → SoFar a a names names []
  begins a names = ([], gave_none s a, λ todo end h. h, λ todo more h. h)

  module _ (a b c : S) (names left : List Text) (name : Text) (files : List (List ℕ)) where
    pub goes_on : (bytes : List ℕ) → SoFar a b names (name ∷ left) files
        → AcceptsFile s b c name (Ok bytes) → SoFar a c names left (files ++ bytes ∷ [])
    goes_on bytes so_far one = (
      so_far.0 ++ one.0,
      gave_behind s a b c so_far.0 one.0 so_far.1 one.1,
      λ todo end h. subst (λ rs. if_one_refused names rs end)
          (sym (append_assoc so_far.0 one.0 todo))
          (so_far.2 (one.0 ++ todo) end
          (refused_behind name left one.0 todo bytes one.2 one.3 end h)),
      λ todo more h. subst (λ rs. ComeAccepted names rs ((files ++ bytes ∷ []) ++ more))
          (sym (append_assoc so_far.0 one.0 todo))
          (subst (ComeAccepted names (so_far.0 ++ (one.0 ++ todo)))
          (sym (append_assoc files (bytes ∷ []) more))
          (so_far.3 (one.0 ++ todo) (bytes ∷ more)
          (todo, comes_before name one.0 todo bytes one.2, one.3, h))),
    )

    -- one isn't accepted
    pub ends : (r : Refusal) → SoFar a b names (name ∷ left) files
        → AcceptsFile s b c name (Err r) → AcceptsFiles s a c names (Err r)
    ends r so_far one = (
      so_far.0 ++ one.0,
      gave_behind s a b c so_far.0 one.0 so_far.1 one.1,
      within (if_refused name one.0) (if_one_refused names (so_far.0 ++ one.0))
          (λ end h. so_far.2 one.0 end (refused_first name left one.0 end h)) (Err r) one.2,
    )

    -- memory lacks behind one
    pub lacks : (bytes : List ℕ) → SoFar a b names (name ∷ left) files
        → AcceptsFile s b c name (Ok bytes) → AcceptsFiles s a c names (Err OutOfMemory)
    lacks bytes so_far one =
        (so_far.0 ++ one.0, gave_behind s a b c so_far.0 one.0 so_far.1 one.1, tt)

  -- all are
  pub all_come : (a b : S) (names : List Text) (files : List (List ℕ)) → SoFar a b names [] files
      → AcceptsFiles s a b names (Ok files)
  all_come a b names files so_far = (
    so_far.0,
    so_far.1,
    subst (λ rs. ComeAccepted names rs files) (append-nil so_far.0)
        (subst (ComeAccepted names (so_far.0 ++ [])) (append-nil files) (so_far.3 [] [] refl)),
  )

-- ---- what is due of all

-- where one isn't accepted, whatever would be due of the programs
refused_for : (Of : List (Parts × ℕ) → Due) (names : List Text) (readings : List Reading)
    (end : End) → if_one_refused names readings end → about_files Of names readings end
refused_for Of [] readings end h = absurd h
refused_for Of (name ∷ names) readings end (inl h) = inl h
refused_for Of (name ∷ names) readings end (inr (bytes, rest, comes, inl h)) =
    inr (bytes, rest, comes, inl h)
refused_for Of (name ∷ names) readings end (inr (bytes, rest, comes, inr (p, depth, is, h))) =
    inr (
      bytes,
      rest,
      comes,
      inr (p, depth, is, refused_for (λ ps. Of ((p, depth) ∷ ps)) names rest end h),
    )

pub not_all : {S : Type 0} (s : SourceOf S) (a b : S) (Of : List (Parts × ℕ) → Due)
    (names : List Text) (r : Refusal) → AcceptsFiles s a b names (Err r)
    → Finds s a b (about_files Of names) (Err r)
not_all s a b Of names r come = (
  come.0,
  come.1,
  within (if_one_refused names come.0) (about_files Of names come.0) (refused_for Of names come.0)
      (Err r) come.2,
)

-- where all are, what is due of the programs
due_of : (Of : List (Parts × ℕ) → Due) (names : List Text) (readings : List Reading)
    (files : List (List ℕ)) (programs : List (Parts × ℕ)) → ComeAccepted names readings files
    → AreFilesFor files programs → (rest : List Reading) (end : End) → Of programs rest end
    → about_files Of names (readings ++ rest) end
due_of Of [] readings [] [] come are rest end h =
    subst (λ rs. Of [] (rs ++ rest) end) (sym come) h
due_of Of [] readings [] (p ∷ programs) come are rest end h = absurd are
due_of Of [] readings (bytes ∷ files) programs come are rest end h = absurd come
due_of Of (name ∷ names) readings [] programs come are rest end h = absurd come
due_of Of (name ∷ names) readings (bytes ∷ files) [] come are rest end h = absurd are
due_of Of (name ∷ names) readings (bytes ∷ files) ((p, depth) ∷ programs) come are rest end h =
    inr (
      bytes,
      come.0 ++ rest,
      (come.1.0, ap (λ rs. rs ++ rest) come.1.1, come.1.2),
      inr (
        p,
        depth,
        are.0,
        due_of (λ ps. Of ((p, depth) ∷ ps)) names come.0 files programs come.3 are.1 rest end h,
      ),
    )

pub all_due : (Of : List (Parts × ℕ) → Due) (names : List Text) (readings : List Reading)
    (files : List (List ℕ)) (programs : List (Parts × ℕ)) → ComeAccepted names readings files
    → AreFilesFor files programs → (rest : List Reading) (result : Result Given Refusal)
    → ComesTo (Of programs rest) result
    → ComesTo (about_files Of names (readings ++ rest)) result
all_due Of names readings files programs come are rest result h =
    within (Of programs rest) (about_files Of names (readings ++ rest))
    (λ end is. due_of Of names readings files programs come are rest end is) result h

-- ---- the files that came

-- as many as names
pub files_for : (names : List Text) (readings : List Reading) (files : List (List ℕ))
    → ComeAccepted names readings files → length files ≡ length names
files_for [] readings [] come = refl
files_for [] readings (bytes ∷ files) come = absurd come
files_for (name ∷ names) readings [] come = absurd come
files_for (name ∷ names) readings (bytes ∷ files) come =
    ap (λ n. suc n) (files_for names come.0 files come.3)

-- each with a program
pub all_have : (names : List Text) (readings : List Reading) (files : List (List ℕ))
    → ComeAccepted names readings files → AllByRecursion HasProgram files
all_have [] readings [] come = tt
all_have [] readings (bytes ∷ files) come = absurd come
all_have (name ∷ names) readings [] come = absurd come
all_have (name ∷ names) readings (bytes ∷ files) come =
    (come.2, all_have names come.0 files come.3)

-- ---- their programs

pub programs_of : (files : List (List ℕ)) → AllByRecursion HasProgram files
    → (programs : List (Parts × ℕ)) × AreFilesFor files programs
programs_of [] have = ([], tt)
programs_of (bytes ∷ files) have =
    let rest = programs_of files have.1 in (have.0.0 ∷ rest.0, (have.0.1, rest.1))

same_programs : (files : List (List ℕ)) (ps qs : List (Parts × ℕ)) → AreFilesFor files ps
    → AreFilesFor files qs → ps ≡ qs
same_programs [] [] [] are also = refl
same_programs [] [] (q ∷ qs) are also = absurd also
same_programs [] (p ∷ ps) qs are also = absurd are
same_programs (bytes ∷ files) [] qs are also = absurd are
same_programs (bytes ∷ files) (p ∷ ps) [] are also = absurd also
same_programs (bytes ∷ files) (p ∷ ps) (q ∷ qs) are also =
    let same = one_program bytes p.0 q.0 p.1 q.1 are.0 also.0 in
    ap₂ (λ x xs. x ∷ xs) (ap₂ (λ x d. (x, d)) same.0 same.1)
    (same_programs files ps qs are.1 also.1)

-- what is told of the files is told of their programs, whichever they are shown to have
pub batched : (names : List Text) (files : List (List ℕ)) (programs : List (Parts × ℕ))
    → AreFilesFor files programs → (b : Book) (end : End) → FilesBatched names files b end
    → Batched names programs b end
batched names files programs are b end h =
    let same = same_programs files h.1.0 programs h.1.1 are in
    (h.0, subst (λ ps. AreFates b.ledger ps h.0) same h.1.2, h.2)
