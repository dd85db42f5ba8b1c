-- The file as a whole: each program has one file, and each file one program.
use Rattle.std.proofs.Common.{◌≡◌, ℕ, cond, eqb, List, [], ◌++◌, length, Result, Ok, refl, sym, ap}
use Rattle.std.proofs.Common.{subst, ◌∙◌}
use Rattle.std.proofs.Props.{props}
use Rattle.std.proofs.Math.Logic.{∥∥₁_elim}
use Rattle.std.proofs.lemmas.Bool.{eqb-true}
use Rattle.std.proofs.lemmas.List.{append-nil, nil_from_length}
use Rattle.query_code.specs.declared.cause.FileCauseKind.TheVariants.{TrailingBytes}
use Rattle.query_code.specs.declared.cause.Stop.{Stop}
use Rattle.query_code.specs.declared.program.Parts.{Parts}
use Rattle.query_code.specs.ByteForm.{stop}
use Rattle.query_code.specs.QueryFile.{file, whole, IsFile}
use Rattle.query_code.proofs.ByteFormFacts.{AreBytes, bind_ok, ok_is, when_ok}
use Rattle.query_code.proofs.FieldFacts.{exact_file}
use Rattle.query_code.proofs.FitsFacts.{parts_set}

pub answer_set : IsSet (Result Parts Stop)
answer_set = hlevel (props, parts_set)

pub whole_takes : (bytes : List ℕ) (q : Parts) → AreBytes bytes → whole bytes ≡ Ok q
    → file.fits q × (bytes ≡ file.written q)
unfolding whole
whole_takes bytes q are e =
    let b = bind_ok (file.read bytes)
    (λ x. cond (eqb (length x.1) 0) (Ok x.0) (stop TrailingBytes x.1)) q e in
    let g = when_ok (eqb (length b.0.1) 0) _ b.0.0 q b.2 in
    let nothing : b.0.1 ≡ [] = nil_from_length b.0.1 (eqb-true _ _ g.0) in
    let t = exact_file.takes bytes b.0.0 b.0.1 are b.1 in
    let written : bytes ≡ file.written b.0.0 =
    t.1 ∙ ap (λ (r : List ℕ). file.written b.0.0 ++ r) nothing
    ∙ append-nil (file.written b.0.0) in
    subst (λ (p : Parts). file.fits p × (bytes ≡ file.written p)) g.1 (t.0, written)

pub whole_again : (q : Parts) → file.fits q → whole (file.written q) ≡ Ok q
unfolding whole
whole_again q fits =
    let e : file.read (file.written q) ≡ Ok (q, []) =
    ap file.read (sym (append-nil (file.written q))) ∙ exact_file.again q [] fits in
    rw e refl

pub is_file : (bytes : List ℕ) (q : Parts) → AreBytes bytes → whole bytes ≡ Ok q → IsFile bytes q
is_file bytes q are e = let t = whole_takes bytes q are e in
    record { fits = ∣ t.0 ∣₁; written = t.1 }

pub file_is : (bytes : List ℕ) (q : Parts) → IsFile bytes q → whole bytes ≡ Ok q
file_is bytes q is =
    ∥∥₁_elim is.fits (answer_set (whole bytes) (Ok q))
    (λ fits. ap whole is.written ∙ whole_again q fits)

-- bytes are the file of one program
pub same_program : (bytes : List ℕ) (p q : Parts) → IsFile bytes p → IsFile bytes q → p ≡ q
same_program bytes p q is also = ok_is p q (sym (file_is bytes p is) ∙ file_is bytes q also)
