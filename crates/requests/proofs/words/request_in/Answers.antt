use Rattle.std.proofs.Common.{◌≡◌, inl, inr, List, [], ◌∷◌, None, map, refl, sym, ◌∙◌}
use Rattle.std.proofs.lemmas.Result.{IfOk-weaker}
use Rattle.clap.specs.Faults.{fault_of}
use Rattle.clap.specs.Kinds.{HasKind, Kinds}
use Rattle.clap.specs.Values.{kind_of}
use Rattle.clap.specs.Walk.{Text}
use Rattle.clap.specs.declared.error.Error.{Error}
use Rattle.clap.specs.declared.error.kind.ErrorKind.TheVariants as kind
use Rattle.requests.specs.Commands.{program, request_without}
use Rattle.requests.proofs.words.request_in.Goals as goal

-- an error of clap's, other than want of memory, comes of words that ask for nothing
none_asked :
    (faults : Kinds) (words : List Text) (error : Error) → HasKind faults error
    → ¬ (kind_of error ≡ kind.OutOfMemory) → request_without faults words ≡ None
none_asked [] words error (inl lacks) other = absurd (other lacks)
none_asked [] words error (inr among) other = absurd among
none_asked (fault ∷ faults) words error has other = refl

pub returns-in-Err : goal.returns-in-Err
returns-in-Err c =
    let words = map (λ w. w.now) c.args.words.now in
    IfOk-weaker c.unasked.result _ _
    (λ asked is. is.0
    ∙ sym (none_asked (fault_of program words) words c.in-Err.error c.in-Err.ensures.faults is.1))
    c.unasked.ensures.none
