use Rattle.std.proofs.Common.{◌≡◌, ◌+◌, [], ◌∷◌, drop, ap, ◌∙◌, subst, arith}
use Rattle.std.proofs.lemmas.Grind.{common_steps}
use Rattle.bean_load.specs.Loading.{AddsParsed}
use Rattle.bean_load.specs.Placed.{parts_of}
use Rattle.bean_load.proofs.ReadFacts.{IsCompleted, one_more, all_read}
use Rattle.bean_load.proofs.SmallFacts.{read_few, read_small}
use Rattle.bean_parser.specs.Parsed.{IsParsed}
use Rattle.bean_load.proofs.loaded.read_all.Goals as goal

pub loop-number-preserved : goal.loop-number-preserved
loop-number-preserved c =
    let texts = c.args.texts.now in
    let n = c.loop-number.number in
    let old = c.loop-number.read in
    let new = c.add.new.self in
    let files = c.files-files.result.now in
    let p = c.in_ok-parse.field-0 in
    let next : drop n files ≡ c.index-files-number.result ∷ drop (n + 1) files =
    grind (arith, common_steps) in
    let adds =
    subst (λ own. AddsParsed n own p old new)
    (c.deref.ensures.value ∙ c.in_ok-own.ensures
    ∙ ap (λ parts. parts_of n 0 parts) c.parts.ensures) c.in_ok-add.ensures in record {
      completed = one_more texts n old new c.index-files-number.result (drop (n + 1) files) p
          (subst (λ fs. IsCompleted texts n old fs) next c.loop-number.invariant.completed)
          (subst (λ t. IsParsed t p)
          (c.deref-in-loop-number.ensures ∙ ap (λ f. f.text) c.file.view_is)
          c.in_ok-parse.ensures)
          adds;
      coded = adds.codes c.loop-number.invariant.coded;
    }

pub returns : goal.returns
returns c =
    let texts = c.args.texts.now in
    let n = c.loop-number.number in
    let files = c.files-files.result.now in
    let none : drop n files ≡ [] = grind (arith, common_steps) in
    let read =
    all_read texts n c.loop-number.read
    (subst (λ fs. IsCompleted texts n c.loop-number.read fs) none c.loop-number.invariant.completed) in
    record {
      read = read;
      small = read_small texts c.loop-number.read read c.files-files.ensures.limited;
      few = read_few texts c.loop-number.read read c.files-files.ensures.limited;
      coded = c.loop-number.invariant.coded;
    }
