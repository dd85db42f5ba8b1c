use Rattle.std.proofs.Common.{◌∷◌, Some, None, length, length-append, ap, ◌∙◌, arith}
use Rattle.std.proofs.lemmas.Str.Pattern.{split_parts}
use Rattle.bean_load.specs.Include.{folder}
use Rattle.bean_load.proofs.FolderFacts.{no_folder, folder_split}
use Rattle.bean_load.proofs.include.split_at_slash.Goals as goal

pub returns-in-Some : goal.returns-in-Some
returns-in-Some c =
    let before = c.in-Some.before in
    let behind = c.in-Some.behind in
    let parts =
    split_parts 47 c.args.name.now (Some (before, behind)) c.in-Some.ensures.cases
    (omega arith) in
    let long = ap length parts.0 ∙ length-append before.now (47 ∷ behind.now) in record {
      parts = ap folder parts.0 ∙ folder_split before.now behind.now;
      shorter = omega arith;
    }

pub returns-in-None : goal.returns-in-None
returns-in-None c = record {
  parts = no_folder c.args.name.now
      (split_parts 47 c.args.name.now None c.in-None.ensures.cases (omega arith));
  shorter = tt;
}
