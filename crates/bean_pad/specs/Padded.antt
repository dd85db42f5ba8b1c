-- What pads and balances come to, of all the steps of a ledger.
use Rattle.std.specs.Prelude.{◌≡◌, List, ◌++◌}
use Rattle.std.specs.List.{flat_map}
use Rattle.bean_base.specs.declared.fault.Fault.{Fault}
use Rattle.bean_pad.specs.Note.{noted_pads}
use Rattle.bean_pad.specs.Standing.{failing, faults_of_pad}
use Rattle.bean_pad.specs.declared.note.NotedPad.{NotedPad}
use Rattle.bean_pad.specs.declared.padder.Padded.{Padded}
use Rattle.bean_pad.specs.declared.step.Step.{Step}

-- those of the pads, then those of the balances
abbrev pub faults_with : List NotedPad → List Step → List Fault
faults_with ps past = flat_map faults_of_pad ps ++ failing ps past

pub record IsPadded (past : List Step) (r : Padded) : Type 0 where
  pub pads : r.pads ≡ noted_pads past
  pub faults : r.faults ≡ faults_with (noted_pads past) past
