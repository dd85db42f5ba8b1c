-- What a command is: its words, and what is due to them.
use Rattle.requests.specs.Command as requests
use Rattle.bq.specs.Due.{Due}

pub record Command (Words : Type 0) : Type 1 where
  pub words : requests.Command Words
  pub due : Words → Due
