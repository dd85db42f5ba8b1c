use Rattle.bean_replay.proofs.booked.finish.Goals as goal

pub returns-clause-booked : goal.returns-clause-booked
returns-clause-booked g c = λ l before found same m past st led.
    let both = c.in_ok-pads.ensures m past st led.stands l before found same in record {
      taken = led.taken;
      pads_are = both.0;
      faults_are = both.1;
    }
