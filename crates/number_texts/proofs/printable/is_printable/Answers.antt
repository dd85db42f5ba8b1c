use Rattle.std.proofs.Common.{◌<◌, ◌-◌, ◌&&◌, length, length-drop, take, drop, ap, ◌∙◌, arith}
use Rattle.std.proofs.lemmas.List.{take_all}
use Rattle.std.specs.Int.{is_in_range}
use Rattle.std.specs.List.{list_all}
use Rattle.number_texts.proofs.Eights.{covered, eight_more}
use Rattle.number_texts.proofs.printable.is_printable.Goals as goal

pub loop-eight-preserved : goal.loop-eight-preserved
loop-eight-preserved c =
    let bytes = c.as_bytes-bytes.result.now in
    let at = c.loop-eight.at in
    let rest = take_all (length bytes - at) (drop at bytes) (omega (arith, length-drop at bytes)) in
    let seen = c.in-Some-first_chunk.ensures.cases in
    let long = ap length rest in
    record {
      within = omega (arith, seen.enough, long, length-drop at bytes, c.loop-eight.invariant.within);
      seen = ap (λ b. c.loop-eight.all && b) c.eight_are_printable-all-in-Some-first_chunk.ensures
          ∙ eight_more (is_in_range 32 126) bytes c.in-Some-first_chunk.eight.now at c.loop-eight.all
          (list_all (is_in_range 32 126) (drop (length bytes - 8) bytes)) c.loop-eight.invariant.seen
          (seen.same ∙ ap (take 8) rest);
    }

pub returns : goal.returns
returns c =
    let bytes = c.as_bytes-bytes.result.now in
    let at = c.loop-eight.at in
    let rest = take_all (length bytes - at) (drop at bytes) (omega (arith, length-drop at bytes)) in
    let long = ap length rest in
    let few : length (drop at bytes) < 8 = omega (arith, long, c.in_default-first_chunk.ensures.cases) in
    c.loop-eight.invariant.seen
    ∙ covered (is_in_range 32 126) bytes at few c.loop-eight.invariant.within
    ∙ ap (list_all (is_in_range 32 126)) c.as_bytes-bytes.ensures.value
