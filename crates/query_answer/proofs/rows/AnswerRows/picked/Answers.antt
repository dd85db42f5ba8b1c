use Rattle.std.proofs.Common.{◌≡◌, ap, length, map, rules, subst, sym, ◌∙◌}
use Rattle.std.proofs.lemmas.List.{length-map}
use Rattle.query_answer.specs.Places.{MayGo}
use Rattle.query_answer.specs.Rows.{row_at}
use Rattle.query_answer.specs.Spans.{rows_in, values_in}
use Rattle.query_answer.proofs.PlaceFacts.{told_by_places}
use Rattle.query_answer.proofs.rows.AnswerRows.picked.Goals as goal

pub returns-in-Some : goal.returns-in-Some
returns-in-Some c =
    let vs = c.self.inside.values.items in
    let ss = c.self.inside.spans.items in
    let numbers = c.args.numbers.now in
    let rows = rows_in vs ss in
    let may : MayGo c.as_slice.result.now numbers c.in-Some.places.items = search rules in
    let go = subst (λ s. MayGo s numbers c.in-Some.places.items) c.as_slice.ensures.value may in
    let all : length numbers ≡ length rows = go.all ∙ sym (length-map ss (values_in vs)) in
    c.brought.ensures (map (row_at rows) numbers) (length-map numbers (row_at rows) ∙ all)
    (told_by_places rows numbers c.in-Some.places.items all go.are)
    ∙ ap (λ l. map (row_at l) numbers) c.self.view_is
