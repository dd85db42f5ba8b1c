use Rattle.std.proofs.Common.{◌++◌, ◌∷◌, [], ℕ, List, sym, ap, ◌∙◌, arith, take, map, replicate}
use Rattle.std.proofs.Common.{get_or, append_assoc}
use Rattle.std.proofs.lemmas.List.{length-map, take_all}
use Rattle.table_printer.specs.Heading.{width_of}
use Rattle.table_printer.specs.Layout.{joined, gap}
use Rattle.table_printer.proofs.LayoutFacts.{rule_more, regroup}
use Rattle.table_printer.proofs.TableFacts.{width_is}
use Rattle.table_printer.proofs.lines.push_rule.Goals as goal

pub loop-i-preserved : goal.loop-i-preserved
loop-i-preserved c =
    let ws : List ℕ = map width_of c.args.headings.now in
    let many = length-map c.args.headings.now width_of in
    let out = c.args.out.now.items in
    let i = c.loop-i.i in
    c.in_ok-push_run.ensures
    ∙ (λ k. c.in_ok-push_gap.ensures k
    ++ replicate
    (width_is c.args.headings.now i c.index-headings-i.result (omega arith)
    c.index-headings-i.is k) 45)
    ∙ ap (λ l. (l ++ gap i) ++ replicate (get_or ws i 0) 45) c.loop-i.invariant
    ∙ regroup out (joined (map (λ width. replicate width 45) (take i ws))) (gap i)
    (replicate (get_or ws i 0) 45) ∙ ap (λ l. out ++ l) (sym (rule_more ws i (omega arith)))

pub returns : goal.returns
returns c =
    let ws : List ℕ = map width_of c.args.headings.now in
    let many = length-map c.args.headings.now width_of in
    let dashes : List ℕ → List (List ℕ) = map (λ width. replicate width 45) in
    c.in_ok-push.ensures.items
    ∙ ap (λ l. l ++ 10 ∷ []) (c.loop-i.invariant
    ∙ ap (λ l. c.args.out.now.items ++ joined (dashes l))
    (take_all c.loop-i.i ws (omega arith)))
    ∙ append_assoc c.args.out.now.items (joined (dashes ws)) (10 ∷ [])
