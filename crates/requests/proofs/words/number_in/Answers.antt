use Rattle.std.proofs.Common.{arith}
use Rattle.requests.proofs.NumberFacts.{not_taken, taken}
use Rattle.requests.proofs.words.number_in.Goals as goal

pub returns-in-Err : goal.returns-in-Err
returns-in-Err c =
    let refused = c.in-Err.ensures.value in
    not_taken c.args.text.now c.args.most (λ is. refused.0 (is.0, is.1))

pub returns-then-number-lt1 : goal.returns-then-number-lt1
returns-then-number-lt1 c =
    let less = c.if-number-lt1.true in
    let is = c.in-Ok.ensures.value.0.1 in
    not_taken c.args.text.now c.args.most
    (λ a. let some = a.2 in omega (arith, less, is, some))

pub returns-then-number-most : goal.returns-then-number-most
returns-then-number-most c =
    let more = c.if-number-most.true in
    let is = c.in-Ok.ensures.value.0.1 in
    not_taken c.args.text.now c.args.most
    (λ a. let few = a.3 in omega (arith, more, is, few))

pub returns : goal.returns
returns c =
    let value = c.in-Ok.ensures.value.0 in
    let some = c.if-number-lt1.false in
    let few = c.if-number-most.false in
    taken c.args.text.now c.args.most c.in-Ok.number value.0.0 value.0.1 value.1
    (omega (arith, some)) (omega (arith, few))
