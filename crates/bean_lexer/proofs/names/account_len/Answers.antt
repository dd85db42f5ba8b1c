use Rattle.std.proofs.Common.{◌≡◌, ◌+◌, ◌-◌, ◌<◌, arith, sym, ◌∙◌, subst, ap, drop}
use Rattle.bean_lexer.specs.Lookahead.{root_len, begins_component_at}
use Rattle.theory.specs.LongestFront.{IsLongestFront, HasNoFront}
use Rattle.bean_base.specs.Name.{is_account}
use Rattle.bean_lexer.proofs.AccountFacts.{names_start, names_go_on, names_end, are_names}
use Rattle.bean_lexer.proofs.RootFacts.{no_root_at, no_component, account_is, root_is_long}
use Rattle.bean_lexer.proofs.RootFacts.{root_colon}
use Rattle.bean_lexer.proofs.names.account_len.Goals as goal
use Rattle.bean_lexer.proofs.names.account_len.Goals.{then-root-eq0-via-then-root-eq0}
use Rattle.bean_lexer.proofs.names.account_len.Goals.{then-root-eq0-via-else-root-eq0+then-not-begins_component_at}

pub returns-then-root-eq0-clause-account : goal.returns-then-root-eq0-clause-account
returns-then-root-eq0-clause-account c =
    let bs = c.args.bytes.now in
    let root = c.root_len-root.ensures in
    elim c.then-root-eq0.branch as (λ _. HasNoFront is_account bs) [
      | then-root-eq0-via-then-root-eq0 w ↦ no_root_at bs (sym root ∙ w.if-root-eq0.true)
      | then-root-eq0-via-else-root-eq0+then-not-begins_component_at w ↦
          let apart = w.if-root-eq0.false in
          no_component bs (omega arith)
          (ap (begins_component_at bs) (sym root) ∙ sym w.begins_component_at.ensures
          ∙ w.if-not-begins_component_at.true)
    ]

pub loop-len-init : goal.loop-len-init
loop-len-init c =
    names_start c.args.bytes.now c.root_len-root.result c.end_of_run-len.result
    c.end_of_run-len.ensures.run
    (sym c.begins_component_at.ensures ∙ c.if-not-begins_component_at.false)

pub loop-len-preserved : goal.loop-len-preserved
loop-len-preserved c =
    names_go_on c.args.bytes.now c.root_len-root.result c.loop-len.len
    c.end_of_run-len-in-loop-len.result c.end_of_run-len-in-loop-len.ensures.run
    (sym c.has_next_component.ensures ∙ c.loop-len-test.true)
    c.loop-len.invariant

pub returns-clause-account : goal.returns-clause-account
returns-clause-account c =
    let bs = c.args.bytes.now in
    let root = c.root_len-root.ensures in
    let apart = c.if-root-eq0.false in
    let low = c.loop-len.invariant.low in
    let names =
    names_end bs c.root_len-root.result c.loop-len.len
    (sym c.has_next_component.ensures ∙ c.loop-len-test.false) c.loop-len.invariant in
    let len : root_len bs + (c.loop-len.len - root_len bs) ≡ c.loop-len.len = omega arith in
    subst (IsLongestFront is_account bs) len
    (account_is bs (c.loop-len.len - root_len bs) (omega arith)
    (subst (λ n. IsLongestFront are_names (drop n bs) (c.loop-len.len - n)) root names))

pub returns-clause-long : goal.returns-clause-long
returns-clause-long c =
    let root = c.root_len-root.ensures in
    let apart = c.if-root-eq0.false in
    let low = c.loop-len.invariant.low in
    let long = root_is_long c.args.bytes.now (omega arith) in
    omega arith

pub returns-clause-colon : goal.returns-clause-colon
returns-clause-colon c =
    let bs = c.args.bytes.now in
    let root = c.root_len-root.ensures in
    let apart = c.if-root-eq0.false in
    let low = c.loop-len.invariant.low in
    let some : 0 < root_len bs = omega arith in
    (root_len bs - 1, omega arith, root_colon bs some)
