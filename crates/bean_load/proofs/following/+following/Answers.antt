use Rattle.std.proofs.Common.{◌≡◌, ◌+◌, ◌-◌, arith, drop, [], ◌∷◌, Ok, Err, sym, ap, ◌∙◌, subst}
use Rattle.std.proofs.lemmas.Grind.{common_steps}
use Rattle.std.specs.String.{string_bytes}
use Rattle.bean_load.specs.Asking.{Asks}
use Rattle.bean_load.specs.Following.{Follows}
use Rattle.bean_load.specs.declared.gathering.SourceAnswer.TheVariants as asked
use Rattle.bean_load.specs.Gathered.{was_asked, with_fault, with_part}
use Rattle.bean_load.specs.Gathering.{LineComes, LinesCome, TextComes}
use Rattle.stores.proofs.GaveFacts.{gave_none}
use Rattle.bean_load.proofs.LineFacts.{lacking, failing, was_repeated, was_full, told_text}
use Rattle.bean_load.proofs.LineFacts.{text_failed, text_stood, gave_more, Continues, begins}
use Rattle.bean_load.proofs.LineFacts.{goes_on, line_failed, all_came}
use Rattle.bean_load.proofs.following.+following.Goals as goal

pub follow_line-returns-in_err-add_fault : goal.follow_line-returns-in_err-add_fault
follow_line-returns-in_err-add_fault g t c =
    lacking g.S.Source c.args.source.now c.args.source.now []
    (LineComes c.args.room c.args.file c.args.include.now c.args.gathering.now)
    c.add_fault.new.self c.from_residual.result
    (gave_none g.S.Source c.args.source.now) c.from_residual.ensures.1

pub follow_line-returns-then-was_asked : goal.follow_line-returns-then-was_asked
follow_line-returns-then-was_asked g t c =
    let name_is = c.deref.ensures ∙ ap (λ i. i.name) c.include.view_is in
    was_repeated g.S.Source c.args.source.now c.args.room c.args.file c.args.include.now
    c.args.gathering.now c.add_fault.new.self
    (sym (c.was_asked.ensures ∙ ap (λ n. was_asked n c.args.gathering.now) name_is)
    ∙ c.if-was_asked.true)
    (c.in_ok-add_fault.ensures
    ∙ ap (λ i. with_fault c.args.file i.line c.args.gathering.now) c.include.view_is)

pub follow_line-returns-then-is_full : goal.follow_line-returns-then-is_full
follow_line-returns-then-is_full g t c =
    let name_is = c.deref.ensures ∙ ap (λ i. i.name) c.include.view_is in
    was_full g.S.Source c.args.source.now c.args.room c.args.file c.args.include.now
    c.args.gathering.now
    (sym (c.was_asked.ensures ∙ ap (λ n. was_asked n c.args.gathering.now) name_is)
    ∙ c.if-was_asked.false)
    (sym c.is_full.ensures ∙ c.if-is_full.true)

pub follow_line-returns-in_err-follow_text-in-Text :
    goal.follow_line-returns-in_err-follow_text-in-Text
follow_line-returns-in_err-follow_text-in-Text g t c =
    let s = g.S.Source in
    let a = c.args.source.now in
    let b = c.ask.new.source in
    let room = c.args.room in
    let line = c.args.include.now in
    let before = c.args.gathering.now in
    let mid = c.ask.new.self in
    let name_is = ap (λ i. i.name) c.include.view_is in
    let not_asked =
    sym (c.was_asked.ensures ∙ ap (λ n. was_asked n before) (c.deref.ensures ∙ name_is))
    ∙ c.if-was_asked.false in
    let not_full = sym c.is_full.ensures ∙ c.if-is_full.false in
    let asks =
    subst (λ v. Asks s a b c.deref-2.result.now before mid (Ok v)) c.in-Text.is
    c.in_ok-text.ensures in
    let told =
    told_text s a b line.name before mid c.in-Text.text
    (subst (λ z. Asks s a b z before mid (Ok (asked.Text c.in-Text.text)))
    (c.deref-2.ensures ∙ name_is) asks) in
    let fault = c.in_err-follow_text-in-Text.field-0.0 in
    let last = c.follow_text.new.gathering in
    let text =
    subst (λ z. Follows {T =
    Unit} s b c.follow_text.new.source
    (TextComes (room - 1) z (string_bytes c.in-Text.text) mid) last (Err fault))
    (c.in_ok-name-in-Text.ensures.cases ∙ name_is) c.in_err-follow_text-in-Text.ensures in
    failing s a c.follow_text.new.source (LineComes room c.args.file line before) last last fault
    c.from_residual-in_err-follow_text-in-Text.result
    (text_failed s a b c.follow_text.new.source room c.args.file line before mid last last
    (string_bytes c.in-Text.text) fault not_asked not_full told text)
    c.from_residual-in_err-follow_text-in-Text.ensures.1

pub follow_line-returns-in_err-add_part-in-Text : goal.follow_line-returns-in_err-add_part-in-Text
follow_line-returns-in_err-add_part-in-Text g t c =
    let s = g.S.Source in
    let a = c.args.source.now in
    let b = c.ask.new.source in
    let room = c.args.room in
    let line = c.args.include.now in
    let before = c.args.gathering.now in
    let mid = c.ask.new.self in
    let name_is = ap (λ i. i.name) c.include.view_is in
    let not_asked =
    sym (c.was_asked.ensures ∙ ap (λ n. was_asked n before) (c.deref.ensures ∙ name_is))
    ∙ c.if-was_asked.false in
    let not_full = sym c.is_full.ensures ∙ c.if-is_full.false in
    let asks =
    subst (λ v. Asks s a b c.deref-2.result.now before mid (Ok v)) c.in-Text.is
    c.in_ok-text.ensures in
    let told =
    told_text s a b line.name before mid c.in-Text.text
    (subst (λ z. Asks s a b z before mid (Ok (asked.Text c.in-Text.text)))
    (c.deref-2.ensures ∙ name_is) asks) in
    let last = c.follow_text.new.gathering in
    let text =
    subst (λ z. Follows {T =
    Unit} s b c.follow_text.new.source
    (TextComes (room - 1) z (string_bytes c.in-Text.text) mid) last
    (Ok c.in_ok-follow_text-in-Text.field-0)) (c.in_ok-name-in-Text.ensures.cases ∙ name_is)
    c.in_ok-follow_text-in-Text.ensures in
    lacking s a c.follow_text.new.source ((line.name, Ok (string_bytes c.in-Text.text)) ∷ text.0)
    (LineComes room c.args.file line before) c.add_part.new.self
    c.from_residual-in_err-add_part-in-Text.result
    (gave_more s a b c.follow_text.new.source line.name (string_bytes c.in-Text.text) before mid
    text.0 told text.1)
    c.from_residual-in_err-add_part-in-Text.ensures.1

pub follow_line-returns-in_ok-add_part-in-Text : goal.follow_line-returns-in_ok-add_part-in-Text
follow_line-returns-in_ok-add_part-in-Text g t c =
    let s = g.S.Source in
    let a = c.args.source.now in
    let b = c.ask.new.source in
    let room = c.args.room in
    let line = c.args.include.now in
    let before = c.args.gathering.now in
    let mid = c.ask.new.self in
    let name_is = ap (λ i. i.name) c.include.view_is in
    let not_asked =
    sym (c.was_asked.ensures ∙ ap (λ n. was_asked n before) (c.deref.ensures ∙ name_is))
    ∙ c.if-was_asked.false in
    let not_full = sym c.is_full.ensures ∙ c.if-is_full.false in
    let asks =
    subst (λ v. Asks s a b c.deref-2.result.now before mid (Ok v)) c.in-Text.is
    c.in_ok-text.ensures in
    let told =
    told_text s a b line.name before mid c.in-Text.text
    (subst (λ z. Asks s a b z before mid (Ok (asked.Text c.in-Text.text)))
    (c.deref-2.ensures ∙ name_is) asks) in
    let last = c.follow_text.new.gathering in
    let text =
    subst (λ z. Follows {T =
    Unit} s b c.follow_text.new.source
    (TextComes (room - 1) z (string_bytes c.in-Text.text) mid) last (Ok tt))
    (c.in_ok-name-in-Text.ensures.cases ∙ name_is) c.in_ok-follow_text-in-Text.ensures in
    text_stood s a b c.follow_text.new.source room c.args.file line before mid last
    c.add_part.new.self (string_bytes c.in-Text.text) not_asked not_full told text
    (c.in_ok-add_part-in-Text.ensures
    ∙ ap (λ i. with_part c.args.file i.line last) c.include.view_is)

pub follow_lines-loop-line-init : goal.follow_lines-loop-line-init
follow_lines-loop-line-init g t c =
    begins g.S.Source c.args.source.now c.args.room c.args.file c.args.lines.now
    c.args.gathering.now

pub follow_lines-returns-in_err-include : goal.follow_lines-returns-in_err-include
follow_lines-returns-in_err-include g t c =
    let so_far = c.loop-line.invariant in
    lacking g.S.Source c.args.source.now c.loop-line.source so_far.0
    (LinesCome c.args.room c.args.file c.args.lines.now c.args.gathering.now) c.loop-line.gathering
    c.from_residual.result so_far.1 c.from_residual.ensures.1

pub follow_lines-returns-in_err-follow_line : goal.follow_lines-returns-in_err-follow_line
follow_lines-returns-in_err-follow_line g t c =
    let s = g.S.Source in
    let a = c.args.source.now in
    let b = c.loop-line.source in
    let lines = c.args.lines.now in
    let before = c.args.gathering.now in
    let left = drop (c.loop-line.line-index + 1) lines in
    let next : drop c.loop-line.line-index lines ≡ c.line-item.result ∷ left =
    grind (arith, common_steps) in
    let so_far =
    subst (λ ls. Continues s a b c.args.room c.args.file lines before ls c.loop-line.gathering)
    next c.loop-line.invariant in
    let fault = c.in_err-follow_line.field-0.0 in
    let last = c.follow_line.new.gathering in
    failing s a c.follow_line.new.source (LinesCome c.args.room c.args.file lines before) last last
    fault c.from_residual-in_err-follow_line.result
    (line_failed s a b c.follow_line.new.source c.args.room c.args.file lines before
    c.loop-line.gathering last last c.line-item.result left fault so_far
    (subst (λ i. Follows {T =
    Unit} s b c.follow_line.new.source (LineComes c.args.room c.args.file i c.loop-line.gathering)
    last (Err fault)) c.in_ok-include.ensures c.in_err-follow_line.ensures))
    c.from_residual-in_err-follow_line.ensures.1

pub follow_lines-loop-line-preserved : goal.follow_lines-loop-line-preserved
follow_lines-loop-line-preserved g t c =
    let s = g.S.Source in
    let a = c.args.source.now in
    let b = c.loop-line.source in
    let lines = c.args.lines.now in
    let before = c.args.gathering.now in
    let left = drop (c.loop-line.line-index + 1) lines in
    let next : drop c.loop-line.line-index lines ≡ c.line-item.result ∷ left =
    grind (arith, common_steps) in
    let so_far =
    subst (λ ls. Continues s a b c.args.room c.args.file lines before ls c.loop-line.gathering)
    next c.loop-line.invariant in
    let last = c.follow_line.new.gathering in
    goes_on s a b c.follow_line.new.source c.args.room c.args.file lines before
    c.loop-line.gathering last c.line-item.result left so_far
    (subst (λ i. Follows {T =
    Unit} s b c.follow_line.new.source (LineComes c.args.room c.args.file i c.loop-line.gathering)
    last (Ok tt)) c.in_ok-include.ensures c.in_ok-follow_line.ensures)

pub follow_lines-returns : goal.follow_lines-returns
follow_lines-returns g t c =
    let s = g.S.Source in
    let a = c.args.source.now in
    let lines = c.args.lines.now in
    let before = c.args.gathering.now in
    let none : drop c.loop-line.line-index lines ≡ [] = grind (arith, common_steps) in
    all_came s a c.loop-line.source c.args.room c.args.file lines before c.loop-line.gathering
    (subst (λ ls. Continues s a c.loop-line.source c.args.room c.args.file lines before ls
    c.loop-line.gathering) none c.loop-line.invariant)

pub follow_text-returns-in_err-including : goal.follow_text-returns-in_err-including
follow_text-returns-in_err-including g t c =
    lacking g.S.Source c.args.source.now c.args.source.now []
    (TextComes c.args.room (string_bytes c.args.name) (string_bytes c.args.text)
    c.args.gathering.now) c.args.gathering.now c.from_residual.result
    (gave_none g.S.Source c.args.source.now) c.from_residual.ensures.1

pub follow_text-returns-in_err-lines : goal.follow_text-returns-in_err-lines
follow_text-returns-in_err-lines g t c =
    lacking g.S.Source c.args.source.now c.args.source.now []
    (TextComes c.args.room (string_bytes c.args.name) (string_bytes c.args.text)
    c.args.gathering.now) c.args.gathering.now c.from_residual-in_err-lines.result
    (gave_none g.S.Source c.args.source.now) c.from_residual-in_err-lines.ensures.1

pub follow_text-returns-in_err-add_file : goal.follow_text-returns-in_err-add_file
follow_text-returns-in_err-add_file g t c =
    lacking g.S.Source c.args.source.now c.args.source.now []
    (TextComes c.args.room (string_bytes c.args.name) (string_bytes c.args.text)
    c.args.gathering.now) c.add_file.new.self c.from_residual-in_err-add_file.result
    (gave_none g.S.Source c.args.source.now) c.from_residual-in_err-add_file.ensures.1
