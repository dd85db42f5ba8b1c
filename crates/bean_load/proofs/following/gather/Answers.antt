use Rattle.std.proofs.Common.{Ok, Err, sym, subst}
use Rattle.std.specs.String.{string_bytes}
use Rattle.bean_load.specs.Asking.{Asks}
use Rattle.bean_load.specs.Following.{Follows, Gathers}
use Rattle.bean_load.specs.Gathered.{nothing}
use Rattle.bean_load.specs.Gathering.{TextComes}
use Rattle.bean_load.specs.declared.gathering.SourceAnswer.TheVariants as asked
use Rattle.bean_load.specs.declared.gathering.TheConstants.{DEEPEST}
use Rattle.bean_load.proofs.LineFacts.{told_text}
use Rattle.bean_load.proofs.TopFacts.{top_refused, top_stands, below_refused, top_no_text}
use Rattle.bean_load.proofs.TopFacts.{top_nothing}
use Rattle.bean_load.specs.Gathered.{texts_of}
use Rattle.bean_load.proofs.LimitedFacts.{gathered_limited}
use Rattle.bean_load.proofs.following.gather.Goals as goal

pub returns-in_err-text : goal.returns-in_err-text
returns-in_err-text g c =
    let s = g.S.Source in
    let a = c.args.source.now in
    let b = c.ask.new.source in
    let name = c.args.name.now in
    let mid = c.ask.new.self in
    let fault = c.in_err-text.field-0.0 in
    top_refused s a b name mid fault c.from_residual.result
    (subst (λ z. Asks s a b name z mid (Err fault)) c.new-gathering.ensures
    c.in_err-text.ensures) c.from_residual.ensures.1

pub returns-in_err-follow_text-in-Text : goal.returns-in_err-follow_text-in-Text
returns-in_err-follow_text-in-Text g c =
    let s = g.S.Source in
    let a = c.args.source.now in
    let b = c.ask.new.source in
    let name = c.args.name.now in
    let mid = c.ask.new.self in
    let asks =
    subst (λ z. Asks s a b name z mid (Ok (asked.Text c.in-Text.text))) c.new-gathering.ensures
    (subst (λ v. Asks s a b name c.new-gathering.result mid (Ok v)) c.in-Text.is
    c.in_ok-text.ensures) in
    let told = told_text s a b name nothing mid c.in-Text.text asks in
    let last = c.follow_text.new.gathering in
    let bytes = string_bytes c.in-Text.text in
    let fault = c.in_err-follow_text-in-Text.field-0.0 in
    let text =
    subst (λ z. Follows {T =
    Unit} s b c.follow_text.new.source (TextComes DEEPEST z bytes mid) last (Err fault))
    c.in_ok-name-in-Text.ensures.ok c.in_err-follow_text-in-Text.ensures in
    below_refused s a b c.follow_text.new.source name bytes mid last fault
    c.from_residual-in_err-follow_text-in-Text.result told text
    c.from_residual-in_err-follow_text-in-Text.ensures.1

pub texts-requires : goal.texts-requires
texts-requires g c =
    let s = g.S.Source in
    let a = c.args.source.now in
    let b = c.ask.new.source in
    let name = c.args.name.now in
    let mid = c.ask.new.self in
    let asks =
    subst (λ z. Asks s a b name z mid (Ok (asked.Text c.in-Text.text))) c.new-gathering.ensures
    (subst (λ v. Asks s a b name c.new-gathering.result mid (Ok v)) c.in-Text.is
    c.in_ok-text.ensures) in
    let told = told_text s a b name nothing mid c.in-Text.text asks in
    let last = c.follow_text.new.gathering in
    let bytes = string_bytes c.in-Text.text in
    let text =
    subst (λ z. Follows {T =
    Unit} s b c.follow_text.new.source (TextComes DEEPEST z bytes mid) last (Ok tt))
    c.in_ok-name-in-Text.ensures.ok c.in_ok-follow_text-in-Text.ensures in
    let gathered = top_stands s a b c.follow_text.new.source name bytes mid last told text in
    gathered_limited name gathered.0 (texts_of last) gathered.2

pub returns-in_ok-follow_text-in-Text : goal.returns-in_ok-follow_text-in-Text
returns-in_ok-follow_text-in-Text g c =
    let s = g.S.Source in
    let a = c.args.source.now in
    let b = c.ask.new.source in
    let name = c.args.name.now in
    let mid = c.ask.new.self in
    let asks =
    subst (λ z. Asks s a b name z mid (Ok (asked.Text c.in-Text.text))) c.new-gathering.ensures
    (subst (λ v. Asks s a b name c.new-gathering.result mid (Ok v)) c.in-Text.is
    c.in_ok-text.ensures) in
    let told = told_text s a b name nothing mid c.in-Text.text asks in
    let last = c.follow_text.new.gathering in
    let bytes = string_bytes c.in-Text.text in
    let text =
    subst (λ z. Follows {T =
    Unit} s b c.follow_text.new.source (TextComes DEEPEST z bytes mid) last (Ok tt))
    c.in_ok-name-in-Text.ensures.ok c.in_ok-follow_text-in-Text.ensures in
    subst (λ t. Gathers s a c.follow_text.new.source name (Ok t)) (sym c.texts.ensures)
    (top_stands s a b c.follow_text.new.source name bytes mid last told text)

pub returns-in-NotUtf8 : goal.returns-in-NotUtf8
returns-in-NotUtf8 g c =
    let s = g.S.Source in
    let a = c.args.source.now in
    let b = c.ask.new.source in
    let name = c.args.name.now in
    let mid = c.ask.new.self in
    let asks =
    subst (λ z. Asks s a b name z mid (Ok asked.NotUtf8)) c.new-gathering.ensures
    (subst (λ v. Asks s a b name c.new-gathering.result mid (Ok v)) c.in-NotUtf8.is
    c.in_ok-text.ensures) in
    top_no_text s a b name mid asks

pub returns-in-Failed : goal.returns-in-Failed
returns-in-Failed g c =
    let s = g.S.Source in
    let a = c.args.source.now in
    let b = c.ask.new.source in
    let name = c.args.name.now in
    let mid = c.ask.new.self in
    let asks =
    subst (λ z. Asks s a b name z mid (Ok asked.Failed)) c.new-gathering.ensures
    (subst (λ v. Asks s a b name c.new-gathering.result mid (Ok v)) c.in-Failed.is
    c.in_ok-text.ensures) in
    top_nothing s a b name mid asks
