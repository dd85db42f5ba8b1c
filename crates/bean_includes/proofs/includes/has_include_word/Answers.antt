use Rattle.std.proofs.Common.{◌≡◌, nat_eq, false, ◌∷◌, codes, sym, ◌∙◌, ap, subst, MatchBool}
use Rattle.std.specs.List.{starts_with}
use Rattle.memchr.specs.Find.{FindsNeedle}
use Rattle.bean_includes.specs.Includes.{HasIncludeWord}
use Rattle.bean_includes.proofs.NoIncludeFacts.{searched}
use Rattle.bean_includes.proofs.includes.has_include_word.Goals as goal

pub returns-else-starts_with : goal.returns-else-starts_with
returns-else-starts_with c =
    let text = c.args.text.now in
    let seen = c.as_bytes-bytes.ensures.value in
    let front : starts_with nat_eq text (codes "include") ≡ false =
    ap (λ bs. starts_with nat_eq bs (codes "include")) (sym seen)
    ∙ sym c.starts_with.ensures.value ∙ c.if-starts_with.false in
    let finds : FindsNeedle text (10 ∷ codes "include") 0 c.find.result =
    subst (λ bs. FindsNeedle bs (10 ∷ codes "include") 0 c.find.result) seen c.find.ensures in
    subst (λ r. MatchBool r (HasIncludeWord text) (HasIncludeWord text → ⊥))
    (sym c.is_some.ensures) (searched text c.find.result front finds)
