use Rattle.std.proofs.Common.{ℕ, ◌++◌, ◌∷◌, [], List, encode_utf8, append_assoc, sym, ap, ◌∙◌, map-id}
use Rattle.std.specs.List.{flat_map}
use Rattle.std.specs.String.{string_bytes}
use Rattle.std.proofs.lemmas.Grind.{flat_map-append}
use Rattle.std.proofs.lemmas.Iterator.{YieldsList-from_chars}
use Rattle.std.proofs.lemmas.Iterator.Consumers.{YieldsList-end}
use Rattle.std.proofs.lemmas.List.{append-nil}
use Rattle.cell_texts.specs.CellText.{shown_character}
use Rattle.cell_texts.proofs.cells.add_clean.Goals as goal

pub loop-c-init : goal.loop-c-init
loop-c-init c = sym (append-nil (string_bytes c.args.clean.now))

pub loop-c-preserved : goal.loop-c-preserved
loop-c-preserved c =
    let shown : ℕ → List ℕ = λ x. encode_utf8 (shown_character x) in
    let front = string_bytes c.args.clean.now in
    let so_far = flat_map shown c.loop-c.yielded in
    let next = c.in-Some.c in
    c.in_ok-push.ensures.bytes
    ∙ (λ k. c.loop-c.invariant k ++ encode_utf8 (c.shown_character.ensures k))
    ∙ append_assoc front so_far (shown next)
    ∙ ap (λ l. front ++ l)
    (sym (flat_map-append shown c.loop-c.yielded (next ∷ [])
    ∙ ap (λ l. so_far ++ l) (append-nil (shown next))))

pub returns : goal.returns
returns c =
    let end =
    YieldsList-end (YieldsList-from_chars c.args.text.now c.utf8.text cc) c.loop-c.yielded _
    c.loop-c.yielded_by _ _ c.in-None.is c.next.ensures.steps in
    c.loop-c.invariant
    ∙ ap (λ l. string_bytes c.args.clean.now
    ++ flat_map (λ (c : ℕ). encode_utf8 (shown_character c)) l)
    (sym (map-id c.loop-c.yielded) ∙ end.0)
