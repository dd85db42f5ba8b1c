use Rattle.std.proofs.Common.{◌≡◌, ◌∙◌, ◌/◌, ◌%◌, ap, sym, subst, Some, arith, get_or, length, ◌<◌, ◌+◌, ◌*◌, ◌≤◌}
use Rattle.std.proofs.Math.Nat.{div-add-mod, mod-lt}
use Rattle.std.proofs.lemmas.Option.{slice_get-get_or}
use Rattle.std.specs.List.{slice_get}
use Rattle.pieces.specs.Pieces.{pieced}
use Rattle.pieces.proofs.PieceFacts.{full_at, length_is, of_full, of_last}
use Rattle.pieces.proofs.pieces.Pieces.at.Goals as goal

pub returns-in-Some : goal.returns-in-Some
returns-in-Some g c =
    let i = c.args.index in
    let full = c.self.inside.full.items in
    let last = c.self.inside.last.items in
    let piece = c.in-Some.piece.now in
    let found : slice_get full (i / 1024) ≡ Some piece =
    subst (λ l. slice_get l (i / 1024) ≡ Some piece) c.deref.ensures.value
    (slice_get-get_or c.deref.result.now (i / 1024) piece c.in-Some.ensures.lookup.3.0
    ∙ ap Some (sym c.in-Some.ensures.lookup.1)) in
    let at : 1024 * (i / 1024) + i % 1024 ≡ i = div-add-mod i 1024 in
    let less : i % 1024 < 1024 = mod-lt i (omega arith) in
    let own = of_full 1024 full last (i / 1024) (i % 1024) piece c.self.invariant.1 found less in
    let whole = full_at 1024 full (i / 1024) piece c.self.invariant.1 found in
    let inside : i % 1024 < length piece = omega (arith, whole, less) in
    let item = c.index-as_slice-index.result in
    let same = c.index-as_slice-index.is ∙ ap (λ l. get_or l (i % 1024) item) c.as_slice.ensures in
    let is = sym (slice_get-get_or piece (i % 1024) item inside ∙ ap Some (sym same)) in
    is ∙ sym own ∙ ap (slice_get (pieced full last)) at ∙ ap (λ l. slice_get l i) c.self.view_is

pub index-requires : goal.index-requires
index-requires g c =
    let i = c.args.index in
    let full = c.self.inside.full.items in
    let last = c.self.inside.last.items in
    let past : length full ≤ i / 1024 =
    subst (λ l. length l ≤ i / 1024) c.deref.ensures.value c.in-None.ensures.lookup.3 in
    let at : 1024 * (i / 1024) + i % 1024 ≡ i = div-add-mod i 1024 in
    let whole = length_is 1024 full last c.self.invariant.1 in
    let short = c.self.invariant.2 in
    let below : i < length (pieced full last) = subst (λ l. i < length l) (sym c.self.view_is) c.requires in
    let within : i % 1024 < length last = omega (arith, past, at, whole, short, below) in
    let count = c.self.inside.last.ok.0 in
    omega (arith, within, count)

pub returns-in-None : goal.returns-in-None
returns-in-None g c =
    let i = c.args.index in
    let full = c.self.inside.full.items in
    let last = c.self.inside.last.items in
    let past : length full ≤ i / 1024 =
    subst (λ l. length l ≤ i / 1024) c.deref.ensures.value c.in-None.ensures.lookup.3 in
    let at : 1024 * (i / 1024) + i % 1024 ≡ i = div-add-mod i 1024 in
    let whole = length_is 1024 full last c.self.invariant.1 in
    let short = c.self.invariant.2 in
    let below : i < length (pieced full last) = subst (λ l. i < length l) (sym c.self.view_is) c.requires in
    let behind : 1024 * length full + i % 1024 ≡ i = omega (arith, past, at, whole, short, below) in
    let own = of_last 1024 full last (i % 1024) c.self.invariant.1 in
    let within : i % 1024 < length last = omega (arith, past, at, whole, short, below) in
    let item = c.index.result.now in
    let is = sym (slice_get-get_or last (i % 1024) item within ∙ ap Some (sym c.index.ensures)) in
    is ∙ sym own ∙ ap (slice_get (pieced full last)) behind ∙ ap (λ l. slice_get l i) c.self.view_is
