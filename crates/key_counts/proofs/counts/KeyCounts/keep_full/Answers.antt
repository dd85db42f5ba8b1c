use Rattle.std.proofs.Common.{◌∙◌, ap, filter, rules, subst, sym}
use Rattle.std.specs.List.{IsDistinct}
use Rattle.std.specs.Map.{keys_of}
use Rattle.std.proofs.lemmas.List.Elements.{filter_from_retain}
use Rattle.std.proofs.lemmas.Map.Made.{IsDistinct-keys_filter}
use Rattle.key_counts.specs.Kept.{is_full}
use Rattle.key_counts.proofs.counts.KeyCounts.keep_full.Goals as goal

pub invariant_of-self : goal.invariant_of-self
invariant_of-self g c =
    let es = c.self.inside.slots.items in
    let kept =
    filter_from_retain _ is_full (λ p x b q h. search rules) _ es c.retain.new.self.items c.retain.ensures.filtered in
    record {
      distinct =
          subst (λ l. IsDistinct g.K.PartialEq.eq (keys_of l)) (sym kept)
          (IsDistinct-keys_filter g.K.PartialEq.eq is_full es c.self.invariant.distinct);
      places_are = tt;
    }

pub returns : goal.returns
returns g c =
    filter_from_retain _ is_full (λ p x b q h. search rules) _ c.self.inside.slots.items c.retain.new.self.items c.retain.ensures.filtered
    ∙ ap (filter is_full) c.self.view_is
