-- Bare postings: amounts with nothing beside them.
use Rattle.std.proofs.Common.{◌≡◌, ℕ, ◌+◌, ◌<◌, Bool, true, false, not, ◌&&◌, ◌||◌, List, [], ◌∷◌}
use Rattle.std.proofs.Common.{◌++◌, append_assoc, length, get_or, take, drop, reverse, slice_get}
use Rattle.std.proofs.Common.{Some, None, refl, sym, ap, ◌∙◌, subst, arith, length-append}
use Rattle.std.proofs.lemmas.List.{map-append, take-append-drop, take_all}
use Rattle.std.proofs.lemmas.Option.{slice_get-get_or}
use Rattle.std.specs.List.{AllByRecursion, list_any}
use Rattle.theory.proofs.AllFacts.{all_pushed}
use Rattle.bean_postings.specs.Posting.{has_number, is_left_out, is_number_alone}
use Rattle.bean_postings.specs.Posting.{is_outside_profile, is_written}
use Rattle.bean_postings.specs.declared.cost.Cost.TheVariants as cost_kind
use Rattle.bean_postings.specs.declared.posting.Posting.{Posting}
use Rattle.bean_postings.specs.declared.posting.Units as units_declared
use Rattle.bean_postings.specs.declared.posting.Units.TheVariants.{Missing, Currency, Amount}
use Rattle.bean_postings.specs.declared.posting.Units.TheVariants.{NumberAlone}
use Rattle.bean_postings.specs.declared.price.Price.TheVariants as price_kind
use Rattle.bean_interp.specs.Residual.{IsLight}
use Rattle.bean_interp.specs.Weight.{IsOfUnits}
use Rattle.bean_holdings.specs.declared.posted.Posted.{Posted}
use Rattle.bean_holdings.proofs.HeldFacts.{taken_more}
use Rattle.bean_transactions.specs.Plain.{AreAsWritten, IsAsWritten, IsBare, IsBareFront}
use Rattle.bean_transactions.specs.Plain.{IsLackingBehind, IsLackingLast}
use Rattle.bean_transactions.specs.Tried.{booked_leg, booked_legs, is_outside, whole_at, worth_of}
use Rattle.bean_transactions.proofs.LightFacts.{light_units}
use Rattle.bean_transactions.proofs.PlainFacts.{one_more_written}

-- ---- one of them

amount_inside : (u : units_declared.Units) → has_number u ≡ true
    → (is_number_alone u || (is_left_out cost_kind.Absent price_kind.Absent
    || (not (has_number u) && is_written cost_kind.Absent price_kind.Absent))) ≡ false
amount_inside Missing h = cc
amount_inside (Currency c) h = cc
amount_inside (Amount a) h = refl
amount_inside NumberAlone h = cc

bare_inside : (p : Posting) → IsBare p → is_outside_profile p ≡ false
bare_inside p is =
    (λ k. is_number_alone p.units || (is_left_out (is.cost k) (is.price k)
    || (not (has_number p.units) && is_written (is.cost k) (is.price k))))
    ∙ amount_inside p.units is.number

bare_light : (ps : List Posting) (i : ℕ) (p : Posting) (q : Posted) → slice_get ps i ≡ Some p
    → IsBare p → IsAsWritten i p q → IsLight (booked_leg ps q)
bare_light ps i p q at bare is =
    light_units q.units (whole_at (slice_get ps q.written) q)
    (subst (λ o. IsOfUnits q.units (whole_at o q)) (sym (ap (slice_get ps) is.written_is ∙ at))
    (record {
      units_are = refl;
      worth_is = ap (λ l. worth_of l p.details.price) is.lot_is ∙ ap (worth_of None) bare.price;
    }))

-- ---- those at the front

neither : (a b : Bool) → (a || b) ≡ false → (a ≡ false) × (b ≡ false)
neither true b h = cc
neither false b h = (refl, h)

none_more : {X : Type 0} (f : X → Bool) (xs : List X) (x : X) → list_any f xs ≡ false
    → f x ≡ false → list_any f (xs ++ x ∷ []) ≡ false
none_more f [] x none h = ap (λ b. b || false) h
none_more f (y ∷ xs) x none h =
    let parts = neither (f y) (list_any f xs) none in
    ap (λ b. b || list_any f (xs ++ x ∷ [])) parts.0 ∙ none_more f xs x parts.1 h

pub one_more_bare : (ps : List Posting) (i : ℕ) (p : Posting) (q : Posted) (earlier qs : List Posted)
    → i < length ps → p ≡ get_or ps i p → length earlier ≡ i → IsBareFront ps earlier → IsBare p
    → IsAsWritten (length earlier) p q → qs ≡ earlier ++ q ∷ [] → IsBareFront ps qs
one_more_bare ps i p q earlier qs h e many front bare is more =
    let one = ap length more ∙ length-append earlier (q ∷ []) in
    let longer : length qs ≡ i + 1 = omega (arith, one, many) in
    let so_far : take (length earlier) ps ≡ take i ps = ap (λ n. take n ps) many in
    let taken = ap (λ n. take n ps) longer ∙ taken_more ps i p h e in
    let at : slice_get ps i ≡ Some p = slice_get-get_or ps i p h ∙ ap Some (sym e) in record {
      few = omega (arith, longer, h);
      written = subst (λ l. AreAsWritten (reverse l) qs) (sym taken)
          (one_more_written (take i ps) p earlier qs q
          (subst (λ l. AreAsWritten (reverse l) earlier) so_far front.written) is more);
      inside = ap is_outside taken
          ∙ none_more is_outside_profile (take i ps) p (sym (ap is_outside so_far) ∙ front.inside)
          (bare_inside p bare);
      light = subst (AllByRecursion IsLight)
          (sym (ap (booked_legs ps) more ∙ map-append (booked_leg ps) earlier (q ∷ [])))
          (all_pushed IsLight (booked_legs ps earlier) (booked_leg ps q) front.light
          (bare_light ps i p q at bare (subst (λ n. IsAsWritten n p q) many is)));
    }

-- ---- where they are all, and what stands behind them

module _ (ps : List Posting) (qs : List Posted) (front : IsBareFront ps qs) where
  pub all_bare : length qs ≡ length ps → AreAsWritten (reverse ps) qs × (is_outside ps ≡ false)
  all_bare all =
      let whole : take (length qs) ps ≡ ps = take_all (length qs) ps (omega (arith, all)) in (
        subst (λ l. AreAsWritten (reverse l) qs) whole front.written,
        sym (ap is_outside whole) ∙ front.inside,
      )

  pub lacking_last : (between : List Posting) (posted : List Posted)
      → IsLackingBehind between (drop (length qs) ps)
      → ((before : List Posting) → AreAsWritten (reverse before) qs
      → AreAsWritten (reverse (before ++ between)) posted) → IsLackingLast ps posted
  lacking_last between posted is more = record {
    front = take (length qs) ps ++ between;
    last = is.last;
    are = sym (take-append-drop (length qs) ps) ∙ ap (λ l. take (length qs) ps ++ l) is.are
        ∙ sym (append_assoc (take (length qs) ps) between (is.last ∷ []));
    written = more (take (length qs) ps) front.written;
    lacks = is.lacks;
  }
