-- Postings that stay while others are added behind them.
use Rattle.std.proofs.Common.{◌≡◌, ℕ, ◌≤◌, List, [], ◌∷◌, ◌++◌, length, take, drop, refl, sym, ◌∙◌}
use Rattle.std.proofs.Common.{ap, arith}
use Rattle.std.proofs.lemmas.List.{append-nil, length-append, take-append-le, take-append-drop}
use Rattle.std.proofs.Math.Seq.{take-append_seam}
use Rattle.bean_postings.specs.declared.posting.Posting.{Posting}
use Rattle.bean_parser.specs.Plain.{IsKept}

pub kept_all : (n : ℕ) (ps : List Posting) → n ≤ length ps → IsKept n ps ps
kept_all n ps room = record { front = refl; room = room }

pub kept_both : (n : ℕ) (ps qs rs : List Posting) → IsKept n ps qs → IsKept n qs rs → IsKept n ps rs
kept_both n ps qs rs kept more = record { front = more.front ∙ kept.front; room = more.room }

pub kept_more : (n : ℕ) (ps qs more : List Posting) → n ≤ length ps → qs ≡ ps ++ more
    → IsKept n ps qs
kept_more n ps qs more room is =
    let longer = length-append ps more in
    let same = ap length is in
    record {
      front = ap (take n) is ∙ take-append-le n ps more room;
      room = omega (arith, room, longer, same);
    }

pub kept_before : (n : ℕ) (ps qs : List Posting) (last : Posting) → n ≤ length ps
    → (length ps ≡ n → ⊥) → ps ≡ qs ++ last ∷ [] → IsKept n ps qs
kept_before n ps qs last room some is =
    let longer = length-append qs (last ∷ []) in
    let same = ap length is in
    let fits : n ≤ length qs = omega (arith, room, some, longer, same) in
    record { front = sym (ap (take n) is ∙ take-append-le n qs (last ∷ []) fits); room = fits }

take_all : (n : ℕ) (ps : List Posting) → n ≡ length ps → take n ps ≡ ps
take_all n ps all =
    ap (λ m. take m ps) all ∙ ap (take (length ps)) (sym (append-nil ps)) ∙ take-append_seam ps []

-- what all stays of is at the front
pub behind_kept : (n : ℕ) (ps qs : List Posting) → n ≡ length ps → IsKept n ps qs
    → qs ≡ ps ++ drop n qs
behind_kept n ps qs all kept =
    sym (take-append-drop n qs) ∙ ap (λ xs. xs ++ drop n qs) (kept.front ∙ take_all n ps all)

pub kept_cut : (n : ℕ) (ps qs cut : List Posting) → n ≡ length ps → IsKept n ps qs
    → cut ≡ take n qs → cut ≡ ps ++ []
kept_cut n ps qs cut all kept is = is ∙ kept.front ∙ take_all n ps all ∙ sym (append-nil ps)
