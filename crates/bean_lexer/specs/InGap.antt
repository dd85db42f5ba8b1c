-- What stands before a token.
use Rattle.std.specs.Prelude.{◌≡◌, ℕ, ◌≤◌, List, length, take, count_by}
use Rattle.bean_lexer.specs.Gap.{is_line_feed, gap_len, behind_gap, place_of}
use Rattle.bean_lexer.specs.declared.gaps.Lead.{Lead}
use Rattle.bean_lexer.specs.declared.gaps.Spot.{Spot}

-- what stands before a token: a whole gap, and the token's place
pub record IsLead (start : Spot) (bs : List ℕ) (lead : Lead) : Type 0 where
  pub inside : lead.len ≤ length bs
  pub gap : lead.len ≡ gap_len start bs
  pub place : lead.place ≡ place_of (behind_gap start bs)
  pub feeds : lead.line_feeds ≡ count_by is_line_feed (take lead.len bs)
