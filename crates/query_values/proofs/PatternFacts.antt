-- What a pattern that was built finds.
use Rattle.std.proofs.Common.{◌≡◌, ℕ, ◌<◌, ◌≤◌, true, false, List, length, get_or, Option, None}
use Rattle.std.proofs.Common.{Some, IsSomeAnd, is_some, option_map, ap, subst, ◌∙◌}
use Rattle.std.specs.Option.{option_map_or}
use Rattle.std.specs.Str.{chars}
use Rattle.regex.proofs.ForCallers.{is_match_alike}
use Rattle.regex.specs.Patterns.{Re, Reads, SameCaptures, find_str}
use Rattle.regex.specs.Strings.{regex_config, regex_names, regex_pattern, regex_source}
use Rattle.regex.specs.Strings.{IsReadFromSource}
use Rattle.regex.specs.declared.string.regex.Regex.{Regex}
use Rattle.regex_syntax.specs.Brackets.{Nested}
use Rattle.regex_syntax.specs.Grammar.{Names, group_count, read}
use Rattle.query_values.specs.Pattern.{any_case, is_found}

alike : (o : Option (Nested Re × Names)) (most : ℕ) (a : Re) (names : Names) (text : List ℕ)
    → ((k : ℕ) → get_or text k 0 < 256)
    → IsSomeAnd o (λ (re, found). (re.depth ≤ most) × SameCaptures a re.value × (names ≡ found)
    × (group_count a ≤ length names))
    → is_some (find_str a text 0)
    ≡ option_map_or (λ re. is_some (find_str re text 0)) (option_map (λ r. r.0.value) o) false
alike None most a names text bytes h = absurd h
alike (Some r) most a names text bytes h = is_match_alike h.1 text bytes true 0

pub found : (r : Regex) (pattern text : List ℕ) → regex_source r ≡ pattern
    → regex_config r ≡ any_case → IsReadFromSource r → ((k : ℕ) → get_or text k 0 < 256)
    → is_some (find_str (regex_pattern r) text 0) ≡ is_found pattern text
unfolding Reads
found r pattern text source config read_from bytes =
    alike (read any_case (chars (regex_source r))) any_case.nest_limit (regex_pattern r)
    (regex_names r) text bytes
    (subst (λ cfg. IsSomeAnd (read cfg (chars (regex_source r)))
    (λ (re, found). (re.depth ≤ cfg.nest_limit) × SameCaptures (regex_pattern r) re.value
    × (regex_names r ≡ found) × (group_count (regex_pattern r) ≤ length (regex_names r))))
    config read_from)
    ∙ ap (λ p. is_found p text) source
