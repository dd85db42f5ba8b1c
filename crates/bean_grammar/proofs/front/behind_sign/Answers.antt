use Rattle.std.proofs.lemmas.Str.{IsCharBoundary-after_ascii}
use Rattle.bean_grammar.proofs.front.behind_sign.Goals as goal

pub range_from-requires : goal.range_from-requires
range_from-requires c =
    λ _. IsCharBoundary-after_ascii c.args.marked.now 0 c.utf8.marked c.requires.some
    c.requires.ascii
