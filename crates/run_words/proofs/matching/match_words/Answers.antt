-- The command took the words, and these are their matches.
use Rattle.std.proofs.Common.{Bor, List, ℕ, map}
use Rattle.run_words.proofs.SandMatches.{ours_free, ours_matched}
use Rattle.run_words.proofs.matching.match_words.Goals as goal

pub returns-in-Ok-clause-matched : goal.returns-in-Ok-clause-matched
returns-in-Ok-clause-matched c =
    ours_matched c.args.command c.requires.one c.in-Ok.matches (map (λ (t : Bor (List ℕ)). t.now) c.args.texts.now)
    (c.in-Ok.ensures.kinds (ours_free c.args.command c.requires.one)) c.in-Ok.ensures.parsed c.in-Ok.ensures.matches
