-- What the loop over the words keeps.
use Rattle.std.proofs.Common.{◌≡◌, map, take}
use Rattle.run_words.proofs.reading.texts_of.Given as goal

-- the texts so far are the first words
abbrev pub invariant-words : goal.invariant-words
invariant-words l = map (λ t. t.now) l.texts.items ≡ take l.word-index l.words
