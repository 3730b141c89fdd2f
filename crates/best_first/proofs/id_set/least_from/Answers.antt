use Rattle.std.proofs.Common.{◌<◌, get_or, refl, arith}
use Rattle.best_first.proofs.BitsOfNumbers.{found, none_in_word}
use Rattle.best_first.proofs.id_set.least_from.Goals as goal

-- the first word with a bit has the least one
pub returns-then-word-ne0 : goal.returns-then-word-ne0
returns-then-word-ne0 c =
    let word = get_or c.args.words.now c.loop-place.place 0 in
    let pos : 0 < word = let not_zero = c.if-word-ne0.true in omega arith in
    found c.args.words.now c.loop-place.place word c.loop-place-test.true refl c.loop-place.invariant pos (c.type_inv.words c.loop-place.place).fits

-- no word has a bit
pub returns : goal.returns
returns c = let past = c.loop-place-test.false in λ n l. c.loop-place.invariant n (omega arith)

-- the word at the place has none
pub loop-place-preserved : goal.loop-place-preserved
loop-place-preserved c = none_in_word c.args.words.now c.loop-place.place (get_or c.args.words.now c.loop-place.place 0) refl c.if-word-ne0.false c.loop-place.invariant
