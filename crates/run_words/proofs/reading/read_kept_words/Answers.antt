-- what the matches ask for, and the journal's name among them
use Rattle.run_words.specs.Asked.{IsMatchedBy}
use Rattle.run_words.specs.Command.{kept_app}
use Rattle.run_words.proofs.KeptAsked.{kept_asked}
use Rattle.run_words.proofs.reading.read_kept_words.Goals as goal

pub returns-clause-asked : goal.returns-clause-asked
returns-clause-asked c =
    let matched : IsMatchedBy kept_app c.args.words.now c.in_ok-matches.matches =
    rw (c.in_ok-kept_command.ensures, c.as_slice.ensures.value, c.in_ok-texts.ensures) at c.in_ok-matches.ensures.matched in
    kept_asked c.args.words.now c.in_ok-matches.matches c.in_ok-words_of.field-0 c.in_ok-journal.journal matched c.in_ok-words_of.ensures c.in_ok-journal.ensures
