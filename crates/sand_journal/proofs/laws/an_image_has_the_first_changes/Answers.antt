use Rattle.sand_journal.proofs.OneList.{at_least}
use Rattle.sand_journal.proofs.laws.an_image_has_the_first_changes.Goals as goal

pub returns : goal.returns
returns c = at_least
