use Rattle.sand_journal.proofs.OneList.{one_bodies}
use Rattle.sand_journal.proofs.laws.an_image_has_one_list_of_bodies.Goals as goal

pub returns : goal.returns
returns c = one_bodies
