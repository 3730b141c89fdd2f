-- zeros but for the kind
use Rattle.tuple_file.proofs.Pastes.{blank_is}
use Rattle.tuple_file.proofs.page.blank.Goals as goal

pub returns : goal.returns
returns c = blank_is c.paste.new.page c.paste.ensures
