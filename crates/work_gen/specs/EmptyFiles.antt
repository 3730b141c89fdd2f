-- The data files of a run that loads none.
use Rattle.std.specs.Prelude.{[], Some}
use Rattle.sand_base.specs.Shelf.{Files}

-- each file is empty
abbrev pub empty_files : Files
empty_files name = Some []
