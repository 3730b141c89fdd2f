-- What the loop over the pieces of a file keeps.
use Rattle.std.proofs.Common.{◌+◌, ◌-◌, length}
use Rattle.sand_model.specs.StatementChecks.{longest_file}
use Rattle.csv_load.proofs.FileReading.{SoFar}
use Rattle.csv_load.proofs.file.read_file.Given as goal

-- the bytes so far are the file's first
abbrev pub invariant-pieces : goal.invariant-pieces
invariant-pieces g l =
    SoFar (g.H.Shelf.files l.fn.shelf) (g.H.Shelf.files l.shelf) l.name (g.H.Shelf.left l.shelf) (g.H.Shelf.faults l.fn.shelf) (g.H.Shelf.faults l.shelf)
    (g.H.Shelf.chosen l.shelf) l.bytes.items

-- how many bytes may still come
abbrev pub decreases-pieces : goal.decreases-pieces
decreases-pieces g l = longest_file + 1 - length l.bytes.items
