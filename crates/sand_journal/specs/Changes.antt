-- The changes that an image of a journal has.
use Rattle.std.specs.Prelude.{◌≤◌, ℕ, List, length, map, take}
use Rattle.std.specs.List.{AllByRecursion}
use Rattle.sand_journal.specs.ChangeBody.{ChangeValue, IsChange, body_of}
use Rattle.sand_journal.specs.Images.{HasBodies}

-- The changes of the image: those of its open records, up to the first gate that isn't open.
pub record HasChanges (changes : List ChangeValue) (image : List ℕ) : Type 0 where
  pub all : AllByRecursion IsChange changes
  pub bodies : HasBodies (map body_of changes) image

-- The image has the first changes of these, and at least so many.
pub record HasAtLeast (n : ℕ) (changes : List ChangeValue) (image : List ℕ) : Type 0 where
  pub count : ℕ
  pub least : n ≤ count
  pub within : count ≤ length changes
  pub has : HasChanges (take count changes) image
