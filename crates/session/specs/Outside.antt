-- What is outside of a run, as contracts see it at one moment.
use Rattle.std.specs.Prelude.{ℕ, List, Option}
use Rattle.page_pool.specs.Disk.{DiskView}
use Rattle.sand_base.specs.Shelf.{Files}

-- the bytes that a source has left, where it tells them, and its count of faults
pub record SourceView : Type 0 where
  pub left : Option (List ℕ)
  pub faults : ℕ

-- the data files of a shelf, where it tells them, and its count of faults
pub record ShelfView : Type 0 where
  pub files : Option Files
  pub faults : ℕ

-- what a sink has taken, where it tells that, and its count of faults
pub record SinkView : Type 1 where
  pub took : List ℕ → Type 0
  pub faults : ℕ

-- the source of the script, the shelf of data files, the disk of pages, and the sink of the lines
pub record Outside : Type 1 where
  pub source : SourceView
  pub shelf : ShelfView
  pub disk : DiskView
  pub sink : SinkView

-- what is outside, by what the source has left and its count, the files of the shelf and its count, the disk, and what the sink took and its count
abbrev pub outside_of : Option (List ℕ) → ℕ → Option Files → ℕ → DiskView → (List ℕ → Type 0) → ℕ → Outside
outside_of left reads files opens disk took writes = record {
  source = record { left = left; faults = reads };
  shelf = record { files = files; faults = opens };
  disk = disk;
  sink = record { took = took; faults = writes };
}
