-- The calls of a tape in memory carried out again, with a count of the writes after a sync that count.
use Rattle.std.specs.Prelude.{◌≡◌, ℕ, min, length}
use Rattle.sand_base.specs.Faults.{last_count}
use Rattle.sand_journal.specs.declared.mem_tape.Replay.{Replay}
use Rattle.sand_journal.specs.MemTape.{TapeContents, read_of, image_of}

-- The replay has what a read gives, the image after the first n later writes, and how many later writes there are.
pub record IsReplay (replay : Replay) (held : TapeContents) (n : ℕ) : Type 0 where
  pub read : replay.read.items ≡ read_of held
  pub image : replay.image.items ≡ image_of held n
  pub later : replay.later ≡ min (length held.writes) last_count
