-- The journal of a script.
use Rattle.std.specs.Prelude.{ℕ, Option, Some, None}
use Rattle.clap.specs.Words.{Text}

-- the journal that is named, and none where a workload runs in place of the script
abbrev pub journal_beside : Option ℕ → Option Text → Option Text
journal_beside None journal = journal
journal_beside (Some n) journal = None
