use Rattle.std.proofs.lemmas.Str.{IsUtf8-from_ascii}
use Rattle.sand_journal.proofs.NameBytes.{name-ascii}
use Rattle.sand_journal.proofs.read_name.as_name.Goals as goal

-- the bytes of a name are ASCII, and so a text
pub returns-in-Err-clause-none : goal.returns-in-Err-clause-none
returns-in-Err-clause-none c = λ named. c.in-Err.ensures.cases.0 (IsUtf8-from_ascii c.args.bytes.now (name-ascii c.args.bytes.now named.spelled))
