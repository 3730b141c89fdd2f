use Rattle.script_text.proofs.PrintedIsRead.{printed-read, printed-only}
use Rattle.script_text.proofs.laws.printed_statements_are_read_back.Goals as goal

-- its tokens are the words that were printed, which write it
pub returns-clause-reads : goal.returns-clause-reads
returns-clause-reads c = printed-read

-- and a line has one reading
pub returns-clause-only : goal.returns-clause-only
returns-clause-only c = printed-only
