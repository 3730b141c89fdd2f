-- What is passed over shows in the first byte after the blanks.
use Rattle.script_text.proofs.LineLemmas.{passed-none, passed-some}
use Rattle.script_text.proofs.parse.is_passed_over.Goals as goal

-- there is none
pub returns-in-None : goal.returns-in-None
returns-in-None c = passed-none c.args.line.now c.skip_blanks.result.now c.skip_blanks.ensures c.in-None.ensures.value

-- there is one, and it is compared with `#`
pub returns-in-Some : goal.returns-in-Some
returns-in-Some c = passed-some c.args.line.now c.skip_blanks.result.now c.in-Some.first.now c.skip_blanks.ensures c.in-Some.ensures.value
