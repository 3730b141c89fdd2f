-- The printed form of a statement in range is read as that statement.
use Rattle.std.proofs.Common.{◌≡◌, ◌≢◌, Option, Some, Result, Ok, Err, subst}
use Rattle.script_text.specs.declared.parse.LineFault.{LineFault}
use Rattle.script_text.specs.declared.parse.LineFault.TheVariants.{Memory}
use Rattle.script_text.specs.Grammar.{IsOf}
use Rattle.script_text.specs.InRange.{IsInRange}
use Rattle.script_text.specs.Lexical.{IsCut}
use Rattle.script_text.specs.Lexing.{pieces}
use Rattle.script_text.specs.Line.{IsReadAs, Reads}
use Rattle.script_text.specs.Printing.{printed, words}
use Rattle.statements.specs.Statement.{Statement}
use Rattle.script_text.proofs.CutLaws.{pieces-cut}
use Rattle.script_text.proofs.OneReading.{one-reading}
use Rattle.script_text.proofs.PrintedLexes.{printed-lexes}
use Rattle.script_text.proofs.Writes.{statement-w}

-- it is
pub printed-read : (s : Statement) → IsInRange s → IsReadAs (printed s) s
unfolding printed IsOf
printed-read s h =
    let line = printed s in
    let writes = statement-w s h in
    let lexes = printed-lexes (words s) writes.are writes.calm in
    record {
      tokens = pieces line;
      lexed = subst (λ rest. IsCut line (pieces line) rest) lexes.1 (pieces-cut line);
      written = writes.says (pieces line) lexes.0;
      in_range = h;
    }

-- and as nothing else
pub printed-only : (s : Statement) (answer : Result (Option Statement) LineFault) → IsInRange s → Reads (printed s) answer → answer ≢ Err Memory → answer ≡ Ok (Some s)
printed-only s answer h reads lasts = one-reading (printed s) answer (Ok (Some s)) reads (printed-read s h) lasts (λ e. absurd cc)
