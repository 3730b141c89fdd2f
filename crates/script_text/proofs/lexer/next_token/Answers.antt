use Rattle.script_text.specs.Lexing.{cut_of}
use Rattle.script_text.proofs.LexLemmas.{IsLast-first_cut, IsNext-first_cut}
use Rattle.script_text.proofs.lexer.next_token.Goals as goal

-- nothing is cut, so no piece is left
pub returns-in_default : goal.returns-in_default
returns-in_default c = IsLast-first_cut c.args.rest.now _ c.skip_blanks-bare.ensures c.in_default.ensures.cut

-- the piece that was cut stands next
pub returns : goal.returns
returns c =
    IsNext-first_cut c.args.rest.now _ _ (cut_of c.in-Some.cut) c.skip_blanks-bare.ensures c.in-Some.ensures.cut c.in-Some.ensures.within.0 c.in-Some.ensures.within.1 c.split_at.ensures.back
