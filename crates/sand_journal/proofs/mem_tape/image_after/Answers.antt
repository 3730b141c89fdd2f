use Rattle.std.proofs.Common.{List, take, sym, ap, subst, ◌∙◌, rules}
use Rattle.sand_journal.specs.MemTape.{TapeContents, TapeEvent, contents_of}
use Rattle.sand_journal.specs.MemTapeEvents.{event_of, events_of}
use Rattle.sand_journal.specs.Replay.{IsReplay}
use Rattle.sand_journal.proofs.Tapes.{contents-push, events_more}
use Rattle.sand_journal.proofs.mem_tape.image_after.Goals as goal

-- one call more is carried out
pub calls-preserved : goal.calls-preserved
calls-preserved c =
    let before : List TapeEvent = events_of (take c.calls.call-index c.args.made.now) in
    subst (λ (held : TapeContents). IsReplay c.carry_out.new.replay held c.args.writes)
    (sym (ap (λ (l : List TapeEvent). contents_of c.args.first.now l) (events_more c.args.made.now c.calls.call-index c.call-item.result (search rules) c.call-item.is)
    ∙ contents-push c.args.first.now before (event_of c.call-item.result)))
    (c.in_ok-carry_out.ensures (contents_of c.args.first.now before) c.calls.invariant)
