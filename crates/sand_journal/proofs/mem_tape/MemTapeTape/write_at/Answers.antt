use Rattle.std.proofs.Common.{ℕ, List, [], ◌∷◌, ◌++◌, Some, Ok, Err, refl, sym, ap, subst, ◌∙◌, arith}
use Rattle.sand_base.specs.declared.source.Failed.{Failed}
use Rattle.sand_base.specs.Faults.{HasCause, next_count}
use Rattle.sand_journal.specs.Tape.{WritesTape}
use Rattle.sand_journal.specs.MemTape.{MemTapeState, TapeEvent, contents_of, put_over, read_of, mem_tape_view}
use Rattle.sand_journal.specs.MemTapeEvents.{events_of}
use Rattle.sand_journal.proofs.Tapes.{tape_of, contents-push, not_written, written}
use Rattle.sand_journal.proofs.mem_tape.MemTapeTape.write_at.Goals as goal

-- a call that the list names did nothing
pub returns-in-Err : goal.returns-in-Err
returns-in-Err c =
    let first : List ℕ = c.self.inside.first.items in
    let events : List TapeEvent = events_of c.self.inside.made.items in
    subst (λ (s : MemTapeState). WritesTape {T = Unit {0}} {E = Failed} (mem_tape_view s)
    (mem_tape_view (tape_of first events c.self.inside.started c.begin.new.self)) c.args.at c.args.bytes.now (Err c.in-Err.why)) c.self.view_is
    (not_written first events c.self.inside.started c.self.inside.started c.self.inside.calls c.begin.new.self c.args.at c.args.bytes.now c.in-Err.why refl c.in-Err.ensures.cause)

-- the bytes that were written are those after one event more
pub invariant_of-self-in-Ok-write : goal.invariant_of-self-in-Ok-write
invariant_of-self-in-Ok-write c =
    let first : List ℕ = c.self.inside.first.items in
    let events : List TapeEvent = events_of c.self.inside.made.items in
    c.in-Ok-write.ensures.bytes
    ∙ ap (λ (l : List ℕ). put_over (c.args.at, c.args.bytes.now) l) c.self.invariant
    ∙ sym (ap read_of (ap (λ (l : List TapeEvent). contents_of first l) c.in-Ok-write.ensures.kept ∙ contents-push first events (Some (c.args.at, c.args.bytes.now))))

pub returns-in-Ok-write : goal.returns-in-Ok-write
returns-in-Ok-write c =
    let first : List ℕ = c.self.inside.first.items in
    let events : List TapeEvent = events_of c.self.inside.made.items in
    let done = written first events c.self.inside.started c.self.inside.started c.self.inside.calls c.begin.new.self {T = Unit {0}} {E =
    Failed} c.args.at c.args.bytes.now tt refl c.in-Ok.ensures.cause in
    subst (λ (l : List TapeEvent). WritesTape {T = Unit {0}} {E = Failed} (mem_tape_view c.args.self.now)
    (mem_tape_view (tape_of first l c.self.inside.started c.begin.new.self)) c.args.at c.args.bytes.now (Ok tt)) (sym c.in-Ok-write.ensures.kept)
    (subst (λ (s : MemTapeState). WritesTape {T = Unit {0}} {E = Failed} (mem_tape_view s)
    (mem_tape_view (tape_of first (events ++ Some (c.args.at, c.args.bytes.now) ∷ []) c.self.inside.started c.begin.new.self)) c.args.at c.args.bytes.now (Ok tt)) c.self.view_is done)

-- want of memory is a counted fault, and nothing was done
pub returns-in-Err-write : goal.returns-in-Err-write
returns-in-Err-write c =
    let first : List ℕ = c.self.inside.first.items in
    let events : List TapeEvent = events_of c.self.inside.made.items in
    let cause : HasCause {T = Unit {0}} {E = Failed} c.self.inside.calls.faults c.fault.new.self.faults (Err c.fault.result) = record {
      later = omega (arith, c.fault.ensures.later, c.in-Ok.ensures.cause.done);
      done = tt;
      failed = ap (λ s. s.faults) c.fault.ensures.counted ∙ ap next_count c.in-Ok.ensures.cause.done;
    } in
    let failed = not_written first events c.self.inside.started c.self.inside.started c.self.inside.calls c.fault.new.self {T = Unit {0}} c.args.at c.args.bytes.now c.fault.result refl cause in
    subst (λ (l : List TapeEvent). WritesTape {T = Unit {0}} {E = Failed} (mem_tape_view c.args.self.now)
    (mem_tape_view (tape_of first l c.self.inside.started c.fault.new.self)) c.args.at c.args.bytes.now (Err c.fault.result))
    (sym (ap events_of c.in-Err-write.ensures.calls_stay))
    (subst (λ (s : MemTapeState). WritesTape {T = Unit {0}} {E = Failed} (mem_tape_view s)
    (mem_tape_view (tape_of first events c.self.inside.started c.fault.new.self)) c.args.at c.args.bytes.now (Err c.fault.result)) c.self.view_is failed)
