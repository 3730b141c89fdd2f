use Rattle.std.proofs.Common.{ℕ, List, [], ◌∷◌, ◌++◌, None, Ok, Err, refl, sym, ap, subst, ◌∙◌, arith}
use Rattle.sand_base.specs.declared.source.Failed.{Failed}
use Rattle.sand_base.specs.Faults.{HasCause, next_count}
use Rattle.sand_journal.specs.Tape.{SyncsTape}
use Rattle.sand_journal.specs.MemTape.{MemTapeState, TapeEvent, contents_of, read_of, mem_tape_view}
use Rattle.sand_journal.specs.MemTapeEvents.{events_of}
use Rattle.sand_journal.proofs.Tapes.{tape_of, contents-push, not_synced, synced}
use Rattle.sand_journal.proofs.mem_tape.MemTapeTape.sync.Goals as goal

-- a call that the list names did nothing
pub returns-in-Err : goal.returns-in-Err
returns-in-Err c =
    let first : List ℕ = c.self.inside.first.items in
    let events : List TapeEvent = events_of c.self.inside.made.items in
    subst (λ (s : MemTapeState). SyncsTape {T = Unit {0}} {E = Failed} (mem_tape_view s) (mem_tape_view (tape_of first events c.self.inside.started c.begin.new.self))
    (Err c.in-Err.why)) c.self.view_is
    (not_synced first events c.self.inside.started c.self.inside.started c.self.inside.calls c.begin.new.self c.in-Err.why refl c.in-Err.ensures.cause)

-- a sync changes nothing of what a read gives
pub invariant_of-self-in-Ok-keep_sync : goal.invariant_of-self-in-Ok-keep_sync
invariant_of-self-in-Ok-keep_sync c =
    let first : List ℕ = c.self.inside.first.items in
    let events : List TapeEvent = events_of c.self.inside.made.items in
    c.self.invariant ∙ sym (ap read_of (ap (λ (l : List TapeEvent). contents_of first l) c.in-Ok-keep_sync.ensures.kept ∙ contents-push first events None))

pub returns-in-Ok-keep_sync : goal.returns-in-Ok-keep_sync
returns-in-Ok-keep_sync c =
    let first : List ℕ = c.self.inside.first.items in
    let events : List TapeEvent = events_of c.self.inside.made.items in
    let done = synced first events c.self.inside.started c.self.inside.started c.self.inside.calls c.begin.new.self {T = Unit {0}} {E = Failed} tt refl c.in-Ok.ensures.cause in
    subst (λ (l : List TapeEvent). SyncsTape {T = Unit {0}} {E = Failed} (mem_tape_view c.args.self.now) (mem_tape_view (tape_of first l c.self.inside.started c.begin.new.self)) (Ok tt))
    (sym c.in-Ok-keep_sync.ensures.kept)
    (subst (λ (s : MemTapeState). SyncsTape {T = Unit {0}} {E = Failed} (mem_tape_view s)
    (mem_tape_view (tape_of first (events ++ None ∷ []) c.self.inside.started c.begin.new.self)) (Ok tt)) c.self.view_is done)

-- want of memory is a counted fault, and nothing was done
pub returns-in-Err-keep_sync : goal.returns-in-Err-keep_sync
returns-in-Err-keep_sync c =
    let first : List ℕ = c.self.inside.first.items in
    let events : List TapeEvent = events_of c.self.inside.made.items in
    let cause : HasCause {T = Unit {0}} {E = Failed} c.self.inside.calls.faults c.fault.new.self.faults (Err c.fault.result) = record {
      later = omega (arith, c.fault.ensures.later, c.in-Ok.ensures.cause.done);
      done = tt;
      failed = ap (λ s. s.faults) c.fault.ensures.counted ∙ ap next_count c.in-Ok.ensures.cause.done;
    } in
    let failed = not_synced first events c.self.inside.started c.self.inside.started c.self.inside.calls c.fault.new.self {T = Unit {0}} c.fault.result refl cause in
    subst (λ (l : List TapeEvent). SyncsTape {T = Unit {0}} {E = Failed} (mem_tape_view c.args.self.now) (mem_tape_view (tape_of first l c.self.inside.started c.fault.new.self)) (Err c.fault.result))
    (sym (ap events_of c.in-Err-keep_sync.ensures.calls_stay))
    (subst (λ (s : MemTapeState). SyncsTape {T = Unit {0}} {E = Failed} (mem_tape_view s) (mem_tape_view (tape_of first events c.self.inside.started c.fault.new.self))
    (Err c.fault.result)) c.self.view_is failed)
