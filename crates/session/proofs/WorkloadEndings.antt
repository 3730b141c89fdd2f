-- How a run of a workload ends.
use Rattle.std.proofs.Common.{◌≡◌, ℕ, ◌+◌, ◌≤◌, Bool, true, false, List, [], ◌++◌, length, Option, Some, refl, ap, subst, arith, length-append, ◌⊎◌, inl, inr}
use Rattle.std.specs.Prelude.{◌<◌, IsTrue, min}
use Rattle.std.specs.List.{count_by}
use Rattle.std.proofs.KnownBytes.{Consumes-whole}
use Rattle.page_pool.specs.Disk.{DiskView}
use Rattle.work_gen.specs.RefusedLines.{refused_lines}
use Rattle.work_gen.specs.Summary.{summary}
use Rattle.work_gen.specs.Taken.{HasTallied}
use Rattle.work_gen.specs.declared.tally_sink.TallySink.{TallySink}
use Rattle.run_laws.proofs.DecidedLines.{answered_seen}
use Rattle.sand_base.specs.Faults.{last_count}
use Rattle.sand_model.specs.Cursor.{State}
use Rattle.sand_model.specs.Outcome.{Rises}
use Rattle.sand_model.specs.Run.{Run}
use Rattle.sand_model.specs.OutputText.{is_refused}
use Rattle.sand_base.specs.Shelf.{Files}
use Rattle.sand_base.specs.Streams.{Adds}
use Rattle.sand_base.specs.declared.limits.Limits.{Limits}
use Rattle.output_text.specs.Writing.{AddsPrefix, Writes, WritesPrefix}
use Rattle.script_lines.specs.Lines.{lines}
use Rattle.script_lines.specs.declared.TheConstants.{LONGEST_SCRIPT}
use Rattle.statement_exec.specs.Moment.{Moment, rises_between}
use Rattle.statement_exec.specs.Printing.{Prints}
use Rattle.work_gen.specs.Workload.{workload}
use Rattle.work_gen.specs.EmptyFiles.{empty_files}
use Rattle.work_gen.specs.Script.{IsScriptOf}
use Rattle.session.specs.Outside.{Outside, outside_of}
use Rattle.session.specs.Ends.{IsCaused, IsTaken, HasReadAll, RunsOver, WritesRun, Ends, first_moment, last_moment}
use Rattle.session.specs.Tallies.{HasRun, Tallies, without_streams}
use Rattle.session.specs.Workload.{IsSummary, EndsWorkload}
use Rattle.session.specs.declared.status.Status.{Status}
use Rattle.session.specs.declared.status.Status.TheVariants as status

-- a run whose text was taken by a sink that had taken nothing
run_taken : (n : ℕ) (b : Bool) (first last : Moment) (script : List ℕ) (old new : TallySink) (r w : ℕ) → lines script ≡ workload n → HasTallied old []
    → WritesRun (RunsOver first last) (lines script) b (record { took = HasTallied old; faults = r }) (record { took = HasTallied new; faults = w }) → HasRun n b first last new
run_taken n b first last script old new r w own none writes = record {
  text = writes.text;
  printed = subst (λ (l : List (List ℕ)). Prints (RunsOver first last l) b writes.text) own writes.holds;
  taken = writes.written [] none;
}

-- bytes consumed of a script are no more than it has
consumed-short : (script left bytes : List ℕ) (most : ℕ) → length script ≤ most → script ≡ bytes ++ left → length bytes ≡ most + 1 → ⊥
consumed-short script left bytes most short split long = omega (arith, length-append bytes left, ap length split)

-- What is said of a run over the script of a workload, whose streams counted no fault.
module _ (n : ℕ) (limits : Limits) (script left : List ℕ) (disk disk' : DiskView) (old new : TallySink) (own : IsScriptOf (workload n) script) (none : HasTallied old []) where
  -- before it, and after it
  abbrev work_before : Outside
  work_before = outside_of (Some script) 0 (Some empty_files) 0 disk (HasTallied old) 0

  abbrev work_after : Outside
  work_after = outside_of (Some left) 0 (Some empty_files) 0 disk' (HasTallied new) 0

  -- what was read is the whole script
  whole : (b : Bool) (first last : Moment) → HasReadAll work_before.source.left work_after.source.left (λ bytes. WritesRun (RunsOver first last) (lines bytes) b work_before.sink work_after.sink)
      → WritesRun (RunsOver first last) (lines script) b work_before.sink work_after.sink
  whole b first last (ended, (bytes, consumed, h)) =
      Consumes-whole (Some script) (Some left) bytes (λ read. WritesRun (RunsOver first last) (lines read) b work_before.sink work_after.sink) consumed ended h.1

  -- its text was counted
  pub Tallies-run : (why : Status) → Ends why limits work_before work_after → IsCaused why 0 0 0 0 → IsTaken why
      → Tallies n why limits (without_streams disk) (without_streams disk') new
  Tallies-run status.Done ends caused taken = (ends.0, run_taken n false _ _ script old new 0 0 own.found none (whole false _ _ ends.1))
  Tallies-run status.SomeRefused ends caused taken = (ends.0, run_taken n true _ _ script old new 0 0 own.found none (whole true _ _ ends.1))
  Tallies-run status.Usage ends caused taken = absurd taken
  Tallies-run status.ReadFault ends caused taken = absurd (omega (arith, caused.of_source))
  Tallies-run status.WriteFault ends caused taken = absurd (omega (arith, caused.of_sink))
  Tallies-run status.ScriptTooLong ends caused taken =
      absurd (consumed-short script left ends.1.0 LONGEST_SCRIPT own.short ends.1.1 ends.1.2.0)
  Tallies-run status.NoMemory ends caused taken = (record { source = refl; files = refl; shelf = refl; sink = λ text h. h }, ends.1)
  Tallies-run status.DiskNotStarted ends caused taken = (record { source = refl; files = refl; shelf = refl; sink = λ text h. h }, ends.1)
  Tallies-run status.JournalFault ends caused taken = absurd taken
  Tallies-run status.JournalBad ends caused taken = absurd taken
  Tallies-run status.ReplayFault ends caused taken = absurd taken
  Tallies-run status.ReplayDamaged ends caused taken = absurd taken

-- over any disk, as many lines of the text begin with the word of a refusal as were refused
counted_of : (n : ℕ) (b : Bool) (first last : Moment) (text : List ℕ) → (p : Prints (RunsOver first last (workload n)) b text) → refused_lines text ≡ min (count_by is_refused p.lines) last_count
counted_of n b first last text p = ap (λ (k : ℕ). min k last_count) (answered_seen p.holds.0 first last p.lines p.holds.3 text p.told)

-- What is said of a run whose text was counted, by what the sink took of its summary.
module _ (n : ℕ) (limits : Limits) (left : Option (List ℕ)) (reads : ℕ) (files : Option Files) (opens : ℕ) (disk disk' : DiskView) (tally : TallySink)
    (before now : List ℕ → Type 0) (writes writes' : ℕ) where
  -- before it, and after it
  abbrev sum_before : Outside
  sum_before = outside_of left reads files opens disk before writes

  abbrev sum_after : Outside
  sum_after = outside_of left reads files opens disk' now writes'

  -- the summary was written
  written_sum : (b : Bool) (first last : Moment) (ran : HasRun n b first last tally)
      → ((text : List ℕ) → HasTallied tally text → Adds before now (summary (length (workload n)) (refused_lines text) text))
      → Writes (IsSummary n b first last) before now
  written_sum b first last ran adds = record {
    text = summary (length (workload n)) (refused_lines ran.text) ran.text;
    holds = record { text = ran.text; printed = ran.printed; told_of = refl; counted = counted_of n b first last ran.text ran.printed };
    written = adds ran.text ran.taken;
  }

  -- a prefix of it was written
  broken_sum : (b : Bool) (first last : Moment) (ran : HasRun n b first last tally)
      → ((text : List ℕ) → HasTallied tally text → AddsPrefix before now (summary (length (workload n)) (refused_lines text) text))
      → WritesPrefix (IsSummary n b first last) before now
  broken_sum b first last ran adds = record {
    text = summary (length (workload n)) (refused_lines ran.text) ran.text;
    holds = record { text = ran.text; printed = ran.printed; told_of = refl; counted = counted_of n b first last ran.text ran.printed };
    prefix = adds ran.text ran.taken;
  }

  -- the run came to the end of its lines, and its summary was written
  pub Ends-summed : (why : Status) → (why ≡ status.Done) ⊎ (why ≡ status.SomeRefused) → Tallies n why limits (without_streams disk) (without_streams disk') tally
      → ((text : List ℕ) → HasTallied tally text → Adds before now (summary (length (workload n)) (refused_lines text) text))
      → EndsWorkload n why limits sum_before sum_after
  Ends-summed status.Done is tallied adds = (refl, refl, tallied.0, written_sum false _ _ tallied.1 adds)
  Ends-summed status.SomeRefused is tallied adds = (refl, refl, tallied.0, written_sum true _ _ tallied.1 adds)
  Ends-summed status.Usage is tallied adds = absurd tallied
  Ends-summed status.ReadFault is tallied adds = absurd tallied
  Ends-summed status.WriteFault is tallied adds = absurd tallied
  Ends-summed status.ScriptTooLong is tallied adds = absurd tallied
  Ends-summed status.JournalFault is tallied adds = absurd tallied
  Ends-summed status.JournalBad is tallied adds = absurd tallied
  Ends-summed status.ReplayFault is tallied adds = absurd tallied
  Ends-summed status.ReplayDamaged is tallied adds = absurd tallied
  Ends-summed status.NoMemory is tallied adds = absurd (other is) where
    other : (status.NoMemory ≡ status.Done) ⊎ (status.NoMemory ≡ status.SomeRefused) → ⊥
    other (inl e) = cc
    other (inr e) = cc
  Ends-summed status.DiskNotStarted is tallied adds = absurd (other is) where
    other : (status.DiskNotStarted ≡ status.Done) ⊎ (status.DiskNotStarted ≡ status.SomeRefused) → ⊥
    other (inl e) = cc
    other (inr e) = cc

  -- the run came to the end of its lines, and a prefix of its summary was written
  pub Ends-unsummed : (why : Status) → (why ≡ status.Done) ⊎ (why ≡ status.SomeRefused) → Tallies n why limits (without_streams disk) (without_streams disk') tally
      → ((text : List ℕ) → HasTallied tally text → AddsPrefix before now (summary (length (workload n)) (refused_lines text) text))
      → EndsWorkload n status.WriteFault limits sum_before sum_after
  Ends-unsummed status.Done is tallied adds = (refl, refl, tallied.0, (false, broken_sum false _ _ tallied.1 adds))
  Ends-unsummed status.SomeRefused is tallied adds = (refl, refl, tallied.0, (true, broken_sum true _ _ tallied.1 adds))
  Ends-unsummed status.Usage is tallied adds = absurd tallied
  Ends-unsummed status.ReadFault is tallied adds = absurd tallied
  Ends-unsummed status.WriteFault is tallied adds = absurd tallied
  Ends-unsummed status.ScriptTooLong is tallied adds = absurd tallied
  Ends-unsummed status.JournalFault is tallied adds = absurd tallied
  Ends-unsummed status.JournalBad is tallied adds = absurd tallied
  Ends-unsummed status.ReplayFault is tallied adds = absurd tallied
  Ends-unsummed status.ReplayDamaged is tallied adds = absurd tallied
  Ends-unsummed status.NoMemory is tallied adds = absurd (other is) where
    other : (status.NoMemory ≡ status.Done) ⊎ (status.NoMemory ≡ status.SomeRefused) → ⊥
    other (inl e) = cc
    other (inr e) = cc
  Ends-unsummed status.DiskNotStarted is tallied adds = absurd (other is) where
    other : (status.DiskNotStarted ≡ status.Done) ⊎ (status.DiskNotStarted ≡ status.SomeRefused) → ⊥
    other (inl e) = cc
    other (inr e) = cc
