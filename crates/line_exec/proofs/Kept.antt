-- What a line does to a journal, and why it ends a run: the steps of the proofs.
use Rattle.std.proofs.Common.{◌≡◌, ℕ, ◌+◌, ◌≤◌, ◌∙◌, Bool, true, false, List, [], ◌∷◌, Option, Some, None, true≢false, refl, sym, ap, subst, arith}
use Rattle.std.specs.Prelude.{Result, Ok, Err, IfOk, IfErr, OnOk, OnErr, IsOk, is_err, is_some}
use Rattle.output_text.specs.Writing.{WritesPrefix}
use Rattle.page_pool.specs.Causes.{failures_of}
use Rattle.page_pool.specs.Pool.{PoolState}
use Rattle.sand_base.specs.Faults.{HasCause}
use Rattle.sand_base.specs.Streams.{Stays}
use Rattle.sand_base.specs.declared.refusal.Refusal.{Refusal}
use Rattle.sand_base.specs.declared.source.Failed.{Failed}
use Rattle.sand_journal.specs.ChangeBody.{line_value}
use Rattle.sand_journal.specs.Tape.{TapeView}
use Rattle.sand_journal.specs.declared.journal.Journal.{Journal}
use Rattle.sand_model.specs.OutputText.{IsText}
use Rattle.script_text.specs.InRange.{IsInRange}
use Rattle.statements.specs.Statement.{statement_value}
use Rattle.statements.specs.declared.statement.Statement.{Statement}
use Rattle.sand_store.specs.Catalog.{StoreState}
use Rattle.statement_exec.proofs.Texts.{adds_none}
use Rattle.statement_exec.specs.Ending.{PagesHaveLineCause}
use Rattle.statement_exec.specs.Moment.{Moment}
use Rattle.statement_exec.specs.Performing.{line_of_answer}
use Rattle.statement_exec.specs.declared.reply.Reply.{Reply}
use Rattle.statement_exec.specs.declared.reply.Reply.TheVariants as reply
use Rattle.line_exec.specs.Keeping.{AcceptsUnfailed, HasLineCause, IsCountedAlike, IsUntold, KeepsOn, TakesUpTo, most_kept, sink_result}
use Rattle.line_exec.specs.declared.fault.LineFault.{LineFault}
use Rattle.line_exec.specs.declared.fault.LineFault.TheVariants as fault

-- ---- what a sink did, by how the line ended

pub ok_written : (P : Bool → Type 0) (r : Result Bool LineFault) → IfOk r P → IfOk (sink_result r) P
ok_written P (Ok refused) h = h
ok_written P (Err why) h = tt

pub err_written : (P : Type 0) (r : Result Bool LineFault) → OnErr r P → OnErr (sink_result r) P
err_written P (Ok refused) h = tt
err_written P (Err why) h = h

-- where the sink alone may fail, its count says why
pub cause_of_sink : (sink sink' tape tape' : ℕ) (r : Result Bool LineFault) → IfErr r (λ why. why ≡ fault.Sink) → HasCause sink sink' (sink_result r) → tape' ≡ tape
    → HasLineCause sink sink' tape tape' r
cause_of_sink sink sink' tape tape' (Ok refused) e c same = record { of_sink = c.done; of_tape = same }
cause_of_sink sink sink' tape tape' (Err fault.Sink) e c same = record { of_sink = c.failed; of_tape = same }
cause_of_sink sink sink' tape tape' (Err fault.Journal) e c same = absurd (let no : fault.Journal ≡ fault.Sink = e in cc)

-- the text of the line of a reply
reply_text : (given : Reply) → (text : List ℕ) × IsText (line_of_answer (Ok given) ∷ []) text
reply_text reply.Accepted = (_, (_, [], refl, refl, refl))
reply_text (reply.Id id) = (_, (_, [], refl, refl, refl))
reply_text (reply.Loaded rows) = (_, (_, [], refl, refl, refl))

-- nothing of the line of an accepted change was written
pub none_written : (answer : Result Reply Refusal) (took : List ℕ → Type 0) → IsOk answer → WritesPrefix (IsText (line_of_answer answer ∷ [])) took took
none_written (Ok given) took is =
    let one = reply_text given in
    record { text = one.0; holds = one.1; prefix = record { prefix = []; rest = one.0; same = refl; written = adds_none took } }
none_written (Err why) took is = absurd (true≢false (sym is))

-- where the sink alone may fail, nothing has to be said
pub untold_sink : (before now : List ℕ → Type 0) (old new : Moment) (r : Result Bool LineFault) → IfErr r (λ why. why ≡ fault.Sink) → IfErr r (IsUntold before now old new)
untold_sink before now old new (Ok refused) e = tt
untold_sink before now old new (Err fault.Sink) e = tt
untold_sink before now old new (Err fault.Journal) e = absurd (let no : fault.Journal ≡ fault.Sink = e in cc)

-- the counts of pools and shelves are those of two moments
module _ (before now : List ℕ → Type 0) (pool pool' : PoolState) (shelf shelf' : ℕ) (old new : Moment) where
  pub untold_change : (answer : Result Reply Refusal) (r : Result Bool LineFault) → OnOk answer (IsCountedAlike pool pool' shelf shelf')
      → (pool'.disk.faults ≡ pool.disk.faults → new.disk ≡ old.disk) → (shelf' ≡ shelf → new.shelf ≡ old.shelf)
      → IfErr r (λ why. why ≡ fault.Journal → IsOk answer × Stays before now) → IfErr r (IsUntold before now old new)
  untold_change answer (Ok refused) counts disk count h = tt
  untold_change answer (Err fault.Sink) counts disk count h = tt
  untold_change (Ok given) (Err fault.Journal) counts disk count h = let all = h refl in (all.1, disk (ap (λ (n : ℕ × ℕ). n.0) counts.failures), count counts.shelf)
  untold_change (Err why) (Err fault.Journal) counts disk count h = absurd (true≢false (sym (h refl).0))

-- ---- what an accepted line found

pub accepted_change : (P : Type 0) (pool pool' : PoolState) (shelf shelf' : ℕ) (answer : Result Reply Refusal) (r : Result Bool LineFault) → OnOk answer (IsCountedAlike pool pool' shelf shelf')
    → IfOk r (λ refused. (refused ≡ is_err answer) × P) → AcceptsUnfailed pool pool' r
accepted_change P pool pool' shelf shelf' (Ok given) (Ok false) counts w = counts.failures
accepted_change P pool pool' shelf shelf' (Err why) (Ok false) counts w = absurd (true≢false (sym w.0))
accepted_change P pool pool' shelf shelf' answer (Ok true) counts w = tt
accepted_change P pool pool' shelf shelf' answer (Err why) counts w = tt

-- a statement that was read behind what left the store
pub accepted_read : (old mid new : StoreState) (done : Result Bool Failed) (r : Result Bool LineFault) → mid ≡ old → PagesHaveLineCause mid.pool new.pool done → done ≡ sink_result r
    → AcceptsUnfailed old.pool new.pool r
accepted_read old mid new done (Ok false) same h is =
    let found : failures_of new.pool ≡ failures_of mid.pool = subst (λ (d : Result Bool Failed). PagesHaveLineCause mid.pool new.pool d) is h in
    found ∙ ap (λ (s : StoreState). failures_of s.pool) same
accepted_read old mid new done (Ok true) same h is = tt
accepted_read old mid new done (Err why) same h is = tt

-- a line that reads no page
pub accepted_unread : (pool : PoolState) (r : Result Bool LineFault) → AcceptsUnfailed pool pool r
accepted_unread pool (Ok false) = refl
accepted_unread pool (Ok true) = tt
accepted_unread pool (Err why) = tt

-- ---- what a line did to a journal

module _ {T : Type 0} (seen : T → TapeView) where
  pub takes_more : (bound more : ℕ) (journal : Option (Journal T)) → bound ≤ more → TakesUpTo seen bound journal → TakesUpTo seen more journal
  takes_more bound more None up h = tt
  takes_more bound more (Some journal) up h = let low = h.1 in (h.0, omega (arith, low, up))

  -- a line that keeps nothing
  pub keeps_same : (journal : Option (Journal T)) (r : Result Bool LineFault) → KeepsOn seen journal journal r
  keeps_same journal (Ok refused) = record { there = refl; takes = λ bound h. takes_more bound (bound + most_kept) journal (omega arith) h }
  keeps_same journal (Err why) = record { there = refl; takes = λ bound h. tt }

  -- a line that kept what it did
  pub keeps_behind : (old new : Option (Journal T)) (r : Result Bool LineFault) → is_some new ≡ is_some old
      → ((bound : ℕ) → TakesUpTo seen bound old → TakesUpTo seen (bound + most_kept) new) → KeepsOn seen old new r
  keeps_behind old new (Ok refused) there takes = record { there = there; takes = takes }
  keeps_behind old new (Err why) there takes = record { there = there; takes = λ bound h. tt }

-- ---- the record of a change

-- a statement in range is one as its tree
pub kept_in_range : (s : Statement) → IsInRange (statement_value s) → IsInRange (line_value s)
unfolding line_value
kept_in_range s h = h
