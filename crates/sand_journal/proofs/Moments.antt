-- How what crashes leave goes on from call to call.
use Rattle.std.proofs.Common.{◌≡◌, inl, inr, ⊎_elim, ℕ, ◌≤◌, List, IsTrue, Result, sym, subst, ◌∙◌, arith}
use Rattle.sand_journal.specs.Tape.{TapeView, TimePasses, KeepsBytes, SyncsTape}
use Rattle.sand_journal.specs.Images.{LeavesOnly}
use Rattle.sand_journal.specs.Journal.{IsOnlyRead}

-- before the first call
pub started : (tape : TapeView) (P : List ℕ → Type 0) → ((image : List ℕ) → tape.since tape.clock image → tape.leaves image) → ((image : List ℕ) → tape.leaves image → P image) → LeavesOnly tape tape P
started tape P now_is_all here = record { later = omega arith; each = λ image since. here image (now_is_all image since); now = here; before = λ t image le since. inl since }

-- one call more, after which a crash leaves what has P
pub goes_on : (old mid new : TapeView) (P : List ℕ → Type 0) → LeavesOnly old mid P → TimePasses mid new → IsTrue mid.told → ((image : List ℕ) → new.leaves image → P image) → LeavesOnly old new P
goes_on old mid new P so_far passes told here = record {
  later = omega (arith, so_far.later, passes.later);
  each = λ image since. ⊎_elim (so_far.each image) (here image) ((passes.time told).nothing_else old.clock image so_far.later since);
  now = here;
  before = λ t image le since. ⊎_elim (so_far.before t image le) (λ now. inr (here image now)) ((passes.time told).nothing_else t image (omega (arith, le, so_far.later)) since);
}

-- two runs, one after the other
pub joined : (old mid new : TapeView) (P : List ℕ → Type 0) → LeavesOnly old mid P → LeavesOnly mid new P → LeavesOnly old new P
joined old mid new P first second = record {
  later = omega (arith, first.later, second.later);
  each = λ image since. ⊎_elim (first.each image) (λ has. has) (second.before old.clock image first.later since);
  now = second.now;
  before = λ t image le since. ⊎_elim (first.before t image le) (λ has. inr has) (second.before t image (omega (arith, le, first.later)) since);
}

-- what has P has Q
pub weaker : (old new : TapeView) (P Q : List ℕ → Type 0) → ((image : List ℕ) → P image → Q image) → LeavesOnly old new P → LeavesOnly old new Q
weaker old new P Q then so_far = record {
  later = so_far.later;
  each = λ image since. then image (so_far.each image since);
  now = λ image left. then image (so_far.now image left);
  before = λ t image le since. ⊎_elim (λ was. inl was) (λ has. inr (then image has)) (so_far.before t image le since);
}

-- a sync leaves no other images
pub synced : {T E : Type 0} (old mid new : TapeView) (P : List ℕ → Type 0) (result : Result T E) → LeavesOnly old mid P → IsTrue mid.told → SyncsTape mid new result → LeavesOnly old new P
synced old mid new P result so_far told s = goes_on old mid new P so_far s.passes told (λ image left. so_far.now image (s.kept.fewer image left))

-- a call that keeps what a read gives
pub only_read : (old new : TapeView) → ((t : ℕ) (image : List ℕ) → IsTrue old.told → t ≤ old.clock → old.leaves image → old.since t image) → TimePasses old new
    → KeepsBytes old new → new.started ≡ old.started → IsOnlyRead old new
only_read old new now_counts passes kept started = record {
  told = passes.told;
  started = started;
  later = passes.later;
  bytes = kept.bytes;
  fewer = kept.fewer;
  earlier = λ told t image le since. ⊎_elim (λ was. was) (λ now. now_counts t image told le (kept.fewer image now)) ((passes.time told).nothing_else t image le since);
}

-- and one more such call
pub read_on : (old mid new : TapeView) → IsOnlyRead old mid → IsOnlyRead mid new → IsOnlyRead old new
read_on old mid new first second = record {
  told = second.told ∙ first.told;
  started = second.started ∙ first.started;
  later = omega (arith, first.later, second.later);
  bytes = second.bytes ∙ first.bytes;
  fewer = λ image left. first.fewer image (second.fewer image left);
  earlier = λ told t image le since. first.earlier told t image le (second.earlier (subst IsTrue (sym first.told) told) t image (omega (arith, le, first.later)) since);
}
