-- How the calls of a caller that is lent pages add up.
use Rattle.std.specs.Prelude.{◌≡◌, Option, None, Some, IsNone, Result, Ok, Err, refl}
use Rattle.std.proofs.Common.{◌∙◌, ap, sym, subst, true≢false}
use Rattle.std.specs.Option.{option_map_or}
use Rattle.page_pool.specs.declared.fault.PageFault.{PageFault}
use Rattle.page_pool.specs.declared.fault.PageFault.TheVariants.{Memory}
use Rattle.page_pool.specs.Disk.{PageMap, NumberSet}
use Rattle.page_pool.specs.Pool.{PoolState, Shown, IsClosed, live_again, back}
use Rattle.page_pool.specs.Causes.{HasPageCause, failures_after, failures_of}
use Rattle.page_pool.specs.Reads.{IsRead}
use Rattle.page_pool.specs.Commands.{ChangesLive}

-- What neither reading nor changing pages in an open command changes: the command's beginning, the kept digests, whether the disk tells and its pages,
-- the frames, the maps of the held stamps, and which map is shown.
pub record InCommand (old new : PoolState) : Type 0 where
  pub beginning : new.beginning ≡ old.beginning
  pub kept : new.kept ≡ old.kept
  pub told : new.disk.told ≡ old.disk.told
  pub stored : new.disk.pages ≡ old.disk.pages
  pub frames : new.frames ≡ old.frames
  pub stamps : new.stamps ≡ old.stamps
  pub live : new.live ≡ old.live

-- no call at all
pub IsRead-refl : (s : PoolState) → IsRead s s
IsRead-refl s = record {
  pages = refl;
  beginning = refl;
  dirty = refl;
  freed = refl;
  kept = refl;
  top = refl;
  spare = refl;
  told = refl;
  stored = refl;
  frames = refl;
  stamps = refl;
  live = refl;
  places = refl;
}

-- two readings are one
pub IsRead-trans : (a b c : PoolState) → IsRead a b → IsRead b c → IsRead a c
IsRead-trans a b c h k = record {
  pages = k.pages ∙ h.pages;
  beginning = k.beginning ∙ h.beginning;
  dirty = k.dirty ∙ h.dirty;
  freed = k.freed ∙ h.freed;
  kept = k.kept ∙ h.kept;
  top = k.top ∙ h.top;
  spare = k.spare ∙ h.spare;
  told = k.told ∙ h.told;
  stored = k.stored ∙ h.stored;
  frames = k.frames ∙ h.frames;
  stamps = k.stamps ∙ h.stamps;
  live = k.live ∙ h.live;
  places = k.places ∙ h.places;
}

-- no call changes nothing within a command
pub InCommand-refl : (s : PoolState) → InCommand s s
InCommand-refl s = record { beginning = refl; kept = refl; told = refl; stored = refl; frames = refl; stamps = refl; live = refl }

-- two calls within a command are one
pub InCommand-trans : (a b c : PoolState) → InCommand a b → InCommand b c → InCommand a c
InCommand-trans a b c h k = record {
  beginning = k.beginning ∙ h.beginning;
  kept = k.kept ∙ h.kept;
  told = k.told ∙ h.told;
  stored = k.stored ∙ h.stored;
  frames = k.frames ∙ h.frames;
  stamps = k.stamps ∙ h.stamps;
  live = k.live ∙ h.live;
}

-- a reading is within a command
pub InCommand-read : (a b : PoolState) → IsRead a b → InCommand a b
InCommand-read a b h = record { beginning = h.beginning; kept = h.kept; told = h.told; stored = h.stored; frames = h.frames; stamps = h.stamps; live = h.live }

-- so is a change
pub InCommand-changes : (a b : PoolState) (live : PageMap) (unwritten : NumberSet) → ChangesLive a b live unwritten → InCommand a b
InCommand-changes a b live unwritten h = record {
  beginning = h.beginning;
  kept = h.keeps.kept;
  told = ap (λ d. d.told) h.keeps.disk;
  stored = ap (λ d. d.pages) h.keeps.disk;
  frames = h.keeps.frames;
  stamps = h.keeps.stamps;
  live = h.keeps.live;
}

-- a pool that was read is closed as before
pub IsClosed-read : (a b : PoolState) → IsRead a b → IsClosed a → IsClosed b
IsClosed-read a b h closed = (subst IsNone (sym h.beginning) closed.0, subst IsNone (sym h.live) closed.1)

-- a pool that shows its live map is as it is
pub back-live : (s : PoolState) → IsNone s.live → back s ≡ s
back-live s none = by_live s.live none
  where
    by_live : (o : Option Shown) → IsNone o → option_map_or (live_again s) o s ≡ s
    by_live None h = refl
    by_live (Some live) h = absurd (true≢false h)

-- what came before a refused call was accepted, and counted no failure
pub HasPageCause-before : {T : Type 0} (a b c : PoolState) (result : Result T PageFault) → failures_of b ≡ failures_of a → HasPageCause b c result → HasPageCause a c result
HasPageCause-before a b c result same h = record { counted = h.counted ∙ ap (λ n. failures_after n result) same; damaged = h.damaged }

-- a refusal that is passed on keeps its cause
pub HasPageCause-passed : {T U : Type 0} (a b : PoolState) (fault : PageFault) → HasPageCause {T = T} a b (Err fault) → HasPageCause {T = U} a b (Err fault)
HasPageCause-passed a b fault h = record { counted = h.counted; damaged = h.damaged }

-- a refusal of memory is a cause of its own
pub HasPageCause-memory : {T : Type 0} (a b : PoolState) → failures_of b ≡ failures_of a → HasPageCause {T = T} a b (Err Memory)
HasPageCause-memory a b same = record { counted = same; damaged = tt }

-- an accepted call needs none
pub HasPageCause-done : {T : Type 0} (a b : PoolState) (x : T) → failures_of b ≡ failures_of a → HasPageCause a b (Ok x)
HasPageCause-done a b x same = record { counted = same; damaged = tt }
