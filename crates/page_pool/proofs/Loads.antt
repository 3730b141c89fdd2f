-- A page that is read in, whatever the answer.
use Rattle.std.proofs.Common.{◌≡◌, ℕ, List, Bool, false, refl, sym, ap, subst, ◌∙◌, Option, Some, None, is_some, ◌⊎◌, inl, inr, Result, Ok, Err, IfErr}
use mathlib.Core.Bool.{true≢false}
use denote.Ref.{Bor}
use Rattle.std.specs.Option.{option_copied}
use Rattle.std.specs.FinMap as map
use Rattle.page_pool.specs.declared.fault.PageFault.{PageFault}
use Rattle.page_pool.specs.declared.fault.PageFault.TheVariants.{Memory, Device, Damaged}
use Rattle.page_pool.specs.Disk.{DigestMap}
use Rattle.page_pool.specs.Archive.{ArchiveState, IsArchive, IsReadArchive, IsImageDamage}
use Rattle.page_pool.specs.Inside.{ChangeMap, StagedState, CacheState, NumbersState, IsImageOf, IsWhole, state_of, Compares, ReadsIn}
use Rattle.page_pool.specs.Pool.{PoolState}
use Rattle.page_pool.specs.Causes.{faults_at, faults_after, failures_at, failures_after, IsDamageIfDamaged, IsNoDamage, Names, damages_after}
use Rattle.page_pool.proofs.States.{read_state}

-- the damage of an image is one of its page, and names it
pub damage_of : {T : Type 0} (s : PoolState) (kept : DigestMap) (n : ℕ) (result : Result T PageFault) → s.kept ≡ kept → IfErr result (IsImageDamage s.disk kept n)
    → IfErr result (IsDamageIfDamaged s) × IfErr result (Names n)
damage_of s kept n (Ok x) same h = (tt, tt)
damage_of s kept n (Err Memory) same h = (tt, tt)
damage_of s kept n (Err Device) same h = (tt, tt)
damage_of s kept n (Err (Damaged page digest read)) same h =
    (record { kept_is = (λ i. map.get (same i) (h.0 i)) ∙ h.1.0; read_is = h.1.1.0; differ = h.1.1.1.0; untold = h.1.1.1.1 }, h.0)

-- the page is read and compared, whatever the answer
pub compares_state : {T : Type 0} (a b : ArchiveState) (staged : StagedState) (frames frames' : CacheState) (numbers : NumbersState) (is_open : Bool) (gets damages : ℕ)
    (n : ℕ) (result : Result T PageFault)
    → IsReadArchive a b → frames'.most ≡ frames.most → b.disk.faults ≡ faults_after a.disk.faults result → IfErr result (IsImageDamage b.disk a.kept n)
    → Compares (state_of a staged frames numbers is_open gets damages) (state_of b staged frames' numbers is_open gets damages) n result
compares_state a b staged frames frames' numbers is_open gets damages n result read most faults damaged =
    let cause = damage_of (state_of b staged frames' numbers is_open gets damages) a.kept n result (ap (λ s. s.kept) read.same) damaged in
    record {
      read = read_state a b staged frames frames' numbers is_open gets gets damages damages read most;
      gets = refl;
      damages = refl;
      faults = faults;
      damaged = cause.0;
      named = cause.1;
    }

-- the frames have this image of page n more, at most
pub whole_read : (a b : ArchiveState) (changes : ChangeMap) (frames frames' : CacheState) (numbers : NumbersState) (is_open : Bool) (n : ℕ) → IsReadArchive a b → IsArchive b
    → ((q : ℕ) (bytes : List ℕ) → map.get frames'.newest q ≡ Some bytes → ((q ≡ n) × IsImageOf a.disk.told a.pages a.kept n bytes) ⊎ (map.get frames.newest q ≡ Some bytes))
    → ((q : ℕ) (bytes : List ℕ) → map.get frames'.past q ≡ Some bytes → map.get frames.past q ≡ Some bytes)
    → IsWhole a changes frames numbers is_open → IsWhole b changes frames' numbers is_open
whole_read a b changes frames frames' numbers is_open n read archive framed framed_past w =
    subst (λ s. IsWhole s changes frames' numbers is_open) (sym read.same) record {
      archived = subst IsArchive read.same archive;
      stands = λ q none digest has tells. w.stands q none digest has (sym read.told ∙ tells);
      newest = λ q bytes is. elim (framed q bytes is) [
        | inl this ↦ let one : q ≡ n = this.0 in (ap (map.get a.kept) one ∙ this.1.0, λ tells. ap (map.get a.pages) one ∙ this.1.1 (sym read.told ∙ tells))
        | inr before ↦ let was = w.newest q bytes before in (was.0, λ tells. was.1 (sym read.told ∙ tells))
      ];
      past = λ id f frozen q place bytes is there. let was = w.past id f frozen q place bytes is (framed_past place bytes there) in (was.0, λ tells. was.1 (sym read.told ∙ tells));
      replaced = λ q place bytes is there. w.replaced q place bytes is (framed_past place bytes there);
      numbers_now = w.numbers_now;
      numbers_before = w.numbers_before;
      early = w.early;
    }

-- what isn't there when looked up isn't there
pub not_there : {X : Type 0} (o : Option (Bor X)) → is_some o ≡ false → option_copied o ≡ None
not_there None h = refl
not_there (Some x) h = absurd (true≢false h)

-- a fault of the disk and a damage, each counted beside the other
pub counted_both : {T : Type 0} (faults faults' damages damages' : ℕ) (result : Result T PageFault) → faults' ≡ faults_after faults result → damages' ≡ damages_after damages result
    → (faults', damages') ≡ failures_after (faults, damages) result
counted_both faults faults' damages damages' (Ok x) f d = λ i. (f i, d i)
counted_both faults faults' damages damages' (Err Memory) f d = λ i. (f i, d i)
counted_both faults faults' damages damages' (Err Device) f d = λ i. (f i, d i)
counted_both faults faults' damages damages' (Err (Damaged page kept read)) f d = λ i. (f i, d i)

-- a page that was read and compared, and its damage counted
pub counted_in : {T : Type 0} (old mid new : PoolState) (n : ℕ) (result : Result T PageFault) → Compares old mid n result
    → new ≡ record mid { damages = damages_after mid.damages result } → ReadsIn old new n result
counted_in {T = T} old mid new n result h is = subst (λ s. ReadsIn old s n result) (sym is) record {
  read = record {
    pages = h.read.pages;
    beginning = h.read.beginning;
    dirty = h.read.dirty;
    freed = h.read.freed;
    kept = h.read.kept;
    top = h.read.top;
    spare = h.read.spare;
    told = h.read.told;
    stored = h.read.stored;
    frames = h.read.frames;
    stamps = h.read.stamps;
    live = h.read.live;
    places = h.read.places;
  };
  gets = h.gets;
  cause = record {
    counted = counted_both old.disk.faults mid.disk.faults old.damages (damages_after mid.damages result) result h.faults (ap (λ k. damages_after k result) h.damages);
    damaged = damage_same result h.damaged;
  };
  named = h.named;
}
  where
    damage_same : (r : Result T PageFault) → IfErr r (IsDamageIfDamaged mid) → IfErr r (IsDamageIfDamaged (record mid { damages = damages_after mid.damages result }))
    damage_same (Ok x) h = tt
    damage_same (Err Memory) h = tt
    damage_same (Err Device) h = tt
    damage_same (Err (Damaged page kept read)) h = record { kept_is = h.kept_is; read_is = h.read_is; differ = h.differ; untold = h.untold }

-- a refusal that is no damage needs no more than its count
pub undamaged_cause : (s : PoolState) (fault : PageFault) → IsNoDamage fault → IsDamageIfDamaged s fault
undamaged_cause s Memory h = tt
undamaged_cause s Device h = tt
undamaged_cause s (Damaged page kept read) h = absurd h

-- a refusal that is no damage counts none
pub counted_undamaged : (faults faults' damages : ℕ) (fault : PageFault) → IsNoDamage fault → faults' ≡ faults_at faults fault → (faults', damages) ≡ failures_at (faults, damages) fault
counted_undamaged faults faults' damages Memory h f = ap (λ n. (n, damages)) f
counted_undamaged faults faults' damages Device h f = ap (λ n. (n, damages)) f
counted_undamaged faults faults' damages (Damaged page kept read) h f = absurd h
