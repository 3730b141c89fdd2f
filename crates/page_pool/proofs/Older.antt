-- A get of an image that an older stamp sees.
use Rattle.std.proofs.Common.{◌≡◌, ◌≢◌, ◌<◌, ℕ, List, Bool, true, false, cond, refl, sym, ap, subst, ◌∙◌, Some, is_some, IfErr, Result, Err}
use Rattle.std.specs.FinMap as map
use Rattle.sand_base.specs.Faults.{next_count}
use Rattle.page_pool.specs.declared.fault.PageFault.{PageFault}
use Rattle.page_pool.specs.declared.fault.PageFault.TheVariants.{Memory, Device, Damaged}
use Rattle.page_pool.specs.Archive.{ImageMap, ArchiveState, IsArchive, IsReadArchive, IsImageDamage}
use Rattle.page_pool.specs.Inside.{StagedState, CacheState, NumbersState, IsWhole, IsImageOf, state_of}
use Rattle.page_pool.specs.Pool.{PoolState, IsLive, IsPage, seen_at, showing}
use Rattle.page_pool.specs.Causes.{faults_after, damages_after}
use Rattle.page_pool.specs.Reads.{IsRead, Gets}
use Rattle.page_pool.proofs.Stamped.{shown_frozen}
use Rattle.page_pool.proofs.States.{read_state}
use Rattle.page_pool.proofs.Loads.{damage_of, counted_both}
use Rattle.page_pool.proofs.Viewed.{older_shown, older_page, older_live, image_framed, read_showing}

-- a refusal is counted alike, whatever was asked for
pub damages_same : (T U : Type 0) (count : ℕ) (fault : PageFault) → damages_after {T = T} count (Err fault) ≡ damages_after {T = U} count (Err fault)
damages_same T U count Memory = refl
damages_same T U count Device = refl
damages_same T U count (Damaged page kept read) = refl

module _ (a b : ArchiveState) (staged : StagedState) (frames frames' : CacheState) (numbers : NumbersState) (is_open : Bool) (gets gets' damages damages' slot n : ℕ) (f : ImageMap)
    (held : map.get a.stamps slot ≡ Some f) (early : f.at < a.begun) (read : IsReadArchive a b) where
  -- the pool as it is before the get, and after it
  abbrev before : PoolState
  before = state_of a staged frames numbers is_open gets damages

  abbrev after : PoolState
  after = state_of b staged frames' numbers is_open gets' damages'

  -- the stamp is held afterwards, and is of an earlier command still
  still_held : map.get b.stamps slot ≡ Some f
  still_held = ap (λ x. map.get x.stamps slot) read.same ∙ held

  still_early : f.at < b.begun
  still_early = subst (λ k. f.at < k) (sym (ap (λ x. x.begun) read.same)) early

  -- it is one get, whatever the answer
  pub gets_older : {T : Type 0} (result : Result T PageFault) → frames'.most ≡ frames.most → gets' ≡ next_count gets → damages' ≡ damages_after damages result
      → b.disk.faults ≡ faults_after a.disk.faults result → IfErr result (IsImageDamage b.disk f.kept n)
      → IsRead (state_of a staged frames numbers is_open gets damages) (state_of b staged frames' numbers is_open gets' damages')
      × Gets (seen_at (state_of a staged frames numbers is_open gets damages) slot) (seen_at (state_of b staged frames' numbers is_open gets' damages') slot) n result
  gets_older result most counted also faults damaged =
      let is_read = read_state a b staged frames frames' numbers is_open gets gets' damages damages' read most in
      let cause = damage_of (showing after (shown_frozen f)) f.kept n result refl damaged in (
        is_read,
        subst (λ x. Gets x (seen_at after slot) n result) (sym (older_shown a staged frames numbers is_open gets damages slot n f held early))
            (subst (λ y. Gets (showing before (shown_frozen f)) y n result) (sym (older_shown b staged frames' numbers is_open gets' damages' slot n f still_held still_early))
            record {
              read = read_showing before after (shown_frozen f) is_read;
              gets = counted;
              cause = record { counted = counted_both a.disk.faults b.disk.faults damages damages' result faults also; damaged = cause.0 };
              named = cause.1;
            }),
      )

  -- the page that is in a frame is the stamp's
  pub got_older : (place : ℕ) (is_newest : Bool) → map.get f.places n ≡ Some place → (is_newest ≡ true → map.get a.places n ≡ Some place) → (is_newest ≡ false → map.get a.places n ≢ Some place)
      → IsArchive a → IsWhole b staged.changes frames' numbers is_open → (page : List ℕ) → cond is_newest (map.get frames'.newest n) (map.get frames'.past place) ≡ Some page
      → IsLive (seen_at (state_of a staged frames numbers is_open gets damages) slot) n × IsPage (seen_at (state_of a staged frames numbers is_open gets damages) slot) n page
  got_older place is_newest lies there elsewhere archive whole page framed =
      let same : map.get b.places n ≡ map.get a.places n = ap (λ x. map.get x.places n) read.same in
      let later : IsImageOf b.disk.told f.pages f.kept n page = image_framed b b staged.changes frames' frames' numbers is_open slot n place f is_newest
      still_held lies (λ t. same ∙ there t) (λ t e. elsewhere t (sym same ∙ e)) (still_held, still_early) whole page framed in
      let image : IsImageOf a.disk.told f.pages f.kept n page = (later.0, λ tells. later.1 (read.told ∙ tells)) in
      (older_live a staged frames numbers is_open gets damages slot n f held early archive ∙ ap is_some image.0, older_page a staged frames numbers is_open gets damages slot n f held early page image)
