-- An archive with no image.
use Rattle.std.proofs.Common.{◌≡◌, ℕ, sym, ap, subst, ◌∙◌, Option, Some, option_map, option_and_then}
use Rattle.std.specs.Ordering.{nat_cmp}
use Rattle.std.specs.FinMap as map
use Rattle.std.specs.FinSet as set
use Rattle.std.proofs.lemmas.Option.{none-some}
use Rattle.page_pool.specs.Disk.{DigestMap, DiskView}
use Rattle.page_pool.specs.Images.{ImagesState, no_images, is_past_seen, is_home_seen, seen_past, seen_homes}
use Rattle.page_pool.specs.Archive.{new_archive}
use Rattle.page_pool.specs.InsideArchive.{newest_of, stored_at, images_at, stamps_of, archive_of, IsArchived}
use Rattle.page_pool.proofs.Maps.{same}
use Rattle.page_pool.proofs.Choices.{same_numbers}
use Rattle.page_pool.proofs.TurnCounts.{contains-past_seen, contains-seen_homes}
use Rattle.page_pool.proofs.Archives.{get-newest_of, get-stamps_of}

-- the parts of an archive with no image
pub start_archived : (disk : DiskView) (kept : DigestMap) (s : ImagesState) → s ≡ no_images → IsArchived disk kept s
start_archived disk kept s is = subst (IsArchived disk kept) (sym is) record {
  digested = λ n p here. absurd (none-some p (sym (ap (option_map (λ h. h.place)) (map.get-empty nat_cmp n)) ∙ here));
  stands = λ slot at n p held _ _. absurd (none-some at (sym (map.get-empty nat_cmp slot) ∙ held));
}

pub start_is : (disk : DiskView) (kept : DigestMap) (s : ImagesState) → s ≡ no_images → archive_of disk kept s ≡ new_archive disk
start_is disk kept s is = ap (archive_of disk kept) is ∙ (λ i. record {
  disk = disk;
  pages = none (stored_at disk kept) i;
  kept = none (map.get kept) i;
  places = none Some i;
  stamps = no_stamps i;
  begun = 0;
  changed = 0;
  seen = no_past i;
  shared = no_homes i;
})
  where
    none : {X : Type 0} (f : ℕ → Option X) → newest_of f no_images ≡ map.empty
    none f = same (newest_of f no_images) map.empty (λ n. get-newest_of f no_images n ∙ ap (λ o. option_and_then f (option_map (λ h. h.place) o)) (map.get-empty nat_cmp n)
        ∙ sym (map.get-empty nat_cmp n))

    no_stamps : stamps_of disk kept no_images ≡ map.empty
    no_stamps = same (stamps_of disk kept no_images) map.empty (λ n. get-stamps_of disk kept no_images n
        ∙ ap (option_map (images_at disk kept no_images)) (map.get-empty nat_cmp n) ∙ sym (map.get-empty nat_cmp n))

    no_past : set.len (seen_past no_images) ≡ 0
    no_past = ap set.len (same_numbers (seen_past no_images) set.empty (λ p. contains-past_seen map.empty map.empty p
        ∙ ap (is_past_seen map.empty) (map.get-empty nat_cmp p) ∙ sym (set.contains-empty nat_cmp p))) ∙ set.len-empty nat_cmp

    no_homes : seen_homes no_images ≡ set.empty
    no_homes = same_numbers (seen_homes no_images) set.empty (λ n. contains-seen_homes no_images n ∙ ap (is_home_seen map.empty 0) (map.get-empty nat_cmp n) ∙ sym (set.contains-empty nat_cmp n))
