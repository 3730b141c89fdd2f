-- What the calls of an archive do to what contracts see of it.
use Rattle.std.proofs.Common.{◌≡◌, ◌≢◌, ◌≤◌, ◌<◌, ℕ, Bool, true, false, cond, refl, sym, ap, subst, ◌∙◌, Option, Some, None, is_some, option_map, option_and_then, arith}
use Rattle.std.specs.FinMap as map
use Rattle.page_pool.specs.Disk.{DigestMap, DiskView}
use Rattle.page_pool.specs.Images.{ImagesState, IsImages, KeepsStamps, SettlesImage, LeavesImage, newest_place, seen_place}
use Rattle.page_pool.specs.Archive.{IsArchive, IsImageMap, AreAlike, ChangesPage, newest_images, StandsWritten}
use Rattle.page_pool.specs.InsideArchive.{newest_of, seen_of, stored_at, images_at, stamps_of, archive_of, IsArchived, Spoils}
use Rattle.page_pool.proofs.Maps.{same, get-insert_same, get-insert_other, get-remove_other}
use Rattle.page_pool.proofs.Archives.{get-newest_of, get-seen_of, get-stamps_of, stamp_is, unchanged_images, newest_map, seen_map, seen_stands, seen_alike, shared_there}
use Rattle.page_pool.proofs.Few.{few_kept}

-- what holds of every archive
pub is_archive : (disk : DiskView) (kept : DigestMap) (s : ImagesState) → IsImages s → IsArchived disk kept s → IsArchive (archive_of disk kept s)
is_archive disk kept s whole good = record {
  live = newest_map disk kept s whole good;
  maps = λ slot f is. let at = stamp_is disk kept s slot f is in subst (λ g. IsImageMap (archive_of disk kept s) g) at.1.1 (seen_map disk kept s whole good slot at.0 at.1.0);
  early = λ slot f is. let at = stamp_is disk kept s slot f is in subst (λ g. (slot < 16) × (g.at ≤ s.begun)) at.1.1 (whole.held slot at.0 at.1.0);
  latest = λ slot f is now. let at = stamp_is disk kept s slot f is in
      let begun : at.0 ≡ s.begun = ap (λ g. g.at) at.1.1 ∙ now in
      let last = whole.changed in
      sym at.1.1 ∙ unchanged_images disk kept s whole at.0 (omega arith) ∙ (λ i. record (newest_images (archive_of disk kept s)) { at = begun i });
  unchanged = λ slot f is late. let at = stamp_is disk kept s slot f is in
      let same_at : at.0 ≡ f.at = ap (λ g. g.at) at.1.1 in
      sym at.1.1 ∙ unchanged_images disk kept s whole at.0 (omega arith) ∙ (λ i. record (newest_images (archive_of disk kept s)) { at = same_at i });
  stands = λ slot f is. let at = stamp_is disk kept s slot f is.0 in
      let same_at : at.0 ≡ f.at = ap (λ g. g.at) at.1.1 in
      let early : at.0 < s.begun = let low = is.1 in omega arith in
      subst (λ g. (n : ℕ) → StandsWritten disk.told g.pages g.kept n) at.1.1 (seen_stands disk kept s whole good slot at.0 at.1.0 early);
  alike = λ slot other f g is_f is_g. let at = stamp_is disk kept s slot f is_f in let by = stamp_is disk kept s other g is_g in
      subst (λ x. AreAlike x g) at.1.1 (subst (AreAlike (images_at disk kept s at.0)) by.1.1 (seen_alike disk kept s whole at.0 by.0));
  newest = λ slot f is. let at = stamp_is disk kept s slot f is in
      subst (λ x. AreAlike x (newest_images (archive_of disk kept s))) at.1.1
      (subst (AreAlike (images_at disk kept s at.0)) (unchanged_images disk kept s whole s.begun whole.changed) (seen_alike disk kept s whole at.0 s.begun));
  shared = shared_there s;
  few = few_kept s whole disk kept;
}

-- how many commands had begun as a held stamp was taken
pub stamp_at : (disk : DiskView) (kept : DigestMap) (s : ImagesState) (slot : ℕ) → option_map (λ f. f.at) (map.get (stamps_of disk kept s) slot) ≡ map.get s.held slot
stamp_at disk kept s slot = ap (option_map (λ f. f.at)) (get-stamps_of disk kept s slot) ∙ by_stamp (map.get s.held slot)
  where
    by_stamp : (o : Option ℕ) → option_map (λ f. f.at) (option_map (images_at disk kept s) o) ≡ o
    by_stamp None = refl
    by_stamp (Some at) = refl

-- What is seen of the images changes for page n alone, and for no stamp of an earlier command.
pub record KeepsSight (s t : ImagesState) (n : ℕ) : Type 0 where
  pub held : t.held ≡ s.held
  pub begun : t.begun ≡ s.begun
  pub stamps : KeepsStamps s t
  pub others : (q : ℕ) → q ≢ n → newest_place t q ≡ newest_place s q

pub sight_same : (s : ImagesState) (n : ℕ) → KeepsSight s s n
sight_same s n = record { held = refl; begun = refl; stamps = λ id at is early q. refl; others = λ q other. refl }

pub sight_settled : (s t : ImagesState) (n place : ℕ) → SettlesImage s t n place → KeepsSight s t n
sight_settled s t n place settles = record {
  held = settles.change.held;
  begun = settles.change.begun;
  stamps = settles.change.stamps;
  others = λ q other. ap (option_map (λ h. h.place)) (ap (λ m. map.get m q) settles.homes ∙ get-insert_other s.homes n (record { place = place; made = s.begun }) q other);
}

pub sight_left : (s t : ImagesState) (n : ℕ) → LeavesImage s t n → KeepsSight s t n
sight_left s t n leaves = record {
  held = leaves.change.held;
  begun = leaves.change.begun;
  stamps = leaves.change.stamps;
  others = λ q other. ap (option_map (λ h. h.place)) (ap (λ m. map.get m q) leaves.homes ∙ get-remove_other s.homes n q other);
}

-- the place of a page that was settled
pub place_settled : (s t : ImagesState) (n place : ℕ) → SettlesImage s t n place → newest_place t n ≡ Some place
place_settled s t n place settles = ap (option_map (λ h. h.place)) (ap (λ m. map.get m n) settles.homes ∙ get-insert_same s.homes n (record { place = place; made = s.begun }))

-- where a spoiled place isn't, what is stored stays
pub stored_rest : (disk disk' : DiskView) (kept kept' : DigestMap) (place q : ℕ) → Spoils disk disk' kept kept' place → q ≢ place → stored_at disk' kept' q ≡ stored_at disk kept q
stored_rest disk disk' kept kept' place q spoils other = by_told disk.told refl
  where
    same_digest : map.get kept' q ≡ map.get kept q
    same_digest = spoils.kept_rest q other

    by_told : (b : Bool) → disk.told ≡ b → stored_at disk' kept' q ≡ stored_at disk kept q
    by_told true is =
        ap (λ b. cond b (cond (map.contains_key kept' q) (map.get disk'.pages q) None) (map.get kept' q)) (spoils.told ∙ is)
        ∙ (λ i. cond (is_some (same_digest i)) (spoils.pages is q other i) None)
        ∙ sym (ap (λ b. cond b (cond (map.contains_key kept q) (map.get disk.pages q) None) (map.get kept q)) is)
    by_told false is =
        ap (λ b. cond b (cond (map.contains_key kept' q) (map.get disk'.pages q) None) (map.get kept' q)) (spoils.told ∙ is)
        ∙ same_digest
        ∙ sym (ap (λ b. cond b (cond (map.contains_key kept q) (map.get disk.pages q) None) (map.get kept q)) is)

module _ (disk disk' : DiskView) (kept kept' : DigestMap) (s t : ImagesState) (n : ℕ)
    (touched : ℕ → Type 0) (kept_at : (q : ℕ) → (touched q → ⊥) → map.get kept' q ≡ map.get kept q) (stored_rest_at : (q : ℕ) → (touched q → ⊥) → stored_at disk' kept' q ≡ stored_at disk kept q)
    (stamps_away : (id at q p : ℕ) → map.get s.held id ≡ Some at → at < s.begun → seen_place at s q ≡ Some p → touched p → ⊥)
    (others_away : (q p : ℕ) → q ≢ n → newest_place s q ≡ Some p → touched p → ⊥)
    (sight : KeepsSight s t n) where
  -- what a stamp of an earlier command sees is as it was
  seen_stays : {X : Type 0} (f g : ℕ → Option X) → ((q : ℕ) → (touched q → ⊥) → g q ≡ f q) → (id at : ℕ) → map.get s.held id ≡ Some at → at < s.begun → seen_of g t at ≡ seen_of f s at
  seen_stays {X = X} f g rest id at held early =
      same (seen_of g t at) (seen_of f s at) (λ q. get-seen_of g t at q ∙ ap (option_and_then g) (sight.stamps id at held early q) ∙ by_place q (seen_place at s q) refl ∙ sym (get-seen_of f s at q))
    where
      by_place : (q : ℕ) (o : Option ℕ) → seen_place at s q ≡ o → option_and_then g (seen_place at s q) ≡ option_and_then f (seen_place at s q)
      by_place q None is = ap (option_and_then g) is ∙ sym (ap (option_and_then f) is)
      by_place q (Some p) is = ap (option_and_then g) is ∙ rest p (stamps_away id at q p held early is) ∙ sym (ap (option_and_then f) is)

  -- so is the newest image of another page
  newest_stays : {X : Type 0} (f g : ℕ → Option X) → ((q : ℕ) → (touched q → ⊥) → g q ≡ f q) → (q : ℕ) → q ≢ n → map.get (newest_of g t) q ≡ map.get (newest_of f s) q
  newest_stays {X = X} f g rest q other = get-newest_of g t q ∙ ap (option_and_then g) (sight.others q other) ∙ by_place (newest_place s q) refl ∙ sym (get-newest_of f s q)
    where
      by_place : (o : Option ℕ) → newest_place s q ≡ o → option_and_then g (newest_place s q) ≡ option_and_then f (newest_place s q)
      by_place None is = ap (option_and_then g) is ∙ sym (ap (option_and_then f) is)
      by_place (Some p) is = ap (option_and_then g) is ∙ rest p (others_away q p other is) ∙ sym (ap (option_and_then f) is)

  pub changes_page : disk'.told ≡ disk.told → disk'.given ≡ disk.given → ChangesPage (archive_of disk kept s) (archive_of disk' kept' t) n
  changes_page told given = record {
    stamps = λ slot f is. let at = stamp_is disk kept s slot f is.0 in
        let same_at : at.0 ≡ f.at = ap (λ g. g.at) at.1.1 in
        let early : at.0 < s.begun = let low = is.1 in omega arith in
        get-stamps_of disk' kept' t slot ∙ ap (λ m. option_map (images_at disk' kept' t) (map.get m slot)) sight.held ∙ ap (option_map (images_at disk' kept' t)) at.1.0
        ∙ ap (λ g. Some g) (map_stays slot at.0 at.1.0 early ∙ at.1.1);
    held = λ slot. stamp_at disk' kept' t slot ∙ ap (λ m. map.get m slot) sight.held ∙ sym (stamp_at disk kept s slot);
    pages = newest_stays (stored_at disk kept) (stored_at disk' kept') stored_rest_at;
    kept = newest_stays (map.get kept) (map.get kept') kept_at;
    places = newest_stays Some Some (λ q _. refl);
    begun = sight.begun;
    told = told;
    given = given;
  }
    where
      map_stays : (id at : ℕ) → map.get s.held id ≡ Some at → at < s.begun → images_at disk' kept' t at ≡ images_at disk kept s at
      map_stays id at held early = λ i. record {
        at = at;
        pages = seen_stays (stored_at disk kept) (stored_at disk' kept') stored_rest_at id at held early i;
        kept = seen_stays (map.get kept) (map.get kept') kept_at id at held early i;
        places = seen_stays Some Some (λ q _. refl) id at held early i;
      }
