-- The calls of an archive, whatever their answers.
use Rattle.std.proofs.Common.{◌≡◌, ◌≢◌, ◌<◌, ℕ, List, cond, refl, sym, ap, subst, ◌∙◌, Option, Some, None, is_some, IsTrue, option_map, option_and_then, IfSome, Result}
use Rattle.std.proofs.Common.{Ok, Err, OnOk, OnErr, IfOk, IfErr, inl, inr, arith}
use Rattle.std.specs.FinMap as map
use Rattle.std.proofs.lemmas.Bool.{cases_eq}
use Rattle.std.proofs.lemmas.Option.{same_Some, none-some}
use Rattle.sha2.specs.Sha256.{sha256}
use Rattle.page_pool.specs.declared.disk.DiskFault.{DiskFault}
use Rattle.page_pool.specs.declared.fault.PageFault.{PageFault}
use Rattle.page_pool.specs.declared.fault.PageFault.TheVariants.{Memory, Device, Damaged}
use Rattle.page_pool.specs.Disk.{PageMap, DigestMap, DiskView, WritesPage}
use Rattle.page_pool.specs.Causes.{faults_after, IsNoDamage}
use Rattle.page_pool.specs.Images.{ImagesState, IsImages, IsFreePlace, SettlesImage, LeavesImage, newest_place, seen_place}
use Rattle.page_pool.specs.Archive.{ChangesPage, WritesImage, LeavesPage, StandsWritten, IsReadArchive, ReadsImage, IsImageDamage, IsArchive}
use Rattle.page_pool.specs.InsideArchive.{newest_of, seen_of, stored_at, images_at, stamps_of, archive_of, ImageStandsAt, StandsStored, ReadsPlace, IsPlaceDamage, IsArchived, Spoils, StoresAt}
use Rattle.page_pool.proofs.Maps.{same, get-insert_same, get-insert_other, get-remove_same}
use Rattle.page_pool.proofs.Archives.{get-newest_of, get-seen_of, get-stamps_of, stored_told}
use Rattle.page_pool.proofs.ArchiveChanges.{is_archive, KeepsSight, sight_same, sight_settled, sight_left, place_settled, stored_rest, changes_page}

-- a writing spoils its place at most
pub spoils_write : {T : Type 0} (disk disk' : DiskView) (kept kept' : DigestMap) (place : ℕ) (page : List ℕ) (r : Result T DiskFault)
    → WritesPage disk disk' place page r → kept' ≡ kept → Spoils disk disk' kept kept' place
spoils_write disk disk' kept kept' place page r writes is = record {
  told = writes.told;
  given = writes.given;
  pages = writes.others;
  kept_rest = λ q _. ap (λ m. map.get m q) is;
  has = λ there. ap (λ m. map.contains_key m place) is ∙ there;
}

pub spoils_insert : {T : Type 0} (disk disk' : DiskView) (kept kept' : DigestMap) (place : ℕ) (page digest : List ℕ) (r : Result T DiskFault)
    → WritesPage disk disk' place page r → kept' ≡ map.insert kept place digest → Spoils disk disk' kept kept' place
spoils_insert disk disk' kept kept' place page digest r writes is = record {
  told = writes.told;
  given = writes.given;
  pages = writes.others;
  kept_rest = λ q other. ap (λ m. map.get m q) is ∙ get-insert_other kept place digest q other;
  has = λ there. ap is_some (ap (λ m. map.get m place) is ∙ get-insert_same kept place digest);
}

-- the parts fit together after a change of sight
pub archived_sight : (disk : DiskView) (kept : DigestMap) (s t : ImagesState) (n : ℕ) → KeepsSight s t n
    → ((p : ℕ) → newest_place t n ≡ Some p → IsTrue (map.contains_key kept p)) → IsArchived disk kept s → IsArchived disk kept t
archived_sight disk kept s t n sight has good = record {
  digested = λ q p is. elim (cases_eq q n) [
    | inl q_is ↦ has p (ap (newest_place t) (sym q_is) ∙ is)
    | inr other ↦ good.digested q p (sym (sight.others q other) ∙ is)
  ];
  stands = λ slot at q p held early is. let begun = sight.begun in let old : map.get s.held slot ≡ Some at = ap (λ m. map.get m slot) (sym sight.held) ∙ held in
      let low : at < s.begun = omega arith in good.stands slot at q p old low (sym (sight.stamps slot at old low q) ∙ is);
}

-- and where a free place is spoiled
pub archived_spoiled : (disk disk' : DiskView) (kept kept' : DigestMap) (s : ImagesState) (n place : ℕ) → IsFreePlace s n place → Spoils disk disk' kept kept' place
    → IsArchived disk kept s → IsArchived disk' kept' s
archived_spoiled disk disk' kept kept' s n place free spoils good = record {
  digested = λ q p is. elim (cases_eq p place) [
    | inl here ↦ ap (map.contains_key kept') here ∙ spoils.has (ap (map.contains_key kept) (sym here) ∙ good.digested q p is)
    | inr other ↦ ap is_some (spoils.kept_rest p other) ∙ good.digested q p is
  ];
  stands = λ slot at q p held early is.
      let other : p ≢ place = λ here. free.stamps slot at q held early (is ∙ ap (λ x. Some x) here) in
      stands_still p other (good.stands slot at q p held early is);
}
  where
    stands_still : (p : ℕ) → p ≢ place → ImageStandsAt disk kept p → ImageStandsAt disk' kept' p
    stands_still p other (digest, (has, page)) = (
      digest,
      (
        spoils.kept_rest p other ∙ has,
        λ told.
            let before = sym spoils.told ∙ told in let is = page before in (is.0, (spoils.pages before p other ∙ is.1.0, is.1.1)),
      ),
    )

module _ (disk disk' : DiskView) (kept kept' : DigestMap) (s : ImagesState) (n place : ℕ) (free : IsFreePlace s n place) (spoils : Spoils disk disk' kept kept' place) where
  -- a writing of page n at a free place changes its own images at most
  spoiled_change : (t : ImagesState) → KeepsSight s t n → ChangesPage (archive_of disk kept s) (archive_of disk' kept' t) n
  spoiled_change t sight = changes_page disk disk' kept kept' s t n (λ q. q ≡ place) spoils.kept_rest (λ q other. stored_rest disk disk' kept kept' place q spoils other)
      (λ id at q p held early is here. free.stamps id at q held early (is ∙ ap (λ x. Some x) here))
      (λ q p other is here. free.others q other (is ∙ ap (λ x. Some x) here)) sight spoils.told spoils.given

  pub write_refused : (page : List ℕ) (fault : PageFault) → disk'.faults ≡ faults_after {T = ℕ} disk.faults (Err fault) → IsNoDamage fault
      → WritesImage (archive_of disk kept s) (archive_of disk' kept' s) n page (Err fault)
  write_refused page fault counted undamaged = record {
    change = spoiled_change s (sight_same s n);
    written = tt;
    replaced = tt;
    kept_place = get-newest_of Some s n ∙ sym (get-newest_of Some s n);
    counts = record { seen = refl; shared = refl };
    counted = counted;
    undamaged = undamaged;
  }

  pub write_done : (t : ImagesState) (page : List ℕ) → SettlesImage s t n place → map.get kept' place ≡ Some (sha256 page)
      → (IsTrue disk'.told → map.get disk'.pages place ≡ Some page) → disk'.faults ≡ disk.faults
      → WritesImage (archive_of disk kept s) (archive_of disk' kept' t) n page (Ok place)
  write_done t page settles digest stands counted = record {
    change = spoiled_change t (sight_settled s t n place settles);
    written = record {
      place = get-newest_of Some t n ∙ ap (option_and_then Some) (place_settled s t n place settles);
      kept = get-newest_of (map.get kept') t n ∙ ap (option_and_then (map.get kept')) (place_settled s t n place settles) ∙ digest;
      page = λ told. get-newest_of (stored_at disk' kept') t n ∙ ap (option_and_then (stored_at disk' kept')) (place_settled s t n place settles)
          ∙ stored_told disk' kept' place told (ap is_some digest) ∙ stands told;
    };
    replaced = record { seen = settles.change.counted; shared = settles.change.seen };
    kept_place = tt;
    counts = tt;
    counted = counted;
    undamaged = tt;
  }

  -- the parts fit together after it
  pub archived_written : (t : ImagesState) → SettlesImage s t n place → IsTrue (map.contains_key kept' place) → IsArchived disk kept s → IsArchived disk' kept' t
  archived_written t settles has good = archived_sight disk' kept' s t n (sight_settled s t n place settles)
      (λ p is. ap (map.contains_key kept') (same_Some p place (sym is ∙ place_settled s t n place settles)) ∙ has) (archived_spoiled disk disk' kept kept' s n place free spoils good)

-- the place was refused before anything was done
pub write_unmade : (disk : DiskView) (kept : DigestMap) (s : ImagesState) (n : ℕ) (page : List ℕ) → WritesImage (archive_of disk kept s) (archive_of disk kept s) n page (Err Memory)
write_unmade disk kept s n page = record {
  change = record {
    stamps = λ slot f is. is.0;
    held = λ slot. refl;
    pages = λ q other. refl;
    kept = λ q other. refl;
    places = λ q other. refl;
    begun = refl;
    told = refl;
    given = refl;
  };
  written = tt;
  replaced = tt;
  kept_place = refl;
  counts = record { seen = refl; shared = refl };
  counted = refl;
  undamaged = tt;
}

-- no image of it is the newest
none_left : (s t : ImagesState) (n : ℕ) → LeavesImage s t n → newest_place t n ≡ None
none_left s t n leaves = ap (option_map (λ h. h.place)) (ap (λ m. map.get m n) leaves.homes ∙ get-remove_same s.homes n)

-- page n is left
pub leaves_page : (disk : DiskView) (kept : DigestMap) (s t : ImagesState) (n : ℕ) → LeavesImage s t n → LeavesPage (archive_of disk kept s) (archive_of disk kept t) n
leaves_page disk kept s t n leaves = record {
  change = changes_page disk disk kept kept s t n (λ _. ⊥) (λ q _. refl) (λ q _. refl) (λ id at q p held early is none. none) (λ q p other is none. none) (sight_left s t n leaves) refl refl;
  replaced = record { seen = leaves.change.counted; shared = leaves.change.seen };
  disk = refl;
  places = get-newest_of Some t n ∙ ap (option_and_then Some) (none_left s t n leaves);
}

pub archived_left : (disk : DiskView) (kept : DigestMap) (s t : ImagesState) (n : ℕ) → LeavesImage s t n → IsArchived disk kept s → IsArchived disk kept t
archived_left disk kept s t n leaves good = archived_sight disk kept s t n (sight_left s t n leaves) (λ p is. absurd (none-some p (sym (none_left s t n leaves) ∙ is))) good

module _ (disk disk' : DiskView) (kept : DigestMap) (s : ImagesState) (told : disk'.told ≡ disk.told) (pages : disk'.pages ≡ disk.pages) where
  -- what is stored is as it was
  stored_same : stored_at disk' kept ≡ stored_at disk kept
  stored_same = λ i p. cond (told i) (cond (map.contains_key kept p) (map.get (pages i) p) None) (map.get kept p)

  stamps_same : stamps_of disk' kept s ≡ stamps_of disk kept s
  stamps_same = same (stamps_of disk' kept s) (stamps_of disk kept s) (λ slot. get-stamps_of disk' kept s slot ∙ by_stamp (map.get s.held slot) ∙ sym (get-stamps_of disk kept s slot))
    where
      by_stamp : (o : Option ℕ) → option_map (images_at disk' kept s) o ≡ option_map (images_at disk kept s) o
      by_stamp None = refl
      by_stamp (Some at) = λ i. Some (record { at = at; pages = seen_of (stored_same i) s at; kept = seen_of (map.get kept) s at; places = seen_of Some s at })

  -- nothing of the archive is changed by a reading
  pub reads_archive : IsReadArchive (archive_of disk kept s) (archive_of disk' kept s)
  reads_archive = record {
    same = λ i. record (archive_of disk' kept s) { pages = newest_of (stored_same i) s; stamps = stamps_same i };
    told = told;
    stored = pages;
  }

  pub archived_read : IsArchived disk kept s → IsArchived disk' kept s
  archived_read good = record {
    digested = good.digested;
    stands = λ slot at n p held early is. still p (good.stands slot at n p held early is);
  }
    where
      still : (p : ℕ) → ImageStandsAt disk kept p → ImageStandsAt disk' kept p
      still p (digest, (has, page)) = (digest, (has, λ t. let is = page (sym told ∙ t) in (is.0, (ap (λ m. map.get m p) pages ∙ is.1.0, is.1.1))))

-- page n of these images lies at this place and was read there
pub reads_image : (disk disk' : DiskView) (kept : DigestMap) (s : ImagesState) (images_pages : PageMap) (images_kept : DigestMap) (n place : ℕ) (r : Result (List ℕ) PageFault)
    → map.get images_kept n ≡ map.get kept place → map.get images_pages n ≡ stored_at disk kept place → ReadsPlace disk disk' kept n place r
    → ReadsImage (archive_of disk kept s) (archive_of disk' kept s) images_pages images_kept n r
reads_image disk disk' kept s images_pages images_kept n place r digest stored reads = record {
  read = reads_archive disk disk' kept s reads.told reads.stored;
  there = there r reads.digested;
  missing = λ none. reads.missing (sym (ap is_some digest) ∙ none);
  digested = digested r reads.digested;
  value = value r reads.digested reads.value;
  counted = reads.counted;
  damaged = damaged r reads.damaged;
}
  where
    there : (r : Result (List ℕ) PageFault) → IfOk r (λ page. map.get kept place ≡ Some (sha256 page)) → OnOk r (IsTrue (map.contains_key images_kept n))
    there (Ok page) is = ap is_some (digest ∙ is)
    there (Err fault) is = tt

    digested : (r : Result (List ℕ) PageFault) → IfOk r (λ page. map.get kept place ≡ Some (sha256 page)) → IfOk r (λ page. map.get images_kept n ≡ Some (sha256 page))
    digested (Ok page) is = digest ∙ is
    digested (Err fault) is = tt

    value : (r : Result (List ℕ) PageFault) → IfOk r (λ page. map.get kept place ≡ Some (sha256 page))
        → IfOk r (λ page. IsTrue disk.told → map.get disk.pages place ≡ Some page) → IfOk r (λ page. IsTrue disk.told → map.get images_pages n ≡ Some page)
    value (Ok page) is page_is = λ told. stored ∙ stored_told disk kept place told (ap is_some is) ∙ page_is told
    value (Err fault) is page_is = tt

    damaged : (r : Result (List ℕ) PageFault) → IfErr r (IsPlaceDamage disk' kept n place) → IfErr r (IsImageDamage disk' images_kept n)
    damaged (Ok page) h = tt
    damaged (Err Memory) h = tt
    damaged (Err Device) h = tt
    damaged (Err (Damaged page kept_digest read)) h = (h.0, (digest ∙ h.1.0, h.1.1))

-- a page that isn't there is refused
pub reads_none : (disk : DiskView) (kept : DigestMap) (s : ImagesState) (images_pages : PageMap) (images_kept : DigestMap) (n : ℕ)
    → ReadsImage (archive_of disk kept s) (archive_of disk kept s) images_pages images_kept n (Err Memory)
reads_none disk kept s images_pages images_kept n = record {
  read = record { same = refl; told = refl; stored = refl };
  there = tt;
  missing = λ _. refl;
  digested = tt;
  value = tt;
  counted = refl;
  damaged = tt;
}

-- a page that stands written at its place stands there stored
pub stands_stored : (disk : DiskView) (kept : DigestMap) (s : ImagesState) (n place : ℕ) → newest_place s n ≡ Some place
    → StandsWritten disk.told (newest_of (stored_at disk kept) s) (newest_of (map.get kept) s) n → StandsStored disk kept place
stands_stored disk kept s n place here stands = λ digest has told.
    let page = stands digest (get-newest_of (map.get kept) s n ∙ ap (option_and_then (map.get kept)) here ∙ has) told in
    (page.0, (sym (stored_told disk kept place told (ap is_some has)) ∙ sym (ap (option_and_then (stored_at disk kept)) here) ∙ sym (get-newest_of (stored_at disk kept) s n) ∙ page.1.0, page.1.1))

-- the calls of an archive with what holds of it afterwards
pub write_kept : {T : Type 0} (disk disk' : DiskView) (kept kept' : DigestMap) (s : ImagesState) (n place : ℕ) (page : List ℕ) (fault : PageFault) → IsImages s
    → IsFreePlace s n place → StoresAt {T = T} disk disk' kept kept' place page (Err fault) → IsArchived disk kept s
    → IsArchived disk' kept' s × (WritesImage (archive_of disk kept s) (archive_of disk' kept' s) n page (Err fault) × IsArchive (archive_of disk' kept' s))
write_kept disk disk' kept kept' s n place page fault whole free stores good =
    let after = archived_spoiled disk disk' kept kept' s n place free stores.spoils good in
    (after, (write_refused disk disk' kept kept' s n place free stores.spoils page fault stores.counted stores.undamaged, is_archive disk' kept' s whole after))

-- memory for the books was refused
pub write_unsettled : {T : Type 0} (x : T) (disk disk' : DiskView) (kept kept' : DigestMap) (s t : ImagesState) (n place : ℕ) (page : List ℕ) → IsImages s
    → IsFreePlace s n place → StoresAt disk disk' kept kept' place page (Ok x) → t ≡ s → IsArchived disk kept s
    → IsArchived disk' kept' t × (WritesImage (archive_of disk kept s) (archive_of disk' kept' t) n page (Err Memory) × IsArchive (archive_of disk' kept' t))
write_unsettled x disk disk' kept kept' s t n place page whole free stores is good =
    let after = archived_spoiled disk disk' kept kept' s n place free stores.spoils good in
    subst (λ x. IsArchived disk' kept' x × (WritesImage (archive_of disk kept s) (archive_of disk' kept' x) n page (Err Memory) × IsArchive (archive_of disk' kept' x))) (sym is)
    (after, (write_refused disk disk' kept kept' s n place free stores.spoils page Memory stores.counted tt, is_archive disk' kept' s whole after))

pub write_made : {T : Type 0} (x : T) (disk disk' : DiskView) (kept kept' : DigestMap) (s t : ImagesState) (n place : ℕ) (page : List ℕ) → IsImages t
    → IsFreePlace s n place → StoresAt disk disk' kept kept' place page (Ok x) → SettlesImage s t n place → IsArchived disk kept s
    → IsArchived disk' kept' t × (WritesImage (archive_of disk kept s) (archive_of disk' kept' t) n page (Ok place) × IsArchive (archive_of disk' kept' t))
write_made x disk disk' kept kept' s t n place page whole free stores settles good =
    let after = archived_written disk disk' kept kept' s n place free stores.spoils t settles (ap is_some stores.digest) good in
    (after, (write_done disk disk' kept kept' s n place free stores.spoils t page settles stores.digest stores.stored stores.counted, is_archive disk' kept' t whole after))

-- page n was left, or memory refused
pub left : {T E : Type 0} (disk : DiskView) (kept : DigestMap) (s t : ImagesState) (n : ℕ) (r : Result T E) → OnOk r (LeavesImage s t n) → OnErr r (t ≡ s) → IsArchived disk kept s
    → IsArchived disk kept t × OnOk r (LeavesPage (archive_of disk kept s) (archive_of disk kept t) n)
left disk kept s t n (Ok x) leaves same good = (archived_left disk kept s t n leaves good, leaves_page disk kept s t n leaves)
left disk kept s t n (Err e) leaves same good = (subst (IsArchived disk kept) (sym same) good, tt)

-- what a stamp of an earlier command sees stands stored
pub seen_stored : (disk : DiskView) (kept : DigestMap) (s : ImagesState) (slot at n place : ℕ) → map.get s.held slot ≡ Some at → seen_place at s n ≡ Some place
    → IfSome (map.get (stamps_of disk kept s) slot) (λ f. f.at < s.begun) → IsArchived disk kept s → StandsStored disk kept place
seen_stored disk kept s slot at n place held here early good = λ digest has told.
    let stands = good.stands slot at n place held (subst (λ o. IfSome o (λ f. f.at < s.begun)) (get-stamps_of disk kept s slot ∙ ap (option_map (images_at disk kept s)) held) early) here in
    let page = stands.1.1 told in
    (page.0, (page.1.0, same_Some digest stands.0 (sym has ∙ stands.1.0) ∙ page.1.1))

-- page n was read as a stamp sees it
pub reads_seen : (disk disk' : DiskView) (kept : DigestMap) (s : ImagesState) (slot at n place : ℕ) (r : Result (List ℕ) PageFault) → map.get s.held slot ≡ Some at
    → seen_place at s n ≡ Some place → ReadsPlace disk disk' kept n place r
    → IfSome (map.get (stamps_of disk kept s) slot) (λ f. ReadsImage (archive_of disk kept s) (archive_of disk' kept s) f.pages f.kept n r)
reads_seen disk disk' kept s slot at n place r held here reads =
    subst (λ o. IfSome o (λ f. ReadsImage (archive_of disk kept s) (archive_of disk' kept s) f.pages f.kept n r)) (sym (get-stamps_of disk kept s slot ∙ ap (option_map (images_at disk kept s)) held))
    (reads_image disk disk' kept s (seen_of (stored_at disk kept) s at) (seen_of (map.get kept) s at) n place r
    (get-seen_of (map.get kept) s at n ∙ ap (option_and_then (map.get kept)) here) (get-seen_of (stored_at disk kept) s at n ∙ ap (option_and_then (stored_at disk kept)) here) reads)
