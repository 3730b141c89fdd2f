-- How the records of this crate are stored as a proof tells their values apart.
use Rattle.std.specs.Prelude.{ℕ, List, refl}
use Rattle.std.specs.Ordering.{nat_cmp}
use Rattle.std.specs.Coded.{Coded, code_by, coded×, coded_ℕ, coded_list}
use Rattle.sand_base.specs.Calls.{CallsState}
use Rattle.page_pool.specs.Disk.{PageMap, NumberSet, DiskView}
use Rattle.page_pool.specs.MemDisk.{SureDiskState, MemDiskState}
use Rattle.page_pool.specs.declared.home.Home.{Home}
use Rattle.page_pool.specs.declared.past.Past.{Past}
use Rattle.std.specs.FinMap as map
use Rattle.page_pool.specs.Images.{HomeMap, PastMap, HeldMap, ImagesState}
use Rattle.page_pool.specs.Archive.{PlaceMap, ImageMap, ArchiveState}
use Rattle.page_pool.specs.Inside.{page_map_code, number_set_code, disk_code}

-- a disk that never fails, by its pages and the page that it gave last
abbrev pub sure_disk_code : Coded SureDiskState
sure_disk_code = code_by (PageMap × List ℕ) (coded× page_map_code (coded_list coded_ℕ)) (λ s. (s.pages, s.given)) (λ p. record { pages = p.0; given = p.1 }) (λ _. refl)

-- the calls that fail, by their list and the counts of those made and of faults
abbrev pub calls_code : Coded CallsState
calls_code = code_by (List ℕ × (ℕ × ℕ)) (coded× (coded_list coded_ℕ) (coded× coded_ℕ coded_ℕ)) (λ s. (s.fails, (s.made, s.faults)))
    (λ p. record { fails = p.0; made = p.1.0; faults = p.1.1 }) (λ _. refl)

-- a disk that fails at some calls, by its pages and those calls
abbrev pub mem_disk_code : Coded MemDiskState
mem_disk_code = code_by (SureDiskState × CallsState) (coded× sure_disk_code calls_code) (λ s. (s.disk, s.calls)) (λ p. record { disk = p.0; calls = p.1 }) (λ _. refl)

-- a newest image, by its place and the command that made it
abbrev pub home_code : Coded Home
home_code = code_by (ℕ × ℕ) (coded× coded_ℕ coded_ℕ) (λ h. (h.place, h.made)) (λ p. record { place = p.0; made = p.1 }) (λ _. refl)

-- a replaced image, by its page and the commands that made and replaced it
abbrev pub past_code : Coded Past
past_code = code_by (ℕ × (ℕ × ℕ)) (coded× coded_ℕ (coded× coded_ℕ coded_ℕ)) (λ e. (e.number, (e.made, e.until))) (λ p. record { number = p.0; made = p.1.0; until = p.1.1 }) (λ _. refl)

-- replaced images, by their places
abbrev pub past_map_code : Coded PastMap
past_map_code = map.code coded_ℕ past_code

-- held stamps, by their slots
abbrev pub held_map_code : Coded HeldMap
held_map_code = map.code coded_ℕ coded_ℕ

-- the images and the stamps, then the numbers of commands, then the greatest place
abbrev pub images_code : Coded ImagesState
images_code = code_by (HomeMap × (PastMap × (HeldMap × (ℕ × (ℕ × ℕ))))) (coded× (map.code coded_ℕ home_code) (coded× past_map_code (coded× held_map_code (coded× coded_ℕ (coded× coded_ℕ coded_ℕ)))))
    (λ s. (s.homes, (s.past, (s.held, (s.begun, (s.changed, s.top))))))
    (λ p. record { homes = p.0; past = p.1.0; held = p.1.1.0; begun = p.1.1.1.0; changed = p.1.1.1.1.0; top = p.1.1.1.1.1 }) (λ _. refl)

-- the images that a stamp sees, by its number and the numbers of their pages
abbrev pub image_map_code : Coded ImageMap
image_map_code = code_by (ℕ × (PageMap × (PageMap × PlaceMap))) (coded× coded_ℕ (coded× page_map_code (coded× page_map_code (map.code coded_ℕ coded_ℕ))))
    (λ f. (f.at, (f.pages, (f.kept, f.places)))) (λ p. record { at = p.0; pages = p.1.0; kept = p.1.1.0; places = p.1.1.1 }) (λ _. refl)

-- a disk and its newest images, then those of the stamps, then the counts
abbrev pub archive_code : Coded ArchiveState
archive_code = code_by
    (DiskView × (PageMap × (PageMap × (PlaceMap × (map.FinMap nat_cmp ImageMap × (ℕ × (ℕ × (ℕ × NumberSet))))))))
    (coded× disk_code (coded× page_map_code
    (coded× page_map_code (coded× (map.code coded_ℕ coded_ℕ) (coded× (map.code coded_ℕ image_map_code) (coded× coded_ℕ (coded× coded_ℕ (coded× coded_ℕ number_set_code))))))))
    (λ s. (s.disk, (s.pages, (s.kept, (s.places, (s.stamps, (s.begun, (s.changed, (s.seen, s.shared)))))))))
    (λ p. record {
      disk = p.0;
      pages = p.1.0;
      kept = p.1.1.0;
      places = p.1.1.1.0;
      stamps = p.1.1.1.1.0;
      begun = p.1.1.1.1.1.0;
      changed = p.1.1.1.1.1.1.0;
      seen = p.1.1.1.1.1.1.1.0;
      shared = p.1.1.1.1.1.1.1.1;
    })
    (λ _. refl)
