-- What contracts see of an archive: the images by the numbers of their pages, from those at their places.
use Rattle.std.proofs.Common.{◌≡◌, ◌≤◌, ◌<◌, ℕ, List, map as each, true, false, cond, refl, sym, ap, ◌∙◌, Option, Some, None, is_some, IsTrue, option_map, option_and_then, inl, inr, arith, le-leb}
use Rattle.std.specs.FinMap as map
use Rattle.std.specs.FinSet as set
use Rattle.std.proofs.lemmas.Bool.{true≢false, false≢true, cases_eq}
use Rattle.std.proofs.lemmas.Option.{same_Some, none-some}
use Rattle.sha2.specs.Sha256.{sha256}
use Rattle.page_pool.specs.declared.home.Home.{Home}
use Rattle.page_pool.specs.Disk.{DigestMap, DiskView}
use Rattle.page_pool.specs.Images.{ImagesState, IsImages, newest_place, seen_place, past_place, home_or, is_home_seen, seen_homes}
use Rattle.page_pool.specs.Archive.{ImageMap, IsImageMap, AreAlike, newest_images, StandsWritten}
use Rattle.page_pool.specs.InsideArchive.{imaged, newest_of, seen_of, stored_at, images_at, stamps_of, archive_of, IsArchived}
use Rattle.page_pool.proofs.Maps.{same}
use Rattle.page_pool.proofs.Choices.{is_in, key_in, in_first, in_second, item_in, get-collected, same_size}
use Rattle.page_pool.proofs.Sights.{Sees, sees, within_life, shown_is, past_found}
use Rattle.page_pool.proofs.TurnCounts.{contains-seen_homes}

-- what lies at the place of a page's newest image
pub get-newest_of : {X : Type 0} (f : ℕ → Option X) (s : ImagesState) (n : ℕ) → map.get (newest_of f s) n ≡ option_and_then f (newest_place s n)
unfolding newest_of
get-newest_of {X = X} f s n = get-collected (λ n. option_and_then f (newest_place s n)) (imaged s) n (by_home (map.get s.homes n) refl)
  where
    by_home : (o : Option Home) → map.get s.homes n ≡ o → is_in n (imaged s) ≡ false → option_and_then f (newest_place s n) ≡ None
    by_home None is out = ap (λ h. option_and_then f (option_map (λ h. h.place) h)) is
    by_home (Some h) is out = absurd (true≢false (sym (in_first n (map.keys s.homes) (each (λ past. past.number) (map.values s.past)) (key_in s.homes n h is)) ∙ out))

-- what lies at the place where a stamp sees the page
pub get-seen_of : {X : Type 0} (f : ℕ → Option X) (s : ImagesState) (at n : ℕ) → map.get (seen_of f s at) n ≡ option_and_then f (seen_place at s n)
unfolding seen_of
get-seen_of {X = X} f s at n = get-collected (λ n. option_and_then f (seen_place at s n)) (imaged s) n (by_place (seen_place at s n) refl)
  where
    there : (p : ℕ) → Sees s at n p → is_in n (imaged s) ≡ true
    there p (inl (h, (is, _))) = in_first n (map.keys s.homes) (each (λ past. past.number) (map.values s.past)) (key_in s.homes n h is)
    there p (inr (e, (is, (of_page, _)))) = in_second n (map.keys s.homes) (each (λ past. past.number) (map.values s.past))
        (ap (λ k. is_in k (each (λ past. past.number) (map.values s.past))) (sym of_page) ∙ item_in (λ past. past.number) s.past p e is)

    by_place : (o : Option ℕ) → seen_place at s n ≡ o → is_in n (imaged s) ≡ false → option_and_then f (seen_place at s n) ≡ None
    by_place None is out = ap (option_and_then f) is
    by_place (Some p) is out = absurd (true≢false (sym (there p (sees s at n p is)) ∙ out))

-- what a held stamp sees
pub get-stamps_of : (disk : DiskView) (kept : DigestMap) (s : ImagesState) (slot : ℕ) → map.get (stamps_of disk kept s) slot ≡ option_map (images_at disk kept s) (map.get s.held slot)
unfolding stamps_of
get-stamps_of disk kept s slot = get-collected (λ slot. option_map (images_at disk kept s) (map.get s.held slot)) (map.keys s.held) slot (by_stamp (map.get s.held slot) refl)
  where
    by_stamp : (o : Option ℕ) → map.get s.held slot ≡ o → is_in slot (map.keys s.held) ≡ false → option_map (images_at disk kept s) (map.get s.held slot) ≡ None
    by_stamp None is out = ap (option_map (images_at disk kept s)) is
    by_stamp (Some at) is out = absurd (true≢false (sym (key_in s.held slot at is) ∙ out))

-- a stamp in its slot sees these images
pub stamp_is : (disk : DiskView) (kept : DigestMap) (s : ImagesState) (slot : ℕ) (f : ImageMap) → map.get (stamps_of disk kept s) slot ≡ Some f
    → (at : ℕ) × ((map.get s.held slot ≡ Some at) × (images_at disk kept s at ≡ f))
stamp_is disk kept s slot f is = by_stamp (map.get s.held slot) refl (sym (get-stamps_of disk kept s slot) ∙ is)
  where
    by_stamp : (o : Option ℕ) → map.get s.held slot ≡ o → option_map (images_at disk kept s) o ≡ Some f → (at : ℕ) × ((map.get s.held slot ≡ Some at) × (images_at disk kept s at ≡ f))
    by_stamp None there h = absurd (none-some f h)
    by_stamp (Some at) there h = (at, (there, same_Some (images_at disk kept s at) f h))

-- since the last change a stamp sees the newest images
pub now_newest : (s : ImagesState) → IsImages s → (at n : ℕ) → s.changed ≤ at → seen_place at s n ≡ newest_place s n
now_newest s whole at n late = by_home (map.get s.homes n) refl
  where
    -- no replaced image is seen
    no_past : past_place at s.past n ≡ None
    no_past = by_place (past_place at s.past n) refl
      where
        by_place : (o : Option ℕ) → past_place at s.past n ≡ o → past_place at s.past n ≡ None
        by_place None is = is
        by_place (Some p) is =
            let e = shown_is n at (map.get s.past p) (past_found at s.past n p is) in
            let old = whole.left p e.0 e.1.0 in
            let inside = within_life e.0.made e.0.until at e.1.1.1 in absurd (omega arith)

    by_home : (o : Option Home) → map.get s.homes n ≡ o → seen_place at s n ≡ newest_place s n
    by_home None is = ap (λ o. home_or at o (past_place at s.past n)) is ∙ no_past ∙ sym (ap (option_map (λ h. h.place)) is)
    by_home (Some h) is =
        let made = whole.made n h is in
        let low : h.made ≤ at = omega arith in
        ap (λ o. home_or at o (past_place at s.past n)) is ∙ ap (λ b. cond b (Some h.place) (past_place at s.past n)) (le-leb h.made at low) ∙ sym (ap (option_map (λ h. h.place)) is)

pub newest_seen : {X : Type 0} (f : ℕ → Option X) (s : ImagesState) → IsImages s → (at : ℕ) → s.changed ≤ at → seen_of f s at ≡ newest_of f s
newest_seen f s whole at late = same (seen_of f s at) (newest_of f s) (λ n. get-seen_of f s at n ∙ ap (option_and_then f) (now_newest s whole at n late) ∙ sym (get-newest_of f s n))

-- the images that a stamp sees since which nothing changed
pub unchanged_images : (disk : DiskView) (kept : DigestMap) (s : ImagesState) → IsImages s → (at : ℕ) → s.changed ≤ at
    → images_at disk kept s at ≡ record (newest_images (archive_of disk kept s)) { at = at }
unchanged_images disk kept s whole at late = λ i. record {
  at = at;
  pages = newest_seen (stored_at disk kept) s whole at late i;
  kept = newest_seen (map.get kept) s whole at late i;
  places = newest_seen Some s whole at late i;
}

-- what is at a place with a digest
pub stored_told : (disk : DiskView) (kept : DigestMap) (p : ℕ) → IsTrue disk.told → IsTrue (map.contains_key kept p) → stored_at disk kept p ≡ map.get disk.pages p
stored_told disk kept p told has = ap (λ b. cond b (cond (map.contains_key kept p) (map.get disk.pages p) None) (map.get kept p)) told ∙ ap (λ b. cond b (map.get disk.pages p) None) has

stored_untold : (disk : DiskView) (kept : DigestMap) (p : ℕ) → disk.told ≡ false → stored_at disk kept p ≡ map.get kept p
stored_untold disk kept p untold = ap (λ b. cond b (cond (map.contains_key kept p) (map.get disk.pages p) None) (map.get kept p)) untold

-- the place in an answer by places
place_in : (o : Option ℕ) (p : ℕ) → option_and_then Some o ≡ Some p → o ≡ Some p
place_in None p is = absurd (none-some p is)
place_in (Some q) p is = is

module _ (disk : DiskView) (kept : DigestMap) (s : ImagesState) (whole : IsImages s) where
  -- images at these places, each with a digest and none at a place of another page's newest image
  images_map : (f : ImageMap) (place : ℕ → Option ℕ)
      → ((n : ℕ) → map.get f.pages n ≡ option_and_then (stored_at disk kept) (place n)) → ((n : ℕ) → map.get f.kept n ≡ option_and_then (map.get kept) (place n))
      → ((n : ℕ) → map.get f.places n ≡ option_and_then Some (place n))
      → ((n p : ℕ) → place n ≡ Some p → IsTrue (map.contains_key kept p)) → ((n q p : ℕ) → place n ≡ Some p → newest_place s q ≡ Some p → n ≡ q) → IsImageMap (archive_of disk kept s) f
  images_map f place pages digests places digested apart = record {
    keys = λ n. ap is_some (digests n) ∙ by_place n (place n) refl ∙ sym (ap is_some (places n));
    untold = λ untold. same f.pages f.kept (λ n. pages n ∙ each_untold untold (place n) ∙ sym (digests n));
    stored = λ told n p is. let here = place_in (place n) p (sym (places n) ∙ is) in
        pages n ∙ ap (option_and_then (stored_at disk kept)) here ∙ stored_told disk kept p told (digested n p here);
    paged = λ n has. ap is_some (digests n) ∙ by_page n (place n) refl (sym (ap is_some (pages n)) ∙ has);
    apart = λ n q p is newest. apart n q p (place_in (place n) p (sym (places n) ∙ is)) (place_in (newest_place s q) p (sym (get-newest_of Some s q) ∙ newest));
  }
    where
      by_place : (n : ℕ) (o : Option ℕ) → place n ≡ o → is_some (option_and_then (map.get kept) (place n)) ≡ is_some (option_and_then Some (place n))
      by_place n None is = ap (λ o. is_some (option_and_then (map.get kept) o)) is ∙ sym (ap (λ o. is_some (option_and_then Some o)) is)
      by_place n (Some p) is = ap (λ o. is_some (option_and_then (map.get kept) o)) is ∙ digested n p is ∙ sym (ap (λ o. is_some (option_and_then Some o)) is)

      each_untold : disk.told ≡ false → (o : Option ℕ) → option_and_then (stored_at disk kept) o ≡ option_and_then (map.get kept) o
      each_untold untold None = refl
      each_untold untold (Some p) = stored_untold disk kept p untold

      by_page : (n : ℕ) (o : Option ℕ) → place n ≡ o → is_some (option_and_then (stored_at disk kept) (place n)) ≡ true → is_some (option_and_then (map.get kept) (place n)) ≡ true
      by_page n None is has = absurd (false≢true (sym (ap (λ o. is_some (option_and_then (stored_at disk kept) o)) is) ∙ has))
      by_page n (Some p) is has = ap (λ o. is_some (option_and_then (map.get kept) o)) is ∙ digested n p is

  -- two places at which a page's newest image lies
  newest_apart : (n q p : ℕ) → newest_place s n ≡ Some p → newest_place s q ≡ Some p → n ≡ q
  newest_apart n q p is_n is_q = by_homes (map.get s.homes n) refl (map.get s.homes q) refl is_n is_q
    where
      by_homes : (a : Option Home) → map.get s.homes n ≡ a → (b : Option Home) → map.get s.homes q ≡ b → option_map (λ h. h.place) a ≡ Some p → option_map (λ h. h.place) b ≡ Some p → n ≡ q
      by_homes None a b is_b ha hb = absurd (none-some p ha)
      by_homes (Some h) a None b ha hb = absurd (none-some p hb)
      by_homes (Some h) a (Some k) b ha hb = whole.one n q h k a b (same_Some h.place p ha ∙ sym (same_Some k.place p hb))

  -- what lies at a place is of one page
  seen_apart : (at other n q p : ℕ) → Sees s at n p → Sees s other q p → n ≡ q
  seen_apart at other n q p (inl (h, (home, (_, here)))) (inl (k, (home', (_, here')))) = whole.one n q h k home home' (here ∙ sym here')
  seen_apart at other n q p (inl (h, (home, (_, here)))) (inr (e, (there, _))) = absurd (none-some e (sym (whole.apart n h home) ∙ ap (map.get s.past) here ∙ there))
  seen_apart at other n q p (inr (e, (there, _))) (inl (h, (home, (_, here)))) = absurd (none-some e (sym (whole.apart q h home) ∙ ap (map.get s.past) here ∙ there))
  seen_apart at other n q p (inr (e, (there, (of_page, _)))) (inr (f, (there', (of_page', _)))) = sym of_page ∙ ap (λ x. x.number) (same_Some e f (sym there ∙ there')) ∙ of_page'

  seen_home_apart : (at n q p : ℕ) → Sees s at n p → newest_place s q ≡ Some p → n ≡ q
  seen_home_apart at n q p sight is = by_home (map.get s.homes q) refl is
    where
      by_home : (o : Option Home) → map.get s.homes q ≡ o → option_map (λ h. h.place) o ≡ Some p → n ≡ q
      by_home None there h = absurd (none-some p h)
      by_home (Some k) there h = seen_apart at k.made n q p sight (inl (k, (there, (omega arith, same_Some k.place p h))))

  module _ (good : IsArchived disk kept s) where
    -- each image that a held stamp sees has a digest
    pub seen_digested : (slot at n p : ℕ) → map.get s.held slot ≡ Some at → seen_place at s n ≡ Some p → IsTrue (map.contains_key kept p)
    seen_digested slot at n p held is = let few = whole.held slot at held in elim (cases_eq at s.begun) [
      | inl now ↦ let last = whole.changed in good.digested n p (sym (now_newest s whole at n (omega arith)) ∙ is)
      | inr before ↦ ap is_some (good.stands slot at n p held (lt_from_le at s.begun few.1 before) is).1.0
    ]
      where
        lt_from_le : (a b : ℕ) → a ≤ b → (a ≡ b → ⊥) → a < b
        lt_from_le a b low other = omega arith

    pub newest_map : IsImageMap (archive_of disk kept s) (newest_images (archive_of disk kept s))
    newest_map = images_map (newest_images (archive_of disk kept s)) (newest_place s) (get-newest_of (stored_at disk kept) s) (get-newest_of (map.get kept) s)
        (get-newest_of Some s) good.digested newest_apart

    pub seen_map : (slot at : ℕ) → map.get s.held slot ≡ Some at → IsImageMap (archive_of disk kept s) (images_at disk kept s at)
    seen_map slot at held = images_map (images_at disk kept s at) (seen_place at s) (get-seen_of (stored_at disk kept) s at) (get-seen_of (map.get kept) s at) (get-seen_of Some s at)
        (λ n p is. seen_digested slot at n p held is) (λ n q p is newest. seen_home_apart at n q p (sees s at n p is) newest)

    -- what a stamp of an earlier command sees stands
    pub seen_stands : (slot at : ℕ) → map.get s.held slot ≡ Some at → at < s.begun → (n : ℕ) → StandsWritten disk.told (seen_of (stored_at disk kept) s at) (seen_of (map.get kept) s at) n
    seen_stands slot at held early n = λ digest is told. by_place (seen_place at s n) refl digest (sym (get-seen_of (map.get kept) s at n) ∙ is) told
      where
        by_place : (o : Option ℕ) → seen_place at s n ≡ o → (digest : List ℕ) → option_and_then (map.get kept) (seen_place at s n) ≡ Some digest → IsTrue disk.told
            → (page : List ℕ) × ((map.get (seen_of (stored_at disk kept) s at) n ≡ Some page) × (digest ≡ sha256 page))
        by_place None here digest is told = absurd (none-some digest (sym (ap (option_and_then (map.get kept)) here) ∙ is))
        by_place (Some p) here digest is told =
            let stands = good.stands slot at n p held early here in
            let page = stands.1.1 told in
            let one : digest ≡ stands.0 = same_Some digest stands.0 (sym is ∙ ap (option_and_then (map.get kept)) here ∙ stands.1.0) in
            (page.0, (get-seen_of (stored_at disk kept) s at n ∙ ap (option_and_then (stored_at disk kept)) here ∙ stored_told disk kept p told (ap is_some stands.1.0) ∙ page.1.0, one ∙ page.1.1))

  -- what lies at one place is one image
  pub seen_alike : (at other : ℕ) → AreAlike (images_at disk kept s at) (images_at disk kept s other)
  seen_alike at other = λ n q p is_n is_q.
      let here = place_in (seen_place at s n) p (sym (get-seen_of Some s at n) ∙ is_n) in
      let there = place_in (seen_place other s q) p (sym (get-seen_of Some s other q) ∙ is_q) in
      (seen_apart at other n q p (sees s at n p here) (sees s other q p there), (both (map.get kept) n q p here there, both (stored_at disk kept) n q p here there))
    where
      both : {X : Type 0} (f : ℕ → Option X) (n q p : ℕ) → seen_place at s n ≡ Some p → seen_place other s q ≡ Some p → map.get (seen_of f s at) n ≡ map.get (seen_of f s other) q
      both f n q p here there = get-seen_of f s at n ∙ ap (option_and_then f) (here ∙ sym there) ∙ sym (get-seen_of f s other q)

-- a page whose newest image is seen has one
pub shared_there : (s : ImagesState) (n : ℕ) → IsTrue (set.contains (seen_homes s) n) → IsTrue (map.contains_key (newest_of Some s) n)
shared_there s n shared = ap is_some (get-newest_of Some s n) ∙ by_home (map.get s.homes n) refl (sym (contains-seen_homes s n) ∙ shared)
  where
    by_home : (o : Option Home) → map.get s.homes n ≡ o → is_home_seen s.held s.begun o ≡ true → is_some (option_and_then Some (newest_place s n)) ≡ true
    by_home None is h = absurd (false≢true h)
    by_home (Some k) is h = ap (λ o. is_some (option_and_then Some (option_map (λ h. h.place) o))) is

-- an answer by places is itself
itself : {X : Type 0} (o : Option X) → option_and_then Some o ≡ o
itself None = refl
itself (Some x) = refl

-- the place of a page, as contracts see it
pub place_is : (s : ImagesState) (n : ℕ) → newest_place s n ≡ map.get (newest_of Some s) n
place_is s n = sym (get-newest_of Some s n ∙ itself (newest_place s n))

pub seen_place_is : (disk : DiskView) (kept : DigestMap) (s : ImagesState) (slot n at : ℕ) → map.get s.held slot ≡ Some at
    → seen_place at s n ≡ option_and_then (λ f. map.get f.places n) (map.get (stamps_of disk kept s) slot)
seen_place_is disk kept s slot n at held =
    sym (ap (option_and_then (λ f. map.get f.places n)) (get-stamps_of disk kept s slot ∙ ap (option_map (images_at disk kept s)) held) ∙ get-seen_of Some s at n ∙ itself (seen_place at s n))

pub no_stamp : (disk : DiskView) (kept : DigestMap) (s : ImagesState) (slot : ℕ) → map.get s.held slot ≡ None → map.get (stamps_of disk kept s) slot ≡ None
no_stamp disk kept s slot none = get-stamps_of disk kept s slot ∙ ap (option_map (images_at disk kept s)) none

-- the newest images are as many as the pages that have one
pub as_many_homes : (s : ImagesState) → map.len s.homes ≡ map.len (newest_of Some s)
as_many_homes s = same_size s.homes (newest_of Some s) (λ n. by_home n (map.get s.homes n) refl ∙ sym (ap is_some (get-newest_of Some s n)))
  where
    by_home : (n : ℕ) (o : Option Home) → map.get s.homes n ≡ o → is_some (map.get s.homes n) ≡ is_some (option_and_then Some (newest_place s n))
    by_home n None is = ap is_some is ∙ sym (ap (λ o. is_some (option_and_then Some (option_map (λ h. h.place) o))) is)
    by_home n (Some h) is = ap is_some is ∙ sym (ap (λ o. is_some (option_and_then Some (option_map (λ h. h.place) o))) is)
