-- The images that are kept for stamps alone are no more than those that the stamps see.
use Rattle.std.proofs.Common.{◌≡◌, ◌≤◌, ◌<◌, ℕ, zero, suc, ◌+◌, Bool, true, false, cond, refl, sym, ap, subst, ◌∙◌, Option, Some, None, is_some, option_map}
use Rattle.std.proofs.Common.{option_and_then, inl, inr, arith, nat_lt, ltb-false, le-ltb}
use Rattle.std.specs.FinMap as map
use Rattle.std.specs.FinSet as set
use Rattle.std.proofs.lemmas.Bool.{false≢true, and_right}
use Rattle.page_pool.specs.declared.home.Home.{Home}
use Rattle.page_pool.specs.declared.past.Past.{Past}
use Rattle.page_pool.specs.Disk.{DigestMap, DiskView}
use Rattle.page_pool.specs.Images.{ImagesState, IsImages, was_newest, is_seen, is_seen_by, is_past_seen, is_home_seen, past_seen, seen_past, seen_homes}
use Rattle.page_pool.specs.Archive.{slot_size, slot_sizes, frozen_sizes}
use Rattle.page_pool.specs.InsideArchive.{seen_of, images_at, stamps_of, archive_of}
use Rattle.page_pool.proofs.Sights.{within_life, seer, Sees, is_found}
use Rattle.page_pool.proofs.Archives.{get-seen_of, get-stamps_of}
use Rattle.page_pool.proofs.Tallies.{tally, over_slots, set_tally, slots_add, slots_more, tally_slots, tally_none, drained, drained_keeps, drain}

-- the page of a replaced image, where there is one
abbrev number_of : Option Past → ℕ
number_of None = 0
number_of (Some e) = e.number

-- the stamp in a slot sees the replaced image
abbrev past_by : Option ℕ → Option Past → Bool
past_by at None = false
past_by at (Some e) = is_seen_by e.made e.until at

-- the stamp in a slot sees the newest image, and is of an earlier command
abbrev home_by : ℕ → Option ℕ → Option Home → Bool
home_by begun at None = false
home_by begun at (Some h) = is_seen_by h.made begun at

module _ (s : ImagesState) (whole : IsImages s) where
  past_shown : (at p : ℕ) → past_by (Some at) (map.get s.past p) ≡ true → (e : Past) × ((map.get s.past p ≡ Some e) × (was_newest e.made e.until at ≡ true))
  past_shown at p is = by_item (map.get s.past p) refl is
    where
      by_item : (o : Option Past) → map.get s.past p ≡ o → past_by (Some at) o ≡ true → (e : Past) × ((map.get s.past p ≡ Some e) × (was_newest e.made e.until at ≡ true))
      by_item None there h = absurd (false≢true h)
      by_item (Some e) there h = (e, (there, h))

  home_shown : (at n : ℕ) → home_by s.begun (Some at) (map.get s.homes n) ≡ true → (h : Home) × ((map.get s.homes n ≡ Some h) × (was_newest h.made s.begun at ≡ true))
  home_shown at n is = by_item (map.get s.homes n) refl is
    where
      by_item : (o : Option Home) → map.get s.homes n ≡ o → home_by s.begun (Some at) o ≡ true → (h : Home) × ((map.get s.homes n ≡ Some h) × (was_newest h.made s.begun at ≡ true))
      by_item None there h = absurd (false≢true h)
      by_item (Some k) there h = (k, (there, h))

  -- a page that a stamp sees is in its map
  seen_there : (at n p : ℕ) → Sees s at n p → map.contains_key (seen_of Some s at) n ≡ true
  seen_there at n p sight = ap is_some (get-seen_of Some s at n ∙ ap (option_and_then Some) (is_found s whole at n p sight))

  -- for one stamp of an earlier command
  one_stamp : (at : ℕ) → tally (λ p. past_by (Some at) (map.get s.past p)) (map.keys s.past) + tally (λ n. home_by s.begun (Some at) (map.get s.homes n)) (map.keys s.homes)
      ≤ map.len (seen_of Some s at)
  one_stamp at =
      let first = drain shown_past page (map.keys s.past) (seen_of Some s at) past_has past_apart in
      let second = drain shown_home (λ n. n) (map.keys s.homes) (drained shown_past page (map.keys s.past) (seen_of Some s at)) home_has (λ n k _ _ is. is) in
      omega arith
    where
      shown_past : ℕ → Bool
      shown_past p = past_by (Some at) (map.get s.past p)

      shown_home : ℕ → Bool
      shown_home n = home_by s.begun (Some at) (map.get s.homes n)

      page : ℕ → ℕ
      page p = number_of (map.get s.past p)

      past_has : (p : ℕ) → shown_past p ≡ true → map.contains_key (seen_of Some s at) (page p) ≡ true
      past_has p is = let e = past_shown at p is in
          ap (λ o. map.contains_key (seen_of Some s at) (number_of o)) e.1.0 ∙ seen_there at e.0.number p (inr (e.0, (e.1.0, (refl, e.1.1))))

      past_apart : (p q : ℕ) → shown_past p ≡ true → shown_past q ≡ true → page p ≡ page q → p ≡ q
      past_apart p q is_p is_q one_page = let e = past_shown at p is_p in let f = past_shown at q is_q in
          whole.alone p q at e.0 f.0 e.1.0 f.1.0 (sym (ap number_of e.1.0) ∙ one_page ∙ ap number_of f.1.0) e.1.1 f.1.1

      home_has : (n : ℕ) → shown_home n ≡ true → map.contains_key (drained shown_past page (map.keys s.past) (seen_of Some s at)) n ≡ true
      home_has n is = let h = home_shown at n is in let inside = within_life h.0.made s.begun at h.1.1 in
          drained_keeps shown_past page (map.keys s.past) (seen_of Some s at) n (seen_there at n h.0.place (inl (h.0, (h.1.0, (inside.0, refl)))))
          (λ p _ passes same. let e = past_shown at p passes in
          let last = whole.behind n p h.0 e.0 h.1.0 e.1.0 (sym (ap number_of e.1.0) ∙ same) in
          let life = within_life e.0.made e.0.until at e.1.1 in absurd (omega arith))

  module _ (disk : DiskView) (kept : DigestMap) where
    -- for one slot
    one_slot : (id : ℕ) → tally (λ p. past_by (map.get s.held id) (map.get s.past p)) (map.keys s.past) + tally (λ n. home_by s.begun (map.get s.held id) (map.get s.homes n)) (map.keys s.homes)
        ≤ slot_size s.begun (map.get (stamps_of disk kept s) id)
    one_slot id = subst (λ o. tally (λ p. past_by (map.get s.held id) (map.get s.past p)) (map.keys s.past) + tally
        (λ n. home_by s.begun (map.get s.held id) (map.get s.homes n)) (map.keys s.homes) ≤ slot_size s.begun o)
        (sym (get-stamps_of disk kept s id)) (by_stamp (map.get s.held id))
      where
        none : (a b : ℕ → Bool) → ((p : ℕ) → a p ≡ false) → ((n : ℕ) → b n ≡ false) → (k : ℕ) → tally a (map.keys s.past) + tally b (map.keys s.homes) ≤ k
        none a b no_past no_home k = let left = tally_none a (map.keys s.past) no_past in let right = tally_none b (map.keys s.homes) no_home in omega arith

        no_past : (o : Option Past) → past_by None o ≡ false
        no_past None = refl
        no_past (Some e) = refl

        no_home : (o : Option Home) → home_by s.begun None o ≡ false
        no_home None = refl
        no_home (Some h) = refl

        late_past : (at p : ℕ) → s.begun ≤ at → past_by (Some at) (map.get s.past p) ≡ false
        late_past at p late = by_item (map.get s.past p) refl
          where
            by_item : (o : Option Past) → map.get s.past p ≡ o → past_by (Some at) (map.get s.past p) ≡ false
            by_item None is = ap (past_by (Some at)) is
            by_item (Some e) is = let old = whole.left p e is in let last = whole.changed in ap (past_by (Some at)) is ∙ after e.made e.until (omega arith)
              where
                after : (made until : ℕ) → until ≤ at → was_newest made until at ≡ false
                after made until over = and_right _ _ (le-ltb at until over)

        late_home : (at n : ℕ) → s.begun ≤ at → home_by s.begun (Some at) (map.get s.homes n) ≡ false
        late_home at n late = by_item (map.get s.homes n)
          where
            by_item : (o : Option Home) → home_by s.begun (Some at) o ≡ false
            by_item None = refl
            by_item (Some h) = and_right _ _ (le-ltb at s.begun late)

        by_stamp : (o : Option ℕ) → tally (λ p. past_by o (map.get s.past p)) (map.keys s.past) + tally (λ n. home_by s.begun o (map.get s.homes n)) (map.keys s.homes)
            ≤ slot_size s.begun (option_map (images_at disk kept s) o)
        by_stamp None = none (λ p. past_by None (map.get s.past p)) (λ n. home_by s.begun None (map.get s.homes n)) (λ p. no_past (map.get s.past p)) (λ n. no_home (map.get s.homes n)) 0
        by_stamp (Some at) = (elim (nat_lt at s.begun) as (λ b. nat_lt at s.begun ≡ b
            → tally (λ p. past_by (Some at) (map.get s.past p)) (map.keys s.past) + tally (λ n. home_by s.begun (Some at) (map.get s.homes n)) (map.keys s.homes)
            ≤ cond b (map.len (seen_of Some s at)) 0) [
              | true ↦ λ early. one_stamp at
              | false ↦ λ late. none (λ p. past_by (Some at) (map.get s.past p)) (λ n. home_by s.begun (Some at) (map.get s.homes n))
                  (λ p. late_past at p (ltb-false at s.begun late)) (λ n. late_home at n (ltb-false at s.begun late)) 0
            ]) refl

    sizes_are : (k : ℕ) → slot_sizes (archive_of disk kept s) k ≡ over_slots (λ id. slot_size s.begun (map.get (stamps_of disk kept s) id)) k
    sizes_are zero = refl
    sizes_are (suc k) = ap (λ n. n + slot_size s.begun (map.get (stamps_of disk kept s) k)) (sizes_are k)

    few_slots : (k : ℕ) → ((id at : ℕ) → map.get s.held id ≡ Some at → id < k) → set.len (seen_past s) + set.len (seen_homes s) ≤ slot_sizes (archive_of disk kept s) k
    unfolding past_seen seen_homes
    few_slots k slots =
        let pasts = set_tally (λ p. is_past_seen s.held (map.get s.past p)) (map.keys s.past) in
        let homes = set_tally (λ n. is_home_seen s.held s.begun (map.get s.homes n)) (map.keys s.homes) in
        let past_slots = tally_slots k (λ p. is_past_seen s.held (map.get s.past p)) (λ id p. past_by (map.get s.held id) (map.get s.past p)) (map.keys s.past) (λ p. by_past (map.get s.past p)) in
        let home_slots = tally_slots k (λ n. is_home_seen s.held s.begun (map.get s.homes n)) (λ id n. home_by s.begun (map.get s.held id) (map.get s.homes n))
        (map.keys s.homes) (λ n. by_home (map.get s.homes n)) in
        let sum = slots_add (λ id. tally (λ p. past_by (map.get s.held id) (map.get s.past p)) (map.keys s.past))
        (λ id. tally (λ n. home_by s.begun (map.get s.held id) (map.get s.homes n)) (map.keys s.homes)) k in
        let more = slots_more (λ id. tally (λ p. past_by (map.get s.held id) (map.get s.past p)) (map.keys s.past) + tally
        (λ n. home_by s.begun (map.get s.held id) (map.get s.homes n)) (map.keys s.homes)) (λ id. slot_size s.begun (map.get (stamps_of disk kept s) id)) k one_slot in
        let sizes = sizes_are k in
        omega arith
      where
        found : (made until : ℕ) → is_seen s.held made until ≡ true → (id : ℕ) × ((id < k) × (is_seen_by made until (map.get s.held id) ≡ true))
        found made until sees = let by = seer s.held made until sees in (by.0, (slots by.0 by.1.0 by.1.1.0, ap (is_seen_by made until) by.1.1.0 ∙ by.1.1.1))

        by_past : (o : Option Past) → is_past_seen s.held o ≡ true → (id : ℕ) × ((id < k) × (past_by (map.get s.held id) o ≡ true))
        by_past None h = absurd (false≢true h)
        by_past (Some e) h = found e.made e.until h

        by_home : (o : Option Home) → is_home_seen s.held s.begun o ≡ true → (id : ℕ) × ((id < k) × (home_by s.begun (map.get s.held id) o ≡ true))
        by_home None h = absurd (false≢true h)
        by_home (Some x) h = found x.made s.begun h

    pub few_kept : set.len (seen_past s) + set.len (seen_homes s) ≤ frozen_sizes (archive_of disk kept s)
    unfolding frozen_sizes
    few_kept = few_slots 16 (λ id at is. (whole.held id at is).0)
