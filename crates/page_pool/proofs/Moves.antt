-- The calls of the images as changes of one page, and where a page may be written.
use Rattle.std.proofs.Common.{◌≡◌, ◌≢◌, ◌≤◌, ◌<◌, ℕ, false, refl, sym, ap, subst, ◌∙◌, Option, Some, None, is_some, IfSome, IsSomeAnd, Result, Ok, Err, IfOk, OnErr}
use Rattle.std.proofs.Common.{option_map, ◌⊎◌, inl, inr, max, arith}
use Rattle.std.specs.Ordering.{nat_cmp}
use Rattle.std.specs.FinMap as map
use Rattle.std.proofs.lemmas.Bool.{true≢false, cases_eq}
use Rattle.std.proofs.lemmas.Option.{same_Some, none-some}
use Rattle.page_pool.specs.declared.home.Home.{Home}
use Rattle.page_pool.specs.declared.past.Past.{Past}
use Rattle.page_pool.specs.Images.{HomeMap, PastMap, HeldMap, ImagesState, images_of, IsImages, IsFreePlace, IsUnseen, SettlesImage, LeavesImage, was_newest, is_seen, newest_place}
use Rattle.page_pool.proofs.Maps.{same, undone, get-insert_same, get-insert_other, get-remove_same, get-remove_other, found-remove, found-insert}
use Rattle.page_pool.proofs.Sights.{Sees, sees, seen_by, in_life}
use Rattle.page_pool.proofs.Turns.{Turns, replaced, settled, turned_images}
use Rattle.page_pool.proofs.TurnCounts.{changes_image}

-- where a page's newest image lies, its place
newest_is : (s : ImagesState) (n p : ℕ) → newest_place s n ≡ Some p → (h : Home) × ((map.get s.homes n ≡ Some h) × (h.place ≡ p))
newest_is s n p is = by_home (map.get s.homes n) refl is
  where
    by_home : (o : Option Home) → map.get s.homes n ≡ o → option_map (λ h. h.place) o ≡ Some p → (h : Home) × ((map.get s.homes n ≡ Some h) × (h.place ≡ p))
    by_home None there found = absurd (none-some p found)
    by_home (Some h) there found = (h, (there, same_Some h.place p found))

-- a page may be written over its own image, where no stamp sees it
pub own_free : (s : ImagesState) → IsImages s → (n : ℕ) (h : Home) → map.get s.homes n ≡ Some h → is_seen s.held h.made s.begun ≡ false → IsFreePlace s n h.place
own_free s whole n h home none = record {
  others = λ q other is. let k = newest_is s q h.place is in other (whole.one q n k.0 h k.1.0 home k.1.1);
  stamps = λ id at q held early is. unseen id at q held early (sees s at q h.place is);
  past = λ e there. absurd (none-some e (sym (whole.apart n h home) ∙ there));
}
  where
    unseen : (id at q : ℕ) → map.get s.held id ≡ Some at → at < s.begun → Sees s at q h.place → ⊥
    unseen id at q held early (inl (k, (other, (low, here)))) =
        let q_is : q ≡ n = whole.one q n k h other home here in
        let one : k ≡ h = same_Some k h (sym (ap (map.get s.homes) (sym q_is) ∙ other) ∙ home) in
        let made : k.made ≡ h.made = ap (λ x. x.made) one in
        true≢false (sym (seen_by s.held h.made s.begun id at held (in_life h.made s.begun at (omega arith) early)) ∙ none)
    unseen id at q held early (inr (e, (there, _))) = none-some e (sym (whole.apart n h home) ∙ there)

-- it may be written over a replaced image that no stamp sees
pub spare_free : (s : ImagesState) → IsImages s → (n p : ℕ) (e : Past) → map.get s.past p ≡ Some e → IsUnseen s.held e.made e.until → IsFreePlace s n p
spare_free s whole n p e there none = record {
  others = λ q _ is. no_home q (newest_is s q p is);
  stamps = λ id at q held early is. unseen id at q held (sees s at q p is);
  past = λ f is. subst (λ x. IsUnseen s.held x.made x.until) (same_Some e f (sym there ∙ is)) none;
}
  where
    no_home : (q : ℕ) → (h : Home) × ((map.get s.homes q ≡ Some h) × (h.place ≡ p)) → ⊥
    no_home q (h, (home, here)) = none-some e (sym (whole.apart q h home) ∙ ap (map.get s.past) here ∙ there)

    unseen : (id at q : ℕ) → map.get s.held id ≡ Some at → Sees s at q p → ⊥
    unseen id at q held (inl (h, (home, (low, here)))) = no_home q (h, (home, here))
    unseen id at q held (inr (f, (is, (of_page, life)))) =
        let one : e ≡ f = same_Some e f (sym there ∙ is) in
        true≢false (sym life ∙ ap (λ x. was_newest x.made x.until at) (sym one) ∙ none id at held)

pub spare_place : (s : ImagesState) → IsImages s → (n p : ℕ) → IsSomeAnd (map.get s.past p) (λ e. IsUnseen s.held e.made e.until) → IsFreePlace s n p
spare_place s whole n p unseen = by_item (map.get s.past p) refl unseen
  where
    by_item : (o : Option Past) → map.get s.past p ≡ o → IsSomeAnd o (λ e. IsUnseen s.held e.made e.until) → IsFreePlace s n p
    by_item None is h = absurd h
    by_item (Some e) is h = spare_free s whole n p e is h

-- or above all
pub fresh_free : (s : ImagesState) → IsImages s → (n p : ℕ) → s.top < p → IsFreePlace s n p
fresh_free s whole n p above = record {
  others = λ q _ is. no_home q (newest_is s q p is);
  stamps = λ id at q held early is. unseen at q (sees s at q p is);
  past = λ e there. let low = whole.left p e there in absurd (omega arith);
}
  where
    no_home : (q : ℕ) → (h : Home) × ((map.get s.homes q ≡ Some h) × (h.place ≡ p)) → ⊥
    no_home q (h, (home, here)) = let low = whole.made q h home in omega arith

    unseen : (at q : ℕ) → Sees s at q p → ⊥
    unseen at q (inl (h, (home, (low, here)))) = no_home q (h, (home, here))
    unseen at q (inr (e, (there, _))) = let low = whole.left p e there in omega arith

module _ (s : ImagesState) (whole : IsImages s) (n place top : ℕ) (free : IsFreePlace s n place) (higher : s.top ≤ top) (place_low : place ≤ top) where
  -- what the spot is
  at_spot : (p : ℕ) → Some place ≡ Some p → place ≡ p
  at_spot p is = same_Some place p is

  free_spot : (p : ℕ) → Some place ≡ Some p → IsFreePlace s n p
  free_spot p is = subst (IsFreePlace s n) (at_spot p is) free

  low_spot : (p : ℕ) → Some place ≡ Some p → p ≤ top
  low_spot p is = let one = at_spot p is in omega arith

  -- page n without an image, or with one at the spot, is written there
  abbrev pub put : ImagesState
  put = images_of (map.insert s.homes n (settled s.begun place)) (map.remove s.past place) s.held s.begun s.begun top

  pub put_turns : IfSome (map.get s.homes n) (λ h. h.place ≡ place) → Turns s put n (Some place)
  put_turns own = record {
    held = refl;
    begun = refl;
    changed = refl;
    top = higher;
    home = get-insert_same s.homes n (settled s.begun place);
    others = λ q other. get-insert_other s.homes n (settled s.begun place) q other;
    stays = λ p e there away. get-remove_other s.past place p (λ is. away (ap (λ x. Some x) (sym is))) ∙ there;
    joins = λ h home away. absurd (away (ap (λ x. Some x) (sym (subst (λ o. IfSome o (λ h. h.place ≡ place)) home own))));
    comes = λ p e now. (λ is. absurd (none-some e (sym (get-remove_same s.past place) ∙ ap (map.get (map.remove s.past place)) (at_spot p is) ∙ now)), inl (found-remove s.past place p e now));
    low = low_spot;
    free = free_spot;
  }

  -- the replaced images, and that of page n with them
  abbrev joined : Home → PastMap
  joined h = map.insert s.past h.place (replaced n h s.begun)

  -- page n with an image elsewhere is written at the spot
  abbrev pub move : Home → ImagesState
  move h = images_of (map.insert s.homes n (settled s.begun place)) (map.remove (joined h) place) s.held s.begun s.begun top

  pub move_turns : (h : Home) → map.get s.homes n ≡ Some h → h.place ≢ place → Turns s (move h) n (Some place)
  move_turns h home elsewhere = record {
    held = refl;
    begun = refl;
    changed = refl;
    top = higher;
    home = get-insert_same s.homes n (settled s.begun place);
    others = λ q other. get-insert_other s.homes n (settled s.begun place) q other;
    stays = λ p e there away. get-remove_other (joined h) place p (λ is. away (ap (λ x. Some x) (sym is)))
        ∙ get-insert_other s.past h.place (replaced n h s.begun) p (λ is. none-some e (sym (whole.apart n h home) ∙ ap (map.get s.past) (sym is) ∙ there)) ∙ there;
    joins = λ k at_n away. let one : h ≡ k = same_Some h k (sym home ∙ at_n) in
        ap (λ x. map.get (map.remove (joined h) place) x.place) (sym one) ∙ get-remove_other (joined h) place h.place elsewhere
        ∙ get-insert_same s.past h.place (replaced n h s.begun) ∙ ap (λ x. Some (replaced n x s.begun)) one;
    comes = λ p e now. (
      λ is. absurd (none-some e (sym (get-remove_same (joined h) place) ∙ ap (map.get (map.remove (joined h) place)) (at_spot p is) ∙ now)),
      by_insert p e (found-insert s.past h.place (replaced n h s.begun) p e (found-remove (joined h) place p e now)),
    );
    low = low_spot;
    free = free_spot;
  }
    where
      by_insert : (p : ℕ) (e : Past) → ((p ≡ h.place) × (e ≡ replaced n h s.begun)) ⊎ (map.get s.past p ≡ Some e)
          → (map.get s.past p ≡ Some e) ⊎ ((h : Home) × ((map.get s.homes n ≡ Some h) × ((h.place ≡ p) × (replaced n h s.begun ≡ e))))
      by_insert p e (inl (here, is)) = inr (h, (home, (sym here, sym is)))
      by_insert p e (inr before) = inl before

  -- so it is settled
  pub put_settles : IfSome (map.get s.homes n) (λ h. h.place ≡ place) → SettlesImage s put n place
  put_settles own = record { homes = refl; change = changes_image s put n (Some place) whole (put_turns own) }

  pub move_settles : (h : Home) → map.get s.homes n ≡ Some h → h.place ≢ place → SettlesImage s (move h) n place
  move_settles h home elsewhere = record { homes = refl; change = changes_image s (move h) n (Some place) whole (move_turns h home elsewhere) }

  pub put_images : IfSome (map.get s.homes n) (λ h. h.place ≡ place) → IsImages put
  put_images own = turned_images s put n (Some place) whole (put_turns own)

  pub move_images : (h : Home) → map.get s.homes n ≡ Some h → h.place ≢ place → IsImages (move h)
  move_images h home elsewhere = turned_images s (move h) n (Some place) whole (move_turns h home elsewhere)

module _ (s : ImagesState) (whole : IsImages s) (n : ℕ) where
  abbrev pub left_with : Home → ImagesState
  left_with h = images_of (map.remove s.homes n) (map.insert s.past h.place (replaced n h s.begun)) s.held s.begun s.begun s.top

  -- page n with an image is left
  pub leave_turns : (h : Home) → map.get s.homes n ≡ Some h → Turns s (left_with h) n None
  leave_turns h home = record {
    held = refl;
    begun = refl;
    changed = refl;
    top = omega arith;
    home = get-remove_same s.homes n;
    others = λ q other. get-remove_other s.homes n q other;
    stays = λ p e there _. get-insert_other s.past h.place (replaced n h s.begun) p (λ is. none-some e (sym (whole.apart n h home) ∙ ap (map.get s.past) (sym is) ∙ there)) ∙ there;
    joins = λ k at_n _. let one : h ≡ k = same_Some h k (sym home ∙ at_n) in
        ap (λ x. map.get (map.insert s.past h.place (replaced n h s.begun)) x.place) (sym one) ∙ get-insert_same s.past h.place (replaced n h s.begun) ∙ ap (λ x. Some (replaced n x s.begun)) one;
    comes = λ p e now. (λ is. none-some p is, by_insert p e (found-insert s.past h.place (replaced n h s.begun) p e now));
    low = λ p is. absurd (none-some p is);
    free = λ p is. absurd (none-some p is);
  }
    where
      by_insert : (p : ℕ) (e : Past) → ((p ≡ h.place) × (e ≡ replaced n h s.begun)) ⊎ (map.get s.past p ≡ Some e)
          → (map.get s.past p ≡ Some e) ⊎ ((h : Home) × ((map.get s.homes n ≡ Some h) × ((h.place ≡ p) × (replaced n h s.begun ≡ e))))
      by_insert p e (inl (here, is)) = inr (h, (home, (sym here, sym is)))
      by_insert p e (inr before) = inl before

  abbrev pub left_without : ImagesState
  left_without = images_of s.homes s.past s.held s.begun s.begun s.top

  -- page n without one is left
  pub none_turns : map.get s.homes n ≡ None → Turns s left_without n None
  none_turns none = record {
    held = refl;
    begun = refl;
    changed = refl;
    top = omega arith;
    home = none;
    others = λ q other. refl;
    stays = λ p e there _. there;
    joins = λ h home _. absurd (none-some h (sym none ∙ home));
    comes = λ p e now. (λ is. none-some p is, inl now);
    low = λ p is. absurd (none-some p is);
    free = λ p is. absurd (none-some p is);
  }

  pub leaves_with : (h : Home) → map.get s.homes n ≡ Some h → LeavesImage s (left_with h) n
  leaves_with h home = record { homes = refl; change = changes_image s (left_with h) n None whole (leave_turns h home) }

  pub leaves_without : map.get s.homes n ≡ None → LeavesImage s left_without n
  leaves_without none = record { homes = same s.homes (map.remove s.homes n) at; change = changes_image s left_without n None whole (none_turns none) }
    where
      at : (q : ℕ) → map.get s.homes q ≡ map.get (map.remove s.homes n) q
      at q = elim (cases_eq q n) [
        | inl is ↦ ap (map.get s.homes) is ∙ none ∙ sym (get-remove_same s.homes n) ∙ ap (map.get (map.remove s.homes n)) (sym is)
        | inr apart ↦ sym (get-remove_other s.homes n q apart)
      ]

  pub left_with_images : (h : Home) → map.get s.homes n ≡ Some h → IsImages (left_with h)
  left_with_images h home = turned_images s (left_with h) n None whole (leave_turns h home)

  pub left_without_images : map.get s.homes n ≡ None → IsImages left_without
  left_without_images none = turned_images s left_without n None whole (none_turns none)

-- the held stamps may change, and one more command may begin
pub held_images : (s : ImagesState) (held : HeldMap) → IsImages s → ((id at : ℕ) → map.get held id ≡ Some at → (id < 16) × (at ≤ s.begun))
    → IsImages (images_of s.homes s.past held s.begun s.changed s.top)
held_images s held whole stamps = record {
  one = whole.one;
  apart = whole.apart;
  alone = whole.alone;
  behind = whole.behind;
  made = whole.made;
  left = whole.left;
  changed = whole.changed;
  held = stamps;
}

-- a stamp may be held in a slot that is free
pub kept_images : {E : Type 0} (s : ImagesState) → IsImages s → (held : HeldMap) (r : Result ℕ E) → IfOk r (λ slot. slot < 16)
    → IfOk r (λ slot. held ≡ map.insert s.held slot s.begun) → OnErr r (held ≡ s.held)
    → IsImages (images_of s.homes s.past held s.begun s.changed s.top)
kept_images s whole held (Err e) few kept same = held_images s held whole (λ id at is. whole.held id at (ap (λ m. map.get m id) (sym same) ∙ is))
kept_images s whole held (Ok slot) few kept same = held_images s held whole (λ id at is. by_insert id at (found-insert s.held slot s.begun id at (ap (λ m. map.get m id) (sym kept) ∙ is)))
  where
    by_insert : (id at : ℕ) → ((id ≡ slot) × (at ≡ s.begun)) ⊎ (map.get s.held id ≡ Some at) → (id < 16) × (at ≤ s.begun)
    by_insert id at (inl (here, is)) = (omega arith, omega arith)
    by_insert id at (inr before) = whole.held id at before

-- a stamp may be held no more
pub released_images : (s : ImagesState) → IsImages s → (held : HeldMap) (slot : ℕ) → held ≡ map.remove s.held slot → IsImages (images_of s.homes s.past held s.begun s.changed s.top)
released_images s whole held slot is = held_images s held whole (λ id at there. whole.held id at (found-remove s.held slot id at (ap (λ m. map.get m id) (sym is) ∙ there)))

pub advanced_images : (s : ImagesState) (begun : ℕ) → IsImages s → s.begun ≤ begun → IsImages (images_of s.homes s.past s.held begun s.changed s.top)
advanced_images s begun whole later = record {
  one = whole.one;
  apart = whole.apart;
  alone = whole.alone;
  behind = whole.behind;
  made = whole.made;
  left = whole.left;
  changed = let last = whole.changed in omega arith;
  held = λ id at is. let old = whole.held id at is in (omega arith, omega arith);
}

-- no image at all is in order
pub empty_images : IsImages (images_of map.empty map.empty map.empty 0 0 0)
empty_images = record {
  one = λ n q h k is _ _. absurd (none-some h (sym (map.get-empty nat_cmp n) ∙ is));
  apart = λ n h is. absurd (none-some h (sym (map.get-empty nat_cmp n) ∙ is));
  alone = λ p q at e f is _ _ _ _. absurd (none-some e (sym (map.get-empty nat_cmp p) ∙ is));
  behind = λ n p h e is _ _. absurd (none-some h (sym (map.get-empty nat_cmp n) ∙ is));
  made = λ n h is. absurd (none-some h (sym (map.get-empty nat_cmp n) ∙ is));
  left = λ p e is. absurd (none-some e (sym (map.get-empty nat_cmp p) ∙ is));
  changed = omega arith;
  held = λ id at is. absurd (none-some at (sym (map.get-empty nat_cmp id) ∙ is));
}

-- the answers of the calls, whatever the parts are called
pub put_done : (s : ImagesState) → IsImages s → (n place : ℕ) → IsFreePlace s n place → IfSome (map.get s.homes n) (λ h. h.place ≡ place) → (homes : HomeMap) (past : PastMap) (top : ℕ)
    → homes ≡ map.insert s.homes n (settled s.begun place) → past ≡ map.remove s.past place → top ≡ max s.top place
    → IsImages (images_of homes past s.held s.begun s.begun top) × SettlesImage s (images_of homes past s.held s.begun s.begun top) n place
put_done s whole n place free own homes past top h p t =
    subst (λ x. IsImages x × SettlesImage s x n place) (λ i. images_of (sym h i) (sym p i) s.held s.begun s.begun top)
    (put_images s whole n place top free (omega arith) (omega arith) own, put_settles s whole n place top free (omega arith) (omega arith) own)

pub move_done : (s : ImagesState) → IsImages s → (n place : ℕ) → IsFreePlace s n place → (old : Home) → map.get s.homes n ≡ Some old → old.place ≢ place → (homes : HomeMap) (past : PastMap) (top : ℕ)
    → homes ≡ map.insert s.homes n (settled s.begun place) → past ≡ map.remove (map.insert s.past old.place (replaced n old s.begun)) place → top ≡ max s.top place
    → IsImages (images_of homes past s.held s.begun s.begun top) × SettlesImage s (images_of homes past s.held s.begun s.begun top) n place
move_done s whole n place free old home elsewhere homes past top h p t =
    subst (λ x. IsImages x × SettlesImage s x n place) (λ i. images_of (sym h i) (sym p i) s.held s.begun s.begun top)
    (move_images s whole n place top free (omega arith) (omega arith) old home elsewhere, move_settles s whole n place top free (omega arith) (omega arith) old home elsewhere)

-- after a refusal the image is where it was
pub unmoved : (s : ImagesState) → IsImages s → (n : ℕ) (h : Home) → map.get s.homes n ≡ Some h → (e : Past) (joined past : PastMap)
    → joined ≡ map.insert s.past h.place e → past ≡ map.remove joined h.place → past ≡ s.past
unmoved s whole n h home e joined past put taken = undone s.past joined past h.place e (ap is_some (whole.apart n h home)) put taken

pub leave_done : (s : ImagesState) → IsImages s → (n : ℕ) (h : Home) → map.get s.homes n ≡ Some h → (homes : HomeMap) (past : PastMap) → homes ≡ map.remove s.homes n
    → past ≡ map.insert s.past h.place (replaced n h s.begun)
    → IsImages (images_of homes past s.held s.begun s.begun s.top) × LeavesImage s (images_of homes past s.held s.begun s.begun s.top) n
leave_done s whole n h home homes past is_homes is_past =
    subst (λ x. IsImages x × LeavesImage s x n) (λ i. images_of (sym is_homes i) (sym is_past i) s.held s.begun s.begun s.top) (left_with_images s whole n h home, leaves_with s whole n h home)
