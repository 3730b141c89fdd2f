-- How a change of one page's images counts with what held stamps see.
use Rattle.std.proofs.Common.{◌≡◌, ◌≢◌, ℕ, ◌+◌, Bool, true, false, cond, not, ◌&&◌, ◌||◌, refl, sym, ap, ◌∙◌, Option, Some, None, option_map, ◌⊎◌, inl, inr, arith}
use Rattle.std.specs.Ordering.{nat_cmp, eq_by_cmp}
use Rattle.std.specs.Cmp.{nat_cmp_total}
use Rattle.std.specs.FinMap as map
use Rattle.std.specs.FinSet as set
use Rattle.std.proofs.lemmas.Bool.{true≢false, cases_eq}
use Rattle.std.proofs.lemmas.Option.{same_Some, none-some}
use Rattle.page_pool.specs.declared.home.Home.{Home}
use Rattle.page_pool.specs.declared.past.Past.{Past}
use Rattle.page_pool.specs.Images.{HeldMap, PastMap, ImagesState, IsImages, ChangesImage, numbers_where, is_seen, is_past_seen, is_home_seen, past_seen, seen_past, seen_homes}
use Rattle.page_pool.proofs.Maps.{tie_itself, tie_apart}
use Rattle.page_pool.proofs.Choices.{is_in, key_in, same_numbers, contains-numbers_where}
use Rattle.page_pool.proofs.Sights.{within_life, no_life, seer, not_seen}
use Rattle.page_pool.proofs.Turns.{Turns, replaced, settled, spot_unseen, keeps_stamps}

-- the keys whose items pass
where_keys : {X : Type 0} (m : map.FinMap nat_cmp X) (test : Option X → Bool) → test None ≡ false → (q : ℕ) → set.contains (numbers_where (λ n. test (map.get m n)) (map.keys m)) q ≡ test (map.get m q)
where_keys {X = X} m test none q = contains-numbers_where (λ n. test (map.get m n)) (map.keys m) q ∙ by_item (map.get m q) refl
  where
    nothing : (b : Bool) → (b && false) ≡ false
    nothing true = refl
    nothing false = refl

    by_item : (o : Option X) → map.get m q ≡ o → (is_in q (map.keys m) && test (map.get m q)) ≡ test (map.get m q)
    by_item None is = let fails : test (map.get m q) ≡ false = ap test is ∙ none in ap (λ b. is_in q (map.keys m) && b) fails ∙ nothing (is_in q (map.keys m)) ∙ sym fails
    by_item (Some x) is = ap (λ b. b && test (map.get m q)) (key_in m q x is)

pub contains-past_seen : (held : HeldMap) (past : PastMap) (p : ℕ) → set.contains (past_seen held past) p ≡ is_past_seen held (map.get past p)
unfolding past_seen
contains-past_seen held past p = where_keys past (is_past_seen held) refl p

pub contains-seen_homes : (s : ImagesState) (n : ℕ) → set.contains (seen_homes s) n ≡ is_home_seen s.held s.begun (map.get s.homes n)
unfolding seen_homes
contains-seen_homes s n = where_keys s.homes (is_home_seen s.held s.begun) refl n

-- an image that was just made is seen by no stamp of an earlier command
just_made : (held : HeldMap) (begun : ℕ) → is_seen held begun begun ≡ false
just_made held begun = not_seen held begun begun (λ id at is. no_life begun begun at (omega arith))

module _ (s t : ImagesState) (n : ℕ) (spot : Option ℕ) (whole : IsImages s) (turn : Turns s t n spot) where
  -- the newest image of page n is now seen by none, those of the others by whom they were
  homes_at : (q : ℕ) → set.contains (seen_homes t) q ≡ set.contains (set.remove (seen_homes s) n) q
  homes_at q = contains-seen_homes t q ∙ ap (λ b. is_home_seen t.held b (map.get t.homes q)) turn.begun ∙ ap (λ h. is_home_seen h s.begun (map.get t.homes q)) turn.held
      ∙ by_page (cases_eq q n) ∙ sym (set.contains-remove nat_cmp_total (seen_homes s) n q)
    where
      of_spot : (spot : Option ℕ) → is_home_seen s.held s.begun (option_map (settled s.begun) spot) ≡ false
      of_spot None = refl
      of_spot (Some p) = just_made s.held s.begun

      by_page : (q ≡ n) ⊎ (q ≡ n → ⊥) → is_home_seen s.held s.begun (map.get t.homes q) ≡ (not (eq_by_cmp nat_cmp q n) && set.contains (seen_homes s) q)
      by_page (inl is) = ap (λ k. is_home_seen s.held s.begun (map.get t.homes k)) is ∙ ap (is_home_seen s.held s.begun) turn.home ∙ of_spot spot
          ∙ sym (ap (λ b. not b && set.contains (seen_homes s) q) (ap (λ k. eq_by_cmp nat_cmp k n) is ∙ tie_itself n))
      by_page (inr apart) = ap (is_home_seen s.held s.begun) (turn.others q apart) ∙ sym (contains-seen_homes s q)
          ∙ sym (ap (λ b. not b && set.contains (seen_homes s) q) (tie_apart q n apart))

  -- a replaced image that is seen stays
  seen_stays : (p : ℕ) (e : Past) → map.get s.past p ≡ Some e → is_seen s.held e.made e.until ≡ true → map.get t.past p ≡ Some e
  seen_stays p e there sees = turn.stays p e there (λ here. let by = seer s.held e.made e.until sees in
      absurd (true≢false (sym by.1.1.1 ∙ (turn.free p here).past e there by.0 by.1.0 by.1.1.0)))

  -- what is seen at a place, but for the image that joined
  past_at : (p : ℕ) → ((h : Home) → map.get s.homes n ≡ Some h → h.place ≡ p → is_seen s.held h.made s.begun ≡ false) → is_past_seen s.held (map.get t.past p) ≡ is_past_seen s.held (map.get s.past p)
  past_at p unjoined = by_both (map.get t.past p) refl (map.get s.past p) refl
    where
      by_both : (a : Option Past) → map.get t.past p ≡ a → (b : Option Past) → map.get s.past p ≡ b → is_past_seen s.held (map.get t.past p) ≡ is_past_seen s.held (map.get s.past p)
      by_both None now None before = ap (is_past_seen s.held) now ∙ sym (ap (is_past_seen s.held) before)
      by_both None now (Some e) before = (elim (is_seen s.held e.made e.until) as (λ b. is_seen s.held e.made e.until ≡ b
          → is_past_seen s.held (map.get t.past p) ≡ is_past_seen s.held (map.get s.past p)) [
            | true ↦ λ sees. absurd (none-some e (sym now ∙ seen_stays p e before sees))
            | false ↦ λ unseen. ap (is_past_seen s.held) now ∙ sym (ap (is_past_seen s.held) before ∙ unseen)
          ]) refl
      by_both (Some e) now b before = elim (turn.comes p e now).1 [
        | inl was ↦ ap (is_past_seen s.held) (now ∙ sym was)
        | inr (h, (home, (place, joined))) ↦ ap (is_past_seen s.held) (now ∙ ap (λ x. Some x) (sym joined)) ∙ unjoined h home place
            ∙ sym (ap (is_past_seen s.held) (ap (map.get s.past) (sym place) ∙ whole.apart n h home))
      ]

  counted : set.len (seen_past t) ≡ set.len (seen_past s) + cond (set.contains (seen_homes s) n) 1 0
  counted = by_home (map.get s.homes n) refl
    where
      in_t : (p : ℕ) → set.contains (seen_past t) p ≡ is_past_seen s.held (map.get t.past p)
      in_t p = contains-past_seen t.held t.past p ∙ ap (λ h. is_past_seen h (map.get t.past p)) turn.held

      none_joins : ((h : Home) → map.get s.homes n ≡ Some h → is_seen s.held h.made s.begun ≡ false) → set.contains (seen_homes s) n ≡ false
          → set.len (seen_past t) ≡ set.len (seen_past s) + cond (set.contains (seen_homes s) n) 1 0
      none_joins unseen unshared =
          let size : set.len (seen_past t) ≡ set.len (seen_past s) =
          ap set.len (same_numbers (seen_past t) (seen_past s) (λ p. in_t p ∙ past_at p (λ h home _. unseen h home) ∙ sym (contains-past_seen s.held s.past p))) in
          let none : cond {A = ℕ} (set.contains (seen_homes s) n) 1 0 ≡ 0 = ap (λ b. cond {A = ℕ} b 1 0) unshared in
          omega arith

      one_joins : (h : Home) → map.get s.homes n ≡ Some h → is_seen s.held h.made s.begun ≡ true → set.len (seen_past t) ≡ set.len (seen_past s) + cond (set.contains (seen_homes s) n) 1 0
      one_joins h home sees =
          let by = seer s.held h.made s.begun sees in
          let inside = within_life h.made s.begun by.1.0 by.1.1.1 in
          let away : spot ≢ Some h.place = spot_unseen s t n spot whole turn by.0 by.1.0 n h.place by.1.1.0 inside.1 (inl (h, (home, (inside.0, refl)))) in
          let joined : map.get t.past h.place ≡ Some (replaced n h s.begun) = turn.joins h home away in
          let grown : seen_past t ≡ set.insert (seen_past s) h.place =
          same_numbers (seen_past t) (set.insert (seen_past s) h.place) (λ p. in_t p ∙ at_place joined p (cases_eq p h.place) ∙ sym (set.contains-insert nat_cmp_total (seen_past s) h.place p)) in
          let fresh : set.contains (seen_past s) h.place ≡ false = contains-past_seen s.held s.past h.place ∙ ap (is_past_seen s.held) (whole.apart n h home) in
          let size : set.len (seen_past t) ≡ set.len (seen_past s) + 1 = ap set.len grown ∙ set.len-insert nat_cmp_total (seen_past s) h.place
          ∙ ap (λ b. cond b (set.len (seen_past s)) (set.len (seen_past s) + 1)) fresh in
          let shared : cond {A = ℕ} (set.contains (seen_homes s) n) 1 0 ≡ 1 = ap (λ b. cond {A = ℕ} b 1 0) (contains-seen_homes s n ∙ ap (is_home_seen s.held s.begun) home ∙ sees) in
          omega arith
        where
          at_place : map.get t.past h.place ≡ Some (replaced n h s.begun) → (p : ℕ) → (p ≡ h.place) ⊎ (p ≡ h.place → ⊥)
              → is_past_seen s.held (map.get t.past p) ≡ (eq_by_cmp nat_cmp p h.place || set.contains (seen_past s) p)
          at_place joined p (inl is) = ap (λ k. is_past_seen s.held (map.get t.past k)) is ∙ ap (is_past_seen s.held) joined ∙ sees
              ∙ sym (ap (λ b. b || set.contains (seen_past s) p) (ap (λ k. eq_by_cmp nat_cmp k h.place) is ∙ tie_itself h.place))
          at_place joined p (inr apart) = past_at p (λ k at_n here. absurd (apart (sym here ∙ ap (λ x. x.place) (same_Some k h (sym at_n ∙ home)))))
              ∙ sym (contains-past_seen s.held s.past p) ∙ sym (ap (λ b. b || set.contains (seen_past s) p) (tie_apart p h.place apart))

      by_home : (o : Option Home) → map.get s.homes n ≡ o → set.len (seen_past t) ≡ set.len (seen_past s) + cond (set.contains (seen_homes s) n) 1 0
      by_home None none = none_joins (λ h home. absurd (none-some h (sym none ∙ home))) (contains-seen_homes s n ∙ ap (is_home_seen s.held s.begun) none)
      by_home (Some h) home = (elim (is_seen s.held h.made s.begun) as (λ b. is_seen s.held h.made s.begun ≡ b
          → set.len (seen_past t) ≡ set.len (seen_past s) + cond (set.contains (seen_homes s) n) 1 0) [
            | true ↦ λ sees. one_joins h home sees
            | false ↦ λ unseen. none_joins
                (λ k at_n. ap (λ x. is_seen s.held x.made s.begun) (same_Some k h (sym at_n ∙ home)) ∙ unseen)
                (contains-seen_homes s n ∙ ap (is_home_seen s.held s.begun) home ∙ unseen)
          ]) refl

  pub changes_image : ChangesImage s t n
  changes_image = record {
    held = turn.held;
    begun = turn.begun;
    changed = turn.changed;
    stamps = keeps_stamps s t n spot whole turn;
    counted = counted;
    seen = same_numbers (seen_homes t) (set.remove (seen_homes s) n) homes_at;
  }
