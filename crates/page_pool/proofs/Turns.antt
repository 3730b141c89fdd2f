-- A change of one page's images: its newest image joins the replaced ones, and another takes its place, or none.
use Rattle.std.proofs.Common.{◌≡◌, ◌≢◌, ◌≤◌, ◌<◌, ℕ, true, refl, sym, ap, ◌∙◌, Option, Some, None, option_map, ◌⊎◌, inl, inr, arith}
use Rattle.std.specs.FinMap as map
use Rattle.std.proofs.lemmas.Bool.{cases_eq}
use Rattle.std.proofs.lemmas.Option.{same_Some, none-some}
use Rattle.page_pool.specs.declared.home.Home.{Home}
use Rattle.page_pool.specs.declared.past.Past.{Past}
use Rattle.page_pool.specs.Images.{ImagesState, IsImages, IsFreePlace, KeepsStamps, was_newest}
use Rattle.page_pool.proofs.Sights.{Sees, is_found, sees_same, within_life, in_life}

-- the newest image of page n as a replaced one
abbrev pub replaced : ℕ → Home → ℕ → Past
replaced n h begun = record { number = n; made = h.made; until = begun }

-- the newest image at this place, made by the last command
abbrev pub settled : ℕ → ℕ → Home
settled begun place = record { place = place; made = begun }

-- What a change of page n does to the images: the new one lies at the spot, if there is one, and whatever lay there is gone.
pub record Turns (s t : ImagesState) (n : ℕ) (spot : Option ℕ) : Type 0 where
  pub held : t.held ≡ s.held
  pub begun : t.begun ≡ s.begun
  pub changed : t.changed ≡ s.begun
  pub top : s.top ≤ t.top
  pub home : map.get t.homes n ≡ option_map (settled s.begun) spot
  pub others : (q : ℕ) → q ≢ n → map.get t.homes q ≡ map.get s.homes q
  pub stays : (p : ℕ) (e : Past) → map.get s.past p ≡ Some e → spot ≢ Some p → map.get t.past p ≡ Some e
  pub joins : (h : Home) → map.get s.homes n ≡ Some h → spot ≢ Some h.place → map.get t.past h.place ≡ Some (replaced n h s.begun)
  pub comes : (p : ℕ) (e : Past) → map.get t.past p ≡ Some e
      → (spot ≢ Some p) × ((map.get s.past p ≡ Some e) ⊎ ((h : Home) × ((map.get s.homes n ≡ Some h) × ((h.place ≡ p) × (replaced n h s.begun ≡ e)))))
  pub low : (p : ℕ) → spot ≡ Some p → p ≤ t.top
  pub free : (p : ℕ) → spot ≡ Some p → IsFreePlace s n p

-- what the map answers of a spot
spot_home : (begun : ℕ) (spot : Option ℕ) (h : Home) → option_map (settled begun) spot ≡ Some h → (p : ℕ) × ((spot ≡ Some p) × ((h.place ≡ p) × (h.made ≡ begun)))
spot_home begun None h is = absurd (none-some h is)
spot_home begun (Some p) h is = let one = same_Some (settled begun p) h is in (p, (refl, (ap (λ k. k.place) (sym one), ap (λ k. k.made) (sym one))))

module _ (s t : ImagesState) (n : ℕ) (spot : Option ℕ) (whole : IsImages s) (turn : Turns s t n spot) where
  -- the newest image of page n is the one at the spot
  new_home : (h : Home) → map.get t.homes n ≡ Some h → (p : ℕ) × ((spot ≡ Some p) × ((h.place ≡ p) × (h.made ≡ s.begun)))
  new_home h is = spot_home s.begun spot h (sym turn.home ∙ is)

  -- no other page has its newest image at the spot
  spot_apart : (q p : ℕ) (k : Home) → q ≢ n → map.get s.homes q ≡ Some k → spot ≡ Some p → k.place ≢ p
  spot_apart q p k other is here same = (turn.free p here).others q other (ap (option_map (λ h. h.place)) is ∙ ap (λ x. Some x) same)

  one : (a b : ℕ) (h k : Home) → map.get t.homes a ≡ Some h → map.get t.homes b ≡ Some k → h.place ≡ k.place → a ≡ b
  one a b h k is_a is_b same = elim (cases_eq a n) [
    | inl a_is ↦ elim (cases_eq b n) [
      | inl b_is ↦ a_is ∙ sym b_is
      | inr b_not ↦ let new = new_home h (ap (map.get t.homes) (sym a_is) ∙ is_a) in
          absurd (spot_apart b new.0 k b_not (sym (turn.others b b_not) ∙ is_b) new.1.0 (sym same ∙ new.1.1.0))
    ]
    | inr a_not ↦ elim (cases_eq b n) [
      | inl b_is ↦ let new = new_home k (ap (map.get t.homes) (sym b_is) ∙ is_b) in
          absurd (spot_apart a new.0 h a_not (sym (turn.others a a_not) ∙ is_a) new.1.0 (same ∙ new.1.1.0))
      | inr b_not ↦ whole.one a b h k (sym (turn.others a a_not) ∙ is_a) (sym (turn.others b b_not) ∙ is_b) same
    ]
  ]

  apart : (a : ℕ) (h : Home) → map.get t.homes a ≡ Some h → map.get t.past h.place ≡ None
  apart a h is = by_past (map.get t.past h.place) refl
    where
      by_past : (o : Option Past) → map.get t.past h.place ≡ o → map.get t.past h.place ≡ None
      by_past None none = none
      by_past (Some e) there = let came = turn.comes h.place e there in elim (cases_eq a n) [
        | inl a_is ↦ let new = new_home h (ap (map.get t.homes) (sym a_is) ∙ is) in absurd (came.0 (new.1.0 ∙ ap (λ p. Some p) (sym new.1.1.0)))
        | inr a_not ↦ let old : map.get s.homes a ≡ Some h = sym (turn.others a a_not) ∙ is in elim came.1 [
          | inl before ↦ absurd (none-some e (sym (whole.apart a h old) ∙ before))
          | inr (k, (home, (place, same))) ↦ absurd (a_not (whole.one a n h k old home (sym place)))
        ]
      ]

  alone : (p q at : ℕ) (e f : Past) → map.get t.past p ≡ Some e → map.get t.past q ≡ Some f → e.number ≡ f.number → was_newest e.made e.until at ≡ true → was_newest f.made f.until at ≡ true → p ≡ q
  alone p q at e f is_e is_f same life_e life_f = by_both (turn.comes p e is_e).1 (turn.comes q f is_f).1
    where
      -- an image of before and the one that joined have no moment in common
      apart_in_time : (p : ℕ) (e f : Past) (h : Home) → map.get s.past p ≡ Some e → map.get s.homes n ≡ Some h → replaced n h s.begun ≡ f → e.number ≡ f.number
          → was_newest e.made e.until at ≡ true → was_newest f.made f.until at ≡ true → ⊥
      apart_in_time p e f h before home joined same life_e life_f =
          let last : e.until ≤ h.made = whole.behind n p h e home before (same ∙ ap (λ x. x.number) (sym joined)) in
          let made : h.made ≡ f.made = ap (λ x. x.made) joined in
          let in_e = within_life e.made e.until at life_e in
          let in_f = within_life f.made f.until at life_f in
          omega arith

      by_both : (map.get s.past p ≡ Some e) ⊎ ((h : Home) × ((map.get s.homes n ≡ Some h) × ((h.place ≡ p) × (replaced n h s.begun ≡ e))))
          → (map.get s.past q ≡ Some f) ⊎ ((h : Home) × ((map.get s.homes n ≡ Some h) × ((h.place ≡ q) × (replaced n h s.begun ≡ f)))) → p ≡ q
      by_both (inl a) (inl b) = whole.alone p q at e f a b same life_e life_f
      by_both (inl a) (inr (h, (home, (place, joined)))) = absurd (apart_in_time p e f h a home joined same life_e life_f)
      by_both (inr (h, (home, (place, joined)))) (inl b) = absurd (apart_in_time q f e h b home joined (sym same) life_f life_e)
      by_both (inr (h, (home, (place, _)))) (inr (k, (home', (place', _)))) = sym place ∙ ap (λ x. x.place) (same_Some h k (sym home ∙ home')) ∙ place'

  behind : (a p : ℕ) (h : Home) (e : Past) → map.get t.homes a ≡ Some h → map.get t.past p ≡ Some e → e.number ≡ a → e.until ≤ h.made
  behind a p h e is there of_page = by_page (cases_eq a n) (turn.comes p e there).1
    where
      by_page : (a ≡ n) ⊎ (a ≡ n → ⊥) → (map.get s.past p ≡ Some e) ⊎ ((h : Home) × ((map.get s.homes n ≡ Some h) × ((h.place ≡ p) × (replaced n h s.begun ≡ e)))) → e.until ≤ h.made
      by_page (inl a_is) (inl before) =
          let new = new_home h (ap (map.get t.homes) (sym a_is) ∙ is) in
          let made : h.made ≡ s.begun = new.1.1.1 in
          let old = whole.left p e before in
          let last = whole.changed in
          omega arith
      by_page (inl a_is) (inr (k, (home, (place, joined)))) =
          let new = new_home h (ap (map.get t.homes) (sym a_is) ∙ is) in
          let made : h.made ≡ s.begun = new.1.1.1 in
          let until : s.begun ≡ e.until = ap (λ x. x.until) joined in
          omega arith
      by_page (inr a_not) (inl before) = whole.behind a p h e (sym (turn.others a a_not) ∙ is) before of_page
      by_page (inr a_not) (inr (k, (home, (place, joined)))) = absurd (a_not (sym of_page ∙ ap (λ x. x.number) (sym joined)))

  made : (a : ℕ) (h : Home) → map.get t.homes a ≡ Some h → (h.made ≤ t.changed) × (h.place ≤ t.top)
  made a h is = by_page (cases_eq a n)
    where
      by_page : (a ≡ n) ⊎ (a ≡ n → ⊥) → (h.made ≤ t.changed) × (h.place ≤ t.top)
      by_page (inl a_is) =
          let new = new_home h (ap (map.get t.homes) (sym a_is) ∙ is) in
          let made : h.made ≡ s.begun = new.1.1.1 in
          let place : h.place ≡ new.0 = new.1.1.0 in
          let low : new.0 ≤ t.top = turn.low new.0 new.1.0 in
          let changed = turn.changed in
          (omega arith, omega arith)
      by_page (inr a_not) =
          let old = whole.made a h (sym (turn.others a a_not) ∙ is) in
          let changed = turn.changed in
          let last = whole.changed in
          let top = turn.top in
          (omega arith, omega arith)

  left : (p : ℕ) (e : Past) → map.get t.past p ≡ Some e → (e.until ≤ t.changed) × (p ≤ t.top)
  left p e there = by_past (turn.comes p e there).1
    where
      by_past : (map.get s.past p ≡ Some e) ⊎ ((h : Home) × ((map.get s.homes n ≡ Some h) × ((h.place ≡ p) × (replaced n h s.begun ≡ e)))) → (e.until ≤ t.changed) × (p ≤ t.top)
      by_past (inl before) =
          let old = whole.left p e before in
          let changed = turn.changed in
          let last = whole.changed in
          let top = turn.top in
          (omega arith, omega arith)
      by_past (inr (h, (home, (place, joined)))) =
          let until : s.begun ≡ e.until = ap (λ x. x.until) joined in
          let old = whole.made n h home in
          let changed = turn.changed in
          let top = turn.top in
          (omega arith, omega arith)

  pub turned_images : IsImages t
  turned_images = record {
    one = one;
    apart = apart;
    alone = alone;
    behind = behind;
    made = made;
    left = left;
    changed = let changed = turn.changed in let begun = turn.begun in omega arith;
    held = λ id at is. let old = whole.held id at (ap (λ m. map.get m id) (sym turn.held) ∙ is) in let begun = turn.begun in (omega arith, omega arith);
  }

  -- a stamp sees nothing at the spot
  pub spot_unseen : (id at q p : ℕ) → map.get s.held id ≡ Some at → at < s.begun → Sees s at q p → spot ≢ Some p
  spot_unseen id at q p held early sight here = (turn.free p here).stamps id at q held early (is_found s whole at q p sight)

  stays_seen : (id at q p : ℕ) → map.get s.held id ≡ Some at → at < s.begun → Sees s at q p → Sees t at q p
  stays_seen id at q p held early (inl (h, (home, (low, here)))) = elim (cases_eq q n) [
    | inl q_is ↦
        let at_home : map.get s.homes n ≡ Some h = ap (map.get s.homes) (sym q_is) ∙ home in
        let away : spot ≢ Some h.place = λ is. spot_unseen id at q p held early (inl (h, (home, (low, here)))) (is ∙ ap (λ x. Some x) here) in
        inr (replaced n h s.begun, (ap (map.get t.past) (sym here) ∙ turn.joins h at_home away, (sym q_is, in_life h.made s.begun at low early)))
    | inr q_not ↦ inl (h, (turn.others q q_not ∙ home, (low, here)))
  ]
  stays_seen id at q p held early (inr (e, (there, (of_page, life)))) =
      inr (e, (turn.stays p e there (spot_unseen id at q p held early (inr (e, (there, (of_page, life))))), (of_page, life)))

  was_seen : (at q p : ℕ) → at < s.begun → Sees t at q p → Sees s at q p
  was_seen at q p early (inl (h, (home, (low, here)))) = elim (cases_eq q n) [
    | inl q_is ↦
        let new = new_home h (ap (map.get t.homes) (sym q_is) ∙ home) in
        let made : h.made ≡ s.begun = new.1.1.1 in absurd (omega arith)
    | inr q_not ↦ inl (h, (sym (turn.others q q_not) ∙ home, (low, here)))
  ]
  was_seen at q p early (inr (e, (there, (of_page, life)))) = by_past (turn.comes p e there).1
    where
      by_past : (map.get s.past p ≡ Some e) ⊎ ((h : Home) × ((map.get s.homes n ≡ Some h) × ((h.place ≡ p) × (replaced n h s.begun ≡ e)))) → Sees s at q p
      by_past (inl before) = inr (e, (before, (of_page, life)))
      by_past (inr (h, (home, (place, joined)))) =
          let q_is : n ≡ q = ap (λ x. x.number) joined ∙ of_page in
          let made : h.made ≡ e.made = ap (λ x. x.made) joined in
          let inside = within_life e.made e.until at life in
          inl (h, (ap (map.get s.homes) (sym q_is) ∙ home, (omega arith, place)))

  pub keeps_stamps : KeepsStamps s t
  keeps_stamps = λ id at held early q. sees_same s t whole turned_images at q (λ p. stays_seen id at q p held early) (λ p. was_seen at q p early)
