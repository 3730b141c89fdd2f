-- What held stamps see of the images.
use Rattle.std.proofs.Common.{◌≡◌, ◌≤◌, ◌<◌, ℕ, List, [], ◌∷◌, Bool, true, false, cond, refl, sym, ap, ◌∙◌, Option, Some, None, IfSome, IfNone, ◌⊎◌, inl, inr, arith}
use Rattle.std.proofs.Common.{le-leb, lt-ltb, leb-true, ltb-true, eqb-true, nat_eq, nat_le}
use Rattle.std.specs.FinMap as map
use Rattle.std.specs.List.{list_any}
use Rattle.std.specs.Cmp.{nat_eq_equiv}
use Rattle.std.proofs.lemmas.Bool.{lt-leb, true≢false, false≢true, and_parts, and_from, or_left, or_right, or_cases}
use Rattle.std.proofs.lemmas.Option.{same_Some}
use Rattle.page_pool.specs.declared.home.Home.{Home}
use Rattle.page_pool.specs.declared.past.Past.{Past}
use Rattle.page_pool.specs.Images.{HeldMap, AreSixteenSlots, PastMap, ImagesState, IsImages, was_newest, is_seen, is_seen_by, IsUnseen, is_shown, past_place, home_or, seen_place}
use Rattle.page_pool.proofs.Maps.{tied, found-insert}
use Rattle.page_pool.proofs.Choices.{is_in, key_in, first_found, first_none}

-- a life that the stamp lies in
pub within_life : (made until at : ℕ) → was_newest made until at ≡ true → (made ≤ at) × (at < until)
within_life made until at is = let p = and_parts _ _ is in (leb-true made at p.0, ltb-true at until p.1)

pub in_life : (made until at : ℕ) → made ≤ at → at < until → was_newest made until at ≡ true
in_life made until at low high = and_from _ _ (le-leb made at low) (lt-ltb at until high)

-- no stamp lies in an empty life
pub no_life : (made until at : ℕ) → until ≤ made → was_newest made until at ≡ false
no_life made until at none = (elim (was_newest made until at) as (λ b. was_newest made until at ≡ b → b ≡ false) [
  | true ↦ λ is. let h = within_life made until at is in absurd (omega arith)
  | false ↦ λ _. refl
]) refl

-- an item of a list that passes
any_where : (test : ℕ → Bool) (ns : List ℕ) → list_any test ns ≡ true → (n : ℕ) × (test n ≡ true)
any_where test [] is = absurd (false≢true is)
any_where test (n ∷ ns) is = elim (or_cases (test n) (list_any test ns) is) [
  | inl here ↦ (n, here)
  | inr later ↦ any_where test ns later
]

any_from : (test : ℕ → Bool) (ns : List ℕ) (n : ℕ) → is_in n ns ≡ true → test n ≡ true → list_any test ns ≡ true
any_from test [] n there is = there
any_from test (m ∷ ns) n there is = elim (or_cases _ (is_in n ns) there) [
  | inl here ↦ or_left (test m) (list_any test ns) (ap test (sym (tied n m here)) ∙ is)
  | inr later ↦ or_right (test m) (list_any test ns) (any_from test ns n later is)
]

-- a stamp that sees an image of this life
pub seer : (held : HeldMap) (made until : ℕ) → is_seen held made until ≡ true → (id : ℕ) × ((at : ℕ) × ((map.get held id ≡ Some at) × (was_newest made until at ≡ true)))
unfolding is_seen
seer held made until is =
    let found = any_where (λ id. is_seen_by made until (map.get held id)) (map.keys held) is in by_stamp found.0 (map.get held found.0) refl found.1
  where
    by_stamp : (id : ℕ) (o : Option ℕ) → map.get held id ≡ o → is_seen_by made until o ≡ true → (id : ℕ) × ((at : ℕ) × ((map.get held id ≡ Some at) × (was_newest made until at ≡ true)))
    by_stamp id None is h = absurd (false≢true h)
    by_stamp id (Some at) is h = (id, (at, (is, h)))

pub seen_by : (held : HeldMap) (made until id at : ℕ) → map.get held id ≡ Some at → was_newest made until at ≡ true → is_seen held made until ≡ true
unfolding is_seen
seen_by held made until id at is sees = any_from (λ id. is_seen_by made until (map.get held id)) (map.keys held) id (key_in held id at is) (ap (is_seen_by made until) is ∙ sees)

-- an image is unseen where no stamp is found that sees it
pub is_unseen : (held : HeldMap) (made until : ℕ) → is_seen held made until ≡ false → IsUnseen held made until
is_unseen held made until none = λ id at is. (elim (was_newest made until at) as (λ b. was_newest made until at ≡ b → b ≡ false) [
  | true ↦ λ sees. absurd (true≢false (sym (seen_by held made until id at is sees) ∙ none))
  | false ↦ λ _. refl
]) refl

pub not_seen : (held : HeldMap) (made until : ℕ) → IsUnseen held made until → is_seen held made until ≡ false
not_seen held made until none = (elim (is_seen held made until) as (λ b. is_seen held made until ≡ b → b ≡ false) [
  | true ↦ λ is. let s = seer held made until is in absurd (true≢false (sym s.1.1.1 ∙ none s.0 s.1.0 s.1.1.0))
  | false ↦ λ _. refl
]) refl

-- a stamp in a slot that sees it
pub seen_in_slot : (held : HeldMap) (made until id : ℕ) → is_seen_by made until (map.get held id) ≡ true → is_seen held made until ≡ true
seen_in_slot held made until id is = by_stamp (map.get held id) refl is
  where
    by_stamp : (o : Option ℕ) → map.get held id ≡ o → is_seen_by made until o ≡ true → is_seen held made until ≡ true
    by_stamp None there h = absurd (false≢true h)
    by_stamp (Some at) there h = seen_by held made until id at there h

-- none of the slots has a stamp that sees it
pub seen_in_none : (held : HeldMap) (made until : ℕ) → AreSixteenSlots held → ((id : ℕ) → id < 16 → is_seen_by made until (map.get held id) ≡ false) → is_seen held made until ≡ false
seen_in_none held made until few none = not_seen held made until (λ id at is. sym (ap (is_seen_by made until) is) ∙ none id (few id at is))

-- the slots are few after one more stamp
pub kept_few : (held new : HeldMap) (slot at : ℕ) → AreSixteenSlots held → slot < 16 → new ≡ map.insert held slot at → AreSixteenSlots new
kept_few held new slot at few low is = λ id other there. by_insert id other (found-insert held slot at id other (ap (λ m. map.get m id) (sym is) ∙ there))
  where
    by_insert : (id other : ℕ) → ((id ≡ slot) × (other ≡ at)) ⊎ (map.get held id ≡ Some other) → id < 16
    by_insert id other (inl (here, _)) = omega arith
    by_insert id other (inr before) = few id other before

-- what is shown as page n is an image of it, in whose life the stamp lies
pub shown_is : (n at : ℕ) (o : Option Past) → is_shown n at o ≡ true → (e : Past) × ((o ≡ Some e) × ((e.number ≡ n) × (was_newest e.made e.until at ≡ true)))
shown_is n at None is = absurd (false≢true is)
shown_is n at (Some e) is = let p = and_parts _ _ is in (e, (refl, (eqb-true e.number n p.0, p.1)))

pub is_shown_as : (n at : ℕ) (e : Past) → e.number ≡ n → was_newest e.made e.until at ≡ true → is_shown n at (Some e) ≡ true
is_shown_as n at e is life = and_from _ _ (ap (λ k. nat_eq k n) is ∙ nat_eq_equiv.refl n) life

pub past_found : (at : ℕ) (past : PastMap) (n p : ℕ) → past_place at past n ≡ Some p → is_shown n at (map.get past p) ≡ true
unfolding past_place
past_found at past n p found = first_found (λ place. is_shown n at (map.get past place)) (map.keys past) p found

pub past_none : (at : ℕ) (past : PastMap) (n : ℕ) → past_place at past n ≡ None → (p : ℕ) → is_shown n at (map.get past p) ≡ false
unfolding past_place
past_none at past n none p = by_item (map.get past p) refl
  where
    by_item : (o : Option Past) → map.get past p ≡ o → is_shown n at (map.get past p) ≡ false
    by_item None is = ap (is_shown n at) is
    by_item (Some e) is = first_none (λ place. is_shown n at (map.get past place)) (map.keys past) none p (key_in past p e is)

-- what a search of the replaced images found is the place
pub searched : (s : ImagesState) → IsImages s → (at n : ℕ) (r : Option ℕ) → IfSome r (λ p. is_shown n at (map.get s.past p) ≡ true)
    → IfNone r ((p : ℕ) → is_shown n at (map.get s.past p) ≡ false) → r ≡ past_place at s.past n
searched s whole at n r found none = by_both r refl (past_place at s.past n) refl found none
  where
    by_both : (a : Option ℕ) → r ≡ a → (b : Option ℕ) → past_place at s.past n ≡ b → IfSome a (λ p. is_shown n at (map.get s.past p) ≡ true)
        → IfNone a ((p : ℕ) → is_shown n at (map.get s.past p) ≡ false) → r ≡ past_place at s.past n
    by_both None r_is None is f nothing = r_is ∙ sym is
    by_both None r_is (Some q) is f nothing = absurd (true≢false (sym (past_found at s.past n q is) ∙ nothing q))
    by_both (Some p) r_is None is f nothing = absurd (true≢false (sym f ∙ past_none at s.past n is p))
    by_both (Some p) r_is (Some q) is f nothing =
        let a = shown_is n at (map.get s.past p) f in
        let b = shown_is n at (map.get s.past q) (past_found at s.past n q is) in
        r_is ∙ ap (λ k. Some k) (whole.alone p q at a.0 b.0 a.1.0 b.1.0 (a.1.1.0 ∙ sym b.1.1.0) a.1.1.1 b.1.1.1) ∙ sym is

-- The stamp sees the image at this place as page n: the newest one, or a replaced one.
abbrev pub Sees : ImagesState → ℕ → ℕ → ℕ → Type 0
Sees s at n p = ((h : Home) × ((map.get s.homes n ≡ Some h) × ((h.made ≤ at) × (h.place ≡ p))))
    ⊎ ((e : Past) × ((map.get s.past p ≡ Some e) × ((e.number ≡ n) × (was_newest e.made e.until at ≡ true))))

-- a replaced image that is found is seen
past_sees : (s : ImagesState) (at n p : ℕ) → past_place at s.past n ≡ Some p → Sees s at n p
past_sees s at n p found = inr (shown_is n at (map.get s.past p) (past_found at s.past n p found))

pub sees : (s : ImagesState) (at n p : ℕ) → seen_place at s n ≡ Some p → Sees s at n p
sees s at n p is = by_home (map.get s.homes n) refl is
  where
    by_home : (o : Option Home) → map.get s.homes n ≡ o → home_or at o (past_place at s.past n) ≡ Some p → Sees s at n p
    by_home None there found = past_sees s at n p found
    by_home (Some h) there found = (elim (nat_le h.made at) as (λ b. nat_le h.made at ≡ b → cond b (Some h.place) (past_place at s.past n) ≡ Some p → Sees s at n p) [
      | true ↦ λ low here. inl (h, (there, (leb-true h.made at low, same_Some h.place p here)))
      | false ↦ λ _ found. past_sees s at n p found
    ]) refl found

-- what the stamp sees is found
pub is_found : (s : ImagesState) → IsImages s → (at n p : ℕ) → Sees s at n p → seen_place at s n ≡ Some p
is_found s whole at n p (inl (h, (there, (low, here)))) = ap (λ o. home_or at o (past_place at s.past n)) there
    ∙ ap (λ b. cond b (Some h.place) (past_place at s.past n)) (le-leb h.made at low) ∙ ap (λ q. Some q) here
is_found s whole at n p (inr (e, (there, (of_page, life)))) = by_home (map.get s.homes n) refl
  where
    in_past : past_place at s.past n ≡ Some p
    in_past = by_place (past_place at s.past n) refl
      where
        by_place : (o : Option ℕ) → past_place at s.past n ≡ o → past_place at s.past n ≡ Some p
        by_place None none = absurd (true≢false (sym (ap (is_shown n at) there ∙ is_shown_as n at e of_page life) ∙ past_none at s.past n none p))
        by_place (Some q) found =
            let other = shown_is n at (map.get s.past q) (past_found at s.past n q found) in
            found ∙ ap (λ k. Some k) (whole.alone q p at other.0 e other.1.0 there (other.1.1.0 ∙ sym of_page) other.1.1.1 life)

    by_home : (o : Option Home) → map.get s.homes n ≡ o → home_or at (map.get s.homes n) (past_place at s.past n) ≡ Some p
    by_home None is = ap (λ o. home_or at o (past_place at s.past n)) is ∙ in_past
    by_home (Some h) is =
        let last : e.until ≤ h.made = whole.behind n p h e is there of_page in
        let inside = within_life e.made e.until at life in
        let high : at < h.made = omega arith in
        ap (λ o. home_or at o (past_place at s.past n)) is ∙ ap (λ b. cond b (Some h.place) (past_place at s.past n)) (lt-leb h.made at high) ∙ in_past

-- two places that answer alike are one
same_place : (a b : Option ℕ) → ((p : ℕ) → a ≡ Some p → b ≡ Some p) → ((p : ℕ) → b ≡ Some p → a ≡ Some p) → a ≡ b
same_place None None to from = refl
same_place None (Some q) to from = from q refl
same_place (Some p) b to from = sym (to p refl)

-- a stamp that sees the same sees it at the same places
pub sees_same : (s t : ImagesState) → IsImages s → IsImages t → (at n : ℕ) → ((p : ℕ) → Sees s at n p → Sees t at n p) → ((p : ℕ) → Sees t at n p → Sees s at n p)
    → seen_place at t n ≡ seen_place at s n
sees_same s t whole whole' at n to from = same_place (seen_place at t n) (seen_place at s n)
    (λ p is. is_found s whole at n p (from p (sees t at n p is)))
    (λ p is. is_found t whole' at n p (to p (sees s at n p is)))
