-- What a file has at its places once a tuple left its page.
use Rattle.std.proofs.Common.{◌≡◌, ◌≢◌, ℕ, ◌+◌, ◌*◌, ◌<◌, ◌≤◌, Bool, true, false, List, [], ◌∷◌, refl, sym, ◌∙◌, ap, subst, inl, inr, arith}
use Rattle.std.specs.Prelude.{Option, Some}
use Rattle.std.proofs.lemmas.Bool.Decides.{eqb_tells}
use Rattle.code_btree.specs.Node.{Pair}
use Rattle.code_btree.specs.Items.{find_item}
use Rattle.code_btree.specs.Tree.{Store, same, times}
use Rattle.code_btree.proofs.Lists.{same_cases, same_self}
use Rattle.tuple_file.specs.Page.{IsTuples, HasAt, tuple_at, some}
use Rattle.tuple_file.specs.File.{bytes_of, page_of, slot_of, tuple_of, tuple_places, homes, IsHoused}
use Rattle.tuple_file.specs.Steps.{Left, Gone}
use Rattle.tuple_file.proofs.Counts.{times-up, none_home, found_leads, page_back, slot_back}
use Rattle.tuple_file.proofs.Houses.{by_test, tuple_here, tuple_same, leads_home}
use Rattle.tuple_file.proofs.Puts.{one_place, apart_slots, apart_pages}

-- The tuple at place v was taken, page n has others or is freed, and no other tuple of the file was touched.
pub record Vacated (m w : Store) (es fs : List Pair) (n slot v : ℕ) (freed : Bool) : Type 0 where
  pub page_is : page_of v ≡ n
  pub slot_is : slot_of v ≡ slot
  pub home : (q : ℕ) → 1 ≤ times q (homes es) → same q n ≡ 0 → w q ≡ m q
  pub left : freed ≡ false → Left m w n slot
  pub gone : freed ≡ true → Gone m w n slot
  pub page_count : (q : ℕ) → times q (homes es) ≡ same q n + times q (homes fs)
  pub place_count : (y : ℕ) → times y (tuple_places es) ≡ same y v + times y (tuple_places fs)

-- page n was one of the file
own : (m w : Store) (es fs : List Pair) (n slot v : ℕ) (freed : Bool) → Vacated m w es fs n slot v freed → (y : ℕ) → page_of y ≡ n → 1 ≤ times (page_of y) (homes es)
own m w es fs n slot v freed p y e = omega (arith, p.page_count n, same_self n, ap (λ (k : ℕ). times k (homes es)) e)

-- no id leads to the place any more
unled : (m w : Store) (es fs : List Pair) (n slot v : ℕ) (freed : Bool) → IsHoused m es → Vacated m w es fs n slot v freed → times v (tuple_places fs) ≡ 0
unled m w es fs n slot v freed h p = omega (arith, p.place_count v, same_self v, h.led v (own m w es fs n slot v freed p v p.page_is), some_small (tuple_of m v))
  where
    some_small : (xs : List ℕ) → some xs ≤ 1
    some_small [] = omega arith
    some_small (x ∷ xs) = omega arith

-- a page with a tuple left is still one of the file
pub home_left : (m w : Store) (es fs : List Pair) (n slot v : ℕ) (freed : Bool) → IsHoused m es → Vacated m w es fs n slot v freed → Left m w n slot → 1 ≤ times n (homes fs)
home_left m w es fs n slot v freed h p l =
    let k : ℕ = l.one.0 in
    let y : ℕ = n * 65536 + k in
    let small : k < 65536 = omega (arith, l.one.1.0) in
    let page_is : page_of y ≡ n = page_back n k small in
    let slot_is : slot_of y ≡ k = slot_back n k small in
    let has = l.one.1.1 in
    let d : k ≢ slot = λ e. absurd (omega (arith, has, ap (λ (b : List ℕ). some b) (ap (λ (j : ℕ). tuple_at (bytes_of (w n)) j) e ∙ l.cleared.here))) in
    let one : some (tuple_of m y) ≡ 1 = ap (λ (b : List ℕ). some b) (tuple_here m y n k page_is slot_is ∙ sym (l.cleared.others k d)) ∙ has in
    let far : slot_of y ≢ slot = λ e. d (sym slot_is ∙ e) in
    omega (arith, one, h.led y (own m w es fs n slot v freed p y page_is), p.place_count y, apart_slots y v slot p.slot_is far, times-up y fs, ap (λ (j : ℕ). times j (homes fs)) page_is)

-- a page without a tuple is none of the file
pub home_gone : (m w : Store) (es fs : List Pair) (n slot v : ℕ) (freed : Bool) → IsHoused m es → Vacated m w es fs n slot v freed → Gone m w n slot → times n (homes fs) ≡ 0
home_gone m w es fs n slot v freed h p g =
    none_home n fs (λ y e. elim (eqb_tells (slot_of y) slot) [
      | inl z ↦ ap (λ (k : ℕ). times k (tuple_places fs)) (one_place y v n slot e z.1 p.page_is p.slot_is) ∙ unled m w es fs n slot v freed h p
      | inr z ↦ omega (arith, h.led y (own m w es fs n slot v freed p y e), p.place_count y, ap (λ (b : List ℕ). some b) (tuple_here m y n (slot_of y) e refl ∙ g.bare (slot_of y) z.1))
    ])

other_place : (m w : Store) (n slot : ℕ) → Left m w n slot → (y : ℕ) → page_of y ≡ n → slot_of y ≢ slot → tuple_of w y ≡ tuple_of m y
other_place m w n slot l y e d = tuple_here w y n (slot_of y) e refl ∙ (l.cleared.others (slot_of y) d ∙ sym (tuple_here m y n (slot_of y) e refl))

-- where an id still leads to page n, it was not freed
still : (m w : Store) (es fs : List Pair) (n slot v : ℕ) (freed : Bool) → IsHoused m es → Vacated m w es fs n slot v freed → 1 ≤ times n (homes fs) → Left m w n slot
still m w es fs n slot v freed h p l = by_test freed p.left (λ e. absurd (omega (arith, l, home_gone m w es fs n slot v freed h p (p.gone e))))

pub tuples_stay : (m w : Store) (es fs : List Pair) (n slot v : ℕ) (freed : Bool) → IsHoused m es → Vacated m w es fs n slot v freed → (y : ℕ)
    → 1 ≤ times y (tuple_places fs) → tuple_of w y ≡ tuple_of m y
tuples_stay m w es fs n slot v freed h p y l = elim (same_cases (page_of y) n) [
  | inl j ↦ elim (eqb_tells (slot_of y) slot) [
    | inl z ↦ absurd (omega (arith, l, unled m w es fs n slot v freed h p, ap (λ (k : ℕ). times k (tuple_places fs)) (one_place y v n slot j.1 z.1 p.page_is p.slot_is)))
    | inr z ↦ other_place m w n slot (still m w es fs n slot v freed h p (omega (arith, l, times-up y fs, ap (λ (k : ℕ). times k (homes fs)) j.1))) y j.1 z.1
  ]
  | inr j ↦ tuple_same m w y (p.home (page_of y) (omega (arith, l, times-up y fs, p.page_count (page_of y))) j.0)
]

pub houses_take : (m w : Store) (es fs : List Pair) (n slot v : ℕ) (freed : Bool) → IsHoused m es → Vacated m w es fs n slot v freed → IsHoused w fs
houses_take m w es fs n slot v freed h p = record {
  sound = λ q l.
      let P : Option (List ℕ) → Type 0 = λ o. IsTuples (bytes_of o) in
      let Q : ℕ → Type 0 = λ k. IsTuples (bytes_of (w k)) in
      elim (same_cases q n) [
        | inl j ↦ subst Q (sym j.1) (still m w es fs n slot v freed h p (omega (arith, l, ap (λ (k : ℕ). times k (homes fs)) j.1))).cleared.sound
        | inr j ↦ let k : 1 ≤ times q (homes es) = omega (arith, l, p.page_count q) in subst P (sym (p.home q k j.0)) (h.sound q k)
      ];
  led = λ y l. elim (same_cases (page_of y) n) [
    | inl j ↦
        let t : Left m w n slot = still m w es fs n slot v freed h p (omega (arith, l, ap (λ (k : ℕ). times k (homes fs)) j.1)) in
        elim (eqb_tells (slot_of y) slot) [
          | inl z ↦
              omega (
                arith,
                unled m w es fs n slot v freed h p,
                ap (λ (k : ℕ). times k (tuple_places fs)) (one_place y v n slot j.1 z.1 p.page_is p.slot_is),
                ap (λ (b : List ℕ). some b) (tuple_here w y n slot j.1 z.1 ∙ t.cleared.here),
              )
          | inr z ↦
              omega (arith, p.place_count y, apart_slots y v slot p.slot_is z.1, h.led y (own m w es fs n slot v freed p y j.1), ap (λ (b : List ℕ). some b) (other_place m w n slot t y j.1 z.1))
        ]
    | inr j ↦
        let k : 1 ≤ times (page_of y) (homes es) = omega (arith, l, p.page_count (page_of y)) in
        omega (arith, p.place_count y, apart_pages y v n p.page_is j.0, h.led y k, ap (λ (b : List ℕ). some b) (tuple_same m w y (p.home (page_of y) k j.0)))
  ];
}

-- The newest page is as before, or none; and it isn't one that was freed.
pub record IsNewest (old new : Option ℕ) (n : ℕ) (freed : Bool) : Type 0 where
  pub same_page : (q : ℕ) → new ≡ Some q → old ≡ Some q
  pub is_left : (q : ℕ) → freed ≡ true → new ≡ Some q → q ≢ n
  pub kept : (q : ℕ) → old ≡ Some q → (freed ≡ true → q ≢ n) → new ≡ Some q

-- a tuple to which an id leads still lies where it lay
pub has_take : (m w : Store) (es fs : List Pair) (n slot v : ℕ) (freed : Bool) → IsHoused m es → Vacated m w es fs n slot v freed → (i page at from count : ℕ)
    → find_item i es ≡ Some (page * 65536 + at)
    → find_item i fs ≡ Some (page * 65536 + at) → HasAt (bytes_of (m page)) at from count → HasAt (bytes_of (w page)) at from count
has_take m w es fs n slot v freed h p i page at from count led leads has =
    let y : ℕ = page * 65536 + at in
    let small : at < 65536 = omega (arith, has.there) in
    let here : 1 ≤ times y (tuple_places fs) = found_leads i y fs leads in
    elim (same_cases page n) [
      | inl j ↦
          let P : ℕ → Type 0 = λ k. HasAt (bytes_of (m k)) at from count in
          let Q : ℕ → Type 0 = λ k. HasAt (bytes_of (w k)) at from count in
          let e : page_of y ≡ n = page_back page at small ∙ j.1 in
          elim (eqb_tells at slot) [
            | inl z ↦ absurd (omega (
              arith,
              here,
              unled m w es fs n slot v freed h p,
              ap (λ (k : ℕ). times k (tuple_places fs)) (one_place y v n slot e (slot_back page at small ∙ z.1) p.page_is p.slot_is),
            ))
            | inr z ↦
                let t : Left m w n slot = still m w es fs n slot v freed h p (omega (arith, here, times-up y fs, ap (λ (k : ℕ). times k (homes fs)) e)) in
                subst Q (sym j.1) (t.cleared.stays at from count z.1 (subst P j.1 has))
          ]
      | inr j ↦
          let R : Option (List ℕ) → Type 0 = λ o. HasAt (bytes_of o) at from count in
          subst R (sym (p.home page (leads_home es i page at small led) j.0)) has
    ]
