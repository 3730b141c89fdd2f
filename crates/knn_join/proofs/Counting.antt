-- What a row of the search does to the counts: it is passed over, or it is the next partner. And the beginning and the end.
use Rattle.std.proofs.Common.{◌≡◌, ◌⊎◌, inl, inr, ⊎_elim, ℕ, suc, ◌+◌, ◌*◌, ◌<◌, ◌≤◌, min, Bool, true, false, cond, List, [], ◌∷◌, length, get_or, set, Contains, Option}
use Rattle.std.proofs.Common.{None, Some, refl, sym, ap, ap₂, ◌∙◌, subst, arith, get_or-set_same, get_or-set_other}
use Rattle.std.specs.Prelude.{nat_eq}
use Rattle.std.proofs.lemmas.Bool.{eqb-true, eq-eqb}
use Rattle.std.proofs.lemmas.List.{length-set}
use Rattle.std.proofs.lemmas.List.Elements.{All-contains}
use Rattle.sand_model.specs.Sources.{Found}
use Rattle.best_first.specs.declared.hit.Hit.{Hit}
use Rattle.best_first.specs.Hierarchy.{Meaning, MeetsLaws}
use Rattle.best_first.proofs.Bags.{from_filter}
use Rattle.best_first.proofs.Gaps.{same_back, same_trans}
use Rattle.semi_join.specs.Listed.{ListsAnswer}
use Rattle.sand_model.specs.Sources.{with_one_more, nearest_after, nearest_of}
use Rattle.knn_join.specs.PartnerCounts.{PartnerCounts, given_to, gives_to}
use Rattle.knn_join.specs.Listed.{comes_after, later_than, partners_left}
use Rattle.knn_join.specs.Standing.{how_often, with_left, HasSides, AreCountedUpTo}
use Rattle.knn_join.proofs.Nearests.{same_nearest, passed_first, taken_first, none_nearest}
use Rattle.knn_join.proofs.Tallies.{copies, copies_long, copies_often, Leaves, leaves, left_first, left_more, left_other, left_in, HaveOneGap, few_partners}

-- ---- the counts

-- a left row that is given a partner has one more
pub one_more_given : (counts : PartnerCounts) (id : ℕ) → id < length counts.given → (other : ℕ) → given_to (gives_to id counts) other ≡ with_one_more (given_to counts) id other
one_more_given counts id inside other =
    let go : (t : Bool) → nat_eq other id ≡ t → get_or (set counts.given id (suc (given_to counts id))) other 0 ≡ cond t (suc (given_to counts other)) (given_to counts other) = elim [
      | true ↦ λ e.
          let same = eqb-true other id e in
          ap (λ n. get_or (set counts.given id (suc (given_to counts id))) n 0) same
          ∙ get_or-set_same counts.given id (suc (given_to counts id)) 0 inside
          ∙ ap (λ n. suc (given_to counts n)) (sym same)
      | false ↦ λ e. get_or-set_other counts.given id other (suc (given_to counts id)) 0 (λ same. Rattle.std.proofs.Common.true≢false (sym (eq-eqb other id same) ∙ e))
    ] in
    go (nat_eq other id) refl

-- the left id itself, and any other
given_same : (counts : PartnerCounts) (id : ℕ) → id < length counts.given → given_to (gives_to id counts) id ≡ suc (given_to counts id)
given_same counts id inside = get_or-set_same counts.given id (suc (given_to counts id)) 0 inside

given_other : (counts : PartnerCounts) (id : ℕ) → id < length counts.given → (other : ℕ) → nat_eq other id ≡ false → given_to (gives_to id counts) other ≡ given_to counts other
given_other counts id inside other e = one_more_given counts id inside other ∙ ap (λ (t : Bool). cond t (suc (given_to counts other)) (given_to counts other)) e

module _ (answer : List Found) (last : Option Hit) (hit : Hit) (f : Found) (is : later_than last answer ≡ f ∷ later_than (Some hit) answer) (among : Contains answer f) (same : hit.left ≡ f.left)
    (counts : PartnerCounts) (upto : AreCountedUpTo answer last counts) where
  -- how many of each left id came later
  later_first : with_left f.left (later_than last answer) ≡ suc (with_left f.left (later_than (Some hit) answer))
  later_first = ap (with_left f.left) is ∙ left_first f (later_than (Some hit) answer)

  later_less : (id : ℕ) → with_left id (later_than (Some hit) answer) ≤ with_left id (later_than last answer)
  later_less id = subst (λ l. with_left id (later_than (Some hit) answer) ≤ with_left id l) (sym is) (left_more id f (later_than (Some hit) answer))

  later_same : (id : ℕ) → nat_eq f.left id ≡ false → with_left id (later_than last answer) ≡ with_left id (later_than (Some hit) answer)
  later_same id e = ap (with_left id) is ∙ left_other id f (later_than (Some hit) answer) e

  -- the left row of the next row has a place, unless it was given the most partners
  pub was_full : (length counts.given ≤ hit.left) ⊎ (counts.most ≤ given_to counts hit.left) → counts.most ≤ given_to counts f.left
  was_full why =
      ⊎_elim
      (λ none. absurd (let place = upto.places f among in let no_place : ⊥ = omega arith in no_place))
      (λ full. subst (λ id. counts.most ≤ given_to counts id) same full)
      why

  -- a row whose left row was given the most partners is passed over
  pub passed_over : AreCountedUpTo answer (Some hit) counts
  passed_over = record {
    rights = upto.rights;
    rest = upto.rest;
    count = upto.count;
    enough = upto.enough;
    places = upto.places;
    came = λ id. let less = later_less id in let before = upto.came id in omega arith;
    few = upto.few;
  }

  pub passes_left : counts.most ≤ given_to counts f.left → partners_left last counts answer ≡ partners_left (Some hit) counts answer
  passes_left full = ap (nearest_after counts.most (given_to counts)) is ∙ passed_first counts.most (given_to counts) f (later_than (Some hit) answer) full

  -- any other is the next partner
  pub takes_left : given_to counts hit.left < counts.most → hit.left < length counts.given → partners_left last counts answer ≡ f ∷ partners_left (Some hit) (gives_to hit.left counts) answer
  takes_left open_ inside =
      ap (nearest_after counts.most (given_to counts)) is
      ∙ taken_first counts.most (given_to counts) f (later_than (Some hit) answer) (subst (λ id. given_to counts id < counts.most) same open_)
      ∙ ap (λ l. f ∷ l) (same_nearest counts.most (with_one_more (given_to counts) f.left) (given_to (gives_to hit.left counts)) (later_than (Some hit) answer)
      (λ id. ap (min counts.most) (sym (one_more_given counts hit.left inside id ∙ ap (λ n. with_one_more (given_to counts) n id) same))))

  -- and its left row has one more from then on
  pub given_now : given_to counts hit.left < counts.most → hit.left < length counts.given → AreCountedUpTo answer (Some hit) (gives_to hit.left counts)
  given_now open_ inside =
      let at_left : given_to counts f.left ≡ given_to counts hit.left = ap (given_to counts) (sym same) in
      let more : 1 ≤ how_often f.left upto.rest =
      (let first = later_first in let all = upto.came f.left in let few = upto.few f.left in let enough = upto.enough f among in omega arith) in
      let l = leaves f.left upto.rest more in
      let now = gives_to hit.left counts in
      let twice : given_to now f.left ≡ suc (given_to counts f.left) =
      subst (λ id. given_to (gives_to id counts) f.left ≡ suc (given_to counts f.left)) (sym same) (given_same counts f.left (subst (λ id. id < length counts.given) same inside)) in
      let others : (id : ℕ) → nat_eq id f.left ≡ false → given_to now id ≡ given_to counts id = λ id e. given_other counts hit.left inside id (subst (λ n. nat_eq id n ≡ false) (sym same) e) in
      record {
        rights = upto.rights;
        rest = l.rest;
        count = let long = l.count in let all = upto.count in omega arith;
        enough = λ g at. enough_now g.left l twice others (upto.enough g at);
        places = λ g at. let place = upto.places g at in let long = length-set counts.given hit.left (suc (given_to counts hit.left)) in omega arith;
        came = λ id. came_now id twice others (upto.came id);
        few = upto.few;
      }
    where
      enough_now : (id : ℕ) (l : Leaves f.left upto.rest) → given_to (gives_to hit.left counts) f.left ≡ suc (given_to counts f.left)
          → ((id : ℕ) → nat_eq id f.left ≡ false → given_to (gives_to hit.left counts) id ≡ given_to counts id)
          → min counts.most upto.rights ≤ given_to counts id + how_often id upto.rest → min counts.most upto.rights ≤ given_to (gives_to hit.left counts) id + how_often id l.rest
      enough_now id l twice others enough =
          let go : (t : Bool) → nat_eq id f.left ≡ t → min counts.most upto.rights ≤ given_to (gives_to hit.left counts) id + how_often id l.rest = elim [
            | true ↦ λ e.
                let it = eqb-true id f.left e in
                subst (λ n. min counts.most upto.rights ≤ given_to (gives_to hit.left counts) n + how_often n l.rest) (sym it)
                (let before : min counts.most upto.rights ≤ given_to counts f.left + how_often f.left upto.rest =
                subst (λ n. min counts.most upto.rights ≤ given_to counts n + how_often n upto.rest) it enough in
                let fewer = l.here in
                omega arith)
            | false ↦ λ e. let one = others id e in let two = l.others id e in omega arith
          ] in
          go (nat_eq id f.left) refl

      came_now : (id : ℕ) → given_to (gives_to hit.left counts) f.left ≡ suc (given_to counts f.left)
          → ((id : ℕ) → nat_eq id f.left ≡ false → given_to (gives_to hit.left counts) id ≡ given_to counts id)
          → given_to counts id + with_left id (later_than last answer) ≤ with_left id answer
          → given_to (gives_to hit.left counts) id + with_left id (later_than (Some hit) answer) ≤ with_left id answer
      came_now id twice others came =
          let go : (t : Bool) → nat_eq id f.left ≡ t → given_to (gives_to hit.left counts) id + with_left id (later_than (Some hit) answer) ≤ with_left id answer = elim [
            | true ↦ λ e.
                let it = eqb-true id f.left e in
                subst (λ n. given_to (gives_to hit.left counts) n + with_left n (later_than (Some hit) answer) ≤ with_left n answer) (sym it)
                (let before : given_to counts f.left + with_left f.left (later_than last answer) ≤ with_left f.left answer =
                subst (λ n. given_to counts n + with_left n (later_than last answer) ≤ with_left n answer) it came in
                let first = later_first in
                omega arith)
            | false ↦ λ e. let one = others id e in let less = later_less id in omega arith
          ] in
          go (nat_eq id f.left) refl

-- ---- the end

-- no id of an empty list
none_often : (id : ℕ) (ids : List ℕ) → length ids ≡ 0 → how_often id ids ≡ 0
none_often id [] e = refl
none_often id (x ∷ xs) e = absurd (let clash : ⊥ = omega arith in clash)

-- where no row is to come nothing is left
pub none_waits : (answer : List Found) (last : Option Hit) (counts : PartnerCounts) → AreCountedUpTo answer last counts → counts.waiting ≡ 0 → partners_left last counts answer ≡ []
none_waits answer last counts upto none =
    none_nearest counts.most (given_to counts) (later_than last answer) (λ f at.
    let empty = none_often f.left upto.rest (upto.count ∙ none) in
    let enough = upto.enough f (from_filter (comes_after last) answer f at).0 in
    let some = left_in f (later_than last answer) at in
    let came = upto.came f.left in
    let few = upto.few f.left in
    omega arith)

-- ---- the beginning

-- the whole list comes after no row
pub all_later : (answer : List Found) → later_than None answer ≡ answer
all_later [] = refl
all_later (f ∷ fs) = ap (λ l. f ∷ l) (all_later fs)

-- what is left is the answer, told from scratch
pub all_left : (answer : List Found) (last : Option Hit) (counts : PartnerCounts) → last ≡ None → ((id : ℕ) → given_to counts id ≡ 0) → partners_left last counts answer ≡ nearest_of counts.most answer
all_left answer last counts none zeros =
    ap (λ l. nearest_after counts.most (given_to counts) (later_than l answer)) none
    ∙ ap (nearest_after counts.most (given_to counts)) (all_later answer)
    ∙ same_nearest counts.most (given_to counts) (λ id. 0) answer (λ id. ap (min counts.most) (zeros id))

-- rows of one pair have one gap
one_gap : {N : Type 0} (m : Meaning N) (answer : List Found) → MeetsLaws m → ListsAnswer m answer → HaveOneGap answer
one_gap m answer laws lists f g at too left right =
    let o = lists.only f at in
    let p = lists.only g too in
    let between = laws.once o.row p.row o.answer.0 p.answer.0 (o.same.1 ∙ left ∙ sym p.same.1) (o.same.2 ∙ right ∙ sym p.same.2) in
    same_trans f.gap o.row.gap g.gap (same_back o.row.gap f.gap o.same.0) (same_trans o.row.gap p.row.gap g.gap between p.same.0)

-- at the beginning all rows are to come
pub begun : {N : Type 0} (m : Meaning N) (lefts rights greatest : ℕ) (counts : PartnerCounts) → MeetsLaws m → HasSides m lefts rights greatest
    → ((id : ℕ) → given_to counts id ≡ 0) → greatest < length counts.given → counts.waiting ≡ lefts * min counts.most rights
    → (answer : List Found) → ListsAnswer m answer → AreCountedUpTo answer None counts
begun m lefts rights greatest counts laws sides zeros places waits answer lists = record {
  rights = rights;
  rest = copies (min counts.most rights) sides.left_ids;
  count = copies_long (min counts.most rights) sides.left_ids ∙ ap (λ n. n * min counts.most rights) sides.left_count ∙ sym waits;
  enough = λ f at. let zero_now = zeros f.left in let often = copies_often (min counts.most rights) f.left sides.left_ids (on_left f at) in omega arith;
  places = λ f at. let small = All-contains (λ id. id ≤ greatest) sides.left_ids f.left sides.small (on_left f at) in omega arith;
  came = λ id. let zero_now = zeros id in let all = ap (with_left id) (all_later answer) in omega arith;
  few = λ id. subst (λ n. with_left id answer ≤ n) sides.right_count (few_partners id answer lists.rising (one_gap m answer laws lists) sides.right_ids (λ f at e. on_right f at));
}
  where
    on_left : (f : Found) → Contains answer f → Contains sides.left_ids f.left
    on_left f at = let o = lists.only f at in subst (Contains sides.left_ids) o.same.1 (sides.on_left o.row o.answer.0)

    on_right : (f : Found) → Contains answer f → Contains sides.right_ids f.right
    on_right f at = let o = lists.only f at in subst (Contains sides.right_ids) o.same.2 (sides.on_right o.row o.answer.0)
