-- What a row of the search does to the left rows that wait; and the beginning and the end.
use Rattle.std.proofs.Common.{◌≡◌, ℕ, ◌<◌, ◌≤◌, Bool, true, false, not, ◌&&◌, List, length, Contains, Option, None, Some, ◌⊎◌, inl, inr, ⊎_elim, refl, sym, ap, ◌∙◌, subst, arith}
use Rattle.std.proofs.Common.{true≢false, Ordering, nat_eq, nat_lt}
use Rattle.std.specs.FinSet as set
use Rattle.std.proofs.lemmas.Bool.{not-true, and_from, and_parts, and_cases, lt-ltb, ltb-true, ltb-false, ne_eqb, cases_eq}
use Rattle.std.proofs.lemmas.List.Elements.{All-contains, All-weaker}
use Rattle.best_first.specs.declared.hit.Hit.{Hit}
use Rattle.best_first.specs.Hierarchy.{Meaning}
use Rattle.best_first.specs.Answer.{IsAnswer}
use Rattle.best_first.specs.Wanted.{IsFirstWanted, HasNoneWanted}
use Rattle.best_first.proofs.Bags.{All-by}
use Rattle.semi_join.specs.LeftRows.{LeftRows, gives, is_waiting}
use Rattle.semi_join.specs.FirstPairs.{IsFirstPair, AreAllGiven, HasLefts, AreWaiting}
use Rattle.semi_join.proofs.Bits.{put_has, put_keeps, put_others}
use Rattle.semi_join.proofs.Remaining.{dropped}

-- a left row that waits was not given
pub not_given : (lefts : LeftRows) (id : ℕ) → is_waiting lefts id ≡ true → set.contains lefts.given id ≡ false
not_given lefts id e = not-true (set.contains lefts.given id) (and_parts (not (set.contains lefts.given id)) (nat_lt id lefts.below) e).0

-- and has a bit
pub has_a_bit : (lefts : LeftRows) (id : ℕ) → is_waiting lefts id ≡ true → id < lefts.below
has_a_bit lefts id e = ltb-true id lefts.below (and_parts (not (set.contains lefts.given id)) (nat_lt id lefts.below) e).1

-- one less waits once the left row was given
pub one_less : (lefts : LeftRows) (given id : ℕ) → is_waiting (gives given lefts) id ≡ true → (not (nat_eq id given) && is_waiting lefts id) ≡ true
one_less lefts given id e =
    let out = not_given (gives given lefts) id e in
    let below = has_a_bit (gives given lefts) id e in
    let other : id ≡ given → ⊥ = λ same. true≢false (sym (put_has lefts.given given id same) ∙ out) in
    let before : set.contains lefts.given id ≡ false = sym (put_others lefts.given given id other) ∙ out in
    and_from (not (nat_eq id given)) (is_waiting lefts id) (ap not (ne_eqb id given other))
    (and_from (not (set.contains lefts.given id)) (nat_lt id lefts.below) (ap not before) (lt-ltb id lefts.below below))

module _ {N : Type 0} (m : Meaning N) (lefts : LeftRows) (wait : AreWaiting m lefts) where
  -- the left row of a row that was not given waits
  pub waits : (hit : Hit) → Contains m.rows hit → set.contains lefts.given hit.left ≡ false → is_waiting lefts hit.left ≡ true
  waits hit at fresh =
      ⊎_elim
      (λ given. absurd (true≢false (sym given ∙ fresh)))
      (λ w.
      and_from (not (set.contains lefts.given hit.left)) (nat_lt hit.left lefts.below) (ap not fresh)
      (lt-ltb hit.left lefts.below (All-contains (λ id. id < lefts.below) wait.rest hit.left wait.small w)))
      (wait.among hit at)

  -- and one that doesn't wait was given
  pub was_given : (hit : Hit) → Contains m.rows hit → is_waiting lefts hit.left ≡ false → set.contains lefts.given hit.left ≡ true
  was_given hit at out =
      let go : (b : Bool) → set.contains lefts.given hit.left ≡ b → b ≡ true = elim [ true ↦ λ e. refl | false ↦ λ e. absurd (true≢false (sym (waits hit at e) ∙ out)) ] in
      go (set.contains lefts.given hit.left) refl

  -- the first row whose left row waits is the next first pair
  pub is_first_pair : (hit : Hit) → IsFirstWanted m (is_waiting lefts) hit → IsFirstPair m lefts.given hit
  is_first_pair hit first = record {
    row = first.row;
    same = first.same;
    answer = first.answer;
    fresh = not_given lefts first.row.left first.wanted;
    first = λ other answer open_. first.first other answer (waits other answer.0 open_);
  }

  -- and the other way round
  pub is_wanted_first : (hit : Hit) → IsFirstPair m lefts.given hit → IsFirstWanted m (is_waiting lefts) hit
  is_wanted_first hit pair = record {
    row = pair.row;
    same = pair.same;
    answer = pair.answer;
    wanted = waits pair.row pair.answer.0 pair.fresh;
    first = λ other answer w. pair.first other answer (not_given lefts other.left w);
  }

  -- where no row's left row waits, each left id was given
  pub all_given : HasNoneWanted m (is_waiting lefts) → AreAllGiven m lefts.given
  all_given none hit answer = was_given hit answer.0 (none hit answer)

  -- where no left row waits too
  pub none_waits : lefts.waiting ≡ 0 → AreAllGiven m lefts.given
  none_waits e hit answer = ⊎_elim (λ given. given) (λ w. absurd (empty_has_none wait.rest hit.left (wait.count ∙ e) w)) (wait.among hit answer.0)
    where
      empty_has_none : (ids : List ℕ) (id : ℕ) → length ids ≡ 0 → Contains ids id → ⊥
      empty_has_none ids id e (k, below, is) = omega arith

  -- the left row of the row is given, and the others wait as before
  pub given_now : (hit : Hit) → IsFirstWanted m (is_waiting lefts) hit → AreWaiting m (gives hit.left lefts)
  given_now hit first =
      let fresh = not_given lefts first.row.left first.wanted in
      let waits : Contains wait.rest hit.left = ⊎_elim (λ given. absurd (true≢false (sym given ∙ fresh))) (λ w. subst (Contains wait.rest) first.same.1 w) (wait.among first.row first.answer.0) in
      let d = dropped hit.left wait.rest waits in
      record {
        rest = d.rest;
        count = let a = d.count in let b = wait.count in omega arith;
        small = All-by (λ id. id < lefts.below) d.rest (λ id at. All-contains (λ id. id < lefts.below) wait.rest id wait.small (d.few id at));
        among = λ other at.
            ⊎_elim
            (λ given. inl (put_keeps lefts.given hit.left other.left given))
            (λ w. ⊎_elim (λ e. inl (put_has lefts.given hit.left other.left e)) inr (d.cases other.left w))
            (wait.among other at);
      }

-- at the beginning all left rows wait
pub begun : {N : Type 0} (m : Meaning N) (lefts greatest : ℕ) (rows : LeftRows) → HasLefts m lefts greatest → greatest < rows.below → rows.waiting ≡ lefts → AreWaiting m rows
begun m lefts greatest rows has below waits = record {
  rest = has.ids;
  count = has.count ∙ sym waits;
  small = All-weaker (λ id. id ≤ greatest) (λ id. id < rows.below) (λ id small. omega arith) has.ids has.small;
  among = λ hit at. inr (has.among hit at);
}
