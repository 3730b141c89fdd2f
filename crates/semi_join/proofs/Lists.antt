-- The first pairs of a list: what is left of them once more left ids were given.
use Rattle.std.proofs.Common.{◌≡◌, ℕ, Bool, true, false, not, cond, List, [], ◌∷◌, filter, Contains, Option, None, Some, IfSome, Result, Ok, Err, ◌⊎◌, inl, inr, ⊎_elim}
use Rattle.std.proofs.Common.{refl, sym, ap, ◌∙◌, subst, true≢false, Less}
use Rattle.std.specs.Prelude.{nat_eq}
use Rattle.std.specs.Ordering.{is_gt, ordering_reverse}
use Rattle.std.specs.Cmp.{alike_right}
use Rattle.std.specs.List.Sorted.{IsStrictlySortedBy}
use Rattle.std.specs.FinSet as set
use Rattle.std.proofs.lemmas.Bool.{eqb-true, eqb-false, cases_eq}
use Rattle.std.proofs.lemmas.List.Elements.{All-contains, filter_agree}
use Rattle.std.proofs.lemmas.Map.Views.{All-after_first}
use Rattle.page_pool.specs.Disk.{PageMap}
use Rattle.page_pool.specs.declared.fault.PageFault.{PageFault}
use Rattle.sand_model.specs.Sources.{Found, found_cmp, first_of_each}
use Rattle.best_first.specs.declared.hit.Hit.{Hit}
use Rattle.best_first.specs.Item.{IsSameRow}
use Rattle.best_first.specs.Hierarchy.{Meaning}
use Rattle.best_first.specs.Answer.{hit_cmp}
use Rattle.best_first.proofs.Bags.{here, there, cons_cases, none}
use Rattle.best_first.proofs.Gaps.{same_back, same_trans}
use Rattle.best_first.proofs.Alikes.{rows_tied}
use Rattle.semi_join.specs.LeftRows.{IdSet, LeftRows, GivesLeft}
use Rattle.semi_join.specs.FirstPairs.{IsFirstPair, GivesFirstPair}
use Rattle.semi_join.specs.Listed.{hit_of, ListsAnswer, pairs_left, TakesFirst}
use Rattle.semi_join.proofs.Bits.{put_has, put_keeps, put_others}
use Rattle.semi_join.proofs.Rows.{rows_total}

keep : IdSet → Found → Bool
keep given found = not (set.contains given found.left)

other_left : ℕ → Found → Bool
other_left id found = not (nat_eq found.left id)

step : (x : Found) (p q r : Bool) (xs ys : List Found) (given : IdSet) → (q ≡ true → r ≡ p) → (q ≡ false → r ≡ false) → filter (keep given) xs ≡ ys → p ≡ keep given x
    → filter (keep given) (cond q (x ∷ xs) xs) ≡ cond r (x ∷ ys) ys
step x p true r xs ys given yes_ no_ e is = ap (λ l. cond (keep given x) (x ∷ l) l) e ∙ ap (λ b. cond b (x ∷ ys) ys) (sym is ∙ sym (yes_ refl))
step x p false r xs ys given yes_ no_ e is = e ∙ ap (λ b. cond b (x ∷ ys) ys) (sym (no_ refl))

-- to leave out one left id more is to leave out all that were given and it
put_twice : (given : IdSet) (id : ℕ) (xs : List Found) → filter (keep given) (filter (other_left id) xs) ≡ filter (keep (set.insert given id)) xs
unfolding keep other_left
put_twice given id [] = refl
put_twice given id (x ∷ xs) =
    step x (keep given x) (other_left id x) (keep (set.insert given id) x) (filter (other_left id) xs) (filter (keep (set.insert given id)) xs) given
    (λ e. ap not (put_others given id x.left (λ same. true≢false (sym e ∙ ap not (Rattle.std.proofs.lemmas.Bool.eq-eqb x.left id same)))))
    (λ e. ap not (put_has given id x.left (eqb-true x.left id (Rattle.std.proofs.lemmas.Bool.not-false (nat_eq x.left id) e))))
    (put_twice given id xs) refl

put_again : (given : IdSet) (id : ℕ) → set.contains given id ≡ true → (q : ℕ) → set.contains (set.insert given id) q ≡ set.contains given q
put_again given id e q = ⊎_elim (λ same. put_has given id q same ∙ sym (ap (set.contains given) same ∙ e)) (λ other. put_others given id q other) (cases_eq q id)

-- an element whose left id was given adds nothing
pairs_given : (given : IdSet) (x : Found) (xs : List Found) → set.contains given x.left ≡ true → pairs_left given (x ∷ xs) ≡ pairs_left given xs
unfolding keep other_left
pairs_given given x xs e =
    let rest = filter (keep given) (filter (other_left x.left) (first_of_each xs)) in
    ap (λ b. cond (not b) (x ∷ rest) rest) e
    ∙ put_twice given x.left (first_of_each xs)
    ∙ filter_agree (keep (set.insert given x.left)) (keep given) (λ f. ap not (put_again given x.left e f.left)) (first_of_each xs)

-- and any other is the first that is left
pairs_fresh : (given : IdSet) (x : Found) (xs : List Found) → set.contains given x.left ≡ false → pairs_left given (x ∷ xs) ≡ x ∷ pairs_left (set.insert given x.left) (x ∷ xs)
unfolding keep other_left
pairs_fresh given x xs e =
    let rest = filter (keep given) (filter (other_left x.left) (first_of_each xs)) in
    ap (λ b. cond (not b) (x ∷ rest) rest) e
    ∙ ap (λ l. x ∷ l) (put_twice given x.left (first_of_each xs) ∙ sym (pairs_given (set.insert given x.left) x xs (put_has given x.left x.left refl)))

-- where all left ids were given nothing is left
none_left : (given : IdSet) (xs : List Found) → ((found : Found) → Contains xs found → set.contains given found.left ≡ true) → pairs_left given xs ≡ []
none_left given [] all = refl
none_left given (x ∷ xs) all = pairs_given given x xs (all x (here x xs)) ∙ none_left given xs (λ f at. all f (there x xs f at))

-- The first element that is left, with what is left after it; any other element whose left id was not given comes after it.
record FirstLeft (given : IdSet) (xs : List Found) : Type 0 where
  found : Found
  among : Contains xs found
  fresh : set.contains given found.left ≡ false
  is : pairs_left given xs ≡ found ∷ pairs_left (set.insert given found.left) xs
  before : (other : Found) → Contains xs other → set.contains given other.left ≡ false → (found ≡ other) ⊎ (found_cmp found other ≡ Less)

rest_rises : (x : Found) (xs : List Found) → IsStrictlySortedBy found_cmp (x ∷ xs) → IsStrictlySortedBy found_cmp xs
unfolding IsStrictlySortedBy
rest_rises x xs h = h.1

first_left : (given : IdSet) (xs : List Found) → IsStrictlySortedBy found_cmp xs → (f : Found) → Contains xs f → set.contains given f.left ≡ false → FirstLeft given xs
first_left given [] rises f at fresh = absurd (none f at)
first_left given (x ∷ xs) rises f at fresh =
    let go : (b : Bool) → set.contains given x.left ≡ b → FirstLeft given (x ∷ xs) = elim [
      | true ↦ λ e.
          let not_x = λ (other : Found) (is : x ≡ other) (open_ : set.contains given other.left ≡ false).
          (let no_way : ⊥ = true≢false (sym e ∙ ap (λ (y : Found). set.contains given y.left) is ∙ open_) in no_way) in
          let l = first_left given xs (rest_rises x xs rises) f (⊎_elim (λ is. absurd (not_x f is fresh)) (λ i. i) (cons_cases x xs f at)) fresh in
          record {
            found = l.found;
            among = there x xs l.found l.among;
            fresh = l.fresh;
            is = pairs_given given x xs e ∙ l.is ∙ ap (λ rest. l.found ∷ rest) (sym (pairs_given (set.insert given l.found.left) x xs (put_keeps given l.found.left x.left e)));
            before = λ other i open_. ⊎_elim (λ is. absurd (not_x other is open_)) (λ j. l.before other j open_) (cons_cases x xs other i);
          }
      | false ↦ λ e. record {
        found = x;
        among = here x xs;
        fresh = e;
        is = pairs_fresh given x xs e;
        before = λ other i open_. ⊎_elim inl (λ j. inr (All-contains (λ q. found_cmp x q ≡ Less) xs other (All-after_first found_cmp x xs rises) j)) (cons_cases x xs other i);
      }
    ] in
    go (set.contains given x.left) refl

not_both : (a b : Hit) → hit_cmp b a ≡ Less → is_gt (hit_cmp a b) ≡ false → ⊥
not_both a b less upto = true≢false (sym (ap is_gt (rows_total.antisymm a b ∙ ap ordering_reverse less)) ∙ upto)

-- the next first pair is the first that is left of the list
pair_is_first : {N : Type 0} (m : Meaning N) (given : IdSet) (hit : Hit) (answer : List Found) → ListsAnswer m answer → IsFirstPair m given hit
    → TakesFirst (pairs_left given answer) (pairs_left (set.insert given hit.left) answer) (Ok (Some hit))
pair_is_first m given hit answer lists pair =
    let w = lists.whole pair.row pair.answer in
    let fresh : set.contains given w.found.left ≡ false = subst (λ id. set.contains given id ≡ false) w.same.1 pair.fresh in
    let l = first_left given answer lists.rising w.found w.among fresh in
    let o = lists.only l.found l.among in
    let upto = pair.first o.row o.answer (subst (λ id. set.contains given id ≡ false) (sym o.same.1) l.fresh) in
    let is : l.found ≡ w.found = ⊎_elim (λ e. e)
    (λ less. absurd (not_both pair.row o.row (rows_total.congr o.row (hit_of l.found) pair.row (rows_tied o.row (hit_of l.found) o.same)
    ∙ alike_right rows_total pair.row (hit_of w.found) (hit_of l.found) (rows_tied pair.row (hit_of w.found) w.same) ∙ less) upto)) (l.before w.found w.among fresh) in
    let left : l.found.left ≡ hit.left = ap (λ (f : Found). f.left) is ∙ sym w.same.1 ∙ pair.same.1 in (
      l.found,
      subst (λ id. pairs_left given answer ≡ l.found ∷ pairs_left (set.insert given id) answer) left l.is,
      subst (λ f. IsSameRow hit (hit_of f)) (sym is) (
        same_trans hit.gap pair.row.gap w.found.gap (same_back pair.row.gap hit.gap pair.same.0) w.same.0,
        sym pair.same.1 ∙ w.same.1,
        sym pair.same.2 ∙ w.same.2,
      ),
    )

takes_first : {N : Type 0} (m : Meaning N) (old new : LeftRows) (result : Result (Option Hit) PageFault) (answer : List Found) → ListsAnswer m answer
    → GivesFirstPair m old.given result → GivesLeft old new result → TakesFirst (pairs_left old.given answer) (pairs_left new.given answer) result
takes_first m old new (Ok (Some hit)) answer lists pair left =
    subst (λ (s : LeftRows). TakesFirst (pairs_left old.given answer) (pairs_left s.given answer) (Ok (Some hit))) (sym left.1) (pair_is_first m old.given hit answer lists pair)
takes_first m old new (Ok None) answer lists all left =
    let empty : pairs_left old.given answer ≡ [] = none_left old.given answer (λ f at. let o = lists.only f at in subst (λ id. set.contains old.given id ≡ true) o.same.1 (all o.row o.answer)) in
    (empty, ap (λ (s : LeftRows). pairs_left s.given answer) left ∙ empty)
takes_first m old new (Err fault) answer lists pair left = ap (λ (s : LeftRows). pairs_left s.given answer) left

-- over the pages that the disk tells
pub takes_first_over : {N : Type 0} (meaning : PageMap → Meaning N) (pages : Option PageMap) (old new : LeftRows) (result : Result (Option Hit) PageFault)
    → IfSome pages (λ p. GivesFirstPair (meaning p) old.given result) → GivesLeft old new result
    → IfSome pages (λ p. (answer : List Found) → ListsAnswer (meaning p) answer → TakesFirst (pairs_left old.given answer) (pairs_left new.given answer) result)
takes_first_over meaning None old new result pair left = tt
takes_first_over meaning (Some p) old new result pair left = λ answer lists. takes_first (meaning p) old new result answer lists pair left
