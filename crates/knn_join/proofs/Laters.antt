-- What comes after the next row of a search, of its answer as a list.
use Rattle.std.proofs.Common.{◌≡◌, ⊎_elim, Bool, true, false, cond, List, [], ◌∷◌, filter, Contains, Option, None, Some, refl, sym, ap, ◌∙◌, subst, true≢false, Ordering, Less, Equal, Greater}
use Rattle.std.specs.Ordering.{is_lt, is_gt, ordering_reverse}
use Rattle.std.specs.Cmp.{alike_right}
use Rattle.std.specs.List.Sorted.{IsStrictlySortedBy}
use Rattle.std.proofs.lemmas.List.Elements.{All-contains}
use Rattle.std.proofs.lemmas.Map.Views.{All-after_first}
use Rattle.sand_model.specs.Sources.{Found, found_cmp}
use Rattle.best_first.specs.declared.hit.Hit.{Hit}
use Rattle.best_first.specs.Item.{IsSameRow}
use Rattle.best_first.specs.Hierarchy.{Meaning}
use Rattle.best_first.specs.Answer.{hit_cmp, IsLater, IsNext, IsExhausted}
use Rattle.best_first.proofs.Bags.{here, there, cons_cases, none, from_filter}
use Rattle.best_first.proofs.Gaps.{same_back, same_trans}
use Rattle.best_first.proofs.Alikes.{rows_tied}
use Rattle.semi_join.specs.Listed.{hit_of, ListsAnswer}
use Rattle.semi_join.proofs.Rows.{rows_total}
use Rattle.knn_join.specs.Listed.{comes_after, later_than}

less_test : (r : Ordering) → is_lt r ≡ true → r ≡ Less
less_test Less e = refl
less_test Equal e = absurd (true≢false (sym e))
less_test Greater e = absurd (true≢false (sym e))

-- the test says whether a row is later
pub is_later : (last : Option Hit) (f : Found) → comes_after last f ≡ true → IsLater last (hit_of f)
is_later None f e = tt
is_later (Some l) f e = less_test (hit_cmp l (hit_of f)) e

pub tests_later : (last : Option Hit) (f : Found) → IsLater last (hit_of f) → comes_after last f ≡ true
tests_later None f h = refl
tests_later (Some l) f h = ap is_lt h

-- a row in place of one with its ids and gap
pub later_row : (last : Option Hit) (a b : Hit) → IsSameRow a b → IsLater last a → IsLater last b
later_row None a b same h = tt
later_row (Some l) a b same h = sym (alike_right rows_total a b l (rows_tied a b same)) ∙ h

rest_rises : (x : Found) (xs : List Found) → IsStrictlySortedBy found_cmp (x ∷ xs) → IsStrictlySortedBy found_cmp xs
unfolding IsStrictlySortedBy
rest_rises x xs h = h.1

-- what stands behind the first element comes after it
behind : (x : Found) (xs : List Found) (y : Found) → IsStrictlySortedBy found_cmp (x ∷ xs) → Contains xs y → found_cmp x y ≡ Less
behind x xs y rises at = All-contains (λ q. found_cmp x q ≡ Less) xs y (All-after_first found_cmp x xs rises) at

-- a test that all pass leaves a list as it is
all_pass : (p : Found → Bool) (xs : List Found) → ((x : Found) → Contains xs x → p x ≡ true) → filter p xs ≡ xs
all_pass p [] h = refl
all_pass p (x ∷ xs) h =
    ap (λ (t : Bool). cond t (x ∷ filter p xs) (filter p xs)) (h x (here x xs)) ∙ ap (λ l. x ∷ l) (all_pass p xs (λ y at. h y (there x xs y at)))

module _ (last : Option Hit) (hit : Hit) (w : Found) (tie : hit_cmp hit (hit_of w) ≡ Equal) (late : comes_after last w ≡ true) where
  -- what comes after the next row comes after the last one
  later_too : (l : Option Hit) → comes_after l w ≡ true → (y : Found) → found_cmp w y ≡ Less → comes_after l y ≡ true
  later_too None e y h = refl
  later_too (Some l) e y h = ap is_lt (rows_total.trans l (hit_of w) (hit_of y) (less_test (hit_cmp l (hit_of w)) e) h)

  after_too : (y : Found) → found_cmp w y ≡ Less → comes_after (Some hit) y ≡ true
  after_too y h = ap is_lt (rows_total.congr hit (hit_of w) (hit_of y) tie ∙ h)

  before_not : (x : Found) → found_cmp x w ≡ Less → comes_after (Some hit) x ≡ false
  before_not x h = ap is_lt (rows_total.congr hit (hit_of w) (hit_of x) tie ∙ rows_total.antisymm (hit_of w) (hit_of x) ∙ ap ordering_reverse h)

  -- the next row of a rising list, and what comes after it
  next_split : (xs : List Found) → IsStrictlySortedBy found_cmp xs → Contains xs w → ((x : Found) → Contains xs x → comes_after last x ≡ true → found_cmp x w ≡ Less → ⊥)
      → filter (comes_after last) xs ≡ w ∷ filter (comes_after (Some hit)) xs
  next_split [] rises at first = absurd (none w at)
  next_split (x ∷ xs) rises at first =
      ⊎_elim
      (λ e.
      let after : (y : Found) → Contains xs y → found_cmp w y ≡ Less = λ y in_rest. subst (λ (v : Found). found_cmp v y ≡ Less) e (behind x xs y rises in_rest) in
      ap (λ (t : Bool). cond t (x ∷ filter (comes_after last) xs) (filter (comes_after last) xs)) (ap (comes_after last) e ∙ late)
      ∙ ap (λ l. x ∷ l) (all_pass (comes_after last) xs (λ y i. later_too last late y (after y i)))
      ∙ ap (λ v. v ∷ xs) e
      ∙ ap (λ l. w ∷ l) (sym (ap (λ (t : Bool). cond t (x ∷ filter (comes_after (Some hit)) xs) (filter (comes_after (Some hit)) xs)) (ap (comes_after (Some hit)) e ∙ ap is_lt tie)
      ∙ all_pass (comes_after (Some hit)) xs (λ y i. after_too y (after y i)))))
      (λ t.
      let less = behind x xs w rises t in
      let early : comes_after last x ≡ false =
      (let go : (b : Bool) → comes_after last x ≡ b → b ≡ false = elim [ true ↦ λ e. absurd (first x (here x xs) e less) | false ↦ λ e. refl ] in go (comes_after last x) refl) in
      ap (λ (t : Bool). cond t (x ∷ filter (comes_after last) xs) (filter (comes_after last) xs)) early
      ∙ next_split xs (rest_rises x xs rises) t (λ y i. first y (there x xs y i))
      ∙ ap (λ l. w ∷ l) (sym (ap (λ (t : Bool). cond t (x ∷ filter (comes_after (Some hit)) xs) (filter (comes_after (Some hit)) xs)) (before_not x less))))
      (cons_cases x xs w at)

-- The next row of a search is the first element after the last row, and the others come after it.
pub record IsFirstLater (last : Option Hit) (hit : Hit) (answer : List Found) : Type 0 where
  pub found : Found
  pub is : later_than last answer ≡ found ∷ later_than (Some hit) answer
  pub same : IsSameRow hit (hit_of found)
  pub among : Contains answer found

pub next_later : {N : Type 0} (m : Meaning N) (answer : List Found) → ListsAnswer m answer → (last : Option Hit) (hit : Hit) → IsNext m last hit → IsFirstLater last hit answer
next_later m answer lists last hit next =
    let w = lists.whole next.row next.answer in
    let same : IsSameRow hit (hit_of w.found) =
    (same_trans hit.gap next.row.gap w.found.gap (same_back next.row.gap hit.gap next.same.0) w.same.0, sym next.same.1 ∙ w.same.1, sym next.same.2 ∙ w.same.2) in
    record {
      found = w.found;
      is =
          next_split last hit w.found (rows_tied hit (hit_of w.found) same) (tests_later last w.found (later_row last next.row (hit_of w.found) w.same next.later)) answer lists.rising w.among
          (λ x at late less.
          let o = lists.only x at in
          let back = later_row last (hit_of x) o.row (same_back o.row.gap x.gap o.same.0, sym o.same.1, sym o.same.2) (is_later last x late) in
          let over : hit_cmp next.row o.row ≡ Greater =
          rows_total.antisymm next.row o.row ∙ ap ordering_reverse (rows_total.congr o.row (hit_of x) next.row (rows_tied o.row (hit_of x) o.same)
          ∙ alike_right rows_total next.row (hit_of w.found) (hit_of x) (rows_tied next.row (hit_of w.found) w.same) ∙ less) in
          true≢false (sym (ap is_gt over) ∙ next.first o.row o.answer back));
      same = same;
      among = w.among;
    }

-- where the search has given its whole answer nothing comes later
pub none_later : {N : Type 0} (m : Meaning N) (answer : List Found) → ListsAnswer m answer → (last : Option Hit) → IsExhausted m last → later_than last answer ≡ []
none_later m answer lists last ended =
    empty (later_than last answer) (λ f at.
    let parts = from_filter (comes_after last) answer f at in
    let o = lists.only f parts.0 in
    ended o.row o.answer (later_row last (hit_of f) o.row (same_back o.row.gap f.gap o.same.0, sym o.same.1, sym o.same.2) (is_later last f parts.1)))
  where
    empty : (xs : List Found) → ((x : Found) → Contains xs x → ⊥) → xs ≡ []
    empty [] h = refl
    empty (x ∷ xs) h = absurd (h x (here x xs))
