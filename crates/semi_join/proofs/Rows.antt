-- Rows in the order of the answer: what comes after the next one, and the least of those that pass a test.
use Rattle.std.proofs.Common.{◌≡◌, ℕ, Bool, true, false, List, [], ◌∷◌, Contains, Option, Some, ◌⊎◌, inl, inr, ⊎_elim, refl, sym, ap, ◌∙◌, subst, true≢false, Ordering, Less, Equal, Greater, nat_cmp}
use Rattle.std.specs.Ordering.{is_gt, is_lt, ordering_then}
use Rattle.std.specs.Cmp.{IsTotalOrder, nat_cmp_total, on_total, then_total, upto, tied_itself}
use Rattle.exact_frac.specs.Frac.{value_cmp, value_cmp_total}
use Rattle.best_first.specs.declared.hit.Hit.{Hit}
use Rattle.best_first.specs.Item.{row_item}
use Rattle.best_first.specs.Reach.{IsAtMost}
use Rattle.best_first.specs.Hierarchy.{Meaning}
use Rattle.best_first.specs.Answer.{hit_cmp, IsAnswer, IsLater, IsNext}
use Rattle.best_first.proofs.Bags.{here, there, cons_cases, none}
use Rattle.best_first.proofs.Gaps.{less_is, below_at_most, equal_at_most}
use Rattle.best_first.proofs.Alikes.{rows_tied}
use Rattle.best_first.proofs.Ranks.{alike_row}

-- the order of rows is total
pub rows_total : IsTotalOrder hit_cmp
rows_total =
    then_total (on_total (λ (hit : Hit). hit.gap) value_cmp_total)
    (on_total (λ (hit : Hit). (hit.left, hit.right)) (then_total (on_total (λ (ids : ℕ × ℕ). ids.0) nat_cmp_total) (on_total (λ (ids : ℕ × ℕ). ids.1) nat_cmp_total)))

-- rows that the order does not tell apart have one left id
pub rows_left : (a b : Hit) → hit_cmp a b ≡ Equal → b.left ≡ a.left
rows_left a b e = let (far, is) = alike_row {N = ℕ} nat_cmp a.gap a.left a.right (row_item b) e in let row : row_item {N = ℕ} b ≡ _ = is in cc

not_after : (a b : Hit) → is_gt (hit_cmp a b) ≡ false → (hit_cmp a b ≡ Less) ⊎ (hit_cmp a b ≡ Equal)
not_after a b n =
    let go : (r : Ordering) → hit_cmp a b ≡ r → is_gt r ≡ false → (hit_cmp a b ≡ Less) ⊎ (hit_cmp a b ≡ Equal) =
    elim [ Less ↦ λ e n. inl e | Equal ↦ λ e n. inr e | Greater ↦ λ e n. absurd (true≢false n) ] in
    go (hit_cmp a b) refl n

-- a row that comes after no other is at most as far
pub first_near : (a b : Hit) → is_gt (hit_cmp a b) ≡ false → IsAtMost a.gap b.gap
first_near a b n =
    let rest = Rattle.best_first.specs.OrderLaws.ids_cmp (a.left, a.right) (b.left, b.right) in
    let go : (r : Ordering) → value_cmp a.gap b.gap ≡ r → is_gt (ordering_then r rest) ≡ false → IsAtMost a.gap b.gap =
    elim [ Less ↦ λ e n. below_at_most a.gap b.gap (less_is a.gap b.gap e) | Equal ↦ λ e n. equal_at_most a.gap b.gap e | Greater ↦ λ e n. absurd (true≢false n) ] in
    go (value_cmp a.gap b.gap) refl n

-- a row that comes after the last one comes after the next one, or has the left id of that
pub after_next : {N : Type 0} (m : Meaning N) (last : Option Hit) (hit : Hit) → IsNext m last hit → (other : Hit) → IsAnswer m other → IsLater last other
    → IsLater (Some hit) other ⊎ (other.left ≡ hit.left)
after_next m last hit next other answer later =
    ⊎_elim
    (λ less. inl (sym (rows_total.congr next.row hit other (rows_tied next.row hit next.same)) ∙ less))
    (λ equal. inr (rows_left next.row other equal ∙ next.same.1))
    (not_after next.row other (next.first other answer later))

-- ---- the least of the rows that pass a test

-- One of the rows passes the test, and none of those that pass comes before it.
pub record IsLeastOf (test : Hit → Bool) (rows : List Hit) : Type 0 where
  pub row : Hit
  pub among : Contains rows row
  pub passes : test row ≡ true
  pub first : (other : Hit) → Contains rows other → test other ≡ true → is_gt (hit_cmp row other) ≡ false

-- no row passes the test
abbrev pub HasNone : (Hit → Bool) → List Hit → Type 0
HasNone test rows = (other : Hit) → Contains rows other → test other ≡ true → ⊥

not_before : (a b : Hit) → is_gt (hit_cmp a b) ≡ true → is_gt (hit_cmp b a) ≡ false
not_before a b e =
    let go : (r : Ordering) → hit_cmp b a ≡ r → is_gt (Rattle.std.specs.Ordering.ordering_reverse r) ≡ true
    → is_gt r ≡ false = elim [ Less ↦ λ f n. refl | Equal ↦ λ f n. refl | Greater ↦ λ f n. sym n ] in
    go (hit_cmp b a) refl (ap is_gt (sym (rows_total.antisymm a b)) ∙ e)

least_more : (test : Hit → Bool) (x : Hit) (xs : List Hit) → test x ≡ true → HasNone test xs ⊎ IsLeastOf test xs → IsLeastOf test (x ∷ xs)
least_more test x xs e rest =
    ⊎_elim
    (λ empty. record {
      row = x;
      among = here x xs;
      passes = e;
      first = λ other at t. ⊎_elim (λ is. subst (λ y. is_gt (hit_cmp x y) ≡ false) is (ap is_gt (tied_itself rows_total x))) (λ in_rest. absurd (empty other in_rest t)) (cons_cases x xs other at);
    })
    (λ l.
    let go : (b : Bool) → is_gt (hit_cmp x l.row) ≡ b → IsLeastOf test (x ∷ xs) = elim [
      | true ↦ λ after. record {
        row = l.row;
        among = there x xs l.row l.among;
        passes = l.passes;
        first = λ other at t. ⊎_elim (λ is. subst (λ y. is_gt (hit_cmp l.row y) ≡ false) is (not_before x l.row after)) (λ in_rest. l.first other in_rest t) (cons_cases x xs other at);
      }
      | false ↦ λ upper. record {
        row = x;
        among = here x xs;
        passes = e;
        first = λ other at t. ⊎_elim (λ is. subst (λ y. is_gt (hit_cmp x y) ≡ false) is (ap is_gt (tied_itself rows_total x)))
            (λ in_rest. upto rows_total x l.row other upper (l.first other in_rest t)) (cons_cases x xs other at);
      }
    ] in
    go (is_gt (hit_cmp x l.row)) refl)
    rest

least_same : (test : Hit → Bool) (x : Hit) (xs : List Hit) → test x ≡ false → HasNone test xs ⊎ IsLeastOf test xs → HasNone test (x ∷ xs) ⊎ IsLeastOf test (x ∷ xs)
least_same test x xs e rest =
    let skips = λ (other : Hit) (is : x ≡ other) (t : test other ≡ true). (let no_row : ⊥ = true≢false (sym t ∙ ap test (sym is) ∙ e) in no_row) in
    ⊎_elim
    (λ empty. inl (λ other at t. ⊎_elim (λ is. skips other is t) (λ in_rest. empty other in_rest t) (cons_cases x xs other at)))
    (λ l. inr (record {
      row = l.row;
      among = there x xs l.row l.among;
      passes = l.passes;
      first = λ other at t. ⊎_elim (λ is. absurd (skips other is t)) (λ in_rest. l.first other in_rest t) (cons_cases x xs other at);
    }))
    rest

-- no row passes, or there is a least one
pub least_of : (test : Hit → Bool) (rows : List Hit) → HasNone test rows ⊎ IsLeastOf test rows
least_of test [] = inl (λ other at t. none other at)
least_of test (x ∷ xs) =
    let go : (b : Bool) → test x ≡ b → HasNone test (x ∷ xs) ⊎ IsLeastOf test (x ∷ xs) =
    elim [ true ↦ λ e. inr (least_more test x xs e (least_of test xs)) | false ↦ λ e. least_same test x xs e (least_of test xs) ] in
    go (test x) refl
