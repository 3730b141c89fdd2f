-- How often ids stand in lists: one leaves, some are left out, and each left row has at most one row for each right one.
use Rattle.std.proofs.Common.{◌≡◌, ⊎_elim, ℕ, zero, suc, ◌+◌, ◌*◌, ◌≤◌, Bool, true, false, cond, List, [], ◌∷◌, ◌++◌, length, map, Contains, refl, sym, ap, ◌∙◌, subst}
use Rattle.std.proofs.Common.{arith, length-append, true≢false, Less}
use Rattle.std.specs.Prelude.{nat_eq}
use Rattle.std.specs.Ordering.{is_lt}
use Rattle.std.specs.List.Sorted.{IsStrictlySortedBy}
use Rattle.std.proofs.lemmas.Bool.{eqb-true, eq-eqb}
use Rattle.std.proofs.lemmas.List.Elements.{All-contains}
use Rattle.std.proofs.lemmas.Map.Views.{All-after_first}
use Rattle.sand_model.specs.Sources.{Found, found_cmp}
use Rattle.best_first.specs.Reach.{IsSameGap}
use Rattle.best_first.proofs.Bags.{here, there, cons_cases, none}
use Rattle.best_first.proofs.Alikes.{rows_tied}
use Rattle.semi_join.specs.Listed.{hit_of}
use Rattle.semi_join.proofs.Remaining.{dropped}
use Rattle.knn_join.specs.Standing.{how_often, with_left}

-- ---- one more, and several

-- an id in front counts
pub often_first : (id other : ℕ) (ids : List ℕ) → other ≡ id → how_often id (other ∷ ids) ≡ suc (how_often id ids)
often_first id other ids e = ap (λ (t : Bool). cond t (suc (how_often id ids)) (how_often id ids)) (eq-eqb other id e)

-- it never counts for less
pub often_more : (id other : ℕ) (ids : List ℕ) → how_often id ids ≤ how_often id (other ∷ ids)
often_more id other ids = go (nat_eq other id) (how_often id ids) where
  same : (n : ℕ) → n ≤ n
  same n = omega arith

  up : (n : ℕ) → n ≤ suc n
  up n = omega arith

  go : (t : Bool) (n : ℕ) → n ≤ cond t (suc n) n
  go true n = up n
  go false n = same n

-- the ids of two lists
pub often_append : (id : ℕ) (xs ys : List ℕ) → how_often id (xs ++ ys) ≡ how_often id xs + how_often id ys
often_append id [] ys = let none : how_often id ys ≡ 0 + how_often id ys = omega arith in none
often_append id (x ∷ xs) ys =
    let rest = often_append id xs ys in
    let go : (t : Bool) → cond t (suc (how_often id (xs ++ ys))) (how_often id (xs ++ ys)) ≡ cond t (suc (how_often id xs)) (how_often id xs) + how_often id ys =
    elim [ true ↦ more (how_often id (xs ++ ys)) (how_often id xs) (how_often id ys) rest | false ↦ rest ] in
    go (nat_eq x id)
  where
    more : (a b c : ℕ) → a ≡ b + c → suc a ≡ suc b + c
    more a b c e = omega arith

-- an id in the list
pub often_in : (id : ℕ) (ids : List ℕ) → Contains ids id → 1 ≤ how_often id ids
often_in id [] h = absurd (none id h)
often_in id (x ∷ xs) h =
    ⊎_elim (λ e. let first = often_first id x xs e in omega arith) (λ t. let rest = often_in id xs t in let more = often_more id x xs in omega arith) (cons_cases x xs id h)

-- so many copies of each id
abbrev pub copies : ℕ → List ℕ → List ℕ
copies zero ids = []
copies (suc n) ids = ids ++ copies n ids

pub copies_long : (n : ℕ) (ids : List ℕ) → length (copies n ids) ≡ length ids * n
copies_long zero ids = let none : 0 ≡ length ids * 0 = omega arith in none
copies_long (suc n) ids = let rest = copies_long n ids in let both = length-append ids (copies n ids) in omega arith

pub copies_often : (n id : ℕ) (ids : List ℕ) → Contains ids id → n ≤ how_often id (copies n ids)
copies_often zero id ids h = omega arith
copies_often (suc n) id ids h = let rest = copies_often n id ids h in let one = often_in id ids h in let both = often_append id ids (copies n ids) in omega arith

-- ---- one leaves

-- One of an id left the list, and all others stayed.
pub record Leaves (id : ℕ) (ids : List ℕ) : Type 0 where
  pub rest : List ℕ
  pub count : length ids ≡ suc (length rest)
  pub here : how_often id ids ≡ suc (how_often id rest)
  pub others : (other : ℕ) → nat_eq other id ≡ false → how_often other rest ≡ how_often other ids

pub leaves : (id : ℕ) (ids : List ℕ) → 1 ≤ how_often id ids → Leaves id ids
leaves id [] h = absurd (let clash : ⊥ = omega arith in clash)
leaves id (x ∷ xs) h =
    let go : (t : Bool) → nat_eq x id ≡ t → Leaves id (x ∷ xs) = elim [
      | true ↦ λ e. record {
        rest = xs;
        count = refl;
        here = often_first id x xs (eqb-true x id e);
        others = λ other apart. sym (passed other x xs (λ same. true≢false (sym (eq-eqb other id (sym same ∙ eqb-true x id e)) ∙ apart)));
      }
      | false ↦ λ e.
          let away : how_often id (x ∷ xs) ≡ how_often id xs = skipped id x xs e in
          let l = leaves id xs (subst (λ n. 1 ≤ n) away h) in
          record {
            rest = x ∷ l.rest;
            count = ap suc l.count;
            here = away ∙ l.here ∙ ap suc (sym (skipped id x l.rest e));
            others = λ other apart. same_cons other x l.rest xs (l.others other apart);
          }
    ] in
    go (nat_eq x id) refl
  where
    skipped : (id x : ℕ) (xs : List ℕ) → nat_eq x id ≡ false → how_often id (x ∷ xs) ≡ how_often id xs
    skipped id x xs e = ap (λ (t : Bool). cond t (suc (how_often id xs)) (how_often id xs)) e

    passed : (id x : ℕ) (xs : List ℕ) → ¬ (x ≡ id) → how_often id (x ∷ xs) ≡ how_often id xs
    passed id x xs apart =
        let go : (t : Bool) → nat_eq x id ≡ t → how_often id (x ∷ xs) ≡ how_often id xs = elim [ true ↦ λ e. absurd (apart (eqb-true x id e)) | false ↦ λ e. skipped id x xs e ] in
        go (nat_eq x id) refl

    same_cons : (id x : ℕ) (xs ys : List ℕ) → how_often id xs ≡ how_often id ys → how_often id (x ∷ xs) ≡ how_often id (x ∷ ys)
    same_cons id x xs ys e = ap (λ n. cond (nat_eq x id) (suc n) n) e

-- ---- elements of a list

-- an element in front counts for its left id
pub left_first : (f : Found) (fs : List Found) → with_left f.left (f ∷ fs) ≡ suc (with_left f.left fs)
left_first f fs = often_first f.left f.left (map (λ (g : Found). g.left) fs) refl

-- and never counts for less
pub left_more : (id : ℕ) (f : Found) (fs : List Found) → with_left id fs ≤ with_left id (f ∷ fs)
left_more id f fs = often_more id f.left (map (λ (g : Found). g.left) fs)

-- for another left id it doesn't count
pub left_other : (id : ℕ) (f : Found) (fs : List Found) → nat_eq f.left id ≡ false → with_left id (f ∷ fs) ≡ with_left id fs
left_other id f fs e = ap (λ (t : Bool). cond t (suc (with_left id fs)) (with_left id fs)) e

-- an element of the list counts
pub left_in : (f : Found) (fs : List Found) → Contains fs f → 1 ≤ with_left f.left fs
left_in f [] h = absurd (none f h)
left_in f (g ∷ gs) h =
    ⊎_elim (λ e. subst (λ (x : Found). 1 ≤ with_left x.left (g ∷ gs)) e (let first = left_first g gs in omega arith))
    (λ t. let rest = left_in f gs t in let more = left_more f.left g gs in omega arith)
    (cons_cases g gs f h)

-- ---- at most one row for each right one

rest_rises : (x : Found) (xs : List Found) → IsStrictlySortedBy found_cmp (x ∷ xs) → IsStrictlySortedBy found_cmp xs
unfolding IsStrictlySortedBy
rest_rises x xs h = h.1

-- rows of one pair have one gap
abbrev pub HaveOneGap : List Found → Type 0
HaveOneGap fs = (f g : Found) → Contains fs f → Contains fs g → f.left ≡ g.left → f.right ≡ g.right → IsSameGap f.gap g.gap

-- so a rising list has each pair once
pub few_partners : (id : ℕ) (fs : List Found) → IsStrictlySortedBy found_cmp fs → HaveOneGap fs → (rights : List ℕ)
    → ((f : Found) → Contains fs f → f.left ≡ id → Contains rights f.right) → with_left id fs ≤ length rights
few_partners id [] rises one rights on = omega arith
few_partners id (f ∷ fs) rises one rights on =
    let below = rest_rises f fs rises in
    let fewer : HaveOneGap fs = λ g h at too. one g h (there f fs g at) (there f fs h too) in
    let go : (t : Bool) → nat_eq f.left id ≡ t → with_left id (f ∷ fs) ≤ length rights = elim [
      | true ↦ λ e.
          let same = eqb-true f.left id e in
          let d = dropped f.right rights (on f (here f fs) same) in
          let rest = few_partners id fs below fewer d.rest (λ g at is.
          ⊎_elim (λ twice. absurd (apart f g (All-contains (λ q. found_cmp f q ≡ Less) fs g (All-after_first found_cmp f fs rises) at)
          (one f g (here f fs) (there f fs g at) (same ∙ sym is) (sym twice)) (same ∙ sym is) (sym twice))) (λ left. left)
          (d.cases g.right (on g (there f fs g at) is))) in
          let first : with_left id (f ∷ fs) ≡ suc (with_left id fs) = often_first id f.left (map (λ (g : Found). g.left) fs) same in
          let long = d.count in
          omega arith
      | false ↦ λ e.
          let rest = few_partners id fs below fewer rights (λ g at is. on g (there f fs g at) is) in
          let first = left_other id f fs e in
          omega arith
    ] in
    go (nat_eq f.left id) refl
  where
    apart : (f g : Found) → found_cmp f g ≡ Less → IsSameGap f.gap g.gap → f.left ≡ g.left → f.right ≡ g.right → ⊥
    apart f g less gap left right = true≢false (ap is_lt (sym less ∙ rows_tied (hit_of f) (hit_of g) (gap, left, right)))
