-- The pairs of a key range in one leaf.
use Rattle.std.proofs.Common.{◌≡◌, ℕ, suc, ◌+◌, ◌-◌, ◌<◌, ◌≤◌, cond, List, [], ◌∷◌, ◌++◌, length, take, drop, refl, sym, ◌∙◌, ap, ap₂, subst, inl, inr, arith}
use Rattle.std.proofs.Common.{append_assoc, append-nil, length-append, length-drop, take-append-drop}
use Rattle.std.proofs.lemmas.List.{drop_all, drop_more, take_all}
use Rattle.std.proofs.lemmas.Bool.Decides.{leb_tells}
use Rattle.code_btree.specs.Node.{Pair, node_of, entries_of, IsLeafOf, entry_key, entry_value}
use Rattle.code_btree.specs.Items.{Below, Ascending, items_from, items_below}
use Rattle.code_btree.specs.Between.{items_between, AtLeast, TakesEntry}
use Rattle.code_btree.proofs.Lists.{Each-right, Each-map}
use Rattle.code_btree.proofs.Orders.{items_from-append, items_below-append, below-Below, from-AtLeast, lt_is}
use Rattle.code_btree.proofs.Orders.{lt_not, Below-rank, AtLeast-rank}
use Rattle.code_btree.proofs.Looks.{entry_is}
use Rattle.code_btree.proofs.Leaves.{ranked}
use Rattle.code_btree.proofs.PageRuns.{rank_from}

-- pairs on both sides of a key
pub below-AtLeast : (k : ℕ) (es : List Pair) → AtLeast k es → items_below k es ≡ []
below-AtLeast k [] h = refl
below-AtLeast k (e ∷ es) h = rw (lt_not e.0 k h.0) (below-AtLeast k es h.1)

pub between-append : (low high : ℕ) (xs ys : List Pair) → items_between low high (xs ++ ys) ≡ items_between low high xs ++ items_between low high ys
between-append low high xs ys = ap (λ (es : List Pair). items_below high es) (items_from-append low xs ys) ∙ items_below-append high (items_from low xs) (items_from low ys)

pub between-AtLeast : (low high : ℕ) (es : List Pair) → AtLeast low es → AtLeast high es → items_between low high es ≡ []
between-AtLeast low high es l h = ap (λ (x : List Pair). items_below high x) (from-AtLeast low es l) ∙ below-AtLeast high es h

pub between_all : (low high : ℕ) (es : List Pair) → AtLeast low es → Below high es → items_between low high es ≡ es
between_all low high es l h = ap (λ (x : List Pair). items_below high x) (from-AtLeast low es l) ∙ below-Below high es h

-- where a pair is not below a key, none behind it is
pub behind_high : (k : ℕ) (xs ys : List Pair) → Ascending (xs ++ ys) → 1 ≤ length (items_from k xs) → AtLeast k ys
behind_high k [] ys a h = absurd (omega (arith, h))
behind_high k (x ∷ xs) ys a h = elim (leb_tells (suc x.0) k) [
  | inl l ↦
      let i : length (items_from k xs) ≡ length (items_from k (x ∷ xs)) = sym (ap (λ b. length (cond b (items_from k xs) (x ∷ items_from k xs))) (lt_is x.0 k l.1)) in
      behind_high k xs ys a.1 (omega (arith, h, i))
  | inr l ↦ Each-map (λ y. x.0 < y.0) (λ y. k ≤ y.0) (λ y z. omega (arith, z, l.1)) ys (Each-right (λ y. x.0 < y.0) xs ys a.0)
]

-- the place of a key in a page, as the search found it
pub record Ranked (p : List ℕ) (count key at : ℕ) : Type 0 where
  pub place : at ≤ count
  pub before : 1 ≤ at → entry_key p (at - 1) < key
  pub behind : at < count → key ≤ entry_key p at

-- one pair more of a page, which is below the end of the range
pub take_step : (p : List ℕ) (n at high : ℕ) (old all new : List Pair) (k v : ℕ) → IsLeafOf p n → at < n → k ≡ entry_key p at → v ≡ entry_value p at → k < high → new ≡ old ++ ((k, v) ∷ [])
    → old ++ items_below high (drop at (entries_of (node_of p))) ≡ all → new ++ items_below high (drop (at + 1) (entries_of (node_of p))) ≡ all
take_step p n at high old all new k v is l kk vv lt new_is so_far =
    let es : List Pair = entries_of (node_of p) in
    let rest : List Pair = drop (at + 1) es in
    let more : List Pair = items_below high rest in
    let pair : (entry_key p at, entry_value p at) ∷ rest ≡ (k, v) ∷ rest = ap₂ (λ (x y : ℕ). (x, y) ∷ rest) (sym kk) (sym vv) in
    let e : drop at es ≡ (k, v) ∷ rest = drop_more es at (0, 0) (omega (arith, is.counted, l)) ∙ (ap (λ (x : Pair). x ∷ rest) (entry_is p n at (0, 0) is l) ∙ pair) in
    let t : items_below high (drop at es) ≡ (k, v) ∷ more = ap (λ (x : List Pair). items_below high x) e ∙ ap (λ b. cond b ((k, v) ∷ more) more) (lt_is k high lt) in
    ap (λ (x : List Pair). x ++ more) new_is ∙ (append_assoc old ((k, v) ∷ []) more ∙ (ap (λ (x : List Pair). old ++ x) (sym t) ∙ so_far))

-- where no pair of the range is to come, all were taken
taken_all : (p : List ℕ) (count from at low high : ℕ) (old new : List Pair) → IsLeafOf p count → Ranked p count low from
    → AtLeast high (drop at (entries_of (node_of p))) → Ascending (entries_of (node_of p))
    → new ++ items_below high (drop at (entries_of (node_of p))) ≡ old ++ items_below high (drop from (entries_of (node_of p))) → new ≡ old ++ items_between low high (entries_of (node_of p))
taken_all p count from at low high old new is f above asc so_far =
    let es : List Pair = entries_of (node_of p) in
    sym (append-nil new) ∙ (ap (λ (x : List Pair). new ++ x) (sym (below-AtLeast high (drop at es) above))
    ∙ (so_far ∙ ap (λ (x : List Pair). old ++ items_below high x) (rank_from p count from low is f.place f.before f.behind asc)))

-- a leaf with an entry at the end of the range or behind it leads nowhere
pub takes_inside : (p : List ℕ) (count from at low high next : ℕ) (old new : List Pair) → IsLeafOf p count → Ranked p count low from → at < count → high ≤ entry_key p at
    → new ++ items_below high (drop at (entries_of (node_of p))) ≡ old ++ items_below high (drop from (entries_of (node_of p))) → Ascending (entries_of (node_of p))
    → TakesEntry (entries_of (node_of p)) next low high old new 0
takes_inside p count from at low high next old new is f l h so_far asc =
    let es : List Pair = entries_of (node_of p) in
    let above : AtLeast high (drop at es) = AtLeast-rank high es at (0, 0) asc (λ i. omega (arith, h, ap (λ (x : Pair). x.0) (entry_is p count at (0, 0) is l))) in
    let cut : items_from high es ≡ items_from high (take at es) ++ drop at es =
    ap (λ (x : List Pair). items_from high x) (sym (take-append-drop at es))
    ∙ (items_from-append high (take at es) (drop at es) ∙ ap (λ (x : List Pair). items_from high (take at es) ++ x) (from-AtLeast high (drop at es) above)) in
    record {
      taken = taken_all p count from at low high old new is f above asc so_far;
      ends = λ z. inr (omega (arith, ap (λ (x : List Pair). length x) cut, length-append (items_from high (take at es)) (drop at es), length-drop at es, is.counted, l));
      goes = λ z. absurd (omega (arith, z));
    }

-- all entries are below the end of the range where the last one is, or where none was below its beginning or in it
all_below : (p : List ℕ) (count from at low high : ℕ) → IsLeafOf p count → Ranked p count low from → count ≤ at → at ≤ count → (from < at → entry_key p (at - 1) < high)
    → Ascending (entries_of (node_of p)) → AtLeast low (entries_of (node_of p))
    → Below high (entries_of (node_of p))
all_below p count from at low high is f l u last asc least =
    let es : List Pair = entries_of (node_of p) in
    let B : List Pair → Type 0 = λ x. Below high x in
    elim (leb_tells (suc from) at) [
      | inl i ↦ subst B (take_all at es (omega (arith, is.counted, l)))
          (Below-rank high es at (0, 0) asc (omega (arith, is.counted, u)) (λ o. ranked p count at high is u (λ o. last (omega (arith, i.1))) o))
      | inr i ↦
          let none : es ≡ [] = sym (from-AtLeast low es least) ∙ (sym (rank_from p count from low is f.place f.before f.behind asc) ∙ drop_all from es (omega (arith, is.counted, l, i.1))) in
          subst B (sym none) tt
    ]

-- and one without leads on
pub takes_on : (p : List ℕ) (count from at low high next on : ℕ) (old new : List Pair) → IsLeafOf p count → Ranked p count low from → count ≤ at → at ≤ count
    → (from < at → entry_key p (at - 1) < high) → on ≡ next
    → new ++ items_below high (drop at (entries_of (node_of p))) ≡ old ++ items_below high (drop from (entries_of (node_of p))) → Ascending (entries_of (node_of p))
    → TakesEntry (entries_of (node_of p)) next low high old new on
takes_on p count from at low high next on old new is f l u last n so_far asc =
    let es : List Pair = entries_of (node_of p) in
    let above : AtLeast high (drop at es) = AtLeast-rank high es at (0, 0) asc (λ i. absurd (omega (arith, i, is.counted, l))) in
    record {
      taken = taken_all p count from at low high old new is f above asc so_far;
      ends = λ z. inl (sym n ∙ z);
      goes = λ z. (n, λ least. all_below p count from at low high is f l u last asc least);
    }
