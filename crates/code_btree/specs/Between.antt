-- The pairs of a key range, taken leaf by leaf.
use Rattle.std.specs.Prelude.{◌≡◌, ℕ, ◌+◌, ◌-◌, ◌*◌, ◌≤◌, ◌⊎◌, List, [], ◌∷◌, ◌++◌, length, Some}
use Rattle.code_btree.specs.declared.map.Tree.{Tree}
use Rattle.code_btree.specs.Node.{Pair, leaf, node_of, entries_of, next_of}
use Rattle.code_btree.specs.Items.{Each, Below, Ascending, items_from, items_below}
use Rattle.code_btree.specs.Tree.{Store, links, node}
use Rattle.code_btree.specs.Run.{chained}

-- the pairs from a key on and below another
abbrev pub items_between : ℕ → ℕ → List Pair → List Pair
items_between low high es = items_below high (items_from low es)

-- each key is this one or above it
abbrev pub AtLeast : ℕ → List Pair → Type 0
AtLeast key = Each (λ e. key ≤ e.0)

-- A leaf of these entries, which leads to `next`, gave those of the range. It leads nowhere only where it is the last one or has an entry
-- at the end of the range or behind it; where it leads on, it leads to the next one, and has no such entry if none is below the range.
pub record TakesEntry (es : List Pair) (next low high : ℕ) (old new : List Pair) (on : ℕ) : Type 0 where
  pub taken : new ≡ old ++ items_between low high es
  pub ends : on ≡ 0 → (next ≡ 0) ⊎ (1 ≤ length (items_from high es))
  pub goes : 1 ≤ on → (on ≡ next) × (AtLeast low es → Below high es)

-- the page at this number gave the entries of the range, or it is no leaf
pub record IsTakenIn (m : Store) (n low high : ℕ) (old new : List Pair) (on : ℕ) : Type 0 where
  pub page : List ℕ
  pub read : m n ≡ Some page
  pub step : node_of page ≡ leaf (entries_of (node_of page)) (next_of (node_of page)) → Ascending (entries_of (node_of page))
      → TakesEntry (entries_of (node_of page)) (next_of (node_of page)) low high old new on

-- the leaf under page n to which a key belongs: all pairs of the leaves before it are below the key, and of those behind it none is
pub record IsLeafFor (m : Store) (level n key lf : ℕ) : Type 0 where
  pub before : List (ℕ × ℕ)
  pub behind : List (ℕ × ℕ)
  pub next : ℕ
  pub chain : links m level n ≡ before ++ ((lf, next) ∷ behind)
  pub is_leaf : node m lf ≡ leaf (entries_of (node m lf)) (next_of (node m lf))
  pub below : Below key (chained m before)
  pub above : AtLeast key (chained m behind)

-- The pairs of a range that are still wanted are those of this leaf and of the leaves behind it. They are no more than `most` in all, and the leaf is filled.
pub record IsRestAt (m : Store) (t : Tree) (low high lf most : ℕ) (rest : List Pair) : Type 0 where
  pub before : List (ℕ × ℕ)
  pub behind : List (ℕ × ℕ)
  pub next : ℕ
  pub chain : links m (t.height - 1) t.root ≡ before ++ ((lf, next) ∷ behind)
  pub full : 63 ≤ length (entries_of (node m lf))
  pub few : length (entries_of (node m lf) ++ chained m behind) ≤ most
  pub least : AtLeast low (entries_of (node m lf) ++ chained m behind)
  pub pairs : rest ≡ items_between low high (entries_of (node m lf) ++ chained m behind)

-- These pairs of a range are still wanted from this leaf on; or there are none, and the leaf is 0.
pub record IsRest (m : Store) (t : Tree) (low high lf most : ℕ) (rest : List Pair) : Type 0 where
  pub none : lf ≡ 0 → rest ≡ []
  pub here : 1 ≤ lf → IsRestAt m t low high lf most rest

-- Of the pairs that were wanted some are found, and the rest begins at this leaf. So many gets were made: one for each 63 pairs, and one more at the last.
pub record IsPartDone (m : Store) (t : Tree) (low high lf most : ℕ) (old want new : List Pair) (before now : ℕ) : Type 0 where
  pub rest : List Pair
  pub on : IsRest m t low high lf most rest
  pub found : old ++ want ≡ new ++ rest
  pub price : 63 * now + length rest ≤ (63 * before + length want) + 63
  pub tight : 1 ≤ lf → 63 * now + length rest ≤ 63 * before + length want
