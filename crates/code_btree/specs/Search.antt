-- How far a search of a page has come.
use Rattle.std.specs.Prelude.{ℕ, ◌+◌, ◌-◌, ◌≤◌, ◌<◌, List}
use Rattle.code_btree.specs.Node.{entry_key, key_in}

-- The element before `low` is passed, and the last of so many from `low` on isn't, where there is one. (Of elements in order all before `low` are passed, and none behind.)
pub record IsSearch (Passed Kept : ℕ → Type 0) (count low width : ℕ) : Type 0 where
  pub within : low ≤ count
  pub before : 1 ≤ low → Passed (low - 1)
  pub behind : low + width ≤ count → Kept ((low + width) - 1)

-- a search of a leaf passes lesser keys
abbrev pub IsLeafSearch : List ℕ → ℕ → ℕ → ℕ → ℕ → Type 0
IsLeafSearch page count key low width = IsSearch (λ i. entry_key page i < key) (λ i. key ≤ entry_key page i) count low width

-- a search of an inner page passes keys up to the one that is sought
abbrev pub IsInnerSearch : List ℕ → ℕ → ℕ → ℕ → ℕ → Type 0
IsInnerSearch page count key low width = IsSearch (λ i. key_in page i ≤ key) (λ i. key < key_in page i) count low width
