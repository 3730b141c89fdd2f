-- Steps inside a writing call: a tuple put into a page, and one taken out of it.
use Rattle.std.specs.Prelude.{◌≡◌, ◌≢◌, ℕ, ◌<◌, ◌⊎◌, List, [], length, Option, None, Some, Bool, true, false}
use Rattle.code_btree.specs.Tree.{Store, same, live}
use Rattle.tuple_file.specs.Page.{HasRoom, tuple_at, some, Added, Cleared}
use Rattle.tuple_file.specs.File.{bytes_of}

-- the tuple is alone in the new page n, and no other page changed
pub record Begun (m w : Store) (n slot start : ℕ) (bytes : List ℕ) : Type 0 where
  pub fresh : m n ≡ None
  pub others : (q : ℕ) → same q n ≡ 0 → w q ≡ m q
  pub is_live : live w n ≡ 1
  pub added : Added [] (bytes_of (w n)) bytes slot start

-- The tuple went into a slot of page n, which is the newest one, where it fits, or a new one. No other page changed.
pub record Settled (m w : Store) (newest : Option ℕ) (n slot start : ℕ) (bytes : List ℕ) : Type 0 where
  pub from : ((newest ≡ Some n) × HasRoom (bytes_of (m n)) (length bytes)) ⊎ (m n ≡ None)
  pub fills : (q : ℕ) → newest ≡ Some q → HasRoom (bytes_of (m q)) (length bytes) → q ≡ n
  pub others : (q : ℕ) → same q n ≡ 0 → w q ≡ m q
  pub is_live : live w n ≡ 1
  pub added : Added (bytes_of (m n)) (bytes_of (w n)) bytes slot start

-- page n has its other tuples still, of which there is one at least
pub record Left (m w : Store) (n slot : ℕ) : Type 0 where
  pub is_live : live w n ≡ 1
  pub cleared : Cleared (bytes_of (m n)) (bytes_of (w n)) slot
  pub one : (i : ℕ) × ((i < 1022) × (some (tuple_at (bytes_of (w n)) i) ≡ 1))

-- page n is no more, since it had no other tuple
pub record Gone (m w : Store) (n slot : ℕ) : Type 0 where
  pub freed : w n ≡ None
  pub bare : (i : ℕ) → i ≢ slot → tuple_at (bytes_of (m n)) i ≡ []

-- The tuple of a slot of page n was taken, and the page was freed where it was the last one. No other page changed.
pub record Emptied (m w : Store) (n slot : ℕ) (freed : Bool) : Type 0 where
  pub others : (q : ℕ) → same q n ≡ 0 → w q ≡ m q
  pub left : freed ≡ false → Left m w n slot
  pub gone : freed ≡ true → Gone m w n slot
