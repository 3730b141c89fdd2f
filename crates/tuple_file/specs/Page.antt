-- A slotted page (M. M. Astrahan and others, System R, 1976): a table of slots that grows upwards, and tuples of bytes that grow from the page's end downwards.
use Rattle.std.specs.Prelude.{◌≡◌, ◌≢◌, ℕ, ◌+◌, ◌-◌, ◌*◌, ◌≤◌, ◌<◌, min, nat_lt, ◌==◌, cond, List, [], ◌∷◌, get_or, length}
use Rattle.code_btree.specs.Bytes.{piece, half_of}

-- the number of slots; there is room for no more than 1,022
abbrev pub slot_count : List ℕ → ℕ
slot_count page = min (half_of (piece 2 2 page)) 1022

-- where the tuple of slot i begins
abbrev pub slot_start : List ℕ → ℕ → ℕ
slot_start page i = half_of (piece 2 (8 + 4 * i) page)

-- how many bytes the tuple of slot i has: 0 where it was taken
abbrev pub length_in : List ℕ → ℕ → ℕ
length_in page i = half_of (piece 2 (10 + 4 * i) page)

-- the tuple of slot i: no bytes where it was taken, or where there is no such slot
unfoldable pub tuple_at : List ℕ → ℕ → List ℕ
tuple_at page i = cond (nat_lt i (slot_count page)) (piece (length_in page i) (slot_start page i) page) []

-- where the tuples begin: the newest slot's lies lowest
abbrev pub low : List ℕ → ℕ
low page = cond (slot_count page == 0) 4096 (slot_start page (slot_count page - 1))

-- A page of tuples: byte 0 is 3, the table of slots ends below the tuples, and each of these lies within the page.
pub record IsTuples (page : List ℕ) : Type 0 where
  pub size : length page ≡ 4096
  pub kind : get_or page 0 0 ≡ 3
  pub table : 8 + 4 * slot_count page ≤ low page
  pub top : low page ≤ 4096
  pub within : (i : ℕ) → i < slot_count page → (low page ≤ slot_start page i) × (slot_start page i + length_in page i ≤ 4096)

-- there is room for one slot more and a tuple of n bytes
abbrev pub HasRoom : List ℕ → ℕ → Type 0
HasRoom page n = (8 + 4 * (slot_count page + 1) + n ≤ low page) × (low page ≤ 4096)

-- 1 for some bytes, 0 for none
abbrev pub some : List ℕ → ℕ
some [] = 0
some (b ∷ bs) = 1

-- the page has slot i, and its tuple begins there and is so long
pub record HasAt (page : List ℕ) (i start count : ℕ) : Type 0 where
  pub there : i < slot_count page
  pub start_is : slot_start page i ≡ start
  pub length_is : length_in page i ≡ count

-- the tuple is in a slot that had none, from the place on, and every other slot is as it was
pub record Added (old new bytes : List ℕ) (slot start : ℕ) : Type 0 where
  pub sound : IsTuples new
  pub small : slot < 1022
  pub here : tuple_at new slot ≡ bytes
  pub was : tuple_at old slot ≡ []
  pub others : (i : ℕ) → i ≢ slot → tuple_at new i ≡ tuple_at old i
  pub has : HasAt new slot start (length bytes)
  pub stays : (i at count : ℕ) → HasAt old i at count → HasAt new i at count

-- the tuple of a slot was taken, and every other slot is as it was
pub record Cleared (old new : List ℕ) (slot : ℕ) : Type 0 where
  pub sound : IsTuples new
  pub here : tuple_at new slot ≡ []
  pub others : (i : ℕ) → i ≢ slot → tuple_at new i ≡ tuple_at old i
  pub stays : (i at count : ℕ) → i ≢ slot → HasAt old i at count → HasAt new i at count

-- a page of no tuple, with room for any of 3,900 bytes
pub record IsBlank (page : List ℕ) : Type 0 where
  pub sound : IsTuples page
  pub none : (i : ℕ) → tuple_at page i ≡ []
  pub room : HasRoom page 3900
