-- The entries of an index: pairs of a key and an id, in the order of the keys and then of the ids.
use Rattle.std.specs.Prelude.{ℕ, ◌+◌, ◌*◌, ◌^◌, ◌<◌, ℤ, int_lt, int_le, nat_lt, nat_eq, not, Bool, true, ◌&&◌, ◌||◌, List, [], ◌∷◌, ◌++◌, map, Option, None, Some, option_map}
use Rattle.std.specs.List.{filter, find}
use Rattle.code_btree.specs.Items.{Each}
use Rattle.attr_index.specs.Key.{int_of}

-- a key as a number, and an id
abbrev pub Entry : Type 0
Entry = ℕ × ℕ

-- an int, and an id
abbrev pub IntEntry : Type 0
IntEntry = ℤ × ℕ

-- an entry as one number, the key and then 32 bits of id; entries are in the order of these
abbrev pub entry_number : Entry → ℕ
entry_number e = e.0 * 2 ^ 32 + e.1

-- the entries rise strictly, so none stands twice
abbrev pub IsInOrder : List Entry → Type 0
IsInOrder [] = Unit {0}
IsInOrder (e ∷ es) = Each (λ d. entry_number e < entry_number d) es × IsInOrder es

-- the list with an entry, between the lesser and the greater ones
abbrev pub with_entry : Entry → List Entry → List Entry
with_entry e es = filter (λ d. nat_lt (entry_number d) (entry_number e)) es ++ (e ∷ filter (λ d. nat_lt (entry_number e) (entry_number d)) es)

-- the list without an entry
abbrev pub without_entry : Entry → List Entry → List Entry
without_entry e es = filter (λ d. not (nat_eq (entry_number d) (entry_number e))) es

-- the least id above `after` with the key
abbrev pub equal_id : ℕ → ℕ → List Entry → Option ℕ
equal_id key after es = option_map (λ e. e.1) (find (λ e. nat_eq e.0 key && nat_lt after e.1) es)

-- the entries of an index of ints, with the ints
abbrev pub int_entries : List Entry → List IntEntry
int_entries es = map (λ e. (int_of e.0, e.1)) es

-- the int is within these bounds, both included
abbrev pub is_int_within : ℤ → ℤ → ℤ → Bool
is_int_within low high v = int_le low v && int_le v high

-- the entry comes after another one, if there is one: it has a greater int, or the same and a greater id
abbrev pub is_after : Option IntEntry → IntEntry → Bool
is_after None e = true
is_after (Some a) e = int_lt a.0 e.0 || (int_le a.0 e.0 && nat_lt a.1 e.1)

-- the least entry after another one within the bounds
abbrev pub between_entry : ℤ → ℤ → Option IntEntry → List IntEntry → Option IntEntry
between_entry low high after es = find (λ e. is_int_within low high e.0 && is_after after e) es
