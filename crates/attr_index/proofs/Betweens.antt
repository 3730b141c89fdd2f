-- The least entry of an int within bounds, after another one.
use Rattle.std.proofs.Common.{◌≡◌, ℕ, ◌+◌, ◌*◌, ◌/◌, ◌%◌, ◌^◌, ◌<◌, ◌≤◌, Bool, true, false, List, sym, ◌∙◌, ap, ap₂, subst, inl, inr, arith}
use Rattle.std.specs.Prelude.{ℤ, ◌≤ℤ◌, ◌<ℤ◌, int_le, Option, None, Some, IfSome, FitsSigned, nat_lt, ◌&&◌, ◌||◌, option_map}
use Rattle.std.specs.List.{find}
use Rattle.std.proofs.lemmas.Bool.Decides.{leb_tells}
use Rattle.std.specs.Int.{w64, cast_signed, cast_unsigned}
use Rattle.std.proofs.lemmas.Int.{by_lt_z, to_z-of_z}
use Rattle.sand_base.specs.InRange.{IsIntInRange}
use Rattle.code_btree.specs.Node.{Pair}
use Rattle.code_btree.specs.Items.{Each, ceiling_item}
use Rattle.code_btree.specs.Tree.{Store, tree_items}
use Rattle.code_btree.proofs.Orders.{lt_not}
use Rattle.attr_index.specs.declared.index.AttrIndex.{AttrIndex}
use Rattle.attr_index.specs.Key.{offset, int_from, int_of, IsIntKey}
use Rattle.attr_index.specs.Entries.{Entry, IntEntry, int_entries, is_int_within, is_after, between_entry}
use Rattle.attr_index.specs.Index.{IsIntIndex, index_entry, entries, index_entries}
use Rattle.attr_index.specs.Steps.{least_place}
use Rattle.attr_index.proofs.Ints.{int_key_number, int_back, key_back, offset_lt, offset_le, lt_by_offset, le_by_offset, int_lt_not, int_le_is, int_le_not}
use Rattle.attr_index.proofs.Pairs.{find-map, Each-pairs}
use Rattle.attr_index.proofs.Searches.{IsSearch, none_left, one_found, all_behind, ceiling_holds}
use Rattle.attr_index.proofs.Equals.{and_false}

-- the test of a place
abbrev wanted : ℤ → ℤ → Option IntEntry → ℕ → Bool
wanted low high after k = is_int_within low high (int_of (k / 2 ^ 32)) && is_after after (int_of (k / 2 ^ 32), k % 2 ^ 32)

-- a key that is an int's
abbrev Kept : ℕ → Type 0
Kept k = IsIntKey (k / 2 ^ 32)

-- the entry after which one is looked for is one of an int and an id
abbrev pub IsFitEntry : Option IntEntry → Type 0
IsFitEntry after = IfSome after (λ a. IsIntInRange a.0 × (a.1 < 2 ^ 32))

-- the place of an int
record IsAt (k : ℕ) (v : ℤ) : Type 0 where
  range : IsIntInRange v
  whole : k / 2 ^ 32 ≡ offset v * 2 ^ 32
  int : int_of (k / 2 ^ 32) ≡ v

at_int : (k : ℕ) → Kept k → (v : ℤ) × IsAt k v
at_int k p =
    let r : IsIntInRange p.0 = p.1.0 in
    (p.0, record { range = r; whole = p.1.1 ∙ int_key_number p.0 r; int = ap int_of p.1.1 ∙ key_back p.0 r })

-- an int below the bounds, or above them, is not wanted
too_low : (low high v : ℤ) (b : Bool) → v <ℤ low → (is_int_within low high v && b) ≡ false
too_low low high v b h = ap (λ (c : Bool). (c && int_le v high) && b) (int_le_not low v h)

too_high : (low high v : ℤ) (b : Bool) → high <ℤ v → (is_int_within low high v && b) ≡ false
too_high low high v b h = ap (λ (c : Bool). (int_le low v && c) && b) (int_le_not v high h) ∙ ap (λ (c : Bool). c && b) (and_false (int_le low v))

-- an entry up to another one doesn't come after it
not_after : (a : IntEntry) (v : ℤ) (k : ℕ) → IsIntInRange a.0 → a.1 < 2 ^ 32 → IsAt k v → k ≤ offset a.0 * 2 ^ 64 + a.1 → is_after (Some a) (v, k % 2 ^ 32) ≡ false
not_after a v k r small at h =
    let least : offset v ≤ offset a.0 = omega (arith, at.whole, h, small) in
    ap (λ (c : Bool). c || (int_le a.0 v && nat_lt a.1 (k % 2 ^ 32))) (int_lt_not a.0 v (le_by_offset v a.0 r least))
    ∙ by_lt_z v a.0 (λ l. ap (λ (c : Bool). c && nat_lt a.1 (k % 2 ^ 32)) (int_le_not a.0 v l))
    (λ l. ap (λ (c : Bool). int_le a.0 v && c) (lt_not a.1 (k % 2 ^ 32) (omega (arith, at.whole, h, small, offset_le a.0 v l))) ∙ and_false (int_le a.0 v))

-- a place below the first one is not wanted
lesser_at : (low high v : ℤ) (after : Option IntEntry) (k : ℕ) → IsFitEntry after → IsAt k v → k < least_place low after → (is_int_within low high v && is_after after (v, k % 2 ^ 32)) ≡ false
lesser_at low high v None k fit at l = too_low low high v true (lt_by_offset v low (omega (arith, at.whole, l)))
lesser_at low high v (Some a) k fit at l = elim (leb_tells (offset low * 2 ^ 64) k) [
  | inl x ↦
      let upto : k ≤ offset a.0 * 2 ^ 64 + a.1 = omega (arith, x.1, l) in
      ap (λ (c : Bool). is_int_within low high v && c) (not_after a v k fit.0 fit.1 at upto) ∙ and_false (is_int_within low high v)
  | inr x ↦ too_low low high v (is_after (Some a) (v, k % 2 ^ 32)) (lt_by_offset v low (omega (arith, at.whole, x.1)))
]

-- the test of the place of an int
wanted_at : (low high v : ℤ) (after : Option IntEntry) (k : ℕ) → IsAt k v → wanted low high after k ≡ (is_int_within low high v && is_after after (v, k % 2 ^ 32))
wanted_at low high v after k at = ap (λ (n : ℤ). is_int_within low high n && is_after after (n, k % 2 ^ 32)) at.int

searched : (low high : ℤ) (after : Option IntEntry) (from : ℕ) → IsFitEntry after → from ≡ least_place low after → IsSearch Kept (wanted low high after) from
searched low high after from fit ef = record {
  lesser = λ k p l.
      let v = at_int k p in
      wanted_at low high v.0 after k v.1 ∙ lesser_at low high v.0 after k fit v.1 (omega (arith, l, ef));
}

-- behind a place of a too great int there are only such
greater_at : (low high : ℤ) (after : Option IntEntry) (at k : ℕ) → IsIntInRange high → Kept at → high <ℤ int_from (at / 2 ^ 64) → Kept k → at ≤ k → wanted low high after k ≡ false
greater_at low high after at k r q h p l =
    let u = at_int at q in
    let v = at_int k p in
    let top : at / 2 ^ 64 ≡ offset u.0 = omega (arith, u.1.whole) in
    let G : ℤ → Type 0 = λ n. high <ℤ n in
    let over : high <ℤ u.0 = subst G (ap int_from top ∙ int_back u.0 u.1.range) h in
    wanted_at low high v.0 after k v.1
    ∙ too_high low high v.0 (is_after after (v.0, k % 2 ^ 32)) (lt_by_offset high v.0 (omega (arith, offset_lt high u.0 r over, u.1.whole, v.1.whole, l)))

-- the entry that the pair found stands for
entry_is : (low high : ℤ) (after : Option IntEntry) (es : List Pair) (o : Option Pair) → find (λ e. wanted low high after e.0) es ≡ o
    → between_entry low high after (int_entries (entries es)) ≡ option_map (λ (d : Entry). (int_of d.0, d.1)) (option_map (λ (e : Pair). index_entry e.0) o)
entry_is low high after es o h =
    let f : Pair → Entry = λ e. index_entry e.0 in
    let g : Entry → IntEntry = λ d. (int_of d.0, d.1) in
    let q : IntEntry → Bool = λ i. is_int_within low high i.0 && is_after after i in
    find-map g q (entries es) ∙ ap (λ (p : Option Entry). option_map g p) (find-map f (λ d. q (g d)) es ∙ ap (λ (p : Option Pair). option_map f p) h)

pub between_none : (m : Store) (x : AttrIndex) (low high : ℤ) (after : Option IntEntry) (from : ℕ) (o : Option Pair) → IsIntIndex m x → IsFitEntry after → from ≡ least_place low after
    → o ≡ ceiling_item from (tree_items m x.tree) → o ≡ None → None ≡ between_entry low high after (int_entries (index_entries m x))
between_none m x low high after from o i fit ef e is =
    let es : List Pair = tree_items m x.tree in
    sym (entry_is low high after es None (none_left Kept (wanted low high after) from es (searched low high after from fit ef) (Each-pairs (λ d. IsIntKey d.0) es i.ints) (sym e ∙ is)))

pub between_behind : (m : Store) (x : AttrIndex) (low high : ℤ) (after : Option IntEntry) (from : ℕ) (o : Option Pair) (d : Pair) → IsIntIndex m x → IsFitEntry after → from ≡ least_place low after
    → o ≡ ceiling_item from (tree_items m x.tree) → o ≡ Some d → IsIntInRange high → high <ℤ int_from (d.0 / 2 ^ 64) → None ≡ between_entry low high after (int_entries (index_entries m x))
between_behind m x low high after from o d i fit ef e is r over =
    let es : List Pair = tree_items m x.tree in
    let kept : Each (λ c. Kept c.0) es = Each-pairs (λ c. IsIntKey c.0) es i.ints in
    let one : Kept d.0 = ceiling_holds Kept from d es kept (sym e ∙ is) in
    sym (entry_is low high after es None
    (all_behind Kept (wanted low high after) from d es (searched low high after from fit ef) (λ k p l. greater_at low high after d.0 k r one over p l) kept i.index.tree.at.ascending (sym e ∙ is)))

pub between_found : (m : Store) (x : AttrIndex) (low high : ℤ) (after : Option IntEntry) (from : ℕ) (o : Option Pair) (d : Pair) (entry : IntEntry) → IsIntIndex m x
    → IsFitEntry after → from ≡ least_place low after
    → o ≡ ceiling_item from (tree_items m x.tree) → o ≡ Some d → entry.0 ≡ int_from (d.0 / 2 ^ 64) → entry.1 ≡ d.0 % 2 ^ 32 → low ≤ℤ entry.0 → entry.0 ≤ℤ high → is_after after entry ≡ true
    → Some entry ≡ between_entry low high after (int_entries (index_entries m x))
between_found m x low high after from o d entry i fit ef e is number id least most behind =
    let es : List Pair = tree_items m x.tree in
    let halves : d.0 / 2 ^ 64 ≡ d.0 / 2 ^ 32 / 2 ^ 32 = omega arith in
    let same : entry ≡ (int_of (d.0 / 2 ^ 32), d.0 % 2 ^ 32) = ap₂ (λ (n : ℤ) (j : ℕ). (n, j)) (number ∙ ap int_from halves) id in
    let test : (is_int_within low high entry.0 && is_after after entry) ≡ true =
    ap₂ (λ (b c : Bool). (b && c) && is_after after entry) (int_le_is low entry.0 least) (int_le_is entry.0 high most) ∙ behind in
    let passes : wanted low high after d.0 ≡ true = ap (λ (j : IntEntry). is_int_within low high j.0 && is_after after j) (sym same) ∙ test in
    ap (λ (j : IntEntry). Some j) same
    ∙ sym (entry_is low high after es (Some d) (one_found Kept (wanted low high after) from d es (searched low high after from fit ef) (Each-pairs (λ c. IsIntKey c.0) es i.ints) (sym e ∙ is) passes))

-- the first place, where the bound went through 64 bits
pub place_from : (low : ℤ) (after : Option IntEntry) (from : ℕ) → FitsSigned w64 low → from ≡ least_place (cast_signed w64 (cast_unsigned w64 low)) after → from ≡ least_place low after
place_from low after from h e = e ∙ ap (λ (n : ℤ). least_place n after) (to_z-of_z w64 low h)
