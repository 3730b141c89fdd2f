-- The sorted rows of a column whose ints lie within bounds, and the entries of its index that do.
use Rattle.std.proofs.Common.{◌≡◌, ℕ, ℤ, suc, ◌+◌, ◌/◌, ◌%◌, ◌^◌, ◌<◌, ◌≤◌, ◌<ℤ◌, Bool, true, false, not, ◌&&◌, ◌||◌, cond, List, [], ◌∷◌, map, filter, refl, sym, ◌∙◌}
use Rattle.std.proofs.Common.{ap, ap₂, subst, inl, inr, arith, true≢false}
use Rattle.std.specs.Prelude.{nat_lt, nat_le, int_lt, int_le, Option, None, Some, is_some}
use Rattle.std.specs.Cmp.{int_ranks}
use Rattle.std.specs.Ordering.{int_cmp, is_lt, MatchOrdering}
use Rattle.std.specs.declared.cmp.Ordering.{Ordering}
use Rattle.std.specs.declared.cmp.Ordering.TheVariants as ordering
use Rattle.std.proofs.lemmas.Bool.Decides.{leb_tells}
use Rattle.std.proofs.lemmas.Int.{ints}
use Rattle.code_btree.specs.Items.{Each}
use Rattle.code_btree.specs.Tree.{times}
use Rattle.code_btree.proofs.Lists.{same_cases, Each-map}
use Rattle.code_btree.proofs.Orders.{lt_is, lt_not}
use Rattle.sand_base.specs.InRange.{IsIntInRange}
use Rattle.sand_base.specs.declared.value.Value.{Value}
use Rattle.sand_base.specs.declared.value.Value.TheVariants as value
use Rattle.sand_model.specs.Answer.{number_cmp, is_between, plain_row}
use Rattle.sand_model.specs.Operators.{PlanRow}
use Rattle.sand_model.specs.Sources.{sorted}
use Rattle.attr_index.specs.Entries.{Entry, IntEntry, entry_number, IsInOrder, int_entries, is_int_within, is_after, between_entry}
use Rattle.attr_index.specs.Key.{value_key, int_of, IsIntKey}
use Rattle.attr_index.proofs.Ints.{key_lt, key_back, int_lt_is, int_lt_not, int_le_is, int_le_not}
use Rattle.attr_index.proofs.Pairs.{Each-filter}
use Rattle.plan_names.proofs.Above.{Pairs, InOrder}
use Rattle.plan_sources.specs.Plain.{lies_within, row_of_number, place_after, IsFitAfter, left_from}
use Rattle.plan_names.proofs.IntColumns.{IsIntPair}
use Rattle.plan_sources.proofs.Sorting.{Rising, rising_same, number_of, numbers, times_sorted, rising_sorted}

-- the tests of an int are the same
le_is : (n k : ℤ) → not (is_lt (int_cmp k n)) ≡ int_le n k
le_is n k = go (int_cmp k n) refl (int_ranks k n) where
  go : (o : Ordering) → int_cmp k n ≡ o → MatchOrdering o (k <ℤ n) (k ≡ n) (n <ℤ k) → not (is_lt (int_cmp k n)) ≡ int_le n k
  go ordering.Less e r = rw e (sym (int_le_not n k r))
  go ordering.Equal e r = (let same : k ≡ n = r in rw e (sym (int_le_is n k (omega (arith, ints, same)))))
  go ordering.Greater e r = (let less : n <ℤ k = r in rw e (sym (int_le_is n k (omega (arith, ints, less)))))

between_is : (low high n : ℤ) → is_between low high (value.Int n) ≡ is_int_within low high n
between_is low high n = ap₂ (λ (a b : Bool). a && b) (le_is low n) (le_is n high)

times_filter : (q : ℕ → Bool) (n : ℕ) (ns : List ℕ) → times n (filter q ns) ≡ cond (q n) (times n ns) 0
times_filter q n [] = elim (q n) as (λ b. times n [] ≡ cond b (times n []) 0) [ true ↦ refl | false ↦ refl ]
times_filter q n (k ∷ ns) = elim (same_cases n k) [
  | inl x ↦
      let at : q n ≡ q k = ap q x.1 in
      let go : (b : Bool) → q k ≡ b → times n (cond b (k ∷ filter q ns) (filter q ns)) ≡ cond (q n) (times n (k ∷ ns)) 0 =
      elim [
        | true ↦ λ e. (let rest : times n (filter q ns) ≡ times n ns = times_filter q n ns ∙ rw (at ∙ e) refl in rw (at ∙ e) (omega (arith, rest)))
        | false ↦ λ e. (times_filter q n ns ∙ rw (at ∙ e) refl)
      ] in
      go (q k) refl
  | inr x ↦
      let less : times n (k ∷ ns) ≡ times n ns = omega (arith, x.0) in
      let rest : times n (filter q ns) ≡ cond (q n) (times n (k ∷ ns)) 0 = times_filter q n ns ∙ ap (λ (c : ℕ). cond (q n) c 0) (sym less) in
      elim (q k) as (λ b. times n (cond b (k ∷ filter q ns) (filter q ns)) ≡ cond (q n) (times n (k ∷ ns)) 0) [ true ↦ omega (arith, x.0, rest) | false ↦ rest ]
]

-- a test of the numbers goes through to what has them
map_filter : {A : Type 0} (f : A → ℕ) (p : A → Bool) (q : ℕ → Bool) (xs : List A) → Each (λ x. p x ≡ q (f x)) xs → map f (filter p xs) ≡ filter q (map f xs)
map_filter f p q [] h = refl
map_filter f p q (x ∷ xs) h =
    let rest = map_filter f p q xs h.1 in
    let go : (b : Bool) → q (f x) ≡ b → map f (cond (p x) (x ∷ filter p xs) (filter p xs)) ≡ cond (q (f x)) (f x ∷ filter q (map f xs)) (filter q (map f xs)) =
    elim [ true ↦ λ e. rw (h.0, e) (ap (λ (ns : List ℕ). f x ∷ ns) rest) | false ↦ λ e. rw (h.0, e) rest ] in
    go (q (f x)) refl

-- a part of pairs, or of numbers, in order is in order
order_filter : (p : ℕ × Value → Bool) (ps : Pairs) → InOrder ps → InOrder (filter p ps)
order_filter p [] h = tt
order_filter p (x ∷ ps) h = elim (p x) as (λ b. InOrder (cond b (x ∷ filter p ps) (filter p ps))) [
  | true ↦ (Each-filter (λ q. x.0 < q.0) p ps h.0, order_filter p ps h.1)
  | false ↦ order_filter p ps h.1
]

rising_filter : (p : ℕ → Bool) (ns : List ℕ) → Rising ns → Rising (filter p ns)
rising_filter p [] h = tt
rising_filter p (n ∷ ns) h = elim (p n) as (λ b. Rising (cond b (n ∷ filter p ns) (filter p ns))) [
  | true ↦ (Each-filter (λ k. n < k) p ns h.0, rising_filter p ns h.1)
  | false ↦ rising_filter p ns h.1
]

above_numbers : (e : Entry) (es : List Entry) → Each (λ d. entry_number e < entry_number d) es → Each (λ n. entry_number e < n) (map entry_number es)
above_numbers e [] h = tt
above_numbers e (d ∷ es) h = (h.0, above_numbers e es h.1)

pub rising_entries : (es : List Entry) → IsInOrder es → Rising (map entry_number es)
rising_entries [] h = tt
rising_entries (e ∷ es) h = (above_numbers e es h.0, rising_entries es h.1)

-- a pair's test is that of its number
pair_test : (low high : ℤ) (p : ℕ × Value) → IsIntPair p → is_between low high p.1 ≡ lies_within low high (number_of p)
pair_test low high p h =
    let halves : number_of p / 2 ^ 32 ≡ value_key p.1 = omega (arith, h.1.1.1) in
    let back : int_of (number_of p / 2 ^ 32) ≡ h.0 = ap int_of (halves ∙ ap (λ (v : Value). value_key v) h.1.0) ∙ key_back h.0 h.1.1.0 in
    ap (λ (v : Value). is_between low high v) h.1.0 ∙ between_is low high h.0 ∙ ap (λ (n : ℤ). is_int_within low high n) (sym back)

-- The numbers of the sorted pairs within bounds are those of the entries within them.
pub sorted_numbers : (low high : ℤ) (ps : Pairs) (es : List Entry) → Each IsIntPair ps → InOrder ps → IsInOrder es → ((n : ℕ) → times n (map entry_number es) ≡ times n (numbers ps))
    → numbers (sorted number_cmp (filter (λ p. is_between low high p.1) ps)) ≡ filter (lies_within low high) (map entry_number es)
sorted_numbers low high ps es i o s same =
    let q : ℕ → Bool = lies_within low high in
    let part : Pairs = filter (λ p. is_between low high p.1) ps in
    let tested : Each (λ p. is_between low high p.1 ≡ q (number_of p)) ps = Each-map IsIntPair (λ p. is_between low high p.1 ≡ q (number_of p)) (pair_test low high) ps i in
    rising_same (numbers (sorted number_cmp part)) (filter q (map entry_number es))
    (rising_sorted part (Each-filter IsIntPair (λ p. is_between low high p.1) ps i) (order_filter (λ p. is_between low high p.1) ps o))
    (rising_filter q (map entry_number es) (rising_entries es s))
    (λ n. times_sorted n part ∙ ap (λ (ns : List ℕ). times n ns) (map_filter number_of (λ p. is_between low high p.1) q ps tested)
    ∙ times_filter q n (numbers ps) ∙ ap (λ (c : ℕ). cond (q n) c 0) (sym (same n)) ∙ sym (times_filter q n (map entry_number es)))

-- so the rows are
pub rows_of_pairs : (ps : Pairs) → Each (λ p. p.0 < 2 ^ 32) ps → map (λ (p : ℕ × Value). plain_row p.0) ps ≡ map row_of_number (numbers ps)
rows_of_pairs [] h = refl
rows_of_pairs (p ∷ ps) h =
    let here : p.0 ≡ number_of p % 2 ^ 32 = omega (arith, h.0) in
    ap₂ (λ (i : ℕ) (rows : List PlanRow). plain_row i ∷ rows) here (rows_of_pairs ps h.1)

-- ---- the entries one by one

-- an entry of an int and an id of 32 bits
abbrev pub IsIntEntry : Entry → Type 0
IsIntEntry e = IsIntKey e.0 × (e.1 < 2 ^ 32)

le_true : (a b : ℕ) → a ≤ b → nat_le a b ≡ true
le_true a b h = elim (leb_tells a b) [ inl x ↦ x.0 | inr x ↦ absurd (omega (arith, x.1, h)) ]

le_false : (a b : ℕ) → b < a → nat_le a b ≡ false
le_false a b h = elim (leb_tells a b) [ inl x ↦ absurd (omega (arith, x.1, h)) | inr x ↦ x.0 ]

-- an entry comes after another one where its number does
after_is : (after : Option IntEntry) (e : Entry) → IsFitAfter after → IsIntEntry e → is_after after (int_of e.0, e.1) ≡ nat_le (place_after after) (entry_number e)
after_is None e f i = sym (le_true 0 (entry_number e) (omega arith))
after_is (Some a) e f i =
    let v : ℤ = i.0.0 in
    let back : int_of e.0 ≡ v = ap int_of i.0.1.1 ∙ key_back v i.0.1.0 in
    ap (λ (n : ℤ). int_lt a.0 n || (int_le a.0 n && nat_lt a.1 e.1)) back ∙ go (int_cmp a.0 v) refl (int_ranks a.0 v)
  where
    go : (o : Ordering) → int_cmp a.0 i.0.0 ≡ o → MatchOrdering o (a.0 <ℤ i.0.0) (a.0 ≡ i.0.0) (i.0.0 <ℤ a.0)
        → (int_lt a.0 i.0.0 || (int_le a.0 i.0.0 && nat_lt a.1 e.1)) ≡ nat_le (place_after (Some a)) (entry_number e)
    go ordering.Less s r =
        let l : value_key (value.Int a.0) < value_key (value.Int i.0.0) = key_lt a.0 i.0.0 f.0 i.0.1.0 r in
        rw (int_lt_is a.0 i.0.0 r) (sym (le_true (place_after (Some a)) (entry_number e) (omega (arith, l, i.0.1.1, f.1))))
    go ordering.Equal s r =
        let same : a.0 ≡ i.0.0 = r in
        let key : value_key (value.Int a.0) ≡ e.0 = ap (λ (n : ℤ). value_key (value.Int n)) same ∙ sym i.0.1.1 in
        rw (int_lt_not a.0 i.0.0 (omega (arith, ints, same)), int_le_is a.0 i.0.0 (omega (arith, ints, same))) (elim (leb_tells (suc a.1) e.1) [
          | inl x ↦ lt_is a.1 e.1 x.1 ∙ sym (le_true (place_after (Some a)) (entry_number e) (omega (arith, key, x.1)))
          | inr x ↦ lt_not a.1 e.1 (omega (arith, x.1)) ∙ sym (le_false (place_after (Some a)) (entry_number e) (omega (arith, key, x.1)))
        ])
    go ordering.Greater s r =
        let less : i.0.0 <ℤ a.0 = r in
        let l : value_key (value.Int i.0.0) < value_key (value.Int a.0) = key_lt i.0.0 a.0 i.0.1.0 f.0 less in
        rw (int_lt_not a.0 i.0.0 (omega (arith, ints, less)), int_le_not a.0 i.0.0 less) (sym (le_false (place_after (Some a)) (entry_number e) (omega (arith, l, i.0.1.1, i.1))))

pub filter_none : (from : ℕ) (ns : List ℕ) → Each (λ n. from ≤ n) ns → filter (nat_le from) ns ≡ ns
filter_none from [] h = refl
filter_none from (n ∷ ns) h = rw (le_true from n h.0) (ap (λ (ks : List ℕ). n ∷ ks) (filter_none from ns h.1))

none_some : {A : Type 0} (x : A) → None ≡ Some x → ⊥
none_some x e = true≢false (sym (ap (λ o. is_some o) e))

-- the test of a number within bounds is that of its int
lies_is : (low high : ℤ) (e : Entry) → e.1 < 2 ^ 32 → lies_within low high (entry_number e) ≡ is_int_within low high (int_of e.0)
lies_is low high e s =
    let halves : entry_number e / 2 ^ 32 ≡ e.0 = omega (arith, s) in
    ap (λ (k : ℕ). is_int_within low high (int_of k)) halves

-- an entry whose number lies outside, or below the place, is left out
left_out : (low high : ℤ) (from : ℕ) (e : Entry) (es : List Entry) → lies_within low high (entry_number e) ≡ false → left_from low high from (e ∷ es) ≡ left_from low high from es
left_out low high from e es h = rw h refl

left_below : (low high : ℤ) (from : ℕ) (e : Entry) (es : List Entry) → nat_le from (entry_number e) ≡ false → left_from low high from (e ∷ es) ≡ left_from low high from es
left_below low high from e es h =
    elim (lies_within low high (entry_number e)) as
    (λ b. filter (nat_le from) (cond b (entry_number e ∷ filter (lies_within low high) (map entry_number es)) (filter (lies_within low high) (map entry_number es))) ≡ left_from low high from es) [
      | true ↦ rw h refl
      | false ↦ refl
    ]

left_in : (low high : ℤ) (from : ℕ) (e : Entry) (es : List Entry) → lies_within low high (entry_number e) ≡ true → nat_le from (entry_number e) ≡ true
    → left_from low high from (e ∷ es) ≡ entry_number e ∷ left_from low high from es
left_in low high from e es h k = rw (h, k) refl

-- no entry: none is left
pub left_none : (low high : ℤ) (after : Option IntEntry) (es : List Entry) → IsFitAfter after → Each IsIntEntry es → between_entry low high after (int_entries es) ≡ None
    → left_from low high (place_after after) es ≡ []
left_none low high after [] f i h = refl
left_none low high after (e ∷ es) f i h = go (λ k. left_none low high after es f i.1 k) (is_int_within low high (int_of e.0)) (is_after after (int_of e.0, e.1)) refl refl where
  go : (between_entry low high after (int_entries es) ≡ None → left_from low high (place_after after) es ≡ []) → (w a : Bool) → is_int_within low high (int_of e.0) ≡ w
      → is_after after (int_of e.0, e.1) ≡ a → left_from low high (place_after after) (e ∷ es) ≡ []
  go rest true true ew ea = (let k : between_entry low high after (int_entries (e ∷ es)) ≡ Some (int_of e.0, e.1) = rw (ew, ea) refl in absurd (none_some (int_of e.0, e.1) (sym h ∙ k)))
  go rest true false ew ea =
      let k : between_entry low high after (int_entries (e ∷ es)) ≡ between_entry low high after (int_entries es) = rw (ew, ea) refl in
      left_below low high (place_after after) e es (sym (after_is after e f i.0) ∙ ea) ∙ rest (sym k ∙ h)
  go rest false a ew ea =
      let k : between_entry low high after (int_entries (e ∷ es)) ≡ between_entry low high after (int_entries es) = rw ew refl in
      left_out low high (place_after after) e es (lies_is low high e i.0.1 ∙ ew) ∙ rest (sym k ∙ h)

-- The first that is left: its number, and what is left behind it.
pub record IsLeft (low high : ℤ) (from : ℕ) (x : IntEntry) (es : List Entry) : Type 0 where
  pub number : ℕ
  pub first : left_from low high from es ≡ number ∷ left_from low high (place_after (Some x)) es
  pub place : place_after (Some x) ≡ number + 1
  pub id : number % 2 ^ 32 ≡ x.1
  pub fit : IsFitAfter (Some x)

above_left : (low high : ℤ) (from : ℕ) (e : Entry) (es : List Entry) → Each (λ d. entry_number e < entry_number d) es → Each (λ n. entry_number e < n) (left_from low high from es)
above_left low high from e es h =
    Each-filter (λ n. entry_number e < n) (nat_le from) (filter (lies_within low high) (map entry_number es))
    (Each-filter (λ n. entry_number e < n) (lies_within low high) (map entry_number es) (above_numbers e es h))

some_is : (x y : IntEntry) → Some x ≡ Some y → x ≡ y
some_is x y e = ap value_or e where
  value_or : Option IntEntry → IntEntry
  value_or None = x
  value_or (Some n) = n

-- an entry: it is the first that is left, and the others come after it
pub left_some : (low high : ℤ) (after : Option IntEntry) (x : IntEntry) (es : List Entry) → IsFitAfter after → Each IsIntEntry es → IsInOrder es
    → between_entry low high after (int_entries es) ≡ Some x
    → IsLeft low high (place_after after) x es
left_some low high after x [] f i o h = absurd (none_some x h)
left_some low high after x (e ∷ es) f i o h = go (λ k. left_some low high after x es f i.1 o.1 k) (is_int_within low high (int_of e.0)) (is_after after (int_of e.0, e.1)) refl refl where
  skip : IsLeft low high (place_after after) x es → left_from low high (place_after after) (e ∷ es) ≡ left_from low high (place_after after) es → IsLeft low high (place_after after) x (e ∷ es)
  skip l s =
      let P : List ℕ → Type 0 = λ ns. Each (λ n. entry_number e < n) ns in
      let behind : Each (λ n. entry_number e < n) (l.number ∷ left_from low high (place_after (Some x)) es) = subst P l.first (above_left low high (place_after after) e es o.0) in
      record {
        number = l.number;
        first = s ∙ l.first ∙ ap (λ (ns : List ℕ). l.number ∷ ns)
            (sym (left_below low high (place_after (Some x)) e es (le_false (place_after (Some x)) (entry_number e) (omega (arith, l.place, behind.0)))));
        place = l.place;
        id = l.id;
        fit = l.fit;
      }

  go : (between_entry low high after (int_entries es) ≡ Some x → IsLeft low high (place_after after) x es) → (w a : Bool) → is_int_within low high (int_of e.0) ≡ w
      → is_after after (int_of e.0, e.1) ≡ a → IsLeft low high (place_after after) x (e ∷ es)
  go rest true true ew ea =
      let k : between_entry low high after (int_entries (e ∷ es)) ≡ Some (int_of e.0, e.1) = rw (ew, ea) refl in
      let is : (int_of e.0, e.1) ≡ x = some_is (int_of e.0, e.1) x (sym k ∙ h) in
      let from : nat_le (place_after after) (entry_number e) ≡ true = sym (after_is after e f i.0) ∙ ea in
      let reached : place_after after ≤ entry_number e = elim (leb_tells (place_after after) (entry_number e)) [ inl z ↦ z.1 | inr z ↦ absurd (true≢false (sym from ∙ z.0)) ] in
      let whole : int_of e.0 ≡ i.0.0.0 = ap int_of i.0.0.1.1 ∙ key_back i.0.0.0 i.0.0.1.0 in
      let key : value_key (value.Int x.0) ≡ e.0 = ap (λ (y : IntEntry). value_key (value.Int y.0)) (sym is) ∙ ap (λ (n : ℤ). value_key (value.Int n)) whole ∙ sym i.0.0.1.1 in
      let id : x.1 ≡ e.1 = ap (λ (y : IntEntry). y.1) (sym is) in
      let place : place_after (Some x) ≡ entry_number e + 1 = omega (arith, key, id) in
      let all : Each (λ n. entry_number e < n) (filter (lies_within low high) (map entry_number es)) =
      Each-filter (λ n. entry_number e < n) (lies_within low high) (map entry_number es) (above_numbers e es o.0) in
      let behind : left_from low high (place_after after) es ≡ left_from low high (place_after (Some x)) es =
      filter_none (place_after after) (filter (lies_within low high) (map entry_number es))
      (Each-map (λ n. entry_number e < n) (λ n. place_after after ≤ n) (λ n l. omega (arith, l, reached)) (filter (lies_within low high) (map entry_number es)) all)
      ∙ sym (filter_none (place_after (Some x)) (filter (lies_within low high) (map entry_number es))
      (Each-map (λ n. entry_number e < n) (λ n. place_after (Some x) ≤ n) (λ n l. omega (arith, l, place)) (filter (lies_within low high) (map entry_number es)) all)) in
      record {
        number = entry_number e;
        first =
            left_in low high (place_after after) e es (lies_is low high e i.0.1 ∙ ew) from
            ∙ ap (λ (ns : List ℕ). entry_number e ∷ ns) (behind ∙ sym (left_below low high (place_after (Some x)) e es (le_false (place_after (Some x)) (entry_number e) (omega (arith, place)))));
        place = place;
        id = omega (arith, id, i.0.1);
        fit = (subst IsIntInRange (sym whole ∙ ap (λ (y : IntEntry). y.0) is) i.0.0.1.0, omega (arith, id, i.0.1));
      }
  go rest true false ew ea =
      let k : between_entry low high after (int_entries (e ∷ es)) ≡ between_entry low high after (int_entries es) = rw (ew, ea) refl in
      skip (rest (sym k ∙ h)) (left_below low high (place_after after) e es (sym (after_is after e f i.0) ∙ ea))
  go rest false a ew ea =
      let k : between_entry low high after (int_entries (e ∷ es)) ≡ between_entry low high after (int_entries es) = rw ew refl in
      skip (rest (sym k ∙ h)) (left_out low high (place_after after) e es (lies_is low high e i.0.1 ∙ ew))
