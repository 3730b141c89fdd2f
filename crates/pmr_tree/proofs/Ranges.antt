-- The pairs of a key range.
use Rattle.std.proofs.Common.{◌≡◌, ℕ, suc, ◌+◌, ◌/◌, ◌^◌, ◌<◌, ◌≤◌, ◌⊎◌, inl, inr, true, false, cond, zero, List, [], ◌∷◌, ◌++◌, length, take, refl, sym, ◌∙◌, ap, subst, arith}
use Rattle.std.specs.Prelude.{filter, nat_lt, nat_le, None, Some}
use Rattle.std.proofs.lemmas.Bool.{false≢true}
use Rattle.std.proofs.lemmas.Bool.Decides.{nat_tests}
use Rattle.code_btree.specs.Between.{items_between}
use Rattle.code_btree.specs.Items.{Ascending, items_from, first_item, ceiling_item}
use Rattle.z_code.specs.declared.block.Block.{Block}
use Rattle.pmr_tree.specs.Lists.{Each, Above, RiseStrictly, is_from_to}
use Rattle.pmr_tree.specs.Keys.{mark_of}
use Rattle.pmr_tree.specs.Leaves.{firsts, own_pairs}
use Rattle.pmr_tree.specs.Listing.{Pair}
use Rattle.pmr_tree.proofs.AscendingLists.{holds, fails, test, each_map, filter_none, filter_same}
use Rattle.pmr_tree.proofs.Orders.{between_true, between_below, between_above, between_from, between_to}
use Rattle.pmr_tree.proofs.PairLists.{firsts_rise}

at_least : (low x : ℕ) → nat_lt x low ≡ false → nat_le low x ≡ true
at_least low x h = grind (arith, nat_tests)

neither : (low high x : ℕ) → nat_lt x low ≡ true → is_from_to low high x ≡ false
neither low high x h = (let no : nat_le low x ≡ false = below low x h in rw no refl) where
  below : (low x : ℕ) → nat_lt x low ≡ true → nat_le low x ≡ false
  below low x h = grind (arith, nat_tests)

-- those from a key on and below another
pub range_filter : (low high : ℕ) (es : List Pair) → items_between low high es ≡ filter (λ e. is_from_to low high e.0) es
range_filter low high [] = refl
range_filter low high (e ∷ es) =
    let more = range_filter low high es in
    elim (test (nat_lt e.0 low)) [
      | holds h ↦ (let no = neither low high e.0 h in rw (h, no) more)
      | fails h ↦ elim (test (nat_lt e.0 high)) [
        | holds t ↦ (let from = at_least low e.0 h in rw (h, t, from) (ap (λ t. e ∷ t) more))
        | fails t ↦ (let from = at_least low e.0 h in rw (h, t, from) more)
      ]
    ]

-- a block's own entries are those from its mark on and below the end of its range
pub own_range : (b : Block) (mark : ℕ) (es : List Pair) → mark ≡ mark_of b → items_between mark (mark + 2 ^ 32) es ≡ own_pairs b es
own_range b mark es me = range_filter mark (mark + 2 ^ 32) es ∙ ap (λ m. filter (λ e. is_from_to m (m + 2 ^ 32) e.0) es) me

-- and so the gets
pub own_price : (b : Block) (mark height old new : ℕ) (es : List Pair) → mark ≡ mark_of b → new ≤ old + (height + 1 + length (items_between mark (mark + 2 ^ 32) es) / 63)
    → new ≤ old + (height + 1 + length (own_pairs b es) / 63)
own_price b mark height old new es me h = omega (arith, h, ap length (own_range b mark es me))

-- the entries from a key on and below another
abbrev pub in_range : ℕ → ℕ → List Pair → List Pair
in_range low high es = filter (λ e. is_from_to low high e.0) es

not_below : (low x : ℕ) → nat_lt x low ≡ false → low ≤ x
not_below low x h = grind (arith, nat_tests)

some_same : {A : Type 0} (x y : A) → Some x ≡ Some y → x ≡ y
some_same x y e = cc

none_some : {A : Type 0} (x : A) → Some x ≡ None → ⊥
none_some x e = cc

-- the first entry from a key on, of a list whose first one is before the key or not
ceiling_later : (low : ℕ) (e : Pair) (es : List Pair) → nat_lt e.0 low ≡ true → ceiling_item low (e ∷ es) ≡ ceiling_item low es
ceiling_later low e es h = ap (λ c. first_item (cond c (items_from low es) (e ∷ items_from low es))) h

ceiling_here : (low : ℕ) (e : Pair) (es : List Pair) → nat_lt e.0 low ≡ false → ceiling_item low (e ∷ es) ≡ Some e
ceiling_here low e es h = ap (λ c. first_item (cond c (items_from low es) (e ∷ items_from low es))) h

-- an entry is in a range, or it isn't
in_later : (low high : ℕ) (e : Pair) (es : List Pair) → is_from_to low high e.0 ≡ false → in_range low high (e ∷ es) ≡ in_range low high es
in_later low high e es h = ap (λ c. cond c (e ∷ in_range low high es) (in_range low high es)) h

in_here : (low high : ℕ) (e : Pair) (es : List Pair) → is_from_to low high e.0 ≡ true → in_range low high (e ∷ es) ≡ e ∷ in_range low high es
in_here low high e es h = ap (λ c. cond c (e ∷ in_range low high es) (in_range low high es)) h

-- no entry is from a key on
pub none_between : (low high : ℕ) (es : List Pair) → ceiling_item low es ≡ None → in_range low high es ≡ []
none_between low high [] none = refl
none_between low high (e ∷ es) none =
    elim (test (nat_lt e.0 low)) [
      | holds h ↦ in_later low high e es (neither low high e.0 h) ∙ none_between low high es (sym (ceiling_later low e es h) ∙ none)
      | fails h ↦ absurd (none_some e (sym (ceiling_here low e es h) ∙ none))
    ]

-- what holds of the keys of entries holds of the entries
pub each_key : (P : ℕ → Type 0) (es : List Pair) → Each P (firsts es) → Each (λ e. P e.0) es
each_key P [] h = tt
each_key P (e ∷ es) h = (h.0, each_key P es h.1)

none_in : (low high x : ℕ) (es : List Pair) → high ≤ x → Above x (firsts es) → in_range low high es ≡ []
none_in low high x es l h =
    filter_none (λ e. is_from_to low high e.0) es
    (each_key (λ k. is_from_to low high k ≡ false) es (each_map (λ k. x < k) (λ k. is_from_to low high k ≡ false) (λ k m. between_above low high k (omega (arith, l, m))) (firsts es) h))

-- the first entry from a key on is behind the range
past_keys : (low high : ℕ) (es : List Pair) (e : Pair) → RiseStrictly (firsts es) → ceiling_item low es ≡ Some e → high ≤ e.0 → in_range low high es ≡ []
past_keys low high [] e rise is l = refl
past_keys low high (x ∷ xs) e rise is l =
    elim (test (nat_lt x.0 low)) [
      | holds h ↦ in_later low high x xs (neither low high x.0 h) ∙ past_keys low high xs e rise.1 (sym (ceiling_later low x xs h) ∙ is) l
      | fails h ↦
          (let same : x ≡ e = some_same x e (sym (ceiling_here low x xs h) ∙ is) in
          let past : high ≤ x.0 = omega (arith, l, ap (λ (p : Pair). p.0) same) in
          in_later low high x xs (between_above low high x.0 past) ∙ none_in low high x.0 xs past rise.0)
    ]

pub past_between : (low high : ℕ) (es : List Pair) (e : Pair) → Ascending es → ceiling_item low es ≡ Some e → high ≤ e.0 → in_range low high es ≡ []
past_between low high es e asc is l = past_keys low high es e (firsts_rise es asc) is l

-- the first entry from a key on is in the range
pub some_between : (low high : ℕ) (es : List Pair) (e : Pair) → ceiling_item low es ≡ Some e → e.0 < high → e ∷ [] ≡ take 1 (in_range low high es)
some_between low high [] e is l = absurd (none_some e (sym is))
some_between low high (x ∷ xs) e is l =
    elim (test (nat_lt x.0 low)) [
      | holds h ↦ some_between low high xs e (sym (ceiling_later low x xs h) ∙ is) l ∙ ap (take 1) (sym (in_later low high x xs (neither low high x.0 h)))
      | fails h ↦
          (let same : x ≡ e = some_same x e (sym (ceiling_here low x xs h) ∙ is) in
          let to : x.0 < high = omega (arith, l, ap (λ (p : Pair). p.0) same) in
          let at : in_range low high (x ∷ xs) ≡ x ∷ in_range low high xs = in_here low high x xs (between_true low high x.0 (not_below low x.0 h) to) in
          ap (λ t. t ∷ []) (sym same) ∙ ap (take 1) (sym at))
    ]

-- the first entry of a range is in it
first_in : (low high : ℕ) (es : List Pair) (e : Pair) → e ∷ [] ≡ take 1 (in_range low high es) → low ≤ e.0
first_in low high [] e is = absurd (nil e is) where
  nil : (e : Pair) → e ∷ [] ≡ [] → ⊥
  nil e h = cc
first_in low high (x ∷ xs) e is =
    elim (test (is_from_to low high x.0)) [
      | holds h ↦ (let same : e ≡ x = one_same e x (is ∙ ap (take 1) (in_here low high x xs h)) in omega (arith, between_from low high x.0 h, ap (λ (p : Pair). p.0) same))
      | fails h ↦ first_in low high xs e (is ∙ ap (take 1) (in_later low high x xs h))
    ]
  where
    one_same : (x y : Pair) → x ∷ [] ≡ y ∷ [] → x ≡ y
    one_same x y h = cc

-- behind the first entry of a range are those from the next key on
pub next_in : (low high : ℕ) (es : List Pair) (e : Pair) → RiseStrictly (firsts es) → e ∷ [] ≡ take 1 (in_range low high es) → in_range low high es ≡ e ∷ in_range (e.0 + 1) high es
next_in low high [] e rise is = absurd (nil e is) where
  nil : (e : Pair) → e ∷ [] ≡ [] → ⊥
  nil e h = cc
next_in low high (x ∷ xs) e rise is =
    elim (test (is_from_to low high x.0)) [
      | holds h ↦
          (let same : e ≡ x = one_same e x (is ∙ ap (take 1) (in_here low high x xs h)) in
          let rest : in_range low high xs ≡ in_range (x.0 + 1) high xs = behind x.0 (between_from low high x.0 h) rise.0 in
          let here : in_range low high (x ∷ xs) ≡ x ∷ in_range (x.0 + 1) high (x ∷ xs) =
          in_here low high x xs h ∙ ap (λ t. x ∷ t) (rest ∙ sym (in_later (x.0 + 1) high x xs (between_below (x.0 + 1) high x.0 (omega arith)))) in
          subst (λ y. in_range low high (x ∷ xs) ≡ y ∷ in_range (y.0 + 1) high (x ∷ xs)) (sym same) here)
      | fails h ↦
          (let more = is ∙ ap (take 1) (in_later low high x xs h) in
          let out : is_from_to (e.0 + 1) high x.0 ≡ false = still_out e.0 x.0 (first_in low high xs e more) h in
          in_later low high x xs h ∙ next_in low high xs e rise.1 more ∙ ap (λ t. e ∷ t) (sym (in_later (e.0 + 1) high x xs out)))
    ]
  where
    one_same : (x y : Pair) → x ∷ [] ≡ y ∷ [] → x ≡ y
    one_same x y h = cc

    still_out : (k y : ℕ) → low ≤ k → is_from_to low high y ≡ false → is_from_to (k + 1) high y ≡ false
    still_out k y l h =
        elim (test (is_from_to (k + 1) high y)) [
          | holds t ↦ absurd (false≢true (sym h ∙ between_true low high y (omega (arith, l, between_from (k + 1) high y t)) (between_to (k + 1) high y t)))
          | fails t ↦ t
        ]

    behind : (k : ℕ) → low ≤ k → Above k (firsts xs) → in_range low high xs ≡ in_range (k + 1) high xs
    behind k l h =
        filter_same (λ e. is_from_to low high e.0) (λ e. is_from_to (k + 1) high e.0) xs
        (each_key (λ y. is_from_to low high y ≡ is_from_to (k + 1) high y) xs
        (each_map (λ y. k < y) (λ y. is_from_to low high y ≡ is_from_to (k + 1) high y) (λ y m. alike k y l m) (firsts xs) h))
      where
        alike : (k y : ℕ) → low ≤ k → k < y → is_from_to low high y ≡ is_from_to (k + 1) high y
        alike k y l m =
            elim (test (is_from_to low high y)) [
              | holds h ↦ h ∙ sym (between_true (k + 1) high y (omega (arith, m)) (between_to low high y h))
              | fails h ↦ h ∙ sym (still_out k y l h)
            ]

-- a list that was read from its beginning on: all of it, or so many
pub read_from : {A : Type 0} (n : ℕ) (whole found rest : List A) → whole ≡ found ++ rest → length found ≤ n → (rest ≡ []) ⊎ (n ≤ length found) → found ≡ take n whole
read_from n whole found rest is few end = filled n found rest few end ∙ ap (take n) (sym is) where
  nothing : {A : Type 0} (n : ℕ) (xs : List A) → xs ≡ [] → [] ≡ take n xs
  nothing zero xs e = refl
  nothing (suc n) xs e = sym (ap (take (suc n)) e)

  filled : {A : Type 0} (n : ℕ) (found rest : List A) → length found ≤ n → (rest ≡ []) ⊎ (n ≤ length found) → found ≡ take n (found ++ rest)
  filled n [] rest few (inl e) = nothing n rest e
  filled zero [] rest few (inr h) = refl
  filled (suc n) [] rest few (inr h) = absurd (omega (arith, h))
  filled zero (x ∷ xs) rest few end = absurd (omega (arith, few))
  filled (suc n) (x ∷ xs) rest few (inl e) = ap (λ t. x ∷ t) (filled n xs rest (omega (arith, few)) (inl e))
  filled (suc n) (x ∷ xs) rest few (inr h) = ap (λ t. x ∷ t) (filled n xs rest (omega (arith, few)) (inr (omega (arith, h))))

-- one more of it was read
pub read_on : {A : Type 0} (whole found rest more : List A) (x : A) → whole ≡ found ++ rest → rest ≡ x ∷ more → whole ≡ (found ++ (x ∷ [])) ++ more
read_on whole found rest more x is next = is ∙ ap (λ t. found ++ t) next ∙ moved found x more where
  moved : {A : Type 0} (xs : List A) (x : A) (more : List A) → xs ++ (x ∷ more) ≡ (xs ++ (x ∷ [])) ++ more
  moved [] x more = refl
  moved (y ∷ ys) x more = ap (λ t. y ∷ t) (moved ys x more)

-- nothing is left where no first one is
pub none_first : {A : Type 0} (xs : List A) → [] ≡ take 1 xs → xs ≡ []
none_first [] e = refl
none_first (x ∷ xs) e = absurd (nil x e) where
  nil : {A : Type 0} (x : A) → [] ≡ x ∷ [] → ⊥
  nil x h = cc

-- the entries of a block itself are those of its range
pub own_in : (b : Block) (mark high : ℕ) (es : List Pair) → mark ≡ mark_of b → high ≡ mark + 2 ^ 32 → own_pairs b es ≡ [] ++ in_range mark high es
own_in b mark high es me he = sym (ap (λ h. in_range mark h es) he ∙ ap (λ m. in_range m (m + 2 ^ 32) es) me)

pub length_one : {A : Type 0} (xs : List A) (x : A) → length (xs ++ (x ∷ [])) ≡ length xs + 1
length_one [] x = refl
length_one (y ∷ ys) x = omega (arith, length_one ys x)
