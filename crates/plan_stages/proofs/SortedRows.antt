-- What the rows of a sorted list of keyed rows are: the sorted list of the rows.
use Rattle.std.proofs.Common.{◌≡◌, ℕ, suc, Bool, true, false, cond, List, [], ◌∷◌, length, map, All, Option, Some, None, refl, sym, ◌∙◌, ap, ap₂, Ordering}
use Rattle.std.proofs.lemmas.List.Elements.{All-nil, All-cons, All-head, All-tail}
use Rattle.std.specs.Option.{option_map}
use Rattle.std.specs.Ordering.{is_lt}
use Rattle.std.specs.Prelude.{⊤}
use Rattle.exact_frac.specs.declared.frac.Frac.{Frac}
use Rattle.sand_model.specs.Operators.{PlanRow, gap_cmp}
use Rattle.sand_model.specs.Sources.{placed, sorted}
use Rattle.plan_iterator.specs.Lowest.{lowest_of}
use Rattle.plan_iterator.proofs.LowestFractions.{lowest_order}
use Rattle.plan_stages.specs.Keyed.{by_key, keyed_row, gapped_row, gap_order}
use Rattle.plan_stages.specs.declared.keyed.Keyed.{Keyed}

module _ {A : Type 0} (P : A → Type 0) (cmp : A → A → Ordering) where
  -- what holds of each element holds of each of the sorted list

  pub all_placed : (x : A) (ys : List A) → P x → All P ys → All P (placed cmp x ys)
  all_placed x [] here h = All-cons P x [] here h
  all_placed x (y ∷ ys) here h = by_test (is_lt (cmp y x)) (all_placed x ys here (All-tail P y ys h)) where
    by_test : (b : Bool) → All P (placed cmp x ys) → All P (cond b (y ∷ placed cmp x ys) (x ∷ y ∷ ys))
    by_test true more = All-cons P y (placed cmp x ys) (All-head P y ys h) more
    by_test false more = All-cons P x (y ∷ ys) here h

  pub all_sorted : (xs : List A) → All P xs → All P (sorted cmp xs)
  all_sorted [] h = h
  all_sorted (x ∷ xs) h = all_placed x (sorted cmp xs) (All-head P x xs h) (all_sorted xs (All-tail P x xs h))

  module _ {B : Type 0} (f : A → B) (order : B → B → Ordering) (same : (a b : A) → P a → P b → order (f a) (f b) ≡ cmp a b) where
    -- values that are ordered as their elements are sorted as these

    map_placed : (x : A) (ys : List A) → P x → All P ys → map f (placed cmp x ys) ≡ placed order (f x) (map f ys)
    map_placed x [] here h = refl
    map_placed x (y ∷ ys) here h =
        by_test (is_lt (cmp y x)) (map_placed x ys here (All-tail P y ys h))
        ∙ ap (λ (o : Ordering). cond (is_lt o) (f y ∷ placed order (f x) (map f ys)) (f x ∷ f y ∷ map f ys)) (sym (same y x (All-head P y ys h) here)) where
          by_test : (b : Bool) → map f (placed cmp x ys) ≡ placed order (f x) (map f ys)
              → map f (cond b (y ∷ placed cmp x ys) (x ∷ y ∷ ys)) ≡ cond b (f y ∷ placed order (f x) (map f ys)) (f x ∷ f y ∷ map f ys)
          by_test true more = ap (λ (zs : List B). f y ∷ zs) more
          by_test false more = refl

    pub map_sorted : (xs : List A) → All P xs → map f (sorted cmp xs) ≡ sorted order (map f xs)
    map_sorted [] h = refl
    map_sorted (x ∷ xs) h =
        map_placed x (sorted cmp xs) (All-head P x xs h) (all_sorted xs (All-tail P x xs h))
        ∙ ap (λ (zs : List B). placed order (f x) zs) (map_sorted xs (All-tail P x xs h))

-- a sorted list is as long as the list

length_placed : {A : Type 0} (cmp : A → A → Ordering) (x : A) (ys : List A) → length (placed cmp x ys) ≡ suc (length ys)
length_placed cmp x [] = refl
length_placed {A} cmp x (y ∷ ys) = by_test (is_lt (cmp y x)) (length_placed cmp x ys) where
  by_test : (b : Bool) → length (placed cmp x ys) ≡ suc (length ys) → length (cond b (y ∷ placed cmp x ys) (x ∷ y ∷ ys)) ≡ suc (suc (length ys))
  by_test true more = ap (λ (n : ℕ). suc n) more
  by_test false more = refl

pub length_sorted : {A : Type 0} (cmp : A → A → Ordering) (xs : List A) → length (sorted cmp xs) ≡ length xs
length_sorted cmp [] = refl
length_sorted cmp (x ∷ xs) = length_placed cmp x (sorted cmp xs) ∙ ap (λ (n : ℕ). suc n) (length_sorted cmp xs)

-- each row has the key that the function gives
abbrev pub HasKey : {K : Type 0} → (PlanRow → K) → Keyed K → Type 0
HasKey key_of k = k.key ≡ key_of (keyed_row k)

-- rows with such keys, sorted by their keys, are the rows sorted by what the function gives
pub rows_by_key : {K : Type 0} (cmp : K → K → Ordering) (key_of : PlanRow → K) (ks : List (Keyed K)) → All (HasKey key_of) ks
    → map keyed_row (sorted (by_key cmp) ks) ≡ sorted (λ a b. cmp (key_of a) (key_of b)) (map keyed_row ks)
rows_by_key cmp key_of ks h =
    map_sorted (HasKey key_of) (by_key cmp) keyed_row (λ a b. cmp (key_of a) (key_of b)) (λ a b p q. ap₂ cmp (sym p) (sym q)) ks h

-- gaps in lowest terms are ordered as the gaps

lowest_gaps : (f g : Option Frac) → gap_order (option_map lowest_of f) (option_map lowest_of g) ≡ gap_order f g
lowest_gaps (Some f) (Some g) = lowest_order f g
lowest_gaps (Some f) None = refl
lowest_gaps None (Some g) = refl
lowest_gaps None None = refl

same_order : (a b : PlanRow) → gap_cmp a b ≡ gap_order a.gap b.gap
same_order a b = by_gaps a.gap b.gap where
  by_gaps : (f g : Option Frac) → gap_cmp (record { gap = f; ids = a.ids; values = a.values }) (record { gap = g; ids = b.ids; values = b.values }) ≡ gap_order f g
  by_gaps (Some f) (Some g) = refl
  by_gaps (Some f) None = refl
  by_gaps None (Some g) = refl
  by_gaps None None = refl

-- rows sorted by gaps as their keys are the rows with these gaps sorted by their gaps
pub gapped_rows : (ks : List (Keyed (Option Frac))) → map gapped_row (sorted (by_key gap_order) ks) ≡ sorted gap_cmp (map gapped_row ks)
gapped_rows ks =
    map_sorted (λ k. ⊤) (by_key gap_order) gapped_row gap_cmp (λ a b p q. same_order (gapped_row a) (gapped_row b) ∙ lowest_gaps a.key b.key) ks (all_true ks) where
      all_true : (xs : List (Keyed (Option Frac))) → All (λ k. ⊤) xs
      all_true [] = All-nil (λ k. ⊤)
      all_true (x ∷ xs) = All-cons (λ k. ⊤) x xs tt (all_true xs)

-- each row has its own gap as its key
abbrev pub HasOwnGap : Keyed (Option Frac) → Type 0
HasOwnGap k = k.key ≡ k.row.gap

-- rows sorted by their own gaps
pub rows_by_gap : (ks : List (Keyed (Option Frac))) → All HasOwnGap ks → map keyed_row (sorted (by_key gap_order) ks) ≡ sorted gap_cmp (map keyed_row ks)
rows_by_gap ks h =
    map_sorted HasOwnGap (by_key gap_order) keyed_row gap_cmp
    (λ a b p q. same_order (keyed_row a) (keyed_row b) ∙ (lowest_gaps a.row.gap b.row.gap ∙ ap₂ gap_order (sym p) (sym q))) ks h
