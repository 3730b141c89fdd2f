-- The list of tuples by id follows the pairs of the tree.
use Rattle.std.proofs.Common.{◌≡◌, ◌≢◌, ℕ, suc, ◌<◌, ◌≤◌, Bool, true, false, cond, List, [], ◌∷◌, ◌++◌, refl, sym, ◌∙◌, ap, ap₂, subst, inl, inr, arith}
use Rattle.std.specs.Prelude.{Some, nat_lt, nat_eq, not, option_map}
use Rattle.std.specs.List.{filter, find}
use Rattle.std.proofs.lemmas.Bool.Decides.{leb_tells, eqb_tells}
use Rattle.std.proofs.lemmas.List.{map-append}
use Rattle.code_btree.specs.Node.{Pair}
use Rattle.code_btree.specs.Items.{Above, Ascending, find_item, items_below, items_above, put_item, drop_item, ceiling_item}
use Rattle.code_btree.specs.Tree.{Store, times}
use Rattle.code_btree.proofs.Lists.{same_self, Each-map}
use Rattle.code_btree.proofs.Orders.{lt_is, lt_not, eq_not, below-Above, above-Above}
use Rattle.tuple_file.specs.Rows.{of_id, with_id, without_id, least_id_from}
use Rattle.tuple_file.specs.File.{tuple_of, tuples, tuple_places}

-- a filter on ids goes through to the pairs
tuples-filter : (m : Store) (p : ℕ → Bool) (es : List Pair) → tuples m (filter (λ e. p e.0) es) ≡ filter (λ r. p r.0) (tuples m es)
tuples-filter m p [] = refl
tuples-filter m p (e ∷ es) = elim (p e.0) as (λ b. tuples m (cond b (e ∷ filter (λ e. p e.0) es) (filter (λ e. p e.0) es))
    ≡ cond b ((e.0, tuple_of m e.1) ∷ filter (λ r. p r.0) (tuples m es)) (filter (λ r. p r.0) (tuples m es))) [
      | true ↦ ap (λ (r : List (ℕ × List ℕ)). (e.0, tuple_of m e.1) ∷ r) (tuples-filter m p es)
      | false ↦ tuples-filter m p es
    ]

below_is : (k : ℕ) (es : List Pair) → items_below k es ≡ filter (λ e. nat_lt e.0 k) es
below_is k [] = refl
below_is k (e ∷ es) = ap (λ (r : List Pair). cond (nat_lt e.0 k) (e ∷ r) r) (below_is k es)

above_is : (k : ℕ) (es : List Pair) → items_above k es ≡ filter (λ e. nat_lt k e.0) es
above_is k [] = refl
above_is k (e ∷ es) = ap (λ (r : List Pair). cond (nat_lt k e.0) (e ∷ r) r) (above_is k es)

all_above : (k : ℕ) (es : List Pair) → Above k es → filter (λ e. not (nat_eq e.0 k)) es ≡ es
all_above k [] h = refl
all_above k (e ∷ es) h = let l : k < e.0 = h.0 in let n : e.0 ≢ k = omega arith in rw (eq_not e.0 k n) (ap (λ (r : List Pair). e ∷ r) (all_above k es h.1))

drop_is : (k : ℕ) (es : List Pair) → Ascending es → drop_item k es ≡ filter (λ e. not (nat_eq e.0 k)) es
drop_is k [] a = refl
drop_is k (e ∷ es) a = elim (eqb_tells e.0 k) [
  | inl y ↦
      let P : ℕ → Type 0 = λ i. Above i es in
      let above : Above k es = subst P y.1 a.0 in
      rw (y.0, lt_not e.0 k (omega (arith, y.1)), lt_not k e.0 (omega (arith, y.1)), below-Above k es above, above-Above k es above) (sym (all_above k es above))
  | inr y ↦ elim (leb_tells (suc e.0) k) [
    | inl z ↦ rw (y.0, lt_is e.0 k z.1, lt_not k e.0 (omega (arith, z.1))) (ap (λ (r : List Pair). e ∷ r) (drop_is k es a.1))
    | inr z ↦
        let l : k < e.0 = omega (arith, z.1, y.1) in
        let above : Above k es = Each-map (λ i. e.0 < i.0) (λ i. k < i.0) (λ i j. omega arith) es a.0 in
        rw (y.0, lt_not e.0 k (omega (arith, z.1)), lt_is k e.0 l, below-Above k es above, above-Above k es above) (ap (λ (r : List Pair). e ∷ r) (sym (all_above k es above)))
  ]
]

pub tuples_put : (m : Store) (k v : ℕ) (es : List Pair) → tuples m (put_item k v es) ≡ with_id k (tuple_of m v) (tuples m es)
tuples_put m k v es =
    map-append (λ (e : Pair). (e.0, tuple_of m e.1)) (items_below k es) ((k, v) ∷ items_above k es)
    ∙ ap₂ (λ (a b : List (ℕ × List ℕ)). a ++ ((k, tuple_of m v) ∷ b))
    (ap (λ (r : List Pair). tuples m r) (below_is k es) ∙ tuples-filter m (λ i. nat_lt i k) es)
    (ap (λ (r : List Pair). tuples m r) (above_is k es) ∙ tuples-filter m (λ i. nat_lt k i) es)

pub tuples_drop : (m : Store) (k : ℕ) (es : List Pair) → Ascending es → tuples m (drop_item k es) ≡ without_id k (tuples m es)
tuples_drop m k es a = ap (λ (r : List Pair). tuples m r) (drop_is k es a) ∙ tuples-filter m (λ i. not (nat_eq i k)) es

pub tuples_find : (m : Store) (k : ℕ) (es : List Pair) → of_id k (tuples m es) ≡ option_map (λ v. tuple_of m v) (find_item k es)
tuples_find m k [] = refl
tuples_find m k (e ∷ es) = elim (nat_eq e.0 k) as (λ b. option_map (λ (r : ℕ × List ℕ). r.1) (cond b (Some (e.0, tuple_of m e.1)) (find (λ r. nat_eq r.0 k) (tuples m es)))
    ≡ option_map (λ v. tuple_of m v) (cond b (Some e.1) (find_item k es))) [
      | true ↦ refl
      | false ↦ tuples_find m k es
    ]

pub tuples_least : (m : Store) (k : ℕ) (es : List Pair) → least_id_from k (tuples m es) ≡ option_map (λ (e : Pair). e.0) (ceiling_item k es)
tuples_least m k [] = refl
tuples_least m k (e ∷ es) = elim (leb_tells k e.0) [
  | inl x ↦ rw (x.0, lt_not e.0 k x.1) refl
  | inr x ↦ rw (x.0, lt_is e.0 k (omega (arith, x.1))) (tuples_least m k es)
]

-- the same tuples at all places to which an id leads
pub tuples_same : (m w : Store) (es : List Pair) → ((v : ℕ) → 1 ≤ times v (tuple_places es) → tuple_of w v ≡ tuple_of m v) → tuples w es ≡ tuples m es
tuples_same m w [] h = refl
tuples_same m w (e ∷ es) h =
    ap₂ (λ (a : List ℕ) (r : List (ℕ × List ℕ)). (e.0, a) ∷ r) (h e.1 (omega (arith, same_self e.1))) (tuples_same m w es (λ v l. h v (omega (arith, l))))
