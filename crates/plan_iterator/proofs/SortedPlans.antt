-- Plans with a sort: what lies beneath the innermost one has no sort, and the same source.
use Rattle.std.proofs.Common.{◌≡◌, ℕ, ◌+◌, Bool, true, false, cond, not, ◌&&◌, nat_eq, true≢false, refl, sym, ap, ◌∙◌, add-one}
use Rattle.std.proofs.Math.Dec.{eqb-suc-zero}
use Rattle.sand_model.specs.Answer.{source}
use Rattle.sand_model.specs.Database.{Database}
use Rattle.sand_model.specs.Measure.{Measure}
use Rattle.statements.specs.Plan as plan
use Rattle.statements.specs.Plan.{Plan}
use Rattle.sand_model.specs.Reach.{innermost}
use Rattle.sand_model.specs.Taken.{Taken, is_lazy, beneath_sort, taken, spent, has_taken}

-- a plan without a sort lies beneath none
pub beneath_itself : (p : Plan) → is_lazy p ≡ true → beneath_sort p ≡ p
beneath_itself (plan.Filter p tests) lazy = rw lazy refl
beneath_itself (plan.Match p place column) lazy = rw lazy refl
beneath_itself (plan.Fetch p places) lazy = rw lazy refl
beneath_itself (plan.First count p) lazy = rw lazy refl
beneath_itself (plan.SortBy p place) lazy = absurd (true≢false (sym lazy))
beneath_itself (plan.SortNear p place goal) lazy = absurd (true≢false (sym lazy))
beneath_itself (plan.Scan relation) lazy = refl
beneath_itself (plan.Rank column goal within) lazy = refl
beneath_itself (plan.Near column goal within) lazy = refl
beneath_itself (plan.Window column window) lazy = refl
beneath_itself (plan.PickEqual column v) lazy = refl
beneath_itself (plan.PickBetween column low high) lazy = refl
beneath_itself (plan.Join left right within) lazy = refl
beneath_itself (plan.Semi left right within) lazy = refl
beneath_itself (plan.Knn k left right within) lazy = refl

-- what holds of both holds of the one that is picked
picks : (P : Plan → Type 0) (b : Bool) (whole beneath : Plan) → (b ≡ true → P whole) → P beneath → P (cond b whole beneath)
picks P true whole beneath h k = h refl
picks P false whole beneath h k = k

-- what lies beneath the innermost sort has none
pub lazy_beneath : (p : Plan) → is_lazy (beneath_sort p) ≡ true
lazy_beneath (plan.Filter p tests) = picks (λ q. is_lazy q ≡ true) (is_lazy p) (plan.Filter p tests) (beneath_sort p) (λ e. e) (lazy_beneath p)
lazy_beneath (plan.Match p place column) = picks (λ q. is_lazy q ≡ true) (is_lazy p) (plan.Match p place column) (beneath_sort p) (λ e. e) (lazy_beneath p)
lazy_beneath (plan.Fetch p places) = picks (λ q. is_lazy q ≡ true) (is_lazy p) (plan.Fetch p places) (beneath_sort p) (λ e. e) (lazy_beneath p)
lazy_beneath (plan.First count p) = picks (λ q. is_lazy q ≡ true) (is_lazy p) (plan.First count p) (beneath_sort p) (λ e. e) (lazy_beneath p)
lazy_beneath (plan.SortBy p place) = picks (λ q. is_lazy q ≡ true) (is_lazy p) p (beneath_sort p) (λ e. e) (lazy_beneath p)
lazy_beneath (plan.SortNear p place goal) = picks (λ q. is_lazy q ≡ true) (is_lazy p) p (beneath_sort p) (λ e. e) (lazy_beneath p)
lazy_beneath (plan.Scan relation) = refl
lazy_beneath (plan.Rank column goal within) = refl
lazy_beneath (plan.Near column goal within) = refl
lazy_beneath (plan.Window column window) = refl
lazy_beneath (plan.PickEqual column v) = refl
lazy_beneath (plan.PickBetween column low high) = refl
lazy_beneath (plan.Join left right within) = refl
lazy_beneath (plan.Semi left right within) = refl
lazy_beneath (plan.Knn k left right within) = refl

-- it has the same source
pub innermost_beneath : (p : Plan) → innermost (beneath_sort p) ≡ innermost p
innermost_beneath (plan.Filter p tests) = picks (λ q. innermost q ≡ innermost p) (is_lazy p) (plan.Filter p tests) (beneath_sort p) (λ e. refl) (innermost_beneath p)
innermost_beneath (plan.Match p place column) = picks (λ q. innermost q ≡ innermost p) (is_lazy p) (plan.Match p place column) (beneath_sort p) (λ e. refl) (innermost_beneath p)
innermost_beneath (plan.Fetch p places) = picks (λ q. innermost q ≡ innermost p) (is_lazy p) (plan.Fetch p places) (beneath_sort p) (λ e. refl) (innermost_beneath p)
innermost_beneath (plan.First count p) = picks (λ q. innermost q ≡ innermost p) (is_lazy p) (plan.First count p) (beneath_sort p) (λ e. refl) (innermost_beneath p)
innermost_beneath (plan.SortBy p place) = picks (λ q. innermost q ≡ innermost p) (is_lazy p) p (beneath_sort p) (λ e. refl) (innermost_beneath p)
innermost_beneath (plan.SortNear p place goal) = picks (λ q. innermost q ≡ innermost p) (is_lazy p) p (beneath_sort p) (λ e. refl) (innermost_beneath p)
innermost_beneath (plan.Scan relation) = refl
innermost_beneath (plan.Rank column goal within) = refl
innermost_beneath (plan.Near column goal within) = refl
innermost_beneath (plan.Window column window) = refl
innermost_beneath (plan.PickEqual column v) = refl
innermost_beneath (plan.PickBetween column low high) = refl
innermost_beneath (plan.Join left right within) = refl
innermost_beneath (plan.Semi left right within) = refl
innermost_beneath (plan.Knn k left right within) = refl

module _ (gap : Measure) (d : Database) where
  -- the rows of a plan's source are those of the source by itself
  pub source_innermost : (p : Plan) → source gap d (innermost p) ≡ source gap d p
  source_innermost (plan.Filter p tests) = source_innermost p
  source_innermost (plan.Match p place column) = source_innermost p
  source_innermost (plan.Fetch p places) = source_innermost p
  source_innermost (plan.First count p) = source_innermost p
  source_innermost (plan.SortBy p place) = source_innermost p
  source_innermost (plan.SortNear p place goal) = source_innermost p
  source_innermost (plan.Scan relation) = refl
  source_innermost (plan.Rank column goal within) = refl
  source_innermost (plan.Near column goal within) = refl
  source_innermost (plan.Window column window) = refl
  source_innermost (plan.PickEqual column v) = refl
  source_innermost (plan.PickBetween column low high) = refl
  source_innermost (plan.Join left right within) = refl
  source_innermost (plan.Semi left right within) = refl
  source_innermost (plan.Knn k left right within) = refl

  pub source_beneath : (p : Plan) → source gap d (beneath_sort p) ≡ source gap d p
  source_beneath p = sym (source_innermost (beneath_sort p)) ∙ ap (source gap d) (innermost_beneath p) ∙ source_innermost p

  -- ---- what is taken, without a sort and with one

  pub lazy_given : (p : Plan) → is_lazy p ≡ true → (given : ℕ) → has_taken gap d p given false ≡ record { rows = taken gap d p given; is_ended = false }
  lazy_given p lazy given = rw lazy refl

  pub sort_none : (p : Plan) → is_lazy p ≡ false → has_taken gap d p 0 false ≡ record { rows = 0; is_ended = false }
  sort_none p sorts = rw sorts refl

  pub sort_given : (p : Plan) → is_lazy p ≡ false → (given : ℕ) → has_taken gap d p (given + 1) false ≡ spent gap d (beneath_sort p)
  sort_given p sorts given =
      let later : nat_eq (given + 1) 0 ≡ false = rw add-one (eqb-suc-zero given) in
      rw sorts (rw later refl)

  -- at the end, what the plan beneath the innermost sort spends
  pub ended_taken : (p : Plan) (given : ℕ) → has_taken gap d p given true ≡ spent gap d (beneath_sort p)
  ended_taken p given =
      either (is_lazy p) (nat_eq given 0) (spent gap d p) (record { rows = 0; is_ended = false }) (spent gap d (beneath_sort p))
      (λ lazy. ap (spent gap d) (sym (beneath_itself p lazy)))
    where
      either : (lazy first : Bool) (whole none beneath : Taken) → (lazy ≡ true → whole ≡ beneath) → cond lazy whole (cond (first && not true) none beneath) ≡ beneath
      either true first whole none beneath h = h refl
      either false true whole none beneath h = refl
      either false false whole none beneath h = refl
