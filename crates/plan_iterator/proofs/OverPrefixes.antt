-- Operators without a sort over the first rows of their source: more rows beneath give more above, behind those that were there.
use Rattle.std.proofs.Common.{◌≡◌, ◌⊎◌, inl, inr, ℕ, zero, suc, ◌+◌, ◌-◌, ◌≤◌, Bool, true, false, ◌||◌, true≢false, List, [], ◌∷◌, ◌++◌, length, take, drop, map, filter}
use Rattle.std.proofs.Common.{flat_map, nat_le, refl, sym, ap, ◌∙◌, arith, length-append, take-append-drop, le_trans}
use Rattle.std.proofs.Math.Seq.{take-add}
use Rattle.std.proofs.lemmas.Bool.{le-leb, leb-true}
use Rattle.std.proofs.lemmas.List.{map-append, take-append-le}
use Rattle.std.proofs.lemmas.List.Concat.{flat_map-append}
use Rattle.std.proofs.lemmas.List.Elements.{filter-append}
use Rattle.sand_model.specs.Answer.{source, answer}
use Rattle.sand_model.specs.Database.{Database}
use Rattle.sand_model.specs.Measure.{Measure}
use Rattle.sand_model.specs.Operators.{PlanRow, over, relations_of, passes_all, matches_of, with_fetched}
use Rattle.statements.specs.Plan as plan
use Rattle.statements.specs.Plan.{Plan}
use Rattle.sand_model.specs.Taken.{is_full, is_lazy}

-- the longer list begins with the shorter one
abbrev pub Begins : {A : Type 0} → List A → List A → Type 0
Begins {A} xs ys = (rest : List A) × (ys ≡ xs ++ rest)

-- and is at least as long
pub begins_length : {A : Type 0} (xs ys : List A) → Begins xs ys → length xs ≤ length ys
begins_length xs ys h =
    let long = ap length h.1 ∙ length-append xs h.0 in omega (arith, long)

-- the first rows of a list are the first of more of them
pub begins_take : {A : Type 0} (k m : ℕ) (xs : List A) → k ≤ m → Begins (take k xs) (take m xs)
begins_take k m xs h =
    let all : k + (m - k) ≡ m = omega arith in
    (take (m - k) (drop k xs), sym (ap (λ n. take n xs) all) ∙ take-add k (m - k) xs)

-- all of a list begins with the first of it
pub begins_whole : {A : Type 0} (k : ℕ) (xs : List A) → Begins (take k xs) xs
begins_whole k xs = (drop k xs, sym (take-append-drop k xs))

-- the first of a longer list begin with the first of a shorter one
take_begins : {A : Type 0} (n : ℕ) (xs more : List A) → Begins (take n xs) (take n (xs ++ more))
take_begins zero xs more = ([], refl)
take_begins (suc n) [] more = (take (suc n) more, refl)
take_begins (suc n) (x ∷ xs) more = let rest = take_begins n xs more in (rest.0, ap (λ t. x ∷ t) rest.1)

-- one of two tests holds
one_holds : (a b : Bool) → a || b ≡ true → (a ≡ true) ⊎ (b ≡ true)
one_holds true b h = inl refl
one_holds false b h = inr h

first_holds : (a b : Bool) → a ≡ true → a || b ≡ true
first_holds true b h = refl
first_holds false b h = absurd (true≢false (sym h))

second_holds : (a b : Bool) → b ≡ true → a || b ≡ true
second_holds true b h = refl
second_holds false b h = h

module _ (gap : Measure) (d : Database) where
  -- over more rows, a plan has the rows that it had, and then more
  pub over_more : (p : Plan) → is_lazy p ≡ true → (xs more : List PlanRow) → Begins (over gap d p xs) (over gap d p (xs ++ more))
  over_more (plan.Filter p tests) lazy xs more =
      let passes = passes_all d (relations_of p) tests in
      let beneath = over_more p lazy xs more in
      (filter passes beneath.0, ap (filter passes) beneath.1 ∙ filter-append passes (over gap d p xs) beneath.0)
  over_more (plan.Match p place column) lazy xs more =
      let matches = matches_of d (relations_of p) place column in
      let beneath = over_more p lazy xs more in
      (flat_map matches beneath.0, ap (flat_map matches) beneath.1 ∙ flat_map-append matches (over gap d p xs) beneath.0)
  over_more (plan.Fetch p places) lazy xs more =
      let fetch = with_fetched d (relations_of p) places in
      let beneath = over_more p lazy xs more in
      (map fetch beneath.0, ap (map fetch) beneath.1 ∙ map-append fetch (over gap d p xs) beneath.0)
  over_more (plan.First count p) lazy xs more =
      let beneath = over_more p lazy xs more in
      let first = take_begins count (over gap d p xs) beneath.0 in
      (first.0, ap (take count) beneath.1 ∙ first.1)
  over_more (plan.SortBy p place) lazy xs more = absurd (true≢false (sym lazy))
  over_more (plan.SortNear p place goal) lazy xs more = absurd (true≢false (sym lazy))
  over_more (plan.Scan relation) lazy xs more = (more, refl)
  over_more (plan.Rank column goal within) lazy xs more = (more, refl)
  over_more (plan.Near column goal within) lazy xs more = (more, refl)
  over_more (plan.Window column window) lazy xs more = (more, refl)
  over_more (plan.PickEqual column v) lazy xs more = (more, refl)
  over_more (plan.PickBetween column low high) lazy xs more = (more, refl)
  over_more (plan.Join left right within) lazy xs more = (more, refl)
  over_more (plan.Semi left right within) lazy xs more = (more, refl)
  over_more (plan.Knn k left right within) lazy xs more = (more, refl)

  -- it is full over more rows where it is full
  pub full_more : (p : Plan) → is_lazy p ≡ true → (xs more : List PlanRow) → is_full gap d p xs ≡ true → is_full gap d p (xs ++ more) ≡ true
  full_more (plan.Filter p tests) lazy xs more full = full_more p lazy xs more full
  full_more (plan.Match p place column) lazy xs more full = full_more p lazy xs more full
  full_more (plan.Fetch p places) lazy xs more full = full_more p lazy xs more full
  full_more (plan.First count p) lazy xs more full =
      let few = over gap d p xs in
      let many = over gap d p (xs ++ more) in
      let longer = begins_length few many (over_more p lazy xs more) in
      elim (one_holds (nat_le count (length few)) (is_full gap d p xs) full) [
        | inl enough ↦ first_holds (nat_le count (length many)) (is_full gap d p (xs ++ more)) (at_least count (length few) (length many) longer enough)
        | inr beneath ↦ second_holds (nat_le count (length many)) (is_full gap d p (xs ++ more)) (full_more p lazy xs more beneath)
      ]
    where
      at_least : (count few many : ℕ) → few ≤ many → nat_le count few ≡ true → nat_le count many ≡ true
      at_least count few many longer h = le-leb count many (le_trans (leb-true count few h) longer)
  full_more (plan.SortBy p place) lazy xs more full = absurd (true≢false (sym lazy))
  full_more (plan.SortNear p place goal) lazy xs more full = absurd (true≢false (sym lazy))
  full_more (plan.Scan relation) lazy xs more full = absurd (true≢false (sym full))
  full_more (plan.Rank column goal within) lazy xs more full = absurd (true≢false (sym full))
  full_more (plan.Near column goal within) lazy xs more full = absurd (true≢false (sym full))
  full_more (plan.Window column window) lazy xs more full = absurd (true≢false (sym full))
  full_more (plan.PickEqual column v) lazy xs more full = absurd (true≢false (sym full))
  full_more (plan.PickBetween column low high) lazy xs more full = absurd (true≢false (sym full))
  full_more (plan.Join left right within) lazy xs more full = absurd (true≢false (sym full))
  full_more (plan.Semi left right within) lazy xs more full = absurd (true≢false (sym full))
  full_more (plan.Knn k left right within) lazy xs more full = absurd (true≢false (sym full))

  -- where it is full, more rows beneath change nothing
  pub full_over : (p : Plan) → is_lazy p ≡ true → (xs more : List PlanRow) → is_full gap d p xs ≡ true → over gap d p (xs ++ more) ≡ over gap d p xs
  full_over (plan.Filter p tests) lazy xs more full = ap (filter (passes_all d (relations_of p) tests)) (full_over p lazy xs more full)
  full_over (plan.Match p place column) lazy xs more full = ap (flat_map (matches_of d (relations_of p) place column)) (full_over p lazy xs more full)
  full_over (plan.Fetch p places) lazy xs more full = ap (map (with_fetched d (relations_of p) places)) (full_over p lazy xs more full)
  full_over (plan.First count p) lazy xs more full =
      let few = over gap d p xs in
      let rest = over_more p lazy xs more in
      elim (one_holds (nat_le count (length few)) (is_full gap d p xs) full) [
        | inl enough ↦ ap (take count) rest.1 ∙ take-append-le count few rest.0 (leb-true count (length few) enough)
        | inr beneath ↦ ap (take count) (full_over p lazy xs more beneath)
      ]
  full_over (plan.SortBy p place) lazy xs more full = absurd (true≢false (sym lazy))
  full_over (plan.SortNear p place goal) lazy xs more full = absurd (true≢false (sym lazy))
  full_over (plan.Scan relation) lazy xs more full = absurd (true≢false (sym full))
  full_over (plan.Rank column goal within) lazy xs more full = absurd (true≢false (sym full))
  full_over (plan.Near column goal within) lazy xs more full = absurd (true≢false (sym full))
  full_over (plan.Window column window) lazy xs more full = absurd (true≢false (sym full))
  full_over (plan.PickEqual column v) lazy xs more full = absurd (true≢false (sym full))
  full_over (plan.PickBetween column low high) lazy xs more full = absurd (true≢false (sym full))
  full_over (plan.Join left right within) lazy xs more full = absurd (true≢false (sym full))
  full_over (plan.Semi left right within) lazy xs more full = absurd (true≢false (sym full))
  full_over (plan.Knn k left right within) lazy xs more full = absurd (true≢false (sym full))

  -- the first rows of the source, and all of them
  module _ (p : Plan) (lazy : is_lazy p ≡ true) where
    -- over more rows, a plan has at least as many
    pub over_length : (xs more : List PlanRow) → length (over gap d p xs) ≤ length (over gap d p (xs ++ more))
    over_length xs more = begins_length (over gap d p xs) (over gap d p (xs ++ more)) (over_more p lazy xs more)

    -- over a list that begins with another, a plan has the rows that it has over that, and then more
    pub over_begins : (xs ys : List PlanRow) → Begins xs ys → Begins (over gap d p xs) (over gap d p ys)
    over_begins xs ys h =
        let rest = over_more p lazy xs h.0 in (rest.0, ap (over gap d p) h.1 ∙ rest.1)

    pub full_begins : (xs ys : List PlanRow) → Begins xs ys → is_full gap d p xs ≡ true → is_full gap d p ys ≡ true
    full_begins xs ys h full = ap (is_full gap d p) h.1 ∙ full_more p lazy xs h.0 full

    -- what a plan has over the first rows of its source begins its answer
    pub begins_answer : (k : ℕ) → Begins (over gap d p (take k (source gap d p))) (answer gap d p)
    begins_answer k = over_begins (take k (source gap d p)) (source gap d p) (begins_whole k (source gap d p))

    -- and is its answer where it is full over them
    pub full_answer : (k : ℕ) → is_full gap d p (take k (source gap d p)) ≡ true → over gap d p (take k (source gap d p)) ≡ answer gap d p
    full_answer k full =
        let rows = source gap d p in
        let all = begins_whole k rows in
        sym (ap (over gap d p) all.1 ∙ full_over p lazy (take k rows) all.0 full)

    -- no fewer rows are had over more of the source
    pub over_takes : (k m : ℕ) (xs : List PlanRow) → k ≤ m → length (over gap d p (take k xs)) ≤ length (over gap d p (take m xs))
    over_takes k m xs h =
        let more = over_begins (take k xs) (take m xs) (begins_take k m xs h) in
        begins_length (over gap d p (take k xs)) (over gap d p (take m xs)) more

    -- a plan that isn't full over more of the source isn't full over less
    pub open_takes : (k m : ℕ) (xs : List PlanRow) → k ≤ m → is_full gap d p (take m xs) ≡ false → is_full gap d p (take k xs) ≡ false
    open_takes k m xs h asks =
        go (is_full gap d p (take k xs)) refl
      where
        go : (b : Bool) → is_full gap d p (take k xs) ≡ b → is_full gap d p (take k xs) ≡ false
        go true e = absurd (true≢false (sym (full_begins (take k xs) (take m xs) (begins_take k m xs h) e) ∙ asks))
        go false e = e
