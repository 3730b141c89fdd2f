-- Whether a vertex of one figure lies inside the other's ring is decided: each part of it is an order of integers.
use Rattle.std.proofs.Common.{◌≡◌, ◌⊎◌, inl, inr, ℕ, ℤ, pos, ◌*◌, ◌≤ℤ◌, ◌<ℤ◌, Bool, true, false, List, [], ◌∷◌, refl, arith}
use Rattle.std.specs.Prelude.{IsTrue}
use Rattle.std.proofs.lemmas.Bool.{false≢true}
use Rattle.std.proofs.lemmas.Int.{ints, by_lt_z}
use Rattle.sand_base.specs.declared.goal.Goal.{Goal}
use Rattle.sand_base.specs.declared.goal.Goal.TheVariants as goal
use Rattle.sand_base.specs.declared.point.Point.{Point}
use Rattle.sand_base.specs.declared.segment.Segment.{Segment}
use Rattle.sand_base.specs.declared.shape.Shape.TheVariants as shape
use Rattle.sand_model.specs.Points.{RationalPoint, IsWithin, IsOnSegment}
use Rattle.sand_model.specs.FigureGap.{IsCovering}
use Rattle.sand_model.specs.Figures.{HoldsInside, vertices_of}
use Rattle.sand_model.specs.Rings.{SomeOf, edges, grid, is_crossed, is_odd, IsInside}

-- the fact holds, or it doesn't
abbrev pub Dec : Type 0 → Type 0
Dec P = P ⊎ (¬ P)

-- an order of integers
decide_le : (p q : ℤ) → Dec (p ≤ℤ q)
decide_le p q = by_lt_z q p (λ h. inr (λ k. against p q h k)) (λ h. inl h)
  where
    against : (p q : ℤ) → q <ℤ p → p ≤ℤ q → ⊥
    against p q h k = omega (arith, ints)

-- their equality
decide_same : (p q : ℤ) → Dec (p ≡ q)
decide_same p q =
    by_lt_z p q (λ h. inr (λ e. under p q h e)) (λ h. by_lt_z q p (λ k. inr (λ e. over p q k e)) (λ k. inl (both p q h k)))
  where
    under : (p q : ℤ) → p <ℤ q → p ≡ q → ⊥
    under p q h e = omega (arith, ints)

    over : (p q : ℤ) → q <ℤ p → p ≡ q → ⊥
    over p q h e = omega (arith, ints)

    both : (p q : ℤ) → q ≤ℤ p → p ≤ℤ q → p ≡ q
    both p q h k = omega (arith, ints)

-- a range
decide_within : (low high n : ℕ) (v : ℤ) → Dec (IsWithin low high n v)
decide_within low high n v =
    elim (decide_le (pos (n * low)) v) [
      | inr fails ↦ inr (λ h. fails h.above)
      | inl above ↦ elim (decide_le v (pos (n * high))) [
        | inr fails ↦ inr (λ h. fails h.below)
        | inl below ↦ inl (record { above = above; below = below })
      ]
    ]

-- a segment
pub decide_on : (q : RationalPoint) (s : Segment) → Dec (IsOnSegment s q)
decide_on q s =
    elim (decide_same _ (pos 0)) [
      | inr fails ↦ inr (λ h. fails h.line)
      | inl line ↦ elim (decide_within _ _ q.n q.x) [
        | inr fails ↦ inr (λ h. fails h.x)
        | inl x ↦ elim (decide_within _ _ q.n q.y) [
          | inr fails ↦ inr (λ h. fails h.y)
          | inl y ↦ inl (record { line = line; x = x; y = y })
        ]
      ]
    ]

-- one of two facts
pub decide_either : {P Q : Type 0} → Dec P → Dec Q → Dec (P ⊎ Q)
decide_either p q =
    elim p [
      | inl h ↦ inl (inl h)
      | inr fails ↦ elim q [
        | inl h ↦ inl (inr h)
        | inr none ↦ inr (λ h. elim h [ inl a ↦ fails a | inr b ↦ none b ])
      ]
    ]

-- some term of a list
pub decide_some : {A : Type 0} {P : A → Type 0} → ((x : A) → Dec (P x)) → (xs : List A) → Dec (SomeOf P xs)
decide_some f [] = inr (λ h. h)
decide_some f (x ∷ xs) = decide_either (f x) (decide_some f xs)

-- a test
decide_test : (b : Bool) → Dec (IsTrue b)
decide_test true = inl refl
decide_test false = inr (λ h. false≢true h)

-- a grid point and a ring
pub decide_inside : (ring : List Point) (v : Point) → Dec (IsInside ring v)
decide_inside ring v =
    decide_either (decide_some {P = λ s. IsOnSegment s (grid v)} (decide_on (grid v)) (edges ring))
    (decide_test (is_odd (is_crossed v) (edges ring)))

-- a grid point and a figure
pub decide_holds : (g : Goal) (v : Point) → Dec (HoldsInside g v)
decide_holds (goal.Shape (shape.Point p)) v = inr (λ h. h)
decide_holds (goal.Shape (shape.Segment s)) v = inr (λ h. h)
decide_holds (goal.Shape (shape.Polygon ring)) v = decide_inside ring v
decide_holds (goal.Rect r) v = inr (λ h. h)

-- two figures
pub decide_covering : (a b : Goal) → Dec (IsCovering a b)
decide_covering a b =
    decide_either (decide_some {P = HoldsInside b} (decide_holds b) (vertices_of a))
    (decide_some {P = HoldsInside a} (decide_holds a) (vertices_of b))
