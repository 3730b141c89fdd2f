-- A figure meets a rectangle exactly where it meets a quarter of it, and the quarters tile it.
use Rattle.std.proofs.Common.{inl, inr, ℕ, ◌*◌, ◌≤◌, pos, List, [], ◌∷◌, ◌++◌, arith}
use Rattle.std.specs.Prelude.{◌↔◌}
use Rattle.sand_base.specs.declared.goal.Goal.{Goal}
use Rattle.sand_base.specs.declared.goal.Goal.TheVariants as goal
use Rattle.sand_base.specs.declared.point.Point.{Point}
use Rattle.sand_base.specs.declared.rect.Rect.{Rect}
use Rattle.sand_model.specs.Points.{RationalPoint, IsInRect}
use Rattle.sand_model.specs.FigureGap.{IsMeeting}
use Rattle.sand_model.specs.Figures.{HoldsInside, vertices_of}
use Rattle.sand_model.specs.Rings.{SomeOf}
use Rattle.plane_geom.proofs.Order.{le_or_le}
use Rattle.plane_geom.specs.Rectangles.{IsCovered}
use Rattle.ring_geom.specs.Bounding.{IsPartOf}
use Rattle.ring_geom.specs.Quarters.{low_low, high_low, low_high, high_high, quarters, MeetsAQuarter, Tiles}
use Rattle.ring_geom.proofs.Boxes.{some_each}
use Rattle.ring_geom.proofs.Farther.{part_held}
use Rattle.ring_geom.proofs.FigureGaps.{none_of}
use Rattle.ring_geom.proofs.Touch.{Touches, meets_of_touch, touch_of_meets, touch_of_inside}

-- a point of a rectangle lies in a quarter
pub in_a_quarter : (r : Rect) (c : Point) (q : RationalPoint) → IsInRect r q → SomeOf (λ part. IsInRect part q) (quarters r c)
in_a_quarter r c q h =
    elim (le_or_le q.x (pos (q.n * c.x))) [
      | inl left ↦ elim (le_or_le q.y (pos (q.n * c.y))) [
        | inl low ↦ inl (record { x = record { above = h.x.above; below = left }; y = record { above = h.y.above; below = low } })
        | inr high ↦ inr (inr (inl (record { x = record { above = h.x.above; below = left }; y = record { above = high; below = h.y.below } })))
      ]
      | inr right ↦ elim (le_or_le q.y (pos (q.n * c.y))) [
        | inl low ↦ inr (inl (record { x = record { above = right; below = h.x.below }; y = record { above = h.y.above; below = low } }))
        | inr high ↦
            inr (inr (inr (inl (record { x = record { above = right; below = h.x.below }; y = record { above = high; below = h.y.below } }))))
      ]
    ]

-- a figure that touches a rectangle touches a quarter
touches_a_quarter : (a : Goal) (r : Rect) (c : Point) → Touches a r → SomeOf (Touches a) (quarters r c)
touches_a_quarter a r c h =
    elim h [
      | inl covering ↦ elim covering [
        | inl k ↦ absurd (none_of {P = λ v. ⊥} (λ v k. k) (vertices_of a) k)
        | inr k ↦ elim k [
          | inl p ↦ inl (inl (inr (inl p)))
          | inr k ↦ elim k [
            | inl p ↦ inr (inl (inl (inr (inr (inl p)))))
            | inr k ↦ elim k [
              | inl p ↦ inr (inr (inl (inl (inr (inr (inr (inl p)))))))
              | inr k ↦ elim k [
                | inl p ↦ inr (inr (inr (inl (inl (inr (inr (inr (inr (inl p)))))))))
                | inr none ↦ absurd none
              ]
            ]
          ]
        ]
      ]
      | inr shared ↦ elim (in_a_quarter r c shared.0 shared.2) [
        | inl k ↦ inl (inr (shared.0, shared.1, k))
        | inr k ↦ elim k [
          | inl k ↦ inr (inl (inr (shared.0, shared.1, k)))
          | inr k ↦ elim k [
            | inl k ↦ inr (inr (inl (inr (shared.0, shared.1, k))))
            | inr k ↦ elim k [
              | inl k ↦ inr (inr (inr (inl (inr (shared.0, shared.1, k)))))
              | inr none ↦ absurd none
            ]
          ]
        ]
      ]
    ]

-- and one that touches a part touches the whole
pub touch_whole : (a : Goal) (q r : Rect) → IsPartOf q r → Touches a q → Touches a r
touch_whole a q r part h =
    elim h [
      | inl covering ↦ elim covering [
        | inl k ↦ absurd (none_of {P = λ v. ⊥} (λ v k. k) (vertices_of a) k)
        | inr k ↦
            some_each {P = λ v. IsCovered v r} {Q = HoldsInside a} (λ v covered inside. touch_of_inside a r v covered inside)
            (vertices_of (goal.Rect q)) (part_held q r part).vertices k
      ]
      | inr shared ↦ inr (shared.0, shared.1, (part_held q r part).points shared.0 shared.2)
    ]

-- each quarter is a part
module _ (r : Rect) (c : Point) (h : IsCovered c r) where
  wide : r.low.x ≤ r.high.x
  wide = through r.low.x c.x r.high.x h.left h.right
    where
      through : (a b c : ℕ) → a ≤ b → b ≤ c → a ≤ c
      through a b c h k = omega arith

  tall : r.low.y ≤ r.high.y
  tall = through r.low.y c.y r.high.y h.bottom h.top
    where
      through : (a b c : ℕ) → a ≤ b → b ≤ c → a ≤ c
      through a b c h k = omega arith

  same : (n : ℕ) → n ≤ n
  same n = omega arith

  pub low_low_part : IsPartOf (low_low r c) r
  low_low_part = record { low = record { left = same _; right = wide; bottom = same _; top = tall }; high = h }

  pub high_low_part : IsPartOf (high_low r c) r
  high_low_part = record {
    low = record { left = h.left; right = h.right; bottom = same _; top = tall };
    high = record { left = wide; right = same _; bottom = h.bottom; top = h.top };
  }

  pub low_high_part : IsPartOf (low_high r c) r
  low_high_part = record {
    low = record { left = same _; right = wide; bottom = h.bottom; top = h.top };
    high = record { left = h.left; right = h.right; bottom = tall; top = same _ };
  }

  pub high_high_part : IsPartOf (high_high r c) r
  high_high_part = record { low = h; high = record { left = wide; right = same _; bottom = tall; top = same _ } }

-- what is so of some quarter
any_quarter : {P Q : Rect → Type 0} → ((q : Rect) → P q → Q q) → (r : Rect) (c : Point) → SomeOf P (quarters r c) → SomeOf Q (quarters r c)
any_quarter f r c h =
    elim h [
      | inl k ↦ inl (f _ k)
      | inr h ↦ inr (elim h [
        | inl k ↦ inl (f _ k)
        | inr h ↦ inr (elim h [
          | inl k ↦ inl (f _ k)
          | inr h ↦ inr (elim h [ inl k ↦ inl (f _ k) | inr none ↦ absurd none ])
        ])
      ])
    ]

-- a figure meets a rectangle exactly where it meets a quarter
pub meets_a_quarter : (a : Goal) (r : Rect) (c : Point) → IsCovered c r → IsMeeting a (goal.Rect r) ↔ MeetsAQuarter a r c
meets_a_quarter a r c h = (
  λ m. any_quarter {P = Touches a} {Q = λ q. IsMeeting a (goal.Rect q)} (λ q t. meets_of_touch a q t) r c (touches_a_quarter a r c (touch_of_meets a r m)),
  λ m.
      elim m [
        | inl k ↦ up (low_low r c) (low_low_part r c h) k
        | inr m ↦ elim m [
          | inl k ↦ up (high_low r c) (high_low_part r c h) k
          | inr m ↦ elim m [
            | inl k ↦ up (low_high r c) (low_high_part r c h) k
            | inr m ↦ elim m [ inl k ↦ up (high_high r c) (high_high_part r c h) k | inr none ↦ absurd none ]
          ]
        ]
      ],
)
  where
    up : (q : Rect) → IsPartOf q r → IsMeeting a (goal.Rect q) → IsMeeting a (goal.Rect r)
    up q part m = meets_of_touch a r (touch_whole a q r part (touch_of_meets a q m))

-- some term of the first list, or of the second
pub some_left : {A : Type 0} (P : A → Type 0) (xs ys : List A) → SomeOf P xs → SomeOf P (xs ++ ys)
some_left P [] ys h = absurd h
some_left P (x ∷ xs) ys h = elim h [ inl p ↦ inl p | inr more ↦ inr (some_left P xs ys more) ]

pub some_right : {A : Type 0} (P : A → Type 0) (xs ys : List A) → SomeOf P ys → SomeOf P (xs ++ ys)
some_right P [] ys h = h
some_right P (x ∷ xs) ys h = inr (some_right P xs ys h)

-- a rectangle tiles itself
pub tiles_whole : (r : Rect) → Tiles r (r ∷ [])
tiles_whole r q h = inl h

-- and tiles of its quarters tile it
pub tiles_quarters : (r : Rect) (c : Point) (ls ms ns os : List Rect) → IsCovered c r → Tiles (low_low r c) ls → Tiles (high_low r c) ms
    → Tiles (low_high r c) ns → Tiles (high_high r c) os → Tiles r (ls ++ (ms ++ (ns ++ os)))
tiles_quarters r c ls ms ns os h tl tm tn to q k =
    elim (in_a_quarter r c q k) [
      | inl i ↦ some_left (λ part. IsInRect part q) ls (ms ++ (ns ++ os)) (tl q i)
      | inr j ↦ some_right (λ part. IsInRect part q) ls (ms ++ (ns ++ os)) (elim j [
        | inl i ↦ some_left (λ part. IsInRect part q) ms (ns ++ os) (tm q i)
        | inr j ↦ some_right (λ part. IsInRect part q) ms (ns ++ os) (elim j [
          | inl i ↦ some_left (λ part. IsInRect part q) ns os (tn q i)
          | inr j ↦ some_right (λ part. IsInRect part q) ns os (elim j [ inl i ↦ to q i | inr none ↦ absurd none ])
        ])
      ])
    ]
