-- The loop of `around`, and rectangles in rectangles.
use Rattle.std.proofs.Common.{ℕ, zero, suc, ◌+◌, ◌<◌, ◌≤◌, List, [], ◌∷◌, length, get_or, take, subst, arith}
use Rattle.std.proofs.lemmas.List.{take_all}
use Rattle.std.proofs.Math.Numerals.{add-one}
use Rattle.sand_base.specs.declared.point.Point.{Point}
use Rattle.sand_base.specs.declared.rect.Rect.{Rect}
use Rattle.sand_model.specs.Rings.{EachOf}
use Rattle.plane_geom.specs.Rectangles.{IsCovered}
use Rattle.ring_geom.specs.Bounding.{AreCovered, IsPartOf, IsBounding, IsWidened}

-- a point covers itself
pub self_covered : (p : Point) → IsCovered p (record { low = p; high = p })
self_covered p = record { left = same p.x; right = same p.x; bottom = same p.y; top = same p.y }
  where
    same : (n : ℕ) → n ≤ n
    same n = omega arith

-- what a part of a rectangle covers, the rectangle covers
pub covered_whole : (p : Point) (q r : Rect) → IsPartOf q r → IsCovered p q → IsCovered p r
covered_whole p q r h c = record {
  left = through _ _ _ h.low.left c.left;
  right = through _ _ _ c.right h.high.right;
  bottom = through _ _ _ h.low.bottom c.bottom;
  top = through _ _ _ c.top h.high.top;
}
  where
    through : (a b c : ℕ) → a ≤ b → b ≤ c → a ≤ c
    through a b c h k = omega arith

-- and so of several points
pub covered_all : (ps : List Point) (q r : Rect) → IsPartOf q r → AreCovered ps q → AreCovered ps r
covered_all [] q r h c = tt
covered_all (p ∷ ps) q r h c = (covered_whole p q r h c.0, covered_all ps q r h c.1)

-- one term more of a list
module _ {A : Type 0} (P : A → Type 0) where
  pub each_more : (xs : List A) (i : ℕ) (d : A) → i < length xs → EachOf P (take i xs) → P (get_or xs i d) → EachOf P (take (suc i) xs)
  each_more [] i d l h p = absurd (omega arith)
  each_more (x ∷ xs) zero d l h p = (p, tt)
  each_more (x ∷ xs) (suc i) d l h p = (h.0, each_more xs i d (omega arith) h.1 p)

  pub each_fewer : (xs : List A) (i : ℕ) (d : A) → i < length xs → EachOf P (take (suc i) xs) → EachOf P (take i xs) × P (get_or xs i d)
  each_fewer [] i d l h = absurd (omega arith)
  each_fewer (x ∷ xs) zero d l h = (tt, h.0)
  each_fewer (x ∷ xs) (suc i) d l h = let rest = each_fewer xs i d (omega arith) h.1 in ((h.0, rest.0), rest.1)

-- a point is the least rectangle round itself
pub bounding_point : (p : Point) → IsBounding (p ∷ []) (record { low = p; high = p })
bounding_point p = record {
  holds = (self_covered p, tt);
  least = λ t h. record { low = h.0; high = h.0 };
}

-- and round the first vertex
pub bounding_first : (ps : List Point) (d : Point) → 0 < length ps
    → IsBounding (take 1 ps) (record { low = get_or ps 0 d; high = get_or ps 0 d })
bounding_first [] d h = absurd (omega arith)
bounding_first (p ∷ ps) d h = bounding_point p

-- widened by a point
pub bounding_next : (ps : List Point) (i : ℕ) (d : Point) (r wide : Rect) → i < length ps → IsBounding (take i ps) r
    → IsWidened r (get_or ps i d) wide → IsBounding (take (i + 1) ps) wide
bounding_next ps i d r wide l h w =
    rw (add-one i)
    (record {
      holds = each_more (λ p. IsCovered p wide) ps i d l (covered_all (take i ps) r wide w.rect h.holds) w.point;
      least = λ t k.
          let parts = each_fewer (λ p. IsCovered p t) ps i d l k in
          w.least t (h.least t parts.0) parts.1;
    })

-- round all vertices
pub bounding_all : (ps : List Point) (i : ℕ) (r : Rect) → length ps ≤ i → IsBounding (take i ps) r → IsBounding ps r
bounding_all ps i r l h = subst (λ (xs : List Point). IsBounding xs r) (take_all i ps l) h

-- and round two points
pub bounding_two : (p q : Point) (wide : Rect) → IsWidened (record { low = p; high = p }) q wide → IsBounding (p ∷ q ∷ []) wide
bounding_two p q wide w = record {
  holds = (covered_whole p _ wide w.rect (self_covered p), (w.point, tt));
  least = λ t h. w.least t (record { low = h.0; high = h.0 }) h.1.0;
}
