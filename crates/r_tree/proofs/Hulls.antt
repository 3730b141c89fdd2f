-- Least rectangles: in any order, joined, and what they hold.
use Rattle.std.proofs.Common.{◌≡◌, ◌≢◌, ℕ, zero, suc, ◌+◌, ◌≤◌, ◌<◌, Bool, true, false, List, [], ◌∷◌, ◌++◌, map, length, get_or, take, refl, sym, ◌∙◌, ap, ap₂, subst, arith}
use Rattle.std.specs.Prelude.{Option, Some, None, min, max, nat_le, ◌&&◌}
use Rattle.std.proofs.lemmas.List.{take_more, map-append}
use Rattle.std.proofs.lemmas.Bool.{le-leb, false≢true}
use Rattle.sand_base.specs.declared.point.Point.{Point}
use Rattle.sand_base.specs.declared.rect.Rect.{Rect}
use Rattle.sand_base.specs.declared.rough.Rough.{Rough}
use Rattle.code_btree.specs.Items.{Each}
use Rattle.code_btree.specs.Tree.{Store}
use Rattle.code_btree.proofs.Lists.{Each-append, Each-map}
use Rattle.r_tree.specs.declared.entry.NodeEntry.{NodeEntry}
use Rattle.r_tree.specs.Entry.{Member, box_of, rect_union, union_of, hull, covers, members_of, bound_of, bound_of_members}
use Rattle.r_tree.specs.Tree.{entries_at, members_in, members_under, StandsUnder, NodeStandsAt}

min_assoc : (a b c : ℕ) → min (min a b) c ≡ min a (min b c)
min_assoc a b c = omega arith

max_assoc : (a b c : ℕ) → max (max a b) c ≡ max a (max b c)
max_assoc a b c = omega arith

abbrev point : ℕ → ℕ → Point
point x y = record { x = x; y = y }

abbrev rect : Point → Point → Rect
rect p q = record { low = p; high = q }

rect_assoc : (a b c : Rect) → rect_union (rect_union a b) c ≡ rect_union a (rect_union b c)
rect_assoc a b c = ap₂ rect
    (ap₂ point (min_assoc a.low.x b.low.x c.low.x) (min_assoc a.low.y b.low.y c.low.y))
    (ap₂ point (max_assoc a.high.x b.high.x c.high.x) (max_assoc a.high.y b.high.y c.high.y))

pub union_assoc : (a b c : Option Rect) → union_of (union_of a b) c ≡ union_of a (union_of b c)
union_assoc None b c = refl
union_assoc (Some a) None c = refl
union_assoc (Some a) (Some b) None = refl
union_assoc (Some a) (Some b) (Some c) = ap (λ (r : Rect). Some r) (rect_assoc a b c)

pub union_none : (a : Option Rect) → union_of a None ≡ a
union_none None = refl
union_none (Some a) = refl

pub hull-append : (xs ys : List Rough) → hull (xs ++ ys) ≡ union_of (hull xs) (hull ys)
hull-append [] ys = refl
hull-append (x ∷ xs) ys = ap (λ (o : Option Rect). union_of (Some (box_of x)) o) (hull-append xs ys) ∙ sym (union_assoc (Some (box_of x)) (hull xs) (hull ys))

abbrev rough_of_entry : NodeEntry → Rough
rough_of_entry e = e.rough

pub bound-append : (xs ys : List NodeEntry) → bound_of (xs ++ ys) ≡ union_of (bound_of xs) (bound_of ys)
bound-append xs ys = ap (λ (rs : List Rough). hull rs) (map-append rough_of_entry xs ys) ∙ hull-append (map rough_of_entry xs) (map rough_of_entry ys)

-- one entry more
pub hull_more : (es : List NodeEntry) (i : ℕ) (d : NodeEntry) (b : Option Rect) (box r : Rect) → i < length es → b ≡ bound_of (take i es)
    → box ≡ box_of (get_or es i d).rough → Some r ≡ union_of b (Some box) → Some r ≡ bound_of (take (i + 1) es)
hull_more es i d b box r lt e f g =
    let x : NodeEntry = get_or es i d in
    g ∙ (ap₂ (λ (o p : Option Rect). union_of o p) e (ap (λ (q : Rect). Some q) f) ∙ sym (ap (λ (fs : List NodeEntry). bound_of fs) (take_more es i d lt) ∙ bound-append (take i es) (x ∷ [])))

-- the least rectangle round what is listed is that round the entries of the node
pub members-bound-append : (xs ys : List Member) → bound_of_members (xs ++ ys) ≡ union_of (bound_of_members xs) (bound_of_members ys)
members-bound-append xs ys = ap (λ (rs : List Rough). hull rs) (map-append (λ (i : Member). i.1) xs ys) ∙ hull-append (map (λ (i : Member). i.1) xs) (map (λ (i : Member). i.1) ys)

leaf_bound : (es : List NodeEntry) → bound_of_members (members_of es) ≡ bound_of es
leaf_bound [] = refl
leaf_bound (e ∷ es) = ap (λ (o : Option Rect). union_of (Some (box_of e.rough)) o) (leaf_bound es)

row_bound : (m : Store) (l : ℕ) (below : (n : ℕ) → NodeStandsAt m l n → bound_of_members (members_under m l n) ≡ bound_of (entries_at m n)) (es : List NodeEntry)
    → StandsUnder m (suc l) es → bound_of_members (members_in m (suc l) es) ≡ bound_of es
row_bound m l below [] s = refl
row_bound m l below (e ∷ es) s =
    members-bound-append (members_under m l e.child) (members_in m (suc l) es)
    ∙ ap₂ (λ (o p : Option Rect). union_of o p) (below e.child s.0.1.1 ∙ s.0.0.least) (row_bound m l below es s.1)

pub hull_members : (m : Store) (l n : ℕ) → NodeStandsAt m l n → bound_of_members (members_under m l n) ≡ bound_of (entries_at m n)
hull_members m zero n s = leaf_bound (entries_at m n)
hull_members m (suc l) n s = row_bound m l (λ c t. hull_members m l c t) (entries_at m n) s.1

-- the first rectangle holds the second
pub record Inside (r b : Rect) : Type 0 where
  pub low_x : r.low.x ≤ b.low.x
  pub low_y : r.low.y ≤ b.low.y
  pub high_x : b.high.x ≤ r.high.x
  pub high_y : b.high.y ≤ r.high.y

pub inside-trans : (a b c : Rect) → Inside a b → Inside b c → Inside a c
inside-trans a b c h k = record {
  low_x = omega (arith, h.low_x, k.low_x);
  low_y = omega (arith, h.low_y, k.low_y);
  high_x = omega (arith, h.high_x, k.high_x);
  high_y = omega (arith, h.high_y, k.high_y);
}

both_true : (a b : Bool) → a ≡ true → b ≡ true → (a && b) ≡ true
both_true a b h k = rw h k

pub covers_inside : (r b : Rect) → Inside r b → covers r b ≡ true
covers_inside r b h = both_true (nat_le r.low.x b.low.x && nat_le r.low.y b.low.y) (nat_le b.high.x r.high.x && nat_le b.high.y r.high.y)
    (both_true (nat_le r.low.x b.low.x) (nat_le r.low.y b.low.y) (le-leb r.low.x b.low.x h.low_x) (le-leb r.low.y b.low.y h.low_y))
    (both_true (nat_le b.high.x r.high.x) (nat_le b.high.y r.high.y) (le-leb b.high.x r.high.x h.high_x) (le-leb b.high.y r.high.y h.high_y))

left_inside : (a b : Rect) → Inside (rect_union a b) a
left_inside a b = record { low_x = omega arith; low_y = omega arith; high_x = omega arith; high_y = omega arith }

right_inside : (a b : Rect) → Inside (rect_union a b) b
right_inside a b = record { low_x = omega arith; low_y = omega arith; high_x = omega arith; high_y = omega arith }

-- a rectangle that may be missing is inside another one
abbrev InsideIfAny : Rect → Option Rect → Type 0
InsideIfAny r None = Unit {0}
InsideIfAny r (Some b) = Inside r b

inside_parts : (r a : Rect) (o : Option Rect) → InsideIfAny r (union_of (Some a) o) → Inside r a × InsideIfAny r o
inside_parts r a None h = (h, tt)
inside_parts r a (Some b) h = (inside-trans r (rect_union a b) a h (left_inside a b), inside-trans r (rect_union a b) b h (right_inside a b))

each_inside : (r : Rect) (es : List NodeEntry) → InsideIfAny r (bound_of es) → Each (λ e. Inside r (box_of e.rough)) es
each_inside r [] h = tt
each_inside r (e ∷ es) h = let s = inside_parts r (box_of e.rough) (bound_of es) h in (s.0, each_inside r es s.1)

inside_least : (r : Rect) (o : Option Rect) → o ≡ Some r → InsideIfAny r o
inside_least r o e = let I : Option Rect → Type 0 = λ x. InsideIfAny r x in subst I (sym e) (record { low_x = omega arith; low_y = omega arith; high_x = omega arith; high_y = omega arith })

-- the least rectangle round the entries of a node holds each of them
pub hull_each : (r : Rect) (es : List NodeEntry) → bound_of es ≡ Some r → Each (λ e. Inside r (box_of e.rough)) es
hull_each r es e = each_inside r es (inside_least r (bound_of es) e)

leaf_members : (r : Rect) (es : List NodeEntry) → Each (λ e. Inside r (box_of e.rough)) es → Each (λ i. Inside r (box_of i.1)) (members_of es)
leaf_members r [] h = tt
leaf_members r (e ∷ es) h = (h.0, leaf_members r es h.1)

row_each : (m : Store) (l : ℕ) (below : (n : ℕ) (b : Rect) → NodeStandsAt m l n → bound_of (entries_at m n) ≡ Some b → Each (λ i. Inside b (box_of i.1)) (members_under m l n))
    (r : Rect) (es : List NodeEntry)
    → StandsUnder m (suc l) es → Each (λ e. Inside r (box_of e.rough)) es → Each (λ i. Inside r (box_of i.1)) (members_in m (suc l) es)
row_each m l below r [] s h = tt
row_each m l below r (e ∷ es) s h = Each-append (λ i. Inside r (box_of i.1)) (members_under m l e.child) (members_in m (suc l) es)
    (Each-map (λ i. Inside (box_of e.rough) (box_of i.1)) (λ i. Inside r (box_of i.1)) (λ i k. inside-trans r (box_of e.rough) (box_of i.1) h.0 k)
    (members_under m l e.child) (below e.child (box_of e.rough) s.0.1.1 s.0.0.least))
    (row_each m l below r es s.1 h.1)

-- it holds each shape that is listed under the node
pub members_each : (m : Store) (l n : ℕ) (r : Rect) → NodeStandsAt m l n → bound_of (entries_at m n) ≡ Some r → Each (λ i. Inside r (box_of i.1)) (members_under m l n)
members_each m zero n r s e = leaf_members r (entries_at m n) (hull_each r (entries_at m n) e)
members_each m (suc l) n r s e = row_each m l (λ c b t f. members_each m l c b t f) r (entries_at m n) s.1 (hull_each r (entries_at m n) e)

true_false : (b : Bool) → b ≡ true → b ≡ false → ⊥
true_false b h k = false≢true (sym k ∙ h)

-- no member under a rectangle is one whose box it doesn't hold
pub members_lack : (r : Rect) (i : Member) (is : List Member) → covers r (box_of i.1) ≡ false → Each (λ j. Inside r (box_of j.1)) is → Each (λ j. j ≢ i) is
members_lack r i is c h = Each-map (λ j. Inside r (box_of j.1)) (λ j. j ≢ i)
    (λ j k e. true_false (covers r (box_of i.1)) (ap (λ (x : Member). covers r (box_of x.1)) (sym e) ∙ covers_inside r (box_of j.1) k) c) is h
