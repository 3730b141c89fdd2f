-- The beginning of a search within the distance 0: the root is queued where its gap is 0, and lies outside the ceiling elsewhere.
use Rattle.std.proofs.Common.{◌≡◌, ℕ, ◌*◌, ◌≤◌, ◌≢◌, [], ◌∷◌, ◌++◌, Bool, true, false, None, Some, refl, sym, ap, ◌∙◌, arith, append-nil, leb-true, Ordering, Equal}
use Rattle.std.specs.Cmp.{IsTotalOrder, nat_cmp_is}
use Rattle.exact_frac.specs.declared.frac.Frac.{Frac}
use Rattle.best_first.specs.declared.item.Item.{Item}
use Rattle.best_first.specs.declared.item.Item.TheVariants.{Node}
use Rattle.best_first.specs.Item.{gap_of}
use Rattle.best_first.specs.Reach.{IsSameGap, within}
use Rattle.best_first.specs.Hierarchy.{Meaning, MeetsLaws, kept}
use Rattle.best_first.specs.Frontier.{Stands}
use Rattle.best_first.specs.RowsAtZero.{zero_gap}
use Rattle.best_first.proofs.Bags.{filter_here, filter_skips, IsPermutation-same}
use Rattle.best_first.proofs.Gaps.{same_trans}
use Rattle.best_first.proofs.Beginning.{begun_stands}
use Rattle.best_first.specs.ZeroItems.{ZeroItems, node_at_zero, items_of}
use Rattle.best_first.specs.WithinZero.{IsWithinZero}

-- ---- gaps within the distance 0

-- a gap of the numerator 0 is that of the parts 0 and 1, by its value
pub zero_same : (gap : Frac) → gap.num ≡ 0 → IsSameGap zero_gap gap
zero_same gap e =
    let equal : 0 * gap.den ≡ gap.num * 1 = omega arith in
    sym (nat_cmp_is (0 * gap.den) (gap.num * 1) Equal equal)

-- the gap is within the distance 0 only with the numerator 0
pub within_zero : (gap : Frac) → within (Some 0) gap ≡ true → gap.num ≡ 0
within_zero gap e = let h : gap.num ≤ 0 * 0 * gap.den = leb-true gap.num (0 * 0 * gap.den) e in omega arith

-- another one is outside
pub beyond_zero : (gap : Frac) → gap.num ≢ 0 → within (Some 0) gap ≡ false
beyond_zero gap far =
    let go : (b : Bool) → within (Some 0) gap ≡ b → b ≡ false = elim [ true ↦ λ e. absurd (far (within_zero gap e)) | false ↦ λ e. refl ] in
    go (within (Some 0) gap) refl

-- ---- the beginning

module _ {N : Type 0} {cmp : N → N → Ordering} (o : IsTotalOrder cmp) (m : Meaning N) (laws : MeetsLaws m) (zero : IsWithinZero m) (gap : Frac) (node : N)
    (root : (node ≡ m.root) × IsSameGap gap (m.gap node)) where
  -- the root is queued
  pub begun_near : (below : ℕ) (empty new q : ZeroItems N) → gap.num ≡ 0 → empty ≡ record { nodes = []; roughs = []; rows = []; below = below }
      → new ≡ record empty { nodes = empty.nodes ++ node ∷ [] } → q ≡ new → Stands cmp m (items_of q) None []
  begun_near below empty new q near nothing added is =
      let first : Item N = node_at_zero node in
      let inside : within m.ceiling zero_gap ≡ true = ap (λ c. within c zero_gap) zero.ceiling in
      let queued : items_of q ≡ first ∷ [] = ap items_of (is ∙ added ∙ ap (λ (l : ZeroItems N). record l { nodes = l.nodes ++ node ∷ [] }) nothing) in
      let all : kept (within m.ceiling) (first ∷ []) ++ [] ≡ items_of q =
      append-nil (kept (within m.ceiling) (first ∷ [])) ∙ filter_here (λ item. within m.ceiling (gap_of item)) first [] inside ∙ sym queued in
      begun_stands o m laws m.ceiling zero_gap node [] (items_of q) refl (root.0, same_trans zero_gap gap (m.gap node) (zero_same gap near) root.1) refl
      (IsPermutation-same (kept (within m.ceiling) (first ∷ []) ++ []) (items_of q) all)

  -- the root is outside the ceiling, and nothing is queued
  pub begun_far : (below : ℕ) (empty q : ZeroItems N) → gap.num ≢ 0 → empty ≡ record { nodes = []; roughs = []; rows = []; below = below } → q ≡ empty → Stands cmp m (items_of q) None []
  begun_far below empty q far nothing is =
      let first : Item N = Node gap node in
      let outside : within m.ceiling gap ≡ false = ap (λ c. within c gap) zero.ceiling ∙ beyond_zero gap far in
      let all : kept (within m.ceiling) (first ∷ []) ++ [] ≡ items_of q =
      append-nil (kept (within m.ceiling) (first ∷ [])) ∙ filter_skips (λ item. within m.ceiling (gap_of item)) first [] outside ∙ sym (ap items_of (is ∙ nothing)) in
      begun_stands o m laws m.ceiling gap node [] (items_of q) refl root refl
      (IsPermutation-same (kept (within m.ceiling) (first ∷ []) ++ []) (items_of q) all)
