-- The entries of the tree of a block: those of a leaf, or those of its four children one after another.
use Rattle.std.proofs.Common.{◌≡◌, ℕ, zero, suc, ◌+◌, ◌<◌, ◌≤◌, ◌⊎◌, inl, inr, Bool, true, List, [], ◌∷◌, ◌++◌, length, map, take, refl, sym, ◌∙◌, ap, ap₂, subst, arith}
use Rattle.std.specs.Prelude.{filter, max}
use Rattle.std.proofs.lemmas.List.{append_assoc, map-append}
use Rattle.sand_base.specs.declared.TheConstants.{COORDINATE_BITS}
use Rattle.sand_base.specs.declared.shape.Shape.{Shape}
use Rattle.z_code.specs.Block.{child}
use Rattle.z_code.specs.declared.block.Block.{Block}
use Rattle.sand_model.specs.Tree.{Tree, Leaf, Inner, listings}
use Rattle.pmr_tree.specs.Entries.{figure_of, value_of}
use Rattle.pmr_tree.specs.Keys.{key_of, leaf_keys, keys, id_in}
use Rattle.pmr_tree.specs.Leaves.{firsts, Passes}
use Rattle.pmr_tree.specs.Listing.{Pair}
use Rattle.pmr_tree.proofs.Counts.{count_keys}
use Rattle.pmr_tree.proofs.Entries.{id_in_key}
use Rattle.pmr_tree.proofs.AscendingLists.{holds, fails, test, each_append, each_filter}
use Rattle.pmr_build.specs.Bulk.{leaf_room, bulk}
use Rattle.pmr_build.specs.Calls.{member_entry, leaf_entries, EntersBlock, IsTooMany}
use Rattle.pmr_build.specs.Members.{Member, member_ids, AreMembersIn, MembersPass}
use Rattle.pmr_build.specs.Parts.{members_met, IsChildOf, AreDivided}
use Rattle.pmr_build.specs.declared.divide.Division.{Division}
use Rattle.pmr_build.specs.declared.enter.Rule.{Rule}
use Rattle.pmr_build.proofs.Law.{bulk_leaf, bulk_inner, quarter}

-- a test of what meets
abbrev Met : Type 0
Met = Block → ℕ → Bool

length_ids : (list : List Member) → length (member_ids list) ≡ length list
length_ids [] = refl
length_ids (i ∷ list) = ap suc (length_ids list)

take_ids : (k : ℕ) (list : List Member) → member_ids (take k list) ≡ take k (member_ids list)
take_ids zero list = refl
take_ids (suc k) [] = refl
take_ids (suc k) (i ∷ list) = ap (λ t. i.0 ∷ t) (take_ids k list)

met_ids : (m : Met) (c : Block) (list : List Member) → member_ids (members_met m c list) ≡ filter (m c) (member_ids list)
met_ids m c [] = refl
met_ids m c (i ∷ list) = elim (test (m c i.0)) [
  | holds h ↦ rw h (ap (λ t. i.0 ∷ t) (met_ids m c list))
  | fails h ↦ rw h (met_ids m c list)
]

length_firsts : (es : List Pair) → length (firsts es) ≡ length es
length_firsts [] = refl
length_firsts (e ∷ es) = ap suc (length_firsts es)

length_both : (xs ys : List ℕ) → length (xs ++ ys) ≡ length xs + length ys
length_both [] ys = omega arith
length_both (x ∷ xs) ys = omega (arith, length_both xs ys)

-- the members of a child are members in it
pub members_in_child : (rows : List (ℕ × Shape)) (m : Met) (b c : Block) (list : List Member) → AreMembersIn rows m b list → AreMembersIn rows m c (members_met m c list)
members_in_child rows m b c [] h = tt
members_in_child rows m b c (i ∷ list) h = elim (test (m c i.0)) [
  | holds t ↦ rw t ((h.0.0, t), members_in_child rows m b c list h.1)
  | fails t ↦ rw t (members_in_child rows m b c list h.1)
]

-- the keys of a leaf's entries
entry_keys : (b : Block) (list : List Member) → firsts (map (member_entry b) list) ≡ map (key_of b) (member_ids list)
entry_keys b [] = refl
entry_keys b (i ∷ list) = ap (λ t. key_of b i.0 ∷ t) (entry_keys b list)

leaf_firsts : (b : Block) (list : List Member) → firsts (leaf_entries b list) ≡ leaf_keys b (member_ids list)
leaf_firsts b [] = refl
leaf_firsts b (i ∷ list) = entry_keys b (i ∷ list)

-- the values of a leaf's entries
entries_pass : (rows : List (ℕ × Shape)) (m : Met) (c b : Block) (test : ℕ → ℕ → Bool) (list : List Member) → AreMembersIn rows m c list → MembersPass test list
    → Passes test (map (member_entry b) list)
entries_pass rows m c b test [] h k = tt
entries_pass rows m c b test (i ∷ list) h k = (
  (λ some. subst (λ x. test x (value_of (figure_of i.1)) ≡ true) (sym (id_in_key b i.0 h.0.0.is_id.small)) k.0),
  entries_pass rows m c b test list h.1 k.1,
)

leaf_passes : (rows : List (ℕ × Shape)) (m : Met) (b : Block) (test : ℕ → ℕ → Bool) (list : List Member) → AreMembersIn rows m b list → MembersPass test list → Passes test (leaf_entries b list)
leaf_passes rows m b test [] h k = ((λ some. absurd (omega (arith, some, id_in_key b 0 (omega arith)))), tt)
leaf_passes rows m b test (i ∷ list) h k = entries_pass rows m b b test (i ∷ list) h k

-- the tree of a block of few ids, or of the finest level
stays_leaf : (m : Met) (n levels : ℕ) (b : Block) (most : ℕ) (ids : List ℕ) → levels + b.level ≡ COORDINATE_BITS → (length ids ≤ most) ⊎ (COORDINATE_BITS ≤ b.level)
    → bulk m n levels b most ids ≡ Leaf ids
stays_leaf m n levels b most ids e (inl few) = bulk_leaf m n levels b most ids few
stays_leaf m n zero b most ids e (inr last) = refl
stays_leaf m n (suc levels) b most ids e (inr last) = absurd (omega (arith, e, last))

few_ids : (most : ℕ) (list : List Member) (b : Block) → (length list ≤ most) ⊎ (COORDINATE_BITS ≤ b.level) → (length (member_ids list) ≤ most) ⊎ (COORDINATE_BITS ≤ b.level)
few_ids most list b (inl few) = inl (omega (arith, few, length_ids list))
few_ids most list b (inr last) = inr last

-- a leaf
pub leaf_enters : (rows : List (ℕ × Shape)) (m : Met) (n : ℕ) (b : Block) (most : ℕ) (list : List Member) (old new : List Pair) → AreMembersIn rows m b list
    → (length list ≤ most) ⊎ (COORDINATE_BITS ≤ b.level) → new ≡ old ++ leaf_entries b list → EntersBlock m n b most list old new
leaf_enters rows m n b most list old new are few is = record {
  keys = λ levels e.
      ap firsts is ∙ (map-append (λ (p : Pair). p.0) old (leaf_entries b list)
      ∙ ap (λ t. firsts old ++ t) (leaf_firsts b list ∙ ap (keys b) (sym (stays_leaf m n levels b most (member_ids list) e (few_ids most list b few)))));
  values = λ test pass done.
      subst (Passes test) (sym is)
      (each_append (λ p. 1 ≤ id_in p.0 → test (id_in p.0) p.1 ≡ true) old (leaf_entries b list) done (leaf_passes rows m b test list are pass));
}

pub leaf_too_many : (m : Met) (rule : Rule) (b : Block) (most : ℕ) (list : List Member) (count : ℕ) → (length list ≤ most) ⊎ (COORDINATE_BITS ≤ b.level)
    → rule.limit < count + max 1 (length list) → IsTooMany m rule b most list count
leaf_too_many m rule b most list count few many levels e =
    let is : listings (bulk m rule.threshold levels b most (member_ids list)) ≡ max 1 (length (member_ids list)) =
    ap listings (stays_leaf m rule.threshold levels b most (member_ids list) e (few_ids most list b few)) in
    omega (arith, many, is, length_ids list)

-- a child's tree is the quarter of the block's
child_tree : (m : Met) (n levels : ℕ) (c : Block) (most : ℕ) (list : List Member) (child_most : ℕ) (part : List Member) → IsChildOf m n c most list child_most part
    → bulk m n levels c child_most (member_ids part) ≡ quarter m n levels c most (member_ids list)
child_tree m n levels c most list child_most part h =
    let ids : member_ids part ≡ filter (m c) (member_ids list) = ap member_ids h.part_is ∙ met_ids m c list in
    let begun : List Member = take (suc most) list in
    let count : length (members_met m c begun) ≡ length (filter (m c) (take (suc most) (member_ids list))) =
    sym (length_ids (members_met m c begun)) ∙ ap length (met_ids m c begun ∙ ap (filter (m c)) (take_ids (suc most) list)) in
    let room : child_most ≡ leaf_room m n c (take (suc most) (member_ids list)) = h.keeps ∙ ap (max n) count in
    ap₂ (λ k t. bulk m n levels c k t) room ids

-- the tree of a block that is divided
pub divided_tree : (m : Met) (n levels : ℕ) (b : Block) (most : ℕ) (list : List Member) (d : Division) → most < length list → AreDivided m n b most list d
    → bulk m n (suc levels) b most (member_ids list)
    ≡ Inner (bulk m n levels (child b 0) d.mosts.first (member_ids d.parts.first.items)) (bulk m n levels (child b 1) d.mosts.second (member_ids d.parts.second.items))
    (bulk m n levels (child b 2) d.mosts.third (member_ids d.parts.third.items)) (bulk m n levels (child b 3) d.mosts.fourth (member_ids d.parts.fourth.items))
divided_tree m n levels b most list d many h =
    bulk_inner m n levels b most (member_ids list) (omega (arith, many, length_ids list))
    ∙ inner_is (quarter m n levels (child b 0) most (member_ids list)) (quarter m n levels (child b 1) most (member_ids list))
    (quarter m n levels (child b 2) most (member_ids list)) (quarter m n levels (child b 3) most (member_ids list))
    (bulk m n levels (child b 0) d.mosts.first (member_ids d.parts.first.items)) (bulk m n levels (child b 1) d.mosts.second (member_ids d.parts.second.items))
    (bulk m n levels (child b 2) d.mosts.third (member_ids d.parts.third.items)) (bulk m n levels (child b 3) d.mosts.fourth (member_ids d.parts.fourth.items))
    (sym (child_tree m n levels (child b 0) most list d.mosts.first d.parts.first.items h.first))
    (sym (child_tree m n levels (child b 1) most list d.mosts.second d.parts.second.items h.second))
    (sym (child_tree m n levels (child b 2) most list d.mosts.third d.parts.third.items h.third))
    (sym (child_tree m n levels (child b 3) most list d.mosts.fourth d.parts.fourth.items h.fourth))
  where
    inner_is : (p q r s p' q' r' s' : Tree) → p ≡ p' → q ≡ q' → r ≡ r' → s ≡ s' → Inner p q r s ≡ Inner p' q' r' s'
    inner_is p q r s p' q' r' s' a b c d = cc

-- how many entries there are when a block was entered
pub entered_count : (m : Met) (n : ℕ) (b : Block) (most : ℕ) (list : List Member) (old new : List Pair) → EntersBlock m n b most list old new → (levels : ℕ)
    → levels + b.level ≡ COORDINATE_BITS → length new ≡ length old + listings (bulk m n levels b most (member_ids list))
entered_count m n b most list old new h levels e =
    let tree : Tree = bulk m n levels b most (member_ids list) in
    omega (arith, length_firsts new, length_firsts old, ap length (h.keys levels e), length_both (firsts old) (keys b tree), count_keys b tree)

-- entries of four children, one after another
four_after : (x0 x1 x2 x3 x4 a b c d : List ℕ) → x1 ≡ x0 ++ a → x2 ≡ x1 ++ b → x3 ≡ x2 ++ c → x4 ≡ x3 ++ d → x4 ≡ x0 ++ (a ++ (b ++ (c ++ d)))
four_after x0 x1 x2 x3 x4 a b c d e0 e1 e2 e3 =
    e3 ∙ (ap (λ t. t ++ d) (e2 ∙ ap (λ t. t ++ c) (e1 ∙ ap (λ t. t ++ b) e0))
    ∙ (append_assoc ((x0 ++ a) ++ b) c d ∙ (append_assoc (x0 ++ a) b (c ++ d) ∙ append_assoc x0 a (b ++ (c ++ d)))))

part_passes : (test : ℕ → ℕ → Bool) (m : Met) (n : ℕ) (c : Block) (most : ℕ) (list : List Member) (child_most : ℕ) (part : List Member) → IsChildOf m n c most list child_most part
    → MembersPass test list → MembersPass test part
part_passes test m n c most list child_most part h pass =
    subst (MembersPass test) (sym h.part_is) (each_filter (λ (i : Member). test i.0 (value_of (figure_of i.1)) ≡ true) (λ i. m c i.0) list pass)

-- a child's entries, one after another, are those of the block
pub children_enter : (m : Met) (n : ℕ) (b : Block) (most : ℕ) (list : List Member) (d : Division) (x0 x1 x2 x3 x4 : List Pair) → b.level < COORDINATE_BITS → most < length list
    → AreDivided m n b most list d → EntersBlock m n (child b 0) d.mosts.first d.parts.first.items x0 x1 → EntersBlock m n (child b 1) d.mosts.second d.parts.second.items x1 x2
    → EntersBlock m n (child b 2) d.mosts.third d.parts.third.items x2 x3 → EntersBlock m n (child b 3) d.mosts.fourth d.parts.fourth.items x3 x4
    → EntersBlock m n b most list x0 x4
children_enter m n b most list d x0 x1 x2 x3 x4 up many h a0 a1 a2 a3 = record {
  keys = go;
  values = λ test pass done.
      a3.values test (part_passes test m n (child b 3) most list d.mosts.fourth d.parts.fourth.items h.fourth pass)
      (a2.values test (part_passes test m n (child b 2) most list d.mosts.third d.parts.third.items h.third pass)
      (a1.values test (part_passes test m n (child b 1) most list d.mosts.second d.parts.second.items h.second pass)
      (a0.values test (part_passes test m n (child b 0) most list d.mosts.first d.parts.first.items h.first pass) done)));
} where
  go : (levels : ℕ) → levels + b.level ≡ COORDINATE_BITS → firsts x4 ≡ firsts x0 ++ keys b (bulk m n levels b most (member_ids list))
  go zero e = absurd (omega (arith, e, up))
  go (suc levels) e =
      let l : levels + (b.level + 1) ≡ COORDINATE_BITS = omega (arith, e) in
      four_after (firsts x0) (firsts x1) (firsts x2) (firsts x3) (firsts x4)
      (keys (child b 0) (bulk m n levels (child b 0) d.mosts.first (member_ids d.parts.first.items)))
      (keys (child b 1) (bulk m n levels (child b 1) d.mosts.second (member_ids d.parts.second.items)))
      (keys (child b 2) (bulk m n levels (child b 2) d.mosts.third (member_ids d.parts.third.items)))
      (keys (child b 3) (bulk m n levels (child b 3) d.mosts.fourth (member_ids d.parts.fourth.items)))
      (a0.keys levels l) (a1.keys levels l) (a2.keys levels l) (a3.keys levels l)
      ∙ ap (λ t. firsts x0 ++ keys b t) (sym (divided_tree m n levels b most list d many h))

-- Where a child has too many, so has the block.

level_below : (b : Block) (levels : ℕ) → levels + b.level ≡ COORDINATE_BITS → b.level < COORDINATE_BITS → (l : ℕ) × ((levels ≡ suc l) × (l + (b.level + 1) ≡ COORDINATE_BITS))
level_below b zero e up = absurd (omega (arith, e, up))
level_below b (suc l) e up = (l, (refl, omega (arith, e)))

-- the listings of a block are those of its children
four_listings : (m : Met) (n levels l : ℕ) (b : Block) (most : ℕ) (list : List Member) (d : Division) → levels ≡ suc l → most < length list → AreDivided m n b most list d
    → listings (bulk m n levels b most (member_ids list))
    ≡ listings (bulk m n l (child b 0) d.mosts.first (member_ids d.parts.first.items)) + (listings (bulk m n l (child b 1) d.mosts.second (member_ids d.parts.second.items))
    + (listings (bulk m n l (child b 2) d.mosts.third (member_ids d.parts.third.items)) + listings (bulk m n l (child b 3) d.mosts.fourth (member_ids d.parts.fourth.items))))
four_listings m n levels l b most list d e many h =
    ap (λ k. listings (bulk m n k b most (member_ids list))) e ∙ ap listings (divided_tree m n l b most list d many h)

pub first_too_many : (m : Met) (rule : Rule) (b : Block) (most : ℕ) (list : List Member) (d : Division) (count : ℕ) → b.level < COORDINATE_BITS → most < length list
    → AreDivided m rule.threshold b most list d → IsTooMany m rule (child b 0) d.mosts.first d.parts.first.items count → IsTooMany m rule b most list count
first_too_many m rule b most list d count up many h k levels e =
    let below = level_below b levels e up in
    omega (arith, k below.0 below.1.1, four_listings m rule.threshold levels below.0 b most list d below.1.0 many h)

pub second_too_many : (m : Met) (rule : Rule) (b : Block) (most : ℕ) (list : List Member) (d : Division) (x0 x1 : List Pair) → b.level < COORDINATE_BITS → most < length list
    → AreDivided m rule.threshold b most list d → EntersBlock m rule.threshold (child b 0) d.mosts.first d.parts.first.items x0 x1
    → IsTooMany m rule (child b 1) d.mosts.second d.parts.second.items (length x1) → IsTooMany m rule b most list (length x0)
second_too_many m rule b most list d x0 x1 up many h a0 k levels e =
    let below = level_below b levels e up in
    let n : ℕ = rule.threshold in
    omega (
      arith,
      k below.0 below.1.1,
      four_listings m n levels below.0 b most list d below.1.0 many h,
      entered_count m n (child b 0) d.mosts.first d.parts.first.items x0 x1 a0 below.0 below.1.1,
    )

pub third_too_many : (m : Met) (rule : Rule) (b : Block) (most : ℕ) (list : List Member) (d : Division) (x0 x1 x2 : List Pair) → b.level < COORDINATE_BITS → most < length list
    → AreDivided m rule.threshold b most list d → EntersBlock m rule.threshold (child b 0) d.mosts.first d.parts.first.items x0 x1
    → EntersBlock m rule.threshold (child b 1) d.mosts.second d.parts.second.items x1 x2
    → IsTooMany m rule (child b 2) d.mosts.third d.parts.third.items (length x2) → IsTooMany m rule b most list (length x0)
third_too_many m rule b most list d x0 x1 x2 up many h a0 a1 k levels e =
    let below = level_below b levels e up in
    let n : ℕ = rule.threshold in
    omega (
      arith,
      k below.0 below.1.1,
      four_listings m n levels below.0 b most list d below.1.0 many h,
      entered_count m n (child b 0) d.mosts.first d.parts.first.items x0 x1 a0 below.0 below.1.1,
      entered_count m n (child b 1) d.mosts.second d.parts.second.items x1 x2 a1 below.0 below.1.1,
    )

pub fourth_too_many : (m : Met) (rule : Rule) (b : Block) (most : ℕ) (list : List Member) (d : Division) (x0 x1 x2 x3 : List Pair) → b.level < COORDINATE_BITS → most < length list
    → AreDivided m rule.threshold b most list d → EntersBlock m rule.threshold (child b 0) d.mosts.first d.parts.first.items x0 x1
    → EntersBlock m rule.threshold (child b 1) d.mosts.second d.parts.second.items x1 x2 → EntersBlock m rule.threshold (child b 2) d.mosts.third d.parts.third.items x2 x3
    → IsTooMany m rule (child b 3) d.mosts.fourth d.parts.fourth.items (length x3) → IsTooMany m rule b most list (length x0)
fourth_too_many m rule b most list d x0 x1 x2 x3 up many h a0 a1 a2 k levels e =
    let below = level_below b levels e up in
    let n : ℕ = rule.threshold in
    omega (
      arith,
      k below.0 below.1.1,
      four_listings m n levels below.0 b most list d below.1.0 many h,
      entered_count m n (child b 0) d.mosts.first d.parts.first.items x0 x1 a0 below.0 below.1.1,
      entered_count m n (child b 1) d.mosts.second d.parts.second.items x1 x2 a1 below.0 below.1.1,
      entered_count m n (child b 2) d.mosts.third d.parts.third.items x2 x3 a2 below.0 below.1.1,
    )
