-- The children of a block are entered one after another, each over pages that nothing has changed.
use Rattle.std.proofs.Common.{◌≡◌, ℕ, ◌<◌, Bool, List, length, get_or, Result, Ok, Err, IsErr, IsErrAnd, sym, ◌∙◌, ap, subst}
use Rattle.std.specs.Prelude.{OnOk, IfErr}
use Rattle.sand_base.specs.declared.TheConstants.{COORDINATE_BITS}
use Rattle.sand_base.specs.declared.shape.Shape.{Shape}
use Rattle.z_code.specs.Block.{child, children_of}
use Rattle.z_code.specs.declared.block.Block.{Block}
use Rattle.page_pool.specs.Disk.{PageMap}
use Rattle.page_pool.specs.Pool.{PoolState, IsTold}
use Rattle.page_pool.specs.Reads.{IsRead}
use Rattle.page_pool.specs.Steps.{IsRead-trans}
use Rattle.pmr_tree.specs.Listing.{Pair}
use Rattle.pmr_build.specs.Calls.{EntersBlock, IsTooMany}
use Rattle.pmr_build.specs.Members.{Member, TellsRows, AreMembersIn}
use Rattle.pmr_build.specs.Parts.{IsChildOf, AreDivided}
use Rattle.pmr_build.specs.declared.divide.Division.{Division}
use Rattle.pmr_build.specs.declared.enter.Rule.{Rule}
use Rattle.pmr_build.proofs.Blocks.{members_in_child, children_enter, first_too_many, second_too_many, third_too_many, fourth_too_many}

-- a test of what meets
abbrev Met : Type 0
Met = Block → ℕ → Bool

-- what is known where a call was accepted, or refused

pub on_ok : {T E P Q : Type 0} (r : Result T E) → (P → Q) → OnOk r P → OnOk r Q
on_ok (Ok x) f h = f h
on_ok (Err e) f h = tt

pub on_err : {T E : Type 0} {P Q : E → Type 0} (r : Result T E) → ((e : E) → P e → Q e) → IfErr r P → IfErr r Q
on_err (Ok x) f h = tt
on_err (Err e) f h = f e h

pub err_passed : {T E : Type 0} (Q : E → Type 0) (r : Result T E) (e : E) → IsErr r × IsErrAnd r (λ f. f ≡ e) → Q e → IfErr r Q
err_passed Q (Ok x) e h q = tt
err_passed Q (Err f) e h q = subst Q (sym h.1) q

-- the children of a block, as an array has them

pub first_is : (b : Block) (cs : List Block) (d : Block) → cs ≡ children_of b → get_or cs 0 d ≡ child b 0
first_is b cs d e = ap (λ t. get_or t 0 d) e

pub second_is : (b : Block) (cs : List Block) (d : Block) → cs ≡ children_of b → get_or cs 1 d ≡ child b 1
second_is b cs d e = ap (λ t. get_or t 1 d) e

pub third_is : (b : Block) (cs : List Block) (d : Block) → cs ≡ children_of b → get_or cs 2 d ≡ child b 2
third_is b cs d e = ap (λ t. get_or t 2 d) e

pub fourth_is : (b : Block) (cs : List Block) (d : Block) → cs ≡ children_of b → get_or cs 3 d ≡ child b 3
fourth_is b cs d e = ap (λ t. get_or t 3 d) e

-- What a call over a state of the pages tells, by what is known of rows there.
abbrev pub TellsThere : (PageMap → List (ℕ × Shape)) → PoolState → (Met → Block → List Member → Type 0) → Block → List Member → Type 0
TellsThere rows s X c part = IsTold s → (m : Met) → TellsRows (rows s.pages) m → AreMembersIn (rows s.pages) m c part → X m c part

-- a call behind others tells the same of the block and the members by other names
pub tells_here : (rows : PageMap → List (ℕ × Shape)) (s0 s : PoolState) (X : Met → Block → List Member → Type 0) (c c' : Block) (part part' : List Member) → IsRead s0 s → c' ≡ c → part' ≡ part
    → TellsThere rows s X c' part' → TellsThere rows s0 X c part
tells_here rows s0 s X c c' part part' r ec ep f told m tells are =
    let P : PageMap → Type 0 = λ p. TellsRows (rows p) m → AreMembersIn (rows p) m c' part' → X m c' part' in
    let C : Block → Type 0 = λ x. AreMembersIn (rows s0.pages) m x part' → X m x part' in
    let L : List Member → Type 0 = λ x. AreMembersIn (rows s0.pages) m c x → X m c x in
    subst L ep (subst C ec (subst P r.pages (f (r.told ∙ told) m) tells)) are

child_members : (rows : List (ℕ × Shape)) (m : Met) (n : ℕ) (b c : Block) (most : ℕ) (list : List Member) (child_most : ℕ) (part : List Member) → IsChildOf m n c most list child_most part
    → AreMembersIn rows m b list → AreMembersIn rows m c part
child_members rows m n b c most list child_most part h are = subst (AreMembersIn rows m c) (sym h.part_is) (members_in_child rows m b c list are)

-- A block that was divided, and its members.
pub record Walk (rows : PageMap → List (ℕ × Shape)) (s0 s1 : PoolState) (rule : Rule) (b : Block) (most : ℕ) (list : List Member) (d : Division) : Type 0 where
  pub up : b.level < COORDINATE_BITS
  pub many : most < length list
  pub read : IsRead s0 s1
  pub divided : TellsThere rows s0 (λ m c part. AreDivided m rule.threshold c most part d) b list

pub walk : (rows : PageMap → List (ℕ × Shape)) (s0 s1 : PoolState) (rule : Rule) (b : Block) (most : ℕ) (list : List Member) (d : Division) (n : ℕ) → n ≡ rule.threshold
    → b.level < COORDINATE_BITS → most < length list → IsRead s0 s1 → TellsThere rows s0 (λ m c part. AreDivided m n c most part d) b list → Walk rows s0 s1 rule b most list d
walk rows s0 s1 rule b most list d n same up many read divided = record {
  up = up;
  many = many;
  read = read;
  divided = λ told m tells are. subst (λ k. AreDivided m k b most list d) same (divided told m tells are);
}

-- a child with its members, by the names that the code has for them
pub record Named (c c' : Block) (part part' : List Member) : Type 0 where
  pub block : c' ≡ c
  pub members : part' ≡ part

-- what a call that entered a child tells
abbrev pub Entered : (PageMap → List (ℕ × Shape)) → PoolState → Rule → Block → ℕ → List Member → List Pair × List Pair → Type 0
Entered rows s rule c k part x = TellsThere rows s (λ m b list. EntersBlock m rule.threshold b k list x.0 x.1) c part

-- what a call that was refused for a full index tells
abbrev pub TooMany : (PageMap → List (ℕ × Shape)) → PoolState → Rule → Block → ℕ → List Member → List Pair → Type 0
TooMany rows s rule c k part x = TellsThere rows s (λ m b list. IsTooMany m rule b k list (length x)) c part

-- all four were entered
pub all_entered : (rows : PageMap → List (ℕ × Shape)) (s0 s1 s2 s3 s4 : PoolState) (rule : Rule) (b : Block) (most : ℕ) (list : List Member) (d : Division) (c0 c1 c2 c3 : Block)
    (p0 p1 p2 p3 : List Member) (x0 x1 x2 x3 x4 : List Pair) → Walk rows s0 s1 rule b most list d → IsRead s1 s2 → IsRead s2 s3 → IsRead s3 s4
    → Named (child b 0) c0 d.parts.first.items p0 → Named (child b 1) c1 d.parts.second.items p1 → Named (child b 2) c2 d.parts.third.items p2 → Named (child b 3) c3 d.parts.fourth.items p3
    → Entered rows s1 rule c0 d.mosts.first p0 (x0, x1) → Entered rows s2 rule c1 d.mosts.second p1 (x1, x2) → Entered rows s3 rule c2 d.mosts.third p2 (x2, x3)
    → Entered rows s4 rule c3 d.mosts.fourth p3 (x3, x4) → Entered rows s0 rule b most list (x0, x4)
all_entered rows s0 s1 s2 s3 s4 rule b most list d c0 c1 c2 c3 p0 p1 p2 p3 x0 x1 x2 x3 x4 w r2 r3 r4 n0 n1 n2 n3 e0 e1 e2 e3 told m tells are =
    let n : ℕ = rule.threshold in
    let h = w.divided told m tells are in
    let to2 = IsRead-trans s0 s1 s2 w.read r2 in
    let to3 = IsRead-trans s0 s2 s3 to2 r3 in
    let to4 = IsRead-trans s0 s3 s4 to3 r4 in
    let of = rows s0.pages in
    children_enter m n b most list d x0 x1 x2 x3 x4 w.up w.many h
    (tells_here rows s0 s1 (λ k c part. EntersBlock k n c d.mosts.first part x0 x1) (child b 0) c0 d.parts.first.items p0 w.read n0.block n0.members e0 told m tells
    (child_members of m n b (child b 0) most list d.mosts.first d.parts.first.items h.first are))
    (tells_here rows s0 s2 (λ k c part. EntersBlock k n c d.mosts.second part x1 x2) (child b 1) c1 d.parts.second.items p1 to2 n1.block n1.members e1 told m tells
    (child_members of m n b (child b 1) most list d.mosts.second d.parts.second.items h.second are))
    (tells_here rows s0 s3 (λ k c part. EntersBlock k n c d.mosts.third part x2 x3) (child b 2) c2 d.parts.third.items p2 to3 n2.block n2.members e2 told m tells
    (child_members of m n b (child b 2) most list d.mosts.third d.parts.third.items h.third are))
    (tells_here rows s0 s4 (λ k c part. EntersBlock k n c d.mosts.fourth part x3 x4) (child b 3) c3 d.parts.fourth.items p3 to4 n3.block n3.members e3 told m tells
    (child_members of m n b (child b 3) most list d.mosts.fourth d.parts.fourth.items h.fourth are))

-- the first was refused
pub first_full : (rows : PageMap → List (ℕ × Shape)) (s0 s1 : PoolState) (rule : Rule) (b : Block) (most : ℕ) (list : List Member) (d : Division) (c0 : Block) (p0 : List Member) (x0 : List Pair)
    → Walk rows s0 s1 rule b most list d → Named (child b 0) c0 d.parts.first.items p0 → TooMany rows s1 rule c0 d.mosts.first p0 x0 → TooMany rows s0 rule b most list x0
first_full rows s0 s1 rule b most list d c0 p0 x0 w n0 f told m tells are =
    let h = w.divided told m tells are in
    first_too_many m rule b most list d (length x0) w.up w.many h
    (tells_here rows s0 s1 (λ k c part. IsTooMany k rule c d.mosts.first part (length x0)) (child b 0) c0 d.parts.first.items p0 w.read n0.block n0.members f told m tells
    (child_members (rows s0.pages) m rule.threshold b (child b 0) most list d.mosts.first d.parts.first.items h.first are))

-- the second was refused
pub second_full : (rows : PageMap → List (ℕ × Shape)) (s0 s1 s2 : PoolState) (rule : Rule) (b : Block) (most : ℕ) (list : List Member) (d : Division) (c0 c1 : Block) (p0 p1 : List Member)
    (x0 x1 : List Pair) → Walk rows s0 s1 rule b most list d → IsRead s1 s2 → Named (child b 0) c0 d.parts.first.items p0 → Named (child b 1) c1 d.parts.second.items p1
    → Entered rows s1 rule c0 d.mosts.first p0 (x0, x1) → TooMany rows s2 rule c1 d.mosts.second p1 x1 → TooMany rows s0 rule b most list x0
second_full rows s0 s1 s2 rule b most list d c0 c1 p0 p1 x0 x1 w r2 n0 n1 e0 f told m tells are =
    let n : ℕ = rule.threshold in
    let h = w.divided told m tells are in
    let of = rows s0.pages in
    second_too_many m rule b most list d x0 x1 w.up w.many h
    (tells_here rows s0 s1 (λ k c part. EntersBlock k n c d.mosts.first part x0 x1) (child b 0) c0 d.parts.first.items p0 w.read n0.block n0.members e0 told m tells
    (child_members of m n b (child b 0) most list d.mosts.first d.parts.first.items h.first are))
    (tells_here rows s0 s2 (λ k c part. IsTooMany k rule c d.mosts.second part (length x1)) (child b 1) c1 d.parts.second.items p1 (IsRead-trans s0 s1 s2 w.read r2) n1.block n1.members f told m tells
    (child_members of m n b (child b 1) most list d.mosts.second d.parts.second.items h.second are))

-- the third was refused
pub third_full : (rows : PageMap → List (ℕ × Shape)) (s0 s1 s2 s3 : PoolState) (rule : Rule) (b : Block) (most : ℕ) (list : List Member) (d : Division) (c0 c1 c2 : Block) (p0 p1 p2 : List Member)
    (x0 x1 x2 : List Pair) → Walk rows s0 s1 rule b most list d → IsRead s1 s2 → IsRead s2 s3 → Named (child b 0) c0 d.parts.first.items p0 → Named (child b 1) c1 d.parts.second.items p1
    → Named (child b 2) c2 d.parts.third.items p2 → Entered rows s1 rule c0 d.mosts.first p0 (x0, x1) → Entered rows s2 rule c1 d.mosts.second p1 (x1, x2)
    → TooMany rows s3 rule c2 d.mosts.third p2 x2 → TooMany rows s0 rule b most list x0
third_full rows s0 s1 s2 s3 rule b most list d c0 c1 c2 p0 p1 p2 x0 x1 x2 w r2 r3 n0 n1 n2 e0 e1 f told m tells are =
    let n : ℕ = rule.threshold in
    let h = w.divided told m tells are in
    let of = rows s0.pages in
    let to2 = IsRead-trans s0 s1 s2 w.read r2 in
    third_too_many m rule b most list d x0 x1 x2 w.up w.many h
    (tells_here rows s0 s1 (λ k c part. EntersBlock k n c d.mosts.first part x0 x1) (child b 0) c0 d.parts.first.items p0 w.read n0.block n0.members e0 told m tells
    (child_members of m n b (child b 0) most list d.mosts.first d.parts.first.items h.first are))
    (tells_here rows s0 s2 (λ k c part. EntersBlock k n c d.mosts.second part x1 x2) (child b 1) c1 d.parts.second.items p1 to2 n1.block n1.members e1 told m tells
    (child_members of m n b (child b 1) most list d.mosts.second d.parts.second.items h.second are))
    (tells_here rows s0 s3 (λ k c part. IsTooMany k rule c d.mosts.third part (length x2)) (child b 2) c2 d.parts.third.items p2 (IsRead-trans s0 s2 s3 to2 r3) n2.block n2.members f told m tells
    (child_members of m n b (child b 2) most list d.mosts.third d.parts.third.items h.third are))

-- the fourth was refused
pub fourth_full : (rows : PageMap → List (ℕ × Shape)) (s0 s1 s2 s3 s4 : PoolState) (rule : Rule) (b : Block) (most : ℕ) (list : List Member) (d : Division) (c0 c1 c2 c3 : Block)
    (p0 p1 p2 p3 : List Member) (x0 x1 x2 x3 : List Pair) → Walk rows s0 s1 rule b most list d → IsRead s1 s2 → IsRead s2 s3 → IsRead s3 s4
    → Named (child b 0) c0 d.parts.first.items p0 → Named (child b 1) c1 d.parts.second.items p1 → Named (child b 2) c2 d.parts.third.items p2 → Named (child b 3) c3 d.parts.fourth.items p3
    → Entered rows s1 rule c0 d.mosts.first p0 (x0, x1) → Entered rows s2 rule c1 d.mosts.second p1 (x1, x2) → Entered rows s3 rule c2 d.mosts.third p2 (x2, x3)
    → TooMany rows s4 rule c3 d.mosts.fourth p3 x3 → TooMany rows s0 rule b most list x0
fourth_full rows s0 s1 s2 s3 s4 rule b most list d c0 c1 c2 c3 p0 p1 p2 p3 x0 x1 x2 x3 w r2 r3 r4 n0 n1 n2 n3 e0 e1 e2 f told m tells are =
    let n : ℕ = rule.threshold in
    let h = w.divided told m tells are in
    let of = rows s0.pages in
    let to2 = IsRead-trans s0 s1 s2 w.read r2 in
    let to3 = IsRead-trans s0 s2 s3 to2 r3 in
    fourth_too_many m rule b most list d x0 x1 x2 x3 w.up w.many h
    (tells_here rows s0 s1 (λ k c part. EntersBlock k n c d.mosts.first part x0 x1) (child b 0) c0 d.parts.first.items p0 w.read n0.block n0.members e0 told m tells
    (child_members of m n b (child b 0) most list d.mosts.first d.parts.first.items h.first are))
    (tells_here rows s0 s2 (λ k c part. EntersBlock k n c d.mosts.second part x1 x2) (child b 1) c1 d.parts.second.items p1 to2 n1.block n1.members e1 told m tells
    (child_members of m n b (child b 1) most list d.mosts.second d.parts.second.items h.second are))
    (tells_here rows s0 s3 (λ k c part. EntersBlock k n c d.mosts.third part x2 x3) (child b 2) c2 d.parts.third.items p2 to3 n2.block n2.members e2 told m tells
    (child_members of m n b (child b 2) most list d.mosts.third d.parts.third.items h.third are))
    (tells_here rows s0 s4 (λ k c part. IsTooMany k rule c d.mosts.fourth part (length x3)) (child b 3) c3 d.parts.fourth.items p3 (IsRead-trans s0 s3 s4 to3 r4) n3.block n3.members f told m tells
    (child_members of m n b (child b 3) most list d.mosts.fourth d.parts.fourth.items h.fourth are))
