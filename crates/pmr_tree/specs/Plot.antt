-- How the calls on a quadtree's entries in pages follow one another. Only proofs need it.
use Rattle.std.specs.Prelude.{◌≡◌, ◌↔◌, ℕ, Bool, true, IsTrue, List, ◌∷◌, Option, None, Some, Result, Ok, Err, refl, ⊤}
use Rattle.std.proofs.Common.{◌∙◌, sym, subst}
use Rattle.page_pool.specs.Disk.{PageMap}
use Rattle.page_pool.specs.Pool.{PoolState, IsOpen, IsLive, IsTold}
use Rattle.page_pool.specs.Causes.{HasPageCause}
use Rattle.page_pool.specs.Steps.{InCommand, InCommand-refl, InCommand-trans, HasPageCause-before, HasPageCause-memory, HasPageCause-done}
use Rattle.page_pool.specs.declared.fault.PageFault.{PageFault}
use Rattle.page_pool.specs.declared.fault.PageFault.TheVariants as page
use Rattle.code_btree.specs.declared.map.Tree.{Tree}
use Rattle.code_btree.specs.Tree.{Store, IsTree, pages_in, tree_pages, times}
use Rattle.code_btree.specs.Calls.{Keeps}
use Rattle.sand_base.specs.Plane.{IsShapeInPlane}
use Rattle.sand_base.specs.declared.goal.Goal.TheVariants as figure
use Rattle.sand_base.specs.declared.shape.Shape.{Shape}
use Rattle.z_code.specs.Block.{IsBlock, square_of}
use Rattle.z_code.specs.declared.block.Block.{Block}
use Rattle.sand_model.specs.Database.{shape_at}
use Rattle.sand_model.specs.FigureGap.{IsMeeting}
use Rattle.pmr_tree.specs.declared.fault.PmrFault.{PmrFault}
use Rattle.pmr_tree.specs.declared.fault.PmrFault.TheVariants.{Memory, Device, Damaged, IndexFull}

-- the refusal of the pages, if it was one
abbrev pub of_end : Option PmrFault → Result (Unit {0}) PageFault
of_end None = Ok tt
of_end (Some Memory) = Err page.Memory
of_end (Some Device) = Err page.Device
of_end (Some (Damaged n kept read)) = Err (page.Damaged n kept read)
of_end (Some IndexFull) = Ok tt

-- the call was not refused for a full index
abbrev pub IsNotFull : Option PmrFault → Type 0
IsNotFull (Some IndexFull) = ⊥
IsNotFull _ = ⊤

-- a refusal of the pages, as the quadtree names it
abbrev pub pmr_fault : PageFault → PmrFault
pmr_fault page.Memory = Memory
pmr_fault page.Device = Device
pmr_fault (page.Damaged n kept read) = Damaged n kept read

-- the function tells of these ids, which are rows, which squares their shapes meet
abbrev pub TellsOf : List (ℕ × Shape) → (Block → ℕ → Bool) → (ℕ → Bool) → Type 0
TellsOf rows m has =
    (id : ℕ) → has id ≡ true
    → (s : Shape) × ((shape_at rows id ≡ Some s) × ((b : Block) → IsBlock b → IsTrue (m b id) ↔ IsMeeting (figure.Shape s) (figure.Rect (square_of b))))

-- A command is open, the shape lies in the plane, and the entries are a tree on pages of their own; rows can be read, on live pages of theirs.
pub record IsReadyOn (s : Shape) (Stands : PageMap → Type 0) (Owns : PageMap → ℕ → Type 0) (t : Tree) (p : PoolState) : Type 0 where
  pub opened : IsOpen p
  pub shape : IsShapeInPlane s
  pub tree : IsTold p → IsTree (pages_in p) t
  pub stands : IsTold p → Stands p.pages
  pub apart : IsTold p → (n : ℕ) → Owns p.pages n → IsLive p n × (times n (tree_pages (pages_in p) t) ≡ 0)

-- What leads from one tree and its pages to another: within the command, with the cause of a refusal. Where none came, all is ready still,
-- the rows are the same, and what had touched only these pages did so still.
pub record LeadsOn (rows : PageMap → List (ℕ × Shape)) (s : Shape) (Stands : PageMap → Type 0) (Owns : PageMap → ℕ → Type 0) (t : Tree) (p : PoolState) (u : Tree)
    (q : PoolState) (end : Option PmrFault) : Type 0 where
  pub within : InCommand p q
  pub cause : HasPageCause p q (of_end end)
  pub not_full : IsNotFull end
  pub ready : end ≡ None → IsReadyOn s Stands Owns t p → IsReadyOn s Stands Owns u q
  pub same : end ≡ None → IsTold p → IsReadyOn s Stands Owns t p → rows q.pages ≡ rows p.pages
  pub keeps : end ≡ None → IsTold p → IsReadyOn s Stands Owns t p → (m : Store) (before : List ℕ) → Keeps m (pages_in p) before (tree_pages (pages_in p) t)
      → Keeps m (pages_in q) before (tree_pages (pages_in q) u)

-- no call at all
pub LeadsOn-still : (rows : PageMap → List (ℕ × Shape)) (s : Shape) (Stands : PageMap → Type 0) (Owns : PageMap → ℕ → Type 0) (t : Tree) (p : PoolState) → LeadsOn rows s Stands Owns t p t p None
LeadsOn-still rows s Stands Owns t p = record {
  within = InCommand-refl p;
  cause = HasPageCause-done p p tt refl;
  not_full = tt;
  ready = λ e h. h;
  same = λ e k h. refl;
  keeps = λ e k h m before keep. keep;
}

-- memory is refused
pub LeadsOn-spent : (rows : PageMap → List (ℕ × Shape)) (s : Shape) (Stands : PageMap → Type 0) (Owns : PageMap → ℕ → Type 0) (t : Tree) (p : PoolState)
    → LeadsOn rows s Stands Owns t p t p (Some Memory)
LeadsOn-spent rows s Stands Owns t p = record {
  within = InCommand-refl p;
  cause = HasPageCause-memory p p refl;
  not_full = tt;
  ready = λ e h. h;
  same = λ e k h. refl;
  keeps = λ e k h m before keep. keep;
}

-- one call after another
pub LeadsOn-onward : (rows : PageMap → List (ℕ × Shape)) (s : Shape) (Stands : PageMap → Type 0) (Owns : PageMap → ℕ → Type 0) (t : Tree) (p : PoolState) (u : Tree)
    (q : PoolState) (v : Tree) (r : PoolState) (end : Option PmrFault)
    → LeadsOn rows s Stands Owns t p u q None → LeadsOn rows s Stands Owns u q v r end → LeadsOn rows s Stands Owns t p v r end
LeadsOn-onward rows s Stands Owns t p u q v r end h k = record {
  within = InCommand-trans p q r h.within k.within;
  cause = HasPageCause-before p q r (of_end end) h.cause.counted k.cause;
  not_full = k.not_full;
  ready = λ e ready. k.ready e (h.ready refl ready);
  same = λ e known ready. k.same e (h.within.told ∙ known) (h.ready refl ready) ∙ h.same refl known ready;
  keeps = λ e known ready m before keep. k.keeps e (h.within.told ∙ known) (h.ready refl ready) m before (h.keeps refl known ready m before keep);
}

-- the same by other names of the rows and the shape
pub LeadsOn-from : {S Z : Type 0} (rows : S → PageMap → List (ℕ × Shape)) (shape : Z → Shape) (Stands : S → PageMap → Type 0) (Owns : S → PageMap → ℕ → Type 0) (s0 s1 : S) (z0 z1 : Z)
    (t : Tree) (p : PoolState) (u : Tree) (q : PoolState) (end : Option PmrFault) → s1 ≡ s0 → z1 ≡ z0
    → LeadsOn (rows s1) (shape z1) (Stands s1) (Owns s1) t p u q end → LeadsOn (rows s0) (shape z0) (Stands s0) (Owns s0) t p u q end
LeadsOn-from rows shape Stands Owns s0 s1 z0 z1 t p u q end e f h =
    subst (λ s. LeadsOn (rows s) (shape z0) (Stands s) (Owns s) t p u q end) e (subst (λ z. LeadsOn (rows s1) (shape z) (Stands s1) (Owns s1) t p u q end) f h)

-- what is ready for one value is ready for an equal one
pub IsReadyOn-from : {S Z : Type 0} (shape : Z → Shape) (Stands : S → PageMap → Type 0) (Owns : S → PageMap → ℕ → Type 0) (s0 s1 : S) (z0 z1 : Z) (t : Tree) (p : PoolState) → s1 ≡ s0 → z1 ≡ z0
    → IsReadyOn (shape z0) (Stands s0) (Owns s0) t p → IsReadyOn (shape z1) (Stands s1) (Owns s1) t p
IsReadyOn-from shape Stands Owns s0 s1 z0 z1 t p e f h =
    subst (λ s. IsReadyOn (shape z1) (Stands s) (Owns s) t p) (sym e) (subst (λ z. IsReadyOn (shape z) (Stands s0) (Owns s0) t p) (sym f) h)

-- what tells of rows tells of the same rows
pub TellsOf-from : (id0 id1 : ℕ) (z0 z1 : Shape) (rows0 rows1 : List (ℕ × Shape)) (m : Block → ℕ → Bool) (has : ℕ → Bool) → id1 ≡ id0 → z1 ≡ z0 → rows1 ≡ rows0
    → TellsOf ((id0, z0) ∷ rows0) m has → TellsOf ((id1, z1) ∷ rows1) m has
TellsOf-from id0 id1 z0 z1 rows0 rows1 m has e f g h =
    subst (λ i. TellsOf ((i, z1) ∷ rows1) m has) (sym e) (subst (λ z. TellsOf ((id0, z) ∷ rows1) m has) (sym f) (subst (λ r. TellsOf ((id0, z0) ∷ r) m has) (sym g) h))
