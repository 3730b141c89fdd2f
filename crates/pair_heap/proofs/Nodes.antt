-- What a node's slot holds, as the steps of the walks take it: the struct of a pointer, an item, and a node of both. Assumes `Logic`.
use Rattle.std.proofs.Common.{◌≡◌, ℕ, zero, suc, ◌+◌, List, [], ◌∷◌, ◌++◌, refl, ap, subst, ◌∙◌, lit<}
use lib.Dec.{T}
use prog.Model.{rooms_of}
use mir.Raw.{raw as bare}
use seplogic.Ra.Ura.{Ura}
use mir.Syntax.{ty_ptr, impl, tcons, tnil, dnil}
use mir.Val.{Val, vstruct, vcons, vnil, of_list, has_ty, has_tys, WT}
use base.Logic.{ent, sep, wand, emp, via, apply∗, guard_i, id⊢}
use base.Fml.{Fml, fsep, fwand, fat, froom}
use base.Fraction.{full_share}
use types.Logic.{Logic, sem}
use types.Kit.{Item, Goal, Seq, Step, step, ‵, raw, ◌⊛◌, some, given, frame, assume, join, ◌$◌, ◌∵◌, !, qed, done, learn, move, drop, pick, split, fsplit, fjoin, fpick}
use types.Kit.{fpack, use0, use1, use2, feq_l, feq_i, rewrite}
use denote.RattleType.{RattleType, Valss}
use denote.Builtin.{RawPtr}
use denote.Laws.{Is, shows}
use denote.Memory.{part_at}
use contract.Monad.{fact_use}
use denote.RawPtr.{Ptr, block_ptr, null_ptr, ptr_val, Testable, lies_at, in_a_block}
use denote.Opens.{Opens}
use denote.Copied.{Struct-Copied}
use denote.Struct.Laws.{RawPtr-copy}
use denote.Struct.Owning.{shape}
use denote.Steps.{nothing, only, peeks}
use denote.Param.{param, layout}
use denote.Param.Laws.{Laws, param_laws}
use denote.Shadow.{shadow, makes_shadow}
use denote.Struct.Struct.{Struct, within, as_fields}
use denote.Struct.Declared as Declared
use denote.Struct.Tuple.{Tuple, tuple_type}
use borrow.Table.OneValue.{part_in, part_out}
use Rattle.core.proofs.alloc.Calls.{Al}
use Rattle.core.proofs.cell.Inside.{Good, one}
use Rattle.std.specs.contracts.alloc.Global as heap
use Rattle.std.proofs.alloc.Global.TheLaws as heap_laws
use Rattle.std.specs.contracts.impls.GlobalAllocator.TheImpl.{ghosts}
use Rattle.std_alloc.specs.contracts.room.vacant.Vacant as vacant
use Rattle.std.proofs.GlobalToken.{dealloc_token_start, dealloc_token-Testable}
use Rattle.pair_heap.specs.Chain.{Chain, end, link}
use Rattle.pair_heap.specs.Ownership.{heap as handle, chain_owns, tree_owns}
use Rattle.pair_heap.specs.contracts.node.Node as node
use Rattle.pair_heap.specs.contracts.slab.Slab as slab
use Rattle.pair_heap.specs.contracts.slot.Slot as slot
use Rattle.pair_heap.specs.contracts.tree.Tree as tree

-- the handle that the blocks go back to
abbrev pub al : Al
al = record { row = heap.the_row; laws = heap_laws.the_row_laws; g = ghosts; d = impl [] tnil dnil; drops = impl [] tnil dnil }

-- the machine value of a struct that is one pointer
abbrev pub word : Ptr → Val
word p = vstruct (vcons (ptr_val p) vnil)

abbrev pub word_own : Ptr → List Val → Fml
word_own p = (Struct (record { name = []; args = []; types = []; fields = RawPtr ∷ [] })).own_val (p, tt)

pub word_told : (p : Ptr) (vs : List Val) → shadow (word_own p vs) → vs ≡ word p ∷ []
word_told p vs s = s.1.0 ∙ (λ i. vstruct (of_list (s.1.1.0 i ++ [])) ∷ [])

pub word_made : {M : Type 1} {𝓤 : Ura M} (𝓛 : Logic 𝓤) (p : Ptr) → ent 𝓤 (emp 𝓤) (sem 𝓛 (word_own p (word p ∷ [])))
word_made 𝓛 p = makes_shadow 𝓛 (word_own p (word p ∷ [])) (λ _. (tt, (tt, tt))) ((ptr_val p ∷ [], tt), (refl, (refl, tt)))

pub ptr_typed : (p : Ptr) → T (has_ty ty_ptr (ptr_val p)) × WT (ptr_val p)
ptr_typed (block_ptr b o) = (tt, tt)
ptr_typed null_ptr = (tt, record { fits = lit< tt })

pub word_typed : (p : Ptr) → T (has_tys (tcons ty_ptr tnil) (vcons (ptr_val p) vnil)) × WT (word p)
word_typed p = as_fields (ty_ptr ∷ []) (ptr_val p ∷ []) (ptr_typed p, tt)

abbrev pub three_val : Val → Val → Val → Val
three_val s t u = vstruct (vcons s (vcons t (vcons u vnil)))

-- a tuple is made of its three values
pub three_of : {M : Type 1} {𝓤 : Ura M} (𝓛 : Logic 𝓤) (A B C : RattleType) (x : A.Denot) (y : B.Denot) (z : C.Denot) (s t u : Val)
    → ent 𝓤 (sep 𝓤 (sem 𝓛 (A.own_val x (s ∷ []))) (sep 𝓤 (sem 𝓛 (B.own_val y (t ∷ []))) (sem 𝓛 (C.own_val z (u ∷ [])))))
    (sem 𝓛 ((Tuple (A ∷ B ∷ C ∷ [])).own_val (x, y, z) (three_val s t u ∷ [])))
three_of 𝓛 A B C x y z s t u =
    qed 𝓛 (‵ (A.own_val x (s ∷ [])) ∷ ‵ (B.own_val y (t ∷ [])) ∷ ‵ (C.own_val z (u ∷ [])) ∷ []) ∵ nothing ! $
    move ! (3 ∷ 0 ∷ []) $ fjoin ! $ move ! (2 ∷ 0 ∷ []) $ fjoin ! $ move ! (1 ∷ 0 ∷ []) $ fjoin ! $
    feq_i ! (List Val) (three_val s t u ∷ []) (three_val s t u ∷ []) refl $ fjoin ! $
    fpack ! (Valss (A ∷ B ∷ C ∷ [])) (within (Declared.shape (tuple_type (A ∷ B ∷ C ∷ []))) (x, (y, (z, tt))) (three_val s t u ∷ [])) (s ∷ [], (t ∷ [], (u ∷ [], tt))) $ done !

-- the cases of a chain, as a step of a walk
module _ {M : Type 1} {𝓤 : Ura M} {𝓛 : Logic 𝓤} {K : Type 0} {Γ : List (Item 𝓤)} {G : Goal 𝓤 𝓛.H} where
  pub by_chain : {X : Type 0} (c : Chain X) → (c ≡ end → Seq K 𝓛 Γ G) → ((p : Ptr) (x : X) (kids rest : Chain X) → c ≡ link p x kids rest → Seq K 𝓛 Γ G) → Seq K 𝓛 Γ G
  by_chain end e l = e refl
  by_chain (link p x kids rest) e l = l p x kids rest refl

-- the cases of a list
module _ {M : Type 1} {𝓤 : Ura M} {𝓛 : Logic 𝓤} {K : Type 0} {Γ : List (Item 𝓤)} {G : Goal 𝓤 𝓛.H} where
  pub by_list : {X : Type 0} (xs : List X) → (xs ≡ [] → Seq K 𝓛 Γ G) → ((y : X) (ys : List X) → xs ≡ y ∷ ys → Seq K 𝓛 Γ G) → Seq K 𝓛 Γ G
  by_list [] e l = e refl
  by_list (y ∷ ys) e l = l y ys refl

-- the cases of a number
module _ {M : Type 1} {𝓤 : Ura M} {𝓛 : Logic 𝓤} {K : Type 0} {Γ : List (Item 𝓤)} {G : Goal 𝓤 𝓛.H} where
  pub by_count : (n : ℕ) → (n ≡ zero → Seq K 𝓛 Γ G) → ((m : ℕ) → n ≡ suc m → Seq K 𝓛 Γ G) → Seq K 𝓛 Γ G
  by_count zero e l = e refl
  by_count (suc m) e l = l m refl

module _ (U : RattleType) (L : Laws U) where
  abbrev pub R : RattleType
  R = param 0 U

  abbrev pub N : RattleType
  N = node.the_row R

  abbrev pub S : RattleType
  S = slab.the_row R

  -- a slot for a node
  abbrev pub SlotOf : RattleType
  SlotOf = slot.the_row R

  -- a tree in hand
  abbrev pub TreeOf : RattleType
  TreeOf = tree.the_row R

  -- its one field
  abbrev pub TreeField : RattleType
  TreeField = Struct (shape (tree.the_type R))

  pub tree_told : (p : Ptr) (vs : List Val) → Is TreeField (p, tt) vs → vs ≡ word p ∷ []
  tree_told p vs is = is.1.0 ∙ ap (λ (ws : List Val). vstruct (of_list (ws ++ [])) ∷ []) is.1.1.0

  pub tree_opened : {M : Type 1} {𝓤 : Ura M} (𝓛 : Logic 𝓤) → Opens 𝓛 TreeField
  tree_opened {M} {𝓤 = 𝓤} 𝓛 = (Struct-Copied 𝓛 (shape (tree.the_type R)) (refl, tt) (RawPtr-copy.copied M 𝓤 𝓛, tt)).opens

  -- a block for a slab
  abbrev pub Room : RattleType
  Room = vacant.the_row S heap.the_row ghosts

  abbrev pub node_val : Ptr → Ptr → Val → Val
  node_val c n v = vstruct (vcons (ptr_val c) (vcons (ptr_val n) (vcons v vnil)))

  abbrev pub node_with : Ptr → Ptr → R.Denot → N.Denot
  node_with c n x = record { child = c; next = n; item = x }

  module _ {M : Type 1} {𝓤 : Ura M} {𝓛 : Logic 𝓤} {K : Type 0} {Γ : List (Item 𝓤)} {G : Goal 𝓤 𝓛.H} where
    -- what is owned of an item is one machine value, of its type
    pub tells : K → (x : R.Denot) (vs : List Val) → ((v : Val) → vs ≡ v ∷ [] → Good (layout R) v → Seq K 𝓛 (‵ (R.own_val x (v ∷ [])) ∷ Γ) G) → Seq K 𝓛 (‵ (R.own_val x vs) ∷ Γ) G
    tells t x vs k = peeks t R (Is R) (shows 𝓛 R) x vs (λ i. let g = one (layout R) vs (((param_laws 0 U L).lawful 𝓛).typed x vs i) in
        rewrite t 0 (λ (ws : List Val). ‵ (R.own_val x ws)) g.1 refl $ k g.0 g.1 g.2)

  module _ {M : Type 1} {𝓤 : Ura M} {𝓛 : Logic 𝓤} {K : Type 0} {Γ : List (Item 𝓤)} {G : Goal 𝓤 𝓛.H} where
    -- a node at its place is the struct's cell and what the item owns
    pub node_out : K → (n : N.Denot) (b o : ℕ)
        → ((v : Val) → Good (layout R) v → Seq K 𝓛 (‵ (fat full_share (layout N) b o (node_val n.child n.next v)) ∷ ‵ (R.own_val n.item (v ∷ [])) ∷ Γ) G)
        → Seq K 𝓛 (‵ (part_at N full_share n b o) ∷ Γ) G
    node_out t n b o k =
        use1 𝓛 (some (λ (w : Val). ‵ (fat full_share (layout N) b o w) ⊛ ‵ (N.own_val n (w ∷ [])))) (part_out 𝓛 N refl full_share n b o) $ pick t (λ w. split t $ move t (1 ∷ []) $
        fpick t (λ vss. fsplit t $ feq_l t (λ ev. fsplit t $ feq_l t (λ e0. fsplit t $ feq_l t (λ e1. fsplit t $ move t (1 ∷ []) $ drop t $ tells t n.item vss.1.1.0 (λ v e2 good. move t (1 ∷ []) $
        rewrite t 0 (λ (u : Val). ‵ (fat full_share (layout N) b o u)) (ap only (ev ∙ (λ i. vstruct (of_list (e0 i ++ (e1 i ++ (e2 i ++ [])))) ∷ []))) refl $ k v good))))))

    -- and back
    pub node_in : K → (c n : Ptr) (x : R.Denot) (v : Val) (b o : ℕ)
        → Step K 𝓛 (‵ (part_at N full_share (node_with c n x) b o) ∷ Γ) G (‵ (fat full_share (layout N) b o (node_val c n v)) ∷ ‵ (R.own_val x (v ∷ [])) ∷ Γ) G
    node_in t c n x v b o = step (λ s. let w : Val = node_val c n v in nothing t $ move t (2 ∷ 0 ∷ []) $ fjoin t $ feq_i t (List Val) (ptr_val n ∷ []) (ptr_val n ∷ []) refl $ fjoin t $
        feq_i t (List Val) (ptr_val c ∷ []) (ptr_val c ∷ []) refl $ fjoin t $ feq_i t (List Val) (w ∷ []) (w ∷ []) refl $ fjoin t $
        fpack t (Valss (RawPtr ∷ RawPtr ∷ R ∷ [])) (within (Declared.shape (node.the_type R)) (c, (n, (x, tt))) (w ∷ [])) (ptr_val c ∷ [], (ptr_val n ∷ [], (v ∷ [], tt))) $
        move t (1 ∷ 0 ∷ []) $ use2 𝓛 (‵ (part_at N full_share (node_with c n x) b o)) (part_in 𝓛 N refl full_share (node_with c n x) b o w) $ s)

  module _ {M : Type 1} {𝓤 : Ura M} {𝓛 : Logic 𝓤} {K : Type 0} {Γ : List (Item 𝓤)} {G : Goal 𝓤 𝓛.H} where
    -- the right to free a block tells that its place may be compared with null
    pub token_tested : K → (p : Ptr) → (Testable p → Seq K 𝓛 (‵ (ghosts.dealloc_token handle (bare (layout S)) p) ∷ Γ) G) → Seq K 𝓛 (‵ (ghosts.dealloc_token handle (bare (layout S)) p) ∷ Γ) G
    token_tested t p k = let T = ghosts.dealloc_token handle (bare (layout S)) p in
        use1 𝓛 (given (Testable p) (‵ T)) (fact_use 𝓤 (Testable p) (dealloc_token-Testable 𝓛 handle (bare (layout S)) p) (guard_i 𝓤 (Testable p) (sem 𝓛 T))) $ learn t k

    -- and that its place is the start of its block
    pub token_start : K → (b o : ℕ) → (o ≡ zero → Seq K 𝓛 (‵ (ghosts.dealloc_token handle (bare (layout S)) (block_ptr b o)) ∷ Γ) G)
        → Seq K 𝓛 (‵ (ghosts.dealloc_token handle (bare (layout S)) (block_ptr b o)) ∷ Γ) G
    token_start t b o k = let T = ghosts.dealloc_token handle (bare (layout S)) (block_ptr b o) in
        use1 𝓛 (given (o ≡ zero) (‵ T)) (fact_use 𝓤 (o ≡ zero) (dealloc_token_start 𝓛 handle (bare (layout S)) (block_ptr b o)) (guard_i 𝓤 (o ≡ zero) (sem 𝓛 T))) $ learn t k

    -- a node's cell is room for another
    pub emptied : K → (b o : ℕ) (w : Val) → Step K 𝓛 (‵ (froom (bare (layout N)) b o) ∷ Γ) G (‵ (fat full_share (layout N) b o w) ∷ Γ) G
    emptied t b o w = step (λ s. use1 𝓛 (‵ (froom (bare (layout N)) b o)) (via 𝓤 (𝓛.H.room (layout N) b o) (𝓛.laws.at_room (layout N) b o w) (𝓛.laws.room-raw (layout N) b o)) $ s)

    -- a slot at this place
    pub slotted : K → (b o : ℕ) → Testable (block_ptr b o) → Step K 𝓛 (‵ (SlotOf.own_val (record { ptr = block_ptr b o }) (word (block_ptr b o) ∷ [])) ∷ Γ) G (‵ (froom (bare (layout N)) b o) ∷ Γ) G
    slotted t b o test = step (λ s. fpack t (Testable (block_ptr b o)) (λ _. froom (bare (layout N)) b o) test $ use0 𝓛
        (‵ (word_own (block_ptr b o) (word (block_ptr b o) ∷ []))) (word_made 𝓛 (block_ptr b o)) $ fjoin t $ s)

    -- the struct of one pointer, beside what stands behind it
    pub worded : K → (p : Ptr) (F : Fml) → Step K 𝓛 (‵ (fsep (word_own p (word p ∷ [])) F) ∷ Γ) G (‵ F ∷ Γ) G
    worded t p F = step (λ s. use0 𝓛 (‵ (word_own p (word p ∷ []))) (word_made 𝓛 p) $ fjoin t $ s)

  module _ {M : Type 1} {𝓤 : Ura M} {𝓛 : Logic 𝓤} {K : Type 0} {Γ : List (Item 𝓤)} {G : Goal 𝓤 𝓛.H} where
    -- a tree in hand is made of its root's node and its children
    pub treed : K → (c n : Ptr) (x : R.Denot) (v : Val) (kids : Chain R.Denot) (b o : ℕ) → Testable (block_ptr b o)
        → Step K 𝓛 (‵ (TreeOf.own_val (record { ptr = block_ptr b o; item = x; kids = kids; links = (c, n) }) (word (block_ptr b o) ∷ [])) ∷ Γ) G
        (‵ (fat full_share (layout N) b o (node_val c n v)) ∷ ‵ (R.own_val x (v ∷ [])) ∷ ‵ (chain_owns R kids c) ∷ Γ) G
    treed t c n x v kids b o test = step (λ s. node_in t c n x v b o $ move t (1 ∷ []) $ fpack t (Testable (block_ptr b o)) (λ _. chain_owns R kids c) test $
        move t (1 ∷ 0 ∷ []) $ fjoin t $ worded t (block_ptr b o) (tree_owns R (c, n) x kids (block_ptr b o)) $ s)

    -- and taken apart
    pub tree_out : K → (links : Ptr × Ptr) (x : R.Denot) (kids : Chain R.Denot) (p : Ptr)
        → ((b o : ℕ) → p ≡ block_ptr b o → Testable (block_ptr b o) → (v : Val) → Good (layout R) v
        → Seq K 𝓛 (‵ (fat full_share (layout N) b o (node_val links.0 links.1 v)) ∷ ‵ (R.own_val x (v ∷ [])) ∷ ‵ (chain_owns R kids links.0) ∷ Γ) G)
        → Seq K 𝓛 (‵ (tree_owns R links x kids p) ∷ Γ) G
    tree_out t links x kids p k = fsplit t $ in_a_block t p (λ r. lies_at N full_share r (node_with links.0 links.1 x)) (id⊢ 𝓤 _)
        (λ b o at_block. node_out t (node_with links.0 links.1 x) b o (λ v good.
        move t (2 ∷ []) $ fpick t (λ may. move t (1 ∷ 2 ∷ 0 ∷ []) $ k b o at_block (subst Testable at_block may) v good)))

  pub node_typed : (c n : Ptr) (v : Val) → Good (layout R) v → Good (layout N) (node_val c n v)
  node_typed c n v good = as_fields (ty_ptr ∷ ty_ptr ∷ layout R ∷ []) (ptr_val c ∷ ptr_val n ∷ v ∷ []) (ptr_typed c, (ptr_typed n, (good, tt)))

-- the first word of a slot
module _ (U : RattleType) (L : Laws U) (b o : ℕ) where
  -- the word, and what makes the slot room again once the word is given back
  abbrev pub back : Fml
  back = fwand (froom ty_ptr b (o + 0)) (froom (bare (layout (N U L))) b o)

  pub word_cut : {M : Type 1} {𝓤 : Ura M} (𝓛 : Logic 𝓤) → ent 𝓤 (sem 𝓛 (froom (bare (layout (N U L))) b o)) (sep 𝓤 (sem 𝓛 (froom ty_ptr b (o + 0))) (sem 𝓛 back))
  word_cut {𝓤 = 𝓤} 𝓛 =
      let Ts = tcons ty_ptr (tcons ty_ptr (tcons (bare (layout (R U L))) tnil)) in let Others = rooms_of 𝓤 𝓛.H.room (tcons ty_ptr (tcons (bare (layout (R U L))) tnil)) 8 b o in
      let Word = 𝓛.H.room ty_ptr b (o + 0) in
      qed 𝓛 (‵ (froom (bare (layout (N U L))) b o) ∷ []) ∵
      use1 𝓛 ((‵ (froom ty_ptr b (o + 0)) ⊛ raw Others) ⊛ raw (wand 𝓤 (sep 𝓤 Word Others) (𝓛.H.room (bare (layout (N U L))) b o))) (𝓛.laws.room_fields [] Ts b o) $ split ! $ split ! $ frame ! $
      assume ! (‵ (froom ty_ptr b (o + 0))) $ join ! $ use2 𝓛 (‵ (froom (bare (layout (N U L))) b o)) (apply∗ 𝓤 (sep 𝓤 Word Others) (𝓛.H.room (bare (layout (N U L))) b o)) $ done !

  module _ {M : Type 1} {𝓤 : Ura M} {𝓛 : Logic 𝓤} {K : Type 0} {Γ : List (Item 𝓤)} {G : Goal 𝓤 𝓛.H} where
    -- the word's cell goes back, whatever it holds
    pub word_glued : K → (v : Val) → Step K 𝓛 (‵ (froom (bare (layout (N U L))) b o) ∷ Γ) G (‵ (fat full_share ty_ptr b (o + 0) v) ∷ ‵ back ∷ Γ) G
    word_glued t v = step (λ s. use1 𝓛 (‵ (froom ty_ptr b (o + 0))) (𝓛.laws.at_room ty_ptr b (o + 0) v) $
        use2 𝓛 (‵ (froom (bare (layout (N U L))) b o)) (apply∗ 𝓤 (𝓛.H.room ty_ptr b (o + 0)) (𝓛.H.room (bare (layout (N U L))) b o)) $ s)
