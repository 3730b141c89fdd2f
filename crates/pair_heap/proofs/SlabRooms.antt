-- A slab's block is its first word and its slots, and is whole again once they are back. Assumes `Logic`.
use Rattle.std.proofs.Common.{◌≡◌, ℕ, zero, suc, ◌+◌, ◌*◌, ◌^◌, ◌<◌, ◌≤◌, List, [], ◌∷◌, ◌++◌, length, refl, ap, sym, subst, ◌∙◌, arith, IsPermutation}
use prog.Memory.{size, align, up, pad, aligns}
use prog.RawLaws.{size-raw, align-raw}
use mir.Raw.{raw as bare}
use seplogic.Ra.Ura.{Ura}
use mir.Syntax.{Ty, ty_ptr, ty_array, tcons, tnil}
use mir.Val.{Val}
use base.Logic.{SProp, ent, sep, wand, wand_i, emp, via, apply∗, id⊢}
use base.Fml.{Fml, ftrue, fsep, fwand, fat, froom}
use base.Fraction.{full_share}
use types.Logic.{Logic, sem}
use types.Kit.{Item, Goal, Step, step, ‵, raw, ◌⊛◌, ◌$◌, ◌∵◌, !, qed, done, by, frame, assume, join, move, drop, split, split3, fsplit, fsplit3, fjoin, fpick, fpack, use0, use1, use2, rewrite}
use denote.RattleType.{RattleType}
use denote.RawPtr.{Ptr, block_ptr, ptr_val, Testable, lies_at, in_a_block}
use denote.Param.{layout}
use denote.Param.Laws.{Laws}
use denote.Steps.{nothing}
use Rattle.std.specs.Prelude.{slice_set, slice_index_or}
use Rattle.core.specs.List.{swap}
use Rattle.core.specs.List.Sorted.{apply_swaps, SwapsInRange}
use Rattle.std.proofs.lemmas.List.Sorted.{length_permutation}
use Rattle.std.specs.contracts.impls.GlobalAllocator.TheImpl.{ghosts}
use Rattle.pair_heap.specs.Chain.{Chain, end, link, chain_places}
use Rattle.pair_heap.specs.Ownership.{heap, chain_owns}
use Rattle.pair_heap.specs.Slab.{SlabFits, all_slots, slab_at, slabs_own, block_at, blocks_own}
use Rattle.pair_heap.specs.Slot.{slot_owns, slots_own, fresh_own}
use Rattle.pair_heap.specs.Spare.{spare_at, spares_own}
use Rattle.pair_heap.proofs.Nodes.{R, N, S, word_glued, node_with, node_val, node_out, emptied}

module _ (U : RattleType) (L : Laws U) where
  abbrev node : Ty
  node = bare (layout (N U L))

  -- n places side by side, from x on
  abbrev pub run : ℕ → ℕ → ℕ → List Ptr
  run zero b x = []
  run (suc n) b x = block_ptr b x ∷ run n b (x + size node)

  pub length_run : (n b x : ℕ) → length (run n b x) ≡ n
  length_run zero b x = refl
  length_run (suc n) b x = ap suc (length_run n b (x + size node))

  module _ {M : Type 1} {𝓤 : Ura M} (𝓛 : Logic 𝓤) where
    -- room for n nodes is n slots
    pub opened : (n b x : ℕ) → x + n * size node < 2 ^ 63 → size node < 2 ^ 63 → ent 𝓤 (sem 𝓛 (froom (ty_array node n) b x)) (sem 𝓛 (fresh_own (R U L) (run n b x) (block_ptr b x)))
    opened zero b x fits small = qed 𝓛 (‵ (froom (ty_array node zero) b x) ∷ []) ∵ drop ! $ nothing ! $ done !
    opened (suc n) b x fits small =
        let here : x < 2 ^ 63 = omega arith in let later : x + size node + n * size node < 2 ^ 63 = omega arith in let next : ℕ = x + size node in
        qed 𝓛 (‵ (froom (ty_array node (suc n)) b x) ∷ []) ∵
        use1 𝓛 (‵ (froom node b x) ⊛ ‵ (froom (ty_array node n) b next)) (𝓛.laws.room_uncons node n b x) $ split ! $
        fpack ! (Testable (block_ptr b x)) (λ _. froom node b x) here $ move ! (1 ∷ []) $
        use1 𝓛 (‵ (fresh_own (R U L) (run n b next) (block_ptr b next))) (opened n b next later small) $ move ! (1 ∷ 0 ∷ []) $ fjoin ! $
        fpack ! ((block_ptr b x ≡ block_ptr b x) × (size node < 2 ^ 63)) (λ _. fsep (slot_owns (R U L) (block_ptr b x)) (fresh_own (R U L) (run n b next) (block_ptr b next))) (refl, small) $ done !

    -- and back
    pub closed : (n b x : ℕ) → ent 𝓤 (sem 𝓛 (slots_own (R U L) (run n b x))) (sem 𝓛 (froom (ty_array node n) b x))
    closed zero b x = qed 𝓛 (‵ ftrue ∷ []) ∵ drop ! $ use0 𝓛 (‵ (froom (ty_array node zero) b x)) (𝓛.laws.room_nil node b x) $ done !
    closed (suc n) b x =
        let next : ℕ = x + size node in
        qed 𝓛 (‵ (slots_own (R U L) (run (suc n) b x)) ∷ []) ∵ fsplit ! $ fpick ! (λ _. move ! (1 ∷ []) $ use1 𝓛 (‵ (froom (ty_array node n) b next)) (closed n b next) $ move ! (1 ∷ 0 ∷ []) $
        use2 𝓛 (‵ (froom (ty_array node (suc n)) b x)) (𝓛.laws.room_cons node n b x) $ done !)

  up_more : (k e : ℕ) → e ≤ up k e
  up_more k e = let p : ℕ = pad k e in let more : e ≤ e + p = omega arith in more

  -- where a slab's slots begin
  abbrev pub first_slot : ℕ
  first_slot = up (align node) 8

  abbrev slab : Ty
  slab = bare (layout (S U L))

  pub first_is : first_slot ≡ up (align (layout (N U L))) 8
  first_is = ap (λ a. up a 8) (align-raw (layout (N U L)))

  -- a slab that fits in a block has slots that do
  pub slots_fit : size (layout (S U L)) < 2 ^ 63 → (first_slot + 64 * size node < 2 ^ 63) × (size node < 2 ^ 63)
  slots_fit small =
      let raw_size = size-raw (layout (N U L)) in let ends : ℕ = up (align (layout (N U L))) 8 + 64 * size (layout (N U L)) in
      let more : ends ≤ size (layout (S U L)) = up_more (aligns (tcons ty_ptr (tcons (ty_array (layout (N U L)) 64) tnil))) ends in
      (omega (arith, raw_size, first_is, more, small), omega (arith, raw_size, more, small))

  module _ (b o : ℕ) where
    -- the first word and the slots, and the way back
    abbrev pub slab_whole : Fml
    slab_whole = fwand (fsep (froom ty_ptr b (o + 0)) (slots_own (R U L) (run 64 b (o + first_slot)))) (froom slab b o)

    pub slab_cut : {M : Type 1} {𝓤 : Ura M} (𝓛 : Logic 𝓤) → o + first_slot + 64 * size node < 2 ^ 63 → size node < 2 ^ 63
        → ent 𝓤 (sem 𝓛 (froom slab b o)) (sep 𝓤 (sem 𝓛 (froom ty_ptr b (o + 0))) (sep 𝓤 (sem 𝓛 (fresh_own (R U L) (run 64 b (o + first_slot)) (block_ptr b (o + first_slot)))) (sem 𝓛 slab_whole)))
    slab_cut {𝓤 = 𝓤} 𝓛 fits small =
        let Word = 𝓛.H.room ty_ptr b (o + 0) in let Array = 𝓛.H.room (ty_array node 64) b (o + first_slot) in let Rooms : SProp 𝓤 = sep 𝓤 Word (sep 𝓤 Array (emp 𝓤)) in
        qed 𝓛 (‵ (froom slab b o) ∷ []) ∵
        use1 𝓛 ((‵ (froom ty_ptr b (o + 0)) ⊛ ‵ (froom (ty_array node 64) b (o + first_slot)) ⊛ ‵ ftrue) ⊛ raw (wand 𝓤 Rooms (𝓛.H.room slab b o)))
        (𝓛.laws.room_fields [] (tcons ty_ptr (tcons (ty_array node 64) tnil)) b o) $
        split ! $ split3 ! $ move ! (2 ∷ []) $ drop ! $ frame ! $
        use1 𝓛 (‵ (fresh_own (R U L) (run 64 b (o + first_slot)) (block_ptr b (o + first_slot)))) (opened 𝓛 64 b (o + first_slot) fits small) $ frame ! $
        assume ! (‵ (fsep (froom ty_ptr b (o + 0)) (slots_own (R U L) (run 64 b (o + first_slot))))) $ fsplit ! $ move ! (1 ∷ []) $
        use1 𝓛 (‵ (froom (ty_array node 64) b (o + first_slot))) (closed 𝓛 64 b (o + first_slot)) $ nothing ! $ move ! (1 ∷ 0 ∷ []) $ join ! $ move ! (1 ∷ 0 ∷ []) $ join ! $
        by ! (apply∗ 𝓤 Rooms (𝓛.H.room slab b o))

    -- what makes the block whole again once its first word is back
    abbrev pub slab_back : Fml
    slab_back = fwand (froom ty_ptr b (o + 0)) (froom slab b o)

    module _ {M : Type 1} {𝓤 : Ura M} {𝓛 : Logic 𝓤} {K : Type 0} {Γ : List (Item 𝓤)} {G : Goal 𝓤 𝓛.H} where
      -- the word's cell goes back, whatever it holds
      pub slab_word_glued : K → (v : Val) → Step K 𝓛 (‵ (froom slab b o) ∷ Γ) G (‵ (fat full_share ty_ptr b (o + 0) v) ∷ ‵ slab_back ∷ Γ) G
      slab_word_glued t v = step (λ s. use1 𝓛 (‵ (froom ty_ptr b (o + 0))) (𝓛.laws.at_room ty_ptr b (o + 0) v) $
          use2 𝓛 (‵ (froom slab b o)) (apply∗ 𝓤 (𝓛.H.room ty_ptr b (o + 0)) (𝓛.H.room slab b o)) $ s)

  -- a chain of spare slots is its slots
  module _ {M : Type 1} {𝓤 : Ura M} (𝓛 : Logic 𝓤) where
    pub unchained : (ps : List Ptr) (p : Ptr) → ent 𝓤 (sem 𝓛 (spares_own (R U L) ps p)) (sem 𝓛 (slots_own (R U L) ps))
    unchained [] p = qed 𝓛 (‵ (spares_own (R U L) [] p) ∷ []) ∵ drop ! $ nothing ! $ done !
    unchained (q ∷ qs) p =
        qed 𝓛 (‵ (spares_own (R U L) (q ∷ qs) p) ∷ []) ∵ fpick !
        (λ same. fpick ! (λ next. fsplit ! $ in_a_block ! p (λ r. spare_at (R U L) r next) (id⊢ 𝓤 _) (λ b o at_block. fpick ! (λ test. fsplit ! $
        word_glued U L b o ! _ $ fpack ! (Testable (block_ptr b o)) (λ _. froom node b o) test $ move ! (1 ∷ []) $ use1 𝓛 (‵ (slots_own (R U L) qs)) (unchained qs next) $ move ! (1 ∷ 0 ∷ []) $
        rewrite ! 0 (λ r. ‵ (slot_owns (R U L) r)) (sym (same ∙ at_block)) refl $ fjoin ! $ done !))))

  -- the same places in another order
  module _ {M : Type 1} {𝓤 : Ura M} (𝓛 : Logic 𝓤) where
    abbrev slot_at : Ptr → SProp 𝓤
    slot_at p = sem 𝓛 (slot_owns (R U L) p)

    abbrev slots_at : List Ptr → SProp 𝓤
    slots_at ps = sem 𝓛 (slots_own (R U L) ps)

    -- a slot takes the place of the one at i
    exchanged : (x d : Ptr) (ps : List Ptr) (i : ℕ) → i < length ps → ent 𝓤 (sep 𝓤 (slot_at x) (slots_at ps)) (sep 𝓤 (slot_at (slice_index_or ps i d)) (slots_at (slice_set ps i x)))
    exchanged x d [] i short = absurd (omega arith)
    exchanged x d (p ∷ ps) zero short =
        qed 𝓛 (‵ (slot_owns (R U L) x) ∷ ‵ (slots_own (R U L) (p ∷ ps)) ∷ []) ∵ move ! (1 ∷ []) $ fsplit ! $ move ! (2 ∷ 1 ∷ []) $ fjoin ! $ move ! (1 ∷ 0 ∷ []) $ join ! $ done !
    exchanged x d (p ∷ ps) (suc i) short =
        qed 𝓛 (‵ (slot_owns (R U L) x) ∷ ‵ (slots_own (R U L) (p ∷ ps)) ∷ []) ∵ move ! (1 ∷ []) $ fsplit ! $ move ! (2 ∷ 1 ∷ []) $
        use2 𝓛 (‵ (slot_owns (R U L) (slice_index_or ps i d)) ⊛ ‵ (slots_own (R U L) (slice_set ps i x))) (exchanged x d ps i (omega arith)) $ split ! $ move !
        (2 ∷ 1 ∷ []) $ fjoin ! $ move ! (1 ∷ 0 ∷ []) $ join ! $ done !

    -- two of them change places
    swapped : (d : Ptr) (ps : List Ptr) (i j : ℕ) → i < length ps → j < length ps → ent 𝓤 (slots_at ps) (slots_at (slice_set (slice_set ps i (slice_index_or ps j d)) j (slice_index_or ps i d)))
    swapped d [] i j short _ = absurd (omega arith)
    swapped d (p ∷ ps) zero zero _ _ = id⊢ 𝓤 _
    swapped d (p ∷ ps) zero (suc j) _ short =
        qed 𝓛 (‵ (slots_own (R U L) (p ∷ ps)) ∷ []) ∵ fsplit ! $ use2 𝓛 (‵ (slot_owns (R U L) (slice_index_or ps j d)) ⊛ ‵ (slots_own (R U L) (slice_set ps j p)))
        (exchanged p d ps j (omega arith)) $ split ! $ fjoin ! $ done !
    swapped d (p ∷ ps) (suc i) zero short _ =
        qed 𝓛 (‵ (slots_own (R U L) (p ∷ ps)) ∷ []) ∵ fsplit ! $ use2 𝓛 (‵ (slot_owns (R U L) (slice_index_or ps i d)) ⊛ ‵ (slots_own (R U L) (slice_set ps i p)))
        (exchanged p d ps i (omega arith)) $ split ! $ fjoin ! $ done !
    swapped d (p ∷ ps) (suc i) (suc j) short small =
        qed 𝓛 (‵ (slots_own (R U L) (p ∷ ps)) ∷ []) ∵ fsplit ! $ move ! (1 ∷ []) $
        use1 𝓛 (‵ (slots_own (R U L) (slice_set (slice_set ps i (slice_index_or ps j d)) j (slice_index_or ps i d))))
        (swapped d ps i j (omega arith) (omega arith)) $ move ! (1 ∷ 0 ∷ []) $ fjoin ! $ done !

    once_swapped : (ps : List Ptr) (i j : ℕ) → i < length ps → j < length ps → ent 𝓤 (slots_at ps) (slots_at (swap ps i j))
    once_swapped [] i j _ _ = id⊢ 𝓤 _
    once_swapped (d ∷ ps) i j short small = swapped d (d ∷ ps) i j short small

    swaps_done : (ps : List Ptr) (moves : List (ℕ × ℕ)) → SwapsInRange (length ps) moves → ent 𝓤 (slots_at ps) (slots_at (apply_swaps ps moves))
    swaps_done ps [] below = id⊢ 𝓤 _
    swaps_done ps (m ∷ moves) below =
        let long = length_permutation ps (apply_swaps ps moves) (record { moves = moves; below = below.2; is = refl }) in
        via 𝓤 (slots_at (apply_swaps ps moves)) (swaps_done ps moves below.2) (once_swapped (apply_swaps ps moves) m.0 m.1 (omega (arith, below.0)) (omega (arith, below.1)))

    pub rearranged : (ps qs : List Ptr) → IsPermutation ps qs → ent 𝓤 (slots_at ps) (slots_at qs)
    rearranged ps qs same = subst (λ l. ent 𝓤 (slots_at ps) (slots_at l)) (sym same.is) (swaps_done ps same.moves same.below)

    apart : (ps qs : List Ptr) → ent 𝓤 (slots_at (ps ++ qs)) (sep 𝓤 (slots_at ps) (slots_at qs))
    apart [] qs = qed 𝓛 (‵ (slots_own (R U L) qs) ∷ []) ∵ nothing ! $ join ! $ done !
    apart (p ∷ ps) qs =
        qed 𝓛 (‵ (slots_own (R U L) (p ∷ (ps ++ qs))) ∷ []) ∵ fsplit ! $ move ! (1 ∷ []) $ use1 𝓛 (‵ (slots_own (R U L) ps) ⊛ ‵ (slots_own (R U L) qs))
        (apart ps qs) $ split ! $ move ! (2 ∷ 0 ∷ []) $ fjoin ! $ join ! $ done !

    pub together : (ps qs : List Ptr) → ent 𝓤 (sep 𝓤 (slots_at ps) (slots_at qs)) (slots_at (ps ++ qs))
    together [] qs = qed 𝓛 (‵ (slots_own (R U L) []) ∷ ‵ (slots_own (R U L) qs) ∷ []) ∵ drop ! $ done !
    together (p ∷ ps) qs =
        qed 𝓛 (‵ (slots_own (R U L) (p ∷ ps)) ∷ ‵ (slots_own (R U L) qs) ∷ []) ∵ fsplit ! $ move ! (1 ∷ 2 ∷ []) $ use2 𝓛 (‵ (slots_own (R U L) (ps ++ qs)))
        (together ps qs) $ move ! (1 ∷ 0 ∷ []) $ fjoin ! $ done !

    -- a chain of trees is its nodes' slots, once their items are let go
    pub cleared : (c : Chain (R U L).Denot) (p : Ptr) → ent 𝓤 (sem 𝓛 (chain_owns (R U L) c p)) (slots_at (chain_places c))
    cleared end p = qed 𝓛 (‵ (chain_owns (R U L) end p) ∷ []) ∵ drop ! $ nothing ! $ done !
    cleared (link q x kids rest) p =
        qed 𝓛 (‵ (chain_owns (R U L) (link q x kids rest) p) ∷ []) ∵ fpick ! (λ same. fpick ! (λ links. fsplit ! $ fpick ! (λ may.
        in_a_block ! p (λ r. lies_at (N U L) full_share r (node_with U L links.0 links.1 x)) (id⊢ 𝓤 _) (λ b o at_block. node_out U L ! (node_with U L links.0 links.1 x) b o (λ v good.
        -- [the node's cell; the item; the chains of children and of what follows]
        emptied U L ! b o (node_val U L links.0 links.1 v) $ fpack ! (Testable (block_ptr b o)) (λ _. froom node b o) (subst Testable at_block may) $ move ! (1 ∷ []) $ drop ! $
        rewrite ! 0 (λ r. ‵ (slot_owns (R U L) r)) (sym (same ∙ at_block)) refl $
        -- [the slot; the chains]
        move ! (1 ∷ []) $ fsplit ! $ use1 𝓛 (‵ (slots_own (R U L) (chain_places kids))) (cleared kids links.0) $ move ! (1 ∷ []) $ use1 𝓛
        (‵ (slots_own (R U L) (chain_places rest))) (cleared rest links.1) $
        move ! (1 ∷ 0 ∷ []) $ use2 𝓛 (‵ (slots_own (R U L) (chain_places kids ++ chain_places rest))) (together (chain_places kids) (chain_places rest)) $ move ! (1 ∷ 0 ∷ []) $ fjoin ! $ done !)))))

    -- a slab with all of its slots is a whole block
    filled : (ps : List Ptr) (b o : ℕ) → ent 𝓤 (sep 𝓤 (slots_at ps) (sem 𝓛 (fwand (fsep (froom ty_ptr b (o + 0)) (slots_own (R U L) ps)) (froom slab b o)))) (sem 𝓛 (slab_back b o))
    filled ps b o =
        let Word = 𝓛.H.room ty_ptr b (o + 0) in let Whole : Fml = fwand (fsep (froom ty_ptr b (o + 0)) (slots_own (R U L) ps)) (froom slab b o) in
        wand_i 𝓤 (sep 𝓤 (slots_at ps) (sem 𝓛 Whole)) Word (𝓛.H.room slab b o)
        (qed 𝓛 ((‵ (slots_own (R U L) ps) ⊛ ‵ Whole) ∷ ‵ (froom ty_ptr b (o + 0)) ∷ []) ∵ split ! $ move ! (2 ∷ 0 ∷ []) $ fjoin ! $
        by ! (apply∗ 𝓤 (sep 𝓤 Word (slots_at ps)) (𝓛.H.room slab b o)))

    pub made_whole : (pss : List (List Ptr)) (p : Ptr) → ent 𝓤 (sep 𝓤 (slots_at (all_slots pss)) (sem 𝓛 (slabs_own (R U L) pss p))) (sem 𝓛 (blocks_own (R U L) (length pss) p))
    made_whole [] p = qed 𝓛 (‵ ftrue ∷ ‵ (slabs_own (R U L) [] p) ∷ []) ∵ drop ! $ done !
    made_whole (ps ∷ pss) p =
        qed 𝓛 (‵ (slots_own (R U L) (ps ++ all_slots pss)) ∷ ‵ (slabs_own (R U L) (ps ∷ pss) p) ∷ []) ∵
        use1 𝓛 (‵ (slots_own (R U L) ps) ⊛ ‵ (slots_own (R U L) (all_slots pss))) (apart ps (all_slots pss)) $ split ! $ move ! (2 ∷ []) $ fpick ! (λ q. fsplit ! $
        in_a_block ! p (λ r. slab_at (R U L) ps r q) (id⊢ 𝓤 _) (λ b o at_block. fpick ! (λ small. fsplit3 ! $
        -- [the word's cell; what it is cut from; the token; the other slabs; the slots; the other slots]
        move ! (4 ∷ 1 ∷ []) $ use2 𝓛 (‵ (slab_back b o)) (filled ps b o) $ move ! (0 ∷ 2 ∷ []) $ fjoin ! $ move ! (1 ∷ 0 ∷ []) $ fjoin ! $
        fpack ! (SlabFits (R U L)) (λ _. fsep (fat full_share ty_ptr b (o + 0) (ptr_val q)) (fsep (slab_back b o) (ghosts.dealloc_token heap slab (block_ptr b o)))) small $
        rewrite ! 0 (λ r. ‵ (block_at (R U L) r q)) (sym at_block) refl $ move ! (2 ∷ 1 ∷ []) $ use2 𝓛 (‵ (blocks_own (R U L) (length pss) q)) (made_whole pss q) $ move ! (1 ∷ 0 ∷ []) $ fjoin ! $
        fpack ! Ptr (λ r. fsep (block_at (R U L) p r) (blocks_own (R U L) (length pss) r)) q $ done !)))
