-- `whole` changes no memory: slots in the order of their slabs, of nodes and spare ones, make the blocks whole.
use Rattle.std.proofs.Common.{◌≡◌, List, [], ◌∷◌, ◌++◌, length, refl, IsPermutation}
use mir.Syntax.{a_type}
use mir.Val.{Val}
use mir.MapTy.{inst_fn}
use base.Logic.{SProp, emp}
use base.Fml.{ftrue, flft}
use prog.Wp.{WpFn}
use types.Kit.{‵, raw, prop, given, learn, ◌⊛◌, ◌$◌, ◌∵◌, !, qed, by, move, keep, drop, split, fsplit, fsplit3, fjoin, use0, use1, use2, regoal}
use types.Run.{stop, fld, of_opd, no_more, and_then, returns, enter}
use types.ByLocal.{alloc_all, pass_all, free_all, look_at, get, get_in, sets}
use types.Part.{agg, sub, whole}
use contract.Monad.{fact, fact_i}
use contract.Running.{tables}
use contract.BorrowLft.{◌⊑◌}
use denote.Exit.{no}
use denote.RattleType.{RattleType, owns}
use denote.Signature.{types_at, plain}
use denote.Steps.{nothing}
use denote.Param.{layouts}
use denote.Triple.Walked.{Stays, stay_dropped, walk_of}
use Rattle.core.proofs.alloc.Calls.{Goes-blank}
use Rattle.std.proofs.raw_atomic.Walks.{proved_at, leaves}
use Rattle.pair_heap.proofs.Nodes.{R, word, word_told, word_typed, ptr_typed, worded}
use Rattle.pair_heap.proofs.SlabRooms.{unchained, rearranged, together, cleared, made_whole}
use Rattle.pair_heap.specs.Chain.{chain_places}
use Rattle.pair_heap.specs.Slot.{slots_own}
use Rattle.pair_heap.specs.Slab.{all_slots, blocks_own}
use Rattle.pair_heap.specs.declared.slab.Blocks.{Blocks}
use Rattle.pair_heap.specs.contracts.spare.Spares as spare
use Rattle.pair_heap.specs.contracts.trees.Trees as chain
use Rattle.pair_heap.specs.contracts.slab.Slabs as slabs
use Rattle.pair_heap.specs.contracts.slab.Slabs.whole.{ended, clauses}
use Rattle.pair_heap.specs.contracts.slab.Slabs.whole.Key.{name as #self}
use Rattle.pair_heap.proofs.slab.Slabs.whole.Statement.{statement}
use Rattle.pair_heap.proofs.slab.Slabs.whole.Code as code

pub whole_spec : {M : Type 1} → statement M
whole_spec 𝓤 𝓛 𝓜 𝓡 wired U L =
    let H = 𝓛.H in let 𝓣 = tables 𝓤 H 𝓜 𝓡 𝓡.env in let En = ended U in let c = clauses U 𝓛 𝓜.mem 𝓡.returns in
    let inst = layouts (a_type ∷ []) (U, tt) in let fn = inst_fn inst code.function in let Thing : RattleType = R U L in
    let Slabbeds : RattleType = slabs.the_row Thing in let Chained : RattleType = chain.the_row Thing in let Spared : RattleType = spare.the_row Thing in
    let hs : Stays En.signature.params En.kept = (stay_dropped (plain (λ _. Slabbeds)) no, (stay_dropped (plain (λ _. Chained)) no, (stay_dropped (plain (λ _. Spared)) no, tt))) in
    proved_at 𝓛 En hs c 𝓜 𝓡
    (Goes-blank 𝓛 1 (plain (λ _. Slabbeds)) no (λ κs x f. tt), (Goes-blank 𝓛 1 (plain (λ _. Chained)) no (λ κs x f. tt), (Goes-blank 𝓛 1 (plain (λ _. Spared)) no (λ κs x f. tt), tt)))
    (#self inst) fn (code.unfolded 𝓤 H 𝓜 𝓡 wired (U, tt)) (λ z are.
    let κs = z.0.0 in let qs = z.0.1 in let Post : Val → SProp 𝓤 = (walk_of 𝓛 En hs c).post z in let Run : List Val → SProp 𝓤 = λ ws. WpFn 𝓤 H 𝓣.C 𝓣.Λ fn ws Post in
    let me = z.0.3.0 in let trees = z.0.3.1.0 in let spares = z.0.3.1.1.0 in
    let is_me = word_told me.ptr z.0.4.0 are.0.0 in let is_trees = word_told trees.ptr z.0.4.1.0 are.1.0.0 in let is_spares = word_told spares.ptr z.0.4.1.1.0 are.1.1.0.0 in
    let toks = ‵ (flft κs.0 qs.0) ⊛ ‵ ftrue in
    qed 𝓛 ((toks ⊛ ‵ (owns (types_at En.signature.params κs) z.0.3 z.0.4))
    ∷ (given (κs.0 ⊑ U.lives) (‵ ftrue) ⊛ given (IsPermutation (chain_places trees.chain ++ spares.places) (all_slots me.slots)) (‵ ftrue)) ∷ []) ∵
    move ! (1 ∷ []) $ split ! $ drop ! $ learn ! (λ asked. drop ! $ split ! $ move ! (1 ∷ []) $ fsplit3 ! $
    fsplit ! $ drop ! $ move ! (1 ∷ []) $ fsplit ! $ drop ! $ move ! (2 ∷ []) $ fsplit ! $ fsplit ! $ drop ! $
    -- [the spare slots; nothing; the trees; the slabs; the lifetimes]
    use1 𝓛 (‵ (slots_own Thing spares.places)) (unchained U L 𝓛 spares.places spares.ptr) $
    move ! (2 ∷ 0 ∷ []) $ use1 𝓛 (‵ (slots_own Thing (chain_places trees.chain))) (cleared U L 𝓛 trees.chain trees.ptr) $
    use2 𝓛 (‵ (slots_own Thing (chain_places trees.chain ++ spares.places))) (together U L 𝓛 (chain_places trees.chain) spares.places) $
    use1 𝓛 (‵ (slots_own Thing (all_slots me.slots))) (rearranged U L 𝓛 (chain_places trees.chain ++ spares.places) (all_slots me.slots) asked) $ move ! (0 ∷ 2 ∷ []) $
    use2 𝓛 (‵ (blocks_own Thing (length me.slots) me.ptr)) (made_whole U L 𝓛 me.slots me.ptr) $
    -- [the blocks; nothing; the lifetimes]
    regoal ! (λ (us : List Val). prop (Run us)) (λ i. is_me i ++ (is_trees i ++ (is_spares i ++ []))) refl $
    let made : Blocks Thing.Denot = record { ptr = me.ptr; count = length me.slots } in
    enter ! 𝓣.C 𝓣.Λ fn (word me.ptr ∷ word trees.ptr ∷ word spares.ptr ∷ []) Post $ alloc_all ! (λ l. pass_all ! refl (word_typed me.ptr, (word_typed trees.ptr, (word_typed spares.ptr, tt))) $
    sets ! (of_opd ! (get_in ! (fld ! refl (stop !)) (sub ! 0 refl (whole !)))) refl (ptr_typed me.ptr) $
    sets ! (agg ! (and_then ! (get ! refl) (no_more !))) refl (word_typed me.ptr) $
    returns ! (look_at ! 0 refl) $ free_all ! refl $ worded U L ! me.ptr (blocks_own Thing (length me.slots) me.ptr) $
    use0 𝓛 (raw (fact 𝓤 (made.count ≡ length me.slots))) (fact_i 𝓤 (made.count ≡ length me.slots) (emp 𝓤) refl) $
    nothing ! $ nothing ! $ fjoin ! $ nothing ! $ fjoin ! $ nothing ! $ fjoin ! $
    -- [nothing of the parameters; the fact; the blocks; nothing; the lifetimes]
    keep ! (4 ∷ 0 ∷ 2 ∷ 1 ∷ []) $ by ! (leaves 𝓛 En hs c z (word me.ptr) made (tt, (tt, (tt, tt))) (tt, (tt, (tt, tt)))))))
