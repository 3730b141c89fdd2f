-- `put` writes the chain's pointer into the slab's first word, and owns the block but for its slots.
use Rattle.std.proofs.Common.{◌≡◌, ℕ, ◌+◌, ◌<◌, ◌^◌, List, [], ◌∷◌, ◌++◌, length, refl, ap, arith}
use mir.Syntax.{a_type, ty_ptr}
use mir.Val.{Val}
use mir.MapTy.{inst_fn}
use mir.Raw.{raw as bare}
use prog.Memory.{size, align, up}
use prog.RawLaws.{size-raw}
use base.Logic.{SProp, emp}
use base.Fraction.{full_share}
use base.Fml.{ftrue, fsep, froom, fat, flft}
use prog.Wp.{WpFn}
use types.Kit.{‵, raw, prop, at_ret, given, learn, ◌⊛◌, ◌$◌, ◌∵◌, !, qed, by, move, keep, drop, split, split3, fsplit, fsplit3, fjoin, fpack, join, use0, use1, use2, rewrite, regoal}
use types.Run.{stop, fld, addr, of_opd, no_more, and_then, init, assigns, first, blocks, exec, returns, enter}
use types.ByLocal.{alloc_all, pass_all, free_all, look_at, get, get_in, through, sets, sets_last, env}
use types.Part.{agg, sub, whole}
use contract.Monad.{fact, fact_i}
use contract.Running.{tables}
use contract.BorrowLft.{◌⊑◌}
use denote.Exit.{no}
use denote.RattleType.{RattleType, owns}
use denote.Signature.{types_at, plain}
use denote.RawPtr.{Ptr, block_ptr, ptr_val}
use denote.Steps.{nothing}
use denote.Param.{layout, layouts}
use denote.Struct.Struct.{as_fields}
use denote.Struct.Tuple.{Tuple}
use denote.Triple.Walked.{Stays, stay_dropped, walk_of}
use Rattle.core.proofs.alloc.Calls.{Goes-blank}
use Rattle.core.proofs.alloc.Shapes.{after}
use Rattle.core.proofs.cell.Inside.{Good}
use Rattle.std.proofs.raw_atomic.Walks.{proved_at, leaves}
use Rattle.std_alloc.proofs.Pairs.{pair_val, pair_of}
use Rattle.std_alloc.proofs.OfVacant.{vacant_val, vacant_typed, Vacant-had}
use Rattle.pair_heap.proofs.Nodes.{al, R, N, S, Room, word, word_told, word_typed, ptr_typed, worded, token_start}
use Rattle.pair_heap.proofs.SlabRooms.{run, length_run, first_slot, first_is, slots_fit, slab_cut, slab_whole}
use Rattle.pair_heap.specs.Ownership.{heap}
use Rattle.std.specs.contracts.impls.GlobalAllocator.TheImpl.{ghosts}
use Rattle.pair_heap.specs.Slot.{fresh_own}
use Rattle.pair_heap.specs.Slab.{SlabFits, slab_at, slabs_own}
use Rattle.pair_heap.specs.contracts.slot.Fresh as fresh
use Rattle.pair_heap.specs.contracts.slab.Slabs as slabs
use Rattle.pair_heap.specs.contracts.slab.Slabs.put.{ended, clauses}
use Rattle.pair_heap.specs.contracts.slab.Slabs.put.Key.{name as #self}
use Rattle.pair_heap.proofs.slab.Slabs.put.Statement.{statement}
use Rattle.pair_heap.proofs.slab.Slabs.put.Code as code

pub put_spec : {M : Type 1} → statement M
put_spec 𝓤 𝓛 𝓜 𝓡 wired U L =
    let H = 𝓛.H in let 𝓣 = tables 𝓤 H 𝓜 𝓡 𝓡.env in let En = ended U in let c = clauses U 𝓛 𝓜.mem 𝓡.returns in
    let inst = layouts (a_type ∷ []) (U, tt) in let fn = inst_fn inst code.function in let Thing : RattleType = R U L in let Node : RattleType = N U L in
    let Slabbed : RattleType = S U L in let Roomed : RattleType = Room U L in let Slabbeds : RattleType = slabs.the_row Thing in let Freshed : RattleType = fresh.the_row Thing in
    let Two : RattleType = Tuple (Slabbeds ∷ Freshed ∷ []) in
    let hs : Stays En.signature.params En.kept = (stay_dropped (plain (λ _. Slabbeds)) no, (stay_dropped (plain (λ _. Roomed)) no, tt)) in
    proved_at 𝓛 En hs c 𝓜 𝓡 (Goes-blank 𝓛 1 (plain (λ _. Slabbeds)) no (λ κs x f. tt), (Goes-blank 𝓛 1 (plain (λ _. Roomed)) no (λ κs x f. tt), tt)) (#self inst) fn
    (code.unfolded 𝓤 H 𝓜 𝓡 wired (U, tt)) (λ z are.
    let κs = z.0.0 in let qs = z.0.1 in let Post : Val → SProp 𝓤 = (walk_of 𝓛 En hs c).post z in let Run : List Val → SProp 𝓤 = λ ws. WpFn 𝓤 H 𝓣.C 𝓣.Λ fn ws Post in
    let me = z.0.3.0 in let room = z.0.3.1.0 in let is_me = word_told me.ptr z.0.4.0 are.0.0 in
    let toks = ‵ (flft κs.0 qs.0) ⊛ ‵ ftrue in
    qed 𝓛 ((toks ⊛ ‵ (owns (types_at En.signature.params κs) z.0.3 z.0.4)) ∷ (given (κs.0 ⊑ U.lives) (‵ ftrue) ⊛ (given (size (layout Slabbed) < 2 ^ 63) (‵ ftrue) ⊛ ‵ ftrue)) ∷ []) ∵
    move ! (1 ∷ []) $ split ! $ drop ! $ split ! $ learn ! (λ small. drop ! $ drop ! $ split ! $ move ! (1 ∷ []) $ fsplit3 ! $
    fsplit ! $ drop ! $ move ! (1 ∷ []) $ Vacant-had al Slabbed ! room z.0.4.1.0 (λ b o hv at_block is_room fits. move ! (1 ∷ []) $ token_start U L ! b o (λ start. move ! (1 ∷ []) $
    let fit = slots_fit U L small in let at : ℕ = o + first_slot U L in let ps : List Ptr = run U L 64 b at in
    use1 𝓛 (‵ (froom ty_ptr b (o + 0)) ⊛ ‵ (fresh_own Thing ps (block_ptr b at)) ⊛ ‵ (slab_whole U L b o)) (slab_cut U L b o 𝓛 (omega (arith, start, fit.0)) fit.1) $ split3 ! $
    -- [the word; the slots; what they are cut from; the token; the handle; the chain; nothing; the lifetimes]
    regoal ! (λ (us : List Val). prop (Run us)) (λ i. is_me i ++ (is_room i ++ [])) refl $
    let d : ℕ = up (align (layout Node)) 8 in let there : at ≡ o + d = ap (λ k. o + k) (first_is U L) in let nodes : Ptr = block_ptr b (o + d) in
    let made : Two.Denot = (record { ptr = block_ptr b o; slots = ps ∷ me.slots }, record { ptr = nodes; places = ps }) in let both : Val = pair_val (word (block_ptr b o)) (word nodes) in
    let whole_typed : Good (layout Two) both = as_fields (layout Slabbeds ∷ layout Freshed ∷ []) (word (block_ptr b o) ∷ word nodes ∷ []) (word_typed (block_ptr b o), (word_typed nodes, tt)) in
    enter ! 𝓣.C 𝓣.Λ fn (word me.ptr ∷ vacant_val hv b o ∷ []) Post $ alloc_all ! (λ l. pass_all ! refl (word_typed me.ptr, (vacant_typed al Slabbed hv b o fits, tt)) $ let Ev = env fn.locals l in
    sets ! (of_opd ! (get_in ! (fld ! refl (stop !)) (sub ! 0 refl (whole !)))) refl (ptr_typed me.ptr) $
    sets ! (of_opd ! (get_in ! (fld ! refl (stop !)) (sub ! 0 refl (whole !)))) refl (tt, tt) $
    first ! $ blocks ! $ sets ! (addr ! (through ! refl (fld ! refl (stop !)))) refl (tt, tt) $
    assigns ! (of_opd ! (get ! refl)) (through ! refl (stop !)) (init ! 0 refl (ptr_typed me.ptr)) $
    sets ! (addr ! (through ! refl (fld ! refl (stop !)))) refl (tt, tt) $
    sets ! (agg ! (and_then ! (get ! refl) (no_more !))) refl (word_typed (block_ptr b o)) $
    sets ! (agg ! (and_then ! (get ! refl) (no_more !))) refl (word_typed nodes) $
    sets_last ! (agg ! (and_then ! (get ! refl) (and_then ! (get ! refl) (no_more !)))) refl whole_typed $
    exec ! 𝓣.C 𝓣.Λ Ev (after 3 fn.body) (at_ret Ev Post) $ sets ! (of_opd ! (get ! refl)) refl whole_typed $
    returns ! (look_at ! 0 refl) $ free_all ! refl $ move ! (2 ∷ 3 ∷ []) $ fjoin ! $ move ! (1 ∷ 0 ∷ []) $ fjoin ! $
    fpack ! (SlabFits Thing) (λ _. fsep (fat full_share ty_ptr b (o + 0) (ptr_val me.ptr)) (fsep (slab_whole U L b o) (ghosts.dealloc_token heap (bare (layout Slabbed)) (block_ptr b o))))
    (omega (arith, size-raw (layout Slabbed), small)) $
    -- [the slab; its slots; the handle; the chain; nothing; the lifetimes]
    move ! (0 ∷ 3 ∷ []) $ fjoin ! $ fpack ! Ptr (λ q. fsep (slab_at Thing ps (block_ptr b o) q) (slabs_own Thing me.slots q)) me.ptr $
    worded U L ! (block_ptr b o) (slabs_own Thing (ps ∷ me.slots) (block_ptr b o)) $ move ! (1 ∷ []) $ rewrite ! 0 (λ (k : ℕ). ‵ (fresh_own Thing ps (block_ptr b k))) there refl $
    worded U L ! nodes (fresh_own Thing ps nodes) $ move ! (1 ∷ 0 ∷ []) $
    use2 𝓛 (‵ (Two.own_val made (both ∷ []))) (pair_of 𝓛 Slabbeds Freshed made.0 made.1 (word (block_ptr b o)) (word nodes)) $
    use0 𝓛 (raw (fact 𝓤 (length ps ≡ 64))) (fact_i 𝓤 (length ps ≡ 64) (emp 𝓤) (length_run U L 64 b at)) $
    use0 𝓛 (raw (fact 𝓤 (made.0.slots ≡ ps ∷ me.slots))) (fact_i 𝓤 (made.0.slots ≡ ps ∷ me.slots) (emp 𝓤) refl) $ join ! $
    nothing ! $ nothing ! $ fjoin ! $ nothing ! $ fjoin ! $
    -- [nothing of the parameters; the facts; the result; the handle; nothing; the lifetimes]
    keep ! (5 ∷ 0 ∷ 2 ∷ 1 ∷ []) $ by ! (leaves 𝓛 En hs c z both made (tt, (tt, tt)) (tt, (tt, tt))))))))
