-- `put` writes the chain's pointer into the slot's first word.
use Rattle.std.proofs.Common.{◌≡◌, ◌+◌, List, [], ◌∷◌, ◌++◌, refl, ap, subst, ◌∙◌}
use mir.Syntax.{a_type, ty_ptr}
use mir.Val.{Val}
use mir.Raw.{raw as bare}
use mir.MapTy.{inst_fn}
use base.Logic.{SProp, emp, id⊢}
use base.Fraction.{full_share}
use base.Fml.{ftrue, fsep, fex, froom, fat, flft}
use prog.Wp.{WpFn}
use types.Kit.{‵, raw, prop, at_ret, ◌⊛◌, ◌$◌, ◌∵◌, !, qed, by, move, keep, drop, split, fsplit, fsplit3, fjoin, fpick, fpack, use0, use1, regoal}
use types.Run.{stop, fld, addr, of_opd, no_more, and_then, init, assigns_last, first, blocks, exec, returns, enter}
use types.ByLocal.{alloc_all, pass_all, free_all, look_at, get, get_in, through, sets, env}
use types.Part.{agg, sub, whole}
use contract.Monad.{fact, fact_i}
use contract.Running.{tables}
use denote.Exit.{no}
use denote.RattleType.{RattleType, owns}
use denote.Signature.{types_at, plain}
use denote.RawPtr.{Ptr, block_ptr, ptr_val, room_for, Testable, in_a_block}
use denote.Steps.{nothing}
use denote.Param.{layout, layouts}
use denote.Triple.Walked.{Stays, stay_dropped, walk_of}
use Rattle.core.proofs.alloc.Calls.{Goes-blank}
use Rattle.core.proofs.alloc.Shapes.{after}
use Rattle.std.proofs.raw_atomic.Walks.{proved_at, leaves}
use Rattle.pair_heap.proofs.Nodes.{R, N, SlotOf, word, word_told, word_typed, ptr_typed, worded, back, word_cut}
use Rattle.pair_heap.specs.Spare.{spare_at, spares_own}
use Rattle.pair_heap.specs.declared.spare.Spares.{Spares}
use Rattle.pair_heap.specs.contracts.spare.Spares as spares
use Rattle.pair_heap.specs.contracts.spare.Spares.put.{ended, clauses}
use Rattle.pair_heap.specs.contracts.spare.Spares.put.Key.{name as #self}
use Rattle.pair_heap.proofs.spare.Spares.put.Statement.{statement}
use Rattle.pair_heap.proofs.spare.Spares.put.Code as code

pub put_spec : {M : Type 1} → statement M
put_spec 𝓤 𝓛 𝓜 𝓡 wired U L =
    let H = 𝓛.H in let 𝓣 = tables 𝓤 H 𝓜 𝓡 𝓡.env in let En = ended U in let c = clauses U 𝓛 𝓜.mem 𝓡.returns in
    let inst = layouts (a_type ∷ []) (U, tt) in let fn = inst_fn inst code.function in let Thing : RattleType = R U L in let Slotted : RattleType = SlotOf U L in
    let Spared : RattleType = spares.the_row Thing in
    let hs : Stays En.signature.params En.kept = (stay_dropped (plain (λ _. Spared)) no, (stay_dropped (plain (λ _. Slotted)) no, tt)) in
    proved_at 𝓛 En hs c 𝓜 𝓡
    (Goes-blank 𝓛 1 (plain (λ _. Spared)) no (λ κs x f. tt), (Goes-blank 𝓛 1 (plain (λ _. Slotted)) no (λ κs x f. tt), tt))
    (#self inst) fn (code.unfolded 𝓤 H 𝓜 𝓡 wired (U, tt)) (λ z are.
    let κs = z.0.0 in let qs = z.0.1 in let Post : Val → SProp 𝓤 = (walk_of 𝓛 En hs c).post z in let Run : List Val → SProp 𝓤 = λ ws. WpFn 𝓤 H 𝓣.C 𝓣.Λ fn ws Post in
    let me = z.0.3.0 in let slot = z.0.3.1.0 in let is_me = word_told me.ptr z.0.4.0 are.0.0 in let is_slot = word_told slot.ptr z.0.4.1.0 are.1.0.0 in
    let toks = ‵ (flft κs.0 qs.0) ⊛ ‵ ftrue in
    qed 𝓛 ((toks ⊛ ‵ (owns (types_at En.signature.params κs) z.0.3 z.0.4)) ∷ raw ((c κs z.0.3).requires z.1) ∷ []) ∵ split ! $ move ! (1 ∷ []) $ fsplit3 ! $
    fsplit ! $ drop ! $ move ! (1 ∷ []) $ fsplit ! $ drop ! $ fpick ! (λ may. in_a_block ! slot.ptr (room_for (bare (layout (N U L)))) (id⊢ 𝓤 _) (λ b o at_block.
    use1 𝓛 (‵ (froom ty_ptr b (o + 0)) ⊛ ‵ (back U L b o)) (word_cut U L b o 𝓛) $ split ! $
    -- [the word; what it is cut from; the chain; nothing; the lifetimes; the bound]
    regoal ! (λ (us : List Val). prop (Run us)) (λ i. is_me i ++ ((is_slot ∙ ap (λ p. word p ∷ []) at_block) i ++ [])) refl $
    let made : Spares Thing.Denot = record { ptr = block_ptr b o; places = slot.ptr ∷ me.places } in
    enter ! 𝓣.C 𝓣.Λ fn (word me.ptr ∷ word (block_ptr b o) ∷ []) Post $ alloc_all ! (λ l. pass_all ! refl (word_typed me.ptr, (word_typed (block_ptr b o), tt)) $ let Ev = env fn.locals l in
    sets ! (of_opd ! (get_in ! (fld ! refl (stop !)) (sub ! 0 refl (whole !)))) refl (ptr_typed me.ptr) $
    sets ! (of_opd ! (get_in ! (fld ! refl (stop !)) (sub ! 0 refl (whole !)))) refl (tt, tt) $
    first ! $ blocks ! $ sets ! (addr ! (through ! refl (fld ! refl (stop !)))) refl (tt, tt) $
    assigns_last ! (of_opd ! (get ! refl)) (through ! refl (stop !)) (init ! 0 refl (ptr_typed me.ptr)) $
    exec ! 𝓣.C 𝓣.Λ Ev (after 3 fn.body) (at_ret Ev Post) $
    sets ! (agg ! (and_then ! (get ! refl) (no_more !))) refl (word_typed (block_ptr b o)) $
    returns ! (look_at ! 0 refl) $ free_all ! refl $ fjoin ! $
    fpack ! (Testable (block_ptr b o)) (λ _. fsep (fat full_share ty_ptr b (o + 0) (ptr_val me.ptr)) (back U L b o)) (subst Testable at_block may) $ fjoin ! $
    fpack ! Ptr (λ q. fsep (spare_at Thing (block_ptr b o) q) (spares_own Thing me.places q)) me.ptr $
    fpack ! (slot.ptr ≡ block_ptr b o) (λ _. fex Ptr (λ q. fsep (spare_at Thing (block_ptr b o) q) (spares_own Thing me.places q))) at_block $
    worded U L ! (block_ptr b o) (spares_own Thing (slot.ptr ∷ me.places) (block_ptr b o)) $
    use0 𝓛 (raw (fact 𝓤 (made.places ≡ slot.ptr ∷ me.places))) (fact_i 𝓤 (made.places ≡ slot.ptr ∷ me.places) (emp 𝓤) refl) $
    nothing ! $ nothing ! $ fjoin ! $ nothing ! $ fjoin ! $
    -- [nothing of the parameters; the fact; the chain; nothing; the lifetimes; the bound]
    keep ! (4 ∷ 0 ∷ 2 ∷ 1 ∷ []) $ by ! (leaves 𝓛 En hs c z (word (block_ptr b o)) made (tt, (tt, tt)) (tt, (tt, tt)))))))
