-- `first` moves the pointer up by a node.
use Rattle.std.proofs.Common.{◌≡◌, ℕ, ◌+◌, ◌*◌, ◌<◌, ◌^◌, List, [], ◌∷◌, ◌++◌, length, refl, ap, sym, subst, ◌∙◌, arith}
use mir.Syntax.{a_type}
use mir.Val.{Val}
use mir.MapTy.{inst_fn}
use mir.Raw.{raw as bare}
use prog.Memory.{size}
use prog.RawLaws.{size-raw}
use base.Logic.{SProp, emp, id⊢}
use base.Fml.{ftrue, flft}
use prog.Wp.{WpFn}
use types.Kit.{‵, raw, prop, at_ret, given, learn, ◌⊛◌, ◌$◌, ◌∵◌, !, qed, by, move, keep, drop, split, fsplit, fjoin, fpick, use0, use2, rewrite, regoal}
use types.Run.{stop, fld, lit, size_lit, of_opd, bin, no_more, and_then, first, blocks, exec, returns, enter}
use types.ByLocal.{alloc_all, pass_all, free_all, look_at, get, get_in, sets, sets_last, env}
use types.Part.{agg, sub, whole}
use contract.Monad.{fact, fact_i}
use contract.Running.{tables}
use contract.BorrowLft.{◌⊑◌}
use denote.Exit.{no}
use denote.RattleType.{RattleType, owns}
use denote.Signature.{types_at, plain}
use denote.RawPtr.{Ptr, block_ptr, room_for, ◌+ₚ◌, Testable, in_a_block}
use denote.Steps.{nothing}
use denote.Param.{layout, layouts}
use denote.Struct.Struct.{as_fields}
use denote.Struct.Tuple.{Tuple}
use denote.Triple.Walked.{Stays, stay_dropped, walk_of}
use Rattle.core.proofs.alloc.Calls.{Goes-blank}
use Rattle.core.proofs.alloc.Shapes.{after}
use Rattle.core.proofs.cell.Inside.{Good}
use Rattle.std.proofs.raw_atomic.Walks.{proved_at, leaves}
use Rattle.std_alloc.proofs.Pairs.{pair_val, pair_of}
use Rattle.pair_heap.proofs.Nodes.{R, N, SlotOf, word, word_told, word_typed, ptr_typed, worded, by_list, slotted}
use Rattle.pair_heap.specs.Slot.{fresh_own}
use Rattle.pair_heap.specs.contracts.slot.Fresh as fresh
use Rattle.pair_heap.specs.contracts.slot.Fresh.first.{ended, clauses}
use Rattle.pair_heap.specs.contracts.slot.Fresh.first.Key.{name as #self}
use Rattle.pair_heap.proofs.slot.Fresh.first.Statement.{statement}
use Rattle.pair_heap.proofs.slot.Fresh.first.Code as code

pub first_spec : {M : Type 1} → statement M
first_spec 𝓤 𝓛 𝓜 𝓡 wired U L =
    let H = 𝓛.H in let 𝓣 = tables 𝓤 H 𝓜 𝓡 𝓡.env in let En = ended U in let c = clauses U 𝓛 𝓜.mem 𝓡.returns in
    let inst = layouts (a_type ∷ []) (U, tt) in let fn = inst_fn inst code.function in let Thing : RattleType = R U L in let Node : RattleType = N U L in
    let Slotted : RattleType = SlotOf U L in let Freshed : RattleType = fresh.the_row Thing in
    let Two : RattleType = Tuple (Slotted ∷ Freshed ∷ []) in
    let hs : Stays En.signature.params En.kept = (stay_dropped (plain (λ _. Freshed)) no, tt) in
    proved_at 𝓛 En hs c 𝓜 𝓡 (Goes-blank 𝓛 1 (plain (λ _. Freshed)) no (λ κs x f. tt), tt) (#self inst) fn (code.unfolded 𝓤 H 𝓜 𝓡 wired (U, tt)) (λ z are.
    let κs = z.0.0 in let qs = z.0.1 in let Post : Val → SProp 𝓤 = (walk_of 𝓛 En hs c).post z in let Run : List Val → SProp 𝓤 = λ ws. WpFn 𝓤 H 𝓣.C 𝓣.Λ fn ws Post in
    let me = z.0.3.0 in let is_me = word_told me.ptr z.0.4.0 are.0.0 in
    let toks = ‵ (flft κs.0 qs.0) ⊛ ‵ ftrue in
    qed 𝓛 ((toks ⊛ ‵ (owns (types_at En.signature.params κs) z.0.3 z.0.4)) ∷ (given (κs.0 ⊑ U.lives) (‵ ftrue) ⊛ given (0 < length me.places) (‵ ftrue)) ∷ []) ∵
    move ! (1 ∷ []) $ split ! $ drop ! $ learn ! (λ asked. drop ! $ split ! $ move ! (1 ∷ []) $ fsplit ! $ fsplit ! $ drop ! $
    -- [the slots; nothing; the lifetimes]
    by_list me.places
    (λ none. let wrong : 0 < 0 = subst (λ xs. 0 < length xs) none asked in absurd (omega arith))
    (λ q qs listed. rewrite ! 0 (λ k. ‵ (fresh_own Thing k me.ptr)) listed refl $ fpick !
    (λ first_at. fsplit ! $ fpick ! (λ may. in_a_block ! q (room_for (bare (layout Node))) (id⊢ 𝓤 _) (λ b o at_block.
    let test : Testable (block_ptr b o) = subst Testable at_block may in let here : me.ptr ≡ block_ptr b o = sym first_at.0 ∙ at_block in
    let s : ℕ = size (layout Node) in let raw_size : size (bare (layout Node)) ≡ s = size-raw (layout Node) in
    let tiny : s < 2 ^ 64 = omega (arith, raw_size, first_at.1) in let small : 1 * s < 2 ^ 64 = omega arith in
    let on : o + size (bare (layout Node)) ≡ 1 * s + o = omega (arith, raw_size) in let next : Ptr = block_ptr b (1 * s + o) in
    rewrite ! 1 (λ (p : Ptr). ‵ (fresh_own Thing qs (p +ₚ size (bare (layout Node))))) here refl $ rewrite ! 1 (λ (k : ℕ). ‵ (fresh_own Thing qs (block_ptr b k))) on refl $
    -- [room for a node; the other slots; nothing; the lifetimes]
    regoal ! (λ (us : List Val). prop (Run us)) (λ i. (is_me ∙ ap (λ p. word p ∷ []) here) i ++ []) refl $
    enter ! 𝓣.C 𝓣.Λ fn (word (block_ptr b o) ∷ []) Post $ alloc_all ! (λ l. pass_all ! refl (word_typed (block_ptr b o), tt) $ let Ev = env fn.locals l in
    let taken : Val = pair_val (word (block_ptr b o)) (word next) in
    let whole_typed : Good (layout Two) taken = as_fields (layout Slotted ∷ layout Freshed ∷ []) (word (block_ptr b o) ∷ word next ∷ []) (word_typed (block_ptr b o), (word_typed next, tt)) in
    let d : Two.Denot = (record { ptr = block_ptr b o }, record { ptr = next; places = qs }) in
    sets ! (of_opd ! (get_in ! (fld ! refl (stop !)) (sub ! 0 refl (whole !)))) refl (ptr_typed (block_ptr b o)) $ first ! $ blocks ! $
    sets ! (agg ! (and_then ! (get ! refl) (no_more !))) refl (word_typed (block_ptr b o)) $
    sets ! (bin ! (lit ! tt) (size_lit ! (record { fits = tiny })) (record { fits = small })) refl (tt, record { fits = small }) $
    sets ! (bin ! (get ! refl) (get ! refl) tt) refl (tt, tt) $
    sets ! (agg ! (and_then ! (get ! refl) (no_more !))) refl (word_typed next) $
    sets_last ! (agg ! (and_then ! (get ! refl) (and_then ! (get ! refl) (no_more !)))) refl whole_typed $
    exec ! 𝓣.C 𝓣.Λ Ev (after 2 fn.body) (at_ret Ev Post) $ sets ! (of_opd ! (get ! refl)) refl whole_typed $
    returns ! (look_at ! 0 refl) $ free_all ! refl $ slotted U L ! b o test $
    -- [the slot; the other slots; nothing; the lifetimes]
    move ! (1 ∷ []) $ worded U L ! next (fresh_own Thing qs next) $ move ! (1 ∷ 0 ∷ []) $
    use2 𝓛 (‵ (Two.own_val d (taken ∷ []))) (pair_of 𝓛 Slotted Freshed d.0 d.1 (word (block_ptr b o)) (word next)) $
    use0 𝓛 (raw (fact 𝓤 (me.places ≡ block_ptr b o ∷ qs))) (fact_i 𝓤 (me.places ≡ block_ptr b o ∷ qs) (emp 𝓤) (listed ∙ ap (λ r. r ∷ qs) at_block)) $
    nothing ! $ nothing ! $ fjoin ! $
    -- [nothing of the parameters; the fact; the result; nothing; the lifetimes]
    keep ! (4 ∷ 0 ∷ 2 ∷ 1 ∷ []) $ by ! (leaves 𝓛 En hs c z taken d (tt, tt) (tt, tt)))))))))
