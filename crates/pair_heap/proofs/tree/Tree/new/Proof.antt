-- `new` writes the node into its slot, and owns it with its children.
use Rattle.std.proofs.Common.{◌≡◌, List, [], ◌∷◌, ◌++◌, refl, sym, ap, subst, ◌∙◌}
use mir.Syntax.{a_type}
use mir.Val.{Val}
use mir.Raw.{raw as bare}
use mir.MapTy.{inst_fn}
use base.Logic.{SProp, emp, id⊢}
use base.Fml.{ftrue, flft}
use prog.Wp.{WpFn}
use types.Kit.{‵, raw, prop, at_ret, ◌⊛◌, ◌$◌, ◌∵◌, !, qed, by, move, keep, drop, split, join, fsplit, fjoin, fpick, use0, regoal}
use types.Run.{stop, fld, lit, of_opd, no_more, and_then, init, assigns_last, first, blocks, exec, returns, enter}
use types.ByLocal.{alloc_all, pass_all, free_all, look_at, get, get_in, through, sets, env}
use types.Part.{agg, sub, whole}
use contract.Monad.{fact, fact_i}
use contract.Running.{tables}
use denote.Exit.{no}
use denote.RattleType.{RattleType, owns}
use denote.Signature.{types_at, plain}
use denote.RawPtr.{block_ptr, null_ptr, Testable, room_for, in_a_block}
use denote.Steps.{nothing}
use denote.Param.{layout, layouts}
use denote.Triple.Walked.{Stays, stay_dropped, walk_of, Goes-dropped}
use Rattle.core.proofs.alloc.Calls.{Goes-blank}
use Rattle.core.proofs.alloc.Shapes.{after}
use Rattle.std.proofs.raw_atomic.Walks.{proved_at, leaves}
use Rattle.std_alloc.proofs.RawLayout.{as_written}
use Rattle.pair_heap.proofs.Nodes.{R, N, SlotOf, word, word_told, word_typed, ptr_typed, node_typed, tells, treed}
use Rattle.pair_heap.specs.declared.tree.Tree.{Tree}
use Rattle.pair_heap.specs.contracts.trees.Trees as trees
use Rattle.pair_heap.specs.contracts.tree.Tree.new.{ended, clauses}
use Rattle.pair_heap.specs.contracts.tree.Tree.new.Key.{name as #self}
use Rattle.pair_heap.proofs.tree.Tree.new.Statement.{statement}
use Rattle.pair_heap.proofs.tree.Tree.new.Code as code

pub new_spec : {M : Type 1} → statement M
new_spec 𝓤 𝓛 𝓜 𝓡 wired U L =
    let H = 𝓛.H in let 𝓣 = tables 𝓤 H 𝓜 𝓡 𝓡.env in let En = ended U in let c = clauses U 𝓛 𝓜.mem 𝓡.returns in
    let inst = layouts (a_type ∷ []) (U, tt) in let fn = inst_fn inst code.function in let Item : RattleType = R U L in let Node : RattleType = N U L in
    let Slotted : RattleType = SlotOf U L in let Chained : RattleType = trees.the_row Item in
    let hs : Stays En.signature.params En.kept = (stay_dropped (plain (λ _. Slotted)) no, (stay_dropped (plain (λ _. Item)) no, (stay_dropped (plain (λ _. Chained)) no, tt))) in
    proved_at 𝓛 En hs c 𝓜 𝓡
    (Goes-blank 𝓛 1 (plain (λ _. Slotted)) no (λ κs x f. tt), (Goes-dropped 𝓛 1 (plain (λ _. Item)) no (λ κs x f. refl), (Goes-blank 𝓛 1 (plain (λ _. Chained)) no (λ κs x f. tt), tt)))
    (#self inst) fn (code.unfolded 𝓤 H 𝓜 𝓡 wired (U, tt)) (λ z are.
    let κs = z.0.0 in let qs = z.0.1 in let Post : Val → SProp 𝓤 = (walk_of 𝓛 En hs c).post z in let Run : List Val → SProp 𝓤 = λ ws. WpFn 𝓤 H 𝓣.C 𝓣.Λ fn ws Post in
    let slot = z.0.3.0 in let x = z.0.3.1.0 in let kids = z.0.3.1.1.0 in
    let is_slot = word_told slot.ptr z.0.4.0 are.0.0 in let is_kids = word_told kids.ptr z.0.4.1.1.0 are.1.1.0.0 in
    let toks = ‵ (flft κs.0 qs.0) ⊛ ‵ ftrue in
    qed 𝓛 ((toks ⊛ ‵ (owns (types_at En.signature.params κs) z.0.3 z.0.4)) ∷ raw ((c κs z.0.3).requires z.1) ∷ []) ∵ split ! $ move ! (1 ∷ []) $ fsplit ! $
    fsplit ! $ drop ! $ fpick ! (λ may. in_a_block ! slot.ptr (room_for (bare (layout Node))) (id⊢ 𝓤 _) (λ b o at_block. move ! (1 ∷ []) $ fsplit ! $ tells U L ! x z.0.4.1.0 (λ v is_item good.
    move ! (1 ∷ []) $ fsplit ! $ fsplit ! $ drop ! $
    move ! (3 ∷ []) $ as_written ! (layout Node) b o $
    -- [room for the node; the children; nothing; the item; the lifetimes; the bound]
    regoal ! (λ (us : List Val). prop (Run us)) (λ i. (is_slot ∙ ap (λ p. word p ∷ []) at_block) i ++ (is_item i ++ (is_kids i ++ []))) refl $
    let made : Tree Item.Denot = record { ptr = block_ptr b o; item = x; kids = kids.chain; links = (kids.ptr, null_ptr) } in let typed = node_typed U L kids.ptr null_ptr v good in
    enter ! 𝓣.C 𝓣.Λ fn (word (block_ptr b o) ∷ v ∷ word kids.ptr ∷ []) Post $
    alloc_all ! (λ l. pass_all ! refl (word_typed (block_ptr b o), (good, (word_typed kids.ptr, tt))) $ let Ev = env fn.locals l in
    sets ! (of_opd ! (get_in ! (fld ! refl (stop !)) (sub ! 0 refl (whole !)))) refl (tt, tt) $
    sets ! (of_opd ! (get_in ! (fld ! refl (stop !)) (sub ! 0 refl (whole !)))) refl (ptr_typed kids.ptr) $
    first ! $ blocks ! $ sets ! (of_opd ! (get ! refl)) refl good $
    sets ! (agg ! (and_then ! (get ! refl) (and_then ! (lit ! tt) (and_then ! (get ! refl) (no_more !))))) refl typed $
    assigns_last ! (of_opd ! (get ! refl)) (through ! refl (stop !)) (init ! 0 refl typed) $
    exec ! 𝓣.C 𝓣.Λ Ev (after 3 fn.body) (at_ret Ev Post) $
    sets ! (agg ! (and_then ! (get ! refl) (no_more !))) refl (word_typed (block_ptr b o)) $
    returns ! (look_at ! 0 refl) $ free_all ! refl $ move ! (0 ∷ 3 ∷ 1 ∷ []) $ treed U L ! kids.ptr null_ptr x v kids.chain b o (subst Testable at_block may) $
    -- [the tree; nothing; the lifetimes; the bound]
    use0 𝓛 (raw (fact 𝓤 (made.kids ≡ kids.chain))) (fact_i 𝓤 (made.kids ≡ kids.chain) (emp 𝓤) refl) $
    use0 𝓛 (raw (fact 𝓤 (made.ptr ≡ slot.ptr))) (fact_i 𝓤 (made.ptr ≡ slot.ptr) (emp 𝓤) (sym at_block)) $ join ! $
    use0 𝓛 (raw (fact 𝓤 (made.item ≡ x))) (fact_i 𝓤 (made.item ≡ x) (emp 𝓤) refl) $ join ! $
    nothing ! $ nothing ! $ fjoin ! $ nothing ! $ fjoin ! $ nothing ! $ fjoin ! $
    -- [nothing of the parameters; the facts; the tree; nothing; the lifetimes; the bound]
    keep ! (4 ∷ 0 ∷ 2 ∷ 1 ∷ []) $ by ! (leaves 𝓛 En hs c z (word (block_ptr b o)) made (tt, (tt, (tt, tt))) (tt, (tt, (tt, tt)))))))))
