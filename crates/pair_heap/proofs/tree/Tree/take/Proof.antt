-- `take` reads the item and the children out of the root's node, whose slot is room from then on.
use Rattle.std.proofs.Common.{◌≡◌, List, [], ◌∷◌, ◌++◌, refl, sym, ap, ◌∙◌}
use mir.Syntax.{a_type}
use mir.Val.{Val}
use mir.MapTy.{inst_fn}
use base.Logic.{SProp, emp}
use base.Fml.{ftrue, flft}
use prog.Wp.{WpFn}
use types.Kit.{‵, raw, prop, at_ret, ◌⊛◌, ◌$◌, ◌∵◌, !, qed, by, move, keep, drop, split, join, fsplit, fjoin, use0, use1, regoal}
use types.Run.{stop, fld, of_opd, no_more, and_then, load, look, first, blocks, exec, returns, enter}
use types.ByLocal.{alloc_all, pass_all, free_all, look_at, get, get_in, through, sets, sets_last, env}
use types.Part.{agg, sub, whole}
use contract.Monad.{fact, fact_i}
use contract.Running.{tables}
use denote.Exit.{no}
use denote.RattleType.{RattleType, owns}
use denote.Signature.{types_at, plain}
use denote.RawPtr.{block_ptr}
use denote.Steps.{nothing}
use denote.Param.{layout, layouts}
use denote.Struct.Struct.{as_fields}
use denote.Struct.Tuple.{Tuple}
use Rattle.core.proofs.cell.Inside.{Good}
use denote.Triple.Walked.{Stays, stay_dropped, walk_of}
use Rattle.core.proofs.alloc.Calls.{Goes-blank}
use Rattle.core.proofs.alloc.Shapes.{after}
use Rattle.std.proofs.raw_atomic.Walks.{proved_at, leaves}
use Rattle.pair_heap.proofs.Nodes.{R, SlotOf, TreeOf, word, word_told, word_typed, ptr_typed, node_val, node_typed, tree_out, three_val, three_of, slotted, emptied, worded}
use Rattle.pair_heap.specs.Ownership.{chain_owns}
use Rattle.pair_heap.specs.contracts.trees.Trees as trees
use Rattle.pair_heap.specs.contracts.tree.Tree.take.{ended, clauses}
use Rattle.pair_heap.specs.contracts.tree.Tree.take.Key.{name as #self}
use Rattle.pair_heap.proofs.tree.Tree.take.Statement.{statement}
use Rattle.pair_heap.proofs.tree.Tree.take.Code as code

pub take_spec : {M : Type 1} → statement M
take_spec 𝓤 𝓛 𝓜 𝓡 wired U L =
    let H = 𝓛.H in let 𝓣 = tables 𝓤 H 𝓜 𝓡 𝓡.env in let En = ended U in let c = clauses U 𝓛 𝓜.mem 𝓡.returns in
    let inst = layouts (a_type ∷ []) (U, tt) in let fn = inst_fn inst code.function in let Item : RattleType = R U L in let Slotted : RattleType = SlotOf U L in
    let Treed : RattleType = TreeOf U L in let Chained : RattleType = trees.the_row Item in
    let Three : RattleType = Tuple (Item ∷ Slotted ∷ Chained ∷ []) in
    let hs : Stays En.signature.params En.kept = (stay_dropped (plain (λ _. Treed)) no, tt) in
    proved_at 𝓛 En hs c 𝓜 𝓡
    (Goes-blank 𝓛 1 (plain (λ _. Treed)) no (λ κs x f. tt), tt)
    (#self inst) fn (code.unfolded 𝓤 H 𝓜 𝓡 wired (U, tt)) (λ z are.
    let κs = z.0.0 in let qs = z.0.1 in let Post : Val → SProp 𝓤 = (walk_of 𝓛 En hs c).post z in let Run : List Val → SProp 𝓤 = λ ws. WpFn 𝓤 H 𝓣.C 𝓣.Λ fn ws Post in
    let me = z.0.3.0 in let is_me = word_told me.ptr z.0.4.0 are.0.0 in let child = me.links.0 in
    let toks = ‵ (flft κs.0 qs.0) ⊛ ‵ ftrue in
    qed 𝓛 ((toks ⊛ ‵ (owns (types_at En.signature.params κs) z.0.3 z.0.4)) ∷ raw ((c κs z.0.3).requires z.1) ∷ []) ∵ split ! $ move ! (1 ∷ []) $ fsplit ! $
    fsplit ! $ drop ! $ tree_out U L ! me.links me.item me.kids me.ptr (λ b o at_block test v good.
    -- [the node's cell; the item; the children; nothing; the lifetimes; the bound]
    regoal ! (λ (us : List Val). prop (Run us)) (λ i. (is_me ∙ ap (λ p. word p ∷ []) at_block) i ++ []) refl $
    let taken : Val = three_val v (word (block_ptr b o)) (word child) in
    let typed : Good (layout Three) taken = as_fields (layout Item ∷ layout Slotted ∷ layout Chained ∷ []) (v ∷ word (block_ptr b o) ∷ word child ∷ [])
    (good, (word_typed (block_ptr b o), (word_typed child, tt))) in
    let d : Three.Denot = (me.item, record { ptr = block_ptr b o }, record { ptr = child; chain = me.kids }) in
    enter ! 𝓣.C 𝓣.Λ fn (word (block_ptr b o) ∷ []) Post $ alloc_all ! (λ l. pass_all ! refl (word_typed (block_ptr b o), tt) $ let Ev = env fn.locals l in
    sets ! (of_opd ! (get_in ! (fld ! refl (stop !)) (sub ! 0 refl (whole !)))) refl (tt, tt) $ first ! $ blocks ! $
    sets ! (of_opd ! (load ! (through ! refl (stop !)) (look ! 0 refl))) refl (node_typed U L child me.links.1 v good) $
    sets ! (of_opd ! (get_in ! (fld ! refl (stop !)) (sub ! 0 refl (whole !)))) refl (ptr_typed child) $
    sets ! (of_opd ! (get_in ! (fld ! refl (stop !)) (sub ! 2 refl (whole !)))) refl good $
    sets ! (of_opd ! (get ! refl)) refl good $
    sets ! (agg ! (and_then ! (get ! refl) (no_more !))) refl (word_typed (block_ptr b o)) $
    sets ! (agg ! (and_then ! (get ! refl) (no_more !))) refl (word_typed child) $
    sets_last ! (agg ! (and_then ! (get ! refl) (and_then ! (get ! refl) (and_then ! (get ! refl) (no_more !))))) refl typed $
    exec ! 𝓣.C 𝓣.Λ Ev (after 2 fn.body) (at_ret Ev Post) $ sets ! (of_opd ! (get ! refl)) refl typed $
    returns ! (look_at ! 0 refl) $ free_all ! refl $ emptied U L ! b o (node_val U L child me.links.1 v) $ slotted U L ! b o test $
    -- [the slot; the item; the children; nothing; the lifetimes; the bound]
    move ! (2 ∷ []) $ worded U L ! child (chain_owns Item me.kids child) $ move ! (1 ∷ 0 ∷ []) $ join ! $ move ! (1 ∷ 0 ∷ []) $ join ! $
    use1 𝓛 (‵ (Three.own_val d (taken ∷ []))) (three_of 𝓛 Item Slotted Chained d.0 d.1 d.2 v (word (block_ptr b o)) (word child)) $
    use0 𝓛 (raw (fact 𝓤 (d.2.chain ≡ me.kids))) (fact_i 𝓤 (d.2.chain ≡ me.kids) (emp 𝓤) refl) $
    use0 𝓛 (raw (fact 𝓤 (d.1.ptr ≡ me.ptr))) (fact_i 𝓤 (d.1.ptr ≡ me.ptr) (emp 𝓤) (sym at_block)) $ join ! $
    use0 𝓛 (raw (fact 𝓤 (d.0 ≡ me.item))) (fact_i 𝓤 (d.0 ≡ me.item) (emp 𝓤) refl) $ join ! $
    nothing ! $ nothing ! $ fjoin ! $
    -- [nothing of the parameters; the facts; the result; nothing; the lifetimes; the bound]
    keep ! (4 ∷ 0 ∷ 2 ∷ 1 ∷ []) $ by ! (leaves 𝓛 En hs c z taken d (tt, tt) (tt, tt)))))
