-- `over` makes the lower root's node lead on to the children, and the upper one's to the lower one.
use Rattle.std.proofs.Common.{◌≡◌, List, [], ◌∷◌, ◌++◌, refl, sym, ap, ◌∙◌}
use mir.Syntax.{a_type}
use mir.Val.{Val}
use mir.MapTy.{inst_fn}
use base.Logic.{SProp, emp}
use base.Fraction.{full_share}
use base.Fml.{Fml, ftrue, fsep, fex, flft}
use prog.Wp.{WpFn}
use types.Kit.{‵, raw, prop, at_ret, ◌⊛◌, ◌$◌, ◌∵◌, !, qed, by, move, keep, drop, split, join, fsplit, fjoin, fpack, use0, regoal}
use types.Run.{stop, fld, of_opd, no_more, and_then, load, assigns, assigns_last, first, blocks, exec, returns, enter}
use types.ByLocal.{alloc_all, pass_all, free_all, look_at, get, get_in, through, sets, env}
use types.Part.{agg, sub, whole, look_in, store_in}
use contract.Monad.{fact, fact_i}
use contract.Running.{tables}
use denote.Exit.{no}
use denote.RattleType.{RattleType, owns}
use denote.Signature.{types_at, plain}
use denote.RawPtr.{Ptr, block_ptr, Testable, lies_at}
use denote.Steps.{nothing}
use denote.Param.{layouts}
use denote.Triple.Walked.{Stays, stay_dropped, walk_of}
use Rattle.core.proofs.alloc.Calls.{Goes-blank}
use Rattle.core.proofs.alloc.Shapes.{after}
use Rattle.std.proofs.raw_atomic.Walks.{proved_at, leaves}
use Rattle.pair_heap.proofs.Nodes.{R, N, TreeOf, word, word_told, word_typed, ptr_typed, node_with, node_in, tree_out, treed}
use Rattle.pair_heap.specs.Chain.{Chain, link}
use Rattle.pair_heap.specs.Ownership.{node_owns, chain_owns}
use Rattle.pair_heap.specs.declared.tree.Tree.{Tree}
use Rattle.pair_heap.specs.contracts.tree.Tree.over.{ended, clauses}
use Rattle.pair_heap.specs.contracts.tree.Tree.over.Key.{name as #self}
use Rattle.pair_heap.proofs.tree.Tree.over.Statement.{statement}
use Rattle.pair_heap.proofs.tree.Tree.over.Code as code

pub over_spec : {M : Type 1} → statement M
over_spec 𝓤 𝓛 𝓜 𝓡 wired U L =
    let H = 𝓛.H in let 𝓣 = tables 𝓤 H 𝓜 𝓡 𝓡.env in let En = ended U in let c = clauses U 𝓛 𝓜.mem 𝓡.returns in
    let inst = layouts (a_type ∷ []) (U, tt) in let fn = inst_fn inst code.function in let Item : RattleType = R U L in let Node : RattleType = N U L in let Treed : RattleType = TreeOf U L in
    let hs : Stays En.signature.params En.kept = (stay_dropped (plain (λ _. Treed)) no, (stay_dropped (plain (λ _. Treed)) no, tt)) in
    proved_at 𝓛 En hs c 𝓜 𝓡
    (Goes-blank 𝓛 1 (plain (λ _. Treed)) no (λ κs x f. tt), (Goes-blank 𝓛 1 (plain (λ _. Treed)) no (λ κs x f. tt), tt))
    (#self inst) fn (code.unfolded 𝓤 H 𝓜 𝓡 wired (U, tt)) (λ z are.
    let κs = z.0.0 in let qs = z.0.1 in let Post : Val → SProp 𝓤 = (walk_of 𝓛 En hs c).post z in let Run : List Val → SProp 𝓤 = λ ws. WpFn 𝓤 H 𝓣.C 𝓣.Λ fn ws Post in
    let me = z.0.3.0 in let below = z.0.3.1.0 in
    let is_me = word_told me.ptr z.0.4.0 are.0.0 in let is_below = word_told below.ptr z.0.4.1.0 are.1.0.0 in
    let toks = ‵ (flft κs.0 qs.0) ⊛ ‵ ftrue in
    qed 𝓛 ((toks ⊛ ‵ (owns (types_at En.signature.params κs) z.0.3 z.0.4)) ∷ raw ((c κs z.0.3).requires z.1) ∷ []) ∵ split ! $ move ! (1 ∷ []) $ fsplit ! $
    fsplit ! $ drop ! $ tree_out U L ! me.links me.item me.kids me.ptr (λ b o at_block test v good.
    -- [the upper node's cell; its item; its children; the lower tree; the lifetimes; the bound]
    move ! (3 ∷ []) $ fsplit ! $ fsplit ! $ drop ! $ tree_out U L ! below.links below.item below.kids below.ptr (λ d e at_lower test_lower w good_lower.
    -- [the lower node's cell; its item; its children; nothing; the upper node's cell; its item; its children; the lifetimes; the bound]
    move ! (4 ∷ 5 ∷ 6 ∷ 0 ∷ 1 ∷ 2 ∷ []) $
    regoal ! (λ (us : List Val). prop (Run us)) (λ i. (is_me ∙ ap (λ p. word p ∷ []) at_block) i ++ ((is_below ∙ ap (λ p. word p ∷ []) at_lower) i ++ [])) refl $
    let kids : Chain Item.Denot = link below.ptr below.item below.kids me.kids in
    let made : Tree Item.Denot = record { ptr = block_ptr b o; item = me.item; kids = kids; links = (block_ptr d e, me.links.1) } in
    enter ! 𝓣.C 𝓣.Λ fn (word (block_ptr b o) ∷ word (block_ptr d e) ∷ []) Post $
    alloc_all ! (λ l. pass_all ! refl (word_typed (block_ptr b o), (word_typed (block_ptr d e), tt)) $ let Ev = env fn.locals l in
    sets ! (of_opd ! (get_in ! (fld ! refl (stop !)) (sub ! 0 refl (whole !)))) refl (tt, tt) $
    sets ! (of_opd ! (get_in ! (fld ! refl (stop !)) (sub ! 0 refl (whole !)))) refl (tt, tt) $
    first ! $ blocks ! $
    sets ! (of_opd ! (load ! (through ! refl (fld ! refl (stop !))) (look_in ! 0 (sub ! 0 refl (whole !))))) refl (ptr_typed me.links.0) $
    assigns ! (of_opd ! (get ! refl)) (through ! refl (fld ! refl (stop !))) (store_in ! 3 (sub ! 1 refl (whole !)) (ptr_typed me.links.0)) $
    assigns_last ! (of_opd ! (get ! refl)) (through ! refl (fld ! refl (stop !))) (store_in ! 0 (sub ! 0 refl (whole !)) (tt, tt)) $
    exec ! 𝓣.C 𝓣.Λ Ev (after 3 fn.body) (at_ret Ev Post) $
    sets ! (agg ! (and_then ! (get ! refl) (no_more !))) refl (word_typed (block_ptr b o)) $
    returns ! (look_at ! 0 refl) $ free_all ! refl $
    -- [the upper node's cell; its item; its children; the lower node's cell; its item; its children; nothing; the lifetimes; the bound]
    move ! (3 ∷ 4 ∷ []) $ node_in U L ! below.links.0 me.links.0 below.item w d e $
    fpack ! (Testable (block_ptr d e)) (λ _. lies_at Node full_share (block_ptr d e) (node_with U L below.links.0 me.links.0 below.item)) test_lower $
    -- [the lower node; the upper node's cell; its item; its children; the lower children; nothing; the lifetimes; the bound]
    move ! (4 ∷ 3 ∷ []) $ fjoin ! $ move ! (1 ∷ 0 ∷ []) $ fjoin ! $
    let Tied : Ptr × Ptr → Fml = λ s. fsep (node_owns Item (block_ptr d e) (node_with U L s.0 s.1 below.item)) (fsep (chain_owns Item below.kids s.0) (chain_owns Item me.kids s.1)) in
    fpack ! (Ptr × Ptr) Tied (below.links.0, me.links.0) $ fpack ! (below.ptr ≡ block_ptr d e) (λ _. fex (Ptr × Ptr) Tied) at_lower $
    -- [the children now; the upper node's cell; its item; nothing; the lifetimes; the bound]
    move ! (1 ∷ 2 ∷ 0 ∷ []) $ treed U L ! (block_ptr d e) me.links.1 me.item v kids b o test $
    use0 𝓛 (raw (fact 𝓤 (made.kids ≡ kids))) (fact_i 𝓤 (made.kids ≡ kids) (emp 𝓤) refl) $
    use0 𝓛 (raw (fact 𝓤 (made.ptr ≡ me.ptr))) (fact_i 𝓤 (made.ptr ≡ me.ptr) (emp 𝓤) (sym at_block)) $ join ! $
    use0 𝓛 (raw (fact 𝓤 (made.item ≡ me.item))) (fact_i 𝓤 (made.item ≡ me.item) (emp 𝓤) refl) $ join ! $
    nothing ! $ nothing ! $ fjoin ! $ nothing ! $ fjoin ! $
    -- [nothing of the parameters; the facts; the tree; nothing; the lifetimes; the bound]
    keep ! (4 ∷ 0 ∷ 2 ∷ 1 ∷ []) $ by ! (leaves 𝓛 En hs c z (word (block_ptr b o)) made (tt, (tt, tt)) (tt, (tt, tt)))))))
