-- `before` makes the root's node lead on to the rest.
use Rattle.std.proofs.Common.{◌≡◌, List, [], ◌∷◌, ◌++◌, refl, ap, ◌∙◌}
use mir.Syntax.{a_type}
use mir.Val.{Val}
use mir.MapTy.{inst_fn}
use base.Logic.{SProp, emp}
use base.Fraction.{full_share}
use base.Fml.{Fml, ftrue, fsep, fex, flft}
use prog.Wp.{WpFn}
use types.Kit.{‵, raw, prop, at_ret, ◌⊛◌, ◌$◌, ◌∵◌, !, qed, by, move, keep, drop, split, fsplit, fjoin, fpack, use0, regoal}
use types.Run.{stop, fld, of_opd, no_more, and_then, assigns_last, first, blocks, exec, returns, enter}
use types.ByLocal.{alloc_all, pass_all, free_all, look_at, get, get_in, through, sets, env}
use types.Part.{agg, sub, whole, store_in}
use contract.Monad.{fact, fact_i}
use contract.Running.{tables}
use denote.Exit.{no}
use denote.RattleType.{RattleType, owns}
use denote.Signature.{types_at, plain}
use denote.RawPtr.{Ptr, block_ptr, Testable, lies_at}
use denote.Steps.{nothing}
use denote.Param.{layouts}
use denote.Triple.Walked.{Stays, stay_dropped, walk_of}
use Rattle.core.proofs.alloc.Calls.{Goes-blank}
use Rattle.core.proofs.alloc.Shapes.{after}
use Rattle.std.proofs.raw_atomic.Walks.{proved_at, leaves}
use Rattle.pair_heap.proofs.Nodes.{R, N, TreeOf, word, word_own, word_told, word_made, word_typed, ptr_typed, node_with, node_in, tree_out}
use Rattle.pair_heap.specs.Chain.{link}
use Rattle.pair_heap.specs.Ownership.{node_owns, chain_owns}
use Rattle.pair_heap.specs.declared.trees.Trees.{Trees}
use Rattle.pair_heap.specs.contracts.trees.Trees as trees
use Rattle.pair_heap.specs.contracts.tree.Tree.before.{ended, clauses}
use Rattle.pair_heap.specs.contracts.tree.Tree.before.Key.{name as #self}
use Rattle.pair_heap.proofs.tree.Tree.before.Statement.{statement}
use Rattle.pair_heap.proofs.tree.Tree.before.Code as code

pub before_spec : {M : Type 1} → statement M
before_spec 𝓤 𝓛 𝓜 𝓡 wired U L =
    let H = 𝓛.H in let 𝓣 = tables 𝓤 H 𝓜 𝓡 𝓡.env in let En = ended U in let c = clauses U 𝓛 𝓜.mem 𝓡.returns in
    let inst = layouts (a_type ∷ []) (U, tt) in let fn = inst_fn inst code.function in let Item : RattleType = R U L in let Node : RattleType = N U L in
    let Treed : RattleType = TreeOf U L in let Chained : RattleType = trees.the_row Item in
    let hs : Stays En.signature.params En.kept = (stay_dropped (plain (λ _. Treed)) no, (stay_dropped (plain (λ _. Chained)) no, tt)) in
    proved_at 𝓛 En hs c 𝓜 𝓡
    (Goes-blank 𝓛 1 (plain (λ _. Treed)) no (λ κs x f. tt), (Goes-blank 𝓛 1 (plain (λ _. Chained)) no (λ κs x f. tt), tt))
    (#self inst) fn (code.unfolded 𝓤 H 𝓜 𝓡 wired (U, tt)) (λ z are.
    let κs = z.0.0 in let qs = z.0.1 in let Post : Val → SProp 𝓤 = (walk_of 𝓛 En hs c).post z in let Run : List Val → SProp 𝓤 = λ ws. WpFn 𝓤 H 𝓣.C 𝓣.Λ fn ws Post in
    let me = z.0.3.0 in let rest = z.0.3.1.0 in
    let is_me = word_told me.ptr z.0.4.0 are.0.0 in let is_rest = word_told rest.ptr z.0.4.1.0 are.1.0.0 in
    let toks = ‵ (flft κs.0 qs.0) ⊛ ‵ ftrue in
    qed 𝓛 ((toks ⊛ ‵ (owns (types_at En.signature.params κs) z.0.3 z.0.4)) ∷ raw ((c κs z.0.3).requires z.1) ∷ []) ∵ split ! $ move ! (1 ∷ []) $ fsplit ! $
    fsplit ! $ drop ! $ tree_out U L ! me.links me.item me.kids me.ptr (λ b o at_block test v good.
    -- [the node's cell; the item; the children; the rest; the lifetimes; the bound]
    move ! (3 ∷ []) $ fsplit ! $ fsplit ! $ drop ! $ move ! (2 ∷ 3 ∷ 4 ∷ 0 ∷ []) $
    -- [the node's cell; the item; the children; the rest; nothing; the lifetimes; the bound]
    regoal ! (λ (us : List Val). prop (Run us)) (λ i. (is_me ∙ ap (λ p. word p ∷ []) at_block) i ++ (is_rest i ++ [])) refl $
    let made : Trees Item.Denot = record { ptr = block_ptr b o; chain = link me.ptr me.item me.kids rest.chain } in
    enter ! 𝓣.C 𝓣.Λ fn (word (block_ptr b o) ∷ word rest.ptr ∷ []) Post $
    alloc_all ! (λ l. pass_all ! refl (word_typed (block_ptr b o), (word_typed rest.ptr, tt)) $ let Ev = env fn.locals l in
    sets ! (of_opd ! (get_in ! (fld ! refl (stop !)) (sub ! 0 refl (whole !)))) refl (tt, tt) $
    sets ! (of_opd ! (get_in ! (fld ! refl (stop !)) (sub ! 0 refl (whole !)))) refl (ptr_typed rest.ptr) $
    first ! $ blocks ! $
    assigns_last ! (of_opd ! (get ! refl)) (through ! refl (fld ! refl (stop !))) (store_in ! 0 (sub ! 1 refl (whole !)) (ptr_typed rest.ptr)) $
    exec ! 𝓣.C 𝓣.Λ Ev (after 3 fn.body) (at_ret Ev Post) $
    sets ! (agg ! (and_then ! (get ! refl) (no_more !))) refl (word_typed (block_ptr b o)) $
    returns ! (look_at ! 0 refl) $ free_all ! refl $ node_in U L ! me.links.0 rest.ptr me.item v b o $
    fpack ! (Testable (block_ptr b o)) (λ _. lies_at Node full_share (block_ptr b o) (node_with U L me.links.0 rest.ptr me.item)) test $
    -- [the node; the children; the rest; nothing; the lifetimes; the bound]
    move ! (1 ∷ 2 ∷ []) $ fjoin ! $ move ! (1 ∷ 0 ∷ []) $ fjoin ! $
    let Tied : Ptr × Ptr → Fml = λ s. fsep (node_owns Item (block_ptr b o) (node_with U L s.0 s.1 me.item)) (fsep (chain_owns Item me.kids s.0) (chain_owns Item rest.chain s.1)) in
    fpack ! (Ptr × Ptr) Tied (me.links.0, rest.ptr) $ fpack ! (me.ptr ≡ block_ptr b o) (λ _. fex (Ptr × Ptr) Tied) at_block $
    use0 𝓛 (‵ (word_own (block_ptr b o) (word (block_ptr b o) ∷ []))) (word_made 𝓛 (block_ptr b o)) $ fjoin ! $
    use0 𝓛 (raw (fact 𝓤 (made.chain ≡ made.chain))) (fact_i 𝓤 (made.chain ≡ made.chain) (emp 𝓤) refl) $
    nothing ! $ nothing ! $ fjoin ! $ nothing ! $ fjoin ! $
    -- [nothing of the parameters; the fact; the chain; nothing; the lifetimes; the bound]
    keep ! (4 ∷ 0 ∷ 2 ∷ 1 ∷ []) $ by ! (leaves 𝓛 En hs c z (word (block_ptr b o)) made (tt, (tt, tt)) (tt, (tt, tt))))))
