-- `first` gives nothing at null, and else reads where the first tree's node leads on to.
use Rattle.std.proofs.Common.{◌≡◌, List, [], ◌∷◌, ◌++◌, refl, ap, subst, ◌∙◌, lit<}
use mir.Syntax.{a_type}
use mir.Val.{Val, vcons, vnil}
use mir.MapTy.{inst_fn}
use base.Logic.{SProp, emp, id⊢}
use base.Fraction.{full_share}
use base.Fml.{ftrue, flft}
use prog.Wp.{WpFn}
use types.Kit.{‵, raw, prop, at_ret, ◌⊛◌, ◌$◌, ◌∵◌, !, qed, by, move, keep, drop, split, fsplit, fjoin, fpick, use0, use1, use2, rewrite, regoal}
use types.Run.{stop, fld, lit, of_opd, bin, load, no_more, and_then, first, blocks, branches, skips, exec, returns, returns_within, enter}
use types.ByLocal.{alloc_all, pass_all, free_all, look_at, get, get_in, through, sets, sets_last, env}
use types.Part.{agg, sub, whole, look_in}
use types.Match.{live}
use contract.Monad.{fact, fact_i}
use contract.Running.{tables}
use denote.Exit.{no}
use denote.RattleType.{RattleType, owns}
use denote.Signature.{types_at, type_at, plain}
use denote.RawPtr.{block_ptr, null_ptr, tests_null, Testable, lies_at, in_a_block}
use denote.Steps.{nothing}
use denote.Param.{layout, layouts}
use denote.Struct.Struct.{as_fields}
use denote.Struct.Tuple.{Tuple}
use denote.Triple.Walked.{Stays, stay_dropped, walk_of}
use Rattle.core.specs.declared.option.Option.TheVariants.{None, Some}
use Rattle.core.proofs.alloc.Calls.{Goes-blank}
use Rattle.core.proofs.alloc.Shapes.{after}
use Rattle.core.proofs.cell.Inside.{Good}
use Rattle.core.proofs.option.Made.{Some-of, none_of}
use Rattle.std.proofs.raw_atomic.Walks.{proved_at, leaves}
use Rattle.std_alloc.proofs.Pairs.{pair_val, pair_of}
use Rattle.std_alloc.proofs.ResultValues.{and_tt}
use Rattle.pair_heap.proofs.Nodes.{R, N, TreeOf, word, word_told, word_typed, ptr_typed, node_with, node_out, by_chain, treed, worded}
use Rattle.pair_heap.specs.Chain.{end, link}
use Rattle.pair_heap.specs.Ownership.{chain_owns}
use Rattle.pair_heap.specs.contracts.trees.Trees as trees
use Rattle.pair_heap.specs.contracts.trees.Trees.first.{ended, clauses}
use Rattle.pair_heap.specs.contracts.trees.Trees.first.Key.{name as #self}
use Rattle.pair_heap.proofs.trees.Trees.first.Statement.{statement}
use Rattle.pair_heap.proofs.trees.Trees.first.Code as code

pub first_spec : {M : Type 1} → statement M
first_spec 𝓤 𝓛 𝓜 𝓡 wired U L =
    let H = 𝓛.H in let 𝓣 = tables 𝓤 H 𝓜 𝓡 𝓡.env in let En = ended U in let c = clauses U 𝓛 𝓜.mem 𝓡.returns in
    let inst = layouts (a_type ∷ []) (U, tt) in let fn = inst_fn inst code.function in let Thing : RattleType = R U L in let Node : RattleType = N U L in
    let Treed : RattleType = TreeOf U L in let Chained : RattleType = trees.the_row Thing in
    let Two : RattleType = Tuple (Treed ∷ Chained ∷ []) in
    let hs : Stays En.signature.params En.kept = (stay_dropped (plain (λ _. Chained)) no, tt) in
    proved_at 𝓛 En hs c 𝓜 𝓡
    (Goes-blank 𝓛 1 (plain (λ _. Chained)) no (λ κs x f. tt), tt)
    (#self inst) fn (code.unfolded 𝓤 H 𝓜 𝓡 wired (U, tt)) (λ z are.
    let κs = z.0.0 in let qs = z.0.1 in let Post : Val → SProp 𝓤 = (walk_of 𝓛 En hs c).post z in let Run : List Val → SProp 𝓤 = λ ws. WpFn 𝓤 H 𝓣.C 𝓣.Λ fn ws Post in
    let Out : RattleType = type_at En.signature.result κs in
    let me = z.0.3.0 in let is_me = word_told me.ptr z.0.4.0 are.0.0 in
    let toks = ‵ (flft κs.0 qs.0) ⊛ ‵ ftrue in
    qed 𝓛 ((toks ⊛ ‵ (owns (types_at En.signature.params κs) z.0.3 z.0.4)) ∷ raw ((c κs z.0.3).requires z.1) ∷ []) ∵ split ! $ move ! (1 ∷ []) $ fsplit ! $
    fsplit ! $ drop ! $
    -- [the chain; nothing; the lifetimes; the bound]
    by_chain me.chain
    (λ none. rewrite ! 0 (λ k. ‵ (chain_owns Thing k me.ptr)) none refl $ fpick ! (λ null.
    regoal ! (λ (us : List Val). prop (Run us)) (λ i. (is_me ∙ ap (λ p. word p ∷ []) null) i ++ []) refl $
    enter ! 𝓣.C 𝓣.Λ fn (word null_ptr ∷ []) Post $ alloc_all ! (λ l. pass_all ! refl (word_typed null_ptr, tt) $
    sets ! (of_opd ! (get_in ! (fld ! refl (stop !)) (sub ! 0 refl (whole !)))) refl (ptr_typed null_ptr) $
    sets ! (bin ! (get ! refl) (lit ! tt) tt) refl (tt, tt) $ first ! $ branches ! (get ! refl)
    (λ _. sets ! (agg ! (and_then ! (lit ! tt) (no_more !))) refl (tt, (record { fits = lit< tt }, tt)) $
    returns_within ! Post refl (look_at ! 0 refl) $ free_all ! refl $
    use0 𝓛 (‵ (Out.own_val None (live 0 vnil ∷ []))) (none_of 𝓛 Two) $ use0 𝓛 (raw (fact 𝓤 (me.chain ≡ end))) (fact_i 𝓤 (me.chain ≡ end) (emp 𝓤) none) $
    nothing ! $ nothing ! $ fjoin ! $
    -- [nothing of the parameters; the fact; None; nothing; nothing; the lifetimes; the bound]
    keep ! (5 ∷ 0 ∷ 2 ∷ 1 ∷ []) $ by ! (leaves 𝓛 En hs c z (live 0 vnil) None (tt, tt) (tt, tt)))
    (λ wrong. absurd wrong))))
    (λ q x kids rest linked. rewrite ! 0 (λ k. ‵ (chain_owns Thing k me.ptr)) linked refl $ fpick ! (λ same. fpick ! (λ s. fsplit ! $ fpick ! (λ may.
    in_a_block ! me.ptr (λ p. lies_at Node full_share p (node_with U L s.0 s.1 x)) (id⊢ 𝓤 _) (λ b o at_block. let test : Testable (block_ptr b o) =
    subst Testable at_block may in node_out U L ! (node_with U L s.0 s.1 x) b o (λ v good.
    -- [the node's cell; the item; the two chains; nothing; the lifetimes; the bound]
    regoal ! (λ (us : List Val). prop (Run us)) (λ i. (is_me ∙ ap (λ p. word p ∷ []) at_block) i ++ []) refl $
    enter ! 𝓣.C 𝓣.Λ fn (word (block_ptr b o) ∷ []) Post $ alloc_all ! (λ l. pass_all ! refl (word_typed (block_ptr b o), tt) $ let Ev = env fn.locals l in
    sets ! (of_opd ! (get_in ! (fld ! refl (stop !)) (sub ! 0 refl (whole !)))) refl (ptr_typed (block_ptr b o)) $
    sets ! (bin ! (get ! refl) (lit ! tt) (tests_null (block_ptr b o) test)) refl (tt, tt) $ first ! $ branches ! (get ! refl) (λ wrong. absurd wrong)
    (λ _. skips ! $ exec ! 𝓣.C 𝓣.Λ Ev (after 3 fn.body) (at_ret Ev Post) $ first ! $ blocks ! $
    sets ! (of_opd ! (load ! (through ! refl (fld ! refl (stop !))) (look_in ! 0 (sub ! 1 refl (whole !))))) refl (ptr_typed s.1) $
    let taken : Val = pair_val (word (block_ptr b o)) (word s.1) in
    let whole_typed : Good (layout Two) taken = as_fields (layout Treed ∷ layout Chained ∷ []) (word (block_ptr b o) ∷ word s.1 ∷ []) (word_typed (block_ptr b o), (word_typed s.1, tt)) in
    let some_typed : Good (layout Out) (live 1 (vcons taken vnil)) = (and_tt _ whole_typed.0, (record { fits = lit< tt }, (whole_typed.1, tt))) in
    let d : Two.Denot = (record { ptr = block_ptr b o; item = x; kids = kids; links = s }, record { ptr = s.1; chain = rest }) in
    sets ! (agg ! (and_then ! (get ! refl) (no_more !))) refl (word_typed (block_ptr b o)) $
    sets ! (agg ! (and_then ! (get ! refl) (no_more !))) refl (word_typed s.1) $
    sets ! (agg ! (and_then ! (get ! refl) (and_then ! (get ! refl) (no_more !)))) refl whole_typed $
    sets_last ! (agg ! (and_then ! (lit ! tt) (and_then ! (get ! refl) (no_more !)))) refl some_typed $
    exec ! 𝓣.C 𝓣.Λ Ev (after 4 fn.body) (at_ret Ev Post) $ sets ! (of_opd ! (get ! refl)) refl some_typed $
    returns ! (look_at ! 0 refl) $ free_all ! refl $
    -- [the node's cell; the item; the two chains; nothing; the lifetimes; the bound]
    move ! (2 ∷ []) $ fsplit ! $ move ! (1 ∷ []) $ worded U L ! s.1 (chain_owns Thing rest s.1) $ move ! (2 ∷ 3 ∷ 1 ∷ []) $ treed U L ! s.0 s.1 x v kids b o test $
    -- [the tree; the rest; nothing; the lifetimes; the bound]
    use2 𝓛 (‵ (Two.own_val d (taken ∷ []))) (pair_of 𝓛 Treed Chained d.0 d.1 (word (block_ptr b o)) (word s.1)) $
    use1 𝓛 (‵ (Out.own_val (Some d) (live 1 (vcons taken vnil) ∷ []))) (Some-of 𝓛 Two d taken) $
    use0 𝓛 (raw (fact 𝓤 (me.chain ≡ link (block_ptr b o) x kids rest))) (fact_i 𝓤 (me.chain ≡ link (block_ptr b o) x kids rest) (emp 𝓤) (linked ∙ ap (λ p. link p x kids rest) (same ∙ at_block))) $
    nothing ! $ nothing ! $ fjoin ! $
    -- [nothing of the parameters; the fact; the result; nothing; the lifetimes; the bound]
    keep ! (4 ∷ 0 ∷ 2 ∷ 1 ∷ []) $ by ! (leaves 𝓛 En hs c z (live 1 (vcons taken vnil)) (Some d) (tt, tt) (tt, tt)))))))))))
