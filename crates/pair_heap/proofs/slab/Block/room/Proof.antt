-- `room` puts the handle beside the pointer.
use Rattle.std.proofs.Common.{List, [], ◌∷◌, ◌++◌, refl, ap, ◌∙◌}
use mir.Syntax.{a_type}
use mir.Val.{Val}
use mir.MapTy.{inst_fn}
use mir.Raw.{raw as bare}
use base.Logic.{SProp, fst∗, never}
use base.Fml.{ftrue, flft}
use prog.Wp.{WpFn}
use types.Logic.{sem}
use types.Kit.{‵, raw, prop, ◌⊛◌, ◌$◌, ◌∵◌, !, qed, by, move, keep, drop, split, fsplit, fsplit3, fjoin, regoal}
use types.Run.{stop, fld, of_opd, no_more, and_then, returns, enter}
use types.ByLocal.{alloc_all, pass_all, free_all, look_at, get, get_in, sets}
use types.Part.{agg, sub, whole}
use contract.Running.{tables}
use denote.Exit.{yes, no}
use denote.RattleType.{RattleType, owns}
use denote.Signature.{types_at, plain}
use denote.RawPtr.{block_ptr, null_ptr, in_a_block}
use denote.Steps.{nothing}
use denote.Param.{layout, layouts}
use denote.Triple.Walked.{Stays, stay_dropped, walk_of, Goes-dropped}
use Rattle.core.proofs.alloc.Calls.{Goes-blank, handle_tells}
use Rattle.std.specs.contracts.alloc.Global as global
use Rattle.std.proofs.raw_atomic.Walks.{proved_at, leaves}
use Rattle.std_alloc.proofs.OfVacant.{vacant_val, vacant_typed, Vacant-made}
use Rattle.pair_heap.proofs.Nodes.{al, R, S, word, word_told, word_typed, ptr_typed}
use Rattle.pair_heap.specs.Ownership.{heap}
use Rattle.std.specs.contracts.impls.GlobalAllocator.TheImpl.{ghosts}
use Rattle.pair_heap.specs.Slab.{block_owns}
use Rattle.pair_heap.specs.contracts.slab.Block as block
use Rattle.pair_heap.specs.contracts.slab.Block.room.{ended, clauses}
use Rattle.pair_heap.specs.contracts.slab.Block.room.Key.{name as #self}
use Rattle.pair_heap.proofs.slab.Block.room.Statement.{statement}
use Rattle.pair_heap.proofs.slab.Block.room.Code as code

pub room_spec : {M : Type 1} → statement M
room_spec 𝓤 𝓛 𝓜 𝓡 wired U L =
    let H = 𝓛.H in let 𝓣 = tables 𝓤 H 𝓜 𝓡 𝓡.env in let En = ended U in let c = clauses U 𝓛 𝓜.mem 𝓡.returns in
    let inst = layouts (a_type ∷ []) (U, tt) in let fn = inst_fn inst code.function in let Thing : RattleType = R U L in let Slabbed : RattleType = S U L in
    let Blocked : RattleType = block.the_row Thing in
    let hs : Stays En.signature.params En.kept = (stay_dropped (plain (λ _. Blocked)) no, (stay_dropped (plain (λ _. global.the_row)) yes, tt)) in
    proved_at 𝓛 En hs c 𝓜 𝓡 (Goes-blank 𝓛 1 (plain (λ _. Blocked)) no (λ κs x f. tt), (Goes-dropped 𝓛 1 (plain (λ _. global.the_row)) yes (λ κs x f. refl), tt))
    (#self inst) fn (code.unfolded 𝓤 H 𝓜 𝓡 wired (U, tt)) (λ z are.
    let κs = z.0.0 in let qs = z.0.1 in let Post : Val → SProp 𝓤 = (walk_of 𝓛 En hs c).post z in let Run : List Val → SProp 𝓤 = λ ws. WpFn 𝓤 H 𝓣.C 𝓣.Λ fn ws Post in
    let me = z.0.3.0 in let alloc = z.0.3.1.0 in let is_me = word_told me.ptr z.0.4.0 are.0.0 in
    let toks = ‵ (flft κs.0 qs.0) ⊛ ‵ ftrue in
    qed 𝓛 ((toks ⊛ ‵ (owns (types_at En.signature.params κs) z.0.3 z.0.4)) ∷ raw ((c κs z.0.3).requires z.1) ∷ []) ∵ split ! $ move ! (1 ∷ []) $ fsplit3 ! $
    fsplit ! $ drop ! $ move ! (1 ∷ []) $ handle_tells al ! alloc z.0.4.1.0
    (λ hv is_alloc fits. move ! (1 ∷ []) $ in_a_block ! me.ptr (block_owns Thing) (fst∗ 𝓤 (never 𝓤) (sem 𝓛 (ghosts.dealloc_token heap (bare (layout Slabbed)) null_ptr)))
    (λ b o at_block. fsplit ! $
    -- [room for a slab; the token; the handle; nothing; the lifetimes; the bound]
    regoal ! (λ (us : List Val). prop (Run us)) (λ i. (is_me ∙ ap (λ p. word p ∷ []) at_block) i ++ (is_alloc i ++ [])) refl $
    enter ! 𝓣.C 𝓣.Λ fn (word (block_ptr b o) ∷ hv ∷ []) Post $ alloc_all ! (λ l. pass_all ! refl (word_typed (block_ptr b o), (fits, tt)) $
    sets ! (of_opd ! (get_in ! (fld ! refl (stop !)) (sub ! 0 refl (whole !)))) refl (ptr_typed (block_ptr b o)) $
    sets ! (agg ! (and_then ! (get ! refl) (and_then ! (get ! refl) (no_more !)))) refl (vacant_typed al Slabbed hv b o fits) $
    returns ! (look_at ! 0 refl) $ free_all ! refl $ move ! (0 ∷ 1 ∷ 2 ∷ []) $ Vacant-made al Slabbed ! alloc b o $
    nothing ! $ nothing ! $ fjoin ! $ nothing ! $ fjoin ! $ nothing ! $
    -- [no fact; nothing of the parameters; the block; nothing; the lifetimes; the bound]
    keep ! (4 ∷ 1 ∷ 2 ∷ 0 ∷ []) $ by ! (leaves 𝓛 En hs c z (vacant_val hv b o) (record { ptr = block_ptr b o; alloc = alloc }) (tt, (tt, tt)) (tt, (tt, tt)))))))
