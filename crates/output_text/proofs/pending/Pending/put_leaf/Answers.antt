-- the numbers broke off, or the ids
use Rattle.output_text.proofs.Parts.{leaf-whole}
use Rattle.output_text.proofs.Forming.{on_err, AddsPrefix-first, AddsPrefix-second, Forms-both}
use Rattle.output_text.proofs.pending.Pending.put_leaf.Goals as goal

pub returns-in_err-put_head-clause-prefix : goal.returns-in_err-put_head-clause-prefix
returns-in_err-put_head-clause-prefix g c =
    on_err c.from_residual.result
    (AddsPrefix-first _ _ _ _ _ _ c.in_err-put_head.ensures.prefix (leaf-whole c.args.block c.rect.result c.args.ids.now c.rect.ensures.square))

pub returns-in_err-put_leaf_ids-clause-prefix : goal.returns-in_err-put_leaf_ids-clause-prefix
returns-in_err-put_leaf_ids-clause-prefix g c =
    on_err c.from_residual-in_err-put_leaf_ids.result
    (AddsPrefix-second _ _ _ _ _ _ _ _ c.in_ok-put_head.ensures.formed c.in_err-put_leaf_ids.ensures.prefix (leaf-whole c.args.block c.rect.result c.args.ids.now c.rect.ensures.square))

pub returns-clause-formed : goal.returns-clause-formed
returns-clause-formed g c =
    Forms-both _ _ _ _ _ _ _ _ _ c.in_ok-put_head.ensures.formed c.in_ok-put_leaf_ids.ensures.formed
    (leaf-whole c.args.block c.rect.result c.args.ids.now c.rect.ensures.square)
