-- the head of a leaf tells its entries, and those before the rank are below the key
use Rattle.std.proofs.Common.{◌≡◌, ◌∙◌, ℕ, List, sym, subst, arith}
use Rattle.code_btree.specs.Bytes.{piece, half_of}
use Rattle.code_btree.specs.Node.{IsLeafOf, count_in_page}
use Rattle.code_btree.proofs.Nodes.{leaf_head, leaf_is_told}
use Rattle.code_btree.proofs.PageRuns.{rank_from}
use Rattle.code_btree.proofs.leaf_run.page_run.Goals as goal

headed : (p : List ℕ) (n h : ℕ) → IsLeafOf p (count_in_page p) → n ≡ h → h ≡ half_of (piece 2 2 p) → IsLeafOf p n
headed p n h is e f = let P : ℕ → Type 0 = λ x. IsLeafOf p x in subst P (sym (e ∙ f)) is

pub rank-place-requires : goal.rank-place-requires
rank-place-requires c = omega (arith, (leaf_is_told c.args.page.now c.requires).1, c.from-count.ensures ∙ c.half_at.ensures)

pub invariant_of-result : goal.invariant_of-result
invariant_of-result c = record { counted = headed c.args.page.now c.from-count.result c.half_at.result (leaf_head c.args.page.now c.requires) c.from-count.ensures c.half_at.ensures }

pub returns-clause-left : goal.returns-clause-left
returns-clause-left c = λ asc. rank_from c.args.page.now c.from-count.result c.rank-place.result c.args.from
    (headed c.args.page.now c.from-count.result c.half_at.result
    (leaf_head c.args.page.now c.requires) c.from-count.ensures c.half_at.ensures) c.rank-place.ensures.bound c.rank-place.ensures.before c.rank-place.ensures.behind asc
