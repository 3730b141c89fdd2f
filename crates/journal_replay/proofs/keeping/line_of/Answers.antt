use Rattle.journal_replay.proofs.KeptLines.{create_copied, delete_copied, index_copied, rtree_copied}
use Rattle.journal_replay.proofs.Lines.{kept_ones}
use Rattle.journal_replay.proofs.keeping.line_of.Goals as goal

-- a journal keeps no other statement as a line
pub returns-in_default : goal.returns-in_default
returns-in_default c = λ kept. kept_ones c.args.statement.now kept c.in_default.not-Create c.in_default.not-Delete c.in_default.not-Index c.in_default.not-Rtree

-- the copy of a line is the line
pub returns-in_ok-copy-in-Create-2 : goal.returns-in_ok-copy-in-Create-2
returns-in_ok-copy-in-Create-2 c =
    create_copied c.args.statement.now c.in-Create.relation c.in_ok-copy-in-Create.field-0 c.in-Create.columns c.in_ok-copy-in-Create-2.field-0 c.in-Create.is c.in_ok-copy-in-Create.ensures c.in_ok-copy-in-Create-2.ensures

pub returns-in_ok-copy-in-Delete : goal.returns-in_ok-copy-in-Delete
returns-in_ok-copy-in-Delete c = delete_copied c.args.statement.now c.in-Delete.relation c.in_ok-copy-in-Delete.field-0 c.in-Delete.id c.in-Delete.is c.in_ok-copy-in-Delete.ensures

pub returns-in_ok-copy-in-Index-2 : goal.returns-in_ok-copy-in-Index-2
returns-in_ok-copy-in-Index-2 c =
    index_copied c.args.statement.now c.in-Index.column c.in_ok-copy-in-Index.field-0 c.in_ok-copy-in-Index-2.field-0 c.in-Index.threshold c.in-Index.is c.in_ok-copy-in-Index.ensures c.in_ok-copy-in-Index-2.ensures

pub returns-in_ok-copy-in-Rtree-2 : goal.returns-in_ok-copy-in-Rtree-2
returns-in_ok-copy-in-Rtree-2 c =
    rtree_copied c.args.statement.now c.in-Rtree.column c.in_ok-copy-in-Rtree.field-0 c.in_ok-copy-in-Rtree-2.field-0 c.in-Rtree.is c.in_ok-copy-in-Rtree.ensures c.in_ok-copy-in-Rtree-2.ensures
