use Rattle.script_text.proofs.Unfold.{rank-given, knn-given, near-given}
use Rattle.script_text.proofs.cursor.Cursor.«+plan».Goals as goal

-- no `scan` comes, and behind its word a `rank` is read
pub plan-returns-then-accept_word-2 : goal.plan-returns-then-accept_word-2
plan-returns-then-accept_word-2 t c =
    rank-given c.args.self.now c.accept_word-2.new.self c.rank.new.self c.rank.result c.if-accept_word.ensures.other
    (rw c.if-accept_word.ensures.same at c.if-accept_word-2.ensures) c.rank.ensures

-- none of the words before it comes, and behind its word a `knn` is read
pub plan-returns-then-accept_word-7 : goal.plan-returns-then-accept_word-7
plan-returns-then-accept_word-7 t c =
    knn-given c.args.self.now c.accept_word.new.self c.accept_word-2.new.self c.accept_word-3.new.self c.accept_word-4.new.self c.accept_word-5.new.self c.accept_word-6.new.self
    c.accept_word-7.new.self c.knn.new.self c.knn.result c.if-accept_word.ensures c.if-accept_word-2.ensures c.if-accept_word-3.ensures c.if-accept_word-4.ensures c.if-accept_word-5.ensures
    c.if-accept_word-6.ensures c.if-accept_word-7.ensures c.knn.ensures

-- none of the words before it comes, and behind its word a `near` is read
pub plan-returns-then-accept_word-8 : goal.plan-returns-then-accept_word-8
plan-returns-then-accept_word-8 t c =
    near-given c.args.self.now c.accept_word.new.self c.accept_word-2.new.self c.accept_word-3.new.self c.accept_word-4.new.self c.accept_word-5.new.self c.accept_word-6.new.self
    c.accept_word-7.new.self c.accept_word-8.new.self c.near.new.self c.near.result c.if-accept_word.ensures c.if-accept_word-2.ensures c.if-accept_word-3.ensures c.if-accept_word-4.ensures
    c.if-accept_word-5.ensures c.if-accept_word-6.ensures c.if-accept_word-7.ensures c.if-accept_word-8.ensures c.near.ensures
