use Rattle.script_text.proofs.Unfold.{far-given}
use Rattle.script_text.proofs.cursor.Cursor.query.Goals as goal

-- none of the words before it comes, and behind its word a `far` is read
pub returns-then-accept_word-6 : goal.returns-then-accept_word-6
returns-then-accept_word-6 c =
    far-given c.args.self.now c.accept_word.new.self c.accept_word-2.new.self c.accept_word-3.new.self c.accept_word-4.new.self c.accept_word-5.new.self c.accept_word-6.new.self c.far.new.self
    c.far.result c.if-accept_word.ensures c.if-accept_word-2.ensures c.if-accept_word-3.ensures c.if-accept_word-4.ensures c.if-accept_word-5.ensures c.if-accept_word-6.ensures c.far.ensures
