use Rattle.std.proofs.Common.{◌≡◌, ℕ, ◌<◌, List, length, Vec, Some, sym, subst}
use Rattle.std.specs.declared.alloc.Global.{Global}
use Rattle.std.specs.List.{find}
use Rattle.sand_base.specs.declared.kind.Kind.{Kind}
use Rattle.sand_journal.specs.ChangeBody.{Rows, body_of}
use Rattle.sand_journal.specs.RowsBody.{bytes_of_each}
use Rattle.sand_store.specs.Catalog.{is_named}
use Rattle.journal_replay.specs.KeptBody.{AreShortEncodingsOf}
use Rattle.journal_replay.proofs.KeptLines.{rows_change, rows_body}
use Rattle.journal_replay.proofs.keeping.record_of_rows.Goals as goal

-- the encodings are a change
pub of-made-requires : goal.of-made-requires
of-made-requires c =
    let all = rw c.in-Some-2.is at c.in_ok-encodings.ensures in
    let few = c.is_body_short.ensures c.if-not-is_body_short.false in
    rows_change c.args.name.now c.in_ok-copy.field-0 (bytes_of_each c.in-Some-2.encodings.items) c.new.result c.in_ok-copy.ensures c.new.ensures c.requires.named all.short
    (subst (λ (n : List ℕ). length (body_of (Rows n (bytes_of_each c.in-Some-2.encodings.items))) < 4294967296) c.as_str-2.ensures
    (subst (λ (vs : List (Vec ℕ Global)). length (body_of (Rows c.as_str-2.result.now (bytes_of_each vs))) < 4294967296) c.deref.ensures.value few))

-- its body is that of the rows
pub returns-in-Ok : goal.returns-in-Ok
returns-in-Ok c =
    let all = rw c.in-Some-2.is at c.in_ok-encodings.ensures in
    let few = c.is_body_short.ensures c.if-not-is_body_short.false in
    rows_body c.args.catalog.now c.in-Some.relation.now c.args.name.now c.in_ok-copy.field-0 c.args.rows.now (bytes_of_each c.in-Some-2.encodings.items) c.new.result c.in-Ok.one
    (subst (λ (n : List ℕ). find (is_named n) c.args.catalog.now.relations ≡ Some c.in-Some.relation.now) c.as_str.ensures (sym c.in-Some.ensures.found))
    (subst (λ (schema : List (List ℕ × Kind)). AreShortEncodingsOf schema c.args.rows.now (bytes_of_each c.in-Some-2.encodings.items)) c.schema.ensures all)
    c.in_ok-copy.ensures c.new.ensures c.requires.named
    (subst (λ (n : List ℕ). length (body_of (Rows n (bytes_of_each c.in-Some-2.encodings.items))) < 4294967296) c.as_str-2.ensures
    (subst (λ (vs : List (Vec ℕ Global)). length (body_of (Rows c.as_str-2.result.now (bytes_of_each vs))) < 4294967296) c.deref.ensures.value few))
    c.in-Ok.ensures.body
