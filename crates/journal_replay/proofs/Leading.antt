-- A store that one change more led on.
use Rattle.std.proofs.Common.{◌≡◌, ℕ, List, [], ◌∷◌, ◌++◌, Option, refl, sym, ap, subst, ◌∙◌}
use Rattle.page_pool.proofs.Settled.{stamps_same, stamps_both}
use Rattle.sand_journal.specs.ChangeBody.{ChangeValue, Line}
use Rattle.sand_base.specs.declared.kind.Kind.{Kind}
use Rattle.sand_model.specs.Database.{Database}
use Rattle.sand_model.specs.StatementChecks.{Setting}
use Rattle.sand_store.specs.Calls.{Carries, Created, Deleted, Indexed, Treed}
use Rattle.sand_store.specs.Catalog.{StoreState}
use Rattle.sand_store.specs.Contents.{database}
use Rattle.sand_store.specs.Sketches.{Sketch, sketches}
use Rattle.statements.specs.Statement.{Create, Delete, Index, Rtree}
use Rattle.statements.specs.declared.column.Column.{Column}
use Rattle.journal_replay.specs.ChangedDatabase.{changed_by, world_after, TakesChange, TakesAll}
use Rattle.journal_replay.specs.LedBy.{LedBy, LedByOne, sketched_by, sketches_after}

-- nothing is carried further by nothing
pub carries_none : (s : StoreState) → Carries s s
carries_none s = record { limits = refl; told = refl; stamps = stamps_same s.pool s.pool refl }

-- two calls of a store, one after the other
pub carries_both : (a b c : StoreState) → Carries a b → Carries b c → Carries a c
carries_both a b c h k = record { limits = k.limits ∙ h.limits; told = k.told ∙ h.told; stamps = stamps_both a.pool b.pool c.pool h.told h.stamps k.stamps }

-- no change
pub led_none : (s : StoreState) → LedBy [] s s
led_none s = record { carries = carries_none s; sketched = refl; takes = λ told setting is limits. tt; becomes = λ told setting is limits. refl }

sketches_push : (changes : List ChangeValue) (change : ChangeValue) (old : List Sketch) → sketches_after (changes ++ change ∷ []) old ≡ sketched_by change (sketches_after changes old)
sketches_push [] change old = refl
sketches_push (c ∷ cs) change old = sketches_push cs change (sketched_by c old)

-- the world after one change more is the world after the others, changed
pub world_push : (setting : Setting) (changes : List ChangeValue) (change : ChangeValue) (d : Database)
    → world_after setting (changes ++ change ∷ []) d ≡ changed_by setting change (world_after setting changes d)
world_push setting [] change d = refl
world_push setting (c ∷ cs) change d = world_push setting cs change (changed_by setting c d)

takes_push : (setting : Setting) (changes : List ChangeValue) (change : ChangeValue) (d : Database) → TakesAll setting changes d → TakesChange setting change (world_after setting changes d)
    → TakesAll setting (changes ++ change ∷ []) d
takes_push setting [] change d all one = (one, tt)
takes_push setting (c ∷ cs) change d all one = (all.0, takes_push setting cs change (changed_by setting c d) all.1 one)

-- one change more
pub led_push : (changes : List ChangeValue) (change : ChangeValue) (a b c : StoreState) → LedBy changes a b → LedByOne change b c → LedBy (changes ++ change ∷ []) a c
led_push changes change a b c h k = record {
  carries = carries_both a b c h.carries k.carries;
  sketched = k.sketched ∙ ap (λ (ss : List Sketch). sketched_by change ss) h.sketched ∙ sym (sketches_push changes change (sketches a));
  takes = λ told setting is limits. takes_push setting changes change (database a) (h.takes told setting is limits)
      (subst (λ (d : Database). TakesChange setting change d) (h.becomes told setting is limits) (k.takes (h.carries.told ∙ told) setting is (limits ∙ sym h.carries.limits)));
  becomes = λ told setting is limits. k.becomes (h.carries.told ∙ told) setting is (limits ∙ sym h.carries.limits)
      ∙ ap (λ (d : Database). changed_by setting change d) (h.becomes told setting is limits) ∙ sym (world_push setting changes change (database a));
}

-- a relation that was made
pub led_by_create : (old new : StoreState) (name : List ℕ) (columns : List (List ℕ × Kind)) → Created old new name columns → Carries old new → LedByOne (Line (Create name columns)) old new
led_by_create old new name columns h carries = record {
  carries = carries;
  sketched = h.sketched;
  takes = λ told setting is limits. let p = h.passes setting is limits in record { before = p.0; behind = p.1 told };
  becomes = λ told setting is limits. h.becomes told setting.gap is.gap;
}

-- a row that was removed
pub led_by_delete : (old new : StoreState) (name : List ℕ) (id : ℕ) → Deleted old new name id → Carries old new → LedByOne (Line (Delete name id)) old new
led_by_delete old new name id h carries = record {
  carries = carries;
  sketched = h.sketched;
  takes = λ told setting is limits. let p = h.passes setting is limits in record { before = p.0; behind = p.1 told };
  becomes = λ told setting is limits. h.becomes told setting.gap is.gap;
}

-- an index that was made
pub led_by_index : (old new : StoreState) (column : Column) (threshold : Option ℕ) → Indexed old new (record { relation = column.relation; column = column.column }) threshold → Carries old new
    → LedByOne (Line (Index column threshold)) old new
led_by_index old new column threshold h carries = record {
  carries = carries;
  sketched = h.sketched;
  takes = λ told setting is limits. let p = h.passes setting is limits in record { before = p.0; behind = p.1 told };
  becomes = λ told setting is limits. h.becomes told setting.gap is.gap;
}

-- an R-tree that was made
pub led_by_rtree : (old new : StoreState) (column : Column) → Treed old new (record { relation = column.relation; column = column.column }) → Carries old new
    → LedByOne (Line (Rtree column)) old new
led_by_rtree old new column h carries = record {
  carries = carries;
  sketched = h.sketched;
  takes = λ told setting is limits. let p = h.passes setting is limits in record { before = p.0; behind = p.1 told };
  becomes = λ told setting is limits. h.becomes told setting.gap is.gap;
}
