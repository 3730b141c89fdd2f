-- Where a change leads a store, and where nothing does.
use Rattle.std.proofs.Common.{◌≡◌, ℕ, List, [], ◌∷◌, Option, map, refl, sym, ap, ◌∙◌}
use Rattle.journal_replay.specs.LedBy.{LedByOne, sketched_by}
use Rattle.open_cursors.specs.OverPages.{LeavesPages}
use Rattle.sand_base.specs.Shelf.{Files}
use Rattle.sand_journal.specs.ChangeBody.{ChangeValue}
use Rattle.sand_store.specs.Calls.{IsUnchanged}
use Rattle.sand_store.specs.Catalog.{CatalogView, StoreState}
use Rattle.sand_store.specs.Contents.{database}
use Rattle.sand_store.specs.Sketches.{Sketch, sketch_of}
use Rattle.statement_exec.proofs.DecidedCalls.{sketched_in}
use Rattle.statement_exec.proofs.StoreCalls.{same_database}
use Rattle.statement_exec.specs.Moment.{moment_of, state_with}
use Rattle.line_exec.specs.KeptChanges.{LeadTo}

module _ (old new : StoreState) (files : Option Files) (shelf : ℕ) where
  -- a store that is as it was
  pub lead_none : IsUnchanged old new → LeadTo [] (moment_of old files shelf) (state_with [] (database new))
  lead_none same = record {
    sketched = sketched_in new.pool.pages new.catalog.relations ∙ ap (λ (k : CatalogView). map sketch_of k.relations) same.catalog
        ∙ sym (sketched_in old.pool.pages old.catalog.relations);
    takes = λ told setting is limits. tt;
    becomes = λ told setting is limits. same_database old new same told;
  }

  -- a store that a change led on
  pub lead_one : (change : ChangeValue) → LedByOne change old new → LeadTo (change ∷ []) (moment_of old files shelf) (state_with [] (database new))
  lead_one change led = record {
    sketched = sketched_in new.pool.pages new.catalog.relations ∙ led.sketched
        ∙ ap (λ (ss : List Sketch). sketched_by change ss) (sym (sketched_in old.pool.pages old.catalog.relations));
    takes = λ told setting is limits. (led.takes told setting is limits, tt);
    becomes = λ told setting is limits. led.becomes told setting is limits;
  }

-- a store that nothing was done to
pub unchanged_itself : (store : StoreState) → IsUnchanged store store
unchanged_itself store = record { catalog = refl; told = refl; pages = λ told. refl }

pub unchanged_same : (old new : StoreState) → new ≡ old → IsUnchanged old new
unchanged_same old new same =
    record { catalog = ap (λ (s : StoreState). s.catalog) same; told = ap (λ (s : StoreState). s.pool.disk.told) same; pages = λ told. ap (λ (s : StoreState). s.pool.pages) same }

-- a store that was only read
pub unchanged_read : (old mid new : StoreState) → mid ≡ old → new.catalog ≡ mid.catalog → LeavesPages mid.pool new.pool → IsUnchanged old new
unchanged_read old mid new same catalog left = record {
  catalog = catalog ∙ ap (λ (s : StoreState). s.catalog) same;
  told = left.told ∙ ap (λ (s : StoreState). s.pool.disk.told) same;
  pages = λ told. left.pages ∙ ap (λ (s : StoreState). s.pool.pages) same;
}
