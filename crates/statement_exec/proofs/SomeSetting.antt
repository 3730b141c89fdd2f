-- A setting of any store.
use Rattle.std.proofs.Common.{Bool, true, false, None, sym, ap, true≢false}
use Rattle.ring_geom.proofs.Measured.{measured}
use Rattle.sand_model.specs.StatementChecks.{Setting, IsSetting, FileRows, AreRows, HasBad}
use Rattle.sand_store.specs.Catalog.{StoreState}

-- a setting of the store, whose files' rows are none
abbrev pub some_setting : StoreState → Setting
some_setting old = record {
  gap = measured.0;
  limits = old.catalog.limits;
  files = λ name. None;
  rows_of = λ bytes schema header. HasBad 0 0;
  tells = false;
}

abbrev is_records : FileRows → Bool
is_records (AreRows rows) = true
is_records (HasBad row column) = false

pub is_some_setting : (old : StoreState) → IsSetting (some_setting old)
is_some_setting old = record {
  gap = measured.1;
  rows_of = λ bytes schema header rows e. absurd (true≢false (sym (ap is_records e)));
}
