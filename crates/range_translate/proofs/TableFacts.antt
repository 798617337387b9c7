-- A table stays one when an outlier is entered or taken out.
use Rattle.std.proofs.Common.{◌≡◌, ◌≤◌, Bool, List, ◌∷◌, length, filter, All, subst, sym, arith}
use Rattle.std.proofs.lemmas.List.Elements.{All-append, All-cons, All-filter}
use Rattle.mind_base.specs.Range.{IsRange}
use Rattle.range_translate.specs.Place.{FitsOutlier}
use Rattle.range_translate.specs.Order.{IsOrdered, put_in_order}
use Rattle.range_translate.specs.Table.{TableView, IsTable}
use Rattle.range_translate.specs.declared.outliers.Outlier.{Outlier}
use Rattle.range_translate.proofs.BlockOrder.{before, after, ordered-filter, ordered-put}

abbrev pub IsBlock : Outlier → Type 0
IsBlock o = IsRange o.range.domain o.range.base o.range.log

all-put : (P : Outlier → Type 0) (o : Outlier) (xs : List Outlier) → P o → All P xs → All P (put_in_order o xs)
all-put P o xs h all = All-append P (filter (before o.range) xs) (o ∷ filter (after o.range) xs) (All-filter (before o.range) P xs all)
    (All-cons P o (filter (after o.range) xs) h (All-filter (after o.range) P xs all))

-- a table with other outliers
abbrev pub with_outliers : TableView → List Outlier → TableView
with_outliers table os = record { homes = table.homes; slots = table.slots; outliers = os }

pub IsTable-put : (table : TableView) (o : Outlier) (os : List Outlier) → IsTable table → os ≡ put_in_order o table.outliers → length os ≤ table.slots → IsBlock o → FitsOutlier o → IsTable (with_outliers table os)
IsTable-put table o os is e within block fits = record {
  apart = is.apart;
  few = is.few;
  spare = is.spare;
  ordered = subst IsOrdered (sym e) (ordered-put o table.outliers is.ordered);
  limit = is.limit;
  within = within;
  blocks = subst (All IsBlock) (sym e) (all-put IsBlock o table.outliers block is.blocks);
  fits = subst (All FitsOutlier) (sym e) (all-put FitsOutlier o table.outliers fits is.fits);
}

pub IsTable-filter : (table : TableView) (test : Outlier → Bool) (os : List Outlier) → IsTable table → os ≡ filter test table.outliers → length os ≤ length table.outliers → IsTable (with_outliers table os)
IsTable-filter table test os is e fewer = record {
  apart = is.apart;
  few = is.few;
  spare = is.spare;
  ordered = subst IsOrdered (sym e) (ordered-filter test table.outliers is.ordered);
  limit = is.limit;
  within = omega (arith, is.within);
  blocks = subst (All IsBlock) (sym e) (All-filter test IsBlock table.outliers is.blocks);
  fits = subst (All FitsOutlier) (sym e) (All-filter test FitsOutlier table.outliers is.fits);
}
