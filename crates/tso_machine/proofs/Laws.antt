-- Each run keeps total store order.
use Rattle.std.proofs.Common.{List}
use Rattle.tso_machine.specs.State.{Setup, State}
use Rattle.tso_machine.specs.Laws.{KeepsTotalStoreOrder}
use Rattle.tso_machine.specs.declared.labels.Label.{Label}
use Rattle.tso_machine.proofs.LawsFences.{fenced_is_empty}
use Rattle.tso_machine.proofs.LawsOrder.{one_order}
use Rattle.tso_machine.proofs.LawsOwnStores.{sees_own_store}
use Rattle.tso_machine.proofs.LawsSources.{bytes_come_from_stores}

pub keeps_total_store_order : (setup : Setup) (start : State) (labels : List Label) → KeepsTotalStoreOrder setup start labels
keeps_total_store_order setup start labels = record {
  own_stores = sees_own_store setup start labels;
  sources = bytes_come_from_stores setup start labels;
  one_order = one_order setup start labels;
  fences = fenced_is_empty setup start labels;
}
