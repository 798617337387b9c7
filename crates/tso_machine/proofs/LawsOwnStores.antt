-- Own store seen: at once, and as long as it waits.
use Rattle.std.proofs.Common.{◌≡◌, ℕ, ◌∙◌, ap, sym, subst, List, [], ◌∷◌, ◌++◌, IsTrue, IsFalse, Some, append-nil}
use Rattle.std.specs.List.{flat_map}
use Rattle.std.specs.Option.{option_map, option_to_list}
use Rattle.std.proofs.lemmas.List.Elements.{All-nil, All-same}
use Rattle.std.proofs.lemmas.Option.{same_Some, none-some}
use Rattle.mind_base.specs.Pending.{PendingView, covers, byte_at}
use Rattle.hart_effect.specs.Thread.{Thread}
use Rattle.tso_machine.specs.State.{Setup, State}
use Rattle.tso_machine.specs.Memory.{byte_of}
use Rattle.tso_machine.specs.Step.{after, bytes_of}
use Rattle.tso_machine.specs.Laws.{sees, SeesAtOnce, SeesOwnStore}
use Rattle.tso_machine.specs.Orders.{store_event, effect_of, writes_of}
use Rattle.tso_machine.specs.declared.labels.Label.{Label}
use Rattle.tso_machine.specs.declared.labels.Label.TheVariants as label
use Rattle.tso_machine.proofs.LawsDeeds.{thread_of, Changes, Stays, Waits, AtOnce, Drains, Stepped, mapped-some, stepped-exec}
use Rattle.tso_machine.proofs.LawsRuns.{step-after}
use Rattle.tso_machine.proofs.LawsSteps.{own-after, step-writes}
use Rattle.tso_machine.proofs.LawsSeen.{sees-newest, sees-memory, sees-as_if_drained, byte-stored}

-- what a thread sees right after it executed a store, by what its deed did to its buffer
seen-after : (u : Setup) (s m : State) (hart : ℕ) → after u s (label.Exec hart) ≡ Some m → (st : Stepped u s m (label.Exec hart) hart)
    → (store : PendingView) → st.store ≡ Some store → (thread : Thread) → thread.buffer ≡ (thread_of st.deed).buffer
    → (address : ℕ) → IsTrue (covers store address) → sees m st.plan.domain thread address ≡ byte_at store address
seen-after u s m hart e st store is thread same address covered = by_change st.changes where
  by_change : Changes st.thread.buffer st.deed st.store → sees m st.plan.domain thread address ≡ byte_at store address
  by_change (Stays none still kept) = absurd (none-some store (sym none ∙ is))
  by_change (Drains oldest none effect split) = absurd (none-some store (sym none ∙ is))
  by_change (Waits newest some still more) = sees-newest m st.plan.domain thread address store (record {
    before = st.thread.buffer;
    behind = [];
    split = same ∙ more ∙ ap (λ x. st.thread.buffer ++ x ∷ []) (same_Some _ _ (sym some ∙ is));
    passes = covered;
    none_later = All-nil (λ x. IsFalse (covers x address));
  })
  by_change (AtOnce own some effect empty left) =
      let effect_is = effect ∙ sym some ∙ is in
      let written = step-writes u s m (label.Exec hart) e
      ∙ ap (λ o. s.writes ++ flat_map writes_of (option_to_list o)) (st.performed ∙ ap (option_map (effect_of hart st.plan.domain)) effect_is)
      ∙ ap (λ ws. s.writes ++ ws) (append-nil (bytes_of st.plan.domain store)) in
      let none = All-same (λ x. IsFalse (covers x address)) thread.buffer [] (same ∙ left) (All-nil (λ x. IsFalse (covers x address))) in
      sees-memory m st.plan.domain thread address none ∙ ap (λ ws. byte_of ws st.plan.domain address) written
      ∙ byte-stored s.writes st.plan.domain store address covered

at_once : (setup : Setup) (start : State) (labels : List Label) → SeesAtOnce setup start labels
at_once setup start labels hart before next step event executed domain thread is address covered =
    let e = step-after setup start labels before (label.Exec hart) next step in
    let st = stepped-exec setup before next hart e in
    let x = mapped-some (store_event hart st.plan.domain) st.store event (sym st.executed ∙ executed) in
    let same = same_Some _ _ (sym (ap (option_map (λ t. t.buffer)) is.there) ∙ own-after setup before next (label.Exec hart) hart st) in
    let in_domain : st.plan.domain ≡ domain = ap (λ p. p.domain) (same_Some _ _ (sym st.planned ∙ is.planned)) ∙ is.in_domain in
    let store_is : x.0 ≡ event.store = ap (λ ev. ev.store) x.2 in
    let P : ℕ → Type 0 = λ d. sees next d thread address ≡ byte_at event.store address in
    let Q : PendingView → Type 0 = λ s. IsTrue (covers s address) in
    subst P in_domain (seen-after setup before next hart e st x.0 x.1 thread same address (subst Q (sym store_is) covered) ∙ ap (λ s. byte_at s address) store_is)

pub sees_own_store : (setup : Setup) (start : State) (labels : List Label) → SeesOwnStore setup start labels
sees_own_store setup start labels = record {
  at_once = at_once setup start labels;
  while_it_waits = λ front state moment hart domain thread is address store newest. sees-newest state domain thread address store newest;
  as_if_drained = λ front state moment hart domain thread is address. sees-as_if_drained state domain thread address;
}
