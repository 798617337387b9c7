-- What a step does: what it writes, what it does to each thread's buffer, and which command it takes.
use Rattle.std.proofs.Common.{◌≡◌, ◌≢◌, ℕ, zero, suc, ◌<◌, true, false, eqb, eq-eqb, set, ◌∙◌, ap, sym, refl, subst, List, [], ◌∷◌, ◌++◌, length, Option, Some, inl, inr, ◌⊎◌, arith, append-nil}
use Rattle.std.specs.List.{flat_map}
use Rattle.std.specs.Option.{option_map, option_to_list}
use Rattle.std.proofs.lemmas.Option.{same_Some, slice_get_within}
use Rattle.std.proofs.lemmas.Bool.Decides.{eqb_tells}
use Rattle.mind_base.specs.Pending.{PendingView}
use Rattle.hart_effect.specs.Thread.{Thread}
use Rattle.tso_machine.specs.State.{Setup, State, Taken}
use Rattle.mind_base.specs.Place.{Granule, place_of, granule_at}
use Rattle.hart_effect.specs.Deed.{Deed, Alone, Storing}
use Rattle.tso_machine.specs.Step.{done_by, bytes_of, threads_off, after}
use Rattle.tso_machine.specs.Orders.{Zeroed, store_event, effect_of, in_effect, executes, zeroes, performs, store_if, stores_of, effect_if, effects_of, span_if, spans_of, accepted_spans, writes_of}
use Rattle.tso_machine.specs.declared.labels.Label.{Label}
use Rattle.tso_machine.specs.declared.labels.Label.TheVariants as label
use Rattle.tso_machine.proofs.LawsDeeds.{thread_of, Changes, Stays, Waits, AtOnce, Drains, Stepped, stepped-exec, stepped-drain}
use Rattle.tso_machine.proofs.LawsLists.{made-picked, made-passed}
use Rattle.tso_machine.proofs.LawsCommands.{Commanded, commanded, buffer_at, command-kept, command-writes, entry_of, command-taken, command-spans}

-- ---- labels

-- what is behind a label: a thread does its deed, or a command is taken
pub data Cause (u : Setup) (s m : State) (l : Label) : Type 0 where
  ByThread : (hart : ℕ) (stepped : Stepped u s m l hart) → Cause u s m l
  ByCommand : (index : ℕ) → l ≡ label.Command index → (commanded : Commanded u s m index) → Cause u s m l

pub cause_of : (u : Setup) (s m : State) (l : Label) → after u s l ≡ Some m → Cause u s m l
cause_of u s m (label.Exec hart) e = ByThread hart (stepped-exec u s m hart e)
cause_of u s m (label.Drain hart) e = ByThread hart (stepped-drain u s m hart e)
cause_of u s m (label.Command index) e = ByCommand index refl (commanded u s m index e)

-- ---- what a step writes

done-writes : (hart domain : ℕ) (s : State) (deed : Deed)
    → (done_by hart domain s deed).writes ≡ s.writes ++ flat_map writes_of (option_to_list (option_map (effect_of hart domain) (in_effect deed)))
done-writes hart domain s (Alone thread) = sym (append-nil s.writes)
done-writes hart domain s (Storing thread store) = ap (λ ws. s.writes ++ ws) (sym (append-nil (bytes_of domain store)))

pub step-writes : (u : Setup) (s m : State) (l : Label) → after u s l ≡ Some m → m.writes ≡ s.writes ++ flat_map writes_of (option_to_list (performs u s l))
step-writes u s m l e = by_label l (cause_of u s m l e) where
  by_label : (l : Label) → Cause u s m l → m.writes ≡ s.writes ++ flat_map writes_of (option_to_list (performs u s l))
  by_label l (ByThread hart st) = ap (λ x. x.writes) (sym st.leads) ∙ done-writes hart st.plan.domain s st.deed
      ∙ ap (λ o. s.writes ++ flat_map writes_of (option_to_list o)) (sym st.performed)
  by_label l (ByCommand index is c) = command-writes c ∙ ap (λ x. s.writes ++ flat_map writes_of (option_to_list (performs u s x))) (sym is)

-- ---- what a step does to the buffers

set-own : (threads : List Thread) (hart : ℕ) (thread : Thread) → hart < length threads → buffer_at (set threads hart thread) hart ≡ Some thread.buffer
set-own [] hart thread h = absurd (omega arith)
set-own (t ∷ threads) zero thread h = refl
set-own (t ∷ threads) (suc hart) thread h = set-own threads hart thread (omega arith)

set-other : (threads : List Thread) (hart other : ℕ) (thread : Thread) → other ≢ hart → buffer_at (set threads hart thread) other ≡ buffer_at threads other
set-other [] hart other thread h = refl
set-other (t ∷ threads) zero zero thread h = absurd (h refl)
set-other (t ∷ threads) zero (suc other) thread h = refl
set-other (t ∷ threads) (suc hart) zero thread h = refl
set-other (t ∷ threads) (suc hart) (suc other) thread h = set-other threads hart other thread (λ e. h (ap suc e))

off-kept : (granule : Granule) (threads : List Thread) (hart : ℕ) → buffer_at (threads_off granule threads) hart ≡ buffer_at threads hart
off-kept granule [] hart = refl
off-kept granule (t ∷ threads) zero = refl
off-kept granule (t ∷ threads) (suc hart) = off-kept granule threads hart

pub done-own : (hart domain : ℕ) (s : State) (deed : Deed) → hart < length s.threads → buffer_at (done_by hart domain s deed).threads hart ≡ Some (thread_of deed).buffer
done-own hart domain s (Alone thread) h = set-own s.threads hart thread h
done-own hart domain s (Storing thread store) h =
    off-kept (granule_at (place_of domain store.address)) (set s.threads hart thread) hart ∙ set-own s.threads hart thread h

done-other : (hart other domain : ℕ) (s : State) (deed : Deed) → other ≢ hart → buffer_at (done_by hart domain s deed).threads other ≡ buffer_at s.threads other
done-other hart other domain s (Alone thread) h = set-other s.threads hart other thread h
done-other hart other domain s (Storing thread store) h =
    off-kept (granule_at (place_of domain store.address)) (set s.threads hart thread) other ∙ set-other s.threads hart other thread h

-- the buffer of the thread of a step, before and after it
pub own-before : {u : Setup} {s m : State} {l : Label} {hart : ℕ} (st : Stepped u s m l hart) → buffer_at s.threads hart ≡ Some st.thread.buffer
own-before st = ap (option_map (λ thread. thread.buffer)) st.there

pub own-after : (u : Setup) (s m : State) (l : Label) (hart : ℕ) (st : Stepped u s m l hart) → buffer_at m.threads hart ≡ Some (thread_of st.deed).buffer
own-after u s m l hart st = ap (λ x. buffer_at x.threads hart) (sym st.leads)
    ∙ done-own hart st.plan.domain s st.deed (slice_get_within s.threads hart st.thread st.there)

-- what goes into a buffer comes out of it, or stays in it
changes-kept : (buffer : List PendingView) (deed : Deed) (store : Option PendingView) → Changes buffer deed store
    → buffer ++ option_to_list store ≡ option_to_list (in_effect deed) ++ (thread_of deed).buffer
changes-kept buffer deed store (Stays none still same) = rw (none, still, same) (append-nil buffer)
changes-kept buffer deed store (Waits s some still more) = rw (some, still, more) refl
changes-kept buffer deed store (AtOnce s some effect empty after) = rw (some, effect, empty, after) refl
changes-kept buffer deed store (Drains s none effect split) = rw (none, effect) (append-nil buffer ∙ split)

-- the stores of one thread among that of a step
pub own-event : (hart domain : ℕ) (o : Option PendingView) → stores_of hart (option_to_list (option_map (store_event hart domain) o)) ≡ option_to_list o
own-event hart domain o = made-picked (store_if hart) (store_event hart domain) (λ store. rw (eq-eqb hart hart refl) refl) o

other-event : (hart other domain : ℕ) (o : Option PendingView) → eqb hart other ≡ false → stores_of other (option_to_list (option_map (store_event hart domain) o)) ≡ []
other-event hart other domain o e = made-passed (store_if other) (store_event hart domain) (λ store. rw e refl) o

-- and among what takes effect
pub own-effect : (hart domain : ℕ) (o : Option PendingView) → effects_of hart (option_to_list (option_map (effect_of hart domain) o)) ≡ option_to_list o
own-effect hart domain o = made-picked (effect_if hart) (effect_of hart domain) (λ store. rw (eq-eqb hart hart refl) refl) o

other-effect : (hart other domain : ℕ) (o : Option PendingView) → eqb hart other ≡ false → effects_of other (option_to_list (option_map (effect_of hart domain) o)) ≡ []
other-effect hart other domain o e = made-passed (effect_if other) (effect_of hart domain) (λ store. rw e refl) o

-- what a step does to the buffer of thread number hart: the store that the thread executed goes in at its end,
-- and the one that takes effect comes out at its head
pub record Keeps (u : Setup) (s m : State) (l : Label) (hart : ℕ) (first : List PendingView) : Type 0 where
  pub next : List PendingView
  pub gets : buffer_at m.threads hart ≡ Some next
  pub kept : first ++ stores_of hart (option_to_list (executes u s l)) ≡ effects_of hart (option_to_list (performs u s l)) ++ next

own-keeps : (u : Setup) (s m : State) (l : Label) (hart : ℕ) → Stepped u s m l hart → (first : List PendingView) → buffer_at s.threads hart ≡ Some first
    → Keeps u s m l hart first
own-keeps u s m l hart st first has =
    let same : first ≡ st.thread.buffer = same_Some _ _ (sym has ∙ own-before st) in record {
      next = (thread_of st.deed).buffer;
      gets = own-after u s m l hart st;
      kept = rw (st.executed, st.performed, own-event hart st.plan.domain st.store, own-effect hart st.plan.domain (in_effect st.deed))
          (ap (λ b. b ++ option_to_list st.store) same ∙ changes-kept st.thread.buffer st.deed st.store st.changes);
    }

other-keeps : (u : Setup) (s m : State) (l : Label) (own hart : ℕ) → Stepped u s m l own → eqb own hart ≡ false → own ≢ hart
    → (first : List PendingView) → buffer_at s.threads hart ≡ Some first → Keeps u s m l hart first
other-keeps u s m l own hart st apart differs first has = record {
  next = first;
  gets = ap (λ x. buffer_at x.threads hart) (sym st.leads) ∙ done-other own hart st.plan.domain s st.deed (λ e. differs (sym e)) ∙ has;
  kept = rw (st.executed, st.performed, other-event own hart st.plan.domain st.store apart, other-effect own hart st.plan.domain (in_effect st.deed) apart) (append-nil first);
}

command-keeps : (u : Setup) (s m : State) (index : ℕ) → Commanded u s m index → (hart : ℕ) (first : List PendingView) → buffer_at s.threads hart ≡ Some first
    → Keeps u s m (label.Command index) hart first
command-keeps u s m index c hart first has = record {
  next = first;
  gets = command-kept c hart ∙ has;
  kept = append-nil first ∙ ap (λ xs. xs ++ first) (sym (made-passed (effect_if hart) Zeroed (λ span. refl) (zeroes u s index)));
}

pub step-keeps : (u : Setup) (s m : State) (l : Label) → after u s l ≡ Some m → (hart : ℕ) (first : List PendingView) → buffer_at s.threads hart ≡ Some first
    → Keeps u s m l hart first
step-keeps u s m l e hart first has = by_label (cause_of u s m l e) where
  by_thread : (own : ℕ) (st : Stepped u s m l own) → ((eqb own hart ≡ true) × (own ≡ hart)) ⊎ ((eqb own hart ≡ false) × (own ≢ hart)) → Keeps u s m l hart first
  by_thread own st (inl same) = let P : ℕ → Type 0 = λ h. Stepped u s m l h in own-keeps u s m l hart (subst P same.1 st) first has
  by_thread own st (inr apart) = other-keeps u s m l own hart st apart.0 apart.1 first has

  by_label : Cause u s m l → Keeps u s m l hart first
  by_label (ByThread own st) = by_thread own st (eqb_tells own hart)
  by_label (ByCommand index is c) =
      let P : Label → Type 0 = λ x. Keeps u s m x hart first in
      subst P (sym is) (command-keeps u s m index c hart first has)

-- ---- what a step does to the commands that were taken

-- one more is taken, or none, and what becomes zero is the span of one that is an accepted map
pub record Takes (u : Setup) (s m : State) (l : Label) : Type 0 where
  pub later : List Taken
  pub taken : m.taken ≡ s.taken ++ later
  pub zeroed : spans_of (option_to_list (performs u s l)) ≡ accepted_spans u.commands later

done-taken : (hart domain : ℕ) (s : State) (deed : Deed) → (done_by hart domain s deed).taken ≡ s.taken
done-taken hart domain s (Alone thread) = refl
done-taken hart domain s (Storing thread store) = refl

pub step-takes : (u : Setup) (s m : State) (l : Label) → after u s l ≡ Some m → Takes u s m l
step-takes u s m l e = by_label (cause_of u s m l e) where
  by_command : (index : ℕ) → Commanded u s m index → Takes u s m (label.Command index)
  by_command index c = record { later = entry_of u s index c.command ∷ []; taken = command-taken c; zeroed = command-spans c }

  by_label : Cause u s m l → Takes u s m l
  by_label (ByThread hart st) = record {
    later = [];
    taken = ap (λ x. x.taken) (sym st.leads) ∙ done-taken hart st.plan.domain s st.deed ∙ sym (append-nil s.taken);
    zeroed = ap (λ o. spans_of (option_to_list o)) st.performed ∙ made-passed span_if (effect_of hart st.plan.domain) (λ store. refl) (in_effect st.deed);
  }
  by_label (ByCommand index is c) = let P : Label → Type 0 = λ x. Takes u s m x in subst P (sym is) (by_command index c)
