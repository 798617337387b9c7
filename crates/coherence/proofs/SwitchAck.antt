-- An acknowledgement that comes to the switch keeps all that is true.
use Rattle.std.proofs.Common.{◌≡◌, ◌⊎◌, inl, inr, refl, sym, ℕ, ◌+◌, ◌==◌, true, false, List, [], ◌∷◌, Option, Some, None, subst, ap, arith, ◌∙◌, eq-eqb, eqb-true, ◌≤◌}
use Rattle.std.specs.Prelude.{if◌then◌else◌}
use Rattle.std.proofs.lemmas.Bool.Decides.{nat_tests}
use Rattle.mind_base.specs.Page.{PageView}
use Rattle.mind_base.specs.Range.{in_range}
use Rattle.page_cache.specs.PageCache.{is_writable}
use Rattle.region_directory.specs.declared.entries.Busy.{Busy}
use Rattle.invalidate_multicast.specs.Blades.{has_blade}
use Rattle.page_cache.proofs.Callers.{same_page-refl}
use Rattle.wire_msg.specs.declared.msgs.Msg.{Msg}
use Rattle.wire_msg.specs.declared.msgs.Msg.TheVariants.{Fill, Back, Inv, Lower, Ack}
use Rattle.coherence.specs.Counts.{bit, is_back, is_fill, is_call, is_ack, total, none_is}
use Rattle.coherence.specs.World.{Region, World, put}
use Rattle.coherence.specs.Facts.{IsCoherent, IsUp, AreUps, IsDown, AreDowns, AreWritten, AreAnswered, AreCalled, AreFetches, AreFrames, AreNumbered, AreBlocks, AreTargets, IsTarget, IsFetch, KeepsAtMost, WaitsSomewhere, transition, names}
use Rattle.coherence.proofs.Changes.{by-test, by-number}
use Rattle.coherence.proofs.Lists.{total-none_is, none_is-total, among-not, ups_kept, downs_kept}
use Rattle.coherence.specs.Moves.{May, moved, HearsAck, acknowledged, region_answered}
use Rattle.coherence.proofs.SwitchEntries.{frame_let, fill_let, entries_moved}
use Rattle.coherence.proofs.SwitchTransitions.{transition_tells}
use Rattle.coherence.proofs.SwitchAnswer.{left, acked_entry, left_other, left_gone, left_stays, held_acked, writer_acked, transition_before, transition_still, idle_acked, range_acked, stood}

module _ (w : World) (c n count : ℕ) (behind : List Msg) (head : w.ups c ≡ Ack n count ∷ behind) (safe : IsCoherent w) where
  first : AreUps w c (Ack n count ∷ behind)
  first = subst (AreUps w c) head (safe.ups c)

  -- what the acknowledgement says of a page of its transition
  promise : (b : ℕ) (p : PageView) → b ≡ c → (under : Busy) → transition n (w.regions p) ≡ Some under → KeepsAtMost (w.frames b p) (w.downs b) behind p b under
  promise b p same under is = subst (λ k. KeepsAtMost (w.frames k p) (w.downs k) behind p k under) (sym same) (first.0.1 p under is)

  -- the number is in no other message from the blade or to it
  alone : (none_is (is_call n) (w.downs c) ≡ true) × (none_is (is_ack n) behind ≡ true)
  alone = let waits = first.0.0 in let known = safe.called c n waits.0 waits.1 waits.2 in
      let two : total (is_ack n) (w.ups c) ≡ bit (n == n) + total (is_ack n) behind = ap (total (is_ack n)) head in
      let one : bit (n == n) ≡ 1 = ap bit (eq-eqb n n refl) in
      let most : bit (has_blade waits.1.waiting c) ≡ 1 = ap bit waits.3 in
      (total-none_is (is_call n) (w.downs c) (omega arith), total-none_is (is_ack n) behind (omega arith))

  frames_acked : AreFrames (acknowledged c n behind w)
  frames_acked b p frame is =
      frame_let (held_acked n c (w.regions p) b (λ same under at. target under (promise b p same under at).left))
      (λ writable. writer_acked n c (w.regions p) b (λ same under at. unwritable writable under (promise b p same under at).left)) (safe.frames b p frame is)
    where
      target : (under : Busy) → (w.frames b p ≡ None) ⊎ ((is_writable (w.frames b p) ≡ false) × (names under.target b ≡ true)) → names under.target b ≡ true
      target under (inl gone) = absurd (cc (gone, is))
      target under (inr kept) = kept.1

      unwritable : frame.writable ≡ true → (under : Busy) → (w.frames b p ≡ None) ⊎ ((is_writable (w.frames b p) ≡ false) × (names under.target b ≡ true)) → ⊥
      unwritable writable under (inl gone) = absurd (cc (gone, is))
      unwritable writable under (inr kept) = let e = subst (λ o. is_writable o ≡ false) is kept.0 in absurd (cc (e, writable))

  -- other blades and other transitions are waited for as before
  waits_acked : (number b : ℕ) → (b ≡ c → number ≡ n → ⊥) → WaitsSomewhere w.regions number b → WaitsSomewhere (acknowledged c n behind w).regions number b
  waits_acked number b other (p, under, is, waits) = let still = transition_still n c number b (w.regions p) under other is waits in (p, still.under, still.is, still.waits)

  -- ---- up queues

  up_acked : (b : ℕ) (m : Msg) (later : List Msg) → (b ≡ c → is_ack n m ≡ false) → (b ≡ c → (p : PageView) (under : Busy) → transition n (w.regions p) ≡ Some under → is_back p m ≡ false)
      → IsUp w b m later → IsUp (acknowledged c n behind w) b m later
  up_acked b (Back p image) later others apart up = record {
    writer = writer_acked n c (w.regions p) b (λ same under at. let none = apart same p under at in let here = same_page-refl p in absurd (cc (none, here))) up.writer;
    newest = up.newest;
    lowered = up.lowered;
    unfilled = up.unfilled;
    placed = up.placed;
    unwanted = up.unwanted;
  }
  up_acked b (Ack number much) later others apart up = (
    waits_acked number b (λ same number_same. let none = others same in let t = eq-eqb n number (sym number_same) in absurd (cc (none, t))) up.0,
    λ p under is. let before = transition_before n c number (w.regions p) under is in
        let keeps = up.1 p before.first before.is in
        record { back = keeps.back; fill = keeps.fill; left = subst (λ u. (w.frames b p ≡ None) ⊎ ((is_writable (w.frames b p) ≡ false) × (names u.target b ≡ true))) (sym before.now) keeps.left },
  )
  up_acked b m later others apart up = up

  ups_acked : (b : ℕ) (q : List Msg) → (b ≡ c → none_is (is_ack n) q ≡ true) → (b ≡ c → (p : PageView) (under : Busy) → transition n (w.regions p) ≡ Some under → none_is (is_back p) q ≡ true)
      → AreUps w b q → AreUps (acknowledged c n behind w) b q
  ups_acked b q others apart = ups_kept w (acknowledged c n behind w) b q (λ m later among up.
      up_acked b m later (λ same. among-not (is_ack n) m q among (others same)) (λ same p under is. among-not (is_back p) m q among (apart same p under is)) up)

  -- ---- down queues

  down_acked : (b : ℕ) (m : Msg) (later : List Msg) → (b ≡ c → is_call n m ≡ false) → (b ≡ c → (p : PageView) (under : Busy) → transition n (w.regions p) ≡ Some under → is_fill p m ≡ false)
      → IsDown w b m later → IsDown (acknowledged c n behind w) b m later
  down_acked b (Fill p perm writable image) later others apart down = fill_let (held_acked n c (w.regions p) b (λ same under at. absurd (none same under at))) (writer_acked n c (w.regions p) b none) down where
    none : b ≡ c → (under : Busy) → transition n (w.regions p) ≡ Some under → ⊥
    none same under at = let e = apart same p under at in let here = same_page-refl p in absurd (cc (e, here))
  down_acked b (Inv number range asked) later others apart down = (
    waits_acked number b (λ same number_same. let none = others same in let t = eq-eqb n number (sym number_same) in absurd (cc (none, t))) down.0,
    λ p under is. let before = transition_before n c number (w.regions p) under is in
        let call = down.1 p before.first before.is in record { block = call.block; fill = call.fill },
  )
  down_acked b (Lower number range asked) later others apart down = (
    waits_acked number b (λ same number_same. let none = others same in let t = eq-eqb n number (sym number_same) in absurd (cc (none, t))) down.0,
    λ p under is. let before = transition_before n c number (w.regions p) under is in
        let call = down.1 p before.first before.is in
        (record { block = call.0.block; fill = call.0.fill }, subst (λ u. names u.target b ≡ true) (sym before.now) call.1),
  )
  down_acked b m later others apart down = down

  downs_acked : (b : ℕ) (q : List Msg) → (b ≡ c → none_is (is_call n) q ≡ true) → (b ≡ c → (p : PageView) (under : Busy) → transition n (w.regions p) ≡ Some under → none_is (is_fill p) q ≡ true)
      → AreDowns w b q → AreDowns (acknowledged c n behind w) b q
  downs_acked b q others apart = downs_kept w (acknowledged c n behind w) b q (λ m later among down.
      down_acked b m later (λ same. among-not (is_call n) m q among (others same)) (λ same p under is. among-not (is_fill p) m q among (apart same p under is)) down)

  -- ---- counts

  answered_acked : AreAnswered (acknowledged c n behind w)
  answered_acked b p = grind (arith, nat_tests, safe.answered b p)

  written_acked : AreWritten (acknowledged c n behind w)
  written_acked p place lies clean = safe.written p place lies (λ b. let h = clean b in (h.0, grind (arith, nat_tests, h.1)))

  -- the count of one blade and number, by whether it is the one of the acknowledgement
  called_acked : AreCalled (acknowledged c n behind w)
  called_acked b k p under is =
      let before = transition_before n c k (w.regions p) under is in
      let number = (transition_tells k (w.regions p) before.first before.is).number in
      let now = by-number (λ x t. total (is_call k) (w.downs x) + total (is_ack k) (w.ups x) ≡ bit (has_blade before.first.waiting x)
      → total (is_call k) (w.downs x) + total (is_ack k) (if t then behind else w.ups x) ≡ bit (has_blade (left n c before.first) x)) b c
      (λ known. own k before.first number known)
      (λ away known. known ∙ sym (ap bit (left_other n c before.first b (λ same. let t = eq-eqb b c same in absurd (cc (away, t)))))) (safe.called b k p before.first before.is) in
      subst (λ u. total (is_call k) (w.downs b) + total (is_ack k) (put c behind w.ups b) ≡ bit (has_blade u.waiting b)) (sym before.now) now
    where
      own : (k : ℕ) (was : Busy) → was.number ≡ k → total (is_call k) (w.downs c) + total (is_ack k) (w.ups c) ≡ bit (has_blade was.waiting c)
          → total (is_call k) (w.downs c) + total (is_ack k) behind ≡ bit (has_blade (left n c was) c)
      own k was number known = by-test (λ t. (k == n) ≡ t → total (is_call k) (w.downs c) + total (is_ack k) behind ≡ bit (has_blade (left n c was) c)) (k == n)
          (λ _ e. let same : k ≡ n = eqb-true k n e in
          let calls = none_is-total (is_call n) (w.downs c) alone.0 in
          let acks = none_is-total (is_ack n) behind alone.1 in
          let gone = ap bit (left_gone n c was (number ∙ same)) in
          subst (λ j. total (is_call j) (w.downs c) + total (is_ack j) behind ≡ bit (has_blade (left n c was) c)) (sym same) (omega arith))
          (λ _ e. let acks : total (is_ack k) (w.ups c) ≡ bit (k == n) + total (is_ack k) behind = ap (total (is_ack k)) head in
          let none : bit (k == n) ≡ 0 = ap bit e in
          let stays = ap (λ j. bit (has_blade j c)) (left_stays n c was (λ same. let t = eq-eqb k n (sym number ∙ same) in absurd (cc (e, t)))) in
          omega arith) refl

  -- ---- the switch

  fetches_acked : AreFetches (acknowledged c n behind w)
  fetches_acked b p v is fetching =
      let f = safe.fetches b p v is fetching in
      subst (λ o. IsFetch o (w.perms p) v.write b) (sym (idle_acked n c (w.regions p) f.idle)) f

  numbered_acked : AreNumbered (acknowledged c n behind w)
  numbered_acked p r under is at =
      let was = stood n c (w.regions p) r under is at in
      subst (λ u. u.number ≤ w.last) (sym was.now) (safe.numbered p was.first was.before was.entry was.busy)

  targets_acked : AreTargets (acknowledged c n behind w)
  targets_acked p r under is at =
      let was = stood n c (w.regions p) r under is at in
      let before = safe.targets p was.first was.before was.entry was.busy in
      subst (λ s. IsTarget s under) (sym was.state) (subst (λ u. IsTarget was.first.state u) (sym was.now) before)

  blocks_acked : AreBlocks (acknowledged c n behind w)
  blocks_acked p r is = by (w.regions p) refl where
    by : (o : Option Region) → w.regions p ≡ o
        → (in_range r.range p ≡ true) × ((other : PageView) → in_range r.range other ≡ true → region_answered n c (w.regions other) ≡ Some r)
    by None e = absurd (let t = ap (region_answered n c) e in cc (t, is))
    by (Some region) e =
        let block = safe.blocks p region e in
        let now : region_answered n c (Some region) ≡ Some r = sym (ap (region_answered n c) e) ∙ is in
        let same : acked_entry n c region ≡ r = cc (now) in
        let range : r.range ≡ region.range = sym (ap (λ x. x.range) same) ∙ range_acked n c region in (
          subst (λ x. in_range x p ≡ true) (sym range) block.0,
          λ other within. ap (region_answered n c) (block.1 other (subst (λ x. in_range x other ≡ true) range within)) ∙ now,
        )

  all_acked : IsCoherent (acknowledged c n behind w)
  all_acked = let after = acknowledged c n behind w in entries_moved after.regions w.last after.ups w.downs w safe
      frames_acked
      (λ b. by-number (λ x t. AreUps after x (if t then behind else w.ups x)) b c
      (ups_acked c behind (λ _. alone.1) (λ _ p under is. (first.0.1 p under is).back) first.1)
      (λ away. ups_acked b (w.ups b) (λ same. let t = eq-eqb b c same in absurd (cc (away, t))) (λ same. let t = eq-eqb b c same in absurd (cc (away, t))) (safe.ups b)))
      (λ b. downs_acked b (w.downs b) (λ same. subst (λ x. none_is (is_call n) (w.downs x) ≡ true) (sym same) alone.0) (λ same p under is. (promise b p same under is).fill) (safe.downs b))
      answered_acked called_acked fetches_acked numbered_acked blocks_acked targets_acked written_acked

pub hears_ack : (w : World) (blade number count : ℕ) (behind : List Msg) → IsCoherent w → May w (HearsAck blade number count behind) → IsCoherent (moved w (HearsAck blade number count behind))
hears_ack w blade number count behind safe head = all_acked w blade number count behind head safe
