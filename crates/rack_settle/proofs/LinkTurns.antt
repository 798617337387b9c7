-- One link: the delivery of a frame and sending again leave it less to do.
use Rattle.std.proofs.Common.{◌≡◌, refl, sym, ap, subst, ◌∙◌, ℕ, ◌+◌, ◌-◌, ◌*◌, ◌%◌, ◌^◌, ◌<◌, ◌≤◌, min, Bool, true, false, ◌||◌, List, [], ◌∷◌, ◌++◌, length, slice_get, Some, arith, ltb-true, ltb-false, lt-ltb, eqb-true, eq-eqb, length-append, add-zero}
use Rattle.std.specs.Prelude.{if◌then◌else◌, nat_lt}
use Rattle.std.specs.List.{list_any, remove}
use Rattle.std.proofs.lemmas.Bool.{false≢true}
use Rattle.std.proofs.lemmas.List.Folds.{list_any-append}
use Rattle.link_retry.specs.Link.{LinkView, IsLink, FrameReceives, Acknowledges, DeliversMessage, DeliversAck, FrameDelivers, Resends, first_kept, expected, wire_of}
use Rattle.link_retry.specs.Wire.{frame_at, without_frame, with_frame}
use Rattle.mind_base.specs.declared.links.Side.{Side}
use Rattle.mind_base.specs.declared.links.Side.TheVariants.{Messages, Acks}
use Rattle.rack_net.specs.Net.{NetLink, spelled}
use Rattle.rack_settle.specs.Turns.{will_pass, is_hopeful, keeping_left, frames_left, link_turns, most_link_turns}

-- ---- wires

first-place : (wire : List ℕ) → 0 % length wire ≡ 0
first-place wire = omega arith

first-frame : (number : ℕ) (rest : List ℕ) → frame_at (number ∷ rest) 0 ≡ Some number
first-frame number rest = ap (slice_get (number ∷ rest)) (first-place (number ∷ rest))

without-first : (wire rest : List ℕ) (number : ℕ) → wire ≡ number ∷ rest → without_frame wire 0 ≡ rest
without-first wire rest number is = ap (λ w. without_frame w 0) is ∙ ap (remove (number ∷ rest)) (first-place (number ∷ rest))

length-with_frame : (wire : List ℕ) (number : ℕ) → length (with_frame wire number) ≤ length wire + 1
length-with_frame wire number = by (nat_lt (length wire) 64) where
  by : (b : Bool) → length (if b then wire ++ number ∷ [] else wire) ≤ length wire + 1
  by true = omega (arith, length-append wire (number ∷ []))
  by false = omega arith

-- ---- what is compared

-- the flag of a link that is as hopeful as another is no greater
flag-le : (old new : Bool) → (old ≡ true → new ≡ true) → (if new then 0 else 1) ≤ (if old then 0 else 1)
flag-le true new stays = subst (λ b. (if b then 0 else 1) ≤ 0) (sym (stays refl)) (omega arith)
flag-le false true stays = omega arith
flag-le false false stays = omega arith

flag-small : (b : Bool) → (if b then 0 else 1) ≤ 1
flag-small true = omega arith
flag-small false = omega arith

-- ---- the frame of a message

-- hope stays
any-stays : (first number : ℕ) (wire : List ℕ) → list_any (λ n. nat_lt first n) wire ≡ true → list_any (λ n. nat_lt first n) (wire ++ number ∷ []) ≡ true
any-stays first number wire some = list_any-append (λ n. nat_lt first n) wire (number ∷ []) ∙ ap (λ b. b || list_any (λ n. nat_lt first n) (number ∷ [])) some

passes-alone : (first number : ℕ) → first < number → list_any (λ n. nat_lt first n) (number ∷ []) ≡ true
passes-alone first number lt = ap (λ b. b || false) (lt-ltb first number lt)

message-hope : (first number next : ℕ) (rest messages acks : List ℕ) → (number ≤ first → number < next)
    → will_pass first (number ∷ rest) acks ≡ true → will_pass first messages (with_frame acks next) ≡ true
message-hope first number next rest messages [] passes is =
    let same : number ≡ first = eqb-true number first is in
    passes-alone first next (let lt : number < next = passes (omega arith) in omega arith)
message-hope first number next rest messages (ack ∷ acks) passes is = by (nat_lt (length (ack ∷ acks)) 64) where
  by : (b : Bool) → will_pass first messages (if b then (ack ∷ acks) ++ next ∷ [] else ack ∷ acks) ≡ true
  by true = any-stays first next (ack ∷ acks) is
  by false = is

message_delivered : (old new : NetLink) (number : ℕ) (rest : List ℕ) (taken : List (List ℕ)) → old.messages ≡ number ∷ rest
    → FrameReceives (spelled old) 0 number taken (spelled new) → link_turns new < link_turns old
message_delivered old new number rest taken is received = omega (arith, frames, flag-le (is_hopeful old) (is_hopeful new) hope) where
  kept : new.kept ≡ old.kept
  kept = received.kept

  same_first : first_kept (spelled new) ≡ first_kept (spelled old)
  same_first = ap (λ n. n - new.kept) received.next ∙ ap (λ k. old.next - k) received.kept

  frames : frames_left new < frames_left old
  frames =
      let messages : length new.messages ≡ length rest = ap length (received.messages ∙ without-first old.messages rest number is) in
      let acks : length new.acks ≤ length old.acks + 1 = subst (λ w. length w ≤ length old.acks + 1) (sym received.acks) (length-with_frame old.acks (expected (spelled new))) in
      let before : length old.messages ≡ length (number ∷ rest) = ap length is in
      omega arith

  hope : is_hopeful old ≡ true → is_hopeful new ≡ true
  hope was =
      subst (λ f. will_pass f new.messages new.acks ≡ true) (sym same_first)
      (subst (λ w. will_pass (first_kept (spelled old)) new.messages w ≡ true) (sym received.acks)
      (message-hope (first_kept (spelled old)) number (expected (spelled new)) rest new.messages old.acks received.passes
      (subst (λ w. will_pass (first_kept (spelled old)) w old.acks ≡ true) is was)))

-- ---- the frame of an acknowledgement

-- one that does not pass is not the one that was hoped for
ack-hope : (first number : ℕ) (messages rest : List ℕ) → nat_lt first number ≡ false → will_pass first messages (number ∷ rest) ≡ true → will_pass first messages rest ≡ true
ack-hope first number messages [] not is = absurd (false≢true (sym (ap (λ b. b || false) not) ∙ is))
ack-hope first number messages (ack ∷ acks) not is = sym (ap (λ b. b || list_any (λ n. nat_lt first n) (ack ∷ acks)) not) ∙ is

-- as many are kept where the acknowledgement passes none of them
kept-stays : (new old first number : ℕ) → (new < old → first < number) → new ≤ old → number ≤ first → new ≡ old
kept-stays new old first number falls le below = by (nat_lt new old) refl where
  by : (b : Bool) → nat_lt new old ≡ b → new ≡ old
  by true lt = let passes = falls (ltb-true new old lt) in let never : ⊥ = omega (arith, passes, below) in absurd never
  by false ge = let not = ltb-false new old ge in omega (arith, le, not)

ack_delivered : (old new : NetLink) (number : ℕ) (rest : List ℕ) (taken : List (List ℕ)) → old.acks ≡ number ∷ rest
    → IsLink (spelled old) → Acknowledges (spelled old) 0 number taken (spelled new) → link_turns new < link_turns old
ack_delivered old new number rest taken is link acked = by (nat_lt (first_kept (spelled old)) number) refl where
  messages : length new.messages ≡ length old.messages
  messages = ap length acked.messages

  left : new.acks ≡ rest
  left = acked.acks ∙ without-first old.acks rest number is

  acks : length new.acks + 1 ≡ length old.acks
  acks =
      let after : length new.acks ≡ length rest = ap length left in
      let before : length old.acks ≡ length (number ∷ rest) = ap length is in
      omega arith

  -- the number that is kept rises in sending alone
  no_more : new.kept ≤ old.kept
  no_more = let after : new.kept ≡ min old.kept (old.next - number) = acked.kept in omega arith

  by : (b : Bool) → nat_lt (first_kept (spelled old)) number ≡ b → link_turns new < link_turns old
  by true passes =
      let fewer : new.kept < old.kept = acked.falls.1 (ltb-true (first_kept (spelled old)) number passes) in
      let most : length old.messages ≤ 64 = link.messages in
      let most_acks : length old.acks ≤ 64 = link.acks in
      omega (arith, messages, acks, flag-small (is_hopeful new))
  by false not =
      let kept : new.kept ≡ old.kept = kept-stays new.kept old.kept (first_kept (spelled old)) number acked.falls.0 no_more (ltb-false (first_kept (spelled old)) number not) in
      let same_first : first_kept (spelled new) ≡ first_kept (spelled old) = ap (λ n. n - new.kept) acked.next ∙ ap (λ k. old.next - k) kept in
      let hope : is_hopeful old ≡ true → is_hopeful new ≡ true = λ was.
      subst (λ f. will_pass f new.messages new.acks ≡ true) (sym same_first)
      (subst (λ w. will_pass (first_kept (spelled old)) w new.acks ≡ true) (sym acked.messages)
      (subst (λ w. will_pass (first_kept (spelled old)) old.messages w ≡ true) (sym left)
      (ack-hope (first_kept (spelled old)) number old.messages rest not (subst (λ w. will_pass (first_kept (spelled old)) old.messages w ≡ true) is was)))) in
      omega (arith, messages, acks, flag-le (is_hopeful old) (is_hopeful new) hope)

-- ---- the first frame of either wire

message_falls : (old new : NetLink) (taken : List (List ℕ)) (wire : List ℕ) → old.messages ≡ wire → 0 < length wire
    → DeliversMessage (spelled old) 0 (frame_at wire 0) taken (spelled new) → link_turns new < link_turns old
message_falls old new taken [] is some given = absurd (omega (arith, some))
message_falls old new taken (number ∷ rest) is some given =
    message_delivered old new number rest taken is (subst (λ f. DeliversMessage (spelled old) 0 f taken (spelled new)) (first-frame number rest) given)

ack_falls : (old new : NetLink) (taken : List (List ℕ)) (wire : List ℕ) → old.acks ≡ wire → 0 < length wire
    → IsLink (spelled old) → DeliversAck (spelled old) 0 (frame_at wire 0) taken (spelled new) → link_turns new < link_turns old
ack_falls old new taken [] is some link given = absurd (omega (arith, some))
ack_falls old new taken (number ∷ rest) is some link given =
    ack_delivered old new number rest taken is link (subst (λ f. DeliversAck (spelled old) 0 f taken (spelled new)) (first-frame number rest) given)

pub link_delivered : (side : Side) (old new : NetLink) (taken : List (List ℕ)) → IsLink (spelled old) → 0 < length (wire_of (spelled old) side)
    → FrameDelivers (spelled old) side 0 taken (spelled new) → link_turns new < link_turns old
link_delivered Messages old new taken link some given = message_falls old new taken old.messages refl some given
link_delivered Acks old new taken link some given = ack_falls old new taken old.acks refl some link given

-- ---- sending again

-- the frames that are sent begin with that of the first kept message
begins : (first : ℕ) (frames : List ℕ) → slice_get frames 0 ≡ Some first → will_pass first frames [] ≡ true
begins first [] is = let never : ⊥ = cc in absurd never
begins first (frame ∷ frames) is = eq-eqb frame first (let same : frame ≡ first = cc in same)

pub sent_again : (old new : NetLink) → old.messages ≡ [] → old.acks ≡ [] → 0 < old.kept → Resends (spelled old) (spelled new) → link_turns new < link_turns old
sent_again old new no_messages no_acks some sent =
    omega (arith, kept, after, before, length_messages, length_acks) where
      frames : List ℕ
      frames = sent.0

      kept : new.kept ≡ old.kept
      kept = ap (λ (l : LinkView). l.kept) sent.2

      next : new.next ≡ old.next
      next = ap (λ (l : LinkView). l.next) sent.2

      messages : new.messages ≡ frames
      messages = ap (λ (l : LinkView). l.messages) sent.2 ∙ ap (λ m. m ++ frames) no_messages

      acks : new.acks ≡ []
      acks = ap (λ (l : LinkView). l.acks) sent.2 ∙ no_acks

      same_first : first_kept (spelled new) ≡ first_kept (spelled old)
      same_first = ap (λ n. n - new.kept) next ∙ ap (λ k. old.next - k) kept

      length_messages : length new.messages ≤ 64
      length_messages =
          let room : length old.messages + length frames ≤ 64 = sent.1.room in
          let is : length new.messages ≡ length frames = ap length messages in
          omega arith

      length_acks : length new.acks ≡ 0
      length_acks = ap length acks

      first : slice_get frames 0 ≡ Some (first_kept (spelled old))
      first = sent.1.first some (let none : length old.messages ≡ 0 = ap length no_messages in omega arith)

      hope : is_hopeful new ≡ true
      hope =
          subst (λ f. will_pass f new.messages new.acks ≡ true) (sym same_first)
          (subst (λ w. will_pass (first_kept (spelled old)) w new.acks ≡ true) (sym messages)
          (subst (λ w. will_pass (first_kept (spelled old)) frames w ≡ true) (sym acks) (begins (first_kept (spelled old)) frames first)))

      hopeless : is_hopeful old ≡ false
      hopeless =
          ap (λ w. will_pass (first_kept (spelled old)) w old.acks) no_messages
          ∙ ap (λ w. will_pass (first_kept (spelled old)) [] w) no_acks

      after : keeping_left new ≡ 2 * new.kept
      after = ap (λ b. 2 * new.kept + (if b then 0 else 1)) hope ∙ add-zero (2 * new.kept)

      before : keeping_left old ≡ 2 * old.kept + 1
      before = ap (λ b. 2 * old.kept + (if b then 0 else 1)) hopeless

-- ---- how much it can be

pub turns-small : (link : NetLink) → IsLink (spelled link) → link_turns link < most_link_turns
turns-small link is =
    let kept : link.kept ≤ link.next = is.kept in
    let next : link.next < 2 ^ 32 = is.next in
    let messages : length link.messages ≤ 64 = is.messages in
    let acks : length link.acks ≤ 64 = is.acks in
    omega (arith, flag-small (is_hopeful link))
