-- A rack in which no message is kept is quiet: nobody waits for anything.
use Rattle.std.proofs.Common.{◌≡◌, refl, sym, ◌∙◌, ap, ℕ, ◌+◌, ◌*◌, ◌<◌, ◌≤◌, ◌^◌, ◌==◌, Bool, true, false, List, [], ◌∷◌, length, map, zero, suc, arith, Option, Some, None, All, get_or}
use Rattle.std.specs.Prelude.{if◌then◌else◌, slice_get, is_some, option_map, option_and_then}
use Rattle.std.specs.Int.{bit_at}
use Rattle.std.specs.List.{AllByRecursion, filter}
use Rattle.std.proofs.lemmas.Bool.{eq-eqb, false≢true}
use Rattle.std.proofs.lemmas.Bool.Decides.{nat_tests}
use Rattle.std.proofs.lemmas.Grind.{pow_more}
use Rattle.std.proofs.lemmas.Nat.{pow_pos}
use Rattle.std.proofs.lemmas.Nat.Bits.{bit_at-lt, bit_at-zero, same_from_bits_below}
use Rattle.std.proofs.lemmas.Option.{slice_get-get_or}
use Rattle.mind_base.specs.Page.{PageView}
use Rattle.mind_base.specs.Range.{RangeView, in_range}
use Rattle.mind_base.specs.declared.links.LinkKind.TheVariants.{Up, Down, To, From}
use Rattle.mind_base.specs.declared.links.LinkName.{LinkName}
use Rattle.mind_base.specs.Permission.{allows}
use Rattle.page_cache.proofs.Callers.{same_page-refl}
use Rattle.page_image.specs.PageImage.{PageImageView}
use Rattle.invalidate_multicast.specs.Blades.{has_blade}
use Rattle.invalidate_multicast.specs.Transition.{is_answered}
use Rattle.region_directory.specs.declared.entries.Busy.{Busy}
use Rattle.region_directory.specs.declared.entries.Entry.{Entry}
use Rattle.region_directory.proofs.Callers.{range-test_passes}
use Rattle.request_list.specs.Requests.{AskOncePerPage, fetched_pages}
use Rattle.request_list.specs.declared.requests.Request.{Request}
use Rattle.compute_blade.specs.Blade.{BladeView, request_for}
use Rattle.compute_blade.specs.declared.kept.Asked.{Asked}
use Rattle.wire_msg.specs.Spelling.{spelling}
use Rattle.wire_msg.specs.declared.msgs.Msg.{Msg}
use Rattle.rack_net.specs.Net.{NetView, IsNet, links_of}
use Rattle.switch_core.specs.Serving.{IsServed}
use Rattle.switch_core.specs.Switch.{SwitchView}
use Rattle.switch_core.proofs.Callers.{all-at}
use Rattle.coherence.specs.Counts.{bit, total, is_ack, is_call, is_deny, is_fill, is_get, is_image, is_read}
use Rattle.coherence.specs.Facts.{IsCoherent, is_fetching, numbered, transition}
use Rattle.coherence.specs.World.{Wanted, World}
use Rattle.rack_core.specs.Calls.{HasNoFrame, IsKept, IsQuiet, KeepsNothing}
use Rattle.rack_core.specs.Rack.{RackView}
use Rattle.rack_core.specs.Seen.{seen, wanted_at}
use Rattle.rack_core.specs.SwitchMoves.{AreEntriesApart}
use Rattle.rack_core.proofs.Waits.Passes.{IsStill, none_waits_first}
use Rattle.rack_core.proofs.Moves.Switch.Lookups.{first-got, region_at-first}
use Rattle.rack_core.proofs.Moves.Switch.Requests.{wanted-got}

-- ---- nothing is under way

-- a link that keeps nothing has nothing pending
none-pending : (net : NetView) → IsNet net → KeepsNothing net → (name : LinkName) → (links_of net name).pending ≡ []
none-pending net is nothing name = by (links_of net name).pending (is.sound name).pending where
  by : (pending : List Msg) → length (map spelling pending) ≤ (links_of net name).kept → pending ≡ []
  by [] le = refl
  by (message ∷ rest) le = let none = nothing name in absurd (omega (arith, le, none))

-- all links are empty
pub record HasNoMessage (w : World) : Type 0 where
  pub ups : (number : ℕ) → w.ups number ≡ []
  pub downs : (number : ℕ) → w.downs number ≡ []
  pub tos : (number : ℕ) → w.tos number ≡ []
  pub froms : (number : ℕ) → w.froms number ≡ []

none-under_way : (rack : RackView) (flat : PageView → PageImageView) → IsNet rack.net → KeepsNothing rack.net → HasNoMessage (seen rack flat)
none-under_way rack flat is nothing = record {
  ups = λ n. none-pending rack.net is nothing (record { kind = Up; number = n });
  downs = λ n. none-pending rack.net is nothing (record { kind = Down; number = n });
  tos = λ n. none-pending rack.net is nothing (record { kind = To; number = n });
  froms = λ n. none-pending rack.net is nothing (record { kind = From; number = n });
}

none-of : (test : Msg → Bool) (messages : List Msg) → messages ≡ [] → total test messages ≡ 0
none-of test messages none = ap (total test) none

bit-off : (b : Bool) → bit b ≡ 0 → b ≡ false
bit-off true e = let never : ⊥ = cc in absurd never
bit-off false e = refl

-- a transition waits for no blade
none-waited : (w : World) → IsCoherent w → HasNoMessage w → (page : PageView) (number blade : ℕ) (busy : Busy) → transition number (w.regions page) ≡ Some busy → has_blade busy.waiting blade ≡ false
none-waited w coherent empty page number blade busy is =
    let counts = coherent.called blade number page busy is in
    let calls = none-of (is_call number) (w.downs blade) (empty.downs blade) in
    let acks = none-of (is_ack number) (w.ups blade) (empty.ups blade) in
    bit-off (has_blade busy.waiting blade) (omega (arith, counts, calls, acks))

-- a page that is allowed lies somewhere
allowed-placed : (w : World) → IsCoherent w → (write : Bool) (page : PageView) → allows write (w.perms page) ≡ true → is_some (w.places page) ≡ true
allowed-placed w coherent write page allowed = coherent.placed.placed page (λ no. false≢true (ap (allows write) (sym no) ∙ allowed))

-- no request fetches its page
none-fetching : (w : World) → IsCoherent w → HasNoMessage w → (blade : ℕ) (page : PageView) (wanted : Wanted) → w.wants blade page ≡ Some wanted → wanted.fetching ≡ true → ⊥
none-fetching w coherent empty blade page wanted is fetching =
    by (w.places page) refl (allowed-placed w coherent wanted.write page (coherent.fetches blade page wanted is fetching).allowed)
  where
    by : (o : Option (ℕ × ℕ)) → w.places page ≡ o → is_some o ≡ true → ⊥
    by None at some = false≢true some
    by (Some place) at some =
        let counts = coherent.fetched blade page place at in
        let reads = none-of (is_read blade page) (w.tos place.0) (empty.tos place.0) in
        let images = none-of (is_image blade page) (w.froms place.0) (empty.froms place.0) in
        let one : bit (is_fetching (w.wants blade page)) ≡ 1 = ap (λ o. bit (is_fetching o)) is ∙ ap bit fetching in
        omega (arith, counts, reads, images, one)

-- a page that the switch was not asked for was not asked for
none-asked : (w : World) → IsCoherent w → HasNoMessage w → (blade : ℕ) (page : PageView) → w.wants blade page ≡ None → is_some (w.asks blade page) ≡ false
none-asked w coherent empty blade page is =
    let counts = coherent.answered blade page in
    let gets = none-of (is_get page) (w.ups blade) (empty.ups blade) in
    let fills = none-of (is_fill page) (w.downs blade) (empty.downs blade) in
    let denies = none-of (is_deny page) (w.downs blade) (empty.downs blade) in
    let wants : bit (is_some (w.wants blade page)) ≡ 0 = ap (λ o. bit (is_some o)) is in
    bit-off (is_some (w.asks blade page)) (omega (arith, counts, gets, fills, denies, wants))

-- ---- the directory

-- a set that has no blade is empty
below-power : (n : ℕ) → n < 2 ^ n
below-power zero = omega arith
below-power (suc n) =
    let same : suc n ≡ n + 1 = omega arith in
    let power : 2 ^ suc n ≡ 2 ^ n * 2 = ap (λ k. 2 ^ k) same ∙ pow_more 2 n in
    let low = below-power n in
    omega (arith, power, low)

none-empty : (set : ℕ) → ((blade : ℕ) → has_blade set blade ≡ false) → set ≡ 0
none-empty set none = same_from_bits_below set set 0 (below-power set) (pow_pos set) (λ i lt. zero-bit (bit_at set i) (bit_at-lt set i) (none i) ∙ sym (bit_at-zero i)) where
  zero-bit : (n : ℕ) → n < 2 → (n == 1) ≡ false → n ≡ 0
  zero-bit zero lt f = refl
  zero-bit (suc zero) lt f = absurd (grind (arith, nat_tests))
  zero-bit (suc (suc n)) lt f = absurd (omega arith)

abbrev first_page : RangeView → PageView
first_page range = record { domain = range.domain; number = range.base }

has-first : (range : RangeView) → in_range range (first_page range) ≡ true
has-first range = range-test_passes range.domain range.domain range.base range.base (2 ^ range.log) refl (omega arith) (let some = pow_pos range.log in omega (arith, some))

own-number : (busy : Busy) → numbered busy.number (Some busy) ≡ Some busy
own-number busy = ap (λ b. if b then Some busy else None) (eq-eqb busy.number busy.number refl)

-- no transition is under way
none-busy : (rack : RackView) (flat : PageView → PageImageView) → IsCoherent (seen rack flat) → HasNoMessage (seen rack flat) → AreEntriesApart rack.switch.directory.entries
    → AllByRecursion (λ entry. is_answered entry.busy ≡ false) rack.switch.directory.entries
    → (i : ℕ) (entry : Entry) → slice_get rack.switch.directory.entries i ≡ Some entry → entry.busy ≡ None
none-busy rack flat coherent empty apart waits i entry at = by entry.busy refl where
  entries : List Entry
  entries = rack.switch.directory.entries

  page : PageView
  page = first_page entry.range

  by : (busy : Option Busy) → entry.busy ≡ busy → entry.busy ≡ None
  by None is = is
  by (Some busy) is =
      let region = region_at-first entries page ∙ first-got entries i entry page apart at (has-first entry.range) in
      let now : transition busy.number ((seen rack flat).regions page) ≡ Some busy =
      ap (transition busy.number) region ∙ ap (numbered busy.number) is ∙ own-number busy in
      let none : busy.waiting ≡ 0 = none-empty busy.waiting (λ blade. none-waited (seen rack flat) coherent empty page busy.number blade busy now) in
      let waited : is_answered (Some busy) ≡ false = ap is_answered (sym is) ∙ all-at (λ e. is_answered e.busy ≡ false) entries i entry waits at in
      absurd (false≢true (sym waited ∙ eq-eqb busy.waiting 0 none))

-- ---- requests

-- where none is fetching no page is fetched
none-fetched : (requests : List Request) → ((i : ℕ) (r : Request) → slice_get requests i ≡ Some r → r.fetching ≡ false) → fetched_pages requests ≡ []
none-fetched [] waiting = refl
none-fetched (r ∷ requests) waiting =
    ap (λ b. map (λ (q : Request). q.page) (if b then r ∷ filter (λ q. q.fetching) requests else filter (λ q. q.fetching) requests)) (waiting 0 r refl)
    ∙ none-fetched requests (λ i q at. waiting (suc i) q at)

none-fetches : (rack : RackView) (flat : PageView → PageImageView) → IsCoherent (seen rack flat) → HasNoMessage (seen rack flat) → AskOncePerPage rack.switch.requests
    → (i : ℕ) (r : Request) → slice_get rack.switch.requests i ≡ Some r → r.fetching ≡ false
none-fetches rack flat coherent empty apart i r at = by r.fetching refl where
  by : (b : Bool) → r.fetching ≡ b → r.fetching ≡ false
  by false is = is
  by true is = absurd (none-fetching (seen rack flat) coherent empty r.blade r.page _ (wanted-got rack.switch.requests i r apart at) is)

-- the switch has no request
none-requested : (switch : SwitchView) → IsStill switch → IsServed switch → ((i : ℕ) (r : Request) → slice_get switch.requests i ≡ Some r → r.fetching ≡ false) → switch.requests ≡ []
none-requested switch still served waiting = by switch.requests refl where
  by : (requests : List Request) → switch.requests ≡ requests → switch.requests ≡ []
  by [] is = is
  by (r ∷ rest) is = absurd (none_waits_first switch r rest still served is (waiting 0 r (ap (λ rs. slice_get rs 0) is)))

-- nor has a blade
none-waiting : (rack : RackView) (flat : PageView → PageImageView) → IsCoherent (seen rack flat) → HasNoMessage (seen rack flat) → rack.switch.requests ≡ []
    → (c : ℕ) (blade : BladeView) → slice_get rack.blades c ≡ Some blade → blade.requests ≡ []
none-waiting rack flat coherent empty none c blade there = by blade.requests refl where
  by : (requests : List Asked) → blade.requests ≡ requests → blade.requests ≡ []
  by [] is = is
  by (asked ∷ rest) is =
      let own : request_for asked.page (asked ∷ rest) ≡ Some asked = ap (λ b. if b then Some asked else request_for asked.page rest) (same_page-refl asked.page) in
      let now : (seen rack flat).asks c asked.page ≡ Some asked.write =
      ap (λ o. option_and_then (λ (b : BladeView). option_map (λ (a : Asked). a.write) (request_for asked.page b.requests)) o) there
      ∙ ap (λ rs. option_map (λ (a : Asked). a.write) (request_for asked.page rs)) is ∙ ap (option_map (λ (a : Asked). a.write)) own in
      let out : is_some ((seen rack flat).asks c asked.page) ≡ false = none-asked (seen rack flat) coherent empty c asked.page (ap (λ rs. wanted_at rs c asked.page) none) in
      absurd (false≢true (sym out ∙ ap is_some now))

-- what is true at each place is true of all
all-there : {X : Type 0} (P : X → Type 0) (xs : List X) → ((i : ℕ) (x : X) → slice_get xs i ≡ Some x → P x) → All P xs
all-there P xs at k d lt = at k (get_or xs k d) (slice_get-get_or xs k d lt)

-- ---- all of it

pub quiet-rack : (rack : RackView) → IsKept rack → HasNoFrame rack.net → KeepsNothing rack.net → IsQuiet rack
quiet-rack rack kept frames nothing =
    let flat = kept.safe.flat in
    let coherent = kept.safe.coherent in
    let empty = none-under_way rack flat kept.shape.net nothing in
    let idle = none-busy rack flat coherent empty kept.safe.sound.switch.blocks kept.shape.core.waits in
    let waiting = none-fetches rack flat coherent empty kept.safe.sound.switch.requests in
    let still : IsStill rack.switch = record {
      idle = idle;
      unfetched = none-fetched rack.switch.requests waiting;
      placed = λ write page allowed. allowed-placed (seen rack flat) coherent write page allowed;
      slots = (let same = kept.shape.slots in let some = kept.shape.fit.slots.0 in omega (arith, same, some));
    } in
    let requests = none-requested rack.switch still kept.served waiting in
    record {
      frames = frames;
      kept = nothing;
      switch = record { requests = requests; transitions = all-there (λ entry. entry.busy ≡ None) rack.switch.directory.entries idle };
      blades = all-there (λ blade. blade.requests ≡ []) rack.blades (none-waiting rack flat coherent empty requests);
    }
