-- A message that comes to the switch is taken by a move, and what is served then is moves.
use Rattle.std.proofs.Common.{◌≡◌, refl, sym, ◌∙◌, ap, subst, ℕ, ◌<◌, ◌≤◌, Bool, true, false, ◌==◌, List, [], ◌∷◌, ◌++◌, length, map, suc, arith, Option, Some, None}
use Rattle.std.specs.Prelude.{if◌then◌else◌, find, is_some, option_map}
use Rattle.std.specs.List.{AllByRecursion}
use Rattle.std.proofs.Math.Path.{fun_ext}
use Rattle.std.proofs.lemmas.Bool.{false≢true}
use Rattle.std.proofs.lemmas.List.{length-map}
use Rattle.std.proofs.lemmas.Bool.Decides.{nat_tests}
use Rattle.mind_base.specs.Page.{PageView}
use Rattle.mind_base.specs.declared.links.LinkKind.{LinkKind}
use Rattle.mind_base.specs.declared.links.LinkKind.TheVariants.{Up, Down, To, From}
use Rattle.mind_base.specs.declared.links.LinkName.{LinkName}
use Rattle.page_cache.proofs.Callers.{same_page-refl}
use Rattle.page_image.specs.PageImage.{PageImageView}
use Rattle.protect_table.specs.Protect.{permission_at}
use Rattle.invalidate_multicast.specs.First.{first_changed}
use Rattle.invalidate_multicast.specs.Transition as transition
use Rattle.invalidate_multicast.specs.Transition.{is_number, after_answer, is_answered}
use Rattle.region_directory.specs.Block.{AreBlocksApart}
use Rattle.mind_base.specs.Range.{RangeView, in_range}
use Rattle.mind_base.specs.declared.plans.RackPlan.{RackPlan}
use Rattle.region_directory.specs.Entry.{with_busy, plus_hits}
use Rattle.region_directory.specs.declared.entries.Busy.{Busy}
use Rattle.region_directory.specs.declared.entries.Entry.{Entry}
use Rattle.request_list.specs.Requests.{is_of}
use Rattle.request_list.specs.declared.requests.Request.{Request}
use Rattle.request_list.proofs.Callers.{apart-push}
use Rattle.wire_msg.specs.declared.msgs.Msg.{Msg}
use Rattle.wire_msg.specs.declared.msgs.Msg.TheVariants.{Get, Fill, Back, Ack, Image, Write}
use Rattle.switch_core.specs.Handling.{all_ended, request_noted, filling, filled, writing, went_back, ended, answered, from_blade, from_memory, handled_from, Receives}
use Rattle.switch_core.specs.Invariant.{IsFitState, IsFitTarget, IsFitEntry}
use Rattle.switch_core.specs.Switch.{SwitchView, SwitchEffect, place_in}
use Rattle.switch_core.specs.Treating.{without_request}
use Rattle.switch_core.proofs.Callers.{answered-is, receives-deeds}
use Rattle.coherence.specs.Facts.{IsCoherent, AreAnswered, AreUps, AreFroms, is_fetching}
use Rattle.coherence.specs.Moves as moves
use Rattle.coherence.specs.Moves.{HearsGet, HearsBack, HearsAck, HearsImage, heard, region_answered}
use Rattle.coherence.specs.Lawful.{first_page, state_in}
use Rattle.coherence.specs.World.{Region, World, put, put_both}
use Rattle.rack_core.specs.Seen.{sent_on, region_of, region_at, wanted_at}
use Rattle.rack_core.specs.SwitchMoves.{shown, Shows, HasPlaces, IsSoundSwitch, SendsNoneUp, AsksAt, AskPlaces, LeadsByMoves, AreEntriesApart, HasSlots, LiesWhere, IsFirstOn, taken_from}
use Rattle.rack_core.proofs.Moves.Switch.Lookups.{apart-map, first_region, region_at-first, first-map}
use Rattle.rack_core.proofs.Log.Held.SwitchNotes.{HoldsWithin, state_of, within_slots}
use Rattle.rack_core.proofs.Moves.Switch.Deeds.{serves_on}
use Rattle.rack_core.proofs.Moves.Switch.Requests.{wanted_of, found-of, wanted-last, wanted-without, unwanted-none}
use Rattle.rack_core.proofs.Moves.Runs.{one_move}
use Rattle.rack_core.proofs.Moves.Switch.Ends.{ended-range, ended-region, ends_told}
use Rattle.rack_core.proofs.Log.Held.SwitchEffects.{nothing_noted}
use Rattle.rack_core.proofs.Moves.Switch.Worlds.{asked_there, Follows, none_sent, one_sent, without-sound, entries-sound}
use Rattle.rack_core.proofs.Lists.Parts.{all-map, all-last}

-- ---- a request

-- none was wanted: what answers a request is one, and it is this one
pub unwanted_before : (w : World) (blade : ℕ) (page : PageView) (write : Bool) (behind : List Msg) → w.ups blade ≡ Get page write ∷ behind → AreAnswered w → w.wants blade page ≡ None
unwanted_before w blade page write behind head answers = grind (arith, nat_tests, answers blade page, same_page-refl page)

hears_get : (w : World) (switch : SwitchView) (blade : ℕ) (page : PageView) (write : Bool) (behind : List Msg) → IsCoherent w → Shows w switch → IsSoundSwitch switch → blade < 8
    → w.ups blade ≡ Get page write ∷ behind → Follows w (heard blade behind w) switch (request_noted blade page write switch)
hears_get w switch blade page write behind safe shows sound lt head =
    let request : Request = record { blade = blade; page = page; write = write; fetching = false } in
    let unwanted : wanted_at switch.requests blade page ≡ None = ap (λ f. f blade page) (sym shows.wants) ∙ unwanted_before w blade page write behind head safe.answered in
    let none : AllByRecursion (λ q. is_of blade page q ≡ false) switch.requests = unwanted-none switch.requests blade page unwanted in
    let wants : wanted_at (switch.requests ++ request ∷ []) ≡ put_both blade page (Some (record { write = write; fetching = false })) w.wants =
    fun_ext (λ b. fun_ext (λ p. wanted-last switch.requests request b p none)) ∙ ap (put_both blade page (Some (record { write = write; fetching = false }))) (sym shows.wants) in
    record {
      moves = one_move w (shown (heard blade behind w) (request_noted blade page write switch)) (HearsGet blade page write behind) head
          (λ j. record w { ups = put blade behind w.ups; wants = wants j; regions = sym shows.regions j; last = sym shows.last j; downs = none_sent w.downs j; tos = none_sent w.tos j });
      quiet = λ n. (refl, refl);
      asks = λ m. tt;
      sound = record {
        requests = apart-push switch.requests request sound.requests none;
        blades = all-last (λ r. r.blade < 8) switch.requests request sound.blades lt;
        blocks = sound.blocks;
        entries = sound.entries;
        region = sound.region;
      };
      places = record { places = shows.places.places; perms = shows.places.perms };
      told = nothing_noted w (heard blade behind w) switch (request_noted blade page write switch) shows.regions refl refl refl;
    }

-- ---- a page that comes back

hears_back : (w : World) (switch : SwitchView) (blade : ℕ) (page : PageView) (image : PageImageView) (behind : List Msg) → Shows w switch → IsSoundSwitch switch → is_some (w.places page) ≡ true
    → w.ups blade ≡ Back page image ∷ behind → Follows w (heard blade behind w) switch (went_back page image switch)
hears_back w switch blade page image behind shows sound lies head = record {
  moves = by (place_in switch page) refl;
  quiet = λ n. write_quiet (place_in switch page) n;
  asks = λ m. write_asks m (place_in switch page) refl;
  sound = sound;
  places = record { places = shows.places.places; perms = shows.places.perms };
  told = nothing_noted w (heard blade behind w) switch (went_back page image switch) shows.regions refl refl refl;
} where
  write_quiet : (o : Option (ℕ × ℕ)) → SendsNoneUp (writing o image)
  write_quiet None n = (refl, refl)
  write_quiet (Some place) n = (refl, refl)

  write_asks : (m : ℕ) (o : Option (ℕ × ℕ)) → place_in switch page ≡ o → AllByRecursion (AsksAt w.places m) (sent_on To m (writing o image))
  write_asks m None at = tt
  write_asks m (Some place) at = asked_there w.places m place (Write place.1 image) (λ same. (page, ap (λ f. f page) shows.places.places ∙ at ∙ ap (λ n. Some (n, place.1)) (sym same)))

  by : (o : Option (ℕ × ℕ)) → place_in switch page ≡ o → LeadsByMoves w (shown (heard blade behind w) (went_back page image switch))
  by None at = absurd (false≢true (ap is_some (sym (ap (λ f. f page) shows.places.places ∙ at)) ∙ lies))
  by (Some place) at =
      let downs : (λ n. w.downs n ++ sent_on Down n (writing (place_in switch page) image)) ≡ w.downs = ap (λ o. λ n. w.downs n ++ sent_on Down n (writing o image)) at ∙ none_sent w.downs in
      let tos : (λ n. w.tos n ++ sent_on To n (writing (place_in switch page) image)) ≡ put place.0 (w.tos place.0 ++ Write place.1 image ∷ []) w.tos =
      ap (λ o. λ n. w.tos n ++ sent_on To n (writing o image)) at ∙ one_sent w.tos place.0 (Write place.1 image) in
      one_move w (shown (heard blade behind w) (went_back page image switch)) (HearsBack blade page image place behind) (head, ap (λ f. f page) shows.places.places ∙ at)
      (λ j. record w { ups = put blade behind w.ups; wants = sym shows.wants j; regions = sym shows.regions j; last = sym shows.last j; downs = downs j; tos = tos j })

-- ---- an acknowledgement

-- what it makes of an entry
abbrev with_answer : ℕ → ℕ → Region → Region
with_answer number blade region = record region { busy = after_answer number blade region.busy }

abbrev answers_one : ℕ → ℕ → Region → Region
answers_one number blade region = moves.ended (with_answer number blade region)

option-answered : (number blade : ℕ) (o : Option Region) → option_map (answers_one number blade) o ≡ region_answered number blade o
option-answered number blade None = refl
option-answered number blade (Some region) = refl

-- hits are not seen
first-hits : (test : Entry → Bool) (count : ℕ) (es : List Entry) (page : PageView) → first_region (first_changed test (plus_hits count) es) page ≡ first_region es page
first-hits test count [] page = refl
first-hits test count (e ∷ es) page = by (test e) (first-hits test count es page) where
  by : (b : Bool) → first_region (first_changed test (plus_hits count) es) page ≡ first_region es page
      → first_region (if b then plus_hits count e ∷ es else e ∷ first_changed test (plus_hits count) es) page ≡ (if in_range e.range page then Some (region_of e) else first_region es page)
  by true rest = refl
  by false rest = ap (λ o. if in_range e.range page then Some (region_of e) else o) rest

all-hits : (P : Entry → Type 0) (test : Entry → Bool) (count : ℕ) → ((e : Entry) → P e → P (plus_hits count e)) → (es : List Entry) → AllByRecursion P es → AllByRecursion P (first_changed test (plus_hits count) es)
all-hits P test count k [] h = tt
all-hits P test count k (e ∷ es) h = by (test e) (all-hits P test count k es h.1) where
  by : (b : Bool) → AllByRecursion P (first_changed test (plus_hits count) es) → AllByRecursion P (if b then plus_hits count e ∷ es else e ∷ first_changed test (plus_hits count) es)
  by true rest = (k e h.0, h.1)
  by false rest = (h.0, rest)

length-hits : (test : Entry → Bool) (count : ℕ) (es : List Entry) → length (first_changed test (plus_hits count) es) ≡ length es
length-hits test count [] = refl
length-hits test count (e ∷ es) = by (test e) (length-hits test count es) where
  by : (b : Bool) → length (first_changed test (plus_hits count) es) ≡ length es → length (if b then plus_hits count e ∷ es else e ∷ first_changed test (plus_hits count) es) ≡ suc (length es)
  by true rest = refl
  by false rest = ap suc rest

apart-hits : (test : Entry → Bool) (count : ℕ) (es : List Entry) → AreEntriesApart es → AreEntriesApart (first_changed test (plus_hits count) es)
apart-hits test count [] h = tt
apart-hits test count (e ∷ es) h = by (test e) (all-hits (λ l. AreBlocksApart e.range l.range) test count (λ l a. a) es h.0) (apart-hits test count es h.1) where
  by : (b : Bool) → AllByRecursion (λ l. AreBlocksApart e.range l.range) (first_changed test (plus_hits count) es) → AreEntriesApart (first_changed test (plus_hits count) es)
      → AreEntriesApart (if b then plus_hits count e ∷ es else e ∷ first_changed test (plus_hits count) es)
  by true all rest = h
  by false all rest = (all, rest)

fit-answer : (number blade : ℕ) (busy : Option Busy) → IsFitTarget 8 busy → IsFitTarget 8 (after_answer number blade busy)
fit-answer number blade None h = tt
fit-answer number blade (Some busy) h = by (busy.number == number) where
  by : (b : Bool) → IsFitTarget 8 (if b then Some (transition.without_waiting blade busy) else Some busy)
  by true = h
  by false = h

fit-ended : (e : Entry) → IsFitEntry 8 e → IsFitEntry 8 (ended e)
fit-ended e h = by (is_answered e.busy) (target e.busy h.target) where
  target : (busy : Option Busy) → IsFitTarget 8 busy → IsFitState 8 (transition.target_of e busy)
  target None t = h.state
  target (Some busy) t = t

  by : (b : Bool) → IsFitState 8 (transition.target_of e e.busy) → IsFitEntry 8 (if b then transition.finished e else e)
  by true s = record { state = s; target = tt }
  by false s = h

hears_ended : (w : World) (switch : SwitchView) (blade number count : ℕ) (behind : List Msg) → Shows w switch → IsSoundSwitch switch
    → w.ups blade ≡ Ack number count ∷ behind → Follows w (heard blade behind w) switch (all_ended (transition.acknowledged number blade count switch.directory.entries) switch)
hears_ended w switch blade number count behind shows sound head =
    let es = switch.directory.entries in
    let answer : Entry → Entry = λ e. with_busy (after_answer number blade e.busy) e in
    let test : Entry → Bool = λ e. is_number number e.busy in
    let mid = first_changed test (plus_hits count) (map answer es) in
    let regions : region_at (map ended mid) ≡ (λ page. region_answered number blade (w.regions page)) = fun_ext (λ p.
    region_at-first (map ended mid) p ∙ first-map ended moves.ended mid p ended-range ended-region
    ∙ ap (option_map moves.ended) (first-hits test count (map answer es) p ∙ first-map answer (with_answer number blade) es p (λ e. refl) (λ e. refl))
    ∙ twice (first_region es p) ∙ option-answered number blade (first_region es p)
    ∙ ap (region_answered number blade) (sym (region_at-first es p) ∙ ap (λ g. g p) (sym shows.regions))) in
    record {
      moves = one_move w (shown (heard blade behind w) (all_ended mid switch)) (HearsAck blade number count behind) head
          (λ j. record w { ups = put blade behind w.ups; wants = sym shows.wants j; regions = regions j; last = sym shows.last j; downs = none_sent w.downs j; tos = none_sent w.tos j });
      quiet = λ n. (refl, refl);
      asks = λ m. tt;
      sound = entries-sound switch (map ended mid) sound (apart-map ended mid ended-range (apart-hits test count (map answer es) (apart-map answer es (λ e. refl) sound.blocks)))
          (all-map (IsFitEntry 8) ended mid fit-ended (all-hits (IsFitEntry 8) test count (λ e h. record { state = h.state; target = h.target }) (map answer es)
          (all-map (IsFitEntry 8) answer es (λ e h. record { state = h.state; target = fit-answer number blade e.busy h.target }) sound.entries)));
      places = record { places = shows.places.places; perms = shows.places.perms };
      told = λ plan safe safe_after holds slots.
          let count_of : length (map ended mid) ≡ length es =
          length-map mid ended ∙ length-hits test count (map answer es) ∙ length-map es answer in
          let next : HasSlots plan (all_ended mid switch).switch = record { slots = slots.slots; room = subst (λ n. n ≤ plan.slots) (sym count_of) slots.room } in
          let same : (range : RangeView) → state_in w.regions range ≡ state_of range (first_region mid (first_page range)) = λ range.
          ap (λ g. state_of range (g (first_page range))) shows.regions ∙ ap (state_of range) (region_at-first es (first_page range))
          ∙ answer-state range (first_region es (first_page range))
          ∙ sym (ap (state_of range) (first-hits test count (map answer es) (first_page range) ∙ first-map answer (with_answer number blade) es (first_page range) (λ e. refl) (λ e. refl))) in (
            next,
            ends_told plan w (shown (heard blade behind w) (all_ended mid switch)) mid safe (within_slots plan w switch shows.regions holds slots) safe_after
                (within_slots plan (shown (heard blade behind w) (all_ended mid switch)) (all_ended mid switch).switch refl holds next) refl refl same
                (apart-hits test count (map answer es) (apart-map answer es (λ e. refl) sound.blocks)),
          );
    }
  where
    twice : (o : Option Region) → option_map moves.ended (option_map (with_answer number blade) o) ≡ option_map (answers_one number blade) o
    twice None = refl
    twice (Some region) = refl

    answer-state : (range : RangeView) (o : Option Region) → state_of range o ≡ state_of range (option_map (with_answer number blade) o)
    answer-state range None = refl
    answer-state range (Some region) = refl

hears_ack : (w : World) (switch : SwitchView) (blade number count : ℕ) (behind : List Msg) → Shows w switch → IsSoundSwitch switch
    → w.ups blade ≡ Ack number count ∷ behind → Follows w (heard blade behind w) switch (answered number blade count switch)
hears_ack w switch blade number count behind shows sound head =
    subst (Follows w (heard blade behind w) switch) (sym (answered-is number blade count switch)) (hears_ended w switch blade number count behind shows sound head)

-- ---- an image

hears_image : (w : World) (switch : SwitchView) (memory blade : ℕ) (page : PageView) (image : PageImageView) (behind : List Msg) → Shows w switch → IsSoundSwitch switch → is_fetching (w.wants blade page) ≡ true
    → w.froms memory ≡ Image (Some blade) page image ∷ behind → Follows w (record w { froms = put memory behind w.froms }) switch (filled (Some blade) page image switch)
hears_image w switch memory blade page image behind shows sound fetching head = by (find (is_of blade page) switch.requests) refl where
  by : (o : Option Request) → find (is_of blade page) switch.requests ≡ o → Follows w (record w { froms = put memory behind w.froms }) switch (filling o image switch)
  by None at = absurd (false≢true (ap is_fetching (sym (ap (λ f. f blade page) shows.wants ∙ ap (option_map wanted_of) at)) ∙ fetching))
  by (Some r) at =
      let same = found-of blade page switch.requests r at in
      let wanted : w.wants blade page ≡ Some (wanted_of r) = ap (λ f. f blade page) shows.wants ∙ ap (option_map wanted_of) at in
      let wants : wanted_at (without_request r switch.requests) ≡ put_both blade page None w.wants =
      fun_ext (λ b. fun_ext (λ p. wanted-without switch.requests r b p)) ∙ ap (put_both r.blade r.page None) (sym shows.wants)
      ∙ ap (λ b. put_both b r.page None w.wants) (sym same.0) ∙ ap (λ p. put_both blade p None w.wants) (sym same.1) in
      let perm : permission_at switch.protect r.page ≡ w.perms page = ap (permission_at switch.protect) (sym same.1) ∙ ap (λ f. f page) (sym shows.places.perms) in
      let downs : (λ n. w.downs n ++ (if n == r.blade then Fill r.page (permission_at switch.protect r.page) r.write image ∷ [] else [])) ≡ put blade (w.downs blade ++ Fill page (w.perms page) r.write image ∷ []) w.downs =
      one_sent w.downs r.blade (Fill r.page (permission_at switch.protect r.page) r.write image)
      ∙ ap (λ p. put r.blade (w.downs r.blade ++ Fill r.page p r.write image ∷ []) w.downs) perm
      ∙ ap (λ p. put r.blade (w.downs r.blade ++ Fill p (w.perms page) r.write image ∷ []) w.downs) (sym same.1)
      ∙ ap (λ b. put b (w.downs b ++ Fill page (w.perms page) r.write image ∷ []) w.downs) (sym same.0) in
      record {
        moves = one_move w (shown (record w { froms = put memory behind w.froms }) (filling (Some r) image switch)) (HearsImage memory blade page (wanted_of r) image behind) (head, wanted)
            (λ j. record w { froms = put memory behind w.froms; wants = wants j; regions = sym shows.regions j; last = sym shows.last j; downs = downs j; tos = none_sent w.tos j });
        quiet = λ n. (refl, refl);
        asks = λ m. tt;
        sound = without-sound switch r sound;
        places = record { places = shows.places.places; perms = shows.places.perms };
        told = nothing_noted w (record w { froms = put memory behind w.froms }) switch (filling (Some r) image switch) shows.regions refl refl refl;
      }

-- ---- every message

pub hears_up : (w : World) (switch : SwitchView) (blade : ℕ) (message : Msg) (behind : List Msg) → IsCoherent w → Shows w switch → IsSoundSwitch switch → blade < 8 → LiesWhere w message
    → w.ups blade ≡ message ∷ behind → Follows w (heard blade behind w) switch (from_blade blade message switch)
hears_up w switch blade message behind safe shows sound lt lies head = by message lies head (subst (AreUps w blade) head (safe.ups blade)) where
  by : (m : Msg) → LiesWhere w m → w.ups blade ≡ m ∷ behind → AreUps w blade (m ∷ behind) → Follows w (heard blade behind w) switch (from_blade blade m switch)
  by (Get page write) there at known = hears_get w switch blade page write behind safe shows sound lt at
  by (Back page image) there at known = hears_back w switch blade page image behind shows sound there at
  by (Ack number count) there at known = hears_ack w switch blade number count behind shows sound at
  by m there at known = absurd known.0

pub hears_from : (w : World) (switch : SwitchView) (memory : ℕ) (message : Msg) (behind : List Msg) → IsCoherent w → Shows w switch → IsSoundSwitch switch
    → w.froms memory ≡ message ∷ behind → Follows w (record w { froms = put memory behind w.froms }) switch (from_memory message switch)
hears_from w switch memory message behind safe shows sound head = by message head (subst (AreFroms w memory) head (safe.froms memory)) where
  by : (m : Msg) → w.froms memory ≡ m ∷ behind → AreFroms w memory (m ∷ behind) → Follows w (record w { froms = put memory behind w.froms }) switch (from_memory m switch)
  by (Image (Some blade) page image) at known = hears_image w switch memory blade page image behind shows sound known.0.1 at
  by m at known = absurd known.0

pub hears : (w : World) (switch : SwitchView) (kind : LinkKind) (number : ℕ) (message : Msg) (behind : List Msg) → IsCoherent w → Shows w switch → IsSoundSwitch switch → number < 8 → LiesWhere w message
    → IsFirstOn kind number message behind w → Follows w (taken_from kind number behind w) switch (handled_from kind number message switch)
hears w switch Up number message behind safe shows sound lt lies first = hears_up w switch number message behind safe shows sound lt lies first
hears w switch From number message behind safe shows sound lt lies first = hears_from w switch number message behind safe shows sound first
hears w switch Down number message behind safe shows sound lt lies first = absurd first
hears w switch To number message behind safe shows sound lt lies first = absurd first

-- What the switch does with the first message on a link to it, and then by serving, is a run of moves to the
-- world with that message taken and the switch as it is after.
pub switch_moves : (w : World) (switch : SwitchView) (link : LinkName) (message : Msg) (behind : List Msg) (effect : SwitchEffect) → IsCoherent w → Shows w switch → IsSoundSwitch switch → link.number < 8 → LiesWhere w message
    → IsFirstOn link.kind link.number message behind w → Receives link message switch effect → Follows w (taken_from link.kind link.number behind w) switch effect
switch_moves w switch link message behind effect safe shows sound lt lies first receives =
    serves_on w (taken_from link.kind link.number behind w) switch (handled_from link.kind link.number message switch) effect safe (λ plan holds. taken-holds plan link.kind w holds)
    (hears w switch link.kind link.number message behind safe shows sound lt lies first) (receives-deeds link message switch effect receives) where
      -- the frames are as they were
      taken-holds : (plan : RackPlan) (kind : LinkKind) (w : World) → HoldsWithin plan w → HoldsWithin plan (taken_from kind link.number behind w)
      taken-holds plan Up w holds = holds
      taken-holds plan From w holds = holds
      taken-holds plan Down w holds = holds
      taken-holds plan To w holds = holds
