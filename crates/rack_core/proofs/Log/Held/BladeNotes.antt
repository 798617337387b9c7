-- What a blade notes tells what it holds, lawfully at every point where it is so before and after.
use Rattle.std.proofs.Common.{◌≡◌, ℕ, ◌==◌, Bool, true, false, ap, sym, refl, subst, ◌∙◌, List, [], ◌∷◌, ◌++◌, fold, Option, Some, None, option_map}
use Rattle.std.specs.Prelude.{if◌then◌else◌, is_some}
use Rattle.std.specs.List.{AllByRecursion}
use Rattle.std.proofs.Math.Path.{fun_ext}
use Rattle.std.proofs.lemmas.Bool.{false≢true}
use Rattle.std.proofs.lemmas.List.Sums.{fold-append}
use Rattle.std.proofs.lemmas.Option.{none-some, same_Some}
use Rattle.mind_base.specs.Page.{PageView}
use Rattle.mind_base.specs.declared.commands.Perm.{Perm}
use Rattle.mind_base.specs.declared.images.Image.{Image}
use Rattle.mind_base.specs.declared.notes.Note.{Note}
use Rattle.mind_base.specs.declared.notes.Note.TheVariants as note
use Rattle.mind_base.specs.declared.plans.RackPlan.{RackPlan}
use Rattle.page_cache.specs.PageCache.{IsPageCache, same_page, frame_of, without_page, with_change, lowered_frame, entries_after_put, put_of}
use Rattle.page_cache.specs.declared.frames.Frame.{Frame}
use Rattle.page_cache.specs.declared.frames.Put.{Put}
use Rattle.page_cache.specs.declared.frames.Put.TheVariants.{Fresh, Replaced, Pushed}
use Rattle.page_image.specs.PageImage.{PageImageView}
use Rattle.wire_msg.specs.declared.msgs.Msg.{Msg}
use Rattle.wire_msg.specs.declared.msgs.Msg.TheVariants.{Fill, Deny, Inv, Lower, Ack}
use Rattle.compute_blade.specs.Blade.{BladeView, BladeEffect, request_for, with_frames, only, and_then}
use Rattle.compute_blade.specs.Messages.{acknowledging, after_message, resumed_for}
use Rattle.compute_blade.specs.Pages.{back_of, each_in, given_up, giving_up, held_in, lowered, lowering, noted_out, spared, taken, writable_in}
use Rattle.compute_blade.specs.declared.kept.Answer.TheVariants.{Filled, Denied}
use Rattle.coherence.specs.Held.{Holdings, Entries, held_after, entries_after}
use Rattle.coherence.specs.Lawful.{IsLawful, AreLawful}
use Rattle.coherence.specs.World.{put_both}
use Rattle.coherence.proofs.Callers.{both-cases, put_both-other, at_number, lawful_append, writable_of}
use Rattle.rack_core.proofs.Moves.Blade.Still.{IsLabel, IsStill, resumed-still}
use Rattle.rack_core.proofs.Moves.Blade.Worlds.{at_blade}
use Rattle.rack_core.proofs.Lists.Lookups.{Entries as Frames, found-without, found-with_change, found-put_fresh, found-put_replaced, found-put_pushed, cache-put, cache-with_change, cache-without}

-- ---- less is held

-- what is held in the first is held in the second, and to write if it is in the first
abbrev pub IsLess : Holdings → Holdings → Type 0
IsLess less more = (blade : ℕ) (page : PageView) (writable : Bool) → less blade page ≡ Some writable
    → (was : Bool) × (more blade page ≡ Some was) × (writable ≡ true → was ≡ true)

less-itself : (held : Holdings) → IsLess held held
less-itself held blade page writable is = (writable, is, λ t. t)

less-then : (a b c : Holdings) → IsLess a b → IsLess b c → IsLess a c
less-then a b c one two blade page writable is =
    let first = one blade page writable is in
    let last = two blade page first.0 first.1 in
    (last.0, last.1, λ t. last.2 (first.2 t))

pub lawful_when_less : (plan : RackPlan) (less more : Holdings) (entries : Entries) → IsLess less more → IsLawful plan more entries → IsLawful plan less entries
lawful_when_less plan less more entries is lawful = record {
  one_writer = λ a b page writable is_a is_b.
      let x = is a page true is_a in
      let y = is b page writable is_b in
      lawful.one_writer a b page y.0 (x.1 ∙ ap Some (x.2 refl)) y.1;
  named = λ blade page writable held.
      let x = is blade page writable held in
      let named = lawful.named blade page x.0 x.1 in
      record { range = named.range; state = named.state; entry = named.entry; within = named.within; named = named.named; owner = λ t. named.owner (x.2 t) };
  disjoint = λ a b page has_a has_b in_a in_b. lawful.disjoint a b page has_a has_b in_a in_b;
  slots = λ ranges distinct all. lawful.slots ranges distinct all;
  frames = λ blade pages distinct all. lawful.frames blade pages distinct (held blade pages all);
} where
  there : (blade : ℕ) (page : PageView) (o : Option Bool) → less blade page ≡ o → is_some o ≡ true → is_some (more blade page) ≡ true
  there blade page None e h = absurd (false≢true h)
  there blade page (Some writable) e h = ap is_some (is blade page writable e).1

  held : (blade : ℕ) (pages : List PageView) → AllByRecursion (λ page. is_some (less blade page) ≡ true) pages → AllByRecursion (λ page. is_some (more blade page) ≡ true) pages
  held blade [] all = tt
  held blade (page ∷ pages) all = (there blade page (less blade page) refl all.0, held blade pages all.1)

-- one page is held no longer, or to write no longer
less-put : (c : ℕ) (page : PageView) (o : Option Bool) (held : Holdings)
    → ((writable : Bool) → o ≡ Some writable → (was : Bool) × (held c page ≡ Some was) × (writable ≡ true → was ≡ true))
    → IsLess (put_both c page o held) held
less-put c page o held given blade other writable =
    both-cases (λ n q x. x ≡ Some writable → (was : Bool) × (held n q ≡ Some was) × (writable ≡ true → was ≡ true)) c page o held
    (given writable) (λ n q away e. (writable, e, λ t. t)) blade other

-- ---- what a blade holds

-- blade c holds what this one does
abbrev pub HoldsAs : ℕ → BladeView → Holdings → Type 0
HoldsAs c blade held = (page : PageView) → held c page ≡ writable_of (frame_of page blade.cache.entries)

-- all blades but c hold what they held
abbrev pub AreOthers : ℕ → Holdings → Holdings → Type 0
AreOthers c old new = (n : ℕ) → (n == c) ≡ false → (page : PageView) → new n page ≡ old n page

-- The notes of something that blade c does are lawful where this is held and these entries are in force, and tell what it holds then.
pub record IsToldBy (plan : RackPlan) (c : ℕ) (held : Holdings) (entries : Entries) (e : BladeEffect) : Type 0 where
  pub lawful : AreLawful plan held entries e.noted
  pub here : HoldsAs c e.blade (fold held_after held e.noted)
  pub away : AreOthers c held (fold held_after held e.noted)
  pub states : fold entries_after entries e.noted ≡ entries

-- one page is changed, at blade c
put-here : (c : ℕ) (page : PageView) (o : Option Bool) (x : Option Frame) (held : Holdings) (blade : BladeView) (entries : Frames) → HoldsAs c blade held → o ≡ writable_of x
    → ((q : PageView) → frame_of q entries ≡ (if same_page q page then x else frame_of q blade.cache.entries))
    → HoldsAs c (with_frames blade entries) (put_both c page o held)
put-here c page o x held blade entries h is found q = at_blade c page o held q ∙ by (same_page q page) ∙ sym (ap writable_of (found q)) where
  by : (b : Bool) → (if b then o else held c q) ≡ writable_of (if b then x else frame_of q blade.cache.entries)
  by true = is
  by false = h q

put-away : (c : ℕ) (page : PageView) (o : Option Bool) (held : Holdings) → AreOthers c held (put_both c page o held)
put-away c page o held n e q = put_both-other c page o held n q e

-- what is noted where a page is taken
abbrev pub taking : ℕ → PageView → Bool → Put → List Note
taking c page writable put = noted_out c put ++ note.Take c page writable ∷ []

-- what is held then at blade c, and at all others
pub taken-holds : (c : ℕ) (held : Holdings) (page : PageView) (perm : Perm) (writable : Bool) (image : PageImageView) (blade : BladeView) → IsPageCache blade.cache → HoldsAs c blade held
    → (put : Put) → put_of blade.cache page ≡ put → HoldsAs c (taken page perm writable image blade).blade (fold held_after held (taking c page writable put))
taken-holds c held page perm writable image blade shape h put is = by put is where
  frame : Frame
  frame = record { image = image; writable = writable; dirty = false; perm = perm }

  frames : Frames
  frames = entries_after_put blade.cache page frame

  by : (put : Put) → put_of blade.cache page ≡ put → HoldsAs c (with_frames blade frames) (fold held_after held (taking c page writable put))
  by Fresh e = put-here c page (Some writable) (Some frame) held blade frames h refl (found-put_fresh blade.cache page frame e)
  by (Replaced old) e = put-here c page (Some writable) (Some frame) held blade frames h refl (found-put_replaced blade.cache page frame old shape e)
  by (Pushed out old) e =
      let pushed = found-put_pushed blade.cache page frame out old shape e in
      let found = found-without out blade.cache.entries shape.distinct in
      put-here c page (Some writable) (Some frame) (put_both c out None held) (with_frames blade (without_page out blade.cache.entries)) frames
      (put-here c out None None held blade (without_page out blade.cache.entries) h refl found) refl
      (λ q. pushed.found q ∙ ap (λ f. if same_page q page then Some frame else f) (sym (found q)))

taken-away : (c : ℕ) (held : Holdings) (page : PageView) (writable : Bool) (put : Put) → AreOthers c held (fold held_after held (taking c page writable put))
taken-away c held page writable Fresh = put-away c page (Some writable) held
taken-away c held page writable (Replaced old) = put-away c page (Some writable) held
taken-away c held page writable (Pushed out old) = λ n a q. put-away c page (Some writable) (put_both c out None held) n a q ∙ put-away c out None held n a q

-- what blade c holds, and what all others hold, is all that is held
same-holdings : (c : ℕ) (blade : BladeView) (held one two : Holdings) → HoldsAs c blade one → HoldsAs c blade two → AreOthers c held one → AreOthers c held two → one ≡ two
same-holdings c blade held one two here_one here_two away_one away_two =
    fun_ext (λ n. fun_ext (λ page. at_number (λ n. one n page ≡ two n page) c (here_one page ∙ sym (here_two page)) (λ n e. away_one n e page ∙ sym (away_two n e page)) n))

-- Pages are given up or lowered: the notes tell it, what is held then is less than what was held at some point, and the blade is one still.
record Sheds (plan : RackPlan) (c : ℕ) (entries : Entries) (top held : Holdings) (e : BladeEffect) : Type 0 where
  told : IsToldBy plan c held entries e
  less : IsLess (fold held_after held e.noted) top
  number : e.blade.number ≡ c
  shape : IsPageCache e.blade.cache

-- so it is whatever less is held when it is done
abbrev ShedsFrom : RackPlan → ℕ → Entries → Holdings → (BladeView → BladeEffect) → Type 0
ShedsFrom plan c entries top act = (blade : BladeView) (held : Holdings) → HoldsAs c blade held → IsLess held top → blade.number ≡ c → IsPageCache blade.cache
    → Sheds plan c entries top held (act blade)

module _ (plan : RackPlan) (c : ℕ) (entries : Entries) where
  -- ---- one thing after another

  told-then : (held : Holdings) (first : BladeEffect) (next : BladeView → BladeEffect) → IsToldBy plan c held entries first
      → IsToldBy plan c (fold held_after held first.noted) entries (next first.blade) → IsToldBy plan c held entries (and_then first next)
  told-then held first next one two =
      let later : List Note = (next first.blade).noted in
      let holds : fold held_after held (first.noted ++ later) ≡ fold held_after (fold held_after held first.noted) later = fold-append held_after held first.noted later in
      record {
        lawful = lawful_append plan held entries first.noted later one.lawful (subst (λ es. AreLawful plan (fold held_after held first.noted) es later) (sym one.states) two.lawful);
        here = λ page. ap (λ h. h c page) holds ∙ two.here page;
        away = λ n e page. ap (λ h. h n page) holds ∙ two.away n e page ∙ one.away n e page;
        states = fold-append entries_after entries first.noted later ∙ ap (λ es. fold entries_after es later) one.states ∙ two.states;
      }

  -- nothing is noted
  told-silent : (held : Holdings) (blade : BladeView) (sent : List Msg) → HoldsAs c blade held → IsToldBy plan c held entries (record { blade = blade; sent = sent; noted = [] })
  told-silent held blade sent h = record { lawful = tt; here = h; away = λ n e page. refl; states = refl }

  -- one note that changes a page
  told-one : (held : Holdings) (n : Note) (page : PageView) (o : Option Bool) (x : Option Frame) (blade : BladeView) (frames : Frames) (sent : List Msg)
      → AreLawful plan held entries (n ∷ []) → held_after held n ≡ put_both c page o held → entries_after entries n ≡ entries
      → HoldsAs c blade held → o ≡ writable_of x → ((q : PageView) → frame_of q frames ≡ (if same_page q page then x else frame_of q blade.cache.entries))
      → IsToldBy plan c held entries (record { blade = with_frames blade frames; sent = sent; noted = n ∷ [] })
  told-one held n page o x blade frames sent lawful changes states h is found = record {
    lawful = lawful;
    here = λ q. ap (λ k. k c q) changes ∙ put-here c page o x held blade frames h is found q;
    away = λ m e q. ap (λ k. k m q) changes ∙ put-away c page o held m e q;
    states = states;
  }

  -- ---- instructions and stores

  labels-hold : (held : Holdings) (notes : List Note) → AllByRecursion IsLabel notes → fold held_after held notes ≡ held
  labels-hold held [] all = refl
  labels-hold held (note.Exec hart ∷ notes) all = labels-hold held notes all.1
  labels-hold held (note.Drain hart ∷ notes) all = labels-hold held notes all.1
  labels-hold held (n ∷ notes) all = absurd all.0

  labels-states : (notes : List Note) → AllByRecursion IsLabel notes → fold entries_after entries notes ≡ entries
  labels-states [] all = refl
  labels-states (note.Exec hart ∷ notes) all = labels-states notes all.1
  labels-states (note.Drain hart ∷ notes) all = labels-states notes all.1
  labels-states (n ∷ notes) all = absurd all.0

  labels-lawful : (held : Holdings) (notes : List Note) → IsLawful plan held entries → AllByRecursion IsLabel notes → AreLawful plan held entries notes
  labels-lawful held [] lawful all = tt
  labels-lawful held (note.Exec hart ∷ notes) lawful all = (tt, lawful, labels-lawful held notes lawful all.1)
  labels-lawful held (note.Drain hart ∷ notes) lawful all = (tt, lawful, labels-lawful held notes lawful all.1)
  labels-lawful held (n ∷ notes) lawful all = absurd all.0

  pub still-told : (held : Holdings) (blade : BladeView) (e : BladeEffect) → IsLawful plan held entries → HoldsAs c blade held → IsStill blade e → IsToldBy plan c held entries e
  still-told held blade e lawful h still =
      let same = labels-hold held e.noted still.notes in
      record {
        lawful = labels-lawful held e.noted lawful still.notes;
        here = λ page. ap (λ k. k c page) same ∙ h page ∙ sym (still.pages page);
        away = λ n a page. ap (λ k. k n page) same;
        states = labels-states e.noted still.notes;
      }

  -- ---- pages that are given up, or lowered

  sheds-none : (top held : Holdings) (blade : BladeView) → HoldsAs c blade held → IsLess held top → blade.number ≡ c → IsPageCache blade.cache → Sheds plan c entries top held (only blade)
  sheds-none top held blade h less number shape = record { told = told-silent held blade [] h; less = less; number = number; shape = shape }

  gives-up : (top : Holdings) → IsLawful plan top entries → (page : PageView) → ShedsFrom plan c entries top (given_up page)
  gives-up top lawful page blade held h less number shape = by (frame_of page blade.cache.entries) where
    below : IsLess (put_both c page None held) top
    below = less-then (put_both c page None held) held top (less-put c page None held (λ writable e. absurd (none-some writable e))) less

    by : (o : Option Frame) → Sheds plan c entries top held (giving_up page o blade)
    by None = sheds-none top held blade h less number shape
    by (Some frame) = subst (λ k. Sheds plan c entries top held (record { blade = with_frames blade (without_page page blade.cache.entries); sent = back_of page frame; noted = note.Give k page ∷ [] })) (sym number) (record {
      told = told-one held (note.Give c page) page None None blade (without_page page blade.cache.entries) (back_of page frame)
          (tt, lawful_when_less plan (put_both c page None held) top entries below lawful, tt) refl refl h refl (found-without page blade.cache.entries shape.distinct);
      less = below;
      number = number;
      shape = cache-without page blade.cache shape;
    })

  lowers-it : (top : Holdings) → IsLawful plan top entries → (page : PageView) → ShedsFrom plan c entries top (lowered page)
  lowers-it top lawful page blade held h less number shape = by (frame_of page blade.cache.entries) refl where
    read : Option Bool
    read = option_map (λ writable. false) (held c page)

    lower : (was : Option Bool) → held c page ≡ was → (writable : Bool) → option_map (λ writable. false) was ≡ Some writable → (was : Bool) × (held c page ≡ Some was) × (writable ≡ true → was ≡ true)
    lower None e writable is = absurd (none-some writable is)
    lower (Some was) e writable is = (was, e, λ t. absurd (false≢true (same_Some false writable is ∙ t)))

    below : IsLess (put_both c page read held) top
    below = less-then (put_both c page read held) held top (less-put c page read held (lower (held c page) refl)) less

    by : (o : Option Frame) → frame_of page blade.cache.entries ≡ o → Sheds plan c entries top held (lowering page o blade)
    by None e = sheds-none top held blade h less number shape
    by (Some frame) e = subst (λ k. Sheds plan c entries top held (record { blade = with_frames blade (with_change lowered_frame page blade.cache.entries); sent = back_of page frame; noted = note.Down k page ∷ [] })) (sym number) (record {
      told = told-one held (note.Down c page) page read (Some (lowered_frame frame)) blade (with_change lowered_frame page blade.cache.entries) (back_of page frame)
          (tt, lawful_when_less plan (put_both c page read held) top entries below lawful, tt) refl refl h
          (ap (option_map (λ writable. false)) (h page ∙ ap writable_of e)) (found-with_change lowered_frame page frame blade.cache.entries e);
      less = below;
      number = number;
      shape = cache-with_change lowered_frame page blade.cache shape;
    })

  sheds-each : (top : Holdings) (change : PageView → BladeView → BladeEffect) → ((page : PageView) → ShedsFrom plan c entries top (change page)) → (pages : List PageView) → ShedsFrom plan c entries top (each_in change pages)
  sheds-each top change each [] blade held h less number shape = sheds-none top held blade h less number shape
  sheds-each top change each (page ∷ pages) blade held h less number shape =
      let first = each page blade held h less number shape in
      let noted : List Note = (change page blade).noted in
      let mid : BladeView = (change page blade).blade in
      let later = sheds-each top change each pages mid (fold held_after held noted) first.told.here first.less first.number first.shape in
      let last : List Note = (each_in change pages mid).noted in
      record {
        told = told-then held (change page blade) (each_in change pages) first.told later.told;
        less = subst (λ k. IsLess k top) (sym (fold-append held_after held noted last)) later.less;
        number = later.number;
        shape = later.shape;
      }

  pub evict-told : (held : Holdings) (page : PageView) (blade : BladeView) → IsLawful plan held entries → HoldsAs c blade held → blade.number ≡ c → IsPageCache blade.cache
      → IsToldBy plan c held entries (given_up page blade)
  evict-told held page blade lawful h number shape = (gives-up held lawful page blade held h (less-itself held) number shape).told

  obeys-told : (held : Holdings) (change : PageView → BladeView → BladeEffect) → ((page : PageView) → ShedsFrom plan c entries held (change page)) → (pages : List PageView) (number : ℕ) (asked : Option PageView) (blade : BladeView)
      → HoldsAs c blade held → blade.number ≡ c → IsPageCache blade.cache → IsToldBy plan c held entries (acknowledging change pages number asked blade)
  obeys-told held change each pages number asked blade h own shape =
      let sheds = sheds-each held change each pages blade held h (less-itself held) own shape in
      let answer : BladeView → BladeEffect = λ after. record { blade = after; sent = Ack number (spared asked pages) ∷ []; noted = [] } in
      told-then held (each_in change pages blade) answer sheds.told
      (told-silent (fold held_after held (each_in change pages blade).noted) (each_in change pages blade).blade (Ack number (spared asked pages) ∷ []) sheds.told.here)

  -- ---- a page that comes

  -- where a lawful point is known at which it is held
  taken-told : (held last : Holdings) (page : PageView) (perm : Perm) (writable : Bool) (image : PageImageView) (blade : BladeView) → IsPageCache blade.cache
      → HoldsAs c blade held → IsLawful plan held entries → HoldsAs c (taken page perm writable image blade).blade last → AreOthers c held last → IsLawful plan last entries
      → (put : Put) → put_of blade.cache page ≡ put → (sent : List Msg)
      → IsToldBy plan c held entries (record { blade = (taken page perm writable image blade).blade; sent = sent; noted = taking c page writable put })
  taken-told held last page perm writable image blade shape h lawful here away lawful_then put is sent =
      let now = taken-holds c held page perm writable image blade shape h put is in
      let others = taken-away c held page writable put in
      let lawful_now : IsLawful plan (fold held_after held (taking c page writable put)) entries = subst (λ k. IsLawful plan k entries)
      (same-holdings c (taken page perm writable image blade).blade held last (fold held_after held (taking c page writable put)) here now away others) lawful_then in
      record { lawful = points put lawful_now; here = now; away = others; states = same put }
    where
      points : (put : Put) → IsLawful plan (fold held_after held (taking c page writable put)) entries → AreLawful plan held entries (taking c page writable put)
      points Fresh last = (tt, last, tt)
      points (Replaced old) last = (tt, last, tt)
      points (Pushed out old) last = (
        tt,
        lawful_when_less plan (put_both c out None held) held entries (less-put c out None held (λ writable e. absurd (none-some writable e))) lawful,
        (tt, last, tt),
      )

      same : (put : Put) → fold entries_after entries (taking c page writable put) ≡ entries
      same Fresh = refl
      same (Replaced old) = refl
      same (Pushed out old) = refl

  -- ---- messages

  pub message-told : (images : List Image) (message : Msg) (blade : BladeView) (held last : Holdings) → IsPageCache blade.cache → blade.number ≡ c
      → HoldsAs c blade held → IsLawful plan held entries → HoldsAs c (after_message images message blade).blade last → AreOthers c held last → IsLawful plan last entries
      → IsToldBy plan c held entries (after_message images message blade)
  message-told images (Fill page perm writable image) blade held last shape number h lawful here away lawful_then =
      let first : BladeEffect = taken page perm writable image blade in
      let goes : BladeEffect = resumed_for Filled images (request_for page first.blade.requests) first.blade in
      let still = resumed-still Filled images (request_for page first.blade.requests) first.blade (cache-put blade.cache page (record { image = image; writable = writable; dirty = false; perm = perm }) shape).distinct in
      let took : IsToldBy plan c held entries first = subst (λ k. IsToldBy plan c held entries (record first { noted = taking k page writable (put_of blade.cache page) })) (sym number)
      (taken-told held last page perm writable image blade shape h lawful (λ q. here q ∙ still.pages q) away lawful_then (put_of blade.cache page) refl first.sent) in
      let after : Holdings = fold held_after held first.noted in
      let lawful_mid : IsLawful plan after entries = subst (λ k. IsLawful plan k entries)
      (same-holdings c first.blade held last after (λ q. here q ∙ still.pages q) took.here away took.away) lawful_then in
      told-then held first (λ b. resumed_for Filled images (request_for page b.requests) b) took (still-told after first.blade goes lawful_mid took.here still)
  message-told images (Deny page) blade held last shape number h lawful here away lawful_then =
      still-told held blade (resumed_for Denied images (request_for page blade.requests) blade) lawful h (resumed-still Denied images (request_for page blade.requests) blade shape.distinct)
  message-told images (Inv order range asked) blade held last shape number h lawful here away lawful_then =
      obeys-told held given_up (λ page. gives-up held lawful page) (held_in range blade) order asked blade h number shape
  message-told images (Lower order range asked) blade held last shape number h lawful here away lawful_then =
      obeys-told held lowered (λ page. lowers-it held lawful page) (writable_in range blade) order (Some asked) blade h number shape
  message-told images message blade held last shape number h lawful here away lawful_then = told-silent held blade [] h
