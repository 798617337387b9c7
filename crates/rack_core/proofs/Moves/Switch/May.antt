-- What comes first on a link to the switch may come to it.
use Rattle.std.proofs.Common.{◌≡◌, refl, sym, ◌∙◌, ap, subst, ℕ, Bool, true, false, ◌==◌, List, [], ◌∷◌, zero, suc, arith, Option, Some, None, eqb-true}
use Rattle.std.specs.Prelude.{if◌then◌else◌, find, is_some, option_map, All, Any}
use Rattle.std.specs.List.{AllByRecursion}
use Rattle.std.proofs.lemmas.Bool.{false≢true}
use Rattle.std.proofs.lemmas.Option.{none-some, same_Some}
use Rattle.mind_base.specs.Page.{PageView}
use Rattle.mind_base.specs.Home.{home_of}
use Rattle.invalidate_multicast.specs.Blades.{has_blade}
use Rattle.invalidate_multicast.specs.Transition as transitions
use Rattle.range_translate.specs.Place.{place_or_home, smallest_of}
use Rattle.mind_base.specs.Range.{in_range}
use Rattle.region_directory.specs.declared.entries.Busy.{Busy}
use Rattle.region_directory.specs.declared.entries.Entry.{Entry}
use Rattle.request_list.specs.Requests.{is_of}
use Rattle.request_list.specs.declared.requests.Request.{Request}
use Rattle.wire_msg.specs.declared.msgs.Msg.{Msg}
use Rattle.wire_msg.specs.declared.msgs.Msg.TheVariants.{Get, Back, Ack, Image}
use Rattle.switch_core.specs.Handling.{MayComeUp, MayComeFrom}
use Rattle.switch_core.specs.Switch.{SwitchView, place_in}
use Rattle.coherence.specs.Facts.{IsCoherent, AreUps, AreFroms, is_fetching, numbered, transition}
use Rattle.coherence.specs.World.{World}
use Rattle.rack_core.specs.Seen.{region_of, wanted_at}
use Rattle.rack_core.specs.SwitchMoves.{Shows, HasPlaces, LiesWhere}
use Rattle.rack_core.proofs.Moves.Switch.Hears.{unwanted_before}
use Rattle.rack_core.proofs.Moves.Switch.Lookups.{first_region, region_at-first}
use Rattle.rack_core.proofs.Moves.Switch.Requests.{wanted_of, unwanted-none}

all-of : {X : Type 0} (P : X → Type 0) (xs : List X) → AllByRecursion P xs → All P xs
all-of P [] h k d lt = absurd (omega arith)
all-of P (x ∷ xs) h zero d lt = h.0
all-of P (x ∷ xs) h (suc k) d lt = all-of P xs h.1 k d (omega arith)

any-later : {X : Type 0} (P : X → Type 0) (x : X) (xs : List X) → Any P xs → Any P (x ∷ xs)
any-later P x xs h = (suc h.0, h.1, omega (arith, h.2), h.3, h.4)

-- a page lies somewhere where it has a home
place-home : (switch : SwitchView) (page : PageView) → is_some (place_in switch page) ≡ is_some (home_of switch.table.homes page)
place-home switch page = by (home_of switch.table.homes page) where
  by : (o : Option (ℕ × ℕ)) → is_some (option_map (place_or_home (smallest_of switch.table.outliers page) page) o) ≡ is_some o
  by None = refl
  by (Some home) = refl

pub lies-from : (w : World) (switch : SwitchView) (blade : ℕ) (message : Msg) → HasPlaces w switch → MayComeUp switch blade message → LiesWhere w message
lies-from w switch blade (Back page image) places may = ap (λ f. is_some (f page)) places.places ∙ place-home switch page ∙ may
lies-from w switch blade message places may = tt

-- the entry whose transition waits for the blade
waiting-entry : (number blade : ℕ) (es : List Entry) (page : PageView) (busy : Busy) → transition number (first_region es page) ≡ Some busy → has_blade busy.waiting blade ≡ true
    → Any (λ entry. transitions.WaitsFor number blade entry.busy) es
waiting-entry number blade [] page busy e waits = absurd (none-some busy e)
waiting-entry number blade (x ∷ es) page busy e waits = by (in_range x.range page) e (λ k. waiting-entry number blade es page busy k waits) where
  numbered-so : (b : Busy) (t : Bool) → (b.number == number) ≡ t → (if t then Some b else None) ≡ Some busy → transitions.WaitsFor number blade (Some b)
  numbered-so b true n k = (eqb-true b.number number n, subst (λ c. has_blade c.waiting blade ≡ true) (sym (same_Some b busy k)) waits)
  numbered-so b false n k = absurd (none-some busy k)

  here : (o : Option Busy) → numbered number o ≡ Some busy → transitions.WaitsFor number blade o
  here None k = absurd (none-some busy k)
  here (Some b) k = numbered-so b (b.number == number) refl k

  by : (t : Bool) → transition number (if t then Some (region_of x) else first_region es page) ≡ Some busy
      → (transition number (first_region es page) ≡ Some busy → Any (λ entry. transitions.WaitsFor number blade entry.busy) es)
      → Any (λ entry. transitions.WaitsFor number blade entry.busy) (x ∷ es)
  by true k rest = (0, x, omega arith, refl, here x.busy k)
  by false k rest = any-later (λ entry. transitions.WaitsFor number blade entry.busy) x es (rest k)

-- the request that is fetching
fetching-request : (rs : List Request) (blade : ℕ) (page : PageView) → is_fetching (wanted_at rs blade page) ≡ true → Any (λ r. (is_of blade page r ≡ true) × (r.fetching ≡ true)) rs
fetching-request [] blade page e = absurd (false≢true e)
fetching-request (r ∷ rs) blade page e = by (is_of blade page r) refl e (λ k. fetching-request rs blade page k) where
  by : (t : Bool) → is_of blade page r ≡ t → is_fetching (option_map wanted_of (if t then Some r else find (is_of blade page) rs)) ≡ true
      → (is_fetching (wanted_at rs blade page) ≡ true → Any (λ q. (is_of blade page q ≡ true) × (q.fetching ≡ true)) rs)
      → Any (λ q. (is_of blade page q ≡ true) × (q.fetching ≡ true)) (r ∷ rs)
  by true s k rest = (0, r, omega arith, refl, (s, k))
  by false s k rest = any-later (λ q. (is_of blade page q ≡ true) × (q.fetching ≡ true)) r rs (rest k)

-- the first message from a blade, and from a memory blade, may come
pub may_come_up : (w : World) (switch : SwitchView) (blade : ℕ) (message : Msg) (behind : List Msg) → IsCoherent w → Shows w switch → LiesWhere w message → w.ups blade ≡ message ∷ behind → MayComeUp switch blade message
may_come_up w switch blade message behind safe shows lies head = by message lies head (subst (AreUps w blade) head (safe.ups blade)) where
  by : (m : Msg) → LiesWhere w m → w.ups blade ≡ m ∷ behind → AreUps w blade (m ∷ behind) → MayComeUp switch blade m
  by (Get page write) there at known =
      all-of (λ r. is_of blade page r ≡ false) switch.requests
      (unwanted-none switch.requests blade page (ap (λ f. f blade page) (sym shows.wants) ∙ unwanted_before w blade page write behind at safe.answered))
  by (Back page image) there at known = sym (ap (λ f. is_some (f page)) shows.places.places ∙ place-home switch page) ∙ there
  by (Ack number count) there at known =
      let waits = known.0.0 in
      waiting-entry number blade switch.directory.entries waits.0 waits.1
      (ap (transition number) (sym (region_at-first switch.directory.entries waits.0) ∙ ap (λ g. g waits.0) (sym shows.regions)) ∙ waits.2) waits.3
  by m there at known = absurd known.0

pub may_come_from : (w : World) (switch : SwitchView) (memory : ℕ) (message : Msg) (behind : List Msg) → IsCoherent w → Shows w switch → w.froms memory ≡ message ∷ behind → MayComeFrom switch message
may_come_from w switch memory message behind safe shows head = by message head (subst (AreFroms w memory) head (safe.froms memory)) where
  by : (m : Msg) → w.froms memory ≡ m ∷ behind → AreFroms w memory (m ∷ behind) → MayComeFrom switch m
  by (Image (Some blade) page image) at known = fetching-request switch.requests blade page (ap (λ f. is_fetching (f blade page)) (sym shows.wants) ∙ known.0.1)
  by m at known = absurd known.0
