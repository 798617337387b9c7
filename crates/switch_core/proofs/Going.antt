-- How a pass goes on, for each thing that it may do with a request.
use Rattle.std.proofs.Common.{◌≡◌, ℕ, ◌+◌, ◌<◌, ◌≤◌, Bool, true, false, cond, not, ◌≢◌, ◌==◌, Option, Some, None, List, ◌++◌, length, refl, ap, sym, subst, ◌∙◌, arith}
use Rattle.std.specs.List.{AllByRecursion, insert, slice_get}
use Rattle.std.specs.Option.{is_none, option_map, unwrap_or}
use Rattle.std.proofs.lemmas.List.{append-nil}
use Rattle.std.proofs.lemmas.List.Sums.{count_by-le-length}
use Rattle.region_directory.specs.Block.{is_before}
use Rattle.mind_base.specs.Page.{PageView}
use Rattle.mind_base.specs.Range.{RangeView, InRange}
use Rattle.mind_base.specs.declared.links.LinkName.{LinkName}
use Rattle.mind_base.specs.declared.notes.Note.{Note}
use Rattle.mind_base.specs.declared.notes.State.TheVariants.{I}
use Rattle.mind_base.specs.Permission.{allows}
use Rattle.protect_table.specs.Protect.{permission_at}
use Rattle.region_directory.specs.Entry.{fresh_entry, entry_place}
use Rattle.region_directory.specs.Room.{room_of}
use Rattle.region_directory.specs.declared.entries.Busy.{Busy}
use Rattle.region_directory.specs.declared.entries.Entry.{Entry}
use Rattle.region_directory.specs.declared.rooms.Room.{Room}
use Rattle.region_directory.specs.declared.rooms.Room.TheVariants.{Drop, Evict, Merge, Wait}
use Rattle.request_list.specs.Requests.{fetched_pages}
use Rattle.request_list.specs.declared.requests.Request.{Request}
use Rattle.wire_msg.specs.declared.msgs.Msg.{Msg}
use Rattle.switch_core.specs.Invariant.{IsFitEntry, IsSwitch}
use Rattle.switch_core.specs.Sending.{Start}
use Rattle.switch_core.specs.Standing.{left_to_do, InPass}
use Rattle.switch_core.specs.Switch.{SwitchView, and_then}
use Rattle.switch_core.specs.Treating.{Pass, waits, blocks, does, grants, holders, is_denied, denied_request, granted, changed_for, cleared, is_fetched, with_idle, with_entry, at_entry, entered, new_range, enters, dropped, with_room, without_entry, entry_for, for_entry, treated}
use Rattle.switch_core.specs.declared.stands.Stand.{Stand}
use Rattle.switch_core.proofs.Lists.{all-at, insert-at}
use Rattle.switch_core.proofs.Passing.{dropped-idle, evicted-idle, evicted-held, comes-then, less-on, in-does, in-waits, in-blocks, safe-changed, less-changed}
use Rattle.switch_core.proofs.Safety.{Safe, holders-some, safe-denied, less-denied, safe-granted, less-granted, safe-cleared, less-cleared, safe-entered, more-entered, safe-dropped, less-dropped}

-- a state that nobody holds grants everything
grants-I : (write : Bool) (blade : ℕ) → grants write blade I ≡ true
grants-I false blade = refl
grants-I true blade = refl

-- a new entry is granted at once
pub enters-is : (r : Request) (pass : Pass) → enters r pass ≡ waits (does (granted r pass.at (entry_place pass.done.switch.directory.entries (new_range r.page pass.done.switch)) (fresh_entry (new_range r.page pass.done.switch))) (does (entered (new_range r.page pass.done.switch)) pass))
enters-is r pass =
    let es : List Entry = pass.done.switch.directory.entries in
    let range : RangeView = new_range r.page pass.done.switch in
    let place : ℕ = entry_place es range in
    let inside : Pass = does (entered range) pass in
    let le : place ≤ length es = count_by-le-length (λ entry. is_before entry.range range) es in
    ap (λ (x : Option Entry). with_entry r place x inside) (insert-at es place (fresh_entry range) le)
    ∙ ap (λ (b : Bool). cond b (waits (does (granted r inside.at place (fresh_entry range)) inside)) (cond (is_fetched range inside.done.switch.requests) (waits inside) (waits (does (changed_for r I place (fresh_entry range)) inside)))) (grants-I r.write r.blade)

-- the new entry stands in its place
pub entered-found : (s s1 : SwitchView) (range : RangeView) (place : ℕ) → s1 ≡ (entered range s).switch → place ≡ entry_place s.directory.entries range → place ≤ length s.directory.entries → slice_get s1.directory.entries place ≡ Some (fresh_entry range)
entered-found s s1 range place e p within =
    ap (λ (v : SwitchView). slice_get v.directory.entries place) e ∙ ap (λ (k : ℕ). slice_get (insert s.directory.entries k (fresh_entry range)) place) (sym p) ∙ insert-at s.directory.entries place (fresh_entry range) within

abbrev pub is_full : SwitchView → Bool
is_full s = length s.directory.entries == s.directory.slots

abbrev pub room_in : SwitchView → Room
room_in s = room_of s.directory (fetched_pages s.requests)

-- the entry that is dropped to make room
pub record IsDropped (s : SwitchView) (i : ℕ) (entry : Entry) : Type 0 where
  pub found : slice_get s.directory.entries i ≡ Some entry
  pub room : room_in s ≡ Drop i
  pub idle : entry.busy ≡ None

pub is-dropped : {v s : SwitchView} {i : ℕ} {entry : Entry} {pages : List PageView} → v ≡ s → slice_get v.directory.entries i ≡ Some entry → Drop i ≡ room_of v.directory pages → pages ≡ fetched_pages v.requests → IsDropped s i entry
is-dropped {v} {s} {i} {entry} {pages} same found by fetched =
    let room : room_in v ≡ Drop i = sym (by ∙ ap (room_of v.directory) fetched) in
    subst (λ (x : SwitchView). IsDropped x i entry) same (record { found = found; room = room; idle = dropped-idle v.directory (fetched_pages v.requests) i entry room found })

-- the entry that is taken from its holders to make room
pub record IsEvicted (s : SwitchView) (i : ℕ) (entry : Entry) : Type 0 where
  pub found : slice_get s.directory.entries i ≡ Some entry
  pub room : room_in s ≡ Evict i
  pub idle : entry.busy ≡ None
  pub held : holders entry.state ≢ 0

pub is-evicted : {v s : SwitchView} {i : ℕ} {entry : Entry} {pages : List PageView} → v ≡ s → AllByRecursion (IsFitEntry (length v.plan.frames)) v.directory.entries → slice_get v.directory.entries i ≡ Some entry → Evict i ≡ room_of v.directory pages → pages ≡ fetched_pages v.requests → IsEvicted s i entry
is-evicted {v} {s} {i} {entry} {pages} same fit found by fetched =
    let room : room_in v ≡ Evict i = sym (by ∙ ap (room_of v.directory) fetched) in
    let n = length v.plan.frames in
    subst (λ (x : SwitchView). IsEvicted x i entry) same (record {
      found = found;
      room = room;
      idle = evicted-idle v.directory (fetched_pages v.requests) i entry room found;
      held = holders-some n entry.state (all-at (IsFitEntry n) v.directory.entries i entry fit found).state (evicted-held v.directory (fetched_pages v.requests) i entry room found);
    })

abbrev pub unless-denied : Request → Bool → Pass → Pass
unless-denied r b pass = cond b (does (denied_request r) pass) (for_entry r (entry_for r.page pass.done.switch.directory.entries) pass)

-- where a pass stands, for all that follows
module _ (start : Start) (pass : Pass) (s : SwitchView) (stand : Stand) (o : List (LinkName × Msg)) (n : List Note) (h : InPass start pass s stand o n) where
  -- ---- an idle entry

  pub goes-granted : (s' : SwitchView) (o' : List (LinkName × Msg)) (n' : List Note) (r : Request) (i : ℕ) (entry : Entry) → grants r.write r.blade entry.state ≡ true → IsSwitch s → slice_get s.requests stand.at ≡ Some r → r.fetching ≡ false → allows r.write (permission_at s.protect r.page) ≡ true → slice_get s.directory.entries i ≡ Some entry → s' ≡ (granted r stand.at i entry s).switch → o' ≡ o ++ (granted r stand.at i entry s).sent → n' ≡ n ++ (granted r stand.at i entry s).noted → InPass start (with_idle r i entry pass) s' (record stand { at = stand.at + 1; changed = true }) o' n'
  goes-granted s' o' n' r i entry t was place idle allowed found e f g =
      let stand' : Stand = record stand { at = stand.at + 1; changed = true } in
      let safe : Safe s (granted r stand.at i entry s) = safe-granted s r stand.at i entry was place allowed found in
      let less : left_to_do (granted r stand.at i entry s).switch < left_to_do s = omega (arith, less-granted s r stand.at i entry place idle) in
      let done : InPass start (waits (does (granted r stand.at i entry) pass)) s' stand' o' n' =
      in-waits start (does (granted r stand.at i entry) pass) s' (record stand { changed = true }) o' n'
      (in-does start pass (granted r stand.at i entry) s s' stand o o' n n' h safe less e f g) in
      let here : InPass start (waits (does (granted r pass.at i entry) pass)) s' stand' o' n' =
      subst (λ (a : ℕ). InPass start (waits (does (granted r a i entry) pass)) s' stand' o' n') h.at done in
      subst (λ (b : Bool). InPass start (cond b (waits (does (granted r pass.at i entry) pass)) (cond (is_fetched entry.range pass.done.switch.requests) (waits pass) (waits (does (changed_for r entry.state i entry) pass)))) s' stand' o' n') (sym t) here

  fetched-there : (range : RangeView) (b : Bool) → is_fetched range s.requests ≡ b → is_fetched range pass.done.switch.requests ≡ b
  fetched-there range b e = ap (λ (x : SwitchView). is_fetched range x.requests) (sym h.comes.after) ∙ e

  pub goes-fetched : (r : Request) (i : ℕ) (entry : Entry) → grants r.write r.blade entry.state ≡ false → is_fetched entry.range s.requests ≡ true → InPass start (with_idle r i entry pass) s (record stand { at = stand.at + 1 }) o n
  goes-fetched r i entry f t =
      let stand' : Stand = record stand { at = stand.at + 1 } in
      let here : InPass start (waits pass) s stand' o n = in-waits start pass s stand o n h in
      let later : InPass start (cond (is_fetched entry.range pass.done.switch.requests) (waits pass) (waits (does (changed_for r entry.state i entry) pass))) s stand' o n =
      subst (λ (b : Bool). InPass start (cond b (waits pass) (waits (does (changed_for r entry.state i entry) pass))) s stand' o n) (sym (fetched-there entry.range true t)) here in
      subst (λ (b : Bool). InPass start (cond b (waits (does (granted r pass.at i entry) pass)) (cond (is_fetched entry.range pass.done.switch.requests) (waits pass) (waits (does (changed_for r entry.state i entry) pass)))) s stand' o n) (sym f) later

  pub goes-changed : (s' : SwitchView) (o' : List (LinkName × Msg)) (n' : List Note) (r : Request) (i : ℕ) (entry : Entry) → grants r.write r.blade entry.state ≡ false → is_fetched entry.range s.requests ≡ false → IsSwitch s → slice_get s.requests stand.at ≡ Some r → slice_get s.directory.entries i ≡ Some entry → entry.busy ≡ None → InRange entry.range r.page → s' ≡ (changed_for r entry.state i entry s).switch → o' ≡ o ++ (changed_for r entry.state i entry s).sent → n' ≡ n ++ (changed_for r entry.state i entry s).noted → InPass start (with_idle r i entry pass) s' (record stand { at = stand.at + 1; changed = true }) o' n'
  goes-changed s' o' n' r i entry f u was place found idle has p q w =
      let stand' : Stand = record stand { at = stand.at + 1; changed = true } in
      let safe : Safe s (changed_for r entry.state i entry s) = safe-changed s r stand.at i entry entry.state refl was place found idle has f in
      let less : left_to_do (changed_for r entry.state i entry s).switch < left_to_do s = less-changed s r i entry entry.state found idle f in
      let here : InPass start (waits (does (changed_for r entry.state i entry) pass)) s' stand' o' n' =
      in-waits start (does (changed_for r entry.state i entry) pass) s' (record stand { changed = true }) o' n'
      (in-does start pass (changed_for r entry.state i entry) s s' stand o o' n n' h safe less p q w) in
      let later : InPass start (cond (is_fetched entry.range pass.done.switch.requests) (waits pass) (waits (does (changed_for r entry.state i entry) pass))) s' stand' o' n' =
      subst (λ (b : Bool). InPass start (cond b (waits pass) (waits (does (changed_for r entry.state i entry) pass))) s' stand' o' n') (sym (fetched-there entry.range false u)) here in
      subst (λ (b : Bool). InPass start (cond b (waits (does (granted r pass.at i entry) pass)) (cond (is_fetched entry.range pass.done.switch.requests) (waits pass) (waits (does (changed_for r entry.state i entry) pass)))) s' stand' o' n') (sym f) later

  -- ---- an entry that has the page

  found-there : (i : ℕ) (x : Option Entry) → slice_get s.directory.entries i ≡ x → slice_get pass.done.switch.directory.entries i ≡ x
  found-there i x e = ap (λ (v : SwitchView). slice_get v.directory.entries i) (sym h.comes.after) ∙ e

  pub goes-busy : (r : Request) (i : ℕ) (entry : Entry) → slice_get s.directory.entries i ≡ Some entry → is_none entry.busy ≡ false → InPass start (at_entry r i pass) s (record stand { at = stand.at + 1 }) o n
  goes-busy r i entry found busy =
      let stand' : Stand = record stand { at = stand.at + 1 } in
      let here : InPass start (waits pass) s stand' o n = in-waits start pass s stand o n h in
      let chosen : InPass start (with_entry r i (Some entry) pass) s stand' o n =
      subst (λ (b : Bool). InPass start (cond b (with_idle r i entry pass) (waits pass)) s stand' o n) (sym busy) here in
      subst (λ (x : Option Entry). InPass start (with_entry r i x pass) s stand' o n) (sym (found-there i (Some entry) found)) chosen

  pub goes-idle : (s' : SwitchView) (stand' : Stand) (o' : List (LinkName × Msg)) (n' : List Note) (r : Request) (i : ℕ) (entry : Entry) → slice_get s.directory.entries i ≡ Some entry → entry.busy ≡ None → InPass start (with_idle r i entry pass) s' stand' o' n' → InPass start (at_entry r i pass) s' stand' o' n'
  goes-idle s' stand' o' n' r i entry found idle k =
      let chosen : InPass start (with_entry r i (Some entry) pass) s' stand' o' n' =
      subst (λ (x : Option Busy). InPass start (cond (is_none x) (with_idle r i entry pass) (waits pass)) s' stand' o' n') (sym idle) k in
      subst (λ (x : Option Entry). InPass start (with_entry r i x pass) s' stand' o' n') (sym (found-there i (Some entry) found)) chosen

  -- ---- a new entry

  pub goes-new : (s1 s2 : SwitchView) (o2 : List (LinkName × Msg)) (n1 n2 : List Note) (r : Request) (range : RangeView) (place : ℕ) → IsSwitch s → length s.directory.entries < s.directory.slots → slice_get s.requests stand.at ≡ Some r → r.fetching ≡ false → allows r.write (permission_at s.protect r.page) ≡ true → range ≡ new_range r.page s → place ≡ entry_place s.directory.entries range → place ≤ length s.directory.entries → IsSwitch s1 → s1 ≡ (entered range s).switch → n1 ≡ n ++ (entered range s).noted → s2 ≡ (granted r stand.at place (fresh_entry range) s1).switch → o2 ≡ o ++ (granted r stand.at place (fresh_entry range) s1).sent → n2 ≡ n1 ++ (granted r stand.at place (fresh_entry range) s1).noted → InPass start (enters r pass) s2 (record stand { at = stand.at + 1; changed = true }) o2 n2
  goes-new s1 s2 o2 n1 n2 r range place was space asked waiting allowed e-range e-place within was1 e1 f1 e2 f2 g2 =
      let fresh : Entry = fresh_entry range in
      let stand' : Stand = record stand { at = stand.at + 1; changed = true } in
      let comes1 = comes-then start pass.done (entered range) s s1 o o n n1 h.comes (safe-entered s range was space) e1 (sym (append-nil o)) f1 in
      let asked1 : slice_get s1.requests stand.at ≡ Some r = ap (λ (v : SwitchView). slice_get v.requests stand.at) e1 ∙ asked in
      let allowed1 : allows r.write (permission_at s1.protect r.page) ≡ true = ap (λ (v : SwitchView). allows r.write (permission_at v.protect r.page)) e1 ∙ allowed in
      let found1 : slice_get s1.directory.entries place ≡ Some fresh =
      entered-found s s1 range place e1 e-place within in
      let comes2 = comes-then start (and_then pass.done (entered range)) (granted r stand.at place fresh) s1 s2 o o2 n1 n2 comes1 (safe-granted s1 r stand.at place fresh was1 asked1 allowed1 found1) e2 f2 g2 in
      let entered-more : left_to_do s1 ≡ left_to_do s + 1 = ap left_to_do e1 ∙ more-entered s range in
      let less : left_to_do (granted r stand.at place fresh s1).switch < left_to_do s = omega (arith, entered-more, less-granted s1 r stand.at place fresh asked1 waiting) in
      let tells = subst (λ (v : SwitchView). left_to_do (granted r stand.at place fresh v).switch < left_to_do start.switch) comes1.after
      (less-on start pass s stand o n (left_to_do (granted r stand.at place fresh s1).switch) h less) in
      let done : InPass start (does (granted r stand.at place fresh) (does (entered range) pass)) s2 (record stand { changed = true }) o2 n2 =
      record { comes = comes2; at = h.at; blocked = h.blocked; tells = tells } in
      let waited : InPass start (waits (does (granted r stand.at place fresh) (does (entered range) pass))) s2 stand' o2 n2 =
      in-waits start (does (granted r stand.at place fresh) (does (entered range) pass)) s2 (record stand { changed = true }) o2 n2 done in
      let at-pass : InPass start (waits (does (granted r pass.at place fresh) (does (entered range) pass))) s2 stand' o2 n2 =
      subst (λ (a : ℕ). InPass start (waits (does (granted r a place fresh) (does (entered range) pass))) s2 stand' o2 n2) h.at waited in
      let place-there : place ≡ entry_place pass.done.switch.directory.entries range = e-place ∙ ap (λ (v : SwitchView). entry_place v.directory.entries range) h.comes.after in
      let at-place : InPass start (waits (does (granted r pass.at (entry_place pass.done.switch.directory.entries range) fresh) (does (entered range) pass))) s2 stand' o2 n2 =
      subst (λ (k : ℕ). InPass start (waits (does (granted r pass.at k fresh) (does (entered range) pass))) s2 stand' o2 n2) place-there at-pass in
      let range-there : range ≡ new_range r.page pass.done.switch = e-range ∙ ap (new_range r.page) h.comes.after in
      let at-range : InPass start (waits (does (granted r pass.at (entry_place pass.done.switch.directory.entries (new_range r.page pass.done.switch)) (fresh_entry (new_range r.page pass.done.switch))) (does (entered (new_range r.page pass.done.switch)) pass))) s2 stand' o2 n2 =
      subst (λ (g : RangeView). InPass start (waits (does (granted r pass.at (entry_place pass.done.switch.directory.entries g) (fresh_entry g)) (does (entered g) pass))) s2 stand' o2 n2) range-there at-place in
      subst (λ (p : Pass). InPass start p s2 stand' o2 n2) (sym (enters-is r pass)) at-range

  -- ---- room

  pub in-dropped : (s1 : SwitchView) (n1 : List Note) (i : ℕ) (entry : Entry) → IsSwitch s → slice_get s.directory.entries i ≡ Some entry → entry.busy ≡ None → s1 ≡ (dropped i entry s).switch → n1 ≡ n ++ (dropped i entry s).noted → InPass start (does (dropped i entry) pass) s1 (record stand { changed = true }) o n1
  in-dropped s1 n1 i entry was found idle e f =
      let less : left_to_do (dropped i entry s).switch < left_to_do s = omega (arith, less-dropped s i entry found idle) in
      in-does start pass (dropped i entry) s s1 stand o o n n1 h (safe-dropped s i entry was found idle) less e (sym (append-nil o)) f

  pub goes-dropped : (s' : SwitchView) (stand' : Stand) (o' : List (LinkName × Msg)) (n' : List Note) (r : Request) (room : Room) (i : ℕ) (entry : Entry) → room ≡ Drop i → slice_get s.directory.entries i ≡ Some entry → InPass start (enters r (does (dropped i entry) pass)) s' stand' o' n' → InPass start (with_room r room pass) s' stand' o' n'
  goes-dropped s' stand' o' n' r room i entry e found k =
      let here : InPass start (with_room r (Drop i) pass) s' stand' o' n' =
      subst (λ (x : Option Entry). InPass start (unwrap_or (option_map (λ y. enters r (does (dropped i y) pass)) x) (blocks pass)) s' stand' o' n') (sym (found-there i (Some entry) found)) k in
      subst (λ (x : Room). InPass start (with_room r x pass) s' stand' o' n') (sym e) here

  pub goes-evicted : (s' : SwitchView) (o' : List (LinkName × Msg)) (n' : List Note) (r : Request) (room : Room) (i : ℕ) (entry : Entry) → room ≡ Evict i → IsSwitch s → slice_get s.directory.entries i ≡ Some entry → entry.busy ≡ None → holders entry.state ≢ 0 → s' ≡ (cleared i entry s).switch → o' ≡ o ++ (cleared i entry s).sent → n' ≡ n ++ (cleared i entry s).noted → InPass start (with_room r room pass) s' (record stand { at = stand.at + 1; blocked = true; changed = true }) o' n'
  goes-evicted s' o' n' r room i entry e was found idle some p q w =
      let stand' : Stand = record stand { at = stand.at + 1; blocked = true; changed = true } in
      let done : InPass start (blocks (does (cleared i entry) pass)) s' stand' o' n' =
      in-blocks start (does (cleared i entry) pass) s' (record stand { changed = true }) o' n'
      (in-does start pass (cleared i entry) s s' stand o o' n n' h (safe-cleared s i entry was found idle some) (less-cleared s i entry found idle) p q w) in
      let here : InPass start (with_room r (Evict i) pass) s' stand' o' n' =
      subst (λ (x : Option Entry). InPass start (unwrap_or (option_map (λ y. blocks (does (cleared i y) pass)) x) (blocks pass)) s' stand' o' n') (sym (found-there i (Some entry) found)) done in
      subst (λ (x : Room). InPass start (with_room r x pass) s' stand' o' n') (sym e) here

  pub goes-merged : (r : Request) (room : Room) (i : ℕ) → room ≡ Merge i → InPass start (with_room r room pass) s (record stand { at = stand.at + 1; blocked = true }) o n
  goes-merged r room i e =
      subst (λ (x : Room). InPass start (with_room r x pass) s (record stand { at = stand.at + 1; blocked = true }) o n) (sym e) (in-blocks start pass s stand o n h)

  pub goes-roomless : (r : Request) (room : Room) → room ≡ Wait → InPass start (with_room r room pass) s (record stand { at = stand.at + 1; blocked = true }) o n
  goes-roomless r room e =
      subst (λ (x : Room). InPass start (with_room r x pass) s (record stand { at = stand.at + 1; blocked = true }) o n) (sym e) (in-blocks start pass s stand o n h)

  -- ---- no entry has the page

  pub goes-blocked : (r : Request) → stand.blocked ≡ true → InPass start (without_entry r pass) s (record stand { at = stand.at + 1 }) o n
  goes-blocked r t =
      let there : pass.blocked ≡ true = sym h.blocked ∙ t in
      subst (λ (b : Bool). InPass start (cond b (waits pass) (cond (is_full pass.done.switch) (with_room r (room_in pass.done.switch) pass) (enters r pass))) s (record stand { at = stand.at + 1 }) o n) (sym there) (in-waits start pass s stand o n h)

  pub goes-full : (s' : SwitchView) (stand' : Stand) (o' : List (LinkName × Msg)) (n' : List Note) (r : Request) → stand.blocked ≡ false → is_full s ≡ true → InPass start (with_room r (room_in s) pass) s' stand' o' n' → InPass start (without_entry r pass) s' stand' o' n'
  goes-full s' stand' o' n' r f t k =
      let there : pass.blocked ≡ false = sym h.blocked ∙ f in
      let full : is_full pass.done.switch ≡ true = ap is_full (sym h.comes.after) ∙ t in
      let room : InPass start (with_room r (room_in pass.done.switch) pass) s' stand' o' n' =
      subst (λ (v : SwitchView). InPass start (with_room r (room_in v) pass) s' stand' o' n') h.comes.after k in
      let later : InPass start (cond (is_full pass.done.switch) (with_room r (room_in pass.done.switch) pass) (enters r pass)) s' stand' o' n' =
      subst (λ (b : Bool). InPass start (cond b (with_room r (room_in pass.done.switch) pass) (enters r pass)) s' stand' o' n') (sym full) room in
      subst (λ (b : Bool). InPass start (cond b (waits pass) (cond (is_full pass.done.switch) (with_room r (room_in pass.done.switch) pass) (enters r pass))) s' stand' o' n') (sym there) later

  pub goes-space : (s' : SwitchView) (stand' : Stand) (o' : List (LinkName × Msg)) (n' : List Note) (r : Request) → stand.blocked ≡ false → is_full s ≡ false → InPass start (enters r pass) s' stand' o' n' → InPass start (without_entry r pass) s' stand' o' n'
  goes-space s' stand' o' n' r f g k =
      let there : pass.blocked ≡ false = sym h.blocked ∙ f in
      let space : is_full pass.done.switch ≡ false = ap is_full (sym h.comes.after) ∙ g in
      let later : InPass start (cond (is_full pass.done.switch) (with_room r (room_in pass.done.switch) pass) (enters r pass)) s' stand' o' n' =
      subst (λ (b : Bool). InPass start (cond b (with_room r (room_in pass.done.switch) pass) (enters r pass)) s' stand' o' n') (sym space) k in
      subst (λ (b : Bool). InPass start (cond b (waits pass) (cond (is_full pass.done.switch) (with_room r (room_in pass.done.switch) pass) (enters r pass))) s' stand' o' n') (sym there) later

  -- ---- a request

  pub goes-fetching : (r : Request) → r.fetching ≡ true → InPass start (treated r pass) s (record stand { at = stand.at + 1 }) o n
  goes-fetching r t =
      subst (λ (b : Bool). InPass start (cond b (waits pass) (unless-denied r (is_denied pass.done.switch r) pass)) s (record stand { at = stand.at + 1 }) o n) (sym t) (in-waits start pass s stand o n h)

  goes-unfetched : (s' : SwitchView) (stand' : Stand) (o' : List (LinkName × Msg)) (n' : List Note) (r : Request) (b : Bool) → r.fetching ≡ false → is_denied s r ≡ b → InPass start (unless-denied r b pass) s' stand' o' n' → InPass start (treated r pass) s' stand' o' n'
  goes-unfetched s' stand' o' n' r b f d k =
      let there : is_denied pass.done.switch r ≡ b = ap (λ (v : SwitchView). is_denied v r) (sym h.comes.after) ∙ d in
      let later : InPass start (unless-denied r (is_denied pass.done.switch r) pass) s' stand' o' n' =
      subst (λ (x : Bool). InPass start (unless-denied r x pass) s' stand' o' n') (sym there) k in
      subst (λ (x : Bool). InPass start (cond x (waits pass) (unless-denied r (is_denied pass.done.switch r) pass)) s' stand' o' n') (sym f) later

  pub goes-denied : (s' : SwitchView) (o' : List (LinkName × Msg)) (n' : List Note) (r : Request) → r.fetching ≡ false → allows r.write (permission_at s.protect r.page) ≡ false → IsSwitch s → slice_get s.requests stand.at ≡ Some r → s' ≡ (denied_request r s).switch → o' ≡ o ++ (denied_request r s).sent → n' ≡ n ++ (denied_request r s).noted → InPass start (treated r pass) s' (record stand { changed = true }) o' n'
  goes-denied s' o' n' r f g was place p q w =
      goes-unfetched s' (record stand { changed = true }) o' n' r true f (ap not g)
      (in-does start pass (denied_request r) s s' stand o o' n n' h (safe-denied s r stand.at was place) (less-denied s r stand.at place f) p q w)

  entry-there : (r : Request) (x : Option ℕ) → entry_for r.page s.directory.entries ≡ x → entry_for r.page pass.done.switch.directory.entries ≡ x
  entry-there r x e = ap (λ (v : SwitchView). entry_for r.page v.directory.entries) (sym h.comes.after) ∙ e

  pub goes-entry : (s' : SwitchView) (stand' : Stand) (o' : List (LinkName × Msg)) (n' : List Note) (r : Request) (x : Option ℕ) → r.fetching ≡ false → allows r.write (permission_at s.protect r.page) ≡ true → entry_for r.page s.directory.entries ≡ x → InPass start (for_entry r x pass) s' stand' o' n' → InPass start (treated r pass) s' stand' o' n'
  goes-entry s' stand' o' n' r x f t e k =
      goes-unfetched s' stand' o' n' r false f (ap not t)
      (subst (λ (y : Option ℕ). InPass start (for_entry r y pass) s' stand' o' n') (sym (entry-there r x e)) k)

pub full-test : (a b : ℕ) → a ≡ b → (a == b) ≡ true
full-test a b e = grind arith
