-- What a blade does when it is to give up pages or may write them no longer.
use Rattle.std.proofs.Common.{◌≡◌, ℕ, Bool, true, false, cond, ◌||◌, ap, sym, refl, subst, List, [], ◌∷◌, map, filter, reverse, Option, Some, None, is_some, ◌∙◌}
use Rattle.std.specs.Prelude.{if◌then◌else◌}
use Rattle.std.specs.List.{list_any}
use Rattle.std.proofs.lemmas.Bool.{and_from}
use Rattle.std.proofs.lemmas.List.{reverse-append}
use Rattle.std.proofs.lemmas.List.Folds.{list_any-append}
use Rattle.mind_base.specs.Page.{PageView}
use Rattle.mind_base.specs.Range.{RangeView}
use Rattle.mind_base.specs.declared.commands.Perm.{Perm}
use Rattle.mind_base.specs.declared.images.Image.{Image}
use Rattle.page_cache.specs.PageCache.{IsPageCache, same_page, frame_of, without_page, with_change, lowered_frame, newest_first, oldest_first, stands_in, stands_writable_in, is_writable}
use Rattle.page_cache.specs.declared.frames.Frame.{Frame}
use Rattle.page_cache.proofs.Callers.{same_page-true}
use Rattle.wire_msg.specs.declared.msgs.Msg.{Msg}
use Rattle.wire_msg.specs.declared.msgs.Msg.TheVariants.{Inv, Lower}
use Rattle.compute_blade.specs.Blade.{BladeView, BladeEffect, with_frames, and_then, only}
use Rattle.compute_blade.specs.Messages.{after_message}
use Rattle.compute_blade.specs.Pages.{given_up, giving_up, lowered, lowering, each_in, held_in, writable_in, run_of_block, spared}
use Rattle.coherence.specs.Moves.{took}
use Rattle.coherence.specs.World.{World}
use Rattle.rack_core.specs.BladeMoves.{with_seen_blade, HasBlade, LeadsTo, IsSoundBlade, DoesMoves}
use Rattle.rack_core.proofs.Moves.Blade.Worlds.{stays, has_blade, leads_on, leads_taking}
use Rattle.rack_core.proofs.Moves.Blade.Acts.{gives, lowers, answers_inv, answers_lower}
use Rattle.rack_core.proofs.Lists.Lookups.{Entries, found-without, found-with_change, cache-without, cache-with_change}

-- ---- one page after another

-- only the pages of a blade change, and by moves; of these pages none passes a test of frames any more
pub record ChangesPages (on : Option Frame → Bool) (blade : BladeView) (pages : List PageView) (e : BladeEffect) : Type 0 where
  pub only : e.blade ≡ with_frames blade e.blade.cache.entries
  pub shape : IsPageCache e.blade.cache
  pub gone : (page : PageView) → on (frame_of page e.blade.cache.entries) ≡ (if list_any (same_page page) pages then false else on (frame_of page blade.cache.entries))
  pub leads : (c : ℕ) (w : World) → HasBlade c blade w → LeadsTo w w c e.blade e.sent w.flat

changes_none : (on : Option Frame → Bool) (blade : BladeView) → IsPageCache blade.cache → ChangesPages on blade [] (record { blade = blade; sent = []; noted = [] })
changes_none on blade is = record { only = refl; shape = is; gone = λ page. refl; leads = λ c w h. stays c blade w h }

changes_more : (on : Option Frame → Bool) (blade : BladeView) (page : PageView) (pages : List PageView) (first : BladeEffect) (next : BladeView → BladeEffect)
    → ChangesPages on blade (page ∷ []) first → ChangesPages on first.blade pages (next first.blade) → ChangesPages on blade (page ∷ pages) (and_then first next)
changes_more on blade page pages first next one more = record {
  only = more.only ∙ ap (λ b. with_frames b (next first.blade).blade.cache.entries) one.only;
  shape = more.shape;
  gone = λ q. more.gone q ∙ ap (λ b. if list_any (same_page q) pages then false else b) (one.gone q) ∙ by (same_page q page) (list_any (same_page q) pages) (on (frame_of q blade.cache.entries));
  leads = λ c w h. let one = one.leads c w h in leads_on w w c first.blade (next first.blade).blade first.sent (next first.blade).sent w.flat w.flat one
      (more.leads c (with_seen_blade c first.blade first.sent w.flat w) (has_blade c first.blade first.sent w.flat w));
} where
  by : (a b x : Bool) → (if b then false else (if a || false then false else x)) ≡ (if a || b then false else x)
  by true true x = refl
  by true false x = refl
  by false true x = refl
  by false false x = refl

pub each : (on : Option Frame → Bool) (change : PageView → BladeView → BladeEffect)
    → ((page : PageView) (blade : BladeView) → IsPageCache blade.cache → ChangesPages on blade (page ∷ []) (change page blade))
    → (pages : List PageView) (blade : BladeView) → IsPageCache blade.cache → ChangesPages on blade pages (each_in change pages blade)
each on change one [] blade is = changes_none on blade is
each on change one (page ∷ pages) blade is =
    let first = one page blade is in
    changes_more on blade page pages (change page blade) (each_in change pages) first (each on change one pages (change page blade).blade first.shape)

-- a test of a page that is changed
here_or_away : (on : Option Frame → Bool) (page : PageView) (x : Option Frame) (entries new : Entries) → on x ≡ false
    → ((q : PageView) → frame_of q new ≡ (if same_page q page then x else frame_of q entries))
    → (q : PageView) → on (frame_of q new) ≡ (if list_any (same_page q) (page ∷ []) then false else on (frame_of q entries))
here_or_away on page x entries new off found q = ap on (found q) ∙ by (same_page q page) where
  by : (b : Bool) → on (if b then x else frame_of q entries) ≡ (if b || false then false else on (frame_of q entries))
  by true = off
  by false = refl

-- a page that is not held passes no test that fails without a frame
absent : (on : Option Frame → Bool) (page : PageView) (entries : Entries) → on None ≡ false → frame_of page entries ≡ None
    → (q : PageView) → on (frame_of q entries) ≡ (if list_any (same_page q) (page ∷ []) then false else on (frame_of q entries))
absent on page entries off none q = by (same_page q page) refl where
  by : (b : Bool) → same_page q page ≡ b → on (frame_of q entries) ≡ (if b || false then false else on (frame_of q entries))
  by true e = ap (λ p. on (frame_of p entries)) (same_page-true q page e) ∙ ap on none ∙ off
  by false e = refl

-- where the page is not held nothing changes
changes_at : (on : Option Frame → Bool) (page : PageView) (blade : BladeView) (change : Option Frame → BladeEffect) → on None ≡ false → change None ≡ only blade → IsPageCache blade.cache
    → ((frame : Frame) → frame_of page blade.cache.entries ≡ Some frame → ChangesPages on blade (page ∷ []) (change (Some frame))) → ChangesPages on blade (page ∷ []) (change (frame_of page blade.cache.entries))
changes_at on page blade change off idle is held = by (frame_of page blade.cache.entries) refl where
  by : (f : Option Frame) → frame_of page blade.cache.entries ≡ f → ChangesPages on blade (page ∷ []) (change f)
  by None e = subst (ChangesPages on blade (page ∷ [])) (sym idle) (record { only = refl; shape = is; gone = absent on page blade.cache.entries off e; leads = λ c w h. stays c blade w h })
  by (Some frame) e = held frame e

pub given_up-changes : (page : PageView) (blade : BladeView) → IsPageCache blade.cache → ChangesPages is_some blade (page ∷ []) (given_up page blade)
given_up-changes page blade is = changes_at is_some page blade (λ f. giving_up page f blade) refl refl is (λ frame e. record {
  only = refl;
  shape = cache-without page blade.cache is;
  gone = here_or_away is_some page None blade.cache.entries (without_page page blade.cache.entries) refl (found-without page blade.cache.entries is.distinct);
  leads = λ c w h. gives c blade w page frame h is e;
})

pub lowered-changes : (page : PageView) (blade : BladeView) → IsPageCache blade.cache → ChangesPages is_writable blade (page ∷ []) (lowered page blade)
lowered-changes page blade is = changes_at is_writable page blade (λ f. lowering page f blade) refl refl is (λ frame e. record {
  only = refl;
  shape = cache-with_change lowered_frame page blade.cache is;
  gone = here_or_away is_writable page (Some (lowered_frame frame)) blade.cache.entries (with_change lowered_frame page blade.cache.entries) refl (found-with_change lowered_frame page frame blade.cache.entries e);
  leads = λ c w h. lowers c blade w page frame h e;
})

-- ---- the pages of a block

-- a page that is held and passes a test is listed
listed : (test : PageView × Frame → Bool) (page : PageView) (frame : Frame) (entries : Entries) → frame_of page entries ≡ Some frame → test (page, frame) ≡ true
    → list_any (same_page page) (newest_first test entries) ≡ true
listed test page frame [] held passes = let never : ⊥ = cc in absurd never
listed test page frame (entry ∷ entries) held passes = by (λ h. listed test page frame entries h passes) (same_page page entry.0) refl (test entry) refl held where
  by : (frame_of page entries ≡ Some frame → list_any (same_page page) (newest_first test entries) ≡ true) → (b : Bool) → same_page page entry.0 ≡ b → (c : Bool) → test entry ≡ c
      → cond b (Some entry.1) (frame_of page entries) ≡ Some frame → list_any (same_page page) (map (λ e. e.0) (cond c (entry ∷ filter test entries) (filter test entries))) ≡ true
  by rest true e true f h = ap (λ b. b || list_any (same_page page) (newest_first test entries)) e
  by rest true e false f h =
      let same : entry.1 ≡ frame = cc in
      let key : entry.0 ≡ page = sym (same_page-true page entry.0 e) in
      let never : true ≡ false = sym passes ∙ ap test (λ i. (sym key i, sym same i)) ∙ f in
      absurd (cc)
  by rest false e true f h = ap (λ b. b || list_any (same_page page) (newest_first test entries)) e ∙ rest h
  by rest false e false f h = rest h

reversed : (page : PageView) (pages : List PageView) → list_any (same_page page) (reverse pages) ≡ list_any (same_page page) pages
reversed page [] = refl
reversed page (first ∷ pages) =
    ap (list_any (same_page page)) (reverse-append (first ∷ []) pages) ∙ list_any-append (same_page page) (reverse pages) (first ∷ [])
    ∙ ap (λ b. b || (same_page page first || false)) (reversed page pages) ∙ by (list_any (same_page page) pages) (same_page page first)
  where
    by : (a b : Bool) → (a || (b || false)) ≡ (b || a)
    by true true = refl
    by true false = refl
    by false true = refl
    by false false = refl

-- ---- the calls

-- a blade whose pages alone changed is sound
pub sound_entries : (perms : PageView → Perm) (blade new : BladeView) → IsSoundBlade perms blade → new ≡ with_frames blade new.cache.entries → IsPageCache new.cache → IsSoundBlade perms new
sound_entries perms blade new sound only shape = subst (IsSoundBlade perms) (sym only)
    (record { cache = subst (λ b. IsPageCache b.cache) only shape; apart = sound.apart; waiters = sound.waiters; requests = sound.requests; waiting = sound.waiting; stores = sound.stores })

pub evict : (w : World) (c : ℕ) (blade : BladeView) (page : PageView) → HasBlade c blade w → IsSoundBlade w.perms blade
    → DoesMoves w w c (given_up page blade)
evict w c blade page h sound =
    let changes = given_up-changes page blade sound.cache in
    record { flat = w.flat; leads = changes.leads c w h; kept = λ page e. refl; sound = sound_entries w.perms blade (given_up page blade).blade sound changes.only changes.shape }

-- none of a block is held when those that were are given up
pub block_gone : (on : Option Frame → Bool) (test : PageView × Frame → Bool) (page : PageView) (entries new : Entries)
    → ((frame : Frame) → on (Some frame) ≡ true → test (page, frame) ≡ true) → on None ≡ false
    → on (frame_of page new) ≡ (if list_any (same_page page) (oldest_first test entries) then false else on (frame_of page entries))
    → on (frame_of page new) ≡ false
block_gone on test page entries new passes none gone = gone ∙ by (frame_of page entries) refl where
  by : (f : Option Frame) → frame_of page entries ≡ f → (if list_any (same_page page) (oldest_first test entries) then false else on f) ≡ false
  by None e = which (list_any (same_page page) (oldest_first test entries)) where
    which : (b : Bool) → (if b then false else on None) ≡ false
    which true = refl
    which false = none
  by (Some frame) e = which (on (Some frame)) refl where
    which : (b : Bool) → on (Some frame) ≡ b → (if list_any (same_page page) (oldest_first test entries) then false else b) ≡ false
    which true o = ap (λ b. if b then false else true) (reversed page (newest_first test entries) ∙ listed test page frame entries e (passes frame o))
    which false o = either (list_any (same_page page) (oldest_first test entries)) where
      either : (b : Bool) → (if b then false else false) ≡ false
      either true = refl
      either false = refl

not_some : (f : Option Frame) → is_some f ≡ false → f ≡ None
not_some None e = refl
not_some (Some frame) e = let never : ⊥ = cc in absurd never

-- The pages whose frames pass a test are changed, and the switch is answered: a page all of whose frames would pass it is then held in none.
acknowledges : (w : World) (c : ℕ) (blade : BladeView) (on : Option Frame → Bool) (change : PageView → BladeView → BladeEffect) (test : PageView × Frame → Bool) (message : Msg) (behind answer : List Msg)
    → ((page : PageView) (blade : BladeView) → IsPageCache blade.cache → ChangesPages on blade (page ∷ []) (change page blade)) → on None ≡ false
    → HasBlade c blade w → IsSoundBlade w.perms blade → w.downs c ≡ message ∷ behind
    → ((v : World) → HasBlade c (each_in change (oldest_first test blade.cache.entries) blade).blade v → v.downs c ≡ message ∷ behind
    → ((page : PageView) → ((frame : Frame) → on (Some frame) ≡ true → test (page, frame) ≡ true)
    → on (frame_of page (each_in change (oldest_first test blade.cache.entries) blade).blade.cache.entries) ≡ false)
    → LeadsTo v (took c behind v) c (each_in change (oldest_first test blade.cache.entries) blade).blade answer v.flat)
    → DoesMoves w (took c behind w) c (and_then (each_in change (oldest_first test blade.cache.entries) blade) (λ after. record { blade = after; sent = answer; noted = [] }))
acknowledges w c blade on change test message behind answer one none h sound head answers =
    let pages = oldest_first test blade.cache.entries in
    let changes = each on change one pages blade sound.cache in
    let after = (each_in change pages blade).blade in
    let sent = (each_in change pages blade).sent in
    record {
      flat = w.flat;
      kept = λ page e. refl;
      leads = leads_taking w c behind after after sent answer w.flat w.flat (changes.leads c w h)
          (answers (with_seen_blade c after sent w.flat w) (has_blade c after sent w.flat w) head
          (λ page passes. block_gone on test page blade.cache.entries after.cache.entries passes none (changes.gone page)));
      sound = sound_entries w.perms blade after sound changes.only changes.shape;
    }

pub invalidate : (images : List Image) (w : World) (c : ℕ) (blade : BladeView) (number : ℕ) (range : RangeView) (asked : Option PageView) (behind : List Msg)
    → HasBlade c blade w → IsSoundBlade w.perms blade → w.downs c ≡ Inv number range asked ∷ behind
    → DoesMoves w (took c behind w) c (after_message images (Inv number range asked) blade)
invalidate images w c blade number range asked behind h sound head =
    acknowledges w c blade is_some given_up (stands_in (run_of_block range)) (Inv number range asked) behind _ given_up-changes refl h sound head
    (λ v has downs gone. answers_inv c _ v number range asked (spared asked (held_in range blade)) behind has downs (λ page inside. not_some _ (gone page (λ frame o. inside))))

pub lower : (images : List Image) (w : World) (c : ℕ) (blade : BladeView) (number : ℕ) (range : RangeView) (asked : PageView) (behind : List Msg)
    → HasBlade c blade w → IsSoundBlade w.perms blade → w.downs c ≡ Lower number range asked ∷ behind
    → DoesMoves w (took c behind w) c (after_message images (Lower number range asked) blade)
lower images w c blade number range asked behind h sound head =
    acknowledges w c blade is_writable lowered (stands_writable_in (run_of_block range)) (Lower number range asked) behind _ lowered-changes refl h sound head
    (λ v has downs gone. answers_lower c _ v number range asked (spared (Some asked) (writable_in range blade)) behind has downs (λ page inside. gone page (λ frame o. and_from _ _ inside o)))
