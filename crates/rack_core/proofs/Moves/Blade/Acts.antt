-- One thing that a blade does to its pages or its requests is one move.
use Rattle.std.proofs.Common.{◌≡◌, ℕ, Bool, true, false, ap, sym, refl, Option, List, [], ◌∷◌, ◌++◌, Some, None, option_map, ◌∙◌, append-nil}
use Rattle.std.specs.Prelude.{if◌then◌else◌}
use Rattle.mind_base.specs.Page.{PageView}
use Rattle.mind_base.specs.Range.{RangeView, in_range}
use Rattle.mind_base.specs.declared.commands.Perm.{Perm}
use Rattle.page_cache.specs.PageCache.{IsPageCache, same_page, frame_of, without_page, with_change, lowered_frame, is_writable}
use Rattle.page_cache.specs.declared.frames.Frame.{Frame}
use Rattle.page_image.specs.PageImage.{PageImageView}
use Rattle.wire_msg.specs.declared.msgs.Msg.{Msg}
use Rattle.wire_msg.specs.declared.msgs.Msg.TheVariants.{Get, Fill, Deny, Inv, Lower, Ack}
use Rattle.compute_blade.specs.Blade.{BladeView, with_frames, is_asked, request_for, requests_without}
use Rattle.compute_blade.specs.Pages.{back_of}
use Rattle.compute_blade.specs.declared.kept.Asked.{Asked}
use Rattle.coherence.specs.Moves.{Asks, Stores, GivesUp, Lowers, TakesFill, TakesDeny, AnswersInv, AnswersLower, answers, took}
use Rattle.coherence.specs.World.{World, put, put_page, put_both}
use Rattle.coherence.proofs.Callers.{put-here, put-other, put_both-other}
use Rattle.rack_core.specs.BladeMoves.{asked_in, with_seen_blade, HasBlade, LeadsTo}
use Rattle.rack_core.proofs.Moves.Blade.Worlds.{seen_as, one_move, at_blade}
use Rattle.rack_core.proofs.Lists.Lookups.{Entries, found-without, found-with_change, unasked, request-more, request-answered}

-- what a page is changed to, at the blade
at_page : {X : Type 0} (c : ℕ) (page : PageView) (x : X) (f : ℕ → PageView → X) (old new : PageView → X)
    → ((other : PageView) → f c other ≡ old other) → ((other : PageView) → new other ≡ (if same_page other page then x else old other))
    → (other : PageView) → put_both c page x f c other ≡ new other
at_page c page x f old new was is other = at_blade c page x f other ∙ ap (λ y. if same_page other page then x else y) (was other) ∙ sym (is other)

asked-answered : (page : PageView) (requests : List Asked) (other : PageView)
    → asked_in (requests_without page requests) other ≡ (if same_page other page then None else asked_in requests other)
asked-answered page requests other = ap (option_map (λ asked. asked.write)) (request-answered page requests other) ∙ by (same_page other page) where
  by : (b : Bool) → option_map (λ asked. asked.write) (if b then None else request_for other requests) ≡ (if b then None else asked_in requests other)
  by true = refl
  by false = refl

asked-more : (requests : List Asked) (asked : Asked) → request_for asked.page requests ≡ None → (other : PageView)
    → asked_in (requests ++ asked ∷ []) other ≡ (if same_page other asked.page then Some asked.write else asked_in requests other)
asked-more requests asked h other = ap (option_map (λ asked. asked.write)) (request-more requests asked h other) ∙ by (same_page other asked.page) where
  by : (b : Bool) → option_map (λ asked. asked.write) (if b then Some asked else request_for other requests) ≡ (if b then Some asked.write else asked_in requests other)
  by true = refl
  by false = refl

-- a page that is held is given up
pub gives : (c : ℕ) (blade : BladeView) (w : World) (page : PageView) (frame : Frame) → HasBlade c blade w → IsPageCache blade.cache
    → frame_of page blade.cache.entries ≡ Some frame → LeadsTo w w c (with_frames blade (without_page page blade.cache.entries)) (back_of page frame) w.flat
gives c blade w page frame h is held = record {
  moves = GivesUp c page frame ∷ [];
  run = one_move w (GivesUp c page frame) _ (h.frames page ∙ held) (seen_as c (with_frames blade (without_page page blade.cache.entries)) (back_of page frame) w
      (put_both c page None w.frames) w.asks (put c (w.ups c ++ back_of page frame) w.ups) w.flat (record {
        frames_here = at_page c page None w.frames (λ q. frame_of q blade.cache.entries) (λ q. frame_of q (without_page page blade.cache.entries)) h.frames (found-without page blade.cache.entries is.distinct);
        frames_away = λ n e q. put_both-other c page None w.frames n q e;
        asks_here = h.asks;
        asks_away = λ n e q. refl;
        ups_here = put-here c (w.ups c ++ back_of page frame) w.ups;
        ups_away = λ n e. put-other c (w.ups c ++ back_of page frame) w.ups n e;
      }));
}

-- a page that is held may be written no longer
pub lowers : (c : ℕ) (blade : BladeView) (w : World) (page : PageView) (frame : Frame) → HasBlade c blade w
    → frame_of page blade.cache.entries ≡ Some frame → LeadsTo w w c (with_frames blade (with_change lowered_frame page blade.cache.entries)) (back_of page frame) w.flat
lowers c blade w page frame h held = record {
  moves = Lowers c page frame ∷ [];
  run = one_move w (Lowers c page frame) _ (h.frames page ∙ held) (seen_as c (with_frames blade (with_change lowered_frame page blade.cache.entries)) (back_of page frame) w
      (put_both c page (Some (lowered_frame frame)) w.frames) w.asks (put c (w.ups c ++ back_of page frame) w.ups) w.flat (record {
        frames_here = at_page c page (Some (lowered_frame frame)) w.frames (λ q. frame_of q blade.cache.entries) (λ q. frame_of q (with_change lowered_frame page blade.cache.entries)) h.frames
            (found-with_change lowered_frame page frame blade.cache.entries held);
        frames_away = λ n e q. put_both-other c page (Some (lowered_frame frame)) w.frames n q e;
        asks_here = h.asks;
        asks_away = λ n e q. refl;
        ups_here = put-here c (w.ups c ++ back_of page frame) w.ups;
        ups_away = λ n e. put-other c (w.ups c ++ back_of page frame) w.ups n e;
      }));
}

-- a page is asked for
pub asks : (c : ℕ) (blade : BladeView) (w : World) (asked : Asked) → HasBlade c blade w
    → is_asked asked.page blade.requests ≡ false → is_writable (frame_of asked.page blade.cache.entries) ≡ false
    → LeadsTo w w c (record blade { requests = blade.requests ++ asked ∷ [] }) (Get asked.page asked.write ∷ []) w.flat
asks c blade w asked h free unwritable =
    let none : request_for asked.page blade.requests ≡ None = unasked asked.page blade.requests free in
    record {
      moves = Asks c asked.page asked.write ∷ [];
      run = one_move w (Asks c asked.page asked.write) _
          (record { free = h.asks asked.page ∙ ap (option_map (λ a. a.write)) none; unwritable = ap is_writable (h.frames asked.page) ∙ unwritable })
          (seen_as c (record blade { requests = blade.requests ++ asked ∷ [] }) (Get asked.page asked.write ∷ []) w
          w.frames (put_both c asked.page (Some asked.write) w.asks) (put c (w.ups c ++ Get asked.page asked.write ∷ []) w.ups) w.flat (record {
            frames_here = h.frames;
            frames_away = λ n e q. refl;
            asks_here = at_page c asked.page (Some asked.write) w.asks (asked_in blade.requests) (asked_in (blade.requests ++ asked ∷ [])) h.asks (asked-more blade.requests asked none);
            asks_away = λ n e q. put_both-other c asked.page (Some asked.write) w.asks n q e;
            ups_here = put-here c (w.ups c ++ Get asked.page asked.write ∷ []) w.ups;
            ups_away = λ n e. put-other c (w.ups c ++ Get asked.page asked.write ∷ []) w.ups n e;
          }));
    }

-- a store takes effect in a frame that may be written
pub stores : (c : ℕ) (blade : BladeView) (w : World) (page : PageView) (frame : Frame) (image : PageImageView) (entries : Entries) → HasBlade c blade w
    → frame_of page blade.cache.entries ≡ Some frame → frame.writable ≡ true
    → ((other : PageView) → frame_of other entries ≡ (if same_page other page then Some (record frame { image = image; dirty = true }) else frame_of other blade.cache.entries))
    → LeadsTo w w c (with_frames blade entries) [] (put_page page image w.flat)
stores c blade w page frame image entries h held writable found = record {
  moves = Stores c page frame image ∷ [];
  run = one_move w (Stores c page frame image) _ (h.frames page ∙ held, writable) (seen_as c (with_frames blade entries) [] w
      (put_both c page (Some (record frame { image = image; dirty = true })) w.frames) w.asks w.ups (put_page page image w.flat) (record {
        frames_here = at_page c page (Some (record frame { image = image; dirty = true })) w.frames (λ q. frame_of q blade.cache.entries) (λ q. frame_of q entries) h.frames found;
        frames_away = λ n e q. put_both-other c page (Some (record frame { image = image; dirty = true })) w.frames n q e;
        asks_here = h.asks;
        asks_away = λ n e q. refl;
        ups_here = sym (append-nil (w.ups c));
        ups_away = λ n e. refl;
      }));
}

-- pages are used
pub uses : (c : ℕ) (blade : BladeView) (w : World) (entries : Entries) → HasBlade c blade w
    → ((other : PageView) → frame_of other entries ≡ frame_of other blade.cache.entries) → HasBlade c (with_frames blade entries) w
uses c blade w entries h found = record { frames = λ page. h.frames page ∙ sym (found page); asks = h.asks }

-- a page comes, and its request ends
pub takes : (c : ℕ) (blade : BladeView) (w : World) (page : PageView) (perm : Perm) (writable : Bool) (image : PageImageView) (behind : List Msg) (entries : Entries)
    → HasBlade c blade w → w.downs c ≡ Fill page perm writable image ∷ behind
    → ((other : PageView) → frame_of other entries ≡ (if same_page other page then Some (record { image = image; writable = writable; dirty = false; perm = perm }) else frame_of other blade.cache.entries))
    → LeadsTo w (took c behind w) c (record (with_frames blade entries) { requests = requests_without page blade.requests }) [] w.flat
takes c blade w page perm writable image behind entries h head found = record {
  moves = TakesFill c page perm writable image behind ∷ [];
  run = one_move w (TakesFill c page perm writable image behind) _ head
      (seen_as c (record (with_frames blade entries) { requests = requests_without page blade.requests }) [] (took c behind w)
      (put_both c page (Some (record { image = image; writable = writable; dirty = false; perm = perm })) w.frames) (put_both c page None w.asks) w.ups w.flat (record {
        frames_here = at_page c page (Some (record { image = image; writable = writable; dirty = false; perm = perm })) w.frames (λ q. frame_of q blade.cache.entries) (λ q. frame_of q entries) h.frames found;
        frames_away = λ n e q. put_both-other c page (Some (record { image = image; writable = writable; dirty = false; perm = perm })) w.frames n q e;
        asks_here = at_page c page None w.asks (asked_in blade.requests) (asked_in (requests_without page blade.requests)) h.asks (asked-answered page blade.requests);
        asks_away = λ n e q. put_both-other c page None w.asks n q e;
        ups_here = sym (append-nil (w.ups c));
        ups_away = λ n e. refl;
      }));
}

-- a page is denied, and its request ends
pub denied : (c : ℕ) (blade : BladeView) (w : World) (page : PageView) (behind : List Msg) → HasBlade c blade w → w.downs c ≡ Deny page ∷ behind
    → LeadsTo w (took c behind w) c (record blade { requests = requests_without page blade.requests }) [] w.flat
denied c blade w page behind h head = record {
  moves = TakesDeny c page behind ∷ [];
  run = one_move w (TakesDeny c page behind) _ head
      (seen_as c (record blade { requests = requests_without page blade.requests }) [] (took c behind w)
      w.frames (put_both c page None w.asks) w.ups w.flat (record {
        frames_here = h.frames;
        frames_away = λ n e q. refl;
        asks_here = at_page c page None w.asks (asked_in blade.requests) (asked_in (requests_without page blade.requests)) h.asks (asked-answered page blade.requests);
        asks_away = λ n e q. put_both-other c page None w.asks n q e;
        ups_here = sym (append-nil (w.ups c));
        ups_away = λ n e. refl;
      }));
}

-- an invalidation is answered when no page of its block is held, a lowering when none may be written
abbrev pub answers_to : ℕ → ℕ → List Msg
answers_to number count = Ack number count ∷ []

answered-changes : (c : ℕ) (blade : BladeView) (w : World) (number count : ℕ) (behind : List Msg) → HasBlade c blade w
    → with_seen_blade c blade (answers_to number count) w.flat (took c behind w) ≡ answers c number count behind w
answered-changes c blade w number count behind h = seen_as c blade (answers_to number count) (took c behind w)
    w.frames w.asks (put c (w.ups c ++ answers_to number count) w.ups) w.flat (record {
      frames_here = h.frames;
      frames_away = λ n e q. refl;
      asks_here = h.asks;
      asks_away = λ n e q. refl;
      ups_here = put-here c (w.ups c ++ answers_to number count) w.ups;
      ups_away = λ n e. put-other c (w.ups c ++ answers_to number count) w.ups n e;
    })

pub answers_inv : (c : ℕ) (blade : BladeView) (w : World) (number : ℕ) (range : RangeView) (asked : Option PageView) (count : ℕ) (behind : List Msg)
    → HasBlade c blade w → w.downs c ≡ Inv number range asked ∷ behind
    → ((page : PageView) → in_range range page ≡ true → frame_of page blade.cache.entries ≡ None)
    → LeadsTo w (took c behind w) c blade (answers_to number count) w.flat
answers_inv c blade w number range asked count behind h head none = record {
  moves = AnswersInv c number range asked count behind ∷ [];
  run = one_move w (AnswersInv c number range asked count behind) _ (head, λ page inside. h.frames page ∙ none page inside) (answered-changes c blade w number count behind h);
}

pub answers_lower : (c : ℕ) (blade : BladeView) (w : World) (number : ℕ) (range : RangeView) (asked : PageView) (count : ℕ) (behind : List Msg)
    → HasBlade c blade w → w.downs c ≡ Lower number range asked ∷ behind
    → ((page : PageView) → in_range range page ≡ true → is_writable (frame_of page blade.cache.entries) ≡ false)
    → LeadsTo w (took c behind w) c blade (answers_to number count) w.flat
answers_lower c blade w number range asked count behind h head none = record {
  moves = AnswersLower c number range asked count behind ∷ [];
  run = one_move w (AnswersLower c number range asked count behind) _ (head, λ page inside. ap is_writable (h.frames page) ∙ none page inside) (answered-changes c blade w number count behind h);
}
