-- Pages that a blade gives up, may write no longer, or takes.
use Rattle.std.specs.Prelude.{ℕ, ◌^◌, Bool, false, not, List, [], ◌∷◌, ◌++◌, filter, length, Option, Some, None, if◌then◌else◌}
use Rattle.mind_base.specs.Page.{PageView}
use Rattle.mind_base.specs.Range.{RangeView}
use Rattle.mind_base.specs.Span.{SpanView}
use Rattle.mind_base.specs.declared.commands.Perm.{Perm}
use Rattle.mind_base.specs.declared.notes.Note.{Note}
use Rattle.mind_base.specs.declared.notes.Note.TheVariants as note
use Rattle.page_cache.specs.PageCache.{frame_of, without_page, with_change, lowered_frame, entries_after_put, put_of, oldest_first, stands_in, stands_writable_in, same_page}
use Rattle.page_cache.specs.declared.frames.Frame.{Frame}
use Rattle.page_cache.specs.declared.frames.Put.{Put}
use Rattle.page_cache.specs.declared.frames.Put.TheVariants.{Fresh, Replaced, Pushed}
use Rattle.page_image.specs.PageImage.{PageImageView}
use Rattle.wire_msg.specs.declared.msgs.Msg.{Msg}
use Rattle.wire_msg.specs.declared.msgs.Msg.TheVariants.{Back}
use Rattle.compute_blade.specs.Blade.{BladeView, BladeEffect, with_frames, only, and_then}
use Rattle.compute_blade.specs.declared.kept.Withdrawal.{Withdrawal}
use Rattle.compute_blade.specs.declared.kept.Withdrawal.TheVariants.{Pages, Writing}

-- the image of a dirty page goes back to the switch
abbrev pub back_of : PageView → Frame → List Msg
back_of page frame = if frame.dirty then Back page frame.image ∷ [] else []

-- a page is given up, where it is held
abbrev pub giving_up : PageView → Option Frame → BladeView → BladeEffect
giving_up page None blade = only blade
giving_up page (Some frame) blade = record {
  blade = with_frames blade (without_page page blade.cache.entries);
  sent = back_of page frame;
  noted = note.Give blade.number page ∷ [];
}

abbrev pub given_up : PageView → BladeView → BladeEffect
given_up page blade = giving_up page (frame_of page blade.cache.entries) blade

-- what `evict` of a page does
abbrev pub evicted : PageView → BladeView → BladeEffect
evicted page blade = given_up page blade

-- a page may be written no longer, where it is held; if it is dirty its image goes back, and it is clean
abbrev pub lowering : PageView → Option Frame → BladeView → BladeEffect
lowering page None blade = only blade
lowering page (Some frame) blade = record {
  blade = with_frames blade (with_change lowered_frame page blade.cache.entries);
  sent = back_of page frame;
  noted = note.Down blade.number page ∷ [];
}

abbrev pub lowered : PageView → BladeView → BladeEffect
lowered page blade = lowering page (frame_of page blade.cache.entries) blade

-- one page after another
abbrev pub each_in : (PageView → BladeView → BladeEffect) → List PageView → BladeView → BladeEffect
each_in change [] blade = only blade
each_in change (page ∷ pages) blade = and_then (change page blade) (each_in change pages)

-- a range as a run of pages
abbrev pub run_of_block : RangeView → SpanView
run_of_block range = record { domain = range.domain; base = range.base; pages = 2 ^ range.log }

-- the pages of a run that are held, and those that may be written, the least recently used first
abbrev pub held_in : RangeView → BladeView → List PageView
held_in range blade = oldest_first (stands_in (run_of_block range)) blade.cache.entries

abbrev pub writable_in : RangeView → BladeView → List PageView
writable_in range blade = oldest_first (stands_writable_in (run_of_block range)) blade.cache.entries

-- what the switch takes from the blade is done to a page; and the pages of a range to which it is done
abbrev pub withdrawn : Withdrawal → PageView → BladeView → BladeEffect
withdrawn Pages = given_up
withdrawn Writing = lowered

abbrev pub withdrawable_in : Withdrawal → RangeView → BladeView → List PageView
withdrawable_in Pages = held_in
withdrawable_in Writing = writable_in

-- how many of the pages were not asked for; 0 where no page was
abbrev pub spared : Option PageView → List PageView → ℕ
spared None pages = 0
spared (Some asked) pages = length (filter (λ page. not (same_page asked page)) pages)

-- ---- a page that comes

-- the page that it displaced, if another one: the note that it is given up, and its image if it is dirty
abbrev pub noted_out : ℕ → Put → List Note
noted_out number Fresh = []
noted_out number (Replaced old) = []
noted_out number (Pushed page old) = note.Give number page ∷ []

abbrev pub sent_out : Put → List Msg
sent_out Fresh = []
sent_out (Replaced old) = []
sent_out (Pushed page old) = back_of page old

-- A page is taken as the most recently used, in place of its own frame if it is held. A full cache of
-- others gives up its least recently used page first.
abbrev pub taken : PageView → Perm → Bool → PageImageView → BladeView → BladeEffect
taken page perm writable image blade = record {
  blade = with_frames blade (entries_after_put blade.cache page (record { image = image; writable = writable; dirty = false; perm = perm }));
  sent = sent_out (put_of blade.cache page);
  noted = noted_out blade.number (put_of blade.cache page) ++ note.Take blade.number page writable ∷ [];
}
