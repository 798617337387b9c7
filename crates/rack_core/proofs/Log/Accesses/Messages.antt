-- What waited at a blade for the answer to a request, or is done where a message comes, is done where the blade holds the page that it needs.
use Rattle.std.proofs.Common.{◌≡◌, ℕ, Bool, true, ap, sym, refl, subst, ◌∙◌, List, ◌∷◌, ◌++◌, fold, slice_get, Some}
use Rattle.mind_base.specs.Page.{PageView}
use Rattle.mind_base.specs.declared.commands.Perm.{Perm}
use Rattle.mind_base.specs.declared.images.Image.{Image}
use Rattle.mind_base.specs.declared.links.LinkKind.TheVariants.{Down}
use Rattle.mind_base.specs.declared.notes.Note.{Note}
use Rattle.mind_base.specs.Permission.{allows}
use Rattle.page_cache.specs.PageCache.{frame_of, entries_after_put, put_of}
use Rattle.page_cache.specs.declared.frames.Frame.{Frame}
use Rattle.page_image.specs.PageImage.{PageImageView}
use Rattle.wire_msg.specs.declared.msgs.Msg.{Msg}
use Rattle.wire_msg.specs.declared.msgs.Msg.TheVariants.{Fill, Deny, Inv, Lower}
use Rattle.compute_blade.specs.Blade.{BladeView, BladeEffect, with_frames, request_for}
use Rattle.compute_blade.specs.Messages.{after_message, need_asked, resumed_by, resumed_for}
use Rattle.compute_blade.specs.Pages.{taken}
use Rattle.compute_blade.specs.declared.kept.Answer.{Answer}
use Rattle.compute_blade.specs.declared.kept.Answer.TheVariants.{Filled, Denied}
use Rattle.compute_blade.specs.declared.kept.Asked.{Asked}
use Rattle.coherence.specs.Facts.{AreDowns, IsCoherent, IsDown}
use Rattle.coherence.specs.Held.{held_after}
use Rattle.coherence.proofs.Callers.{put-here, downs-cons, writable_of}
use Rattle.tso_machine.specs.State.{Setup, State}
use Rattle.rack_core.specs.Accesses.{AreAccessesHeld}
use Rattle.rack_core.specs.BladeMoves.{handing}
use Rattle.rack_core.specs.Rack.{RackView}
use Rattle.rack_core.specs.Seen.{pending_on, seen}
use Rattle.rack_core.specs.StandLog.{AreHartsPlaced}
use Rattle.rack_core.specs.StandRuns.{GoesWith}
use Rattle.rack_core.proofs.Log.Accesses.Blades.{Holds, resumes-hold, denies-hold}
use Rattle.rack_core.proofs.Log.Accesses.Logs.{accesses-then, silent-held, silent-stays}
use Rattle.rack_core.proofs.Moves.Blade.Fills.{came}
use Rattle.rack_core.proofs.Log.Held.BladeNotes.{HoldsAs, taking, taken-holds}
use Rattle.rack_core.proofs.Moves.Blade.Answered.{has_come, was_denied}
use Rattle.rack_core.proofs.Lists.Lookups.{cache-put}
use Rattle.rack_core.proofs.Machine.Ending.{Between, between}
use Rattle.rack_core.proofs.Machine.Harts.{Entries}
use Rattle.rack_core.proofs.Machine.Mids.{taken-silent}
use Rattle.rack_core.proofs.Machine.Pages.{blade-held, invalidate-alone, lower-alone}

-- ---- the answer to a request

-- what waited for it holds what it wants, as it goes on in the rack in which the request has ended
answers-hold : (answer : Answer) (images : List Image) (setup : Setup) (old : RackView) (flat : PageView → PageImageView) (m : State) (c : ℕ) (blade : BladeView) (entries : Entries) (page : PageView) (asked : Asked)
    → (b : Between answer images setup old flat m c blade entries page asked)
    → Holds setup m b.at.plan.blade b.at.blade (resumed_by asked.waits answer (need_asked asked) images asked.hart b.at.plan b.at.blade b.hart).noted
    → Holds setup m c (with_frames blade entries) (resumed_for answer images (request_for page blade.requests) (with_frames blade entries)).noted
answers-hold answer images setup old flat m c blade entries page asked b goes held holds =
    subst (λ (e : BladeEffect). AreAccessesHeld setup m held e.noted) (sym b.goes_on)
    (goes held (λ q. ap (λ k. held k q) b.here ∙ holds q ∙ ap (λ es. writable_of (frame_of q es)) (sym b.holds)))

-- where the page that came is held, and to write where it was asked for to be written
filled-hold : (images : List Image) (setup : Setup) (old : RackView) (flat : PageView → PageImageView) (m : State) (c : ℕ) (blade : BladeView) (entries : Entries) (page : PageView) (asked : Asked) (frame : Frame)
    → Between Filled images setup old flat m c blade entries page asked → frame_of asked.page entries ≡ Some frame → (asked.write ≡ true → frame.writable ≡ true)
    → Holds setup m c (with_frames blade entries) (resumed_for Filled images (request_for page blade.requests) (with_frames blade entries)).noted
filled-hold images setup old flat m c blade entries page asked frame b holds writable = answers-hold Filled images setup old flat m c blade entries page asked b
    (resumes-hold images setup b.mid flat m b.goes asked.hart b.hart b.at (need_asked asked) frame (ap (frame_of asked.page) b.holds ∙ holds) writable asked.waits)

fill-hold : (images : List Image) (setup : Setup) (old : RackView) (flat : PageView → PageImageView) (m : State) → GoesWith images setup old flat m → AreHartsPlaced old
    → (c : ℕ) (blade : BladeView) → slice_get old.blades c ≡ Some blade → blade.number ≡ c → (page : PageView) (perm : Perm) (writable : Bool) (image : PageImageView) (rest : List Msg)
    → IsCoherent (handing c (Fill page perm writable image ∷ rest) (seen old flat)) → Holds setup m c blade (after_message images (Fill page perm writable image) blade).noted
unfolding came
fill-hold images setup old flat m goes placed c blade there number page perm writable image rest coherent held holds =
    let sound = goes.sound c blade there in
    let frame = came page perm writable image in
    let entries = entries_after_put blade.cache page frame in
    let f = has_come old flat c blade there sound page perm writable image rest coherent in
    let b = between Filled images setup old flat m goes placed c blade there entries page f.asked f.out (cache-put blade.cache page frame sound.cache) f.frames in
    let goes_on = filled-hold images setup old flat m c blade entries page f.asked frame b f.held (λ write. f.agrees ∙ write) in
    let noted : List Note = (taken page perm writable image blade).noted in
    let silent = taken-silent blade.number page writable (put_of blade.cache page) in
    let after : HoldsAs c (with_frames blade entries) (fold held_after held noted) =
    subst (λ k. HoldsAs c (with_frames blade entries) (fold held_after held (taking k page writable (put_of blade.cache page)))) (sym number)
    (taken-holds c held page perm writable image blade sound.cache holds (put_of blade.cache page) refl) in
    accesses-then setup m held noted (resumed_for Filled images (request_for page blade.requests) (with_frames blade entries)).noted
    (silent-held setup m held noted silent)
    (subst (λ s. AreAccessesHeld setup s (fold held_after held noted) (resumed_for Filled images (request_for page blade.requests) (with_frames blade entries)).noted)
    (sym (silent-stays setup m noted silent)) (goes_on (fold held_after held noted) after))

deny-hold : (images : List Image) (setup : Setup) (old : RackView) (flat : PageView → PageImageView) (m : State) → GoesWith images setup old flat m → AreHartsPlaced old
    → (c : ℕ) (blade : BladeView) → slice_get old.blades c ≡ Some blade → (page : PageView) (rest : List Msg) → IsCoherent (handing c (Deny page ∷ rest) (seen old flat))
    → Holds setup m c blade (after_message images (Deny page) blade).noted
deny-hold images setup old flat m goes placed c blade there page rest coherent =
    let sound = goes.sound c blade there in
    let d = was_denied old flat c blade there sound page rest coherent in
    let b = between Denied images setup old flat m goes placed c blade there blade.cache.entries page d.asked d.out sound.cache d.frames in
    answers-hold Denied images setup old flat m c blade blade.cache.entries page d.asked b
    (denies-hold images setup b.mid flat m b.goes d.asked.hart b.hart b.at (need_asked d.asked) (ap (λ f. allows d.asked.write (f d.asked.page)) b.perms ∙ d.off) d.asked.waits)

-- ---- any message

pub message-hold : (images : List Image) (setup : Setup) (old : RackView) (flat : PageView → PageImageView) (m : State) → GoesWith images setup old flat m → AreHartsPlaced old
    → (c : ℕ) (blade : BladeView) → slice_get old.blades c ≡ Some blade → blade.number ≡ c → (message : Msg) (rest : List Msg) → IsCoherent (handing c (message ∷ rest) (seen old flat))
    → Holds setup m c blade (after_message images message blade).noted
message-hold images setup old flat m goes placed c blade there number message rest coherent = by message coherent
    (downs-cons (handing c (message ∷ rest) (seen old flat)) c message (rest ++ pending_on old.net Down c)
    (subst (AreDowns (handing c (message ∷ rest) (seen old flat)) c) (put-here c (message ∷ (rest ++ pending_on old.net Down c)) (pending_on old.net Down)) (coherent.downs c))).0
  where
    by : (other : Msg) → IsCoherent (handing c (other ∷ rest) (seen old flat)) → IsDown (handing c (other ∷ rest) (seen old flat)) c other (rest ++ pending_on old.net Down c)
        → Holds setup m c blade (after_message images other blade).noted
    by (Fill page perm writable image) safe down = fill-hold images setup old flat m goes placed c blade there number page perm writable image rest safe
    by (Deny page) safe down = deny-hold images setup old flat m goes placed c blade there page rest safe
    by (Inv order range asked) safe down = λ held holds. silent-held setup m held (after_message images (Inv order range asked) blade).noted
        (invalidate-alone images flat order range asked blade (goes.sound c blade there).cache (blade-held old flat goes.frames c blade there)).silent
    by (Lower order range asked) safe down = λ held holds. silent-held setup m held (after_message images (Lower order range asked) blade).noted
        (lower-alone images flat order range asked blade (goes.sound c blade there).cache (blade-held old flat goes.frames c blade there)).silent
    by other safe down = absurd down
