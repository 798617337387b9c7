-- A page that comes down to its blade, or is denied to it: what was asked for, and the frames when the request has ended.
use Rattle.std.proofs.Common.{◌≡◌, ◌∙◌, ℕ, Bool, false, ap, sym, refl, subst, List, [], ◌∷◌, ◌++◌, Some, slice_get}
use Rattle.std.specs.Prelude.{IfSome}
use Rattle.mind_base.specs.Page.{PageView}
use Rattle.mind_base.specs.declared.commands.Perm.{Perm}
use Rattle.mind_base.specs.declared.links.LinkKind.TheVariants.{Down}
use Rattle.mind_base.specs.Permission.{allows}
use Rattle.page_cache.specs.PageCache.{frame_of, put_of, entries_after_put}
use Rattle.page_cache.specs.declared.frames.Frame.{Frame}
use Rattle.page_image.specs.PageImage.{PageImageView}
use Rattle.protect_table.specs.Protect.{permission_at}
use Rattle.wire_msg.specs.declared.msgs.Msg.{Msg}
use Rattle.wire_msg.specs.declared.msgs.Msg.TheVariants.{Fill, Deny}
use Rattle.compute_blade.specs.Blade.{BladeView, with_frames, request_for, requests_without}
use Rattle.compute_blade.specs.Pages.{sent_out}
use Rattle.compute_blade.specs.declared.kept.Asked.{Asked}
use Rattle.coherence.specs.Facts.{AreDowns, AreFrames, IsCoherent}
use Rattle.coherence.specs.Moves.{took}
use Rattle.coherence.proofs.Callers.{put-here, downs-cons, run_keeps}
use Rattle.rack_core.specs.BladeMoves.{with_seen_blade, HasBlade, IsRequest, IsSoundBlade, handing}
use Rattle.rack_core.specs.Rack.{RackView}
use Rattle.rack_core.specs.Seen.{pending_on, seen}
use Rattle.rack_core.proofs.Moves.Blade.Acts as acts
use Rattle.rack_core.proofs.Moves.Blade.Fills.{asked_for, came, fills, came-held, denied-asked}
use Rattle.rack_core.proofs.Moves.Blade.Seen.{seen-has}
use Rattle.rack_core.proofs.Moves.Blade.Sound.{of_found}

-- the frames of the rack when blade c has these pages and the request for this one has ended
abbrev pub AreFramesWith : RackView → (PageView → PageImageView) → ℕ → BladeView → PageView → Type 0
AreFramesWith old flat c blade page = AreFrames (with_seen_blade c (record blade { requests = requests_without page blade.requests }) [] flat (seen old flat))

-- ---- a page that comes

pub record HasCome (old : RackView) (flat : PageView → PageImageView) (c : ℕ) (blade : BladeView) (page : PageView) (writable : Bool) (frame : Frame) : Type 0 where
  pub asked : Asked
  pub out : request_for page blade.requests ≡ Some asked
  pub agrees : writable ≡ asked.write
  pub held : frame_of asked.page (entries_after_put blade.cache page frame) ≡ Some frame
  pub frames : AreFramesWith old flat c (with_frames blade (entries_after_put blade.cache page frame)) page

pub has_come : (old : RackView) (flat : PageView → PageImageView) (c : ℕ) (blade : BladeView) → slice_get old.blades c ≡ Some blade → IsSoundBlade (permission_at old.switch.protect) blade
    → (page : PageView) (perm : Perm) (writable : Bool) (image : PageImageView) (rest : List Msg) → IsCoherent (handing c (Fill page perm writable image ∷ rest) (seen old flat))
    → HasCome old flat c blade page writable (came page perm writable image)
unfolding came
has_come old flat c blade there sound page perm writable image rest coherent =
    let w = handing c (Fill page perm writable image ∷ rest) (seen old flat) in
    let behind = rest ++ pending_on old.net Down c in
    let has : HasBlade c blade w = let h = seen-has old flat c blade there in record { frames = h.frames; asks = h.asks } in
    let head : w.downs c ≡ Fill page perm writable image ∷ behind = put-here c (Fill page perm writable image ∷ behind) (pending_on old.net Down) in
    let downs = downs-cons w c (Fill page perm writable image) behind (subst (AreDowns w c) head (coherent.downs c)) in
    let asked = asked_for blade.requests page writable (sym (has.asks page) ∙ downs.0.asked) in
    let frame = came page perm writable image in
    let entries = entries_after_put blade.cache page frame in
    let first = fills w c blade page perm writable image behind has sound.cache head (put_of blade.cache page) refl in
    let left : BladeView = record (with_frames blade entries) { requests = requests_without page blade.requests } in
    let safe = run_keeps w (with_seen_blade c left (sent_out (put_of blade.cache page)) w.flat (took c behind w)) first.moves coherent first.run in
    let own_page = (of_found (IsRequest blade.plan.threads blade.harts) page blade.requests asked.0 sound.requests asked.1).1 in
    record {
      asked = asked.0;
      out = asked.1;
      agrees = sym asked.2;
      held = ap (λ q. frame_of q entries) own_page ∙ came-held blade page frame sound.cache (put_of blade.cache page) refl;
      frames = safe.frames;
    }

-- ---- a page that is denied

pub record WasDenied (old : RackView) (flat : PageView → PageImageView) (c : ℕ) (blade : BladeView) (page : PageView) : Type 0 where
  pub asked : Asked
  pub out : request_for page blade.requests ≡ Some asked
  pub off : allows asked.write (permission_at old.switch.protect asked.page) ≡ false
  pub frames : AreFramesWith old flat c blade page

pub was_denied : (old : RackView) (flat : PageView → PageImageView) (c : ℕ) (blade : BladeView) → slice_get old.blades c ≡ Some blade → IsSoundBlade (permission_at old.switch.protect) blade
    → (page : PageView) (rest : List Msg) → IsCoherent (handing c (Deny page ∷ rest) (seen old flat)) → WasDenied old flat c blade page
was_denied old flat c blade there sound page rest coherent =
    let w = handing c (Deny page ∷ rest) (seen old flat) in
    let behind = rest ++ pending_on old.net Down c in
    let has : HasBlade c blade w = let h = seen-has old flat c blade there in record { frames = h.frames; asks = h.asks } in
    let head : w.downs c ≡ Deny page ∷ behind = put-here c (Deny page ∷ behind) (pending_on old.net Down) in
    let down = (downs-cons w c (Deny page) behind (subst (AreDowns w c) head (coherent.downs c))).0 in
    let out = denied-asked w c page behind coherent head in
    let asked = asked_for blade.requests page out.0 (sym (has.asks page) ∙ out.1) in
    let own_page = (of_found (IsRequest blade.plan.threads blade.harts) page blade.requests asked.0 sound.requests asked.1).1 in
    let first = acts.denied c blade w page behind has head in
    let left : BladeView = record blade { requests = requests_without page blade.requests } in
    let safe = run_keeps w (with_seen_blade c left [] w.flat (took c behind w)) first.moves coherent first.run in
    record {
      asked = asked.0;
      out = asked.1;
      off = ap (λ b. allows b (permission_at old.switch.protect asked.0.page)) asked.2 ∙ ap (λ p. allows out.0 (permission_at old.switch.protect p)) own_page
          ∙ subst (λ o. IfSome o (λ write. allows write (permission_at old.switch.protect page) ≡ false)) out.1 down;
      frames = safe.frames;
    }
