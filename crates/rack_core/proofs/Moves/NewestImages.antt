-- The newest image of a page is where it is to be found.
use Rattle.std.proofs.Common.{◌≡◌, ℕ, zero, suc, ◌+◌, ◌<◌, ◌==◌, nat_lt, ltb-true, Bool, true, false, cond, ap, sym, refl, subst, List, [], ◌∷◌, flat_map, filter_map, find, slice_index_or, Option, Some, None, IfSome, option_map, arith, ◌∙◌}
use Rattle.std.specs.Prelude.{if◌then◌else◌, unwrap_or}
use Rattle.std.specs.List.{AllByRecursion, cons_option, last_or, range_with_len}
use Rattle.std.proofs.lemmas.Bool.{false≢true}
use Rattle.std.proofs.lemmas.List.Elements.{filter_map-append}
use Rattle.std.proofs.lemmas.Option.{same_Some}
use Rattle.mind_base.specs.Page.{PageView}
use Rattle.mind_base.specs.declared.links.LinkKind.TheVariants.{Up, To}
use Rattle.page_cache.proofs.Callers.{same_page-true}
use Rattle.page_cache.specs.PageCache.{frame_of, same_page, is_writable}
use Rattle.page_cache.specs.declared.frames.Frame.{Frame}
use Rattle.page_image.specs.PageImage.{PageImageView, zero_image}
use Rattle.wire_msg.specs.declared.msgs.Msg.{Msg}
use Rattle.wire_msg.specs.declared.msgs.Msg.TheVariants.{Get, Fill, Deny, Back, Inv, Lower, Ack, Close, Closed, Reopen, Read, Image, Write, Zero}
use Rattle.compute_blade.specs.Blade.{BladeView}
use Rattle.rack_net.specs.Net.{NetView, empty_link, link_place}
use Rattle.switch_core.specs.Switch.{place_in}
use Rattle.switch_core.proofs.Callers.{all-append}
use Rattle.coherence.specs.Counts.{bit, total, none_is, is_back}
use Rattle.coherence.specs.Facts.{AreUps, IsCoherent, is_dirty, images_written}
use Rattle.coherence.specs.World.{World, put}
use Rattle.coherence.proofs.Callers.{total-none_is}
use Rattle.rack_core.specs.Newest.{writable_frame, sent_back, written_to, last_image, all_up, image_there, newest_image}
use Rattle.rack_core.specs.Rack.{RackView}
use Rattle.rack_core.specs.Safe.{IsSafe}
use Rattle.rack_core.specs.Seen.{pending_on, frame_at, seen}
use Rattle.rack_core.proofs.Lists.Parts.{some-is, append-none}
use Rattle.rack_core.proofs.Moves.Switch.Worlds.{not_no}

-- ---- the frame that is held to write

-- a frame that was found, with its blade
record Holds (blades : List BladeView) (page : PageView) (frame : Frame) : Type 0 where
  blade : ℕ
  held : frame_at blades blade page ≡ Some frame
  writable : frame.writable ≡ true

holds : (page : PageView) (blades : List BladeView) (frame : Frame) → writable_frame blades page ≡ Some frame → Holds blades page frame
holds page [] frame e = let never : ⊥ = cc in absurd never
holds page (blade ∷ blades) frame e = by (holds page blades frame) (frame_of page blade.cache.entries) refl e where
  later : Holds blades page frame → Holds (blade ∷ blades) page frame
  later rest = record { blade = suc rest.blade; held = rest.held; writable = rest.writable }

  first : (writable_frame blades page ≡ Some frame → Holds blades page frame) → (own : Frame) → frame_of page blade.cache.entries ≡ Some own → (b : Bool) → own.writable ≡ b
      → cond b (Some own) (writable_frame blades page) ≡ Some frame → Holds (blade ∷ blades) page frame
  first rest own is true w f =
      let same : own ≡ frame = same_Some _ _ f in
      record { blade = 0; held = is ∙ ap (λ x. Some x) same; writable = ap (λ (x : Frame). x.writable) (sym same) ∙ w }
  first rest own is false w f = later (rest f)

  by : (writable_frame blades page ≡ Some frame → Holds blades page frame) → (o : Option Frame) → frame_of page blade.cache.entries ≡ o
      → find (λ (frame : Frame). frame.writable) (cons_option o (filter_map (λ (blade : BladeView). frame_of page blade.cache.entries) blades)) ≡ Some frame → Holds (blade ∷ blades) page frame
  by rest None is f = later (rest f)
  by rest (Some own) is f = first rest own is own.writable refl f

-- none is held to write where none was found
none_holds : (page : PageView) (blades : List BladeView) → writable_frame blades page ≡ None → (c : ℕ) → is_writable (frame_at blades c page) ≡ false
none_holds page [] e c = refl
none_holds page (blade ∷ blades) e c = by (none_holds page blades) (frame_of page blade.cache.entries) refl e c where
  first : (writable_frame blades page ≡ None → (c : ℕ) → is_writable (frame_at blades c page) ≡ false) → (own : Frame) → frame_of page blade.cache.entries ≡ Some own
      → (b : Bool) → own.writable ≡ b → cond b (Some own) (writable_frame blades page) ≡ None → (c : ℕ) → is_writable (frame_at (blade ∷ blades) c page) ≡ false
  first rest own is true w f c = let never : ⊥ = cc in absurd never
  first rest own is false w f zero = ap is_writable is ∙ w
  first rest own is false w f (suc c) = rest f c

  by : (writable_frame blades page ≡ None → (c : ℕ) → is_writable (frame_at blades c page) ≡ false) → (o : Option Frame) → frame_of page blade.cache.entries ≡ o
      → find (λ (frame : Frame). frame.writable) (cons_option o (filter_map (λ (blade : BladeView). frame_of page blade.cache.entries) blades)) ≡ None
      → (c : ℕ) → is_writable (frame_at (blade ∷ blades) c page) ≡ false
  by rest None is f zero = ap is_writable is
  by rest None is f (suc c) = rest f c
  by rest (Some own) is f c = first rest own is own.writable refl f c

-- ---- the last of a list

last-is : {X : Type 0} (P : X → Type 0) (o : Option X) (xs : List X) (x : X) → IfSome o P → AllByRecursion P xs → last_or o xs ≡ Some x → P x
last-is P None [] x h all e = let never : ⊥ = cc in absurd never
last-is P (Some y) [] x h all e = subst P (same_Some _ _ e) h
last-is P o (y ∷ xs) x h all e = last-is P (Some y) xs x all.0 all.1 e

last-some : {X : Type 0} (x : X) (xs : List X) → last_or (Some x) xs ≡ None → ⊥
last-some x [] e = let never : ⊥ = cc in never
last-some x (y ∷ xs) e = last-some y xs e

last-none : {X : Type 0} (xs : List X) → last_or None xs ≡ None → xs ≡ []
last-none [] e = refl
last-none (x ∷ xs) e = absurd (last-some x xs e)

-- ---- images that go back

-- each is the newest
backs-newest : (w : World) (c : ℕ) (page : PageView) (messages : List Msg) → AreUps w c messages → AllByRecursion (λ image. image ≡ w.flat page) (filter_map (sent_back page) messages)
backs-newest w c page [] ups = tt
backs-newest w c page (Back other image ∷ messages) ups = by (backs-newest w c page messages ups.1) (same_page page other) refl where
  by : AllByRecursion (λ image. image ≡ w.flat page) (filter_map (sent_back page) messages) → (b : Bool) → same_page page other ≡ b
      → AllByRecursion (λ image. image ≡ w.flat page) (cons_option (if b then Some image else None) (filter_map (sent_back page) messages))
  by rest true s = (ups.0.newest ∙ ap w.flat (sym (same_page-true page other s)), rest)
  by rest false s = rest
backs-newest w c page (Get other write ∷ messages) ups = backs-newest w c page messages ups.1
backs-newest w c page (Ack number count ∷ messages) ups = backs-newest w c page messages ups.1
backs-newest w c page (message ∷ messages) ups = absurd ups.0

-- none goes back where none was found
no_backs : (page : PageView) (messages : List Msg) → filter_map (sent_back page) messages ≡ [] → total (is_back page) messages ≡ 0
no_backs page [] e = refl
no_backs page (Back other image ∷ messages) e = by (no_backs page messages) (same_page page other) e where
  by : (filter_map (sent_back page) messages ≡ [] → total (is_back page) messages ≡ 0) → (b : Bool)
      → cons_option (if b then Some image else None) (filter_map (sent_back page) messages) ≡ [] → bit b + total (is_back page) messages ≡ 0
  by rest true f = let never : ⊥ = cc in absurd never
  by rest false f = omega (arith, rest f)
no_backs page (message ∷ messages) e = let rest = no_backs page messages e in omega (arith, rest)

-- ---- on all links up

found-all : (P : PageImageView → Type 0) (image_in : Msg → Option PageImageView) (ups : ℕ → List Msg) → ((c : ℕ) → AllByRecursion P (filter_map image_in (ups c)))
    → (a n : ℕ) → AllByRecursion P (filter_map image_in (flat_map ups (range_with_len a n)))
found-all P image_in ups each a zero = tt
found-all P image_in ups each a (suc n) =
    subst (AllByRecursion P) (sym (filter_map-append image_in (ups a) (flat_map ups (range_with_len (a + 1) n))))
    (all-append P (filter_map image_in (ups a)) (filter_map image_in (flat_map ups (range_with_len (a + 1) n))) (each a) (found-all P image_in ups each (a + 1) n))

none-found : (image_in : Msg → Option PageImageView) (ups : ℕ → List Msg) (a n : ℕ) → filter_map image_in (flat_map ups (range_with_len a n)) ≡ []
    → (d : ℕ) → d < n → filter_map image_in (ups (a + d)) ≡ []
none-found image_in ups a zero e d lt = absurd (omega arith)
none-found image_in ups a (suc n) e d lt =
    let both = append-none (filter_map image_in (ups a)) (filter_map image_in (flat_map ups (range_with_len (a + 1) n)))
    (sym (filter_map-append image_in (ups a) (flat_map ups (range_with_len (a + 1) n))) ∙ e) in
    by d lt both.0 (none-found image_in ups (a + 1) n both.1)
  where
    by : (d : ℕ) → d < suc n → filter_map image_in (ups a) ≡ [] → ((d : ℕ) → d < n → filter_map image_in (ups ((a + 1) + d)) ≡ []) → filter_map image_in (ups (a + d)) ≡ []
    by zero lt here later = let same : a + 0 ≡ a = omega arith in ap (λ k. filter_map image_in (ups k)) same ∙ here
    by (suc d) lt here later =
        let same : a + suc d ≡ (a + 1) + d = omega arith in
        ap (λ k. filter_map image_in (ups k)) same ∙ later d (omega (arith, lt))

-- no image of the page goes back on any link, where none was found
none_back : (net : NetView) (page : PageView) → last_image (sent_back page) (all_up net) ≡ None → (c : ℕ) → none_is (is_back page) (pending_on net Up c) ≡ true
none_back net page e c = total-none_is (is_back page) (pending_on net Up c) (no_backs page (pending_on net Up c) (by (nat_lt c net.blades) refl)) where
  by : (b : Bool) → nat_lt c net.blades ≡ b → filter_map (sent_back page) (pending_on net Up c) ≡ []
  by true lt =
      let same : c ≡ 0 + c = omega arith in
      ap (λ k. filter_map (sent_back page) (pending_on net Up k)) same
      ∙ none-found (sent_back page) (pending_on net Up) 0 net.blades (last-none (filter_map (sent_back page) (all_up net)) e) c (ltb-true c net.blades lt)
  by false ge = ap (λ b. filter_map (sent_back page) (if b then slice_index_or net.links (link_place net.blades (record { kind = Up; number = c })) empty_link else empty_link).pending) ge

-- ---- the image where a page lies

-- once all writes have come, it is that of the last one, or else what it was
written-last : (phys : ℕ) (messages : List Msg) (images : ℕ → PageImageView) (o : Option PageImageView) (there : PageImageView) → images phys ≡ unwrap_or o there
    → images_written messages images phys ≡ unwrap_or (last_or o (filter_map (written_to phys) messages)) there
written-last phys [] images o there e = e
written-last phys (Write other image ∷ messages) images o there e = by (λ p f. written-last phys messages (put other image images) p there f) (phys == other) refl where
  by : ((p : Option PageImageView) → put other image images phys ≡ unwrap_or p there → images_written messages (put other image images) phys ≡ unwrap_or (last_or p (filter_map (written_to phys) messages)) there)
      → (b : Bool) → (phys == other) ≡ b
      → images_written messages (put other image images) phys ≡ unwrap_or (last_or o (cons_option (if b then Some image else None) (filter_map (written_to phys) messages))) there
  by rest true s = rest (Some image) (ap (λ b. if b then image else images phys) s)
  by rest false s = rest o (ap (λ b. if b then image else images phys) s ∙ e)
written-last phys (Back other image ∷ messages) images o there e = written-last phys messages images o there e
written-last phys (Get other write ∷ messages) images o there e = written-last phys messages images o there e
written-last phys (Ack number count ∷ messages) images o there e = written-last phys messages images o there e
written-last phys (Fill other perm writable image ∷ messages) images o there e = written-last phys messages images o there e
written-last phys (Deny other ∷ messages) images o there e = written-last phys messages images o there e
written-last phys (Inv number range asked ∷ messages) images o there e = written-last phys messages images o there e
written-last phys (Lower number range asked ∷ messages) images o there e = written-last phys messages images o there e
written-last phys (Close number span ends ∷ messages) images o there e = written-last phys messages images o there e
written-last phys (Closed number ∷ messages) images o there e = written-last phys messages images o there e
written-last phys (Reopen number ∷ messages) images o there e = written-last phys messages images o there e
written-last phys (Read number of other ∷ messages) images o there e = written-last phys messages images o there e
written-last phys (Image of other image ∷ messages) images o there e = written-last phys messages images o there e
written-last phys (Zero number pages ∷ messages) images o there e = written-last phys messages images o there e

-- ---- the newest image

-- a frame that may not be written is clean
is_clean : (rack : RackView) (flat : PageView → PageImageView) → IsCoherent (seen rack flat) → (c : ℕ) (page : PageView)
    → is_writable (frame_at rack.blades c page) ≡ false → is_dirty (frame_at rack.blades c page) ≡ false
is_clean rack flat coherent c page lowered = by (frame_at rack.blades c page) refl lowered where
  flag : (frame : Frame) → frame_at rack.blades c page ≡ Some frame → frame.writable ≡ false → (b : Bool) → frame.dirty ≡ b → b ≡ false
  flag frame e w true d = absurd (false≢true (sym w ∙ (coherent.frames c page frame e).dirty d))
  flag frame e w false d = refl

  by : (o : Option Frame) → frame_at rack.blades c page ≡ o → is_writable o ≡ false → is_dirty o ≡ false
  by None e w = refl
  by (Some frame) e w = flag frame e w frame.dirty refl

pub the_newest : (rack : RackView) (flat : PageView → PageImageView) (page : PageView) (place : ℕ × ℕ) → IsCoherent (seen rack flat)
    → place_in rack.switch page ≡ Some place → newest_image rack page ≡ flat page
the_newest rack flat page place coherent lies = by (writable_frame rack.blades page) refl where
  w : World
  w = seen rack flat

  there : writable_frame rack.blades page ≡ None → last_image (sent_back page) (all_up rack.net) ≡ None → image_there rack place ≡ flat page
  there none back =
      sym (written-last place.1 (pending_on rack.net To place.0) (w.images place.0) None (w.images place.0 place.1) refl)
      ∙ coherent.written page place lies (λ c. (is_clean rack flat coherent c page (none_holds page rack.blades none c), none_back rack.net page back c))

  back_or : writable_frame rack.blades page ≡ None → (o : Option PageImageView) → last_image (sent_back page) (all_up rack.net) ≡ o
      → unwrap_or o (unwrap_or (option_map (image_there rack) (place_in rack.switch page)) zero_image) ≡ flat page
  back_or none None e = ap (λ o. unwrap_or (option_map (image_there rack) o) zero_image) lies ∙ there none e
  back_or none (Some image) e = last-is (λ image. image ≡ flat page) None (filter_map (sent_back page) (all_up rack.net)) image tt
      (found-all (λ image. image ≡ flat page) (sent_back page) (pending_on rack.net Up) (λ c. backs-newest w c page (pending_on rack.net Up c) (coherent.ups c)) 0 rack.net.blades) e

  by : (o : Option Frame) → writable_frame rack.blades page ≡ o
      → unwrap_or (option_map (λ (frame : Frame). frame.image) o) (unwrap_or (last_image (sent_back page) (all_up rack.net))
      (unwrap_or (option_map (image_there rack) (place_in rack.switch page)) zero_image)) ≡ flat page
  by None e = back_or e (last_image (sent_back page) (all_up rack.net)) refl
  by (Some frame) e = let h = holds page rack.blades frame e in (coherent.frames h.blade page frame h.held).newest

-- ---- frames

-- a page that is held lies somewhere, and its frame has the newest image
pub held_newest : (rack : RackView) (c : ℕ) (page : PageView) (frame : Frame) → IsSafe rack → frame_at rack.blades c page ≡ Some frame → frame.image ≡ newest_image rack page
held_newest rack c page frame safe held =
    let is = safe.coherent.frames c page frame held in
    let lies = some-is (place_in rack.switch page) (safe.coherent.placed.placed page (not_no frame.writable _ is.readable)) in
    is.newest ∙ sym (the_newest rack safe.flat page lies.0 safe.coherent lies.1)
