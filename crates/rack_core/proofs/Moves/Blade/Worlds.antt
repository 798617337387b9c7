-- Worlds in which one blade changed, and the moves that lead to them.
use Rattle.std.proofs.Common.{◌≡◌, ℕ, ◌==◌, ◌&&◌, Bool, true, false, ap, sym, refl, subst, List, [], ◌∷◌, ◌++◌, Option, ◌∙◌, append-nil, append_assoc}
use Rattle.std.specs.Prelude.{if◌then◌else◌}
use Rattle.std.proofs.lemmas.Bool.{eqb-true, eq-eqb}
use Rattle.mind_base.specs.Page.{PageView}
use Rattle.page_cache.specs.PageCache.{same_page, frame_of}
use Rattle.page_cache.specs.declared.frames.Frame.{Frame}
use Rattle.page_image.specs.PageImage.{PageImageView}
use Rattle.wire_msg.specs.declared.msgs.Msg.{Msg}
use Rattle.compute_blade.specs.Blade.{BladeView}
use Rattle.coherence.specs.Moves.{Move, May, moved, took}
use Rattle.coherence.specs.Runs.{Run}
use Rattle.coherence.specs.World.{World, put, put_both}
use Rattle.coherence.proofs.Callers.{put-here}
use Rattle.rack_core.specs.BladeMoves.{asked_in, with_seen_blade, HasBlade, LeadsTo}

-- ---- functions with one value changed

put-is : {X : Type 0} (k : ℕ) (x : X) (f g : ℕ → X) → g k ≡ x → ((n : ℕ) → (n == k) ≡ false → g n ≡ f n) → (n : ℕ) → put k x f n ≡ g n
put-is {X} k x f g here away n = by (n == k) refl where
  by : (b : Bool) → (n == k) ≡ b → (if b then x else f n) ≡ g n
  by true e = sym (ap g (eqb-true n k e) ∙ here)
  by false e = sym (away n e)

put-is_at : {X Y : Type 0} (k : ℕ) (x : Y → X) (f g : ℕ → Y → X) → ((y : Y) → g k y ≡ x y) → ((n : ℕ) → (n == k) ≡ false → (y : Y) → g n y ≡ f n y) → (n : ℕ) (y : Y) → put k x f n y ≡ g n y
put-is_at {X} {Y} k x f g here away n y = by (n == k) refl where
  by : (b : Bool) → (n == k) ≡ b → (if b then x else f n) y ≡ g n y
  by true e = sym (ap (λ m. g m y) (eqb-true n k e) ∙ here y)
  by false e = sym (away n e y)

pub put-again : {X : Type 0} (k : ℕ) (x y : X) (f : ℕ → X) (n : ℕ) → put k x (put k y f) n ≡ put k x f n
put-again k x y f n = by (n == k) where
  by : (b : Bool) → (if b then x else (if b then y else f n)) ≡ (if b then x else f n)
  by true = refl
  by false = refl

pub at_blade : {X : Type 0} (k : ℕ) (page : PageView) (x : X) (f : ℕ → PageView → X) (other : PageView) → put_both k page x f k other ≡ (if same_page other page then x else f k other)
at_blade k page x f other = ap (λ b. if b && same_page other page then x else f k other) (eq-eqb k k refl)

-- ---- worlds

-- a world with other frames, requests, messages up and newest images
abbrev pub with_four : (ℕ → PageView → Option Frame) → (ℕ → PageView → Option Bool) → (ℕ → List Msg) → (PageView → PageImageView) → World → World
with_four frames asks ups flat w = record w { frames = frames; asks = asks; ups = ups; flat = flat }

same_four : (w : World) (f f' : ℕ → PageView → Option Frame) (a a' : ℕ → PageView → Option Bool) (u u' : ℕ → List Msg) (l : PageView → PageImageView)
    → ((n : ℕ) (page : PageView) → f n page ≡ f' n page) → ((n : ℕ) (page : PageView) → a n page ≡ a' n page) → ((n : ℕ) → u n ≡ u' n)
    → with_four f a u l w ≡ with_four f' a' u' l w
same_four w f f' a a' u u' l frames asks ups = λ i. record w { frames = λ n page. frames n page i; asks = λ n page. asks n page i; ups = λ n. ups n i; flat = l }

-- what changed of a world is blade c
pub record Changes (c : ℕ) (blade : BladeView) (sent : List Msg) (w : World) (frames : ℕ → PageView → Option Frame) (asks : ℕ → PageView → Option Bool) (ups : ℕ → List Msg) : Type 0 where
  pub frames_here : (page : PageView) → frames c page ≡ frame_of page blade.cache.entries
  pub frames_away : (n : ℕ) → (n == c) ≡ false → (page : PageView) → frames n page ≡ w.frames n page
  pub asks_here : (page : PageView) → asks c page ≡ asked_in blade.requests page
  pub asks_away : (n : ℕ) → (n == c) ≡ false → (page : PageView) → asks n page ≡ w.asks n page
  pub ups_here : ups c ≡ w.ups c ++ sent
  pub ups_away : (n : ℕ) → (n == c) ≡ false → ups n ≡ w.ups n

pub seen_as : (c : ℕ) (blade : BladeView) (sent : List Msg) (w : World) (frames : ℕ → PageView → Option Frame) (asks : ℕ → PageView → Option Bool) (ups : ℕ → List Msg) (flat : PageView → PageImageView)
    → Changes c blade sent w frames asks ups → with_seen_blade c blade sent flat w ≡ with_four frames asks ups flat w
seen_as c blade sent w frames asks ups flat h = same_four w
    (put c (λ page. frame_of page blade.cache.entries) w.frames) frames (put c (asked_in blade.requests) w.asks) asks (put c (w.ups c ++ sent) w.ups) ups flat
    (put-is_at c (λ page. frame_of page blade.cache.entries) w.frames frames h.frames_here h.frames_away)
    (put-is_at c (asked_in blade.requests) w.asks asks h.asks_here h.asks_away)
    (put-is c (w.ups c ++ sent) w.ups ups h.ups_here h.ups_away)

-- a blade that is put into a world is the world's
pub has_blade : (c : ℕ) (blade : BladeView) (sent : List Msg) (flat : PageView → PageImageView) (w : World) → HasBlade c blade (with_seen_blade c blade sent flat w)
has_blade c blade sent flat w = record {
  frames = λ page. ap (λ f. f page) (put-here c (λ page. frame_of page blade.cache.entries) w.frames);
  asks = λ page. ap (λ f. f page) (put-here c (asked_in blade.requests) w.asks);
}

seen_twice : (c : ℕ) (one two : BladeView) (sent more : List Msg) (flat newer : PageView → PageImageView) (w : World)
    → with_seen_blade c two more newer (with_seen_blade c one sent flat w) ≡ with_seen_blade c two (sent ++ more) newer w
seen_twice c one two sent more flat newer w = same_four w
    (put c (λ page. frame_of page two.cache.entries) (put c (λ page. frame_of page one.cache.entries) w.frames)) (put c (λ page. frame_of page two.cache.entries) w.frames)
    (put c (asked_in two.requests) (put c (asked_in one.requests) w.asks)) (put c (asked_in two.requests) w.asks)
    (put c (put c (w.ups c ++ sent) w.ups c ++ more) (put c (w.ups c ++ sent) w.ups)) (put c (w.ups c ++ (sent ++ more)) w.ups) newer
    (λ n page. ap (λ f. f page) (put-again c (λ page. frame_of page two.cache.entries) (λ page. frame_of page one.cache.entries) w.frames n))
    (λ n page. ap (λ f. f page) (put-again c (asked_in two.requests) (asked_in one.requests) w.asks n))
    (λ n. put-again c (put c (w.ups c ++ sent) w.ups c ++ more) (w.ups c ++ sent) w.ups n
    ∙ ap (λ (q : List Msg). put c q w.ups n) (ap (λ q. q ++ more) (put-here c (w.ups c ++ sent) w.ups) ∙ append_assoc (w.ups c) sent more))

-- ---- runs

pub run_append : (w u v : World) (moves more : List Move) → Run w moves u → Run u more v → Run w (moves ++ more) v
unfolding Run
run_append w u v [] more e h = subst (λ x. Run x more v) e h
run_append w u v (move ∷ moves) more h g = (h.0, run_append (moved w move) u v moves more h.1 g)

pub one_move : (w : World) (move : Move) (v : World) → May w move → v ≡ moved w move → Run w (move ∷ []) v
unfolding Run
one_move w move v may e = (may, e)

pub no_move : (w v : World) → v ≡ w → Run w [] v
unfolding Run
no_move w v e = e

-- nothing is done
pub stays : (c : ℕ) (blade : BladeView) (w : World) → HasBlade c blade w → LeadsTo w w c blade [] w.flat
stays c blade w h = record {
  moves = [];
  run = no_move w (with_seen_blade c blade [] w.flat w) (seen_as c blade [] w w.frames w.asks w.ups w.flat (record {
    frames_here = h.frames;
    frames_away = λ n e page. refl;
    asks_here = h.asks;
    asks_away = λ n e page. refl;
    ups_here = sym (append-nil (w.ups c));
    ups_away = λ n e. refl;
  }));
}

-- one thing after another
pub leads_on : (w other : World) (c : ℕ) (one two : BladeView) (sent more : List Msg) (flat newer : PageView → PageImageView) → LeadsTo w other c one sent flat
    → LeadsTo (with_seen_blade c one sent flat other) (with_seen_blade c one sent flat other) c two more newer → LeadsTo w other c two (sent ++ more) newer
leads_on w other c one two sent more flat newer first second =
    let mid = with_seen_blade c one sent flat other in
    record {
      moves = first.moves ++ second.moves;
      run = subst (λ v. Run w (first.moves ++ second.moves) v) (seen_twice c one two sent more flat newer other)
          (run_append w mid (with_seen_blade c two more newer mid) first.moves second.moves first.run second.run);
    }

-- and the second takes a message
pub leads_taking : (w : World) (c : ℕ) (behind : List Msg) (one two : BladeView) (sent more : List Msg) (flat newer : PageView → PageImageView) → LeadsTo w w c one sent flat
    → LeadsTo (with_seen_blade c one sent flat w) (took c behind (with_seen_blade c one sent flat w)) c two more newer → LeadsTo w (took c behind w) c two (sent ++ more) newer
leads_taking w c behind one two sent more flat newer first second =
    let mid = with_seen_blade c one sent flat w in
    record {
      moves = first.moves ++ second.moves;
      run = subst (λ v. Run w (first.moves ++ second.moves) v) (seen_twice c one two sent more flat newer (took c behind w))
          (run_append w mid (with_seen_blade c two more newer (took c behind mid)) first.moves second.moves first.run second.run);
    }
