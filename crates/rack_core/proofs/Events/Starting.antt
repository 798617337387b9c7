-- A rack that starts is safe.
use Rattle.std.proofs.Common.{◌≡◌, ℕ, zero, suc, ◌+◌, ◌<◌, ◌≤◌, ◌∙◌, List, [], ◌∷◌, length, map, replicate, slice_get, slice_index, slice_index_or, Option, Some, None, is_some, refl, sym, ap, subst, arith}
use Rattle.std.specs.List.{AllByRecursion, range_with_len}
use Rattle.std.specs.Option.{option_map}
use Rattle.std.proofs.lemmas.List.{length-replicate}
use Rattle.std.proofs.lemmas.List.FromFn.{get_or-map-range_with_len, length-map-range_with_len}
use Rattle.std.proofs.lemmas.Option.{same_Some, none-some, slice_get_within, get_or_from_slice_get}
use Rattle.mind_base.specs.Page.{PageView}
use Rattle.mind_base.specs.Fit.{Within, IsFit}
use Rattle.mind_base.specs.Home.{home_of}
use Rattle.mind_base.specs.declared.commands.Perm.{Perm}
use Rattle.mind_base.specs.declared.commands.Perm.TheVariants.{No}
use Rattle.mind_base.specs.declared.links.LinkKind.{LinkKind}
use Rattle.mind_base.specs.declared.links.LinkKind.TheVariants.{Up, Down, To, From}
use Rattle.mind_base.specs.declared.links.LinkName.{LinkName}
use Rattle.mind_base.specs.declared.plans.MemoryPlan.{MemoryPlan}
use Rattle.mind_base.specs.declared.plans.RackPlan.{RackPlan}
use Rattle.page_image.specs.PageImage.{PageImageView, zero_image}
use Rattle.protect_table.specs.Protect.{permission_at}
use Rattle.range_translate.specs.Place.{pages_of, physical_place}
use Rattle.range_translate.specs.Table.{TableView}
use Rattle.region_directory.specs.Directory.{DirectoryView}
use Rattle.request_list.specs.declared.requests.Request.{Request}
use Rattle.request_list.specs.Requests.{AskOncePerPage}
use Rattle.compute_blade.specs.Blade.{BladeView}
use Rattle.compute_blade.specs.Start.{first_blade}
use Rattle.memory_blade.specs.MemoryBlade.{image_at}
use Rattle.rack_net.specs.Net.{NetLink}
use Rattle.switch_core.specs.Invariant.{IsFitEntry}
use Rattle.switch_core.specs.Switch.{SwitchView, place_in}
use Rattle.coherence.specs.Facts.{IsCoherent, ArePlaced}
use Rattle.coherence.specs.Runs.{start}
use Rattle.coherence.proofs.Callers as coherence
use Rattle.rack_core.specs.BladeMoves.{IsSoundBlade, AreBladesSound}
use Rattle.rack_core.specs.Rack.{RackView}
use Rattle.rack_core.specs.Safe.{IsSafe}
use Rattle.rack_core.specs.Seen.{pending_on, frame_at, asked_at, wanted_at, region_at, seen}
use Rattle.rack_core.specs.Start.{IsFirstSwitch, IsStart, first_memory}
use Rattle.rack_core.specs.SwitchMoves.{IsSoundSwitch, AreEntriesApart, AreAsked, AsksAt, LieBelow}
use Rattle.rack_core.proofs.Moves.Blade.Starts.{first_sound}
use Rattle.rack_core.proofs.Moves.Switch.Homes.{one-home, home-below, mapped-home}

-- ---- what is seen of its parts

no_frame : (plan : RackPlan) (numbers : List ℕ) (c : ℕ) (page : PageView) → frame_at (map (first_blade plan) numbers) c page ≡ None
no_frame plan [] c page = refl
no_frame plan (n ∷ numbers) zero page = refl
no_frame plan (n ∷ numbers) (suc c) page = no_frame plan numbers c page

none_asked : (plan : RackPlan) (numbers : List ℕ) (c : ℕ) (page : PageView) → asked_at (map (first_blade plan) numbers) c page ≡ None
none_asked plan [] c page = refl
none_asked plan (n ∷ numbers) zero page = refl
none_asked plan (n ∷ numbers) (suc c) page = none_asked plan numbers c page

zero_at : (count phys : ℕ) → image_at (replicate count zero_image) phys ≡ zero_image
zero_at zero phys = refl
zero_at (suc count) zero = refl
zero_at (suc count) (suc phys) = zero_at count phys

all_zero : (memories : List MemoryPlan) (memory phys : ℕ) → image_at (slice_index_or (map first_memory memories) memory []) phys ≡ zero_image
all_zero [] memory phys = refl
all_zero (m ∷ memories) zero phys = zero_at (pages_of m.homes + m.spare) phys
all_zero (m ∷ memories) (suc memory) phys = all_zero memories memory phys

nothing_on : (plan : RackPlan) (rack : RackView) (kind : LinkKind) (number : ℕ) → IsStart plan rack → pending_on rack.net kind number ≡ []
nothing_on plan rack kind number h = ap (λ (links : LinkName → NetLink). (links (record { kind = kind; number = number })).pending) h.net

-- the world in which nothing has been done
pub first_seen : (plan : RackPlan) (rack : RackView) → IsStart plan rack → seen rack (λ page. zero_image) ≡ start (place_in rack.switch) (permission_at rack.switch.protect)
first_seen plan rack h = λ i. record (start (place_in rack.switch) (permission_at rack.switch.protect)) {
  frames = λ c page. (ap (λ (blades : List BladeView). frame_at blades c page) h.blades ∙ no_frame plan (range_with_len 0 (length plan.frames)) c page) i;
  asks = λ c page. (ap (λ (blades : List BladeView). asked_at blades c page) h.blades ∙ none_asked plan (range_with_len 0 (length plan.frames)) c page) i;
  ups = λ number. nothing_on plan rack Up number h i;
  downs = λ number. nothing_on plan rack Down number h i;
  wants = λ blade page. ap (λ (requests : List Request). wanted_at requests blade page) h.switch.requests i;
  regions = λ page. ap (λ (directory : DirectoryView). region_at directory.entries page) h.switch.directory i;
  last = h.switch.last i;
  tos = λ number. nothing_on plan rack To number h i;
  froms = λ number. nothing_on plan rack From number h i;
  images = λ memory phys. (ap (λ (memories : List (List PageImageView)). image_at (slice_index_or memories memory []) phys) h.memories ∙ all_zero plan.memories memory phys) i;
}

-- ---- where pages lie

-- a page lies at its home
at_home : (memories : List MemoryPlan) (page : PageView) → physical_place memories [] page ≡ home_of memories page
at_home memories page = by (home_of memories page) where
  by : (home : Option (ℕ × ℕ)) → option_map {T = ℕ × ℕ} {U = ℕ × ℕ} (λ place. place) home ≡ home
  by None = refl
  by (Some place) = refl

lies : (plan : RackPlan) (switch : SwitchView) (page : PageView) → IsFirstSwitch plan switch → place_in switch page ≡ home_of plan.memories page
lies plan switch page h = ap (λ (table : TableView). physical_place table.homes table.outliers page) h.table ∙ at_home plan.memories page

are_placed : (plan : RackPlan) (switch : SwitchView) → IsFit plan → IsFirstSwitch plan switch → ArePlaced (start (place_in switch) (permission_at switch.protect))
are_placed plan switch fit h = record {
  apart = λ a b place ea eb. one-home plan.memories a b place (sym (lies plan switch a h) ∙ ea) (sym (lies plan switch b h) ∙ eb);
  placed = λ page some. ap is_some (lies plan switch page h) ∙ mapped-home plan.memories No plan.maps page fit.each_map (λ no. absurd (no refl))
      (λ none. some (ap (λ (perms : PageView → Perm). perms page) h.protect ∙ none));
}

-- ---- it is sound

-- blade c is the first blade of that number
pub blade_is : (plan : RackPlan) (c : ℕ) (blade : BladeView) → slice_get (map (first_blade plan) (range_with_len 0 (length plan.frames))) c ≡ Some blade
    → (c < length plan.frames) × (blade ≡ first_blade plan c)
blade_is plan c blade e =
    let blades = map (first_blade plan) (range_with_len 0 (length plan.frames)) in
    let lt : c < length plan.frames = omega (arith, slice_get_within blades c blade e, length-map-range_with_len (first_blade plan) 0 (length plan.frames)) in
    (lt, sym (get_or_from_slice_get blades c blade blade e) ∙ get_or-map-range_with_len (first_blade plan) 0 (length plan.frames) c c blade lt (omega arith))

some_frames : (frames : List ℕ) (c : ℕ) → AllByRecursion (Within 1 1024) frames → c < length frames → 0 < slice_index frames c
some_frames [] c all lt = absurd (omega (arith, lt))
some_frames (n ∷ frames) zero all lt = omega (arith, all.0.0)
some_frames (n ∷ frames) (suc c) all lt = some_frames frames c all.1 (omega (arith, lt))

blades_sound : (plan : RackPlan) (rack : RackView) → IsFit plan → IsStart plan rack → AreBladesSound rack
blades_sound plan rack fit h c blade e =
    let is = blade_is plan c blade (ap (λ (blades : List BladeView). slice_get blades c) (sym h.blades) ∙ e) in
    subst (IsSoundBlade (permission_at rack.switch.protect)) (sym is.1) (first_sound (permission_at rack.switch.protect) plan c (some_frames plan.frames c fit.frames is.0))

switch_sound : (plan : RackPlan) (switch : SwitchView) → IsFit plan → IsFirstSwitch plan switch → IsSoundSwitch switch
switch_sound plan switch fit h = record {
  requests = subst AskOncePerPage (sym h.requests) tt;
  blades = subst (λ (requests : List Request). AllByRecursion (λ r. r.blade < 8) requests) (sym h.requests) tt;
  blocks = subst (λ (directory : DirectoryView). AreEntriesApart directory.entries) (sym h.directory) tt;
  entries = subst (λ (directory : DirectoryView). AllByRecursion (IsFitEntry 8) directory.entries) (sym h.directory) tt;
  region = subst (λ (p : RackPlan). p.region ≤ 9) (sym h.of_plan) fit.region;
}

none_asked_of : (plan : RackPlan) (rack : RackView) → IsStart plan rack → AreAsked rack
none_asked_of plan rack h memory = subst (AllByRecursion (AsksAt (place_in rack.switch) memory)) (sym (nothing_on plan rack To memory h)) tt

-- a memory blade has an image for each of its home pages and spare pages
record IsMemory (memories : List MemoryPlan) (i count : ℕ) : Type 0 where
  memory : MemoryPlan
  own : slice_get memories i ≡ Some memory
  is : count ≡ pages_of memory.homes + memory.spare

memory_is : (memories : List MemoryPlan) (i : ℕ) (pages : List PageImageView) → slice_get (map first_memory memories) i ≡ Some pages → IsMemory memories i (length pages)
memory_is [] i pages e = absurd (none-some pages e)
memory_is (m ∷ memories) zero pages e =
    record { memory = m; own = refl; is = ap (λ (ps : List PageImageView). length ps) (sym (same_Some _ _ e)) ∙ length-replicate (pages_of m.homes + m.spare) zero_image }
memory_is (m ∷ memories) (suc i) pages e = let rest = memory_is memories i pages e in record { memory = rest.memory; own = rest.own; is = rest.is }

enough : (plan : RackPlan) (rack : RackView) → IsStart plan rack → (memory : ℕ) (pages : List PageImageView) → slice_get rack.memories memory ≡ Some pages → LieBelow (place_in rack.switch) memory (length pages)
enough plan rack h memory pages e page phys at =
    let blade = memory_is plan.memories memory pages (ap (λ (memories : List (List PageImageView)). slice_get memories memory) (sym h.memories) ∙ e) in
    let below = home-below plan.memories memory blade.memory page phys blade.own (sym (lies plan rack.switch page h.switch) ∙ at) in
    omega (arith, below, blade.is)

-- it is coherent with images that are all zero
pub starts_coherent : (plan : RackPlan) (rack : RackView) → IsFit plan → IsStart plan rack → IsCoherent (seen rack (λ page. zero_image))
starts_coherent plan rack fit h = subst IsCoherent (sym (first_seen plan rack h)) (coherence.starts (place_in rack.switch) (permission_at rack.switch.protect) (are_placed plan rack.switch fit h.switch))

pub starts : (plan : RackPlan) (rack : RackView) → IsFit plan → IsStart plan rack → IsSafe rack
starts plan rack fit h = record {
  flat = λ page. zero_image;
  coherent = starts_coherent plan rack fit h;
  sound = record {
    blades = blades_sound plan rack fit h;
    switch = switch_sound plan rack.switch fit h.switch;
    asked = none_asked_of plan rack h;
    room = enough plan rack h;
  };
}
