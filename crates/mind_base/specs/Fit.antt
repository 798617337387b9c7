-- Which plans describe a rack, and which images are theirs.
use Rattle.std.specs.Prelude.{◌≡◌, ◌≢◌, ℕ, ◌+◌, ◌<◌, ◌≤◌, ◌%◌, ◌^◌, List, [], ◌∷◌, length, map, sum, IsSome}
use Rattle.std.specs.List.{flat_map, AllByRecursion}
use Rattle.mind_base.specs.Page.{PageView}
use Rattle.mind_base.specs.Span.{SpanView, InSpan}
use Rattle.mind_base.specs.Home.{home_of}
use Rattle.mind_base.specs.Permission.{permission_of}
use Rattle.mind_base.specs.Cover.{cover_of}
use Rattle.mind_base.specs.declared.commands.Perm.TheVariants.{No}
use Rattle.mind_base.specs.declared.plans.MemoryPlan.{MemoryPlan}
use Rattle.mind_base.specs.declared.plans.ImagePlan.{ImagePlan}
use Rattle.mind_base.specs.declared.plans.ThreadPlan.{ThreadPlan}
use Rattle.mind_base.specs.declared.plans.MapPlan.{MapPlan}
use Rattle.mind_base.specs.declared.plans.RackPlan.{RackPlan}
use Rattle.mind_base.specs.declared.images.Image.{Image}

-- a number between two, both included
abbrev pub Within : ℕ → ℕ → ℕ → Type 0
Within low high n = (low ≤ n) × (n ≤ high)

-- no page is in both runs
abbrev pub IsApart : SpanView → SpanView → Type 0
IsApart a b = (page : PageView) → InSpan a page → InSpan b page → ⊥

-- no page is in two of the runs
abbrev pub AreApart : List SpanView → Type 0
AreApart [] = Unit {0}
AreApart (s ∷ ss) = AllByRecursion (IsApart s) ss × AreApart ss

pub record IsFitMemory (memory : MemoryPlan) : Type 0 where
  pub spare : memory.spare ≤ 4096
  pub homes : Within 1 16 (length memory.homes)
  pub pages : AllByRecursion (λ span. span.pages ≤ 4096) memory.homes

-- an image stands at a multiple of 4 from which a word fits into the 2 ^ 32 addresses
abbrev pub IsFitImage : ImagePlan → Type 0
IsFitImage image = (image.at % 4 ≡ 0) × (image.at ≤ 4294967292)

pub record IsFitThread (blades images : ℕ) (thread : ThreadPlan) : Type 0 where
  pub blade : thread.blade < blades
  pub domain : thread.domain < 16
  pub image : thread.image < images
  pub queue : Within 1 64 thread.queue

-- a map gives some permission, and all its pages have a home
pub record IsFitMap (memories : List MemoryPlan) (entry : MapPlan) : Type 0 where
  pub pages : entry.span.pages ≤ 4096
  pub perm : entry.perm ≢ No
  pub placed : (page : PageView) → InSpan entry.span page → IsSome (home_of memories page)

-- all homes of all memory blades, in order
abbrev pub all_homes : List MemoryPlan → List SpanView
all_homes memories = flat_map (λ m. m.homes) memories

-- the plan meets the ranges and rules of a rack file
pub record IsFit (plan : RackPlan) : Type 0 where
  pub slots : Within 1 4096 plan.slots
  pub protect : Within 1 4096 plan.protect
  pub outliers : plan.outliers ≤ 1024
  pub region : plan.region ≤ 9
  pub most : Within plan.region 9 plan.most
  pub threshold : plan.threshold ≤ 1000000
  pub blades : Within 1 8 (length plan.frames)
  pub frames : AllByRecursion (Within 1 1024) plan.frames
  pub memories : Within 1 8 (length plan.memories)
  pub each_memory : AllByRecursion IsFitMemory plan.memories
  pub homes_apart : AreApart (all_homes plan.memories)
  pub home_pages : sum (map (λ span. span.pages) (all_homes plan.memories)) ≤ 16384
  pub images : Within 1 16 (length plan.images)
  pub each_image : AllByRecursion IsFitImage plan.images
  pub threads : Within 1 64 (length plan.threads)
  pub each_thread : AllByRecursion (IsFitThread (length plan.frames) (length plan.images)) plan.threads
  pub maps : length plan.maps ≤ 256
  pub each_map : AllByRecursion (IsFitMap plan.memories) plan.maps
  pub maps_apart : AreApart (map (λ entry. entry.span) plan.maps)
  pub cover : cover_of (permission_of plan.maps) ≤ plan.protect

-- the image stands where its plan says, has 1 to 16384 words, and ends inside the 2 ^ 32 addresses
pub record FitsImage (plan : ImagePlan) (image : Image) : Type 0 where
  pub at : image.at ≡ plan.at
  pub some : 4 ≤ length image.bytes
  pub most : length image.bytes ≤ 65536
  pub words : length image.bytes % 4 ≡ 0
  pub end : image.at + length image.bytes ≤ 2 ^ 32

-- one image for each image plan, in order
abbrev pub FitImages : List ImagePlan → List Image → Type 0
FitImages [] [] = Unit {0}
FitImages [] (image ∷ images) = ⊥
FitImages (plan ∷ plans) [] = ⊥
FitImages (plan ∷ plans) (image ∷ images) = FitsImage plan image × FitImages plans images
