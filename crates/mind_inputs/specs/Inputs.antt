-- The inputs of a run, read and judged one after another: the first that is not held or is refused ends the call.
use Rattle.std.specs.Prelude.{◌≡◌, ◌≤◌, ℕ, zero, suc, Bool, true, false, nat_lt, List, [], ◌∷◌, ◌++◌, length, Option, Some, None, Result, Ok, Err, if◌then◌else◌}
use Rattle.std.specs.List.{AllByRecursion, list_all}
use Rattle.std.specs.FinMap as finite
use Rattle.mind_base.specs.Fit.{IsFit, FitImages}
use Rattle.mind_base.specs.Store.{Files}
use Rattle.mind_base.specs.declared.events.Event.{Event}
use Rattle.mind_base.specs.declared.events.Event.TheVariants as events
use Rattle.mind_base.specs.declared.images.Image.{Image}
use Rattle.mind_base.specs.declared.plans.ImagePlan.{ImagePlan}
use Rattle.mind_base.specs.declared.plans.RackPlan.{RackPlan}
use Rattle.rack_file.specs.Racks as racks
use Rattle.rack_file.specs.Images as image_file
use Rattle.rack_file.specs.declared.refusals.RackFault.{RackFault}
use Rattle.rack_file.specs.declared.images.ImageFault.{ImageFault}
use Rattle.rack_file.specs.declared.images.ImageFault.TheVariants.{Length, End}
use Rattle.schedule_text.specs.Event.{IsEventOf}
use Rattle.schedule_text.specs.Refusal as lines
use Rattle.schedule_text.specs.Schedule.{schedule_in}
use Rattle.rack_gen.specs.Generator.{generated}
use Rattle.mind_inputs.specs.Words.{Paths}
use Rattle.mind_inputs.specs.declared.refusals.Refusal.{Refusal}
use Rattle.mind_inputs.specs.declared.refusals.Refusal.TheVariants.{RackRefused, RackLong, ImageLength, ImageEnd, ImageLong, ScheduleRefused, ScheduleLong, ScheduleEarly}

-- what is there under a name: nothing, more bytes than are read, or these bytes
pub data Seen : Type 0 where
  Absent : Seen
  Long : Seen
  Bytes : (bytes : List ℕ) → Seen

-- why an input ends the call: it is not there, or it is refused
pub data Ending : Type 0 where
  Missing : Ending
  Refused : (refusal : Refusal) → Ending

-- what is run: the rack, one image for each of its image plans, and the events
pub record Accepted : Type 0 where
  pub plan : RackPlan
  pub images : List Image
  pub events : List Event

-- how the inputs are judged together: these are run, or one of them ends the call
abbrev pub Judged : Type 0
Judged = Result Accepted Ending

-- ---- one input

abbrev pub rack_answer : Result RackPlan (RackFault × List ℕ) → Result RackPlan Ending
rack_answer (Ok plan) = Ok plan
rack_answer (Err (what, path)) = Err (Refused (RackRefused what path))

abbrev pub rack_seen_judged : Seen → Result RackPlan Ending
rack_seen_judged Absent = Err Missing
rack_seen_judged Long = Err (Refused RackLong)
rack_seen_judged (Bytes bytes) = rack_answer (racks.rack_judged (racks.document_of bytes))

abbrev pub image_answer : ℕ → Result Image ImageFault → Result Image Ending
image_answer number (Ok image) = Ok image
image_answer number (Err Length) = Err (Refused (ImageLength number))
image_answer number (Err End) = Err (Refused (ImageEnd number))

-- the image with this number
abbrev pub image_seen_judged : ℕ → ImagePlan → Seen → Result Image Ending
image_seen_judged number plan Absent = Err Missing
image_seen_judged number plan Long = Err (Refused (ImageLong number))
image_seen_judged number plan (Bytes bytes) = image_answer number (image_file.image_bytes_judged plan bytes)

-- events of this kind are built: all but commands
abbrev pub is_built : Event → Bool
is_built (events.Step hart) = true
is_built (events.Drain hart) = true
is_built (events.Evict blade page) = true
is_built (events.Deliver link side k) = true
is_built (events.Lose link side k) = true
is_built (events.Repeat link side k) = true
is_built (events.Resend link) = true
is_built events.Epoch = true
is_built (events.Ask command) = false
is_built events.Settle = true

abbrev pub IsBuilt : Event → Type 0
IsBuilt event = is_built event ≡ true

-- what a rack can run: it is fit, the images are those of its plans, and the events are its own, not too many, and of kinds
-- that are built
pub record IsRunnable (inputs : Accepted) : Type 0 where
  pub fit : IsFit inputs.plan
  pub images : FitImages inputs.plan.images inputs.images
  pub few : length inputs.events ≤ 1000000
  pub built : AllByRecursion IsBuilt inputs.events
  pub numbers : AllByRecursion (IsEventOf inputs.plan) inputs.events

abbrev pub schedule_answer : Result (List Event) lines.Refusal → Result (List Event) Ending
schedule_answer (Ok events) = if list_all is_built events then Ok events else Err (Refused ScheduleEarly)
schedule_answer (Err refusal) = Err (Refused (ScheduleRefused refusal.line refusal.what))

abbrev pub schedule_judged : RackPlan → Seen → Result (List Event) Ending
schedule_judged plan Absent = Err Missing
schedule_judged plan Long = Err (Refused ScheduleLong)
schedule_judged plan (Bytes bytes) = schedule_answer (schedule_in plan bytes)

-- ---- all of them, by what is seen of each

-- the next judgement, unless this one ends the call
abbrev pub judged_then : {X Y : Type 0} → Result X Ending → (X → Result Y Ending) → Result Y Ending
judged_then (Ok x) next = next x
judged_then (Err ending) next = Err ending

-- what is seen of images that are read one after another, by their numbers and their names
abbrev pub ImagesSeen : Type 0
ImagesSeen = ℕ → List ℕ → Seen

-- the images of these plans, one after another, behind those that are accepted
abbrev pub images_judged : ImagesSeen → List Image → List ImagePlan → Result (List Image) Ending
images_judged seen accepted [] = Ok accepted
images_judged seen accepted (plan ∷ plans) =
    judged_then (image_seen_judged (length accepted) plan (seen zero plan.name))
    (λ image. images_judged (λ n. seen (suc n)) (accepted ++ image ∷ []) plans)

-- the rack, and then its images in their order
abbrev pub parts_judged : Seen → ImagesSeen → Result (RackPlan × List Image) Ending
parts_judged rack images =
    judged_then (rack_seen_judged rack) (λ plan. judged_then (images_judged images [] plan.images) (λ accepted. Ok (plan, accepted)))

-- and then the events, by how those of a rack are judged
abbrev pub events_then : (RackPlan → Result (List Event) Ending) → Result (RackPlan × List Image) Ending → Judged
events_then events parts =
    judged_then parts (λ p. judged_then (events p.0) (λ accepted. Ok (record { plan = p.0; images = p.1; events = accepted })))

-- the events that the generator makes for the rack; no more is read
abbrev pub made_judged : ℕ → ℕ → RackPlan → Result (List Event) Ending
made_judged count seed plan = Ok (generated plan count seed)

-- ---- reading

-- what a read with a limit sees of what is held
abbrev pub seen_of : Option (List ℕ) → ℕ → Seen
seen_of None limit = Absent
seen_of (Some bytes) limit = if nat_lt limit (length bytes) then Long else Bytes bytes

-- this is what is seen under a name, where the store tells what it holds
abbrev pub SeesFile : Option Files → List ℕ → ℕ → Seen → Type 0
SeesFile None name limit seen = Unit {0}
SeesFile (Some files) name limit seen = seen_of (finite.get files name) limit ≡ seen

-- this is what is seen of each image
abbrev pub SeesImages : Option Files → ImagesSeen → Type 0
SeesImages holds images = (n : ℕ) (name : List ℕ) → SeesFile holds name 65536 (images n name)

-- what is seen under a name is judged so
abbrev pub JudgesOne : {X : Type 0} → Option Files → List ℕ → ℕ → (Seen → Result X Ending) → Result X Ending → Type 0
JudgesOne holds name limit judged answer = (seen : Seen) × SeesFile holds name limit seen × (judged seen ≡ answer)

-- what is seen of the images of these plans is judged so, behind those that are accepted
abbrev pub JudgesImages : Option Files → List Image → List ImagePlan → Result (List Image) Ending → Type 0
JudgesImages holds accepted plans answer = (images : ImagesSeen) × SeesImages holds images × (images_judged images accepted plans ≡ answer)

-- what is seen of the rack and its images is judged so
abbrev pub JudgesParts : Option Files → List ℕ → Result (RackPlan × List Image) Ending → Type 0
JudgesParts holds rack answer =
    (seen : Seen) × SeesFile holds rack 65536 seen × (images : ImagesSeen) × SeesImages holds images × (parts_judged seen images ≡ answer)

-- and behind them the events
abbrev pub JudgesWith : Option Files → List ℕ → (RackPlan → Result (List Event) Ending) → Judged → Type 0
JudgesWith holds rack events judged = (parts : Result (RackPlan × List Image) Ending) × JudgesParts holds rack parts × (events_then events parts ≡ judged)

-- the events are those of a schedule that is read behind the images
abbrev pub Judges : Option Files → Paths → Judged → Type 0
Judges holds paths judged =
    (schedule : Seen) × SeesFile holds paths.schedule 4194304 schedule × JudgesWith holds paths.rack (λ plan. schedule_judged plan schedule) judged

abbrev pub JudgesMade : Option Files → List ℕ → ℕ → ℕ → Judged → Type 0
JudgesMade holds rack count seed judged = JudgesWith holds rack (made_judged count seed) judged

-- ---- the judgement of files

abbrev pub judge_with : Files → List ℕ → (RackPlan → Result (List Event) Ending) → Judged
judge_with files rack events =
    events_then events (parts_judged (seen_of (finite.get files rack) 65536) (λ n name. seen_of (finite.get files name) 65536))

abbrev pub judge : Files → Paths → Judged
judge files paths = judge_with files paths.rack (λ plan. schedule_judged plan (seen_of (finite.get files paths.schedule) 4194304))

abbrev pub judge_made : Files → List ℕ → ℕ → ℕ → Judged
judge_made files rack count seed = judge_with files rack (made_judged count seed)
