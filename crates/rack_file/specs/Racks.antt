-- Which rack files are accepted, and the first thing that is wrong with the others.
use Rattle.std.specs.Prelude.{ℕ, List, [], length, Option, Some, None, Result, Ok, Err, if◌then◌else◌}
use Rattle.std.specs.Str.{is_utf8}
use Rattle.toml.specs.Data.{Members}
use Rattle.toml.specs.Parse.{parse_document}
use Rattle.mind_base.specs.declared.plans.MemoryPlan.{MemoryPlan}
use Rattle.mind_base.specs.declared.plans.ImagePlan.{ImagePlan}
use Rattle.mind_base.specs.declared.plans.ThreadPlan.{ThreadPlan}
use Rattle.mind_base.specs.declared.plans.MapPlan.{MapPlan}
use Rattle.mind_base.specs.declared.plans.RackPlan.{RackPlan}
use Rattle.control_plane.specs.Outcome.{are_placed}
use Rattle.rack_file.specs.Keys.{Refused, and_then}
use Rattle.rack_file.specs.Settings.{settings_judged}
use Rattle.rack_file.specs.Tables.{blades_judged, memories_judged, images_judged, threads_judged, maps_judged}
use Rattle.rack_file.specs.declared.refusals.RackFault.TheVariants.{Toml}

-- the plan with these arrays
abbrev pub plan_of : RackPlan → List ℕ → List MemoryPlan → List ImagePlan → List ThreadPlan → List MapPlan → RackPlan
plan_of settings frames memories images threads maps =
    record settings { frames = frames; memories = memories; images = images; threads = threads; maps = maps }

-- the top table's keys, and then its arrays in order
abbrev pub top_judged : Members → Result RackPlan Refused
top_judged top =
    and_then (settings_judged top) (λ settings. and_then (blades_judged top) (λ frames. and_then (memories_judged top) (λ memories.
    and_then (images_judged top) (λ images. and_then (threads_judged (length frames) (length images) top) (λ threads.
    and_then (maps_judged (are_placed memories) settings.protect top) (λ maps. Ok (plan_of settings frames memories images threads maps)))))))

-- the document that bytes spell, if they spell one
abbrev pub document_of : List ℕ → Option Members
document_of bytes = if is_utf8 bytes then parse_document bytes else None

-- what is read of a document, or the first thing that is wrong in it
abbrev pub rack_judged : Option Members → Result RackPlan Refused
rack_judged None = Err (Toml, [])
rack_judged (Some top) = top_judged top
