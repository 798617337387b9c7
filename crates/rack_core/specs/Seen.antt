-- The rack as its coherence sees it: functions of blade and page, with the newest image of each page beside them.
use Rattle.std.specs.Prelude.{ℕ, Bool, List, [], ◌∷◌, slice_get, find, slice_index_or, Option, option_map, option_and_then, if◌then◌else◌}
use Rattle.mind_base.specs.Page.{PageView}
use Rattle.mind_base.specs.declared.links.LinkKind.{LinkKind}
use Rattle.mind_base.specs.declared.links.LinkKind.TheVariants.{Up, Down, To, From}
use Rattle.page_cache.specs.PageCache.{frame_of}
use Rattle.page_cache.specs.declared.frames.Frame.{Frame}
use Rattle.page_image.specs.PageImage.{PageImageView}
use Rattle.protect_table.specs.Protect.{permission_at}
use Rattle.region_directory.specs.declared.entries.Entry.{Entry}
use Rattle.request_list.specs.Requests.{is_of}
use Rattle.request_list.specs.declared.requests.Request.{Request}
use Rattle.wire_msg.specs.declared.msgs.Msg.{Msg}
use Rattle.compute_blade.specs.Blade.{BladeView, request_for}
use Rattle.memory_blade.specs.MemoryBlade.{image_at}
use Rattle.rack_net.specs.Net.{NetView, links_of, same_link}
use Rattle.mind_base.specs.declared.links.LinkName.{LinkName}
use Rattle.switch_core.specs.Switch.{place_in}
use Rattle.switch_core.specs.Treating.{entry_for}
use Rattle.coherence.specs.World.{Region, Wanted, World}
use Rattle.rack_core.specs.Rack.{RackView}

abbrev pub pending_on : NetView → LinkKind → ℕ → List Msg
pending_on net kind number = (links_of net (record { kind = kind; number = number })).pending

abbrev pub frame_at : List BladeView → ℕ → PageView → Option Frame
frame_at blades number page = option_and_then (λ blade. frame_of page blade.cache.entries) (slice_get blades number)

abbrev pub asked_at : List BladeView → ℕ → PageView → Option Bool
asked_at blades number page = option_and_then (λ blade. option_map (λ asked. asked.write) (request_for page blade.requests)) (slice_get blades number)

abbrev pub wanted_at : List Request → ℕ → PageView → Option Wanted
wanted_at requests blade page = option_map (λ r. record { write = r.write; fetching = r.fetching }) (find (is_of blade page) requests)

abbrev pub region_of : Entry → Region
region_of entry = record { range = entry.range; state = entry.state; busy = entry.busy }

abbrev pub region_at : List Entry → PageView → Option Region
region_at entries page = option_and_then (λ i. option_map region_of (slice_get entries i)) (entry_for page entries)

-- the rack, with the newest image of each page
abbrev pub seen : RackView → (PageView → PageImageView) → World
seen rack flat = record {
  frames = frame_at rack.blades;
  asks = asked_at rack.blades;
  ups = pending_on rack.net Up;
  downs = pending_on rack.net Down;
  wants = wanted_at rack.switch.requests;
  regions = region_at rack.switch.directory.entries;
  last = rack.switch.last;
  tos = pending_on rack.net To;
  froms = pending_on rack.net From;
  images = λ memory phys. image_at (slice_index_or rack.memories memory []) phys;
  flat = flat;
  places = place_in rack.switch;
  perms = permission_at rack.switch.protect;
}

-- ---- what a node sends, as each link sees it

-- the messages to one link among those that a node sends, in order
abbrev pub sent_on : LinkKind → ℕ → List (LinkName × Msg) → List Msg
sent_on kind number [] = []
sent_on kind number (message ∷ messages) =
    if same_link (record { kind = kind; number = number }) message.0 then message.1 ∷ sent_on kind number messages else sent_on kind number messages
