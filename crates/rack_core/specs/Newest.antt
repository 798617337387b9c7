-- The newest image of a page, by where it is to be found.
use Rattle.std.specs.Prelude.{ℕ, ◌==◌, List, [], find, filter_map, flat_map, slice_index_or, Option, Some, None, option_map, unwrap_or, if◌then◌else◌}
use Rattle.std.specs.List.{last_or, range_with_len}
use Rattle.mind_base.specs.Page.{PageView}
use Rattle.mind_base.specs.declared.links.LinkKind.TheVariants.{Up, To}
use Rattle.page_cache.specs.PageCache.{frame_of, same_page}
use Rattle.page_cache.specs.declared.frames.Frame.{Frame}
use Rattle.page_image.specs.PageImage.{PageImageView, zero_image}
use Rattle.wire_msg.specs.declared.msgs.Msg.{Msg}
use Rattle.wire_msg.specs.declared.msgs.Msg.TheVariants.{Back, Write}
use Rattle.compute_blade.specs.Blade.{BladeView}
use Rattle.memory_blade.specs.MemoryBlade.{image_at}
use Rattle.rack_net.specs.Net.{NetView}
use Rattle.switch_core.specs.Switch.{place_in}
use Rattle.rack_core.specs.Rack.{RackView}
use Rattle.rack_core.specs.Seen.{pending_on}

-- the frame of the blade that holds the page to write
abbrev pub writable_frame : List BladeView → PageView → Option Frame
writable_frame blades page = find (λ frame. frame.writable) (filter_map (λ blade. frame_of page blade.cache.entries) blades)

-- ---- images under way

-- the image of the page that goes back, and the one that is written to a place
abbrev pub sent_back : PageView → Msg → Option PageImageView
sent_back page (Back other image) = if same_page page other then Some image else None
sent_back page message = None

abbrev pub written_to : ℕ → Msg → Option PageImageView
written_to phys (Write other image) = if phys == other then Some image else None
written_to phys message = None

-- the last of such images among messages, the oldest of which stand first
abbrev pub last_image : (Msg → Option PageImageView) → List Msg → Option PageImageView
last_image image_in messages = last_or None (filter_map image_in messages)

-- the messages up to the switch, link by link
abbrev pub all_up : NetView → List Msg
all_up net = flat_map (pending_on net Up) (range_with_len 0 net.blades)

-- ---- the newest image

-- at a place: that of the last Write under way to it, or else the one that is there
abbrev pub image_there : RackView → ℕ × ℕ → PageImageView
image_there rack place = unwrap_or (last_image (written_to place.1) (pending_on rack.net To place.0))
    (image_at (slice_index_or rack.memories place.0 []) place.1)

-- that of the frame that is held to write; else that of the last Back of the page under way; else that where the
-- page lies. A page that lies nowhere is zero.
abbrev pub newest_image : RackView → PageView → PageImageView
newest_image rack page = unwrap_or (option_map (λ frame. frame.image) (writable_frame rack.blades page))
    (unwrap_or (last_image (sent_back page) (all_up rack.net))
    (unwrap_or (option_map (image_there rack) (place_in rack.switch page)) zero_image))
