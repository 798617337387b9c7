-- The tables of a rack file: their keys, and what each describes.
use Rattle.std.specs.Prelude.{ℕ, ◌+◌, ◌-◌, ◌%◌, codes, Bool, not, ◌&&◌, ◌||◌, ◌==◌, nat_le, List, [], ◌∷◌, ◌++◌, map, sum, Option, Some, None, Result, Ok, if◌then◌else◌}
use Rattle.std.specs.List.{list_any}
use Rattle.std.specs.Str.{bytes_eq}
use Rattle.toml.specs.Data.{Data, Items, Members, get_member, as_table}
use Rattle.mind_base.specs.Page.{PageView}
use Rattle.mind_base.specs.Span.{SpanView, in_span}
use Rattle.mind_base.specs.Name.{is_name}
use Rattle.mind_base.specs.Fit.{all_homes}
use Rattle.mind_base.specs.Permission.{permission_of}
use Rattle.mind_base.specs.Cover.{cover_of}
use Rattle.mind_base.specs.declared.commands.Perm.{Perm}
use Rattle.mind_base.specs.declared.commands.Perm.TheVariants.{R, Rw}
use Rattle.mind_base.specs.declared.plans.MemoryPlan.{MemoryPlan}
use Rattle.mind_base.specs.declared.plans.ImagePlan.{ImagePlan}
use Rattle.mind_base.specs.declared.plans.ThreadPlan.{ThreadPlan}
use Rattle.mind_base.specs.declared.plans.MapPlan.{MapPlan}
use Rattle.control_plane.specs.Outcome.{all_in, are_unmapped}
use Rattle.rack_file.specs.Keys.{Refused, and_then, demand, Number, Text, OptionalText, Key, within, number_key, kind_judged, keys_judged, names_of, known_judged, integer_at, text_at, array_judged, optional_array_judged, items_judged, elements_judged, under}
use Rattle.rack_file.specs.declared.refusals.RackFault.TheVariants.{Limit, Overlap, Unplaced, Slots}
use Rattle.rack_file.specs.declared.sections.Section.{Section}
use Rattle.rack_file.specs.declared.sections.Section.TheVariants as section

-- ---- the keys of each table

-- the highest size of a block of the directory is at least the first one
abbrev pub most_key : Key
most_key = record { name = codes "most"; rule = λ table. Number (within (integer_at (codes "region") table) 9) }

abbrev pub policy_key : Key
policy_key = record { name = codes "policy"; rule = λ table. OptionalText (λ text. bytes_eq text (codes "threshold")) }

abbrev pub top_keys : List Key
top_keys =
    number_key (codes "format") 1 1 ∷ number_key (codes "slots") 1 4096 ∷ number_key (codes "protect") 1 4096
    ∷ number_key (codes "outliers") 0 1024 ∷ number_key (codes "region") 0 9 ∷ most_key
    ∷ number_key (codes "threshold") 0 1000000 ∷ policy_key ∷ []

abbrev pub blade_keys : List Key
blade_keys = number_key (codes "frames") 1 1024 ∷ []

abbrev pub memory_keys : List Key
memory_keys = number_key (codes "spare") 0 4096 ∷ []

-- a run of pages lies inside its domain
abbrev pub pages_key : Key
pages_key = record { name = codes "pages"; rule = λ table. Number (λ n. within 1 4096 n && nat_le (integer_at (codes "page") table + n) 1048576) }

abbrev pub span_keys : List Key
span_keys = number_key (codes "domain") 0 15 ∷ number_key (codes "page") 0 1048575 ∷ pages_key ∷ []

abbrev pub name_key : Key
name_key = record { name = codes "name"; rule = λ table. Text is_name }

-- an image stands at a multiple of 4 that leaves room for a word
abbrev pub at_key : Key
at_key = record { name = codes "at"; rule = λ table. Number (λ n. nat_le n 4294967292 && n % 4 == 0) }

abbrev pub image_keys : List Key
image_keys = name_key ∷ at_key ∷ []

-- a thread names one of the blades and one of the images
abbrev pub thread_keys : ℕ → ℕ → List Key
thread_keys blades images =
    number_key (codes "blade") 0 (blades - 1) ∷ number_key (codes "domain") 0 15
    ∷ number_key (codes "image") 0 (images - 1) ∷ number_key (codes "queue") 1 64 ∷ []

abbrev pub perm_key : Key
perm_key = record { name = codes "perm"; rule = λ table. Text (λ text. bytes_eq text (codes "r") || bytes_eq text (codes "rw")) }

abbrev pub map_keys : List Key
map_keys = span_keys ++ perm_key ∷ []

-- the names of the arrays of the top table
abbrev pub array_names : List (List ℕ)
array_names = codes "blade" ∷ codes "memory" ∷ codes "image" ∷ codes "thread" ∷ codes "map" ∷ []

-- the names of all keys that a table may have
abbrev pub names_in : Section → List (List ℕ)
names_in section.Top = names_of top_keys ++ array_names
names_in section.Blade = names_of blade_keys
names_in section.Memory = names_of memory_keys ++ codes "homes" ∷ []
names_in section.Home = names_of span_keys
names_in section.Image = names_of image_keys
names_in section.Thread = names_of (thread_keys 0 0)
names_in section.Map = names_of map_keys

-- a value that is a table, with these keys and no others
abbrev pub table_judged : Section → List Key → List ℕ → Data → Result Members Refused
table_judged section keys path datum =
    and_then (kind_judged path (as_table datum)) (λ table. and_then (keys_judged path table keys) (λ done.
    and_then (known_judged path table (names_in section)) (λ known. Ok table)))

-- ---- blades

abbrev pub blade_judged : List ℕ → Data → Result ℕ Refused
blade_judged path datum = and_then (table_judged section.Blade blade_keys path datum) (λ table. Ok (integer_at (codes "frames") table))

abbrev pub blades_judged : Members → Result (List ℕ) Refused
blades_judged top = elements_judged blade_judged (codes "blade") 8 top

-- ---- memory blades

abbrev pub span_at : Members → SpanView
span_at table = record { domain = integer_at (codes "domain") table; base = integer_at (codes "page") table; pages = integer_at (codes "pages") table }

-- no page of a run is in one of these
abbrev pub is_apart : List SpanView → SpanView → Bool
is_apart spans span = all_in span (λ page. not (list_any (λ other. in_span other page) spans))

-- a home, which is refused where it overlaps those before it
abbrev pub home_judged : (SpanView → Bool) → List ℕ → Data → Result SpanView Refused
home_judged is_free path datum =
    and_then (table_judged section.Home span_keys path datum) (λ table.
    and_then (demand (is_free (span_at table)) Overlap path) (λ free. Ok (span_at table)))

-- the homes of a memory blade behind those of earlier ones, with none of which they share a page
abbrev pub homes_judged : List SpanView → List ℕ → Members → Result (List SpanView) Refused
homes_judged earlier path table =
    and_then (array_judged (under path (codes "homes")) 1 16 (get_member (codes "homes") table)) (λ items.
    items_judged (λ done. home_judged (is_apart (earlier ++ done))) (under path (codes "homes")) [] items)

abbrev pub memory_judged : List MemoryPlan → List ℕ → Data → Result MemoryPlan Refused
memory_judged done path datum =
    and_then (kind_judged path (as_table datum)) (λ table. and_then (keys_judged path table memory_keys) (λ checked.
    and_then (homes_judged (all_homes done) path table) (λ homes. and_then (known_judged path table (names_in section.Memory)) (λ known.
    Ok (record { homes = homes; spare = integer_at (codes "spare") table })))))

-- how many pages runs have together
abbrev pub page_count : List SpanView → ℕ
page_count spans = sum (map (λ span. span.pages) spans)

abbrev pub all_home_pages : List MemoryPlan → ℕ
all_home_pages memories = page_count (all_homes memories)

-- what is left of so many when this many are taken, if there are as many
abbrev pub left_after : ℕ → ℕ → Option ℕ
left_after n taken = if nat_le taken n then Some (n - taken) else None

abbrev pub memories_judged : Members → Result (List MemoryPlan) Refused
memories_judged top =
    and_then (array_judged (codes "memory") 1 8 (get_member (codes "memory") top)) (λ items.
    and_then (items_judged memory_judged (codes "memory") [] items) (λ memories.
    and_then (demand (nat_le (all_home_pages memories) 16384) Limit (codes "memory")) (λ fits. Ok memories)))

-- ---- images and threads

abbrev pub image_judged : List ℕ → Data → Result ImagePlan Refused
image_judged path datum =
    and_then (table_judged section.Image image_keys path datum) (λ table. Ok (record { name = text_at (codes "name") table; at = integer_at (codes "at") table }))

abbrev pub images_judged : Members → Result (List ImagePlan) Refused
images_judged top = elements_judged image_judged (codes "image") 16 top

abbrev pub thread_at : Members → ThreadPlan
thread_at table = record { blade = integer_at (codes "blade") table; domain = integer_at (codes "domain") table; image = integer_at (codes "image") table; queue = integer_at (codes "queue") table }

abbrev pub thread_judged : ℕ → ℕ → List ℕ → Data → Result ThreadPlan Refused
thread_judged blades images path datum =
    and_then (table_judged section.Thread (thread_keys blades images) path datum) (λ table. Ok (thread_at table))

abbrev pub threads_judged : ℕ → ℕ → Members → Result (List ThreadPlan) Refused
threads_judged blades images top = elements_judged (thread_judged blades images) (codes "thread") 64 top

-- ---- maps

abbrev pub perm_in_file : List ℕ → Perm
perm_in_file text = if bytes_eq text (codes "rw") then Rw else R

-- a home as an entry that lets its pages be read
abbrev pub home_entry : SpanView → MapPlan
home_entry span = record { span = span; perm = R }

abbrev pub map_at : Members → MapPlan
map_at table = record { span = span_at table; perm = perm_in_file (text_at (codes "perm") table) }

-- each page of a map has a home, and none is mapped by an earlier map
abbrev pub map_judged : (SpanView → Bool) → (PageView → Perm) → List ℕ → Data → Result MapPlan Refused
map_judged is_placed permissions path datum =
    and_then (table_judged section.Map map_keys path datum) (λ table.
    and_then (demand (is_placed (span_at table)) Unplaced path) (λ placed.
    and_then (demand (are_unmapped permissions (span_at table)) Overlap path) (λ unmapped. Ok (map_at table))))

-- all maps together take no more blocks than there is room for
abbrev pub maps_within : (SpanView → Bool) → ℕ → Items → Result (List MapPlan) Refused
maps_within is_placed most items =
    and_then (items_judged (λ done. map_judged is_placed (permission_of done)) (codes "map") [] items) (λ maps.
    and_then (demand (nat_le (cover_of (permission_of maps)) most) Slots (codes "map")) (λ fits. Ok maps))

abbrev pub maps_judged : (SpanView → Bool) → ℕ → Members → Result (List MapPlan) Refused
maps_judged is_placed most top =
    and_then (optional_array_judged (codes "map") 0 256 (get_member (codes "map") top)) (λ items. maps_within is_placed most items)
