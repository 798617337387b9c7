-- A wire: the frames on it, in the order in which they were put there. A message frame is the number that it has, and an
-- acknowledgement the window of the receiver.
use Rattle.std.specs.Prelude.{◌≡◌, ℕ, ◌%◌, ◌≤◌, List, [], ◌∷◌, ◌++◌, length, filter, slice_get, remove, Option, Some, None, Bool, nat_lt, if◌then◌else◌}
use Rattle.std.specs.List.{range_with_len}

-- the frame that k names: that of the place k modulo the number of frames. An empty wire has none
abbrev pub frame_at : {A : Type 0} → List A → ℕ → Option A
frame_at wire k = slice_get wire (k % length wire)

-- the wire when that frame was taken out
abbrev pub without_frame : {A : Type 0} → List A → ℕ → List A
without_frame wire k = remove wire (k % length wire)

-- the wire with a frame put at its end; a frame put on a wire of 64 frames is lost
abbrev pub with_frame : {A : Type 0} → List A → A → List A
with_frame wire frame = if nat_lt (length wire) 64 then wire ++ frame ∷ [] else wire

-- the same, where there is a frame to put
abbrev pub with_any : {A : Type 0} → List A → Option A → List A
with_any wire None = wire
with_any wire (Some frame) = with_frame wire frame

-- the wire with a copy of the frame that k names put at its end
abbrev pub with_copy : {A : Type 0} → List A → ℕ → List A
with_copy wire k = with_any wire (frame_at wire k)
