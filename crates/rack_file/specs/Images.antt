-- Which bytes are an image.
use Rattle.std.specs.Prelude.{ℕ, ◌+◌, ◌%◌, ◌^◌, Bool, ◌&&◌, ◌==◌, nat_le, List, length, Result, Ok, Err, if◌then◌else◌}
use Rattle.mind_base.specs.declared.images.Image.{Image}
use Rattle.mind_base.specs.declared.plans.ImagePlan.{ImagePlan}
use Rattle.rack_file.specs.declared.images.ImageFault.{ImageFault}
use Rattle.rack_file.specs.declared.images.ImageFault.TheVariants.{Length, End}

-- an image has 1 to 16384 words
abbrev pub is_image_length : ℕ → Bool
is_image_length n = nat_le 4 n && nat_le n 65536 && n % 4 == 0

-- The image of a plan: its length is judged first, and then whether it ends inside the 2 ^ 32 addresses.
abbrev pub image_bytes_judged : ImagePlan → List ℕ → Result Image ImageFault
image_bytes_judged plan bytes =
    if is_image_length (length bytes)
    then (if nat_le (plan.at + length bytes) (2 ^ 32) then Ok (record { at = plan.at; bytes = bytes }) else Err End)
    else Err Length
