use Rattle.std.proofs.Common.{◌≡◌, ◌+◌, ◌-◌, ◌*◌, ◌≤◌, ◌++◌, length, take, vec_len, vec_capacity}
use Rattle.std.specs.Int.{w64, to_be_bytes}
use Rattle.std.specs.List.{flat_map}
use Rattle.page_image.proofs.tags.append_tags.Given as goal

abbrev pub invariant-loop-tag : goal.invariant-loop-tag
invariant-loop-tag l =
    (l.out.items ≡ l.initial.out.items ++ flat_map (to_be_bytes w64) (take l.tag-index l.tags))
    × (vec_len l.out + 8 * (length l.tags - l.tag-index) ≤ vec_capacity l.out)
