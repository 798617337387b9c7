-- What the top table of a rack file says beside its arrays.
use Rattle.std.specs.Prelude.{codes, [], Result, Ok}
use Rattle.toml.specs.Data.{Members}
use Rattle.mind_base.specs.declared.plans.RackPlan.{RackPlan}
use Rattle.mind_base.specs.declared.plans.PolicyKind.TheVariants.{Threshold}
use Rattle.rack_file.specs.Keys.{Refused, and_then, keys_judged, known_judged, integer_at}
use Rattle.rack_file.specs.Tables.{top_keys, names_in}
use Rattle.rack_file.specs.declared.sections.Section.TheVariants.{Top}

-- the plan of these settings, without blades, images, threads and maps
abbrev pub settings_at : Members → RackPlan
settings_at top = record {
  slots = integer_at (codes "slots") top;
  protect = integer_at (codes "protect") top;
  outliers = integer_at (codes "outliers") top;
  region = integer_at (codes "region") top;
  most = integer_at (codes "most") top;
  threshold = integer_at (codes "threshold") top;
  policy = Threshold;
  frames = [];
  memories = [];
  images = [];
  threads = [];
  maps = [];
}

abbrev pub settings_judged : Members → Result RackPlan Refused
settings_judged top = and_then (keys_judged (codes "") top top_keys) (λ done. and_then (known_judged (codes "") top (names_in Top)) (λ known. Ok (settings_at top)))
