use Rattle.rack_core.proofs.Log.Places.Events.{places_of, shaped-own}
use Rattle.rack_core.proofs.laws.notes_stand_in_their_places.Goals as goal

pub returns : goal.returns
returns c = λ images e old new noted fits kept given. places_of images e old new noted fits kept.safe (shaped-own old kept.shape) given
