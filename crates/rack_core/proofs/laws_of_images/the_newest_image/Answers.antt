use Rattle.std.proofs.Common.{ap, sym, ◌∙◌, slice_index}
use Rattle.mind_base.specs.Page.{page_of, page_offset_at}
use Rattle.page_image.specs.PageImage.{PageImageView}
use Rattle.rack_core.proofs.Moves.NewestImages.{the_newest, held_newest}
use Rattle.rack_core.proofs.laws_of_images.the_newest_image.Goals as goal

pub returns-clause-newest : goal.returns-clause-newest
returns-clause-newest c = the_newest

pub returns-clause-held : goal.returns-clause-held
returns-clause-held c = held_newest

pub returns-clause-bytes : goal.returns-clause-bytes
returns-clause-bytes c = λ rack flat m domain address place coherent stands lies.
    stands.bytes domain address
    ∙ ap (λ (image : PageImageView). slice_index image.bytes (page_offset_at address)) (sym (the_newest rack flat (page_of domain address) place coherent lies))
