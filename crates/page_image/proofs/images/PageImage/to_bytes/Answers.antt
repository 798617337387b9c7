use Rattle.std.proofs.Common.{rules, ◌≡◌, ◌++◌, refl, ap, ◌∙◌, append_assoc}
use Rattle.page_image.specs.PageImage.{spelling_of}
use Rattle.page_image.proofs.Laws.{spelling_of-parts}
use Rattle.page_image.proofs.images.PageImage.to_bytes.Goals as goal

pub returns-clause-ok : goal.returns-clause-ok
returns-clause-ok c =
    let bytes : c.as_slice-bytes.result.now ≡ c.args.self.now.bytes = c.as_slice-bytes.ensures.value ∙ ap (λ v. v.bytes) c.self.view_is in
    let tags : c.as_slice.result.now ≡ c.args.self.now.tags = c.as_slice.ensures.value ∙ ap (λ v. v.tags) c.self.view_is in
    let page : c.extend_from_slice.new.self.items ≡ c.args.out.now.items ++ c.args.self.now.bytes = c.in_ok-extend_from_slice.ensures.items ∙ rw (c.reserve.ensures.items, bytes) refl in
    let all : c.append_tags.new.out.items ≡ c.args.out.now.items ++ spelling_of c.args.self.now = c.append_tags.ensures.items ∙ rw (page, tags, spelling_of-parts, append_assoc) refl in
    search rules
