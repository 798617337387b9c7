-- The messages that may come to a blade, by their kind.
use Rattle.std.proofs.Common.{ℕ, Bool, Option}
use Rattle.mind_base.specs.Page.{PageView}
use Rattle.mind_base.specs.Range.{RangeView}
use Rattle.mind_base.specs.declared.commands.Perm.{Perm}
use Rattle.page_image.specs.PageImage.{PageImageView}
use Rattle.wire_msg.specs.declared.msgs.Msg.{Msg}
use Rattle.wire_msg.specs.declared.msgs.Msg.TheVariants as msg
use Rattle.compute_blade.specs.Blade.{BladeView}
use Rattle.compute_blade.specs.Messages.{MayComeToBlade}

-- what holds of each of the four kinds holds of each message that may come
pub each_coming : (blade : BladeView) (P : Msg → Type 0)
    → ((page : PageView) (perm : Perm) (writable : Bool) (image : PageImageView) → MayComeToBlade blade (msg.Fill page perm writable image) → P (msg.Fill page perm writable image))
    → ((page : PageView) → MayComeToBlade blade (msg.Deny page) → P (msg.Deny page))
    → ((number : ℕ) (range : RangeView) (asked : Option PageView) → P (msg.Inv number range asked))
    → ((number : ℕ) (range : RangeView) (asked : PageView) → P (msg.Lower number range asked))
    → (message : Msg) → MayComeToBlade blade message → P message
each_coming blade P fill deny inv lower (msg.Fill page perm writable image) may = fill page perm writable image may
each_coming blade P fill deny inv lower (msg.Deny page) may = deny page may
each_coming blade P fill deny inv lower (msg.Inv number range asked) may = inv number range asked
each_coming blade P fill deny inv lower (msg.Lower number range asked) may = lower number range asked
each_coming blade P fill deny inv lower (msg.Get page write) may = absurd may
each_coming blade P fill deny inv lower (msg.Back page image) may = absurd may
each_coming blade P fill deny inv lower (msg.Ack number count) may = absurd may
each_coming blade P fill deny inv lower (msg.Close number span ends) may = absurd may
each_coming blade P fill deny inv lower (msg.Closed number) may = absurd may
each_coming blade P fill deny inv lower (msg.Reopen number) may = absurd may
each_coming blade P fill deny inv lower (msg.Read phys of page) may = absurd may
each_coming blade P fill deny inv lower (msg.Image of page image) may = absurd may
each_coming blade P fill deny inv lower (msg.Write phys image) may = absurd may
each_coming blade P fill deny inv lower (msg.Zero phys pages) may = absurd may
