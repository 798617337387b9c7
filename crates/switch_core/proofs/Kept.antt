-- What each deed of the switch keeps, all that it does with a message keeps.
use Rattle.std.proofs.Common.{ℕ, zero, suc, ◌+◌, Bool, subst, sym, List, [], ◌∷◌, Option, Some, None}
use Rattle.std.specs.Prelude.{find}
use Rattle.mind_base.specs.Page.{PageView}
use Rattle.mind_base.specs.declared.links.LinkKind.{LinkKind}
use Rattle.mind_base.specs.declared.links.LinkKind.TheVariants.{Up, Down, To, From}
use Rattle.mind_base.specs.declared.links.LinkName.{LinkName}
use Rattle.page_image.specs.PageImage.{PageImageView}
use Rattle.request_list.specs.Requests.{is_of}
use Rattle.request_list.specs.declared.requests.Request.{Request}
use Rattle.wire_msg.specs.declared.msgs.Msg.{Msg}
use Rattle.wire_msg.specs.declared.msgs.Msg.TheVariants.{Get, Back, Ack, Image}
use Rattle.switch_core.specs.Deeds.{SwitchDeed, after_deed, after_deeds, MayDo, MayDoEach, IsDeedsAfter}
use Rattle.switch_core.specs.Handling.{answered, ended_at, ended_over, filling, from_blade, from_memory, handled_from, request_noted, went_back, Receives}
use Rattle.switch_core.specs.Switch.{SwitchView, SwitchEffect, only, and_then}
use Rattle.switch_core.proofs.Deeds.{receives-deeds}

-- What is done from a switch has the property `P` of what `about` tells of that switch: where nothing is done, where
-- one thing is done after another, and where a deed is done.
pub record IsKeptByDeeds {A : Type 0} (about : SwitchView → A) (P : A → SwitchEffect → Type 0) : Type 0 where
  pub nothing : (switch : SwitchView) → P (about switch) (only switch)
  pub follows : (a : A) (first : SwitchEffect) (next : SwitchView → SwitchEffect) → P a first → P (about first.switch) (next first.switch) → P a (and_then first next)
  pub each : (deed : SwitchDeed) (switch : SwitchView) → MayDo deed switch → P (about switch) (after_deed deed switch)

each-kept : {A : Type 0} {about : SwitchView → A} {P : A → SwitchEffect → Type 0} → IsKeptByDeeds about P → (deeds : List SwitchDeed) (switch : SwitchView) → MayDoEach deeds switch
    → P (about switch) (after_deeds deeds switch)
each-kept kept [] switch may = kept.nothing switch
each-kept {A} {about} kept (deed ∷ deeds) switch may =
    kept.follows (about switch) (after_deed deed switch) (after_deeds deeds) (kept.each deed switch may.0) (each-kept kept deeds (after_deed deed switch).switch may.1)

-- What each deed keeps, deeds in a row keep,
pub deeds-kept : {A : Type 0} {about : SwitchView → A} {P : A → SwitchEffect → Type 0} → IsKeptByDeeds about P → (a : A) (first last : SwitchEffect) → IsDeedsAfter first last → P a first → P a last
deeds-kept {A} {about} {P} kept a first last is one = subst (P a) (sym is.done) (kept.follows a first (after_deeds is.deeds) one (each-kept kept is.deeds first.switch is.may))

-- and so all that is done with a message, where what the message itself does keeps it.
pub receives-kept : {A : Type 0} {about : SwitchView → A} {P : A → SwitchEffect → Type 0} → IsKeptByDeeds about P
    → (a : A) (link : LinkName) (message : Msg) (switch : SwitchView) (effect : SwitchEffect) → Receives link message switch effect
    → P a (handled_from link.kind link.number message switch) → P a effect
receives-kept kept a link message switch effect receives one =
    deeds-kept kept a (handled_from link.kind link.number message switch) effect (receives-deeds link message switch effect receives) one

-- ---- what a message itself does

-- What is done with a message on a link of a kind has the property `H` of both and of the switch.
pub record IsHeard (H : LinkKind → Msg → SwitchView → SwitchEffect → Type 0) : Type 0 where
  pub nothing : (kind : LinkKind) (message : Msg) (switch : SwitchView) → H kind message switch (only switch)
  pub asks : (blade : ℕ) (page : PageView) (write : Bool) (switch : SwitchView) → H Up (Get page write) switch (request_noted blade page write switch)
  pub goes_back : (page : PageView) (image : PageImageView) (switch : SwitchView) → H Up (Back page image) switch (went_back page image switch)
  pub answers : (blade number count : ℕ) (switch : SwitchView) → H Up (Ack number count) switch (answered number blade count switch)
  pub fills : (blade : ℕ) (page : PageView) (image : PageImageView) (r : Request) (switch : SwitchView) → H From (Image (Some blade) page image) switch (filling (Some r) image switch)

pub handled-heard : {H : LinkKind → Msg → SwitchView → SwitchEffect → Type 0} → IsHeard H
    → (kind : LinkKind) (number : ℕ) (message : Msg) (switch : SwitchView) → H kind message switch (handled_from kind number message switch)
handled-heard {H} heard kind number message switch = by_kind kind where
  by_request : (blade : ℕ) (page : PageView) (image : PageImageView) (o : Option Request) → H From (Image (Some blade) page image) switch (filling o image switch)
  by_request blade page image None = heard.nothing From (Image (Some blade) page image) switch
  by_request blade page image (Some r) = heard.fills blade page image r switch

  up : (m : Msg) → H Up m switch (from_blade number m switch)
  up (Get page write) = heard.asks number page write switch
  up (Back page image) = heard.goes_back page image switch
  up (Ack n count) = heard.answers number n count switch
  up m = heard.nothing Up m switch

  from : (m : Msg) → H From m switch (from_memory m switch)
  from (Image None page image) = heard.nothing From (Image None page image) switch
  from (Image (Some blade) page image) = by_request blade page image (find (is_of blade page) switch.requests)
  from m = heard.nothing From m switch

  by_kind : (k : LinkKind) → H k message switch (handled_from k number message switch)
  by_kind Up = up message
  by_kind From = from message
  by_kind Down = heard.nothing Down message switch
  by_kind To = heard.nothing To message switch

-- the transitions that end one after another
pub ends-kept : {A : Type 0} {about : SwitchView → A} {P : A → SwitchEffect → Type 0} → IsKeptByDeeds about P → ((i : ℕ) (switch : SwitchView) → P (about switch) (ended_at i switch))
    → (a : A) (left i : ℕ) (done : SwitchEffect) → P a done → P a (ended_over left i done)
ends-kept kept end a zero i done one = one
ends-kept kept end a (suc left) i done one = ends-kept kept end a left (i + 1) (and_then done (ended_at i)) (kept.follows a done (ended_at i) one (end i done.switch))
