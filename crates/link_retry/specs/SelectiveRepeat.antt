-- Selective repeat: which messages a delivery hands over, what the receiver has beyond the one that it expects, what is
-- acknowledged and marked, and which frames are sent again.
use Rattle.std.specs.Prelude.{◌≡◌, ℕ, ◌-◌, Bool, false, List, [], ◌++◌, length, map, take, Option, Some, None}
use Rattle.mind_base.specs.declared.links.Side.{Side}
use Rattle.mind_base.specs.declared.links.Side.TheVariants.{Messages, Acks}
use Rattle.link_retry.specs.declared.windows.Window.{Window}
use Rattle.link_retry.specs.Link.{LinkView, first_kept, expected, new_link, with_wire}
use Rattle.link_retry.specs.Window.{has, new_window, gaps, Keeps, Passes, Joins}
use Rattle.link_retry.specs.Wire.{frame_at, without_frame, with_frame, with_copy}

-- the receiver's window, of the messages that it has beyond the one that it expects; the sender's, of those that it keeps
-- and that are marked; and the acknowledgements on their wire
pub record WindowsView : Type 0 where
  pub receiver : Window
  pub sender : Window
  pub acks : List Window

-- a link, and its windows
pub record SelectiveView : Type 0 where
  pub link : LinkView
  pub windows : WindowsView

-- windows of a link that nothing was sent on
abbrev pub new_windows : WindowsView
new_windows = record { receiver = new_window; sender = new_window; acks = [] }

abbrev pub new_selective : SelectiveView
new_selective = record { link = new_link; windows = new_windows }

-- the windows are those of the link: they stand at the expected number, at that of the first kept message, and at the
-- numbers that are acknowledged. The first kept message is not marked.
pub record AreWindows (link : LinkView) (windows : WindowsView) : Type 0 where
  pub receiver : windows.receiver.base ≡ expected link
  pub sender : windows.sender.base ≡ first_kept link
  pub acks : map (λ (ack : Window). ack.base) windows.acks ≡ link.acks
  pub first : has windows.sender (first_kept link) ≡ false

-- ---- deliver

-- what the receiver does with the frame of this number: it is handed the message that it expects and all that it has
-- behind it without a gap; one that comes early it keeps; and any other frame gives nothing
pub record HandsOver (old : Window) (number : ℕ) (taken : List (List ℕ)) (new : Window) : Type 0 where
  pub awaited : number ≡ old.base → Passes old new × (length taken ≡ new.base - old.base)
  pub other : (number ≡ old.base → ⊥) → Keeps old number new × (taken ≡ [])

-- neither the numbers that are sent and kept, nor a wire, nor the sender's window
pub record ChangesNoElse (old new : SelectiveView) : Type 0 where
  pub next : new.link.next ≡ old.link.next
  pub kept : new.link.kept ≡ old.link.kept
  pub messages : new.link.messages ≡ old.link.messages
  pub acks : new.windows.acks ≡ old.windows.acks
  pub sender : new.windows.sender ≡ old.windows.sender

-- the frame of this number, which k names, was delivered: what the receiver has then is acknowledged
pub record ReceivesFrame (old : WindowsView) (number : ℕ) (taken : List (List ℕ)) (new : WindowsView) : Type 0 where
  pub receiver : HandsOver old.receiver number taken new.receiver
  pub acks : new.acks ≡ with_frame old.acks new.receiver
  pub sender : new.sender ≡ old.sender

-- this acknowledgement, which k names, was delivered: what it names is marked
pub record ReceivesAck (old : WindowsView) (k : ℕ) (ack : Window) (new : WindowsView) : Type 0 where
  pub sender : Joins old.sender ack new.sender
  pub acks : new.acks ≡ without_frame old.acks k
  pub receiver : new.receiver ≡ old.receiver

-- by the frame that is named: nothing where there is none
abbrev pub DeliversFrame : WindowsView → Option ℕ → List (List ℕ) → WindowsView → Type 0
DeliversFrame old None taken new = new ≡ old
DeliversFrame old (Some number) taken new = ReceivesFrame old number taken new

abbrev pub DeliversMask : WindowsView → ℕ → Option Window → WindowsView → Type 0
DeliversMask old k None new = new ≡ old
DeliversMask old k (Some ack) new = ReceivesAck old k ack new

abbrev pub DeliversSelectively : SelectiveView → Side → ℕ → List (List ℕ) → SelectiveView → Type 0
DeliversSelectively old Messages k taken new = DeliversFrame old.windows (frame_at old.link.messages k) taken new.windows
DeliversSelectively old Acks k taken new = DeliversMask old.windows k (frame_at old.windows.acks k) new.windows

-- ---- the acknowledgement wire

-- the windows when another list of acknowledgements is on the wire of that side
abbrev pub windows_after : (List Window → List Window) → WindowsView → Side → WindowsView
windows_after change windows Messages = windows
windows_after change windows Acks = record windows { acks = change windows.acks }

abbrev pub windows_after_lose : WindowsView → Side → ℕ → WindowsView
windows_after_lose windows side k = windows_after (λ acks. without_frame acks k) windows side

abbrev pub windows_after_repeat : WindowsView → Side → ℕ → WindowsView
windows_after_repeat windows side k = windows_after (λ acks. with_copy acks k) windows side

-- ---- resend

-- the frames of the kept messages that are not marked, in order, as many as the message wire has room for
abbrev pub unmarked : LinkView → Window → List ℕ
unmarked link sender = take (64 - length link.messages) (gaps sender link.kept)

-- the link when they were sent again
abbrev pub after_resend : SelectiveView → LinkView
after_resend old = with_wire old.link Messages (old.link.messages ++ unmarked old.link old.windows.sender)
