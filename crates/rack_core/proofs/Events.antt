-- What an event does: what a link gives is handed over, nodes send, a rack starts.
pub mod Delivering
pub mod Handing
pub mod MayHand
pub mod Sending
pub mod Served
pub mod Starting
pub mod Whole
