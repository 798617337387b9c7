-- What the notes of a rack tell.
pub mod Accesses
pub mod AtOnce
pub mod Held
pub mod Hits
pub mod Places
