-- What the proofs of other crates may cite.
pub use Rattle.rv32_decode.proofs.Meaning.{again_answer, fits_answer, instr_of-word_of}
pub use Rattle.rv32_decode.proofs.Spelled.{word_of-below}
