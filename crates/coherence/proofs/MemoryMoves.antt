-- What a move of a memory blade has to keep: what it does not touch stays true.
use Rattle.std.proofs.Common.{ℕ, List}
use Rattle.page_image.specs.PageImage.{PageImageView}
use Rattle.wire_msg.specs.declared.msgs.Msg.{Msg}
use Rattle.coherence.specs.World.{World}
use Rattle.coherence.specs.Facts.{IsCoherent, AreFetched, AreTos, AreWritten, AreFroms}

-- the rack with other links of memory blades, and other images
abbrev pub memories_changed : (ℕ → List Msg) → (ℕ → List Msg) → (ℕ → ℕ → PageImageView) → World → World
memories_changed tos froms images w = record w { tos = tos; froms = froms; images = images }

pub memory_moved : (tos froms : ℕ → List Msg) (images : ℕ → ℕ → PageImageView) (w : World) → IsCoherent w → AreFetched (memories_changed tos froms images w)
    → ((memory : ℕ) → AreTos (memories_changed tos froms images w) memory (images memory) (tos memory)) → AreWritten (memories_changed tos froms images w)
    → ((memory : ℕ) → AreFroms (memories_changed tos froms images w) memory (froms memory)) → IsCoherent (memories_changed tos froms images w)
memory_moved tos froms images w safe fetched read written told =
    record { frames = safe.frames; ups = safe.ups; downs = safe.downs; answered = safe.answered; wanted = safe.wanted; fetched = fetched; called = safe.called; fetches = safe.fetches; numbered = safe.numbered; blocks = safe.blocks; targets = safe.targets; tos = read; written = written; froms = told; placed = record { apart = safe.placed.apart; placed = safe.placed.placed } }
