-- Texts and the documents that they spell.
use Rattle.std.proofs.Common.{◌≡◌, ℕ, Bool, true, false, cond, List, ap, refl, None}
use Rattle.std.specs.Str.{IsUtf8, is_utf8}
use Rattle.std.proofs.lemmas.Str.{is_utf8-from_IsUtf8, IsUtf8-from_is_utf8}
use Rattle.toml.specs.Parse.{parse_document}
use Rattle.rack_file.specs.Racks.{document_of}

pub document_of-text : (bytes : List ℕ) → IsUtf8 bytes → document_of bytes ≡ parse_document bytes
document_of-text bytes text = ap (λ b. cond b (parse_document bytes) None) (is_utf8-from_IsUtf8 bytes text)

no_text : (bytes : List ℕ) (b : Bool) → is_utf8 bytes ≡ b → (IsUtf8 bytes → ⊥) → document_of bytes ≡ None
no_text bytes true e h = absurd (h (IsUtf8-from_is_utf8 bytes e))
no_text bytes false e h = ap (λ b. cond b (parse_document bytes) None) e

pub document_of-no_text : (bytes : List ℕ) → (IsUtf8 bytes → ⊥) → document_of bytes ≡ None
document_of-no_text bytes h = no_text bytes (is_utf8 bytes) refl h
