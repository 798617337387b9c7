-- Bytes and words as hexadecimal text.
use Rattle.std.specs.Prelude.{ℕ, ◌+◌, ◌/◌, ◌%◌, ◌^◌, nat_lt, List, [], ◌∷◌, ◌++◌, if◌then◌else◌}

-- one lower-case hexadecimal digit
abbrev pub hex_digit : ℕ → ℕ
hex_digit n = if nat_lt n 10 then 48 + n else 87 + n

-- a byte in two hexadecimal digits
abbrev pub hex2 : ℕ → List ℕ
hex2 n = hex_digit (n / 16) ∷ hex_digit (n % 16) ∷ []

-- a word in eight hexadecimal digits
unfoldable pub hex8 : ℕ → List ℕ
hex8 n = hex2 (n / 2 ^ 24) ++ hex2 (n / 2 ^ 16 % 256) ++ hex2 (n / 2 ^ 8 % 256) ++ hex2 (n % 256)
