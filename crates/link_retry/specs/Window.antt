-- A window of selective repeat: a number, and which of the 64 numbers behind it are in it. The receiver has one from the
-- message that it expects, of those that came early; each acknowledgement carries it as it was then, as a number and a
-- mask; and the sender has one from the first message that it keeps, of those that need no sending again.
use Rattle.std.specs.Prelude.{◌≡◌, ℕ, ◌+◌, ◌-◌, ◌<◌, ◌≤◌, max, ◌==◌, Bool, true, false, ◌&&◌, ◌||◌, not, nat_lt, List, ◌++◌, length, filter}
use Rattle.std.specs.List.{range_with_len}
use Rattle.std.specs.Int.{bit_at}
use Rattle.link_retry.specs.declared.windows.Window.{Window}

-- whether a number is in the window: bit j of the mask, from the lowest, is that of base + 1 + j
abbrev pub has : Window → ℕ → Bool
has window number = nat_lt window.base number && bit_at window.mask (number - window.base - 1) == 1

-- the window of nothing, from 0 on
abbrev pub new_window : Window
new_window = record { base = 0; mask = 0 }

-- the number passes that of the window by 1 to 64
abbrev pub is_within : Window → ℕ → Bool
is_within window number = nat_lt window.base number && nat_lt number (window.base + 65)

-- a number was put into the window where it lies within; any other was not
pub record Keeps (old : Window) (number : ℕ) (new : Window) : Type 0 where
  pub base : new.base ≡ old.base
  pub numbers : (n : ℕ) → has new n ≡ (has old n || (n == number && is_within old number))

-- the window passed the number that it stood at, and all in it that follow without a gap
pub record Passes (old new : Window) : Type 0 where
  pub later : old.base < new.base
  pub come : (n : ℕ) → old.base < n → n < new.base → has old n ≡ true
  pub gap : has old new.base ≡ false
  pub numbers : (n : ℕ) → has new n ≡ (nat_lt new.base n && has old n)

-- the window stands at the later of the two numbers, and has what either had behind it
pub record Joins (old other new : Window) : Type 0 where
  pub base : new.base ≡ max old.base other.base
  pub numbers : (n : ℕ) → has new n ≡ (nat_lt new.base n && (has old n || has other n))

-- of so many numbers from the window's own on, those that are not in it, in order
abbrev pub gaps : Window → ℕ → List ℕ
gaps window count = filter (λ number. not (has window number)) (range_with_len window.base count)

-- some of them were put at the end of a wire, at most to 64 frames
pub record PutsGaps (old : List ℕ) (window : Window) (count : ℕ) (new : List ℕ) : Type 0 where
  pub passed : ℕ
  pub within : passed ≤ count
  pub room : length new ≤ 64
  pub put : new ≡ old ++ gaps window passed
