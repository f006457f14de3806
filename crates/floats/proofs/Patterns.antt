-- A pattern that is read is written again if it is no NaN's but the one, and only then.
use mathlib.Core.Path.{◌≡◌, refl, sym, ap, ◌∙◌}
use mathlib.Core.Logic.{⊎_elim}
use Prim.Native.Nat.{ℕ, ◌%◌, ◌^◌, ◌≤◌, ◌<◌}
use lib.Ieee.{nan, binary64, of_bits, to_bits}
use lib.Ieee.Bits.{to_bits-of_bits, nan_bits_is}
use Rattle.lists.proofs.Numbers.{le_or_lt}
use Rattle.floats.proofs.Fields.{nan_pattern, number_pattern, not_of}

nan-bits : to_bits binary64 nan ≡ 0x7ff8_0000_0000_0000
unfolding to_bits
nan-bits = refl

pub bits_back : (b : ℕ) → b < 2 ^ 64 → (0x7ff0_0000_0000_0000 < b % 2 ^ 63 → b ≡ 0x7ff8_0000_0000_0000) → to_bits binary64 (of_bits binary64 b) ≡ b
bits_back b h n = ⊎_elim
    (λ (g : b % 2 ^ 63 ≤ 0x7ff0_0000_0000_0000). to_bits-of_bits binary64 b h (not_of (sym (nan_bits_is binary64 b) ∙ number_pattern b g)))
    (λ (g : 0x7ff0_0000_0000_0000 < b % 2 ^ 63). ap (to_bits binary64) (nan_pattern b g) ∙ nan-bits ∙ sym (n g))
    (le_or_lt (b % 2 ^ 63) 0x7ff0_0000_0000_0000)

pub bits_only : (b : ℕ) → to_bits binary64 (of_bits binary64 b) ≡ b → 0x7ff0_0000_0000_0000 < b % 2 ^ 63 → b ≡ 0x7ff8_0000_0000_0000
bits_only b e g = sym e ∙ ap (to_bits binary64) (nan_pattern b g) ∙ nan-bits
