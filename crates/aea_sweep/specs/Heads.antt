-- The heads of words, packed into three words of 64 bits.
use Rattle.std.specs.Prelude.{ℕ, ◌-◌, Bool, List, cond, nat_lt, get_or}
use Rattle.aea_view.specs.Bits.{has_bit}
use Rattle.aea_sweep.specs.declared.heads.Heads.{Heads}

-- the bit of the place, which is below 192
abbrev pub has_head : Heads → ℕ → Bool
has_head heads t = cond (nat_lt t 64) (has_bit heads.low t) (cond (nat_lt t 128) (has_bit heads.middle (t - 64)) (has_bit heads.high (t - 128)))

-- no heads
abbrev pub no_heads : Heads
no_heads = record { low = 0; middle = 0; high = 0 }

-- the heads of each word
abbrev pub head_in : List Heads → ℕ → ℕ → Bool
head_in heads r t = has_head (get_or heads r no_heads) t
