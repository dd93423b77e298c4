-- Numbers after spaces.
use Rattle.std.proofs.Common.{◌≡◌, ℕ, ◌<◌, ◌^◌, List, ◌++◌, drop, codes, decimal, arith, sym, ◌∙◌, ap}
use Rattle.aea_reader.proofs.Cuts.{first_same, decimal-free}
use Rattle.aea_reader.specs.Words.{IsFree, Starts, spaced}

-- what is cut after a space are the digits of the number there
pub cut_spaced : (text inner word more : List ℕ) (n : ℕ) (rest : List ℕ) → text ≡ codes " " ++ inner → inner ≡ word ++ more → IsFree 32 word → Starts 32 more
    → n < 2 ^ 32 → Starts 32 rest → text ≡ spaced n rest → (word ≡ decimal n) × (more ≡ rest)
cut_spaced text inner word more n rest one two free starts small begins e =
    let same : word ++ more ≡ decimal n ++ rest = sym two ∙ ap (drop 1) (sym one ∙ e) in
    first_same 32 word (decimal n) more rest free (decimal-free 32 n (omega arith) (omega arith)) starts begins same
