-- The next marked block, by the words of the marks.
use Rattle.std.proofs.Common.{◌≡◌, ℕ, ◌<◌, ◌≤◌, true, false, List, Option, None, Some, IfSome, IfNone, ◌∙◌, arith}
use Rattle.aea_lattice.specs.declared.grid.Lattice.{Lattice}
use Rattle.aea_lattice.specs.Blocks.{blocks_count}
use Rattle.aea_view.specs.Bits.{is_bit, bits_of}
use Rattle.aea_view.specs.Marked.{Marked, AreClear, IsNextMarked}
use Rattle.aea_view.proofs.Packed.{bits-get}

-- the marks of a lattice that these words keep
abbrev pub kept_in : Lattice → List ℕ → Marked
kept_in l words = record { lattice = l; marks = bits_of (blocks_count l) words }

clear-by : (l : Lattice) (words : List ℕ) (from end : ℕ) → end ≤ blocks_count l → ((j : ℕ) → from ≤ j → j < end → is_bit words j ≡ false) → AreClear (kept_in l words) from end
clear-by l words from end within clear = λ j after below.
    let less : j < blocks_count l = omega arith in
    bits-get (blocks_count l) words j false less ∙ clear j after below

-- what was found in the words
pub next-found : (l : Lattice) (words : List ℕ) (n from : ℕ) (r : Option ℕ) → n ≡ blocks_count l
    → IfSome r (λ k. (from ≤ k) × (k < n)) → IfSome r (λ k. is_bit words k ≡ true)
    → IfSome r (λ k. (j : ℕ) → from ≤ j → j < k → is_bit words j ≡ false)
    → IfSome r (IsNextMarked (kept_in l words) from)
next-found l words n from None count inside set before = tt
next-found l words n from (Some k) count inside set before =
    let less : k < blocks_count l = omega (arith, inside.1) in
    record {
      later = inside.0;
      inside = less;
      marked = bits-get (blocks_count l) words k false less ∙ set;
      clear = clear-by l words from k (omega arith) before;
    }

-- and where nothing was
pub next-none : (l : Lattice) (words : List ℕ) (n from : ℕ) (r : Option ℕ) → n ≡ blocks_count l
    → IfNone r ((j : ℕ) → from ≤ j → j < n → is_bit words j ≡ false)
    → IfNone r (AreClear (kept_in l words) from (blocks_count l))
next-none l words n from None count none = clear-by l words from (blocks_count l) (omega arith) (λ j after below. none j after (omega arith))
next-none l words n from (Some k) count none = tt
