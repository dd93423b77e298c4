-- The first block of a lattice that passes a test.
use Rattle.std.proofs.Common.{◌≡◌, ℕ, zero, suc, ◌+◌, ◌-◌, ◌*◌, ◌/◌, ◌%◌, ◌<◌, ◌≤◌, inl, inr, Bool, true, false, Some, None, length, get_or, arith, refl, sym, ◌∙◌, ap}
use Rattle.std.specs.Prelude.{nat_le, nat_lt, find, slice_get}
use Rattle.std.proofs.Math.Nat.{mul-le-mul_right}
use Rattle.std.proofs.lemmas.Nat.{div-add-mod', mod_below}
use Rattle.std.proofs.lemmas.Bool.{cases_lt}
use Rattle.std.proofs.lemmas.Bool.Decides.{nat_tests}
use Rattle.std.proofs.lemmas.List.Folds.{find_at}
use Rattle.std.proofs.lemmas.List.Sums.{position_or_len_is}
use Rattle.std.proofs.lemmas.Option.{slice_get_within, get_or_from_slice_get, slice_get_past}
use Rattle.aea_lattice.specs.declared.blocks.Class.{Class}
use Rattle.aea_lattice.specs.declared.blocks.Class.TheVariants.{Datum, Horiz, Right, Left}
use Rattle.aea_lattice.specs.declared.blocks.BlockId.{BlockId}
use Rattle.aea_lattice.specs.declared.grid.Lattice.{Lattice}
use Rattle.aea_lattice.specs.Blocks.{HasBlock, blocks_of, blocks_count, block_of, number_of, class_number}
use Rattle.aea_lattice.proofs.Numbers.{slice_get-blocks_of, length-blocks_of, one_to_three}
use Rattle.aea_lattice.proofs.Equations.{number_below}
use Rattle.aea_walk.specs.Missing.{is_missing, missing}

class_at : ℕ → Class
class_at zero = Datum
class_at (suc zero) = Horiz
class_at (suc (suc zero)) = Right
class_at (suc (suc (suc n))) = Left

class_at-number : (r : ℕ) → r ≤ 3 → class_number (class_at r) ≡ r
unfolding class_at
class_at-number zero le = refl
class_at-number (suc zero) le = refl
class_at-number (suc (suc zero)) le = refl
class_at-number (suc (suc (suc zero))) le = refl
class_at-number (suc (suc (suc (suc n)))) le = absurd (omega arith)

few : (l : Lattice) → l.alpha ≤ 3
few l = elim (one_to_three l) [ inl e ↦ omega arith | inr h ↦ elim h [ inl e ↦ omega arith | inr e ↦ omega arith ] ]

below_n : (q w r n k : ℕ) → q * w + r ≡ k → k < n * w → q < n
below_n q w r n k e lt =
    elim (cases_lt q n) [ inl h ↦ h | inr h ↦ absurd (omega (arith, mul-le-mul_right {m = n} {n = q} w h)) ]

-- each number below the count is that of a block
has_number : (l : Lattice) (k : ℕ) → k < blocks_count l → (b : BlockId) × HasBlock l b × (number_of l b ≡ k)
has_number l k lt =
    let w = 1 + l.alpha in
    let whole : k / w * w + k % w ≡ k = div-add-mod' k w in
    let least : k % w < 1 + l.alpha = mod_below k w (omega arith) in
    let three : l.alpha ≤ 3 = few l in
    let class : class_number (class_at (k % w)) ≡ k % w = class_at-number (k % w) (omega arith) in
    let node : k / w < l.n = below_n (k / w) w (k % w) l.n k whole lt in
    let back : k / w + 1 - 1 ≡ k / w = omega arith in (
      block_of (k / w + 1) (class_at (k % w)),
      record { first = omega arith; last = omega arith; used = omega arith },
      ap (λ q. q * w + class_number (class_at (k % w))) back ∙ ap (λ r. k / w * w + r) class ∙ whole,
    )

-- the block of a number is at its number
at_number : (l : Lattice) (b d : BlockId) → HasBlock l b → get_or (blocks_of l) (number_of l b) d ≡ b
at_number l b d has = get_or_from_slice_get (blocks_of l) (number_of l b) b d (slice_get-blocks_of l b has)

-- the first block that passes a test
pub find_first : (l : Lattice) (p : BlockId → Bool) (b : BlockId) → HasBlock l b → p b ≡ true → ((d : BlockId) → HasBlock l d → number_of l d < number_of l b → p d ≡ false)
    → find p (blocks_of l) ≡ Some b
find_first l p b has passes before =
    let inside : number_of l b < length (blocks_of l) = slice_get_within (blocks_of l) (number_of l b) b (slice_get-blocks_of l b has) in
    find_at p (blocks_of l)
    ∙ ap (slice_get (blocks_of l))
    (position_or_len_is p (blocks_of l) (number_of l b) b (omega arith)
    (λ k lt.
    let found = has_number l k (let e = number_below l b has in omega arith) in
    ap (λ j. p (get_or (blocks_of l) j b)) (sym found.2) ∙ ap p (at_number l found.0 b found.1) ∙ before found.0 found.1 (let e = found.2 in omega arith))
    (λ _. ap p (at_number l b b has) ∙ passes))
    ∙ slice_get-blocks_of l b has

-- where none passes, nothing is found
pub find_nothing : (l : Lattice) (p : BlockId → Bool) → ((d : BlockId) → HasBlock l d → p d ≡ false) → find p (blocks_of l) ≡ None
find_nothing l p none =
    let all : length (blocks_of l) ≡ blocks_count l = length-blocks_of l in
    find_at p (blocks_of l)
    ∙ ap (slice_get (blocks_of l))
    (position_or_len_is p (blocks_of l) (length (blocks_of l)) (block_of 1 Datum) (omega arith)
    (λ k lt.
    let found = has_number l k (omega arith) in
    ap (λ j. p (get_or (blocks_of l) j (block_of 1 Datum))) (sym found.2) ∙ ap p (at_number l found.0 (block_of 1 Datum) found.1) ∙ none found.0 found.1)
    (λ lt. absurd (omega arith)))
    ∙ slice_get_past (blocks_of l) (length (blocks_of l)) (omega arith)

-- ---- blocks that are missing

missing_here : (l : Lattice) (intact : BlockId → Bool) (least next : ℕ) (b : BlockId) → intact b ≡ false → least ≤ number_of l b → number_of l b < next → is_missing l intact least next b ≡ true
missing_here l intact least next b none low high =
    let e : nat_le least (number_of l b) ≡ true = grind (arith, nat_tests) in
    let f : nat_lt (number_of l b) next ≡ true = grind (arith, nat_tests) in
    rw (none, e, f)

no_below : (l : Lattice) (intact : BlockId → Bool) (least next : ℕ) (b : BlockId) (v : Bool) → intact b ≡ v → (least ≤ number_of l b → number_of l b < next → v ≡ true) → is_missing l intact least next b ≡ false
no_below l intact least next b true e marked = rw e
no_below l intact least next b false e marked =
    elim (cases_lt (number_of l b) least) [
      | inl lt ↦ (let f : nat_le least (number_of l b) ≡ false = grind (arith, nat_tests) in rw (e, f))
      | inr le ↦
          elim (cases_lt (number_of l b) next) [
            | inl lt ↦ absurd (let h : false ≡ true = marked le lt in let i : false ≡ true → ⊥ = (λ x. cc) in i h)
            | inr ge ↦
                let f : nat_le least (number_of l b) ≡ true = grind (arith, nat_tests) in
                let g : nat_lt (number_of l b) next ≡ false = grind (arith, nat_tests) in rw (e, f, g)
          ]
    ]

-- where those before are marked, an unmarked one is the least that is missing
pub found_missing : (l : Lattice) (intact : BlockId → Bool) (least next : ℕ) (b : BlockId) → HasBlock l b → intact b ≡ false → least ≤ number_of l b → number_of l b < next
    → ((d : BlockId) → HasBlock l d → least ≤ number_of l d → number_of l d < number_of l b → intact d ≡ true) → missing l intact least next ≡ Some b
found_missing l intact least next b has none low high before =
    find_first l (is_missing l intact least next) b has (missing_here l intact least next b none low high)
    (λ d has_d lt. no_below l intact least next d (intact d) refl (λ le _. before d has_d le lt))

-- where all are marked, none is missing
pub nothing_missing : (l : Lattice) (intact : BlockId → Bool) (least next : ℕ) → ((d : BlockId) → HasBlock l d → least ≤ number_of l d → number_of l d < next → intact d ≡ true) → missing l intact least next ≡ None
nothing_missing l intact least next all =
    find_nothing l (is_missing l intact least next) (λ d has_d. no_below l intact least next d (intact d) refl (λ le lt. all d has_d le lt))
