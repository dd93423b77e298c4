-- The block at a number, and the number of the block there.
use Rattle.std.proofs.Common.{◌≡◌, ℕ, zero, suc, ◌+◌, ◌-◌, ◌*◌, ◌/◌, ◌%◌, ◌<◌, ◌≤◌, List, [], ◌∷◌, get_or, length, refl, sym, ◌∙◌, ap, arith, inl, inr}
use Rattle.std.specs.Prelude.{unwrap_or}
use Rattle.std.proofs.Math.Nat.{mul-le-mul_right, mul_comm}
use Rattle.std.proofs.lemmas.Bool.{cases_lt}
use Rattle.std.proofs.lemmas.Option.{unwrap_or-slice_get}
use Rattle.aea_lattice.specs.declared.blocks.Class.{Class}
use Rattle.aea_lattice.specs.declared.blocks.Class.TheVariants.{Datum, Horiz, Right, Left}
use Rattle.aea_lattice.specs.declared.blocks.BlockId.{BlockId}
use Rattle.aea_lattice.specs.declared.grid.Lattice.{Lattice}
use Rattle.aea_lattice.specs.Blocks.{class_number, block_of, block_at, HasBlock, number_of, blocks_count, blocks_of}
use Rattle.aea_lattice.proofs.Numbers.{one_to_three, length-blocks_of, slice_get-blocks_of}
use Rattle.aea_lattice.proofs.Odd.{Each}
use Rattle.aea_lattice.proofs.Once.{each-blocks_of}

-- at the number of a block of the lattice is that block
pub block_at-number : (l : Lattice) (b : BlockId) → HasBlock l b → block_at l (number_of l b) ≡ b
block_at-number l b h =
    sym (unwrap_or-slice_get (blocks_of l) (number_of l b) (block_of 0 Datum))
    ∙ ap (λ o. unwrap_or o (block_of 0 Datum)) (slice_get-blocks_of l b h)

-- each place of a list has the property
pub Each-get_or : {A : Type 0} → (P : A → Type 0) (xs : List A) (k : ℕ) (d : A) → Each P xs → k < length xs → P (get_or xs k d)
Each-get_or P [] k d each less = absurd (omega arith)
Each-get_or P (x ∷ xs) zero d each less = each.0
Each-get_or P (x ∷ xs) (suc k) d each less = Each-get_or P xs k d each.1 (omega arith)

-- at each number below the count of blocks is a block of the lattice
pub block_at-inside : (l : Lattice) (k : ℕ) → k < blocks_count l → HasBlock l (block_at l k)
block_at-inside l k less = Each-get_or (HasBlock l) (blocks_of l) k (block_of 0 Datum) (each-blocks_of l) (omega (arith, length-blocks_of l))

-- the class of this number
abbrev class_at : ℕ → Class
class_at zero = Datum
class_at (suc zero) = Horiz
class_at (suc (suc zero)) = Right
class_at (suc (suc (suc k))) = Left

class_number-class_at : (k : ℕ) → k ≤ 3 → class_number (class_at k) ≡ k
class_number-class_at zero less = refl
class_number-class_at (suc zero) less = refl
class_number-class_at (suc (suc zero)) less = refl
class_number-class_at (suc (suc (suc zero))) less = refl
class_number-class_at (suc (suc (suc (suc k)))) less = absurd (omega arith)

row_below : (w k n : ℕ) → 0 < w → k < n * w → k / w < n
row_below w k n some less =
    elim (cases_lt (k / w) n) [
      | inl h ↦ h
      | inr h ↦ let m : n * w ≤ (k / w) * w = mul-le-mul_right w h in let split : w * (k / w) + k % w ≡ k = omega arith in absurd (omega arith)
    ]

-- the block that has this number
numbered : Lattice → ℕ → BlockId
numbered l k = block_of (k / (1 + l.alpha) + 1) (class_at (k % (1 + l.alpha)))

most_3 : (l : Lattice) → l.alpha ≤ 3
most_3 l = elim (one_to_three l) [ inl e ↦ omega arith | inr r ↦ elim r [ inl e ↦ omega arith | inr e ↦ omega arith ] ]

class_numbered : (l : Lattice) (k : ℕ) → class_number (class_at (k % (1 + l.alpha))) ≡ k % (1 + l.alpha)
class_numbered l k = class_number-class_at (k % (1 + l.alpha)) (let most : l.alpha ≤ 3 = most_3 l in omega arith)

numbered-inside : (l : Lattice) (k : ℕ) → k < blocks_count l → HasBlock l (numbered l k)
numbered-inside l k less =
    unfold numbered in
    record {
      first = omega arith;
      last = (let below : k / (1 + l.alpha) < l.n = row_below (1 + l.alpha) k l.n (omega arith) less in omega arith);
      used = (let c = class_numbered l k in omega arith);
    }

numbered-number : (l : Lattice) (k : ℕ) → number_of l (numbered l k) ≡ k
numbered-number l k =
    unfold numbered in
    (let c = class_numbered l k in
    let split : (1 + l.alpha) * (k / (1 + l.alpha)) + k % (1 + l.alpha) ≡ k = omega arith in
    let back : k / (1 + l.alpha) + 1 - 1 ≡ k / (1 + l.alpha) = omega arith in
    let row : (k / (1 + l.alpha) + 1 - 1) * (1 + l.alpha) ≡ (1 + l.alpha) * (k / (1 + l.alpha)) = ap (λ j. j * (1 + l.alpha)) back ∙ mul_comm (k / (1 + l.alpha)) (1 + l.alpha) in
    omega arith)

-- the block at a number below the count of blocks has that number
pub number-block_at : (l : Lattice) (k : ℕ) → k < blocks_count l → number_of l (block_at l k) ≡ k
number-block_at l k less =
    ap (λ j. number_of l (block_at l j)) (sym (numbered-number l k))
    ∙ ap (number_of l) (block_at-number l (numbered l k) (numbered-inside l k less))
    ∙ numbered-number l k
