-- The block that is at a number.
use Rattle.std.proofs.Common.{◌≡◌, ℕ, zero, suc, ◌+◌, ◌-◌, ◌*◌, ◌/◌, ◌%◌, ◌^◌, ◌<◌, ◌≤◌, inl, inr, Some, Option, refl, sym, ◌∙◌, ap, subst, arith}
use Rattle.std.specs.Prelude.{slice_get}
use Rattle.std.proofs.Math.Nat.{mod-lt, div-lt_iff_lt-mul, div-mul-le_self, mod-eq-sub-div-mul}
use Rattle.aea_lattice.specs.declared.blocks.BlockId.{BlockId}
use Rattle.aea_lattice.specs.declared.blocks.Class.{Class}
use Rattle.aea_lattice.specs.declared.blocks.Class.TheVariants.{Datum, Horiz, Right, Left}
use Rattle.aea_lattice.specs.declared.grid.Lattice.{Lattice}
use Rattle.aea_lattice.specs.Blocks.{HasBlock, class_number, block_of, number_of, blocks_count, blocks_of}
use Rattle.aea_lattice.proofs.Numbers.{one_to_three, slice_get-blocks_of}

class_at : ℕ → Class
class_at zero = Datum
class_at (suc zero) = Horiz
class_at (suc (suc zero)) = Right
class_at (suc (suc (suc place))) = Left

class_at_number : (place : ℕ) → place < 4 → class_number (class_at place) ≡ place
unfolding class_at
class_at_number zero less = refl
class_at_number (suc zero) less = refl
class_at_number (suc (suc zero)) less = refl
class_at_number (suc (suc (suc zero))) less = refl
class_at_number (suc (suc (suc (suc place)))) less = absurd (omega arith)

most_classes : (l : Lattice) → l.alpha ≤ 3
most_classes l = elim (one_to_three l) [ inl e ↦ omega arith | inr more ↦ elim more [ inl e ↦ omega arith | inr e ↦ omega arith ] ]

-- a lattice has fewer than 2^23 blocks
pub few_blocks : (l : Lattice) → blocks_count l < 2 ^ 23
few_blocks l =
    let range = l.in_range in
    elim (one_to_three l) [
      | inl e ↦ rw e (omega arith)
      | inr more ↦ elim more [ inl e ↦ rw e (omega arith) | inr e ↦ rw e (omega arith) ]
    ]

-- each number below their count is that of a block
numbered : (l : Lattice) (j : ℕ) → j < blocks_count l → (b : BlockId) × HasBlock l b × (number_of l b ≡ j)
numbered l j less =
    let wide = 1 + l.alpha in
    let row = j / wide in
    let place = j % wide in
    let some : 0 < wide = omega arith in
    let within : place < wide = mod-lt j some in
    let most = most_classes l in
    let class : class_number (class_at place) ≡ place = class_at_number place (omega arith) in
    let last : row < l.n = (div-lt_iff_lt-mul some).1 less in
    let node : row + 1 - 1 ≡ row = omega arith in
    let whole : row * wide + place ≡ j = omega (arith, mod-eq-sub-div-mul j wide, div-mul-le_self j wide) in (
      block_of (row + 1) (class_at place),
      record { first = omega arith; last = omega arith; used = omega arith },
      ap (λ i. i * wide + class_number (class_at place)) node ∙ ap (λ k. row * wide + k) class ∙ whole,
    )

same_item : {X : Type 0} → (r : Option X) (x y : X) → r ≡ Some x → r ≡ Some y → x ≡ y
same_item r x y one other = let e : Some x ≡ Some y = sym one ∙ other in cc

-- a block of the lattice that is at this place has the place as its number
pub record IsAt (l : Lattice) (j : ℕ) (x : BlockId) : Type 0 where
  pub block : HasBlock l x
  pub number : number_of l x ≡ j

pub is-at : (l : Lattice) (j : ℕ) (x : BlockId) → j < blocks_count l → slice_get (blocks_of l) j ≡ Some x → IsAt l j x
is-at l j x less here =
    let b = numbered l j less in
    let place : slice_get (blocks_of l) j ≡ Some b.0 = ap (slice_get (blocks_of l)) (sym b.2) ∙ slice_get-blocks_of l b.0 b.1 in
    subst (IsAt l j) (same_item (slice_get (blocks_of l) j) b.0 x place here) (record { block = b.1; number = b.2 })
