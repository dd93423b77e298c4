-- Equations and blocks that are in lists.
use Rattle.std.proofs.Common.{◌≡◌, ◌<◌, Bool, true, List, [], ◌∷◌, refl, sym, ◌∙◌, ap, inl, inr}
use Rattle.std.specs.List.{list_any}
use Rattle.std.proofs.lemmas.Bool.{cases_Bool, or_cases, or_left, or_right, eq-eqb, false≢true}
use Rattle.aea_lattice.specs.declared.blocks.BlockId.{BlockId}
use Rattle.aea_lattice.specs.declared.blocks.EqId.{EqId}
use Rattle.aea_lattice.specs.declared.grid.Lattice.{Lattice}
use Rattle.aea_lattice.specs.Blocks.{class_number, block_of, same_block, HasBlock, blocks_count}
use Rattle.aea_lattice.specs.Equations.{HasEquation, is_odd_count, equations_of}
use Rattle.aea_lattice.specs.Lists.{same_equation}
use Rattle.aea_lattice.specs.Parity.{differ}
use Rattle.aea_lattice.proofs.Equations.{number_below, same_block-equal}
use Rattle.aea_lattice.proofs.Odd.{odd-cons}
use Rattle.aea_lattice.proofs.Once.{equation_once, same_equation-equal}
use Rattle.aea_fates.specs.Sums.{output_number}
use Rattle.aea_fates.proofs.Kept.{IsSame}

-- the output of an equation of the lattice is a block of the lattice
pub output_inside : (l : Lattice) (e : EqId) → HasEquation l e → HasBlock l (block_of e.node e.class)
output_inside l e has = record { first = has.node.first; last = has.node.last; used = has.class.used }

-- the number of the output of an equation of the lattice is below the count of blocks
pub output_below : (l : Lattice) (e : EqId) → HasEquation l e → output_number l e < blocks_count l
output_below l e has = number_below l (block_of e.node e.class) (output_inside l e has)

-- the test for the same equation passes for an equation and itself
pub same_equation-refl : (e : EqId) → same_equation e e ≡ true
same_equation-refl e = rw (eq-eqb e.node e.node refl) (eq-eqb (class_number e.class) (class_number e.class) refl)

-- where a block that passes is in a list, some block of the list passes
pub any_has : (p : BlockId → Bool) (d : BlockId) (bs : List BlockId) → list_any (same_block d) bs ≡ true → p d ≡ true → list_any p bs ≡ true
any_has p d [] h passes = absurd (false≢true h)
any_has p d (b ∷ bs) h passes =
    elim (or_cases (same_block d b) (list_any (same_block d) bs) h) [
      | inl here ↦ or_left (p b) (list_any p bs) (sym (ap p (same_block-equal d b here)) ∙ passes)
      | inr there ↦ or_right (p b) (list_any p bs) (any_has p d bs there passes)
    ]

-- the test for the same equation finds each equation itself and no other
pub equations_same : IsSame same_equation
equations_same = record { itself = same_equation-refl; equal = same_equation-equal }

-- where an odd number of equations of a list passes, one of them does
any_from_odd : (p : EqId → Bool) (es : List EqId) → is_odd_count p es ≡ true → list_any p es ≡ true
any_from_odd p [] h = absurd (false≢true h)
any_from_odd p (e ∷ es) h =
    elim (cases_Bool (p e)) [
      | inl yes' ↦ or_left (p e) (list_any p es) yes'
      | inr no' ↦ or_right (p e) (list_any p es) (any_from_odd p es (sym (odd-cons p e es ∙ ap (λ b. differ b (is_odd_count p es)) no') ∙ h))
    ]

-- an equation of the lattice is in the list of its equations
pub equation_listed : (l : Lattice) (e : EqId) → HasEquation l e → list_any (same_equation e) (equations_of l) ≡ true
equation_listed l e has = any_from_odd (same_equation e) (equations_of l) (equation_once l e has)
