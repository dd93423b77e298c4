-- Blocks and equations in order: the place of each, and that those of the lists are those of the lattice.
use Rattle.std.proofs.Common.{◌≡◌, ℕ, zero, suc, ◌+◌, ◌-◌, ◌*◌, ◌<◌, ◌≤◌, Bool, true, false, nat_le, List, [], ◌∷◌, ◌++◌, map, filter, length, get_or, take, All, refl, sym, ◌∙◌, subst, arith}
use Rattle.std.proofs.Math.Nat.{mul-le-mul_right}
use Rattle.std.proofs.lemmas.Bool.Decides.{nat_tests}
use Rattle.std.proofs.lemmas.List.{take_all}
use Rattle.std.proofs.lemmas.Option.{get_or_from_slice_get}
use Rattle.aea_lattice.specs.declared.blocks.Class.{Class}
use Rattle.aea_lattice.specs.declared.blocks.Class.TheVariants.{Datum, Horiz, Right, Left}
use Rattle.aea_lattice.specs.declared.blocks.BlockId.{BlockId}
use Rattle.aea_lattice.specs.declared.blocks.EqId.{EqId}
use Rattle.aea_lattice.specs.declared.grid.Lattice.{Lattice}
use Rattle.aea_lattice.specs.Blocks.{class_number, HasBlock, number_of, blocks_count, blocks_of}
use Rattle.aea_lattice.specs.Equations.{HasEquation, equation_of, equations_to, equations_of}
use Rattle.aea_lattice.proofs.Equations.{number_below}
use Rattle.aea_lattice.proofs.Numbers.{length-blocks_of, slice_get-blocks_of}
use Rattle.aea_plain.proofs.Rows.{IsRows, length-rows, get_or-rows, filter-take_kept, filter-take_dropped}

few_classes : (l : Lattice) → l.alpha ≤ 3
few_classes l = let h = l.in_profile in grind (arith, nat_tests)

-- the parity classes up to a number
abbrev classes_to : ℕ → List Class
classes_to a = filter (λ c. nat_le (class_number c) a) (Horiz ∷ Right ∷ Left ∷ [])

-- ---- the blocks

-- each block is at its number
pub get_or-blocks_of : (l : Lattice) (b d : BlockId) → HasBlock l b → get_or (blocks_of l) (number_of l b) d ≡ b
get_or-blocks_of l b d has = get_or_from_slice_get (blocks_of l) (number_of l b) b d (slice_get-blocks_of l b has)

-- the number of a block of the lattice is a place within the list of its blocks
pub inside_blocks : (l : Lattice) (b : BlockId) → HasBlock l b → number_of l b < length (blocks_of l)
inside_blocks l b has = subst (λ n. number_of l b < n) (sym (length-blocks_of l)) (number_below l b has)

-- the step of a loop over the blocks in number order that keeps those that pass a test
pub filter-block_kept : (l : Lattice) (p : BlockId → Bool) (b : BlockId) (k : ℕ) → HasBlock l b → number_of l b ≡ k → p b ≡ true
    → filter p (take (k + 1) (blocks_of l)) ≡ filter p (take k (blocks_of l)) ++ b ∷ []
filter-block_kept l p b k has at passes =
    subst (λ n. filter p (take (n + 1) (blocks_of l)) ≡ filter p (take n (blocks_of l)) ++ b ∷ []) at
    (filter-take_kept p (blocks_of l) (number_of l b) b (inside_blocks l b has) (get_or-blocks_of l b b has) passes)

-- the next block in number order adds nothing to those that pass a test, where it fails
pub filter-block_dropped : (l : Lattice) (p : BlockId → Bool) (b : BlockId) (k : ℕ) → HasBlock l b → number_of l b ≡ k → p b ≡ false
    → filter p (take (k + 1) (blocks_of l)) ≡ filter p (take k (blocks_of l))
filter-block_dropped l p b k has at fails =
    subst (λ n. filter p (take (n + 1) (blocks_of l)) ≡ filter p (take n (blocks_of l))) at
    (filter-take_dropped p (blocks_of l) (number_of l b) b (inside_blocks l b has) (get_or-blocks_of l b b has) fails)

-- as many of the blocks as the lattice has, or more, are all of them
pub take-blocks_of : (l : Lattice) (k : ℕ) → blocks_count l ≤ k → take k (blocks_of l) ≡ blocks_of l
take-blocks_of l k all = take_all k (blocks_of l) (subst (λ n. n ≤ k) (sym (length-blocks_of l)) all)

-- ---- the equations of a node

abbrev equations_at : ℕ → ℕ → List EqId
equations_at a i = map (equation_of i) (classes_to a)

length-equations_at : (a i : ℕ) → a ≤ 3 → length (equations_at a i) ≡ a
length-equations_at zero i few = refl
length-equations_at (suc zero) i few = refl
length-equations_at (suc (suc zero)) i few = refl
length-equations_at (suc (suc (suc zero))) i few = refl
length-equations_at (suc (suc (suc (suc a)))) i few = absurd (omega arith)

get_or-equations_at : (a i : ℕ) (c : Class) (d : EqId) → a ≤ 3 → 1 ≤ class_number c → class_number c ≤ a
    → get_or (equations_at a i) (class_number c - 1) d ≡ equation_of i c
get_or-equations_at a i Datum d few parity used = absurd (omega arith)
get_or-equations_at zero i Horiz d few parity used = absurd (omega arith)
get_or-equations_at zero i Right d few parity used = absurd (omega arith)
get_or-equations_at zero i Left d few parity used = absurd (omega arith)
get_or-equations_at (suc zero) i Horiz d few parity used = refl
get_or-equations_at (suc zero) i Right d few parity used = absurd (omega arith)
get_or-equations_at (suc zero) i Left d few parity used = absurd (omega arith)
get_or-equations_at (suc (suc zero)) i Horiz d few parity used = refl
get_or-equations_at (suc (suc zero)) i Right d few parity used = refl
get_or-equations_at (suc (suc zero)) i Left d few parity used = absurd (omega arith)
get_or-equations_at (suc (suc (suc zero))) i Horiz d few parity used = refl
get_or-equations_at (suc (suc (suc zero))) i Right d few parity used = refl
get_or-equations_at (suc (suc (suc zero))) i Left d few parity used = refl
get_or-equations_at (suc (suc (suc (suc a)))) i c d few parity used = absurd (omega arith)

equations_are_rows : (l : Lattice) → IsRows EqId (equations_to l) (equations_at l.alpha) l.alpha
equations_are_rows l = record {
  none = refl;
  more = λ i. refl;
  wide = λ i. length-equations_at l.alpha i (few_classes l);
}

equation_place : (l : Lattice) (e : EqId) → HasEquation l e
    → (e.node - 1) * l.alpha + (class_number e.class - 1) < length (equations_of l)
equation_place l e has =
    let long : length (equations_of l) ≡ l.n * l.alpha =
    length-rows (equations_to l) (equations_at l.alpha) l.alpha (equations_are_rows l) l.n in
    let i : e.node - 1 + 1 ≤ l.n = omega (arith, has.node.first, has.node.last) in
    let m : (e.node - 1 + 1) * l.alpha ≤ l.n * l.alpha = mul-le-mul_right l.alpha i in
    omega (arith, has.class.parity, has.class.used)

-- what holds of each equation of the list holds of each equation of the lattice
pub All-equations_of : (P : EqId → Type 0) (l : Lattice) → All P (equations_of l) → (e : EqId) → HasEquation l e → P e
All-equations_of P l all e has =
    let rows = equations_are_rows l in
    let k : ℕ = (e.node - 1) * l.alpha + (class_number e.class - 1) in
    let at : get_or (equations_of l) k e ≡ e =
    get_or-rows (equations_to l) (equations_at l.alpha) l.alpha rows l.n e.node (class_number e.class - 1) e
    has.node.first has.node.last (omega (arith, has.class.parity, has.class.used))
    ∙ get_or-equations_at l.alpha e.node e.class e (few_classes l) has.class.parity has.class.used in
    subst P at (all k e (equation_place l e has))
