-- The blocks of the first site, and what determines them.
use Rattle.std.proofs.Common.{◌≡◌, ◌≢◌, inl, inr, ℕ, ◌+◌, ◌-◌, ◌*◌, ◌/◌, ◌%◌, ◌≤◌, ◌==◌, Bool, [], ◌∷◌, filter, None, sym, ◌∙◌, ap, subst, arith, eqb-true}
use Rattle.std.specs.Prelude.{IsTrue}
use Rattle.std.proofs.lemmas.Bool.{cases_Bool, eqb-false}
use Rattle.aea_lattice.specs.declared.blocks.Class.TheVariants.{Datum, Horiz}
use Rattle.aea_lattice.specs.declared.blocks.BlockId.{BlockId}
use Rattle.aea_lattice.specs.declared.grid.Lattice.{Lattice}
use Rattle.aea_lattice.specs.declared.shape.Shape.{Shape}
use Rattle.aea_lattice.specs.Blocks.{HasBlock, block_of, class_number}
use Rattle.aea_lattice.specs.Data.{Determines}
use Rattle.aea_lattice.specs.Shapes.{number_in}
use Rattle.aea_lattice.specs.Strands.{is_on, strand_of, next_to_last, previous}
use Rattle.aea_lattice.proofs.Equations.{block_equal, class_number-equal}
use Rattle.aea_lattice.proofs.Strands.{filter-snoc_true, filter-snoc_false}
use Rattle.aea_lattice.proofs.Sums.{value-begin}
use Rattle.aea_place.specs.Homes.{home_of}
use Rattle.aea_shelf.specs.Places.{home_file}
use Rattle.aea_rehearse.specs.Rehearsed.{IsRehearsalShape}

-- of the first sixteen numbers only 0 has its home on the first of ten sites
first_number : (k : ℕ) → k ≤ 15 → 1 + (k % 10 + k / 10) % 10 ≡ 1 → k ≡ 0
first_number k few home = omega (arith, few, home)

-- so the first datum is the only block of at most four nodes that is there
pub on_first_site : (shape : Shape) (b : BlockId) → IsRehearsalShape shape → 1 ≤ b.node → b.node ≤ 4 → class_number b.class ≤ shape.alpha → home_file shape b ≡ 1 → b ≡ block_of 1 Datum
on_first_site shape b is first last used home =
    let alpha = is.alpha in
    let k = number_in shape b in
    let number : k ≡ (b.node - 1) * 4 + class_number b.class = ap (λ (a : ℕ). (b.node - 1) * (1 + a) + class_number b.class) alpha in
    let site : 1 + (k % 10 + k / 10) % 10 ≡ 1 = ap (λ (m : ℕ). (home_of m k).site) (sym is.sites) ∙ home in
    let zero : k ≡ 0 = first_number k (omega (arith, number, first, last, used, alpha)) site in
    let node : b.node ≡ 1 = omega (arith, number, zero, first) in
    let class : class_number b.class ≡ 0 = omega (arith, number, zero, first) in
    block_equal b (block_of 1 Datum) node (class_number-equal b.class Datum class)

-- and it is there
pub datum_there : (shape : Shape) → IsRehearsalShape shape → home_file shape (block_of 1 Datum) ≡ 1
datum_there shape is =
    ap (λ (a : ℕ). (home_of shape.sites ((1 - 1) * (1 + a) + 0)).site) is.alpha ∙ ap (λ (m : ℕ). (home_of m 0).site) is.sites

-- the horizontal parity of the first node is not
parity_elsewhere : (shape : Shape) → IsRehearsalShape shape → home_file shape (block_of 1 Horiz) ≡ 1 → ⊥
parity_elsewhere shape is home =
    let there : home_file shape (block_of 1 Horiz) ≡ 2 =
    ap (λ (a : ℕ). (home_of shape.sites ((1 - 1) * (1 + a) + 1)).site) is.alpha ∙ ap (λ (m : ℕ). (home_of m 1).site) is.sites in
    absurd (omega (arith, home, there))

-- no node comes before the first
none_of_one : (p : ℕ → Bool) → next_to_last (filter p (1 ∷ [])) ≡ None
none_of_one p =
    elim (cases_Bool (p 1)) [
      | inl on ↦ ap next_to_last (filter-snoc_true p [] 1 on)
      | inr off ↦ ap next_to_last (filter-snoc_false p [] 1 off)
    ]

none_before : (l : Lattice) → previous l Horiz 1 ≡ None
none_before l = none_of_one (is_on l Horiz (strand_of l Horiz 1) 1)

-- all blocks of at most four nodes are determined by those that are not on the first site
pub all_determined : (shape : Shape) (l : Lattice) (known : BlockId → Bool) → IsRehearsalShape shape → l.alpha ≡ shape.alpha → 1 ≤ l.n → l.n ≤ 4
    → ((b : BlockId) → HasBlock l b → home_file shape b ≢ 1 → IsTrue (known b)) → (b : BlockId) → HasBlock l b → Determines l known b
all_determined shape l known is alpha some few elsewhere b has =
    let three = is.alpha in
    elim (cases_Bool (home_file shape b == 1)) [
      | inl here ↦
          let used = has.used in
          let last = has.last in
          let same : b ≡ block_of 1 Datum = on_first_site shape b is has.first (omega (arith, last, few)) (omega (arith, used, alpha)) (eqb-true (home_file shape b) 1 here) in
          let parity : HasBlock l (block_of 1 Horiz) = record { first = omega arith; last = some; used = omega (arith, alpha, three) } in
          subst (Determines l known) (sym same)
          (λ w xs ys is_xs is_ys agree.
          sym (value-begin l w xs 1 Horiz (omega arith) is_xs (omega arith) (none_before l))
          ∙ agree (block_of 1 Horiz) parity (elsewhere (block_of 1 Horiz) parity (parity_elsewhere shape is))
          ∙ value-begin l w ys 1 Horiz (omega arith) is_ys (omega arith) (none_before l))
      | inr there ↦ λ w xs ys is_xs is_ys agree. agree b has (elsewhere b has (eqb-false (home_file shape b) 1 there))
    ]
