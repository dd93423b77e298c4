use Rattle.std.proofs.Common.{◌≡◌, ◌≤◌, ◌⊎◌, not, ◌&&◌, inl, inr, sym, ◌∙◌, ap, arith}
use Rattle.std.proofs.lemmas.Bool.{lt-leb, le-leb, eq-eqb, ne_eqb}
use Rattle.aea_lattice.specs.declared.blocks.Class.{Class}
use Rattle.aea_lattice.specs.declared.blocks.Class.TheVariants.{Horiz, Right, Left}
use Rattle.aea_lattice.specs.Blocks.{class_number}
use Rattle.aea_lattice.specs.Fences.{is_parted}
use Rattle.aea_lattice.specs.Strands.{strand_of, is_on}
use Rattle.aea_walk.proofs.Along.{codeword-one}
use Rattle.aea_walk.proofs.codewords.reaches.Goals as goal

parity : (c : Class) → (c ≡ Horiz) ⊎ ((c ≡ Right) ⊎ (c ≡ Left)) → 1 ≤ class_number c
parity c one = elim one [
  | inl e ↦ (let h : class_number c ≡ 1 = ap class_number e in omega arith)
  | inr two ↦ elim two [
    | inl e ↦ (let h : class_number c ≡ 2 = ap class_number e in omega arith)
    | inr e ↦ (let h : class_number c ≡ 3 = ap class_number e in omega arith)
  ]
]

pub returns-then-strand : goal.returns-then-strand
returns-then-strand c =
    let l = c.args.lattice.now in
    let k = c.args.node in
    let x = c.args.block.node in
    let class = c.args.block.class in
    ap not c.parts.ensures
    ∙ sym (codeword-one l class k x c.requires.node.first (parity class c.in-Horiz.is)
    ∙ ap (λ b. b && is_on l class (strand_of l class x) x k) (le-leb k x c.if-node-block.true)
    ∙ ap (λ b. b && not (is_parted l.fences k x))
    (eq-eqb (strand_of l class k) (strand_of l class x) (sym c.strand.ensures ∙ c.if-strand.true ∙ c.strand-then-node-block.ensures)))

pub returns-else-strand : goal.returns-else-strand
returns-else-strand c =
    let l = c.args.lattice.now in
    let k = c.args.node in
    let x = c.args.block.node in
    let class = c.args.block.class in
    ne_eqb c.strand.result c.strand-then-node-block.result c.if-strand.false
    ∙ sym (codeword-one l class k x c.requires.node.first (parity class c.in-Horiz.is)
    ∙ ap (λ b. b && is_on l class (strand_of l class x) x k) (le-leb k x c.if-node-block.true)
    ∙ ap (λ b. b && not (is_parted l.fences k x))
    (ne_eqb (strand_of l class k) (strand_of l class x) (λ e. c.if-strand.false (c.strand.ensures ∙ e ∙ sym c.strand-then-node-block.ensures))))

pub returns-else-node-block : goal.returns-else-node-block
returns-else-node-block c =
    let l = c.args.lattice.now in
    let k = c.args.node in
    let x = c.args.block.node in
    let class = c.args.block.class in
    lt-leb k x c.if-node-block.false
    ∙ sym (codeword-one l class k x c.requires.node.first (parity class c.in-Horiz.is)
    ∙ ap (λ b. b && is_on l class (strand_of l class x) x k) (lt-leb k x c.if-node-block.false))
