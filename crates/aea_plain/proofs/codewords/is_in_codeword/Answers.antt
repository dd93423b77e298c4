use Rattle.std.proofs.Common.{◌≡◌, ◌≤◌, ℕ, Bool, false, not, ◌-◌, sym, ◌∙◌, ap, arith}
use denote.Enum.Bare.{sameb}
use Rattle.aea_lattice.specs.contracts.blocks.Class.{the_type}
use Rattle.aea_lattice.specs.Lists.{has_node}
use Rattle.aea_lattice.specs.declared.blocks.Class.{Class}
use Rattle.aea_lattice.specs.declared.blocks.Class.TheVariants.{Datum, Horiz, Right, Left}
use Rattle.aea_lattice.specs.Blocks.{class_number}
use Rattle.aea_lattice.specs.Strands.{strand_of, is_on, nodes_on}
use Rattle.aea_lattice.specs.Equations.{is_odd_count}
use Rattle.aea_lattice.proofs.Codewords.{codeword-parity}
use Rattle.aea_plain.proofs.Scans.{odd-node_member, odd-node_other, odd-node_off}
use Rattle.aea_plain.proofs.codewords.is_in_codeword.Goals as goal
use Rattle.aea_plain.proofs.codewords.is_in_codeword.Goals.{then-is_on+then-has_node, else-is_on, else-is_on-via-then-is_on+else-has_node, else-is_on-via-else-is_on}

not_datum : (c : Class) → false ≡ sameb the_type c Datum → 1 ≤ class_number c
not_datum Datum h = absurd (cc)
not_datum Horiz h = omega arith
not_datum Right h = omega arith
not_datum Left h = omega arith

pub loop-k-preserved : goal.loop-k-preserved
loop-k-preserved c =
    let l = c.args.lattice.now in
    let p : ℕ → Bool = is_on l c.args.b.class (strand_of l c.args.b.class c.args.b.node) c.args.b.node in
    let f : ℕ → Bool = has_node c.args.nodes.now in
    let same : p c.loop-k.k ≡ c.is_on.result = sym (ap (λ s. is_on l c.args.b.class s c.args.b.node c.loop-k.k) c.strand-strand.ensures) ∙ sym c.is_on.ensures in
    elim c.if-is_on.branch [
      | then-is_on+then-has_node w ↦
          w.is_odd-is
          ∙ ap not c.loop-k.invariant
          ∙ sym (odd-node_member p f c.loop-k.k (omega arith) (same ∙ w.if-is_on.true) (sym w.has_node-then-is_on.ensures ∙ w.if-has_node.true))
      | else-is_on w ↦
          elim w.else-is_on.branch [
            | else-is_on-via-then-is_on+else-has_node v ↦
                w.is_odd-is
                ∙ c.loop-k.invariant
                ∙ sym (odd-node_other p f c.loop-k.k (omega arith) (same ∙ v.if-is_on.true) (sym v.has_node-then-is_on.ensures ∙ v.if-has_node.false))
            | else-is_on-via-else-is_on v ↦
                w.is_odd-is
                ∙ c.loop-k.invariant
                ∙ sym (odd-node_off p f c.loop-k.k (omega arith) (same ∙ v.if-is_on.false))
          ]
    ]

pub returns : goal.returns
returns c =
    let l = c.args.lattice.now in
    let f : ℕ → Bool = has_node c.args.nodes.now in
    let last : c.loop-k.k - 1 ≡ c.args.b.node = omega arith in
    c.loop-k.invariant
    ∙ ap (λ n. is_odd_count f (nodes_on l c.args.b.class (strand_of l c.args.b.class c.args.b.node) c.args.b.node n)) last
    ∙ sym (codeword-parity l f c.args.b.node c.args.b.class (not_datum c.args.b.class c.if-eq.ensures))
