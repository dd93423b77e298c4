-- A file that is a ledger of the one shape is no other: its lattice of one node, and which of its blocks are intact.
use Rattle.std.proofs.Common.{◌≡◌, ℕ, Bool, true, false, List, [], refl, ◌∙◌, ap, subst, arith}
use Rattle.std.specs.Prelude.{IsTrue}
use Rattle.aea_lattice.specs.declared.blocks.Class.{Class}
use Rattle.aea_lattice.specs.declared.blocks.Class.TheVariants.{Datum, Horiz, Right, Left}
use Rattle.aea_lattice.specs.declared.blocks.BlockId.{BlockId}
use Rattle.aea_lattice.specs.declared.grid.Lattice.{Lattice}
use Rattle.aea_lattice.specs.declared.shape.Shape.{Shape}
use Rattle.aea_lattice.specs.Blocks.{block_of}
use Rattle.aea_lattice.proofs.OneLattice.{lattice_equal}
use Rattle.aea_disk.specs.Files.{Files}
use Rattle.aea_records.specs.Format.{Record, nodes_of, fences_of, digests_of}
use Rattle.aea_records.specs.Laws.{HasOneReading}
use Rattle.aea_ledger.specs.Recorded.{IsLatticeOf}
use Rattle.aea_ledger.specs.Stops.{HasLedger}
use Rattle.aea_archive.specs.Blocks.{IsBlockIn, RevealsSurvivors}
use Rattle.aea_run_laws.proofs.OneBlock.{shape, one}

-- the block of the one node
pub of_one : (k : Class) → IsBlockIn shape 1 (block_of 1 k)
of_one Datum = record { after = omega arith; most = omega arith; used = omega arith }
of_one Horiz = record { after = omega arith; most = omega arith; used = omega arith }
of_one Right = record { after = omega arith; most = omega arith; used = omega arith }
of_one Left = record { after = omega arith; most = omega arith; used = omega arith }

pub not_true : (b : Bool) → (IsTrue b → ⊥) → b ≡ false
not_true true none = absurd (none refl)
not_true false none = refl

module _ (reading : HasOneReading) (bytes : List ℕ) (all : List Record) (ledger : HasLedger shape all bytes) where
  pub same_shape : (s : Shape) (rs : List Record) → HasLedger s rs bytes → s ≡ shape
  same_shape s rs other = (reading bytes s shape rs all _ _ other ledger).0

  pub same_records : (s : Shape) (rs : List Record) → HasLedger s rs bytes → rs ≡ all
  same_records s rs other = (reading bytes s shape rs all _ _ other ledger).1.0

  -- where it has one node, and no fence
  module _ (nodes : nodes_of all ≡ 1) (unfenced : fences_of all ≡ []) where
    pub same_lattice : (s : Shape) (rs : List Record) (l : Lattice) → HasLedger s rs bytes → IsLatticeOf s (nodes_of rs) (fences_of rs) l → l ≡ one
    same_lattice s rs l other lattice =
        let shape_is = same_shape s rs other in
        let records_are = same_records s rs other in
        lattice_equal l one (lattice.alpha ∙ ap (λ (q : Shape). q.alpha) shape_is) (lattice.s ∙ ap (λ (q : Shape). q.s) shape_is) (lattice.p ∙ ap (λ (q : Shape). q.p) shape_is)
        (lattice.n ∙ ap nodes_of records_are ∙ nodes) (lattice.fences_are ∙ ap fences_of records_are ∙ unfenced)

    pub same_survivors : (digests : List (List ℕ)) → digests_of all ≡ digests → (s : Shape) (rs : List Record) (c : Files) (known : BlockId → Bool)
        → HasLedger s rs bytes → RevealsSurvivors s (nodes_of rs) (digests_of rs) c known → RevealsSurvivors shape 1 digests c known
    same_survivors digests are s rs c known other survivors =
        subst (λ (ds : List (List ℕ)). RevealsSurvivors shape 1 ds c known) are
        (subst (λ (n : ℕ). RevealsSurvivors shape n (digests_of all) c known) nodes
        (subst (λ (l : List Record). RevealsSurvivors shape (nodes_of l) (digests_of l) c known) (same_records s rs other)
        (subst (λ (q : Shape). RevealsSurvivors q (nodes_of rs) (digests_of rs) c known) (same_shape s rs other) survivors)))
