-- Blocks that are intact by their digests have at their homes the cells of what stands there.
use Rattle.std.proofs.Common.{◌≡◌, ℕ, ◌+◌, ◌-◌, ◌*◌, ◌≤◌, List, [], ◌++◌, length, take, drop, get_or, refl, sym, ◌∙◌, ap, subst, arith}
use Rattle.std.proofs.Math.Nat.{mul-le-mul_right}
use Rattle.std.proofs.lemmas.List.{get_or-append_right}
use Rattle.aea_lattice.specs.declared.blocks.BlockId.{BlockId}
use Rattle.aea_lattice.specs.declared.shape.Shape.{Shape}
use Rattle.aea_lattice.specs.Shapes.{number_in}
use Rattle.aea_disk.specs.Files.{Files, ChangesOnly}
use Rattle.aea_disk.specs.State.{State, IsSynced}
use Rattle.aea_envelope.specs.Cells.{block_digest, cell_of}
use Rattle.aea_envelope.specs.Facts.{CellsHaveLengths, CellsHaveParts}
use Rattle.aea_shelf.specs.Places.{home_file, home_bytes, HasAtHome}
use Rattle.aea_shelf.specs.Intact.{IsIntact, payload_at}
use Rattle.aea_shelf.proofs.Cells.{length-home, at_intact, intact_same}
use Rattle.aea_shelf.proofs.Runs.{no_home_in_ledger, synced_held}
use Rattle.aea_archive.specs.Blocks.{IsBlockOn, IsHeldBy, recorded_in}
use Rattle.aea_archive.specs.Cells.{AreAtHome}
use Rattle.aea_archive.specs.Next.{AreDigestsOn}
use Rattle.aea_append.specs.Puts.{AreBlocksWide}
use Rattle.aea_append.specs.Weaving.{AreIntactOn}

-- The payload that stands at the home of an intact block has the digest and the bytes of a block, and its cell is there.
pub record Stands (shape : Shape) (b : BlockId) (recorded : List ℕ) (c : Files) : Type 0 where
  pub cell : HasAtHome shape b (cell_of b (payload_at shape c b)) c
  pub digest : block_digest b (payload_at shape c b) ≡ recorded
  pub wide : length (payload_at shape c b) ≡ shape.block

pub intact_stands : CellsHaveLengths → CellsHaveParts → (shape : Shape) (b : BlockId) (recorded : List ℕ) (c : Files) → IsIntact shape b recorded c → Stands shape b recorded c
intact_stands lengths parts shape b recorded c intact =
    let p = intact.here.payload in
    let cell : home_bytes shape b c ≡ cell_of b p = intact.here.cell in
    let long : length p ≡ shape.block = (let all = ap length cell in let home = length-home shape b c intact.within in let size = (lengths b p).2 in omega (arith, all, home, size)) in
    let is : payload_at shape c b ≡ p =
    ap (λ (l : List ℕ). take shape.block (drop 16 l)) cell
    ∙ ap (λ (n : ℕ). take n (drop 16 (cell_of b p))) (sym long)
    ∙ (parts b p).1 in
    record {
      cell = subst (λ (l : List ℕ). HasAtHome shape b l c) (cell ∙ ap (cell_of b) (sym is)) (at_intact shape b recorded c intact);
      digest = ap (block_digest b) is ∙ intact.here.digest;
      wide = ap length is ∙ long;
    }

module _ (lengths : CellsHaveLengths) (parts : CellsHaveParts) (reveals : Type 0) (shape : Shape) (before last : ℕ) (digests : List (List ℕ)) (c : Files) (revealed : reveals) (are : AreIntactOn reveals shape before last digests c) where
  pub homes_are : AreAtHome shape before last (payload_at shape c) c
  homes_are b on = (intact_stands lengths parts shape b _ c (are.each revealed b on)).cell

  pub wides_are : AreBlocksWide shape before last (payload_at shape c)
  wides_are b on = (intact_stands lengths parts shape b _ c (are.each revealed b on)).wide

  pub digests_are : AreDigestsOn shape before last (payload_at shape c) digests
  digests_are = record { long = are.long; each = λ b on. sym (intact_stands lengths parts shape b _ c (are.each revealed b on)).digest }

  -- and after a commit that is synced they are held, by their digests after those that the ledger had
  pub held_are : (olds : List (List ℕ)) (new : State) → length olds ≡ before * (1 + shape.alpha) → ChangesOnly 0 c new.files → IsSynced new → (b : BlockId) → IsBlockOn shape before last b → IsHeldBy shape (olds ++ digests) new b
  held_are olds new long only synced b on =
      let after = on.after in
      let rows : before * (1 + shape.alpha) ≤ (b.node - 1) * (1 + shape.alpha) = mul-le-mul_right (1 + shape.alpha) (let e : before ≤ b.node - 1 = omega (arith, after) in e) in
      let is : recorded_in shape (olds ++ digests) b ≡ get_or digests (number_in shape b - before * (1 + shape.alpha)) [] =
      get_or-append_right olds digests (length olds) (number_in shape b) [] refl (omega (arith, rows, long))
      ∙ ap (λ (n : ℕ). get_or digests (number_in shape b - n) []) long in
      synced_held shape b (recorded_in shape (olds ++ digests) b) new synced
      (intact_same shape b (recorded_in shape (olds ++ digests) b) c new.files (only (home_file shape b) (no_home_in_ledger shape b))
      (subst (λ (d : List ℕ). IsIntact shape b d c) (sym is) (are.each revealed b on)))
