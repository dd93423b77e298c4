-- Tests that distinguish the survivors agree on the blocks of the archive.
use Rattle.std.proofs.Common.{◌≡◌, ℕ, Bool, true, false, List, refl, sym, ◌∙◌, ap, subst, arith}
use Rattle.std.specs.Prelude.{IsTrue}
use Rattle.std.proofs.lemmas.List.Elements.{All-weaker}
use Rattle.std.proofs.lemmas.Bool.{true≢false}
use Rattle.aea_lattice.specs.declared.blocks.BlockId.{BlockId}
use Rattle.aea_lattice.specs.declared.grid.Lattice.{Lattice}
use Rattle.aea_lattice.specs.Blocks.{HasBlock}
use Rattle.aea_lattice.specs.Shapes.{IsBlockOf}
use Rattle.aea_lattice.specs.Data.{Determines}
use Rattle.aea_disk.specs.Files.{Files}
use Rattle.aea_disk.specs.State.{State}
use Rattle.aea_view.specs.Marked.{Marked, AreMarks, is_marked}
use Rattle.aea_ledger.specs.Recorded.{IsLatticeOf}
use Rattle.aea_ledger.specs.Values.{Opened}
use Rattle.aea_archive.specs.Blocks.{IsBlockIn, IsHeldBy, RevealsSurvivors}
use Rattle.aea_restore.specs.Laws.{IsRestorable}
use Rattle.aea_restore.specs.Drawn.{IsClash}
use Rattle.aea_restore.specs.Repairs.{IsLeft}

-- a block of the ledger's lattice is one of its shape
pub block_of_shape : (v : Opened) (l : Lattice) (b : BlockId) → l ≡ v.lattice → IsLatticeOf v.shape l.n l.fences l → HasBlock v.lattice b → IsBlockOf v.shape b
block_of_shape v l b same of_shape has = record {
  first = has.first;
  last = (let most = has.last in let range = v.lattice.in_range in omega (arith, most, range));
  used = (let u = has.used in let e = of_shape.alpha in let a = ap (λ (k : Lattice). k.alpha) same in omega (arith, u, e, a));
}

-- and one of those of its nodes
pub block_in_archive : (v : Opened) (l : Lattice) (b : BlockId) → l ≡ v.lattice → IsLatticeOf v.shape l.n l.fences l → HasBlock v.lattice b → IsBlockIn v.shape v.lattice.n b
block_in_archive v l b same of_shape has = record {
  after = has.first;
  most = has.last;
  used = (let u = has.used in let e = of_shape.alpha in let a = ap (λ (k : Lattice). k.alpha) same in omega (arith, u, e, a));
}

same_truth : (x y : Bool) → (x ≡ true → y ≡ true) → (y ≡ true → x ≡ true) → x ≡ y
same_truth true y to from = sym (to refl)
same_truth false true to from = from refl
same_truth false false to from = refl

-- the blocks of the lattice are in the archive
abbrev pub AreInside : Opened → Type 0
AreInside v = (b : BlockId) → HasBlock v.lattice b → IsBlockIn v.shape v.lattice.n b

-- two tests that distinguish the survivors agree
pub tests_agree : (v : Opened) (c : Files) (known test : BlockId → Bool) → AreInside v → RevealsSurvivors v.shape v.lattice.n v.digests c known → RevealsSurvivors v.shape v.lattice.n v.digests c test
    → (b : BlockId) → HasBlock v.lattice b → known b ≡ test b
tests_agree v c known test inside first second b has =
    let one = first b (inside b has) in
    let two = second b (inside b has) in
    same_truth (known b) (test b) (λ is. two.1 (one.0 is)) (λ is. one.1 (two.0 is))

-- marks that distinguish the survivors are those of each test that does
pub marks_agree : (v : Opened) (c : Files) (m : Marked) (test : BlockId → Bool) → m.lattice ≡ v.lattice → AreInside v → RevealsSurvivors v.shape v.lattice.n v.digests c (is_marked m) → RevealsSurvivors v.shape v.lattice.n v.digests c test
    → AreMarks m test
marks_agree v c m test same inside marked reveals b has = tests_agree v c (is_marked m) test inside marked reveals b (subst (λ (l : Lattice). HasBlock l b) same has)

-- a known block is determined
pub known_determined : (l : Lattice) (known : BlockId → Bool) (b : BlockId) → HasBlock l b → IsTrue (known b) → Determines l known b
known_determined l known b has is w xs ys is_xs is_ys agree = agree b has is

-- a clash for known blocks is one for others that have these
pub clash_as : (v : Opened) (known test : BlockId → Bool) (c : Files) (b : BlockId) (revealed computed : List ℕ) → ((d : BlockId) → HasBlock v.lattice d → known d ≡ test d) → IsClash v known c b revealed computed → IsClash v test c b revealed computed
clash_as v known test c b revealed computed same clash = record {
  other = clash.other;
  payload = clash.payload;
  drawn = record {
    blocks = clash.drawn.blocks;
    survivors = All-weaker (λ d. HasBlock v.lattice d × IsTrue (known d)) (λ d. HasBlock v.lattice d × IsTrue (test d)) (λ d is. (is.0, sym (same d is.0) ∙ is.1)) clash.drawn.blocks clash.drawn.survivors;
    sum = clash.drawn.sum;
    payload_is = clash.drawn.payload_is;
  };
  computed_is = clash.computed_is;
}

-- a block that is held was known, and so is not restored
pub held_left : (v : Opened) (known : BlockId → Bool) (s : State) (b : BlockId) → AreInside v → RevealsSurvivors v.shape v.lattice.n v.digests s.files known → HasBlock v.lattice b → IsHeldBy v.shape v.digests s b
    → IsLeft (IsRestorable v.lattice known) b
held_left v known s b inside reveal has held is = true≢false (sym ((reveal b (inside b has)).1 held.intact) ∙ is.damaged)
