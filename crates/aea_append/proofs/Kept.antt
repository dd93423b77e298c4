-- Heads that are kept: those after an object go on from the ledger that has it, and while they are kept every last parity is intact.
use Rattle.std.proofs.Common.{◌≡◌, ⊎_elim, ℕ, ◌+◌, ◌-◌, ◌*◌, ◌<◌, ◌≤◌, List, [], ◌++◌, length, get_or, Option, None, Some, refl, sym, ◌∙◌, ap, subst, arith}
use Rattle.std.proofs.Math.Nat.{mul-le-mul_right}
use Rattle.std.proofs.lemmas.Bool.{cases_lt}
use Rattle.std.proofs.lemmas.List.{get_or-append_right, get_or_append_left}
use Rattle.aea_lattice.specs.declared.blocks.BlockId.{BlockId}
use Rattle.aea_lattice.specs.declared.grid.Lattice.{Lattice}
use Rattle.aea_lattice.specs.declared.shape.Shape.{Shape}
use Rattle.aea_lattice.specs.Blocks.{HasBlock, class_number}
use Rattle.aea_lattice.specs.Strands.{strand_of}
use Rattle.aea_lattice.specs.Ends.{last_open}
use Rattle.aea_lattice.specs.Growth.{IsGrown}
use Rattle.aea_lattice.specs.Shapes.{number_in}
use Rattle.aea_lattice.proofs.Equations.{number_below}
use Rattle.aea_lattice.proofs.Opens.{strand-same}
use Rattle.aea_envelope.specs.Cells.{block_digest, cell_of}
use Rattle.aea_envelope.specs.Facts.{CellsHaveLengths, CellsHaveParts}
use Rattle.aea_disk.specs.Files.{Files}
use Rattle.aea_shelf.specs.Writes.{KeepsHomes}
use Rattle.aea_weave.specs.Woven.{Woven}
use Rattle.aea_ledger.specs.Values.{Opened}
use Rattle.aea_archive.specs.Blocks.{IsBlockOn, IsBlockIn, recorded_in}
use Rattle.aea_archive.specs.Cells.{AreAtHome}
use Rattle.aea_archive.specs.Lasts.{IsLastParity, AreLastsIntact}
use Rattle.aea_archive.specs.Next.{AreDigestsOn}
use Rattle.aea_archive.proofs.Honest.{stands}
use Rattle.aea_archive.proofs.Values.{last_inside, last-grown}
use Rattle.aea_append.specs.Weaving.{HasWoven}
use Rattle.aea_append.specs.Keeping.{AreLastHeads, HasKeptHeads}
use Rattle.aea_append.proofs.Takings.{grown_same}

-- heads that are kept go on from the ledger
pub kept_as : (reveals : Type 0) (v : Opened) (files : Files) (kept : Option Woven) (heads : Woven) → kept ≡ Some heads → HasKeptHeads reveals v files kept → AreLastHeads reveals v files heads
kept_as reveals v files kept heads is has = subst (HasKeptHeads reveals v files) is has

-- while heads are kept, every last parity is intact, if the disk's contents are known
pub kept_intact : CellsHaveLengths → CellsHaveParts → (reveals : Type 0) (v : Opened) (files : Files) (heads : Woven) → AreLastHeads reveals v files heads → reveals → AreLastsIntact v.shape v.lattice v.digests files
kept_intact lengths parts reveals v files heads are revealed b last =
    let has = are.woven in
    (stands lengths parts v.shape b (recorded_in v.shape v.digests b) (has.payload b) files (has.lasts_wide b last) (has.lasts b last) (has.homes revealed b last)).intact

module _ (shape : Shape) (l m : Lattice) (n : ℕ) (grown : IsGrown l n m) (more : l.n ≤ m.n) (alpha : l.alpha ≡ shape.alpha) where
  -- a last parity that is no new block was one before
  last_was : (b : BlockId) → IsLastParity m b → b.node ≤ l.n → IsLastParity l b
  last_was b last old =
      let u = last.parity.used in
      let same = grown.shape.alpha in
      let strand : strand_of m b.class b.node ≡ strand_of l b.class b.node = strand-same l m grown.shape b.class b.node in record {
        parity = record { parity = last.parity.parity; used = omega (arith, u, same) };
        last = last-grown l m n grown b.class (strand_of l b.class b.node) b.node more old (subst (λ (s : ℕ). last_open m b.class s ≡ Some b.node) strand last.last);
      }

  -- and one that is new is a block of the new nodes
  last_new : (b : BlockId) → IsLastParity m b → l.n < b.node → IsBlockOn shape l.n m.n b
  last_new b last new = record {
    after = new;
    most = (last_inside m b last).last;
    used = (let u = last.parity.used in let same = grown.shape.alpha in omega (arith, u, same, alpha));
  }

  -- the digest of an old block among those of all
  recorded_old : (digests ds : List (List ℕ)) (b : BlockId) → length digests ≡ l.n * (1 + shape.alpha) → HasBlock l b → recorded_in shape (digests ++ ds) b ≡ recorded_in shape digests b
  recorded_old digests ds b long has =
      let below = number_below l b has in
      let number = ap (λ (a : ℕ). (b.node - 1) * (1 + a) + class_number b.class) alpha in
      let count = ap (λ (a : ℕ). l.n * (1 + a)) alpha in
      get_or_append_left digests ds [] (number_in shape b) (omega (arith, below, number, count, long))

  -- and that of a new one
  recorded_new : (digests ds : List (List ℕ)) (payload : BlockId → List ℕ) (b : BlockId) → length digests ≡ l.n * (1 + shape.alpha) → AreDigestsOn shape l.n m.n payload ds → IsBlockOn shape l.n m.n b
      → block_digest b (payload b) ≡ recorded_in shape (digests ++ ds) b
  recorded_new digests ds payload b long are on =
      let after = on.after in
      let rows : l.n * (1 + shape.alpha) ≤ (b.node - 1) * (1 + shape.alpha) = mul-le-mul_right (1 + shape.alpha) (let e : l.n ≤ b.node - 1 = omega (arith, after) in e) in
      sym (get_or-append_right digests ds (length digests) (number_in shape b) [] refl (omega (arith, rows, long))
      ∙ ap (λ (k : ℕ). get_or ds (number_in shape b - k) []) long
      ∙ are.each b on)

-- Heads after nodes that were woven go on from the lattice with these nodes, where the ledger has the digests of their blocks
-- after those that it had, the homes of the old blocks stayed, and the cells of the new ones are at theirs.
pub woven_on : CellsHaveLengths → (reveals : Type 0) (shape : Shape) (l : Lattice) (recorded : List (List ℕ)) (first files after : Files) (w : Woven) (datas digests : List (List ℕ))
    → l.alpha ≡ shape.alpha → length recorded ≡ l.n * (1 + shape.alpha)
    → (has : HasWoven reveals shape l recorded first files w datas digests)
    → (reveals → KeepsHomes shape (IsBlockIn shape l.n) first after)
    → (reveals → AreAtHome shape l.n w.lattice.n has.payload after)
    → HasWoven reveals shape w.lattice (recorded ++ digests) after after w [] []
woven_on lengths reveals shape l recorded first files after w datas digests alpha long has stays cells =
    let m = w.lattice in
    let n = l.n + length datas in
    let nodes = has.grown.nodes in
    let more : l.n ≤ w.lattice.n = omega (arith, nodes) in
    record {
      payload = has.payload;
      lasts = λ b last. ⊎_elim
          (λ new. recorded_new shape l m n has.grown more alpha recorded digests has.payload b long has.digests_are (last_new shape l m n has.grown more alpha b last new))
          (λ old.
          let was : IsLastParity l b = last_was shape l m n has.grown more alpha b last old in
          has.lasts b was ∙ sym (recorded_old shape l m n has.grown more alpha recorded digests b long (last_inside l b was)))
          (cases_lt l.n b.node);
      homes = λ revealed b last. ⊎_elim
          (λ new. cells revealed b (last_new shape l m n has.grown more alpha b last new))
          (λ old.
          let was : IsLastParity l b = last_was shape l m n has.grown more alpha b last old in
          let inside : HasBlock l b = last_inside l b was in
          let at = inside.first in
          let used = inside.used in
          let most = l.in_range in
          let size = (lengths b (has.payload b)).2 in
          let wide = has.lasts_wide b was in
          stays revealed b (cell_of b (has.payload b)) (record { first = at; last = omega (arith, old, most); used = omega (arith, used, alpha) }) (record { after = omega (arith, at); most = old; used = omega (arith, used, alpha) })
          (omega (arith, size, wide)) (has.homes revealed b was))
          (cases_lt l.n b.node);
      lasts_wide = λ b last. ⊎_elim
          (λ new. has.wide b (last_new shape l m n has.grown more alpha b last new))
          (λ old. has.lasts_wide b (last_was shape l m n has.grown more alpha b last old))
          (cases_lt l.n b.node);
      grown = grown_same w.lattice (w.lattice.n + 0) (omega arith);
      heads = has.heads;
      blocks = λ k below. absurd (omega (arith, below));
      woven = λ i c past most parity. absurd (omega (arith, past, most));
      digests_are = record {
        long = (let z : w.lattice.n - w.lattice.n ≡ 0 = omega arith in let e : 0 ≡ 0 * (1 + shape.alpha) = omega arith in e ∙ ap (λ (k : ℕ). k * (1 + shape.alpha)) (sym z));
        each = λ b on. absurd (let x = on.after in let y = on.most in omega (arith, x, y));
      };
      cells = λ revealed b on. absurd (let x = on.after in let y = on.most in omega (arith, x, y));
      wide = λ b on. absurd (let x = on.after in let y = on.most in omega (arith, x, y));
    }

-- so heads that were stepped by all that a record has are kept for the ledger that has it
pub kept_after : CellsHaveLengths → (reveals : Type 0) (v w : Opened) (first files after : Files) (heads : Woven) (datas digests : List (List ℕ))
    → v.lattice.alpha ≡ v.shape.alpha → length v.digests ≡ v.lattice.n * (1 + v.shape.alpha) → w.shape ≡ v.shape → heads.lattice ≡ w.lattice → w.digests ≡ v.digests ++ digests → heads.size ≡ v.shape.block
    → (has : HasWoven reveals v.shape v.lattice v.digests first files heads datas digests)
    → (reveals → KeepsHomes v.shape (IsBlockIn v.shape v.lattice.n) first after)
    → (reveals → AreAtHome v.shape v.lattice.n heads.lattice.n has.payload after)
    → AreLastHeads reveals w after heads
kept_after lengths reveals v w first files after heads datas digests alpha long same grid recorded size has stays cells =
    let on : HasWoven reveals v.shape heads.lattice (v.digests ++ digests) after after heads [] [] = woven_on lengths reveals v.shape v.lattice v.digests first files after heads datas digests alpha long has stays cells in
    let one : HasWoven reveals v.shape w.lattice (v.digests ++ digests) after after heads [] [] = subst (λ (l : Lattice). HasWoven reveals v.shape l (v.digests ++ digests) after after heads [] []) grid on in
    let two : HasWoven reveals v.shape w.lattice w.digests after after heads [] [] = subst (λ (ds : List (List ℕ)). HasWoven reveals v.shape w.lattice ds after after heads [] []) (sym recorded) one in
    record {
      lattice = grid;
      size = size ∙ ap (λ (s : Shape). s.block) (sym same);
      woven = subst (λ (s : Shape). HasWoven reveals s w.lattice w.digests after after heads [] []) (sym same) two;
    }

-- what is not kept is no heads, of any ledger
pub kept_none : (reveals : Type 0) (v : Opened) (files : Files) (kept : Option Woven) → kept ≡ None → HasKeptHeads reveals v files kept
kept_none reveals v files kept is = subst (HasKeptHeads reveals v files) (sym is) tt
