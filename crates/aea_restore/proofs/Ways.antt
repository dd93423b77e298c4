-- One block more is restored, a write fails, and what holds when the calls end.
use Rattle.std.proofs.Common.{◌≡◌, ◌≢◌, inl, inr, ◌<◌, length, get_or, set, Bool, true, false, arith, refl, sym, ◌∙◌, ap, subst}
use Rattle.std.specs.Prelude.{◌||◌, IsTrue}
use Rattle.std.proofs.lemmas.Bool.{cases_Bool, or_cases, or_left, or_right, true≢false}
use Rattle.std.proofs.lemmas.List.{get_or-set_other, get_or-set_same, length-set}
use Rattle.aea_lattice.specs.declared.blocks.BlockId.{BlockId}
use Rattle.aea_lattice.specs.declared.grid.Lattice.{Lattice}
use Rattle.aea_lattice.specs.Blocks.{HasBlock, same_block, number_of, blocks_count}
use Rattle.aea_lattice.specs.Shapes.{IsBlockOf}
use Rattle.aea_lattice.proofs.Equations.{same_block-equal, same_block-refl, number_equal, number_below}
use Rattle.aea_disk.specs.Files.{Files}
use Rattle.aea_shelf.specs.Places.{home_file}
use Rattle.aea_shelf.specs.Writes.{KeepsHomes, KeepsPadded}
use Rattle.aea_shelf.proofs.Cells.{keeps_intact}
use Rattle.aea_view.specs.Marked.{Marked, is_marked}
use Rattle.aea_ledger.specs.Values.{Opened}
use Rattle.aea_archive.specs.Blocks.{recorded_in, IsIntactBy}
use Rattle.aea_restore.specs.Repairs.{IsRepaired, IsPartlyRepaired, IsTornRepair}
use Rattle.aea_restore.specs.UnderWay.{IsDone, IsUnderWay, IsTorn, AddsBlock}

-- ---- marks

-- a block that is told apart is another one
pub apart : (a b : BlockId) → same_block a b ≡ false → a ≢ b
apart a b other e = true≢false (sym (same_block-refl b) ∙ ap (λ d. same_block d b) (sym e) ∙ other)

-- a block that is marked adds nothing
pub adds_marked : (l : Lattice) (b : BlockId) (ready : BlockId → Bool) → IsTrue (ready b) → AddsBlock l b ready ready
adds_marked l b ready is d has =
    elim (cases_Bool (ready d)) [
      | inl yes' ↦ yes' ∙ sym (or_left (ready d) (same_block d b) yes')
      | inr no' ↦ elim (cases_Bool (same_block d b)) [
        | inl same ↦ absurd (true≢false (sym is ∙ ap ready (sym (same_block-equal d b same)) ∙ no'))
        | inr other ↦ no' ∙ sym ((rw no' other))
      ]
    ]

-- a mark that is set
pub adds_set : (l : Lattice) (b : BlockId) (m n : Marked) → m.lattice ≡ l → n.lattice ≡ l → n.marks ≡ set m.marks (number_of m.lattice b) true → length n.marks ≡ blocks_count n.lattice
    → HasBlock l b → AddsBlock l b (is_marked m) (is_marked n)
adds_set l b m n lattice same marks whole has d d_has =
    let at = number_of l b in
    let inside : number_of l b < length m.marks = omega (arith, number_below l b has, whole, ap length marks, length-set m.marks (number_of m.lattice b) true, ap blocks_count same) in
    let to : n.marks ≡ set m.marks (number_of l b) true = marks ∙ ap (λ (k : Lattice). set m.marks (number_of k b) true) lattice in
    let now : is_marked n d ≡ get_or (set m.marks (number_of l b) true) (number_of l d) false =
    ap (λ ms. get_or ms (number_of n.lattice d) false) to ∙ ap (λ (k : Lattice). get_or (set m.marks (number_of l b) true) (number_of k d) false) same in
    let before : is_marked m d ≡ get_or m.marks (number_of l d) false = ap (λ (k : Lattice). get_or m.marks (number_of k d) false) lattice in
    elim (cases_Bool (same_block d b)) [
      | inl is ↦
          now ∙ ap (λ (a : BlockId). get_or (set m.marks (number_of l b) true) (number_of l a) false) (same_block-equal d b is)
          ∙ get_or-set_same m.marks (number_of l b) true false inside
          ∙ sym (or_right (is_marked m d) (same_block d b) is)
      | inr other ↦
          now ∙ get_or-set_other m.marks (number_of l b) (number_of l d) true false (λ e. apart d b other (number_equal l d b d_has has e))
          ∙ sym before ∙ or_false (is_marked m d) (same_block d b) other
    ]
  where
    or_false : (x y : Bool) → y ≡ false → x ≡ (x || y)
    or_false true y e = refl
    or_false false y e = sym e

-- ---- what is under way

-- before the first block
pub way_first : (v : Opened) (known : BlockId → Bool) (c : Files) → IsUnderWay v known known c c
way_first v known c = record {
  within = λ b has is. is;
  homes = λ a bytes has kept short here. here;
  grown = λ a has kept. refl;
  written = λ b done. absurd (true≢false (sym done.now ∙ done.fresh));
}

-- calls that leave the files
pub way_same : (v : Opened) (known ready : BlockId → Bool) (first mid now : Files) → now ≡ mid → IsUnderWay v known ready first mid → IsUnderWay v known ready first now
way_same v known ready first mid now same way = subst (IsUnderWay v known ready first) (sym same) way

-- a block more that can be read
done_more : (v : Opened) (known ready more : BlockId → Bool) (b d : BlockId) → AddsBlock v.lattice b ready more → IsDone v known ready d → IsDone v known more d
done_more v known ready more b d adds done = record { block = done.block; now = adds d done.block ∙ or_left (ready d) (same_block d b) done.now; fresh = done.fresh }

-- The cell of one block more was written.
pub way_more : (v : Opened) (known ready more : BlockId → Bool) (first mid now : Files) (b : BlockId) → ((a : BlockId) → HasBlock v.lattice a → IsBlockOf v.shape a) → HasBlock v.lattice b → ready b ≡ false → AddsBlock v.lattice b ready more
    → KeepsHomes v.shape (λ a. a ≢ b) mid now → KeepsPadded v.shape (λ a. a ≢ b) mid now → IsIntactBy v.shape v.digests now b
    → IsUnderWay v known ready first mid → IsUnderWay v known more first now
way_more v known ready more first mid now b fits has unready adds homes padded intact way =
    let unknown : known b ≡ false = elim (cases_Bool (known b)) [ inl is ↦ absurd (true≢false (sym (way.within b has is) ∙ unready)) | inr not' ↦ not' ] in
    let is_done : IsDone v known more b = record { block = has; now = adds b has ∙ or_right (ready b) (same_block b b) (same_block-refl b); fresh = unknown } in
    let other : (a : BlockId) → (IsDone v known more a → ⊥) → a ≢ b = λ a kept e. kept (subst (IsDone v known more) (sym e) is_done) in
    let before : (a : BlockId) → (IsDone v known more a → ⊥) → IsDone v known ready a → ⊥ = λ a kept done. kept (done_more v known ready more b a adds done) in
    record {
      within = λ a a_has is. adds a a_has ∙ or_left (ready a) (same_block a b) (way.within a a_has is);
      homes = λ a bytes a_of kept short here. homes a bytes a_of (other a kept) short (way.homes a bytes a_of (before a kept) short here);
      grown = λ a a_of kept. padded a a_of (other a kept) ∙ way.grown a a_of (before a kept);
      written = λ a done.
          elim (cases_Bool (same_block a b)) [
            | inl here ↦ subst (IsIntactBy v.shape v.digests now) (sym (same_block-equal a b here)) intact
            | inr revealed ↦
                elim (or_cases (ready a) (same_block a b) (sym (adds a done.block) ∙ done.now)) [
                  | inl was ↦
                      keeps_intact v.shape (λ d. d ≢ b) mid now homes a (recorded_in v.shape v.digests a) (fits a done.block) (apart a b revealed)
                      (way.written a (record { block = done.block; now = was; fresh = done.fresh }))
                  | inr here ↦ absurd (true≢false (sym here ∙ revealed))
                ]
          ];
    }

-- a read failed before the write of a block
pub torn_before : (v : Opened) (known ready : BlockId → Bool) (first now : Files) (b : BlockId) → ready b ≡ false → IsUnderWay v known ready first now → IsTorn v known ready b first now
torn_before v known ready first now b unready way = record {
  unready = unready;
  homes = λ a bytes a_of kept short here. way.homes a bytes a_of kept.0 short here;
  grown = λ a a_of kept. way.grown a a_of kept.0;
  written = way.written;
}

-- the write of a block failed
pub torn_write : (v : Opened) (known ready : BlockId → Bool) (first mid now : Files) (b : BlockId) → ((a : BlockId) → HasBlock v.lattice a → IsBlockOf v.shape a) → ready b ≡ false
    → KeepsHomes v.shape (λ a. a ≢ b) mid now → KeepsPadded v.shape (λ a. home_file v.shape a ≢ home_file v.shape b) mid now
    → IsUnderWay v known ready first mid → IsTorn v known ready b first now
torn_write v known ready first mid now b fits unready homes elsewhere way = record {
  unready = unready;
  homes = λ a bytes a_of kept short here. homes a bytes a_of kept.1 short (way.homes a bytes a_of kept.0 short here);
  grown = λ a a_of kept. elsewhere a a_of kept.1 ∙ way.grown a a_of kept.0;
  written = λ a done.
      keeps_intact v.shape (λ d. d ≢ b) mid now homes a (recorded_in v.shape v.digests a) (fits a done.block)
      (λ e. true≢false (sym done.now ∙ ap ready e ∙ unready)) (way.written a done);
}

-- ---- what holds when the calls end, where the blocks that are restored were not known, and only they were restored

module _ (v : Opened) (mends : BlockId → Type 0) (known ready : BlockId → Bool) (first now : Files) (fits : (a : BlockId) → HasBlock v.lattice a → IsBlockOf v.shape a)
    (inside : (b : BlockId) → mends b → HasBlock v.lattice b) (fresh : (b : BlockId) → mends b → known b ≡ false) (only : (b : BlockId) → IsDone v known ready b → mends b) where
  -- all of them
  pub ends_all : IsUnderWay v known ready first now → ((b : BlockId) → mends b → IsTrue (ready b)) → IsRepaired v mends first now
  ends_all way all = record {
    grown = λ a a_of left. way.grown a a_of (λ done. left (only a done));
    restored = λ b is. way.written b (record { block = inside b is; now = all b is; fresh = fresh b is });
  }

  -- some of them
  pub ends_some : IsUnderWay v known ready first now → IsPartlyRepaired v mends first now
  ends_some way = record {
    grown = λ a a_of left. way.grown a a_of (λ done. left (only a done));
    restored = λ b is.
        elim (cases_Bool (ready b)) [
          | inl yes' ↦ inl (way.written b (record { block = inside b is; now = yes'; fresh = fresh b is }))
          | inr no' ↦ inr (way.grown b (fits b (inside b is)) (λ done. true≢false (sym done.now ∙ no')))
        ];
  }

  -- and where the write of one has failed
  pub ends_torn : (torn : BlockId) → mends torn → IsTorn v known ready torn first now → IsTornRepair v mends torn first now
  ends_torn torn one is_torn = record {
    one = one;
    grown = λ a a_of kept. is_torn.grown a a_of (λ done. kept.0 (only a done), kept.1);
    restored = λ b is other.
        elim (cases_Bool (ready b)) [
          | inl yes' ↦ inl (is_torn.written b (record { block = inside b is; now = yes'; fresh = fresh b is }))
          | inr no' ↦
              inr (λ a bytes a_of same short here.
              is_torn.homes a bytes a_of (λ done. true≢false (sym done.now ∙ ap ready same ∙ no'), λ e. other (sym same ∙ e)) short here)
        ];
    elsewhere = λ b is away.
        elim (cases_Bool (ready b)) [
          | inl yes' ↦ inl (is_torn.written b (record { block = inside b is; now = yes'; fresh = fresh b is }))
          | inr no' ↦ inr (is_torn.grown b (fits b (inside b is)) (λ done. true≢false (sym done.now ∙ no'), away))
        ];
  }
