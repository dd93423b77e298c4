-- Payloads that are drawn from survivors: a sum of such payloads is one, and what follows of it.
use Rattle.std.proofs.Common.{◌≡◌, ℕ, List, [], ◌∷◌, ◌++◌, get_or, map, replicate, length, drop, Bool, arith, refl, sym, ◌∙◌, ap, subst, inl, inr}
use Rattle.std.specs.Prelude.{IsTrue}
use Rattle.std.proofs.lemmas.Bool.{or_cases}
use Rattle.std.proofs.lemmas.List.{length-take, length-drop}
use Rattle.std.proofs.lemmas.List.Elements.{All-head, All-tail, All-cons, All-append, All-nil}
use Rattle.aea_lattice.specs.declared.blocks.BlockId.{BlockId}
use Rattle.aea_lattice.specs.declared.blocks.EqId.{EqId}
use Rattle.aea_lattice.specs.declared.grid.Lattice.{Lattice}
use Rattle.aea_lattice.specs.declared.shape.Shape.{Shape}
use Rattle.aea_lattice.specs.Blocks.{HasBlock, same_block}
use Rattle.aea_lattice.specs.Shapes.{IsBlockOf}
use Rattle.aea_lattice.specs.Data.{IsDataList, xor_bytes, xor_all, value_of}
use Rattle.aea_lattice.proofs.Equations.{same_block-equal}
use Rattle.aea_lattice.proofs.Sums.{length-value_at}
use Rattle.aea_disk.specs.Files.{Files}
use Rattle.aea_shelf.specs.Places.{cell_size, home_bytes}
use Rattle.aea_shelf.specs.Intact.{IsIntact, payload_in, payload_at}
use Rattle.aea_shelf.specs.Writes.{KeepsHomes}
use Rattle.aea_shelf.proofs.Cells.{length-home, at_home, at_intact, keeps_intact}
use Rattle.aea_ledger.specs.Values.{Opened}
use Rattle.aea_ledger.specs.Recorded.{IsLatticeOf}
use Rattle.aea_archive.specs.Blocks.{IsBlockIn, recorded_in, IsIntactBy}
use Rattle.aea_restore.specs.Plans.{Give}
use Rattle.aea_restore.specs.Drawn.{ArePicked, IsDrawn, other_blocks, added_up, AreAllIntact}
use Rattle.aea_restore.specs.UnderWay.{AreDrawn, AddsBlock}
use Rattle.aea_restore.proofs.Sums.{AreWide, sum_both, sum_one, sum_more, values_wide, map_same}
use Rattle.aea_restore.proofs.Parts.{others_ready, others_sum}

-- ---- payloads at homes

-- the payload of an intact block has the bytes of a block
pub payload_wide : (shape : Shape) (b : BlockId) (recorded : List ℕ) (c : Files) → IsIntact shape b recorded c → length (payload_at shape c b) ≡ shape.block
payload_wide shape b recorded c intact =
    omega (arith, length-home shape b c intact.within, length-take shape.block (drop 16 (home_bytes shape b c)), length-drop 16 (home_bytes shape b c))

-- the payload of an intact block whose home stays
pub payload_stays : (shape : Shape) (keep : BlockId → Type 0) (a : BlockId) (recorded : List ℕ) (c d : Files) → IsBlockOf shape a → keep a → IsIntact shape a recorded c → KeepsHomes shape keep c d
    → payload_at shape d a ≡ payload_at shape c a
payload_stays shape keep a recorded c d has kept intact homes =
    let size : length (home_bytes shape a c) ≡ cell_size shape = length-home shape a c intact.within in
    ap (payload_in shape) (at_home shape a (home_bytes shape a c) d size (homes a (home_bytes shape a c) has kept (omega (arith, size)) (at_intact shape a recorded c intact))).0

-- the payloads of blocks that are intact are wide
payloads_wide : (v : Opened) (test : BlockId → Bool) (c : Files) (blocks : List BlockId) → AreAllIntact v test c → ArePicked v.lattice test blocks → AreWide v.shape.block (payload_at v.shape c) blocks
payloads_wide v test c blocks sound are k d lt =
    let one = are k d lt in
    payload_wide v.shape (get_or blocks k d) (recorded_in v.shape v.digests (get_or blocks k d)) c (sound (get_or blocks k d) one.0 one.1)

-- ---- sums of sums

-- a list of blocks, and the survivors that they come from
record AreParts (v : Opened) (known : BlockId → Bool) (first now : Files) (parts : List BlockId) : Type 0 where
  blocks : List BlockId
  survivors : ArePicked v.lattice known blocks
  sums : (w : ℕ) (datas : List (List ℕ)) → IsDataList v.lattice w datas
      → xor_all w (map (value_of v.lattice w datas) parts) ≡ xor_all w (map (value_of v.lattice w datas) blocks)
  payload : xor_all v.shape.block (map (payload_at v.shape now) parts) ≡ xor_all v.shape.block (map (payload_at v.shape first) blocks)

drawn_parts : (v : Opened) (known ready : BlockId → Bool) (first now : Files) → AreDrawn v known ready first now → (parts : List BlockId) → ArePicked v.lattice ready parts → AreParts v known first now parts
drawn_parts v known ready first now all [] are = record { blocks = []; survivors = All-nil (λ d. HasBlock v.lattice d × IsTrue (known d)); sums = λ w datas is. refl; payload = refl }
drawn_parts v known ready first now all (p ∷ ps) are =
    let one = All-head (λ d. HasBlock v.lattice d × IsTrue (ready d)) p ps are in
    let tail = All-tail (λ d. HasBlock v.lattice d × IsTrue (ready d)) p ps are in
    let rest = drawn_parts v known ready first now all ps tail in
    let d = all.drawn p one.0 one.1 in
    let size = v.shape.block in
    record {
      blocks = d.blocks ++ rest.blocks;
      survivors = All-append (λ e. HasBlock v.lattice e × IsTrue (known e)) d.blocks rest.blocks d.survivors rest.survivors;
      sums = λ w datas is.
          let value = value_of v.lattice w datas in
          sum_more w value p ps (length-value_at v.lattice w datas p.node p.class is) (values_wide v.lattice w datas ps is)
          ∙ ap (λ x. xor_bytes x (xor_all w (map value ps))) (d.sum w datas is)
          ∙ ap (xor_bytes (xor_all w (map value d.blocks))) (rest.sums w datas is)
          ∙ sym (sum_both w value d.blocks rest.blocks (values_wide v.lattice w datas d.blocks is) (values_wide v.lattice w datas rest.blocks is));
      payload =
          sum_more size (payload_at v.shape now) p ps (payload_wide v.shape p (recorded_in v.shape v.digests p) now (all.intact p one.0 one.1)) (payloads_wide v ready now ps all.intact tail)
          ∙ ap (λ x. xor_bytes x (xor_all size (map (payload_at v.shape now) ps))) d.payload_is
          ∙ ap (xor_bytes (xor_all size (map (payload_at v.shape first) d.blocks))) rest.payload
          ∙ sym (sum_both size (payload_at v.shape first) d.blocks rest.blocks (payloads_wide v known first d.blocks all.known_intact d.survivors) (payloads_wide v known first rest.blocks all.known_intact rest.survivors));
    }

-- A sum of the other blocks of equations that give a block is drawn from the survivors.
pub drawn_sum : (v : Opened) (known ready : BlockId → Bool) (first now : Files) (b : BlockId) (es : List EqId) (payload : List ℕ) → HasBlock v.lattice b → Give v.lattice ready b es → AreDrawn v known ready first now
    → payload ≡ added_up v.shape now (replicate v.shape.block 0) (other_blocks v.lattice ready b es)
    → IsDrawn v known first b payload
drawn_sum v known ready first now b es payload has gives all is =
    let parts = drawn_parts v known ready first now all (other_blocks v.lattice ready b es) (others_ready v.lattice ready b es has gives) in
    record {
      blocks = parts.blocks;
      survivors = parts.survivors;
      sum = λ w datas is_data. others_sum v.lattice ready b es has gives w datas is_data ∙ parts.sums w datas is_data;
      payload_is = is ∙ parts.payload;
    }

-- a survivor is the sum of itself
pub drawn_alone : (v : Opened) (known : BlockId → Bool) (c : Files) (b : BlockId) → HasBlock v.lattice b → IsTrue (known b) → IsIntactBy v.shape v.digests c b → IsDrawn v known c b (payload_at v.shape c b)
drawn_alone v known c b has is sound = record {
  blocks = b ∷ [];
  survivors = All-cons (λ d. HasBlock v.lattice d × IsTrue (known d)) b [] (has, is) (All-nil (λ d. HasBlock v.lattice d × IsTrue (known d)));
  sum = λ w datas is_data. sym (sum_one w (value_of v.lattice w datas) b (length-value_at v.lattice w datas b.node b.class is_data));
  payload_is = sym (sum_one v.shape.block (payload_at v.shape c) b (payload_wide v.shape b (recorded_in v.shape v.digests b) c sound));
}

-- at first, where the known blocks are intact
pub drawn_first : (v : Opened) (known : BlockId → Bool) (c : Files) → AreAllIntact v known c → AreDrawn v known known c c
drawn_first v known c sound = record {
  known_intact = sound;
  intact = sound;
  drawn = λ b has is. drawn_alone v known c b has is (sound b has is);
}

-- ---- calls

-- a block of the lattice is one of the archive's shape
pub block_of_shape : (v : Opened) (l : Lattice) (b : BlockId) → l ≡ v.lattice → IsLatticeOf v.shape l.n l.fences l → HasBlock v.lattice b → IsBlockOf v.shape b
block_of_shape v l b same of_shape has = record {
  first = has.first;
  last = (let most = has.last in let range = v.lattice.in_range in omega (arith, most, range));
  used = (let u = has.used in let e = of_shape.alpha in let a = ap (λ (k : Lattice). k.alpha) same in omega (arith, u, e, a));
}

-- and one of those of its nodes
pub block_in_archive : (v : Opened) (l : Lattice) (b : BlockId) → l ≡ v.lattice → IsLatticeOf v.shape l.n l.fences l → HasBlock v.lattice b → IsBlockIn v.shape v.lattice.n b
block_in_archive v l b same of_shape has = record {
  after = has.first;
  most = has.last;
  used = (let u = has.used in let e = of_shape.alpha in let a = ap (λ (k : Lattice). k.alpha) same in omega (arith, u, e, a));
}

-- calls that leave the files
pub drawn_same : (v : Opened) (known ready : BlockId → Bool) (first mid now : Files) → now ≡ mid → AreDrawn v known ready first mid → AreDrawn v known ready first now
drawn_same v known ready first mid now same all = subst (AreDrawn v known ready first) (sym same) all

-- calls that leave the homes of the blocks that can be read
pub drawn_kept : (v : Opened) (known ready : BlockId → Bool) (first mid now : Files) (keep : BlockId → Type 0) → ((b : BlockId) → HasBlock v.lattice b → IsBlockOf v.shape b) → ((b : BlockId) → HasBlock v.lattice b → IsTrue (ready b) → keep b) → KeepsHomes v.shape keep mid now
    → AreDrawn v known ready first mid → AreDrawn v known ready first now
drawn_kept v known ready first mid now keep fits kept homes all = record {
  known_intact = all.known_intact;
  intact = λ b has is. keeps_intact v.shape keep mid now homes b (recorded_in v.shape v.digests b) (fits b has) (kept b has is) (all.intact b has is);
  drawn = λ b has is.
      subst (IsDrawn v known first b)
      (sym (payload_stays v.shape keep b (recorded_in v.shape v.digests b) mid now (fits b has) (kept b has is) (all.intact b has is) homes))
      (all.drawn b has is);
}

-- One block more can be read: it is intact, with a payload that is drawn from the survivors.
pub drawn_more : (v : Opened) (known ready more : BlockId → Bool) (first now : Files) (b : BlockId) → AddsBlock v.lattice b ready more → IsIntactBy v.shape v.digests now b → IsDrawn v known first b (payload_at v.shape now b)
    → AreDrawn v known ready first now → AreDrawn v known more first now
drawn_more v known ready more first now b adds intact drawn all = record {
  known_intact = all.known_intact;
  intact = λ a has is.
      elim (or_cases (ready a) (same_block a b) (sym (adds a has) ∙ is)) [
        | inl before ↦ all.intact a has before
        | inr here ↦ subst (IsIntactBy v.shape v.digests now) (sym (same_block-equal a b here)) intact
      ];
  drawn = λ a has is.
      elim (or_cases (ready a) (same_block a b) (sym (adds a has) ∙ is)) [
        | inl before ↦ all.drawn a has before
        | inr here ↦ subst (λ (d : BlockId). IsDrawn v known first d (payload_at v.shape now d)) (sym (same_block-equal a b here)) drawn
      ];
}

-- ---- what follows of a payload that is drawn

-- Where the survivors are honest for a data list, it is that list's block.
pub honest_drawn : (v : Opened) (known : BlockId → Bool) (c : Files) (datas : List (List ℕ)) (b : BlockId) (payload : List ℕ) → IsDataList v.lattice v.shape.block datas
    → ((d : BlockId) → HasBlock v.lattice d → IsTrue (known d) → payload_at v.shape c d ≡ value_of v.lattice v.shape.block datas d)
    → IsDrawn v known c b payload → payload ≡ value_of v.lattice v.shape.block datas b
honest_drawn v known c datas b payload is honest drawn =
    drawn.payload_is
    ∙ ap (xor_all v.shape.block) (map_same (payload_at v.shape c) (value_of v.lattice v.shape.block datas) drawn.blocks (λ k d lt. let one = drawn.survivors k d lt in honest _ one.0 one.1))
    ∙ sym (drawn.sum v.shape.block datas is)
