-- One more node that is woven after a data list: its digests are those of the list's lattice, and its blocks are intact.
use Rattle.std.proofs.Common.{◌≡◌, ⊎_elim, ℕ, ◌+◌, ◌-◌, ◌^◌, ◌<◌, ◌≤◌, List, [], ◌∷◌, ◌++◌, map, length, replicate, get_or, All, refl, sym, ◌∙◌, ap, subst, arith, length-append, append_assoc}
use Rattle.std.proofs.Math.Seq.{get_or-append_seam}
use Rattle.std.proofs.lemmas.Bool.{cases_lt}
use Rattle.std.proofs.lemmas.Option.{unwrap_or-slice_get}
use Rattle.aea_lattice.specs.declared.blocks.Class.{Class}
use Rattle.aea_lattice.specs.declared.blocks.Class.TheVariants.{Datum, Horiz, Right, Left}
use Rattle.aea_lattice.specs.declared.blocks.BlockId.{BlockId}
use Rattle.aea_lattice.specs.declared.grid.Lattice.{Lattice}
use Rattle.aea_lattice.specs.declared.shape.Shape.{Shape}
use Rattle.aea_lattice.specs.Blocks.{block_of, class_number, HasParity, classes}
use Rattle.aea_lattice.specs.Strands.{strand_of}
use Rattle.aea_lattice.specs.Fences.{last_fence}
use Rattle.aea_lattice.specs.Data.{datum_at, value_at, value_of}
use Rattle.aea_envelope.specs.Facts.{CellsHaveLengths, CellsHaveParts}
use Rattle.aea_disk.specs.Files.{Files}
use Rattle.aea_shelf.specs.Intact.{IsIntact}
use Rattle.aea_weave.specs.Woven.{Woven, head_of, Weaves}
use Rattle.aea_weave.specs.Sums.{AreStrandSums, LongerDataKeepValues}
use Rattle.aea_weave.proofs.Weaving.{sums-step, step-joined, parity-value}
use Rattle.aea_archive.specs.Blocks.{IsBlockOn}
use Rattle.aea_archive.specs.Next.{AreDigestsOn}
use Rattle.aea_archive.proofs.Values.{grown-continues}
use Rattle.aea_archive.proofs.Honest.{stands}
use Rattle.aea_append.specs.Weaving.{last_payload, last_digest, AreLastAtHome, IsWovenOf, AreIntactOn}
use Rattle.aea_append.proofs.Placed.{digests-long, digest-before, digest-after, digests-push}

-- the last datum of a longer list
datum-last : (w : ℕ) (datas : List (List ℕ)) (x : List ℕ) (i : ℕ) → i - 1 ≡ length datas → datum_at w (datas ++ x ∷ []) i ≡ x
datum-last w datas x i last =
    unwrap_or-slice_get (datas ++ x ∷ []) (i - 1) (replicate w 0)
    ∙ ap (λ k. get_or (datas ++ x ∷ []) k (replicate w 0)) last
    ∙ get_or-append_seam datas x [] (replicate w 0)

-- the parity of the last node that was woven
parity_is : (w : Woven) (size : ℕ) (datas : List (List ℕ)) (c : Class) → HasParity w.lattice c → last_fence w.lattice.fences < w.lattice.n → w.size ≡ size → AreStrandSums w datas
    → value_at w.lattice size datas w.lattice.n c ≡ head_of w c (strand_of w.lattice c w.lattice.n)
parity_is w size datas c parity after same sums = ap (λ (k : ℕ). value_at w.lattice k datas w.lattice.n c) (sym same) ∙ sym (parity-value w datas c parity after sums)

-- what was woven of a data list goes on with one block more
pub values_step : LongerDataKeepValues → (shape : Shape) (l : Lattice) (v w : Woven) (datas more digests : List (List ℕ)) (x : List ℕ)
    → Weaves v w x → length x ≡ v.size → All (λ (b : ℕ). b < 2 ^ 8) x → w.lattice.alpha ≡ shape.alpha
    → IsWovenOf shape l v datas more digests
    → IsWovenOf shape l w datas (more ++ x ∷ []) (digests ++ map (last_digest w x) (Datum ∷ classes w.lattice))
values_step longer shape l v w datas more digests x weaves wide each alpha is =
    let ds : List (List ℕ) = digests ++ map (last_digest w x) (Datum ∷ classes w.lattice) in
    let now : AreStrandSums w ((datas ++ more) ++ x ∷ []) = sums-step v w x (datas ++ more) wide each weaves is.sums in
    let assoc : (datas ++ more) ++ x ∷ [] ≡ datas ++ (more ++ x ∷ []) = append_assoc datas more (x ∷ []) in
    let size : w.size ≡ shape.block = weaves.size ∙ is.size in
    let nodes : w.lattice.n ≡ v.lattice.n + 1 = weaves.grown.nodes in
    let before : v.lattice.n ≡ l.n + length more = is.grown.nodes in
    let long : length (datas ++ more) ≡ v.lattice.n = is.sums.is_data.long in
    let joined : last_fence w.lattice.fences < w.lattice.n = step-joined v.lattice w.lattice weaves.grown in
    let last : (c : Class) → class_number c ≤ shape.alpha → value_of w.lattice shape.block ((datas ++ more) ++ x ∷ []) (block_of w.lattice.n c) ≡ last_payload w x c =
    elim [
      | Datum ↦ λ used. datum-last shape.block (datas ++ more) x w.lattice.n (omega (arith, nodes, long))
      | Horiz ↦ λ used. parity_is w shape.block ((datas ++ more) ++ x ∷ []) Horiz (record { parity = omega arith; used = omega (arith, used, alpha) }) joined size now
      | Right ↦ λ used. parity_is w shape.block ((datas ++ more) ++ x ∷ []) Right (record { parity = omega arith; used = omega (arith, used, alpha) }) joined size now
      | Left ↦ λ used. parity_is w shape.block ((datas ++ more) ++ x ∷ []) Left (record { parity = omega arith; used = omega (arith, used, alpha) }) joined size now
    ] in
    record {
      grown = record {
        shape = record { alpha = weaves.grown.shape.alpha ∙ is.grown.shape.alpha; s = weaves.grown.shape.s ∙ is.grown.shape.s; p = weaves.grown.shape.p ∙ is.grown.shape.p };
        nodes = omega (arith, nodes, before, length-append more (x ∷ []));
        fences = weaves.grown.fences ∙ is.grown.fences;
      };
      size = size;
      sums = subst (AreStrandSums w) assoc now;
      digests_are = subst (λ (d : List (List ℕ)). AreDigestsOn shape l.n w.lattice.n (value_of w.lattice shape.block d) ds) assoc
          (digests-push shape l.n v w x (value_of v.lattice shape.block (datas ++ more)) (value_of w.lattice shape.block ((datas ++ more) ++ x ∷ [])) digests nodes alpha (omega (arith, before))
          (λ b on. longer v.lattice w.lattice (grown-continues v.lattice w.lattice (v.lattice.n + 1) weaves.grown (omega arith)) shape.block (datas ++ more) (x ∷ []) long b
          (record { first = (let a = on.after in omega (arith, a)); last = on.most; used = (let u = on.used in let e = weaves.grown.shape.alpha in omega (arith, u, e, alpha)) }))
          last is.digests_are);
    }

-- blocks that are intact by their digests, and those of one node more
pub intact_step : CellsHaveLengths → CellsHaveParts → (reveals : Type 0) (shape : Shape) (before : ℕ) (v w : Woven) (x : List ℕ) (digests : List (List ℕ)) (old new : Files) → w.lattice.n ≡ v.lattice.n + 1 → w.lattice.alpha ≡ shape.alpha → before ≤ v.lattice.n
    → (reveals → (b : BlockId) (digest : List ℕ) → IsBlockOn shape before v.lattice.n b → IsIntact shape b digest old → IsIntact shape b digest new)
    → (reveals → AreLastAtHome shape w x new)
    → ((c : Class) → class_number c ≤ shape.alpha → length (last_payload w x c) ≡ shape.block)
    → AreIntactOn reveals shape before v.lattice.n digests old → AreIntactOn reveals shape before w.lattice.n (digests ++ map (last_digest w x) (Datum ∷ classes w.lattice)) new
intact_step lengths parts reveals shape before v w x digests old new nodes alpha within stays cells wide are =
    let more = map (last_digest w x) (Datum ∷ classes w.lattice) in
    record {
      long = digests-long shape before v w x digests nodes alpha within are.long;
      each = λ revealed b on. ⊎_elim
          (λ gt.
          let node : b.node ≡ w.lattice.n = (let most = on.most in omega (arith, gt, most, nodes)) in
          let here : IsIntact shape (block_of w.lattice.n b.class) (last_digest w x b.class) new =
          (stands lengths parts shape (block_of w.lattice.n b.class) (last_digest w x b.class) (last_payload w x b.class) new (wide b.class on.used) refl (cells revealed b.class on.used)).intact in
          subst (λ (d : List ℕ). IsIntact shape b d new) (sym (digest-after shape before v w x digests nodes alpha within are.long b node on.used))
          (subst (λ (i : ℕ). IsIntact shape (block_of i b.class) (last_digest w x b.class) new) (sym node) here))
          (λ le.
          let here : IsBlockOn shape before v.lattice.n b = record { after = on.after; most = le; used = on.used } in
          subst (λ (d : List ℕ). IsIntact shape b d new) (sym (digest-before shape before v w x digests nodes alpha within are.long b here))
          (stays revealed b _ here (are.each revealed b here)))
          (cases_lt v.lattice.n b.node);
    }
