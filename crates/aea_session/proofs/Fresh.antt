-- Digests of new nodes that are gathered in a list of their own, and put after those of the nodes before.
use Rattle.std.proofs.Common.{◌≡◌, ⊎_elim, ℕ, ◌+◌, ◌-◌, ◌*◌, ◌<◌, ◌≤◌, List, [], ◌++◌, length, get_or, refl, sym, ◌∙◌, ap, subst, arith, length-append, append_assoc}
use native.Mathlib.Nat.{add-mul, mul_comm}
use Rattle.std.proofs.lemmas.Nat.{mul-add-lt}
use Rattle.std.proofs.lemmas.Bool.{cases_lt}
use Rattle.std.proofs.lemmas.List.{append-nil, get_or-append_right, get_or_append_left}
use Rattle.aea_lattice.specs.declared.blocks.BlockId.{BlockId}
use Rattle.aea_lattice.specs.declared.grid.Lattice.{Lattice}
use Rattle.aea_lattice.specs.declared.shape.Shape.{Shape}
use Rattle.aea_lattice.specs.Blocks.{class_number}
use Rattle.aea_lattice.specs.Shapes.{number_in}
use Rattle.aea_lattice.specs.Data.{value_of}
use Rattle.aea_envelope.specs.Cells.{block_digest}
use Rattle.aea_disk.specs.Files.{Files}
use Rattle.aea_shelf.specs.Intact.{IsIntact}
use Rattle.aea_weave.specs.Woven.{Woven}
use Rattle.aea_weave.specs.Sums.{AreStrandSums, LongerDataKeepValues}
use Rattle.aea_archive.specs.Blocks.{IsBlockOn}
use Rattle.aea_archive.specs.Next.{AreDigestsOn}
use Rattle.aea_archive.proofs.Values.{grown-continues}
use Rattle.aea_append.specs.Weaving.{IsWovenOf, AreIntactOn}
use Rattle.aea_uploads.specs.declared.slot.Slot.{Slot}
use Rattle.aea_uploads.specs.Gathering.{Gathers}

-- ---- places

-- the place of a digest among those after n nodes
place_of : (q n i c : ℕ) → n < i → (i - 1) * q + c - n * q ≡ (i - 1 - n) * q + c
place_of q n i c after =
    let split : i - 1 ≡ n + (i - 1 - n) = omega (arith, after) in
    let e : (i - 1) * q ≡ n * q + (i - 1 - n) * q = ap (λ (k : ℕ). k * q) split ∙ add-mul n (i - 1 - n) q in
    omega (arith, e)

module _ (shape : Shape) (n m : ℕ) (digests more : List (List ℕ)) (long : length digests ≡ (m - n) * (1 + shape.alpha)) where
  -- the digest of a block of the nodes before
  pub digest-early : (b : BlockId) → IsBlockOn shape n m b → get_or (digests ++ more) (number_in shape b - n * (1 + shape.alpha)) [] ≡ get_or digests (number_in shape b - n * (1 + shape.alpha)) []
  digest-early b on =
      let place = place_of (1 + shape.alpha) n b.node (class_number b.class) on.after in
      let inside : (b.node - 1 - n) * (1 + shape.alpha) + class_number b.class < (1 + shape.alpha) * (m - n) =
      mul-add-lt (b.node - 1 - n) (1 + shape.alpha) (class_number b.class) (m - n) (let after = on.after in let most = on.most in omega (arith, after, most)) (let used = on.used in omega (arith, used)) in
      let flipped : (1 + shape.alpha) * (m - n) ≡ (m - n) * (1 + shape.alpha) = mul_comm (1 + shape.alpha) (m - n) in
      get_or_append_left digests more [] (number_in shape b - n * (1 + shape.alpha)) (omega (arith, place, inside, flipped, long))

  -- the digest of a block of the new nodes
  pub digest-late : n ≤ m → (b : BlockId) → m < b.node → get_or (digests ++ more) (number_in shape b - n * (1 + shape.alpha)) [] ≡ get_or more (number_in shape b - m * (1 + shape.alpha)) []
  digest-late within b after =
      let first = place_of (1 + shape.alpha) n b.node (class_number b.class) (omega (arith, within, after)) in
      let second = place_of (1 + shape.alpha) m b.node (class_number b.class) after in
      let split : (b.node - 1 - n) * (1 + shape.alpha) ≡ (m - n) * (1 + shape.alpha) + (b.node - 1 - m) * (1 + shape.alpha) =
      ap (λ (k : ℕ). k * (1 + shape.alpha)) (let e : b.node - 1 - n ≡ (m - n) + (b.node - 1 - m) = omega (arith, within, after) in e)
      ∙ add-mul (m - n) (b.node - 1 - m) (1 + shape.alpha) in
      let rest : number_in shape b - n * (1 + shape.alpha) - length digests ≡ number_in shape b - m * (1 + shape.alpha) = omega (arith, first, second, split, long) in
      get_or-append_right digests more (length digests) (number_in shape b - n * (1 + shape.alpha)) [] refl (omega (arith, first, split, long))
      ∙ ap (λ (j : ℕ). get_or more j []) rest

-- the numbers of digests add up
pub longs : (n m k q : ℕ) (digests more : List (List ℕ)) → n ≤ m → m ≤ k → length digests ≡ (m - n) * q → length more ≡ (k - m) * q → length (digests ++ more) ≡ (k - n) * q
longs n m k q digests more within later long also =
    let split : (k - n) * q ≡ (m - n) * q + (k - m) * q = ap (λ (i : ℕ). i * q) (let e : k - n ≡ (m - n) + (k - m) = omega (arith, within, later) in e) ∙ add-mul (m - n) (k - m) q in
    omega (arith, length-append digests more, long, also, split)

-- ---- at first there is no new node

-- no digest
none_digests : (shape : Shape) (n : ℕ) (payload : BlockId → List ℕ) → AreDigestsOn shape n n payload []
none_digests shape n payload = record {
  long = (let z : n - n ≡ 0 = omega arith in let e : 0 * (1 + shape.alpha) ≡ 0 = omega arith in sym (ap (λ (k : ℕ). k * (1 + shape.alpha)) z ∙ e));
  each = λ b on. absurd (let after = on.after in let most = on.most in omega (arith, after, most));
}

-- nor a block that is to be intact
none_intact : (reveals : Type 0) (shape : Shape) (n : ℕ) (c : Files) → AreIntactOn reveals shape n n [] c
none_intact reveals shape n c = record {
  long = (let z : n - n ≡ 0 = omega arith in let e : 0 * (1 + shape.alpha) ≡ 0 = omega arith in sym (ap (λ (k : ℕ). k * (1 + shape.alpha)) z ∙ e));
  each = λ revealed b on. absurd (let after = on.after in let most = on.most in omega (arith, after, most));
}

-- heads that go on from a data list, and then from all of it
again : (shape : Shape) (l : Lattice) (v : Woven) (datas woven digests : List (List ℕ)) → IsWovenOf shape l v datas woven digests → IsWovenOf shape v.lattice v (datas ++ woven) [] []
again shape l v datas woven digests is = record {
  grown = record { shape = record { alpha = refl; s = refl; p = refl }; nodes = omega arith; fences = refl };
  size = is.size;
  sums = subst (AreStrandSums v) (sym (append-nil (datas ++ woven))) is.sums;
  digests_are = none_digests shape v.lattice.n (value_of v.lattice shape.block ((datas ++ woven) ++ []));
}

-- ---- both lists

-- what was woven of a data list, and what was woven after all of it
woven_both : LongerDataKeepValues → (shape : Shape) (l : Lattice) (v w : Woven) (datas woven filled digests more : List (List ℕ)) → v.lattice.alpha ≡ shape.alpha
    → IsWovenOf shape l v datas woven digests → IsWovenOf shape v.lattice w (datas ++ woven) filled more
    → IsWovenOf shape l w datas (woven ++ filled) (digests ++ more)
woven_both longer shape l v w datas woven filled digests more alpha one two =
    let first : v.lattice.n ≡ l.n + length woven = one.grown.nodes in
    let second : w.lattice.n ≡ v.lattice.n + length filled = two.grown.nodes in
    let within : l.n ≤ v.lattice.n = omega (arith, first) in
    let assoc : (datas ++ woven) ++ filled ≡ datas ++ (woven ++ filled) = append_assoc datas woven filled in
    let count : length (datas ++ woven) ≡ v.lattice.n = one.sums.is_data.long in
    let continues = grown-continues v.lattice w.lattice (v.lattice.n + length filled) two.grown (omega arith) in
    record {
      grown = record {
        shape = record { alpha = two.grown.shape.alpha ∙ one.grown.shape.alpha; s = two.grown.shape.s ∙ one.grown.shape.s; p = two.grown.shape.p ∙ one.grown.shape.p };
        nodes = omega (arith, first, second, length-append woven filled);
        fences = two.grown.fences ∙ one.grown.fences;
      };
      size = two.size;
      sums = subst (AreStrandSums w) assoc two.sums;
      digests_are = subst (λ (d : List (List ℕ)). AreDigestsOn shape l.n w.lattice.n (value_of w.lattice shape.block d) (digests ++ more)) assoc (record {
        long = longs l.n v.lattice.n w.lattice.n (1 + shape.alpha) digests more within (omega (arith, second)) one.digests_are.long two.digests_are.long;
        each = λ b on. ⊎_elim
            (λ gt.
            digest-late shape l.n v.lattice.n digests more one.digests_are.long within b gt
            ∙ two.digests_are.each b (record { after = gt; most = on.most; used = on.used }))
            (λ le.
            let here : IsBlockOn shape l.n v.lattice.n b = record { after = on.after; most = le; used = on.used } in
            digest-early shape l.n v.lattice.n digests more one.digests_are.long b here
            ∙ one.digests_are.each b here
            ∙ ap (block_digest b) (sym (longer v.lattice w.lattice continues shape.block (datas ++ woven) filled count b
            (record { first = (let a = on.after in omega (arith, a)); last = le; used = (let u = on.used in omega (arith, u, alpha)) }))))
            (cases_lt v.lattice.n b.node);
      });
    }

-- blocks that are intact, and those of new nodes
intact_both : (reveals : Type 0) (shape : Shape) (before mid last : ℕ) (digests more : List (List ℕ)) (old new : Files) → before ≤ mid → mid ≤ last
    → (reveals → (b : BlockId) (digest : List ℕ) → IsBlockOn shape before mid b → IsIntact shape b digest old → IsIntact shape b digest new)
    → AreIntactOn reveals shape before mid digests old → AreIntactOn reveals shape mid last more new → AreIntactOn reveals shape before last (digests ++ more) new
intact_both reveals shape before mid last digests more old new within later stays one two = record {
  long = longs before mid last (1 + shape.alpha) digests more within later one.long two.long;
  each = λ revealed b on. ⊎_elim
      (λ gt.
      subst (λ (d : List ℕ). IsIntact shape b d new) (sym (digest-late shape before mid digests more one.long within b gt))
      (two.each revealed b (record { after = gt; most = on.most; used = on.used })))
      (λ le.
      let here : IsBlockOn shape before mid b = record { after = on.after; most = le; used = on.used } in
      subst (λ (d : List ℕ). IsIntact shape b d new) (sym (digest-early shape before mid digests more one.long b here))
      (stays revealed b _ here (one.each revealed b here)))
      (cases_lt mid b.node);
}

-- ---- bytes that join an upload

module _ (reveals : Type 0) (shape : Shape) (bytes : List ℕ) (v w : Woven) (s t : Slot) (digests fresh : List (List ℕ)) (old new : Files) (g : Gathers reveals shape bytes v w s t [] fresh old new) where
  -- the new nodes have as many digests as blocks
  pub fresh-counted : length (digests ++ fresh) ≡ length digests + (w.lattice.n - v.lattice.n) * (1 + shape.alpha)
  fresh-counted =
      let long : length fresh ≡ (w.lattice.n - v.lattice.n) * (1 + shape.alpha) = (g.intact v.lattice.n (omega arith) (none_intact reveals shape v.lattice.n old)).long in
      omega (arith, length-append digests fresh, long)

  -- with their digests after the others, as if they had been put there
  pub fresh-gathers : LongerDataKeepValues → v.lattice.alpha ≡ shape.alpha
      → (reveals → (b : BlockId) (digest : List ℕ) → IsBlockOn shape 0 v.lattice.n b → IsIntact shape b digest old → IsIntact shape b digest new)
      → Gathers reveals shape bytes v w s t digests (digests ++ fresh) old new
  fresh-gathers longer alpha stays = record {
    filled = g.filled;
    wide = g.wide;
    grown = g.grown;
    size = g.size;
    sum = g.sum;
    room = g.room;
    values = λ l datas woven is. woven_both longer shape l v w datas woven g.filled digests fresh alpha is
        (g.values v.lattice (datas ++ woven) [] (again shape l v datas woven digests is));
    intact = λ before within are. intact_both reveals shape before v.lattice.n w.lattice.n digests fresh old new within (let n = g.grown.nodes in omega (arith, n))
        (λ revealed b digest on intact. stays revealed b digest (record { after = (let a = on.after in omega (arith, a)); most = on.most; used = on.used }) intact)
        are (g.intact v.lattice.n (omega arith) (none_intact reveals shape v.lattice.n old));
    keeps = g.keeps;
  }
