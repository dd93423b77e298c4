-- Payloads that are at homes, and survivors that stay honest while blocks are added.
use Rattle.std.proofs.Common.{◌≡◌, ⊎_elim, ℕ, ◌+◌, ◌-◌, ◌*◌, ◌<◌, ◌≤◌, List, [], ◌++◌, length, take, drop, get_or, refl, sym, ◌∙◌, ap, subst, arith}
use Rattle.std.proofs.Math.Nat.{mul-le-mul_right}
use Rattle.std.proofs.lemmas.Bool.{cases_lt}
use Rattle.std.proofs.lemmas.List.{get_or_append_left, get_or-append_right}
use Rattle.aea_lattice.specs.declared.blocks.BlockId.{BlockId}
use Rattle.aea_lattice.specs.declared.grid.Lattice.{Lattice}
use Rattle.aea_lattice.specs.declared.shape.Shape.{Shape}
use Rattle.aea_lattice.specs.Blocks.{class_number, HasBlock}
use Rattle.aea_lattice.specs.Shapes.{IsBlockOf, number_in}
use Rattle.aea_lattice.proofs.Equations.{number_below}
use Rattle.aea_envelope.specs.Cells.{block_digest, cell_of}
use Rattle.aea_envelope.specs.Facts.{CellsHaveLengths, CellsHaveParts}
use Rattle.aea_disk.specs.Files.{Files}
use Rattle.aea_shelf.specs.Places.{cell_size, home_bytes, padded_home, HasAtHome}
use Rattle.aea_shelf.specs.Intact.{IsRecorded, IsIntact, payload_in}
use Rattle.aea_shelf.specs.Facts.{PlainDamageStays}
use Rattle.aea_shelf.proofs.Cells.{intact_of, at_home, padded_intact}
use Rattle.aea_weave.specs.Sums.{LongerDataKeepValues}
use Rattle.aea_archive.specs.Blocks.{IsBlockOn, recorded_in}
use Rattle.aea_archive.specs.Next.{AreDigestsOn}
use Rattle.aea_archive.specs.Laws.{LastsAreValues, SurvivorsStayHonest}
use Rattle.aea_archive.proofs.Values.{grown-continues}

-- what is at a home: a block that is intact, and its payload
pub record StandsAtHome (shape : Shape) (b : BlockId) (recorded payload : List ℕ) (c : Files) : Type 0 where
  pub intact : IsIntact shape b recorded c
  pub payload_is : payload_in shape (home_bytes shape b c) ≡ payload

-- a block whose cell is at its home, with the recorded digest and a payload of a block's size, is intact and
-- has this payload there
pub stands : CellsHaveLengths → CellsHaveParts → (shape : Shape) (b : BlockId) (recorded payload : List ℕ) (c : Files) → length payload ≡ shape.block → block_digest b payload ≡ recorded → HasAtHome shape b (cell_of b payload) c
    → StandsAtHome shape b recorded payload c
stands lengths parts shape b recorded payload c wide digest here =
    let size : length (cell_of b payload) ≡ cell_size shape = (let long = (lengths b payload).2 in omega (arith, long, wide)) in
    let at = at_home shape b (cell_of b payload) c size here in
    record {
      intact = intact_of shape b recorded (cell_of b payload) c size here (record { payload = payload; cell = refl; digest = digest });
      payload_is = ap (λ (l : List ℕ). take shape.block (drop 16 l)) at.0
          ∙ ap (λ (n : ℕ). take n (drop 16 (cell_of b payload))) (sym wide)
          ∙ (parts b payload).1;
    }

-- last parities with the recorded digests, whose cells are at their homes, have the payloads of the lattice of
-- each data list for which they are honest
pub lasts_are_values : CellsHaveLengths → CellsHaveParts → LastsAreValues
lasts_are_values lengths parts shape l digests datas payload c honest recorded home wide b last =
    let here = stands lengths parts shape b (recorded_in shape digests b) (payload b) c (wide b last) (recorded b last) (home b last) in
    sym here.payload_is ∙ honest b last here.intact

module _ (lengths : CellsHaveLengths) (parts : CellsHaveParts) (damage : PlainDamageStays) (longer : LongerDataKeepValues) where
  -- the digest of a block before, and of a new one
  recorded-old : (shape : Shape) (l : Lattice) (digests ds : List (List ℕ)) (b : BlockId) → l.alpha ≡ shape.alpha → length digests ≡ l.n * (1 + shape.alpha) → HasBlock l b → recorded_in shape (digests ++ ds) b ≡ recorded_in shape digests b
  recorded-old shape l digests ds b alpha long has =
      let below = number_below l b has in
      let number = ap (λ (a : ℕ). (b.node - 1) * (1 + a) + class_number b.class) alpha in
      let count = ap (λ (a : ℕ). l.n * (1 + a)) alpha in
      get_or_append_left digests ds [] (number_in shape b) (omega (arith, below, number, count, long))

  recorded-new : (shape : Shape) (l m : Lattice) (digests ds : List (List ℕ)) (payload : BlockId → List ℕ) (b : BlockId) → length digests ≡ l.n * (1 + shape.alpha) → AreDigestsOn shape l.n m.n payload ds → IsBlockOn shape l.n m.n b
      → block_digest b (payload b) ≡ recorded_in shape (digests ++ ds) b
  recorded-new shape l m digests ds payload b long are on =
      let after = on.after in
      let rows : l.n * (1 + shape.alpha) ≤ (b.node - 1) * (1 + shape.alpha) = mul-le-mul_right (1 + shape.alpha) (let e : l.n ≤ b.node - 1 = omega (arith, after) in e) in
      sym (get_or-append_right digests ds (length digests) (number_in shape b) [] refl (omega (arith, rows, long))
      ∙ ap (λ (n : ℕ). get_or ds (number_in shape b - n) []) long
      ∙ are.each b on)

  -- survivors that are honest, in plain damage, are so after blocks were added, where the old homes stay and the
  -- new ones have their cells
  pub survivors_stay_honest : SurvivorsStayHonest
  survivors_stay_honest shape l m digests ds datas more payload c d grown le alpha long counted values wide are cells padded intact honest plain =
      let inside : (b : BlockId) → HasBlock m b → b.node ≤ l.n → HasBlock l b =
      λ b has old. record { first = has.first; last = old; used = (let u = has.used in let e = grown.shape.alpha in omega (arith, u, e)) } in
      let new_on : (b : BlockId) → HasBlock m b → l.n < b.node → IsBlockOn shape l.n m.n b =
      λ b has new. record { after = new; most = has.last; used = (let u = has.used in let e = grown.shape.alpha in omega (arith, u, e, alpha)) } in
      let of_shape : (b : BlockId) → HasBlock m b → IsBlockOf shape b =
      λ b has. record { first = has.first; last = (let x = has.last in let range = m.in_range in omega (arith, x, range)); used = (let u = has.used in let e = grown.shape.alpha in omega (arith, u, e, alpha)) } in
      let old_in : (b : BlockId) → HasBlock m b → b.node ≤ l.n → IsBlockOn shape 0 l.n b =
      λ b has old. record { after = has.first; most = old; used = (let u = has.used in let e = grown.shape.alpha in omega (arith, u, e, alpha)) } in
      let here : (b : BlockId) (has : HasBlock m b) (new : l.n < b.node) → StandsAtHome shape b (recorded_in shape (digests ++ ds) b) (payload b) d =
      λ b has new. stands lengths parts shape b (recorded_in shape (digests ++ ds) b) (payload b) d (wide b (new_on b has new)) (recorded-new shape l m digests ds payload b counted are (new_on b has new)) (cells b (new_on b has new)) in (
        λ b has is. ⊎_elim
            (λ new. (here b has new).payload_is ∙ values b (new_on b has new))
            (λ old.
            let has_l = inside b has old in
            let same = padded b (of_shape b has) (old_in b has old) in
            let now : IsIntact shape b (recorded_in shape digests b) d = subst (λ (r : List ℕ). IsIntact shape b r d) (recorded-old shape l digests ds b alpha counted has_l) is in
            let was : IsIntact shape b (recorded_in shape digests b) c = damage l shape (recorded_in shape digests) c d plain b has_l same now in
            let bytes : home_bytes shape b d ≡ home_bytes shape b c = sym (padded_intact shape b (recorded_in shape digests b) d now) ∙ same ∙ padded_intact shape b (recorded_in shape digests b) c was in
            ap (payload_in shape) bytes ∙ honest b has_l was
            ∙ sym (longer l m (grown-continues l m m.n grown le) shape.block datas more long b has_l))
            (cases_lt l.n b.node),
        λ b has is. ⊎_elim
            (λ new. (here b has new).intact)
            (λ old.
            let has_l = inside b has old in
            let rec = recorded-old shape l digests ds b alpha counted has_l in
            let same = padded b (of_shape b has) (old_in b has old) in
            let was : IsRecorded b (recorded_in shape digests b) (padded_home shape b c) = subst (IsRecorded b (recorded_in shape digests b)) same (subst (λ (r : List ℕ). IsRecorded b r (padded_home shape b d)) rec is) in
            subst (λ (r : List ℕ). IsIntact shape b r d) (sym rec) (intact b (recorded_in shape digests b) (of_shape b has) (old_in b has old) (plain b has_l was)))
            (cases_lt l.n b.node),
      )
