-- The archive whose blocks were altered: which of them are intact, what they hold, and that the damage is plain.
use Rattle.std.proofs.Common.{◌≡◌, ℕ, ◌+◌, ◌*◌, ◌≤◌, Bool, true, false, cond, List, ◌++◌, length, take, replicate, refl, sym, ◌∙◌, ap, subst, arith}
use Rattle.std.specs.Prelude.{not, ◌&&◌}
use Rattle.std.proofs.lemmas.Bool.{false≢true}
use Rattle.std.proofs.Math.Seq.{take-append_seam}
use Rattle.std.proofs.lemmas.Slice.Eq.{bytes_eq-Decides}
use Rattle.aea_lattice.specs.declared.blocks.BlockId.{BlockId}
use Rattle.aea_lattice.specs.declared.shape.Shape.{Shape}
use Rattle.aea_lattice.specs.Blocks.{HasBlock, number_of}
use Rattle.aea_lattice.specs.Data.{value_of}
use Rattle.aea_disk.specs.Files.{Files}
use Rattle.aea_envelope.specs.Cells.{head_of, block_digest, cell_of}
use Rattle.aea_envelope.specs.Facts.{CellsHaveLengths, CellsHaveParts}
use Rattle.aea_envelope.proofs.CellLemmas.{parts_of_cell}
use Rattle.aea_shelf.specs.Places.{cell_size, home_file, home_place, home_bytes, padded_home, HasAtHome}
use Rattle.aea_shelf.specs.Intact.{IsRecorded}
use Rattle.aea_shelf.proofs.Cells.{at_home}
use Rattle.aea_ledger.specs.Values.{Opened}
use Rattle.aea_archive.specs.Blocks.{recorded_in, IsIntactBy, RevealsSurvivors}
use Rattle.aea_archive.specs.Data.{AreSurvivorsHonest, IsDamagePlain}
use Rattle.aea_archive.proofs.Honest.{StandsAtHome, stands}
use Rattle.aea_rehearse.specs.Generator.{state_after, strikes}
use Rattle.aea_rehearse.specs.Rehearsed.{flipped, flipped_cell, keeps_digest, block_state, woven_payload, is_unaltered, left_cell}
use Rattle.aea_rehearse.specs.Building.{AreRecordedPayloads, AreLeft}
use Rattle.aea_rehearse.specs.Altered.{IsAlteredAt}
use Rattle.aea_rehearse.proofs.States.{state-more}
use Rattle.aea_rehearse.proofs.Turning.{length-flipped_cell}

-- a flipped cell at a home
pub record IsFlipped (shape : Shape) (b : BlockId) (payload : List ℕ) (c : Files) : Type 0 where
  pub here : HasAtHome shape b (flipped_cell b payload) c
  pub differs : keeps_digest b payload ≡ false

-- each home has its cell, or, of an altered block, the flipped one
pub record IsStruck (v : Opened) (known : BlockId → Bool) (payload : BlockId → List ℕ) (c : Files) : Type 0 where
  pub recorded : AreRecordedPayloads v payload
  pub known_at : (b : BlockId) → HasBlock v.lattice b → known b ≡ true → HasAtHome v.shape b (cell_of b (payload b)) c
  pub other_at : (b : BlockId) → HasBlock v.lattice b → known b ≡ false → IsFlipped v.shape b (payload b) c

known_by : (s k : Bool) (one two : List ℕ) (P : List ℕ → Type 0) → P (cond (s && not k) one two) → not (s && not k) ≡ true → P two
known_by true true one two P has is = has
known_by true false one two P has is = absurd (false≢true is)
known_by false k one two P has is = has

other_by : (s k : Bool) (one two : List ℕ) (P : List ℕ → Type 0) → P (cond (s && not k) one two) → not (s && not k) ≡ false → P one × (k ≡ false)
other_by true true one two P has is = absurd (false≢true (sym is))
other_by true false one two P has is = (has, refl)
other_by false k one two P has is = absurd (false≢true (sym is))

-- what was gone through, by the number from which the generator began
pub left_by_number : (v : Opened) (number permille : ℕ) (c : Files) → AreLeft v (state_after number (v.lattice.n * 512)) permille (woven_payload v.shape v.lattice number) c
    → (b : BlockId) → HasBlock v.lattice b → HasAtHome v.shape b (left_cell v.shape v.lattice number permille b) c
left_by_number v number permille c left b has =
    let payload = woven_payload v.shape v.lattice number in
    let state = ap (strikes permille) (state-more number (v.lattice.n * 512) (number_of v.lattice b + 1)) in
    let cell = ap (λ (s : Bool). cond (s && not (keeps_digest b (payload b))) (flipped_cell b (payload b)) (cell_of b (payload b))) state in
    subst (λ (xs : List ℕ). HasAtHome v.shape b xs c) cell (left b has)

-- so it is when all blocks were gone through
pub is_struck : (v : Opened) (number permille : ℕ) (c : Files) → IsAlteredAt number permille v.shape v.lattice v.digests c
    → IsStruck v (is_unaltered v.shape v.lattice number permille) (woven_payload v.shape v.lattice number) c
is_struck v number permille c at =
    let payload = woven_payload v.shape v.lattice number in
    record {
      recorded = record { wide = at.wide; digests = at.recorded };
      known_at = λ b has is. known_by (strikes permille (block_state v.lattice number b)) (keeps_digest b (payload b)) (flipped_cell b (payload b)) (cell_of b (payload b)) (λ xs. HasAtHome v.shape b xs c) (at.left b has) is;
      other_at = λ b has is.
          let both = other_by (strikes permille (block_state v.lattice number b)) (keeps_digest b (payload b)) (flipped_cell b (payload b)) (cell_of b (payload b)) (λ xs. HasAtHome v.shape b xs c) (at.left b has) is in
          record { here = both.0; differs = both.1 };
    }

-- a flipped cell is no cell with the digest that is recorded
flipped_bad : CellsHaveLengths → (b : BlockId) (payload recorded : List ℕ) → block_digest b payload ≡ recorded → keeps_digest b payload ≡ false → IsRecorded b recorded (flipped_cell b payload) → ⊥
flipped_bad lengths b payload recorded digest differs is =
    let same = parts_of_cell b (head_of b) (flipped payload) (block_digest b payload) is.payload (lengths b payload).0 (lengths b payload).1 is.cell in
    let keeps : block_digest b (flipped payload) ≡ block_digest b payload = ap (block_digest b) same.middle ∙ is.digest ∙ sym digest in
    false≢true (sym differs ∙ (bytes_eq-Decides (block_digest b (flipped payload)) (block_digest b payload)).1 keeps)

-- the bytes of a home that is whole are the same with zeros past the end
padded_whole : (shape : Shape) (b : BlockId) (bytes : List ℕ) (c : Files) → length bytes ≡ cell_size shape → home_bytes shape b c ≡ bytes → padded_home shape b c ≡ bytes
padded_whole shape b bytes c long same =
    ap (λ (xs : List ℕ). take (cell_size shape) (xs ++ replicate (cell_size shape) 0)) same
    ∙ ap (λ (n : ℕ). take n (bytes ++ replicate (cell_size shape) 0)) (sym long)
    ∙ take-append_seam bytes (replicate (cell_size shape) 0)

module _ (lengths : CellsHaveLengths) (parts : CellsHaveParts) (v : Opened) (known : BlockId → Bool) (payload : BlockId → List ℕ) (c : Files) (struck : IsStruck v known payload c) where
  known_stands : (b : BlockId) → HasBlock v.lattice b → known b ≡ true → StandsAtHome v.shape b (recorded_in v.shape v.digests b) (payload b) c
  known_stands b has is =
      stands lengths parts v.shape b (recorded_in v.shape v.digests b) (payload b) c (struck.recorded.wide b has) (struck.recorded.digests b has) (struck.known_at b has is)

  -- what is at the home of an altered block
  other_home : (b : BlockId) → HasBlock v.lattice b → known b ≡ false → (home_bytes v.shape b c ≡ flipped_cell b (payload b)) × (home_place v.shape b + cell_size v.shape ≤ length (c (home_file v.shape b)))
  other_home b has is =
      let wide = struck.recorded.wide b has in
      at_home v.shape b (flipped_cell b (payload b)) c (omega (arith, wide, length-flipped_cell lengths b (payload b))) (struck.other_at b has is).here

  other_bad : (b : BlockId) → HasBlock v.lattice b → known b ≡ false → IsRecorded b (recorded_in v.shape v.digests b) (flipped_cell b (payload b)) → ⊥
  other_bad b has is recorded = flipped_bad lengths b (payload b) (recorded_in v.shape v.digests b) (struck.recorded.digests b has) (struck.other_at b has is).differs recorded

  intact_known : (b : BlockId) → HasBlock v.lattice b → IsIntactBy v.shape v.digests c b → (x : Bool) → known b ≡ x → x ≡ true
  intact_known b has intact true is = refl
  intact_known b has intact false is = absurd (other_bad b has is (subst (IsRecorded b (recorded_in v.shape v.digests b)) (other_home b has is).0 intact.here))

  -- the unaltered blocks are the intact ones
  pub struck_reveals : v.lattice.alpha ≡ v.shape.alpha → RevealsSurvivors v.shape v.lattice.n v.digests c known
  struck_reveals alpha b inside =
      let has : HasBlock v.lattice b = record { first = inside.after; last = inside.most; used = (let used = inside.used in omega (arith, used, alpha)) } in
      (λ is. (known_stands b has is).intact, λ intact. intact_known b has intact (known b) refl)

  -- they hold the payloads as they were woven
  pub struck_honest : (datas : List (List ℕ)) → ((b : BlockId) → payload b ≡ value_of v.lattice v.shape.block datas b) → AreSurvivorsHonest v.shape v.lattice v.digests datas c
  struck_honest datas same b has intact = (known_stands b has (intact_known b has intact (known b) refl)).payload_is ∙ same b

  plain_by : (b : BlockId) → HasBlock v.lattice b → IsRecorded b (recorded_in v.shape v.digests b) (padded_home v.shape b c) → (x : Bool) → known b ≡ x → IsIntactBy v.shape v.digests c b
  plain_by b has recorded true is = (known_stands b has is).intact
  plain_by b has recorded false is =
      let wide = struck.recorded.wide b has in
      let padded = padded_whole v.shape b (flipped_cell b (payload b)) c (omega (arith, wide, length-flipped_cell lengths b (payload b))) (other_home b has is).0 in
      absurd (other_bad b has is (subst (IsRecorded b (recorded_in v.shape v.digests b)) padded recorded))

  -- and the damage is plain
  pub struck_plain : IsDamagePlain v.shape v.lattice v.digests c
  struck_plain b has recorded = plain_by b has recorded (known b) refl
