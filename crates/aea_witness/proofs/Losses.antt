-- The archive of the witness whose first site is lost, and when it is repaired.
use Rattle.std.proofs.Common.{◌≡◌, ◌≢◌, inl, inr, ℕ, zero, suc, ◌+◌, ◌*◌, ◌≤◌, ◌==◌, Bool, List, [], ◌++◌, length, take, drop, get_or, replicate, refl, sym, ◌∙◌, ap, subst, arith, eqb-true}
use Rattle.std.proofs.lemmas.Bool.{cases_Bool, eqb-false}
use Rattle.std.proofs.lemmas.List.{take-replicate}
use Rattle.std.proofs.Math.Seq.{drop-nil}
use Rattle.aea_lattice.specs.declared.blocks.Class.TheVariants.{Datum}
use Rattle.aea_lattice.specs.declared.blocks.BlockId.{BlockId}
use Rattle.aea_lattice.specs.Blocks.{HasBlock, block_of}
use Rattle.aea_lattice.specs.Data.{Determines}
use Rattle.aea_disk.specs.Files.{Files}
use Rattle.aea_disk.specs.State.{State}
use Rattle.aea_envelope.specs.Cells.{head_of, cell_of}
use Rattle.aea_envelope.specs.Facts.{CellsHaveLengths, CellsHaveParts}
use Rattle.aea_shelf.specs.Places.{cell_size, home_file, home_place, padded_home, site_bytes}
use Rattle.aea_shelf.specs.Intact.{payload_in}
use Rattle.aea_shelf.proofs.Cells.{intact_same}
use Rattle.aea_ledger.specs.Values.{Opened}
use Rattle.aea_ledger.specs.Next.{AreItsRecords}
use Rattle.aea_archive.specs.Blocks.{recorded_in, IsIntactBy, RevealsSurvivors}
use Rattle.aea_archive.specs.Data.{AreSurvivorsHonest, IsDamagePlain}
use Rattle.aea_archive.specs.Laws.{SurvivorsAreRevealed}
use Rattle.aea_archive.specs.Next.{NewObject}
use Rattle.aea_repair.specs.declared.outcome.Outcome.{Outcome}
use Rattle.aea_fetch.specs.Puts.{datas_of}
use Rattle.aea_records.specs.Format.{fences_of}
use Rattle.aea_rehearse.specs.Altered.{IsMended}
use Rattle.aea_rehearse.specs.Checking.{IsReady}
use Rattle.aea_rehearse.specs.Rooms.{HasCellsRoom, report_room}
use Rattle.aea_rehearse.proofs.Ending.{fits_room}
use Rattle.aea_rehearse.proofs.Homes.{cells_willing, rows-short}
use Rattle.aea_witness.specs.Objects.{HasPuts}
use Rattle.aea_witness.specs.Losses.{LosesSite, IsLostAndMended}
use Rattle.aea_witness.proofs.Sites.{datum_there, all_determined}

-- zeros are no cell: a cell begins with the mark
first_byte : (b : BlockId) (payload : List ℕ) → get_or (cell_of b payload) 0 0 ≡ 65
unfolding head_of
first_byte b payload = refl

first_of_many : (n x : ℕ) → get_or (replicate n x) 0 x ≡ x
first_of_many zero x = refl
first_of_many (suc n) x = refl

zeros_no_cell : (n : ℕ) (b : BlockId) (payload : List ℕ) → replicate n 0 ≡ cell_of b payload → ⊥
zeros_no_cell n b payload same =
    let both : 0 ≡ 65 = sym (first_of_many n 0) ∙ ap (λ (xs : List ℕ). get_or xs 0 0) same ∙ first_byte b payload in
    absurd (omega (arith, both))

-- a home in a file without bytes reads as zeros
none_taken : (n : ℕ) → ◌≡◌ {A = List ℕ} (take n []) []
none_taken zero = refl
none_taken (suc n) = refl

all_same : (n at x : ℕ) → take n (take n (drop at []) ++ replicate n x) ≡ replicate n x
all_same n at x =
    ap (λ (xs : List ℕ). take n (take n xs ++ replicate n x)) (drop-nil at)
    ∙ ap (λ (xs : List ℕ). take n (xs ++ replicate n x)) (none_taken n)
    ∙ take-replicate n n x (omega arith)

module _ (lengths : CellsHaveLengths) (parts : CellsHaveParts) (revealed_law : SurvivorsAreRevealed) (v : Opened) (puts : List NewObject) (c d : Files) (p : HasPuts v puts c) (loses : LosesSite 1 c d)
    (some : 1 ≤ length puts) (few : length puts ≤ 3) where
  -- a block that is not on the first site is intact
  elsewhere : (b : BlockId) → HasBlock v.lattice b → home_file v.shape b ≢ 1 → IsIntactBy v.shape v.digests d b
  elsewhere b has other = intact_same v.shape b (recorded_in v.shape v.digests b) c d (loses.others (home_file v.shape b) other) (p.intact b has)

  -- and none that is there
  empty_there : (b : BlockId) → home_file v.shape b ≡ 1 → d (home_file v.shape b) ≡ []
  empty_there b there = ap d there ∙ loses.here

  pub not_there : (b : BlockId) → home_file v.shape b ≡ 1 → IsIntactBy v.shape v.digests d b → ⊥
  not_there b there intact =
      let within = intact.within in
      let none = ap length (empty_there b there) in
      absurd (omega (arith, within, none))

  pub datum_lost : IsIntactBy v.shape v.digests d (block_of 1 Datum) → ⊥
  datum_lost = not_there (block_of 1 Datum) (datum_there v.shape p.shape)

  -- the survivors are honest
  pub lost_honest : AreSurvivorsHonest v.shape v.lattice v.digests (datas_of v.shape puts) d
  lost_honest b has intact =
      let other : home_file v.shape b ≢ 1 = λ there. not_there b there intact in
      ap (λ (xs : List ℕ). payload_in v.shape (take (cell_size v.shape) (drop (home_place v.shape b) xs))) (loses.others (home_file v.shape b) other)
      ∙ p.honest b has (p.intact b has)

  -- the damage is plain
  padded_there : (b : BlockId) → home_file v.shape b ≡ 1 → padded_home v.shape b d ≡ replicate (cell_size v.shape) 0
  padded_there b there =
      ap (λ (xs : List ℕ). take (cell_size v.shape) (take (cell_size v.shape) (drop (home_place v.shape b) xs) ++ replicate (cell_size v.shape) 0)) (empty_there b there)
      ∙ all_same (cell_size v.shape) (home_place v.shape b) 0

  pub lost_plain : IsDamagePlain v.shape v.lattice v.digests d
  lost_plain b has recorded =
      elim (cases_Bool (home_file v.shape b == 1)) [
        | inl here ↦ absurd (zeros_no_cell (cell_size v.shape) b recorded.payload (sym (padded_there b (eqb-true (home_file v.shape b) 1 here)) ∙ recorded.cell))
        | inr other ↦ elsewhere b has (eqb-false (home_file v.shape b) 1 other)
      ]

  -- the test of the survivors
  abbrev known : BlockId → Bool
  known = (revealed_law v.shape v.lattice.n v.digests d).0

  reveals_known : RevealsSurvivors v.shape v.lattice.n v.digests d known
  reveals_known = (revealed_law v.shape v.lattice.n v.digests d).1

  -- each block is determined by them
  determined : (b : BlockId) → HasBlock v.lattice b → Determines v.lattice known b
  determined =
      let n = p.nodes in
      let alpha = p.its.has.lattice.alpha in
      all_determined v.shape v.lattice known p.shape alpha (omega (arith, n, some)) (omega (arith, n, few))
      (λ b has other.
      (reveals_known b (record { after = has.first; most = has.last; used = (let used = has.used in omega (arith, used, alpha)) })).1 (elsewhere b has other))

  -- the archive may be repaired
  pub lost_ready : (room : ℕ) (s : State) → s.files ≡ d → HasCellsRoom s → room ≡ report_room v.lattice.n → IsReady v s room
  lost_ready room s same cells space = record {
    records = p.records;
    datas = datas_of v.shape puts;
    has = p.its.has;
    recorded = p.recorded;
    honest = subst (λ (e : Files). AreSurvivorsHonest v.shape v.lattice v.digests (datas_of v.shape puts) e) (sym same) lost_honest;
    plain = subst (λ (e : Files). IsDamagePlain v.shape v.lattice v.digests e) (sym same) lost_plain;
    willing = cells_willing s cells;
    sites = λ f first last.
        let count = p.shape.sites in
        let n = p.nodes in
        cells.sites f (site_bytes v.shape v.lattice.n) first (omega (arith, last, count)) (rows-short v.shape v.lattice.n p.shape (omega (arith, n, few)));
    known = known;
    survivors = subst (λ (e : Files). RevealsSurvivors v.shape v.lattice.n v.digests e known) (sym same) reveals_known;
    fits = λ h lines report printed.
        let n = p.nodes in
        let lat = p.its.has.lattice in
        fits_room lengths parts v.lattice.n room (fences_of p.records) v h lines known p.shape
        (record { alpha = lat.alpha; s = lat.s; p = lat.p; n = refl; fences_are = lat.fences_are }) (omega (arith, n, few)) space report printed;
  }

  -- what is there when it is repaired
  pub mended_again : (bytes : List ℕ) (e : Files) (o : Outcome) → IsMended v bytes d e o → IsLostAndMended v puts bytes c e o
  mended_again bytes e o m =
      let restores = m.restores known reveals_known in
      let ledger : e 0 ≡ c 0 = m.ledger ∙ loses.others 0 (λ same. absurd (omega (arith, same))) in
      record {
        lost = d;
        loses = loses;
        damaged = datum_lost;
        honest = lost_honest;
        plain = lost_plain;
        mended = m;
        again = record {
          shape = p.shape;
          records = p.records;
          its = subst (AreItsRecords v p.records) (sym ledger) p.its;
          are = p.are;
          recorded = p.recorded;
          intact = λ b has. restores.determined (inl refl) b has (determined b has);
          honest = λ b has intact. restores.honest (inl refl) p.records (datas_of v.shape puts) p.its.has p.recorded lost_honest b has (determined b has);
          nodes = p.nodes;
          raised = p.raised;
          long = subst (λ (xs : List ℕ). length xs ≤ 18 + 200 * length puts) (sym ledger) p.long;
          first = p.first;
        };
      }
