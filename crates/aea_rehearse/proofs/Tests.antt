-- A test of what is intact.
use Rattle.std.proofs.Common.{◌≡◌, ℕ, ◌+◌, ◌<◌, Bool, List, length, take, drop, inl, inr, subst, sym, ◌∙◌, ap, arith, ltb}
use Rattle.std.specs.Prelude.{◌&&◌, ◌⊎◌, ◌↔◌, Result, Ok, Err, IsOk}
use Rattle.std.proofs.lemmas.Bool.{false≢true}
use Rattle.std.specs.Bool.{Decides}
use Rattle.std.specs.Str.{bytes_eq}
use Rattle.std.proofs.lemmas.Bool.Decides.{Decides-and, Decides-ltb}
use Rattle.std.proofs.lemmas.Slice.Eq.{bytes_eq-Decides}
use Rattle.aea_lattice.specs.declared.blocks.BlockId.{BlockId}
use Rattle.aea_disk.specs.Files.{Files}
use Rattle.aea_envelope.specs.Cells.{block_digest, cell_of}
use Rattle.aea_envelope.specs.Facts.{CellsHaveLengths, CellsHaveParts}
use Rattle.aea_shelf.specs.Places.{cell_size, home_file, home_place, home_bytes}
use Rattle.aea_shelf.specs.Intact.{payload_in}
use Rattle.aea_shelf.proofs.Cells.{length-home}
use Rattle.aea_verify.specs.declared.verdict.Why.{Why}
use Rattle.aea_verify.specs.declared.verdict.Verdict.{Verdict}
use Rattle.aea_verify.specs.declared.verdict.Verdict.TheVariants as verdicts
use Rattle.aea_verify.specs.declared.verdict.VerifyFault.{VerifyFault}
use Rattle.aea_verify.specs.declared.verdict.VerifyFault.TheVariants as fault
use Rattle.aea_verify.specs.Answers.{IsFree}
use Rattle.aea_ledger.specs.Values.{Opened}
use Rattle.aea_archive.specs.Blocks.{recorded_in, IsIntactBy, RevealsSurvivors}

-- what is in the place of a block's payload
abbrev payload_here : Opened → Files → BlockId → List ℕ
payload_here v c b = payload_in v.shape (home_bytes v.shape b c)

-- whether a block is intact, as its home shows
abbrev pub intact_test : Opened → Files → BlockId → Bool
intact_test v c b =
    ltb (home_place v.shape b + cell_size v.shape) (length (c (home_file v.shape b)) + 1)
    && (bytes_eq (home_bytes v.shape b c) (cell_of b (payload_here v c b)) && bytes_eq (block_digest b (payload_here v c b)) (recorded_in v.shape v.digests b))

decided : (v : Opened) (c : Files) (b : BlockId) → Decides (intact_test v c b)
    ((home_place v.shape b + cell_size v.shape < length (c (home_file v.shape b)) + 1) × ((home_bytes v.shape b c ≡ cell_of b (payload_here v c b)) × (block_digest b (payload_here v c b) ≡ recorded_in v.shape v.digests b)))
decided v c b =
    Decides-and _ _ (Decides-ltb (home_place v.shape b + cell_size v.shape) (length (c (home_file v.shape b)) + 1))
    (Decides-and _ _ (bytes_eq-Decides (home_bytes v.shape b c) (cell_of b (payload_here v c b))) (bytes_eq-Decides (block_digest b (payload_here v c b)) (recorded_in v.shape v.digests b)))

-- the payload of an intact block is in its place
payload_found : CellsHaveLengths → CellsHaveParts → (v : Opened) (c : Files) (b : BlockId) → (intact : IsIntactBy v.shape v.digests c b) → payload_here v c b ≡ intact.here.payload
payload_found lengths parts v c b intact =
    let p = intact.here.payload in
    let long = (lengths b p).2 in
    let whole = length-home v.shape b c intact.within in
    let same : length (home_bytes v.shape b c) ≡ length (cell_of b p) = ap length intact.here.cell in
    let wide : length p ≡ v.shape.block = omega (arith, long, whole, same) in
    ap (payload_in v.shape) intact.here.cell ∙ ap (λ (n : ℕ). take n (drop 16 (cell_of b p))) (sym wide) ∙ (parts b p).1

-- it distinguishes the intact blocks
pub test_reveals : CellsHaveLengths → CellsHaveParts → (v : Opened) (c : Files) → RevealsSurvivors v.shape v.lattice.n v.digests c (intact_test v c)
test_reveals lengths parts v c b inside = (
  λ is. let all = (decided v c b).0 is in record { within = (let below = all.0 in omega (arith, below)); here = record { payload = payload_here v c b; cell = all.1.0; digest = all.1.1 } },
  λ intact.
      let found = payload_found lengths parts v c b intact in
      (let within = intact.within in (decided v c b).1 (omega (arith, within), (intact.here.cell ∙ ap (cell_of b) (sym found), ap (block_digest b) found ∙ intact.here.digest))),
)

-- results of a check that has a report
pub not_bad : (result : Result Verdict VerifyFault) (k : ℕ) → IsOk result ⊎ IsFree result → result ≡ Err (fault.BadLine k) → ⊥
not_bad result k (inl ok) is = false≢true (subst IsOk is ok)
not_bad result k (inr (inl read)) is = cc
not_bad result k (inr (inr (inl disk))) is = cc
not_bad result k (inr (inr (inr none))) is = cc

pub not_long : (result : Result Verdict VerifyFault) (k : ℕ) → IsOk result ⊎ IsFree result → result ≡ Err (fault.LineTooLong k) → ⊥
not_long result k (inl ok) is = false≢true (subst IsOk is ok)
not_long result k (inr (inl read)) is = cc
not_long result k (inr (inr (inl disk))) is = cc
not_long result k (inr (inr (inr none))) is = cc

same_verdict : (f g : Verdict) → (let one : Result Verdict VerifyFault = Ok f in one ≡ Ok g) → f ≡ g
same_verdict f g e = cc

-- a verdict by the result that has it
pub fits_as : (result : Result Verdict VerifyFault) (verdict : Verdict) (P : Type 0) → result ≡ Ok verdict → (result ≡ Ok verdicts.Accepted) ↔ P → (verdict ≡ verdicts.Accepted) ↔ P
fits_as result verdict P is fits = (λ same. fits.0 (is ∙ ap Ok same), λ holds. same_verdict verdict verdicts.Accepted (sym is ∙ fits.1 holds))

pub never_rejected : (verdict : Verdict) (line : ℕ) (why : Why) → verdict ≡ verdicts.Accepted → verdict ≡ verdicts.Rejected line why → ⊥
never_rejected verdict line why accepted rejected = cc
