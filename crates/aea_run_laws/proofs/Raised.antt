-- The archive of one block with the raised limit.
use Rattle.std.proofs.Common.{◌≡◌, ◌≢◌, ℕ, zero, suc, ◌<◌, List, [], ◌∷◌, ◌++◌, refl, sym, ◌∙◌, ap, arith}
use Rattle.aea_lattice.specs.declared.blocks.Class.{Class}
use Rattle.aea_lattice.specs.declared.blocks.Class.TheVariants.{Datum, Horiz, Right, Left}
use Rattle.aea_lattice.specs.declared.blocks.BlockId.{BlockId}
use Rattle.aea_lattice.specs.Blocks.{HasBlock, block_of}
use Rattle.aea_lattice.proofs.Equations.{block_equal}
use Rattle.aea_disk.specs.Files.{Files}
use Rattle.aea_shelf.specs.Places.{home_file}
use Rattle.aea_shelf.proofs.Cells.{intact_same}
use Rattle.aea_records.specs.Format.{Record, Object, Raise, Stored, spelled}
use Rattle.aea_records.specs.Grammar.{AreRecords}
use Rattle.aea_ledger.specs.Stops.{HasLedger}
use Rattle.aea_archive.specs.Blocks.{recorded_in, IsIntactBy}
use Rattle.aea_run_laws.proofs.OneBlock.{shape, one}

-- the files with this ledger
pub with_ledger : List ℕ → Files → Files
with_ledger ledger c zero = ledger
with_ledger ledger c (suc f) = c (suc f)

pub with_others : (ledger : List ℕ) (c : Files) (f : ℕ) → f ≢ 0 → with_ledger ledger c f ≡ c f
unfolding with_ledger
with_others ledger c zero other = absurd (other refl)
with_others ledger c (suc f) other = refl

-- the ledger with the raise after the object
abbrev pub raised_records : Stored → List Record
raised_records r = Object r ∷ Raise ∷ []

abbrev pub raised_files : Stored → Files → Files
raised_files r c = with_ledger (spelled shape (raised_records r) ++ 0 ∷ []) c

pub raised_ledger : (r : Stored) (c : Files) → AreRecords shape (Object r ∷ []) → HasLedger shape (raised_records r) (raised_files r c 0)
unfolding with_ledger
raised_ledger r c valid = record { valid = (valid.0, (λ e. omega (arith, e), tt)); gate = 0; closed = λ e. omega (arith, e); after = []; spelling = refl; place = refl }

pub raised_bare : (r : Stored) (c : Files) → ((f : ℕ) → 4 < f → c f ≡ []) → (f : ℕ) → 4 < f → raised_files r c f ≡ []
raised_bare r c bare f far = with_others (spelled shape (raised_records r) ++ 0 ∷ []) c f (λ e. omega (arith, far, e)) ∙ bare f far

home_some : (k : Class) → home_file shape (block_of 1 k) ≡ 0 → ⊥
home_some Datum e = omega (arith, e)
home_some Horiz e = omega (arith, e)
home_some Right e = omega (arith, e)
home_some Left e = omega (arith, e)

-- its blocks are where they were
pub raised_intact : (r : Stored) (c : Files) → ((b : BlockId) → HasBlock one b → IsIntactBy shape r.digests c b) → (b : BlockId) → HasBlock one b → IsIntactBy shape r.digests (raised_files r c) b
raised_intact r c whole b has =
    intact_same shape b (recorded_in shape r.digests b) c (raised_files r c)
    (with_others (spelled shape (raised_records r) ++ 0 ∷ []) c (home_file shape b) away) (whole b has)
  where
    same : b ≡ block_of 1 b.class
    same = block_equal b (block_of 1 b.class) (let first = has.first in let last = has.last in omega (arith, first, last)) refl

    away : home_file shape b ≡ 0 → ⊥
    away e = home_some b.class (ap (home_file shape) (sym same) ∙ e)
