-- What space the calls need that make an archive: no file on the way is a ledger, until the last write.
use Rattle.std.proofs.Common.{◌≡◌, ◌≤◌, ◌+◌, ℕ, List, [], ◌∷◌, length, drop, inl, sym, subst, ap, arith}
use Rattle.aea_lattice.specs.declared.shape.Shape.{Shape}
use Rattle.aea_disk.specs.Ends.{IsBare}
use Rattle.aea_disk.specs.Files.{overwritten}
use Rattle.aea_disk.specs.State.{State, Passes, IsRoomy}
use Rattle.aea_ledger.specs.Stops.{empty_ledger}
use Rattle.aea_ledger.specs.Taking.{FitsTo, FitsThrough, FitsMaking}
use Rattle.aea_ledger.proofs.Takings.{bare_written, bare_behind, bare_begun}

-- what a sync needs where there is no ledger, and what fits a smaller file: the laws of a disk at one of its states
abbrev KeepsBare : State → Type 0
KeepsBare s = (b c : List ℕ) → IsBare b → IsBare c → s.keeps b → s.keeps c

abbrev SmallerFits : State → Type 0
SmallerFits s = (f m n : ℕ) → m ≤ n → s.room f n → s.room f m

-- of a file without a ledger: to empty it
pub fits_emptying : (s : State) → KeepsBare s → SmallerFits s → IsBare (s.files 0) → FitsTo s 1 (s.files 0) → FitsTo s 0 []
fits_emptying s bare smaller none fit = record { room = smaller 0 0 1 (omega arith) fit.room; sync = bare (s.files 0) [] none (inl (omega arith)) fit.sync }

-- and then to write a gate
pub fits_begun : (old mid : State) → KeepsBare old → IsBare (old.files 0) → mid.files 0 ≡ [] → Passes old mid → FitsTo old 1 (old.files 0) → FitsThrough mid 0 (0 ∷ [])
fits_begun old mid bare none empty passes fit =
    let there = overwritten (mid.files 0) 0 (0 ∷ []) in
    record { room = passes.room 0 1 fit.room; sync = passes.syncs there (bare (old.files 0) there none (bare_written (mid.files 0) (0 ∷ []) empty (omega arith)) fit.sync) }

-- of a closed gate: to write what follows it in an empty ledger
pub fits_filling : (s : State) (shape : Shape) (rest : List ℕ) → KeepsBare s → SmallerFits s → s.files 0 ≡ 0 ∷ [] → rest ≡ drop 1 (empty_ledger shape) → FitsMaking s shape → FitsThrough s 1 rest
fits_filling s shape rest bare smaller begun is fit =
    let size : length rest ≡ length (drop 1 (empty_ledger shape)) = ap length is in
    let there = overwritten (s.files 0) 1 rest in
    record { room = smaller 0 (1 + length rest) 18 (omega (arith, size)) fit.room; sync = bare (s.files 0) there (bare_begun (s.files 0) begun) (bare_behind (s.files 0) rest begun) fit.now }

-- and then to open it
pub fits_opening : (old mid : State) (shape : Shape) → SmallerFits mid → overwritten (mid.files 0) 0 (1 ∷ []) ≡ empty_ledger shape → Passes old mid → FitsMaking old shape → FitsThrough mid 0 (1 ∷ [])
fits_opening old mid shape smaller whole passes fit = record {
  room = smaller 0 1 18 (omega arith) (passes.room 0 18 fit.room);
  sync = subst mid.keeps (sym whole) (passes.syncs (empty_ledger shape) fit.made);
}

-- to make an archive: to begin it, and what is left then
pub fits_beginning : (s : State) (shape : Shape) → SmallerFits s → FitsMaking s shape → FitsTo s 1 (s.files 0)
fits_beginning s shape smaller fit = record { room = smaller 0 1 18 (omega arith) fit.room; sync = fit.now }

pub fits_finishing : (old mid : State) (shape : Shape) → KeepsBare old → IsBare (old.files 0) → mid.files 0 ≡ 0 ∷ [] → Passes old mid → FitsMaking old shape → FitsMaking mid shape
fits_finishing old mid shape bare none begun passes fit = record {
  room = passes.room 0 18 fit.room;
  now = passes.syncs (mid.files 0) (bare (old.files 0) (mid.files 0) none (bare_begun (mid.files 0) begun) fit.now);
  made = passes.syncs (empty_ledger shape) fit.made;
}

-- and to look first whether there is one
pub roomy_making : (s : State) (shape : Shape) → FitsMaking s shape → IsRoomy s
roomy_making s shape fit = record { some = (0, 18, fit.room); sync = fit.now }

pub fits_later : (old mid : State) (shape : Shape) → mid.files 0 ≡ old.files 0 → Passes old mid → FitsMaking old shape → FitsMaking mid shape
fits_later old mid shape same passes fit = record {
  room = passes.room 0 18 fit.room;
  now = subst mid.keeps (sym same) (passes.syncs (old.files 0) fit.now);
  made = passes.syncs (empty_ledger shape) fit.made;
}
