-- Blocks lie in files that are shown as they are.
use Rattle.std.proofs.Common.{⊎_elim, ◌<◌, ◌≤◌, List, refl, sym, arith}
use Rattle.std.proofs.lemmas.Bool.{cases_lt}
use Rattle.std.proofs.lemmas.Bool.Decides.{nat_tests}
use Rattle.aea_lattice.specs.declared.blocks.BlockId.{BlockId}
use Rattle.aea_lattice.specs.declared.shape.Shape.{Shape}
use Rattle.aea_disk.specs.Files.{Files}
use Rattle.aea_records.specs.Format.{Record, digests_of}
use Rattle.aea_shelf.specs.Places.{home_file}
use Rattle.aea_shelf.proofs.Cells.{intact_same}
use Rattle.aea_shelf.proofs.Runs.{no_home_in_ledger, no_home_outside}
use Rattle.aea_archive.specs.Blocks.{recorded_in}
use Rattle.aea_mirror.specs.Mirrored.{outer}
use Rattle.aea_mirror.specs.Shown.{Shows}
use Rattle.aea_mirror.specs.States.{outer_near}
use Rattle.aea_stops.specs.GoingOn.{KeepsBlocks}

few_sites : (shape : Shape) → shape.sites ≤ 64
few_sites shape = let fits = shape.in_profile in grind (arith, nat_tests)

-- the file of a home is one of the sites'
home_on_sites : (shape : Shape) (b : BlockId) → (1 ≤ home_file shape b) × (home_file shape b ≤ shape.sites)
home_on_sites shape b =
    let some = no_home_in_ledger shape b in (
      omega (arith, some),
      ⊎_elim
          (λ (past : shape.sites < home_file shape b). absurd (no_home_outside shape b (home_file shape b) past refl))
          (λ (near : home_file shape b ≤ shape.sites). near)
          (cases_lt shape.sites (home_file shape b)),
    )

pub shown_blocks : (shape : Shape) (records later : List Record) (first last shown : Files) → Shows first shown → KeepsBlocks shape records later shown (outer last) → KeepsBlocks shape records later first last
shown_blocks shape records later first last shown shows keeps b on was =
    let home = home_on_sites shape b in
    let near : home_file shape b ≤ 64 = omega (arith, home.1, few_sites shape) in
    intact_same shape b (recorded_in shape (digests_of later) b) (outer last) last (sym (outer_near last (home_file shape b) near))
    (keeps b on (λ few. intact_same shape b (recorded_in shape (digests_of records) b) first shown (shows.sites (home_file shape b) home.0 near) (was few)))
