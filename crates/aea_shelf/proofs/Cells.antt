-- Cells at homes.
use Rattle.std.proofs.Common.{◌≡◌, Bool, true, refl, ℕ, ◌+◌, ◌≤◌, List, ◌++◌, length, take, drop, replicate, sym, ◌∙◌, ap, subst, arith}
use Rattle.std.proofs.lemmas.List.{length-take, length-drop}
use Rattle.std.proofs.Math.Seq.{take-append_seam}
use Rattle.aea_lattice.specs.declared.blocks.BlockId.{BlockId}
use Rattle.aea_lattice.specs.declared.grid.Lattice.{Lattice}
use Rattle.aea_lattice.specs.declared.shape.Shape.{Shape}
use Rattle.aea_disk.specs.Files.{Files, ChangesFile, Holds}
use Rattle.aea_disk.specs.Steps.{range-overwritten}
use Rattle.aea_shelf.specs.Places.{cell_size, home_file, home_place, home_bytes, HasAtHome, padded_home}
use Rattle.aea_shelf.specs.Intact.{IsRecorded, IsIntact}
use Rattle.aea_shelf.specs.Honest.{IsHonest, IsHonestOn}
use Rattle.aea_shelf.specs.Writes.{KeepsHomes, KeepsIntact}

-- the bytes of a home that lies within its file
pub length-home : (shape : Shape) (b : BlockId) (c : Files) → home_place shape b + cell_size shape ≤ length (c (home_file shape b)) → length (home_bytes shape b c) ≡ cell_size shape
length-home shape b c within = omega (arith, within, length-take (cell_size shape) (drop (home_place shape b) (c (home_file shape b))), length-drop (home_place shape b) (c (home_file shape b)))

-- what is at a home, with as many bytes as a cell
pub at_home : (shape : Shape) (b : BlockId) (bytes : List ℕ) (c : Files) → length bytes ≡ cell_size shape → HasAtHome shape b bytes c
    → (home_bytes shape b c ≡ bytes) × (home_place shape b + cell_size shape ≤ length (c (home_file shape b)))
at_home shape b bytes c size here =
    let same : home_bytes shape b c ≡ bytes = subst (λ (n : ℕ). take n (drop (home_place shape b) (c (home_file shape b))) ≡ bytes) size here in
    (same, omega (arith, size, ap length same, length-take (cell_size shape) (drop (home_place shape b) (c (home_file shape b))), length-drop (home_place shape b) (c (home_file shape b))))

-- a recorded cell at a home makes the block intact
pub intact_of : (shape : Shape) (b : BlockId) (recorded bytes : List ℕ) (c : Files) → length bytes ≡ cell_size shape → HasAtHome shape b bytes c → IsRecorded b recorded bytes → IsIntact shape b recorded c
intact_of shape b recorded bytes c size here is =
    let home = at_home shape b bytes c size here in
    record { within = home.1; here = subst (IsRecorded b recorded) (sym home.0) is }

-- an intact block has its bytes at its home
pub at_intact : (shape : Shape) (b : BlockId) (recorded : List ℕ) (c : Files) → IsIntact shape b recorded c → HasAtHome shape b (home_bytes shape b c) c
at_intact shape b recorded c intact = ap (λ (n : ℕ). take n (drop (home_place shape b) (c (home_file shape b)))) (length-home shape b c intact.within)

-- where the bytes of homes stay, intact blocks stay so
pub keeps_intact : (shape : Shape) (keep : BlockId → Type 0) (old new : Files) → KeepsHomes shape keep old new → KeepsIntact shape keep old new
keeps_intact shape keep old new keeps a recorded has_a kept intact =
    let size : length (home_bytes shape a old) ≡ cell_size shape = length-home shape a old intact.within in
    intact_of shape a recorded (home_bytes shape a old) new size (keeps a (home_bytes shape a old) has_a kept (omega (arith, size)) (at_intact shape a recorded old intact)) intact.here

-- bytes written at a home are there
pub written_here : (shape : Shape) (b : BlockId) (bytes : List ℕ) (old new : Files) → ChangesFile (home_file shape b) (Holds (home_place shape b) bytes) old new → HasAtHome shape b bytes new
written_here shape b bytes old new changes =
    ap (λ (xs : List ℕ). take (length bytes) (drop (home_place shape b) xs)) changes.here ∙ range-overwritten (old (home_file shape b)) (home_place shape b) bytes

-- the bytes of a home that lies within its file are the same with zeros past the end
pub padded_intact : (shape : Shape) (b : BlockId) (recorded : List ℕ) (c : Files) → IsIntact shape b recorded c → padded_home shape b c ≡ home_bytes shape b c
padded_intact shape b recorded c intact =
    let long = length-home shape b c intact.within in
    ap (λ (n : ℕ). take n (home_bytes shape b c ++ replicate (cell_size shape) 0)) (sym long) ∙ take-append_seam (home_bytes shape b c) (replicate (cell_size shape) 0)

-- an intact block of files whose file is the same
pub intact_same : (shape : Shape) (b : BlockId) (recorded : List ℕ) (old new : Files) → new (home_file shape b) ≡ old (home_file shape b) → IsIntact shape b recorded old → IsIntact shape b recorded new
intact_same shape b recorded old new same intact =
    intact_of shape b recorded (home_bytes shape b old) new (length-home shape b old intact.within)
    (subst (λ (xs : List ℕ). take (length (home_bytes shape b old)) (drop (home_place shape b) xs) ≡ home_bytes shape b old) (sym same) (at_intact shape b recorded old intact)) intact.here

-- where all survivors are honest, so are those of a test, and back
pub honest_some : (picks : BlockId → Bool) (l : Lattice) (shape : Shape) (recorded : BlockId → List ℕ) (datas : List (List ℕ)) (c : Files) → IsHonest l shape recorded datas c → IsHonestOn picks l shape recorded datas c
honest_some picks l shape recorded datas c honest b has_b picked intact = honest b has_b intact

pub honest_all : (l : Lattice) (shape : Shape) (recorded : BlockId → List ℕ) (datas : List (List ℕ)) (c : Files) → IsHonestOn (λ b. true) l shape recorded datas c → IsHonest l shape recorded datas c
honest_all l shape recorded datas c honest b has_b intact = honest b has_b refl intact
