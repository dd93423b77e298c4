-- These archives with two whole copies of the ledger beside it.
use Rattle.std.specs.Prelude.{◌≡◌, ◌≤◌, ◌+◌, max, ℕ, List, length, Ok}
use Rattle.aea_lattice.specs.declared.blocks.BlockId.{BlockId}
use Rattle.aea_lattice.specs.declared.grid.Lattice.{Lattice}
use Rattle.aea_lattice.specs.declared.shape.Shape.{Shape}
use Rattle.aea_lattice.specs.Blocks.{HasBlock}
use Rattle.aea_lattice.specs.Texts.{text_of}
use Rattle.aea_disk.specs.Files.{Files}
use Rattle.aea_disk.specs.Spaces.{Memory}
use Rattle.aea_records.specs.Format.{Stored}
use Rattle.aea_records.specs.TableLaws.{AreBytes}
use Rattle.aea_copies.specs.Format as copies
use Rattle.aea_copies.specs.Format.{whole_copy}
use Rattle.aea_copies.specs.Kept.{IsCopyFile, AreKept, HasText, LeavesAdopted}
use Rattle.aea_adopt.specs.Adopting.{IsAdopted, IsTrueOf, AreNear}
use Rattle.aea_adopt.specs.declared.answers.Adopted.{Adopted}
use Rattle.aea_mirror.specs.Mirrored.{IsSound, fresh}
use Rattle.aea_archive.specs.Next.{NewObject}
use Rattle.aea_command_loss.specs.Repair.{IsRepairText}
use Rattle.aea_dispatch.specs.declared.command.Command.TheVariants.{Get, Fetch, Scrub, Explain, Repair, Fence, Upgrade, Verify}
use Rattle.aea_run_laws.specs.Meeting.{HasFiles, Meets}
use Rattle.aea_run_laws.specs.Standing.{IsOneBlock, HasTheObject, HasLostSite}

-- The ledger has the text of these pieces, with a gate after it that is not open; both copies are whole with them; and the ledger and the
-- sites are as without copies.
pub record HasCopies (pieces : List (List ℕ)) (c e : Files) : Type 0 where
  pub text : HasText (copies.text_of pieces) (c 0)
  pub whole : (f : ℕ) → IsCopyFile f → e f ≡ whole_copy pieces
  pub others : (f : ℕ) → f ≤ 64 → e f ≡ c f

-- Of these files the pieces are kept, and adopting changes nothing. It answers that copies are on, and what it says of them is true; and the
-- Mirror that begins with that is sound.
pub record IsAdoptedAsItIs (pieces : List (List ℕ)) (e : Files) : Type 0 where
  pub kept : AreKept e pieces
  pub leaves : LeavesAdopted e e
  pub adopted : Adopted
  pub answers : IsAdopted e e (Ok adopted)
  pub revealed : IsTrueOf e adopted
  pub near : AreNear adopted
  pub sound : IsSound (fresh 0 adopted) e

-- The runs of `AreMet` with copies on, over e with all sites and f with a lost one. Each needs space for a whole copy; a fence, and a raise
-- of the limit, for one of a ledger with ten bytes more, whose three pieces take 37 bytes more each, and nine at its begin.
pub record AreMetWithCopies (l : Lattice) (o : NewObject) (copy : ℕ) (e f : Files) (input : List ℕ) : Type 0 where
  pub get : Meets e copy (length o.bytes) (Get o.name) input
  pub fetch : Meets f copy (length o.bytes) (Fetch o.name) input
  pub scrub : Meets f copy 29 Scrub input
  pub explain : (b : BlockId) → HasBlock l b → Meets f copy 24 (Explain (text_of b)) input
  pub repair : Meets f (max 560 copy) 126 Repair input
  pub fence : Meets e (length (e 0) + 130) 8 Fence input
  pub upgrade : Meets e (length (e 0) + 130) 17 Upgrade input

-- Of each object of one block, whose name is of bytes, there are such an archive and the same with a lost site; and both with two whole copies
-- of the ledger, which are adopted as they are, and over which the same runs meet all that is asked.
abbrev pub CopiesAreMet : Type 0
CopiesAreMet =
    (o : NewObject) → IsOneBlock o → AreBytes o.name
    → (shape : Shape) × (l : Lattice) × (r : Stored) × (c : Files) × (d : Files) × HasTheObject shape l r o c × HasLostSite shape l r o c d
    × (pieces : List (List ℕ)) × (e : Files) × (f : Files) × HasCopies pieces c e × HasCopies pieces d f
    × IsAdoptedAsItIs pieces e × IsAdoptedAsItIs pieces f
    × ((room : ℕ) → (m : Memory) × (n : Memory) × HasFiles e room m × HasFiles f room n)
    × ((input : List ℕ) → AreMetWithCopies l o (length (whole_copy pieces)) e f input)
    × (report : List ℕ) × IsRepairText d report × Meets e (length (whole_copy pieces)) 9 Verify report
