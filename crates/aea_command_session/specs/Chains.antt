-- What follows of the replies of a run: from each step on, the blocks of X stay as that step found them, up to the end.
use Rattle.std.specs.Prelude.{◌≡◌, ◌≤◌, ℕ, List, length}
use Rattle.aea_shelf.specs.Writes.{KeepsHomes, KeepsIntact}
use Rattle.aea_archive.specs.Blocks.{IsBlockIn}
use Rattle.aea_messages.specs.declared.message.Message.{Message}
use Rattle.aea_command_session.specs.Standing.{Standing, IsHonestFor, HasReplied}

-- The homes of the blocks that X had there have the same bytes, and those that were intact are so, by the same digests.
pub record StaysTo (w u : Standing) : Type 0 where
  pub shape : u.ledger.shape ≡ w.ledger.shape
  pub nodes : length w.machine.datas ≤ length u.machine.datas
  pub homes : KeepsHomes w.ledger.shape (IsBlockIn w.ledger.shape (length w.machine.datas)) w.files u.files
  pub intact : KeepsIntact w.ledger.shape (IsBlockIn w.ledger.shape (length w.machine.datas)) w.files u.files

-- So it is from each step of a run to its last one.
abbrev pub RepliesStay : Type 0 → Type 0
RepliesStay reveals =
    (first w u : Standing) (messages : List Message) (bytes : List ℕ) → reveals → HasReplied reveals (reveals × IsHonestFor first) w messages bytes u → StaysTo w u
