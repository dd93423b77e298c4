-- A stretch from the end of the opening, as one of the whole run.
use Rattle.std.proofs.Common.{◌≡◌, ◌≤◌, ℕ, ◌+◌, max, List, ◌++◌, length, sym, ◌∙◌, ap, subst}
use Rattle.aea_lattice.specs.declared.blocks.BlockId.{BlockId}
use Rattle.aea_lattice.specs.declared.grid.Lattice.{Lattice}
use Rattle.aea_lattice.specs.declared.shape.Shape.{Shape}
use Rattle.aea_disk.specs.Files.{Files}
use Rattle.aea_disk.specs.State.{State}
use Rattle.aea_records.specs.Format.{Record, digests_of, spelled}
use Rattle.aea_archive.specs.Data.{AreSurvivorsHonest, IsDamagePlain}
use Rattle.aea_archive.specs.Lasts.{AreLastsAtHome, AreLastsHonest}
use Rattle.aea_archive.specs.Next.{NewObject, AreNextRecords}
use Rattle.aea_command.specs.Openings.{opened_at}
use Rattle.aea_command_store.specs.Growing.{LeavesArchive, committed_all, GrowsBy, Grows, StaysGrown, HasGrown}
use Rattle.aea_command_store.specs.Ingest.{GrowsSurely}
use Rattle.aea_command_store.proofs.PutLemmas.Opening.{adds_at}

-- whatever the records are by which it grows
unfoldable pub by_at : (shape : Shape) (records : List Record) (IsNext : Lattice → Lattice → (BlockId → List ℕ) → List Record → Type 0) (old mid new : State) → mid.files ≡ old.files → GrowsBy shape records IsNext mid new → GrowsBy shape records IsNext (opened_at old new mid.moment) new
by_at shape records IsNext old mid new same by = record {
  lattice = by.lattice;
  is_lattice = by.is_lattice;
  longer = by.longer;
  payload = by.payload;
  added = by.added;
  next = by.next;
  adds = adds_at shape records by.added by.payload old mid new by.adds;
  leaves = λ t c from to here. subst (λ (d : Files). LeavesArchive shape records d c) same (by.leaves t c from to here);
  reads = subst (λ (d : Files). LeavesArchive shape records d new.files) same by.reads;
  long = subst (λ (d : Files). length (new.files 0) ≤ max (length (d 0)) (length (spelled shape (records ++ by.added)) + 1)) same by.long;
}

pub grows_at : (shape : Shape) (records : List Record) (objects : List NewObject) (old mid new : State) → mid.files ≡ old.files → Grows shape records objects mid new → Grows shape records objects (opened_at old new mid.moment) new
unfolding by_at
grows_at shape records objects old mid new same grows = record {
  by = by_at shape records (λ l m payload added. AreNextRecords shape l m payload objects added) old mid new same grows.by;
  homes = λ some. subst (λ (c : Files). AreLastsAtHome shape grows.by.lattice grows.by.payload c) same (grows.homes some);
  lasts_wide = grows.lasts_wide;
  wide = grows.wide;
  bytes = grows.bytes;
  records_more = λ datas valid recorded honest. grows.records_more datas valid recorded (subst (λ (c : Files). AreLastsHonest shape grows.by.lattice (digests_of records) datas c) (sym same) honest);
}

pub stays_at : (shape : Shape) (records : List Record) (objects : List NewObject) (old mid new : State) → mid.files ≡ old.files → StaysGrown shape records objects mid new → StaysGrown shape records objects (opened_at old new mid.moment) new
unfolding grows_at by_at
stays_at shape records objects old mid new same grown = record {
  grows = grows_at shape records objects old mid new same grown.grows;
  images = grown.images;
  ledger = grown.ledger;
  exactly = grown.exactly ∙ ap (λ (c : Files). committed_all shape records (c 0) grown.grows.by.added) same;
  blocks = grown.blocks;
  lasts = grown.lasts;
  cells = grown.cells;
  honest = λ datas recorded honest plain.
      grown.honest datas recorded
      (subst (λ (c : Files). AreSurvivorsHonest shape grown.grows.by.lattice (digests_of records) datas c) (sym same) honest)
      (subst (λ (c : Files). IsDamagePlain shape grown.grows.by.lattice (digests_of records) c) (sym same) plain);
}

pub grown_at : (shape : Shape) (records : List Record) (objects : List NewObject) (old mid new : State) → mid.files ≡ old.files → HasGrown shape records objects mid new → HasGrown shape records objects (opened_at old new mid.moment) new
grown_at shape records objects old mid new same grown = record {
  stays = stays_at shape records objects old mid new same grown.stays;
  synced = grown.synced;
}

pub surely_at : (shape : Shape) (records : List Record) (objects : List NewObject) (k : ℕ) (old mid new : State) → mid.files ≡ old.files → GrowsSurely shape records objects k mid new → GrowsSurely shape records objects k (opened_at old new mid.moment) new
unfolding grows_at by_at
surely_at shape records objects k old mid new same surely = record { grows = grows_at shape records objects old mid new same surely.grows; first = surely.first; reads = surely.reads }
