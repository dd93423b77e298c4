-- How changes of an archive's files go on from call to call, and what follows of them.
use Rattle.std.proofs.Common.{◌≡◌, ◌≢◌, ⊎_elim, inl, inr, ℕ, ◌≤◌, max, List, length, take, drop, refl, sym, ◌∙◌, ap, subst, arith}
use Rattle.std.proofs.lemmas.Bool.{cases_eq}
use Rattle.aea_lattice.specs.declared.blocks.BlockId.{BlockId}
use Rattle.aea_lattice.specs.declared.shape.Shape.{Shape}
use Rattle.aea_lattice.specs.Shapes.{IsBlockOf}
use Rattle.aea_disk.specs.Files.{Files, ChangesOnly}
use Rattle.aea_disk.specs.State.{State, Passes, During, IsFixed, IsRoomy, HasRoom}
use Rattle.aea_disk.specs.Frames.{OnlyWrites}
use Rattle.aea_disk.proofs.Moments.{range_kept}
use Rattle.aea_shelf.specs.Places.{cell_size, home_file, home_place, site_bytes}
use Rattle.aea_shelf.specs.Facts.{CellsAreApart, HomesAreInRows, HomesAreOnItsSites}
use Rattle.aea_shelf.specs.Writes.{ChangesHome, KeepsShelf}
use Rattle.aea_shelf.proofs.Cells.{keeps_intact}
use Rattle.aea_shelf.proofs.Runs.{no_home_in_ledger, no_home_outside}
use Rattle.aea_archive.specs.Cells.{IsBesides, IsNoSite, ChangesArchive, HaveSitesRoom, FitsRows}

-- no call
pub changes_none : (shape : Shape) (nodes : ℕ) (blocks : BlockId → Type 0) (files : ℕ → Type 0) (c : Files) → ChangesArchive shape nodes blocks files c c
changes_none shape nodes blocks files c = record {
  homes = λ a bytes has_a kept short here. here;
  stay = λ f kept. refl;
  long = λ f site. omega arith;
}

-- two changes, one after the other
pub changes_both : (shape : Shape) (nodes : ℕ) (blocks : BlockId → Type 0) (files : ℕ → Type 0) (c d e : Files) → ChangesArchive shape nodes blocks files c d → ChangesArchive shape nodes blocks files d e → ChangesArchive shape nodes blocks files c e
changes_both shape nodes blocks files c d e first second = record {
  homes = λ a bytes has_a kept short here. second.homes a bytes has_a kept short (first.homes a bytes has_a kept short here);
  stay = λ f kept. second.stay f kept ∙ first.stay f kept;
  long = λ f site. let one = first.long f site in let two = second.long f site in omega arith;
}

-- fewer blocks and files that are to stay
pub changes_less : (shape : Shape) (nodes : ℕ) (blocks fewer : BlockId → Type 0) (files less : ℕ → Type 0) (c d : Files) → ((a : BlockId) → fewer a → blocks a) → ((f : ℕ) → less f → files f)
    → ChangesArchive shape nodes blocks files c d → ChangesArchive shape nodes fewer less c d
changes_less shape nodes blocks fewer files less c d some few changes = record {
  homes = λ a bytes has_a kept short here. changes.homes a bytes has_a (some a kept) short here;
  stay = λ f kept. changes.stay f (few f kept);
  long = changes.long;
}

-- the file of a home is one of the sites'
pub no_home : (shape : Shape) (b : BlockId) (f : ℕ) → IsNoSite shape f → f ≢ home_file shape b
no_home shape b f none same = ⊎_elim {C = ⊥} (λ ledger. no_home_in_ledger shape b (sym same ∙ ledger)) (λ past. no_home_outside shape b f past (sym same)) none

-- the write of one cell of so many nodes, whatever it returns
pub changes_cell : CellsAreApart → HomesAreInRows → (shape : Shape) (nodes : ℕ) (b : BlockId) (c d : Files) → IsBlockOf shape b → b.node ≤ nodes → ChangesHome shape b c d
    → ChangesArchive shape nodes (λ a. a ≢ b) (IsNoSite shape) c d
changes_cell apart rows shape nodes b c d has_b within changes =
    let row = rows shape nodes b has_b within in
    record {
      homes = λ a bytes has_a other short here.
          range_kept (home_file shape b) (home_place shape b) (cell_size shape) c d (home_file shape a) (home_place shape a) bytes changes
          (λ same. ⊎_elim
          (λ before. inl (omega (arith, before, short)))
          (λ behind. inr behind)
          (apart shape a b has_a has_b other same))
          here;
      stay = λ f none. changes.others f (no_home shape b f none);
      long = λ f site. ⊎_elim
          (λ same.
          let torn = changes.here.no_longer in
          subst (λ (g : ℕ). length (d g) ≤ max (length (c g)) (site_bytes shape nodes)) (sym same) (omega (arith, torn, row)))
          (λ other. let kept = ap length (changes.others f other) in omega (arith, kept))
          (cases_eq f (home_file shape b));
    }

-- a change of the ledger's file alone
pub changes_ledger : (shape : Shape) (nodes : ℕ) (blocks : BlockId → Type 0) (c d : Files) → ChangesOnly 0 c d → ChangesArchive shape nodes blocks (IsBesides shape) c d
changes_ledger shape nodes blocks c d only = record {
  homes = λ a bytes has_a kept short here. subst (λ (l : List ℕ). take (length bytes) (drop (home_place shape a) l) ≡ bytes) (sym (only (home_file shape a) (no_home_in_ledger shape a))) here;
  stay = λ f past. only f (λ same. omega (arith, past, same));
  long = λ f site. let kept = ap length (only f (λ same. omega (arith, site, same))) in omega (arith, kept);
}

-- what such calls leave of the shelf
pub changes_shelf : (reveals taken fits fault : Type 0) (shape : Shape) (nodes : ℕ) (blocks : BlockId → Type 0) (files : ℕ → Type 0) (old new : State)
    → OnlyWrites reveals taken fits fault (ChangesArchive shape nodes blocks files) old new → KeepsShelf reveals shape blocks old new
changes_shelf reveals taken fits fault shape nodes blocks files old new writes = record {
  homes = λ revealed. (writes.contents revealed).homes;
  intact = λ revealed. keeps_intact shape blocks old.files new.files (writes.contents revealed).homes;
  images = λ t c from to here.
      let was = writes.crash t c from to here in
      (was.0, was.1, was.2.homes, keeps_intact shape blocks was.0 c was.2.homes);
}

-- a file that is to stay, and that every image had as it reads, every image has so at each moment
pub file_kept : (reveals taken fits fault : Type 0) (shape : Shape) (nodes : ℕ) (blocks : BlockId → Type 0) (files : ℕ → Type 0) (old new : State) (f : ℕ) → files f
    → OnlyWrites reveals taken fits fault (ChangesArchive shape nodes blocks files) old new → IsFixed old f → During old new (λ c. c f ≡ old.files f)
file_kept reveals taken fits fault shape nodes blocks files old new f kept writes fixed t c from to here =
    let was = writes.crash t c from to here in
    was.2.stay f kept ∙ fixed was.0 was.1

-- and nothing is pending on it
pub fixed_kept : (reveals taken fits fault : Type 0) (shape : Shape) (nodes : ℕ) (blocks : BlockId → Type 0) (files : ℕ → Type 0) (old new : State) (f : ℕ) → reveals → files f
    → OnlyWrites reveals taken fits fault (ChangesArchive shape nodes blocks files) old new → IsFixed old f → IsFixed new f
fixed_kept reveals taken fits fault shape nodes blocks files old new f revealed kept writes fixed c here =
    file_kept reveals taken fits fault shape nodes blocks files old new f kept writes fixed new.moment c writes.time.later (omega arith) here
    ∙ sym ((writes.contents revealed).stay f kept)

-- where the sites have space, the disk has some
pub room_some : HomesAreOnItsSites → (shape : Shape) (nodes : ℕ) (s : State) → HaveSitesRoom shape nodes s → HasRoom s
room_some sites shape nodes s room = (1, site_bytes shape nodes, room 1 (omega arith) (sites shape).0)

-- and with the space to sync it has space for calls that only read
pub rows_roomy : HomesAreOnItsSites → (shape : Shape) (nodes : ℕ) (s : State) → FitsRows shape nodes s → IsRoomy s
rows_roomy sites shape nodes s fit = record { some = room_some sites shape nodes s fit.sites; sync = fit.sync }

-- and later on too
pub room_later : (shape : Shape) (nodes : ℕ) (old new : State) → Passes old new → HaveSitesRoom shape nodes old → HaveSitesRoom shape nodes new
room_later shape nodes old new time room f site within = time.room f (site_bytes shape nodes) (room f site within)

-- both stay while the ledger file does
pub rows_later : (shape : Shape) (nodes : ℕ) (old new : State) → new.files 0 ≡ old.files 0 → Passes old new → FitsRows shape nodes old → FitsRows shape nodes new
rows_later shape nodes old new same time fit = record {
  sites = room_later shape nodes old new time fit.sites;
  sync = subst (λ (l : List ℕ). new.keeps l) (sym same) (time.syncs (old.files 0) fit.sync);
}
