-- Cells that are written one after the other. By these a call that writes cells, or reads before or after it, gets its frame
-- from those of the calls that it makes.
use Rattle.std.proofs.Common.{◌≢◌, ℕ, ◌+◌, ◌≤◌, inl, refl, ap}
use Rattle.aea_lattice.specs.declared.blocks.BlockId.{BlockId}
use Rattle.aea_lattice.specs.declared.shape.Shape.{Shape}
use Rattle.aea_lattice.specs.Shapes.{IsBlockOf}
use Rattle.aea_disk.specs.Files.{Files}
use Rattle.aea_disk.specs.State.{State, IsReady, HasRoomTo, AtEachMoment}
use Rattle.aea_disk.specs.Frames.{OnlyReads, OnlyWrites}
use Rattle.aea_disk.proofs.Frames.{ready_later, writes_none, writes_as, writes_wider, writes_both, reads_writes, reads_then_writes, writes_then_reads}
use Rattle.aea_shelf.specs.Places.{cell_size, home_file, home_place, site_bytes}
use Rattle.aea_shelf.specs.Facts.{CellsAreApart, HomesAreInRows, HomesAreOnItsSites}
use Rattle.aea_shelf.specs.Intact.{IsHeldIn}
use Rattle.aea_shelf.specs.Writes.{ChangesHome}
use Rattle.aea_shelf.proofs.Runs.{held_by_shelf}
use Rattle.aea_shelf.proofs.Held.{held_in, held_through}
use Rattle.aea_ledger.specs.Values.{Opened}
use Rattle.aea_ledger.proofs.Readying.{ready_same}
use Rattle.aea_archive.specs.Blocks.{recorded_in, IsHeldBy}
use Rattle.aea_archive.specs.Cells.{IsNoSite, ChangesArchive, FitsRows, WritesCells}
use Rattle.aea_archive.proofs.Cells.{changes_none, changes_both, changes_less, changes_cell, changes_shelf, rows_roomy, rows_later}

-- the write of one cell of so many nodes
pub cell_written : CellsAreApart → HomesAreInRows → HomesAreOnItsSites → (reveals fault other : Type 0) (shape : Shape) (nodes : ℕ) (b : BlockId) (old new : State) → IsBlockOf shape b → b.node ≤ nodes
    → ((f m n : ℕ) → m ≤ n → old.room f n → old.room f m) → (other → fault) → (fault → other)
    → OnlyWrites reveals (IsReady old) (HasRoomTo old (home_file shape b) (home_place shape b + cell_size shape)) fault (ChangesHome shape b) old new
    → WritesCells reveals shape nodes (λ a. a ≢ b) other old new
cell_written apart rows sites reveals fault other shape nodes b old new has within smaller so back writes =
    writes_as reveals (IsReady old) (FitsRows shape nodes old) fault other (ChangesArchive shape nodes (λ a. a ≢ b) (IsNoSite shape)) old new so back
    (writes_wider reveals (IsReady old) (HasRoomTo old (home_file shape b) (home_place shape b + cell_size shape)) (IsReady old) (FitsRows shape nodes old) fault (ChangesHome shape b) (ChangesArchive shape nodes (λ a. a ≢ b) (IsNoSite shape)) old new
    (λ c d step. changes_cell apart rows shape nodes b c d has within step) (λ _ is. is)
    (λ _ fit. (let site = (sites shape).1 b in smaller (home_file shape b) (home_place shape b + cell_size shape) (site_bytes shape nodes) (rows shape nodes b has within) (fit.sites (home_file shape b) site.0 site.1)))
    writes)

-- no cell
pub cells_none : (reveals fault : Type 0) (shape : Shape) (nodes : ℕ) (keep : BlockId → Type 0) (s : State) → (fault → ⊥) → WritesCells reveals shape nodes keep fault s s
cells_none reveals fault shape nodes keep s none =
    writes_as reveals (IsReady s) (FitsRows shape nodes s) ⊥ fault (ChangesArchive shape nodes keep (IsNoSite shape)) s s none (λ none. absurd none)
    (writes_none reveals (IsReady s) (FitsRows shape nodes s) (ChangesArchive shape nodes keep (IsNoSite shape)) s (λ c. changes_none shape nodes keep (IsNoSite shape) c))

-- calls that only read
pub cells_read : HomesAreOnItsSites → (reveals fault other : Type 0) (shape : Shape) (nodes : ℕ) (keep : BlockId → Type 0) (old new : State) → (other → fault) → (fault → other)
    → OnlyReads reveals fault old new → WritesCells reveals shape nodes keep other old new
cells_read sites reveals fault other shape nodes keep old new so back reads =
    writes_as reveals (IsReady old) (FitsRows shape nodes old) fault other (ChangesArchive shape nodes keep (IsNoSite shape)) old new so back
    (reads_writes reveals (IsReady old) (FitsRows shape nodes old) fault (ChangesArchive shape nodes keep (IsNoSite shape)) old new (λ is. is)
    (rows_roomy sites shape nodes old) (λ c. changes_none shape nodes keep (IsNoSite shape) c) reads)

-- cells after calls that only read
pub read_then_cells : HomesAreOnItsSites → (reveals first second : Type 0) (shape : Shape) (nodes : ℕ) (keep : BlockId → Type 0) (old mid new : State) → (first → ⊥)
    → OnlyReads reveals first old mid → WritesCells reveals shape nodes keep second mid new → WritesCells reveals shape nodes keep second old new
read_then_cells sites reveals first second shape nodes keep old mid new fine early late =
    reads_then_writes reveals (IsReady old) (IsReady mid) (FitsRows shape nodes old) (FitsRows shape nodes mid) first second (ChangesArchive shape nodes keep (IsNoSite shape)) old mid new fine
    (λ c. changes_none shape nodes keep (IsNoSite shape) c) (λ is. is) (λ _ is same goes. ready_later old mid same goes is) (rows_roomy sites shape nodes old)
    (λ _ fit same time. rows_later shape nodes old mid (ap (λ (files : Files). files 0) same) time fit) early late

-- calls that only read after cells that were written
pub cells_then_read : HomesAreOnItsSites → (reveals first second : Type 0) (shape : Shape) (nodes : ℕ) (keep : BlockId → Type 0) (old mid new : State) → (first → ⊥)
    → WritesCells reveals shape nodes keep first old mid → OnlyReads reveals second mid new → WritesCells reveals shape nodes keep second old new
cells_then_read sites reveals first second shape nodes keep old mid new fine early late =
    writes_then_reads reveals (IsReady old) (FitsRows shape nodes old) first second (ChangesArchive shape nodes keep (IsNoSite shape)) old mid new fine
    (λ _ is step goes. ready_same old mid (step.stay 0 (inl refl)) goes is)
    (λ _ fit step time. rows_roomy sites shape nodes mid (rows_later shape nodes old mid (step.stay 0 (inl refl)) time fit)) early late

-- other cells after those that were written: what stays through both
pub cells_both : (reveals first second : Type 0) (shape : Shape) (nodes : ℕ) (keep early_keep late_keep : BlockId → Type 0) (old mid new : State) → (first → ⊥) → ((a : BlockId) → keep a → early_keep a) → ((a : BlockId) → keep a → late_keep a)
    → WritesCells reveals shape nodes early_keep first old mid → WritesCells reveals shape nodes late_keep second mid new → WritesCells reveals shape nodes keep second old new
cells_both reveals first second shape nodes keep early_keep late_keep old mid new fine fewer less early late =
    let none = IsNoSite shape in
    writes_both reveals (IsReady old) (IsReady old) (IsReady mid) (FitsRows shape nodes old) (FitsRows shape nodes old) (FitsRows shape nodes mid) first second
    (ChangesArchive shape nodes early_keep none) (ChangesArchive shape nodes late_keep none) (ChangesArchive shape nodes keep none) old mid new fine
    (λ c d one. changes_less shape nodes early_keep keep none none c d fewer (λ f is. is) one)
    (λ c d e one two. changes_both shape nodes keep none c d e (changes_less shape nodes early_keep keep none none c d fewer (λ f is. is) one) (changes_less shape nodes late_keep keep none none d e less (λ f is. is) two))
    (λ _ is. is) (λ _ is step goes. ready_same old mid (step.stay 0 (inl refl)) goes is)
    (λ _ fit. fit) (λ _ fit step time. rows_later shape nodes old mid (step.stay 0 (inl refl)) time fit) early late

-- the same where at least what stays through the first ones stays through the others
pub cells_then : (reveals first second : Type 0) (shape : Shape) (nodes : ℕ) (keep more : BlockId → Type 0) (old mid new : State) → (first → ⊥) → ((a : BlockId) → keep a → more a)
    → WritesCells reveals shape nodes keep first old mid → WritesCells reveals shape nodes more second mid new → WritesCells reveals shape nodes keep second old new
cells_then reveals first second shape nodes keep more old mid new fine fewer early late =
    cells_both reveals first second shape nodes keep keep more old mid new fine (λ a is. is) fewer early late

-- fewer blocks that are to stay
pub cells_less : (reveals fault : Type 0) (shape : Shape) (nodes : ℕ) (keep fewer : BlockId → Type 0) (old new : State) → ((a : BlockId) → fewer a → keep a)
    → WritesCells reveals shape nodes keep fault old new → WritesCells reveals shape nodes fewer fault old new
cells_less reveals fault shape nodes keep fewer old new some writes =
    writes_wider reveals (IsReady old) (FitsRows shape nodes old) (IsReady old) (FitsRows shape nodes old) fault (ChangesArchive shape nodes keep (IsNoSite shape)) (ChangesArchive shape nodes fewer (IsNoSite shape)) old new
    (λ c d step. changes_less shape nodes keep fewer (IsNoSite shape) (IsNoSite shape) c d some (λ f none. none) step) (λ _ is. is) (λ _ fit. fit) writes

-- another name of the fault
pub cells_as : (reveals fault other : Type 0) (shape : Shape) (nodes : ℕ) (keep : BlockId → Type 0) (old new : State) → (other → fault) → (fault → other) → WritesCells reveals shape nodes keep fault old new → WritesCells reveals shape nodes keep other old new
cells_as reveals fault other shape nodes keep old new so back writes = writes_as reveals (IsReady old) (FitsRows shape nodes old) fault other (ChangesArchive shape nodes keep (IsNoSite shape)) old new so back writes

-- both
pub cells_less_as : (reveals fault other : Type 0) (shape : Shape) (nodes : ℕ) (keep fewer : BlockId → Type 0) (old new : State) → ((a : BlockId) → fewer a → keep a) → (other → fault) → (fault → other)
    → WritesCells reveals shape nodes keep fault old new → WritesCells reveals shape nodes fewer other old new
cells_less_as reveals fault other shape nodes keep fewer old new some so back writes =
    cells_as reveals fault other shape nodes fewer old new so back (cells_less reveals fault shape nodes keep fewer old new some writes)

-- A block that stays and was held is so at each moment of the calls and after them.
pub cells_held : (reveals fault : Type 0) (v : Opened) (keep : BlockId → Type 0) (old new : State) (b : BlockId) → reveals → IsBlockOf v.shape b → keep b → WritesCells reveals v.shape v.lattice.n keep fault old new → IsHeldBy v.shape v.digests old b
    → AtEachMoment old new (IsHeldIn v.shape b (recorded_in v.shape v.digests b)) × IsHeldBy v.shape v.digests new b
cells_held reveals fault v keep old new b revealed fits kept writes held =
    let shelf = changes_shelf reveals (IsReady old) (FitsRows v.shape v.lattice.n old) fault v.shape v.lattice.n keep (IsNoSite v.shape) old new writes in (
      held_through reveals v.shape keep old new b (recorded_in v.shape v.digests b) fits kept shelf (held_in v.shape b (recorded_in v.shape v.digests b) old held),
      held_by_shelf reveals v.shape keep old new b (recorded_in v.shape v.digests b) revealed fits kept writes.time.later shelf held,
    )
