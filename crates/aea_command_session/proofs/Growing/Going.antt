-- How far a run has gone: the records of the closes so far, as those of one stretch, and what goes on from there.
use Rattle.std.proofs.Common.{◌≡◌, ⊎_elim, ℕ, ◌+◌, ◌<◌, ◌≤◌, max, List, ◌++◌, length, sym, ◌∙◌, ap, subst, arith, append_assoc}
use Rattle.std.specs.List.{flat_map}
use Rattle.std.proofs.lemmas.Bool.{cases_lt}
use Rattle.std.proofs.lemmas.List.Concat.{flat_map-append}
use Rattle.aea_lattice.specs.declared.blocks.BlockId.{BlockId}
use Rattle.aea_lattice.specs.declared.grid.Lattice.{Lattice}
use Rattle.aea_lattice.specs.declared.shape.Shape.{Shape}
use Rattle.aea_lattice.specs.Shapes.{IsBlockOf}
use Rattle.aea_envelope.specs.Cells.{cell_of}
use Rattle.aea_envelope.specs.Facts.{CellsHaveLengths}
use Rattle.aea_disk.specs.Files.{Files}
use Rattle.aea_disk.specs.Frames.{OnlyWrites}
use Rattle.aea_disk.specs.State.{State, EveryImage, IsFixed}
use Rattle.aea_disk.proofs.Frames.{writes_both}
use Rattle.aea_shelf.specs.Places.{cell_size}
use Rattle.aea_shelf.specs.Writes.{KeepsShelf, KeepsPadded}
use Rattle.aea_shelf.proofs.Runs.{shelf_less}
use Rattle.aea_records.specs.Format.{Record, nodes_of, fences_of, digests_of, raised_limit, spelled}
use Rattle.aea_records.specs.Grammar.{AreRecords}
use Rattle.aea_records.specs.Laws.{HasOneReading}
use Rattle.aea_ledger.specs.Next.{AreItsRecords}
use Rattle.aea_ledger.specs.Recorded.{IsLatticeOf, AreRecordsOf}
use Rattle.aea_ledger.specs.Stops.{HasLedger}
use Rattle.aea_archive.specs.Blocks.{IsBlockOn, IsBlockIn}
use Rattle.aea_archive.specs.Cells.{IsBesides, ChangesArchive}
use Rattle.aea_archive.specs.Lasts.{AreLastsHonest}
use Rattle.aea_archive.specs.Stretches.{HasAtLeast, Adds}
use Rattle.aea_archive.proofs.Cells.{changes_both, changes_less, changes_shelf}
use Rattle.aea_archive.proofs.Records.{one_lattice}
use Rattle.aea_archive.proofs.Stretches.{has_ledger, adds_both}
use Rattle.aea_append.specs.Puts.{AreBlocksWide}
use Rattle.aea_machine.specs.Closings.{Closing, AreClosedRecords, ClosedRecordsJoin}
use Rattle.aea_machine.specs.Machine.{Machine}
use Rattle.aea_session.specs.declared.work.Work.{Work}
use Rattle.aea_session.specs.Closes.{AddsCloses}
use Rattle.aea_session.specs.Stands.{KeepsMachine, StandsFor}
use Rattle.aea_command_store.proofs.Committing.{long_behind, long_both}
use Rattle.aea_command_store.proofs.Agreeing.{joined, joined_low, joined_high, adds_same}
use Rattle.aea_command_session.proofs.Growing.Joining.{at_first, closed_more, closed_same, closed_lattice}

-- the change that leaves the blocks of so many nodes, and the files that are not the archive's
abbrev pub Changes : Shape → ℕ → Files → Files → Type 0
Changes shape nodes = ChangesArchive shape raised_limit (IsBlockIn shape nodes) (IsBesides shape)

-- the blocks that closes add
abbrev pub blocks_of : List Closing → List (List ℕ)
blocks_of closings = flat_map (λ c. c.blocks) closings

-- the records record the list, and the last parities are honest for it in the files
abbrev pub IsOf : Shape → Lattice → List Record → List (List ℕ) → State → Type 0
IsOf shape first records datas old = AreRecordsOf shape records datas × AreLastsHonest shape first (digests_of records) datas old.files

-- In a stretch the records of these closes were added after others, from this lattice on; a list that those record goes on with the
-- blocks of the closes.
pub record Added (reveals fault : Type 0) (shape : Shape) (first : Lattice) (records : List Record) (datas : List (List ℕ)) (closings : List Closing) (old new : State) : Type 0 where
  pub added : List Record
  pub longer : Lattice
  pub payload : BlockId → List ℕ
  pub are : AreClosedRecords shape first longer payload closings added
  pub wide : AreBlocksWide shape first.n longer.n payload
  pub adds : Adds shape records added payload old new
  pub long : length (new.files 0) ≤ max (length (old.files 0)) (length (spelled shape (records ++ added)) + 1)
  pub writes : OnlyWrites reveals ⊥ ⊥ fault (Changes shape first.n) old new
  pub more : IsOf shape first records datas old → AreRecords shape (records ++ added) → AreRecordsOf shape (records ++ added) (datas ++ blocks_of closings)

-- So it is for the closes so far, all of which are there: where the machine stands, with the session, and the disk at the beginning
-- and now.
pub record HasGone (reveals : Type 0) (shape : Shape) (first : Lattice) (records : List Record) (datas : List (List ℕ)) (closings : List Closing) (m : Machine) (v : Work) (old now : State) : Type 0 where
  pub so : Added reveals ⊥ shape first records datas closings old now
  pub is_first : IsLatticeOf shape (nodes_of records) (fences_of records) first
  pub same : v.ledger.shape ≡ shape
  pub keeps : KeepsMachine v m
  pub its : AreItsRecords v.ledger (records ++ so.added) (now.files 0)
  pub fixed : IsFixed now 0
  pub stands : IsOf shape first records datas old → StandsFor v m
  pub follows : m.datas ≡ datas ++ blocks_of closings
  pub padded : KeepsPadded shape (IsBlockIn shape first.n) old.files now.files

module _ (reveals : Type 0) (first : Lattice) (records : List Record) (datas : List (List ℕ)) (closings : List Closing) (m : Machine) (v : Work) (old now : State)
    (gone : HasGone reveals v.ledger.shape first records datas closings m v old now) where
  -- the records that are there
  abbrev pub all_of : List Record
  all_of = records ++ gone.so.added

  -- the lattice that they lead to is that of the ledger
  ends_there : gone.so.longer ≡ v.ledger.lattice
  ends_there =
      one_lattice v.ledger.shape (nodes_of all_of) (fences_of all_of) gone.so.longer v.ledger.lattice
      (closed_lattice v.ledger.shape records first gone.so.longer gone.so.payload closings gone.so.added gone.is_first gone.so.are) gone.its.has.lattice

  are_there : AreClosedRecords v.ledger.shape first v.ledger.lattice gone.so.payload closings gone.so.added
  are_there = subst (λ (l : Lattice). AreClosedRecords v.ledger.shape first l gone.so.payload closings gone.so.added) ends_there gone.so.are

  no_fewer : first.n ≤ v.ledger.lattice.n
  no_fewer = closed_more v.ledger.shape first v.ledger.lattice gone.so.payload closings gone.so.added are_there

  -- a block of the first nodes is one of X and W
  pub among_all : (b : BlockId) → IsBlockIn v.ledger.shape first.n b → IsBlockIn v.ledger.shape v.heads.lattice.n b
  among_all b on = record {
    after = on.after;
    most = (let m = on.most in let g = gone.keeps.grown.nodes in omega (arith, m, g, no_fewer));
    used = on.used;
  }

  -- every image has the records
  pub all_there : EveryImage now (λ c. HasLedger v.ledger.shape all_of (c 0))
  all_there c here = subst (HasLedger v.ledger.shape all_of) (sym (gone.fixed c here)) (has_ledger v.ledger all_of (now.files 0) gone.its)

  -- a list that was recorded is the machine's now
  recorded_there : IsOf v.ledger.shape first records datas old → AreRecordsOf v.ledger.shape all_of m.datas
  recorded_there is = subst (AreRecordsOf v.ledger.shape all_of) (sym gone.follows) (gone.so.more is gone.its.has.valid)

  -- a stretch after it, in which records of closes are added
  module _ (reading : HasOneReading) (lengths : CellsHaveLengths) (join : ClosedRecordsJoin)
      (later : List Closing) (more : List Record) (next : State) (second : AddsCloses v m later more now next)
      (taken fits fault : Type 0) (writes : OnlyWrites reveals taken fits fault (Changes v.ledger.shape v.heads.lattice.n) now next) where
    abbrev both : BlockId → List ℕ
    both = joined v.ledger.lattice.n gone.so.payload second.payload

    low : (b : BlockId) → b.node ≤ v.ledger.lattice.n → both b ≡ gone.so.payload b
    low b few = joined_low v.ledger.lattice.n gone.so.payload second.payload b few

    high : (b : BlockId) → v.ledger.lattice.n < b.node → both b ≡ second.payload b
    high b many = joined_high v.ledger.lattice.n gone.so.payload second.payload b many

    -- the records of both are those of all closes
    pub are_both : AreClosedRecords v.ledger.shape first second.longer both (closings ++ later) (gone.so.added ++ more)
    are_both =
        join v.ledger.shape first v.ledger.lattice second.longer both closings later gone.so.added more
        (closed_same v.ledger.shape first v.ledger.lattice gone.so.payload both closings gone.so.added (λ b after most. low b most) are_there)
        (closed_same v.ledger.shape v.ledger.lattice second.longer second.payload both later more (λ b after most. high b after) second.are)

    wide_first : (b : BlockId) → first.n < b.node → b.node ≤ v.ledger.lattice.n → IsBlockOn v.ledger.shape first.n second.longer.n b → length (both b) ≡ v.ledger.shape.block
    wide_first b after most on =
        ap length (low b most) ∙ gone.so.wide b (record { after = after; most = (let n = ap (λ (l : Lattice). l.n) ends_there in omega (arith, n, most)); used = on.used })

    -- the payloads of all are of a block's size
    pub wide_both : AreBlocksWide v.ledger.shape first.n second.longer.n both
    wide_both b on = ⊎_elim
        (λ late. ap length (high b late) ∙ second.wide b (record { after = late; most = on.most; used = on.used }))
        (λ early. wide_first b on.after early on)
        (cases_lt v.ledger.lattice.n b.node)

    -- the cells of the first ones lie in their homes
    in_homes : (b : BlockId) → IsBlockOn v.ledger.shape (nodes_of records) (nodes_of all_of) b → IsBlockOf v.ledger.shape b × (length (cell_of b (both b)) ≤ cell_size v.ledger.shape)
    in_homes b on =
        let after = on.after in
        let most = on.most in
        let n = gone.its.has.lattice.n in
        let range = v.ledger.lattice.in_range in
        let more_nodes = closed_more v.ledger.shape v.ledger.lattice second.longer second.payload later more second.are in
        let inside : IsBlockOn v.ledger.shape first.n second.longer.n b = record { after = omega (arith, after, gone.is_first.n); most = omega (arith, most, n, more_nodes); used = on.used } in
        let wide = wide_both b inside in
        let long = (lengths b (both b)).2 in (
          record { first = omega (arith, after); last = omega (arith, most, n, range); used = on.used },
          omega (arith, long, wide),
        )

    -- the cells of the first ones stay
    shelf : KeepsShelf reveals v.ledger.shape (IsBlockIn v.ledger.shape (nodes_of all_of)) now next
    shelf =
        shelf_less reveals v.ledger.shape (IsBlockIn v.ledger.shape v.heads.lattice.n) (IsBlockIn v.ledger.shape (nodes_of all_of)) now next
        (λ b on. record { after = on.after; most = (let m = on.most in let g = gone.keeps.grown.nodes in omega (arith, m, g, gone.its.has.lattice.n)); used = on.used })
        (changes_shelf reveals taken fits fault v.ledger.shape raised_limit (IsBlockIn v.ledger.shape v.heads.lattice.n) (IsBesides v.ledger.shape) now next writes)

    -- they are added one by one
    pub adds_all : Adds v.ledger.shape records (gone.so.added ++ more) both old next
    adds_all =
        adds_both reading reveals v.ledger.shape records gone.so.added more both old now next gone.so.writes.time writes.time gone.so.writes.earlier
        (adds_same v.ledger.shape records gone.so.added gone.so.payload both old now (λ b on. low b (let most = on.most in omega (arith, most, gone.its.has.lattice.n))) gone.so.adds)
        all_there in_homes shelf
        (adds_same v.ledger.shape all_of more second.payload both now next (λ b on. high b (let after = on.after in omega (arith, after, gone.its.has.lattice.n))) (second.adds all_of gone.its))

    -- and nothing else is changed
    pub changes_all : OnlyWrites reveals ⊥ ⊥ fault (Changes v.ledger.shape first.n) old next
    changes_all =
        writes_both reveals ⊥ ⊥ taken ⊥ ⊥ fits ⊥ fault (Changes v.ledger.shape first.n) (Changes v.ledger.shape v.heads.lattice.n) (Changes v.ledger.shape first.n) old now next (λ none. none)
        (λ c d one. one)
        (λ c d e one two. changes_both v.ledger.shape raised_limit (IsBlockIn v.ledger.shape first.n) (IsBesides v.ledger.shape) c d e one
        (changes_less v.ledger.shape raised_limit (IsBlockIn v.ledger.shape v.heads.lattice.n) (IsBlockIn v.ledger.shape first.n) (IsBesides v.ledger.shape) (IsBesides v.ledger.shape) d e among_all (λ f past. past) two))
        (λ _ none. none) (λ _ none. absurd none) (λ _ none. none) (λ _ none. absurd none) gone.so.writes writes

    -- the list goes on with the blocks of all closes
    pub more_all : IsOf v.ledger.shape first records datas old → AreRecords v.ledger.shape (records ++ (gone.so.added ++ more)) → AreRecordsOf v.ledger.shape (records ++ (gone.so.added ++ more)) (datas ++ blocks_of (closings ++ later))
    more_all is valid =
        let nest : all_of ++ more ≡ records ++ (gone.so.added ++ more) = append_assoc records gone.so.added more in
        let blocks : m.datas ++ blocks_of later ≡ datas ++ blocks_of (closings ++ later) =
        ap (λ (l : List (List ℕ)). l ++ blocks_of later) gone.follows
        ∙ append_assoc datas (blocks_of closings) (blocks_of later)
        ∙ ap (λ (l : List (List ℕ)). datas ++ l) (sym (flat_map-append (λ (c : Closing). c.blocks) closings later)) in
        subst (λ (rs : List Record). AreRecordsOf v.ledger.shape rs (datas ++ blocks_of (closings ++ later))) nest
        (subst (AreRecordsOf v.ledger.shape (all_of ++ more)) blocks
        (second.more all_of gone.its.has (recorded_there is) (gone.stands is).woven (subst (AreRecords v.ledger.shape) (sym nest) valid)))

    -- the records of both stretches
    unfoldable pub joins : Added reveals fault v.ledger.shape first records datas (closings ++ later) old next
    joins = record {
      added = gone.so.added ++ more;
      longer = second.longer;
      payload = both;
      are = are_both;
      wide = wide_both;
      adds = adds_all;
      long =
          long_both v.ledger.shape records gone.so.added more (old.files 0) (now.files 0) (next.files 0) gone.so.long
          (long_behind v.ledger.shape all_of more v.ledger.end (length (now.files 0)) (length (next.files 0)) gone.its.has.end second.long);
      writes = changes_all;
      more = more_all;
    }

    -- a file that has the records so far, and the first of the others, has at least the first of all
    pub first_there : (bytes : List ℕ) → HasAtLeast v.ledger.shape all_of more 0 bytes → HasAtLeast v.ledger.shape records (gone.so.added ++ more) (length gone.so.added) bytes
    first_there bytes has = at_first v.ledger.shape records gone.so.added more bytes has
