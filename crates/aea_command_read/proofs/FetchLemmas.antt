-- What `fetch` does, by where it ends.
pub mod Causing
use Rattle.std.proofs.Common.{◌≡◌, ◌≢◌, ◌⊎◌, inl, inr, ℕ, ◌≤◌, List, [], ◌∷◌, refl, sym, ap, subst, Some, None, Result, Ok, Err}
use Rattle.std.specs.Prelude.{◌↔◌, Bool, false, IfOk, IfErr, OnOk, replicate}
use Rattle.std.specs.FinMap.{get}
use Rattle.std.specs.Io.KnownBytes.{Appends}
use Rattle.aea_io.specs.Streams.{SinkState}
use Rattle.aea_lattice.specs.declared.blocks.BlockId.{BlockId}
use Rattle.aea_lattice.specs.Data.{IsDataList}
use Rattle.aea_lattice.specs.LeastWord.{IsWord}
use Rattle.aea_disk.specs.Files.{Files}
use Rattle.aea_disk.specs.Frames.{OnlyReads}
use Rattle.aea_disk.specs.State.{State}
use Rattle.aea_disk.proofs.Frames.{reads_as, reads_both}
use Rattle.aea_catalog.specs.Catalogs.{Placed}
use Rattle.aea_records.specs.Format.{Record}
use Rattle.aea_ledger.specs.Recorded.{AreRecordsOf}
use Rattle.aea_ledger.specs.Values.{Opened, HasRecords}
use Rattle.aea_archive.specs.Blocks.{RevealsSurvivors}
use Rattle.aea_archive.specs.Data.{AreSurvivorsHonest}
use Rattle.aea_archive.specs.Objects.{data_of, object_in, ArePayloads, IsOneOf}
use Rattle.aea_restore.specs.Drawn.{IsDrawn, IsOtherDigest, IsClash}
use Rattle.aea_restore.proofs.Judging.{judged_moved}
use Rattle.aea_degraded.specs.declared.fault.FetchFault.{FetchFault}
use Rattle.aea_degraded.specs.declared.fault.FetchFault.TheVariants as fault
use Rattle.aea_degraded.specs.Fetched.{IsFetched, HasFetched, HasFetchedPart, IsFirstOpen, IsOutside}
use Rattle.aea_command.specs.declared.refusal.Refusal.{Refusal}
use Rattle.aea_command.specs.declared.refusal.Refusal.TheVariants.{UnknownName, Undetermined}
use Rattle.aea_command.specs.declared.refusal.Failure.{Failure}
use Rattle.aea_command.specs.declared.refusal.Failure.TheVariants as failure
use Rattle.aea_command.specs.declared.status.Status.TheVariants.{Done}
use Rattle.aea_command.specs.Failures.{Answer, fetch_failure}
use Rattle.aea_command_read.specs.Fetch.{FetchesObject, FetchesOpened, IsFetching, HasUndetermined, HasClashed, WritesFetched}
use Rattle.aea_command.specs.Openings.{Opens}
use Rattle.aea_command.proofs.Opened.{opens_reading, opens_alone}

-- what the call gave after the opening
pub record HasFetching (name : List ℕ) (reveals : Type 0) (v : Opened) (old mid new : State) (before after : SinkState) (r : Result ℕ FetchFault) : Type 1 where
  pub opens : Opens reveals old mid (Ok v)
  pub fetched : IfOk r (λ n. (p : Placed) × (get v.objects name ≡ Some p) × (n ≡ p.object.length) × HasFetched reveals v mid.files p before after)
  pub own : OnOk r (reveals → (p : Placed) (datas : List (List ℕ)) → get v.objects name ≡ Some p → IsDataList v.lattice v.shape.block datas
      → AreSurvivorsHonest v.shape v.lattice v.digests datas mid.files → Appends before.written after.written (object_in p datas))
  pub unknown : (r ≡ Err fault.UnknownName) ↔ (get v.objects name ≡ None)
  pub undetermined : (b : BlockId) (nodes : List ℕ) → r ≡ Err (fault.Undetermined b nodes) → (p : Placed) × (get v.objects name ≡ Some p) × IsOneOf (data_of p.parts) b
      × ((test : BlockId → Bool) × IsWord v.lattice test b nodes) × (after ≡ before)
      × (reveals → (known : BlockId → Bool) → RevealsSurvivors v.shape v.lattice.n v.digests mid.files known → IsFirstOpen v.lattice known (data_of p.parts) b nodes)
  pub open_refused : reveals → (p : Placed) (known : BlockId → Bool) (b : BlockId) (nodes : List ℕ) → get v.objects name ≡ Some p
      → RevealsSurvivors v.shape v.lattice.n v.digests mid.files known → IsFirstOpen v.lattice known (data_of p.parts) b nodes
      → (r ≡ Err (fault.Undetermined b nodes)) ⊎ IsOutside r
  pub clash : (b : BlockId) (revealed computed : List ℕ) → r ≡ Err (fault.Clash b revealed computed) → IsOtherDigest v b revealed computed
  pub computed : reveals → (known : BlockId → Bool) → RevealsSurvivors v.shape v.lattice.n v.digests mid.files known
      → (b : BlockId) (revealed computed : List ℕ) → r ≡ Err (fault.Clash b revealed computed)
      → ((p : Placed) → get v.objects name ≡ Some p → IsOneOf (data_of p.parts) b) × (known b ≡ false) × IsClash v known mid.files b revealed computed × (after ≡ before)
  pub no_clash : reveals → (records : List Record) (datas : List (List ℕ)) → HasRecords v records → AreRecordsOf v.shape records datas
      → AreSurvivorsHonest v.shape v.lattice v.digests datas mid.files → (b : BlockId) (revealed computed : List ℕ) → r ≢ Err (fault.Clash b revealed computed)
  pub unused : (r ≡ Err fault.UnknownName) ⊎ (r ≡ Err fault.NoMemory) → after ≡ before
  pub part : IfErr r (λ f. (p : Placed) → get v.objects name ≡ Some p → (after ≡ before) ⊎ HasFetchedPart reveals v mid.files p before after)
  pub reads : OnlyReads reveals (r ≡ Err fault.DiskFault) mid new
  pub in_room : (p : Placed) (room : ℕ) → get v.objects name ≡ Some p → before.room ≡ Some room → p.object.length ≤ room
      → (r ≡ Err fault.WriteFault → ⊥) × (after.faults ≡ before.faults)

-- and the answer to it
abbrev pub answer_to : Result ℕ FetchFault → Answer
answer_to (Ok n) = Ok Done
answer_to (Err f) = Err (fetch_failure f)

fetching_kinds : (r : Result ℕ FetchFault) → IsFetching (answer_to r)
fetching_kinds (Ok n) = inl refl
fetching_kinds (Err fault.UnknownName) = inr (inl (inl refl))
fetching_kinds (Err (fault.Undetermined b nodes)) = inr (inl (inr (b, nodes, refl)))
fetching_kinds (Err (fault.Clash b revealed computed)) = inr (inr (inl (b, revealed, computed, refl)))
fetching_kinds (Err fault.WriteFault) = inr (inr (inr (inr (inl refl))))
fetching_kinds (Err fault.DiskFault) = inr (inr (inr (inl refl)))
fetching_kinds (Err fault.NoMemory) = inr (inr (inr (inr (inr refl))))

-- which fault an answer comes from
pub from_unknown : (r : Result ℕ FetchFault) → answer_to r ≡ Err (failure.Refused UnknownName) → r ≡ Err fault.UnknownName
from_unknown (Ok n) e = let h : Ok Done ≡ Err (failure.Refused UnknownName) = e in cc
from_unknown (Err fault.UnknownName) e = refl
from_unknown (Err (fault.Undetermined b nodes)) e = let h : Err (failure.Refused (Undetermined b nodes)) ≡ Err (failure.Refused UnknownName) = e in cc
from_unknown (Err (fault.Clash b revealed computed)) e = let h : Err (failure.Clash b revealed computed) ≡ Err (failure.Refused UnknownName) = e in cc
from_unknown (Err fault.WriteFault) e = let h : Err failure.Output ≡ Err (failure.Refused UnknownName) = e in cc
from_unknown (Err fault.DiskFault) e = let h : Err failure.Disk ≡ Err (failure.Refused UnknownName) = e in cc
from_unknown (Err fault.NoMemory) e = let h : Err failure.Memory ≡ Err (failure.Refused UnknownName) = e in cc

pub from_undetermined : (r : Result ℕ FetchFault) (b : BlockId) (nodes : List ℕ) → answer_to r ≡ Err (failure.Refused (Undetermined b nodes)) → r ≡ Err (fault.Undetermined b nodes)
from_undetermined (Ok n) b nodes e = let h : Ok Done ≡ Err (failure.Refused (Undetermined b nodes)) = e in cc
from_undetermined (Err fault.UnknownName) b nodes e = let h : Err (failure.Refused UnknownName) ≡ Err (failure.Refused (Undetermined b nodes)) = e in cc
from_undetermined (Err (fault.Undetermined d others)) b nodes e = let h : Err (failure.Refused (Undetermined d others)) ≡ Err (failure.Refused (Undetermined b nodes)) = e in cc
from_undetermined (Err (fault.Clash d revealed computed)) b nodes e = let h : Err (failure.Clash d revealed computed) ≡ Err (failure.Refused (Undetermined b nodes)) = e in cc
from_undetermined (Err fault.WriteFault) b nodes e = let h : Err failure.Output ≡ Err (failure.Refused (Undetermined b nodes)) = e in cc
from_undetermined (Err fault.DiskFault) b nodes e = let h : Err failure.Disk ≡ Err (failure.Refused (Undetermined b nodes)) = e in cc
from_undetermined (Err fault.NoMemory) b nodes e = let h : Err failure.Memory ≡ Err (failure.Refused (Undetermined b nodes)) = e in cc

pub from_clash : (r : Result ℕ FetchFault) (b : BlockId) (revealed computed : List ℕ) → answer_to r ≡ Err (failure.Clash b revealed computed) → r ≡ Err (fault.Clash b revealed computed)
from_clash (Ok n) b revealed computed e = let h : Ok Done ≡ Err (failure.Clash b revealed computed) = e in cc
from_clash (Err fault.UnknownName) b revealed computed e = let h : Err (failure.Refused UnknownName) ≡ Err (failure.Clash b revealed computed) = e in cc
from_clash (Err (fault.Undetermined d nodes)) b revealed computed e = let h : Err (failure.Refused (Undetermined d nodes)) ≡ Err (failure.Clash b revealed computed) = e in cc
from_clash (Err (fault.Clash d want sum)) b revealed computed e = let h : Err (failure.Clash d want sum) ≡ Err (failure.Clash b revealed computed) = e in cc
from_clash (Err fault.WriteFault) b revealed computed e = let h : Err failure.Output ≡ Err (failure.Clash b revealed computed) = e in cc
from_clash (Err fault.DiskFault) b revealed computed e = let h : Err failure.Disk ≡ Err (failure.Clash b revealed computed) = e in cc
from_clash (Err fault.NoMemory) b revealed computed e = let h : Err failure.Memory ≡ Err (failure.Clash b revealed computed) = e in cc

pub from_disk : (r : Result ℕ FetchFault) → answer_to r ≡ Err failure.Disk → r ≡ Err fault.DiskFault
from_disk (Ok n) e = let h : Ok Done ≡ Err failure.Disk = e in cc
from_disk (Err fault.UnknownName) e = let h : Err (failure.Refused UnknownName) ≡ Err failure.Disk = e in cc
from_disk (Err (fault.Undetermined b nodes)) e = let h : Err (failure.Refused (Undetermined b nodes)) ≡ Err failure.Disk = e in cc
from_disk (Err (fault.Clash b revealed computed)) e = let h : Err (failure.Clash b revealed computed) ≡ Err failure.Disk = e in cc
from_disk (Err fault.WriteFault) e = let h : Err failure.Output ≡ Err failure.Disk = e in cc
from_disk (Err fault.DiskFault) e = refl
from_disk (Err fault.NoMemory) e = let h : Err failure.Memory ≡ Err failure.Disk = e in cc

pub from_output : (r : Result ℕ FetchFault) → answer_to r ≡ Err failure.Output → r ≡ Err fault.WriteFault
from_output (Ok n) e = let h : Ok Done ≡ Err failure.Output = e in cc
from_output (Err fault.UnknownName) e = let h : Err (failure.Refused UnknownName) ≡ Err failure.Output = e in cc
from_output (Err (fault.Undetermined b nodes)) e = let h : Err (failure.Refused (Undetermined b nodes)) ≡ Err failure.Output = e in cc
from_output (Err (fault.Clash b revealed computed)) e = let h : Err (failure.Clash b revealed computed) ≡ Err failure.Output = e in cc
from_output (Err fault.WriteFault) e = refl
from_output (Err fault.DiskFault) e = let h : Err failure.Disk ≡ Err failure.Output = e in cc
from_output (Err fault.NoMemory) e = let h : Err failure.Memory ≡ Err failure.Output = e in cc

pub from_memory : (r : Result ℕ FetchFault) → answer_to r ≡ Err failure.Memory → r ≡ Err fault.NoMemory
from_memory (Ok n) e = let h : Ok Done ≡ Err failure.Memory = e in cc
from_memory (Err fault.UnknownName) e = let h : Err (failure.Refused UnknownName) ≡ Err failure.Memory = e in cc
from_memory (Err (fault.Undetermined b nodes)) e = let h : Err (failure.Refused (Undetermined b nodes)) ≡ Err failure.Memory = e in cc
from_memory (Err (fault.Clash b revealed computed)) e = let h : Err (failure.Clash b revealed computed) ≡ Err failure.Memory = e in cc
from_memory (Err fault.WriteFault) e = let h : Err failure.Output ≡ Err failure.Memory = e in cc
from_memory (Err fault.DiskFault) e = let h : Err failure.Disk ≡ Err failure.Memory = e in cc
from_memory (Err fault.NoMemory) e = refl

-- a refusal is one of these two
pub refused_by : (r : Result ℕ FetchFault) (why : Refusal) → answer_to r ≡ Err (failure.Refused why)
    → ((r ≡ Err fault.UnknownName) × (why ≡ UnknownName)) ⊎ ((b : BlockId) × (nodes : List ℕ) × (r ≡ Err (fault.Undetermined b nodes)) × (why ≡ Undetermined b nodes))
refused_by (Ok n) why e = let h : Ok Done ≡ Err (failure.Refused why) = e in cc
refused_by (Err fault.UnknownName) why e = let h : Err (failure.Refused UnknownName) ≡ Err (failure.Refused why) = e in inl (refl, cc)
refused_by (Err (fault.Undetermined b nodes)) why e = let h : Err (failure.Refused (Undetermined b nodes)) ≡ Err (failure.Refused why) = e in inr (b, nodes, refl, cc)
refused_by (Err (fault.Clash b revealed computed)) why e = let h : Err (failure.Clash b revealed computed) ≡ Err (failure.Refused why) = e in cc
refused_by (Err fault.WriteFault) why e = let h : Err failure.Output ≡ Err (failure.Refused why) = e in cc
refused_by (Err fault.DiskFault) why e = let h : Err failure.Disk ≡ Err (failure.Refused why) = e in cc
refused_by (Err fault.NoMemory) why e = let h : Err failure.Memory ≡ Err (failure.Refused why) = e in cc

-- ---- files that read the same

module _ (reveals : Type 0) (v : Opened) (c d : Files) (same : reveals → c ≡ d) where
  tests_there : reveals → (known : BlockId → Bool) → RevealsSurvivors v.shape v.lattice.n v.digests d known → RevealsSurvivors v.shape v.lattice.n v.digests c known
  tests_there revealed known tests = subst (λ (f : Files). RevealsSurvivors v.shape v.lattice.n v.digests f known) (sym (same revealed)) tests

  fetched_at : (bs : List BlockId) (ps : List (List ℕ)) → ArePayloads (IsFetched reveals v c) bs ps → ArePayloads (IsFetched reveals v d) bs ps
  fetched_at [] [] are = tt
  fetched_at [] (p ∷ ps) are = absurd are
  fetched_at (b ∷ bs) [] are = absurd are
  fetched_at (b ∷ bs) (p ∷ ps) are = (
    record {
      wide = are.0.wide;
      digest = are.0.digest;
      readings = record {
        blocks = are.0.readings.blocks;
        has = are.0.readings.has;
        sum = are.0.readings.sum;
        judged = judged_moved reveals v d c (replicate v.shape.block 0) p are.0.readings.blocks same are.0.readings.judged;
      };
      drawn = λ revealed known tests. subst (λ (f : Files). IsDrawn v known f b p) (same revealed) (are.0.drawn revealed known (tests_there revealed known tests));
    },
    fetched_at bs ps are.1,
  )

-- ---- the archive was opened

module _ (name : List ℕ) (reveals : Type 0) (v : Opened) (old mid new : State) (before after : SinkState) where
  same_files : Opens reveals old mid (Ok v) → reveals → mid.files ≡ old.files
  same_files opens revealed = opens.reads.contents revealed

  -- what was found of the files after the opening is so of those at the entry
  fetched_there : (p : Placed) → Opens reveals old mid (Ok v) → HasFetched reveals v mid.files p before after → HasFetched reveals v old.files p before after
  fetched_there p opens got = record {
    payloads = got.payloads;
    are = fetched_at reveals v mid.files old.files (same_files opens) (data_of p.parts) got.payloads got.are;
    long = got.long;
    appended = got.appended;
  }

  part_there : (p : Placed) → Opens reveals old mid (Ok v) → HasFetchedPart reveals v mid.files p before after → HasFetchedPart reveals v old.files p before after
  part_there p opens part = record {
    front = part.front;
    is_front = part.is_front;
    payloads = part.payloads;
    are = fetched_at reveals v mid.files old.files (same_files opens) part.front part.payloads part.are;
    part = part.part;
  }

  whole_by : (r : Result ℕ FetchFault) → HasFetching name reveals v old mid new before after r → OnOk (answer_to r) (WritesFetched name reveals v old.files before after)
  whole_by (Ok n) gave = let p = gave.fetched.0 in (p, gave.fetched.1, fetched_there p gave.opens gave.fetched.3)
  whole_by (Err f) gave = tt

  own_by : (r : Result ℕ FetchFault) → HasFetching name reveals v old mid new before after r
      → OnOk (answer_to r) (reveals → (p : Placed) (datas : List (List ℕ)) → get v.objects name ≡ Some p → IsDataList v.lattice v.shape.block datas
      → AreSurvivorsHonest v.shape v.lattice v.digests datas old.files → Appends before.written after.written (object_in p datas))
  own_by (Ok n) gave = λ revealed p datas is is_data honest.
      gave.own revealed p datas is is_data (subst (λ (c : Files). AreSurvivorsHonest v.shape v.lattice v.digests datas c) (sym (same_files gave.opens revealed)) honest)
  own_by (Err f) gave = tt

  part_by : (r : Result ℕ FetchFault) → HasFetching name reveals v old mid new before after r
      → IfErr (answer_to r) (λ f. (p : Placed) → get v.objects name ≡ Some p → (after ≡ before) ⊎ HasFetchedPart reveals v old.files p before after)
  part_by (Ok n) gave = tt
  part_by (Err f) gave = λ p is. elim (gave.part p is) [ inl none ↦ inl none | inr part ↦ inr (part_there p gave.opens part) ]

  undetermined_by : (r : Result ℕ FetchFault) → HasFetching name reveals v old mid new before after r → (b : BlockId) (nodes : List ℕ) → answer_to r ≡ Err (failure.Refused (Undetermined b nodes))
      → HasUndetermined name reveals v old.files b nodes
  undetermined_by r gave b nodes e =
      let by = gave.undetermined b nodes (from_undetermined r b nodes e) in
      record {
        placed = by.0;
        found = by.1;
        among = by.2;
        test = by.3.0;
        word = by.3.1;
        first = λ revealed known tests. by.5 revealed known (tests_there reveals v mid.files old.files (same_files gave.opens) revealed known tests);
      }

  computed_by : (r : Result ℕ FetchFault) → HasFetching name reveals v old mid new before after r → reveals → (known : BlockId → Bool) → RevealsSurvivors v.shape v.lattice.n v.digests old.files known
      → (b : BlockId) (revealed computed : List ℕ) → answer_to r ≡ Err (failure.Clash b revealed computed) → HasClashed name v known old.files b revealed computed × (after ≡ before)
  computed_by r gave reveal known tests b revealed computed e =
      let by = gave.computed reveal known (tests_there reveals v mid.files old.files (same_files gave.opens) reveal known tests) b revealed computed (from_clash r b revealed computed e) in (
        record { among = by.0; damaged = by.1; clash = subst (λ (c : Files). IsClash v known c b revealed computed) (same_files gave.opens reveal) by.2 },
        by.3,
      )

  fetches_by : (r : Result ℕ FetchFault) → HasFetching name reveals v old mid new before after r → FetchesOpened name reveals v old.files before after (answer_to r)
  fetches_by r gave = record {
    kinds = fetching_kinds r;
    unknown = (λ e. gave.unknown.0 (from_unknown r e), λ none. ap answer_to (gave.unknown.1 none));
    whole = whole_by r gave;
    own = own_by r gave;
    undetermined = undetermined_by r gave;
    clash = λ b revealed computed e. gave.clash b revealed computed (from_clash r b revealed computed e);
    computed = computed_by r gave;
    no_clash = λ reveal records datas has recorded honest b revealed computed e.
        gave.no_clash reveal records datas has recorded (subst (λ (c : Files). AreSurvivorsHonest v.shape v.lattice v.digests datas c) (sym (same_files gave.opens reveal)) honest) b revealed computed (from_clash r b revealed computed e);
    part = part_by r gave;
    unused = λ why e. elim (refused_by r why e) [
      | inl both ↦ gave.unused (inl both.0)
      | inr both ↦ (gave.undetermined both.0 both.1 both.2).4
    ];
    none = λ e. gave.unused (inr (from_memory r e));
    in_room = λ p room is revealed enough. let fits = gave.in_room p room is revealed enough in (λ e. fits.0 (from_output r e), fits.1);
  }

  pub fetches_fetched : (r : Result ℕ FetchFault) → HasFetching name reveals v old mid new before after r → FetchesObject name reveals old new before after (answer_to r)
  fetches_fetched r gave = record {
    opening = Ok v;
    opens = opens_reading reveals (r ≡ Err fault.DiskFault) old mid new v gave.opens gave.reads;
    reads = reads_as reveals (r ≡ Err fault.DiskFault) _ old new (from_disk r) (λ is. cc)
        (reads_both reveals _ (r ≡ Err fault.DiskFault) old mid new (λ is. absurd (cc)) gave.opens.reads gave.reads);
    unopened = tt;
    fetches = fetches_by r gave;
  }

-- ---- it was not

pub fetches_unopened : (name : List ℕ) (reveals : Type 0) (old new : State) (out : SinkState) (f : Failure) → Opens reveals old new (Err f) → FetchesObject name reveals old new out out (Err f)
fetches_unopened name reveals old new out f opens = record {
  opening = Err f;
  opens = opens_alone reveals old new (Err f) opens;
  reads = reads_as reveals _ _ old new (λ e. cc) (λ is. cc) opens.reads;
  unopened = (refl, refl);
  fetches = tt;
}
