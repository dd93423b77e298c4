-- Calls that only read, of a disk that is synced; and one call after them.
use Rattle.std.proofs.Common.{◌≡◌, ℕ, List, sym, subst, arith}
use Rattle.aea_disk.specs.Files.{Files}
use Rattle.aea_disk.specs.State.{State, Passes, KeepsImages, During, IsSynced, IsRoomy}
use Rattle.aea_disk.specs.Frames.{OnlyReads, OnlyWrites}
use Rattle.aea_disk.proofs.Frames.{reads_writes, reads_then_writes, writes_both, writes_wider}
use Rattle.aea_disk.proofs.Moments.{during_none, during_both, during_kept}
use Rattle.aea_copy_writer.proofs.Stretches.{free_ready}

-- a fact about one file of a synced disk, over calls that keep the images
pub quiet : (file : ℕ) (Q : List ℕ → Type 0) (s t : State) → KeepsImages s t → IsSynced s → Q (s.files file) → During s t (λ c. Q (c file))
quiet file Q s t keeps synced here = during_kept s t (λ c. Q (c file)) keeps (λ c is. subst Q (sym (synced c is file)) here)

-- and over calls after these of which it is known
pub quiet_then : (file : ℕ) (Q : List ℕ → Type 0) (s t u : State) → Passes s t → Passes t u → KeepsImages s t → IsSynced s → Q (s.files file) → During t u (λ c. Q (c file)) → During s u (λ c. Q (c file))
quiet_then file Q s t u one two keeps synced here later = during_both s t u (λ c. Q (c file)) one two (quiet file Q s t keeps synced here) later

-- the same where no call is made
pub quiet_none : (file : ℕ) (Q : List ℕ → Type 0) (s : State) → IsSynced s → Q (s.files file) → During s s (λ c. Q (c file))
quiet_none file Q s synced here = during_none s (λ c. Q (c file)) (λ c is. subst Q (sym (synced c is file)) here)

-- where no call is made the images stay
pub keeps_none : (s : State) → KeepsImages s s
keeps_none s t c from to here = let is : t ≡ s.moment = omega arith in subst (λ (m : ℕ). s.image m c) is here

-- calls that only read, as a frame of any step that may leave the files
pub only_read : (reveals fault fits : Type 0) (step : Files → Files → Type 0) (old new : State) → ((f : ℕ) (b : List ℕ) (m : ℕ) → old.free → old.takes f b m) → ((c : Files) → step c c) → (fits → IsRoomy old) → OnlyReads reveals fault old new → OnlyWrites reveals old.free fits fault step old new
only_read reveals fault fits step old new all none roomy reads = reads_writes reveals old.free fits fault step old new (free_ready old all) roomy none reads

-- and other calls after them
pub only_read_then : (reveals first fault fits late : Type 0) (step : Files → Files → Type 0) (old mid new : State) → (first → ⊥) → ((f : ℕ) (b : List ℕ) (m : ℕ) → old.free → old.takes f b m) → ((c : Files) → step c c) → (fits → IsRoomy old)
    → (reveals → fits → mid.files ≡ old.files → Passes old mid → late) → OnlyReads reveals first old mid → OnlyWrites reveals mid.free late fault step mid new → OnlyWrites reveals old.free fits fault step old new
only_read_then reveals first fault fits late step old mid new fine all none roomy later early then =
    reads_then_writes reveals old.free mid.free fits late first fault step old mid new fine none (free_ready old all) (λ revealed is same goes. early.time.free is) roomy later early then

-- calls of one step, and others of another after them
pub only_both : (reveals first fault fits late : Type 0) (one two step : Files → Files → Type 0) (old mid new : State) → (first → ⊥) → ((c d : Files) → one c d → step c d) → ((c d e : Files) → one c d → two d e → step c e)
    → (reveals → fits → one old.files mid.files → Passes old mid → late) → OnlyWrites reveals old.free fits first one old mid → OnlyWrites reveals mid.free late fault two mid new → OnlyWrites reveals old.free fits fault step old new
only_both reveals first fault fits late one two step old mid new fine alone both later early then =
    writes_both reveals old.free old.free mid.free fits fits late first fault one two step old mid new fine alone both (λ revealed is. is) (λ revealed is step goes. early.time.free is) (λ revealed fit. fit) later early then

-- a wider step, and fewer that fit
pub only_wider : (reveals fault fits wider : Type 0) (one step : Files → Files → Type 0) (old new : State) → ((c d : Files) → one c d → step c d) → (reveals → wider → fits) → OnlyWrites reveals old.free fits fault one old new → OnlyWrites reveals old.free wider fault step old new
only_wider reveals fault fits wider one step old new alone fit writes = writes_wider reveals old.free fits old.free wider fault one step old new alone (λ revealed is. is) fit writes
