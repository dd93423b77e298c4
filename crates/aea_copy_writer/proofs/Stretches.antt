-- Calls that change one file of a disk without rules, one after the other.
use Rattle.std.proofs.Common.{◌≡◌, ◌≢◌, ⊎_elim, ℕ, ◌+◌, ◌≤◌, List, length, take, Result, IsErr, OnOk, OnErr, refl, ap, subst, ◌∙◌, arith}
use Rattle.std.proofs.lemmas.List.{length-take}
use Rattle.std.proofs.lemmas.Bool.{cases_lt}
use Rattle.aea_faults.specs.Faults.{HasCause}
use Rattle.aea_disk.specs.Files.{Files, ChangesFile, ChangesOnly, Holds, Torn, IsCut, MayBeCut}
use Rattle.aea_disk.specs.Steps.{changes_none, changes_wider, torn_front}
use Rattle.aea_disk.specs.State.{State, Passes, Follows, KeepsImages, Settles, IsReady, IsRoomy, IsSure, TakesFrom, HasRoomTo}
use Rattle.aea_disk.specs.Frames.{OnlyReads, OnlyWrites}
use Rattle.aea_disk.proofs.Frames.{reads_writes, writes_one, writes_both, writes_wider, writes_faulted, keeps_both, writes_then_reads, reads_then_writes, torn_anyway, cut_anyway}
use Rattle.aea_copy_writer.specs.Changes.{KeepsFront, FitsChange}

-- a disk without rules is ready
pub free_ready : (s : State) → ((f : ℕ) (b : List ℕ) (m : ℕ) → s.free → s.takes f b m) → s.free → IsReady s
free_ready s all free = (0, all 0 (s.files 0) 0 free)

pub fits_roomy : (s : State) (file end : ℕ) → FitsChange s file end → IsRoomy s
fits_roomy s file end fit = record { some = (file, end, fit.room); sync = fit.sync s.files (λ f other. refl) }

-- what fits, fits after changes of the file
pub fits_later : (old mid : State) (file n m : ℕ) → ((f i j : ℕ) → i ≤ j → mid.room f j → mid.room f i) → m ≤ n → ChangesOnly file old.files mid.files → Passes old mid → FitsChange old file n → FitsChange mid file m
fits_later old mid file n m smaller le changes passes fit = record {
  room = smaller file m n le (passes.room file n fit.room);
  sync = λ c change. passes.syncs (c 0) (fit.sync c (λ f other. change f other ∙ changes f other));
}

pub fits_less : (s : State) (file n m : ℕ) → ((f i j : ℕ) → i ≤ j → s.room f j → s.room f i) → m ≤ n → FitsChange s file n → FitsChange s file m
fits_less s file n m smaller le fit = record { room = smaller file m n le fit.room; sync = fit.sync }

pub change_both : (file : ℕ) (one two all : List ℕ → List ℕ → Type 0) (c d e : Files) → ((x y z : List ℕ) → one x y → two y z → all x z) → ChangesFile file one c d → ChangesFile file two d e → ChangesFile file all c e
change_both file one two all c d e both first second = record {
  here = both (c file) (d file) (e file) first.here second.here;
  others = λ f other. second.others f other ∙ first.others f other;
}

-- one write
pub one_write : {T E : Type 0} (reveals : Type 0) (file at : ℕ) (bytes : List ℕ) (old new : State) (result : Result T E) → ((f : ℕ) (b : List ℕ) (m : ℕ) → old.free → old.takes f b m)
    → OnOk result (reveals → ChangesFile file (Holds at bytes) old.files new.files) → OnErr result (reveals → ChangesFile file (Torn at (length bytes)) old.files new.files)
    → Follows (ChangesFile file (Torn at (length bytes))) old new → Settles old new → Passes old new → HasCause old.faults new.faults result
    → IsSure (reveals × TakesFrom old file at) (HasRoomTo old file (at + length bytes)) old new result
    → OnlyWrites reveals old.free (FitsChange old file (at + length bytes)) (IsErr result) (ChangesFile file (Torn at (length bytes))) old new
one_write reveals file at bytes old new result all written torn crash settled time cause sure =
    let step = ChangesFile file (Torn at (length bytes)) in
    writes_wider reveals (TakesFrom old file at) (HasRoomTo old file (at + length bytes)) old.free (FitsChange old file (at + length bytes)) (IsErr result) step step old new (λ a b is. is) (λ revealed free. all file (old.files 0) at free) (λ revealed fit. fit.room)
    (writes_one reveals (TakesFrom old file at) (HasRoomTo old file (at + length bytes)) step old new result (torn_anyway reveals file at bytes old.files new.files result written torn) crash settled time cause sure)

-- one that failed, and a fault that is returned
pub failed_write : {T E : Type 0} (reveals fault : Type 0) (file at : ℕ) (bytes : List ℕ) (old new : State) (result : Result T E) → ((f : ℕ) (b : List ℕ) (m : ℕ) → old.free → old.takes f b m) → IsErr result → fault
    → OnOk result (reveals → ChangesFile file (Holds at bytes) old.files new.files) → OnErr result (reveals → ChangesFile file (Torn at (length bytes)) old.files new.files)
    → Follows (ChangesFile file (Torn at (length bytes))) old new → Settles old new → Passes old new → HasCause old.faults new.faults result
    → IsSure (reveals × TakesFrom old file at) (HasRoomTo old file (at + length bytes)) old new result
    → OnlyWrites reveals old.free (FitsChange old file (at + length bytes)) fault (ChangesFile file (Torn at (length bytes))) old new
failed_write reveals fault file at bytes old new result all failed is written torn crash settled time cause sure =
    writes_faulted reveals old.free (FitsChange old file (at + length bytes)) (IsErr result) fault (ChangesFile file (Torn at (length bytes))) old new
    (one_write reveals file at bytes old new result all written torn crash settled time cause sure) failed is

-- calls that only read
pub read_only : (reveals fault : Type 0) (file n : ℕ) (step : List ℕ → List ℕ → Type 0) (old new : State) → ((f : ℕ) (b : List ℕ) (m : ℕ) → old.free → old.takes f b m) → ((x : List ℕ) → step x x)
    → OnlyReads reveals fault old new → OnlyWrites reveals old.free (FitsChange old file n) fault (ChangesFile file step) old new
read_only reveals fault file n step old new all none reads =
    reads_writes reveals old.free (FitsChange old file n) fault (ChangesFile file step) old new (free_ready old all) (fits_roomy old file n) (λ c. changes_none file step c (none (c file))) reads

-- calls without a fault, and others after them
pub then_more : (reveals first fault : Type 0) (file n m : ℕ) (one two all : List ℕ → List ℕ → Type 0) (old mid new : State)
    → (first → ⊥) → ((x y : List ℕ) → one x y → all x y) → ((x y z : List ℕ) → one x y → two y z → all x z)
    → ((f i j : ℕ) → i ≤ j → mid.room f j → mid.room f i) → m ≤ n
    → OnlyWrites reveals old.free (FitsChange old file n) first (ChangesFile file one) old mid
    → OnlyWrites reveals mid.free (FitsChange mid file m) fault (ChangesFile file two) mid new
    → OnlyWrites reveals old.free (FitsChange old file n) fault (ChangesFile file all) old new
then_more reveals first fault file n m one two all old mid new fine alone both smaller le early late =
    writes_both reveals old.free old.free mid.free (FitsChange old file n) (FitsChange old file n) (FitsChange mid file m) first fault (ChangesFile file one) (ChangesFile file two) (ChangesFile file all) old mid new fine
    (λ c d. changes_wider file one all c d alone) (λ c d e. change_both file one two all c d e both)
    (λ revealed is. is) (λ revealed is step goes. early.time.free is) (λ revealed fit. fit) (λ revealed fit step passes. fits_later old mid file n m smaller le step.others passes fit)
    early late

-- a wider step, and less that fits
pub more_freely : (reveals fault : Type 0) (file n m : ℕ) (narrow wide : List ℕ → List ℕ → Type 0) (old new : State) → ((x y : List ℕ) → narrow x y → wide x y)
    → ((f i j : ℕ) → i ≤ j → old.room f j → old.room f i) → m ≤ n
    → OnlyWrites reveals old.free (FitsChange old file m) fault (ChangesFile file narrow) old new → OnlyWrites reveals old.free (FitsChange old file n) fault (ChangesFile file wide) old new
more_freely reveals fault file n m narrow wide old new wider smaller le writes =
    writes_wider reveals old.free (FitsChange old file m) old.free (FitsChange old file n) fault (ChangesFile file narrow) (ChangesFile file wide) old new (λ c d. changes_wider file narrow wide c d wider) (λ revealed is. is)
    (λ revealed fit. fits_less old file n m smaller le fit) writes

-- what is kept of the front
pub front_none : (n : ℕ) (x : List ℕ) → KeepsFront n x x
front_none n x m few within = refl

pub front_same : (n : ℕ) (x y z : List ℕ) → KeepsFront n x y → KeepsFront n y z → KeepsFront n x z
front_same n x y z one two m few within =
    let first : take m y ≡ take m x = one m few within in
    let long : m ≤ length y = omega (arith, ap length first, length-take m y, length-take m x, within) in
    two m few long ∙ first

pub front_torn : (n at k : ℕ) (x y : List ℕ) → n ≤ at → Torn at k x y → KeepsFront n x y
front_torn n at k x y before torn m few within = torn_front at k x y m (omega (arith, before, few)) within torn

pub front_less : (n k : ℕ) (x y : List ℕ) → n ≤ k → KeepsFront k x y → KeepsFront n x y
front_less n k x y le keeps m few within = keeps m (omega (arith, few, le)) within

-- calls that change the file, and others that only read
pub then_read : (reveals first fault : Type 0) (file n : ℕ) (step : List ℕ → List ℕ → Type 0) (old mid new : State) → (first → ⊥) → ((f : ℕ) (b : List ℕ) (m : ℕ) → mid.free → mid.takes f b m)
    → OnlyWrites reveals old.free (FitsChange old file n) first (ChangesFile file step) old mid → OnlyReads reveals fault mid new → OnlyWrites reveals old.free (FitsChange old file n) fault (ChangesFile file step) old new
then_read reveals first fault file n step old mid new fine all early late =
    writes_then_reads reveals old.free (FitsChange old file n) first fault (ChangesFile file step) old mid new fine (λ revealed is step goes. free_ready mid all (early.time.free is))
    (λ revealed fit step passes. record { some = (file, n, passes.room file n fit.room); sync = passes.syncs (mid.files 0) (fit.sync mid.files step.others) })
    early late

-- one cut of all of a file
pub one_cut : {T E : Type 0} (reveals : Type 0) (file : ℕ) (old new : State) (result : Result T E) → ((f : ℕ) (b : List ℕ) (m : ℕ) → old.free → old.takes f b m)
    → OnOk result (reveals → ChangesFile file (IsCut 0) old.files new.files) → OnErr result (reveals → ChangesFile file (MayBeCut 0) old.files new.files)
    → Follows (ChangesFile file (MayBeCut 0)) old new → Settles old new → Passes old new → HasCause old.faults new.faults result
    → IsSure (reveals × TakesFrom old file 0) (HasRoomTo old file 0) old new result
    → OnlyWrites reveals old.free (FitsChange old file 0) (IsErr result) (ChangesFile file (MayBeCut 0)) old new
one_cut reveals file old new result all cut torn crash settled time cause sure =
    let step = ChangesFile file (MayBeCut 0) in
    writes_wider reveals (TakesFrom old file 0) (HasRoomTo old file 0) old.free (FitsChange old file 0) (IsErr result) step step old new (λ a b is. is) (λ revealed free. all file (old.files 0) 0 free) (λ revealed fit. fit.room)
    (writes_one reveals (TakesFrom old file 0) (HasRoomTo old file 0) step old new result (cut_anyway reveals file 0 old.files new.files result cut torn) crash settled time cause sure)

pub failed_cut : {T E : Type 0} (reveals fault : Type 0) (file : ℕ) (old new : State) (result : Result T E) → ((f : ℕ) (b : List ℕ) (m : ℕ) → old.free → old.takes f b m) → IsErr result → fault
    → OnOk result (reveals → ChangesFile file (IsCut 0) old.files new.files) → OnErr result (reveals → ChangesFile file (MayBeCut 0) old.files new.files)
    → Follows (ChangesFile file (MayBeCut 0)) old new → Settles old new → Passes old new → HasCause old.faults new.faults result
    → IsSure (reveals × TakesFrom old file 0) (HasRoomTo old file 0) old new result
    → OnlyWrites reveals old.free (FitsChange old file 0) fault (ChangesFile file (MayBeCut 0)) old new
failed_cut reveals fault file old new result all failed is cut torn crash settled time cause sure =
    writes_faulted reveals old.free (FitsChange old file 0) (IsErr result) fault (ChangesFile file (MayBeCut 0)) old new (one_cut reveals file old new result all cut torn crash settled time cause sure) failed is

-- all that changes is the file
pub only_file : (reveals fault : Type 0) (file n : ℕ) (step : List ℕ → List ℕ → Type 0) (old new : State) → OnlyWrites reveals old.free (FitsChange old file n) fault (ChangesFile file step) old new → OnlyWrites reveals old.free (FitsChange old file n) fault (ChangesOnly file) old new
only_file reveals fault file n step old new writes =
    writes_wider reveals old.free (FitsChange old file n) old.free (FitsChange old file n) fault (ChangesFile file step) (ChangesOnly file) old new (λ c d changes. changes.others) (λ revealed is. is) (λ revealed fit. fit) writes

-- calls that only read, and others after them
pub read_then : (reveals first fault : Type 0) (file n : ℕ) (step : List ℕ → List ℕ → Type 0) (old mid new : State) → (first → ⊥) → ((f : ℕ) (b : List ℕ) (m : ℕ) → old.free → old.takes f b m) → ((x : List ℕ) → step x x)
    → OnlyReads reveals first old mid → OnlyWrites reveals mid.free (FitsChange mid file n) fault (ChangesFile file step) mid new → OnlyWrites reveals old.free (FitsChange old file n) fault (ChangesFile file step) old new
read_then reveals first fault file n step old mid new fine all none early late =
    reads_then_writes reveals old.free mid.free (FitsChange old file n) (FitsChange mid file n) first fault (ChangesFile file step) old mid new fine (λ c. changes_none file step c (none (c file)))
    (free_ready old all) (λ revealed is same goes. early.time.free is) (fits_roomy old file n)
    (λ revealed fit same passes. record {
      room = passes.room file n fit.room;
      sync = λ c change. passes.syncs (c 0) (fit.sync c (λ f other. change f other ∙ ap (λ (d : Files). d f) same));
    })
    early late

-- the same, of another name for how much was written
pub torn_sized : (reveals fault : Type 0) (file to n m : ℕ) (old new : State) → n ≡ m → OnlyWrites reveals old.free (FitsChange old file (to + n)) fault (ChangesFile file (Torn to n)) old new
    → OnlyWrites reveals old.free (FitsChange old file (to + m)) fault (ChangesFile file (Torn to m)) old new
torn_sized reveals fault file to n m old new same writes = subst (λ (k : ℕ). OnlyWrites reveals old.free (FitsChange old file (to + k)) fault (ChangesFile file (Torn to k)) old new) same writes

-- what settles, and a call after it that keeps the images
pub settles_then_kept : (old mid new : State) → Passes old mid → Passes mid new → Settles old mid → KeepsImages mid new → Settles mid new → Settles old new
settles_then_kept old mid new first second early keeps late t u c from later to here =
    ⊎_elim
    (λ after. late t u c after later to here)
    (λ within.
    ⊎_elim
    (λ past. (second.keeps t c within).1 (early t mid.moment c from within (omega arith) (keeps u c (omega arith) to here)))
    (λ both. (second.keeps t c within).1 (early t u c from later both ((second.keeps u c both).0 here)))
    (cases_lt mid.moment u))
    (cases_lt mid.moment t)

-- the same, where what fits is said otherwise
pub read_alone : (reveals fault fits : Type 0) (file : ℕ) (step : List ℕ → List ℕ → Type 0) (old new : State) → ((f : ℕ) (b : List ℕ) (m : ℕ) → old.free → old.takes f b m) → ((x : List ℕ) → step x x) → (fits → IsRoomy old)
    → OnlyReads reveals fault old new → OnlyWrites reveals old.free fits fault (ChangesFile file step) old new
read_alone reveals fault fits file step old new all none roomy reads =
    reads_writes reveals old.free fits fault (ChangesFile file step) old new (free_ready old all) roomy (λ c. changes_none file step c (none (c file))) reads

pub read_fits : (reveals first fault fits late : Type 0) (file : ℕ) (step : List ℕ → List ℕ → Type 0) (old mid new : State) → (first → ⊥) → ((f : ℕ) (b : List ℕ) (m : ℕ) → old.free → old.takes f b m) → ((x : List ℕ) → step x x) → (fits → IsRoomy old)
    → (reveals → fits → mid.files ≡ old.files → Passes old mid → late)
    → OnlyReads reveals first old mid → OnlyWrites reveals mid.free late fault (ChangesFile file step) mid new → OnlyWrites reveals old.free fits fault (ChangesFile file step) old new
read_fits reveals first fault fits late file step old mid new fine all none roomy later early then =
    reads_then_writes reveals old.free mid.free fits late first fault (ChangesFile file step) old mid new fine (λ c. changes_none file step c (none (c file)))
    (free_ready old all) (λ revealed is same goes. early.time.free is) roomy later
    early then

pub then_fits : (reveals first fault fits late : Type 0) (file : ℕ) (one two all : List ℕ → List ℕ → Type 0) (old mid new : State)
    → (first → ⊥) → ((x y : List ℕ) → one x y → all x y) → ((x y z : List ℕ) → one x y → two y z → all x z)
    → (reveals → fits → ChangesFile file one old.files mid.files → Passes old mid → late)
    → OnlyWrites reveals old.free fits first (ChangesFile file one) old mid → OnlyWrites reveals mid.free late fault (ChangesFile file two) mid new → OnlyWrites reveals old.free fits fault (ChangesFile file all) old new
then_fits reveals first fault fits late file one two all old mid new fine alone both later early then =
    writes_both reveals old.free old.free mid.free fits fits late first fault (ChangesFile file one) (ChangesFile file two) (ChangesFile file all) old mid new fine
    (λ c d. changes_wider file one all c d alone) (λ c d e. change_both file one two all c d e both)
    (λ revealed is. is) (λ revealed is step goes. early.time.free is) (λ revealed fit. fit) later
    early then

-- what fits, fits after calls that only read
pub fits_read : (old mid : State) (file n m : ℕ) → n ≡ m → mid.files ≡ old.files → Passes old mid → FitsChange old file n → FitsChange mid file m
fits_read old mid file n m is same passes fit = record {
  room = subst (HasRoomTo mid file) is (passes.room file n fit.room);
  sync = λ c change. passes.syncs (c 0) (fit.sync c (λ f other. change f other ∙ ap (λ (d : Files). d f) same));
}

-- the same of what fits in all
pub fits_as : (reveals fault fits : Type 0) (file n : ℕ) (step : List ℕ → List ℕ → Type 0) (old new : State) → (reveals → fits → FitsChange old file n) → OnlyWrites reveals old.free (FitsChange old file n) fault (ChangesFile file step) old new → OnlyWrites reveals old.free fits fault (ChangesFile file step) old new
fits_as reveals fault fits file n step old new fit writes =
    writes_wider reveals old.free (FitsChange old file n) old.free fits fault (ChangesFile file step) (ChangesFile file step) old new (λ c d is. is) (λ revealed is. is) fit writes

pub then_reads : (reveals first fault fits : Type 0) (file : ℕ) (step : List ℕ → List ℕ → Type 0) (old mid new : State) → (first → ⊥) → ((f : ℕ) (b : List ℕ) (m : ℕ) → mid.free → mid.takes f b m)
    → (reveals → fits → ChangesFile file step old.files mid.files → Passes old mid → IsRoomy mid)
    → OnlyWrites reveals old.free fits first (ChangesFile file step) old mid → OnlyReads reveals fault mid new → OnlyWrites reveals old.free fits fault (ChangesFile file step) old new
then_reads reveals first fault fits file step old mid new fine all roomy early late =
    writes_then_reads reveals old.free fits first fault (ChangesFile file step) old mid new fine (λ revealed is step goes. free_ready mid all (early.time.free is)) roomy early late

-- stretches of which only the file is known that changes
pub only_then : (reveals first fault fits late : Type 0) (file : ℕ) (old mid new : State) → (first → ⊥) → (reveals → fits → ChangesOnly file old.files mid.files → Passes old mid → late)
    → OnlyWrites reveals old.free fits first (ChangesOnly file) old mid → OnlyWrites reveals mid.free late fault (ChangesOnly file) mid new → OnlyWrites reveals old.free fits fault (ChangesOnly file) old new
only_then reveals first fault fits late file old mid new fine later early then =
    writes_both reveals old.free old.free mid.free fits fits late first fault (ChangesOnly file) (ChangesOnly file) (ChangesOnly file) old mid new fine
    (λ c d is. is) (λ c d e. keeps_both (λ f. f ≢ file) c d e) (λ revealed is. is) (λ revealed is step goes. early.time.free is) (λ revealed fit. fit) later early then

pub only_of : (reveals fault fits wider : Type 0) (file : ℕ) (step : List ℕ → List ℕ → Type 0) (old new : State) → (reveals → wider → fits) → OnlyWrites reveals old.free fits fault (ChangesFile file step) old new → OnlyWrites reveals old.free wider fault (ChangesOnly file) old new
only_of reveals fault fits wider file step old new fit writes =
    writes_wider reveals old.free fits old.free wider fault (ChangesFile file step) (ChangesOnly file) old new (λ c d changes. changes.others) (λ revealed is. is) fit writes

pub only_as : (reveals fault fits wider : Type 0) (file : ℕ) (old new : State) → (reveals → wider → fits) → OnlyWrites reveals old.free fits fault (ChangesOnly file) old new → OnlyWrites reveals old.free wider fault (ChangesOnly file) old new
only_as reveals fault fits wider file old new fit writes =
    writes_wider reveals old.free fits old.free wider fault (ChangesOnly file) (ChangesOnly file) old new (λ c d is. is) (λ revealed is. is) fit writes
