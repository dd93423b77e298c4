-- What `scrub` does, by where it ends.
pub mod BlockLines
pub mod DamagedLines
pub mod DamagedMarks
pub mod Skipping
use Rattle.std.proofs.Common.{◌≡◌, ◌≢◌, ◌⊎◌, inl, inr, [], refl, sym, ◌∙◌, ap, subst, Bool, Result, Ok, Err}
use Rattle.std.specs.Prelude.{not, IsOk}
use Rattle.aea_io.specs.Streams.{SinkState}
use Rattle.aea_io.specs.Pages.{Prints}
use Rattle.aea_lattice.specs.declared.blocks.BlockId.{BlockId}
use Rattle.aea_lattice.specs.declared.grid.Lattice.{Lattice}
use Rattle.aea_view.specs.Marked.{Marked, is_marked}
use Rattle.aea_disk.specs.Files.{Files}
use Rattle.aea_disk.specs.Frames.{OnlyReads}
use Rattle.aea_disk.specs.State.{State}
use Rattle.aea_disk.proofs.Frames.{reads_as, reads_both, reads_synced}
use Rattle.aea_disk.proofs.Moments.{during_kept}
use Rattle.aea_records.specs.Laws.{HasOneReading}
use Rattle.aea_ledger.specs.declared.open.OpenFault.{OpenFault}
use Rattle.aea_ledger.specs.Stops.{IsOpened, StaysAll}
use Rattle.aea_ledger.specs.Values.{Opened}
use Rattle.aea_command.proofs.Opened.{opens_reading, opens_alone}
use Rattle.aea_command.specs.declared.refusal.Refusal.{Refusal}
use Rattle.aea_command.specs.declared.refusal.Failure.{Failure}
use Rattle.aea_command.specs.declared.refusal.Failure.TheVariants as failure
use Rattle.aea_command.specs.declared.status.Status.{Status}
use Rattle.aea_command.specs.Marks.{AreMarks}
use Rattle.aea_command.specs.Failures.{Answer, opening_failure}
use Rattle.aea_command.specs.Openings.{Opens}
use Rattle.aea_command_read.specs.Scrub.{Scrubs, PrintsDamage, IsScanned, scrub_text, scrub_status}
use Rattle.aea_command.proofs.OpeningCases.{opened_then, opened_never, opening_not_output}
use Rattle.aea_command_read.proofs.ScrubLemmas.DamagedMarks.{AreDamaged, marks_reveal, same_lattice, marks_agree, marks_themselves}
use Rattle.aea_command.proofs.Texts.{text_printed, text_broken, text_unused}

-- where something else than the output failed, no text is printed
unused_damage : (out : SinkState) (f : Failure) (l : Lattice) (intact : BlockId → Bool) → f ≢ failure.Output → PrintsDamage l intact out out (Err f)
unused_damage out f l intact differs = record { prints = text_unused out f (scrub_text l intact) differs; status = tt }

-- an answer that is such a failure is neither done nor a failure of the output
never_printed : (f : Failure) → f ≢ failure.Output → (let answer : Answer = Err f in IsOk answer ⊎ (answer ≡ Err failure.Output)) → ⊥
never_printed f differs (inl ok) = cc
never_printed f differs (inr e) = differs cc

-- the archive was not opened
pub scrubs_unopened : (reveals : Type 0) (old new : State) (out : SinkState) (f : Failure) → Opens reveals old new (Err f) → Scrubs reveals old new out out (Err f)
scrubs_unopened reveals old new out f opens =
    let differs : f ≢ failure.Output = λ e. opening_not_output opens.kinds.0 (sym opens.kinds.1 ∙ e) in
    record {
      opening = Err f;
      opens = opens_alone reveals old new (Err f) opens;
      reads = reads_as reveals _ _ old new (λ e. cc) (λ is. cc) opens.reads;
      unopened = (refl, refl);
      kinds = tt;
      damage = λ revealed l intact is. unused_damage out f l intact differs;
      some = tt;
      unused = λ _. refl;
    }

-- it was opened, and then not scanned
pub scrubs_unread : (reveals : Type 0) (old mid new : State) (out : SinkState) (v : Opened) (f : Failure) → Opens reveals old mid (Ok v)
    → OnlyReads reveals (let answer : Answer = Err f in answer ≡ Err failure.Disk) mid new → (f ≡ failure.Disk) ⊎ (f ≡ failure.Memory) → Scrubs reveals old new out out (Err f)
scrubs_unread reveals old mid new out v f opens late faults =
    let differs : f ≢ failure.Output = λ e. elim faults [
      | inl disk ↦ let h : failure.Disk ≡ failure.Output = sym disk ∙ e in cc
      | inr memory ↦ let h : failure.Memory ≡ failure.Output = sym memory ∙ e in cc
    ] in
    record {
      opening = Ok v;
      opens = opens_reading reveals _ old mid new v opens late;
      reads = reads_both reveals _ _ old mid new (λ is. absurd (cc)) opens.reads late;
      unopened = tt;
      kinds = elim faults [ inl disk ↦ inl disk | inr memory ↦ inr (inr memory) ];
      damage = λ revealed l intact is. unused_damage out f l intact differs;
      some = λ printed. absurd (never_printed f differs printed);
      unused = λ _. refl;
    }

-- it was scanned, and its damaged blocks were marked
pub record IsMarked (reveals : Type 0) (old mid new : State) (v : Opened) (m : Marked) : Type 1 where
  pub opens : Opens reveals old mid (Ok v)
  pub reads : OnlyReads reveals ⊥ mid new
  pub lattice : m.lattice ≡ v.lattice
  pub damaged : reveals → AreDamaged v mid.files m

-- and then the lines of a lattice were printed by these marks, unless the output failed
abbrev pub PrintsMarked : Lattice → Marked → SinkState → SinkState → Answer → Type 0
PrintsMarked l m before after answer =
    (intact : BlockId → Bool) → AreMarks l m.marks (λ b. not (intact b)) → PrintsDamage l intact before after answer

-- they are printed
pub marked_printed : {E : Type 0} {before after : SinkState} (l : Lattice) (m : Marked) (status : Status)
    → ((intact : BlockId → Bool) → AreMarks l m.marks (λ b. not (intact b)) → Prints {E = E} before [] after [] (Ok status) (scrub_text l intact))
    → ((intact : BlockId → Bool) → AreMarks l m.marks (λ b. not (intact b)) → status ≡ scrub_status l intact)
    → PrintsMarked l m before after (Ok status)
marked_printed l m status prints is intact are = record { prints = text_printed status (prints intact are); status = is intact are }

-- the output failed
pub marked_broken : {T E : Type 0} {before after : SinkState} {fault : E} (l : Lattice) (m : Marked)
    → ((intact : BlockId → Bool) → AreMarks l m.marks (λ b. not (intact b)) → Prints {T = T} before [] after [] (Err fault) (scrub_text l intact))
    → PrintsMarked l m before after (Err failure.Output)
marked_broken l m prints intact are = record { prints = text_broken (prints intact are); status = tt }

pub scrubs_marked : HasOneReading → (reveals : Type 0) (old mid new : State) (before after : SinkState) (v : Opened) (m : Marked) (l : Lattice) (answer : Answer) → l ≡ v.lattice → IsMarked reveals old mid new v m
    → IsScanned answer → answer ≢ Err failure.Disk → PrintsMarked l m before after answer → Scrubs reveals old new before after answer
scrubs_marked reading reveals old mid new before after v m l answer of_v marked scanned fine by =
    let opens = marked.opens in
    let damaged : reveals → AreDamaged v old.files m = λ revealed. subst (λ (c : Files). AreDamaged v c m) (opens.reads.contents revealed) (marked.damaged revealed) in
    let prints = subst (λ (x : Lattice). PrintsMarked x m before after answer) of_v by in
    record {
      opening = Ok v;
      opens = opens_reading reveals ⊥ old mid new v opens marked.reads;
      reads = reads_as reveals ⊥ _ old new fine (λ none. absurd none) (reads_both reveals _ ⊥ old mid new (λ is. absurd (cc)) opens.reads marked.reads);
      unopened = tt;
      kinds = scanned;
      damage = λ revealed l intact is.
          subst (λ (x : Lattice). PrintsDamage x intact before after answer) (same_lattice reading v old.files l intact (opens.this_one revealed) is)
          (prints intact (marks_agree reading v old.files l m intact marked.lattice (opens.this_one revealed) is (damaged revealed)));
      some = λ _. (
        λ b. not (is_marked m b),
        (
          λ revealed. marks_reveal v old.files m (opens.this_one revealed) (damaged revealed),
          prints (λ b. not (is_marked m b)) (marks_themselves v.lattice m marked.lattice),
        ),
      );
      unused = (prints (λ b. not (is_marked m b)) (marks_themselves v.lattice m marked.lattice)).prints.unused;
    }

-- a fault of the disk, or lack of memory, is no refusal
pub unread_never : (f : Failure) → (f ≡ failure.Disk) ⊎ (f ≡ failure.Memory) → (why : Refusal) → (let answer : Answer = Err f in answer ≡ Err (failure.Refused why)) → ⊥
unread_never f (inl disk) why e = let h : Err failure.Disk ≡ Err (failure.Refused why) = sym (ap Err disk) ∙ e in cc
unread_never f (inr memory) why e = let h : Err failure.Memory ≡ Err (failure.Refused why) = sym (ap Err memory) ∙ e in cc
