-- What `explain` does: from what its opening and the call that explains gave to what a run of it does.
pub mod Causing
use Rattle.std.proofs.Common.{◌≡◌, ◌≢◌, ◌⊎◌, inl, inr, ℕ, List, refl, sym, ◌∙◌, ap, subst, arith, Bool, true, false, Result, Ok, Err}
use Rattle.std.specs.Prelude.{◌↔◌, IfOk, IfErr, IsOk, IsTrue}
use Rattle.aea_io.specs.Streams.{SinkState}
use Rattle.aea_lattice.specs.declared.blocks.BlockId.{BlockId}
use Rattle.aea_lattice.specs.declared.grid.Lattice.{Lattice}
use Rattle.aea_lattice.specs.Blocks.{HasBlock}
use Rattle.aea_lattice.specs.Texts.{text_of}
use Rattle.aea_disk.specs.Files.{Files}
use Rattle.aea_disk.specs.Frames.{OnlyReads}
use Rattle.aea_disk.specs.State.{State}
use Rattle.aea_disk.proofs.Frames.{reads_as, reads_both}
use Rattle.aea_ledger.specs.Values.{Opened}
use Rattle.aea_archive.specs.Blocks.{RevealsSurvivors}
use Rattle.aea_gauss.specs.declared.fates.Fate.{Fate}
use Rattle.aea_gauss.specs.declared.fates.Fate.TheVariants.{Sum, Word}
use Rattle.aea_explain.specs.declared.explaining.Explanation.{Explanation}
use Rattle.aea_explain.specs.Explained.{IsExplained, ExplanationsAreOne}
use Rattle.aea_explain.specs.Explained as call
use Rattle.aea_explain.specs.declared.explaining.ExplainFault.{ExplainFault}
use Rattle.aea_explain.specs.declared.explaining.ExplainFault.TheVariants as fault
use Rattle.aea_command.specs.declared.refusal.Refusal.{Refusal}
use Rattle.aea_command.specs.declared.refusal.Refusal.TheVariants.{NoSuchBlock}
use Rattle.aea_command.specs.declared.refusal.Failure.{Failure}
use Rattle.aea_command.specs.declared.refusal.Failure.TheVariants as failure
use Rattle.aea_command.specs.declared.status.Status.{Status}
use Rattle.aea_command.specs.declared.status.Status.TheVariants.{Done, Damage}
use Rattle.aea_command_loss.specs.Drill.{NamesBlock}
use Rattle.aea_command_loss.specs.Explain.{ExplainsBlock, ExplainsOpened, HasExplained, ExplainsNamed, IsExplaining, PrintsExplanation, fate_status}
use Rattle.aea_command.specs.Failures.{Answer, explain_failure}
use Rattle.aea_command.specs.Openings.{Opens}
use Rattle.aea_command_loss.proofs.DrillLemmas.DamageLines.{text_of-injective}
use Rattle.aea_command.proofs.Opened.{opens_reading, opens_alone}
use Rattle.aea_command.proofs.OpeningCases.{opened_never}

-- ---- the archive was not opened

pub explains_unopened : (word : List ℕ) (reveals : Type 0) (old new : State) (out : SinkState) (f : Failure) → Opens reveals old new (Err f) → ExplainsBlock word reveals old new out out (Err f)
explains_unopened word reveals old new out f opens = record {
  opening = Err f;
  opens = opens_alone reveals old new (Err f) opens;
  reads = reads_as reveals _ _ old new (λ e. cc) (λ is. cc) opens.reads;
  unopened = (refl, refl);
  explains = tt;
}

-- ---- it was opened

-- calls after the opening that only read, and what is said of the answer
behind : (word : List ℕ) (reveals fault : Type 0) (v : Opened) (old mid new : State) (before after : SinkState) (answer : Answer) → Opens reveals old mid (Ok v) → OnlyReads reveals fault mid new
    → (answer ≡ Err failure.Disk → fault) → (fault → answer ≡ Err failure.Disk) → ExplainsOpened word reveals v old.files before after answer → ExplainsBlock word reveals old new before after answer
behind word reveals fault v old mid new before after answer opens late of_disk is_disk does = record {
  opening = Ok v;
  opens = opens_reading reveals fault old mid new v opens late;
  reads = reads_as reveals fault _ old new of_disk is_disk (reads_both reveals _ fault old mid new (λ is. opened_never v failure.Disk is) opens.reads late);
  unopened = tt;
  explains = does;
}

-- an answer that is another failure than that of the output is neither done nor that
never_printed : (f : Failure) → f ≢ failure.Output → (let answer : Answer = Err f in IsOk answer ⊎ (answer ≡ Err failure.Output)) → ⊥
never_printed f differs (inl ok) = cc
never_printed f differs (inr e) = differs cc

-- the word is the text of no block of the archive
pub explains_unnamed : (word : List ℕ) (reveals : Type 0) (v : Opened) (old mid : State) (out : SinkState) → Opens reveals old mid (Ok v) → (NamesBlock v.lattice word → ⊥)
    → ExplainsBlock word reveals old mid out out (Err (failure.Refused NoSuchBlock))
explains_unnamed word reveals v old mid out opens none = record {
  opening = Ok v;
  opens = opens_alone reveals old mid (Ok v) opens;
  reads = reads_as reveals _ _ old mid (λ e. let h : (let answer : Answer = Err (failure.Refused NoSuchBlock) in answer ≡ Err failure.Disk) = e in cc) (λ is. absurd (opened_never v failure.Disk is)) opens.reads;
  unopened = tt;
  explains = record {
    kinds = inr (inl refl);
    unknown = (λ e. none, λ never. refl);
    some = λ printed. absurd (never_printed (failure.Refused NoSuchBlock) (λ e. let h : failure.Refused NoSuchBlock ≡ failure.Output = e in cc) printed);
    each = λ printed. absurd (never_printed (failure.Refused NoSuchBlock) (λ e. let h : failure.Refused NoSuchBlock ≡ failure.Output = e in cc) printed);
    unused = λ differs. refl;
  };
}

-- it is that of one, which was not explained
pub explains_failed : (word : List ℕ) (reveals fault : Type 0) (v : Opened) (old mid new : State) (out : SinkState) (f : Failure) → Opens reveals old mid (Ok v) → NamesBlock v.lattice word
    → OnlyReads reveals fault mid new → (f ≡ failure.Disk → fault) → (fault → f ≡ failure.Disk) → (f ≡ failure.Disk) ⊎ (f ≡ failure.Memory) → ExplainsBlock word reveals old new out out (Err f)
explains_failed word reveals fault v old mid new out f opens names late of_disk is_disk kinds =
    let not_output : f ≢ failure.Output = λ e. elim kinds [
      | inl disk ↦ let h : failure.Disk ≡ failure.Output = sym disk ∙ e in cc
      | inr memory ↦ let h : failure.Memory ≡ failure.Output = sym memory ∙ e in cc
    ] in
    let not_refused : (let answer : Answer = Err f in answer ≡ Err (failure.Refused NoSuchBlock)) → ⊥ = λ e. elim kinds [
      | inl disk ↦ let h : Err failure.Disk ≡ Err (failure.Refused NoSuchBlock) = sym (ap Err disk) ∙ e in cc
      | inr memory ↦ let h : Err failure.Memory ≡ Err (failure.Refused NoSuchBlock) = sym (ap Err memory) ∙ e in cc
    ] in
    behind word reveals fault v old mid new out out (Err f) opens late (λ e. of_disk cc) (λ is. ap Err (is_disk is)) (record {
      kinds = elim kinds [ inl disk ↦ inr (inr (inl (ap Err disk))) | inr memory ↦ inr (inr (inr (inr (ap Err memory)))) ];
      unknown = (λ e. absurd (not_refused e), λ never. absurd (never names));
      some = λ printed. absurd (never_printed f not_output printed);
      each = λ printed. absurd (never_printed f not_output printed);
      unused = λ differs. refl;
    })

-- the failures of the call
pub failure_kinds : (f : ExplainFault) → (explain_failure f ≡ failure.Disk) ⊎ (explain_failure f ≡ failure.Memory)
failure_kinds fault.DiskFault = inl refl
failure_kinds fault.NoMemory = inr refl

pub failure_disk : (f : ExplainFault) → explain_failure f ≡ failure.Disk → f ≡ fault.DiskFault
failure_disk fault.DiskFault e = refl
failure_disk fault.NoMemory e = let h : failure.Memory ≡ failure.Disk = e in cc

pub fault_disk : (f : ExplainFault) → f ≡ fault.DiskFault → explain_failure f ≡ failure.Disk
fault_disk f e = ap explain_failure e

pub failure_never : (f : ExplainFault) (why : Refusal) → (let answer : Answer = Err (explain_failure f) in answer ≡ Err (failure.Refused why)) → ⊥
failure_never fault.DiskFault why e = let h : Err failure.Disk ≡ Err (failure.Refused why) = e in cc
failure_never fault.NoMemory why e = let h : Err failure.Memory ≡ Err (failure.Refused why) = e in cc

-- a block that is named in a lattice is so in the same lattice
pub names_in : (l m : Lattice) (word : List ℕ) (b : BlockId) → l ≡ m → HasBlock l b → word ≡ text_of b → NamesBlock m word
names_in l m word b same inside named = (b, subst (λ (x : Lattice). HasBlock x b) same inside, named)

-- how a printed explanation ends
abbrev pub EndsWith : Fate → Answer → Type 0
EndsWith fate answer = (answer ≡ Ok (fate_status fate)) ⊎ (answer ≡ Err failure.Output)

ends_kinds : (fate : Fate) (answer : Answer) → EndsWith fate answer → IsExplaining answer
ends_kinds (Sum b equations) answer (inl e) = inl (inl e)
ends_kinds (Word b nodes) answer (inl e) = inl (inr e)
ends_kinds fate answer (inr e) = inr (inr (inr (inl e)))

ends_never : (fate : Fate) (answer : Answer) (f : Failure) → EndsWith fate answer → f ≢ failure.Output → answer ≡ Err f → ⊥
ends_never (Sum b equations) answer f (inl e) differs is = let h : Ok Done ≡ Err f = sym e ∙ is in cc
ends_never (Word b nodes) answer f (inl e) differs is = let h : Ok Damage ≡ Err f = sym e ∙ is in cc
ends_never fate answer f (inr e) differs is = let h : Err failure.Output ≡ Err f = sym e ∙ is in differs cc

-- the explanation that was printed after the opening
pub record HasExplanation (word : List ℕ) (reveals : Type 0) (v : Opened) (old mid new : State) (before after : SinkState) (answer : Answer) : Type 1 where
  pub opens : Opens reveals old mid (Ok v)
  pub reads : OnlyReads reveals ⊥ mid new
  pub block : BlockId
  pub inside : HasBlock v.lattice block
  pub named : word ≡ text_of block
  pub explanation : Explanation
  pub explains : call.Explains reveals v mid.files block explanation
  pub printed : PrintsExplanation block explanation before after answer
  pub ends : EndsWith explanation.fate answer

module _ (one : ExplanationsAreOne) (word : List ℕ) (reveals : Type 0) (v : Opened) (old mid new : State) (before after : SinkState) (answer : Answer) (gave : HasExplanation word reveals v old mid new before after answer) where
  there : reveals → (known : BlockId → Bool) → RevealsSurvivors v.shape v.lattice.n v.digests old.files known → RevealsSurvivors v.shape v.lattice.n v.digests mid.files known
  there revealed known tests = subst (λ (c : Files). RevealsSurvivors v.shape v.lattice.n v.digests c known) (sym (gave.opens.reads.contents revealed)) tests

  -- whatever test distinguishes the survivors, what is printed is the explanation by it
  each_one : reveals → (known : BlockId → Bool) (block : BlockId) (e : Explanation) → RevealsSurvivors v.shape v.lattice.n v.digests old.files known → ExplainsNamed word v.lattice known block e
      → PrintsExplanation block e before after answer
  each_one revealed known block e tests is =
      let same_block : gave.block ≡ block = text_of-injective v.lattice gave.block block gave.inside is.inside (sym gave.named ∙ is.named) in
      let ours : IsExplained v.lattice known block gave.explanation =
      subst (λ (b : BlockId). IsExplained v.lattice known b gave.explanation) same_block (gave.explains.revealed revealed known (there revealed known tests)) in
      let same : gave.explanation ≡ e = one v.lattice known known block gave.explanation e is.inside (λ d has. refl) ours is.explained in
      subst (λ (x : Explanation). PrintsExplanation block x before after answer) same
      (subst (λ (b : BlockId). PrintsExplanation b gave.explanation before after answer) same_block gave.printed)

  not_refused : answer ≡ Err (failure.Refused NoSuchBlock) → ⊥
  not_refused e = ends_never gave.explanation.fate answer (failure.Refused NoSuchBlock) gave.ends (λ d. let h : failure.Refused NoSuchBlock ≡ failure.Output = d in cc) e

  pub explains_printed : ExplainsBlock word reveals old new before after answer
  explains_printed =
      behind word reveals ⊥ v old mid new before after answer gave.opens gave.reads
      (λ e. ends_never gave.explanation.fate answer failure.Disk gave.ends (λ d. let h : failure.Disk ≡ failure.Output = d in cc) e)
      (λ none. absurd none)
      (record {
        kinds = ends_kinds gave.explanation.fate answer gave.ends;
        unknown = (λ e. absurd (not_refused e), λ never. absurd (never (gave.block, gave.inside, gave.named)));
        some = λ printed.
            let by = gave.explains.some in
            record {
              known = by.0;
              survivors = λ revealed. subst (λ (c : Files). RevealsSurvivors v.shape v.lattice.n v.digests c by.0) (gave.opens.reads.contents revealed) (by.1 revealed);
              block = gave.block;
              explanation = gave.explanation;
              explains = record { inside = gave.inside; named = gave.named; explained = by.2 };
              printed = gave.printed;
            };
        each = λ printed revealed known block e tests is. each_one revealed known block e tests is;
        unused = gave.printed.prints.unused;
      })
