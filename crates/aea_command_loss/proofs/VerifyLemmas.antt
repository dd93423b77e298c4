-- What `verify` does: from what its opening and the check of the report gave to what a run of it does.
pub mod Answering
use Rattle.std.proofs.Common.{◌≡◌, ◌⊎◌, inl, inr, ℕ, List, refl, sym, ◌∙◌, ap, subst, Some, Result, Ok, Err}
use Rattle.std.specs.Prelude.{IfOk, IfErr, OnOk}
use Rattle.std.specs.Io.KnownBytes.{IsAtEnd}
use Rattle.aea_io.specs.Streams.{SourceState, SinkState}
use Rattle.aea_disk.specs.Files.{Files}
use Rattle.aea_disk.specs.Frames.{OnlyReads}
use Rattle.aea_disk.specs.State.{State}
use Rattle.aea_disk.proofs.Frames.{reads_as, reads_both}
use Rattle.aea_ledger.specs.Values.{Opened}
use Rattle.aea_verify.specs.declared.verdict.Verdict.{Verdict}
use Rattle.aea_verify.specs.declared.verdict.VerifyFault.{VerifyFault}
use Rattle.aea_verify.specs.declared.verdict.VerifyFault.TheVariants as fault
use Rattle.aea_verify.specs.Answers.{Answers, IsAnswered, IsReadAs}
use Rattle.aea_command.specs.declared.refusal.Failure.{Failure}
use Rattle.aea_command.specs.declared.refusal.Failure.TheVariants as failure
use Rattle.aea_command.specs.Failures.{Answer, verify_failure}
use Rattle.aea_command.specs.Openings.{Opens}
use Rattle.aea_command_loss.specs.Verify.{Judges, PrintsVerdict, Verifies}
use Rattle.aea_command.proofs.Opened.{opens_reading, opens_alone}
use Rattle.aea_command.proofs.OpeningCases.{opened_never}
use Rattle.aea_command_loss.proofs.VerifyLemmas.Answering.{IsAnswerTo, from_disk, answer_is}

-- what the check of the report gave after the opening
pub record HasChecked (reveals : Type 0) (v : Opened) (old mid new : State) (input rest : SourceState) (r : Result Verdict VerifyFault) : Type 1 where
  pub opens : Opens reveals old mid (Ok v)
  pub read : (report : List ℕ) → input.left ≡ Some report → IsReadAs report r
  pub answers : reveals → (report : List ℕ) → input.left ≡ Some report → Answers v mid.files report r
  pub exactly : reveals → (report : List ℕ) → input.left ≡ Some report → IsAnswered v mid.files report r
  pub end : OnOk r (IsAtEnd rest.left)
  pub unread : r ≡ Err fault.DiskFault → rest ≡ input
  pub reads : OnlyReads reveals (r ≡ Err fault.DiskFault) mid new

-- the archive was opened, and the answer is one to what the check gave
pub verifies_checked : (reveals : Type 0) (v : Opened) (old mid new : State) (input rest : SourceState) (before after : SinkState) (r : Result Verdict VerifyFault) (answer : Answer)
    → HasChecked reveals v old mid new input rest r → IsAnswerTo r before after answer → Verifies reveals old new input rest before after answer
verifies_checked reveals v old mid new input rest before after r answer gave to =
    let same : reveals → mid.files ≡ old.files = λ revealed. gave.opens.reads.contents revealed in
    record {
      opening = Ok v;
      opens = opens_reading reveals (r ≡ Err fault.DiskFault) old mid new v gave.opens gave.reads;
      reads = reads_as reveals (r ≡ Err fault.DiskFault) _ old new (from_disk r before after answer to) (answer_is r fault.DiskFault before after answer to)
          (reads_both reveals _ (r ≡ Err fault.DiskFault) old mid new (λ is. opened_never v failure.Disk is) gave.opens.reads gave.reads);
      unopened = tt;
      judges = (
        r,
        record {
          read = gave.read;
          answers = λ revealed report is. subst (λ (c : Files). Answers v c report r) (same revealed) (gave.answers revealed report is);
          exactly = λ revealed report is. subst (λ (c : Files). IsAnswered v c report r) (same revealed) (gave.exactly revealed report is);
          end = gave.end;
          prints = to.prints;
          unjudged = to.unjudged;
        },
      );
      unread = λ e. gave.unread (from_disk r before after answer to e);
    }

-- it was not opened
pub verifies_unopened : (reveals : Type 0) (old new : State) (input : SourceState) (out : SinkState) (f : Failure) → Opens reveals old new (Err f) → Verifies reveals old new input input out out (Err f)
verifies_unopened reveals old new input out f opens = record {
  opening = Err f;
  opens = opens_alone reveals old new (Err f) opens;
  reads = reads_as reveals _ _ old new (λ e. cc) (λ is. cc) opens.reads;
  unopened = record { is = refl; unread = refl; unused = refl };
  judges = tt;
  unread = λ e. refl;
}
