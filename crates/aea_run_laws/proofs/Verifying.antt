-- That the report of the repair is accepted of the whole archive.
use Rattle.std.proofs.Common.{◌≡◌, ◌≢◌, ℕ, Bool, true, false, List, [], ◌∷◌, length, Some, inl, inr, refl, sym, ◌∙◌, ap, subst, arith}
use Rattle.std.specs.Prelude.{◌-◌, ◌↔◌, IsTrue, vec_len}
use Rattle.std.proofs.lemmas.List.Elements.{All-cons, All-nil}
use Rattle.sha2.specs.Sha256.{sha256}
use Rattle.aea_lattice.specs.declared.blocks.Class.{Class}
use Rattle.aea_lattice.specs.declared.blocks.Class.TheVariants.{Datum, Horiz, Right, Left}
use Rattle.aea_lattice.specs.declared.blocks.BlockId.{BlockId}
use Rattle.aea_lattice.specs.declared.grid.Lattice.{Lattice}
use Rattle.aea_lattice.specs.declared.shape.Shape.{Shape}
use Rattle.aea_lattice.specs.Blocks.{HasBlock, block_of}
use Rattle.aea_lattice.specs.Closure.{is_among, IsReached}
use Rattle.aea_lattice.specs.Data.{Determines}
use Rattle.aea_lattice.specs.Equations.{equation_of}
use Rattle.aea_lattice.proofs.Equations.{block_equal, Member, member, datum, output, input, datum_in}
use Rattle.aea_disk.specs.Files.{Files}
use Rattle.aea_disk.specs.Spaces.{Memory}
use Rattle.aea_io.specs.declared.sure.SureSink.{SureSink}
use Rattle.aea_report.specs.declared.head.Head.{Head}
use Rattle.aea_report.specs.declared.line.Line.{Line}
use Rattle.aea_report.specs.declared.line.Line.TheVariants.{Peeled}
use Rattle.aea_report.specs.Fits.{Fits}
use Rattle.aea_report.specs.Format.{report_bytes}
use Rattle.aea_report.specs.Grammar.{IsReport}
use Rattle.aea_report.specs.Laws.{HaveOneReading, ReportsAreNotBad, PrintedAreReports, PrintedReportsFit}
use Rattle.aea_report.specs.Printed.{IsLineOf, IsPrinted}
use Rattle.aea_records.specs.Format.{Record, nodes_of, fences_of, digests_of, spelled}
use Rattle.aea_records.specs.Laws.{HasOneReading, LedgersAreArchives, LedgersAreNotBad}
use Rattle.aea_ledger.specs.Recorded.{IsLatticeOf}
use Rattle.aea_ledger.specs.Stops.{HasLedger}
use Rattle.aea_archive.specs.Blocks.{IsIntactBy, RevealsSurvivors}
use Rattle.aea_verify.specs.declared.verdict.Verdict.{Verdict}
use Rattle.aea_verify.specs.declared.verdict.Verdict.TheVariants.{Accepted}
use Rattle.aea_verify.specs.Rules.{verdict_of}
use Rattle.aea_verify.specs.Shown.{AcceptedAreFitting}
use Rattle.aea_command.specs.declared.refusal.Refusal.{Refusal}
use Rattle.aea_command.specs.declared.refusal.Refusal.TheVariants.{NoArchive, LedgerBad, BadLine, LineTooLong}
use Rattle.aea_command_loss.specs.Repair.{IsRepairText}
use Rattle.aea_command_loss.specs.Verify.{verdict_text, VerifyCauses, IsVerdictText}
use Rattle.aea_dispatch.specs.declared.command.Command.TheVariants.{Verify}
use Rattle.aea_run_laws.specs.Meeting.{HasLeft, IsMet}
use Rattle.aea_run_laws.proofs.Digests.{digest_wide}
use Rattle.aea_run_laws.proofs.OneBlock.{shape, one, none_before}
use Rattle.aea_run_laws.proofs.Over.{IsGround, meets}
use Rattle.aea_run_laws.proofs.Readings.{same_shape, same_records, same_lattice}
use Rattle.aea_run_laws.proofs.Repairing.{given}

-- ---- the report of the repair

-- all blocks but the datum
abbrev but_datum : Class → Bool
but_datum Datum = false
but_datum Horiz = true
but_datum Right = true
but_datum Left = true

abbrev known : BlockId → Bool
known b = but_datum b.class

abbrev report_head : List ℕ → Head
report_head text = record { alpha = 3; s = 2; p = 5; n = 1; seal = Some (sha256 text); damaged = 1; peeled = 1; solved = 0; lost = 0 }

abbrev report_lines : List Line
report_lines = Peeled (block_of 1 Datum) ∷ []

abbrev pub report_of : List ℕ → List ℕ
report_of text = report_bytes (report_head text) report_lines

-- the datum is alone in the equation of the parity, beside that
others_of : (d : BlockId) → Member one (equation_of 1 Horiz) d → d ≢ block_of 1 Datum → IsTrue (is_among (block_of 1 Horiz ∷ []) d)
others_of d (datum is) other = absurd (other is)
others_of d (output is) other = subst (λ (b : BlockId). IsTrue (is_among (block_of 1 Horiz ∷ []) b)) (sym is) refl
others_of d (input g was is) other = let none = none_before Horiz in absurd (cc)

reached : IsReached one known (block_of 1 Datum)
reached = (
  block_of 1 Horiz ∷ [],
  (
    (tt, inl refl),
    inr (
      equation_of 1 Horiz,
      record {
        equation = record { node = record { first = omega arith; last = omega arith }; class = record { parity = omega arith; used = omega arith } };
        contains = datum_in one (equation_of 1 Horiz);
        others = λ d within other. others_of d (member one (equation_of 1 Horiz) d within) other;
      },
    ),
  ),
)

printed : (text : List ℕ) → IsPrinted one known (Some (sha256 text)) (report_head text) report_lines
printed text = record {
  alpha = refl;
  s = refl;
  p = refl;
  n = refl;
  seal_is = refl;
  blocks = refl;
  each = All-cons (IsLineOf one known) (Peeled (block_of 1 Datum)) [] reached (All-nil (IsLineOf one known));
  counted = record { damaged = refl; peeled = refl; solved = refl; lost = refl };
}

all_given_at : (k : Class) → Determines one known (block_of 1 k)
all_given_at Datum = given known refl
all_given_at Horiz = λ w xs ys left right agree. agree (block_of 1 Horiz) (record { first = omega arith; last = omega arith; used = omega arith }) refl
all_given_at Right = λ w xs ys left right agree. agree (block_of 1 Right) (record { first = omega arith; last = omega arith; used = omega arith }) refl
all_given_at Left = λ w xs ys left right agree. agree (block_of 1 Left) (record { first = omega arith; last = omega arith; used = omega arith }) refl

all_given : (b : BlockId) → HasBlock one b → Determines one known b
all_given b has = subst (Determines one known) (sym (block_equal b (block_of 1 b.class) (let first = has.first in let last = has.last in omega (arith, first, last)) refl)) (all_given_at b.class)

abbrev all_intact : BlockId → Bool
all_intact b = true

module _ (reading : HasOneReading) (archives : LedgersAreArchives) (bad : LedgersAreNotBad) (report_reading : HaveOneReading) (report_bad : ReportsAreNotBad) (reports : PrintedAreReports) (fit : PrintedReportsFit) (accepted : AcceptedAreFitting)
    (all : List Record) (nodes : nodes_of all ≡ 1) (unfenced : fences_of all ≡ []) (digests : List (List ℕ)) (recorded : digests_of all ≡ digests) where
  -- it is what a repair prints that finds the datum damaged
  pub is_repair_text : (y : Files) → HasLedger shape all (y 0) → IsLatticeOf shape (nodes_of all) (fences_of all) one
      → (IsIntactBy shape digests y (block_of 1 Datum) → ⊥) → ((k : Class) → k ≢ Datum → IsIntactBy shape digests y (block_of 1 k))
      → IsRepairText y (report_of (spelled shape all))
  is_repair_text y ledger lattice gone still = record {
    shape = shape;
    records = all;
    ledger = ledger;
    lattice = one;
    is_lattice = lattice;
    known = known;
    survivors = subst (λ (n : ℕ). RevealsSurvivors shape n (digests_of all) y known) (sym nodes) (subst (λ (ds : List (List ℕ)). RevealsSurvivors shape 1 ds y known) (sym recorded) survivors);
    head = report_head (spelled shape all);
    lines = report_lines;
    printed = printed (spelled shape all);
    is = refl;
  }
    where
      at : (k : Class) → IsTrue (but_datum k) ↔ IsIntactBy shape digests y (block_of 1 k)
      at Datum = (λ e. absurd (cc), λ intact. absurd (gone intact))
      at Horiz = (λ e. still Horiz (λ e. cc), λ intact. refl)
      at Right = (λ e. still Right (λ e. cc), λ intact. refl)
      at Left = (λ e. still Left (λ e. cc), λ intact. refl)

      survivors : RevealsSurvivors shape 1 digests y known
      survivors b on =
          subst (λ (d : BlockId). IsTrue (known d) ↔ IsIntactBy shape digests y d)
          (sym (block_equal b (block_of 1 b.class) (let after = on.after in let most = on.most in omega (arith, after, most)) refl)) (at b.class)

  is_report : IsReport (report_of (spelled shape all)) (report_head (spelled shape all)) report_lines
  is_report = reports one known (Some (sha256 (spelled shape all))) (report_head (spelled shape all)) report_lines (digest_wide (spelled shape all)) (printed (spelled shape all))

  fits : Fits one (sha256 (spelled shape all)) all_intact (report_head (spelled shape all)) report_lines
  fits = fit one known all_intact (sha256 (spelled shape all)) (report_head (spelled shape all)) report_lines (printed (spelled shape all)) (λ b has. (λ yes. all_given b has, λ determined. refl))

  is_accepted : verdict_of one (sha256 (spelled shape all)) all_intact (report_head (spelled shape all)) report_lines ≡ Accepted
  is_accepted =
      (accepted one (sha256 (spelled shape all)) all_intact (report_head (spelled shape all)) report_lines
      (record { block = record { first = omega arith; last = omega arith; used = omega arith }; later = omega arith; nodes = tt }, tt)).1 fits

  module _ (x : Files) (ledger : HasLedger shape all (x 0)) (whole : (b : BlockId) → HasBlock one b → IsIntactBy shape digests x b) where
    verdict_long : (text : List ℕ) → IsVerdictText x (report_of (spelled shape all)) text → length text ≡ 9
    verdict_long text h =
        let lattice_is : h.lattice ≡ one = same_lattice reading (x 0) all ledger nodes unfenced h.shape h.records h.lattice h.ledger h.is_lattice in
        let shape_is : h.shape ≡ shape = same_shape reading (x 0) all ledger h.shape h.records h.ledger in
        let records_are : h.records ≡ all = same_records reading (x 0) all ledger h.shape h.records h.ledger in
        let same = report_reading (report_of (spelled shape all)) h.head (report_head (spelled shape all)) h.lines report_lines h.report is_report in
        let survivors : RevealsSurvivors shape 1 digests x all_intact = λ b on. (λ yes. whole b (record { first = on.after; last = on.most; used = on.used }), λ intact. refl) in
        let survivors_there : RevealsSurvivors h.shape (nodes_of h.records) (digests_of h.records) x all_intact =
        subst (λ (q : Shape). RevealsSurvivors q (nodes_of h.records) (digests_of h.records) x all_intact) (sym shape_is)
        (subst (λ (l : List Record). RevealsSurvivors shape (nodes_of l) (digests_of l) x all_intact) (sym records_are)
        (subst (λ (n : ℕ). RevealsSurvivors shape n (digests_of all) x all_intact) (sym nodes) (subst (λ (ds : List (List ℕ)). RevealsSurvivors shape 1 ds x all_intact) (sym recorded) survivors))) in
        let verdict : h.verdict ≡ Accepted =
        h.verdict_is all_intact survivors_there
        ∙ ap (λ (a : Lattice). verdict_of a (sha256 (spelled h.shape h.records)) all_intact h.head h.lines) lattice_is
        ∙ ap (λ (q : Shape). verdict_of one (sha256 (spelled q h.records)) all_intact h.head h.lines) shape_is
        ∙ ap (λ (l : List Record). verdict_of one (sha256 (spelled shape l)) all_intact h.head h.lines) records_are
        ∙ ap (λ (g : Head). verdict_of one (sha256 (spelled shape all)) all_intact g h.lines) same.0
        ∙ ap (λ (ls : List Line). verdict_of one (sha256 (spelled shape all)) all_intact (report_head (spelled shape all)) ls) same.1
        ∙ is_accepted in
        ap length h.is ∙ ap (λ (v : Verdict). length (verdict_text v)) verdict

    verify_unrefused : (why : Refusal) → VerifyCauses (x 0) (report_of (spelled shape all)) why → ⊥
    verify_unrefused NoArchive cause = (archives (x 0) cause).0 shape all _ ledger
    verify_unrefused (LedgerBad at) cause = bad (x 0) shape all _ at ledger cause
    verify_unrefused (BadLine k) cause = (report_bad (report_of (spelled shape all)) (report_head (spelled shape all)) report_lines k is_report).0 cause.1
    verify_unrefused (LineTooLong k) cause = (report_bad (report_of (spelled shape all)) (report_head (spelled shape all)) report_lines k is_report).1 cause.1
    verify_unrefused why cause = cause

    pub verify_met : (room spare : ℕ) (m : Memory) → IsGround x room spare m → (out : SureSink) → HasLeft 9 out → IsMet Verify m (report_of (spelled shape all)) out
    verify_met room spare m ground out left =
        meets x room spare m ground Verify (report_of (spelled shape all)) out tt
        (λ mid a name adopts. ground.roomy mid a name adopts)
        (λ files on same text is.
        let long = verdict_long text (subst (λ (y : Files). IsVerdictText y (report_of (spelled shape all)) text) same is) in
        record { room = out.room - vec_len out.bytes; revealed = refl; enough = omega (arith, long, left) })
        (λ files on same. tt)
        (λ files on why same cause. verify_unrefused why (subst (λ (y : Files). VerifyCauses (y 0) (report_of (spelled shape all)) why) same cause))
