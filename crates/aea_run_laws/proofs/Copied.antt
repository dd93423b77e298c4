-- That runs over these archives meet all that is asked of them with two whole copies of the ledger.
use Rattle.std.proofs.Common.{◌≡◌, ◌≢◌, ℕ, ◌<◌, ◌≤◌, [], length, refl, sym, ◌∙◌, ap, subst, arith}
use Rattle.aea_lattice.specs.declared.blocks.Class.{Class}
use Rattle.aea_lattice.specs.declared.blocks.Class.TheVariants.{Datum, Horiz, Right, Left}
use Rattle.aea_lattice.specs.declared.blocks.BlockId.{BlockId}
use Rattle.aea_lattice.specs.Blocks.{HasBlock, block_of}
use Rattle.aea_disk.specs.Spaces.{Memory}
use Rattle.aea_envelope.specs.Facts.{CellsHaveLengths, CellsHaveParts}
use Rattle.aea_records.specs.Format.{spelled}
use Rattle.aea_records.specs.Laws.{HasOneReading, LedgersAreArchives, LedgersAreNotBad, ObjectsAreOfRecords}
use Rattle.aea_report.specs.Laws.{HaveOneReading, ReportsAreNotBad, PrintedAreReports, PrintedReportsFit}
use Rattle.aea_ledger.specs.Stops.{HasLedger}
use Rattle.aea_copies.specs.Format.{text_of, whole_copy}
use Rattle.aea_copies.specs.Kept.{HasText}
use Rattle.aea_archive.specs.Blocks.{IsIntactBy}
use Rattle.aea_archive.specs.Laws.{PutsRecord}
use Rattle.aea_archive.specs.Next.{object_blocks}
use Rattle.aea_verify.specs.Shown.{AcceptedAreFitting}
use Rattle.aea_command.specs.Honest.{HasHonestSurvivors}
use Rattle.aea_run_laws.specs.Copies.{HasCopies, CopiesAreMet}
use Rattle.aea_run_laws.specs.Meeting.{HasFiles}
use Rattle.aea_run_laws.specs.Standing.{HasTheObject, HasLostSite}
use Rattle.aea_run_laws.proofs.Adding.{gate_there, fence_met, upgrade_met}
use Rattle.aea_run_laws.proofs.Copying.{text_small, with_copies, copies_near, copies_there, copies_far, pieces, are_pieces, copy_long, adopted_as_it_is, over_copies}
use Rattle.aea_run_laws.proofs.Explaining.{explain_met}
use Rattle.aea_run_laws.proofs.Meeting.{get_met, fetch_met, scrub_met}
use Rattle.aea_run_laws.proofs.Memories.{memory_with, has_all_files}
use Rattle.aea_run_laws.proofs.OneBlock.{shape, one, stored, records, c, d, has_it, loses_it, whole_bare, lost_bare}
use Rattle.aea_run_laws.proofs.Over.{IsGround}
use Rattle.aea_run_laws.proofs.Repairing.{repair_met}
use Rattle.aea_run_laws.proofs.Verifying.{report_of, is_repair_text, verify_met}

pub copies_are_met : CellsHaveLengths → CellsHaveParts → PutsRecord → HasOneReading → LedgersAreArchives → LedgersAreNotBad → ObjectsAreOfRecords → HaveOneReading → ReportsAreNotBad → PrintedAreReports → PrintedReportsFit → AcceptedAreFitting → CopiesAreMet
copies_are_met lengths parts record_law reading archives bad placing report_reading report_bad reports fit accepted o is name =
    let whole = c lengths parts record_law o is in
    let lost = d lengths parts record_law o is in
    let r = stored lengths parts record_law o is in
    let all = records lengths parts record_law o is in
    let has : HasTheObject shape one r o whole = has_it lengths parts record_law o is in
    let loses : HasLostSite shape one r o whole lost = loses_it lengths parts record_law o is in
    let few = whole_bare lengths parts record_law o is in
    let few_too = lost_bare lengths parts record_law o is in
    let bare : (f : ℕ) → 64 < f → whole f ≡ [] = λ f far. few f (omega (arith, far)) in
    let bare_too : (f : ℕ) → 64 < f → lost f ≡ [] = λ f far. few_too f (omega (arith, far)) in
    let first : lost 0 ≡ whole 0 = loses.loses.others 0 (omega arith) in
    let ledger_too : HasLedger shape all (lost 0) = subst (HasLedger shape all) (sym first) has.ledger in
    let still : (k : Class) → k ≢ Datum → IsIntactBy shape r.digests lost (block_of 1 k) = λ k other. loses.others (block_of 1 k) (has_of k) (λ e. other (ap (λ (b : BlockId). b.class) e)) in
    let honest : HasHonestSurvivors lost = record {
      shape = shape;
      records = all;
      ledger = ledger_too;
      lattice = one;
      is_lattice = has.lattice;
      datas = object_blocks shape o.bytes;
      recorded = has.recorded;
      honest = loses.honest;
    } in
    let text = text_small r name has.ledger.valid.0.stored.digest has.ledger.valid.0.stored.each in
    let ps = pieces (whole 0) all has.ledger text in
    let copy = whole_copy ps in
    let e = with_copies copy whole in
    let f = with_copies copy lost in
    let copied : HasCopies ps whole e = record { text = (are_pieces (whole 0) all has.ledger text).text; whole = copies_there copy whole; others = copies_near copy whole } in
    let copied_too : HasCopies ps lost f = record { text = subst (HasText (text_of ps)) (sym first) (are_pieces (whole 0) all has.ledger text).text; whole = copies_there copy lost; others = copies_near copy lost } in
    let over : (room : ℕ) (m : Memory) → length copy ≤ room → HasFiles e room m → IsGround whole room 120 m = λ room m large there. over_copies (whole 0) all has.ledger text whole refl bare e copied room large m there in
    let over_too : (room : ℕ) (m : Memory) → length copy ≤ room → HasFiles f room m → IsGround lost room 120 m = λ room m large there. over_copies (whole 0) all has.ledger text lost first bare_too f copied_too room large m there in
    let ledger_there : e 0 ≡ whole 0 = copied.others 0 (omega arith) in
    let size : length (e 0) ≡ length (whole 0) = ap length ledger_there in
    let long = copy_long (whole 0) all has.ledger text in
    let gate = gate_there (whole 0) all has.ledger in (
      shape,
      one,
      r,
      whole,
      lost,
      has,
      loses,
      ps,
      e,
      f,
      copied,
      copied_too,
      adopted_as_it_is (whole 0) all has.ledger text e ledger_there copied.whole,
      adopted_as_it_is (whole 0) all has.ledger text f (copied_too.others 0 (omega arith) ∙ first) copied_too.whole,
      λ room. (memory_with e room, memory_with f room, has_all_files e room (copies_far copy whole), has_all_files f room (copies_far copy lost)),
      λ input. record {
        get = λ room m out large there left. get_met lengths parts record_law reading archives bad placing o is whole has.ledger room 120 m (over room m large there) (has.intact (block_of 1 Datum) (has_of Datum)) input out left;
        fetch = λ room m out large there left. fetch_met lengths parts record_law reading archives bad placing o is lost ledger_too room 120 m (over_too room m large there) (still Horiz (λ e. cc)) honest input out left;
        scrub = λ room m out large there left. scrub_met lengths parts record_law reading archives bad placing o is lost ledger_too room 120 m (over_too room m large there) loses.damaged still input out left;
        explain = λ b inside room m out large there left. explain_met reading archives bad lost all ledger_too refl refl room 120 m (over_too room m large there) b inside input out left;
        repair = λ room m out large there left. repair_met reading archives bad lost all ledger_too refl refl r.digests refl loses.damaged still honest room 120 (omega (arith, large)) m (over_too room m (omega (arith, large)) there) input out left;
        fence = λ room m out large there left. fence_met reading archives bad whole all has.ledger room 120 (omega (arith, large, size)) m (over room m (omega (arith, large, size, long, gate)) there) refl refl input out left;
        upgrade = λ room m out large there left. upgrade_met reading archives bad whole all has.ledger room 120 (omega (arith, large, size)) m (over room m (omega (arith, large, size, long, gate)) there) refl input out left;
      },
      report_of (spelled shape all),
      is_repair_text reading archives bad report_reading report_bad reports fit accepted all refl refl r.digests refl lost ledger_too has.lattice loses.damaged still,
      λ room m out large there left. verify_met reading archives bad report_reading report_bad reports fit accepted all refl refl r.digests refl whole has.ledger has.intact room 120 m (over room m large there) out left,
    )
  where
    has_of : (k : Class) → HasBlock one (block_of 1 k)
    has_of Datum = record { first = omega arith; last = omega arith; used = omega arith }
    has_of Horiz = record { first = omega arith; last = omega arith; used = omega arith }
    has_of Right = record { first = omega arith; last = omega arith; used = omega arith }
    has_of Left = record { first = omega arith; last = omega arith; used = omega arith }
