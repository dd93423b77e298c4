-- That a block of the archive is explained.
use Rattle.std.proofs.Common.{◌≡◌, ℕ, ◌≤◌, List, [], length, refl, sym, ap, subst, arith, length-append}
use Rattle.std.specs.Prelude.{◌-◌, vec_len}
use Rattle.aea_lattice.specs.declared.blocks.BlockId.{BlockId}
use Rattle.aea_lattice.specs.declared.grid.Lattice.{Lattice}
use Rattle.aea_lattice.specs.Blocks.{HasBlock}
use Rattle.aea_lattice.specs.Texts.{text_of}
use Rattle.aea_disk.specs.Files.{Files}
use Rattle.aea_disk.specs.Spaces.{Memory}
use Rattle.aea_io.specs.declared.sure.SureSink.{SureSink}
use Rattle.aea_records.specs.Format.{Record, nodes_of, fences_of}
use Rattle.aea_records.specs.Laws.{HasOneReading, LedgersAreArchives, LedgersAreNotBad}
use Rattle.aea_ledger.specs.Stops.{HasLedger}
use Rattle.aea_gauss.specs.Fates.{IsFate}
use Rattle.aea_explain.specs.Explained.{without}
use Rattle.aea_command.specs.declared.refusal.Refusal.{Refusal}
use Rattle.aea_command.specs.declared.refusal.Refusal.TheVariants.{NoArchive, LedgerBad, NoSuchBlock}
use Rattle.aea_command_loss.specs.Explain.{fate_text, standing_text, explanation_text, ExplainCauses, HasNoSuchBlock, IsExplanationText}
use Rattle.aea_dispatch.specs.declared.command.Command.TheVariants.{Explain}
use Rattle.aea_run_laws.specs.Meeting.{HasLeft, IsMet}
use Rattle.aea_run_laws.proofs.OneBlock.{shape, one}
use Rattle.aea_run_laws.proofs.Over.{IsGround, meets}
use Rattle.aea_run_laws.proofs.Readings.{same_lattice}
use Rattle.aea_run_laws.proofs.Texts.{fate_long, standing_long}

module _ (reading : HasOneReading) (archives : LedgersAreArchives) (bad : LedgersAreNotBad) (x : Files) (all : List Record) (ledger : HasLedger shape all (x 0)) (nodes : nodes_of all ≡ 1) (unfenced : fences_of all ≡ []) where
  -- the text is short, whichever explanation it is
  explanation_long : (word text : List ℕ) → IsExplanationText x word text → length text ≤ 24
  explanation_long word text h =
      let lattice_is : h.lattice ≡ one = same_lattice reading (x 0) all ledger nodes unfenced h.shape h.records h.lattice h.ledger h.is_lattice in
      let count : h.lattice.n ≡ 1 = ap (λ (a : Lattice). a.n) lattice_is in
      let first = h.explains.inside.first in
      let last = h.explains.inside.last in
      let node : h.block.node ≡ 1 = omega (arith, first, last, count) in
      let fate : IsFate one (without h.known h.block) h.explanation.fate = subst (λ (a : Lattice). IsFate a (without h.known h.block) h.explanation.fate) lattice_is h.explains.explained.fate in
      let standing = standing_long h.explanation.intact h.block node in
      let rest = fate_long h.explanation.fate (without h.known h.block) fate in
      let both = length-append (standing_text h.explanation.intact h.block) (fate_text h.explanation.fate) in
      let long : length text ≡ length (explanation_text h.block h.explanation) = ap length h.is in
      omega (arith, standing, rest, both, long)

  explain_unrefused : (b : BlockId) → HasBlock one b → (why : Refusal) → ExplainCauses (text_of b) (x 0) why → ⊥
  explain_unrefused b inside NoArchive cause = (archives (x 0) cause).0 shape all _ ledger
  explain_unrefused b inside (LedgerBad at) cause = bad (x 0) shape all _ at ledger cause
  explain_unrefused b inside NoSuchBlock cause =
      let h : HasNoSuchBlock (x 0) (text_of b) = cause in
      let lattice_is : h.lattice ≡ one = same_lattice reading (x 0) all ledger nodes unfenced h.shape h.records h.lattice h.ledger h.is_lattice in
      h.none (b, subst (λ (a : Lattice). HasBlock a b) (sym lattice_is) inside, refl)
  explain_unrefused b inside why cause = cause

  pub explain_met : (room spare : ℕ) (m : Memory) → IsGround x room spare m → (b : BlockId) → HasBlock one b
      → (input : List ℕ) (out : SureSink) → HasLeft 24 out → IsMet (Explain (text_of b)) m input out
  explain_met room spare m ground b inside input out left =
      meets x room spare m ground (Explain (text_of b)) input out tt
      (λ mid a name adopts. ground.roomy mid a name adopts)
      (λ files on same text is. let long = explanation_long (text_of b) text (subst (λ (y : Files). IsExplanationText y (text_of b) text) same is) in record { room = out.room - vec_len out.bytes; revealed = refl; enough = omega (arith, long, left) })
      (λ files on same. tt)
      (λ files on why same cause. explain_unrefused b inside why (subst (λ (y : Files). ExplainCauses (text_of b) (y 0) why) same cause))
