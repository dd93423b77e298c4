-- What `explain` does: how the other intact blocks determine a block, or why they do not; and why it is refused.
use Rattle.std.specs.Prelude.{◌≡◌, ◌≢◌, ◌⊎◌, ◌↔◌, ℕ, Bool, cond, List, ◌++◌, codes, Result, Ok, Err, IsOk, IfOk, IfErr}
use Rattle.std.specs.List.{flat_map}
use Rattle.aea_io.specs.Streams.{SinkState}
use Rattle.aea_lattice.specs.declared.blocks.BlockId.{BlockId}
use Rattle.aea_lattice.specs.declared.blocks.EqId.{EqId}
use Rattle.aea_lattice.specs.declared.grid.Lattice.{Lattice}
use Rattle.aea_lattice.specs.declared.shape.Shape.{Shape}
use Rattle.aea_lattice.specs.Blocks.{HasBlock, block_of}
use Rattle.aea_lattice.specs.Texts.{text_of}
use Rattle.aea_disk.specs.Files.{Files}
use Rattle.aea_disk.specs.Frames.{OnlyReads}
use Rattle.aea_disk.specs.State.{State}
use Rattle.aea_records.specs.Faults.{IsNoArchive, IsBadAt}
use Rattle.aea_records.specs.Format.{Record, nodes_of, fences_of, digests_of}
use Rattle.aea_ledger.specs.Recorded.{IsLatticeOf}
use Rattle.aea_ledger.specs.Stops.{HasLedger}
use Rattle.aea_ledger.specs.Values.{Opened}
use Rattle.aea_archive.specs.Blocks.{RevealsSurvivors}
use Rattle.aea_report.specs.Format.{numbers_text}
use Rattle.aea_gauss.specs.declared.fates.Fate.{Fate}
use Rattle.aea_gauss.specs.declared.fates.Fate.TheVariants.{Sum, Word}
use Rattle.aea_explain.specs.declared.explaining.Explanation.{Explanation}
use Rattle.aea_explain.specs.Explained.{IsExplained}
use Rattle.aea_command.specs.declared.refusal.Refusal.{Refusal}
use Rattle.aea_command.specs.declared.refusal.Refusal.TheVariants.{NoArchive, LedgerBad, NoSuchBlock}
use Rattle.aea_command.specs.declared.refusal.Failure.{Failure}
use Rattle.aea_command.specs.declared.refusal.Failure.TheVariants as failure
use Rattle.aea_command.specs.declared.status.Status.{Status}
use Rattle.aea_command.specs.declared.status.Status.TheVariants.{Done, Damage}
use Rattle.aea_command_loss.specs.Drill.{NamesBlock}
use Rattle.aea_command.specs.Failures.{Answer}
use Rattle.aea_command.specs.Openings.{IsUnbegun, HasOpened}
use Rattle.aea_command.specs.Lines.{newline}
use Rattle.aea_command.specs.Printed.{PrintsText}

-- an equation, by the text of the parity that it gives, after a space
abbrev pub equation_text : EqId → List ℕ
equation_text e = codes " " ++ text_of (block_of e.node e.class)

-- the line of a fate: `sum` with the equations that give the block, or `word` with the nodes of a codeword that contains it
abbrev pub fate_text : Fate → List ℕ
fate_text (Sum b equations) = codes "sum" ++ (flat_map equation_text equations ++ newline)
fate_text (Word b nodes) = codes "word" ++ (numbers_text nodes ++ newline)

-- `intact B` or `damaged B`
abbrev pub standing_text : Bool → BlockId → List ℕ
standing_text intact b = (cond intact (codes "intact ") (codes "damaged ") ++ text_of b) ++ newline

-- the whole text
abbrev pub explanation_text : BlockId → Explanation → List ℕ
explanation_text b e = standing_text e.intact b ++ fate_text e.fate

-- the status: damage where the other intact blocks do not determine the block
abbrev pub fate_status : Fate → Status
fate_status (Sum b equations) = Done
fate_status (Word b nodes) = Damage

-- the bytes are a ledger, and the word is not the text of a block of its lattice
pub record HasNoSuchBlock (bytes word : List ℕ) : Type 0 where
  pub shape : Shape
  pub records : List Record
  pub ledger : HasLedger shape records bytes
  pub lattice : Lattice
  pub is_lattice : IsLatticeOf shape (nodes_of records) (fences_of records) lattice
  pub none : NamesBlock lattice word → ⊥

-- why the block with this text is not explained, where the ledger file has these bytes
abbrev pub ExplainCauses : List ℕ → List ℕ → Refusal → Type 0
ExplainCauses word bytes NoArchive = IsNoArchive bytes
ExplainCauses word bytes (LedgerBad at) = IsBadAt bytes at
ExplainCauses word bytes NoSuchBlock = HasNoSuchBlock bytes word
ExplainCauses word bytes why = ⊥

-- The word is the text of this block, and this is its explanation by the blocks that pass the test.
pub record ExplainsNamed (word : List ℕ) (l : Lattice) (known : BlockId → Bool) (block : BlockId) (e : Explanation) : Type 0 where
  pub inside : HasBlock l block
  pub named : word ≡ text_of block
  pub explained : IsExplained l known block e

-- the text of this explanation is printed, and the status is its own
pub record PrintsExplanation (block : BlockId) (e : Explanation) (before after : SinkState) (answer : Answer) : Type 0 where
  pub prints : PrintsText before after answer (explanation_text block e)
  pub status : IfOk answer (λ status. status ≡ fate_status e.fate)

-- What is printed is the explanation of the block with this text, by some test for the intact blocks of the opened archive.
-- Of a disk whose files are known, the test shows the intact ones.
pub record HasExplained (word : List ℕ) (reveals : Type 0) (v : Opened) (c : Files) (before after : SinkState) (answer : Answer) : Type 0 where
  pub known : BlockId → Bool
  pub survivors : reveals → RevealsSurvivors v.shape v.lattice.n v.digests c known
  pub block : BlockId
  pub explanation : Explanation
  pub explains : ExplainsNamed word v.lattice known block explanation
  pub printed : PrintsExplanation block explanation before after answer

-- the block was explained, or the word is the text of none; or the disk or the output failed, or memory ran out
abbrev pub IsExplaining : Answer → Type 0
IsExplaining answer =
    ((answer ≡ Ok Done) ⊎ (answer ≡ Ok Damage)) ⊎ ((answer ≡ Err (failure.Refused NoSuchBlock))
    ⊎ ((answer ≡ Err failure.Disk) ⊎ ((answer ≡ Err failure.Output) ⊎ (answer ≡ Err failure.Memory))))

-- Of an answer where the archive was opened, with the files, and `out` before and after it:
pub record ExplainsOpened (word : List ℕ) (reveals : Type 0) (v : Opened) (c : Files) (before after : SinkState) (answer : Answer) : Type 0 where
  pub kinds : IsExplaining answer
  -- it is refused exactly where the word is not the text of a block of the archive
  pub unknown : (answer ≡ Err (failure.Refused NoSuchBlock)) ↔ (NamesBlock v.lattice word → ⊥)
  -- what is printed over any disk; and over one whose files are known: the one explanation of the block
  pub some : IsOk answer ⊎ (answer ≡ Err failure.Output) → HasExplained word reveals v c before after answer
  pub each : IsOk answer ⊎ (answer ≡ Err failure.Output) → reveals → (known : BlockId → Bool) (block : BlockId) (e : Explanation)
      → RevealsSurvivors v.shape v.lattice.n v.digests c known → ExplainsNamed word v.lattice known block e → PrintsExplanation block e before after answer
  -- where something else than the output failed, nothing is printed
  pub unused : IfErr answer (λ f. f ≢ failure.Output → after ≡ before)

-- Of a run that, once it has its words, explains the block with this text, with the disk and `out` before and after it, and its
-- answer:
pub record ExplainsBlock (word : List ℕ) (reveals : Type 0) (old new : State) (before after : SinkState) (answer : Answer) : Type 0 where
  -- the archive is opened, and from the first call to the last the disk is only read
  pub opening : Result Opened Failure
  pub opens : HasOpened reveals old new opening
  pub reads : OnlyReads reveals (answer ≡ Err failure.Disk) old new
  -- where it is not opened, that is the answer
  pub unopened : IfErr opening (λ f. (answer ≡ Err f) × (after ≡ before))
  -- where it is, the block is explained, or it is said why not
  pub explains : IfOk opening (λ v. ExplainsOpened word reveals v old.files before after answer)

-- of a run with its words: it is not begun, or does so
abbrev pub ExplainsOrNot : List ℕ → Type 0 → State → State → SinkState → SinkState → Answer → Type 0
ExplainsOrNot word reveals old new before after answer = IsUnbegun old new before after answer ⊎ ExplainsBlock word reveals old new before after answer

-- the text is that of the block with this text, where the archive is in these files
pub record IsExplanationText (files : Files) (word text : List ℕ) : Type 0 where
  pub shape : Shape
  pub records : List Record
  pub ledger : HasLedger shape records (files 0)
  pub lattice : Lattice
  pub is_lattice : IsLatticeOf shape (nodes_of records) (fences_of records) lattice
  pub known : BlockId → Bool
  pub survivors : RevealsSurvivors shape (nodes_of records) (digests_of records) files known
  pub block : BlockId
  pub explanation : Explanation
  pub explains : ExplainsNamed word lattice known block explanation
  pub is : text ≡ explanation_text block explanation
