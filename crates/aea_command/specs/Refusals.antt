-- The lines on `err` where a command did not end well.
use Rattle.std.specs.Prelude.{ℕ, List, ◌++◌, codes, decimal}
use Rattle.hex.specs.Hex.{encode_lower}
use Rattle.aea_lattice.specs.declared.blocks.BlockId.{BlockId}
use Rattle.aea_lattice.specs.Texts.{text_of}
use Rattle.aea_command.specs.declared.refusal.Refusal.{Refusal}
use Rattle.aea_command.specs.declared.refusal.Refusal.TheVariants.{InputTooLong, BadBlock, NoArchive, LedgerBad, Occupied, BadName, NameTaken, CatalogFull, HeadDamaged, Full, BadStream, AlreadyFenced, TooManyFences, AlreadyUpgraded, UnknownName, Damaged, NoSuchBlock, BadLine, LineTooLong, Undetermined, NotUpgraded, BadMessage, TooManyMessages, CopiesAreOn, CopiesBad, CopiesDiffer}
use Rattle.aea_report.specs.Format.{numbers_text}
use Rattle.aea_command.specs.Lines.{newline}

-- of a refusal
abbrev pub refusal_line : Refusal → List ℕ
refusal_line InputTooLong = codes "refused: input too long" ++ newline
refusal_line (BadBlock k) = codes "refused: bad block at line " ++ decimal k ++ newline
refusal_line NoArchive = codes "refused: no archive" ++ newline
refusal_line (LedgerBad at) = codes "refused: ledger bad at " ++ decimal at ++ newline
refusal_line Occupied = codes "refused: occupied" ++ newline
refusal_line BadName = codes "refused: bad name" ++ newline
refusal_line NameTaken = codes "refused: name taken" ++ newline
refusal_line CatalogFull = codes "refused: catalog full" ++ newline
refusal_line (HeadDamaged block) = codes "refused: head damaged " ++ text_of block ++ newline
refusal_line (Full nodes) = codes "refused: full at " ++ decimal nodes ++ codes " nodes\n"
refusal_line (BadStream at) = codes "refused: bad stream at " ++ decimal at ++ newline
refusal_line (AlreadyFenced nodes) = codes "refused: already fenced at " ++ decimal nodes ++ newline
refusal_line TooManyFences = codes "refused: too many fences" ++ newline
refusal_line AlreadyUpgraded = codes "refused: already upgraded" ++ newline
refusal_line UnknownName = codes "refused: unknown name" ++ newline
refusal_line (Damaged block) = codes "refused: damaged " ++ text_of block ++ newline
refusal_line NoSuchBlock = codes "refused: bad block" ++ newline
refusal_line (BadLine k) = codes "refused: bad line " ++ decimal k ++ newline
refusal_line (LineTooLong k) = codes "refused: line too long " ++ decimal k ++ newline
refusal_line (Undetermined block nodes) = (codes "refused: undetermined " ++ text_of block) ++ (codes " by" ++ (numbers_text nodes ++ newline))
refusal_line NotUpgraded = codes "refused: not upgraded" ++ newline
refusal_line (BadMessage at) = codes "refused: bad message at " ++ decimal at ++ newline
refusal_line TooManyMessages = codes "refused: too many messages" ++ newline
refusal_line CopiesAreOn = codes "refused: copies are on" ++ newline
refusal_line (CopiesBad first second) = codes "refused: copies bad at " ++ decimal first ++ (codes " and " ++ decimal second ++ newline)
refusal_line (CopiesDiffer at) = codes "refused: copies differ at " ++ decimal at ++ newline

-- of words that are no command
abbrev pub words_line : List ℕ
words_line = codes "words: no such command" ++ newline

-- of a fault of the disk
abbrev pub disk_line : List ℕ
disk_line = codes "fault: disk" ++ newline

-- of a fault of the input
abbrev pub input_line : List ℕ
input_line = codes "fault: input" ++ newline

-- of a fault of the output
abbrev pub output_line : List ℕ
output_line = codes "fault: output" ++ newline

-- of lack of memory
abbrev pub memory_line : List ℕ
memory_line = codes "fault: memory" ++ newline

-- of a block that has another digest than the one that is recorded of it
abbrev pub clash_line : BlockId → List ℕ → List ℕ → List ℕ
clash_line block recorded computed =
    (codes "clash " ++ text_of block) ++ ((codes " recorded " ++ encode_lower recorded) ++ ((codes " computed " ++ encode_lower computed) ++ newline))
