use Rattle.aea_command.proofs.lines.print_refusal.Goals as goal

pub returns-in-InputTooLong : goal.returns-in-InputTooLong
returns-in-InputTooLong g c = rw c.in-InputTooLong.is c.print.ensures

pub returns-in-NoArchive : goal.returns-in-NoArchive
returns-in-NoArchive g c = rw c.in-NoArchive.is c.print-in-NoArchive.ensures

pub returns-in-Occupied : goal.returns-in-Occupied
returns-in-Occupied g c = rw c.in-Occupied.is c.print-in-Occupied.ensures

pub returns-in-BadName : goal.returns-in-BadName
returns-in-BadName g c = rw c.in-BadName.is c.print-in-BadName.ensures

pub returns-in-NameTaken : goal.returns-in-NameTaken
returns-in-NameTaken g c = rw c.in-NameTaken.is c.print-in-NameTaken.ensures

pub returns-in-CatalogFull : goal.returns-in-CatalogFull
returns-in-CatalogFull g c = rw c.in-CatalogFull.is c.print-in-CatalogFull.ensures

pub returns-in-TooManyFences : goal.returns-in-TooManyFences
returns-in-TooManyFences g c = rw c.in-TooManyFences.is c.print-in-TooManyFences.ensures

pub returns-in-AlreadyUpgraded : goal.returns-in-AlreadyUpgraded
returns-in-AlreadyUpgraded g c = rw c.in-AlreadyUpgraded.is c.print-in-AlreadyUpgraded.ensures

pub returns-in-UnknownName : goal.returns-in-UnknownName
returns-in-UnknownName g c = rw c.in-UnknownName.is c.print-in-UnknownName.ensures

pub returns-in-NoSuchBlock : goal.returns-in-NoSuchBlock
returns-in-NoSuchBlock g c = rw c.in-NoSuchBlock.is c.print-in-NoSuchBlock.ensures

pub returns-in-NotUpgraded : goal.returns-in-NotUpgraded
returns-in-NotUpgraded g c = rw c.in-NotUpgraded.is c.print-in-NotUpgraded.ensures

pub returns-in-TooManyMessages : goal.returns-in-TooManyMessages
returns-in-TooManyMessages g c = rw c.in-TooManyMessages.is c.print-in-TooManyMessages.ensures

pub returns-in-CopiesAreOn : goal.returns-in-CopiesAreOn
returns-in-CopiesAreOn g c = rw c.in-CopiesAreOn.is c.print-in-CopiesAreOn.ensures

pub returns-in-Full : goal.returns-in-Full
returns-in-Full g c = rw c.in-Full.is c.print_full.ensures

pub returns-in-BadBlock : goal.returns-in-BadBlock
returns-in-BadBlock g c = rw c.in-BadBlock.is (rw c.from.ensures at c.print_counted.ensures)

pub returns-in-Damaged : goal.returns-in-Damaged
returns-in-Damaged g c = rw c.in-Damaged.is c.print_with_block-in-Damaged.ensures

pub returns-in-LedgerBad : goal.returns-in-LedgerBad
returns-in-LedgerBad g c = rw c.in-LedgerBad.is c.print_counted-in-LedgerBad.ensures

pub returns-in-BadStream : goal.returns-in-BadStream
returns-in-BadStream g c = rw c.in-BadStream.is c.print_counted-in-BadStream.ensures

pub returns-in-BadMessage : goal.returns-in-BadMessage
returns-in-BadMessage g c = rw c.in-BadMessage.is c.print_counted-in-BadMessage.ensures

pub returns-in-CopiesDiffer : goal.returns-in-CopiesDiffer
returns-in-CopiesDiffer g c = rw c.in-CopiesDiffer.is c.print_counted-in-CopiesDiffer.ensures

pub returns-in-AlreadyFenced : goal.returns-in-AlreadyFenced
returns-in-AlreadyFenced g c = rw c.in-AlreadyFenced.is (rw c.from-in-AlreadyFenced.ensures at c.print_counted-in-AlreadyFenced.ensures)

pub returns-in-BadLine : goal.returns-in-BadLine
returns-in-BadLine g c = rw c.in-BadLine.is (rw c.from-in-BadLine.ensures at c.print_counted-in-BadLine.ensures)

pub returns-in-LineTooLong : goal.returns-in-LineTooLong
returns-in-LineTooLong g c = rw c.in-LineTooLong.is (rw c.from-in-LineTooLong.ensures at c.print_counted-in-LineTooLong.ensures)
