use Rattle.std.proofs.Common.{◌≡◌, take}
use Rattle.aea_dispatch.proofs.words.kept.Given as goal

-- the bytes so far are kept
abbrev pub invariant-loop-byte : goal.invariant-loop-byte
invariant-loop-byte l = l.name ≡ take l.byte-index l.word
