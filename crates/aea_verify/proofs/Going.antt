-- A reader and the tally of its lines, line by line.
use Rattle.std.proofs.Common.{◌≡◌, ℕ, ◌+◌, ◌<◌, ◌≤◌, List, [], ◌∷◌, ◌++◌, Bool, true, Option, Some, None, Err, sym, ◌∙◌, ap, subst, arith}
use Rattle.std.specs.Prelude.{is_none}
use Rattle.std.proofs.lemmas.Bool.{false≢true}
use Rattle.aea_lattice.specs.declared.blocks.BlockId.{BlockId}
use Rattle.aea_lattice.specs.declared.grid.Lattice.{Lattice}
use Rattle.aea_lattice.specs.Blocks.{blocks_count, number_of}
use Rattle.aea_lattice.proofs.Equations.{number_below}
use Rattle.aea_report.specs.declared.head.Head.{Head}
use Rattle.aea_report.specs.declared.line.Line.{Line}
use Rattle.aea_report.specs.Format.{block_in}
use Rattle.aea_report.specs.Grammar.{IsHeadOf, IsLine}
use Rattle.aea_reader.specs.declared.fault.ReportFault.{ReportFault}
use Rattle.aea_reader.specs.declared.fault.ReportFault.TheVariants as fault
use Rattle.aea_reader.specs.Readings.{Reading, IsReading, HasBegun, HasRead, Advances}
use Rattle.aea_verify.specs.declared.tally.Tally.{Tally}
use Rattle.aea_verify.specs.Tallies.{IsTally, IsSmall}
use Rattle.aea_verify.specs.Judged.{HasSameBlocks, IsGoing, MovesOn, FaultSays, HasSome, HeadSays}
use Rattle.aea_verify.proofs.Agree.{number-same, line-same, head-same}

-- the line that was read is one that may be judged
pub going-line : (l : Lattice) (old new : Reading) (line : Line) (t : Tally) → Advances old new line → IsGoing l old t → IsLine l t.least line
going-line l old new line t moved going =
    subst (λ k. IsLine l k line) (sym going.least) (line-same l old.lattice going.blocks old.least line moved.valid)

-- the reader and the tally after it
pub moves-on : (judged : Bool) (l : Lattice) (old new : Reading) (line : Line) (t u : Tally) → Advances old new line → (judged ≡ true → IsGoing l old t)
    → (judged ≡ true → IsSmall l u) → (judged ≡ true → u.least ≡ number_of l (block_in line) + 1) → MovesOn judged l old new u
moves-on judged l old new line t u moved going small least =
    let valid = moved.valid in
    let later : old.least ≤ number_of old.lattice (block_in line) = valid.later in
    let below : number_of old.lattice (block_in line) < blocks_count old.lattice = number_below old.lattice (block_in line) valid.block in
    let now : new.least ≡ number_of old.lattice (block_in line) + 1 = moved.least in
    record {
      open_still = moved.open_still;
      lattice = moved.lattice;
      rises = omega arith;
      inside = omega arith;
      going = λ so. record {
        blocks = subst (λ (m : Lattice). HasSameBlocks l m) (sym moved.lattice) (going so).blocks;
        small = small so;
        least = least so ∙ ap (λ n. n + 1) (sym (number-same l old.lattice (going so).blocks (block_in line))) ∙ sym now;
      };
    }

-- one line more of a report
pub some-more : (judged : Bool) (l : Lattice) (intact : BlockId → Bool) (input : List ℕ) (h : Head) (old new : Reading) (left rest : Option (List ℕ)) (line : Line) (t u : Tally)
    → (some : HasSome judged l intact input h old left t) → IsReading input h (some.lines ++ line ∷ []) new rest
    → (judged ≡ true → (lines : List Line) → IsTally l intact lines t → IsTally l intact (lines ++ line ∷ []) u) → HasSome judged l intact input h new rest u
some-more judged l intact input h old new left rest line t u some reading more = record {
  lines = some.lines ++ line ∷ [];
  reading = reading;
  tally = λ so. more so some.lines (some.tally so);
}

-- a fault of the reader, at the first lines and after them
pub begun-fault : (input : List ℕ) (left : Option (List ℕ)) (f : ReportFault) → HasBegun input left (Err f) → FaultSays input f
begun-fault input left (fault.BadLine k) says = says.1
begun-fault input left (fault.LineTooLong k) says = says.1
begun-fault input left fault.ReadFault says = tt
begun-fault input left fault.NoMemory says = tt

pub read-fault : (input : List ℕ) (h : Head) (lines : List Line) (v : Reading) (left : Option (List ℕ)) (f : ReportFault) → HasRead input h lines v left (Err f) → FaultSays input f
read-fault input h lines v left (fault.BadLine k) says = says.1
read-fault input h lines v left (fault.LineTooLong k) says = says.1
read-fault input h lines v left fault.ReadFault says = tt
read-fault input h lines v left fault.NoMemory says = tt

-- the beginning
pub going-first : (l : Lattice) (v : Reading) (t : Tally) → HasSameBlocks l v.lattice → v.least ≡ 0 → t.least ≡ 0 → IsSmall l t → IsGoing l v t
going-first l v t same first none small = record { blocks = same; small = small; least = none ∙ sym first }

pub some-first : (judged : Bool) (l : Lattice) (intact : BlockId → Bool) (input : List ℕ) (h : Head) (v : Reading) (left : Option (List ℕ)) (t : Tally)
    → IsReading input h [] v left → IsTally l intact [] t → HasSome judged l intact input h v left t
some-first judged l intact input h v left t reading tally = record { lines = []; reading = reading; tally = λ _. tally }

-- where the head breaks no rule, its lattice has the blocks of this one
pub judged-same : (l m : Lattice) (seal : List ℕ) (h : Head) (broken : Option ℕ) → HeadSays l seal h broken → IsHeadOf m h → is_none broken ≡ true → HasSameBlocks l m
judged-same l m seal h None says head none = head-same l m h says.0 head
judged-same l m seal h (Some k) says head none = absurd (false≢true none)
