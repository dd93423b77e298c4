use Rattle.std.proofs.Common.{◌≡◌, ◌<◌, List, ℕ, length, ap, sym, ◌∙◌, arith, true, false}
use Rattle.aea_lattice.specs.declared.blocks.BlockId.{BlockId}
use Rattle.aea_envelope.specs.Cells.{head_of, block_digest, cell_of}
use Rattle.aea_envelope.proofs.ListParts.{AreSame, middle_of_three}
use Rattle.aea_envelope.proofs.CellLemmas.{length-cell_of, parts_of_cell}
use Rattle.aea_envelope.proofs.cells.decode.Goals as goal

-- bytes that are too few are no cell
too_few : (b : BlockId) (bytes payload : List ℕ) → length bytes < 48 → bytes ≡ cell_of b payload → ⊥
too_few b bytes payload short same = omega (arith, length-cell_of b payload, ap length same)

pub returns-in_err-front-clause-cell : goal.returns-in_err-front-clause-cell
returns-in_err-front-clause-cell c = (
  λ some. let none : false ≡ true = rw c.from_residual.ensures at some in absurd (cc),
  λ is. absurd (too_few c.args.b c.args.cell.now is.0 c.in_err-front.ensures.short is.1),
)

pub returns-in_err-front-clause-reads : goal.returns-in_err-front-clause-reads
returns-in_err-front-clause-reads c =
    λ payload same. absurd (too_few c.args.b c.args.cell.now payload c.in_err-front.ensures.short same)

pub returns-then-fits-clause-reads : goal.returns-then-fits-clause-reads
returns-then-fits-clause-reads c =
    λ payload same.
    (parts_of_cell c.args.b c.in_ok-front.front.now c.in_ok-front.payload.now c.in_ok-front.digest.now payload
    c.in_ok-front.ensures.front c.in_ok-front.ensures.digest (sym c.in_ok-front.ensures.parts ∙ same)).middle

pub returns-then-fits-clause-place : goal.returns-then-fits-clause-place
returns-then-fits-clause-place c =
    rw (c.in_ok-front.ensures.front, c.in_ok-front.ensures.digest) at
    (middle_of_three c.args.cell.now c.in_ok-front.front.now c.in_ok-front.payload.now c.in_ok-front.digest.now
    c.in_ok-front.ensures.parts)

-- where the comparison fails the bytes are no cell
is_other : (c : goal.Else-fits) (payload : List ℕ) → c.args.cell.now ≡ cell_of c.args.b payload → ⊥
is_other c payload same =
    let parts : AreSame c.in_ok-front.front.now c.in_ok-front.payload.now c.in_ok-front.digest.now (head_of c.args.b) payload (block_digest c.args.b payload) =
    parts_of_cell c.args.b c.in_ok-front.front.now c.in_ok-front.payload.now c.in_ok-front.digest.now payload
    c.in_ok-front.ensures.front c.in_ok-front.ensures.digest (sym c.in_ok-front.ensures.parts ∙ same) in
    let fits = c.fits.ensures.1 (parts.first, parts.last ∙ ap (block_digest c.args.b) (sym parts.middle)) in
    let other = c.if-fits.false in
    cc

pub returns-else-fits-clause-cell : goal.returns-else-fits-clause-cell
returns-else-fits-clause-cell c = (λ none. absurd (cc), λ is. absurd (is_other c is.0 is.1))

pub returns-else-fits-clause-reads : goal.returns-else-fits-clause-reads
returns-else-fits-clause-reads c = is_other c
