use Rattle.std.proofs.Common.{◌≡◌, ◌+◌, ◌-◌, ◌<◌, ℕ, eqb, length, drop, Some, Result, ap, ◌∙◌, arith}
use Rattle.std.specs.Int.{w32, from_be_bytes}
use Rattle.std.specs.Result.{OkIff, result_ok}
use Rattle.std.proofs.lemmas.List.{take_all, length-drop}
use Rattle.std.proofs.lemmas.Result.{Ok-from_Ok_iff}
use Rattle.aea_copy_writer.proofs.Pieces.{some_bytes, first_there, first_read, len_read}
use Rattle.aea_copy_writer.proofs.entries.next_piece.Goals as goal
use Rattle.aea_copy_writer.proofs.entries.next_piece.Goals.{then-at-eq0, else-at-eq0}

as_u32 : {E : Type 0} (r : Result ℕ E) (len : ℕ) → OkIff r (len < 4294967296) len → len < 4294967296 → result_ok r ≡ Some len
as_u32 r len iff small = ap result_ok (Ok-from_Ok_iff r (len < 4294967296) len iff small)

pub returns-clause-found : goal.returns-clause-found
returns-clause-found g c = λ reveals piece others has.
    let file = (g.D.Disk.state c.args.disk.now).files 0 in
    let shaped = has.shaped.0 in
    let read = first_read piece c.read_part.new.part file c.args.at (some_bytes (eqb c.args.at 0) piece shaped) (first_there (eqb c.args.at 0) piece others c.args.at c.args.until file has) (c.in_ok-read_part.ensures.whole c.if-not-branch.false reveals) in
    let size : c.if-at-eq0.len ≡ length piece =
    elim c.if-at-eq0.branch [
      | then-at-eq0 w ↦ len_read c.args.at c.if-at-eq0.len piece c.read_part.new.part shaped read (λ is. w.len-is) (λ other. absurd (other w.if-at-eq0.true))
      | else-at-eq0 w ↦ len_read c.args.at c.if-at-eq0.len piece c.read_part.new.part shaped read (λ is. absurd (w.if-at-eq0.false is)) (λ other. w.len-is ∙ ap (λ (n : ℕ). n + 6) (w.from.ensures ∙ w.number_in.ensures ∙ ap (from_be_bytes w32) (take_all 4 (drop 2 c.read_part.new.part) (omega (arith, length-drop 2 c.read_part.new.part, c.read_part.auto.part)))))
    ] in
    c.ok.ensures.value ∙ as_u32 c.try_from.result c.if-at-eq0.len c.try_from.ensures (omega (arith, size, shaped.short)) ∙ ap Some size
