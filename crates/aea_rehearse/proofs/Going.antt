-- From one block to the next: what was gone through.
use Rattle.std.proofs.Common.{◌≡◌, ◌≢◌, ⊎_elim, ℕ, ◌+◌, ◌≤◌, Bool, true, false, cond, List, length, sym, ap, subst, ◌∙◌, arith}
use Rattle.std.specs.Prelude.{not, ◌&&◌}
use Rattle.std.proofs.lemmas.Bool.{cases_eq}
use Rattle.aea_lattice.specs.declared.blocks.BlockId.{BlockId}
use Rattle.aea_lattice.specs.declared.grid.Lattice.{Lattice}
use Rattle.aea_lattice.specs.declared.shape.Shape.{Shape}
use Rattle.aea_lattice.specs.Blocks.{HasBlock, number_of}
use Rattle.aea_lattice.specs.Facts.{NumbersRevealBlocks}
use Rattle.aea_disk.specs.Files.{Files}
use Rattle.aea_envelope.specs.Cells.{cell_of}
use Rattle.aea_envelope.specs.Facts.{CellsHaveLengths, CellsHaveParts}
use Rattle.aea_shelf.specs.Places.{cell_size, HasAtHome}
use Rattle.aea_shelf.specs.Writes.{KeepsHomes}
use Rattle.aea_ledger.specs.Values.{Opened}
use Rattle.aea_archive.specs.Blocks.{recorded_in, IsIntactBy}
use Rattle.aea_archive.proofs.Honest.{stands}
use Rattle.aea_rehearse.specs.Generator.{next_state, state_after, strikes}
use Rattle.aea_rehearse.specs.Rehearsed.{flipped_cell, keeps_digest}
use Rattle.aea_rehearse.specs.Building.{AreRecordedPayloads, AreWoven, AreGoneThrough, is_hit, cell_by}
use Rattle.aea_rehearse.proofs.Homes.{block_in_shape}
use Rattle.aea_rehearse.proofs.Turning.{length-flipped_cell}
use Rattle.aea_rehearse.proofs.States.{state-one}

long_either : (x : Bool) (m : ℕ) (one two : List ℕ) → length one ≡ m → length two ≡ m → length (cond x one two) ≤ m
long_either true m one two first second = omega arith
long_either false m one two first second = omega arith

-- what is left at a home has the bytes of a cell
pub length-cell_by : CellsHaveLengths → (v : Opened) (x permille : ℕ) (payload : BlockId → List ℕ) (b : BlockId) → length (payload b) ≡ v.shape.block
    → length (cell_by v.lattice x permille payload b) ≤ cell_size v.shape
length-cell_by lengths v x permille payload b wide =
    let long = (lengths b (payload b)).2 in
    long_either (is_hit v.lattice x permille payload b) (cell_size v.shape) (flipped_cell b (payload b)) (cell_of b (payload b))
    (omega (arith, length-flipped_cell lengths b (payload b), wide)) (omega (arith, long, wide))

-- a block that is struck, and one that is not
hit_struck : (s k : Bool) (one two : List ℕ) → s ≡ true → cond (s && not k) one two ≡ cond k two one
hit_struck s true one two is = ap (λ (x : Bool). cond (x && false) one two) is
hit_struck s false one two is = ap (λ (x : Bool). cond (x && true) one two) is

hit_spared : (s k : Bool) (one two : List ℕ) → s ≡ false → cond (s && not k) one two ≡ two
hit_spared s k one two is = ap (λ (x : Bool). cond (x && not k) one two) is

-- the state by which block k is judged
judged_by : (l : Lattice) (x k permille old new : ℕ) (b : BlockId) (s : Bool) → number_of l b ≡ k → old ≡ state_after x k → new ≡ next_state old → strikes permille new ≡ s → strikes permille (state_after x (number_of l b + 1)) ≡ s
judged_by l x k permille old new b s number was steps is =
    ap (λ (n : ℕ). strikes permille (state_after x (n + 1))) number ∙ ap (strikes permille) (state-one x k ∙ ap next_state (sym was) ∙ sym steps) ∙ is

-- where it is struck, and where not, what was done at its home
pub struck_cell : (l : Lattice) (x k permille old new : ℕ) (payload : BlockId → List ℕ) (b : BlockId) → number_of l b ≡ k → old ≡ state_after x k → new ≡ next_state old → strikes permille new ≡ true
    → cell_by l x permille payload b ≡ cond (keeps_digest b (payload b)) (cell_of b (payload b)) (flipped_cell b (payload b))
struck_cell l x k permille old new payload b number was steps is =
    hit_struck (strikes permille (state_after x (number_of l b + 1))) (keeps_digest b (payload b)) (flipped_cell b (payload b)) (cell_of b (payload b)) (judged_by l x k permille old new b true number was steps is)

pub spared_cell : (l : Lattice) (x k permille old new : ℕ) (payload : BlockId → List ℕ) (b : BlockId) → number_of l b ≡ k → old ≡ state_after x k → new ≡ next_state old → strikes permille new ≡ false
    → cell_by l x permille payload b ≡ cell_of b (payload b)
spared_cell l x k permille old new payload b number was steps is =
    hit_spared (strikes permille (state_after x (number_of l b + 1))) (keeps_digest b (payload b)) (flipped_cell b (payload b)) (cell_of b (payload b)) (judged_by l x k permille old new b false number was steps is)

-- one block more was gone through: what was left of it is at its home, and the other homes stay
pub go_on : CellsHaveLengths → NumbersRevealBlocks → (v : Opened) (x permille k : ℕ) (payload : BlockId → List ℕ) (b : BlockId) (old new : Files) → v.lattice.alpha ≡ v.shape.alpha → HasBlock v.lattice b → number_of v.lattice b ≡ k
    → AreRecordedPayloads v payload → KeepsHomes v.shape (λ a. a ≢ b) old new → HasAtHome v.shape b (cell_by v.lattice x permille payload b) new
    → AreGoneThrough v x permille k payload old → AreGoneThrough v x permille (k + 1) payload new
go_on lengths reveal v x permille k payload b old new alpha has number recorded keeps here going = record {
  done = λ a has_a below. ⊎_elim
      (λ same. subst (λ (d : BlockId). HasAtHome v.shape d (cell_by v.lattice x permille payload d) new) (sym (reveal v.lattice a b has_a has (same ∙ sym number))) here)
      (λ other. keeps a (cell_by v.lattice x permille payload a) (block_in_shape v.shape v.lattice a alpha has_a) (λ same. other (ap (number_of v.lattice) same ∙ number))
      (length-cell_by lengths v x permille payload a (recorded.wide a has_a)) (going.done a has_a (omega (arith, below, other))))
      (cases_eq (number_of v.lattice a) k);
  rest = λ a has_a above.
      let long = (lengths a (payload a)).2 in let wide = recorded.wide a has_a in
      keeps a (cell_of a (payload a)) (block_in_shape v.shape v.lattice a alpha has_a) (λ same. let e = ap (number_of v.lattice) same in omega (arith, e, number, above)) (omega (arith, long, wide)) (going.rest a has_a (omega (arith, above)));
}

-- where nothing changes, the homes stay
pub homes_stay : (shape : Shape) (keep : BlockId → Type 0) (old new : Files) → new ≡ old → KeepsHomes shape keep old new
homes_stay shape keep old new same a bytes has_a kept short here = subst (λ (c : Files). HasAtHome shape a bytes c) (sym same) here

-- at the start nothing was gone through, and at the end everything
pub none_gone : (v : Opened) (x permille : ℕ) (payload : BlockId → List ℕ) (c : Files) → AreWoven v payload c → AreGoneThrough v x permille 0 payload c
none_gone v x permille payload c woven = record {
  done = λ b has below. absurd (omega (arith, below));
  rest = λ b has above. woven.cells b has;
}

-- a block that was not gone through is intact
pub rest_intact : CellsHaveLengths → CellsHaveParts → (v : Opened) (x permille k : ℕ) (payload : BlockId → List ℕ) (c : Files) → AreRecordedPayloads v payload → AreGoneThrough v x permille k payload c
    → (b : BlockId) → HasBlock v.lattice b → number_of v.lattice b ≡ k → IsIntactBy v.shape v.digests c b
rest_intact lengths parts v x permille k payload c recorded going b has number =
    (stands lengths parts v.shape b (recorded_in v.shape v.digests b) (payload b) c (recorded.wide b has) (recorded.digests b has) (going.rest b has (omega (arith, number)))).intact
