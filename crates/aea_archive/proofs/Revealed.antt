-- The test that distinguishes the survivors: it can be decided whether the bytes at a home are the cell of its block with a digest.
use Rattle.std.proofs.Common.{◌≡◌, ◌⊎◌, inl, inr, ℕ, suc, ◌+◌, ◌-◌, Bool, true, false, List, [], ◌∷◌, length, take, drop, get_or, refl, sym, ◌∙◌, ap, arith}
use Rattle.std.specs.Prelude.{◌↔◌, IsTrue}
use Rattle.std.proofs.lemmas.Bool.{cases_lt, cases_eq, false≢true}
use Rattle.aea_lattice.specs.declared.blocks.BlockId.{BlockId}
use Rattle.aea_lattice.specs.declared.shape.Shape.{Shape}
use Rattle.aea_envelope.specs.Cells.{block_digest, cell_of}
use Rattle.aea_envelope.specs.Facts.{CellsHaveLengths, CellsHaveParts}
use Rattle.aea_disk.specs.Files.{Files}
use Rattle.aea_shelf.specs.Intact.{IsRecorded, IsIntact}
use Rattle.aea_shelf.specs.Places.{cell_size, home_file, home_place, home_bytes}
use Rattle.aea_archive.specs.Blocks.{recorded_in}
use Rattle.aea_archive.specs.Laws.{SurvivorsAreRevealed}

-- it holds, or it does not
abbrev Decided : Type 0 → Type 0
Decided P = P ⊎ (P → ⊥)

-- whether two texts are the same
same_text : (xs ys : List ℕ) → Decided (xs ≡ ys)
same_text [] [] = inl refl
same_text [] (y ∷ ys) = inr (λ e. let h : 0 ≡ suc (length ys) = ap length e in omega arith)
same_text (x ∷ xs) [] = inr (λ e. let h : suc (length xs) ≡ 0 = ap length e in omega arith)
same_text (x ∷ xs) (y ∷ ys) = elim (cases_eq x y) [
  | inl first ↦ elim (same_text xs ys) [
    | inl rest ↦ inl (ap (λ z. z ∷ xs) first ∙ ap (λ zs. y ∷ zs) rest)
    | inr other ↦ inr (λ e. other (ap (drop 1) e))
  ]
  | inr other ↦ inr (λ e. other (ap (λ (l : List ℕ). get_or l 0 0) e))
]

-- what lies between the head and the digest of a cell
abbrev payload_of : List ℕ → List ℕ
payload_of bytes = take (length bytes - 48) (drop 16 bytes)

module _ (lengths : CellsHaveLengths) (parts : CellsHaveParts) where
  its_payload : (b : BlockId) (bytes payload : List ℕ) → bytes ≡ cell_of b payload → payload_of bytes ≡ payload
  its_payload b bytes payload cell =
      let whole = (lengths b payload).2 in
      let long : length (cell_of b payload) - 48 ≡ length payload = omega (arith, whole) in
      ap payload_of cell ∙ ap (λ k. take k (drop 16 (cell_of b payload))) long ∙ (parts b payload).1

  decide_recorded : (b : BlockId) (recorded bytes : List ℕ) → Decided (IsRecorded b recorded bytes)
  decide_recorded b recorded bytes = elim (same_text bytes (cell_of b (payload_of bytes))) [
    | inl cell ↦ elim (same_text (block_digest b (payload_of bytes)) recorded) [
      | inl digest ↦ inl (record { payload = payload_of bytes; cell = cell; digest = digest })
      | inr other ↦ inr (λ is. other (ap (block_digest b) (its_payload b bytes is.payload is.cell) ∙ is.digest))
    ]
    | inr other ↦ inr (λ is. other (is.cell ∙ sym (ap (cell_of b) (its_payload b bytes is.payload is.cell))))
  ]

  decide_intact : (shape : Shape) (b : BlockId) (recorded : List ℕ) (c : Files) → Decided (IsIntact shape b recorded c)
  decide_intact shape b recorded c = elim (cases_lt (length (c (home_file shape b))) (home_place shape b + cell_size shape)) [
    | inl past ↦ inr (λ is. let within = is.within in omega (arith, past, within))
    | inr within ↦ elim (decide_recorded b recorded (home_bytes shape b c)) [
      | inl here ↦ inl (record { within = within; here = here })
      | inr other ↦ inr (λ is. other is.here)
    ]
  ]

-- the answer as a truth value
abbrev answer : {P : Type 0} → Decided P → Bool
answer (inl holds) = true
answer (inr fails) = false

answer_reveals : {P : Type 0} (d : Decided P) → IsTrue (answer d) ↔ P
answer_reveals (inl holds) = (λ is. holds, λ p. refl)
answer_reveals (inr fails) = (λ is. absurd (false≢true is), λ p. absurd (fails p))

pub survivors_are_revealed : CellsHaveLengths → CellsHaveParts → SurvivorsAreRevealed
survivors_are_revealed lengths parts shape nodes digests c = (
  λ b. answer (decide_intact lengths parts shape b (recorded_in shape digests b) c),
  λ b inside. answer_reveals (decide_intact lengths parts shape b (recorded_in shape digests b) c),
)
