-- The equations around the unmarked blocks.
use Rattle.std.proofs.Common.{◌≡◌, ℕ, ◌<◌, ◌≤◌, Bool, true, false, not, List, [], ◌∷◌, map, length, get_or, inl, inr, ◌⊎◌, IsTrue, sym, ◌∙◌, ap, subst}
use Rattle.std.proofs.lemmas.Bool.{cases_Bool, cases_lt, false≢true}
use Rattle.std.specs.Prelude.{IsPermutation}
use Rattle.std.proofs.lemmas.List.{get_or-map, length-map}
use Rattle.std.proofs.lemmas.List.Sorted.{IsPermutation-sym, Contains-permutation}
use Rattle.aea_lattice.specs.declared.blocks.BlockId.{BlockId}
use Rattle.aea_lattice.specs.declared.blocks.EqId.{EqId}
use Rattle.aea_lattice.specs.declared.grid.Lattice.{Lattice}
use Rattle.aea_lattice.specs.Blocks.{HasBlock, number_of, blocks_count}
use Rattle.aea_lattice.specs.Closure.{is_among}
use Rattle.aea_lattice.specs.Equations.{HasEquation, is_in_equation, equation_blocks}
use Rattle.aea_lattice.proofs.Equations.{number_below, member_inside}
use Rattle.aea_lattice.proofs.Derivations.{among_cases, among-first, among-rest}
use Rattle.aea_view.specs.Marked.{Marked, IsWhole, AreClear}
use Rattle.aea_peel.specs.Queue.{is_marked, WaitsOrIsSpent, IsQueue}

-- a list of blocks has one that fails a test, or all of it pass
some_fails : (p : BlockId → Bool) (xs : List BlockId) → ((d : BlockId) × (is_among xs d ≡ true) × (p d ≡ false)) ⊎ ((d : BlockId) → is_among xs d ≡ true → p d ≡ true)
some_fails p [] = inr (λ d h. absurd (false≢true h))
some_fails p (x ∷ xs) =
    elim (cases_Bool (p x)) [
      | inl passes ↦ elim (some_fails p xs) [
        | inl found ↦ inl (found.0, among-rest x xs found.0 found.1, found.2)
        | inr all ↦ inr (λ d h. elim (among_cases x xs d h) [ inl same ↦ ap p same ∙ passes | inr rest ↦ all d rest ])
      ]
      | inr fails ↦ inl (x, among-first xs x, fails)
    ]

-- the equations of the unmarked blocks with lower numbers wait, or are spent
abbrev pub AreAround : Lattice → List Bool → ℕ → List EqId → Type 0
AreAround l marks from waiting =
    (b : BlockId) → HasBlock l b → number_of l b < from → is_marked l marks b ≡ false → (e : EqId) → HasEquation l e → IsTrue (is_in_equation l e b)
    → WaitsOrIsSpent l marks waiting e

-- turned marks have those that are not marked
pub record AreFlipped (l : Lattice) (m open' : Marked) : Type 0 where
  pub same : m.lattice ≡ l
  pub flipped : open'.lattice ≡ m.lattice
  pub marks : open'.marks ≡ map not m.marks
  pub whole : IsWhole open'

unmarked_open : (l : Lattice) (m open' : Marked) → AreFlipped l m open' → (b : BlockId) → HasBlock l b → is_marked l m.marks b ≡ false → get_or open'.marks (number_of l b) false ≡ true
unmarked_open l m open' are b has clear =
    let k = number_of l b in
    let long : length m.marks ≡ blocks_count l = sym (length-map m.marks not) ∙ ap length (sym are.marks) ∙ are.whole ∙ ap blocks_count (are.flipped ∙ are.same) in
    let below : k < length m.marks = subst (λ n. k < n) (sym long) (number_below l b has) in
    ap (λ xs. get_or xs k false) are.marks ∙ get_or-map not m.marks k false false below ∙ ap not clear

-- an unmarked block is not among those that are clear
pub not_clear : (l : Lattice) (m open' : Marked) (from end : ℕ) → AreFlipped l m open' → AreClear open' from end → (b : BlockId) → HasBlock l b → is_marked l m.marks b ≡ false
    → from ≤ number_of l b → number_of l b < end → ⊥
not_clear l m open' from end are clear b has open_still after below = false≢true (sym (clear (number_of l b) after below) ∙ unmarked_open l m open' are b has open_still)

-- where none is left, each equation waits or is spent
pub around_all : (l : Lattice) (m open' : Marked) (from : ℕ) (waiting : List EqId) → AreFlipped l m open' → AreClear open' from (blocks_count open'.lattice) → AreAround l m.marks from waiting
    → (e : EqId) → HasEquation l e → WaitsOrIsSpent l m.marks waiting e
around_all l m open' from waiting are clear around e has =
    elim (some_fails (is_marked l m.marks) (equation_blocks l e)) [
      | inl found ↦
          let inside : HasBlock l found.0 = member_inside l e found.0 has found.1 in
          elim (cases_lt (number_of l found.0) from) [
            | inl below ↦ around found.0 inside below found.2 e has found.1
            | inr past ↦
                absurd (not_clear l m open' from (blocks_count open'.lattice) are clear found.0 inside found.2 past
                (subst (λ (x : Lattice). number_of l found.0 < blocks_count x) (sym (are.flipped ∙ are.same)) (number_below l found.0 inside)))
          ]
      | inr all ↦ inr (λ b forced. all b forced.contains)
    ]

-- a queue in another order is one
pub IsQueue-flipped : (l : Lattice) (marks : List Bool) (waiting flipped : List EqId) → IsPermutation waiting flipped → IsQueue l marks waiting → IsQueue l marks flipped
IsQueue-flipped l marks waiting flipped same queue = record {
  inside = λ e contains. queue.inside e (Contains-permutation flipped waiting e (IsPermutation-sym waiting flipped same) contains);
  rest = λ e has. elim (queue.rest e has) [
    | inl waits ↦ inl (Contains-permutation waiting flipped e same waits)
    | inr spent ↦ inr spent
  ];
}
