-- Marks that are set one block after another.
use Rattle.std.proofs.Common.{◌≡◌, ℕ, ◌+◌, ◌<◌, ◌≤◌, inl, inr, Bool, false, List, length, get_or, set, sym, ◌∙◌, ap, arith, get_or-set_other, get_or-set_same}
use Rattle.std.proofs.lemmas.Bool.{cases_lt}
use Rattle.aea_lattice.specs.declared.blocks.BlockId.{BlockId}
use Rattle.aea_lattice.specs.declared.grid.Lattice.{Lattice}
use Rattle.aea_lattice.specs.Blocks.{HasBlock, number_of}
use Rattle.aea_lattice.proofs.Equations.{number_equal}
use Rattle.aea_view.specs.Marked.{Marked, is_marked}

-- these marks in this lattice
abbrev pub marks_in : Lattice → List Bool → Marked
marks_in l marks = record { lattice = l; marks = marks }

-- marks of a lattice are those of their list in it
pub marks-of : (m : Marked) (l : Lattice) → m.lattice ≡ l → m ≡ marks_in l m.marks
marks-of m l same = ap (λ (x : Lattice). marks_in x m.marks) same

-- the block of this number has got its mark, as those before it have
pub marks-set : (l : Lattice) (known : BlockId → Bool) (marks : List Bool) (new : BlockId) (k : ℕ) (r : Bool)
    → k < length marks → HasBlock l new → number_of l new ≡ k → r ≡ known new
    → ((b : BlockId) → HasBlock l b → number_of l b < k → is_marked (marks_in l marks) b ≡ known b)
    → (b : BlockId) → HasBlock l b → number_of l b < k + 1 → is_marked (marks_in l (set marks k r)) b ≡ known b
marks-set l known marks new k r within inside at same before b hb below =
    elim (cases_lt (number_of l b) k) [
      | inl lt ↦ get_or-set_other marks k (number_of l b) r false (λ e. let not_lt : k ≤ number_of l b = omega arith in absurd (omega arith)) ∙ before b hb lt
      | inr ge ↦
          let number : number_of l b ≡ k = omega arith in
          let here : b ≡ new = number_equal l b new hb inside (number ∙ sym at) in
          ap (λ n. get_or (set marks k r) n false) number ∙ get_or-set_same marks k r false within ∙ same ∙ ap known (sym here)
    ]
