-- Whether a text is that of a line can be decided: a lattice has finitely many lines.
use Rattle.std.proofs.Common.{◌≡◌, ℕ, suc, zero, ◌+◌, ◌<◌, ◌≤◌, inl, inr, List, [], ◌∷◌, length, arith}
use Rattle.std.proofs.lemmas.Bool.{cases_lt}
use Rattle.aea_lattice.specs.declared.blocks.Class.{Class}
use Rattle.aea_lattice.specs.declared.blocks.BlockId.{BlockId}
use Rattle.aea_lattice.specs.declared.grid.Lattice.{Lattice}
use Rattle.aea_lattice.specs.Blocks.{class_number, block_of, HasBlock, number_of}
use Rattle.aea_report.specs.declared.line.Line.{Line}
use Rattle.aea_report.specs.declared.line.Line.TheVariants.{Peeled, Solved, Lost}
use Rattle.aea_report.specs.Format.{line_text}
use Rattle.aea_report.specs.Grammar.{RiseFrom, IsLine}
use Rattle.aea_report.proofs.Decisions.{Decided, IsSearched, decide_both, decide_as, decide_le, same_text, search_below, search_classes}

none_rise : (l : Lattice) (i : ℕ) (P : List ℕ → Type 0) → (P [] → ⊥) → ((j : ℕ) × (j < suc l.n) × ((i < j) × ((nodes : List ℕ) × RiseFrom l j nodes × P (j ∷ nodes))) → ⊥)
    → (nodes : List ℕ) → RiseFrom l i nodes → P nodes → ⊥
none_rise l i P one two [] rise has = one has
none_rise l i P one two (j ∷ nodes) rise has = let most = rise.1 in two (j, omega arith, (rise.0, (nodes, rise.2, has)))

none_after : (l : Lattice) (i : ℕ) (P : List ℕ → Type 0) → l.n ≤ i → (P [] → ⊥) → (nodes : List ℕ) → RiseFrom l i nodes → P nodes → ⊥
none_after l i P end never [] rise has = never has
none_after l i P end never (j ∷ nodes) rise has = let below = rise.0 in let most = rise.1 in omega arith

-- the lists of rising nodes after node i, of which there are at most so many
search_nodes : (l : Lattice) (fuel i : ℕ) → l.n ≤ fuel + i → IsSearched (RiseFrom l i)
search_nodes l zero i most P each = elim (each []) [
  | inl here ↦ inl ([], tt, here)
  | inr never ↦ inr (λ found. none_after l i P (omega arith) never found.0 found.1 found.2)
]
search_nodes l (suc fuel) i most P each = elim (each []) [
  | inl here ↦ inl ([], tt, here)
  | inr one ↦
      let next : (j : ℕ) → Decided ((i < j) × ((nodes : List ℕ) × RiseFrom l j nodes × P (j ∷ nodes))) = λ j. elim (cases_lt i j) [
        | inl lt ↦ decide_both (inl lt) (search_nodes l fuel j (omega arith) (λ nodes. P (j ∷ nodes)) (λ nodes. each (j ∷ nodes)))
        | inr ge ↦ inr (λ has. let lt = has.0 in omega arith)
      ] in
      elim (search_below (suc l.n) (λ j. (i < j) × ((nodes : List ℕ) × RiseFrom l j nodes × P (j ∷ nodes))) next) [
        | inl found ↦ let below = found.1 in let rest = found.2.1 in inl (found.0 ∷ rest.0, (found.2.0, omega arith, rest.1), rest.2)
        | inr two ↦ inr (λ found. none_rise l i P one two found.0 found.1 found.2)
      ]
]

-- a block of the lattice from this number on
record IsFrom (l : Lattice) (least : ℕ) (b : BlockId) : Type 0 where
  pub block : HasBlock l b
  pub later : least ≤ number_of l b

decide_from : (l : Lattice) (least : ℕ) (b : BlockId) → Decided (IsFrom l least b)
decide_from l least b =
    decide_as (λ all. record { block = record { first = all.0.0; last = all.0.1.0; used = all.0.1.1 }; later = all.1 }) (λ from. ((from.block.first, (from.block.last, from.block.used)), from.later))
    (decide_both (decide_both (decide_le 1 b.node) (decide_both (decide_le b.node l.n) (decide_le (class_number b.class) l.alpha))) (decide_le least (number_of l b)))

search_blocks : (l : Lattice) (least : ℕ) → IsSearched (IsFrom l least)
search_blocks l least P each =
    decide_as {P = (i : ℕ) × (i < suc l.n) × ((c : Class) × (IsFrom l least (block_of i c) × P (block_of i c)))}
    (λ found. (block_of found.0 found.2.0, found.2.1.0, found.2.1.1))
    (λ found. let b = found.0 in let last = found.1.block.last in (b.node, omega arith, (b.class, (found.1, found.2))))
    (search_below (suc l.n) (λ i. (c : Class) × (IsFrom l least (block_of i c) × P (block_of i c)))
    (λ i. search_classes (λ c. IsFrom l least (block_of i c) × P (block_of i c)) (λ c. decide_both (decide_from l least (block_of i c)) (each (block_of i c)))))

-- a line from this number on that has this text
abbrev pub HasLine : Lattice → ℕ → List ℕ → Type 0
HasLine l least text = (line : Line) × IsLine l least line × (text ≡ line_text line)

-- a block of that text, of each kind
abbrev IsPeeledLine : List ℕ → BlockId → Type 0
IsPeeledLine text b = text ≡ line_text (Peeled b)

abbrev IsSolvedLine : List ℕ → BlockId → Type 0
IsSolvedLine text b = text ≡ line_text (Solved b)

abbrev IsLostLine : Lattice → List ℕ → BlockId → Type 0
IsLostLine l text b = (nodes : List ℕ) × RiseFrom l 0 nodes × ((0 < length nodes) × (text ≡ line_text (Lost b nodes)))

decide_lost : (l : Lattice) (text : List ℕ) (b : BlockId) → Decided (IsLostLine l text b)
decide_lost l text b =
    search_nodes l l.n 0 (omega arith) (λ nodes. (0 < length nodes) × (text ≡ line_text (Lost b nodes)))
    (λ nodes. decide_both (decide_le 1 (length nodes)) (same_text text (line_text (Lost b nodes))))

none_line : (l : Lattice) (least : ℕ) (text : List ℕ)
    → ((b : BlockId) × IsFrom l least b × IsPeeledLine text b → ⊥)
    → ((b : BlockId) × IsFrom l least b × IsSolvedLine text b → ⊥)
    → ((b : BlockId) × IsFrom l least b × IsLostLine l text b → ⊥)
    → (line : Line) → IsLine l least line → text ≡ line_text line → ⊥
none_line l least text one two three (Peeled b) valid e = one (b, record { block = valid.block; later = valid.later }, e)
none_line l least text one two three (Solved b) valid e = two (b, record { block = valid.block; later = valid.later }, e)
none_line l least text one two three (Lost b nodes) valid e = three (b, record { block = valid.block; later = valid.later }, (nodes, valid.nodes.1, (valid.nodes.0, e)))

-- whether the text is that of a line
pub decide_line : (l : Lattice) (least : ℕ) (text : List ℕ) → Decided (HasLine l least text)
decide_line l least text = elim (search_blocks l least (IsPeeledLine text) (λ b. same_text text (line_text (Peeled b)))) [
  | inl found ↦ inl (Peeled found.0, record { block = found.1.block; later = found.1.later; nodes = tt }, found.2)
  | inr one ↦ elim (search_blocks l least (IsSolvedLine text) (λ b. same_text text (line_text (Solved b)))) [
    | inl found ↦ inl (Solved found.0, record { block = found.1.block; later = found.1.later; nodes = tt }, found.2)
    | inr two ↦ elim (search_blocks l least (IsLostLine l text) (decide_lost l text)) [
      | inl found ↦
          inl (Lost found.0 found.2.0, record { block = found.1.block; later = found.1.later; nodes = (found.2.2.0, found.2.1) }, found.2.2.1)
      | inr three ↦ inr (λ found. none_line l least text one two three found.0 found.1 found.2)
    ]
  ]
]
