-- The lines of blocks, by their first words.
use Rattle.std.proofs.Common.{◌≡◌, ◌≢◌, ℕ, ◌≤◌, List, ◌∷◌, ◌++◌, get_or, drop, codes, arith, refl, sym, ◌∙◌, ap}
use Rattle.aea_lattice.specs.declared.blocks.BlockId.{BlockId}
use Rattle.aea_lattice.specs.declared.grid.Lattice.{Lattice}
use Rattle.aea_lattice.specs.Blocks.{HasBlock, number_of}
use Rattle.aea_lattice.specs.Texts.{text_of}
use Rattle.aea_report.specs.declared.line.Line.{Line}
use Rattle.aea_report.specs.declared.line.Line.TheVariants.{Peeled, Solved, Lost}
use Rattle.aea_report.specs.Format.{numbers_text, line_text}
use Rattle.aea_report.specs.Grammar.{IsLine}
use Rattle.aea_reader.specs.Words.{IsFree, Starts}
use Rattle.aea_reader.proofs.Cuts.{first_same, node-number, block-free}

-- a block of the lattice whose number is this one or a greater one has not this text
abbrev pub NoBlock : Lattice → ℕ → List ℕ → Type 0
NoBlock l least text = (b : BlockId) → HasBlock l b → least ≤ number_of l b → text ≡ text_of b → ⊥

-- no line by which a block is lost has this text after its first word
abbrev pub NoLost : Lattice → ℕ → List ℕ → Type 0
NoLost l least text = (b : BlockId) (nodes : List ℕ) → IsLine l least (Lost b nodes) → text ≡ text_of b ++ (codes " by" ++ numbers_text nodes) → ⊥

-- no line has this text
abbrev pub NoLine : Lattice → ℕ → List ℕ → Type 0
NoLine l least text = (line : Line) → IsLine l least line → text ≡ line_text line → ⊥

other_word : (x y : ℕ) (xs ys : List ℕ) → x ≢ y → x ∷ xs ≡ y ∷ ys → ⊥
other_word x y xs ys other e = other (ap (λ zs. get_or zs 0 0) e)

-- the first word is that of a peeled block
pub no_peeled : (l : Lattice) (least : ℕ) (text rest : List ℕ) → text ≡ codes "peeled " ++ rest → NoBlock l least rest → NoLine l least text
no_peeled l least text rest is none (Peeled b) valid e = none b valid.block valid.later (ap (drop 7) (sym is ∙ e))
no_peeled l least text rest is none (Solved b) valid e = other_word _ _ _ _ (λ h. omega arith) (sym is ∙ e)
no_peeled l least text rest is none (Lost b nodes) valid e = other_word _ _ _ _ (λ h. omega arith) (sym is ∙ e)

-- of a solved one
pub no_solved : (l : Lattice) (least : ℕ) (text rest : List ℕ) → text ≡ codes "solved " ++ rest → NoBlock l least rest → NoLine l least text
no_solved l least text rest is none (Peeled b) valid e = other_word _ _ _ _ (λ h. omega arith) (sym is ∙ e)
no_solved l least text rest is none (Solved b) valid e = none b valid.block valid.later (ap (drop 7) (sym is ∙ e))
no_solved l least text rest is none (Lost b nodes) valid e = other_word _ _ _ _ (λ h. omega arith) (sym is ∙ e)

-- of a lost one
pub no_lost : (l : Lattice) (least : ℕ) (text rest : List ℕ) → text ≡ codes "lost " ++ rest → NoLost l least rest → NoLine l least text
no_lost l least text rest is none (Peeled b) valid e = other_word _ _ _ _ (λ h. omega arith) (sym is ∙ e)
no_lost l least text rest is none (Solved b) valid e = other_word _ _ _ _ (λ h. omega arith) (sym is ∙ e)
no_lost l least text rest is none (Lost b nodes) valid e = none b nodes valid (ap (drop 5) (sym is ∙ e))

-- or no such word
pub no_word : (l : Lattice) (least : ℕ) (text : List ℕ) → ((rest : List ℕ) → text ≡ codes "peeled " ++ rest → ⊥) → ((rest : List ℕ) → text ≡ codes "solved " ++ rest → ⊥)
    → ((rest : List ℕ) → text ≡ codes "lost " ++ rest → ⊥) → NoLine l least text
no_word l least text one two three (Peeled b) valid e = one (text_of b) e
no_word l least text one two three (Solved b) valid e = two (text_of b) e
no_word l least text one two three (Lost b nodes) valid e = three (text_of b ++ (codes " by" ++ numbers_text nodes)) e

-- what is cut off the line of a lost block is the block
pub lost_parts : (l : Lattice) (least : ℕ) (text word rest : List ℕ) (b : BlockId) (nodes : List ℕ) → text ≡ word ++ rest → IsFree 32 word → Starts 32 rest → IsLine l least (Lost b nodes)
    → text ≡ text_of b ++ (codes " by" ++ numbers_text nodes) → (word ≡ text_of b) × (rest ≡ codes " by" ++ numbers_text nodes)
lost_parts l least text word rest b nodes spelled free starts valid e =
    let node = node-number l b valid.block in
    first_same 32 word (text_of b) rest (codes " by" ++ numbers_text nodes) free (block-free 32 b (omega arith) (omega arith)) starts refl (sym spelled ∙ e)

-- the line of a lost block, put together
pub lost_spelled : (text word rest list : List ℕ) (b : BlockId) (nodes : List ℕ) → text ≡ word ++ rest → word ≡ text_of b → rest ≡ codes " by" ++ list → list ≡ numbers_text nodes
    → codes "lost " ++ text ≡ line_text (Lost b nodes)
lost_spelled text word rest list b nodes one two three four =
    ap (λ xs. codes "lost " ++ xs) (one ∙ ap (λ xs. xs ++ rest) two ∙ ap (λ xs. text_of b ++ xs) (three ∙ ap (λ xs. codes " by" ++ xs) four))
