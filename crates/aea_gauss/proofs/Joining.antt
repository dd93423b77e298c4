-- Labels that are the same along parents, and what is joined by them.
use Rattle.std.proofs.Common.{◌≡◌, ◌≢◌, ℕ, ◌+◌, ◌<◌, inl, inr, true, false, List, [], ◌∷◌, ◌++◌, length, get_or, Option, Some, None, MatchOption, refl, sym, ◌∙◌, ap, subst, arith}
use Rattle.std.specs.Prelude.{option_to_list}
use Rattle.std.specs.Option.{ForSome}
use Rattle.std.specs.List.{list_any}
use Rattle.std.proofs.Math.ListN.{set}
use Rattle.std.proofs.lemmas.List.{get_or-set_same, get_or-set_other, length-set, get_or_append_left, get_or_push}
use Rattle.std.proofs.lemmas.Bool.{cases_eq, cases_lt, or_cases, or_left, false≢true, false_from_ne_true}
use Rattle.aea_lattice.specs.declared.blocks.BlockId.{BlockId}
use Rattle.aea_lattice.specs.declared.blocks.EqId.{EqId}
use Rattle.aea_lattice.specs.declared.blocks.Equation.{Equation}
use Rattle.aea_lattice.specs.declared.grid.Lattice.{Lattice}
use Rattle.aea_lattice.specs.Blocks.{same_block}
use Rattle.aea_lattice.specs.Equations.{equation_blocks, blocks_in, is_in_equation}
use Rattle.aea_lattice.proofs.Equations.{same_block-equal, same_block-refl}
use Rattle.aea_readings.specs.Small.{block_in, AreListed}
use Rattle.aea_gauss.specs.Parts.{IsRoot, Follows, JoinsBlocks, JoinsEquation}
use Rattle.aea_gauss.proofs.Turning.{once}

-- an end of chains gets a parent
pub linked : (parents : List ℕ) (child root : ℕ) (label : ℕ → ℕ) → IsRoot parents child → Follows label (set parents child root)
    → Follows label parents × (label child ≡ label root)
linked parents child root label is follows =
    let long = length-set parents child root in
    let own = is.own in
    let inside = is.inside in
    let here : label child ≡ label root = follows child (omega arith) ∙ ap label (get_or-set_same parents child root 0 inside) in (
      λ k less. elim (cases_eq k child) [
        | inl same ↦ (let back : k ≡ get_or parents k 0 = same ∙ sym own ∙ ap (λ j. get_or parents j 0) (sym same) in ap label back)
        | inr other ↦ follows k (omega arith) ∙ ap label (get_or-set_other parents child k root 0 (λ e. other (omega arith)))
      ],
      here,
    )

-- a block that is in an equation is its input, its datum or its output
pub data Among (q : Option BlockId) (d o b : BlockId) : Type 0 where
  is_input : (g : BlockId) → q ≡ Some g → b ≡ g → Among q d o b
  is_datum : b ≡ d → Among q d o b
  is_output : b ≡ o → Among q d o b

ends : (q : Option BlockId) (d o b : BlockId) → list_any (same_block b) (d ∷ o ∷ []) ≡ true → Among q d o b
ends q d o b h = elim (or_cases (same_block b d) (list_any (same_block b) (o ∷ [])) h) [
  | inl here ↦ is_datum (same_block-equal b d here)
  | inr there ↦ elim (or_cases (same_block b o) false there) [
    | inl here ↦ is_output (same_block-equal b o here)
    | inr no' ↦ absurd (false≢true no')
  ]
]

pub among : (q : Option BlockId) (d o b : BlockId) → list_any (same_block b) (option_to_list q ++ d ∷ o ∷ []) ≡ true → Among q d o b
among None d o b h = ends None d o b h
among (Some g) d o b h = elim (or_cases (same_block b g) (list_any (same_block b) (d ∷ o ∷ [])) h) [
  | inl here ↦ is_input g refl (same_block-equal b g here)
  | inr there ↦ ends (Some g) d o b there
]

pub among_of : (l : Lattice) (e : EqId) (q : Equation) (b : BlockId) → blocks_in q ≡ equation_blocks l e → is_in_equation l e b ≡ true → Among q.input q.datum q.output b
among_of l e q b is h = among q.input q.datum q.output b (ap (list_any (same_block b)) is ∙ h)

one_some : (q : Option BlockId) (g h : BlockId) → q ≡ Some g → q ≡ Some h → g ≡ h
one_some None g h a b = absurd (cc)
one_some (Some x) g h a b = cc

-- where each two blocks of an equation are joined, it is
pub joined : (l : Lattice) (blocks : List BlockId) → AreListed l blocks → (label : ℕ → ℕ) (e : EqId) (q : Equation) → blocks_in q ≡ equation_blocks l e
    → ForSome q.input (λ g. JoinsBlocks blocks g q.datum label) → ForSome q.input (λ g. JoinsBlocks blocks g q.output label)
    → JoinsBlocks blocks q.datum q.output label → JoinsEquation l blocks e label
joined l blocks listed label e q is to_datum to_output two a b a_less b_less a_in b_in =
    elim (among_of l e q (block_in blocks a) is a_in) [
      | is_input g qg ea ↦ elim (among_of l e q (block_in blocks b) is b_in) [
        | is_input h qh eb ↦ ap label (once l blocks listed a b a_less b_less (ea ∙ one_some q.input g h qg qh ∙ sym eb))
        | is_datum eb ↦ to_datum g qg a b a_less b_less ea eb
        | is_output eb ↦ to_output g qg a b a_less b_less ea eb
      ]
      | is_datum ea ↦ elim (among_of l e q (block_in blocks b) is b_in) [
        | is_input h qh eb ↦ sym (to_datum h qh b a b_less a_less eb ea)
        | is_datum eb ↦ ap label (once l blocks listed a b a_less b_less (ea ∙ sym eb))
        | is_output eb ↦ two a b a_less b_less ea eb
      ]
      | is_output ea ↦ elim (among_of l e q (block_in blocks b) is b_in) [
        | is_input h qh eb ↦ sym (to_output h qh b a b_less a_less eb ea)
        | is_datum eb ↦ sym (two b a b_less a_less eb ea)
        | is_output eb ↦ ap label (once l blocks listed a b a_less b_less (ea ∙ sym eb))
      ]
    ]

-- two places that hold the blocks are joined
pub blocks_joined : (l : Lattice) (blocks : List BlockId) → AreListed l blocks → (label : ℕ → ℕ) (first second : BlockId) (a b : ℕ) → a < length blocks → b < length blocks
    → block_in blocks a ≡ first → block_in blocks b ≡ second → label a ≡ label b → JoinsBlocks blocks first second label
blocks_joined l blocks listed label first second a b a_less b_less ea eb same i j i_less j_less ei ej =
    ap label (once l blocks listed i a i_less a_less (ei ∙ sym ea)) ∙ same ∙ ap label (once l blocks listed b j b_less j_less (eb ∙ sym ej))

-- no block of an equation is in the list, where neither its input nor its datum nor its output is
pub none_in : (l : Lattice) (blocks : List BlockId) (e : EqId) (q : Equation) → blocks_in q ≡ equation_blocks l e
    → ForSome q.input (λ g. (a : ℕ) → a < length blocks → block_in blocks a ≢ g) → ((a : ℕ) → a < length blocks → block_in blocks a ≢ q.datum)
    → ((a : ℕ) → a < length blocks → block_in blocks a ≢ q.output) → (a : ℕ) → a < length blocks → is_in_equation l e (block_in blocks a) ≡ true → ⊥
none_in l blocks e q is no_input no_datum no_output a less h =
    elim (among_of l e q (block_in blocks a) is h) [
      | is_input g qg ea ↦ no_input g qg a less ea
      | is_datum ea ↦ no_datum a less ea
      | is_output ea ↦ no_output a less ea
    ]

input_stands : (l : Lattice) (e : EqId) (q : Equation) (g : BlockId) (p : Option BlockId) → option_to_list p ++ q.datum ∷ q.output ∷ [] ≡ equation_blocks l e → p ≡ Some g
    → is_in_equation l e g ≡ true
input_stands l e q g None is some = absurd (cc)
input_stands l e q g (Some x) is some =
    let same : x ≡ g = cc in
    ap (list_any (same_block g)) (sym is)
    ∙ or_left (same_block g x) (list_any (same_block g) (q.datum ∷ q.output ∷ [])) (ap (same_block g) same ∙ same_block-refl g)

-- where an optional block is g, what holds of g holds of whatever block it is
pub some_from : (q : Option BlockId) (P : BlockId → Type 0) (g : BlockId) → q ≡ Some g → P g → ForSome q P
some_from q P g is h x at = subst P (one_some q g x is at) h

-- what the place of the input shows of the equation, where the other two are nowhere in the list
pub found_in : (l : Lattice) (blocks : List BlockId) (e : EqId) (q : Equation) (o : Option ℕ) (g : BlockId) → blocks_in q ≡ equation_blocks l e → q.input ≡ Some g
    → MatchOption o ((a : ℕ) → a < length blocks → block_in blocks a ≢ g) (λ a. (a < length blocks) × (block_in blocks a ≡ g))
    → ((a : ℕ) → a < length blocks → block_in blocks a ≢ q.datum) → ((a : ℕ) → a < length blocks → block_in blocks a ≢ q.output)
    → MatchOption o ((a : ℕ) → a < length blocks → is_in_equation l e (block_in blocks a) ≡ false)
    (λ a. (a < length blocks) × (is_in_equation l e (block_in blocks a) ≡ true))
found_in l blocks e q None g is some h no_datum no_output = λ a less.
    false_from_ne_true (is_in_equation l e (block_in blocks a))
    (none_in l blocks e q is (some_from q.input (λ x. (a : ℕ) → a < length blocks → block_in blocks a ≢ x) g some h) no_datum no_output a less)
found_in l blocks e q (Some a) g is some h no_datum no_output = (h.0, ap (is_in_equation l e) h.1 ∙ input_stands l e q g q.input is some)

-- what holds of each item of a list and of one more
pub each_push : (P : ℕ → ℕ → Type 0) (xs : List ℕ) (x n : ℕ) → length xs ≡ n → ((i : ℕ) → i < n → P i (get_or xs i 0)) → P n x
    → (i : ℕ) → i < n + 1 → P i (get_or (xs ++ x ∷ []) i 0)
each_push P xs x n long each last i less = elim (cases_lt i n) [
  | inl before ↦ subst (P i) (sym (get_or_append_left xs (x ∷ []) 0 i (omega arith))) (each i before)
  | inr after ↦
      (let same : n ≡ i = omega arith in
      subst (P i) (sym (get_or_push xs x 0 i (omega arith))) (subst (λ j. P j x) same last))
]

-- what holds of each number below n and of n
pub each_more : (P : ℕ → Type 0) (n : ℕ) → ((i : ℕ) → i < n → P i) → P n → (i : ℕ) → i < n + 1 → P i
each_more P n each last i less = elim (cases_lt i n) [
  | inl before ↦ each i before
  | inr after ↦ (let same : n ≡ i = omega arith in subst P same last)
]
