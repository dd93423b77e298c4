-- What equations add up to meets every codeword evenly.
use Rattle.std.proofs.Common.{◌≡◌, ◌≢◌, ℕ, Bool, true, false, ◌&&◌, ◌||◌, List, [], ◌∷◌, ◌++◌, Option, Some, None, refl, sym, ◌∙◌, ap, subst, inl, inr}
use Rattle.std.specs.List.{list_any}
use Rattle.std.proofs.lemmas.Bool.{cases_Bool}
use Rattle.aea_lattice.specs.declared.blocks.Class.TheVariants.{Datum}
use Rattle.aea_lattice.specs.declared.blocks.BlockId.{BlockId}
use Rattle.aea_lattice.specs.declared.blocks.EqId.{EqId}
use Rattle.aea_lattice.specs.declared.grid.Lattice.{Lattice}
use Rattle.aea_lattice.specs.Blocks.{block_of, same_block, HasBlock, blocks_of}
use Rattle.aea_lattice.specs.Strands.{previous}
use Rattle.aea_lattice.specs.Equations.{HasEquation, input_blocks, equation_blocks, is_in_equation, is_odd_count, equations_of, adds_up_to}
use Rattle.aea_lattice.specs.Facts.{MeetsEvenly}
use Rattle.aea_lattice.specs.Parity.{differ}
use Rattle.aea_lattice.proofs.Equations.{same_block-equal, same_block-refl, member_inside, datum_in, output_in, input_in, datum_parity, input_output}
use Rattle.aea_lattice.proofs.Odd.{same_test, odd-cons, odd-differ, odd-none, differ-and, differ-false_r, Each}
use Rattle.aea_lattice.proofs.Once.{odd-at, each-equations_of, odd-at_equation}
use Rattle.aea_lattice.specs.Lists.{same_equation}

same_block-sym : (a b : BlockId) → same_block a b ≡ same_block b a
same_block-sym a b =
    elim (cases_Bool (same_block a b)) [
      | inl yes' ↦ yes' ∙ sym (subst (λ x. same_block x a ≡ true) (same_block-equal a b yes') (same_block-refl a))
      | inr no' ↦ elim (cases_Bool (same_block b a)) [
        | inl yes' ↦ subst (λ x. same_block a x ≡ same_block x a) (sym (same_block-equal b a yes')) refl
        | inr neither ↦ no' ∙ sym neither
      ]
    ]

-- of two that are not both true, one is true exactly where they differ
pub any-odd2 : (a b : Bool) → (a ≡ true → b ≡ true → ⊥) → (a || (b || false)) ≡ differ a b
any-odd2 true true h = absurd (h refl refl)
any-odd2 true false h = refl
any-odd2 false true h = refl
any-odd2 false false h = refl

-- of three of which no two are true, one is true exactly where an odd number of them are
pub any-odd3 : (a b c : Bool) → (a ≡ true → b ≡ true → ⊥) → (a ≡ true → c ≡ true → ⊥) → (b ≡ true → c ≡ true → ⊥) → (a || (b || (c || false))) ≡ differ a (differ b c)
any-odd3 true true c ab ac bc = absurd (ab refl refl)
any-odd3 true false true ab ac bc = absurd (ac refl refl)
any-odd3 true false false ab ac bc = refl
any-odd3 false true true ab ac bc = absurd (bc refl refl)
any-odd3 false true false ab ac bc = refl
any-odd3 false false true ab ac bc = refl
any-odd3 false false false ab ac bc = refl

abbrev blocks_with : Option ℕ → EqId → List BlockId
blocks_with g e = input_blocks g e.class ++ block_of e.node Datum ∷ block_of e.node e.class ∷ []

-- a block is the same as no two blocks that differ
pub not_both : (d a b : BlockId) → a ≢ b → same_block d a ≡ true → same_block d b ≡ true → ⊥
not_both d a b other ha hb = other (sym (same_block-equal d a ha) ∙ same_block-equal d b hb)

-- an odd number of the blocks of the lattice are its block c and pass a test exactly where c passes it;
-- here c is the second of the two blocks compared
pub odd-at_left : (l : Lattice) (c : BlockId) (x : BlockId → Bool) → HasBlock l c → is_odd_count (λ d. same_block d c && x d) (blocks_of l) ≡ x c
odd-at_left l c x h =
    ap (λ p. is_odd_count p (blocks_of l)) (same_test (λ d. same_block d c && x d) (λ d. same_block c d && x d) (λ d. ap (λ b. b && x d) (same_block-sym d c)))
    ∙ odd-at l c x h

odd-at_two : (l : Lattice) (a b : BlockId) (x : BlockId → Bool) → HasBlock l a → HasBlock l b
    → is_odd_count (λ d. differ (same_block d a) (same_block d b) && x d) (blocks_of l) ≡ differ (x a) (x b)
odd-at_two l a b x ha hb =
    ap (λ p. is_odd_count p (blocks_of l)) (same_test (λ d. differ (same_block d a) (same_block d b) && x d) (λ d. differ (same_block d a && x d) (same_block d b && x d)) (λ d. differ-and (same_block d a) (same_block d b) (x d)))
    ∙ odd-differ (λ d. same_block d a && x d) (λ d. same_block d b && x d) (blocks_of l)
    ∙ ap (λ y. differ y (is_odd_count (λ d. same_block d b && x d) (blocks_of l))) (odd-at_left l a x ha)
    ∙ ap (differ (x a)) (odd-at_left l b x hb)

odd-at_three : (l : Lattice) (a b c : BlockId) (x : BlockId → Bool) → HasBlock l a → HasBlock l b → HasBlock l c
    → is_odd_count (λ d. differ (same_block d a) (differ (same_block d b) (same_block d c)) && x d) (blocks_of l) ≡ differ (x a) (differ (x b) (x c))
odd-at_three l a b c x ha hb hc =
    ap (λ p. is_odd_count p (blocks_of l)) (same_test (λ d. differ (same_block d a) (differ (same_block d b) (same_block d c)) && x d) (λ d. differ (same_block d a && x d) (differ (same_block d b) (same_block d c) && x d)) (λ d. differ-and (same_block d a) (differ (same_block d b) (same_block d c)) (x d)))
    ∙ odd-differ (λ d. same_block d a && x d) (λ d. differ (same_block d b) (same_block d c) && x d) (blocks_of l)
    ∙ ap (λ y. differ y (is_odd_count (λ d. differ (same_block d b) (same_block d c) && x d) (blocks_of l))) (odd-at_left l a x ha)
    ∙ ap (differ (x a)) (odd-at_two l b c x hb hc)

odd-two : (x : BlockId → Bool) (a b : BlockId) → is_odd_count x (a ∷ b ∷ []) ≡ differ (x a) (x b)
odd-two x a b = odd-cons x a (b ∷ []) ∙ ap (differ (x a)) (odd-cons x b [] ∙ differ-false_r (x b))

odd-three : (x : BlockId → Bool) (a b c : BlockId) → is_odd_count x (a ∷ b ∷ c ∷ []) ≡ differ (x a) (differ (x b) (x c))
odd-three x a b c = odd-cons x a (b ∷ c ∷ []) ∙ ap (differ (x a)) (odd-two x b c)

meet_at : (l : Lattice) (e : EqId) (x : BlockId → Bool) → HasEquation l e → (p : Option ℕ) → previous l e.class e.node ≡ p
    → is_odd_count (λ d. list_any (same_block d) (blocks_with p e) && x d) (blocks_of l) ≡ is_odd_count x (blocks_with p e)
meet_at l e x has None was =
    let a = block_of e.node Datum in
    let b = block_of e.node e.class in
    ap (λ p. is_odd_count p (blocks_of l))
    (same_test (λ d. list_any (same_block d) (blocks_with None e) && x d) (λ d. differ (same_block d a) (same_block d b) && x d)
    (λ d. ap (λ y. y && x d) (any-odd2 (same_block d a) (same_block d b) (not_both d a b (datum_parity l e e.node e.node has)))))
    ∙ odd-at_two l a b x (member_inside l e a has (datum_in l e)) (member_inside l e b has (output_in l e))
    ∙ sym (odd-two x a b)
meet_at l e x has (Some g) was =
    let i = block_of g e.class in
    let a = block_of e.node Datum in
    let b = block_of e.node e.class in
    ap (λ p. is_odd_count p (blocks_of l))
    (same_test (λ d. list_any (same_block d) (blocks_with (Some g) e) && x d) (λ d. differ (same_block d i) (differ (same_block d a) (same_block d b)) && x d)
    (λ d. ap (λ y. y && x d)
    (any-odd3 (same_block d i) (same_block d a) (same_block d b)
    (not_both d i a (λ same. datum_parity l e e.node g has (sym same)))
    (not_both d i b (input_output l e g was))
    (not_both d a b (datum_parity l e e.node e.node has)))))
    ∙ odd-at_three l i a b x (member_inside l e i has (input_in l e g was)) (member_inside l e a has (datum_in l e)) (member_inside l e b has (output_in l e))
    ∙ sym (odd-three x i a b)

-- how a set meets an equation, counted over the blocks of the lattice
pub meet_equation : (l : Lattice) (e : EqId) (x : BlockId → Bool) → HasEquation l e
    → is_odd_count (λ d. is_in_equation l e d && x d) (blocks_of l) ≡ is_odd_count x (equation_blocks l e)
meet_equation l e x has = meet_at l e x has (previous l e.class e.node) refl

and-assoc : (a b c : Bool) → ((a && b) && c) ≡ (a && (b && c))
and-assoc true b c = refl
and-assoc false b c = refl

odd-guard : (l : Lattice) (t : Bool) (e : EqId) (x : BlockId → Bool) → HasEquation l e → is_odd_count x (equation_blocks l e) ≡ false
    → is_odd_count (λ d. (t && is_in_equation l e d) && x d) (blocks_of l) ≡ false
odd-guard l true e x has even = meet_equation l e x has ∙ even
odd-guard l false e x has even = odd-none (blocks_of l)

sums_even_of : (l : Lattice) (t : EqId → Bool) (x : BlockId → Bool) → MeetsEvenly l x → (es : List EqId) → Each (HasEquation l) es
    → is_odd_count (λ d. is_odd_count (λ e. t e && is_in_equation l e d) es && x d) (blocks_of l) ≡ false
sums_even_of l t x even [] each = odd-none (blocks_of l)
sums_even_of l t x even (e ∷ es) each =
    ap (λ p. is_odd_count p (blocks_of l))
    (same_test (λ d. is_odd_count (λ f. t f && is_in_equation l f d) (e ∷ es) && x d)
    (λ d. differ ((t e && is_in_equation l e d) && x d) (is_odd_count (λ f. t f && is_in_equation l f d) es && x d))
    (λ d. ap (λ y. y && x d) (odd-cons (λ f. t f && is_in_equation l f d) e es)
    ∙ differ-and (t e && is_in_equation l e d) (is_odd_count (λ f. t f && is_in_equation l f d) es) (x d)))
    ∙ odd-differ (λ d. (t e && is_in_equation l e d) && x d) (λ d. is_odd_count (λ f. t f && is_in_equation l f d) es && x d) (blocks_of l)
    ∙ ap (λ y. differ y (is_odd_count (λ d. is_odd_count (λ f. t f && is_in_equation l f d) es && x d) (blocks_of l))) (odd-guard l (t e) e x each.0 (even e each.0))
    ∙ sums_even_of l t x even es each.1

-- What a set of equations adds up to has an even number of blocks in common with every set that each equation meets evenly.
pub sums_even : (l : Lattice) (t : EqId → Bool) (x : BlockId → Bool) → MeetsEvenly l x
    → is_odd_count (λ d. adds_up_to l t d && x d) (blocks_of l) ≡ false
sums_even l t x even = sums_even_of l t x even (equations_of l) (each-equations_of l)

-- what the sum of two sets of equations adds up to
pub adds-differ : (l : Lattice) (s t : EqId → Bool) (d : BlockId) → adds_up_to l (λ e. differ (s e) (t e)) d ≡ differ (adds_up_to l s d) (adds_up_to l t d)
adds-differ l s t d =
    ap (λ p. is_odd_count p (equations_of l))
    (same_test (λ e. differ (s e) (t e) && is_in_equation l e d) (λ e. differ (s e && is_in_equation l e d) (t e && is_in_equation l e d)) (λ e. differ-and (s e) (t e) (is_in_equation l e d)))
    ∙ odd-differ (λ e. s e && is_in_equation l e d) (λ e. t e && is_in_equation l e d) (equations_of l)

-- no equations add up to nothing
pub adds-none : (l : Lattice) (d : BlockId) → adds_up_to l (λ e. false) d ≡ false
adds-none l d = odd-none (equations_of l)

-- one equation adds up to its blocks
pub adds-one : (l : Lattice) (e : EqId) (d : BlockId) → HasEquation l e → adds_up_to l (same_equation e) d ≡ is_in_equation l e d
adds-one l e d has = odd-at_equation l e (λ f. is_in_equation l f d) has
