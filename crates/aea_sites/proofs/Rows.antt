-- The blocks of a site, row by row.
use Rattle.std.proofs.Common.{◌≡◌, ◌≢◌, ℕ, zero, suc, replicate, get_or, ◌+◌, ◌<◌, ◌≤◌, ◌/◌, Bool, true, false, ◌&&◌, ◌||◌, ◌==◌, nat_lt, ◌⊎◌, inl, inr, refl, sym, ◌∙◌, ap, subst, arith}
use Rattle.std.proofs.Math.Nat.{div-mul-le_self}
use Rattle.std.proofs.lemmas.Nat.{le-div}
use Rattle.std.proofs.lemmas.Bool.{cases_Bool, false≢true, false_from_ne_true, and_parts, and_from, or_right, eq-eqb, eqb-true, cases_lt, lt-ltb, ltb-true}
use Rattle.aea_lattice.specs.declared.blocks.BlockId.{BlockId}
use Rattle.aea_lattice.specs.declared.grid.Lattice.{Lattice}
use Rattle.aea_lattice.specs.Blocks.{HasBlock, number_of, blocks_count, same_block}
use Rattle.aea_lattice.proofs.Equations.{number_below, number_equal, same_block-equal, same_block-refl}
use Rattle.aea_place.specs.declared.homes.Spot.{Spot}
use Rattle.aea_place.specs.Homes.{home_of}
use Rattle.aea_view.specs.Marked.{Marked, AreMarks, is_marked}
use Rattle.aea_sites.specs.Sites.{is_on, is_at}
use Rattle.aea_view.proofs.Marking.{Sets, mark_here, mark_other}

spot_equal : (x y : Spot) → x.site ≡ y.site → x.cell ≡ y.cell → x ≡ y
spot_equal x y site cell = λ i. record { site = site i; cell = cell i }

-- the home of a block that is there is this spot
at_home : (l : Lattice) (sites : ℕ) (spot : Spot) (b : BlockId) → is_at l sites spot.site spot.cell b ≡ true → home_of sites (number_of l b) ≡ spot
at_home l sites spot b h =
    let home = home_of sites (number_of l b) in
    let parts = and_parts (home.site == spot.site) (home.cell == spot.cell) h in
    spot_equal home spot (eqb-true home.site spot.site parts.0) (eqb-true home.cell spot.cell parts.1)

home_at : (l : Lattice) (sites : ℕ) (spot : Spot) (b : BlockId) → home_of sites (number_of l b) ≡ spot → is_at l sites spot.site spot.cell b ≡ true
home_at l sites spot b h =
    let home = home_of sites (number_of l b) in
    and_from (home.site == spot.site) (home.cell == spot.cell) (eq-eqb home.site spot.site (ap (λ (s : Spot). s.site) h)) (eq-eqb home.cell spot.cell (ap (λ (s : Spot). s.cell) h))

or_none : (x y : Bool) → y ≡ false → (x || y) ≡ x
or_none true y h = refl
or_none false y h = h

-- the block of the spot got its mark
pub cell_marked : (m n : Marked) (sites k : ℕ) (spot : Spot) (d : BlockId) → Sets m n d true → number_of m.lattice d ≡ k → home_of sites k ≡ spot
    → ((j : ℕ) → home_of sites j ≡ spot → j ≡ k) → (b : BlockId) → HasBlock m.lattice b → is_marked n b ≡ (is_marked m b || is_at m.lattice sites spot.site spot.cell b)
cell_marked m n sites k spot d sets number home only b has =
    let l = m.lattice in
    elim (cases_Bool (same_block b d)) [
      | inl is ↦
          let same : b ≡ d = same_block-equal b d is in
          let there : is_at l sites spot.site spot.cell b ≡ true = home_at l sites spot b (ap (λ x. home_of sites (number_of l x)) same ∙ ap (home_of sites) number ∙ home) in
          ap (is_marked n) same ∙ mark_here m n d true sets ∙ sym (or_right (is_marked m b) (is_at l sites spot.site spot.cell b) there)
      | inr differs ↦
          let other : b ≢ d = λ same. false≢true (sym differs ∙ subst (λ x. same_block b x ≡ true) same (same_block-refl b)) in
          let away : is_at l sites spot.site spot.cell b ≡ false =
          false_from_ne_true (is_at l sites spot.site spot.cell b) (λ t. other (number_equal l b d has sets.block (only (number_of l b) (at_home l sites spot b t) ∙ sym number))) in
          mark_other m n d true sets b has other ∙ sym (or_none (is_marked m b) (is_at l sites spot.site spot.cell b) away)
    ]

-- no block of the lattice has its home at the spot
pub cell_outside : (m : Marked) (sites k : ℕ) (spot : Spot) → blocks_count m.lattice ≤ k → ((j : ℕ) → home_of sites j ≡ spot → j ≡ k)
    → (b : BlockId) → HasBlock m.lattice b → is_marked m b ≡ (is_marked m b || is_at m.lattice sites spot.site spot.cell b)
cell_outside m sites k spot past only b has =
    let l = m.lattice in
    sym (or_none (is_marked m b) (is_at l sites spot.site spot.cell b)
    (false_from_ne_true (is_at l sites spot.site spot.cell b)
    (λ t. let is : number_of l b ≡ k = only (number_of l b) (at_home l sites spot b t) in omega (arith, is, past, number_below l b has))))

-- ---- marks of two sites

all_false : (n k : ℕ) → get_or (replicate n false) k false ≡ false
all_false zero k = refl
all_false (suc n) zero = refl
all_false (suc n) (suc k) = all_false n k

-- where nothing was marked, the blocks of the one site and then those of the other
pub both_marked : (l : Lattice) (none one both : Marked) (sites a b : ℕ) → none.lattice ≡ l → none.marks ≡ replicate (blocks_count l) false → one.lattice ≡ none.lattice → both.lattice ≡ one.lattice
    → ((d : BlockId) → HasBlock none.lattice d → is_marked one d ≡ (is_marked none d || is_on none.lattice sites a d))
    → ((d : BlockId) → HasBlock one.lattice d → is_marked both d ≡ (is_marked one d || is_on one.lattice sites b d))
    → AreMarks both (λ d. is_on l sites a d || is_on l sites b d)
both_marked l none one both sites a b same clear same_one same_both first second d has =
    let inside : HasBlock l d = subst (λ (x : Lattice). HasBlock x d) (same_both ∙ same_one ∙ same) has in
    let empty : is_marked none d ≡ false = ap (λ ms. get_or ms (number_of none.lattice d) false) clear ∙ all_false (blocks_count l) (number_of none.lattice d) in
    let at_first : is_marked one d ≡ (is_marked none d || is_on l sites a d) =
    subst (λ (x : Lattice). HasBlock x d → is_marked one d ≡ (is_marked none d || is_on x sites a d)) same (first d) inside in
    let at_second : is_marked both d ≡ (is_marked one d || is_on l sites b d) =
    subst (λ (x : Lattice). HasBlock x d → is_marked both d ≡ (is_marked one d || is_on x sites b d)) (same_one ∙ same) (second d) inside in
    at_second ∙ ap (λ x. x || is_on l sites b d) (at_first ∙ ap (λ x. x || is_on l sites a d) empty)

-- ---- the rows so far

-- the home is on this site, in one of the first rows of it
abbrev pub is_above : Lattice → ℕ → ℕ → ℕ → BlockId → Bool
is_above l sites site rows b = is_on l sites site b && nat_lt (home_of sites (number_of l b)).cell rows

-- the marks of the first rows
abbrev pub AreRows : Marked → Marked → ℕ → ℕ → ℕ → Type 0
AreRows m n sites site rows = (b : BlockId) → HasBlock m.lattice b → is_marked n b ≡ (is_marked m b || is_above m.lattice sites site rows b)

none_above : (l : Lattice) (sites site : ℕ) (b : BlockId) → is_above l sites site 0 b ≡ false
none_above l sites site b = false_from_ne_true (is_above l sites site 0 b) (λ t.
    let cell = (home_of sites (number_of l b)).cell in
    let below : cell < 0 = ltb-true cell 0 ((and_parts (is_on l sites site b) (nat_lt cell 0) t).1) in
    omega (arith, below))

-- before the first row
pub rows_none : (m : Marked) (sites site : ℕ) → AreRows m m sites site 0
rows_none m sites site b has = sym (or_none (is_marked m b) (is_above m.lattice sites site 0 b) (none_above m.lattice sites site b))

more_or : (x on less more here : Bool) → (on ≡ true → more ≡ true → (less ≡ true) ⊎ (here ≡ true)) → (less ≡ true → more ≡ true) → (here ≡ true → more ≡ true)
    → ((x || (on && less)) || (on && here)) ≡ (x || (on && more))
more_or true on less more here cases to also = refl
more_or false false less more here cases to also = refl
more_or false true true more here cases to also = sym (to refl)
more_or false true false true here cases to also = elim (cases refl refl) [ inl no' ↦ absurd (false≢true no') | inr is ↦ is ]
more_or false true false false here cases to also = elim (cases_Bool here) [ inl is ↦ absurd (false≢true (also is)) | inr is ↦ is ]

-- one row more
pub rows_more : (m old new : Marked) (sites site cell : ℕ) → old.lattice ≡ m.lattice → AreRows m old sites site cell
    → ((b : BlockId) → HasBlock old.lattice b → is_marked new b ≡ (is_marked old b || is_at old.lattice sites site cell b)) → AreRows m new sites site (cell + 1)
rows_more m old new sites site cell same are step b has =
    let l = m.lattice in
    let at = (home_of sites (number_of l b)).cell in
    let here : is_marked new b ≡ (is_marked old b || is_at l sites site cell b) =
    subst (λ (x : Lattice). HasBlock x b → is_marked new b ≡ (is_marked old b || is_at x sites site cell b)) same (step b) has in
    here ∙ ap (λ x. x || is_at l sites site cell b) (are b has)
    ∙ more_or (is_marked m b) (is_on l sites site b) (nat_lt at cell) (nat_lt at (cell + 1)) (at == cell)
    (λ on more. elim (cases_lt at cell) [
      | inl less ↦ inl (lt-ltb at cell less)
      | inr past ↦ inr (eq-eqb at cell (let below : at < cell + 1 = ltb-true at (cell + 1) more in omega (arith, below, past)))
    ])
    (λ less. lt-ltb at (cell + 1) (let below : at < cell = ltb-true at cell less in omega (arith, below)))
    (λ is. lt-ltb at (cell + 1) (let equal : at ≡ cell = eqb-true at cell is in omega (arith, equal)))

and_both : (x y : Bool) → y ≡ true → (x && y) ≡ x
and_both true y h = h
and_both false y h = refl

-- all rows
pub rows_all : (m n : Marked) (sites site rows : ℕ) → 1 ≤ sites → blocks_count m.lattice / sites + 1 ≤ rows → AreRows m n sites site rows
    → (b : BlockId) → HasBlock m.lattice b → is_marked n b ≡ (is_marked m b || is_on m.lattice sites site b)
rows_all m n sites site rows some long are b has =
    let l = m.lattice in
    let k = number_of l b in
    let below : k < blocks_count l = number_below l b has in
    let row : k / sites ≤ blocks_count l / sites = le-div (k / sites) (blocks_count l) sites some (omega (arith, div-mul-le_self k sites, below)) in
    are b has
    ∙ ap (λ x. is_marked m b || x) (and_both (is_on l sites site b) (nat_lt (k / sites) rows) (lt-ltb (k / sites) rows (omega (arith, row, long))))
