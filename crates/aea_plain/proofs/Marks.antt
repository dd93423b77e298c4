-- Marks of blocks: what sweeps keep, and that they end in the closure.
use Rattle.std.proofs.Common.{◌≡◌, ◌≢◌, ℕ, ◌+◌, ◌<◌, inl, inr, Bool, true, false, ◌&&◌, ◌||◌, nat_le, List, [], ◌∷◌, filter, length, get_or, set, refl, sym, ◌∙◌, ap, subst, arith}
use Rattle.std.proofs.lemmas.Bool.{and_parts, and_from, or_cases, or_left, or_right, cases_Bool, cases_eq, cond-true, cond-false, false≢true, leb-true, le-leb}
use Rattle.std.proofs.lemmas.List.{get_or-set_same, get_or-set_other}
use Rattle.std.proofs.lemmas.List.Folds.{list_any_at}
use Rattle.aea_lattice.specs.declared.blocks.BlockId.{BlockId}
use Rattle.aea_lattice.specs.declared.blocks.EqId.{EqId}
use Rattle.aea_lattice.specs.declared.grid.Lattice.{Lattice}
use Rattle.aea_lattice.specs.Blocks.{class_number, same_block, HasBlock, number_of, blocks_count, blocks_of}
use Rattle.aea_lattice.specs.Equations.{HasEquation}
use Rattle.aea_lattice.specs.Closure.{IsForcedBy, IsReached, is_among}
use Rattle.aea_lattice.proofs.Equations.{same_block-refl, number_below, number_equal, member_inside}
use Rattle.aea_lattice.proofs.Derivations.{among_cases, among-first, among-rest, among-filter, forced-more, reached-known, reached-forced, reached-within}
use Rattle.aea_view.specs.Marked as marked
use Rattle.aea_view.specs.Marked.{Marked}
use Rattle.aea_plain.specs.Sets.{IsClosure}
use Rattle.aea_plain.specs.Marks.{is_inside, is_marked, IsState, IsSpent}
use Rattle.aea_plain.proofs.Places.{get_or-blocks_of, inside_blocks}

-- ---- blocks of the lattice

pub inside-true : (l : Lattice) (b : BlockId) → HasBlock l b → is_inside l b ≡ true
inside-true l b has =
    and_from (nat_le 1 b.node && nat_le b.node l.n) (nat_le (class_number b.class) l.alpha)
    (and_from (nat_le 1 b.node) (nat_le b.node l.n) (le-leb 1 b.node has.first) (le-leb b.node l.n has.last))
    (le-leb (class_number b.class) l.alpha has.used)

inside-block : (l : Lattice) (b : BlockId) → is_inside l b ≡ true → HasBlock l b
inside-block l b h =
    let parts = and_parts (nat_le 1 b.node && nat_le b.node l.n) (nat_le (class_number b.class) l.alpha) h in
    let node = and_parts (nat_le 1 b.node) (nat_le b.node l.n) parts.0 in
    record {
      first = leb-true 1 b.node node.0;
      last = leb-true b.node l.n node.1;
      used = leb-true (class_number b.class) l.alpha parts.1;
    }

true-and : (a b : Bool) → a ≡ true → (a && b) ≡ b
true-and true b h = refl
true-and false b h = absurd (false≢true h)

-- whether a block of the lattice is marked is shown by the mark at its number
pub marked-at : (l : Lattice) (marks : List Bool) (b : BlockId) → HasBlock l b → is_marked l marks b ≡ get_or marks (number_of l b) false
marked-at l marks b has = true-and (is_inside l b) (get_or marks (number_of l b) false) (inside-true l b has)

marked-block : (l : Lattice) (marks : List Bool) (b : BlockId) → is_marked l marks b ≡ true → HasBlock l b
marked-block l marks b h = inside-block l b (and_parts (is_inside l b) (get_or marks (number_of l b) false) h).0

-- ---- one more mark

mark_here : (l : Lattice) (marks : List Bool) (b d : BlockId) → length marks ≡ blocks_count l → HasBlock l b → HasBlock l d
    → number_of l d ≡ number_of l b → is_marked l (set marks (number_of l b) true) d ≡ true
mark_here l marks b d long has_b has_d is =
    marked-at l (set marks (number_of l b) true) d has_d
    ∙ ap (λ k. get_or (set marks (number_of l b) true) k false) is
    ∙ get_or-set_same marks (number_of l b) true false (subst (λ n. number_of l b < n) (sym long) (number_below l b has_b))

mark_elsewhere : (l : Lattice) (marks : List Bool) (b d : BlockId) → HasBlock l d
    → number_of l d ≢ number_of l b → is_marked l (set marks (number_of l b) true) d ≡ is_marked l marks d
mark_elsewhere l marks b d has_d other =
    marked-at l (set marks (number_of l b) true) d has_d
    ∙ get_or-set_other marks (number_of l b) (number_of l d) true false other
    ∙ sym (marked-at l marks d has_d)

-- with one more mark a state remains one, where there is a mark for each block of the lattice, and an equation
-- forces the block that gets it, one of the lattice, from marked ones
pub state-mark : (l : Lattice) (known : BlockId → Bool) (marks : List Bool) (b : BlockId) (e : EqId) → length marks ≡ blocks_count l
    → HasBlock l b → IsForcedBy l (is_marked l marks) b e → IsState l known marks → IsState l known (set marks (number_of l b) true)
state-mark l known marks b e long has_b forced state = record {
  kept = λ d has_d k. elim (cases_eq (number_of l d) (number_of l b)) [
    | inl is ↦ mark_here l marks b d long has_b has_d is
    | inr other ↦ mark_elsewhere l marks b d has_d other ∙ state.kept d has_d k
  ];
  reached = λ d m.
      let has_d : HasBlock l d = marked-block l (set marks (number_of l b) true) d m in
      elim (cases_eq (number_of l d) (number_of l b)) [
        | inl is ↦
            subst (IsReached l known) (number_equal l b d has_b has_d (sym is))
            (reached-forced l known (is_marked l marks) b e state.reached forced)
        | inr other ↦ state.reached d (sym (mark_elsewhere l marks b d has_d other) ∙ m)
      ];
}

-- where exactly the known blocks of the lattice are marked, the marks are a state
pub state-start : (l : Lattice) (known : BlockId → Bool) (marks : List Bool)
    → ((b : BlockId) → HasBlock l b → is_marked l marks b ≡ known b) → IsState l known marks
state-start l known marks same = record {
  kept = λ b has k. same b has ∙ k;
  reached = λ b m. reached-known l known b (sym (same b (marked-block l marks b m)) ∙ m);
}

-- ---- lists of blocks

filtered_passes : (p : BlockId → Bool) (xs : List BlockId) (d : BlockId) → is_among (filter p xs) d ≡ true → p d ≡ true
filtered_passes p [] d h = absurd (false≢true h)
filtered_passes p (x ∷ xs) d h =
    elim (cases_Bool (p x)) [
      | inl in_set ↦
          elim (among_cases x (filter p xs) d (subst (λ list. is_among list d ≡ true) (cond-true (p x) (x ∷ filter p xs) (filter p xs) in_set) h)) [
            | inl same ↦ ap p same ∙ in_set
            | inr rest ↦ filtered_passes p xs d rest
          ]
      | inr outside ↦
          filtered_passes p xs d (subst (λ list. is_among list d ≡ true) (cond-false (p x) (x ∷ filter p xs) (filter p xs) outside) h)
    ]

-- tests that agree on a list keep the same of it
filter-same : (p q : BlockId → Bool) (xs : List BlockId) → ((d : BlockId) → is_among xs d ≡ true → p d ≡ q d) → filter p xs ≡ filter q xs
filter-same p q [] same = refl
filter-same p q (x ∷ xs) same =
    let rest : filter p xs ≡ filter q xs = filter-same p q xs (λ d h. same d (among-rest x xs d h)) in
    let first : p x ≡ q x = same x (among-first xs x) in
    elim (cases_Bool (q x)) [
      | inl in_set ↦
          cond-true (p x) (x ∷ filter p xs) (filter p xs) (first ∙ in_set)
          ∙ ap (λ ys. x ∷ ys) rest
          ∙ sym (cond-true (q x) (x ∷ filter q xs) (filter q xs) in_set)
      | inr outside ↦
          cond-false (p x) (x ∷ filter p xs) (filter p xs) (first ∙ outside)
          ∙ rest
          ∙ sym (cond-false (q x) (x ∷ filter q xs) (filter q xs) outside)
    ]

among-kept : (p : BlockId → Bool) (xs : List BlockId) (d : BlockId) → is_among xs d ≡ true → p d ≡ is_among (filter p xs) d
among-kept p xs d h =
    elim (cases_Bool (p d)) [
      | inl passes ↦ passes ∙ sym (among-filter p xs d h passes)
      | inr fails ↦
          elim (cases_Bool (is_among (filter p xs) d)) [
            | inl there ↦ absurd (false≢true (sym fails ∙ filtered_passes p xs d there))
            | inr not_there ↦ fails ∙ sym not_there
          ]
    ]

among-blocks_of : (l : Lattice) (b : BlockId) → HasBlock l b → is_among (blocks_of l) b ≡ true
among-blocks_of l b has =
    list_any_at (same_block b) (blocks_of l) (number_of l b) b (inside_blocks l b has)
    (ap (same_block b) (get_or-blocks_of l b b has) ∙ same_block-refl b)

-- ---- the end

-- Where no equation forces a block without a mark, the closure has marks.
marked-reached : (l : Lattice) (known : BlockId → Bool) (marks : List Bool) → IsState l known marks
    → ((e : EqId) → HasEquation l e → IsSpent l marks e) → (b : BlockId) → HasBlock l b → IsReached l known b → is_marked l marks b ≡ true
marked-reached l known marks state spent b has reached =
    let marked : (d : BlockId) → HasBlock l d → (is_marked l marks d || known d) ≡ true → is_marked l marks d ≡ true =
    λ d has_d h. elim (or_cases (is_marked l marks d) (known d) h) [ inl m ↦ m | inr k ↦ state.kept d has_d k ] in
    marked b has
    (reached-within l known (λ d. is_marked l marks d || known d)
    (λ d k. or_right (is_marked l marks d) (known d) k)
    (λ e d forced.
    or_left (is_marked l marks d) (known d)
    (spent e forced.equation d
    (forced-more l (λ c. is_marked l marks c || known c) (is_marked l marks) d e
    (λ c member. marked c (member_inside l e c forced.equation member)) forced)))
    b reached)

-- where each equation is spent, the blocks that a state marks, in number order, are the closure of those known
pub closure-end : (l : Lattice) (known : BlockId → Bool) (marks : List Bool) (blocks : List BlockId) → IsState l known marks
    → ((e : EqId) → HasEquation l e → IsSpent l marks e) → blocks ≡ filter (is_marked l marks) (blocks_of l) → IsClosure l known blocks
closure-end l known marks blocks state spent are =
    let p : BlockId → Bool = is_marked l marks in
    subst (IsClosure l known) (sym are)
    (record {
      reached = λ b has. (
        λ among. state.reached b (filtered_passes p (blocks_of l) b among),
        λ reached. among-filter p (blocks_of l) b (among-blocks_of l b has) (marked-reached l known marks state spent b has reached),
      );
      ordered = filter-same p (is_among (filter p (blocks_of l))) (blocks_of l) (λ d h. among-kept p (blocks_of l) d h);
    })

-- ---- the first marks

-- the block of this number has got its mark
pub marks-set : (l : Lattice) (known : BlockId → Bool) (marks : List Bool) (k : ℕ) (b : BlockId) (x : Bool) → k < length marks
    → HasBlock l b → number_of l b ≡ k → x ≡ known b
    → ((d : BlockId) → HasBlock l d → number_of l d < k → get_or marks (number_of l d) false ≡ known d)
    → (d : BlockId) → HasBlock l d → number_of l d < k + 1 → get_or (set marks k x) (number_of l d) false ≡ known d
marks-set l known marks k b x within has_b at is before d has_d below =
    elim (cases_eq (number_of l d) k) [
      | inl last ↦
          let one : d ≡ b = number_equal l d b has_d has_b (last ∙ sym at) in
          ap (λ n. get_or (set marks k x) n false) last ∙ get_or-set_same marks k x false within ∙ is ∙ ap known (sym one)
      | inr other ↦
          let earlier : number_of l d < k = omega (arith, other) in
          get_or-set_other marks k (number_of l d) x false other ∙ before d has_d earlier
    ]

-- marks of a lattice are those of their list in it
pub marks-of : (m : Marked) (l : Lattice) → m.lattice ≡ l → m ≡ record { lattice = l; marks = m.marks }
marks-of m l same = ap (λ (x : Lattice). let y : Marked = record { lattice = x; marks = m.marks } in y) same

-- ---- what marks force, in the lattice and wherever

-- a block that is forced by the marks as read for any block is forced by those read for blocks of the lattice alone
pub forced-inside : (l : Lattice) (marks : List Bool) (b : BlockId) (e : EqId)
    → IsForcedBy l (marked.is_marked (record { lattice = l; marks = marks })) b e → IsForcedBy l (is_marked l marks) b e
forced-inside l marks b e forced =
    forced-more l (marked.is_marked (record { lattice = l; marks = marks })) (is_marked l marks) b e
    (λ d member h. marked-at l marks d (member_inside l e d forced.equation member) ∙ h) forced

-- an equation spent by the marks as read for any block is spent by those read for blocks of the lattice alone
pub spent-inside : (l : Lattice) (marks : List Bool) (e : EqId) → marked.IsSpent (record { lattice = l; marks = marks }) e → IsSpent l marks e
spent-inside l marks e spent b forced =
    marked-at l marks b (member_inside l e b forced.equation forced.contains)
    ∙ spent b
    (forced-more l (is_marked l marks) (marked.is_marked (record { lattice = l; marks = marks })) b e
    (λ d member h. sym (marked-at l marks d (member_inside l e d forced.equation member)) ∙ h) forced)
