-- The lists of a part's blocks hang on the part alone.
use Rattle.std.proofs.Common.{◌≡◌, ℕ, Bool, true, false, not, ◌&&◌, List, [], ◌∷◌, refl, sym, ◌∙◌, ap, arith, inl, inr}
use Rattle.std.specs.List.{list_any}
use Rattle.std.proofs.lemmas.Bool.{cases_Bool, and_parts, and_from, or_cases, or_left, or_right, or_parts, true≢false, false≢true}
use Rattle.aea_lattice.specs.declared.blocks.BlockId.{BlockId}
use Rattle.aea_lattice.specs.declared.blocks.EqId.{EqId}
use Rattle.aea_lattice.specs.declared.grid.Lattice.{Lattice}
use Rattle.aea_lattice.specs.Blocks.{HasBlock, same_block, number_of, blocks_count, block_at}
use Rattle.aea_lattice.specs.Equations.{HasEquation, equation_blocks, is_in_equation, equations_of, adds_up_to, is_in_codeword}
use Rattle.aea_lattice.specs.Facts.{MeetsEvenly, Misses}
use Rattle.aea_lattice.specs.Lists.{same_equation, is_listed, has_node}
use Rattle.aea_lattice.specs.LeastWord.{IsEnd, IsWordOfEnd, IsWord}
use Rattle.aea_lattice.proofs.Codewords.{even-codeword, codeword-even, data_of}
use Rattle.aea_lattice.proofs.Equations.{same_block-refl, number_below, member_inside}
use Rattle.aea_lattice.proofs.Odd.{odd-none, odd-same, Each, Each-more}
use Rattle.aea_lattice.proofs.Once.{each-equations_of, same_equation-equal}
use Rattle.aea_lattice.proofs.Even.{adds-one}
use Rattle.aea_gauss_laws.proofs.Given.{and-no}
use Rattle.aea_lattice.proofs.BlockAt.{block_at-number, block_at-inside, number-block_at}
use Rattle.aea_fates.specs.Sums.{output_number, IsSpare, IsSum}
use Rattle.aea_fates.specs.Live.{is_live}
use Rattle.aea_fates.specs.Laws.{IsPart, known_or_outside, PartsStandAlone}
use Rattle.aea_fates.proofs.Listing.{same_equation-refl, any_has}
use Rattle.aea_lattice.proofs.GreatestBelow.{greatest, nothing, find_greatest}

-- ---- items of lists

-- an item that passes
pub record Passing (p : BlockId → Bool) (bs : List BlockId) : Type 0 where
  pub item : BlockId
  pub stands : list_any (same_block item) bs ≡ true
  pub passes : p item ≡ true

-- where some block of a list passes, there is a block that is in the list and passes
pub any_some : (p : BlockId → Bool) (bs : List BlockId) → list_any p bs ≡ true → Passing p bs
any_some p [] h = absurd (false≢true h)
any_some p (b ∷ bs) h = elim (or_cases (p b) (list_any p bs) h) [
  | inl here ↦ record { item = b; stands = or_left (same_block b b) (list_any (same_block b) bs) (same_block-refl b); passes = here }
  | inr there ↦
      (let rest = any_some p bs there in
      record { item = rest.item; stands = or_right (same_block rest.item b) (list_any (same_block rest.item) bs) rest.stands; passes = rest.passes })
]

each_stands : (all bs : List BlockId) → ((d : BlockId) → list_any (same_block d) bs ≡ true → list_any (same_block d) all ≡ true)
    → Each (λ d. list_any (same_block d) all ≡ true) bs
each_stands all [] h = tt
each_stands all (b ∷ bs) h = (
  h b (or_left (same_block b b) (list_any (same_block b) bs) (same_block-refl b)),
  each_stands all bs (λ d there. h d (or_right (same_block d b) (list_any (same_block d) bs) there)),
)

not-false : (a : Bool) → not a ≡ false → a ≡ true
not-false true h = refl
not-false false h = absurd (true≢false h)

not-true : (a : Bool) → not a ≡ true → a ≡ false
not-true true h = absurd (false≢true h)
not-true false h = refl

module _ (l : Lattice) (known part : BlockId → Bool) (is_part : IsPart l known part) where
  abbrev more : BlockId → Bool
  more = known_or_outside known part

  known_more : (d : BlockId) → known d ≡ true → more d ≡ true
  known_more d h = or_left (known d) (not (part d)) h

  unknown_in : (d : BlockId) → more d ≡ false → (known d ≡ false) × (part d ≡ true)
  unknown_in d h = let both = or_parts (known d) (not (part d)) h in (both.0, not-false (part d) both.1)

  unknown_out : (d : BlockId) → more d ≡ true → known d ≡ false → part d ≡ false
  unknown_out d h unknown = elim (or_cases (known d) (not (part d)) h) [
    | inl is_known ↦ absurd (true≢false (sym is_known ∙ unknown))
    | inr outside ↦ not-true (part d) outside
  ]

  -- an unknown block of an equation of the part is in the part, and one of another equation is not
  live_in : (e : EqId) → HasEquation l e → is_live l more e ≡ true → (d : BlockId) → is_in_equation l e d ≡ true → known d ≡ false → part d ≡ true
  live_in e has live d stands unknown =
      let some = any_some (λ b. not (more b)) (equation_blocks l e) live in
      let both = unknown_in some.item (not-true (more some.item) some.passes) in
      sym (is_part e some.item d has some.stands stands both.0 unknown) ∙ both.1

  in_live : (e : EqId) (d : BlockId) → is_in_equation l e d ≡ true → more d ≡ false → is_live l more e ≡ true
  in_live e d stands unmarked = any_has (λ b. not (more b)) d (equation_blocks l e) stands (ap not unmarked)

  dead_more : (e : EqId) (d : BlockId) → is_live l more e ≡ false → is_in_equation l e d ≡ true → more d ≡ true
  dead_more e d dead stands = elim (cases_Bool (more d)) [
    | inl h ↦ h
    | inr unmarked ↦ absurd (true≢false (sym (in_live e d stands unmarked) ∙ dead))
  ]

  -- equations of the part add up to no unknown block outside
  outside_none : (q : EqId → Bool) → ((e : EqId) → HasEquation l e → q e ≡ true → is_live l more e ≡ true)
      → (d : BlockId) → known d ≡ false → part d ≡ false → adds_up_to l q d ≡ false
  outside_none q live d unknown outside =
      odd-same (λ e. q e && is_in_equation l e d) (λ e. false) (equations_of l)
      (Each-more (HasEquation l) (λ e. (q e && is_in_equation l e d) ≡ false) (equations_of l)
      (λ e has. elim (cases_Bool (q e && is_in_equation l e d)) [
        | inl both' ↦
            (let both = and_parts (q e) (is_in_equation l e d) both' in
            absurd (true≢false (sym (live_in e has (live e has both.0) d both.1 unknown) ∙ outside)))
        | inr none ↦ none
      ]) (each-equations_of l))
      ∙ odd-none (equations_of l)

  -- ---- listed equations

  -- an equation without an unknown block of the part is spare
  dead_spare : (e : EqId) → HasEquation l e → is_live l more e ≡ false → IsSpare l more e
  dead_spare e has dead = (
    same_equation e,
    record {
      contains = same_equation-refl e;
      greatest = λ d d_has same. (let is : e ≡ d = same_equation-equal e d same in let number = ap (output_number l) is in omega arith);
      only_known = λ b b_has added. dead_more e b dead (sym (adds-one l e b has) ∙ added);
    },
  )

  sum_alone : (b : BlockId) → (equations : List EqId) → IsSum l more b equations → IsSum l known b equations
  sum_alone b equations sum = record {
    gives = record {
      contains = sum.gives.contains;
      others = λ d d_has added other. elim (cases_Bool (known d)) [
        | inl is_known ↦ is_known
        | inr unknown ↦
            absurd (true≢false (sym added
            ∙ outside_none (is_listed equations) listed_live d unknown (unknown_out d (sum.gives.others d d_has added other) unknown)))
      ];
    };
    no_spare = λ e has listed spare. sum.no_spare e has listed (
      spare.0,
      record {
        contains = spare.1.contains;
        greatest = spare.1.greatest;
        only_known = λ d d_has added. known_more d (spare.1.only_known d d_has added);
      },
    );
    ordered = sum.ordered;
  }
    where
      listed_live : (e : EqId) → HasEquation l e → is_listed equations e ≡ true → is_live l more e ≡ true
      listed_live e has listed = elim (cases_Bool (is_live l more e)) [
        | inl live ↦ live
        | inr dead ↦ absurd (sum.no_spare e has listed (dead_spare e has dead))
      ]

  -- ---- listed nodes

  -- the blocks of a codeword that are in the part
  abbrev share : (ℕ → Bool) → BlockId → Bool
  share nodes d = is_in_codeword l nodes d && part d

  no_both : (a b : Bool) → (b ≡ true → a ≡ false) → (a && b) ≡ false
  no_both a true h = ap (λ x. x && true) (h refl)
  no_both a false h = and-no a

  all_both : (a b : Bool) → (a ≡ true → b ≡ true) → (a && b) ≡ a
  all_both true b h = h refl
  all_both false b h = refl

  missed_unknown : (nodes : ℕ → Bool) → Misses l known nodes → (d : BlockId) → HasBlock l d → is_in_codeword l nodes d ≡ true → known d ≡ false
  missed_unknown nodes misses d has here = elim (cases_Bool (known d)) [
    | inl is_known ↦ absurd (true≢false (sym here ∙ misses d has is_known))
    | inr unknown ↦ unknown
  ]

  share_even : (nodes : ℕ → Bool) → Misses l known nodes → MeetsEvenly l (share nodes)
  share_even nodes misses e has =
      let stands = each_stands (equation_blocks l e) (equation_blocks l e) (λ d h. h) in
      elim (cases_Bool (is_live l more e)) [
        | inl live ↦
            odd-same (share nodes) (is_in_codeword l nodes) (equation_blocks l e)
            (Each-more (λ d. is_in_equation l e d ≡ true) (λ d. share nodes d ≡ is_in_codeword l nodes d) (equation_blocks l e)
            (λ d h. all_both (is_in_codeword l nodes d) (part d) (λ here. live_in e has live d h (missed_unknown nodes misses d (member_inside l e d has h) here))) stands)
            ∙ codeword-even l nodes (is_in_codeword l nodes) (λ b b_has. refl) e has
        | inr dead ↦
            odd-same (share nodes) (λ d. false) (equation_blocks l e)
            (Each-more (λ d. is_in_equation l e d ≡ true) (λ d. share nodes d ≡ false) (equation_blocks l e)
            (λ d h. no_both (is_in_codeword l nodes d) (part d)
            (λ inside. elim (cases_Bool (is_in_codeword l nodes d)) [
              | inl here ↦
                  absurd (true≢false (sym inside
                  ∙ unknown_out d (dead_more e d dead h) (missed_unknown nodes misses d (member_inside l e d has h) here)))
              | inr missed ↦ missed
            ])) stands)
            ∙ odd-none (equation_blocks l e)
      ]

  -- its nodes
  abbrev share_nodes : (ℕ → Bool) → ℕ → Bool
  share_nodes nodes = data_of (share nodes)

  share_word : (nodes : ℕ → Bool) → Misses l known nodes → (d : BlockId) → HasBlock l d → is_in_codeword l (share_nodes nodes) d ≡ share nodes d
  share_word nodes misses d has = sym (even-codeword l (share nodes) (share_even nodes misses) d has)

  share_misses : (nodes : ℕ → Bool) → Misses l known nodes → Misses l more (share_nodes nodes)
  share_misses nodes misses d has marked =
      share_word nodes misses d has
      ∙ no_both (is_in_codeword l nodes d) (part d)
      (λ inside. elim (cases_Bool (known d)) [
        | inl is_known ↦ misses d has is_known
        | inr unknown ↦ absurd (true≢false (sym inside ∙ unknown_out d marked unknown))
      ])

  misses_down : (nodes : ℕ → Bool) → Misses l more nodes → Misses l known nodes
  misses_down nodes misses d has is_known = misses d has (known_more d is_known)

  end_down : (e : BlockId) → IsEnd l more e → IsEnd l known e
  end_down e some =
      (some.0, record { block = some.1.block; misses = misses_down some.0 some.1.misses; contains = some.1.contains; greatest = some.1.greatest })

  -- the block is in the share exactly where it is in the codeword and in the part
  in_share : (nodes : ℕ → Bool) → Misses l known nodes → (d : BlockId) → HasBlock l d → is_in_codeword l nodes d ≡ true → part d ≡ true
      → is_in_codeword l (share_nodes nodes) d ≡ true
  in_share nodes misses d has here inside = share_word nodes misses d has ∙ and_from (is_in_codeword l nodes d) (part d) here inside

  of_share : (nodes : ℕ → Bool) → Misses l known nodes → (d : BlockId) → HasBlock l d → is_in_codeword l (share_nodes nodes) d ≡ true
      → (is_in_codeword l nodes d ≡ true) × (part d ≡ true)
  of_share nodes misses d has h = and_parts (is_in_codeword l nodes d) (part d) (sym (share_word nodes misses d has) ∙ h)

  end_up : (e : BlockId) → IsEnd l known e → part e ≡ true → IsEnd l more e
  end_up e some inside =
      let nodes = some.0 in
      let is = some.1 in (
        share_nodes nodes,
        record {
          block = is.block;
          misses = share_misses nodes is.misses;
          contains = in_share nodes is.misses e is.block is.contains inside;
          greatest = λ d has h. is.greatest d has (of_share nodes is.misses d has h).0;
        },
      )

  word_down : (e : BlockId) (nodes : ℕ → Bool) → IsWordOfEnd l more e nodes → IsWordOfEnd l known e nodes
  word_down e nodes w = record {
    is_end = end_down e w.is_end;
    misses = misses_down nodes w.misses;
    contains = w.contains;
    alone = λ d d_end h. elim (cases_Bool (more d)) [
      | inl marked ↦ absurd (true≢false (sym h ∙ w.misses d d_end.1.block marked))
      | inr unmarked ↦ w.alone d (end_up d d_end (unknown_in d unmarked).1) h
    ];
  }

  -- the end of a word that has a block of the part is in the part
  end_inside : (e : BlockId) (nodes : ℕ → Bool) → IsWordOfEnd l known e nodes → (b : BlockId) → HasBlock l b → part b ≡ true → is_in_codeword l nodes b ≡ true
      → part e ≡ true
  end_inside e nodes w b has inside here =
      let of_block : ℕ → Bool = λ k. is_in_codeword l (share_nodes nodes) (block_at l k) in
      elim (find_greatest of_block (blocks_count l)) [
        | nothing all ↦
            absurd (true≢false (sym (in_share nodes w.misses b has here inside)
            ∙ ap (is_in_codeword l (share_nodes nodes)) (sym (block_at-number l b has)) ∙ all (number_of l b) (number_below l b has)))
        | greatest k less k_here most ↦
            (let g = block_at l k in
            let g_has = block_at-inside l k less in
            let g_number = number-block_at l k less in
            let parts = of_share nodes w.misses g g_has k_here in
            let g_end : IsEnd l known g = (
              share_nodes nodes,
              record {
                block = g_has;
                misses = misses_down (share_nodes nodes) (share_misses nodes w.misses);
                contains = k_here;
                greatest = λ d d_has h.
                    (let le = most (number_of l d) (number_below l d d_has) (ap (is_in_codeword l (share_nodes nodes)) (block_at-number l d d_has) ∙ h) in omega arith);
              },
            ) in
            ap part (sym (w.alone g g_end parts.0)) ∙ parts.1)
      ]

  word_up : (e : BlockId) (nodes : ℕ → Bool) → IsWordOfEnd l known e nodes → part e ≡ true → IsWordOfEnd l more e (share_nodes nodes)
  word_up e nodes w inside = record {
    is_end = end_up e w.is_end inside;
    misses = share_misses nodes w.misses;
    contains = in_share nodes w.misses e w.is_end.1.block w.contains inside;
    alone = λ d d_end h. w.alone d (end_down d d_end) (of_share nodes w.misses d d_end.1.block h).0;
  }

  word_alone : (b : BlockId) → HasBlock l b → part b ≡ true → (nodes : List ℕ) → IsWord l more b nodes → IsWord l known b nodes
  word_alone b has inside nodes word =
      let w = word.chosen.1 in
      record {
        chosen = (
          word.chosen.0,
          record {
            word = word_down word.chosen.0 (has_node nodes) w.word;
            contains = w.contains;
            least = λ d others other h.
                w.least d (share_nodes others) (word_up d others other (end_inside d others other b has inside h))
                (in_share others other.misses b has h inside);
          },
        );
        ordered = word.ordered;
      }

-- a list of a part's block, where all that is outside the part is known too, is its list for the known blocks
-- alone
pub parts-alone : PartsStandAlone
parts-alone l known part is_part b has inside = (
  sum_alone l known part is_part b,
  word_alone l known part is_part b has inside,
)
