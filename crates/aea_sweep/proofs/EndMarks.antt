-- Marks of the known blocks and of the ends, from the last block down.
use Rattle.std.proofs.Common.{◌≡◌, ◌≢◌, ◌↔◌, ℕ, zero, suc, ◌+◌, ◌<◌, ◌≤◌, inl, inr, Bool, true, List, [], ◌∷◌, length, refl, sym, ◌∙◌, ap, subst, arith}
use Rattle.std.specs.Prelude.{IsTrue}
use Rattle.std.proofs.lemmas.Bool.{cases_eq, cases_lt, true≢false, false_from_ne_true}
use Rattle.aea_lattice.specs.declared.blocks.BlockId.{BlockId}
use Rattle.aea_lattice.specs.declared.grid.Lattice.{Lattice}
use Rattle.aea_lattice.specs.Blocks.{HasBlock, number_of, blocks_count, block_at}
use Rattle.aea_lattice.specs.Equations.{is_in_codeword}
use Rattle.aea_lattice.specs.Data.{Determines}
use Rattle.aea_lattice.specs.Facts.{Misses}
use Rattle.aea_lattice.specs.LeastWord.{IsEnd, IsEndOf}
use Rattle.aea_lattice.proofs.BlockAt.{block_at-inside, number-block_at}
use Rattle.aea_lattice.proofs.GreatestBelow.{greatest, nothing, find_greatest}
use Rattle.aea_lattice.proofs.Equations.{number_below, number_equal}
use Rattle.aea_lattice.proofs.Words.{words-miss}
use Rattle.aea_view.specs.Marked.{Marked, IsWhole, is_marked}
use Rattle.aea_view.proofs.Marking.{Sets, mark_here, mark_other}
use Rattle.aea_sweep.specs.Words.{word_in}
use Rattle.aea_sweep.specs.States.{AreEndWords}
use Rattle.aea_sweep.specs.Labels.{label_of}
use Rattle.aea_sweep.specs.Firsts.{IsFirst, AreFirst}
use Rattle.aea_sweep.specs.Sweep.{SetsAside}
use Rattle.aea_sweep.specs.Ends.{AddsEnds, IsKnownOrEnd, AreMarkedFrom}
use Rattle.aea_sweep.proofs.StepLaws.{RevealWords}
use Rattle.aea_sweep.proofs.Reveals.{ends_reveal_words}
use Rattle.aea_sweep.proofs.Revealing.{determined_by}

-- a codeword with a block has a greatest one
codeword_end : (l : Lattice) (known : BlockId → Bool) (nodes : ℕ → Bool) (b : BlockId) → HasBlock l b → Misses l known nodes → is_in_codeword l nodes b ≡ true → (e : BlockId) × IsEndOf l known nodes e
codeword_end l known nodes b hb misses contained = elim (find_greatest (λ k. is_in_codeword l nodes (block_at l k)) (blocks_count l)) [
  | greatest c less here most ↦ (
    block_at l c,
    record {
      block = block_at-inside l c less;
      misses = misses;
      contains = here;
      greatest = λ d hd has.
          subst (λ (k : ℕ). number_of l d ≤ k) (sym (number-block_at l c less))
          (most (number_of l d) (number_below l d hd) (ap (is_in_codeword l nodes) (numbered d hd) ∙ has));
    },
  )
  | nothing none ↦
      absurd (true≢false (sym contained ∙ ap (is_in_codeword l nodes) (sym (numbered b hb)) ∙ none (number_of l b) (number_below l b hb)))
]
  where
    numbered : (d : BlockId) → HasBlock l d → block_at l (number_of l d) ≡ d
    numbered d hd =
        number_equal l (block_at l (number_of l d)) d (block_at-inside l (number_of l d) (number_below l d hd)) hd
        (number-block_at l (number_of l d) (number_below l d hd))

-- where the known blocks and all ends pass, all is determined
with_ends : (l : Lattice) (known more : BlockId → Bool) → ((d : BlockId) → HasBlock l d → IsTrue (known d) → IsTrue (more d)) → ((d : BlockId) → IsEnd l known d → IsTrue (more d))
    → (b : BlockId) → HasBlock l b → Determines l more b
with_ends l known more kept ends b hb =
    determined_by l more b hb
    (λ nodes misses.
    false_from_ne_true (is_in_codeword l nodes b)
    (λ contained.
    (let end = codeword_end l known nodes b hb (λ d hd is. misses d hd (kept d hd is)) contained in
    true≢false (sym end.1.contains ∙ misses end.0 end.1.block (ends end.0 (nodes, end.1))))))

module _ (l : Lattice) (known : BlockId → Bool) (words : List (List ℕ)) (labels : List ℕ) (s : AreEndWords l known words)
    (f : AreFirst l 1 (length words + 1) (word_in ([] ∷ words)) labels) where
  abbrev IsKept : BlockId → Type 0
  IsKept b = IsKnownOrEnd known (length words) s.ends b

  own_at : (r : ℕ) → r < length words → (label : ℕ) → IsFirst l 1 (length words + 1) (word_in ([] ∷ words)) (s.ends r) label → label ≡ suc r
  own_at r less zero first = absurd (true≢false (sym (s.are_ends.end r less).contains ∙ first.none refl (suc r) (omega arith) (omega arith)))
  own_at r less (suc q) first =
      let some = first.some (λ h. omega arith) in
      let below = some.1 in
      elim (cases_eq q r) [
        | inl same ↦ ap suc same
        | inr other ↦ absurd (true≢false (sym some.2 ∙ s.are_ends.alone q r (omega arith) less other))
      ]

  -- each end has the label of its own word
  own_label : (r : ℕ) → r < length words → label_of l labels (s.ends r) ≡ suc r
  own_label r less = own_at r less (label_of l labels (s.ends r)) (f (s.ends r) (s.are_ends.end r less).block)

  marks_next : (k : ℕ) (b : BlockId) (x : Bool) (m n : Marked) → HasBlock l b → number_of l b ≡ k → m.lattice ≡ l → Sets m n b x → IsTrue x ↔ IsKept b
      → ((d : BlockId) → HasBlock l d → k + 1 ≤ number_of l d → IsTrue (is_marked m d) ↔ IsKept d)
      → (d : BlockId) → HasBlock l d → k ≤ number_of l d → IsTrue (is_marked n d) ↔ IsKept d
  marks_next k b x m n hb at same sets here before d hd from = elim (cases_eq (number_of l d) k) [
    | inl is ↦
        (let one : d ≡ b = number_equal l d b hd hb (is ∙ sym at) in
        subst (λ (y : BlockId). IsTrue (is_marked n y) ↔ IsKept y) (sym one)
        (subst (λ (y : Bool). IsTrue y ↔ IsKept b) (sym (mark_here m n b x sets)) here))
    | inr later ↦
        (let other : d ≢ b = λ one. later (ap (number_of l) one ∙ at) in
        subst (λ (y : Bool). IsTrue y ↔ IsKept d) (sym (mark_other m n b x sets d (subst (λ (g : Lattice). HasBlock g d) (sym same) hd) other))
        (before d hd (omega (arith, from, later))))
  ]

  -- a block with the label of the greatest end that is left is that end
  pub step_end : (k r : ℕ) (b : BlockId) (m n : Marked) → HasBlock l b → number_of l b ≡ k → label_of l labels b ≡ suc r → Sets m n b true
      → AreMarkedFrom l known (length words) s.ends (k + 1) (suc r) m → AreMarkedFrom l known (length words) s.ends k r n
  step_end k r b m n hb at label sets marked =
      let first = subst (λ (j : ℕ). IsFirst l 1 (length words + 1) (word_in ([] ∷ words)) b j) label (f b hb) in
      let some = first.some (λ h. omega arith) in
      let below = some.1 in
      let less : r < length words = omega (arith, below) in
      let end = s.are_ends.end r less in
      let most : number_of l b ≤ number_of l (s.ends r) = end.greatest b hb some.2 in
      let low : number_of l (s.ends r) < k + 1 = marked.low r (omega arith) in
      let here : s.ends r ≡ b = number_equal l (s.ends r) b end.block hb (omega (arith, most, low, at)) in
      let number : number_of l (s.ends r) ≡ k = ap (number_of l) here ∙ at in
      record {
        lattice = sets.same ∙ marked.lattice;
        whole = sets.whole;
        few = omega (arith, less);
        low = λ q q_less. (let up = s.are_ends.rise q r q_less less in omega (arith, up, number));
        high = λ q past q_less. elim (cases_eq q r) [
          | inl same ↦ subst (λ (j : ℕ). k ≤ number_of l (s.ends j)) (sym same) (omega (arith, number))
          | inr later ↦ (let h = marked.high q (omega (arith, past, later)) q_less in omega (arith, h))
        ];
        marks = marks_next k b true m n hb at marked.lattice sets (λ _. inr (r, less, here), λ _. refl) marked.marks;
      }

  -- where the block is not the greatest end that is left, all of these have lower numbers
  lower : (k left : ℕ) (b : BlockId) (m : Marked) → HasBlock l b → number_of l b ≡ k → (left ≢ 0 → label_of l labels b ≢ left)
      → AreMarkedFrom l known (length words) s.ends (k + 1) left m → (r : ℕ) → r < left → number_of l (s.ends r) < k
  lower k left b m hb at other marked r less =
      let few = marked.few in
      let within : r < length words = omega (arith, less, few) in
      let low = marked.low r less in
      elim (cases_eq (suc r) left) [
        | inl last ↦
            (let apart : number_of l (s.ends r) ≢ k =
            λ is.
            (let one : s.ends r ≡ b = number_equal l (s.ends r) b (s.are_ends.end r within).block hb (is ∙ sym at) in
            other (λ none. absurd (omega (arith, none, last))) (ap (label_of l labels) (sym one) ∙ own_label r within ∙ last)) in
            omega (arith, low, apart))
        | inr more ↦
            (let up = s.are_ends.rise r (suc r) (omega arith) (omega (arith, less, more, few)) in
            let next = marked.low (suc r) (omega (arith, less, more)) in
            omega (arith, up, next))
      ]

  -- and it is an end of none of the others
  known_here : (k left : ℕ) (b : BlockId) (m : Marked) → HasBlock l b → number_of l b ≡ k → (left ≢ 0 → label_of l labels b ≢ left)
      → AreMarkedFrom l known (length words) s.ends (k + 1) left m → IsKept b → IsTrue (known b)
  known_here k left b m hb at other marked (inl is) = is
  known_here k left b m hb at other marked (inr end) =
      let same : number_of l (s.ends end.0) ≡ k = ap (number_of l) end.2 ∙ at in
      elim (cases_lt end.0 left) [
        | inl early ↦ (let low = lower k left b m hb at other marked end.0 early in absurd (omega (arith, low, same)))
        | inr late ↦ (let high = marked.high end.0 late end.1 in absurd (omega (arith, high, same)))
      ]

  pub step_other : (k left : ℕ) (b : BlockId) (m n : Marked) → HasBlock l b → number_of l b ≡ k → (left ≢ 0 → label_of l labels b ≢ left) → Sets m n b (known b)
      → AreMarkedFrom l known (length words) s.ends (k + 1) left m → AreMarkedFrom l known (length words) s.ends k left n
  step_other k left b m n hb at other sets marked = record {
    lattice = sets.same ∙ marked.lattice;
    whole = sets.whole;
    few = marked.few;
    low = lower k left b m hb at other marked;
    high = λ r past less. (let h = marked.high r past less in omega (arith, h));
    marks = marks_next k b (known b) m n hb at marked.lattice sets (λ is. inl is, known_here k left b m hb at other marked) marked.marks;
  }

  pub step_start : (m : Marked) → m.lattice ≡ l → IsWhole m → AreMarkedFrom l known (length words) s.ends (blocks_count l) (length words) m
  step_start m same whole = record {
    lattice = same;
    whole = whole;
    few = omega arith;
    low = λ r less. number_below l (s.ends r) (s.are_ends.end r less).block;
    high = λ r past less. absurd (omega (arith, past, less));
    marks = λ b hb from. (let below = number_below l b hb in absurd (omega (arith, from, below)));
  }

  reveals : RevealWords l known (length words) (word_in words) s.ends
  reveals = ends_reveal_words l known (length words) (word_in words) s.ends s.are_ends

  -- where all blocks were passed, the marks are those of the known blocks and of the ends
  pub step_last : (left : ℕ) (m : Marked) → AreMarkedFrom l known (length words) s.ends 0 left m → AddsEnds l known (is_marked m)
  step_last left m marked = record {
    kept = kept';
    ends = ends';
    only = λ d hd is. elim ((marked.marks d hd (omega arith)).0 is) [
      | inl is_known ↦ inl is_known
      | inr end ↦ inr (subst (IsEnd l known) end.2 (word_in words end.0, s.are_ends.end end.0 end.1))
    ];
    determined = with_ends l known (is_marked m) kept' ends';
    aside = λ b d hb determined hd is. elim ((marked.marks d hd (omega arith)).0 is) [
      | inl is_known ↦ inl is_known
      | inr end ↦ inr (word_in words end.0, subst (λ (e : BlockId). SetsAside l known (is_marked m) b e (word_in words end.0)) end.2 (set_aside b hb determined end.0 end.1))
    ];
  }
    where
      kept' : (d : BlockId) → HasBlock l d → IsTrue (known d) → IsTrue (is_marked m d)
      kept' d hd is = (marked.marks d hd (omega arith)).1 (inl is)

      ends' : (d : BlockId) → IsEnd l known d → IsTrue (is_marked m d)
      ends' d end = (marked.marks d end.1.block (omega arith)).1 (inr (reveals.all d end))

      set_aside : (b : BlockId) → HasBlock l b → Determines l known b → (r : ℕ) → r < length words → SetsAside l known (is_marked m) b (s.ends r) (word_in words r)
      set_aside b hb determined r less =
          let end = s.are_ends.end r less in
          record {
            misses = end.misses;
            contains = end.contains;
            alone = λ x hx in_more contained. elim ((marked.marks x hx (omega arith)).0 in_more) [
              | inl is_known ↦ absurd (true≢false (sym contained ∙ end.misses x hx is_known))
              | inr other ↦ elim (cases_eq r other.0) [
                | inl same ↦ sym other.2 ∙ ap s.ends (sym same)
                | inr apart ↦
                    absurd (true≢false (sym contained ∙ ap (is_in_codeword l (word_in words r)) (sym other.2) ∙ s.are_ends.alone r other.0 less other.1 apart))
              ]
            ];
            lacks = words-miss l known (word_in words r) end.misses b hb determined;
          }
