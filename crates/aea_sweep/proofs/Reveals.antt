-- What the words show at the end.
use Rattle.std.proofs.Common.{◌≡◌, ℕ, ◌<◌, ◌≤◌, inl, inr, Bool, true, false, ◌&&◌, sym, ◌∙◌, ap, arith}
use Rattle.std.specs.Prelude.{nat_le}
use Rattle.std.proofs.lemmas.Bool.{cases_lt, cases_eq, and_parts, le-leb, leb-true, true≢false}
use Rattle.aea_lattice.specs.declared.blocks.BlockId.{BlockId}
use Rattle.aea_lattice.specs.declared.grid.Lattice.{Lattice}
use Rattle.aea_lattice.specs.Blocks.{HasBlock, number_of}
use Rattle.aea_lattice.specs.Equations.{is_in_codeword}
use Rattle.aea_lattice.specs.Facts.{Misses}
use Rattle.aea_lattice.specs.LeastWord.{IsEnd, IsWordOfEnd, IsLeastWord}
use Rattle.aea_lattice.proofs.Equations.{number_equal}
use Rattle.aea_lattice.proofs.Odd.{same_test}
use Rattle.aea_gauss_laws.specs.Parities.{odd_below}
use Rattle.aea_gauss_laws.proofs.Columns.{odd_below-none, odd_below-one, and-true, and-false}
use Rattle.aea_gauss_words.proofs.Reduced.{odd_some}
use Rattle.aea_lattice.proofs.GreatestBelow.{greatest, nothing, find_greatest}
use Rattle.aea_readings.proofs.Leads.{codeword_same}
use Rattle.aea_sweep.specs.Sweep.{IsOpen, AreEnds, sum_of_words}
use Rattle.aea_sweep.proofs.StepLaws.{EndsRevealWords}
use Rattle.aea_sweep.proofs.Codes.{codeword-sum}

module _ (l : Lattice) (known : BlockId → Bool) (rows : ℕ) (words : ℕ → ℕ → Bool) (ends : ℕ → BlockId) (e : AreEnds l known rows words ends) where
  abbrev inside : ℕ → Bool
  inside i = nat_le 1 i && nat_le i l.n

  -- the nodes that the lattice has
  abbrev cut : (ℕ → Bool) → ℕ → Bool
  cut v i = inside i && v i

  cut_same : (v : ℕ → Bool) (b : BlockId) → HasBlock l b → is_in_codeword l (cut v) b ≡ is_in_codeword l v b
  cut_same v b has = codeword_same l (cut v) v (λ k first last. ap (λ x. (x && nat_le k l.n) && v k) (le-leb 1 k first) ∙ ap (λ x. x && v k) (le-leb k l.n last)) b has

  cut_open : (v : ℕ → Bool) → Misses l known v → IsOpen l l.n known (cut v)
  cut_open v misses = record {
    first = λ i h. leb-true 1 i (and_parts (nat_le 1 i) (nat_le i l.n) (and_parts (inside i) (v i) h).0).0;
    last = λ i h. leb-true i l.n (and_parts (nat_le 1 i) (nat_le i l.n) (and_parts (inside i) (v i) h).0).1;
    misses = λ d has is_known. cut_same v d has ∙ misses d has is_known;
  }

  module _ (v : ℕ → Bool) (misses : Misses l known v) where
    abbrev picks : ℕ → Bool
    picks = (e.words_are.whole (cut v) (cut_open v misses)).0

    -- the words that make up a set show its blocks
    has_sum : (b : BlockId) → HasBlock l b → is_in_codeword l v b ≡ odd_below (λ r. picks r && is_in_codeword l (words r) b) rows
    has_sum b has =
        sym (cut_same v b has)
        ∙ ap (λ u. is_in_codeword l u b) (same_test (cut v) (λ i. sum_of_words rows words picks i) (e.words_are.whole (cut v) (cut_open v misses)).1)
        ∙ codeword-sum l words picks rows b

    has_end : (q : ℕ) → q < rows → is_in_codeword l v (ends q) ≡ picks q
    has_end q less =
        has_sum (ends q) (e.end q less).block
        ∙ odd_below-one (λ r. picks r && is_in_codeword l (words r) (ends q)) rows q less
        (λ r r_less other. ap (λ x. picks r && x) (e.alone r q r_less less other) ∙ and-false (picks r))
        ∙ ap (λ x. picks q && x) (e.end q less).contains ∙ and-true (picks q)

  rising : (r q : ℕ) → r ≤ q → q < rows → number_of l (ends r) ≤ number_of l (ends q)
  rising r q low less = elim (cases_eq r q) [
    | inl same ↦ (let numbers : number_of l (ends r) ≡ number_of l (ends q) = ap (λ k. number_of l (ends k)) same in omega arith)
    | inr other ↦ (let up = e.rise r q (omega arith) less in omega arith)
  ]

  all : (d : BlockId) → IsEnd l known d → (r : ℕ) × (r < rows) × (ends r ≡ d)
  all d is_end =
      let v = is_end.0 in
      let o = is_end.1 in
      let p = picks v o.misses in
      elim (find_greatest p rows) [
        | nothing none ↦
            absurd
            (true≢false
            (sym o.contains ∙ has_sum v o.misses d o.block
            ∙ odd_below-none (λ r. p r && is_in_codeword l (words r) d) rows (λ r less. ap (λ x. x && is_in_codeword l (words r) d) (none r less))))
        | greatest c less here most ↦
            (let low = o.greatest (ends c) (e.end c less).block (has_end v o.misses c less ∙ here) in
            let some = odd_some (λ r. p r && is_in_codeword l (words r) d) rows (sym (has_sum v o.misses d o.block) ∙ o.contains) in
            let both = and_parts (p some.place) (is_in_codeword l (words some.place) d) some.here in
            let high = (e.end some.place some.below).greatest d o.block both.1 in
            let up = rising some.place c (most some.place some.below both.0) less in
            (c, less, number_equal l (ends c) d (e.end c less).block o.block (omega arith)))
      ]

  word : (r : ℕ) → r < rows → IsWordOfEnd l known (ends r) (words r)
  word r less = record {
    is_end = (words r, e.end r less);
    misses = (e.end r less).misses;
    contains = (e.end r less).contains;
    alone = λ d d_end d_in.
        (let some = all d d_end in
        elim (cases_eq r some.0) [
          | inl same ↦ sym (ap ends same ∙ some.2)
          | inr other ↦ absurd (true≢false (sym d_in ∙ ap (is_in_codeword l (words r)) (sym some.2) ∙ e.alone r some.0 less some.1 other))
        ]);
  }

  least : (b : BlockId) (r : ℕ) → HasBlock l b → r < rows → is_in_codeword l (words r) b ≡ true
      → ((q : ℕ) → q < r → is_in_codeword l (words q) b ≡ false) → IsLeastWord l known b (ends r) (words r)
  least b r has less here none = record {
    word = word r less;
    contains = here;
    least = λ d others w b_in.
        (let p = picks others w.misses in
        let some = odd_some (λ q. p q && is_in_codeword l (words q) b) rows (sym (has_sum others w.misses b has) ∙ b_in) in
        let both = and_parts (p some.place) (is_in_codeword l (words some.place) b) some.here in
        let same : ends some.place ≡ d =
        w.alone (ends some.place) (words some.place, e.end some.place some.below) (has_end others w.misses some.place some.below ∙ both.0) in
        elim (cases_lt some.place r) [
          | inl below ↦ absurd (true≢false (sym both.1 ∙ none some.place below))
          | inr above ↦
              (let up = rising r some.place (omega arith) some.below in
              let numbers : number_of l (ends some.place) ≡ number_of l d = ap (number_of l) same in omega arith)
        ]);
  }

  none_has : (b : BlockId) → HasBlock l b → ((r : ℕ) → r < rows → is_in_codeword l (words r) b ≡ false)
      → (nodes : ℕ → Bool) → Misses l known nodes → is_in_codeword l nodes b ≡ false
  none_has b has lack v misses =
      has_sum v misses b has
      ∙ odd_below-none (λ r. picks v misses r && is_in_codeword l (words r) b) rows (λ r less. ap (λ x. picks v misses r && x) (lack r less) ∙ and-false (picks v misses r))

pub ends_reveal_words : EndsRevealWords
ends_reveal_words l known rows words ends e = record {
  word = word l known rows words ends e;
  all = all l known rows words ends e;
  least = least l known rows words ends e;
  none = none_has l known rows words ends e;
}
