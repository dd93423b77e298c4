-- The spare word loses the heads that slots have of their own.
use Rattle.std.proofs.Common.{◌≡◌, ◌≢◌, ℕ, ◌+◌, ◌<◌, ◌≤◌, inl, inr, Bool, true, false, ◌&&◌, ◌==◌, List, refl, sym, ◌∙◌, ap, arith}
use Rattle.std.proofs.lemmas.Bool.{cases_eq, eq-eqb, ne_eqb, true≢false}
use Rattle.aea_lattice.specs.declared.blocks.BlockId.{BlockId}
use Rattle.aea_lattice.specs.declared.grid.Lattice.{Lattice}
use Rattle.aea_lattice.specs.Equations.{is_in_codeword}
use Rattle.aea_lattice.specs.Parity.{differ}
use Rattle.aea_lattice.proofs.Odd.{differ-false_r}
use Rattle.aea_sweep.specs.declared.heads.Heads.{Heads}
use Rattle.aea_sweep.specs.Heads.{head_in}
use Rattle.aea_sweep.specs.Words.{word_in}
use Rattle.aea_sweep.specs.Tables.{AddsRow, HasPlaces}
use Rattle.aea_sweep.specs.Sweep.{with_added}
use Rattle.aea_sweep.specs.States.{places_of, ArePivots, IsOwn, IsCleanTo}
use Rattle.aea_sweep.proofs.States.{adds-open, codeword-added, same_rows, few_places}

-- the rows to which the word of slot t is added
abbrev pub hits : ℕ → ℕ → List Heads → ℕ → Bool
hits spare t heads r = (r == spare) && (head_in heads t t && head_in heads spare t)

and-one : (a b x : Bool) → a ≡ false → differ x (((a && b)) && x) ≡ x
and-one a b x out = ap (λ c. differ x ((c && b) && x)) out ∙ differ-false_r x

module _ (l : Lattice) (known : BlockId → Bool) (i q : ℕ) (e : BlockId) (t : ℕ) (words new : List (List ℕ)) (heads headed : List Heads)
    (less : t < places_of l) (adds : AddsRow t (hits (places_of l) t heads) words new heads headed) (s : IsCleanTo l known i q e t words heads) where
  spare : ℕ
  spare = places_of l

  out : (r : ℕ) → r ≢ places_of l → hits (places_of l) t heads r ≡ false
  out r other = ap (λ b. b && (head_in heads t t && head_in heads (places_of l) t)) (ne_eqb r (places_of l) other)

  same_word : (r k : ℕ) → r ≢ places_of l → word_in new r k ≡ word_in words r k
  same_word r k other = adds.words_are r k ∙ ap (λ b. differ (word_in words r k) (b && word_in words t k)) (out r other) ∙ differ-false_r (word_in words r k)

  same_head : (r k : ℕ) → r ≢ places_of l → k < 192 → head_in headed r k ≡ head_in heads r k
  same_head r k other fits = adds.heads_are r k fits ∙ ap (λ b. differ (head_in heads r k) (b && head_in heads t k)) (out r other) ∙ differ-false_r (head_in heads r k)

  code : (r : ℕ) (b : BlockId) → is_in_codeword l (word_in new r) b ≡ differ (is_in_codeword l (word_in words r) b) (hits (places_of l) t heads r && is_in_codeword l (word_in words t) b)
  code r b =
      ap (λ (f : ℕ → ℕ → Bool). is_in_codeword l (f r) b) (same_rows (word_in new) (with_added (word_in words) t (hits (places_of l) t heads)) adds.words_are)
      ∙ codeword-added l (word_in words) t (hits (places_of l) t heads) r b

  and-false : (b : Bool) → (b && false) ≡ false
  and-false true = refl
  and-false false = refl

  pivots_stay : ArePivots (places_of l) (word_in new) (head_in headed)
  pivots_stay = record {
    alone = λ k r k_less r_less other has.
        same_head r k (λ h. omega arith) (let f = few_places l in omega arith)
        ∙ s.pivots.alone k r k_less r_less other (sym (same_head k k (λ h. omega arith) (let f = few_places l in omega arith)) ∙ has);
    empty = λ k n k_less no.
        same_word k n (λ h. omega arith)
        ∙ s.pivots.empty k n k_less (sym (same_head k k (λ h. omega arith) (let f = few_places l in omega arith)) ∙ no);
  }

  own_stays : IsOwn l new e
  own_stays = record {
    block = s.own.block;
    contains =
        code (places_of l) e
        ∙ ap (λ (x : Bool). differ (is_in_codeword l (word_in words (places_of l)) e) (hits (places_of l) t heads (places_of l) && x))
        (s.own.alone t (let h = s.are_open.rows in omega arith) (λ h. omega arith))
        ∙ ap (differ (is_in_codeword l (word_in words (places_of l)) e)) (and-false (hits (places_of l) t heads (places_of l)))
        ∙ differ-false_r (is_in_codeword l (word_in words (places_of l)) e) ∙ s.own.contains;
    alone = λ r inside other.
        code r e
        ∙ ap (λ (b : Bool). differ (is_in_codeword l (word_in words r) e) (b && is_in_codeword l (word_in words t) e)) (out r other)
        ∙ differ-false_r (is_in_codeword l (word_in words r) e)
        ∙ s.own.alone r (let long = adds.size.words_long in omega arith) other;
  }

  cleaned : (b d : Bool) → b ≡ true → differ d ((b && d) && b) ≡ false
  cleaned true true h = refl
  cleaned true false h = refl
  cleaned false d h = absurd (true≢false (sym h))

  at_spare : (k : ℕ) → k < 192 → head_in headed (places_of l) k ≡ differ (head_in heads (places_of l) k) ((head_in heads t t && head_in heads (places_of l) t) && head_in heads t k)
  at_spare k fits =
      adds.heads_are (places_of l) k fits
      ∙ ap (λ b. differ (head_in heads (places_of l) k) ((b && (head_in heads t t && head_in heads (places_of l) t)) && head_in heads t k)) (eq-eqb (places_of l) (places_of l) refl)

  free_then : (k : ℕ) → k < t + 1 → head_in headed k k ≡ true → head_in headed (places_of l) k ≡ false
  free_then k k_less has =
      let fits : k < 192 = (let f = few_places l in omega arith) in
      let had : head_in heads k k ≡ true = sym (same_head k k (λ h. omega arith) fits) ∙ has in
      elim (cases_eq k t) [
        | inl same ↦
            at_spare k fits
            ∙ ap (λ (j : ℕ). differ (head_in heads (places_of l) k) ((head_in heads j j && head_in heads (places_of l) j) && head_in heads j k)) (sym same)
            ∙ cleaned (head_in heads k k) (head_in heads (places_of l) k) had
        | inr other ↦
            at_spare k fits
            ∙ ap (λ (b : Bool). differ (head_in heads (places_of l) k) ((head_in heads t t && head_in heads (places_of l) t) && b))
            (s.pivots.alone k t (omega arith) less (λ h. other (sym h)) had)
            ∙ ap (differ (head_in heads (places_of l) k)) (and-false (head_in heads t t && head_in heads (places_of l) t))
            ∙ differ-false_r (head_in heads (places_of l) k)
            ∙ s.free k (omega arith) had
      ]

  pub clean_more : IsCleanTo l known i q e (t + 1) new headed
  clean_more = record {
    are_open = adds-open l known i q t (hits (places_of l) t heads) words new heads headed (omega arith) (out t (λ h. omega arith)) (λ r past. out r (λ h. omega arith)) adds s.are_open;
    pivots = pivots_stay;
    own = own_stays;
    free = free_then;
  }

-- no head past the places comes by adding words
pub adds-places : (low from : ℕ) (hit : ℕ → Bool) (words new : List (List ℕ)) (heads headed : List Heads) → from ≤ low → AddsRow from hit words new heads headed
    → HasPlaces low heads → HasPlaces low headed
adds-places low from hit words new heads headed inside adds had r t r_less past fits =
    adds.heads_are r t fits
    ∙ ap (λ (b : Bool). differ b (hit r && head_in heads from t)) (had r t r_less past fits)
    ∙ ap (λ (b : Bool). hit r && b) (had from t inside past fits) ∙ none (hit r)
  where
    none : (b : Bool) → (b && false) ≡ false
    none true = refl
    none false = refl
