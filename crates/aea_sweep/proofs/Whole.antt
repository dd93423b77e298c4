-- The pass begins and ends.
use Rattle.std.proofs.Common.{◌≡◌, ℕ, zero, suc, ◌+◌, ◌-◌, ◌<◌, inl, inr, Bool, true, false, ◌&&◌, List, [], ◌++◌, length, get_or, refl, sym, ◌∙◌, ap, subst, arith}
use Rattle.std.proofs.lemmas.Bool.{cases_Bool, cases_eq, true≢false}
use Rattle.std.proofs.lemmas.List.{length-append, get_or-append-add}
use Rattle.aea_lattice.specs.declared.blocks.BlockId.{BlockId}
use Rattle.aea_lattice.specs.declared.blocks.Class.TheVariants.{Datum}
use Rattle.aea_lattice.specs.declared.grid.Lattice.{Lattice}
use Rattle.aea_lattice.specs.Blocks.{HasBlock}
use Rattle.aea_lattice.specs.Parity.{differ}
use Rattle.aea_gauss_laws.specs.Parities.{odd_below}
use Rattle.aea_gauss_laws.proofs.Columns.{odd_below-none, and-false}
use Rattle.aea_sweep.specs.declared.heads.Heads.{Heads}
use Rattle.aea_sweep.specs.Heads.{head_in}
use Rattle.aea_sweep.specs.Words.{RiseWithin, has_odd, word_in}
use Rattle.aea_sweep.specs.Sweep.{IsOpen, AreWords, AreEnds}
use Rattle.aea_sweep.specs.States.{places_of, IsPassed, seen_to, AreSwept, AreEndWords}
use Rattle.aea_sweep.proofs.Steps.{open_none}
use Rattle.aea_sweep.proofs.States.{same_words, same_rows, few_places}
use Rattle.aea_sweep.proofs.Passing.{passed_true}
use Rattle.aea_sweep.proofs.Datums.{same_seen}

-- before the first node
pub begin_swept : (l : Lattice) (known : BlockId → Bool) (words : List (List ℕ)) (heads : List Heads) → length words ≡ suc (places_of l) → length heads ≡ suc (places_of l)
    → ((r : ℕ) → get_or words r [] ≡ []) → ((r t : ℕ) → head_in heads r t ≡ false) → AreSwept l known 0 l.alpha words heads
begin_swept l known words heads rows slots empty clear =
    let none : (r n : ℕ) → word_in words r n ≡ false = λ r n. ap (λ (xs : List ℕ). has_odd xs n) (empty r) in
    record {
      are_open = record {
        slots = slots;
        rows = omega arith;
        rising = λ r. subst (λ (xs : List ℕ). RiseWithin 1 xs 1) (sym (empty r)) (omega arith);
        words_are = record {
          each = λ r less. subst (λ (f : ℕ → Bool). IsOpen l 0 (seen_to known 0 l.alpha) f) (sym (same_words (word_in words r) (λ n. false) (none r))) (open_none l 0 (seen_to known 0 l.alpha));
          whole = λ nodes o. (λ r. false, λ n. outside nodes o n ∙ sym (odd_below-none (λ r. false && word_in words r n) (length words) (λ r less. refl)));
        };
        heads_are = record {
          live = λ b live r less. (let a = live.block.first in let m = live.most in absurd (omega arith));
          only = λ r t less in_t own. absurd (true≢false (sym own ∙ clear r t));
        };
        ends = λ r. record { node = 0; class = Datum };
        closed = record {
          end = λ r past less. absurd (omega arith);
          passed = λ r past less. absurd (omega arith);
          alone = λ r k past less k_less apart. absurd (omega arith);
          rise = λ r k past less k_less. absurd (omega arith);
        };
      };
      pivots = record {
        alone = λ t r t_less r_less other own. clear r t;
        empty = λ t n less lacks. none t n;
      };
      spare = none (places_of l);
    }
  where
    outside : (nodes : ℕ → Bool) → IsOpen l 0 (seen_to known 0 l.alpha) nodes → (n : ℕ) → nodes n ≡ false
    outside nodes o n = elim (cases_Bool (nodes n)) [
      | inl is ↦ (let low = o.first n is in let high = o.last n is in absurd (omega arith))
      | inr is_not ↦ is_not
    ]

-- a sum whose first terms are nothing is that of the others
odd_shift : (f : ℕ → Bool) (k m : ℕ) → ((r : ℕ) → r < k → f r ≡ false) → odd_below f (k + m) ≡ odd_below (λ r. f (k + r)) m
odd_shift f k zero none = let e : k + zero ≡ k = omega arith in ap (odd_below f) e ∙ odd_below-none f k none
odd_shift f k (suc m) none =
    let e : k + suc m ≡ suc (k + m) = omega arith in
    ap (odd_below f) e ∙ ap (λ (x : Bool). differ x (f (k + m))) (odd_shift f k m none)

module _ (l : Lattice) (known : BlockId → Bool) (words : List (List ℕ)) (heads : List Heads) (s : AreSwept l known l.n l.alpha words heads) where
  no_heads_left : (r t : ℕ) → r < suc (places_of l) → t < 192 → head_in heads r t ≡ false
  no_heads_left r t less in_t = elim (cases_Bool (head_in heads r t)) [
    | inl own ↦
        (let b = s.are_open.heads_are.only r t less in_t own in
        elim b.1.goes_on [
          | inl later ↦ (let a = later.1 in let e = later.2 in absurd (omega arith))
          | inr here ↦ (let a = here.1 in let e = b.1.block.used in absurd (omega arith))
        ])
    | inr lacks ↦ lacks
  ]

  no_words_left : (r n : ℕ) → r < suc (places_of l) → word_in words r n ≡ false
  no_words_left r n less = elim (cases_eq r (places_of l)) [
    | inl spare ↦ ap (λ (x : ℕ). word_in words x n) spare ∙ s.spare n
    | inr slot ↦ s.pivots.empty r n (omega arith) (no_heads_left r r less (let f = few_places l in omega arith))
  ]

  all_seen : (d : BlockId) → HasBlock l d → seen_to known l.n l.alpha d ≡ known d
  all_seen d has = ap (λ b. known d && b) (passed_true l.n l.alpha d (passed d has)) ∙ and-true (known d)
    where
      and-true : (b : Bool) → (b && true) ≡ b
      and-true true = refl
      and-true false = refl

      passed : (d : BlockId) → HasBlock l d → IsPassed l.n l.alpha d
      passed d has = elim (cases_eq d.node l.n) [
        | inl last ↦ inr (last, has.used)
        | inr before ↦ inl (let h = has.last in omega arith)
      ]

  all_words : AreWords l l.n known (length words) (word_in words)
  all_words = same_seen l l.n (seen_to known l.n l.alpha) known (length words) (word_in words) all_seen s.are_open.words_are

  count : ℕ
  count = length words - suc (places_of l)

  total : suc (places_of l) + (length words - suc (places_of l)) ≡ length words
  total = let h = s.are_open.rows in omega arith

  shifted : AreWords l l.n known (length words - suc (places_of l)) (λ r. word_in words (suc (places_of l) + r))
  shifted = record {
    each = λ r less. all_words.each (suc (places_of l) + r) (let h = total in omega arith);
    whole = λ nodes o.
        let w = all_words.whole nodes o in (
          λ r. w.0 (suc (places_of l) + r),
          λ n.
              w.1 n
              ∙ ap (odd_below (λ r. w.0 r && word_in words r n)) (sym total)
              ∙ odd_shift (λ r. w.0 r && word_in words r n) (suc (places_of l)) (length words - suc (places_of l))
              (λ r less. ap (λ b. w.0 r && b) (no_words_left r n less) ∙ and-false (w.0 r)),
        );
  }

  are_ends : AreEnds l known (length words - suc (places_of l)) (λ r. word_in words (suc (places_of l) + r)) (λ r. s.are_open.ends (suc (places_of l) + r))
  are_ends =
      let closed = s.are_open.closed in
      record {
        words_are = shifted;
        end = λ r less. closed.end (suc (places_of l) + r) (omega arith) (let h = total in omega arith);
        alone = λ r q r_less q_less apart.
            closed.alone (suc (places_of l) + q) (suc (places_of l) + r) (omega arith) (let h = total in omega arith) (let h = total in omega arith) (λ h. apart (omega arith));
        rise = λ r q less q_less. closed.rise (suc (places_of l) + r) (suc (places_of l) + q) (omega arith) (omega arith) (let h = total in omega arith);
      }

-- The closed words are those of the ends.
pub end_swept : (l : Lattice) (known : BlockId → Bool) (slots closed : List (List ℕ)) (heads : List Heads) → length slots ≡ suc (places_of l)
    → AreSwept l known l.n l.alpha (slots ++ closed) heads → AreEndWords l known closed
end_swept l known slots closed heads long s =
    record {
      rising = λ r. subst (λ (xs : List ℕ). RiseWithin 1 xs (suc l.n)) (row r) (s.are_open.rising (suc (places_of l) + r));
      ends = λ r. s.are_open.ends (suc (places_of l) + r);
      are_ends =
          subst (λ (n : ℕ). AreEnds l known n (word_in closed) (λ r. s.are_open.ends (suc (places_of l) + r))) count_is
          (subst (λ (f : ℕ → ℕ → Bool). AreEnds l known (length (slots ++ closed) - suc (places_of l)) f (λ r. s.are_open.ends (suc (places_of l) + r)))
          (same_rows (λ r. word_in (slots ++ closed) (suc (places_of l) + r)) (word_in closed) (λ r n. ap (λ (xs : List ℕ). has_odd xs n) (row r)))
          (are_ends l known (slots ++ closed) heads s));
    }
  where
    row : (r : ℕ) → get_or (slots ++ closed) (suc (places_of l) + r) [] ≡ get_or closed r []
    row r = ap (λ (n : ℕ). get_or (slots ++ closed) (n + r) []) (sym long) ∙ get_or-append-add slots closed r []

    count_is : length (slots ++ closed) - suc (places_of l) ≡ length closed
    count_is = let h = length-append slots closed in let g = long in omega arith
