-- How the state of the pass stays while words are added to others and change places.
use Rattle.std.proofs.Common.{◌≡◌, ℕ, suc, ◌+◌, ◌-◌, ◌<◌, ◌≤◌, inl, inr, Bool, true, false, ◌&&◌, List, length, refl, sym, ◌∙◌, ap, subst, arith}
use Rattle.std.proofs.lemmas.Bool.{true≢false}
use Rattle.aea_lattice.specs.declared.blocks.Class.{Class}
use Rattle.aea_lattice.specs.declared.blocks.Class.TheVariants.{Datum, Horiz, Right, Left}
use Rattle.aea_lattice.specs.declared.blocks.BlockId.{BlockId}
use Rattle.aea_lattice.specs.declared.grid.Lattice.{Lattice}
use Rattle.aea_lattice.specs.Blocks.{HasBlock, HasParity, class_number}
use Rattle.aea_lattice.specs.Strands.{row, column, strand_of}
use Rattle.aea_lattice.specs.Ends.{strands_of}
use Rattle.aea_lattice.specs.Equations.{is_in_codeword}
use Rattle.aea_lattice.specs.LeastWord.{IsEndOf}
use Rattle.aea_lattice.specs.Parity.{differ}
use Rattle.aea_lattice.proofs.Odd.{same_test, differ-false_r}
use Rattle.aea_lattice.proofs.Neighbours.{some_rows, woven}
use Rattle.std.proofs.lemmas.Nat.{mod_below}
use Rattle.std.proofs.lemmas.Bool.Decides.{nat_tests}
use Rattle.aea_sweep.specs.declared.heads.Heads.{Heads}
use Rattle.aea_sweep.specs.Heads.{head_in}
use Rattle.aea_sweep.specs.Words.{word_in}
use Rattle.aea_sweep.specs.Tables.{AddsRow}
use Rattle.aea_sweep.specs.Sweep.{AreWords, with_added}
use Rattle.aea_sweep.specs.States.{places_of, place_on, place_at, seen_to, AreOpen}
use Rattle.aea_sweep.proofs.Codes.{one_of, codeword-differ, codeword-and}
use Rattle.aea_sweep.proofs.Steps.{adds_word}

-- families of words that are the same at each node are one
pub same_rows : (f g : ℕ → ℕ → Bool) → ((r i : ℕ) → f r i ≡ g r i) → f ≡ g
same_rows f g same = same_test f g (λ r. same_test (f r) (g r) (same r))

pub same_words : (f g : ℕ → Bool) → ((i : ℕ) → f i ≡ g i) → f ≡ g
same_words f g same = same_test f g same

-- the codeword of a word to which another was added
pub codeword-added : (l : Lattice) (words : ℕ → ℕ → Bool) (from : ℕ) (hit : ℕ → Bool) (r : ℕ) (b : BlockId)
    → is_in_codeword l (with_added words from hit r) b ≡ differ (is_in_codeword l (words r) b) (hit r && is_in_codeword l (words from) b)
codeword-added l words from hit r b =
    codeword-differ l (words r) (λ i. hit r && words from i) b
    ∙ ap (differ (is_in_codeword l (words r) b)) (codeword-and l (hit r) (words from) b)

pub few_rows : (l : Lattice) → l.s ≤ 16
few_rows l = let h = l.in_profile in grind (arith, nat_tests)

pub few_strands : (l : Lattice) → l.p ≤ 64
few_strands l = let h = l.in_profile in grind (arith, nat_tests)

-- there are fewer places than heads
pub few_places : (l : Lattice) → places_of l < 192
few_places l = let a = few_rows l in let b = few_strands l in omega arith

place-below : (l : Lattice) (c : Class) (i : ℕ) → HasParity l c → place_on l c (strand_of l c i) < places_of l
place-below l Datum i has = let h = has.parity in absurd (omega arith)
place-below l Horiz i has = let below : row l i < l.s = mod_below (i - 1) l.s (some_rows l) in omega arith
place-below l Right i has =
    let shape = woven l has.used in
    let below : strand_of l Right i < l.p = mod_below (column l i + (l.p - row l i)) l.p (let a = shape.two in let b = shape.p_least in omega arith) in
    omega arith
place-below l Left i has =
    let shape = woven l (let used = has.used in omega arith) in
    let below : strand_of l Left i < l.p = mod_below (column l i + row l i) l.p (let a = shape.two in let b = shape.p_least in omega arith) in
    omega arith

-- a class has more strands than the number of each
pub strand_below : (l : Lattice) (c : Class) (i : ℕ) → HasParity l c → strand_of l c i < strands_of l c
strand_below l Datum i has = let h = has.parity in absurd (omega arith)
strand_below l Horiz i has = mod_below (i - 1) l.s (some_rows l)
strand_below l Right i has =
    let shape = woven l has.used in
    mod_below (column l i + (l.p - row l i)) l.p (let a = shape.two in let b = shape.p_least in omega arith)
strand_below l Left i has =
    let shape = woven l (let used = has.used in omega arith) in
    mod_below (column l i + row l i) l.p (let a = shape.two in let b = shape.p_least in omega arith)

pub place_below : (l : Lattice) (b : BlockId) → HasBlock l b → 1 ≤ class_number b.class → place_at l b < places_of l
place_below l b has parity = place-below l b.class b.node (record { parity = parity; used = has.used })

pub place_few : (l : Lattice) (b : BlockId) → HasBlock l b → 1 ≤ class_number b.class → place_at l b < 192
place_few l b has parity = let a = place_below l b has parity in let e = few_places l in omega arith

-- two parities at one place are of one class and one strand
class_place : (l : Lattice) (c d : Class) (i j : ℕ) → HasParity l c → HasParity l d → place_on l c (strand_of l c i) ≡ place_on l d (strand_of l d j) → c ≡ d
class_place l Datum d i j a b same = let h = a.parity in absurd (omega arith)
class_place l Horiz Datum i j a b same = let h = b.parity in absurd (omega arith)
class_place l Horiz Horiz i j a b same = refl
class_place l Horiz Right i j a b same = let e : strand_of l Horiz i < l.s = mod_below (i - 1) l.s (some_rows l) in absurd (omega arith)
class_place l Horiz Left i j a b same = let e : strand_of l Horiz i < l.s = mod_below (i - 1) l.s (some_rows l) in absurd (omega arith)
class_place l Right Datum i j a b same = let h = b.parity in absurd (omega arith)
class_place l Right Horiz i j a b same = let e : strand_of l Horiz j < l.s = mod_below (j - 1) l.s (some_rows l) in absurd (omega arith)
class_place l Right Right i j a b same = refl
class_place l Right Left i j a b same =
    let shape = woven l a.used in
    let below : strand_of l Right i < l.p = mod_below (column l i + (l.p - row l i)) l.p (let x = shape.two in let y = shape.p_least in omega arith) in
    absurd (omega arith)
class_place l Left Datum i j a b same = let h = b.parity in absurd (omega arith)
class_place l Left Horiz i j a b same = let e : strand_of l Horiz j < l.s = mod_below (j - 1) l.s (some_rows l) in absurd (omega arith)
class_place l Left Right i j a b same =
    let shape = woven l b.used in
    let below : strand_of l Right j < l.p = mod_below (column l j + (l.p - row l j)) l.p (let x = shape.two in let y = shape.p_least in omega arith) in
    absurd (omega arith)
class_place l Left Left i j a b same = refl

strand_place : (l : Lattice) (c : Class) (i j : ℕ) → place_on l c i ≡ place_on l c j → i ≡ j
strand_place l Datum i j same = same
strand_place l Horiz i j same = same
strand_place l Right i j same = omega arith
strand_place l Left i j same = omega arith

pub one_class : (l : Lattice) (b d : BlockId) → HasBlock l b → HasBlock l d → 1 ≤ class_number b.class → 1 ≤ class_number d.class → place_at l b ≡ place_at l d → b.class ≡ d.class
one_class l b d hb hd pb pd same = class_place l b.class d.class b.node d.node (record { parity = pb; used = hb.used }) (record { parity = pd; used = hd.used }) same

pub one_strand : (l : Lattice) (b d : BlockId) → HasBlock l b → HasBlock l d → 1 ≤ class_number b.class → 1 ≤ class_number d.class → place_at l b ≡ place_at l d
    → strand_of l b.class b.node ≡ strand_of l b.class d.node
one_strand l b d hb hd pb pd same =
    let c = one_class l b d hb hd pb pd same in
    strand_place l b.class (strand_of l b.class b.node) (strand_of l b.class d.node)
    (same ∙ ap (λ (x : Class). place_on l x (strand_of l x d.node)) (sym c))

-- the state stays where the word of a slot is added to others
pub adds-open : (l : Lattice) (known : BlockId → Bool) (i q from : ℕ) (hit : ℕ → Bool) (words new : List (List ℕ)) (heads headed : List Heads)
    → from < suc (places_of l) → hit from ≡ false → ((r : ℕ) → suc (places_of l) ≤ r → hit r ≡ false)
    → AddsRow from hit words new heads headed → AreOpen l known i q words heads → AreOpen l known i q new headed
adds-open l known i q from hit words new heads headed inside out slots_alone adds s =
    let slots = suc (places_of l) in
    let rows = length words in
    let w = word_in words in
    let same : word_in new ≡ with_added w from hit = same_rows (word_in new) (with_added w from hit) adds.words_are in
    let code : (r : ℕ) (b : BlockId) → is_in_codeword l (word_in new r) b ≡ differ (is_in_codeword l (w r) b) (hit r && is_in_codeword l (w from) b) =
    λ r b. ap (λ (f : ℕ → ℕ → Bool). is_in_codeword l (f r) b) same ∙ codeword-added l w from hit r b in
    let kept : (r : ℕ) → slots ≤ r → word_in new r ≡ w r =
    λ r past. same_words (word_in new r) (w r) (λ k. adds.words_are r k ∙ ap (λ b. differ (w r k) (b && w from k)) (slots_alone r past) ∙ differ-false_r (w r k)) in
    let long : length new ≡ rows = adds.size.words_long in
    record {
      slots = adds.size.heads_long ∙ s.slots;
      rows = (let h = s.rows in omega arith);
      rising = adds.rises (suc i) s.rising;
      words_are = subst (λ (f : ℕ → ℕ → Bool). AreWords l i (seen_to known i q) (length new) f) (sym same)
          (subst (λ (n : ℕ). AreWords l i (seen_to known i q) n (with_added w from hit)) (sym long)
          (adds_word l i (seen_to known i q) rows w from hit (let h = s.rows in omega arith) out s.words_are));
      heads_are = record {
        live = λ b live r less.
            adds.heads_are r (place_at l b) (place_few l b live.block live.parity)
            ∙ ap (λ (x : Bool). differ x (hit r && head_in heads from (place_at l b))) (s.heads_are.live b live r less)
            ∙ ap (λ (x : Bool). differ (is_in_codeword l (w r) b) (hit r && x)) (s.heads_are.live b live from inside)
            ∙ sym (code r b);
        only = λ r t less fits has.
            elim (one_of (head_in heads r t) (hit r && head_in heads from t) (sym (adds.heads_are r t fits) ∙ has)) [
              | inl own ↦ s.heads_are.only r t less fits own
              | inr other ↦ s.heads_are.only from t inside fits (second (hit r) (head_in heads from t) other)
            ];
      };
      ends = s.ends;
      closed = record {
        end = λ r past less. subst (λ (f : ℕ → Bool). IsEndOf l known f (s.ends r)) (sym (kept r past)) (s.closed.end r past (omega arith));
        passed = λ r past less. s.closed.passed r past (omega arith);
        alone = λ r k past less k_less other.
            code k (s.ends r)
            ∙ ap (λ (x : Bool). differ x (hit k && is_in_codeword l (w from) (s.ends r))) (s.closed.alone r k past (omega arith) (omega arith) other)
            ∙ ap (λ (x : Bool). hit k && x) (s.closed.alone r from past (omega arith) (let h = s.rows in omega arith) (λ e. omega arith))
            ∙ and-none (hit k);
        rise = λ r k past less k_less. s.closed.rise r k past less (omega arith);
      };
    }
  where
    second : (a b : Bool) → (a && b) ≡ true → b ≡ true
    second true b h = h
    second false b h = absurd (true≢false (sym h))

    and-none : (a : Bool) → (a && false) ≡ false
    and-none true = refl
    and-none false = refl
