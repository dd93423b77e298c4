-- What the words of the ends and the first word of each block show.
use Rattle.std.proofs.Common.{◌≡◌, ℕ, zero, suc, ◌+◌, ◌*◌, ◌^◌, ◌<◌, ◌≤◌, inl, inr, Bool, true, false, ◌&&◌, ◌||◌, ◌==◌, List, [], ◌∷◌, ◌++◌, map, filter, length, get_or, Option, None, refl, sym, ◌∙◌, ap, subst, arith}
use Rattle.std.specs.Prelude.{nat_le}
use Rattle.std.proofs.lemmas.Bool.{cases_Bool, cases_eq, cases_lt, eq-eqb, ne_eqb, true≢false, false≢true, le-leb}
use Rattle.std.proofs.lemmas.Bool.Decides.{nat_tests}
use Rattle.aea_lattice.specs.declared.blocks.BlockId.{BlockId}
use Rattle.aea_lattice.specs.declared.grid.Lattice.{Lattice}
use Rattle.aea_lattice.specs.Blocks.{HasBlock, number_of, blocks_count, block_at}
use Rattle.aea_lattice.specs.Strands.{nodes_to}
use Rattle.aea_lattice.specs.Equations.{is_odd_count, is_in_codeword}
use Rattle.aea_lattice.specs.Facts.{Misses}
use Rattle.aea_lattice.specs.Data.{Determines}
use Rattle.aea_lattice.specs.Lists.{has_node}
use Rattle.aea_lattice.specs.LeastWord.{IsLeastWord}
use Rattle.aea_lattice.specs.Parity.{differ}
use Rattle.aea_lattice.proofs.Equations.{number_below}
use Rattle.aea_lattice.proofs.Odd.{odd-cons, odd-filter}
use Rattle.aea_sweep.specs.Words.{has_odd, RiseWithin, word_in}
use Rattle.aea_sweep.specs.Sweep.{AreEnds}
use Rattle.aea_sweep.proofs.StepLaws.{RevealWords}
use Rattle.aea_sweep.specs.States.{AreEndWords}
use Rattle.aea_sweep.specs.Labels.{label_of}
use Rattle.aea_sweep.specs.Firsts.{IsFirst, AreFirst}
use Rattle.aea_sweep.specs.Entries.{entry_of}
use Rattle.aea_sweep.specs.Losses.{IsLoss, AreLosses}
use Rattle.aea_sweep.proofs.Reveals.{ends_reveal_words}
use Rattle.std.proofs.Math.Nat.{mul-le-mul_right}
use Rattle.std.proofs.Math.ListN.{get_or-eq_default}
use Rattle.aea_gauss_laws.proofs.Given.{given, escaped, one_or_other}
use Rattle.aea_lattice.proofs.BlockAt.{block_at-inside, number-block_at}
use Rattle.aea_gauss_laws.proofs.Bits.{given-determined}
use Rattle.aea_sweep.proofs.States.{same_words}
use Rattle.aea_sweep.proofs.Places.{few_classes}
use Rattle.aea_sweep.proofs.Passing.{none_above}
use Rattle.aea_sweep.proofs.OpenStretch.{one_node}
use Rattle.aea_sweep.proofs.Taking.{low_out, eq_swap}
use Rattle.aea_sweep.proofs.Merging.{rise-append}

odd_is : (xs : List ℕ) (i : ℕ) → has_odd xs i ≡ is_odd_count (λ k. k == i) xs
odd_is [] i = refl
odd_is (x ∷ xs) i =
    ap (λ (b : Bool). differ b (has_odd xs i)) (eq_swap i x) ∙ ap (differ (x == i)) (odd_is xs i) ∙ sym (odd-cons (λ k. k == i) x xs)

-- a rising list has a node once or not at all
pub node_odd : (low : ℕ) (xs : List ℕ) (top i : ℕ) → RiseWithin low xs top → has_node xs i ≡ has_odd xs i
node_odd low [] top i rises = refl
node_odd low (x ∷ xs) top i rises = elim (cases_eq i x) [
  | inl here ↦
      ap (λ b. b || has_node xs i) (eq-eqb i x here)
      ∙ sym (ap (λ b. differ b (has_odd xs i)) (eq-eqb i x here) ∙ ap (differ true) (low_out (suc x) xs top i rises.1 (omega arith)))
  | inr other ↦
      ap (λ b. b || has_node xs i) (ne_eqb i x other) ∙ node_odd (suc x) xs top i rises.1
      ∙ sym (ap (λ b. differ b (has_odd xs i)) (ne_eqb i x other))
]

head_in_list : (x : ℕ) (xs : List ℕ) (top : ℕ) → RiseWithin (suc x) xs top → has_odd (x ∷ xs) x ≡ true
head_in_list x xs top rises = ap (λ b. differ b (has_odd xs x)) (eq-eqb x x refl) ∙ ap (differ true) (low_out (suc x) xs top x rises (omega arith))

cancel : (a b c : Bool) → differ a b ≡ differ a c → b ≡ c
cancel true true true h = refl
cancel true true false h = absurd (false≢true h)
cancel true false true h = absurd (true≢false h)
cancel true false false h = refl
cancel false b c h = h

-- rising lists with the same nodes are one
rising_one : (low : ℕ) (xs ys : List ℕ) (top most : ℕ) → RiseWithin low xs top → RiseWithin low ys most → ((i : ℕ) → has_odd xs i ≡ has_odd ys i) → xs ≡ ys
rising_one low [] [] top most a b same = refl
rising_one low [] (y ∷ ys) top most a b same = absurd (false≢true (same y ∙ head_in_list y ys most b.1))
rising_one low (x ∷ xs) [] top most a b same = absurd (true≢false (sym (head_in_list x xs top a.1) ∙ same x))
rising_one low (x ∷ xs) (y ∷ ys) top most a b same = elim (cases_eq x y) [
  | inl here ↦
      (let below : RiseWithin (suc x) ys most = subst (λ (k : ℕ). RiseWithin (suc k) ys most) (sym here) b.1 in
      let rest = rising_one (suc x) xs ys top most a.1 below
      (λ i. cancel (i == x) (has_odd xs i) (has_odd ys i) (same i ∙ ap (λ (k : ℕ). differ (i == k) (has_odd ys i)) (sym here))) in
      ap (λ (k : ℕ). k ∷ xs) here ∙ ap (λ (zs : List ℕ). y ∷ zs) rest)
  | inr other ↦ elim (cases_lt x y) [
    | inl less ↦
        absurd (true≢false (sym (head_in_list x xs top a.1) ∙ same x ∙ low_out y (y ∷ ys) most x (omega arith, b.1) less))
    | inr past ↦
        absurd (false≢true (sym (low_out x (x ∷ xs) top y (omega arith, a.1) (omega arith)) ∙ same y ∙ head_in_list y ys most b.1))
  ]
]

filter_append : (p : ℕ → Bool) (xs ys : List ℕ) → filter p (xs ++ ys) ≡ filter p xs ++ filter p ys
filter_append p [] ys = refl
filter_append p (x ∷ xs) ys = elim (cases_Bool (p x)) [
  | inl yes' ↦ rw yes' (ap (λ (zs : List ℕ). x ∷ zs) (filter_append p xs ys))
  | inr lacks ↦ rw lacks (filter_append p xs ys)
]

filter_rises : (p : ℕ → Bool) (m : ℕ) → RiseWithin 1 (filter p (nodes_to m)) (suc m)
filter_rises p zero = omega arith
filter_rises p (suc m) =
    subst (λ (xs : List ℕ). RiseWithin 1 xs (suc (suc m))) (sym (filter_append p (nodes_to m) (suc m ∷ [])))
    (elim (cases_Bool (p (suc m))) [
      | inl yes' ↦ rw yes' (rise-append 1 (filter p (nodes_to m)) (suc m) (suc m ∷ []) (suc (suc m)) (filter_rises p m) (omega arith, omega arith))
      | inr lacks ↦ rw lacks (rise-append 1 (filter p (nodes_to m)) (suc m) [] (suc (suc m)) (filter_rises p m) (omega arith))
    ])

-- a rising list is that of the nodes that are in it
rising_filter : (xs : List ℕ) (n : ℕ) → RiseWithin 1 xs (suc n) → xs ≡ filter (has_odd xs) (nodes_to n)
rising_filter xs n rises = rising_one 1 xs (filter (has_odd xs) (nodes_to n)) (suc n) (suc n) rises (filter_rises (has_odd xs) n) same
  where
    same : (i : ℕ) → has_odd xs i ≡ has_odd (filter (has_odd xs) (nodes_to n)) i
    same i = elim (cases_lt i 1) [
      | inl none ↦ low_out 1 xs (suc n) i rises none ∙ sym (low_out 1 (filter (has_odd xs) (nodes_to n)) (suc n) i (filter_rises (has_odd xs) n) none)
      | inr some ↦
          sym (odd_is (filter (has_odd xs) (nodes_to n)) i ∙ odd-filter (has_odd xs) (λ k. k == i) (nodes_to n) ∙ one_node (has_odd xs) i some n
          ∙ elim (cases_lt n i) [
            | inl above ↦
                (let out : nat_le i n ≡ false = grind (arith, nat_tests) in
                ap (λ b. b && has_odd xs i) out ∙ sym (none_above 1 xs (suc n) i rises (omega arith)))
            | inr within ↦ ap (λ b. b && has_odd xs i) (le-leb i n within)
          ])
    ]

-- there are no more ends than blocks
ends_up : (l : Lattice) (known : BlockId → Bool) (rows : ℕ) (words : ℕ → ℕ → Bool) (ends : ℕ → BlockId) → AreEnds l known rows words ends → (r : ℕ) → r < rows → r ≤ number_of l (ends r)
ends_up l known rows words ends e zero less = omega arith
ends_up l known rows words ends e (suc r) less =
    let before = ends_up l known rows words ends e r (omega arith) in
    let up = e.rise r (suc r) (omega arith) less in
    omega arith

pub ends_few : (l : Lattice) (known : BlockId → Bool) (rows : ℕ) (words : ℕ → ℕ → Bool) (ends : ℕ → BlockId) → AreEnds l known rows words ends → rows ≤ blocks_count l
ends_few l known zero words ends e = omega arith
ends_few l known (suc r) words ends e =
    let low = ends_up l known (suc r) words ends e r (omega arith) in
    let high = number_below l (ends r) (e.end r (omega arith)).block in
    omega arith

pub few_words : (l : Lattice) (known : BlockId → Bool) (words : List (List ℕ)) → AreEndWords l known words → length words < 2 ^ 32
few_words l known words s =
    let few = ends_few l known (length words) (word_in words) s.ends s.are_ends in
    let nodes = l.in_range in
    let classes = few_classes l in
    let blocks : blocks_count l ≤ 1048576 * 4 = most l.n l.alpha nodes classes in
    omega arith
  where
    most : (n a : ℕ) → n ≤ 1048576 → a ≤ 3 → n * (1 + a) ≤ 1048576 * 4
    most n a hn ha = let m : n * (1 + a) ≤ 1048576 * (1 + a) = mul-le-mul_right (1 + a) hn in omega arith

-- what no word has is determined
pub determined_by : (l : Lattice) (known : BlockId → Bool) (b : BlockId) → HasBlock l b → ((nodes : ℕ → Bool) → Misses l known nodes → is_in_codeword l nodes b ≡ false) → Determines l known b
determined_by l known b hb none = elim (cases_Bool (known b)) [
  | inl is_known ↦ λ w xs ys hx hy agree. agree b hb is_known
  | inr not_known ↦ elim (one_or_other l known b hb not_known) [
    | given t gives ↦ given-determined l known b hb t gives
    | escaped nodes word ↦ absurd (true≢false (sym word.contains ∙ none nodes word.misses))
  ]
]

module _ (l : Lattice) (known : BlockId → Bool) (words : List (List ℕ)) (labels : List ℕ) (s : AreEndWords l known words)
    (f : AreFirst l 1 (length words + 1) (word_in ([] ∷ words)) labels) where
  reveals : RevealWords l known (length words) (word_in words) s.ends
  reveals = ends_reveal_words l known (length words) (word_in words) s.ends s.are_ends

  loss : (b : BlockId) → HasBlock l b → (label : ℕ) → label_of l labels b ≡ label → IsLoss l known b (entry_of words label)
  loss b hb zero is = determined_by l known b hb (reveals.none b hb (λ r less. (f b hb).none is (suc r) (omega arith) (omega arith)))
  loss b hb (suc r) is =
      let first = subst (λ (k : ℕ). IsFirst l 1 (length words + 1) (word_in ([] ∷ words)) b k) is (f b hb) in
      let some = first.some (λ h. omega arith) in
      let high = some.1 in
      let nodes = get_or words r [] in
      let chosen : IsLeastWord l known b (s.ends r) (has_odd nodes) =
      reveals.least b r hb (omega arith) some.2 (λ k less. some.3 (suc k) (omega arith) (omega arith)) in
      let same : has_odd nodes ≡ has_node nodes = same_words (has_odd nodes) (has_node nodes) (λ i. sym (node_odd 1 nodes (suc l.n) i (s.rising r))) in
      record {
        chosen = (s.ends r, subst (λ (t : ℕ → Bool). IsLeastWord l known b (s.ends r) t) same chosen);
        ordered = subst (λ (t : ℕ → Bool). nodes ≡ filter t (nodes_to l.n)) same (rising_filter nodes l.n (s.rising r));
      }

  pub losses_are : length labels ≡ blocks_count l → AreLosses l known (map (entry_of words) labels)
  losses_are long = record {
    long = length-map (entry_of words) labels ∙ long;
    each = λ b hb.
        let inside : number_of l b < length labels = (let h = number_below l b hb in omega arith) in
        subst (λ (o : Option (List ℕ)). IsLoss l known b o) (sym (entry_at (entry_of words) labels (number_of l b) inside)) (loss b hb (label_of l labels b) refl);
  }
    where
      length-map : (g : ℕ → Option (List ℕ)) (xs : List ℕ) → length (map g xs) ≡ length xs
      length-map g [] = refl
      length-map g (x ∷ xs) = ap suc (length-map g xs)

      entry_at : (g : ℕ → Option (List ℕ)) (xs : List ℕ) (k : ℕ) → k < length xs → get_or (map g xs) k None ≡ g (get_or xs k 0)
      entry_at g [] k less = absurd (omega arith)
      entry_at g (x ∷ xs) zero less = refl
      entry_at g (x ∷ xs) (suc k) less = entry_at g xs k (omega arith)

  -- each label is that of a word
  pub labels_within : length labels ≡ blocks_count l → (k : ℕ) → get_or labels k 0 ≤ length words
  labels_within long k = elim (cases_eq (get_or labels k 0) 0) [
    | inl none ↦ omega arith
    | inr has ↦ elim (cases_lt k (length labels)) [
      | inl inside ↦
          (let within : k < blocks_count l = omega arith in
          let b = block_at l k in
          let hb = block_at-inside l k within in
          let is : label_of l labels b ≡ get_or labels k 0 = ap (λ (n : ℕ). get_or labels n 0) (number-block_at l k within) in
          let first = (f b hb).some (λ h. has (sym is ∙ h)) in
          let below = first.1 in
          omega arith)
      | inr past ↦ absurd (has (get_or-eq_default labels 0 past))
    ]
  ]
