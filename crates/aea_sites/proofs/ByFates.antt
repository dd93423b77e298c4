-- The loss of a lattice by the fates of the blocks that are not known.
use Rattle.std.proofs.Common.{◌≡◌, ℕ, zero, suc, ◌+◌, ◌*◌, ◌^◌, ◌<◌, ◌≤◌, ◌⊎◌, List, [], ◌∷◌, map, length, get_or, Bool, true, false, not, ◌&&◌, Option, None, Some, refl, sym, ◌∙◌, ap, subst, inl, inr, arith}
use Rattle.std.specs.Prelude.{filter, All, slice_get, count_by}
use Rattle.std.specs.List.{list_any}
use Rattle.std.proofs.lemmas.Bool.{cases_Bool, or_cases, or_left, or_right, true≢false, false≢true, false_from_ne_true}
use Rattle.std.proofs.lemmas.List.{length-map}
use Rattle.std.proofs.lemmas.List.Sums.{length-filter, count_by-le-length}
use Rattle.std.proofs.lemmas.List.Elements.{All-head, All-tail, All-filter, All-get_or}
use Rattle.std.proofs.lemmas.Option.{get_or_from_slice_get, slice_get-get_or, slice_get_cases}
use Rattle.aea_lattice.specs.declared.blocks.BlockId.{BlockId}
use Rattle.aea_lattice.specs.declared.grid.Lattice.{Lattice}
use Rattle.aea_lattice.specs.Blocks.{HasBlock, same_block, blocks_of}
use Rattle.aea_lattice.specs.Data.{Determines}
use Rattle.aea_lattice.specs.Facts.{BlocksAreInside}
use Rattle.aea_lattice.specs.LeastWord.{IsWord}
use Rattle.aea_lattice.proofs.Among.{passing-among}
use Rattle.aea_lattice.proofs.Numbers.{one_to_three, length-blocks_of}
use Rattle.aea_lattice.proofs.Equations.{same_block-equal, same_block-refl}
use Rattle.aea_view.specs.Marked.{Marked, AreMarks, is_marked}
use Rattle.aea_fates.specs.Laws.{SumsAreDetermined, WordsAreOpen}
use Rattle.aea_gauss.specs.declared.fates.Fate.{Fate}
use Rattle.aea_gauss.specs.declared.fates.Fate.TheVariants.{Sum, Word}
use Rattle.aea_gauss.specs.Fates.{block_of_fate, IsFate, AreFates}
use Rattle.aea_sites.specs.declared.lost.FirstLost.{FirstLost}
use Rattle.aea_sites.specs.declared.lost.SiteLoss.{SiteLoss}
use Rattle.aea_sites.specs.Losses.{IsFirst, IsLossOf}
use Rattle.aea_sites.specs.Words.{is_word, is_word_at, some_passes, named, HasFirst}

-- ---- the items of a list that pass

-- the first of them
filter-first : {A : Type 0} → (p : A → Bool) (xs : List A) (k : ℕ) (x : A) → slice_get xs k ≡ Some x → p x ≡ true → ((j : ℕ) → j < k → some_passes p (slice_get xs j) ≡ false)
    → (ys : List A) × (filter p xs ≡ x ∷ ys)
filter-first p [] k x here yes' before = absurd (cc)
filter-first p (y ∷ ys) zero x here yes' before =
    let same : y ≡ x = cc in
    (filter p ys, rw (ap p same ∙ yes') (ap (λ z. z ∷ filter p ys) same))
filter-first p (y ∷ ys) (suc k) x here yes' before =
    let first : p y ≡ false = before 0 (omega arith) in
    let rest = filter-first p ys k x here yes' (λ j less. before (suc j) (omega arith)) in
    (rest.0, rw first rest.1)

-- none
filter-none : {A : Type 0} → (p : A → Bool) (xs : List A) → ((k : ℕ) → k < length xs → some_passes p (slice_get xs k) ≡ false) → filter p xs ≡ []
filter-none p [] none = refl
filter-none p (x ∷ xs) none =
    let first : p x ≡ false = none 0 (omega arith) in
    rw first (filter-none p xs (λ k less. none (suc k) (omega arith)))

-- ---- the blocks whose fates are words

-- whether the block is that of a word of the list
abbrev has_word : List Fate → BlockId → Bool
has_word fates b = list_any (λ f. is_word f && same_block (block_of_fate f) b) fates

module _ (sums : SumsAreDetermined) (open_still : WordsAreOpen) (l : Lattice) (known : BlockId → Bool) where
  -- such a block has a word
  word_of : (fs : List Fate) → All (IsFate l known) fs → (b : BlockId) → has_word fs b ≡ true → (nodes : List ℕ) × IsWord l known b nodes
  word_of [] all b h = absurd (false≢true h)
  word_of (Sum d equations ∷ fs) all b h = word_of fs (All-tail (IsFate l known) (Sum d equations) fs all) b h
  word_of (Word d nodes ∷ fs) all b h = elim (or_cases (same_block d b) (has_word fs b) h) [
    | inl here ↦ (nodes, subst (λ x. IsWord l known x nodes) (same_block-equal d b here) (All-head (IsFate l known) (Word d nodes) fs all))
    | inr there ↦ word_of fs (All-tail (IsFate l known) (Word d nodes) fs all) b there
  ]

  -- a block of the list that is not determined is such a block
  open_of : (fs : List Fate) → All (IsFate l known) fs → (b : BlockId) → HasBlock l b → list_any (same_block b) (map block_of_fate fs) ≡ true → (Determines l known b → ⊥) → has_word fs b ≡ true
  open_of [] all b has h open' = absurd (false≢true h)
  open_of (Sum d equations ∷ fs) all b has h open' = elim (or_cases (same_block b d) (list_any (same_block b) (map block_of_fate fs)) h) [
    | inl here ↦
        let same : d ≡ b = sym (same_block-equal b d here) in
        absurd (open' (subst (Determines l known) same (sums l known d equations (subst (HasBlock l) (sym same) has) (All-head (IsFate l known) (Sum d equations) fs all))))
    | inr there ↦ open_of fs (All-tail (IsFate l known) (Sum d equations) fs all) b has there open'
  ]
  open_of (Word d nodes ∷ fs) all b has h open' = elim (or_cases (same_block b d) (list_any (same_block b) (map block_of_fate fs)) h) [
    | inl here ↦ or_left (same_block d b) (has_word fs b) (subst (λ x. same_block x b ≡ true) (same_block-equal b d here) (same_block-refl b))
    | inr there ↦ or_right (same_block d b) (has_word fs b) (open_of fs (All-tail (IsFate l known) (Word d nodes) fs all) b has there open')
  ]

  module _ (inside : BlocksAreInside) (fates : List Fate) (are : AreFates l known fates) where
    abbrev test : BlockId → Bool
    test = has_word fates

    lost_open : (b : BlockId) → HasBlock l b → test b ≡ true → Determines l known b → ⊥
    lost_open b has t determined = let word = word_of fates are.each b t in open_still l known b word.0 has word.1 determined

    -- a lost block is not known
    lost_unknown : (b : BlockId) → HasBlock l b → (Determines l known b → ⊥) → not (known b) ≡ true
    lost_unknown b has open' = elim (cases_Bool (known b)) [
      | inl is ↦ absurd (open' (λ w xs ys hx hy agree. agree b has is))
      | inr unknown ↦ ap not unknown
    ]

    open_lost : (b : BlockId) → HasBlock l b → (Determines l known b → ⊥) → test b ≡ true
    open_lost b has open' =
        open_of fates are.each b has
        (subst (λ bs. list_any (same_block b) bs ≡ true) (sym are.blocks) ((passing-among l (λ d. not (known d)) b).1 (has, lost_unknown b has open'))) open'

    -- of the lattice's blocks those pass that pass of the unknown ones
    narrow : (xs : List BlockId) → All (HasBlock l) xs → filter test xs ≡ filter test (filter (λ d. not (known d)) xs)
    narrow [] all = refl
    narrow (x ∷ xs) all =
        let rest = narrow xs (All-tail (HasBlock l) x xs all) in
        let has = All-head (HasBlock l) x xs all in
        elim (cases_Bool (test x)) [
          | inl yes' ↦ let unknown = lost_unknown x has (lost_open x has yes') in rw (yes', unknown, yes') (ap (λ bs. x ∷ bs) rest)
          | inr no' ↦ elim (cases_Bool (not (known x))) [
            | inl unknown ↦ rw (no', unknown, no') rest
            | inr is ↦ rw (no', is) rest
          ]
        ]

    -- and of these the blocks of the words
    of_words : (fs : List Fate) → All (IsFate l known) fs → All (HasBlock l) (map block_of_fate fs) → ((b : BlockId) → has_word fs b ≡ true → test b ≡ true)
        → filter test (map block_of_fate fs) ≡ map block_of_fate (filter is_word fs)
    of_words [] all has within = refl
    of_words (Sum d equations ∷ fs) all has within =
        let rest = of_words fs (All-tail (IsFate l known) (Sum d equations) fs all) (All-tail (HasBlock l) d (map block_of_fate fs) has) within in
        let block = All-head (HasBlock l) d (map block_of_fate fs) has in
        let no' : test d ≡ false =
        false_from_ne_true (test d) (λ t. lost_open d block t (sums l known d equations block (All-head (IsFate l known) (Sum d equations) fs all))) in
        rw no' rest
    of_words (Word d nodes ∷ fs) all has within =
        let rest =
        of_words fs (All-tail (IsFate l known) (Word d nodes) fs all) (All-tail (HasBlock l) d (map block_of_fate fs) has)
        (λ b t. within b (or_right (same_block d b) (has_word fs b) t)) in
        let yes' : test d ≡ true = within d (or_left (same_block d d) (has_word fs d) (same_block-refl d)) in
        rw yes' (ap (λ bs. d ∷ bs) rest)

    words_are : map block_of_fate (filter is_word fates) ≡ filter test (blocks_of l)
    words_are =
        sym
        (narrow (blocks_of l) (inside l)
        ∙ ap (filter test) (sym are.blocks)
        ∙ of_words fates are.each
        (subst (All (HasBlock l)) (sym are.blocks) (All-filter (λ d. not (known d)) (HasBlock l) (blocks_of l) (inside l)))
        (λ b t. t))

    -- the first word names the first of them
    first_is : (first : Option FirstLost) → HasFirst fates first → IsFirst l known (map block_of_fate (filter is_word fates)) first
    first_is None none = subst (λ ws. IsFirst l known (map block_of_fate ws) None) (sym (filter-none is_word fates none)) refl
    first_is (Some f) is =
        let split = filter-first is_word fates is.place (Word f.block f.nodes) is.here refl is.before in
        let word : IsFate l known (Word f.block f.nodes) =
        subst (IsFate l known) (get_or_from_slice_get fates is.place (Word f.block f.nodes) (Word f.block f.nodes) is.here)
        (All-get_or (IsFate l known) fates is.place (Word f.block f.nodes) is.inside are.each) in
        subst (λ ws. IsFirst l known (map block_of_fate ws) (Some f)) (sym split.1) (f.nodes, refl, word)

    -- what is counted by the fates is the loss
    pub words_lost : (loss : SiteLoss) → loss.lost ≡ count_by is_word fates → HasFirst fates loss.first → IsLossOf l known loss
    words_lost loss count first = record {
      blocks = map block_of_fate (filter is_word fates);
      are = record {
        test = test;
        reveals = λ b has. (lost_open b has, open_lost b has);
        are = words_are;
      };
      count = count ∙ sym (length-filter is_word fates) ∙ sym (length-map (filter is_word fates) block_of_fate);
      first = first_is loss.first first;
    }

-- ---- fates at places

-- whether the item at a place passes
pub passes_at : {A : Type 0} → (p : A → Bool) (xs : List A) (k : ℕ) (d : A) → k < length xs → some_passes p (slice_get xs k) ≡ p (get_or xs k d)
passes_at p xs k d less = ap (some_passes p) (slice_get-get_or xs k d less)

-- past the end there is none
pub none_past : {A : Type 0} → (p : A → Bool) (xs : List A) (k : ℕ) → length xs ≤ k → some_passes p (slice_get xs k) ≡ false
none_past p xs k past = elim (slice_get_cases xs k).1 [
  | inl inside ↦ let less = inside.1 in absurd (omega arith)
  | inr none ↦ ap (some_passes p) none.1
]

-- where the fate at a place is a word, and none before it is, it is the first
pub named_first : (fates : List Fate) (k : ℕ) (f : Fate) (first : Option FirstLost) → k < length fates → is_word_at fates k ≡ true → ((j : ℕ) → j < k → is_word_at fates j ≡ false)
    → slice_get fates k ≡ Some f → first ≡ named f → HasFirst fates first
named_first fates k (Sum b equations) first inside yes' before here is = absurd (true≢false (sym yes' ∙ ap (some_passes is_word) here))
named_first fates k (Word b nodes) first inside yes' before here is =
    subst (HasFirst fates) (sym is) (record { place = k; inside = inside; here = here; before = before })

-- a lattice has fewer than 2^32 fates
pub fates_few : (l : Lattice) (known : BlockId → Bool) (fates : List Fate) → AreFates l known fates → length fates < 2 ^ 32
fates_few l known fates are =
    at l.alpha l.n (length (blocks_of l)) (one_to_three l) l.in_range (length-blocks_of l)
    (let mapped = length-map fates block_of_fate in
    let same = ap length are.blocks in
    let kept = length-filter (λ b. not (known b)) (blocks_of l) in
    let few = count_by-le-length (λ b. not (known b)) (blocks_of l) in
    omega arith)
  where
    at : (alpha n k : ℕ) → (alpha ≡ 1) ⊎ ((alpha ≡ 2) ⊎ (alpha ≡ 3)) → n ≤ 1048576 → k ≡ n * (1 + alpha) → length fates ≤ k → length fates < 4294967296
    at alpha n k (inl e) nodes long most = (let e2 : n * (1 + alpha) ≡ n * 2 = ap (λ a. n * (1 + a)) e in omega arith)
    at alpha n k (inr (inl e)) nodes long most = (let e2 : n * (1 + alpha) ≡ n * 3 = ap (λ a. n * (1 + a)) e in omega arith)
    at alpha n k (inr (inr e)) nodes long most = (let e2 : n * (1 + alpha) ≡ n * 4 = ap (λ a. n * (1 + a)) e in omega arith)

not-not : (b : Bool) → not (not b) ≡ b
not-not true = refl
not-not false = refl

-- a block is known where it is not open
pub known_of_open : (l : Lattice) (m : Marked) (known : BlockId → Bool) → m.lattice ≡ l → AreMarks m (λ b. not (known b)) → (b : BlockId) → HasBlock l b → not (is_marked m b) ≡ known b
known_of_open l m known same are b has = ap not (are b (subst (λ (x : Lattice). HasBlock x b) (sym same) has)) ∙ not-not (known b)
