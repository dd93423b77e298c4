-- What is not known falls into parts by labels, and what happens to the blocks of a part.
use Rattle.std.proofs.Common.{◌≡◌, ℕ, zero, suc, ◌+◌, ◌<◌, ◌^◌, inl, inr, Bool, true, false, not, ◌&&◌, ◌||◌, ◌==◌, cond, List, [], ◌∷◌, ◌++◌, take, filter, length, get_or, All, refl, sym, ◌∙◌, ap, subst, arith}
use Rattle.std.specs.List.{list_any}
use Rattle.std.proofs.Math.ListN.{set}
use Rattle.std.proofs.lemmas.Bool.{cases_Bool, cases_eq, or_cases, or_parts, eq-eqb, ne_eqb, eqb-true, true≢false, false≢true, false_from_ne_true, not-true}
use Rattle.std.proofs.lemmas.List.{append-nil, length-set, get_or-set_same, get_or-set_other}
use Rattle.std.proofs.lemmas.List.Elements.{All-get_or, All-from_get_or, filter_passes}
use Rattle.aea_lattice.specs.declared.blocks.Class.TheVariants.{Datum}
use Rattle.aea_lattice.specs.declared.blocks.BlockId.{BlockId}
use Rattle.aea_lattice.specs.declared.blocks.EqId.{EqId}
use Rattle.aea_lattice.specs.declared.grid.Lattice.{Lattice}
use Rattle.aea_lattice.specs.Blocks.{block_of, same_block, HasBlock, blocks_of}
use Rattle.aea_lattice.specs.Equations.{HasEquation, equation_of, equation_blocks, equations_of, is_in_equation}
use Rattle.aea_lattice.specs.Lists.{same_equation}
use Rattle.aea_lattice.proofs.Equations.{same_block-equal, same_block-refl, member_inside}
use Rattle.aea_lattice.proofs.Among.{passing-among}
use Rattle.aea_lattice.proofs.Odd.{same_test}
use Rattle.aea_lattice.proofs.Once.{same_equation-equal}
use Rattle.aea_fates.specs.Live.{is_live, live_equations}
use Rattle.aea_readings.specs.Small.{block_in, equation_in, unknown_blocks, AreListed, UnknownAreListed}
use Rattle.aea_fates.specs.Laws.{IsPart, known_or_outside, PartsStandAlone}
use Rattle.aea_fates.proofs.Kept.{any-filter}
use Rattle.aea_fates.proofs.Parts.{any_some}
use Rattle.aea_fates.proofs.Listing.{any_has}
use Rattle.aea_readings.proofs.Standing.{live_inside, live_few}
use Rattle.aea_fates.proofs.Listing.{equations_same, equation_listed}
use Rattle.aea_gauss.specs.declared.fates.Fate.{Fate}
use Rattle.aea_gauss.specs.declared.fates.Fate.TheVariants.{Sum, Word}
use Rattle.aea_gauss.specs.Fates.{block_of_fate, IsFate}
use Rattle.aea_gauss.specs.Parts.{items_at, JoinsEach, label_at, IsLabelOf, ArePart, AreParts, IsReady, StandsIn}
use Rattle.aea_gauss.proofs.Turning.{once}

-- ---- items at places

pub items_at-filter : {A : Type 0} → (p : ℕ → Bool) (q : A → Bool) (xs : List A) (d : A) → ((k : ℕ) → k < length xs → p k ≡ q (get_or xs k d))
    → items_at p xs ≡ filter q xs
items_at-filter p q [] d h = refl
items_at-filter p q (x ∷ xs) d h =
    let rest = items_at-filter (λ k. p (suc k)) q xs d (λ k less. h (suc k) (omega arith)) in
    let first : p 0 ≡ q x = h 0 (omega arith) in
    elim (cases_Bool (q x)) [
      | inl yes' ↦ (rw (first, yes') (ap (λ ys. x ∷ ys) rest))
      | inr no' ↦ (rw (first, no') rest)
    ]

pub items_at-more : {A : Type 0} → (p : ℕ → Bool) (xs : List A) (k : ℕ) (d : A) → k < length xs
    → items_at p (take (k + 1) xs) ≡ items_at p (take k xs) ++ cond (p k) (get_or xs k d ∷ []) []
items_at-more p [] k d less = absurd (omega arith)
items_at-more p (x ∷ xs) zero d less = refl
items_at-more p (x ∷ xs) (suc k) d less =
    let rest = items_at-more (λ j. p (suc j)) xs k d (omega arith) in
    let next : suc k + 1 ≡ suc (k + 1) = omega arith in
    ap (λ n. items_at p (take n (x ∷ xs))) next
    ∙ elim (cases_Bool (p 0)) [
      | inl yes' ↦ rw yes' (ap (λ ys. x ∷ ys) rest)
      | inr no' ↦ rw no' rest
    ]

-- an item whose place passes is among them
pub items_at-stands : {A : Type 0} → (p : ℕ → Bool) (xs : List A) (d : A) (a : ℕ) → a < length xs → p a ≡ true
    → (t : ℕ) × (t < length (items_at p xs)) × (get_or (items_at p xs) t d ≡ get_or xs a d)
items_at-stands p [] d a less h = absurd (omega arith)
items_at-stands p (x ∷ xs) d zero less h = rw h (0, omega arith, refl)
items_at-stands p (x ∷ xs) d (suc a) less h =
    let rest = items_at-stands (λ k. p (suc k)) xs d a (omega arith) h in
    let inside = rest.1 in
    elim (cases_Bool (p 0)) [
      | inl yes' ↦ rw yes' (suc rest.0, omega arith, rest.2)
      | inr no' ↦ rw no' rest
    ]

filter-both : {A : Type 0} → (p q : A → Bool) (xs : List A) → filter p (filter q xs) ≡ filter (λ x. q x && p x) xs
filter-both p q [] = refl
filter-both p q (x ∷ xs) =
    let rest = filter-both p q xs in
    elim (cases_Bool (q x)) [
      | inl kept ↦ elim (cases_Bool (p x)) [
        | inl yes' ↦ rw (kept, yes') (ap (λ ys. x ∷ ys) rest)
        | inr no' ↦ rw (kept, no') rest
      ]
      | inr dropped ↦ rw dropped rest
    ]

-- the place of an item
pub stands_at : {A : Type 0} → (same : A → A → Bool) → ((x y : A) → same x y ≡ true → x ≡ y) → (x : A) (xs : List A) (d : A) → list_any (same x) xs ≡ true
    → (i : ℕ) × (i < length xs) × (get_or xs i d ≡ x)
stands_at same equal x [] d h = absurd (false≢true h)
stands_at same equal x (y ∷ ys) d h = elim (or_cases (same x y) (list_any (same x) ys) h) [
  | inl here ↦ (0, omega arith, sym (equal x y here))
  | inr there ↦ (let rest = stands_at same equal x ys d there in (suc rest.0, (let less = rest.1 in omega arith), rest.2))
]

-- the place of a block in a list, or the list's length
abbrev place_in : List BlockId → BlockId → ℕ
place_in [] b = 0
place_in (x ∷ xs) b = cond (same_block x b) 0 (suc (place_in xs b))

-- where no block is in the list twice, that of the block at a place is this place
place_own : (xs : List BlockId) → ((i j : ℕ) → i < length xs → j < length xs → block_in xs i ≡ block_in xs j → i ≡ j) → (a : ℕ) → a < length xs → place_in xs (block_in xs a) ≡ a
place_own [] apart a less = absurd (omega arith)
place_own (x ∷ xs) apart zero less = rw (same_block-refl x) refl
place_own (x ∷ xs) apart (suc a) less =
    elim (cases_Bool (same_block x (block_in xs a))) [
      | inl same ↦
          (let one : 0 ≡ suc a = apart 0 (suc a) (omega arith) less (same_block-equal x (block_in xs a) same) in
          absurd (omega arith))
      | inr other ↦
          rw other
          (ap suc
          (place_own xs
          (λ i j i_less j_less same.
          (let both : suc i ≡ suc j = apart (suc i) (suc j) (omega arith) (omega arith) same in omega arith))
          a (omega arith)))
    ]

-- ---- the parts that the labels make

module _ (l : Lattice) (kn : BlockId → Bool) (us : List BlockId) (es : List EqId) (labels own : List ℕ)
    (us_are : us ≡ unknown_blocks l kn) (es_are : es ≡ live_equations l kn) (listed : AreListed l us)
    (joins : JoinsEach l us es (length es) (label_at labels))
    (owns : (i : ℕ) → i < length es → IsLabelOf l us labels (equation_in es i) (get_or own i 0)) where
  abbrev label : BlockId → ℕ
  label b = get_or labels (place_in us b) 0

  label_in : (a : ℕ) → a < length us → label (block_in us a) ≡ get_or labels a 0
  label_in a less = ap (λ k. get_or labels k 0) (place_own us (once l us listed) a less)

  abbrev within : ℕ → BlockId → Bool
  within c b = label b == c

  abbrev kc : ℕ → BlockId → Bool
  kc c = known_or_outside kn (within c)

  place : (b : BlockId) → HasBlock l b → kn b ≡ false → StandsIn us b
  place b has unknown =
      stands_at same_block same_block-equal b us (block_of 0 Datum)
      (subst (λ bs. list_any (same_block b) bs ≡ true) (sym us_are) ((passing-among l (λ d. not (kn d)) b).1 (has, ap not unknown)))

  equation_place : (e : EqId) → HasEquation l e → is_live l kn e ≡ true → (i : ℕ) × (i < length es) × (equation_in es i ≡ e)
  equation_place e has live =
      stands_at same_equation same_equation-equal e es (equation_of 0 Datum)
      (subst (λ fs. list_any (same_equation e) fs ≡ true) (sym es_are)
      (any-filter same_equation equations_same (is_live l kn) e (equations_of l) (equation_listed l e has) ∙ live))

  equation_has : (i : ℕ) → i < length es → HasEquation l (equation_in es i)
  equation_has i less = All-get_or (HasEquation l) es i (equation_of 0 Datum) less (subst (All (HasEquation l)) (sym es_are) (live_inside l kn))

  equation_lives : (i : ℕ) → i < length es → is_live l kn (equation_in es i) ≡ true
  equation_lives i less =
      All-get_or (λ e. is_live l kn e ≡ true) es i (equation_of 0 Datum) less
      (subst (All (λ e. is_live l kn e ≡ true)) (sym es_are) (filter_passes (is_live l kn) (equations_of l)))

  is_part : (c : ℕ) → IsPart l kn (within c)
  is_part c e b d has b_in d_in b_unknown d_unknown =
      let at = equation_place e has (any_has (λ x. not (kn x)) b (equation_blocks l e) b_in (ap not b_unknown)) in
      let pb = place b (member_inside l e b has b_in) b_unknown in
      let pd = place d (member_inside l e d has d_in) d_unknown in
      ap (λ n. n == c)
      (ap label (sym pb.2) ∙ label_in pb.0 pb.1
      ∙ joins at.0 at.1 pb.0 pd.0 pb.1 pd.1
      (ap (λ f. is_in_equation l f (block_in us pb.0)) at.2 ∙ ap (is_in_equation l e) pb.2 ∙ b_in)
      (ap (λ f. is_in_equation l f (block_in us pd.0)) at.2 ∙ ap (is_in_equation l e) pd.2 ∙ d_in)
      ∙ sym (label_in pd.0 pd.1) ∙ ap label pd.2)

  part_blocks : (c : ℕ) → items_at (λ k. get_or labels k 0 == c) us ≡ unknown_blocks l (kc c)
  part_blocks c =
      items_at-filter (λ k. get_or labels k 0 == c) (within c) us (block_of 0 Datum) (λ a less. ap (λ n. n == c) (sym (label_in a less)))
      ∙ ap (filter (within c)) us_are
      ∙ filter-both (within c) (λ b. not (kn b)) (blocks_of l)
      ∙ ap (λ p. filter p (blocks_of l)) (same_test (λ b. not (kn b) && within c b) (λ b. not (kc c b)) (λ b. table (kn b) (within c b)))
    where
      table : (k w : Bool) → (not k && w) ≡ not (k || not w)
      table true w = refl
      table false true = refl
      table false false = refl

  -- an unknown block of the part has the part's label
  of_part : (c : ℕ) (d : BlockId) → not (kc c d) ≡ true → (kn d ≡ false) × (label d ≡ c)
  of_part c d h =
      let both = or_parts (kn d) (not (within c d)) (not-true (kc c d) h) in
      (both.0, eqb-true (label d) c (back (within c d) both.1))
    where
      back : (w : Bool) → not w ≡ false → w ≡ true
      back true h = refl
      back false h = absurd (true≢false h)

  in_part : (c : ℕ) (d : BlockId) → kn d ≡ false → label d ≡ c → not (kc c d) ≡ true
  in_part c d unknown is = rw (unknown, eq-eqb (label d) c is) refl

  live_again : (c : ℕ) (e : EqId) → is_live l (kc c) e ≡ true → is_live l kn e ≡ true
  live_again c e live =
      let some = any_some (λ d. not (kc c d)) (equation_blocks l e) live in
      any_has (λ d. not (kn d)) some.item (equation_blocks l e) some.stands (ap not (of_part c some.item some.passes).0)

  -- an equation has an unknown block of the part exactly where the part's label is its own
  own_test : (c i : ℕ) → i < length es → (get_or own i 0 == c) ≡ is_live l (kc c) (equation_in es i)
  own_test c i less =
      let e = equation_in es i in
      elim (cases_Bool (is_live l (kc c) e)) [
        | inl live ↦
            (let some = any_some (λ d. not (kc c d)) (equation_blocks l e) live in
            let facts = of_part c some.item some.passes in
            eq-eqb (get_or own i 0) c (sym (own_label i less some.item some.stands facts.0) ∙ facts.1) ∙ sym live)
        | inr dead ↦
            false_from_ne_true (get_or own i 0 == c)
            (λ same.
            (let some = any_some (λ d. not (kn d)) (equation_blocks l e) (equation_lives i less) in
            let unknown = not-true (kn some.item) some.passes in
            true≢false
            (sym (any_has (λ d. not (kc c d)) some.item (equation_blocks l e) some.stands
            (in_part c some.item unknown (own_label i less some.item some.stands unknown ∙ eqb-true (get_or own i 0) c same)))
            ∙ dead)))
            ∙ sym dead
      ]
    where
      own_label : (i : ℕ) → i < length es → (d : BlockId) → is_in_equation l (equation_in es i) d ≡ true → kn d ≡ false → label d ≡ get_or own i 0
      own_label i less d d_in unknown =
          let p = place d (member_inside l (equation_in es i) d (equation_has i less) d_in) unknown in
          ap label (sym p.2) ∙ label_in p.0 p.1 ∙ owns i less p.0 p.1 (ap (is_in_equation l (equation_in es i)) p.2 ∙ d_in)

  part_equations : (c : ℕ) → items_at (λ k. get_or own k 0 == c) es ≡ live_equations l (kc c)
  part_equations c =
      items_at-filter (λ k. get_or own k 0 == c) (is_live l (kc c)) es (equation_of 0 Datum) (own_test c)
      ∙ ap (filter (is_live l (kc c))) es_are
      ∙ filter-both (is_live l (kc c)) (is_live l kn) (equations_of l)
      ∙ ap (λ p. filter p (equations_of l))
      (same_test (λ e. is_live l kn e && is_live l (kc c) e) (is_live l (kc c)) (λ e. both (is_live l kn e) (is_live l (kc c) e) (live_again c e)))
    where
      both : (a b : Bool) → (b ≡ true → a ≡ true) → (a && b) ≡ b
      both true b h = refl
      both false true h = absurd (false≢true (h refl))
      both false false h = refl

  -- The blocks and the equations of a label are those of a part.
  pub labels_part : (c : ℕ) (bs : List BlockId) (fs : List EqId) → bs ≡ items_at (λ k. get_or labels k 0 == c) us → fs ≡ items_at (λ k. get_or own k 0 == c) es
      → ArePart l kn bs fs
  labels_part c bs fs bs_are fs_are = record {
    within = within c;
    part = is_part c;
    blocks_are = bs_are ∙ part_blocks c;
    equations_are = fs_are ∙ part_equations c;
  }

-- a block is among those of its label
pub labels_whole : (us bs : List BlockId) (labels : List ℕ) (a : ℕ) → a < length us → bs ≡ items_at (λ k. get_or labels k 0 == get_or labels a 0) us
    → StandsIn bs (block_in us a)
labels_whole us bs labels a less are =
    subst (λ xs. StandsIn xs (block_in us a)) (sym are)
    (items_at-stands (λ k. get_or labels k 0 == get_or labels a 0) us (block_of 0 Datum) a less (eq-eqb (get_or labels a 0) (get_or labels a 0) refl))

-- ---- what is asked of a part

pub part_unknown : (l : Lattice) (kn : BlockId → Bool) (w : BlockId → Bool) (a : ℕ) → a < length (unknown_blocks l (known_or_outside kn w))
    → (kn (block_in (unknown_blocks l (known_or_outside kn w)) a) ≡ false) × (w (block_in (unknown_blocks l (known_or_outside kn w)) a) ≡ true)
part_unknown l kn w a less =
    let bs = unknown_blocks l (known_or_outside kn w) in
    let b = block_in bs a in
    let passes = All-get_or (λ d. not (known_or_outside kn w d) ≡ true) bs a (block_of 0 Datum) less (filter_passes (λ d. not (known_or_outside kn w d)) (blocks_of l)) in
    split (kn b) (w b) passes
  where
    split : (k w : Bool) → not (k || not w) ≡ true → (k ≡ false) × (w ≡ true)
    split true w h = absurd (false≢true h)
    split false true h = (refl, refl)
    split false false h = absurd (false≢true h)

-- the blocks of a part of what is not known where more is, if they are listed in number order, are all in the list of unknown blocks
part_stands : (l : Lattice) (kn more : BlockId → Bool) (us bs : List BlockId) (es : List EqId) → ((d : BlockId) → HasBlock l d → kn d ≡ true → more d ≡ true)
    → us ≡ unknown_blocks l kn → AreListed l bs → ArePart l more bs es → All (StandsIn us) bs
part_stands l kn more us bs es kept us_are listed p =
    All-from_get_or (StandsIn us) bs (block_of 0 Datum)
    (λ a less.
    (let many : a < length (unknown_blocks l (known_or_outside more p.within)) = subst (λ xs. a < length xs) p.blocks_are less in
    let same : block_in bs a ≡ block_in (unknown_blocks l (known_or_outside more p.within)) a = ap (λ xs. block_in xs a) p.blocks_are in
    let has = All-get_or (HasBlock l) bs a (block_of 0 Datum) less listed.inside in
    let open' : more (block_in bs a) ≡ false = ap more same ∙ (part_unknown l more p.within a many).0 in
    let unknown : kn (block_in bs a) ≡ false = false_from_ne_true (kn (block_in bs a)) (λ is. true≢false (sym (kept (block_in bs a) has is) ∙ open')) in
    stands_at same_block same_block-equal (block_in bs a) us (block_of 0 Datum)
    (subst (λ xs. list_any (same_block (block_in bs a)) xs ≡ true) (sym us_are) ((passing-among l (λ d. not (kn d)) (block_in bs a)).1 (has, ap not unknown)))))

-- the equations of a part are equations of the lattice
part_inside : (l : Lattice) (kn : BlockId → Bool) (bs : List BlockId) (es : List EqId) → ArePart l kn bs es → All (HasEquation l) es
part_inside l kn bs es p = subst (All (HasEquation l)) (sym p.equations_are) (live_inside l (known_or_outside kn p.within))

-- a part has fewer than 2^23 equations
part_few : (l : Lattice) (kn : BlockId → Bool) (bs : List BlockId) (es : List EqId) → ArePart l kn bs es → length es < 2 ^ 23
part_few l kn bs es p = subst (λ xs. length xs < 8388608) (sym p.equations_are) (live_few l (known_or_outside kn p.within))

-- nothing outside a part matters for the fates of its blocks
pub fate_alone : PartsStandAlone → (l : Lattice) (kn w : BlockId → Bool) → IsPart l kn w → (f : Fate) → HasBlock l (block_of_fate f) → w (block_of_fate f) ≡ true
    → IsFate l (known_or_outside kn w) f → IsFate l kn f
fate_alone law l kn w part (Sum b equations) has inside h = (law l kn w part b has inside).0 equations h
fate_alone law l kn w part (Word b nodes) has inside h = (law l kn w part b has inside).1 nodes h

-- where unknown blocks always are listed in number order, so are the blocks of a part
part_listed : UnknownAreListed → (l : Lattice) (kn : BlockId → Bool) (bs : List BlockId) (es : List EqId) → ArePart l kn bs es → AreListed l bs
part_listed law l kn bs es p = subst (AreListed l) (sym p.blocks_are) (law l (known_or_outside kn p.within))

-- what equals the blocks and the equations at a place of the lists of parts are those of a part
pub part_at : (l : Lattice) (kn : BlockId → Bool) (parts : List (List BlockId)) (equations : List (List EqId)) (label : ℕ) (bs : List BlockId) (es : List EqId)
    → AreParts l kn parts equations → label < length parts → bs ≡ get_or parts label [] → es ≡ get_or equations label [] → ArePart l kn bs es
part_at l kn parts equations label bs es each less same_blocks same_equations =
    let p = each label less in
    record {
      within = p.within;
      part = p.part;
      blocks_are = same_blocks ∙ p.blocks_are;
      equations_are = same_equations ∙ p.equations_are;
    }

-- the blocks and the equations of a part are ready to be solved
pub part_ready : UnknownAreListed → (l : Lattice) (kn more : BlockId → Bool) → ((d : BlockId) → HasBlock l d → kn d ≡ true → more d ≡ true)
    → (us bs : List BlockId) (es : List EqId) → us ≡ unknown_blocks l kn → ArePart l more bs es → IsReady l us bs es
part_ready law l kn more kept us bs es us_are p = record {
  listed = part_listed law l more bs es p;
  stand = part_stands l kn more us bs es kept us_are (part_listed law l more bs es p) p;
  inside = part_inside l more bs es p;
  few = part_few l more bs es p;
}

-- ---- buckets

-- where item k is put at the end of the bucket of its label, the buckets below the count have the first k + 1 items
-- by their labels, if they had the first k
pub bucket_more : {A : Type 0} → (items : List A) (labels : List ℕ) (old new : List (List A)) (count k : ℕ) (x d : A) → k < length items → get_or labels k 0 < count
    → x ≡ get_or items k d → new ≡ set old (get_or labels k 0) (get_or old (get_or labels k 0) [] ++ x ∷ []) → length old ≡ count
    → ((c : ℕ) → c < count → get_or old c [] ≡ items_at (λ j. get_or labels j 0 == c) (take k items))
    → (length new ≡ count) × ((c : ℕ) → c < count → get_or new c [] ≡ items_at (λ j. get_or labels j 0 == c) (take (k + 1) items))
bucket_more {A} items labels old new count k x d less inside is set_is long each = (
  ap length set_is ∙ length-set old (get_or labels k 0) (get_or old (get_or labels k 0) [] ++ x ∷ []) ∙ long,
  λ c c_less.
      ap (λ xs. get_or xs c []) set_is
      ∙ at c c_less
      ∙ sym (items_at-more (λ j. get_or labels j 0 == c) items k d less ∙ ap (λ y. items_at (λ j. get_or labels j 0 == c) (take k items) ++ cond (get_or labels k 0 == c) (y ∷ []) []) (sym is)),
)
  where
    at : (c : ℕ) → c < count → get_or (set old (get_or labels k 0) (get_or old (get_or labels k 0) [] ++ x ∷ [])) c [] ≡ items_at (λ j. get_or labels j 0 == c) (take k items) ++ cond (get_or labels k 0 == c) (x ∷ []) []
    at c c_less = elim (cases_eq c (get_or labels k 0)) [
      | inl same ↦
          ap (λ j. get_or (set old (get_or labels k 0) (get_or old (get_or labels k 0) [] ++ x ∷ [])) j []) same
          ∙ get_or-set_same old (get_or labels k 0) (get_or old (get_or labels k 0) [] ++ x ∷ []) [] (omega arith)
          ∙ ap (λ j. get_or old j [] ++ x ∷ []) (sym same)
          ∙ ap (λ ys. ys ++ x ∷ []) (each c c_less)
          ∙ ap (λ b. items_at (λ j. get_or labels j 0 == c) (take k items) ++ cond b (x ∷ []) []) (sym (eq-eqb (get_or labels k 0) c (sym same)))
      | inr other ↦
          get_or-set_other old (get_or labels k 0) c (get_or old (get_or labels k 0) [] ++ x ∷ []) [] (λ e. other (omega arith))
          ∙ each c c_less
          ∙ sym (append-nil (items_at (λ j. get_or labels j 0 == c) (take k items)))
          ∙ ap (λ b. items_at (λ j. get_or labels j 0 == c) (take k items) ++ cond b (x ∷ []) []) (sym (ne_eqb (get_or labels k 0) c (λ e. other (sym e))))
    ]
