-- Batches of wanted blocks, and the fates of all.
use Rattle.std.proofs.Common.{◌≡◌, ◌≢◌, ℕ, zero, suc, ◌+◌, ◌-◌, ◌<◌, ◌≤◌, inl, inr, Bool, true, false, not, cond, List, [], ◌∷◌, ◌++◌, map, length, get_or, filter, set, take, refl, sym, ◌∙◌, ap, subst, arith}
use Rattle.std.specs.Prelude.{slice_get, Option, Some, None, unwrap_or}
use Rattle.std.specs.List.{swap_remove}
use Rattle.std.proofs.lemmas.Bool.{cases_Bool, cases_lt, cases_eq}
use Rattle.std.proofs.lemmas.List.{get_or_append_left, get_or_at, length-append, get_or-map, length-map, length-set, length-take-le, get_or-take, get_or-set_same, get_or-set_other}
use Rattle.std.proofs.lemmas.List.Elements.{filter_more}
use Rattle.std.proofs.lemmas.Option.{unwrap_or-slice_get}
use Rattle.aea_lattice.specs.declared.blocks.Class.TheVariants.{Datum}
use Rattle.aea_lattice.specs.declared.blocks.BlockId.{BlockId}
use Rattle.aea_lattice.specs.declared.blocks.EqId.{EqId}
use Rattle.aea_lattice.specs.declared.grid.Lattice.{Lattice}
use Rattle.aea_lattice.specs.Blocks.{HasBlock, block_of, number_of, blocks_of, blocks_count}
use Rattle.aea_lattice.specs.LeastWord.{IsWord}
use Rattle.aea_lattice.specs.Data.{Determines}
use Rattle.aea_lattice.proofs.Equations.{number_below}
use Rattle.aea_lattice.proofs.Odd.{Each, Each-more}
use Rattle.aea_lattice.proofs.Once.{each-blocks_of}
use Rattle.aea_fates.specs.Sums.{IsSum}
use Rattle.aea_view.specs.Bits.{has_bit}
use Rattle.aea_view.specs.Marked.{Marked, IsWhole, AreClear, is_marked}
use Rattle.aea_sweep.specs.Losses.{IsLoss, AreLosses}
use Rattle.aea_sums.specs.Sums.{wanted_at, AreWanted, AreSums, equations_in}
use Rattle.aea_gauss.specs.declared.batch.Batch.{Batch}
use Rattle.aea_gauss.specs.Batches.{IsBatch}
use Rattle.aea_gauss.specs.Fates.{AreFates}
use Rattle.aea_gauss.proofs.Reading.{same_default}

-- one wanted block more
pub wanted_more : (l : Lattice) (known : BlockId → Bool) (wanted : List BlockId) (b : BlockId) → HasBlock l b → known b ≡ false → AreWanted l known wanted → AreWanted l known (wanted ++ b ∷ [])
wanted_more l known wanted b has unknown are k inside = elim (cases_lt k (length wanted)) [
  | inl low ↦ subst (λ (x : BlockId). HasBlock l x × (known x ≡ false)) (sym (get_or_append_left wanted (b ∷ []) (block_of 0 Datum) k low)) (are k low)
  | inr past ↦
      (let long = length-append wanted (b ∷ []) in
      let one : length (b ∷ []) ≡ 1 = refl in
      let here : length wanted ≡ k = omega arith in
      subst (λ (x : BlockId). HasBlock l x × (known x ≡ false)) (sym (get_or_at wanted b [] (block_of 0 Datum) k here)) (has, unknown))
]

-- a determined block has its sum in the table
pub listed_sum : (l : Lattice) (known : BlockId → Bool) (wanted : List BlockId) (table : List ℕ) (bits k : ℕ) → AreSums l known wanted table bits → k < length wanted
    → Determines l known (wanted_at wanted k) → IsSum l known (wanted_at wanted k) (equations_in l table k)
listed_sum l known wanted table bits k are inside determined = elim (cases_Bool (has_bit bits k)) [
  | inl lost ↦ absurd (are.lost k inside lost determined)
  | inr found ↦ are.sum k inside found
]

-- one list more
pub lists_more : (l : Lattice) (table : List ℕ) (lists new : List (List EqId)) (es : List EqId) (k : ℕ) → length lists ≡ k → ((j : ℕ) → j < k → get_or lists j [] ≡ equations_in l table j)
    → es ≡ equations_in l table k → new ≡ lists ++ es ∷ [] → (j : ℕ) → j < k + 1 → get_or new j [] ≡ equations_in l table j
lists_more l table lists new es k long each is same j less =
    ap (λ (xs : List (List EqId)). get_or xs j []) same
    ∙ elim (cases_lt j (length lists)) [
      | inl low ↦ get_or_append_left lists (es ∷ []) [] j low ∙ each j (omega arith)
      | inr past ↦
          (let here : length lists ≡ j = omega arith in
          let at : k ≡ j = omega arith in
          get_or_at lists es [] [] j here ∙ is ∙ ap (λ (i : ℕ). equations_in l table i) at)
    ]

-- where the lists of a filled table are drawn, they are those of a batch
pub is_batch : (l : Lattice) (known : BlockId → Bool) (b : Batch) (slice : List BlockId) (table : List ℕ) (bits : ℕ) → slice ≡ b.wanted.items → AreSums l known slice table bits
    → length b.lists.items ≡ length b.wanted.items → ((k : ℕ) → k < length b.wanted.items → get_or b.lists.items k [] ≡ equations_in l table k) → IsBatch l known b
is_batch l known b slice table bits same are long each = record {
  long = long;
  sums = λ k inside determined.
      subst (λ (es : List EqId). IsSum l known (wanted_at b.wanted.items k) es) (sym (each k inside))
      (listed_sum l known b.wanted.items table bits k (subst (λ (xs : List BlockId). AreSums l known xs table bits) same are) inside determined);
}

-- what stays of a list where the item at a place was taken out and the last one came into its place
abbrev pub TakesOut : {A : Type 0} → List A → ℕ → List A → Type 0
TakesOut {A} old at new =
    (length new + 1 ≡ length old)
    × (((d : A) → at + 1 < length old → get_or new at d ≡ get_or old (length old - 1) d)
    × ((k : ℕ) (d : A) → k ≢ at → k + 1 < length old → get_or new k d ≡ get_or old k d))

-- it is so after `swap_remove`
pub taken_out : {A : Type 0} → (old new : List A) (at : ℕ) (x : A) → at < length old → new ≡ swap_remove old at x → TakesOut old at new
taken_out {A} old new at x inside is =
    let last = length old - 1 in
    let there = get_or old last x in
    let put = set old at there in
    let cut : length new ≡ last = ap length is ∙ length-take-le last put (omega (arith, length-set old at there)) in (
      omega (arith, cut),
      (
        (λ d more. ap (λ (xs : List A). get_or xs at d) is ∙ get_or-take last put at d (omega arith) ∙ get_or-set_same old at there d inside ∙ same_default old last x d (omega arith)),
        (λ k d other more. ap (λ (xs : List A). get_or xs k d) is ∙ get_or-take last put k d (omega arith) ∙ get_or-set_other old at k there d other),
      ),
    )

-- a batch stays one
pub batch_left : (l : Lattice) (known : BlockId → Bool) (old new : Batch) (at : ℕ) → at < length old.wanted.items → TakesOut old.wanted.items at new.wanted.items
    → TakesOut old.lists.items at new.lists.items → IsBatch l known old → IsBatch l known new
batch_left l known old new at inside w e is = record {
  long = (let a = w.0 in let b = e.0 in let c = is.long in omega arith);
  sums = λ k less.
      (let a = w.0 in
      let c = is.long in
      let last = length old.wanted.items - 1 in
      elim (cases_eq k at) [
        | inl here ↦
            (let more : at + 1 < length old.wanted.items = omega arith in
            let block : wanted_at new.wanted.items k ≡ wanted_at old.wanted.items last = ap (λ (i : ℕ). wanted_at new.wanted.items i) here ∙ w.1.0 (block_of 0 Datum) more in
            let list : get_or new.lists.items k [] ≡ get_or old.lists.items last [] =
            ap (λ (i : ℕ). get_or new.lists.items i []) here ∙ e.1.0 [] (omega arith) ∙ ap (λ (n : ℕ). get_or old.lists.items (n - 1) []) c in
            moved last (omega arith) k block list)
        | inr other ↦ moved k (omega arith) k (w.1.1 k (block_of 0 Datum) other (omega arith)) (e.1.1 k [] other (omega arith))
      ]);
}
  where
    moved : (from : ℕ) → from < length old.wanted.items → (k : ℕ) → wanted_at new.wanted.items k ≡ wanted_at old.wanted.items from → get_or new.lists.items k [] ≡ get_or old.lists.items from []
        → Determines l known (wanted_at new.wanted.items k) → IsSum l known (wanted_at new.wanted.items k) (get_or new.lists.items k [])
    moved from below k block list determined =
        subst (λ (es : List EqId). IsSum l known (wanted_at new.wanted.items k) es) (sym list)
        (subst (λ (x : BlockId). IsSum l known x (get_or old.lists.items from [])) (sym block)
        (is.sums from below (subst (λ (x : BlockId). Determines l known x) block determined)))

-- the sum of the block at a place of a batch
pub sum_at : (l : Lattice) (known : BlockId → Bool) (batch : Batch) (slice : List BlockId) (k : ℕ) (b : BlockId) (es : List EqId) → slice ≡ batch.wanted.items → k < length slice → wanted_at slice k ≡ b
    → Determines l known b → IsBatch l known batch → es ≡ get_or batch.lists.items k [] → IsSum l known b es
sum_at l known batch slice k b es same inside at determined is taken =
    let here : wanted_at batch.wanted.items k ≡ b = ap (λ (xs : List BlockId). wanted_at xs k) (sym same) ∙ at in
    let below : k < length batch.wanted.items = subst (λ (xs : List BlockId). k < length xs) same inside in
    subst (λ (xs : List EqId). IsSum l known b xs) (sym taken)
    (subst (λ (x : BlockId). IsSum l known x (get_or batch.lists.items k [])) here (is.sums k below (subst (λ (x : BlockId). Determines l known x) (sym here) determined)))

-- the kept ones of the first k + 1 blocks
pub blocks_more : (p : BlockId → Bool) (bs : List BlockId) (k : ℕ) (b : BlockId) → k < length bs → slice_get bs k ≡ Some b
    → filter p (take (k + 1) bs) ≡ filter p (take k bs) ++ cond (p b) (b ∷ []) []
blocks_more p bs k b less here =
    let at : get_or bs k b ≡ b = sym (unwrap_or-slice_get bs k b) ∙ ap (λ o. unwrap_or o b) here in
    filter_more p bs k b less ∙ ap (λ x. filter p (take k bs) ++ cond (p x) (x ∷ []) []) at

pub take_whole : (bs : List BlockId) (i : ℕ) → length bs ≤ i → take i bs ≡ bs
take_whole [] zero past = refl
take_whole [] (suc i) past = refl
take_whole (b ∷ bs) zero past = absurd (omega arith)
take_whole (b ∷ bs) (suc i) past = ap (λ xs. b ∷ xs) (take_whole bs i (omega arith))

-- the nodes of a lost block are its word
pub is_lost : (l : Lattice) (known : BlockId → Bool) (losses : List (Option (List ℕ))) (b : BlockId) (n : ℕ) (nodes list : List ℕ) → AreLosses l known losses → HasBlock l b → n ≡ number_of l b
    → slice_get losses n ≡ Some (Some nodes) → list ≡ nodes → IsWord l known b list
is_lost l known losses b n nodes list are has is got same =
    subst (λ (xs : List ℕ). IsWord l known b xs) (sym same)
    (subst (λ (o : Option (List ℕ)). IsLoss l known b o)
    (ap (λ (k : ℕ). get_or losses k None) (sym is) ∙ sym (unwrap_or-slice_get losses n None) ∙ ap (λ (o : Option (Option (List ℕ))). unwrap_or o None) got)
    (are.each b has))

-- ---- marks

not-not : (b : Bool) → not (not b) ≡ b
not-not true = refl
not-not false = refl

none_pass : (p : BlockId → Bool) (bs : List BlockId) → Each (λ b. p b ≡ false) bs → filter p bs ≡ []
none_pass p [] each = refl
none_pass p (b ∷ bs) each = rw each.0 (none_pass p bs each.1)

-- where no block is marked, there is no fate of a marked one
pub none_open : (l : Lattice) (m : Marked) → m.lattice ≡ l → AreClear m 0 (blocks_count m.lattice) → AreFates l (λ b. not (is_marked m b)) []
none_open l m same clear = record {
  blocks =
      sym
      (none_pass (λ b. not (not (is_marked m b))) (blocks_of l)
      (Each-more (HasBlock l) (λ b. not (not (is_marked m b)) ≡ false) (blocks_of l)
      (λ b has.
      (let inside : HasBlock m.lattice b = subst (λ (x : Lattice). HasBlock x b) (sym same) has in
      not-not (is_marked m b) ∙ clear (number_of m.lattice b) (omega arith) (number_below m.lattice b inside))) (each-blocks_of l)));
  each = λ k d less. absurd (omega arith);
}

-- turned marks have those that are not marked
pub flipped_marks : (l : Lattice) (m flipped : Marked) → m.lattice ≡ l → flipped.lattice ≡ m.lattice → flipped.marks ≡ map not m.marks → IsWhole flipped
    → (b : BlockId) → HasBlock l b → is_marked flipped b ≡ not (is_marked m b)
flipped_marks l m flipped same flipped_same marks whole b has =
    let k = number_of l b in
    let long : length m.marks ≡ blocks_count l = sym (length-map m.marks not) ∙ ap length (sym marks) ∙ whole ∙ ap blocks_count (flipped_same ∙ same) in
    let below : k < length m.marks = subst (λ n. k < n) (sym long) (number_below l b has) in
    ap (λ (x : Lattice). get_or flipped.marks (number_of x b) false) (flipped_same ∙ same)
    ∙ ap (λ xs. get_or xs k false) marks
    ∙ get_or-map not m.marks k false false below
    ∙ ap (λ (x : Lattice). not (get_or m.marks (number_of x b) false)) (sym same)
