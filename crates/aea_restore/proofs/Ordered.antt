-- Sums that are carried out in the order of their list.
use Rattle.std.proofs.Common.{◌≡◌, ℕ, zero, suc, ◌+◌, ◌-◌, ◌<◌, ◌≤◌, List, [], ◌∷◌, ◌++◌, take, map, length, Bool, false, not, ◌&&◌, Some, Err, arith, refl, sym, ◌∙◌, ap, subst, inl, inr}
use Rattle.std.specs.Prelude.{slice_get, option_map, All, IsOk, ◌||◌, replicate}
use Rattle.std.specs.List.{flat_map}
use Rattle.std.proofs.Math.Seq.{take-length, take-append-add}
use Rattle.std.proofs.lemmas.Bool.{cases_lt}
use Rattle.std.proofs.lemmas.List.{take-append-le, length-append}
use Rattle.std.proofs.lemmas.Grind.{flat_map-append}
use Rattle.std.proofs.lemmas.Option.{slice_get-map, slice_get_within}
use Rattle.aea_lattice.specs.declared.blocks.BlockId.{BlockId}
use Rattle.aea_lattice.specs.declared.blocks.EqId.{EqId}
use Rattle.aea_lattice.specs.declared.grid.Lattice.{Lattice}
use Rattle.aea_lattice.specs.Blocks.{HasBlock, same_block}
use Rattle.aea_lattice.specs.Shapes.{IsBlockOf}
use Rattle.aea_lattice.specs.Closure.{is_among}
use Rattle.aea_lattice.specs.Equations.{HasEquation, equation_blocks}
use Rattle.aea_lattice.proofs.Among.{All-Each}
use Rattle.aea_lattice.proofs.Numbers.{slice_get-append_left, slice_get-append_right}
use Rattle.aea_lattice.proofs.Odd.{Each-more, filter_each}
use Rattle.aea_disk.specs.Files.{Files}
use Rattle.aea_peel.specs.declared.plan.Step.{Step}
use Rattle.aea_peel.specs.Plans.{blocks_given, is_had}
use Rattle.aea_gauss.specs.declared.fates.Fate.{Fate}
use Rattle.aea_gauss.specs.declared.fates.Fate.TheVariants.{Sum}
use Rattle.aea_ledger.specs.Values.{Opened}
use Rattle.aea_restore.specs.declared.fault.RestoreFault.TheVariants.{Clash}
use Rattle.aea_restore.specs.Given.{block_summed, blocks_summed, CanSum}
use Rattle.aea_restore.specs.Drawn.{is_other, other_blocks}
use Rattle.aea_restore.specs.Judged.{IsJudgedSum, IsComputed, IsReadClashIn, IsFound}
use Rattle.aea_restore.specs.InOrder.{sum_of, is_had_by, IsRestoredFrom, AreRestoredFrom, ClashesAt, GoInOrder, AreReadJudged}
use Rattle.aea_restore.specs.Repairs.{Answer}
use Rattle.aea_restore.specs.UnderWay.{IsDone, IsUnderWay}
use Rattle.aea_restore.proofs.Items.{take_whole}
use Rattle.aea_restore.proofs.Loops.{or_assoc, among-both}
use Rattle.aea_restore.proofs.Judging.{read_first}
use Rattle.aea_restore.proofs.Parts.{each-equations}

-- a block that is given, and its equations, are the lattice's
abbrev pub IsOfLattice : Lattice → BlockId → List EqId → Type 0
IsOfLattice l b es = HasBlock l b × All (HasEquation l) es

-- ---- tests that say the same of the blocks of the lattice

others_alike : (l : Lattice) (p q : BlockId → Bool) (b : BlockId) (es : List EqId) → All (HasEquation l) es → ((d : BlockId) → HasBlock l d → p d ≡ q d) → other_blocks l p b es ≡ other_blocks l q b es
others_alike l p q b es valid same =
    filter_each (is_other p b) (is_other q b) (flat_map (equation_blocks l) es)
    (Each-more (HasBlock l) (λ d. is_other p b d ≡ is_other q b d) (flat_map (equation_blocks l) es) (λ d has. ap (λ x. x && not (same_block d b)) (same d has)) (each-equations l es (All-Each (HasEquation l) es valid)))

way_alike : (v : Opened) (known p q : BlockId → Bool) (first now : Files) → ((d : BlockId) → HasBlock v.lattice d → p d ≡ q d) → IsUnderWay v known p first now → IsUnderWay v known q first now
way_alike v known p q first now same way =
    let to : (b : BlockId) → IsDone v known p b → IsDone v known q b = λ b done. record { block = done.block; now = sym (same b done.block) ∙ done.now; fresh = done.fresh } in
    let from : (b : BlockId) → IsDone v known q b → IsDone v known p b = λ b done. record { block = done.block; now = same b done.block ∙ done.now; fresh = done.fresh } in
    record {
      within = λ b has is. sym (same b has) ∙ way.within b has is;
      homes = λ a bytes a_of kept short here. way.homes a bytes a_of (λ done. kept (to a done)) short here;
      grown = λ a a_of kept. way.grown a a_of (λ done. kept (to a done));
      written = λ b done. way.written b (from b done);
    }

computed_alike : (reveals : Type 0) (v : Opened) (c : Files) (p q : BlockId → Bool) (b : BlockId) (es : List EqId) → All (HasEquation v.lattice) es → ((d : BlockId) → HasBlock v.lattice d → p d ≡ q d) → IsComputed reveals v c p b es → IsComputed reveals v c q b es
computed_alike reveals v c p q b es valid same is = record {
  payload = is.payload;
  sum = subst (λ (bs : List BlockId). IsJudgedSum reveals v c (replicate v.shape.block 0) bs is.payload) (others_alike v.lattice p q b es valid same) is.sum;
  digest = is.digest;
}

found_alike : (reveals : Type 0) (v : Opened) (c : Files) (p q : BlockId → Bool) (b d : BlockId) (es : List EqId) (revealed computed : List ℕ) → All (HasEquation v.lattice) es → ((a : BlockId) → HasBlock v.lattice a → p a ≡ q a)
    → IsFound reveals v c p b es d revealed computed → IsFound reveals v c q b es d revealed computed
found_alike reveals v c p q b d es revealed computed valid same is = elim is [
  | inl read ↦ inl (subst (λ (bs : List BlockId). IsReadClashIn reveals v c bs d revealed computed) (others_alike v.lattice p q b es valid same) read)
  | inr own ↦
      inr (
        own.0,
        record {
          other = own.1.other;
          payload = own.1.payload;
          sum = subst (λ (bs : List BlockId). IsJudgedSum reveals v c (replicate v.shape.block 0) bs own.1.payload) (others_alike v.lattice p q b es valid same) own.1.sum;
          computed_is = own.1.computed_is;
        },
      )
]

restored_alike : (reveals : Type 0) (v : Opened) (known p q : BlockId → Bool) (first : Files) (b : BlockId) (es : List EqId) → All (HasEquation v.lattice) es → ((d : BlockId) → HasBlock v.lattice d → p d ≡ q d)
    → IsRestoredFrom reveals v known p first b es → IsRestoredFrom reveals v known q first b es
restored_alike reveals v known p q first b es valid same is = record {
  now = is.now;
  way = λ revealed. way_alike v known p q first is.now same (is.way revealed);
  computed = computed_alike reveals v is.now p q b es valid same is.computed;
}

-- ---- one sum after another

-- none yet
pub each_none : (reveals : Type 0) (v : Opened) (known marked : BlockId → Bool) (first : Files) (all : List Fate) → AreRestoredFrom reveals v known marked first all 0
each_none reveals v known marked first all k b es below at fresh = absurd (omega (arith, below))

-- one more
pub each_next : (reveals : Type 0) (v : Opened) (known marked ready : BlockId → Bool) (first now : Files) (all : List Fate) (k : ℕ) (item : Fate) → slice_get all k ≡ Some item
    → ((d : BlockId) → HasBlock v.lattice d → ready d ≡ is_had_by marked all k d)
    → ((b : BlockId) (es : List EqId) → item ≡ Sum b es → IsOfLattice v.lattice b es)
    → ((b : BlockId) (es : List EqId) → item ≡ Sum b es → ready b ≡ false → IsComputed reveals v now ready b es)
    → (reveals → IsUnderWay v known ready first now) → AreRestoredFrom reveals v known marked first all k → AreRestoredFrom reveals v known marked first all (k + 1)
each_next reveals v known marked ready first now all k item is same can computes way so_far j b es below at fresh = elim (cases_lt j k) [
  | inl before ↦ so_far j b es before at fresh
  | inr past ↦
      (let same_k : j ≡ k = omega (arith, below, past) in
      let at_k : Some item ≡ Some (Sum b es) = sym is ∙ subst (λ (n : ℕ). slice_get all n ≡ Some (Sum b es)) same_k at in
      let one : item ≡ Sum b es = cc in
      let of_lattice = can b es one in
      let unmarked : ready b ≡ false = same b of_lattice.0 ∙ subst (λ (n : ℕ). is_had_by marked all n b ≡ false) same_k fresh in
      subst (λ (n : ℕ). IsRestoredFrom reveals v known (is_had_by marked all n) first b es) (sym same_k)
      (restored_alike reveals v known ready (is_had_by marked all k) first b es of_lattice.1 same (record { now = now; way = way; computed = computes b es one unmarked })))
]

-- a clash at the next one
pub clash_next : (reveals : Type 0) (v : Opened) (known marked ready : BlockId → Bool) (first now : Files) (all : List Fate) (k : ℕ) (b d : BlockId) (es : List EqId) (revealed computed : List ℕ) → slice_get all k ≡ Some (Sum b es)
    → ((a : BlockId) → HasBlock v.lattice a → ready a ≡ is_had_by marked all k a) → IsOfLattice v.lattice b es → ready b ≡ false → IsFound reveals v now ready b es d revealed computed
    → (reveals → IsUnderWay v known ready first now) → ClashesAt reveals v known marked first all k d revealed computed
clash_next reveals v known marked ready first now all k b d es revealed computed is same of_lattice unmarked found way = record {
  block = b;
  equations = es;
  next = is;
  fresh = sym (same b of_lattice.0) ∙ unmarked;
  now = now;
  way = λ revealed. way_alike v known ready (is_had_by marked all k) first now same (way revealed);
  found = found_alike reveals v now ready (is_had_by marked all k) b d es revealed computed of_lattice.1 same found;
}

-- ---- what holds at the end

-- after the last one
pub order_end : (reveals : Type 0) (v : Opened) (known marked after : BlockId → Bool) (first : Files) (all : List Fate) (result : Answer) (k : ℕ) → length all ≤ k
    → ((d : BlockId) → HasBlock v.lattice d → after d ≡ is_had_by marked all k d) → AreRestoredFrom reveals v known marked first all k → ((d : BlockId) (revealed computed : List ℕ) → result ≡ Err (Clash d revealed computed) → ⊥)
    → GoInOrder reveals v known marked after first all result
order_end reveals v known marked after first all result k past marks each fine = record {
  count = length all;
  most = omega arith;
  whole = λ ok. refl;
  marks = λ d has. marks d has ∙ ap (λ (fs : List Fate). marked d || is_among (blocks_summed fs) d) (take_whole all k past ∙ sym (take-length all));
  each = λ j b es below at fresh. each j b es (omega (arith, below, past)) at fresh;
  clash = λ d kept computed is. absurd (fine d kept computed is);
}

-- where one of them failed
pub order_stop : (reveals : Type 0) (v : Opened) (known marked after : BlockId → Bool) (first : Files) (all : List Fate) (result : Answer) (k : ℕ) → k ≤ length all → (IsOk result → ⊥)
    → ((d : BlockId) → HasBlock v.lattice d → after d ≡ is_had_by marked all k d) → AreRestoredFrom reveals v known marked first all k
    → ((d : BlockId) (revealed computed : List ℕ) → result ≡ Err (Clash d revealed computed) → ClashesAt reveals v known marked first all k d revealed computed) → GoInOrder reveals v known marked after first all result
order_stop reveals v known marked after first all result k most bad marks each clash = record {
  count = k;
  most = most;
  whole = λ ok. absurd (bad ok);
  marks = marks;
  each = each;
  clash = clash;
}

-- another result of the same calls, which is no clash
pub order_as : (reveals : Type 0) (v : Opened) (known marked after : BlockId → Bool) (first : Files) (all : List Fate) (result other : Answer) → (IsOk other → IsOk result) → ((d : BlockId) (revealed computed : List ℕ) → other ≡ Err (Clash d revealed computed) → ⊥)
    → GoInOrder reveals v known marked after first all result → GoInOrder reveals v known marked after first all other
order_as reveals v known marked after first all result other so fine is = record {
  count = is.count;
  most = is.most;
  whole = λ ok. is.whole (so ok);
  marks = is.marks;
  each = is.each;
  clash = λ d kept computed e. absurd (fine d kept computed e);
}

-- Where all was carried out, what was known and read had its digest at first.
pub order_judged : (reveals : Type 0) (v : Opened) (marked after : BlockId → Bool) (first : Files) (all : List Fate) (result : Answer) → reveals → IsOk result → ((d : BlockId) → HasBlock v.lattice d → IsBlockOf v.shape d)
    → GoInOrder reveals v marked marked after first all result → AreReadJudged reveals v marked first all
order_judged reveals v marked after first all result revealed ok fits is k b d es at fresh has known among =
    let below : k < is.count = (let whole = is.whole ok in let within = slice_get_within all k (Sum b es) at in omega (arith, whole, within)) in
    let from = is.each k b es below at fresh in
    read_first reveals v marked (is_had_by marked all k) first from.now b d es revealed (fits d has) known (from.way revealed) from.computed among

-- ---- two lists

slice_early : {A : Type 0} → (xs ys : List A) (k : ℕ) → k < length xs → slice_get (xs ++ ys) k ≡ slice_get xs k
slice_early [] ys k below = absurd (omega (arith, below))
slice_early (x ∷ xs) ys zero below = refl
slice_early (x ∷ xs) ys (suc k) below = slice_early xs ys k (omega (arith, below))

had_early : (marked : BlockId → Bool) (xs ys : List Fate) (k : ℕ) → k ≤ length xs → is_had_by marked (xs ++ ys) k ≡ is_had_by marked xs k
had_early marked xs ys k most = ap (λ (fs : List Fate). λ (d : BlockId). marked d || is_among (blocks_summed fs) d) (take-append-le k xs ys most)

had_late : (marked mid : BlockId → Bool) (xs ys : List Fate) (j : ℕ) (d : BlockId) → mid d ≡ is_had_by marked xs (length xs) d → is_had_by mid ys j d ≡ is_had_by marked (xs ++ ys) (length xs + j) d
had_late marked mid xs ys j d is =
    ap (λ x. x || is_among (blocks_summed (take j ys)) d) (is ∙ ap (λ (fs : List Fate). marked d || is_among (blocks_summed fs) d) (take-length xs))
    ∙ or_assoc (marked d) (is_among (blocks_summed xs) d) (is_among (blocks_summed (take j ys)) d)
    ∙ ap (λ x. marked d || x) (sym (among-both (blocks_summed xs) (blocks_summed (take j ys)) d))
    ∙ ap (λ (bs : List BlockId). marked d || is_among bs d) (sym (flat_map-append block_summed xs (take j ys)))
    ∙ ap (λ (fs : List Fate). marked d || is_among (blocks_summed fs) d) (sym (take-append-add xs ys j))

each_early : (reveals : Type 0) (v : Opened) (known marked : BlockId → Bool) (first : Files) (xs ys : List Fate) (count k : ℕ) (b : BlockId) (es : List EqId) → AreRestoredFrom reveals v known marked first xs count → k < count → k < length xs
    → slice_get (xs ++ ys) k ≡ Some (Sum b es) → is_had_by marked (xs ++ ys) k b ≡ false → IsRestoredFrom reveals v known (is_had_by marked (xs ++ ys) k) first b es
each_early reveals v known marked first xs ys count k b es each below inside at fresh =
    let same = had_early marked xs ys k (omega (arith, inside)) in
    subst (λ (had : BlockId → Bool). IsRestoredFrom reveals v known had first b es) (sym same)
    (each k b es below (sym (slice_early xs ys k inside) ∙ at) (sym (ap (λ (had : BlockId → Bool). had b) same) ∙ fresh))

-- the first list alone was begun
pub order_early : (reveals : Type 0) (v : Opened) (known marked after : BlockId → Bool) (first : Files) (xs ys : List Fate) (result : Answer) → (IsOk result → ⊥) → GoInOrder reveals v known marked after first xs result
    → GoInOrder reveals v known marked after first (xs ++ ys) result
order_early reveals v known marked after first xs ys result bad is =
    let same = had_early marked xs ys is.count is.most in
    record {
      count = is.count;
      most = omega (arith, is.most, length-append xs ys);
      whole = λ ok. absurd (bad ok);
      marks = λ d has. is.marks d has ∙ sym (ap (λ (had : BlockId → Bool). had d) same);
      each = λ k b es below at fresh. each_early reveals v known marked first xs ys is.count k b es is.each below (let most = is.most in omega (arith, below, most)) at fresh;
      clash = λ d kept computed e.
          let at = is.clash d kept computed e in
          record {
            block = at.block;
            equations = at.equations;
            next = slice_get-append_left xs ys is.count (Sum at.block at.equations) at.next;
            fresh = ap (λ (had : BlockId → Bool). had at.block) same ∙ at.fresh;
            now = at.now;
            way = λ revealed. subst (λ (had : BlockId → Bool). IsUnderWay v known had first at.now) (sym same) (at.way revealed);
            found = subst (λ (had : BlockId → Bool). IsFound reveals v at.now had at.block at.equations d kept computed) (sym same) at.found;
          };
    }

-- both were, the first to its end
pub order_both : (reveals : Type 0) (v : Opened) (known marked mid after : BlockId → Bool) (first : Files) (xs ys : List Fate) (early_result result : Answer) → IsOk early_result
    → ((j : ℕ) (b : BlockId) (es : List EqId) → slice_get ys j ≡ Some (Sum b es) → IsOfLattice v.lattice b es)
    → GoInOrder reveals v known marked mid first xs early_result → GoInOrder reveals v known mid after first ys result → GoInOrder reveals v known marked after first (xs ++ ys) result
order_both reveals v known marked mid after first xs ys early_result result ok can early late =
    let whole = early.whole ok in
    let later : (j : ℕ) (d : BlockId) → HasBlock v.lattice d → is_had_by mid ys j d ≡ is_had_by marked (xs ++ ys) (length xs + j) d =
    λ j d has. had_late marked mid xs ys j d (early.marks d has ∙ ap (λ (n : ℕ). is_had_by marked xs n d) whole) in
    record {
      count = length xs + late.count;
      most = omega (arith, late.most, length-append xs ys);
      whole = λ fine. let all = late.whole fine in omega (arith, all, length-append xs ys);
      marks = λ d has. late.marks d has ∙ later late.count d has;
      each = λ k b es below at fresh.
          elim (cases_lt k (length xs)) [
            | inl inside ↦ each_early reveals v known marked first xs ys early.count k b es early.each (omega (arith, inside, whole)) inside at fresh
            | inr past ↦
                (let sum : length xs + (k - length xs) ≡ k = omega (arith, past) in
                let at_j : slice_get ys (k - length xs) ≡ Some (Sum b es) = sym (slice_get-append_right xs ys (k - length xs)) ∙ subst (λ (n : ℕ). slice_get (xs ++ ys) n ≡ Some (Sum b es)) (sym sum) at in
                let of_lattice = can (k - length xs) b es at_j in
                let fresh_j : is_had_by mid ys (k - length xs) b ≡ false = later (k - length xs) b of_lattice.0 ∙ subst (λ (n : ℕ). is_had_by marked (xs ++ ys) n b ≡ false) (sym sum) fresh in
                subst (λ (n : ℕ). IsRestoredFrom reveals v known (is_had_by marked (xs ++ ys) n) first b es) sum
                (restored_alike reveals v known (is_had_by mid ys (k - length xs)) (is_had_by marked (xs ++ ys) (length xs + (k - length xs))) first b es of_lattice.1 (later (k - length xs))
                (late.each (k - length xs) b es (omega (arith, below, past)) at_j fresh_j)))
          ];
      clash = λ d kept computed e.
          let at = late.clash d kept computed e in
          let of_lattice = can late.count at.block at.equations at.next in
          record {
            block = at.block;
            equations = at.equations;
            next = slice_get-append_right xs ys late.count ∙ at.next;
            fresh = sym (later late.count at.block of_lattice.0) ∙ at.fresh;
            now = at.now;
            way = λ revealed. way_alike v known (is_had_by mid ys late.count) (is_had_by marked (xs ++ ys) (length xs + late.count)) first at.now (later late.count) (at.way revealed);
            found = found_alike reveals v at.now (is_had_by mid ys late.count) (is_had_by marked (xs ++ ys) (length xs + late.count)) at.block d at.equations kept computed of_lattice.1 (later late.count) at.found;
          };
    }

-- ---- items

-- what holds of the block and the equations of a Sum
pub sum_item : (P : BlockId → List EqId → Type 0) (a b : BlockId) (ds es : List EqId) → Sum a ds ≡ Sum b es → P a ds → P b es
sum_item P a b ds es is one =
    let block : a ≡ b = cc in
    let equations : ds ≡ es = cc in
    subst (λ (x : BlockId). P x es) block (subst (P a) equations one)

-- the block and the equations of a Sum that can be carried out
pub sum_of_lattice : (l : Lattice) (had : BlockId → Bool) (f : Fate) (b : BlockId) (es : List EqId) → f ≡ Sum b es → CanSum l had f → IsOfLattice l b es
sum_of_lattice l had f b es is can = let at = subst (CanSum l had) is can in (at.0, at.1.valid)

-- ---- steps, as sums

steps_listed : (steps : List Step) (k : ℕ) → blocks_summed (take k (map sum_of steps)) ≡ blocks_given (take k steps)
steps_listed [] zero = refl
steps_listed [] (suc k) = refl
steps_listed (s ∷ ss) zero = refl
steps_listed (s ∷ ss) (suc k) = ap (λ (bs : List BlockId). s.block ∷ bs) (steps_listed ss k)

-- what is had after the first of them
pub had_steps : (marked : BlockId → Bool) (steps : List Step) (k : ℕ) (d : BlockId) → is_had marked (take k steps) d ≡ is_had_by marked (map sum_of steps) k d
had_steps marked steps k d = ap (λ (bs : List BlockId). marked d || is_among bs d) (sym (steps_listed steps k))

-- the next one
pub step_at : (steps : List Step) (s : Step) (k : ℕ) → slice_get steps k ≡ Some s → slice_get (map sum_of steps) k ≡ Some (sum_of s)
step_at steps s k is = slice_get-map sum_of steps k ∙ ap (option_map sum_of) is
