-- The fates of parts, put at the places of their blocks.
use Rattle.std.proofs.Common.{◌≡◌, ℕ, zero, suc, ◌+◌, ◌<◌, ◌≤◌, inl, inr, ◌⊎◌, Bool, true, false, not, List, Option, None, Some, [], ◌∷◌, map, length, get_or, All, refl, sym, ◌∙◌, ap, subst, arith}
use Rattle.std.proofs.Math.ListN.{set}
use Rattle.std.proofs.lemmas.Bool.{cases_eq, true≢false, false_from_ne_true, not-true}
use Rattle.std.proofs.lemmas.List.{get_or-set_same, get_or-set_other, length-map}
use Rattle.std.proofs.lemmas.List.Elements.{All-get_or, All-from_get_or, filter_passes}
use Rattle.aea_lattice.specs.declared.blocks.Class.TheVariants.{Datum}
use Rattle.aea_lattice.specs.declared.blocks.BlockId.{BlockId}
use Rattle.aea_lattice.specs.declared.blocks.EqId.{EqId}
use Rattle.aea_lattice.specs.declared.grid.Lattice.{Lattice}
use Rattle.aea_lattice.specs.Blocks.{block_of, same_block, HasBlock, number_of, blocks_of}
use Rattle.aea_lattice.specs.Lists.{has_node}
use Rattle.aea_lattice.specs.Data.{Determines}
use Rattle.aea_lattice.proofs.Equations.{same_block-equal}
use Rattle.aea_lattice.proofs.Among.{passing-among}
use Rattle.aea_lattice.proofs.Words.{word-not_determined}
use Rattle.aea_fates.specs.Laws.{known_or_outside, PartsStandAlone}
use Rattle.aea_readings.specs.Small.{block_in, unknown_blocks, AreListed}
use Rattle.aea_sweep.specs.Sweep.{EndsStandAside}
use Rattle.aea_sweep.specs.Losses.{AreLosses, IsLoss}
use Rattle.aea_sweep.specs.Ends.{AddsEnds}
use Rattle.aea_gauss.specs.declared.fates.Fate.{Fate}
use Rattle.aea_gauss.specs.declared.fates.Fate.TheVariants.{Sum, Word}
use Rattle.aea_gauss.specs.Fates.{block_of_fate, IsFate, AreFates}
use Rattle.aea_gauss.specs.Revealed.{RevealsFate}
use Rattle.aea_gauss.specs.Lost.{IsLost, IsNotLost, AreLostRight}
use Rattle.aea_gauss.specs.Parts.{ArePart, StandsIn, HaveEach, PutsFate, Rights, IsWanted, fate_in}
use Rattle.aea_gauss.proofs.Turning.{once}
use Rattle.aea_gauss.proofs.Parting.{fate_alone, part_unknown, stands_at}

-- ---- what a part's rows tell

-- what they tell of the wanted blocks of the part is right
abbrev pub RevealsRight : Lattice → (BlockId → Bool) → (BlockId → Type 0) → List BlockId → List EqId → Type 0
RevealsRight l kn Wanted part equations = (f : Fate) → StandsIn part (block_of_fate f) → RevealsFate l part equations f → Wanted (block_of_fate f) → IsFate l kn f

stands_inside : (l : Lattice) (bs : List BlockId) → AreListed l bs → (b : BlockId) → StandsIn bs b → HasBlock l b
stands_inside l bs listed b stands = subst (HasBlock l) stands.2 (All-get_or (HasBlock l) bs stands.0 (block_of 0 Datum) stands.1 listed.inside)

-- the fates of a part by itself are those of its blocks
pub part_right : PartsStandAlone → (l : Lattice) (kn : BlockId → Bool) (bs : List BlockId) (es : List EqId) → AreListed l bs → ArePart l kn bs es → RevealsRight l kn IsWanted bs es
part_right law l kn bs es listed p f stands reveals wanted =
    let w = p.within in
    let many : stands.0 < length (unknown_blocks l (known_or_outside kn w)) = subst (λ xs. stands.0 < length xs) p.blocks_are stands.1 in
    let in_all : block_of_fate f ≡ block_in (unknown_blocks l (known_or_outside kn w)) stands.0 = sym stands.2 ∙ ap (λ xs. block_in xs stands.0) p.blocks_are in
    fate_alone law l kn w p.part f (stands_inside l bs listed (block_of_fate f) stands)
    (ap w in_all ∙ (part_unknown l kn w stands.0 many).1)
    (reveals (known_or_outside kn w) p.blocks_are p.equations_are)

-- a block that the list has no nodes for is determined
determined_at : (l : Lattice) (kn : BlockId → Bool) (losses : List (Option (List ℕ))) → AreLosses l kn losses → (b : BlockId) → HasBlock l b → IsNotLost l losses b → Determines l kn b
determined_at l kn losses are b has none = subst (IsLoss l kn b) none (are.each b has)

-- where the ends are known too, the fate of a determined block is right without them
right_for : EndsStandAside → (l : Lattice) (kn more : BlockId → Bool) (losses : List (Option (List ℕ))) → AreLosses l kn losses → AddsEnds l kn more → (f : Fate) → HasBlock l (block_of_fate f)
    → IsFate l more f → IsNotLost l losses (block_of_fate f) → IsFate l kn f
right_for law l kn more losses are adds (Sum b equations) has sum none =
    law l kn more b equations has adds.kept (λ d hd is. adds.aside b d has (determined_at l kn losses are b has none) hd is) sum
right_for law l kn more losses are adds (Word b nodes) has word none =
    let least = word.chosen.1 in
    absurd
    (word-not_determined l kn (has_node nodes) b has least.contains (λ d hd is. least.word.misses d hd (adds.kept d hd is))
    (determined_at l kn losses are b has none))

-- The fates of a part where the ends are known too are right for its determined blocks.
pub part_determined : PartsStandAlone → EndsStandAside → (l : Lattice) (kn more : BlockId → Bool) (losses : List (Option (List ℕ))) → AreLosses l kn losses → AddsEnds l kn more
    → (bs : List BlockId) (es : List EqId) → AreListed l bs → ArePart l more bs es → RevealsRight l kn (IsNotLost l losses) bs es
part_determined law aside l kn more losses are adds bs es listed p f stands reveals not_lost =
    right_for aside l kn more losses are adds f (stands_inside l bs listed (block_of_fate f) stands) (part_right law l more bs es listed p f stands reveals tt) not_lost

-- ---- fates that are put at their places

put_here : (l : Lattice) (kn : BlockId → Bool) (fates : List Fate) (a : ℕ) (f : Fate) → a < length fates → IsFate l kn f → IsFate l kn (fate_in (set fates a f) a)
put_here l kn fates a f less h = subst (IsFate l kn) (sym (get_or-set_same fates a f (Word (block_of 0 Datum) []) less)) h

put_kept : (l : Lattice) (kn : BlockId → Bool) (fates : List Fate) (a : ℕ) (f : Fate) → a < length fates → IsFate l kn f → (k : ℕ) → IsFate l kn (fate_in fates k)
    → IsFate l kn (fate_in (set fates a f) k)
put_kept l kn fates a f less h k before = elim (cases_eq k a) [
  | inl same ↦ subst (λ j. IsFate l kn (fate_in (set fates a f) j)) (sym same) (put_here l kn fates a f less h)
  | inr other ↦ subst (IsFate l kn) (sym (get_or-set_other fates a k f (Word (block_of 0 Datum) []) (λ e. other (omega arith)))) before
]

map-set : (fates : List Fate) (bs : List BlockId) (a : ℕ) (f : Fate) → map block_of_fate fates ≡ bs → a < length bs → block_in bs a ≡ block_of_fate f
    → map block_of_fate (set fates a f) ≡ bs
map-set fates bs a f are less is = at fates a f (subst (λ xs. block_in xs a ≡ block_of_fate f) (sym are) is) ∙ are
  where
    at : (fates : List Fate) (a : ℕ) (f : Fate) → block_in (map block_of_fate fates) a ≡ block_of_fate f → map block_of_fate (set fates a f) ≡ map block_of_fate fates
    at [] a f h = refl
    at (g ∷ gs) zero f h = ap (λ b. b ∷ map block_of_fate gs) (sym h)
    at (g ∷ gs) (suc a) f h = ap (λ bs. block_of_fate g ∷ bs) (at gs a f h)

-- the fates of the wanted ones of the first blocks of a part are put
pub record Placed (l : Lattice) (Wanted : BlockId → Type 0) (us part : List BlockId) (equations : List EqId) (count : ℕ) (old new : List Fate) : Type 0 where
  pub blocks : map block_of_fate new ≡ us
  pub kept : (kn : BlockId → Bool) → RevealsRight l kn Wanted part equations → (a : ℕ) → a < length us → IsFate l kn (fate_in old a) → IsFate l kn (fate_in new a)
  pub done : (kn : BlockId → Bool) → RevealsRight l kn Wanted part equations → (a t : ℕ) → a < length us → t < count → t < length part → block_in part t ≡ block_in us a
      → Wanted (block_in us a) → IsFate l kn (fate_in new a)

pub placed_none : (l : Lattice) (Wanted : BlockId → Type 0) (us part : List BlockId) (equations : List EqId) (fates : List Fate) → map block_of_fate fates ≡ us
    → Placed l Wanted us part equations 0 fates fates
placed_none l Wanted us part equations fates are = record {
  blocks = are;
  kept = λ kn right a less h. h;
  done = λ kn right a t less past. absurd (omega arith);
}

-- and that of one block more
pub placed_more : (l : Lattice) (Wanted : BlockId → Type 0) (us part : List BlockId) (equations : List EqId) → AreListed l us → (count : ℕ) (old now new : List Fate) → count < length part
    → Placed l Wanted us part equations count old now → PutsFate l us part equations count now new → Wanted (block_in part count) → Placed l Wanted us part equations (count + 1) old new
placed_more l Wanted us part equations listed count old now new here placed puts wanted =
    subst (Placed l Wanted us part equations (count + 1) old) (sym puts.is)
    (record {
      blocks = map-set now us puts.at puts.fate placed.blocks puts.inside puts.here;
      kept = λ kn right k less h. put_kept l kn now puts.at puts.fate room (revealed kn right) k (placed.kept kn right k less h);
      done = λ kn right k t less t_less t_in same is_wanted. elim (cases_eq t count) [
        | inl last ↦
            (let at : block_in us k ≡ block_in us puts.at = sym same ∙ ap (block_in part) last ∙ sym puts.block ∙ sym puts.here in
            let one : k ≡ puts.at = once l us listed k puts.at less puts.inside at in
            subst (λ j. IsFate l kn (fate_in (set now puts.at puts.fate) j)) (sym one) (put_here l kn now puts.at puts.fate room (revealed kn right)))
        | inr other ↦ put_kept l kn now puts.at puts.fate room (revealed kn right) k (placed.done kn right k t less (omega arith) t_in same is_wanted)
      ];
    })
  where
    room : puts.at < length now
    room = let m = length-map now block_of_fate in let n = ap length placed.blocks in let inside = puts.inside in omega arith

    revealed : (kn : BlockId → Bool) → RevealsRight l kn Wanted part equations → IsFate l kn puts.fate
    revealed kn right = right puts.fate (count, here, sym puts.block) puts.reveals (subst Wanted (sym puts.block) wanted)

-- or none is put, where the next block is not wanted
pub placed_less : (l : Lattice) (Wanted : BlockId → Type 0) (us part : List BlockId) (equations : List EqId) (count : ℕ) (old new : List Fate)
    → Placed l Wanted us part equations count old new → (Wanted (block_in part count) → ⊥) → Placed l Wanted us part equations (count + 1) old new
placed_less l Wanted us part equations count old new placed unwanted = record {
  blocks = placed.blocks;
  kept = placed.kept;
  done = λ kn right k t less t_less t_in same is_wanted. elim (cases_eq t count) [
    | inl last ↦ absurd (unwanted (subst Wanted (sym same ∙ ap (block_in part) last) is_wanted))
    | inr other ↦ placed.done kn right k t less (omega arith) t_in same is_wanted
  ];
}

-- all are put
pub placed_all : (l : Lattice) (Wanted : BlockId → Type 0) (us part : List BlockId) (equations : List EqId) (count : ℕ) (old new : List Fate)
    → Placed l Wanted us part equations count old new → length part ≤ count → (kn : BlockId → Bool) → RevealsRight l kn Wanted part equations → Rights l kn Wanted us part old new
placed_all l Wanted us part equations count old new placed all kn right = record {
  kept = placed.kept kn right;
  put = λ a less stands wanted.
      (let inside = stands.1 in
      placed.done kn right a stands.0 less (omega arith) inside stands.2 wanted);
}

-- a block that has nodes in the list is not one that has none
pub not_both : (l : Lattice) (losses : List (Option (List ℕ))) (b : BlockId) → IsLost l losses b → IsNotLost l losses b → ⊥
not_both l losses b lost none = apart (sym lost.1 ∙ none)
  where
    apart : ◌≡◌ {A = Option (List ℕ)} (Some lost.0) None → ⊥
    apart h = absurd (cc)

-- ---- all parts

-- the fates of the wanted blocks of the first parts are right
pub record Solved (l : Lattice) (kn : BlockId → Bool) (Wanted : BlockId → Type 0) (us : List BlockId) (parts : List (List BlockId)) (count : ℕ) (fates : List Fate) : Type 0 where
  pub blocks : map block_of_fate fates ≡ us
  pub right : (c a : ℕ) → c < count → a < length us → StandsIn (get_or parts c []) (block_in us a) → Wanted (block_in us a) → IsFate l kn (fate_in fates a)

pub solved_more : (l : Lattice) (kn : BlockId → Bool) (Wanted : BlockId → Type 0) (us : List BlockId) (parts : List (List BlockId)) (count : ℕ) (part : List BlockId) (old new : List Fate)
    → Solved l kn Wanted us parts count old → part ≡ get_or parts count [] → map block_of_fate new ≡ us → Rights l kn Wanted us part old new → Solved l kn Wanted us parts (count + 1) new
solved_more l kn Wanted us parts count part old new before is blocks rights = record {
  blocks = blocks;
  right = λ c a c_less less stands wanted. elim (cases_eq c count) [
    | inl same ↦ rights.put a less (subst (λ xs. StandsIn xs (block_in us a)) (ap (λ j. get_or parts j []) same ∙ sym is) stands) wanted
    | inr other ↦ rights.kept a less (before.right c a (omega arith) less stands wanted)
  ];
}

place_in_all : (us : List BlockId) (fates : List Fate) → map block_of_fate fates ≡ us → (a : ℕ) → a < length fates → a < length us
place_in_all us fates are a less = let m = length-map fates block_of_fate in let n = ap length are in omega arith

-- where all parts are solved, the fates are those of the lattice
pub solved_whole : (l : Lattice) (kn : BlockId → Bool) (us : List BlockId) (parts : List (List BlockId)) (count : ℕ) (fates : List Fate) → us ≡ unknown_blocks l kn
    → length parts ≤ count → Solved l kn IsWanted us parts count fates → HaveEach us parts → AreFates l kn fates
solved_whole l kn us parts count fates us_are many solved whole = record {
  blocks = solved.blocks ∙ us_are;
  each =
      All-from_get_or (IsFate l kn) fates (Word (block_of 0 Datum) [])
      (λ a less.
      (let inside = place_in_all us fates solved.blocks a less in
      let at = whole a inside in
      let c_less = at.1 in
      solved.right at.0 a (omega arith) inside at.2 tt));
}

-- a block has nodes in the list or none
lost_or_not : (l : Lattice) (losses : List (Option (List ℕ))) (b : BlockId) → IsLost l losses b ⊎ IsNotLost l losses b
lost_or_not l losses b = at (get_or losses (number_of l b) None) refl
  where
    at : (o : Option (List ℕ)) → get_or losses (number_of l b) None ≡ o → IsLost l losses b ⊎ IsNotLost l losses b
    at None is = inr is
    at (Some nodes) is = inl (nodes, is)

-- a determined block is not known where the ends are known too, if it is not known without them
still_unknown : (l : Lattice) (kn more : BlockId → Bool) → AddsEnds l kn more → (b : BlockId) → HasBlock l b → Determines l kn b → kn b ≡ false → more b ≡ false
still_unknown l kn more adds b has determined unknown =
    false_from_ne_true (more b)
    (λ is. elim (adds.only b has is) [
      | inl is_known ↦ true≢false (sym is_known ∙ unknown)
      | inr end ↦ word-not_determined l kn end.0 b has end.1.contains end.1.misses determined
    ])

-- where so many parts are solved, and each block that is not known where the ends are known too is in one of them, the fates are
-- those of the lattice, if those of the lost blocks are right
pub solved_all : (l : Lattice) (kn more : BlockId → Bool) (us : List BlockId) (losses : List (Option (List ℕ))) (parts : List (List BlockId)) (count : ℕ) (fates : List Fate) → us ≡ unknown_blocks l kn
    → AreListed l us → AreLosses l kn losses → AddsEnds l kn more
    → length parts ≤ count → Solved l kn (IsNotLost l losses) us parts count fates → AreLostRight l kn us losses fates
    → HaveEach (unknown_blocks l more) parts → AreFates l kn fates
solved_all l kn more us losses parts count fates us_are listed are adds many solved lost_right whole = record {
  blocks = solved.blocks ∙ us_are;
  each =
      All-from_get_or (IsFate l kn) fates (Word (block_of 0 Datum) [])
      (λ a less.
      (let inside = place_in_all us fates solved.blocks a less in
      elim (lost_or_not l losses (block_in us a)) [
        | inl lost ↦ lost_right a inside lost
        | inr none ↦ determined_one a inside none
      ]));
}
  where
    determined_one : (a : ℕ) → a < length us → IsNotLost l losses (block_in us a) → IsFate l kn (fate_in fates a)
    determined_one a inside none =
        let b = block_in us a in
        let has : HasBlock l b = All-get_or (HasBlock l) us a (block_of 0 Datum) inside listed.inside in
        let unknown : kn b ≡ false =
        not-true (kn b) (All-get_or (λ d. not (kn d) ≡ true) us a (block_of 0 Datum) inside (subst (All (λ d. not (kn d) ≡ true)) (sym us_are) (filter_passes (λ d. not (kn d)) (blocks_of l)))) in
        let open' = still_unknown l kn more adds b has (determined_at l kn losses are b has none) unknown in
        let place = stands_at same_block same_block-equal b (unknown_blocks l more) (block_of 0 Datum) ((passing-among l (λ d. not (more d)) b).1 (has, ap not open')) in
        let at = whole place.0 place.1 in
        let c_less = at.1 in
        solved.right at.0 a (omega arith) inside (subst (StandsIn (get_or parts at.0 [])) place.2 at.2) none
