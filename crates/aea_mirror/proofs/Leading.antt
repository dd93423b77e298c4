-- Records that lead from one gate to another, and what is known of the kept text.
use Rattle.std.proofs.Common.{◌≡◌, ◌≢◌, ◌⊎◌, ⊎_elim, inl, ℕ, zero, suc, ◌+◌, ◌-◌, ◌<◌, ◌≤◌, true, false, List, [], ◌∷◌, length, get_or, refl, sym, ap, ◌∙◌, subst, arith}
use Rattle.std.proofs.Props.{props}
use Rattle.std.proofs.Math.Logic.{∥∥₁_elim}
use Rattle.aea_disk.specs.Ends.{Reaches, EndsAt, IsBare, behind, copied_end, greatest_place}
use Rattle.aea_disk.specs.State.{State, IsReady}
use Rattle.aea_copies.specs.Format.{text_of}
use Rattle.aea_copies.specs.Grammar.{is_first}
use Rattle.aea_mirror.specs.declared.tail.Tail.{Tail}
use Rattle.aea_mirror.specs.declared.further.Further.TheVariants.{Until, Broken}
use Rattle.aea_mirror.specs.Ending.{reaches_le}
use Rattle.aea_mirror.specs.Guarding.{AreOnWith, Guards}
use Rattle.aea_mirror.specs.Extending.{FitsBoth}
use Rattle.aea_mirror.specs.Looking.{LeadTo, IsFurther}
use Rattle.aea_mirror.specs.Mirrored.{Kept, HoldsText, mirror_state}
use Rattle.aea_mirror.proofs.Records.{records_are_pieces, text_holds, length-copied, length-chain}
use Rattle.aea_mirror.proofs.Extended.{GoesOn}

-- records after records
pub reaches_join : (b : List ℕ) (before j k from mid last : ℕ) → Reaches b before j from mid → Reaches b (before + j) k mid last → (n : ℕ) → n ≡ j + k → Reaches b before n from last
reaches_join b before zero k from mid last here on n is =
    subst (λ (m : ℕ). Reaches b before m from last) (let e : k ≡ n = omega (arith, is) in e)
    (subst (λ (g : ℕ). Reaches b before k g last) (sym here) (subst (λ (m : ℕ). Reaches b m k mid last) (let e : before + 0 ≡ before = omega arith in e) on))
reaches_join b before (suc j) k from mid last here on zero is = absurd (omega (arith, is))
reaches_join b before (suc j) k from mid last here on (suc n) is =
    (here.0, reaches_join b (suc before) j k (behind b from) mid last here.1 (subst (λ (m : ℕ). Reaches b m k mid last) (let e : before + suc j ≡ suc before + j = omega arith in e) on) n (omega (arith, is)))

-- what leads past a gate to one that is not open leads on from there
pub reaches_rest : (b : List ℕ) (before j k from mid last : ℕ) → Reaches b before j from mid → Reaches b before k from last → get_or b last 0 ≢ 1 → (r : ℕ) × Reaches b (before + j) r mid last
reaches_rest b before zero k from mid last here is shut =
    (k, subst (λ (g : ℕ). Reaches b (before + 0) k g last) here (subst (λ (n : ℕ). Reaches b n k from last) (let e : before ≡ before + 0 = omega arith in e) is))
reaches_rest b before (suc j) zero from mid last here is shut = absurd (shut (ap (λ (g : ℕ). get_or b g 0) (sym is) ∙ here.0.opened))
reaches_rest b before (suc j) (suc k) from mid last here is shut =
    let rest = reaches_rest b (suc before) j k (behind b from) mid last here.1 is.1 shut in
    (rest.0, subst (λ (n : ℕ). Reaches b n rest.0 mid last) (let e : suc before + j ≡ before + suc j = omega arith in e) rest.1)

-- the entries of records end in time
pub reaches_near : (b : List ℕ) (before k from last : ℕ) → Reaches b before (suc k) from last → copied_end (before + suc k + 1) last ≤ greatest_place
reaches_near b before zero from last is =
    let near = is.0.near in
    let e : copied_end (before + 2) (behind b from) ≡ copied_end (before + 1 + 1) last = ap (copied_end (before + 2)) is.1 ∙ ap (λ (n : ℕ). copied_end n last) (let e : before + 2 ≡ before + 1 + 1 = omega arith in e) in
    omega (arith, near, e)
reaches_near b before (suc k) from last is = let rest = reaches_near b (suc before) k (behind b from) last is.1 in omega (arith, rest)

-- as many records are between two gates, however they are counted
pub reaches_count : (b : List ℕ) (before j k from last : ℕ) → Reaches b before j from last → Reaches b before k from last → j ≡ k
reaches_count b before zero zero from last one two = refl
reaches_count b before zero (suc k) from last one two = let on = reaches_le b (suc before) k (behind b from) last two.1 in absurd (omega (arith, one, on))
reaches_count b before (suc j) zero from last one two = let on = reaches_le b (suc before) j (behind b from) last one.1 in absurd (omega (arith, two, on))
reaches_count b before (suc j) (suc k) from last one two = ap suc (reaches_count b (suc before) j k (behind b from) last one.1 two.1)

-- ---- what is known of the kept text

-- the kept text in the ledger, with a record less than there are pieces
pub kept_holds : (s : State) (end : ℕ) (first second : Tail) (are : AreOnWith s end first second) → (h : HoldsText end (s.files 0)) × (first.gate ≡ copied_end (h.records + 1) end)
kept_holds s end first second are =
    let good = are.guarded.good 65 (inl refl) in
    let here = text_holds are.pieces (s.files 0) good.some good.valid good.within are.guarded.reads in
    let some : 1 ≤ length are.pieces = some_pieces are.pieces good.some in
    let h : HoldsText end (s.files 0) = subst (λ (n : ℕ). HoldsText n (s.files 0)) (sym are.text) here.0 in
    let count : h.records ≡ length are.pieces - 1 = same_records end are.text here.0 here.1 in
    (h, are.one.gate ∙ length-copied are.pieces ∙ ap (λ (n : ℕ). copied_end n (length (text_of are.pieces))) (let e : length are.pieces ≡ h.records + 1 = omega (arith, count, some) in e) ∙ ap (copied_end (h.records + 1)) (sym are.text))
  where
    some_pieces : (ps : List (List ℕ)) → is_first ps ≡ false → 1 ≤ length ps
    some_pieces [] none = absurd (cc)
    some_pieces (p ∷ ps) some = omega arith

    same_records : (e : ℕ) (is : e ≡ length (text_of are.pieces)) (h : HoldsText (length (text_of are.pieces)) (s.files 0)) → h.records ≡ length are.pieces - 1 → (subst (λ (n : ℕ). HoldsText n (s.files 0)) (sym is) h).records ≡ length are.pieces - 1
    same_records e is h count = count

-- however the records of the kept text are counted, a copy of it ends where its gate is
pub gate_counts : (s : State) (end : ℕ) (first second : Tail) → ∥ Guards s true end first second ∥₁ → (h : HoldsText end (s.files 0)) → first.gate ≡ copied_end (h.records + 1) end
gate_counts s end first second guards h =
    ∥∥₁_elim guards (Prim.hlevel props) (λ was.
    let here = kept_holds s end first second (was.are refl) in
    here.1 ∙ ap (λ (n : ℕ). copied_end (n + 1) end) (reaches_count (s.files 0) 0 here.0.records h.records 17 end here.0.reaches h.reaches))

-- further records, as the pieces by which copies are extended
pub further_fits : (s : State) (end last : ℕ) (first second : Tail) (are : AreOnWith s end first second) (before more : ℕ) → first.gate ≡ copied_end (before + 1) end → LeadTo (s.files 0) before (suc more) end last
    → (ps : List (List ℕ)) × FitsBoth first second ps end last (s.files 0) × GoesOn end last are.pieces ps (s.files 0) × (length ps ≡ suc more)
further_fits s end last first second are before more gate leads =
    let pieces = records_are_pieces (s.files 0) before (suc more) end last leads.reaches in
    let near = reaches_near (s.files 0) before more end last leads.reaches in (
      pieces.0,
      record {
        gates = are.two.gate ∙ sym are.one.gate;
        links = are.two.link ∙ sym are.one.link;
        has = pieces.1;
        fits = omega (arith, gate, near, length-chain first.link pieces.0, pieces.2, pieces.1.place);
      },
      record {
        begins = are.guarded.reads;
        size = are.text;
        some = not_first pieces.0 pieces.2;
        has = pieces.1;
        there = leads.there;
        shut = leads.shut;
      },
      pieces.2,
    )
  where
    not_first : (ps : List (List ℕ)) → length ps ≡ suc more → is_first ps ≡ false
    not_first [] count = absurd (omega (arith, count))
    not_first (p ∷ ps) count = refl

-- ---- what a Mirror that takes calls knows

-- what it takes says of the kept text, and of where the records end
pub record TakesAll (end : ℕ) (ledger : List ℕ) : Type 0 where
  pub text : HoldsText end ledger
  pub last : ℕ
  pub ends : EndsAt ledger last

pub takes_all : (reveals : Type 0) (s : State) (k : Kept) → k.on ≡ true → IsReady (mirror_state reveals s k) → TakesAll k.end (s.files 0)
takes_all reveals s k on ready =
    let takes = ready.1 in
    let text = takes.sound.text on in
    ⊎_elim (λ (off : k.on ≡ false). absurd (cc))
    (λ (rest : IsBare (s.files 0) ⊎ ((last : ℕ) × EndsAt (s.files 0) last × (0 ≡ 0 → last ≤ ready.0))).
    ⊎_elim
    (λ (bare : IsBare (s.files 0)). ⊎_elim (λ (short : length (s.files 0) < 18). absurd (omega (arith, short, text.long))) (λ (shut : get_or (s.files 0) 0 0 ≢ 1). absurd (shut text.header)) bare)
    (λ (ends : (last : ℕ) × EndsAt (s.files 0) last × (0 ≡ 0 → last ≤ ready.0)). record { text = text; last = ends.0; ends = ends.1 })
    rest) takes.allowed

-- so what follows the kept text is a list of whole records
pub not_broken : (s : State) (end : ℕ) (first second : Tail) → ∥ Guards s true end first second ∥₁ → TakesAll end (s.files 0)
    → ((before : ℕ) → first.gate ≡ copied_end (before + 1) end → IsFurther (s.files 0) before end Broken) → ⊥
not_broken s end first second guards all broken =
    let gate = gate_counts s end first second guards all.text in
    let rest = reaches_rest (s.files 0) 0 all.text.records all.ends.records 17 end all.last all.text.reaches all.ends.reaches all.ends.shut in
    broken all.text.records gate rest.0 all.last (record {
      reaches = subst (λ (n : ℕ). Reaches (s.files 0) n rest.0 end all.last) (let e : 0 + all.text.records ≡ all.text.records = omega arith in e) rest.1;
      there = all.ends.there;
      shut = all.ends.shut;
    })

-- and once they are kept too, all of the ledger is
pub holds_on : (s : State) (end last : ℕ) (first second : Tail) → ∥ Guards s true end first second ∥₁ → HoldsText end (s.files 0)
    → ((before : ℕ) → first.gate ≡ copied_end (before + 1) end → IsFurther (s.files 0) before end (Until last)) → HoldsText last (s.files 0)
holds_on s end last first second guards text further =
    let more = further text.records (gate_counts s end first second guards text) in
    let from = text.from in
    let on = reaches_le (s.files 0) text.records (suc more.0) end last more.1.reaches in
    record {
      header = text.header;
      long = text.long;
      from = omega (arith, from, on);
      records = text.records + suc more.0;
      reaches = reaches_join (s.files 0) 0 text.records (suc more.0) 17 end last text.reaches (subst (λ (n : ℕ). Reaches (s.files 0) n (suc more.0) end last) (let e : text.records ≡ 0 + text.records = omega arith in e) more.1.reaches) (text.records + suc more.0) refl;
      there = more.1.there;
    }
