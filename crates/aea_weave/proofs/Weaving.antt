-- The strand sums of a data list: after a step, from the last parities, and at the beginning.
use Rattle.std.proofs.Common.{◌≡◌, ◌≢◌, ℕ, zero, suc, ◌+◌, ◌-◌, ◌^◌, ◌<◌, ◌≤◌, Bool, true, false, inl, inr, List, [], ◌∷◌, ◌++◌, map, filter, cond, length, replicate, get_or, Option, Some, None, All, refl, sym, ◌∙◌, ap, subst, arith, length-append}
use Rattle.std.proofs.Math.Seq.{get_or-append_seam}
use Rattle.std.proofs.lemmas.Bool.{cases_eq}
use Rattle.std.proofs.lemmas.List.{map-append, get_or_append_left}
use Rattle.std.proofs.lemmas.List.Elements.{filter-append, All-append}
use Rattle.std.proofs.lemmas.List.Sums.{fold-append}
use Rattle.std.proofs.lemmas.Option.{unwrap_or-slice_get}
use Rattle.aea_lattice.specs.declared.blocks.Class.{Class}
use Rattle.aea_lattice.specs.declared.blocks.Class.TheVariants.{Datum, Horiz, Right, Left}
use Rattle.aea_lattice.specs.declared.grid.Lattice.{Lattice}
use Rattle.aea_lattice.specs.Blocks.{class_number, HasParity}
use Rattle.aea_lattice.specs.Fences.{last_fence}
use Rattle.aea_lattice.specs.Strands.{strand_of, is_on, nodes_to}
use Rattle.aea_lattice.specs.Data.{IsBytes, IsDataList, xor_bytes, xor_all, datum_at, value_at}
use Rattle.aea_lattice.specs.Ends.{strands_of, open_nodes, last_open}
use Rattle.aea_lattice.specs.Growth.{IsGrown, Continues}
use Rattle.aea_lattice.proofs.Parted.{last_fence-within}
use Rattle.aea_lattice.proofs.Prefixes.{run-prefix, last_of-none}
use Rattle.aea_lattice.proofs.Opens.{on-continued, open-own, open-other, open-anew, open-last}
use Rattle.aea_lattice.proofs.Sums.{value-parity}
use Rattle.aea_weave.specs.Woven.{Woven, head_of, Weaves}
use Rattle.aea_weave.specs.Sums.{strand_sum, parity_to, AreStrandSums, LastParitiesAreSums, LongerDataKeepValues}
use Rattle.aea_weave.proofs.Places.{strand-below}

-- ---- a data list with one block more

datum-old : (w : ℕ) (datas more : List (List ℕ)) (i : ℕ) → i - 1 < length datas → datum_at w (datas ++ more) i ≡ datum_at w datas i
datum-old w datas more i inside =
    unwrap_or-slice_get (datas ++ more) (i - 1) (replicate w 0)
    ∙ get_or_append_left datas more (replicate w 0) (i - 1) inside
    ∙ sym (unwrap_or-slice_get datas (i - 1) (replicate w 0))

datum-new : (w : ℕ) (datas : List (List ℕ)) (x : List ℕ) (i : ℕ) → i - 1 ≡ length datas → datum_at w (datas ++ x ∷ []) i ≡ x
datum-new w datas x i last =
    unwrap_or-slice_get (datas ++ x ∷ []) (i - 1) (replicate w 0)
    ∙ ap (λ k. get_or (datas ++ x ∷ []) k (replicate w 0)) last
    ∙ get_or-append_seam datas x [] (replicate w 0)

map-single : (f g : ℕ → List ℕ) (a : ℕ) (p q : Bool) → p ≡ q → f a ≡ g a → map f (cond p (a ∷ []) []) ≡ map g (cond q (a ∷ []) [])
map-single f g a true true e same = ap (λ v. v ∷ []) same
map-single f g a false false e same = refl
map-single f g a true false e same = absurd (cc)
map-single f g a false true e same = absurd (cc)

-- the data of nodes that both lists have are the same
data-same : (p q : ℕ → Bool) → ((k : ℕ) → p k ≡ q k) → (w : ℕ) (datas more : List (List ℕ)) (j : ℕ) → j ≤ length datas
    → map (datum_at w (datas ++ more)) (filter p (nodes_to j)) ≡ map (datum_at w datas) (filter q (nodes_to j))
data-same p q same w datas more zero most = refl
data-same p q same w datas more (suc i) most =
    let f = datum_at w (datas ++ more) in
    let g = datum_at w datas in
    ap (map f) (filter-append p (nodes_to i) (suc i ∷ []))
    ∙ map-append f (filter p (nodes_to i)) (filter p (suc i ∷ []))
    ∙ ap (λ vs. vs ++ map f (filter p (suc i ∷ []))) (data-same p q same w datas more i (omega arith))
    ∙ ap (λ vs. map g (filter q (nodes_to i)) ++ vs)
    (map-single f g (suc i) (p (suc i)) (q (suc i)) (same (suc i)) (datum-old w datas more (suc i) (omega arith)))
    ∙ sym (map-append g (filter q (nodes_to i)) (filter q (suc i ∷ [])))
    ∙ sym (ap (map g) (filter-append q (nodes_to i) (suc i ∷ [])))

-- ---- a lattice that continues another

module _ (l m : Lattice) (more : Continues l m) (w : ℕ) (datas tail : List (List ℕ)) (long : length datas ≡ l.n) (i : ℕ) (first : 1 ≤ i) (last : i ≤ l.n) where
  parity-kept : (c : Class) → 1 ≤ class_number c → value_at m w (datas ++ tail) i c ≡ value_at l w datas i c
  parity-kept c parity =
      value-parity m w (datas ++ tail) i c parity
      ∙ ap (xor_all w)
      (data-same (is_on m c (strand_of m c i) i) (is_on l c (strand_of l c i) i) (λ k. on-continued l m more c i k last)
      w datas tail i (omega arith))
      ∙ sym (value-parity l w datas i c parity)

  value-kept : (c : Class) → value_at m w (datas ++ tail) i c ≡ value_at l w datas i c
  value-kept Datum = datum-old w datas tail i (omega arith)
  value-kept Horiz = parity-kept Horiz (omega arith)
  value-kept Right = parity-kept Right (omega arith)
  value-kept Left = parity-kept Left (omega arith)

-- where m continues l and more data follow, the blocks of l keep their values
pub longer-keep : LongerDataKeepValues
longer-keep l m more w datas tail long b has = value-kept l m more w datas tail long b.node has.first has.last b.class

All-single : (P : List ℕ → Type 0) (x : List ℕ) → P x → All P (x ∷ [])
All-single P x h zero d inside = h
All-single P x h (suc k) d inside = absurd (omega arith)

-- ---- a lattice with one node more

module _ (l m : Lattice) (grown : IsGrown l (l.n + 1) m) (w : ℕ) (datas : List (List ℕ)) (x : List ℕ) (is : IsDataList l w datas) (wide : length x ≡ w) (each : All (λ b. b < 2 ^ 8) x) where
  pub data-new : IsDataList m w (datas ++ x ∷ [])
  data-new = record {
    some_bytes = is.some_bytes;
    long = length-append datas (x ∷ []) ∙ (let long = is.long in let nodes = grown.nodes in omega arith);
    each = All-append (IsBytes w) datas (x ∷ []) is.each (All-single (IsBytes w) x (record { wide = wide; each = each }));
  }

  -- the sum over nodes of the shorter lattice
  sum-old : (c : Class) (strand : ℕ) → xor_all w (map (datum_at w (datas ++ x ∷ [])) (open_nodes l c strand)) ≡ strand_sum l w datas c strand
  sum-old c strand =
      ap (xor_all w)
      (data-same (is_on l c strand (l.n + 1)) (is_on l c strand (l.n + 1)) (λ k. refl) w datas (x ∷ []) l.n (let long = is.long in omega arith))

  pub sum-own : (c : Class) → strand_sum m w (datas ++ x ∷ []) c (strand_of m c m.n) ≡ xor_bytes (strand_sum l w datas c (strand_of m c m.n)) x
  sum-own c =
      let strand = strand_of m c m.n in
      let f = datum_at w (datas ++ x ∷ []) in
      ap (λ nodes. xor_all w (map f nodes)) (open-own l m grown c)
      ∙ ap (xor_all w) (map-append f (open_nodes l c strand) (suc l.n ∷ []))
      ∙ fold-append xor_bytes (replicate w 0) (map f (open_nodes l c strand)) (f (suc l.n) ∷ [])
      ∙ ap (λ v. xor_bytes v (f (suc l.n))) (sum-old c strand)
      ∙ ap (xor_bytes (strand_sum l w datas c strand)) (datum-new w datas x (suc l.n) (let long = is.long in omega arith))

  pub sum-other : (c : Class) (strand : ℕ) → strand ≢ strand_of m c m.n → strand_sum m w (datas ++ x ∷ []) c strand ≡ strand_sum l w datas c strand
  sum-other c strand other =
      ap (λ nodes. xor_all w (map (datum_at w (datas ++ x ∷ [])) nodes)) (open-other l m grown c strand other)
      ∙ sum-old c strand

strands-same : (l m : Lattice) (n : ℕ) → IsGrown l n m → (c : Class) → strands_of m c ≡ strands_of l c
strands-same l m n grown Datum = refl
strands-same l m n grown Horiz = grown.shape.s
strands-same l m n grown Right = grown.shape.p
strands-same l m n grown Left = grown.shape.p

parity-old : (l m : Lattice) (n : ℕ) → IsGrown l n m → (c : Class) → HasParity m c → HasParity l c
parity-old l m n grown c h = record { parity = h.parity; used = let u = h.used in let e = grown.shape.alpha in omega arith }

-- a step of heads
pub sums-step : (old new : Woven) (x : List ℕ) (datas : List (List ℕ)) → length x ≡ old.size → All (λ b. b < 2 ^ 8) x → Weaves old new x → AreStrandSums old datas
    → AreStrandSums new (datas ++ x ∷ [])
sums-step old new x datas wide each weaves sums =
    let l = old.lattice in
    let m = new.lattice in
    let grown : IsGrown l (l.n + 1) m = weaves.grown in
    record {
      is_data = subst (λ w. IsDataList m w (datas ++ x ∷ [])) (sym weaves.size) (data-new l m grown old.size datas x sums.is_data wide each);
      sums = λ c strand parity below.
          let has : HasParity l c = parity-old l m (l.n + 1) grown c parity in
          let same = strands-same l m (l.n + 1) grown c in
          let within : strand < strands_of l c = omega arith in
          elim (cases_eq strand (strand_of m c m.n)) [
            | inl e ↦
                let here : strand_of m c m.n < strands_of l c = rw (← e) within in
                ap (head_of new c) e
                ∙ weaves.own c parity
                ∙ ap (λ v. xor_bytes v x) (sums.sums c (strand_of m c m.n) has here)
                ∙ sym (sum-own l m grown old.size datas x sums.is_data wide each c)
                ∙ ap (strand_sum m old.size (datas ++ x ∷ []) c) (sym e)
            | inr other ↦
                weaves.others c strand parity below other
                ∙ sums.sums c strand has within
                ∙ sym (sum-other l m grown old.size datas x sums.is_data wide each c strand other)
          ]
          ∙ ap (λ w. strand_sum m w (datas ++ x ∷ []) c strand) (sym weaves.size);
    }

-- after a step the last node is after the last fence
pub step-joined : (l m : Lattice) → IsGrown l (l.n + 1) m → last_fence m.fences < m.n
step-joined l m grown =
    let nodes = grown.nodes in
    let within = last_fence-within l.n l.fences l.fenced in
    let same : last_fence m.fences ≡ last_fence l.fences = ap last_fence grown.fences in
    omega arith

-- the head of the last node's strand is its parity
pub parity-value : (v : Woven) (datas : List (List ℕ)) (c : Class) → HasParity v.lattice c → last_fence v.lattice.fences < v.lattice.n → AreStrandSums v datas
    → head_of v c (strand_of v.lattice c v.lattice.n) ≡ value_at v.lattice v.size datas v.lattice.n c
parity-value v datas c parity after sums =
    let l = v.lattice in
    sums.sums c (strand_of l c l.n) parity (strand-below l c l.n parity)
    ∙ ap (λ nodes. xor_all v.size (map (datum_at v.size datas) nodes)) (open-last l c after)
    ∙ sym (value-parity l v.size datas l.n c parity.parity)

-- ---- the last parities, and no data

sum-last : (l : Lattice) (w : ℕ) (datas : List (List ℕ)) (c : Class) (strand : ℕ) (o : Option ℕ) → 1 ≤ class_number c → last_open l c strand ≡ o
    → parity_to l w datas c o ≡ strand_sum l w datas c strand
sum-last l w datas c strand None parity is =
    sym (ap (λ nodes. xor_all w (map (datum_at w datas) nodes)) (last_of-none (open_nodes l c strand) is))
sum-last l w datas c strand (Some g) parity is =
    value-parity l w datas g c parity
    ∙ sym (ap (λ nodes. xor_all w (map (datum_at w datas) nodes)) (run-prefix l c strand (l.n + 1) l.n g (omega arith) is))

-- heads that are the parities of their strands' last open nodes, zeros where there is none, are the strand sums
pub last-sums : LastParitiesAreSums
last-sums v datas is each = record {
  is_data = is;
  sums = λ c strand parity below.
      each c strand parity below
      ∙ sum-last v.lattice v.size datas c strand (last_open v.lattice c strand) parity.parity refl;
}

-- where every strand begins anew, zeros are the strand sums of any data
pub sums-anew : (v : Woven) (datas : List (List ℕ)) → last_fence v.lattice.fences ≡ v.lattice.n → IsDataList v.lattice v.size datas
    → ((c : Class) (strand : ℕ) → HasParity v.lattice c → strand < strands_of v.lattice c → head_of v c strand ≡ replicate v.size 0)
    → AreStrandSums v datas
sums-anew v datas at is zeros = record {
  is_data = is;
  sums = λ c strand parity below.
      zeros c strand parity below
      ∙ sym (ap (λ nodes. xor_all v.size (map (datum_at v.size datas) nodes)) (open-anew v.lattice c strand at));
}
