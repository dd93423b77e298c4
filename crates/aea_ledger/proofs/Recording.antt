-- What a ledger records, it records with a fence after its last node too, and with a raise of the limit. By these the
-- commands that add such a record keep what is known of the data.
use Rattle.std.proofs.Common.{◌≡◌, ℕ, zero, suc, ◌≤◌, ◌==◌, ◌&&◌, Bool, not, List, [], ◌∷◌, ◌++◌, map, filter, refl, sym, ◌∙◌, ap, subst, arith}
use Rattle.std.specs.Prelude.{All, IsTrue}
use Rattle.std.specs.List.{flat_map, sum_by}
use Rattle.std.proofs.lemmas.List.{append-nil}
use Rattle.std.proofs.lemmas.List.Elements.{All-append, All-cons, All-head, All-nil, All-tail}
use Rattle.aea_lattice.specs.declared.blocks.BlockId.{BlockId}
use Rattle.aea_lattice.specs.declared.blocks.Class.{Class}
use Rattle.aea_lattice.specs.declared.blocks.Class.TheVariants.{Datum, Horiz, Right, Left}
use Rattle.aea_lattice.specs.declared.grid.Lattice.{Lattice}
use Rattle.aea_lattice.specs.declared.shape.Shape.{Shape}
use Rattle.aea_lattice.specs.Blocks.{HasBlock, block_of, blocks_of, blocks_to, classes}
use Rattle.aea_lattice.specs.Data.{datum_at, value_at, value_of, xor_all}
use Rattle.aea_lattice.specs.Facts.{BlocksAreInside}
use Rattle.aea_lattice.specs.Fences.{are_fences, is_parted}
use Rattle.aea_lattice.specs.Strands.{nodes_to, prefix, strand_of}
use Rattle.aea_lattice.proofs.Parted.{parted-later}
use Rattle.aea_envelope.specs.Cells.{block_digest}
use Rattle.aea_records.specs.Format.{Record, Stored, Fence, Raise, stored_in, stored_of, fences_of, nodes_of}
use Rattle.aea_records.specs.Grammar.{AreRecords}
use Rattle.aea_records.specs.Laws.{RecordsAreFew}
use Rattle.aea_records.specs.Recorded.{HoldsRecord}
use Rattle.aea_records.proofs.OneMore.{stored_of-push, fences_of-push}
use Rattle.aea_ledger.specs.Recorded.{AreRecordsOf}

-- a record without an object adds none
stored_same : (records : List Record) (r : Record) → stored_in r ≡ [] → stored_of (records ++ r ∷ []) ≡ stored_of records
stored_same records r none =
    stored_of-push records r ∙ ap (λ (xs : List Stored). stored_of records ++ xs) none ∙ append-nil (stored_of records)

one_more : (datas : List (List ℕ)) (records : List Record) (r : Record) → HoldsRecord datas r → All (HoldsRecord datas) records → All (HoldsRecord datas) (records ++ r ∷ [])
one_more datas records r holds all = All-append (HoldsRecord datas) records (r ∷ []) all (All-cons (HoldsRecord datas) r [] holds (All-nil (HoldsRecord datas)))

-- a raise of the limit changes nothing of what is recorded
pub raise_records : (shape : Shape) (records : List Record) (datas : List (List ℕ)) → AreRecords shape (records ++ Raise ∷ []) → AreRecordsOf shape records datas → AreRecordsOf shape (records ++ Raise ∷ []) datas
raise_records shape records datas valid has =
    let same = stored_same records Raise refl in
    record {
      valid = valid;
      lattice = has.lattice;
      is_lattice = record {
        alpha = has.is_lattice.alpha;
        s = has.is_lattice.s;
        p = has.is_lattice.p;
        n = has.is_lattice.n ∙ ap (sum_by (λ o. o.count)) (sym same);
        fences_are = has.is_lattice.fences_are ∙ sym (fences_of-push records Raise ∙ append-nil (fences_of records));
      };
      is_data = has.is_data;
      digests = ap (flat_map (λ o. o.digests)) same ∙ has.digests;
      objects = one_more datas records Raise tt has.objects;
    }

-- the lattice with a fence after its last node
abbrev with_fence : (l : Lattice) → IsTrue (are_fences l.n (l.fences ++ l.n ∷ [])) → Lattice
with_fence l fits = record {
  alpha = l.alpha;
  s = l.s;
  p = l.p;
  n = l.n;
  fences = l.fences ++ l.n ∷ [];
  in_profile = l.in_profile;
  in_range = l.in_range;
  fenced = fits;
}

module _ (l : Lattice) (fits : IsTrue (are_fences l.n (l.fences ++ l.n ∷ []))) where
  -- it parts none of its nodes
  parted_same : (k i : ℕ) → i ≤ l.n → is_parted (l.fences ++ l.n ∷ []) k i ≡ is_parted l.fences k i
  parted_same k i last = parted-later l.fences (l.n ∷ []) l.n k i (All-cons (λ f. l.n ≤ f) l.n [] (omega arith) (All-nil (λ f. l.n ≤ f))) last

  among_same : (strand : ℕ → ℕ) (at i : ℕ) → i ≤ l.n → filter (λ k. strand k == at && not (is_parted (l.fences ++ l.n ∷ []) k i)) (nodes_to i) ≡ filter (λ k. strand k == at && not (is_parted l.fences k i)) (nodes_to i)
  among_same strand at i last = ap (λ (test : ℕ → Bool). filter test (nodes_to i)) (λ j k. strand k == at && not (parted_same k i last j))

  prefix_same : (c : Class) (i : ℕ) → i ≤ l.n → prefix (with_fence l fits) c i ≡ prefix l c i
  prefix_same Datum i last = among_same (strand_of l Datum) (strand_of l Datum i) i last
  prefix_same Horiz i last = among_same (strand_of l Horiz) (strand_of l Horiz i) i last
  prefix_same Right i last = among_same (strand_of l Right) (strand_of l Right i) i last
  prefix_same Left i last = among_same (strand_of l Left) (strand_of l Left i) i last

  value_same : (w : ℕ) (datas : List (List ℕ)) (i : ℕ) (c : Class) → i ≤ l.n → value_at (with_fence l fits) w datas i c ≡ value_at l w datas i c
  value_same w datas i Datum last = refl
  value_same w datas i Horiz last = ap (λ (nodes : List ℕ). xor_all w (map (datum_at w datas) nodes)) (prefix_same Horiz i last)
  value_same w datas i Right last = ap (λ (nodes : List ℕ). xor_all w (map (datum_at w datas) nodes)) (prefix_same Right i last)
  value_same w datas i Left last = ap (λ (nodes : List ℕ). xor_all w (map (datum_at w datas) nodes)) (prefix_same Left i last)

  blocks_same : (i : ℕ) → blocks_to (with_fence l fits) i ≡ blocks_to l i
  blocks_same zero = refl
  blocks_same (suc i) = ap (λ (blocks : List BlockId). blocks ++ map (block_of (suc i)) (Datum ∷ classes l)) (blocks_same i)

-- a map over blocks of the lattice, by what it gives there
map_on : {X Y : Type 0} (P : X → Type 0) (f g : X → Y) → ((x : X) → P x → f x ≡ g x) → (xs : List X) → All P xs → map f xs ≡ map g xs
map_on P f g same [] all = refl
map_on P f g same (x ∷ xs) all = ap (λ y. y ∷ map f xs) (same x (All-head P x xs all)) ∙ ap (λ ys. g x ∷ ys) (map_on P f g same xs (All-tail P x xs all))

-- a fence after the last node changes nothing of what is recorded
pub fence_records : BlocksAreInside → RecordsAreFew → (shape : Shape) (records : List Record) (datas : List (List ℕ)) → AreRecords shape (records ++ Fence (nodes_of records) ∷ []) → AreRecordsOf shape records datas
    → AreRecordsOf shape (records ++ Fence (nodes_of records) ∷ []) datas
fence_records inside few shape records datas valid has =
    let r = Fence (nodes_of records) in
    let same = stored_same records r refl in
    let l = has.lattice in
    let nodes : nodes_of (records ++ r ∷ []) ≡ l.n = ap (sum_by (λ o. o.count)) same ∙ sym has.is_lattice.n in
    let fences : fences_of (records ++ r ∷ []) ≡ l.fences ++ l.n ∷ [] = fences_of-push records r ∙ ap (λ (fs : List ℕ). fs ++ nodes_of records ∷ []) (sym has.is_lattice.fences_are) ∙ ap (λ (n : ℕ). l.fences ++ n ∷ []) (sym has.is_lattice.n) in
    let fits : IsTrue (are_fences l.n (l.fences ++ l.n ∷ [])) =
    subst (λ (fs : List ℕ). IsTrue (are_fences l.n fs)) fences (subst (λ (n : ℕ). IsTrue (are_fences n (fences_of (records ++ r ∷ [])))) nodes (few shape (records ++ r ∷ []) valid).fences) in
    record {
      valid = valid;
      lattice = with_fence l fits;
      is_lattice = record { alpha = has.is_lattice.alpha; s = has.is_lattice.s; p = has.is_lattice.p; n = sym nodes; fences_are = sym fences };
      is_data = record { some_bytes = has.is_data.some_bytes; long = has.is_data.long; each = has.is_data.each };
      digests = ap (flat_map (λ o. o.digests)) same ∙ has.digests
          ∙ sym (ap (map (λ b. block_digest b (value_of (with_fence l fits) shape.block datas b))) (blocks_same l fits l.n)
          ∙ map_on (HasBlock l) _ _ (λ b here. ap (block_digest b) (value_same l fits shape.block datas b.node b.class here.last)) (blocks_of l) (inside l));
      objects = one_more datas records r tt has.objects;
    }
