-- Payloads of an object's data blocks that are the blocks of a data list, whatever a payload is, as those of survivors that are
-- honest for the list: one after the other they are what the list has of the object.
use Rattle.std.proofs.Common.{◌≡◌, ℕ, zero, suc, ◌+◌, ◌-◌, ◌<◌, ◌≤◌, List, [], ◌∷◌, ◌++◌, length, take, drop, refl, sym, ◌∙◌, ap, arith, IsTrue, replicate}
use Rattle.std.specs.Prelude.{slice_get, unwrap_or, nat_lt, nat_le, ◌&&◌}
use Rattle.std.proofs.lemmas.Bool.{and_parts}
use Rattle.std.proofs.lemmas.Bool.Decides.{nat_tests}
use Rattle.aea_lattice.specs.declared.blocks.BlockId.{BlockId}
use Rattle.aea_lattice.specs.declared.blocks.Class.TheVariants.{Datum}
use Rattle.aea_lattice.specs.declared.grid.Lattice.{Lattice}
use Rattle.aea_lattice.specs.declared.shape.Shape.{Shape}
use Rattle.aea_lattice.specs.Blocks.{block_of}
use Rattle.aea_lattice.specs.Data.{IsDataList, datum_at}
use Rattle.aea_catalog.specs.declared.objects.Extent.{Extent}
use Rattle.aea_disk.specs.Files.{Files}
use Rattle.aea_records.specs.Fields.{are_apart}
use Rattle.aea_records.specs.Recorded.{blocks_in}
use Rattle.aea_archive.specs.Data.{AreSurvivorsHonest}
use Rattle.aea_archive.specs.Objects.{data_from, data_in, data_of, ArePayloads}
use Rattle.aea_fetch.specs.Payloads.{IsPayload}
use Rattle.aea_fetch.proofs.Payloads.{payloads_split}

-- the items from a place on are that one and those after it
drop-item : (w : ℕ) (xs : List (List ℕ)) (k : ℕ) → k < length xs → drop k xs ≡ unwrap_or (slice_get xs k) (replicate w 0) ∷ drop (suc k) xs
drop-item w [] k below = absurd (omega (arith, below))
drop-item w (x ∷ xs) zero below = refl
drop-item w (x ∷ xs) (suc k) below = drop-item w xs k (omega (arith, below))

module _ (shape : Shape) (l : Lattice) (datas : List (List ℕ)) (is_data : IsDataList l shape.block datas) (has : BlockId → List ℕ → Type 0)
    (value : (i : ℕ) (p : List ℕ) → 1 ≤ i → i ≤ l.n → has (block_of i Datum) p → p ≡ datum_at shape.block datas i) where
  -- those of nodes that follow each other
  own_part : (first n : ℕ) (ps : List (List ℕ)) → 1 ≤ first → first + n ≤ l.n + 1 → ArePayloads has (data_from first n) ps → ps ≡ take n (drop (first - 1) datas)
  own_part first zero [] low high are = refl
  own_part first zero (p ∷ ps) low high are = absurd are
  own_part first (suc n) [] low high are = absurd are
  own_part first (suc n) (p ∷ ps) low high are =
      let here : p ≡ datum_at shape.block datas first = value first p low (omega (arith, high)) are.0 in
      let long = is_data.long in
      let item = drop-item shape.block datas (first - 1) (omega (arith, low, high, long)) in
      let next : suc first - 1 ≡ suc (first - 1) = omega (arith, low) in
      let rest = own_part (suc first) n ps (omega arith) (omega (arith, high)) are.1 in
      let both : p ∷ ps ≡ datum_at shape.block datas first ∷ take n (drop (suc (first - 1)) datas) =
      ap (λ (x : List ℕ). x ∷ ps) here ∙ ap (λ (r : List (List ℕ)). datum_at shape.block datas first ∷ r) (rest ∙ ap (λ (k : ℕ). take n (drop k datas)) next) in
      both ∙ sym (ap (take (suc n)) item)

  -- those of parts, one after the other
  pub own_parts_are : (after : ℕ) (parts : List Extent) (ps : List (List ℕ)) → IsTrue (are_apart after l.n parts) → ArePayloads has (data_of parts) ps → ps ≡ blocks_in parts datas
  own_parts_are after [] [] apart are = refl
  own_parts_are after [] (p ∷ ps) apart are = absurd are
  own_parts_are after (e ∷ parts) ps apart are =
      let split = payloads_split has (data_in e) (data_of parts) ps are in
      let both = and_parts (nat_lt after e.first && nat_le 1 e.count && nat_le (e.first + e.count) (l.n + 1)) (are_apart (e.first + e.count - 1) l.n parts) apart in
      let low : 1 ≤ e.first = grind (arith, nat_tests, apart) in
      let high : e.first + e.count ≤ l.n + 1 = grind (arith, nat_tests, apart) in
      let front = own_part e.first e.count split.front low high split.fronts in
      let back = own_parts_are (e.first + e.count - 1) parts split.back both.1 split.backs in
      split.are ∙ ap (λ (f : List (List ℕ)). f ++ split.back) front ∙ ap (λ (b : List (List ℕ)). take e.count (drop (e.first - 1) datas) ++ b) back

-- the payload of a datum that is intact is that of the list for which the survivors are honest
pub own_payload : (reveals : Type 0) (shape : Shape) (l : Lattice) (digests : List (List ℕ)) (c : Files) (datas : List (List ℕ)) → reveals → AreSurvivorsHonest shape l digests datas c
    → (i : ℕ) (p : List ℕ) → 1 ≤ i → i ≤ l.n → IsPayload reveals shape digests c (block_of i Datum) p → p ≡ datum_at shape.block datas i
own_payload reveals shape l digests c datas revealed honest i p first last is =
    is.home revealed ∙ honest (block_of i Datum) (record { first = first; last = last; used = omega arith }) (is.intact revealed)
