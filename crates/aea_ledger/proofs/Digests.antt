-- Bytes of digests one after the other.
use Rattle.std.proofs.Common.{◌≡◌, ℕ, ◌<◌, ◌^◌, List, [], ◌∷◌, ◌++◌, length, get_or, subst, suc, arith}
use Rattle.std.specs.Prelude.{All}
use Rattle.std.specs.List.{flat_map}
use Rattle.std.proofs.lemmas.List.Elements.{All-nil, All-cons, All-take, All-drop}
use Rattle.std.proofs.Math.Seq.{take-append_seam, drop-append_seam}
use Rattle.aea_lattice.specs.Data.{IsBytes}
use Rattle.aea_records.specs.TableLaws.{AreBytes}

-- lists of one length, whose elements are bytes
pub each_part : (n : ℕ) (ds : List (List ℕ)) → ((i : ℕ) → i < length ds → length (get_or ds i []) ≡ n) → AreBytes (flat_map (λ d. d) ds) → All (IsBytes n) ds
each_part n [] long are = All-nil (IsBytes n)
each_part n (d ∷ ds) long are =
    let P : ℕ → Type 0 = λ b. b < 2 ^ 8 in
    let rest = flat_map (λ (e : List ℕ). e) ds in
    let front : AreBytes d = subst AreBytes (take-append_seam d rest) (All-take P (length d) (d ++ rest) are) in
    let back : AreBytes rest = subst AreBytes (drop-append_seam d rest) (All-drop P (length d) (d ++ rest) are) in
    All-cons (IsBytes n) d ds (record { wide = long 0 (omega arith); each = front })
    (each_part n ds (λ i within. long (suc i) (omega arith)) back)
