-- Where the digests of one more node are among those of the nodes after a lattice.
use Rattle.std.proofs.Common.{◌≡◌, ⊎_elim, inl, inr, ℕ, ◌+◌, ◌-◌, ◌*◌, ◌<◌, ◌≤◌, List, [], ◌∷◌, ◌++◌, map, filter, length, get_or, refl, sym, ◌∙◌, ap, arith, length-append}
use Rattle.std.specs.Prelude.{nat_le}
use native.Mathlib.Nat.{add-mul, mul_comm}
use Rattle.std.proofs.lemmas.Nat.{mul-add-lt}
use Rattle.std.proofs.lemmas.Bool.{cases_lt}
use Rattle.std.proofs.lemmas.List.{get_or-append_right, get_or_append_left}
use Rattle.aea_lattice.specs.declared.blocks.Class.{Class}
use Rattle.aea_lattice.specs.declared.blocks.Class.TheVariants.{Datum, Horiz, Right, Left}
use Rattle.aea_lattice.specs.declared.blocks.BlockId.{BlockId}
use Rattle.aea_lattice.specs.declared.grid.Lattice.{Lattice}
use Rattle.aea_lattice.specs.declared.shape.Shape.{Shape}
use Rattle.aea_lattice.specs.Blocks.{block_of, class_number, classes}
use Rattle.aea_lattice.specs.Shapes.{number_in}
use Rattle.aea_lattice.proofs.Numbers.{one_to_three}
use Rattle.aea_envelope.specs.Cells.{block_digest}
use Rattle.aea_weave.specs.Woven.{Woven}
use Rattle.aea_archive.specs.Blocks.{IsBlockOn}
use Rattle.aea_archive.specs.Next.{AreDigestsOn}
use Rattle.aea_append.specs.Weaving.{last_payload, last_digest}

-- the classes of a node, by their numbers

abbrev classes_at : ℕ → List Class
classes_at alpha = filter (λ c. nat_le (class_number c) alpha) (Horiz ∷ Right ∷ Left ∷ [])

at_one : (f : Class → List ℕ) (c : Class) → class_number c ≤ 1 → get_or (map f (Datum ∷ Horiz ∷ [])) (class_number c) [] ≡ f c
at_one f Datum used = refl
at_one f Horiz used = refl
at_one f Right used = absurd (omega arith)
at_one f Left used = absurd (omega arith)

at_two : (f : Class → List ℕ) (c : Class) → class_number c ≤ 2 → get_or (map f (Datum ∷ Horiz ∷ Right ∷ [])) (class_number c) [] ≡ f c
at_two f Datum used = refl
at_two f Horiz used = refl
at_two f Right used = refl
at_two f Left used = absurd (omega arith)

at_three : (f : Class → List ℕ) (c : Class) → class_number c ≤ 3 → get_or (map f (Datum ∷ Horiz ∷ Right ∷ Left ∷ [])) (class_number c) [] ≡ f c
at_three f Datum used = refl
at_three f Horiz used = refl
at_three f Right used = refl
at_three f Left used = refl

class-at : (l : Lattice) (f : Class → List ℕ) (c : Class) → class_number c ≤ l.alpha → get_or (map f (Datum ∷ classes l)) (class_number c) [] ≡ f c
class-at l f c used = elim (one_to_three l) [
  | inl one ↦ ap (λ (a : ℕ). get_or (map f (Datum ∷ classes_at a)) (class_number c) []) one ∙ at_one f c (omega (arith, one, used))
  | inr more ↦ elim more [
    | inl two ↦ ap (λ (a : ℕ). get_or (map f (Datum ∷ classes_at a)) (class_number c) []) two ∙ at_two f c (omega (arith, two, used))
    | inr three ↦ ap (λ (a : ℕ). get_or (map f (Datum ∷ classes_at a)) (class_number c) []) three ∙ at_three f c (omega (arith, three, used))
  ]
]

length-classes : (l : Lattice) (f : Class → List ℕ) → length (map f (Datum ∷ classes l)) ≡ 1 + l.alpha
length-classes l f = elim (one_to_three l) [
  | inl one ↦ ap (λ (a : ℕ). length (map f (Datum ∷ classes_at a))) one ∙ ap (λ (a : ℕ). 1 + a) (sym one)
  | inr more ↦ elim more [
    | inl two ↦ ap (λ (a : ℕ). length (map f (Datum ∷ classes_at a))) two ∙ ap (λ (a : ℕ). 1 + a) (sym two)
    | inr three ↦ ap (λ (a : ℕ). length (map f (Datum ∷ classes_at a))) three ∙ ap (λ (a : ℕ). 1 + a) (sym three)
  ]
]

-- the place of a digest among those after n nodes
place_of : (q n i c : ℕ) → n < i → (i - 1) * q + c - n * q ≡ (i - 1 - n) * q + c
place_of q n i c after =
    let split : i - 1 ≡ n + (i - 1 - n) = omega (arith, after) in
    let e : (i - 1) * q ≡ n * q + (i - 1 - n) * q = ap (λ (k : ℕ). k * q) split ∙ add-mul n (i - 1 - n) q in
    omega (arith, e)

module _ (shape : Shape) (n : ℕ) (v w : Woven) (x : List ℕ) (digests : List (List ℕ)) (nodes : w.lattice.n ≡ v.lattice.n + 1) (alpha : w.lattice.alpha ≡ shape.alpha) (within : n ≤ v.lattice.n)
    (long : length digests ≡ (v.lattice.n - n) * (1 + shape.alpha)) where
  abbrev more : List (List ℕ)
  more = map (last_digest w x) (Datum ∷ classes w.lattice)

  -- there are as many digests as blocks
  pub digests-long : length (digests ++ more) ≡ (w.lattice.n - n) * (1 + shape.alpha)
  digests-long =
      let step : (w.lattice.n - n) * (1 + shape.alpha) ≡ (v.lattice.n - n) * (1 + shape.alpha) + (1 + shape.alpha) =
      ap (λ (k : ℕ). k * (1 + shape.alpha)) (let e : w.lattice.n - n ≡ (v.lattice.n - n) + 1 = omega (arith, nodes, within) in e)
      ∙ add-mul (v.lattice.n - n) 1 (1 + shape.alpha)
      ∙ (let one : 1 * (1 + shape.alpha) ≡ 1 + shape.alpha = omega arith in ap (λ (k : ℕ). (v.lattice.n - n) * (1 + shape.alpha) + k) one) in
      omega (arith, length-append digests more, long, step, length-classes w.lattice (last_digest w x), alpha)

  -- the digest of a block of the nodes before
  pub digest-before : (b : BlockId) → IsBlockOn shape n v.lattice.n b → get_or (digests ++ more) (number_in shape b - n * (1 + shape.alpha)) [] ≡ get_or digests (number_in shape b - n * (1 + shape.alpha)) []
  digest-before b on =
      let place = place_of (1 + shape.alpha) n b.node (class_number b.class) on.after in
      let inside : (b.node - 1 - n) * (1 + shape.alpha) + class_number b.class < (1 + shape.alpha) * (v.lattice.n - n) =
      mul-add-lt (b.node - 1 - n) (1 + shape.alpha) (class_number b.class) (v.lattice.n - n) (let after = on.after in let most = on.most in omega (arith, after, most)) (let used = on.used in omega (arith, used)) in
      let flipped : (1 + shape.alpha) * (v.lattice.n - n) ≡ (v.lattice.n - n) * (1 + shape.alpha) = mul_comm (1 + shape.alpha) (v.lattice.n - n) in
      get_or_append_left digests more [] (number_in shape b - n * (1 + shape.alpha)) (omega (arith, place, inside, flipped, long))

  -- the digest of a block of the new node
  pub digest-after : (b : BlockId) → b.node ≡ w.lattice.n → class_number b.class ≤ shape.alpha → get_or (digests ++ more) (number_in shape b - n * (1 + shape.alpha)) [] ≡ last_digest w x b.class
  digest-after b node used =
      let place = place_of (1 + shape.alpha) n b.node (class_number b.class) (omega (arith, node, nodes, within)) in
      let at : number_in shape b - n * (1 + shape.alpha) ≡ length digests + class_number b.class =
      place ∙ ap (λ (k : ℕ). k * (1 + shape.alpha) + class_number b.class) (let e : b.node - 1 - n ≡ v.lattice.n - n = omega (arith, node, nodes) in e)
      ∙ ap (λ (k : ℕ). k + class_number b.class) (sym long) in
      let rest : number_in shape b - n * (1 + shape.alpha) - length digests ≡ class_number b.class = omega (arith, at) in
      get_or-append_right digests more (length digests) (number_in shape b - n * (1 + shape.alpha)) [] refl (omega (arith, at))
      ∙ ap (λ (j : ℕ). get_or more j []) rest
      ∙ class-at w.lattice (last_digest w x) b.class (omega (arith, used, alpha))

-- the digests of payloads, and those of one node more, where the payloads stay on the nodes before
pub digests-push : (shape : Shape) (n : ℕ) (v w : Woven) (x : List ℕ) (old new : BlockId → List ℕ) (digests : List (List ℕ)) → w.lattice.n ≡ v.lattice.n + 1 → w.lattice.alpha ≡ shape.alpha → n ≤ v.lattice.n
    → ((b : BlockId) → IsBlockOn shape n v.lattice.n b → new b ≡ old b)
    → ((c : Class) → class_number c ≤ shape.alpha → new (block_of w.lattice.n c) ≡ last_payload w x c)
    → AreDigestsOn shape n v.lattice.n old digests → AreDigestsOn shape n w.lattice.n new (digests ++ map (last_digest w x) (Datum ∷ classes w.lattice))
digests-push shape n v w x old new digests nodes alpha within same last are = record {
  long = digests-long shape n v w x digests nodes alpha within are.long;
  each = λ b on. ⊎_elim
      (λ gt.
      let node : b.node ≡ w.lattice.n = (let most = on.most in omega (arith, gt, most, nodes)) in
      digest-after shape n v w x digests nodes alpha within are.long b node on.used
      ∙ sym (ap (λ (i : ℕ). block_digest (block_of i b.class) (new (block_of i b.class))) node
      ∙ ap (block_digest (block_of w.lattice.n b.class)) (last b.class on.used)))
      (λ le.
      let before : IsBlockOn shape n v.lattice.n b = record { after = on.after; most = le; used = on.used } in
      digest-before shape n v w x digests nodes alpha within are.long b before
      ∙ are.each b before
      ∙ ap (block_digest b) (sym (same b before)))
      (cases_lt v.lattice.n b.node);
}
