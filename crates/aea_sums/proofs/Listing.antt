-- How the lists of wanted blocks are filled.
use Rattle.std.proofs.Common.{◌≡◌, ℕ, ◌+◌, ◌<◌, ◌≤◌, inl, inr, true, false, cond, List, [], ◌∷◌, ◌++◌, length, get_or, replicate, filter, refl, sym, ◌∙◌, ap, arith}
use Rattle.std.specs.Prelude.{slice_set}
use Rattle.std.proofs.Math.ListN.{length-set}
use Rattle.std.proofs.lemmas.Bool.{cases_eq, cases_lt}
use Rattle.std.proofs.lemmas.List.{get_or-set_same, get_or-set_other, get_or-replicate, append-nil, append_assoc}
use Rattle.std.proofs.lemmas.List.Elements.{filter-append}
use Rattle.aea_lattice.specs.declared.blocks.EqId.{EqId}
use Rattle.aea_lattice.specs.declared.grid.Lattice.{Lattice}
use Rattle.aea_lattice.specs.Equations.{equations_of}
use Rattle.aea_fates.specs.Sums.{output_number}
use Rattle.aea_view.specs.Bits.{has_bit}
use Rattle.aea_sums.specs.Sums.{has_equation, equations_in}
use Rattle.aea_sums.specs.Lists.{PutsWhere, Puts}

-- the lists of the bits below a place are done, the others are as they were
pub record Putting (word : ℕ) (e : EqId) (old now : List (List EqId)) (from : ℕ) : Type 0 where
  pub long : length now ≡ length old
  pub done : (k : ℕ) → k < from → k < length old → get_or now k [] ≡ get_or old k [] ++ cond (has_bit word k) (e ∷ []) []
  pub rest : (k : ℕ) → from ≤ k → get_or now k [] ≡ get_or old k []

module _ (word : ℕ) (e : EqId) (old : List (List EqId)) where
  pub putting_begun : Putting word e old old 0
  putting_begun = record { long = refl; done = λ k less inside. absurd (omega arith); rest = λ k more. refl }

  -- a bit that is 0
  miss : (xs : List EqId) (k : ℕ) → has_bit word k ≡ false → xs ≡ xs ++ cond (has_bit word k) (e ∷ []) []
  miss xs k off = sym (ap (λ b. xs ++ cond b (e ∷ []) []) off ∙ append-nil xs)

  pub putting_more : (now new : List (List EqId)) (from k : ℕ) → from ≤ k → k < length old → has_bit word k ≡ true
      → ((j : ℕ) → from ≤ j → j < k → has_bit word j ≡ false)
      → new ≡ slice_set now k (get_or now k [] ++ e ∷ []) → Putting word e old now from → Putting word e old new (k + 1)
  putting_more now new from k later inside set before is p = record {
    long = ap length is ∙ length-set now k (get_or now k [] ++ e ∷ []) ∙ p.long;
    done = λ q less within. elim (cases_eq q k) [
      | inl same ↦
          ap (λ xs. get_or xs q []) is
          ∙ ap (λ (x : ℕ). get_or (slice_set now k (get_or now k [] ++ e ∷ [])) x []) same
          ∙ get_or-set_same now k (get_or now k [] ++ e ∷ []) [] (let long = p.long in omega arith)
          ∙ ap (λ xs. xs ++ e ∷ []) (p.rest k later)
          ∙ ap (λ b. get_or old k [] ++ cond b (e ∷ []) []) (sym set)
          ∙ ap (λ (x : ℕ). get_or old x [] ++ cond (has_bit word x) (e ∷ []) []) (sym same)
      | inr other ↦
          ap (λ xs. get_or xs q []) is ∙ get_or-set_other now k q (get_or now k [] ++ e ∷ []) [] other
          ∙ elim (cases_lt q from) [
            | inl early ↦ p.done q early within
            | inr late ↦ p.rest q late ∙ miss (get_or old q []) q (before q late (omega arith))
          ]
    ];
    rest = λ q more.
        ap (λ xs. get_or xs q []) is ∙ get_or-set_other now k q (get_or now k [] ++ e ∷ []) [] (λ same. omega arith) ∙ p.rest q (omega arith);
  }

  pub putting_ended : (now : List (List EqId)) (from : ℕ) → ((j : ℕ) → from ≤ j → j < length old → has_bit word j ≡ false)
      → Putting word e old now from → PutsWhere word e old now
  putting_ended now from none p = record {
    long = p.long;
    each = λ k inside. elim (cases_lt k from) [
      | inl early ↦ p.done k early inside
      | inr late ↦ p.rest k late ∙ miss (get_or old k []) k (none k late inside)
    ];
  }

module _ (l : Lattice) (table : List ℕ) where
  pub puts_none : (old : List (List EqId)) → Puts l table [] old old
  puts_none old = record { long = refl; each = λ k inside. sym (append-nil (get_or old k [])) }

  pub puts_one : (word : ℕ) (e : EqId) (old new : List (List EqId)) → word ≡ get_or table (output_number l e) 0
      → PutsWhere word e old new → Puts l table (e ∷ []) old new
  puts_one word e old new is p = record {
    long = p.long;
    each = λ k inside. p.each k inside ∙ ap (λ (x : ℕ). get_or old k [] ++ cond (has_bit x k) (e ∷ []) []) is;
  }

  pub puts_then : (first second : List EqId) (old mid new : List (List EqId)) → Puts l table first old mid → Puts l table second mid new
      → Puts l table (first ++ second) old new
  puts_then first second old mid new p q = record {
    long = q.long ∙ p.long;
    each = λ k inside.
        q.each k (let long = p.long in omega arith)
        ∙ ap (λ xs. xs ++ filter (has_equation l table k) second) (p.each k inside)
        ∙ append_assoc (get_or old k []) (filter (has_equation l table k) first) (filter (has_equation l table k) second)
        ∙ ap (λ xs. get_or old k [] ++ xs) (sym (filter-append (has_equation l table k) first second));
  }

  pub puts_all : (count : ℕ) (new : List (List EqId)) → Puts l table (equations_of l) (replicate count []) new
      → (k : ℕ) → k < count → k < length (replicate {A = List EqId} count []) → get_or new k [] ≡ equations_in l table k
  puts_all count new p k less inside =
      p.each k inside ∙ ap (λ xs. xs ++ equations_in l table k) (get_or-replicate count k [] [] less)
