-- What a write does to a file with a gate.
use Rattle.std.proofs.Common.{◌≡◌, inl, inr, ⊎_elim, ℕ, ◌+◌, List, [], ◌∷◌, length, take, drop, get_or, refl, sym, ◌∙◌, ap, subst, arith, add-zero}
use Rattle.std.proofs.lemmas.Bool.{cases_eq}
use Rattle.aea_disk.specs.Files.{Torn, Holds, overwritten}
use Rattle.aea_disk.specs.Steps.{torn_front, torn_range, holds_torn, get_or-overwritten_at}
use Rattle.aea_system_tests.specs.Gate.{IsClosed, HasOld, HasNew, HasOldOrNew}

-- a write after the gate
pub torn_body : (gate n : ℕ) (old new : List ℕ) → IsClosed gate old → Torn (gate + 1) n old new → HasOld gate old new
torn_body gate n old new shut torn = record {
  before = torn_front (gate + 1) n old new gate (omega arith) (omega (arith, shut.there)) torn;
  shut = record { there = omega (arith, shut.there, torn.no_shorter); closed = λ is. shut.closed (sym (torn.others gate shut.there (inl (omega arith))) ∙ is) };
}

-- a write of the gate
pub torn_gate : (gate : ℕ) (body old new : List ℕ) → IsClosed gate old → take (length body) (drop (gate + 1) old) ≡ body → Torn gate 1 old new → HasOldOrNew gate body old new
torn_gate gate body old new shut staged torn =
    let front = torn_front gate 1 old new gate (omega arith) (omega (arith, shut.there)) torn in
    ⊎_elim
    (λ is. inr (record { before = front; opened = is; behind = torn_range gate 1 old new (gate + 1) body (inr (omega arith)) torn staged }))
    (λ other. inl (record { before = front; shut = record { there = omega (arith, shut.there, torn.no_shorter); closed = other } }))
    (cases_eq (get_or new gate 0) 1)

-- which opened it
pub opened_gate : (gate : ℕ) (body old new : List ℕ) → IsClosed gate old → take (length body) (drop (gate + 1) old) ≡ body → Holds gate (1 ∷ []) old new → HasNew gate body old new
opened_gate gate body old new shut staged holds =
    let torn = holds_torn gate (1 ∷ []) old new holds in
    record {
      before = torn_front gate 1 old new gate (omega arith) (omega (arith, shut.there)) torn;
      opened = ap (λ (l : List ℕ). get_or l gate 0) holds ∙ ap (λ (k : ℕ). get_or (overwritten old gate (1 ∷ [])) k 0) (sym (add-zero gate)) ∙ get_or-overwritten_at old gate (1 ∷ []) 0 (omega arith);
      behind = torn_range gate 1 old new (gate + 1) body (inr (omega arith)) torn staged;
    }

-- the file as it was
pub old_same : (gate : ℕ) (old new : List ℕ) → IsClosed gate old → new ≡ old → HasOld gate old new
old_same gate old new shut same = subst (HasOld gate old) (sym same) (record { before = refl; shut = shut })

-- a closed gate is not an open one
pub not_new : (gate : ℕ) (body old older new : List ℕ) → HasOld gate older new → HasNew gate body old new → ⊥
not_new gate body old older new has opened = has.shut.closed opened.opened

-- what lies before the gate stayed before
pub new_of_old : (gate : ℕ) (body first second new : List ℕ) → HasOld gate first second → HasNew gate body second new → HasNew gate body first new
new_of_old gate body first second new was has = record { before = has.before ∙ was.before; opened = has.opened; behind = has.behind }

pub old_of_old : (gate : ℕ) (first second new : List ℕ) → HasOld gate first second → HasOld gate second new → HasOld gate first new
old_of_old gate first second new was has = record { before = has.before ∙ was.before; shut = has.shut }

-- where the second has the first's bytes before a closed gate, what is new over the first is so over the second
pub new_of_new : (gate : ℕ) (body first second new : List ℕ) → HasOld gate first second → HasNew gate body first new → HasNew gate body second new
new_of_new gate body first second new was has = record { before = has.before ∙ sym was.before; opened = has.opened; behind = has.behind }
