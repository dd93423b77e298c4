-- The ledger that is made, by what follows the text in the one that is there.
use Rattle.std.proofs.Common.{◌≡◌, inl, ℕ, ◌+◌, ◌-◌, ◌<◌, Bool, true, false, ◌&&◌, List, [], ◌∷◌, ◌++◌, length, take, drop, replicate, get_or, refl, sym, ap, ◌∙◌, arith}
use Rattle.std.specs.Prelude.{nat_lt, ◌==◌, if◌then◌else◌}
use Rattle.std.specs.Str.{bytes_eq}
use Rattle.std.proofs.lemmas.Bool.{and_parts, ltb-true, eqb-true, eqb-false, lt-ltb, eq-eqb}
use Rattle.std.proofs.lemmas.Slice.Eq.{bytes_eq-Decides}
use Rattle.std.proofs.lemmas.List.{take-append-drop, drop_more, take_at, length-append}
use Rattle.aea_disk.specs.Files.{Torn, Holds}
use Rattle.aea_disk.specs.Steps.{torn_none}
use Rattle.aea_records.specs.Format.{open_gate}
use Rattle.aea_copies.specs.Kept.{mended, HasText}
use Rattle.aea_copy_writer.specs.Anew.{IsOldNoneOrMade}
use Rattle.aea_adopt.specs.Mending.{MayBeMended, IsGateAfter}
use Rattle.aea_adopt.specs.declared.mend.Gate.TheVariants.{Missing, Open, Closed}

-- the ledger has the text and a gate, so the test of both is true
test_true : (text ledger : List ℕ) → length text < length ledger → take (length text) ledger ≡ text → (nat_lt (length text) (length ledger) && bytes_eq (take (length text) ledger) text) ≡ true
test_true text ledger long same =
    ap (λ (b : Bool). b && bytes_eq (take (length text) ledger) text) (lt-ltb (length text) (length ledger) long) ∙ (bytes_eq-Decides (take (length text) ledger) text).1 same

-- the ledger that is made has the text, and ends there
pub mended_ends : (text ledger : List ℕ) → HasText text (mended text ledger)
mended_ends text ledger = outer (nat_lt (length text) (length ledger) && bytes_eq (take (length text) ledger) text) refl
  where
    gate_at : ℕ
    gate_at = get_or ledger (length text) 0

    inner : (g : Bool) → (gate_at == open_gate) ≡ g → length text < length ledger → take (length text) ledger ≡ text
        → HasText text (if g then text ++ (0 ∷ drop (length text + 1) ledger) else ledger)
    inner true open_ long same = record { gate = 0; closed = λ e. omega (arith, e); after = drop (length text + 1) ledger; spelling = refl }
    inner false shut long same = record {
      gate = gate_at;
      closed = eqb-false gate_at open_gate shut;
      after = drop (length text + 1) ledger;
      spelling =
          sym (take-append-drop (length text) ledger) ∙ ap (λ (l : List ℕ). l ++ drop (length text) ledger) same
          ∙ ap (λ (l : List ℕ). text ++ l) (drop_more ledger (length text) 0 long);
    }

    outer : (b : Bool) → (nat_lt (length text) (length ledger) && bytes_eq (take (length text) ledger) text) ≡ b
        → HasText text (if b then (if gate_at == open_gate then text ++ (0 ∷ drop (length text + 1) ledger) else ledger) else text ++ 0 ∷ [])
    outer true e =
        let parts = and_parts (nat_lt (length text) (length ledger)) (bytes_eq (take (length text) ledger) text) e in
        inner (gate_at == open_gate) refl (ltb-true (length text) (length ledger) parts.0) ((bytes_eq-Decides (take (length text) ledger) text).0 parts.1)
    outer false e = record { gate = 0; closed = λ e. omega (arith, e); after = []; spelling = refl }

-- and begins with the text
pub mended_starts : (text ledger : List ℕ) → take (length text) (mended text ledger) ≡ text
mended_starts text ledger =
    let ends = mended_ends text ledger in
    ap (take (length text)) ends.spelling ∙ take_at text (ends.gate ∷ ends.after) (length text) refl

-- where the gate after the text is not open the ledger stays
pub mended_shut : (text ledger : List ℕ) → IsGateAfter text ledger Closed → mended text ledger ≡ ledger
mended_shut text ledger is =
    ap (λ (b : Bool). if b then (if get_or ledger (length text) 0 == open_gate then text ++ (0 ∷ drop (length text + 1) ledger) else ledger) else text ++ 0 ∷ []) (test_true text ledger is.0 is.1)
    ∙ inner (get_or ledger (length text) 0 == open_gate) refl
  where
    inner : (g : Bool) → (get_or ledger (length text) 0 == open_gate) ≡ g → (if g then text ++ (0 ∷ drop (length text + 1) ledger) else ledger) ≡ ledger
    inner true e = absurd (is.2 (eqb-true (get_or ledger (length text) 0) open_gate e))
    inner false e = refl

-- where it is open it is closed
pub mended_opened : (text ledger : List ℕ) → IsGateAfter text ledger Open → mended text ledger ≡ text ++ (0 ∷ drop (length text + 1) ledger)
mended_opened text ledger is =
    ap (λ (b : Bool). if b then (if get_or ledger (length text) 0 == open_gate then text ++ (0 ∷ drop (length text + 1) ledger) else ledger) else text ++ 0 ∷ []) (test_true text ledger is.0 is.1)
    ∙ ap (λ (b : Bool). if b then text ++ (0 ∷ drop (length text + 1) ledger) else ledger) (eq-eqb (get_or ledger (length text) 0) open_gate is.2)

-- where the ledger has not the text, or no gate after it, there is the text and a closed gate
pub mended_missing : (text ledger : List ℕ) → IsGateAfter text ledger Missing → mended text ledger ≡ text ++ 0 ∷ []
mended_missing text ledger is = outer (nat_lt (length text) (length ledger) && bytes_eq (take (length text) ledger) text) refl
  where
    outer : (b : Bool) → (nat_lt (length text) (length ledger) && bytes_eq (take (length text) ledger) text) ≡ b
        → (if b then (if get_or ledger (length text) 0 == open_gate then text ++ (0 ∷ drop (length text + 1) ledger) else ledger) else text ++ 0 ∷ []) ≡ text ++ 0 ∷ []
    outer true e =
        let parts = and_parts (nat_lt (length text) (length ledger)) (bytes_eq (take (length text) ledger) text) e in
        absurd (is (ltb-true (length text) (length ledger) parts.0) ((bytes_eq-Decides (take (length text) ledger) text).0 parts.1))
    outer false e = refl

-- what may be left of it
pub may_none : (text old : List ℕ) → MayBeMended text old old
may_none text old = record { stays = λ same. refl; gate = λ long same. torn_none (length text) 1 old; anew = λ none. inl refl }

-- the ledger that is made is not the one that is there, where none is made or a gate is open
pub not_missing : (text old : List ℕ) → IsGateAfter text old Missing → mended text old ≡ old → ⊥
not_missing text old is same =
    let all : text ++ 0 ∷ [] ≡ old = sym (mended_missing text old is) ∙ same in
    is (omega (arith, ap length all, length-append text (0 ∷ []))) (ap (take (length text)) (sym all) ∙ take_at text (0 ∷ []) (length text) refl)

-- the same where the gate is open
pub not_opened : (text old : List ℕ) → IsGateAfter text old Open → mended text old ≡ old → ⊥
not_opened text old is same =
    let ends = mended_ends text old in
    ends.closed (sym (gate_of text ends.gate ends.after) ∙ ap (λ (l : List ℕ). get_or l (length text) 0) (sym ends.spelling ∙ same) ∙ is.2)
  where
    gate_of : (t : List ℕ) (g : ℕ) (r : List ℕ) → get_or (t ++ g ∷ r) (length t) 0 ≡ g
    gate_of [] g r = refl
    gate_of (x ∷ t) g r = gate_of t g r

-- where none is made it is the old one, none, or the whole one that is made
pub may_missing : (text old new : List ℕ) → IsGateAfter text old Missing → IsOldNoneOrMade (text ++ 0 ∷ []) old new → MayBeMended text old new
may_missing text old new is may = record { stays = λ same. absurd (not_missing text old is same); gate = λ long same. absurd (is long same); anew = λ none. may }

-- and one byte may be torn where the gate is closed
pub may_opened : (text old new : List ℕ) → IsGateAfter text old Open → Torn (length text) 1 old new → MayBeMended text old new
may_opened text old new is torn = record { stays = λ same. absurd (not_opened text old is same); gate = λ long same. torn; anew = λ none. absurd (none is.0 is.1) }

-- the gate was closed
pub closed_made : (text old new : List ℕ) → IsGateAfter text old Open → Holds (length text) (0 ∷ []) old new → new ≡ mended text old
closed_made text old new is holds =
    let gap : length text - length old ≡ 0 = omega (arith, is.0) in
    holds ∙ ap (λ (l : List ℕ). l ++ replicate (length text - length old) 0 ++ (0 ∷ []) ++ drop (length text + 1) old) is.1
    ∙ ap (λ (n : ℕ). text ++ replicate n 0 ++ (0 ∷ []) ++ drop (length text + 1) old) gap
    ∙ regroup text (drop (length text + 1) old) ∙ sym (mended_opened text old is)
  where
    regroup : (t r : List ℕ) → ((t ++ []) ++ (0 ∷ [])) ++ r ≡ t ++ (0 ∷ r)
    regroup [] r = refl
    regroup (x ∷ t) r = ap (λ (l : List ℕ). x ∷ l) (regroup t r)
