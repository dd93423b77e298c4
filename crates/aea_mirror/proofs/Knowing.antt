-- What a Mirror knows of good copies, by what it keeps.
use Rattle.std.proofs.Common.{◌≡◌, ◌⊎◌, ⊎_elim, inl, inr, ℕ, ◌<◌, List, length, take, get_or, sym, ap, ◌∙◌, subst, arith}
use Rattle.std.proofs.Props.{props}
use Rattle.std.proofs.Math.Logic.{∥∥₁_elim}
use Rattle.aea_disk.specs.State.{State, During}
use Rattle.aea_copies.specs.Format.{copied, text_of}
use Rattle.aea_copies.specs.Kept.{IsCopyFile, IsGood, mended}
use Rattle.aea_copies.proofs.Judged.{has_one_pieces}
use Rattle.aea_mirror.specs.declared.tail.Tail.{Tail}
use Rattle.aea_mirror.specs.Guarding.{AreGuarded, AreOnWith, EndsCopy}
use Rattle.aea_mirror.specs.Extending.{IsGateOf}
use Rattle.aea_mirror.proofs.Extending.{gate_of, front_of}
use Rattle.aea_mirror.proofs.Syncing.{Known}

-- this is the text of all of the ledger, longer than the kept one
abbrev pub IsWholeText : (end : ℕ) (ledger : List ℕ) (pieces : List (List ℕ)) → Type 0
IsWholeText end ledger pieces = (end < length (text_of pieces)) × (mended (text_of pieces) ledger ≡ ledger)

-- in each image of the phase a good copy has these pieces, or the text of all of the ledger
abbrev pub HasTwoTexts : List (List ℕ) → ℕ → State → State → Type 0
HasTwoTexts pieces end s n = During s n (λ d. (f : ℕ) (others : List (List ℕ)) → IsCopyFile f → IsGood others (d f) → (others ≡ pieces) ⊎ IsWholeText end (s.files 0) others)

-- the place of each gate, of copies that end alike
at_end : (pieces : List (List ℕ)) (first second : Tail) (f g : ℕ) → EndsCopy pieces first → EndsCopy pieces second → IsGateOf first.gate second.gate f g → (g ≡ length (copied pieces)) × IsCopyFile f
at_end pieces first second f g one two of =
    ⊎_elim (λ (a : (f ≡ 65) × (g ≡ first.gate)). (a.1 ∙ one.gate, inl a.0)) (λ (b : (f ≡ 66) × (g ≡ second.gate)). (b.1 ∙ two.gate, inr b.0)) of

pub known_here : (s n : State) (end : ℕ) (first second : Tail) (are : AreOnWith s end first second) → HasTwoTexts are.pieces end s n → Known end first.gate second.gate s n
known_here s n end first second are texts = record {
  gates = λ f g of.
      let here = at_end are.pieces first second f g are.one are.two of in
      let gate = gate_of are.pieces (s.files f) (are.guarded.good f here.1) in
      record { there = omega (arith, gate.0, here.0); shut = λ is. gate.1 (ap (λ (n : ℕ). get_or (s.files f) n 0) (sym here.0) ∙ is) };
  alike = λ f g h o of other.
      let here = at_end are.pieces first second f g are.one are.two of in
      let there = at_end are.pieces first second h o are.one are.two other in (
        here.0 ∙ sym there.0,
        ap (λ (n : ℕ). take n (s.files f)) here.0 ∙ front_of are.pieces (s.files f) (are.guarded.good f here.1)
            ∙ sym (front_of are.pieces (s.files h) (are.guarded.good h there.1)) ∙ ap (λ (n : ℕ). take n (s.files h)) (sym there.0),
      );
  old = λ t d from to image f g pieces of good is.
      let here = at_end are.pieces first second f g are.one are.two of in
      ⊎_elim
      (λ (same : pieces ≡ are.pieces). ap (λ (p : List (List ℕ)). length (copied p)) same ∙ sym here.0)
      (λ (whole : IsWholeText end (s.files 0) pieces). absurd (omega (arith, whole.0, is)))
      (texts t d from to image f pieces here.1 good);
  other = λ t d from to image f g pieces of good is.
      let here = at_end are.pieces first second f g are.one are.two of in
      ⊎_elim
      (λ (same : pieces ≡ are.pieces). absurd (is (ap (λ (p : List (List ℕ)). length (text_of p)) same ∙ sym are.text)))
      (λ (whole : IsWholeText end (s.files 0) pieces). whole.1)
      (texts t d from to image f pieces here.1 good);
}

-- facts that have one proof at most are known where there is one
pub known_out : (s n : State) (end first second : ℕ) → ∥ Known end first second s n ∥₁ → Known end first second s n
known_out s n end first second some = record {
  gates = λ f g of. record {
    there = ∥∥₁_elim some (Prim.hlevel props) (λ k. (k.gates f g of).there);
    shut = ∥∥₁_elim some (Prim.hlevel props) (λ k. (k.gates f g of).shut);
  };
  alike = λ f g h o of other. ∥∥₁_elim some (Prim.hlevel props) (λ k. k.alike f g h o of other);
  old = λ t d from to image f g pieces of good is. ∥∥₁_elim some (Prim.hlevel props) (λ k. k.old t d from to image f g pieces of good is);
  other = λ t d from to image f g pieces of good is. ∥∥₁_elim some (Prim.hlevel props) (λ k. k.other t d from to image f g pieces of good is);
}

-- where nothing is written, both copies have the kept pieces
pub texts_stay : (s n : State) (pieces : List (List ℕ)) (end : ℕ) → AreGuarded s pieces → During s n (λ d. (f : ℕ) → d f ≡ s.files f) → HasTwoTexts pieces end s n
texts_stay s n pieces end guarded same t d from to image f others is good =
    inl (has_one_pieces (s.files f) others pieces (length (copied others)) (length (copied pieces)) (subst (IsGood others) (same t d from to image f) good) (guarded.good f is)).0
