-- What a Mirror knows of the copies, from call to call.
use Rattle.std.proofs.Common.{◌≡◌, ◌≢◌, ⊎_elim, ℕ, ◌<◌, ◌≤◌, Bool, true, false, List, ◌∷◌, length, take, get_or, refl, sym, ap, ◌∙◌, subst, arith}
use Rattle.std.proofs.lemmas.Bool.{cases_eq}
use Rattle.std.proofs.lemmas.List.{length-take, take-take, length-append}
use Rattle.aea_disk.specs.Files.{Files, ChangesFile, Torn, MayBeCut}
use Rattle.aea_disk.specs.Steps.{torn_front}
use Rattle.aea_disk.specs.State.{State, Passes, Follows, KeepsImages}
use Rattle.aea_copies.specs.Format.{text_of, copied, copy_mark, chain, first_link}
use Rattle.aea_copies.specs.Grammar.{IsBegun}
use Rattle.aea_copies.specs.Kept.{IsCopyFile, IsGood}
use Rattle.aea_copies.proofs.Judged.{has_one_pieces}
use Rattle.aea_mirror.specs.declared.tail.Tail.{Tail}
use Rattle.aea_mirror.specs.Guarding.{AreFixed, BeginsWith, Guards}

-- a write past a text leaves it, and so does a cut
pub torn_begins : (text : List ℕ) (at n : ℕ) (old new : List ℕ) → length text ≤ at → BeginsWith text old → Torn at n old new → BeginsWith text new
torn_begins text at n old new before begins torn =
    let long = begins.long in
    let more = torn.no_shorter in
    record { long = omega (arith, long, more); front = torn_front at n old new (length text) before (omega (arith, long)) torn ∙ begins.front }

pub cut_begins : (text : List ℕ) (len : ℕ) (old new : List ℕ) → length text < len → BeginsWith text old → MayBeCut len old new → BeginsWith text new
cut_begins text len old new past begins cut =
    ⊎_elim
    (λ (same : new ≡ old). subst (BeginsWith text) (sym same) begins)
    (λ (is : new ≡ take len old).
    let long = begins.long in
    record { long = omega (arith, ap length is, length-take len old, long, past); front = ap (take (length text)) is ∙ take-take (length text) len old (omega (arith, past)) ∙ begins.front })
    cut

-- a step of the ledger leaves each text of this length that it begins with
abbrev pub KeepsText : ℕ → (List ℕ → List ℕ → Type 0) → Type 0
KeepsText end step = (text old new : List ℕ) → length text ≡ end → BeginsWith text old → step old new → BeginsWith text new

apart : (file f : ℕ) → file ≤ 64 → IsCopyFile f → f ≢ file
apart file f near is e = ⊎_elim (λ a. omega (arith, a, e, near)) (λ b. omega (arith, b, e, near)) is

fixed_stays : (file : ℕ) (step : List ℕ → List ℕ → Type 0) (s t : State) → file ≤ 64 → ChangesFile file step s.files t.files → Follows (ChangesFile file step) s t → Passes s t → AreFixed s → AreFixed t
fixed_stays file step s t near changes follows time fixed c here f is =
    let was = follows t.moment c time.later (omega arith) here in
    was.2.others f (apart file f near is) ∙ fixed was.0 was.1 f is ∙ sym (changes.others f (apart file f near is))

begins_stays : (file end : ℕ) (step : List ℕ → List ℕ → Type 0) (text : List ℕ) (old new : Files) → length text ≡ end → (file ≡ 0 → KeepsText end step) → ChangesFile file step old new → BeginsWith text (old 0) → BeginsWith text (new 0)
begins_stays file end step text old new size keeps changes begins =
    ⊎_elim
    (λ (here : file ≡ 0).
    let change : ChangesFile 0 step old new = subst (λ (f : ℕ). ChangesFile f step old new) here changes in
    keeps here text (old 0) (new 0) size begins change.here)
    (λ (other : file ≢ 0). subst (BeginsWith text) (sym (changes.others 0 (λ is. other (sym is)))) begins)
    (cases_eq file 0)

-- a call that changes the ledger past the text, or a site, leaves what is known
pub guards_stay : (file end : ℕ) (step : List ℕ → List ℕ → Type 0) (s t : State) (on : Bool) (first second : Tail) → file ≤ 64 → (on ≡ true → file ≡ 0 → KeepsText end step)
    → ChangesFile file step s.files t.files → Follows (ChangesFile file step) s t → Passes s t → Guards s on end first second → Guards t on end first second
guards_stay file end step s t on first second near keeps changes follows time guards = record {
  off = λ is.
      let was = guards.off is in
      record {
        none = λ f copy begun. was.none f copy (subst IsBegun (changes.others f (apart file f near copy)) begun);
        fixed = fixed_stays file step s t near changes follows time was.fixed;
      };
  are = λ is.
      let was = guards.are is in
      let text = text_of was.pieces in
      record {
        pieces = was.pieces;
        guarded = record {
          good = λ f copy. subst (IsGood was.pieces) (sym (changes.others f (apart file f near copy))) (was.guarded.good f copy);
          fixed = fixed_stays file step s t near changes follows time was.guarded.fixed;
          reads = begins_stays file end step text s.files t.files (sym was.text) (keeps is) changes was.guarded.reads;
          images = λ c here.
              let before = follows t.moment c time.later (omega arith) here in
              begins_stays file end step text before.0 c (sym was.text) (keeps is) before.2 (was.guarded.images before.0 before.1);
        };
        text = was.text;
        one = was.one;
        two = was.two;
      };
}

-- and so does a call that only reads
pub guards_read : (s t : State) (on : Bool) (end : ℕ) (first second : Tail) → t.files ≡ s.files → KeepsImages s t → Passes s t → Guards s on end first second → Guards t on end first second
guards_read s t on end first second same keeps time guards = record {
  off = λ is.
      let was = guards.off is in
      record {
        none = subst (λ (c : Files). (f : ℕ) → IsCopyFile f → IsBegun (c f) → ⊥) (sym same) was.none;
        fixed = λ c here f copy. was.fixed c (keeps t.moment c time.later (omega arith) here) f copy ∙ ap (λ (d : Files). d f) (sym same);
      };
  are = λ is.
      let was = guards.are is in
      record {
        pieces = was.pieces;
        guarded = record {
          good = subst (λ (c : Files). (f : ℕ) → IsCopyFile f → IsGood was.pieces (c f)) (sym same) was.guarded.good;
          fixed = λ c here f copy. was.guarded.fixed c (keeps t.moment c time.later (omega arith) here) f copy ∙ ap (λ (d : Files). d f) (sym same);
          reads = subst (λ (c : Files). BeginsWith (text_of was.pieces) (c 0)) (sym same) was.guarded.reads;
          images = λ c here. was.guarded.images c (keeps t.moment c time.later (omega arith) here);
        };
        text = was.text;
        one = was.one;
        two = was.two;
      };
}

-- a good copy is begun
pub good_begun : (pieces : List (List ℕ)) (bytes : List ℕ) → IsGood pieces bytes → IsBegun bytes
good_begun pieces bytes good = record {
  long = omega (arith, ap length good.spelling, length-append (copied pieces) (good.gate ∷ good.after), length-append copy_mark (chain first_link pieces), mark);
  gate = ap (λ (l : List ℕ). get_or l 0 0) good.spelling;
}
  where
    mark : length copy_mark ≡ 8
    mark = refl

-- in each image of now the text of each good copy is in the ledger; it is the kept text
pub texts_are_kept : (s : State) (on : Bool) (end : ℕ) (first second : Tail) → Guards s on end first second → (d : Files) → s.image s.moment d → (f : ℕ) (others : List (List ℕ)) → IsCopyFile f → IsGood others (d f)
    → (length (text_of others) < length (d 0)) × (take (length (text_of others)) (d 0) ≡ text_of others) × (on ≡ true) × (end ≡ length (text_of others))
texts_are_kept s on end first second guards d image f others is good =
    by_on on refl
  where
    by_on : (b : Bool) → on ≡ b → (length (text_of others) < length (d 0)) × (take (length (text_of others)) (d 0) ≡ text_of others) × (on ≡ true) × (end ≡ length (text_of others))
    by_on true on_ =
        let was = guards.are on_ in
        let here : IsGood others (s.files f) = subst (IsGood others) (was.guarded.fixed d image f is) good in
        let same : others ≡ was.pieces = (has_one_pieces (s.files f) others was.pieces (length (copied others)) (length (copied was.pieces)) here (was.guarded.good f is)).0 in
        let begins : BeginsWith (text_of others) (d 0) = subst (λ (p : List (List ℕ)). BeginsWith (text_of p) (d 0)) (sym same) (was.guarded.images d image) in
        (begins.long, begins.front, on_, was.text ∙ ap (λ (p : List (List ℕ)). length (text_of p)) (sym same))
    by_on false off =
        let was = guards.off off in
        absurd (was.none f is (subst IsBegun (was.fixed d image f is) (good_begun others (d f) good)))
