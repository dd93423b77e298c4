-- How payloads are written one after the other, whatever a payload is: `has b p` says that p is a payload of b. For a loop
-- that prints payloads block by block and then flushes the page, as `send_payloads` does: `copied_none` before its first block,
-- `copied_one` and `copied_then` after each; where it ends early `cut_still` or `cut_one` at the block, `cut_then` for
-- those before it and `cut_front` for those behind; `sent_all` and `sent_cut` at the end of the page; `long_enough` of an
-- object's payloads.
use Rattle.std.proofs.Common.{◌≡◌, ℕ, zero, suc, ◌+◌, ◌-◌, ◌*◌, ◌≤◌, List, [], ◌∷◌, ◌++◌, length, take, refl, sym, ◌∙◌, ap, subst, arith, append_assoc, length-append, length-take, Ok, Err}
use Rattle.std.specs.List.{sum_by}
use Rattle.std.specs.Io.KnownBytes.{Appends}
use Rattle.std.proofs.KnownBytes.{Appends-nil}
use Rattle.std.proofs.lemmas.List.{append-nil}
use Rattle.std.proofs.lemmas.Bool.{false≢true}
use Rattle.std.proofs.lemmas.Bool.Decides.{nat_tests}
use Rattle.aea_faults.specs.Faults.{Rose}
use Rattle.aea_io.specs.Streams.{SinkState}
use Rattle.aea_io.specs.Written.{AppendsPart}
use Rattle.aea_io.specs.Pages.{Prints}
use Rattle.aea_io.proofs.Printing.{prints_then, prints_none, prints_as, prints_then_nothing}
use Rattle.aea_io.proofs.Puts.{AppendsPart-then}
use Rattle.aea_lattice.specs.declared.blocks.BlockId.{BlockId}
use Rattle.aea_lattice.specs.declared.shape.Shape.{Shape}
use Rattle.aea_catalog.specs.Catalogs.{Placed}
use Rattle.aea_records.specs.Format.{nodes_for}
use Rattle.aea_archive.specs.Objects.{data_of, ArePayloads, joined}
use Rattle.aea_fetch.specs.Copies.{HasCopied, HasCut, HasSent}
use Rattle.aea_fetch.proofs.Blocks.{length-data_of}
use Rattle.aea_fetch.proofs.Payloads.{payloads_append, payloads_as, take_joined, take_alone, length-joined}

take_nothing : (most : ℕ) → take most (joined []) ≡ []
take_nothing zero = refl
take_nothing (suc most) = refl

-- not more bytes are cut than are wanted
pub most_bytes : (most : ℕ) (payloads : List (List ℕ)) → length (take most (joined payloads)) ≤ most
most_bytes most payloads = omega (arith, length-take most (joined payloads))

-- so many nodes hold the bytes
pub nodes_hold : (shape : Shape) (k : ℕ) → k ≤ nodes_for shape k * shape.block
nodes_hold shape k = let h = shape.in_profile in grind (arith, nat_tests)

-- all is printed, with nothing gathered before and after
printed_all : {T E : Type 0} {a b : SinkState} {v : T} {text : List ℕ} → Prints {E = E} a [] b [] (Ok v) text → Appends a.written b.written text
printed_all {a} {b} {text} prints =
    let sent = prints.bytes in
    let same : sent.0 ≡ text = sym (append-nil sent.0) ∙ sym sent.2 in
    subst (λ (zs : List ℕ). Appends a.written b.written zs) same sent.1

module _ (has : BlockId → List ℕ → Type 0) where
  -- no block
  pub copied_none : (most : ℕ) (s : SinkState) (gathered : List ℕ) → HasCopied has [] most s gathered s gathered
  copied_none most s gathered = record {
    payloads = [];
    are = tt;
    prints = subst (λ (text : List ℕ). Prints {T = Unit {0}} {E = Unit {0}} s gathered s gathered (Ok tt) text) (sym (take_nothing most)) (prints_none s gathered tt);
  }

  -- one block, whose payload was printed
  pub copied_one : {T E : Type 0} {v : T} (b : BlockId) (p : List ℕ) (most : ℕ) (a d : SinkState) (before after : List ℕ) → has b p → Prints {E = E} a before d after (Ok v) (take most p) → HasCopied has (b ∷ []) most a before d after
  copied_one {T} {E} {v} b p most a d before after is prints = record {
    payloads = p ∷ [];
    are = (is, tt);
    prints = subst (λ (text : List ℕ). Prints {T = Unit {0}} {E = Unit {0}} a before d after (Ok tt) text) (take_alone p most) (prints_as tt prints);
  }

  -- nothing was appended at the blocks
  pub cut_still : (blocks : List BlockId) (most : ℕ) (s : SinkState) (gathered : List ℕ) (output : Type 0) → (output → ⊥) → HasCut has blocks most s gathered s output
  cut_still blocks most s gathered output other = record {
    front = [];
    is_front = record { after = blocks; are = refl };
    payloads = [];
    are = tt;
    part = (0, omega arith, Appends-nil s.written);
    kept = omega arith;
    cause = λ is. absurd (other is);
    fits = λ room revealed enough. (other, refl);
  }

  -- the output failed at the payload of a block
  pub cut_one : {T E : Type 0} {e : E} (b : BlockId) (p : List ℕ) (most : ℕ) (a d : SinkState) (before after : List ℕ) (output : Type 0) → has b p → Prints {T = T} a before d after (Err e) (take most p) → HasCut has (b ∷ []) most a before d output
  cut_one {T} {E} {e} b p most a d before after output is prints =
      let text = take_alone p most in
      record {
        front = b ∷ [];
        is_front = record { after = []; are = refl };
        payloads = p ∷ [];
        are = (is, tt);
        part = subst (λ (l : List ℕ). AppendsPart a.written d.written (before ++ l)) text prints.bytes;
        kept = prints.cause.kept;
        cause = λ _. prints.cause.rose;
        fits = λ room revealed enough. absurd (false≢true (prints.fits room revealed (subst (λ (l : List ℕ). length (before ++ l) ≤ room) (sym text) enough)));
      }

  -- what was cut short at the first blocks was so among all
  pub cut_front : (bs cs : List BlockId) (most : ℕ) (a d : SinkState) (p : List ℕ) (output : Type 0) → HasCut has bs most a p d output → HasCut has (bs ++ cs) most a p d output
  cut_front bs cs most a d p output cut = record {
    front = cut.front;
    is_front = record { after = cut.is_front.after ++ cs; are = ap (λ (l : List BlockId). l ++ cs) cut.is_front.are ∙ append_assoc cut.front cut.is_front.after cs };
    payloads = cut.payloads;
    are = cut.are;
    part = cut.part;
    kept = cut.kept;
    cause = cut.cause;
    fits = cut.fits;
  }

-- ---- payloads that have the bytes of a block each

module _ (has : BlockId → List ℕ → Type 0) (size : ℕ) (wide : (b : BlockId) (p : List ℕ) → has b p → length p ≡ size) where
  -- some blocks, and then others
  pub copied_then : (bs cs : List BlockId) (most left : ℕ) (a b d : SinkState) (p q r : List ℕ) → left ≡ most - length bs * size → HasCopied has bs most a p b q → HasCopied has cs left b q d r → HasCopied has (bs ++ cs) most a p d r
  copied_then bs cs most left a b d p q r is one two = record {
    payloads = one.payloads ++ two.payloads;
    are = payloads_append has bs cs one.payloads two.payloads one.are two.are;
    prints = subst (λ (text : List ℕ). Prints {T = Unit {0}} {E = Unit {0}} a p d r (Ok tt) text)
        (sym (take_joined has size wide bs one.payloads two.payloads most one.are ∙ ap (λ (n : ℕ). take most (joined one.payloads) ++ take n (joined two.payloads)) (sym is)))
        (prints_then one.prints two.prints);
  }

  -- some blocks, and then others at which it was cut short
  pub cut_then : (bs cs : List BlockId) (most left : ℕ) (a b d : SinkState) (p q : List ℕ) (output : Type 0) → left ≡ most - length bs * size → HasCopied has bs most a p b q → HasCut has cs left b q d output → HasCut has (bs ++ cs) most a p d output
  cut_then bs cs most left a b d p q output is one two =
      let x = take most (joined one.payloads) in
      let y = take left (joined two.payloads) in
      let sent = one.prints.bytes in
      let text : take most (joined (one.payloads ++ two.payloads)) ≡ x ++ y =
      take_joined has size wide bs one.payloads two.payloads most one.are ∙ ap (λ (n : ℕ). take most (joined one.payloads) ++ take n (joined two.payloads)) (sym is) in
      let regroup : sent.0 ++ (q ++ y) ≡ p ++ (x ++ y) = sym (append_assoc sent.0 q y) ∙ ap (λ (l : List ℕ). l ++ y) (sym sent.2) ∙ append_assoc p x y in
      let longer : length (p ++ (x ++ y)) ≡ length (p ++ x) + length y = ap length (sym (append_assoc p x y)) ∙ length-append (p ++ x) y in
      record {
        front = bs ++ two.front;
        is_front = record { after = two.is_front.after; are = ap (λ (l : List BlockId). bs ++ l) two.is_front.are ∙ sym (append_assoc bs two.front two.is_front.after) };
        payloads = one.payloads ++ two.payloads;
        are = payloads_append has bs two.front one.payloads two.payloads one.are two.are;
        part = subst (λ (l : List ℕ). AppendsPart a.written d.written (p ++ l)) (sym text)
            (subst (λ (l : List ℕ). AppendsPart a.written d.written l) regroup (AppendsPart-then a.written b.written d.written sent.0 (q ++ y) sent.1 two.part));
        kept = let k = one.prints.cause.kept in let m = two.kept in omega (arith, k, m);
        cause = λ e. let k = one.prints.cause.kept in let rose : Rose b.faults d.faults = two.cause e in omega (arith, k, rose);
        fits = λ room revealed enough.
            let whole : length (p ++ take most (joined (one.payloads ++ two.payloads))) ≡ length (p ++ x) + length y = ap (λ (l : List ℕ). length (p ++ l)) text ∙ longer in
            let l = one.prints.left room revealed (omega (arith, enough, whole)) in
            let le = l.2 in
            let s = two.fits l.0 l.1 (omega (arith, enough, whole, le, length-append q y)) in
            (s.0, s.1 ∙ one.prints.steady room revealed (omega (arith, enough, whole)));
      }

  -- the payloads of an object's data blocks are long enough for it
  pub long_enough : (shape : Shape) (p : Placed) (payloads : List (List ℕ)) → size ≡ shape.block → ArePayloads has (data_of p.parts) payloads → p.object.count ≡ sum_by (λ e. e.count) p.parts → p.object.count ≡ nodes_for shape p.object.length
      → length (take p.object.length (joined payloads)) ≡ p.object.length
  long_enough shape p payloads block are sum count =
      let many : length (data_of p.parts) ≡ nodes_for shape p.object.length = length-data_of p.parts ∙ sym sum ∙ count in
      let long = length-joined has size wide (data_of p.parts) payloads are ∙ ap (λ (n : ℕ). n * size) many ∙ ap (λ (n : ℕ). nodes_for shape p.object.length * n) block in
      let hold = nodes_hold shape p.object.length in
      omega (arith, length-take p.object.length (joined payloads), long, hold)

-- ---- the end of the page

module _ (has : BlockId → List ℕ → Type 0) (bs : List BlockId) (most : ℕ) (a b d : SinkState) (q : List ℕ) (copied : HasCopied has bs most a [] b q) where
  -- it was written
  pub sent_all : {T E : Type 0} {v : T} → Prints {E = E} b q d [] (Ok v) [] → HasSent has bs most a d
  sent_all {T} {E} {v} last =
      let whole : Prints {T = T} {E = E} a [] d [] (Ok v) (take most (joined copied.payloads)) = prints_then_nothing copied.prints last in
      record {
        payloads = copied.payloads;
        are = copied.are;
        appended = printed_all whole;
        kept = whole.cause.kept;
        steady = λ room revealed enough. whole.steady room revealed enough;
      }

  -- or the output failed at that
  pub sent_cut : {T E : Type 0} {e : E} {r : List ℕ} (output : Type 0) → Prints {T = T} b q d r (Err e) [] → HasCut has bs most a [] d output
  sent_cut {T} {E} {e} {r} output last =
      let whole : Prints {T = T} {E = E} a [] d r (Err e) (take most (joined copied.payloads)) = prints_then_nothing copied.prints last in
      record {
        front = bs;
        is_front = record { after = []; are = sym (append-nil bs) };
        payloads = copied.payloads;
        are = copied.are;
        part = whole.bytes;
        kept = whole.cause.kept;
        cause = λ _. whole.cause.rose;
        fits = λ room revealed enough. absurd (false≢true (whole.fits room revealed enough));
      }

-- ---- payloads by another word too

module _ (has other : BlockId → List ℕ → Type 0) (also : (b : BlockId) (p : List ℕ) → has b p → other b p) where
  pub sent_as : (bs : List BlockId) (most : ℕ) (a b : SinkState) → HasSent has bs most a b → HasSent other bs most a b
  sent_as bs most a b one = record { payloads = one.payloads; are = payloads_as has other also bs one.payloads one.are; appended = one.appended; kept = one.kept; steady = one.steady }

  -- where the output is at fault by the other word, it is by the one
  pub cut_as : (bs : List BlockId) (most : ℕ) (a b : SinkState) (p : List ℕ) (output failed : Type 0) → (failed → output) → HasCut has bs most a p b output → HasCut other bs most a p b failed
  cut_as bs most a b p output failed from one = record {
    front = one.front;
    is_front = one.is_front;
    payloads = one.payloads;
    are = payloads_as has other also one.front one.payloads one.are;
    part = one.part;
    kept = one.kept;
    cause = λ is. one.cause (from is);
    fits = λ room revealed enough. let s = one.fits room revealed enough in (λ is. s.0 (from is), s.1);
  }
