-- Lines of cases that are printed one after the other.
use Rattle.std.proofs.Common.{◌≡◌, ◌⊎◌, inl, inr, ℕ, ◌+◌, arith, List, [], ◌∷◌, ◌++◌, length, length-append, append_assoc, take, refl, sym, ◌∙◌, ap, subst, Ok, Err}
use Rattle.std.specs.Prelude.{Result, OnOk}
use Rattle.std.specs.Io.KnownBytes.{Appends}
use Rattle.std.proofs.KnownBytes.{Appends-nil, Appends-trans}
use Rattle.std.proofs.lemmas.Bool.{cases_lt, false≢true}
use Rattle.std.proofs.lemmas.List.{append-nil}
use Rattle.aea_faults.specs.Faults.{Rose}
use Rattle.aea_io.specs.Pages.{Prints}
use Rattle.aea_io.specs.Streams.{SinkState}
use Rattle.aea_io.specs.Written.{IsFlushed}
use Rattle.aea_lattice.specs.declared.grid.Lattice.{Lattice}
use Rattle.aea_sites.specs.declared.lost.SiteLoss.{SiteLoss}
use Rattle.aea_command.specs.declared.refusal.Failure.{Failure}
use Rattle.aea_command.specs.declared.refusal.Failure.TheVariants as failure
use Rattle.aea_command.proofs.Texts.{printed_all}
use Rattle.aea_command_loss.specs.Sites.{IsCaseLoss, loss_line, AreLossLines, IsCutLine, PrintsLosses}
use Rattle.aea_command_loss.specs.Sites.Steps.{LeavesRoom, PutsLosses}

-- the lines of some cases, and then those of others
pub lines_then : (l : Lattice) (sites : ℕ) (xs ys : List (ℕ × ℕ)) (t u : List ℕ) → AreLossLines l sites xs t → AreLossLines l sites ys u → AreLossLines l sites (xs ++ ys) (t ++ u)
lines_then l sites [] ys t u none more = subst (λ (zs : List ℕ). AreLossLines l sites ys (zs ++ u)) (sym none) more
lines_then l sites (q ∷ xs) ys t u first more =
    let loss = first.0 in
    let rest = first.2.0 in
    (loss, first.1, (rest ++ u, lines_then l sites xs ys rest u first.2.1 more, ap (λ (zs : List ℕ). zs ++ u) first.2.2 ∙ append_assoc (loss_line q loss) rest u))

-- the line of one case
pub one_line : (l : Lattice) (sites : ℕ) (q : ℕ × ℕ) (loss : SiteLoss) → IsCaseLoss l sites q loss → AreLossLines l sites (q ∷ []) (loss_line q loss)
one_line l sites q loss is = (loss, is, ([], refl, sym (append-nil (loss_line q loss))))

pub done_never : {T : Type 0} (v : T) (f : Failure) → ◌≡◌ {A = Result T Failure} (Ok v) (Err f) → ⊥
done_never v f e = cc

other_err : {T U : Type 0} (f g : Failure) → ◌≡◌ {A = Result U Failure} (Err f) (Err g) → ◌≡◌ {A = Result T Failure} (Err f) (Err g)
other_err f g e = let same : f ≡ g = cc in ap Err same

-- another value where all is done
pub losses_done : {T U : Type 0} (l : Lattice) (sites : ℕ) (cases : List (ℕ × ℕ)) (a b : SinkState) (v : T) (u : U) → PrintsLosses l sites cases a b (Ok v) → PrintsLosses l sites cases a b (Ok u)
losses_done l sites cases a b v u p = record {
  printed = p.printed;
  rest = p.rest;
  in_order = p.in_order;
  text = p.text;
  lines = p.lines;
  part = p.part;
  appends = p.appends;
  whole = p.whole;
  quiet = tt;
  cut = λ e. absurd (done_never u failure.Output e);
  flushed = λ differs. p.flushed (done_never v failure.Output);
}

-- after a failure nothing is printed of further cases
pub losses_stopped : {T U : Type 0} (l : Lattice) (sites : ℕ) (xs ys : List (ℕ × ℕ)) (a b : SinkState) (f : Failure) → PrintsLosses {T = T} l sites xs a b (Err f) → PrintsLosses {T = U} l sites (xs ++ ys) a b (Err f)
losses_stopped l sites xs ys a b f p = record {
  printed = p.printed;
  rest = p.rest ++ ys;
  in_order = ap (λ (zs : List (ℕ × ℕ)). zs ++ ys) p.in_order ∙ append_assoc p.printed p.rest ys;
  text = p.text;
  lines = p.lines;
  part = p.part;
  appends = p.appends;
  whole = tt;
  quiet = p.quiet;
  cut = λ e. let c = p.cut (other_err f failure.Output e) in record {
    next = c.next;
    others = c.others ++ ys;
    is_next = ap (λ (zs : List (ℕ × ℕ)). zs ++ ys) c.is_next;
    loss = c.loss;
    is = c.is;
    cut = c.cut;
    too_long = c.too_long;
  };
  flushed = λ differs. p.flushed (λ e. differs (other_err f failure.Output e));
}

pub losses_failed : {T U : Type 0} (l : Lattice) (sites : ℕ) (cases : List (ℕ × ℕ)) (a b : SinkState) (f : Failure) → PrintsLosses {T = T} l sites cases a b (Err f) → PrintsLosses {T = U} l sites cases a b (Err f)
losses_failed {U = U} l sites cases a b f p =
    subst (λ (zs : List (ℕ × ℕ)). PrintsLosses {T = U} l sites zs a b (Err f)) (append-nil cases) (losses_stopped l sites cases [] a b f p)

-- ---- two lists of cases

-- the space that is left after both texts
room_then : (a b c : SinkState) (t u : List ℕ) → LeavesRoom a b t → LeavesRoom b c u → LeavesRoom a c (t ++ u)
room_then a b c t u first second room revealed enough =
    let both = length-append t u in
    let l = first room revealed (omega arith) in
    let le = l.2 in
    let m = second l.0 l.1 (omega arith) in
    let me = m.2 in
    (m.0, m.1, omega arith)

left_then : {T : Type 0} (a b c : SinkState) (t u : List ℕ) (result : Result T Failure) → LeavesRoom a b t → OnOk result (LeavesRoom b c u) → OnOk result (LeavesRoom a c (t ++ u))
left_then a b c t u (Ok v) first second = room_then a b c t u first second
left_then a b c t u (Err f) first second = tt

cut_then : (l : Lattice) (sites : ℕ) (rest : List (ℕ × ℕ)) (a b : SinkState) (t u part : List ℕ) → LeavesRoom a b t → IsCutLine l sites rest b u part → IsCutLine l sites rest a (t ++ u) part
cut_then l sites rest a b t u part first c =
    let line = loss_line c.next c.loss in
    let all : length ((t ++ u) ++ line) ≡ length t + length (u ++ line) = ap length (append_assoc t u line) ∙ length-append t (u ++ line) in
    record {
      next = c.next;
      others = c.others;
      is_next = c.is_next;
      loss = c.loss;
      is = c.is;
      cut = c.cut;
      too_long = λ room revealed. elim (cases_lt room (length t)) [
        | inl short ↦ omega arith
        | inr enough ↦ let m = first room revealed enough in let me = m.2 in let more = c.too_long m.0 m.1 in omega arith
      ];
    }

flushed_then : (xs ys : List (ℕ × ℕ)) (a b c : SinkState) → ((xs ≡ []) × (b ≡ a)) ⊎ IsFlushed b → ((ys ≡ []) × (c ≡ b)) ⊎ IsFlushed c → ((xs ++ ys ≡ []) × (c ≡ a)) ⊎ IsFlushed c
flushed_then xs ys a b c first (inr flushed) = inr flushed
flushed_then xs ys a b c (inr flushed) (inl second) = inr (subst IsFlushed (sym second.1) flushed)
flushed_then xs ys a b c (inl first) (inl second) = inl (rw (first.0, second.0), second.1 ∙ first.1)

module _ {T U : Type 0} (l : Lattice) (sites : ℕ) (xs ys : List (ℕ × ℕ)) (a b c : SinkState) (v : T) (result : Result U Failure) where
  both_print : (p : PrintsLosses l sites xs a b (Ok v)) → LeavesRoom a b p.text → PrintsLosses l sites ys b c result → PrintsLosses l sites (xs ++ ys) a c result
  both_print p left q =
      let all : xs ≡ p.printed = p.in_order ∙ ap (λ (zs : List (ℕ × ℕ)). p.printed ++ zs) p.whole.0 ∙ append-nil p.printed in
      let same : p.text ++ p.part ≡ p.text = ap (λ (zs : List ℕ). p.text ++ zs) p.whole.1 ∙ append-nil p.text in
      let appended : Appends a.written b.written p.text = subst (λ (zs : List ℕ). Appends a.written b.written zs) same p.appends in
      record {
        printed = p.printed ++ q.printed;
        rest = q.rest;
        in_order = ap (λ (zs : List (ℕ × ℕ)). zs ++ ys) all ∙ ap (λ (zs : List (ℕ × ℕ)). p.printed ++ zs) q.in_order ∙ sym (append_assoc p.printed q.printed q.rest);
        text = p.text ++ q.text;
        lines = lines_then l sites p.printed q.printed p.text q.text p.lines q.lines;
        part = q.part;
        appends = subst (λ (zs : List ℕ). Appends a.written c.written zs) (sym (append_assoc p.text q.text q.part)) (Appends-trans a.written b.written c.written p.text (q.text ++ q.part) appended q.appends);
        whole = q.whole;
        quiet = q.quiet;
        cut = λ e. cut_then l sites q.rest a b p.text q.text q.part left (q.cut e);
        flushed = λ differs. flushed_then p.printed q.printed a b c (p.flushed (done_never v failure.Output)) (q.flushed differs);
      }

  -- the lines of some cases are put, and then those of others
  pub puts_then : PutsLosses l sites xs a b (Ok v) → PutsLosses l sites ys b c result → PutsLosses l sites (xs ++ ys) a c result
  unfolding both_print
  puts_then first second =
      let same : b.faults ≡ a.faults = first.still (done_never v failure.Output) in
      record {
        prints = both_print first.prints first.left second.prints;
        kinds = second.kinds;
        left = left_then a b c first.prints.text second.prints.text result first.left second.left;
        kept = omega (arith, first.kept, second.kept);
        cause = λ e. subst (λ (n : ℕ). Rose n c.faults) same (second.cause e);
        still = λ differs. second.still differs ∙ same;
      }

-- after a failure no further line is put
pub puts_stopped : {T U : Type 0} (l : Lattice) (sites : ℕ) (xs ys : List (ℕ × ℕ)) (a b : SinkState) (f : Failure) → PutsLosses {T = T} l sites xs a b (Err f) → PutsLosses {T = U} l sites (xs ++ ys) a b (Err f)
puts_stopped l sites xs ys a b f first = record {
  prints = losses_stopped l sites xs ys a b f first.prints;
  kinds = first.kinds;
  left = tt;
  kept = first.kept;
  cause = λ e. first.cause (other_err f failure.Output e);
  still = λ differs. first.still (λ e. differs (other_err f failure.Output e));
}

-- ---- no case, and one

pub puts_none : {T : Type 0} (l : Lattice) (sites : ℕ) (a : SinkState) (v : T) → PutsLosses l sites [] a a (Ok v)
puts_none l sites a v = record {
  prints = record {
    printed = [];
    rest = [];
    in_order = refl;
    text = [];
    lines = refl;
    part = [];
    appends = Appends-nil a.written;
    whole = (refl, refl);
    quiet = tt;
    cut = λ e. absurd (done_never v failure.Output e);
    flushed = λ differs. inl (refl, refl);
  };
  kinds = tt;
  left = λ room revealed enough. (room, revealed, omega arith);
  kept = omega arith;
  cause = λ e. absurd (done_never v failure.Output e);
  still = λ differs. refl;
}

memory_not_output : {T : Type 0} → ◌≡◌ {A = Result T Failure} (Err failure.Memory) (Err failure.Output) → ⊥
memory_not_output e = let same : failure.Memory ≡ failure.Output = cc in cc

-- memory ran out for the first case
pub puts_unbegun : {T : Type 0} (l : Lattice) (sites : ℕ) (cases : List (ℕ × ℕ)) (a : SinkState) → PutsLosses {T = T} l sites cases a a (Err failure.Memory)
puts_unbegun l sites cases a = record {
  prints = record {
    printed = [];
    rest = cases;
    in_order = refl;
    text = [];
    lines = refl;
    part = [];
    appends = Appends-nil a.written;
    whole = tt;
    quiet = λ differs. refl;
    cut = λ e. absurd (memory_not_output e);
    flushed = λ differs. inl (refl, refl);
  };
  kinds = inr refl;
  left = tt;
  kept = omega arith;
  cause = λ e. absurd (memory_not_output e);
  still = λ differs. refl;
}

module _ (l : Lattice) (sites : ℕ) (q : ℕ × ℕ) (loss : SiteLoss) (is : IsCaseLoss l sites q loss) {T U E : Type 0} (a b : SinkState) where
  -- the output failed in the line
  pub puts_cut : {e : E} → Prints {T = T} a [] b [] (Err e) (loss_line q loss) → PutsLosses {T = U} l sites (q ∷ []) a b (Err failure.Output)
  puts_cut prints =
      let line = loss_line q loss in
      let sent = prints.bytes in
      record {
        prints = record {
          printed = [];
          rest = q ∷ [];
          in_order = refl;
          text = [];
          lines = refl;
          part = take sent.0 line;
          appends = sent.2;
          whole = tt;
          quiet = λ differs. absurd (differs refl);
          cut = λ e. record {
            next = q;
            others = [];
            is_next = refl;
            loss = loss;
            is = is;
            cut = (sent.0, sent.1, refl);
            too_long = λ room revealed. elim (cases_lt room (length line)) [
              | inl short ↦ short
              | inr enough ↦ absurd (false≢true (prints.fits room revealed enough))
            ];
          };
          flushed = λ differs. absurd (differs refl);
        };
        kinds = inl refl;
        left = tt;
        kept = prints.cause.kept;
        cause = λ e. prints.cause.rose;
        still = λ differs. absurd (differs refl);
      }

  -- the line is put
  pub puts_line : {v : T} (u : U) → IsFlushed b → Prints {E = E} a [] b [] (Ok v) (loss_line q loss) → PutsLosses l sites (q ∷ []) a b (Ok u)
  puts_line u flushed prints =
      let line = loss_line q loss in
      record {
        prints = record {
          printed = q ∷ [];
          rest = [];
          in_order = refl;
          text = line;
          lines = one_line l sites q loss is;
          part = [];
          appends = subst (λ (zs : List ℕ). Appends a.written b.written zs) (sym (append-nil line)) (printed_all prints);
          whole = (refl, refl);
          quiet = tt;
          cut = λ e. absurd (done_never u failure.Output e);
          flushed = λ differs. inr flushed;
        };
        kinds = tt;
        left = λ room revealed enough. let m = prints.left room revealed enough in let me = m.2 in (m.0, m.1, omega arith);
        kept = prints.cause.kept;
        cause = λ e. absurd (done_never u failure.Output e);
        still = λ differs. prints.cause.still;
      }
