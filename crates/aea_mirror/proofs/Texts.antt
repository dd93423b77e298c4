-- The text that a Mirror keeps: how it goes on from call to call, and that no call that is taken meets it.
use Rattle.std.proofs.Common.{◌≡◌, ◌≢◌, ◌⊎◌, ⊎_elim, ◌<◌, ◌≤◌, ◌+◌, ◌-◌, ℕ, zero, suc, true, false, List, length, take, drop, get_or, refl, sym, ◌∙◌, ap, subst, arith}
use Rattle.std.specs.Int.{w32, from_be_bytes}
use Rattle.std.proofs.lemmas.List.{get_or-take, length-take, take-take, drop-take}
use Rattle.aea_disk.specs.Files.{Torn, Holds}
use Rattle.aea_disk.specs.Steps.{overwritten_torn, torn_front}
use Rattle.aea_disk.specs.Ends.{Reaches, EndsAt, IsBare, behind, number_at, copied_end, greatest_place}
use Rattle.aea_disk.specs.State.{State}
use Rattle.aea_mirror.specs.Ending.{reaches_le}
use Rattle.aea_mirror.specs.Mirrored.{Kept, HoldsText, Takes}

-- the number at a place is that of a file with the same bytes up to its end
number_same : (old new : List ℕ) (end at : ℕ) → take end new ≡ take end old → at + 4 ≤ end → number_at new at ≡ number_at old at
number_same old new end at same within = ap (from_be_bytes w32) (take_drop_same old new end at same within)
  where
    take_drop_same : (old new : List ℕ) (end at : ℕ) → take end new ≡ take end old → at + 4 ≤ end → take 4 (drop at new) ≡ take 4 (drop at old)
    take_drop_same old new end at same within = inside new ∙ ap (λ (l : List ℕ). take 4 (drop at l)) same ∙ sym (inside old)
      where
        inside : (l : List ℕ) → take 4 (drop at l) ≡ take 4 (drop at (take end l))
        inside l =
            sym (take-take 4 (end - at) (drop at l) (omega (arith, within)))
            ∙ ap (take 4) (sym (drop-take at (end - at) l) ∙ ap (λ (n : ℕ). drop at (take n l)) (omega (arith, within)))

-- the records up to a place are those of a file with the same bytes before it
pub reaches_same : (old new : List ℕ) (end : ℕ) → end < length new → end < length old → take end new ≡ take end old → (before k from : ℕ) → Reaches old before k from end → Reaches new before k from end
reaches_same old new end long was same before zero from is = is
reaches_same old new end long was same before (suc k) from is =
    let le = reaches_le old (suc before) k (behind old from) end is.1 in
    let number = number_same old new end (from + 2) same (omega (arith, le)) in
    let there : behind new from ≡ behind old from = ap (λ (n : ℕ). from + 6 + n) number in
    let gate : get_or new from 0 ≡ get_or old from 0 = sym (get_or-take end new from 0 (omega (arith, le))) ∙ ap (λ (l : List ℕ). get_or l from 0) same ∙ get_or-take end old from 0 (omega (arith, le)) in (
      record {
        opened = gate ∙ is.0.opened;
        short = let s = is.0.short in omega (arith, number, s);
        followed = omega (arith, there, le, long);
        near = subst (λ (n : ℕ). copied_end (before + 2) n ≤ greatest_place) (sym there) is.0.near;
      },
      subst (λ (g : ℕ). Reaches new (suc before) k g end) (sym there) (reaches_same old new end long was same (suc before) k (behind old from) is.1),
    )

-- records that end at a gate that is not open go past each gate on the way
pub reaches_past : (b : List ℕ) (before j k from mid last : ℕ) → Reaches b before j from mid → Reaches b before k from last → get_or b last 0 ≢ 1 → mid ≤ last
reaches_past b before zero k from mid last here is shut = let le = reaches_le b before k from last is in omega (arith, le, here)
reaches_past b before (suc j) zero from mid last here is shut = absurd (shut (ap (λ (g : ℕ). get_or b g 0) (sym is) ∙ here.0.opened))
reaches_past b before (suc j) (suc k) from mid last here is shut = reaches_past b (suc before) j k (behind b from) mid last here.1 is.1 shut

-- a call that is taken does not begin before the end of the kept text
pub taken_after : (reveals : Type 0) (s : State) (kept : Kept) (at : ℕ) → Takes reveals s kept 0 (s.files 0) at → kept.on ≡ true → kept.end ≤ at
taken_after reveals s kept at takes on =
    let text = takes.sound.text on in
    ⊎_elim (λ (off : kept.on ≡ false). absurd (cc))
    (λ (rest : IsBare (s.files 0) ⊎ ((last : ℕ) × EndsAt (s.files 0) last × (0 ≡ 0 → last ≤ at))).
    ⊎_elim
    (λ (bare : IsBare (s.files 0)). ⊎_elim (λ (short : length (s.files 0) < 18). absurd (omega (arith, short, text.long))) (λ (shut : get_or (s.files 0) 0 0 ≢ 1). absurd (shut text.header)) bare)
    (λ (ends : (last : ℕ) × EndsAt (s.files 0) last × (0 ≡ 0 → last ≤ at)).
    let past = reaches_past (s.files 0) 0 text.records ends.1.records 17 kept.end ends.0 text.reaches ends.1.reaches ends.1.shut in
    let before = ends.2 refl in
    omega (arith, past, before))
    rest) takes.allowed

-- the text stays where the bytes before its end do
pub text_same : (end : ℕ) (old new : List ℕ) → HoldsText end old → end < length new → take end new ≡ take end old → HoldsText end new
text_same end old new text there same =
    let from = text.from in
    record {
      header = sym (get_or-take end new 0 0 (omega (arith, from))) ∙ ap (λ (l : List ℕ). get_or l 0 0) same ∙ get_or-take end old 0 0 (omega (arith, from)) ∙ text.header;
      long = omega (arith, from, there);
      from = text.from;
      records = text.records;
      reaches = reaches_same old new end there text.there same 0 text.records 17 text.reaches;
      there = there;
    }

-- a write past it leaves it
pub text_written : (end at : ℕ) (bytes old new : List ℕ) → end ≤ at → HoldsText end old → Holds at bytes old new → HoldsText end new
text_written end at bytes old new past text holds =
    let torn : Torn at (length bytes) old new = subst (Torn at (length bytes) old) (sym holds) (overwritten_torn at bytes old) in
    let there = text.there in
    let longer = torn.no_shorter in
    text_same end old new text (omega (arith, there, longer)) (torn_front at (length bytes) old new end past (omega (arith, there)) torn)

-- and a cut past it
pub text_cut : (end len : ℕ) (old new : List ℕ) → end < len → HoldsText end old → new ≡ take len old → HoldsText end new
text_cut end len old new past text cut =
    let there = text.there in
    text_same end old new text (omega (arith, ap length cut, length-take len old, there, past)) (ap (take end) cut ∙ take-take end len old (omega (arith, past)))
