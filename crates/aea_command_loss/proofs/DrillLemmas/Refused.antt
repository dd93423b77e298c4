-- Why a damage list is refused.
use Rattle.std.proofs.Common.{◌≡◌, ℕ, ◌-◌, ◌<◌, ◌≤◌, List, [], get_or, take, length, arith, refl, ◌∙◌, ap, subst, Option, Some, None}
use Rattle.std.specs.Prelude.{IsSome, unwrap_or, All}
use Rattle.std.proofs.lemmas.List.{get_or-take, length-take}
use Rattle.std.proofs.lemmas.Option.{slice_get_within, get_or_from_slice_get}
use Rattle.std.proofs.lemmas.Bool.{false≢true}
use Rattle.aea_lattice.specs.declared.grid.Lattice.{Lattice}
use Rattle.aea_command.specs.declared.refusal.Refusal.{Refusal}
use Rattle.aea_command.specs.declared.refusal.Refusal.TheVariants.{InputTooLong, BadBlock}
use Rattle.aea_command.specs.Lines.{lines_of}
use Rattle.aea_command.specs.Causes.{place_of, IsFirst}
use Rattle.aea_command_loss.specs.Drill.{greatest_input, DamageCauses, IsAccepted, IsFirstBad, NamesBlock}

-- what is known
pub revealed_is : (o : Option (List ℕ)) → IsSome o → o ≡ Some (unwrap_or o [])
revealed_is None some = absurd (false≢true some)
revealed_is (Some bytes) some = refl

-- a line that is bad names no block, so not all lines up to it do
bad_line : (l : Lattice) (text : List ℕ) (j k : ℕ) → IsFirstBad l text j → j ≤ k - 1 → All (NamesBlock l) (take (k - 1) (lines_of text)) → ⊥
bad_line l text j k first before all =
    let bad = first.bad in
    let counted = first.counted in
    let lines = lines_of text in
    let within : j - 1 < length lines = slice_get_within lines (j - 1) bad.0 bad.1 in
    let at_line : get_or (take (k - 1) lines) (j - 1) bad.0 ≡ bad.0 = get_or-take (k - 1) lines (j - 1) bad.0 (omega arith) ∙ get_or_from_slice_get lines (j - 1) bad.0 bad.0 bad.1 in
    bad.2 (subst (NamesBlock l) at_line (all (j - 1) bad.0 (omega (arith, length-take (k - 1) lines))))

-- a list has one first bad line
bad_once : (l : Lattice) (text : List ℕ) (j k : ℕ) → IsFirstBad l text j → IsFirstBad l text k → j ≡ k
bad_once l text j k one two =
    let a : (j ≤ k - 1 → ⊥) = λ before. bad_line l text j k one before two.before in
    let b : (k ≤ j - 1 → ⊥) = λ before. bad_line l text k j two before one.before in
    let c = one.counted in
    let d = two.counted in
    omega arith

-- an accepted list is not refused
pub accepted_not_refused : (l : Lattice) (input : List ℕ) (why : Refusal) → IsAccepted l input → DamageCauses l input why → ⊥
accepted_not_refused l input InputTooLong accepted refused = let short = accepted.0 in omega arith
accepted_not_refused l input (BadBlock k) accepted refused =
    let bad = refused.bad in
    let lines = lines_of input in
    let at_line : get_or lines (k - 1) bad.0 ≡ bad.0 = get_or_from_slice_get lines (k - 1) bad.0 bad.0 bad.1 in
    bad.2 (subst (NamesBlock l) at_line (accepted.1 (k - 1) bad.0 (slice_get_within lines (k - 1) bad.0 bad.1)))
accepted_not_refused l input why accepted refused = refused

-- a list has one first cause
pub one_cause : (l : Lattice) (input : List ℕ) (a b : Refusal) → IsFirst (DamageCauses l input) a → IsFirst (DamageCauses l input) b → a ≡ b
one_cause l input InputTooLong InputTooLong x y = refl
one_cause l input InputTooLong (BadBlock k) x y = absurd (y.none InputTooLong (omega arith) x.stands)
one_cause l input (BadBlock j) InputTooLong x y = absurd (x.none InputTooLong (omega arith) y.stands)
one_cause l input (BadBlock j) (BadBlock k) x y = ap BadBlock (bad_once l input j k x.stands y.stands)
one_cause l input InputTooLong b x y = absurd y.stands
one_cause l input (BadBlock j) b x y = absurd y.stands
one_cause l input a b x y = absurd x.stands

none_before_long : (l : Lattice) (input : List ℕ) (other : Refusal) → place_of other < place_of InputTooLong → DamageCauses l input other → ⊥
none_before_long l input InputTooLong before cause = omega arith
none_before_long l input (BadBlock k) before cause = omega arith
none_before_long l input other before cause = cause

none_before_bad : (l : Lattice) (input : List ℕ) → length input ≤ greatest_input → (other : Refusal) → place_of other < place_of (BadBlock 0) → DamageCauses l input other → ⊥
none_before_bad l input short InputTooLong before cause = omega arith
none_before_bad l input short (BadBlock k) before cause = omega arith
none_before_bad l input short other before cause = cause

-- a list that is too long
pub long_first : (l : Lattice) (input : List ℕ) → greatest_input < length input → IsFirst (DamageCauses l input) InputTooLong
long_first l input long = record { stands = long; none = none_before_long l input }

-- a list that is not, and has a bad line
pub bad_first : (l : Lattice) (input : List ℕ) (k : ℕ) → length input ≤ greatest_input → IsFirstBad l input k → IsFirst (DamageCauses l input) (BadBlock k)
bad_first l input k short bad = record { stands = bad; none = none_before_bad l input short }
