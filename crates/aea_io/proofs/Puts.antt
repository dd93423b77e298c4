-- What is on a sink after several puts: the facts of one put from the facts of its parts.
use Rattle.std.proofs.Common.{ℕ, ◌+◌, ◌-◌, List, ◌++◌, Option, Some, Result, Ok, Err, length, take, ap, sym, ◌∙◌, subst, arith}
use Rattle.std.proofs.Math.Seq.{take-append-add}
use Rattle.std.proofs.lemmas.List.{take-append-le, take_all, length-append}
use Rattle.std.specs.Io.KnownBytes.{Appends, Keeps}
use Rattle.std.proofs.KnownBytes.{Appends-nil, Appends-trans, Appends-kept}
use Rattle.aea_io.specs.Streams.{SinkState}
use Rattle.aea_io.specs.Written.{AppendsPart, PutsAll, PutsInRoom}

-- nothing was appended
pub AppendsPart-none : (a : Option (List ℕ)) (bytes : List ℕ) → AppendsPart a a bytes
AppendsPart-none a bytes = (0, omega arith, Appends-nil a)

-- all was appended
pub AppendsPart-all : (a b : Option (List ℕ)) (bytes : List ℕ) → Appends a b bytes → AppendsPart a b bytes
AppendsPart-all a b bytes all = (length bytes, omega arith, subst (Appends a b) (sym (take_all (length bytes) bytes (omega arith))) all)

-- a part of the first piece is a part of both
pub AppendsPart-first : (a b : Option (List ℕ)) (xs ys : List ℕ) → AppendsPart a b xs → AppendsPart a b (xs ++ ys)
AppendsPart-first a b xs ys part =
    (part.0, simp length-append (omega (arith, part.1)), subst (Appends a b) (sym (take-append-le part.0 xs ys part.1)) part.2)

-- the first piece, and then a part of the second, is a part of both
pub AppendsPart-then : (a b c : Option (List ℕ)) (xs ys : List ℕ) → Appends a b xs → AppendsPart b c ys → AppendsPart a c (xs ++ ys)
AppendsPart-then a b c xs ys all part =
    (length xs + part.0, simp length-append (omega (arith, part.1)), subst (Appends a c) (sym (take-append-add xs ys part.0)) (Appends-trans a b c xs (take part.0 ys) all part.2))

-- what was appended stays where nothing more is
pub AppendsPart-kept : (a b c : Option (List ℕ)) (bytes : List ℕ) → AppendsPart a b bytes → Keeps b c → AppendsPart a c bytes
AppendsPart-kept a b c bytes part keeps = (part.0, part.1, Appends-kept a b c (take part.0 bytes) part.2 keeps)

-- a put of either kind appended a part
pub AppendsPart-puts : {T E : Type 0} (a b : Option (List ℕ)) (result : Result T E) (bytes : List ℕ) → PutsAll a b result bytes → AppendsPart a b bytes
AppendsPart-puts a b (Ok x) bytes puts = AppendsPart-all a b bytes puts
AppendsPart-puts a b (Err e) bytes puts = puts

-- the first piece, and then a put of the second, is a put of both
pub PutsAll-then : {T E : Type 0} (a b c : Option (List ℕ)) (result : Result T E) (xs ys : List ℕ) → Appends a b xs → PutsAll b c result ys → PutsAll a c result (xs ++ ys)
PutsAll-then a b c (Ok x) xs ys all puts = Appends-trans a b c xs ys all puts
PutsAll-then a b c (Err e) xs ys all puts = AppendsPart-then a b c xs ys all puts

-- with enough space for both pieces the second follows the first without a fault
pub PutsInRoom-then : {T S E F : Type 0} {a b c : SinkState} {one : T} {result : Result S F} {xs ys : List ℕ} → PutsInRoom {T = T} {E = E} a b (Ok one) xs → PutsInRoom b c result ys → PutsInRoom a c result (xs ++ ys)
PutsInRoom-then {xs} {ys} first then =
    let whole = length-append xs ys in
    record {
      fits = λ room revealed enough. then.fits (room - length xs) (first.left room revealed (omega arith)) (omega arith);
      left = λ room revealed enough. then.left (room - length xs) (first.left room revealed (omega arith)) (omega arith) ∙ ap Some (omega arith);
      steady = λ room revealed enough. then.steady (room - length xs) (first.left room revealed (omega arith)) (omega arith) ∙ first.steady room revealed (omega arith);
    }
