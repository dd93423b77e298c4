-- Closes, one after the other, and what is kept of each.
use Rattle.std.proofs.Common.{List, [], ◌∷◌, ◌++◌, sym, ◌∙◌, ap, subst, append_assoc}
use Rattle.std.specs.Prelude.{sum_by}
use Rattle.std.specs.FinMap.{insert}
use Rattle.std.proofs.lemmas.List.{append-nil}
use Rattle.aea_lattice.specs.declared.grid.Lattice.{Lattice}
use Rattle.aea_records.specs.Catalogued.{first_of}
use Rattle.aea_machine.specs.Machine.{step, after, runs_of}
use Rattle.aea_machine.specs.Closings.{Closing, closing_in, closings_of, AreClosedRecords, ClosedArePlaced, ClosingsGoOn, ClosedRecordsJoin}

pub closed-placed : ClosedArePlaced
closed-placed objects name bytes nodes o named long hashed =
    λ i. insert objects (named i) (record { object = record { first = first_of (runs_of nodes); count = sum_by (λ e. e.count) (runs_of nodes); length = long i; digest = hashed i }; parts = runs_of nodes })

pub closings-go-on : ClosingsGoOn
closings-go-on shape m [] message = append-nil (closing_in shape m message)
closings-go-on shape m (first ∷ messages) message =
    ap (λ (l : List Closing). closing_in shape m first ++ l) (closings-go-on shape (step shape m first).state messages message)
    ∙ sym (append_assoc (closing_in shape m first) (closings_of shape (step shape m first).state messages) (closing_in shape (after shape (step shape m first).state messages) message))

pub records-join : ClosedRecordsJoin
records-join shape l m k payload [] ys [] ss first second = subst (λ (n : Lattice). AreClosedRecords shape n k payload ys ss) (sym first) second
records-join shape l m k payload [] ys (r ∷ rs) ss first second = absurd first
records-join shape l m k payload (x ∷ xs) ys [] ss first second = absurd first
records-join shape l m k payload (x ∷ xs) ys (r ∷ rs) ss first second =
    (first.0, first.1, first.2, first.3, records-join shape first.0 m k payload xs ys rs ss first.4 second)
