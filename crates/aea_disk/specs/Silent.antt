-- A disk of which nothing is known but its count of faults.
use Rattle.std.specs.Prelude.{ℕ, []}
use Rattle.aea_disk.specs.State.{State, no_lent}

abbrev pub silent_state : ℕ → State
silent_state faults = record { files = λ f. []; moment = 0; image = λ t c. ⊥; faults = faults; room = λ f n. ⊥; beneath = faults; takes = λ f b at. Unit {0}; keeps = λ b. Unit {0}; free = Unit {0}; lent = no_lent }
