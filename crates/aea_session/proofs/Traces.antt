-- Laws of messages that were taken one after the other.
use Rattle.std.proofs.Common.{ℕ, List, [], ◌∷◌, ◌++◌, refl, sym, ◌∙◌, ap, subst, append_assoc}
use Rattle.aea_lattice.specs.declared.shape.Shape.{Shape}
use Rattle.aea_disk.specs.State.{State, IsFixed}
use Rattle.aea_machine.specs.Machine.{Machine, step, after}
use Rattle.aea_session.specs.declared.work.Work.{Work}
use Rattle.aea_session.specs.Stands.{KeepsMachine, StandsFor, IsTheSessions}
use Rattle.aea_session.specs.Serving.{HasServed}
use Rattle.aea_session.specs.Traces.{ServedAreAfter, ServedInTwo, ServedAsOne}

module _ (reveals : Type 0) {D : Type 0} (state : D → State) where
  pub served_after : ServedAreAfter reveals state
  served_after m v w d e [] bytes keeps served = record {
    keeps = subst (λ (x : Work). KeepsMachine x m) (sym served.0) keeps;
    stands = λ stood. subst (λ (x : Work). StandsFor x m) (sym served.0) stood;
    shape = ap (λ (x : Work). x.ledger.shape) served.0;
    live = λ was. ap (λ (x : Work). x.ledger.live) served.0 ∙ was;
    this = λ was reveal. subst (λ (x : Work). IsTheSessions x (state e).files) (sym served.0) (subst (λ (x : D). IsTheSessions v (state x).files) (sym served.1) (was reveal));
    fixed = λ was reveal. subst (λ (x : D). IsFixed (state x) 0) (sym served.1) (was reveal);
  }
  served_after m v w d e (message ∷ messages) bytes keeps served =
      let u : Work = served.0 in
      let n : Machine = (step v.ledger.shape m message).state in
      let moves = served.5.moves in
      let rest = served_after n u w served.1 e messages served.4 (moves.keeps m keeps) served.7 in
      record {
        keeps = subst (λ (s : Shape). KeepsMachine w (after s n messages)) moves.shape rest.keeps;
        stands = λ stood. subst (λ (s : Shape). StandsFor w (after s n messages)) moves.shape (rest.stands (moves.stands m keeps stood));
        shape = rest.shape ∙ moves.shape;
        live = λ _. rest.live moves.live;
        this = λ _. rest.this moves.this;
        fixed = λ _. rest.fixed moves.fixed;
      }

  pub served_parts : ServedInTwo reveals state
  served_parts m v w d e [] late bytes served = (v, d, [], bytes, refl, (refl, refl, refl), served)
  served_parts m v w d e (message ∷ early) late bytes served =
      let n : Machine = (step v.ledger.shape m message).state in
      let rest = served_parts n served.0 w served.1 e early late served.4 served.7 in (
        rest.0,
        rest.1,
        served.3 ++ rest.2,
        rest.3,
        served.6 ∙ ap (λ (l : List ℕ). served.3 ++ l) rest.4 ∙ sym (append_assoc served.3 rest.2 rest.3),
        (served.0, served.1, served.2, served.3, rest.2, served.5, refl, rest.5),
        subst (λ (s : Shape). HasServed reveals state (after s n early) rest.0 rest.1 late rest.3 w e) served.5.moves.shape rest.6,
      )

  pub served_joined : ServedAsOne reveals state
  served_joined m v u w d f e [] late first second one two =
      subst (λ (l : List ℕ). HasServed reveals state m v d late (l ++ second) w e) (sym one.2)
      (subst (λ (x : D). HasServed reveals state m v x late second w e) one.1
      (subst (λ (x : Work). HasServed reveals state m x f late second w e) one.0 two))
  served_joined m v u w d f e (message ∷ early) late first second one two =
      let n : Machine = (step v.ledger.shape m message).state in (
        one.0,
        one.1,
        one.2,
        one.3,
        one.4 ++ second,
        one.5,
        ap (λ (l : List ℕ). l ++ second) one.6 ∙ append_assoc one.3 one.4 second,
        served_joined n one.0 u w one.1 f e early late one.4 second one.7
            (subst (λ (s : Shape). HasServed reveals state (after s n early) u f late second w e) (sym one.5.moves.shape) two),
      )
